-- Words that are channels, as they are gone along.
use Rattle.std.proofs.Common.{◌≡◌, ℕ, suc, ◌+◌, ◌-◌, ◌<◌, ◌≤◌, Bool, true, false, not, ◌&&◌, List, [], ◌∷◌, Option, None, Some, refl, ap, sym, ◌∙◌, arith}
use Rattle.std.specs.Prelude.{is_some}
use Rattle.std.specs.Borrow.{Bor}
use Rattle.session_numbers.specs.Numbers.{channel_of}
use Rattle.session_calls.specs.Grammar.{channels_up_to}
use Rattle.session_calls.specs.Code.{WordsOf}
use Rattle.session_calls.proofs.Going.{ended, took}

pub none_left : (n : ℕ) → channels_up_to n [] ≡ true
unfolding channels_up_to
none_left n = refl

-- one more, of those that may follow
one_more : (k : ℕ) (w : List ℕ) (ws : List (List ℕ)) → k < 8 → channels_up_to (8 - k) (w ∷ ws) ≡ (is_some (channel_of w) && channels_up_to (8 - (k + 1)) ws)
unfolding channels_up_to
one_more k w ws h = let e : 8 - k ≡ suc (8 - (k + 1)) = omega arith in ap (λ n. channels_up_to n (w ∷ ws)) e

pub no_channel : (k : ℕ) (w : List ℕ) (ws : List (List ℕ)) → k < 8 → is_some (channel_of w) ≡ false → channels_up_to (8 - k) (w ∷ ws) ≡ false
no_channel k w ws h e = one_more k w ws h ∙ ap (λ t. t && channels_up_to (8 - (k + 1)) ws) e

pub channel_on : (k : ℕ) (w : List ℕ) (ws : List (List ℕ)) → k < 8 → is_some (channel_of w) ≡ true
    → channels_up_to (8 - k) (w ∷ ws) ≡ channels_up_to (8 - (k + 1)) ws
channel_on k w ws h e = one_more k w ws h ∙ ap (λ t. t && channels_up_to (8 - (k + 1)) ws) e

-- after the last that may follow
pub at_end : {S : Type 0} (steps : S → Option (Bor (List ℕ)) → S → Type 0) (s t : S) (r : Option (Bor (List ℕ))) (b : Bool) (k : ℕ) (ws : List (List ℕ))
    → 8 ≤ k → WordsOf steps s ws → steps s r t → is_some r ≡ not b → b ≡ channels_up_to (8 - k) ws
unfolding channels_up_to
at_end steps s t None b k ws h w g e = go b e ∙ ap (channels_up_to (8 - k)) (sym (ended steps s t ws w g))
  where
    go : (b : Bool) → false ≡ not b → b ≡ true
    go true e = refl
    go false e = e
at_end steps s t (Some x) b k ws h w g e =
    let n = took steps s t ws x w g in
    let z : 8 - k ≡ 0 = omega arith in
    go b e ∙ ap (λ j. channels_up_to j (x.now ∷ n.rest)) (sym z) ∙ ap (channels_up_to (8 - k)) (sym n.is)
  where
    go : (b : Bool) → true ≡ not b → b ≡ false
    go true e = cc
    go false e = refl
