-- That no line has two rows of a table: a computed test finds, for each two rows, a place where no word fits both, or another number of words.
use Prim.Native.Nat.{ℕ, zero, suc, ◌<◌}
use mathlib.Core.Path.{◌≡◌, refl, sym, ap, ap₂, ◌∙◌}
use mathlib.Core.Bool.{Bool, true, false, cond, not, ◌&&◌, ◌||◌, true≢false, and-eq-true_iff}
use mathlib.Core.List.{List, [], ◌∷◌}
use native.Mathlib.Omega.{arith}
use lib.ListN.{length, get_or}
use lib.Dec.{eqb}
use borrow.Author.Tests.{eqb-true, not-true}
use Rattle.session_words.specs.Bytes.{bytes_of, alike}
use Rattle.session_words.proofs.Lists.{cond-false}
use Rattle.session_calls.specs.Grammar.{many, fits_word, fits}

-- ---- tests

never : {b : Bool} → b ≡ true → b ≡ false → ⊥
never p q = true≢false (sym p ∙ q)

both : (a b : Bool) → (a && b) ≡ true → (a ≡ true) × (b ≡ true)
both a b e = (and-eq-true_iff a b).0 e

either : (a b : Bool) → (a || b) ≡ true → (a ≡ true → ⊥) → (b ≡ true → ⊥) → ⊥
either true b e p q = p refl
either false b e p q = q e

neither : (a b : Bool) → (a || b) ≡ false → (a ≡ false) × (b ≡ false)
neither true b e = absurd (true≢false e)
neither false b e = (refl, e)

-- ---- words

-- words that are alike are the same
same_word : (a b : List ℕ) → alike a b ≡ true → a ≡ b
unfolding alike
same_word [] [] e = refl
same_word [] (y ∷ b) e = absurd (never e refl)
same_word (x ∷ a) [] e = absurd (never e refl)
same_word (x ∷ a) (y ∷ b) e =
    ap₂ (λ (n : ℕ) (l : List ℕ). n ∷ l) (eqb-true x y (both (eqb x y) (alike a b) e).0) (same_word a b (both (eqb x y) (alike a b) e).1)

-- a word of a row that names a kind of number
abbrev pub is_kind : List ℕ → Bool
is_kind a = alike a (bytes_of "CH") || (alike a (bytes_of "INT") || (alike a (bytes_of "BYTE") || alike a (bytes_of "NUM")))

-- any other fits itself alone
fixed : (a w : List ℕ) → is_kind a ≡ false → fits_word a w ≡ alike a w
unfolding fits_word
fixed a w e =
    let p = neither (alike a (bytes_of "CH")) (alike a (bytes_of "INT") || (alike a (bytes_of "BYTE") || alike a (bytes_of "NUM"))) e in
    let q = neither (alike a (bytes_of "INT")) (alike a (bytes_of "BYTE") || alike a (bytes_of "NUM")) p.1 in
    let r = neither (alike a (bytes_of "BYTE")) (alike a (bytes_of "NUM")) q.1 in
    cond-false _ _ p.0 ∙ cond-false _ _ q.0 ∙ cond-false _ _ r.0 ∙ cond-false _ _ r.1

unlike : (a b : List ℕ) → (a ≡ b → ⊥) → alike a b ≡ false
unlike a b h = go (alike a b) (same_word a b)
  where
    go : (t : Bool) → (t ≡ true → a ≡ b) → t ≡ false
    go true f = absurd (h (f refl))
    go false f = refl

-- a word of a row that is none of the four
pub other_word : (a w : List ℕ) → (a ≡ bytes_of "CH" → ⊥) → (a ≡ bytes_of "INT" → ⊥) → (a ≡ bytes_of "BYTE" → ⊥) → (a ≡ bytes_of "NUM" → ⊥)
    → alike a w ≡ fits_word a w
unfolding fits_word
other_word a w no_ch no_int no_byte no_num =
    sym (cond-false _ _ (unlike a _ no_ch) ∙ cond-false _ _ (unlike a _ no_int) ∙ cond-false _ _ (unlike a _ no_byte) ∙ cond-false _ _ (unlike a _ no_num))

-- no word fits both
abbrev pub apart : List ℕ → List ℕ → Bool
apart a b = cond (is_kind a) (cond (is_kind b) false (not (fits_word a b))) (cond (is_kind b) (not (fits_word b a)) (not (alike b a)))

apart_words : (a b w : List ℕ) → apart a b ≡ true → fits_word a w ≡ true → fits_word b w ≡ true → ⊥
apart_words a b w h p q = go (is_kind a) (is_kind b) refl refl h
  where
    is : (x : List ℕ) → is_kind x ≡ false → fits_word x w ≡ true → x ≡ w
    is x k e = same_word x w (sym (fixed x w k) ∙ e)

    go : (s t : Bool) → is_kind a ≡ s → is_kind b ≡ t → cond s (cond t false (not (fits_word a b))) (cond t (not (fits_word b a)) (not (alike b a))) ≡ true → ⊥
    go true true k l e = never e refl
    go true false k l e = never (ap (fits_word a) (is b l q) ∙ p) (not-true _ e)
    go false true k l e = never (ap (fits_word b) (is a k p) ∙ q) (not-true _ e)
    go false false k l e = never (ap (alike b) (is a k p) ∙ sym (fixed b w l) ∙ q) (not-true _ e)

-- ---- rows, as their words

unfoldable pub differ : List (List ℕ) → List (List ℕ) → Bool
differ [] [] = false
differ [] (b ∷ q) = not (alike b many)
differ (a ∷ r) [] = not (alike a many)
differ (a ∷ r) (b ∷ q) = cond (alike a many || alike b many) false (apart a b || differ r q)

not_both : (r q ws : List (List ℕ)) → differ r q ≡ true → fits r ws ≡ true → fits q ws ≡ true → ⊥
unfolding differ fits
not_both [] [] ws e f g = never e refl
not_both [] (b ∷ q) [] e f g = never g (not-true _ e)
not_both [] (b ∷ q) (w ∷ ws) e f g = never f refl
not_both (a ∷ r) [] [] e f g = never f (not-true _ e)
not_both (a ∷ r) [] (w ∷ ws) e f g = never g refl
not_both (a ∷ r) (b ∷ q) ws e f g = go (alike a many || alike b many) refl e ws f g (not_both r q)
  where
    go : (t : Bool) → (alike a many || alike b many) ≡ t → cond t false (apart a b || differ r q) ≡ true
        → (ws : List (List ℕ)) → fits (a ∷ r) ws ≡ true → fits (b ∷ q) ws ≡ true
        → ((ws : List (List ℕ)) → differ r q ≡ true → fits r ws ≡ true → fits q ws ≡ true → ⊥) → ⊥
    go true k h ws f g rest = never h refl
    go false k h [] f g rest = never f (neither (alike a many) (alike b many) k).0
    go false k h (w ∷ ws) f g rest =
        let f2 = both (fits_word a w) (fits r ws) (sym (cond-false _ _ (neither (alike a many) (alike b many) k).0) ∙ f) in
        let g2 = both (fits_word b w) (fits q ws) (sym (cond-false _ _ (neither (alike a many) (alike b many) k).1) ∙ g) in
        either (apart a b) (differ r q) h (λ d. apart_words a b w d f2.0 g2.0) (λ d. rest ws d f2.1 g2.1)

-- ---- a table: each row differs from each later one

unfoldable pub from_all : List (List ℕ) → List (List (List ℕ)) → Bool
from_all r [] = true
from_all r (q ∷ rows) = differ r q && from_all r rows

unfoldable pub all_differ : List (List (List ℕ)) → Bool
all_differ [] = true
all_differ (r ∷ rows) = from_all r rows && all_differ rows

from_later : (r d : List (List ℕ)) (rows : List (List (List ℕ))) (k : ℕ) → k < length rows → from_all r rows ≡ true → differ r (get_or rows k d) ≡ true
unfolding from_all
from_later r d [] k h e = let z : ⊥ = omega arith in absurd z
from_later r d (q ∷ rows) zero h e = (both (differ r q) (from_all r rows) e).0
from_later r d (q ∷ rows) (suc k) h e = from_later r d rows k (omega arith) (both (differ r q) (from_all r rows) e).1

pub one_row_lem : (rows : List (List (List ℕ))) (ws d : List (List ℕ)) → all_differ rows ≡ true → (i j : ℕ) → i < length rows → j < length rows
    → fits (get_or rows i d) ws ≡ true → fits (get_or rows j d) ws ≡ true → i ≡ j
unfolding all_differ
one_row_lem [] ws d e i j h k f g = let z : ⊥ = omega arith in absurd z
one_row_lem (r ∷ rows) ws d e zero zero h k f g = refl
one_row_lem (r ∷ rows) ws d e zero (suc j) h k f g =
    absurd (not_both r (get_or rows j d) ws (from_later r d rows j (omega arith) (both (from_all r rows) (all_differ rows) e).0) f g)
one_row_lem (r ∷ rows) ws d e (suc i) zero h k f g =
    absurd (not_both r (get_or rows i d) ws (from_later r d rows i (omega arith) (both (from_all r rows) (all_differ rows) e).0) g f)
one_row_lem (r ∷ rows) ws d e (suc i) (suc j) h k f g =
    ap suc (one_row_lem rows ws d (both (from_all r rows) (all_differ rows) e).1 i j (omega arith) (omega arith) f g)
