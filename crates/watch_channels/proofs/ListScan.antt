-- The tests of a list of channels as the code makes them, from place to place.
use Prim.Native.Nat.{ℕ, suc, ◌+◌, ◌≤◌, ◌<◌}
use mathlib.Core.Path.{◌≡◌, refl, sym, ap, ap₂, ◌∙◌}
use mathlib.Core.Bool.{true, false, not}
use mathlib.Core.List.{List, ◌∷◌, [], ◌++◌}
use native.Mathlib.Omega.{arith}
use native.Mathlib.Numerals.{add-one}
use lib.Dec.{eqb}
use lib.ListN.{length, drop, take, get_or, length-take}
use lib.Seq.{take-suc, drop-cons, split_at, get_or-take, length-take-le}
use borrow.Author.Tests.{ne_eqb}
use Rattle.refusal.specs.declared.Refusal.{Refusal}
use Rattle.refusal.specs.declared.Refusal.TheVariants.{ListedOutOfRange, ListedAgain, ListedServing}
use Rattle.refusal.specs.Told.{Told, refused_for}
use Rattle.refusal.proofs.Provided.{refuse_now, refuse_later}
use Rattle.readings_rules.specs.Channels.{channel_in_range}
use Rattle.watch_rules.specs.Lists.{mem}
use Rattle.watch_rules.specs.Rules.{unless_faulty_at, unless_faulty_from}
use Rattle.watch_rules.proofs.Reach.{mem_middle}
use Rattle.watch_record.proofs.Scan.{mem-append}

module _ (l : List ℕ) (i : ℕ) (inside : i < length l) where
  pub more : take (i + 1) l ≡ take i l ++ get_or l i 0 ∷ []
  more = ap (λ (k : ℕ). take k l) (add-one i) ∙ take-suc l i 0 inside

  pub mem_more : (c : ℕ) → mem c (take i l) ≡ false → (get_or l i 0 ≡ c → ⊥) → mem c (take (i + 1) l) ≡ false
  mem_more c e h = ap (mem c) more ∙ mem-append c (take i l) (get_or l i 0 ∷ []) ∙ rw (e, ne_eqb (get_or l i 0) c h)

pub mem_at : (l : List ℕ) (i n c : ℕ) → i < n → n ≤ length l → get_or l i 0 ≡ c → mem c (take n l) ≡ true
mem_at l i n c h g e =
    let k : i < length (take n l) = omega (arith, length-take n l) in
    let q : get_or (take n l) i 0 ≡ c = get_or-take n l i 0 h ∙ e in
    ap (mem c) (split_at (take n l) i 0 k)
    ∙ ap (λ (x : ℕ). mem c (take i (take n l) ++ x ∷ drop (suc i) (take n l))) q
    ∙ mem_middle c (take i (take n l)) (drop (suc i) (take n l))

-- ---- from place to place

module _ (s : ℕ) (l : List ℕ) (i : ℕ) (inside : i < length l) (a : Told Unit) where
  -- what is left of the walk from the place i on
  abbrev left : Told Unit
  left = unless_faulty_from s (take i l) (drop i l) a

  -- there stands the channel of this place, behind i others
  at_place : left ≡ unless_faulty_at s (take i l) (get_or l i 0) (unless_faulty_from s (take (i + 1) l) (drop (i + 1) l) a)
  at_place =
      ap (λ (m : List ℕ). unless_faulty_from s (take i l) m a) (drop-cons l i 0 inside)
      ∙ ap₂ (λ (e m : List ℕ). unless_faulty_at s (take i l) (get_or l i 0) (unless_faulty_from s e m a))
      (sym (more l i inside)) (ap (λ (k : ℕ). drop k l) (sym (add-one i)))

  -- it is told with its fault
  told_at : (why : ℕ → Refusal) → left ≡ refused_for (why (length (take i l))) → refused_for (why i) ≡ left
  told_at why e = ap (λ (k : ℕ). refused_for (why k)) (sym (length-take-le i l (omega arith))) ∙ sym e

  pub told_above : channel_in_range (get_or l i 0) ≡ false → refused_for (ListedOutOfRange i) ≡ left
  told_above e = told_at ListedOutOfRange (at_place ∙ refuse_now _ _ e)

  module _ (ranged : channel_in_range (get_or l i 0) ≡ true) where
    pub told_serving : eqb s (get_or l i 0) ≡ true → refused_for (ListedServing i) ≡ left
    told_serving e = told_at ListedServing (at_place ∙ refuse_later _ ranged (refuse_now _ _ (ap not e)))

    module _ (other : eqb s (get_or l i 0) ≡ false) where
      pub told_again : mem (get_or l i 0) (take i l) ≡ true → refused_for (ListedAgain i) ≡ left
      told_again e = told_at ListedAgain (at_place ∙ refuse_later _ ranged (refuse_later _ (ap not other) (refuse_now _ _ (ap not e))))

      -- or it has none, and the next place follows
      pub next_place : mem (get_or l i 0) (take i l) ≡ false → unless_faulty_from s (take (i + 1) l) (drop (i + 1) l) a ≡ left
      next_place e = sym (at_place ∙ refuse_later _ ranged (refuse_later _ (ap not other) (refuse_later _ (ap not e) refl)))
