-- A list that may be taken with its serving channel, as one test, which no order within the list can change. The rule lets a list pass exactly
-- where the test holds.
use Prim.Native.Nat.{ℕ, ◌≤◌}
use mathlib.Core.Path.{◌≡◌, sym, ap, ◌∙◌}
use mathlib.Core.Bool.{Bool, true, false, not, ◌&&◌}
use mathlib.Core.List.{List, ◌∷◌}
use native.Mathlib.Omega.{arith}
use lib.Dec.{leb}
use lib.ListN.{length}
use borrow.Author.Tests.{leb-true, leb-false}
use Rattle.refusal.specs.declared.Reason.{Reason}
use Rattle.refusal.specs.Told.{Told, refused, gives, accepted}
use Rattle.refusal.proofs.OneToOne.{gives_refused}
use Rattle.readings_rules.specs.Channels.{channel_in_range}
use Rattle.watch_rules.specs.Lists.{mem, distinct, every}
use Rattle.watch_rules.specs.Limits.{list_limit}
use Rattle.watch_rules.specs.Rules.{unless_faulty}
use Rattle.watch_rules.specs.Refusals.{Faulty, too_long, above, repeated, serving_in}
use Rattle.watch_rules.proofs.Laws.{by_case, clash, and_left, and_right, and_both, not_is}
use Rattle.watch_rules.proofs.Words.{mem_times, times_mem, distinct_times, repeat_found, every_found, every_times}
use Rattle.watch_rules.proofs.FaultRule.{ListKind, is_long, has_fault, is_sound, list_kind, long_refused, fault_refused, sound_allowed}

-- at most 6 channels, none above 1,087, and no repeat of a channel or of the serving one
abbrev pub list_sound : ℕ → List ℕ → Bool
list_sound s l = (leb (length l) list_limit && every channel_in_range l) && distinct (s ∷ l)

module _ (s : ℕ) (l : List ℕ) where
  list_faulty : list_sound s l ≡ false → Faulty s l
  list_faulty e =
      by_case (leb (length l) list_limit)
      (λ a. by_case (every channel_in_range l)
      (λ b. by_case (mem s l)
      (λ x. serving_in (mem_times s l x))
      (λ x. by_case (distinct l)
      (λ y. clash (and_both (and_both a b) (and_both (ap not x) y)) e)
      (λ y. (let r = repeat_found l y in repeated r.0 r.1))))
      (λ b. (let r = every_found channel_in_range l b in above r.0 r.1 (leb-false r.0 1087 r.2))))
      (λ a. too_long (leb-false (length l) list_limit a))

  -- what holds of a list that passes the test
  module _ (sound : list_sound s l ≡ true) where
    fits : (leb (length l) list_limit && every channel_in_range l) ≡ true
    fits = and_left (leb (length l) list_limit && every channel_in_range l) (distinct (s ∷ l)) sound

    pub sound_short : length l ≤ list_limit
    sound_short = leb-true (length l) list_limit (and_left (leb (length l) list_limit) (every channel_in_range l) fits)

    pub sound_ranged : every channel_in_range l ≡ true
    sound_ranged = and_right (leb (length l) list_limit) (every channel_in_range l) fits

    pub sound_apart : distinct (s ∷ l) ≡ true
    sound_apart = and_right (leb (length l) list_limit && every channel_in_range l) (distinct (s ∷ l)) sound

    list_sound_lem : ¬ (Faulty s l)
    list_sound_lem (too_long h) = let n = sound_short in omega arith
    list_sound_lem (above c t h) = let n = leb-true c 1087 (every_times channel_in_range l sound_ranged c t) in omega arith
    list_sound_lem (repeated c t) = let n = distinct_times l (and_right (not (mem s l)) (distinct l) sound_apart) c in omega arith
    list_sound_lem (serving_in t) = clash (times_mem s l t) (not_is (mem s l) (and_left (not (mem s l)) (distinct l) sound_apart))

  -- ---- the rule

  pub sound_passes : list_sound s l ≡ true → (a : Told Unit) → unless_faulty s l a ≡ a
  sound_passes e a = sound_allowed s l a (list_sound_lem e)

  sound_list : ¬ (Faulty s l) → list_sound s l ≡ true
  sound_list n = by_case (list_sound s l) (λ e. e) (λ e. absurd (n (list_faulty e)))

  -- a list that passes is sound, and what follows decides
  pub passes_sound : (a : Told Unit) {u : Unit} → unless_faulty s l a ≡ gives u → (list_sound s l ≡ true) × (a ≡ gives u)
  passes_sound a {u} e = go (list_kind s l)
    where
      go : ListKind s l → (list_sound s l ≡ true) × (a ≡ gives u)
      go (is_long h) = absurd (gives_refused (sym e ∙ long_refused s l a h))
      go (has_fault place n h f) = absurd (gives_refused (sym e ∙ fault_refused s l a h f))
      go (is_sound n) = (sound_list n, sym (sound_allowed s l a n) ∙ e)

  -- a fault comes before all that follows
  pub fault_first : {n : Reason} → unless_faulty s l accepted ≡ refused n → (a : Told Unit) → unless_faulty s l a ≡ refused n
  fault_first {n} e a = go (list_kind s l)
    where
      go : ListKind s l → unless_faulty s l a ≡ refused n
      go (is_long h) = long_refused s l a h ∙ sym (long_refused s l accepted h) ∙ e
      go (has_fault place m h f) = fault_refused s l a h f ∙ sym (fault_refused s l accepted h f) ∙ e
      go (is_sound x) = absurd (gives_refused (sym (sound_allowed s l accepted x) ∙ e))
