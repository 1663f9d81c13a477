-- What is claimed of a faulty list: it gets one of 11 to 14 exactly where document 01 gave 5, whatever the watch; at the first faulty place one
-- number alone fits, as the serving channel is in range; and nothing but the fault told depends on a list's order.
use Prim.Native.Nat.{ℕ, zero, suc, ◌≤◌, ◌<◌}
use mathlib.Core.Path.{◌≡◌, refl, sym, ap, subst, subst₂, ◌∙◌}
use mathlib.Core.Logic.{◌⊎◌, inl, inr}
use mathlib.Core.Bool.{Bool, true, false}
use mathlib.Core.List.{List}
use mathlib.Core.Option.{some, some-ne-none}
use native.Mathlib.Omega.{arith}
use lib.Dec.{eqb, leb}
use lib.ListN.{length, get_elem?}
use borrow.Author.Tests.{eqb-true, eqb-false, le-leb, leb-true}
use Rattle.refusal.specs.declared.Refusal.TheVariants as why
use Rattle.refusal.specs.declared.Reason.TheVariants.{Alone, At}
use Rattle.refusal.specs.Number.{number_in}
use Rattle.refusal.specs.Told as refusal
use Rattle.refusal.specs.Told.{Told, refused, gives, provided, giving}
use Rattle.refusal.proofs.Provided.{refuse_now, refuse_later}
use Rattle.watch_rules.specs.Told.{new_beam, Given, accepted}
use Rattle.watch_rules.specs.Rules.{serves, unless_faulty, allowed, answer}
use Rattle.watch_rules.specs.Plain.{Plain, idle, seen, after}
use Rattle.watch_rules.specs.Refusals.{Faulty, too_long, FirstFault, Refuses, list_too_long, list_faulty}
use Rattle.watch_rules.specs.Claims.{OneOfFaults, ButForFault, same_answer, faults, AllButForFault, no_more, and_more, NothingElse, OfGroup, eleven, placed, ListFaultRule}
use Rattle.watch_rules.proofs.Laws.{by_case}
use Rattle.watch_rules.proofs.Faults.{fault_number, fault_faulty}
use Rattle.watch_rules.proofs.FaultRule.{no_other, ListKind, is_long, has_fault, is_sound, list_kind, long_refused, fault_refused, sound_allowed}
use Rattle.watch_rules.proofs.Calls.{refused_answer}
use Rattle.watch_rules.proofs.Refusals.{to_row, from_row, place_row}
use Rattle.watch_rules.proofs.Demand3.{one_of_faults, answered_next}
use Rattle.watch_rules.proofs.Rules.{refusal_rule}

-- ---- the group

number_told : Told Given → ℕ
number_told (gives g) = 0
number_told (refused n) = number_in n

group_number : {a : Told Given} → OfGroup a → 11 ≤ number_told a
unfolding number_told
group_number eleven = omega arith
group_number (placed n place o) = omega (arith, o.0)

-- what a list that is not faulty gets is not of the group
sound_number : (b : Bool) → number_told (giving (provided b why.NotWatched refusal.accepted) accepted) ≤ 6
unfolding number_told
sound_number true = omega arith
sound_number false = omega arith

module _ (p : Plain) (s : ℕ) (l : List ℕ) where
  abbrev rest : Told Unit
  rest = provided (serves p.serving) why.NotWatched refusal.accepted

  abbrev told : Told Given
  told = answer (seen p) (new_beam s l)

  -- where the serving channel is above the range, 2 is told
  group_ranged : OfGroup told → s ≤ 1087
  unfolding number_told
  group_ranged g =
      by_case (leb s 1087)
      (λ b. leb-true s 1087 b)
      (λ b. (let least = group_number (subst OfGroup (refused_answer (seen p) (new_beam s l) (Alone 2) (refuse_now why.ChannelOutOfRange _ b)) g) in
      absurd (omega arith)))

  module _ (ranged : s ≤ 1087) where
    behind : {a : Told Unit} → unless_faulty s l rest ≡ a → allowed (seen p) (new_beam s l) ≡ a
    behind e = refuse_later why.ChannelOutOfRange (le-leb s 1087 ranged) e

    group_faulty : ListKind s l → OfGroup told → Faulty s l
    unfolding answer
    group_faulty (is_long h) g = too_long h
    group_faulty (has_fault place n h f) g = fault_faulty s l f.fault
    group_faulty (is_sound n) g =
        let least = group_number (subst (λ (a : Told Unit). OfGroup (giving a accepted)) (behind (sound_allowed s l rest n)) g) in
        absurd (omega (arith, least, sound_number (serves p.serving)))

    faulty_group : ListKind s l → Faulty s l → OfGroup told
    faulty_group (is_long h) f = subst OfGroup (sym (refused_answer (seen p) (new_beam s l) (Alone 11) (behind (long_refused s l rest h)))) eleven
    faulty_group (has_fault place n h g) f =
        subst OfGroup (sym (refused_answer (seen p) (new_beam s l) (At n place) (behind (fault_refused s l rest h g))))
        (placed n place (one_of_faults n (fault_number g.fault)))
    faulty_group (is_sound n) f = absurd (n f)

-- the rows of a list

long_row : {p : Plain} {s : ℕ} {l : List ℕ} → Refuses p (new_beam s l) (Alone 11) → (s ≤ 1087) × (6 < length l)
long_row (list_too_long s l i h) = (i, h)

fault_row : {p : Plain} {s : ℕ} {l : List ℕ} {n place : ℕ} → Refuses p (new_beam s l) (At n place)
    → (s ≤ 1087) × (length l ≤ 6) × FirstFault s l place n
fault_row (list_faulty s l place n i h f) = (i, h, f)

-- a fault is the same whatever the watch
same_fault : (p q : Plain) (s : ℕ) (l : List ℕ) {a : Told Given} → answer (seen p) (new_beam s l) ≡ a → OfGroup a → a ≡ answer (seen q) (new_beam s l)
same_fault p q s l e eleven =
    let h = long_row (to_row p (new_beam s l) (Alone 11) e) in
    sym (from_row q (list_too_long s l h.0 h.1))
same_fault p q s l e (placed n place o) =
    let h = fault_row (to_row p (new_beam s l) (At n place) e) in
    sym (from_row q (list_faulty s l place n h.0 h.1 h.2))

pub list_fault_rule : ListFaultRule
list_fault_rule =
    record {
      too_long = λ ks s l. (
        λ e. long_row ((refusal_rule ks (new_beam s l) (Alone 11)).0 e),
        λ h. (refusal_rule ks (new_beam s l) (Alone 11)).1 (list_too_long s l h.0 h.1),
      );
      at_place = λ ks s l n place. (
        λ e. fault_row ((refusal_rule ks (new_beam s l) (At n place)).0 e),
        λ h. (refusal_rule ks (new_beam s l) (At n place)).1 (list_faulty s l place n h.0 h.1 h.2),
      );
      split = λ ks s l.
          let p : Plain = after idle ks in
          let e = answered_next ks (new_beam s l) in (
            λ g. (let i = group_ranged p s l (subst OfGroup e g) in (i, group_faulty p s l i (list_kind s l) (subst OfGroup e g))),
            λ f. subst OfGroup (sym e) (faulty_group p s l f.0 (list_kind s l) f.1),
          );
      order_unseen = λ s l place n m i f g. no_other i f g;
      any_watch = λ ks js s l g.
          let e = answered_next ks (new_beam s l) in
          e ∙ same_fault (after idle ks) (after idle js) s l refl (subst OfGroup e g) ∙ sym (answered_next js (new_beam s l));
      beams_only = λ ks k n place e. (place_row ((refusal_rule ks k (At n place)).0 e)).1;
    }

-- ---- nothing but the fault told

one_of : (n : ℕ) → OneOfFaults n → (n ≡ 12) ⊎ ((n ≡ 13) ⊎ (n ≡ 14))
one_of n o = by_case (eqb n 12) (λ e. inl (eqb-true n 12 e)) (λ e. by_case (eqb n 13) (λ f. inr (inl (eqb-true n 13 f))) (λ f. inr (inr
    (let x = eqb-false n 12 e in let y = eqb-false n 13 f in omega (arith, o.0, o.1)))))

each_alike : {l m : List (Told Given)} → AllButForFault l m → (i : ℕ) (c d : Told Given) → get_elem? l i ≡ some c → get_elem? m i ≡ some d → ButForFault c d
each_alike no_more i c d x y = absurd (some-ne-none c (sym x))
each_alike (and_more {a} {b} k ks) zero c d x y = let e : a ≡ c = cc in let f : b ≡ d = cc in subst₂ ButForFault e f k
each_alike (and_more k ks) (suc i) c d x y = each_alike ks i c d x y

as_many_lem : {l m : List (Told Given)} → AllButForFault l m → length l ≡ length m
as_many_lem no_more = refl
as_many_lem (and_more k ks) = ap suc (as_many_lem ks)

placeless : {a b : Told Given} → ButForFault a b → ((n place : ℕ) → ¬ (a ≡ refused (At n place))) → a ≡ b
placeless (same_answer a) h = refl
placeless (faults n m place other x y) h = absurd (h n place refl)

numbers : {a b : Told Given} → ButForFault a b → (n place : ℕ) → a ≡ refused (At n place) → ¬ (a ≡ b) → (n ≡ 12) ⊎ ((n ≡ 13) ⊎ (n ≡ 14))
numbers (same_answer a) n place e h = absurd (h refl)
numbers (faults k m p q x y) n place e h = let z : k ≡ n = cc in subst (λ (j : ℕ). (j ≡ 12) ⊎ ((j ≡ 13) ⊎ (j ≡ 14))) z (one_of k x)

pub nothing_else : NothingElse
nothing_else =
    record {
      placeless = λ a b k h. placeless k h;
      numbers = λ n place b k h. numbers k n place refl h;
      each = λ l m k i a b x y. each_alike k i a b x y;
      as_many = λ l m k. as_many_lem k;
    }
