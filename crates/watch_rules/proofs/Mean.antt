-- The mean in document 01's words: rounding down gives the largest whole number not above sum / count. By the sign of the sum, each is
-- a law of division without signs.
use Prim.Native.Nat.{ℕ, zero, suc, ◌*◌, ◌/◌, ◌≤◌, ◌<◌}
use mathlib.Core.Path.{refl, sym, ◌∙◌, subst}
use mathlib.Core.List.{List, [], ◌∷◌}
use native.Mathlib.Omega.{arith}
use native.Mathlib.Nat.{div-mul-le_self, le-div_iff_mul-le, div-lt_iff_lt-mul}
use lib.Dec.{leb→le}
use lib.IntN.{ℤ, pos, negsuc, neg_ℤ, ◌*ℤ◌, pos-*ℤ-pos, negsuc-*ℤ-pos}
use lib.Signed.{shr_z, ◌≤ℤ◌}
use lib.ListN.{length}
use borrow.Author.Tests.{le-leb}
use Rattle.refusal.specs.declared.Refusal.TheVariants as why
use Rattle.refusal.proofs.Provided.{refuse_later}
use Rattle.watch_rules.specs.Lists.{sum}
use Rattle.watch_rules.specs.Told.{ask}
use Rattle.watch_rules.specs.Rules.{View, mean}
use Rattle.watch_rules.specs.Plain.{idle, seen, after}
use Rattle.watch_rules.specs.Record.{fresh, called, after_from}
use Rattle.watch_rules.specs.Claims.{IsMean, Asked, AskRule}
use Rattle.watch_rules.proofs.Order.{le_yes}
use Rattle.watch_rules.proofs.Calls.{granted_answer}
use Rattle.watch_rules.proofs.Demand3.{linked, shows, answered_next}
use Rattle.watch_rules.proofs.Refusals.{yes_watched}

-- -n against a number below 0
below : (n a : ℕ) → suc a ≤ n → neg_ℤ (pos n) ≤ℤ negsuc a
below zero a h = absurd (omega arith)
below (suc n) a h = le_yes (negsuc n) (negsuc a) (le-leb a n (omega arith))

under : (n a : ℕ) → neg_ℤ (pos n) ≤ℤ negsuc a → suc a ≤ n
under zero a h = absurd h.le
under (suc n) a h = let k : a ≤ n = leb→le a n h.le in omega arith

module _ (n : ℕ) (some : 0 < n) where
  not_above_lem : (s : ℤ) → (shr_z s n *ℤ pos n) ≤ℤ s
  not_above_lem (pos a) =
      subst (λ (z : ℤ). z ≤ℤ pos a) (sym (pos-*ℤ-pos (a / n) n))
      (le_yes (pos (a / n * n)) (pos a) (le-leb (a / n * n) a (div-mul-le_self a n)))
  not_above_lem (negsuc a) =
      subst (λ (z : ℤ). z ≤ℤ negsuc a) (sym (negsuc-*ℤ-pos (a / n) n))
      (below (suc (a / n) * n) a ((div-lt_iff_lt-mul {k = n} {x = a} {y = suc (a / n)} some).0 (omega arith)))

  largest_such : (s k : ℤ) → (k *ℤ pos n) ≤ℤ s → k ≤ℤ shr_z s n
  largest_such (pos a) (pos j) h =
      let m : j * n ≤ a = leb→le (j * n) a (subst (λ (z : ℤ). z ≤ℤ pos a) (pos-*ℤ-pos j n) h).le in
      le_yes (pos j) (pos (a / n)) (le-leb j (a / n) ((le-div_iff_mul-le {k = n} {x = j} {y = a} some).1 m))
  largest_such (pos a) (negsuc j) h = le_yes (negsuc j) (pos (a / n)) refl
  largest_such (negsuc a) (pos j) h = absurd (subst (λ (z : ℤ). z ≤ℤ negsuc a) (pos-*ℤ-pos j n) h).le
  largest_such (negsuc a) (negsuc j) h =
      let m : suc a ≤ suc j * n = under (suc j * n) a (subst (λ (z : ℤ). z ≤ℤ negsuc a) (negsuc-*ℤ-pos j n) h) in
      let q : a / n < suc j = (div-lt_iff_lt-mul {k = n} {x = a} {y = suc j} some).1 m in
      le_yes (negsuc j) (negsuc (a / n)) (le-leb (a / n) j (omega arith))

is_mean_lem : (l : List ℤ) → IsMean l (mean l)
is_mean_lem [] = record { none = λ e. refl; not_above = le_yes (pos 0) (pos 0) refl; largest = λ k h e. absurd (omega arith) }
is_mean_lem (x ∷ l) =
    record {
      none = λ e. absurd (omega arith);
      not_above = not_above_lem (length (x ∷ l)) (omega arith) (sum (x ∷ l));
      largest = λ k h e. largest_such (length (x ∷ l)) h (sum (x ∷ l)) k e;
    }

pub ask_rule : AskRule
ask_rule ks c w =
    let v : View = seen (after idle ks) in
    subst (λ (u : View). Asked (u.levels c) (called (after_from fresh ks) (ask c)).answer) (sym (shows (linked ks)))
    (record {
      mean = mean (v.levels c);
      is_mean = is_mean_lem (v.levels c);
      answered = answered_next ks (ask c) ∙ granted_answer v (ask c) (refuse_later why.NotWatched (yes_watched (after idle ks) c w) refl);
    })
