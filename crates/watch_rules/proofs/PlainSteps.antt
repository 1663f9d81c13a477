-- The steps of the plain watch in document 01's words. The table of refusals decides whether a call changes anything; what an accepted one
-- leaves is its definition, whose tests are those words, decided.
use Prim.Native.Nat.{ℕ}
use mathlib.Core.Path.{◌≡◌, refl, sym, ap, ◌∙◌, subst}
use mathlib.Core.Bool.{Bool, cond, ◌&&◌, ◌||◌, and-false}
use mathlib.Core.List.{List, []}
use lib.Dec.{eqb}
use lib.IntN.{ℤ}
use borrow.Author.Tests.{eq-eqb, ne_eqb}
use Rattle.refusal.specs.declared.Reason.{Reason}
use Rattle.refusal.specs.Told.{Told, refused, gives, unless_refused}
use Rattle.refusal.proofs.OneToOne.{gives_refused}
use Rattle.readings_rules.specs.declared.Burst.TheVariants.{Missed}
use Rattle.readings_rules.specs.Burst.{heard}
use Rattle.watch_rules.specs.Lists.{mem}
use Rattle.watch_rules.specs.Told.{Call, start, new_beam, file, ask, verdict}
use Rattle.watch_rules.specs.Rules.{allowed, answer}
use Rattle.watch_rules.specs.Plain.{Plain, under_watch, seen, after_start, after_new_beam, after_file, change, next}
use Rattle.watch_rules.specs.Refusals.{Accepted}
use Rattle.watch_rules.specs.PlainSteps.{Started, BeamTaken, Filed}
use Rattle.watch_rules.specs.Claims.{StepsOf, PlainRule}
use Rattle.watch_rules.proofs.Laws.{and_both}
use Rattle.watch_rules.proofs.Words.{mem_times, times_mem}
use Rattle.watch_rules.proofs.Calls.{granted_answer}
use Rattle.watch_rules.proofs.Refusals.{yes_watched, no_watched, from_row, no_refusal}

-- ---- what an accepted call leaves

started : (c d : ℕ) → Started c d (after_start c d)
started c d = record { depth = refl; serving = refl; neighbours = λ e. refl; levels = λ e. refl }

module _ (p : Plain) where
  taken : (s : ℕ) (l : List ℕ) → BeamTaken p s l (after_new_beam p s l)
  taken s l =
      record {
        depth = refl;
        serving = refl;
        neighbours = λ c. (mem_times c l, times_mem c l);
        kept = λ c w v. ap (chosen c) (and_both (yes_watched p c w) (yes_watched (after_new_beam p s l) c v));
        others = λ c n. ap (λ (b : Bool). chosen c (b && (eqb s c || mem c l))) (no_watched p c n);
        dropped =
            λ c n.
            ap (λ (b : Bool). chosen c (under_watch p c && b)) (no_watched (after_new_beam p s l) c n)
            ∙ ap (chosen c) (and-false (under_watch p c));
      }
    where
      chosen : ℕ → Bool → List ℤ
      chosen c b = cond b (p.levels c) []

  filed : (c : ℕ) (level quality : ℤ) → Filed p c level (after_file p c (gives (heard level quality)))
  filed c level quality =
      record {
        depth = refl;
        serving = refl;
        neighbours = λ d. refl;
        newest = rw (eq-eqb c c refl);
        others = λ d n. rw (ne_eqb c d (λ z. n (sym z)));
      }

  -- ---- the steps

  accepted_next : (k : Call) → Accepted p k → change p k ≡ next p k
  accepted_next k a = sym (ap (λ (o : Told Unit). unless_refused o p (change p k)) (no_refusal p k a))

  refused_next : (k : Call) (n : Reason) → answer (seen p) k ≡ refused n → next p k ≡ p
  refused_next k n e = go (allowed (seen p) k) refl
    where
      go : (o : Told Unit) → allowed (seen p) k ≡ o → next p k ≡ p
      go (gives u) q = absurd (gives_refused (sym (granted_answer (seen p) k q) ∙ e))
      go (refused m) q = ap (λ (o : Told Unit). unless_refused o p (change p k)) q

  -- a call that changes nothing where it is accepted
  same_next : (o : Told Unit) → unless_refused o p p ≡ p
  same_next (gives u) = refl
  same_next (refused n) = refl

  steps : StepsOf p
  steps =
      record {
        refusing = λ k n row. (from_row p row, refused_next k n (from_row p row));
        starts = λ c d a. subst (Started c d) (accepted_next (start c d) a) (started c d);
        beams = λ s l a. subst (BeamTaken p s l) (accepted_next (new_beam s l) a) (taken s l);
        files =
            λ c b level quality a e.
            subst (Filed p c level) (ap (after_file p c) (sym e) ∙ accepted_next (file c b) a) (filed c level quality);
        misses = λ c. same_next (allowed (seen p) (file c Missed));
        asks = λ c. same_next (allowed (seen p) (ask c));
        judges = λ h. same_next (allowed (seen p) (verdict h));
      }

pub plain_rule : PlainRule
plain_rule = record { begins = record { depth = refl; serving = refl; neighbours = λ c. refl; levels = λ c. refl }; steps = steps }
