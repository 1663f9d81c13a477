-- An ask, a verdict or a refusal leaves the record as it was: a refusal hands back the very record, and a well-formed record is that of its
-- rows.
use mathlib.Core.Path.{◌≡◌, refl, sym, ap, ◌∙◌}
use mathlib.Core.Bool.{true}
use Rattle.refusal.specs.declared.Reason.{Reason}
use Rattle.refusal.specs.Told.{Told, refused, gives}
use Rattle.refusal.proofs.OneToOne.{gives_refused}
use Rattle.watch_rules.specs.declared.Watch.{Watch}
use Rattle.watch_rules.specs.Told.{Call, ask, verdict, Called}
use Rattle.watch_rules.specs.Rules.{allowed}
use Rattle.watch_rules.specs.Record.{rows, view_of, record_of, changed_record, well_formed, called}
use Rattle.watch_rules.specs.Claims.{Unchanged}
use Rattle.watch_rules.proofs.Laws.{by_case}
use Rattle.watch_rules.proofs.Encode.{read_record}
use Rattle.watch_rules.proofs.Calls.{called_unformed, called_refused, called_granted}

-- ---- unchanged

abbrev watch_of : Called → Watch
watch_of o = o.watch

module _ (w : Watch) (k : Call) where
  -- a call that keeps the rows
  rows-kept : changed_record w.depth (rows w) k ≡ record_of w.depth (rows w) → (called w k).watch ≡ w
  rows-kept same =
      by_case (well_formed w)
      (λ f. go f (allowed (view_of w) k) refl)
      (λ f. ap watch_of (called_unformed w k f))
    where
      go : well_formed w ≡ true → (o : Told Unit) → allowed (view_of w) k ≡ o → (called w k).watch ≡ w
      go f (gives u) e = ap watch_of (called_granted w k f e) ∙ same ∙ (read_record w f).back
      go f (refused n) e = ap watch_of (called_refused w k f e)

  -- a refused call
  refusal_keeps : (n : Reason) → (called w k).answer ≡ refused n → (called w k).watch ≡ w
  refusal_keeps n told =
      by_case (well_formed w)
      (λ f. go f (allowed (view_of w) k) refl)
      (λ f. ap watch_of (called_unformed w k f))
    where
      go : well_formed w ≡ true → (o : Told Unit) → allowed (view_of w) k ≡ o → (called w k).watch ≡ w
      go f (gives u) e = absurd (gives_refused (sym (ap (λ (o : Called). o.answer) (called_granted w k f e)) ∙ told))
      go f (refused n) e = ap watch_of (called_refused w k f e)

pub unchanged : Unchanged
unchanged w =
    record {
      asked = λ c. rows-kept w (ask c) refl;
      judged = λ h. rows-kept w (verdict h) refl;
      refusing = λ k n e. refusal_keeps w k n e;
    }
