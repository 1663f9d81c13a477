-- The order of the record's list. An accepted call leaves the record of the changed rows; their channels are the new serving channel and its list
-- in the order given.
use mathlib.Core.Path.{◌≡◌, refl, sym, ap, ◌∙◌}
use mathlib.Core.Bool.{true}
use Rattle.refusal.specs.Told.{Told, refused, gives}
use Rattle.refusal.proofs.OneToOne.{gives_refused}
use Rattle.watch_rules.specs.declared.Watch.{Watch}
use Rattle.watch_rules.specs.Told.{Call, new_beam, Called, accepted}
use Rattle.watch_rules.specs.Rules.{allowed}
use Rattle.watch_rules.specs.Rows.{channels, changed_rows, changed_depth}
use Rattle.watch_rules.specs.Record.{rows, view_of, well_formed, called}
use Rattle.watch_rules.specs.Claims.{ListRule}
use Rattle.watch_rules.proofs.Laws.{by_case}
use Rattle.watch_rules.proofs.Encode.{rows_record}
use Rattle.watch_rules.proofs.Calls.{called_unformed, called_refused, called_granted}
use Rattle.watch_rules.proofs.Relist.{channels_relisted}

-- ---- an accepted call

module _ (w : Watch) (k : Call) (ok : (called w k).answer ≡ gives accepted) where
  formed : well_formed w ≡ true
  formed = by_case (well_formed w) (λ f. f) (λ f. absurd (gives_refused (sym ok ∙ ap (λ (o : Called). o.answer) (called_unformed w k f))))

  left : channels (rows (called w k).watch) ≡ channels (changed_rows w.depth (rows w) k)
  left = go (allowed (view_of w) k) refl
    where
      go : (o : Told Unit) → allowed (view_of w) k ≡ o → channels (rows (called w k).watch) ≡ channels (changed_rows w.depth (rows w) k)
      go (gives u) e =
          ap (λ (o : Called). channels (rows o.watch)) (called_granted w k formed e)
          ∙ ap channels (rows_record (changed_depth w.depth k) (changed_rows w.depth (rows w) k))
      go (refused n) e = absurd (gives_refused (sym ok ∙ ap (λ (o : Called). o.answer) (called_refused w k formed e)))

pub list_rule : ListRule
list_rule w s l ok = left w (new_beam s l) ok ∙ channels_relisted s l (rows w)
