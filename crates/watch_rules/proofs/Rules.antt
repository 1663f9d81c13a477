-- After every sequence of calls: the levels in the record are the last ones filed, and the next call is refused or accepted as the table says.
use mathlib.Core.Path.{sym, ap, ◌∙◌, subst}
use Rattle.watch_rules.specs.Told.{start, new_beam, file}
use Rattle.watch_rules.specs.Rules.{View}
use Rattle.watch_rules.specs.Plain.{idle, after}
use Rattle.watch_rules.specs.Claims.{LastOf, LevelsRule, RefusalRule, AcceptedRule}
use Rattle.watch_rules.proofs.Levels.{last_of}
use Rattle.watch_rules.proofs.Refusals.{to_row, from_row, no_row}
use Rattle.watch_rules.proofs.Demand3.{linked, shows, answered_next}

pub levels_rule : LevelsRule
levels_rule ks c =
    subst (LastOf (after idle ks).depth ((after idle ks).levels c))
    (sym (ap (λ (v : View). v.levels c) (shows (linked ks))))
    (last_of (after idle ks).depth ((after idle ks).levels c))

pub refusal_rule : RefusalRule
refusal_rule ks k n = (
  (λ e. to_row (after idle ks) k n (sym (answered_next ks k) ∙ e)),
  (λ row. answered_next ks k ∙ from_row (after idle ks) row),
)

pub accepted_rule : AcceptedRule
accepted_rule =
    record {
      starts = λ ks c d n. answered_next ks (start c d) ∙ no_row (after idle ks) (start c d) n;
      beams = λ ks s l n. answered_next ks (new_beam s l) ∙ no_row (after idle ks) (new_beam s l) n;
      files = λ ks c b n. answered_next ks (file c b) ∙ no_row (after idle ks) (file c b) n;
    }
