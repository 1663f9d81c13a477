-- One call more at the end of a sequence: down the sequence, for the record and for the plain watch, and for the answers of each.
use mathlib.Core.Path.{◌≡◌, refl, ap}
use mathlib.Core.List.{List, [], ◌∷◌, ◌++◌}
use Rattle.watch_rules.specs.declared.Watch.{Watch}
use Rattle.watch_rules.specs.Told.{Call}
use Rattle.watch_rules.specs.Rules.{answer}
use Rattle.watch_rules.specs.Plain.{Plain, idle, seen, next, answers, after}
use Rattle.watch_rules.specs.Record.{fresh, called, answers_from, after_from}
use Rattle.watch_rules.specs.Claims.{SequenceRule}

pub after_more : (w : Watch) (ks : List Call) (k : Call) → after_from w (ks ++ k ∷ []) ≡ (called (after_from w ks) k).watch
after_more w [] k = refl
after_more w (j ∷ ks) k = after_more (called w j).watch ks k

answers_more : (w : Watch) (ks : List Call) (k : Call) → answers_from w (ks ++ k ∷ []) ≡ answers_from w ks ++ (called (after_from w ks) k).answer ∷ []
answers_more w [] k = refl
answers_more w (j ∷ ks) k = ap (◌∷◌ (called w j).answer) (answers_more (called w j).watch ks k)

plain_more : (p : Plain) (ks : List Call) (k : Call) → after p (ks ++ k ∷ []) ≡ next (after p ks) k
plain_more p [] k = refl
plain_more p (j ∷ ks) k = plain_more (next p j) ks k

plain_answers : (p : Plain) (ks : List Call) (k : Call) → answers p (ks ++ k ∷ []) ≡ answers p ks ++ answer (seen (after p ks)) k ∷ []
plain_answers p [] k = refl
plain_answers p (j ∷ ks) k = ap (◌∷◌ (answer (seen p) j)) (plain_answers (next p j) ks k)

pub sequence_rule : SequenceRule
sequence_rule =
    record {
      empty = (refl, refl, refl, refl);
      in_turn =
          λ ks k.
          record {
            watch = after_more fresh ks k;
            answered = answers_more fresh ks k;
            plain = plain_more idle ks k;
            plain_answered = plain_answers idle ks k;
          };
    }
