-- The answer of a choice in document 01's terms: what is told of a refusal, or the values.
use Rattle.std.specs.Prelude.{Result}
use Rattle.refusal.specs.declared.Refusal.{Refusal}
use Rattle.refusal.specs.Told.{Told, told_as}
use Rattle.choice_rules.specs.Choose.{Chosen, camp, read, no_beam}
use Rattle.choice_rules.specs.declared.Choice.{Choice}
use Rattle.choice_rules.specs.declared.Choice.TheVariants as choice

abbrev pub chosen_of : Choice → Chosen
chosen_of (choice.Camp c n) = camp c n
chosen_of (choice.Read c n) = read c n
chosen_of (choice.NoBeam n) = no_beam n

abbrev pub told_choice : Result Choice Refusal → Told Chosen
told_choice answer = told_as chosen_of answer
