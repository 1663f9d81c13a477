-- Every row of the table holds: both sides compute to the same. For the choice, that the record and the strings are accepted is shown once for each in
-- `Choices`, and a law leads from there to what is chosen.
use Rattle.std.proofs.Common.{refl}
use lib.Ieee.{of_bits, of_fields}
use lib.ListN.{drop}
use Rattle.readings_rules.specs.Hundredths.{within, hundredths_of, converted}
use Rattle.readings_rules.specs.Rounding.{nearest_lower}
use Rattle.watch_rules.specs.Rules.{full, counts, best, target, answer}
use Rattle.watch_rules.specs.Record.{well_formed, called}
use Rattle.power_rules.specs.PowerSteps.{brought_into, pan_use, gain, thousandths, par_to_send, pan_basic_after, par_save_after, increase_after, pan_to_send}
use Rattle.power_rules.specs.Calls.{started, sending, stepped}
use Rattle.examples.specs.Table.{table, AllHold}
use Rattle.examples.proofs.Choices.{reads, camps, narrow, silent}
use Rattle.examples.proofs.examples.Goals as goal

-- the rows of each part, from the last on
beam_rows : AllHold (drop 32 table)
unfolding of_bits of_fields converted within hundredths_of nearest_lower answer well_formed called
beam_rows = (refl, (refl, (refl, (refl, (refl, (refl, (refl, (refl, tt))))))))

list_rows : AllHold (drop 28 table)
unfolding well_formed answer called
list_rows = (refl, (refl, (refl, (refl, beam_rows))))

depth_rows : AllHold (drop 20 table)
unfolding of_bits of_fields converted within hundredths_of nearest_lower full counts best target answer well_formed called
depth_rows = (refl, (refl, (refl, (refl, (refl, (refl, (refl, (refl, list_rows))))))))

power_rows : AllHold (drop 14 table)
unfolding nearest_lower started sending stepped brought_into pan_use gain thousandths par_to_send pan_basic_after par_save_after increase_after pan_to_send
power_rows = (refl, (refl, (refl, (refl, (refl, (refl, depth_rows))))))

watch_rows : AllHold (drop 10 table)
unfolding of_bits of_fields converted within hundredths_of nearest_lower full counts best target answer well_formed called
watch_rows = (refl, (refl, (refl, (refl, power_rows))))

pub returns : goal.returns
unfolding of_bits of_fields converted within hundredths_of nearest_lower
returns c = (refl, (refl, (refl, (refl, (refl, (refl, (reads, (camps, (narrow, (silent, watch_rows))))))))))
