-- By the whole number that 32 bits with a sign hold.
use Rattle.session_numbers.proofs.Ranges.{int_told}
use Rattle.session_numbers.proofs.int.Goals as goal

pub returns : goal.returns
returns c = int_told _ c.args.word.now c.whole_number.result c.whole_number.ensures.told
