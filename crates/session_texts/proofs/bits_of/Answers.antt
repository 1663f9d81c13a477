-- A NaN has one pattern of bits.
use Rattle.std.proofs.Common.{sym, ap, ◌∙◌}
use lib.Ieee.{binary32, to_bits}
use Rattle.session_texts.proofs.Writing.{nan_is}
use Rattle.session_texts.proofs.bits_of.Goals as goal

pub returns-then-is_nan : goal.returns-then-is_nan
unfolding to_bits
returns-then-is_nan c = ap (to_bits binary32) (nan_is c.args.x (sym c.is_nan.ensures.value ∙ c.if-is_nan.true))
