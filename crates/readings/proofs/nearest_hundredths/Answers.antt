-- `readings::nearest_hundredths` meets its contract: by `Fields`.
use Rattle.std.proofs.Common.{true, false, pos, ◌-ℤ◌, to_z, w32, sym, ◌∙◌}
use mir.ValLaws.{to_z_pos, to_z-of_z}
use native.Mathlib.Nat.{mod-lt}
use lib.Dec.{lit<}
use denote.Floats.{passes}
use borrow.Author.Tests.{lt-leb, le-leb}
use Rattle.readings_rules.proofs.Fields.{small_no_nan, bits_small, bits_hundredths, negated, negated_fits}
use Rattle.readings.proofs.nearest_hundredths.Goals as goal

pub float_to_bits-bits : goal.float_to_bits-bits
float_to_bits-bits c = small_no_nan c.args.x c.requires

pub rounded-requires : goal.rounded-requires
rounded-requires c = (bits_small c.args.x (passes _ c.well_formed.0.1) c.requires, mod-lt _ (lit< tt))

pub rounded-requires-else-bits-lt-SIGN : goal.rounded-requires-else-bits-lt-SIGN
rounded-requires-else-bits-lt-SIGN c = (bits_small c.args.x (passes _ c.well_formed.0.1) c.requires, mod-lt _ (lit< tt))

pub returns-then-bits-lt-SIGN : goal.returns-then-bits-lt-SIGN
returns-then-bits-lt-SIGN c =
    to_z_pos w32 c.rounded.result c.rounded.ensures.fits
    ∙ sym
    (bits_hundredths c.args.x (passes _ c.well_formed.0.1) c.requires false c.rounded.result (lt-leb _ _ c.if-bits-lt-SIGN.true)
    c.rounded.ensures.near)

pub returns-else-bits-lt-SIGN : goal.returns-else-bits-lt-SIGN
returns-else-bits-lt-SIGN c =
    let e = c.rounded-else-bits-lt-SIGN.ensures in
    let r = c.rounded-else-bits-lt-SIGN.result in
    to_z-of_z w32 (pos 0 -ℤ to_z w32 r) (negated_fits r e.fits)
    ∙ negated r e.fits
    ∙ sym (bits_hundredths c.args.x (passes _ c.well_formed.0.1) c.requires true r (le-leb _ _ c.if-bits-lt-SIGN.false) e.near)
