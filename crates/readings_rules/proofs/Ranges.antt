-- The tests of range are document 01's words: each compares with the two ends.
use mathlib.Core.Path.{◌≡◌, refl, sym, subst}
use mathlib.Core.Logic.{◌↔◌}
use mathlib.Core.Bool.{true}
use lib.Dec.{T}
use lib.IntN.{ℤ}
use lib.Signed.{le_z, le_z_yes}
use lib.Ieee.Bits.{is_true}
use lib.Ieee.Fits.{and_i, and_l, and_r}
use borrow.Author.Tests.{leb-true, le-leb}
use Rattle.readings_rules.specs.Ranges.{in_hundredths, level_low, level_high, quality_low, quality_high, in_range}
use Rattle.readings_rules.specs.Claims.{Between, RangeRule}

module _ (low high h : ℤ) where
  abbrev bottom : ℤ
  bottom = in_hundredths low

  abbrev top : ℤ
  top = in_hundredths high

  pub in_words : T (in_range low high h) → Between bottom top h
  in_words t = record { lowest = le_z_yes (and_l (le_z bottom h) (le_z h top) t); highest = le_z_yes (and_r (le_z bottom h) (le_z h top) t) }

  pub by_words : Between bottom top h → T (in_range low high h)
  by_words b = and_i (le_z bottom h) (le_z h top) b.lowest.le b.highest.le

  range_words : (in_range low high h ≡ true) ↔ Between bottom top h
  range_words = (λ e. in_words (subst T (sym e) tt), λ b. is_true (in_range low high h) (by_words b))

pub range_rule : RangeRule
range_rule = record {
  level = range_words level_low level_high;
  quality = range_words quality_low quality_high;
  channel = λ c. (leb-true c 1087, le-leb c 1087);
  highest = refl;
}
