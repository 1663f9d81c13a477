-- What hundredths are shown as is a single float.
use lib.Dec.{T}
use lib.IntN.{ℤ, pos}
use lib.Ieee.{binary32, of_int, fits}
use lib.Ieee.Fits.{div-fits}
use Rattle.readings_rules.specs.Float.{float_of}

pub float_single : (h : ℤ) → T (fits binary32 (float_of h))
unfolding float_of
float_single h = div-fits binary32 (of_int binary32 h) (of_int binary32 (pos 100))
