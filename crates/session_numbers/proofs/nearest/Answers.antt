-- A single float holds both numbers.
use Rattle.std.proofs.Common.{◌^◌, ◌≤◌, ap, arith}
use native.Mathlib.Nat.{pow-le-pow_right}
use lib.Dec.{lit<}
use lib.IntN.{pos}
use lib.Ieee.{binary32, of_int, div}
use Rattle.session_numbers.specs.Numbers.{quotient}
use Rattle.session_numbers.proofs.Decimals.{held}
use Rattle.session_numbers.proofs.nearest.Goals as goal

pub int_to_float-result-2 : goal.int_to_float-result-2
int_to_float-result-2 c =
    let p : 10 ^ c.args.places ≤ 10 ^ 7 = pow-le-pow_right (lit< tt) {i = c.args.places} {j = 7} c.requires.1 in
    held c.pow.result (omega (arith, c.pow.ensures))

pub returns : goal.returns
unfolding quotient
returns c = ap (λ p. div binary32 (of_int binary32 (pos c.args.value)) (of_int binary32 (pos p))) c.pow.ensures
