-- The digits before and after the point are those of one number (`Decimals`).
use Rattle.std.proofs.Common.{◌≡◌, ℕ, ◌+◌, ◌-◌, ◌*◌, ◌^◌, ◌<◌, ◌≤◌, length, ap, ◌∙◌, arith}
use mathlib.Core.Path.{subst⁻¹}
use native.Mathlib.Nat.{lt_of_not-le}
use lib.Dec.{lit<}
use Rattle.session_numbers.specs.Numbers.{quotient, digits_of}
use Rattle.session_numbers.proofs.Powers.{below, joins}
use Rattle.session_numbers.proofs.Decimals.{run_some, fraction_long, fraction_first, fraction_second, fraction_both}
use Rattle.session_numbers.proofs.with_fraction.Goals as goal

-- both runs as one number
seven : (b a p m n : ℕ) → b < 10 ^ m → a < 10 ^ n → m + n ≤ 7 → p ≡ 10 ^ n → b * p + a < 10000000
seven b a p m n h k l q = subst⁻¹ (λ p. b * p + a < 10000000) q (below 10 (b * 10 ^ n + a) (m + n) 7 (lit< tt) (joins 10 b a m n h k) l)

pub returns-in_err-room : goal.returns-in_err-room
returns-in_err-room c = c.from_residual.ensures ∙ fraction_long c.args.«before».now c.args.after.now (lt_of_not-le c.in_err-room.ensures)

pub returns-in_err-units : goal.returns-in_err-units
returns-in_err-units c =
    c.from_residual-in_err-units.ensures
    ∙ fraction_first c.args.«before».now c.args.after.now c.in_ok-room.ensures.0 c.in_err-units.ensures.value

pub returns-in_err-parts : goal.returns-in_err-parts
returns-in_err-parts c =
    c.from_residual-in_err-parts.ensures
    ∙ fraction_second c.args.«before».now c.args.after.now c.in_ok-room.ensures.0
    (c.in_err-parts.ensures.value ∙ ap (λ n. digits_of n c.args.after.now) c.in_ok-room.ensures.1)

pub nearest-requires : goal.nearest-requires
nearest-requires c =
    let u = c.in_ok-units.ensures in
    let p = c.in_ok-parts.ensures in
    let few : length c.args.«before».now + length c.args.after.now ≤ 7 = omega arith in
    (seven c.in_ok-units.units c.in_ok-parts.parts c.pow.result _ _ u.most p.most few c.pow.ensures, omega arith)

pub returns : goal.returns
returns c =
    let s = c.args.«before».now in
    let t = c.args.after.now in
    let u = c.in_ok-units in
    let p = c.in_ok-parts in
    fraction_both s t u.units p.parts c.nearest.result
    (run_some 7 s u.units u.ensures.value)
    (run_some (7 - length s) t p.parts (p.ensures.value ∙ ap (λ n. digits_of n t) c.in_ok-room.ensures.1))
    (c.nearest.ensures ∙ ap (λ q. quotient (u.units * q + p.parts) (length t)) c.pow.ensures)
