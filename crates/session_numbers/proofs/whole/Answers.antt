-- The sign by `Signs`; at most 10 digits find room in 64 bits.
use Rattle.std.proofs.Common.{◌≡◌, ℕ, zero, suc, ◌^◌, ◌<◌, ◌≤◌, [], None, Some, refl, ap, sym, ◌∙◌, arith}
use mathlib.Core.Path.{subst}
use lib.Dec.{lit<}
use lib.IntN.{ℤ, pos, neg_ℤ, ◌-ℤ◌, +ℤ_idl}
use lib.Signed.{mag}
use mir.Syntax.{w64}
use mir.Val.{SFits, to_z}
use mir.ValLaws.{to_z_pos, to_z-of_z}
use Rattle.session_numbers.specs.Numbers.{digits_of, whole_of}
use Rattle.session_numbers.proofs.Powers.{below}
use Rattle.session_numbers.proofs.Radices.{digits_empty}
use Rattle.session_numbers.proofs.Signs.{sign_minus, sign_plain}
use Rattle.session_numbers.proofs.whole.Goals as goal

few : (v n : ℕ) → v < 10 ^ n → n ≤ 10 → v < 9223372036854775808
few v n h k = omega (arith, below 10 v n 10 (lit< tt) h k)

negated : (n : ℕ) → n < 9223372036854775808 → pos 0 -ℤ to_z w64 n ≡ neg_ℤ (pos n)
negated n h = ap (λ (z : ℤ). pos 0 -ℤ z) (to_z_pos w64 n h) ∙ +ℤ_idl (neg_ℤ (pos n))

negated_fits : (n : ℕ) → n < 9223372036854775808 → SFits w64 (pos 0 -ℤ to_z w64 n)
negated_fits n h = subst (λ (z : ℤ). SFits w64 z) (sym (negated n h)) (record { sfits = in_range n h })
  where
    in_range : (n : ℕ) → n < 9223372036854775808 → mag (neg_ℤ (pos n)) < 9223372036854775808
    in_range zero h = h
    in_range (suc n) h = omega arith

pub overflow_cast-result : goal.overflow_cast-result
overflow_cast-result c = let k = c.in_ok-digits-in-Some in record { sfits = few k.field-0 _ k.ensures.most k.ensures.few }

pub overflow_sub-result : goal.overflow_sub-result
overflow_sub-result c = let k = c.in_ok-digits-in-Some in negated_fits k.field-0 (few _ _ k.ensures.most k.ensures.few)

pub overflow_cast-result-in-None : goal.overflow_cast-result-in-None
overflow_cast-result-in-None c = let k = c.in_ok-digits-in-None in record { sfits = few k.field-0 _ k.ensures.most k.ensures.few }

pub returns-in_err-digits-in-Some : goal.returns-in_err-digits-in-Some
unfolding whole_of
returns-in_err-digits-in-Some c =
    let strip = c.in-Some.ensures.cases in
    c.from_residual.ensures
    ∙ sign_minus (λ n. neg_ℤ (pos n)) pos (digits_of 10) c.args.word.now c.in-Some.size.now None strip.0 strip.1 c.in_err-digits-in-Some.ensures.value

pub returns-in_err-digits-in-None : goal.returns-in_err-digits-in-None
unfolding whole_of
returns-in_err-digits-in-None c =
    c.from_residual-in_err-digits-in-None.ensures
    ∙ sign_plain (λ n. neg_ℤ (pos n)) pos (digits_of 10) c.args.word.now None c.in-None.ensures.cases (digits_empty 10 [] refl)
    c.in_err-digits-in-None.ensures.value

pub returns-in_ok-digits-in-Some : goal.returns-in_ok-digits-in-Some
unfolding whole_of
returns-in_ok-digits-in-Some c =
    let strip = c.in-Some.ensures.cases in
    let k = c.in_ok-digits-in-Some in
    let h = few k.field-0 _ k.ensures.most k.ensures.few in
    ap Some (to_z-of_z w64 (pos 0 -ℤ to_z w64 k.field-0) (negated_fits k.field-0 h) ∙ negated k.field-0 h)
    ∙ sign_minus (λ n. neg_ℤ (pos n)) pos (digits_of 10) c.args.word.now c.in-Some.size.now (Some k.field-0) strip.0 strip.1 k.ensures.value

pub returns-in_ok-digits-in-None : goal.returns-in_ok-digits-in-None
unfolding whole_of
returns-in_ok-digits-in-None c =
    let k = c.in_ok-digits-in-None in
    ap Some (to_z_pos w64 k.field-0 (few _ _ k.ensures.most k.ensures.few))
    ∙ sign_plain (λ n. neg_ℤ (pos n)) pos (digits_of 10) c.args.word.now (Some k.field-0) c.in-None.ensures.cases (digits_empty 10 [] refl) k.ensures.value
