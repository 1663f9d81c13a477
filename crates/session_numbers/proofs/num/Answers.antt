-- The words by their bytes; in the last arm a word is none of the three, whichever test it fails.
use Rattle.std.proofs.Common.{◌≡◌, length, get_or, ap, refl, ◌∙◌, arith}
use lib.Ieee.{of_bits}
use Rattle.std.proofs.lemmas.Slice.Eq.{text_from_reads}
use Rattle.session_words.specs.Bytes.{bytes_of, alike}
use Rattle.session_numbers.specs.Numbers.{num_of, bits_of}
use Rattle.session_numbers.proofs.Nums.{num_bits, num_decimal}
use Rattle.session_numbers.proofs.num.Goals as goal
use Rattle.session_numbers.proofs.num.Goals.{In_default}

pub returns-in-nan : goal.returns-in-nan
unfolding num_of alike of_bits
returns-in-nan c =
    let e : c.args.word.now ≡ bytes_of "nan" = text_from_reads _ _ (omega arith) (omega arith, (omega arith, (omega arith, tt))) in
    rw e refl

pub returns-in-inf : goal.returns-in-inf
unfolding num_of alike of_bits
returns-in-inf c =
    let e : c.args.word.now ≡ bytes_of "inf" = text_from_reads _ _ (omega arith) (omega arith, (omega arith, (omega arith, tt))) in
    rw e refl

pub returns-in-45 : goal.returns-in-45
unfolding num_of alike of_bits
returns-in-45 c =
    let e : c.args.word.now ≡ bytes_of "-inf" = text_from_reads _ _ (omega arith) (omega arith, (omega arith, (omega arith, (omega arith, tt)))) in
    rw e refl

module _ (c : In_default) where
  not_nan : c.args.word.now ≡ bytes_of "nan" → ⊥
  not_nan e =
      let l : length c.args.word.now ≡ 3 = ap length e in
      let b0 : get_or c.args.word.now 0 0 ≡ 110 = ap (λ s. get_or s 0 0) e in
      let b1 : get_or c.args.word.now 1 0 ≡ 97 = ap (λ s. get_or s 1 0) e in
      let b2 : get_or c.args.word.now 2 0 ≡ 110 = ap (λ s. get_or s 2 0) e in
      grind (arith, c.in_default.branch)

  not_inf : c.args.word.now ≡ bytes_of "inf" → ⊥
  not_inf e =
      let l : length c.args.word.now ≡ 3 = ap length e in
      let b0 : get_or c.args.word.now 0 0 ≡ 105 = ap (λ s. get_or s 0 0) e in
      let b1 : get_or c.args.word.now 1 0 ≡ 110 = ap (λ s. get_or s 1 0) e in
      let b2 : get_or c.args.word.now 2 0 ≡ 102 = ap (λ s. get_or s 2 0) e in
      grind (arith, c.in_default.branch)

  not_minus_inf : c.args.word.now ≡ bytes_of "-inf" → ⊥
  not_minus_inf e =
      let l : length c.args.word.now ≡ 4 = ap length e in
      let b0 : get_or c.args.word.now 0 0 ≡ 45 = ap (λ s. get_or s 0 0) e in
      let b1 : get_or c.args.word.now 1 0 ≡ 105 = ap (λ s. get_or s 1 0) e in
      let b2 : get_or c.args.word.now 2 0 ≡ 110 = ap (λ s. get_or s 2 0) e in
      let b3 : get_or c.args.word.now 3 0 ≡ 102 = ap (λ s. get_or s 3 0) e in
      grind (arith, c.in_default.branch)

pub returns-in-Some : goal.returns-in-Some
returns-in-Some c =
    let d = (goal.at.returns-in-Some c).In_default in
    let strip = c.in-Some.ensures.cases in
    c.bits.ensures ∙ ap bits_of strip.1 ∙ num_bits c.args.word.now (not_nan d) (not_inf d) (not_minus_inf d) strip.0

pub returns-in-None : goal.returns-in-None
returns-in-None c =
    let d = (goal.at.returns-in-None c).In_default in
    c.decimal.ensures ∙ num_decimal c.args.word.now (not_nan d) (not_inf d) (not_minus_inf d) c.in-None.ensures.cases
