-- Kind by kind: the word of the row by its bytes; in the last arm it is none of the four, whichever test it fails.
use Rattle.std.proofs.Common.{◌≡◌, length, get_or, ap, ◌∙◌, arith}
use Rattle.std.specs.Prelude.{is_some}
use Rattle.std.proofs.lemmas.Slice.Eq.{text_from_reads}
use Rattle.session_words.specs.Bytes.{bytes_of, alike}
use Rattle.session_calls.specs.Grammar.{fits_word}
use Rattle.session_calls.proofs.Apart.{other_word}
use Rattle.session_calls.proofs.fits_word.Goals as goal

pub returns-in-CH : goal.returns-in-CH
unfolding fits_word alike
returns-in-CH c =
    let e : c.args.asked.now ≡ bytes_of "CH" = text_from_reads _ _ (omega arith) (omega arith, (omega arith, tt)) in
    rw e (c.is_some.ensures ∙ ap is_some c.natural.ensures.value)

pub returns-in-INT : goal.returns-in-INT
unfolding fits_word alike
returns-in-INT c =
    let e : c.args.asked.now ≡ bytes_of "INT" = text_from_reads _ _ (omega arith) (omega arith, (omega arith, (omega arith, tt))) in
    rw e (c.is_some-in-INT.ensures ∙ ap is_some c.int.ensures)

pub returns-in-NUM : goal.returns-in-NUM
unfolding fits_word alike
returns-in-NUM c =
    let e : c.args.asked.now ≡ bytes_of "NUM" = text_from_reads _ _ (omega arith) (omega arith, (omega arith, (omega arith, tt))) in
    rw e (c.is_some-in-NUM.ensures ∙ ap is_some c.num.ensures)

pub returns-in-BYTE : goal.returns-in-BYTE
unfolding fits_word alike
returns-in-BYTE c =
    let e : c.args.asked.now ≡ bytes_of "BYTE" = text_from_reads _ _ (omega arith) (omega arith, (omega arith, (omega arith, (omega arith, tt)))) in
    rw e (c.is_some-in-BYTE.ensures ∙ ap is_some c.natural-in-BYTE.ensures.value)

pub returns-in_default : goal.returns-in_default
returns-in_default c =
    let a = c.args.asked.now in
    let no_ch : a ≡ bytes_of "CH" → ⊥ = λ e. (
    let l : length a ≡ 2 = ap length e in
    let b0 : get_or a 0 0 ≡ 67 = ap (λ s. get_or s 0 0) e in
    let b1 : get_or a 1 0 ≡ 72 = ap (λ s. get_or s 1 0) e in
    grind (arith, c.in_default.branch)) in
    let no_int : a ≡ bytes_of "INT" → ⊥ = λ e. (
    let l : length a ≡ 3 = ap length e in
    let b0 : get_or a 0 0 ≡ 73 = ap (λ s. get_or s 0 0) e in
    let b1 : get_or a 1 0 ≡ 78 = ap (λ s. get_or s 1 0) e in
    let b2 : get_or a 2 0 ≡ 84 = ap (λ s. get_or s 2 0) e in
    grind (arith, c.in_default.branch)) in
    let no_byte : a ≡ bytes_of "BYTE" → ⊥ = λ e. (
    let l : length a ≡ 4 = ap length e in
    let b0 : get_or a 0 0 ≡ 66 = ap (λ s. get_or s 0 0) e in
    let b1 : get_or a 1 0 ≡ 89 = ap (λ s. get_or s 1 0) e in
    let b2 : get_or a 2 0 ≡ 84 = ap (λ s. get_or s 2 0) e in
    let b3 : get_or a 3 0 ≡ 69 = ap (λ s. get_or s 3 0) e in
    grind (arith, c.in_default.branch)) in
    let no_num : a ≡ bytes_of "NUM" → ⊥ = λ e. (
    let l : length a ≡ 3 = ap length e in
    let b0 : get_or a 0 0 ≡ 78 = ap (λ s. get_or s 0 0) e in
    let b1 : get_or a 1 0 ≡ 85 = ap (λ s. get_or s 1 0) e in
    let b2 : get_or a 2 0 ≡ 77 = ap (λ s. get_or s 2 0) e in
    grind (arith, c.in_default.branch)) in
    c.same.ensures ∙ other_word a c.args.word.now no_ch no_int no_byte no_num
