-- The words of both, as the library splits them.
use Rattle.std.proofs.Common.{refl, arith}
use Rattle.session_words.specs.Words.{words_of}
use Rattle.session_calls.proofs.Splits.{words_split}
use Rattle.session_calls.proofs.fits.Goals as goal

pub returns : goal.returns
returns c =
    let r = c.split.ensures in
    let s = c.split-2.ensures in
    c.fits_words.ensures (words_of c.args.row.now) (words_of c.args.line.now)
    (words_split _ _ _ c.args.row.now r.rest r.done r.closure (λ x b q k. (refl, grind (arith, k))))
    (words_split _ _ _ c.args.line.now s.rest s.done s.closure (λ x b q k. (refl, grind (arith, k))))
