-- The library's test of two slices is the one of two words.
use Rattle.std.proofs.Common.{◌∙◌}
use Rattle.session_words.proofs.Runs.{alike_is}
use Rattle.session_words.proofs.same.Goals as goal

pub returns : goal.returns
returns c = c.eq.ensures ∙ alike_is c.args.a.now c.args.b.now
