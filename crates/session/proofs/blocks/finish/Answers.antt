-- `session::blocks::finish` meets its contract: the end of the file ends the line that has begun.
use Rattle.std.proofs.Common.{ap, ◌∙◌}
use Rattle.session.proofs.Ended.{line_done}
use Rattle.session.proofs.Steps.{finishes}
use Rattle.session.proofs.blocks.finish.Goals as goal

pub returns : goal.returns
returns c =
    let s = c.args.session in
    ap (λ w. w.text) (c.answer.ensures ∙ line_done s.number s.state s.line c.kind_of-kind.result c.size.ensures c.first-held.ensures c.kind_of-kind.ensures)
    ∙ finishes s
