-- A byte of the template after another is written, by the laws of `Room`.
use Rattle.std.proofs.Common.{◌<◌, ◌+◌, length, ◌∙◌, arith}
use Rattle.session_texts.specs.Text.{said}
use Rattle.session_templates.proofs.Room.{piece_at, filled_on, filled_end}
use Rattle.session_templates.proofs.filled.Goals as goal

pub loop-byte-preserved : goal.loop-byte-preserved
loop-byte-preserved c =
    let l = c.loop-byte in
    let n = c.args.letters in
    let t = c.args.template.now in
    let i = l.byte-index in
    let inside : i < length t = omega arith in
    l.invariant
    ∙ filled_on n.a n.b n.z t i (i + 1) _ (said l.text) (piece_at n.a n.b n.z t i inside) c.push_piece.ensures

pub returns : goal.returns
returns c =
    let l = c.loop-byte in
    let n = c.args.letters in
    filled_end n.a n.b n.z c.args.template.now l.byte-index (said l.text) (omega arith) l.invariant c.end_line.ensures
