-- What is written and what is left to write are the line.
use Rattle.std.proofs.Common.{◌≡◌, ◌++◌, take, drop}
use Rattle.session_texts.specs.Text.{room, said}
use Rattle.session_templates.specs.Filled.{filled}
use Rattle.session_templates.proofs.filled.Given as goal

abbrev pub invariant-loop-byte : goal.invariant-loop-byte
invariant-loop-byte l =
    let n = l.letters in
    take room (filled l.template n.a n.b n.z) ≡ take room (said l.text ++ filled (drop l.byte-index l.template) n.a n.b n.z)
