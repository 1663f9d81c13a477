-- What is kept of it, by the law of `Growing`.
use Rattle.std.proofs.Common.{◌≡◌, suc, ◌+◌, min, ◌++◌, length, take, rules, ap, ◌∙◌, arith}
use Rattle.std.proofs.lemmas.List.{take-take}
use Rattle.session_lines.specs.Lines.{longest}
use Rattle.session_lines.proofs.Growing.{kept_is, grown}
use Rattle.session_lines.proofs.Line.push.Goals as goal
use Rattle.session_lines.proofs.Line.push.Goals.{then-size-room, else-size-room}

pub returns : goal.returns
returns c =
    let old = c.args.self.now.bytes in
    let more = c.args.more.now in
    let new = c.push.new.self in
    let within = c.room-room.ensures.within in
    let size : c.size.result ≡ min old.length (suc longest) = c.size.ensures ∙ ap (λ k. k.size) (kept_is old.length old.bytes within) in
    let grows : c.size.result + length more ≡ min old.length (suc longest) + length more = ap (λ n. n + length more) size in
    let after : min c.if-size-room.self (suc longest) ≡ min (min old.length (suc longest) + length more) (suc longest) =
    elim c.if-size-room.branch [ then-size-room w ↦ omega (arith, grows) | else-size-room w ↦ omega (arith, grows) ] in
    let bytes : take longest (take new.length new.bytes) ≡ take longest (take old.length old.bytes ++ more) = ap (take longest) c.push.ensures ∙ search (rules, take-take) in
    grown old.length c.if-size-room.self new.length old.bytes new.bytes more within bytes after
