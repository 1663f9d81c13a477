-- The answer of a power step in document 01's terms: what is told of a refusal, or the two codes to send.
use Rattle.std.specs.Prelude.{Result, pos}
use Rattle.refusal.specs.declared.Refusal.{Refusal}
use Rattle.refusal.specs.Told.{Told, told_as}
use Rattle.power_rules.specs.declared.Sent.{Sent}
use Rattle.power_rules.specs.Calls.{ToSend}

abbrev pub to_send : Sent → ToSend
to_send s = record { par = pos s.par; pan = pos s.pan }

abbrev pub told_answer : Result Sent Refusal → Told ToSend
told_answer answer = told_as to_send answer
