-- The bytes that a buffer of a fixed size holds.
use Rattle.std.specs.Prelude.{ℕ, List, take}
use Rattle.session_words.specs.declared.Held.{Held as Buffer}

abbrev pub held : {N : ℕ} → Buffer N → List ℕ
held h = take h.length h.bytes
