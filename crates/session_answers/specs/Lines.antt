-- Session files, section Calls and what they write: the line of each answer, over what is told of it.
use Rattle.std.specs.Prelude.{ℕ, List, ◌++◌, ℤ, nat_abs, Float}
use Rattle.refusal.specs.declared.Reason.{Reason}
use Rattle.refusal.specs.declared.Reason.TheVariants.{Alone, At}
use Rattle.refusal.specs.Told.{Told, gives, refused}
use Rattle.sweep_rules.specs.Next.{Next, channel, done}
use Rattle.sweep_rules.specs.Counts.{Counts}
use Rattle.choice_rules.specs.Choose.{Chosen, camp, read, no_beam}
use Rattle.watch_rules.specs.Told.{Given, accepted, levels, wait, stay, move_to}
use Rattle.power_rules.specs.Calls.{ToSend}
use Rattle.session_words.specs.Bytes.{bytes_of}
use Rattle.session_texts.specs.Text.{bits_text}
use Rattle.session_templates.specs.Filled.{line, filled, says}

-- a refusal: its number, and the place where one is told
abbrev pub refused_text : Reason → List ℕ
refused_text (Alone n) = says "refused A" n 0
refused_text (At n place) = says "refused A at B" n place

-- the line of an answer, by the text of what an accepted call gives
abbrev pub answer_line : {A : Type 0} → (A → List ℕ) → Told A → List ℕ
answer_line text (gives a) = line (text a)
answer_line text (refused n) = line (refused_text n)

abbrev pub accepted_text : List ℕ
accepted_text = says "accepted" 0 0

abbrev pub hundredths_text : ℤ → List ℕ
hundredths_text h = filled (bytes_of "hundredths Z") 0 0 h

abbrev pub float_text : Float → List ℕ
float_text x = bytes_of "float 0x" ++ bits_text x

abbrev pub next_text : Next → List ℕ
next_text (channel c) = says "next A" c 0
next_text done = says "done" 0 0

abbrev pub counts_text : Counts → List ℕ
counts_text n = says "visited A heard B" n.visited n.heard

abbrev pub choice_text : Chosen → List ℕ
choice_text (camp c n) = says "camp A tried B" c n
choice_text (read c n) = says "read A tried B" c n
choice_text (no_beam n) = says "no beam tried A" n 0

abbrev pub watch_text : Given → List ℕ
watch_text accepted = accepted_text
watch_text (levels count mean) = filled (bytes_of "count A mean Z") count 0 mean
watch_text wait = says "wait" 0 0
watch_text stay = says "stay" 0 0
watch_text (move_to c) = says "move A" c 0

abbrev pub power_text : ToSend → List ℕ
power_text s = says "par A pan B" (nat_abs s.par) (nat_abs s.pan)

unfoldable pub outcome_line : Told Unit → List ℕ
outcome_line = answer_line (λ _. accepted_text)

unfoldable pub hundredths_line : Told ℤ → List ℕ
hundredths_line = answer_line hundredths_text

unfoldable pub float_line : Told Float → List ℕ
float_line = answer_line float_text

unfoldable pub next_line : Told Next → List ℕ
next_line = answer_line next_text

unfoldable pub counts_line : Told Counts → List ℕ
counts_line = answer_line counts_text

unfoldable pub choice_line : Told Chosen → List ℕ
choice_line = answer_line choice_text

unfoldable pub watch_line : Told Given → List ℕ
watch_line = answer_line watch_text

unfoldable pub power_line : Told ToSend → List ℕ
power_line = answer_line power_text

-- what is written for a line that is none of the calls, by its number in the file
abbrev pub error_line : ℕ → List ℕ
error_line n = line (says "error line A" n 0)
