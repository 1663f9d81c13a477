-- What is claimed of the answers beyond the contracts; proved in `proofs/Claims.antt` under the same name.
use Rattle.std.specs.Prelude.{ℕ, ◌≡◌, List, ℤ, Float}
use Rattle.refusal.specs.Told.{Told, acceptance}
use Rattle.readings_rules.specs.declared.Reading.{Reading}
use Rattle.readings_rules.specs.declared.Burst.{Burst}
use Rattle.readings_rules.specs.declared.Burst.TheVariants.{Heard}
use Rattle.readings_rules.specs.Hundredths.{level_of, quality_of}
use Rattle.readings_rules.specs.Back.{level_back, quality_back}
use Rattle.readings_rules.specs.Float.{level_shown, quality_shown}
use Rattle.readings_rules.specs.Burst.{burst_of}
use Rattle.sweep_rules.specs.declared.Sweep.{Sweep}
use Rattle.sweep_rules.specs.Filing.{filing, leaves, checking}
use Rattle.sweep_rules.specs.Next.{next_told}
use Rattle.sweep_rules.specs.Counts.{counts_told}
use Rattle.choice_rules.specs.Choose.{choosing}
use Rattle.watch_rules.specs.declared.Watch.{Watch}
use Rattle.watch_rules.specs.Told.{Call, start, new_beam, file, ask, verdict}
use Rattle.watch_rules.specs.Record as watches
use Rattle.watch_rules.specs.Record.{called}
use Rattle.power_rules.specs.declared.PowerParameters.{PowerParameters}
use Rattle.power_rules.specs.declared.PowerRecord.{PowerRecord}
use Rattle.power_rules.specs.declared.Decoded.{Decoded}
use Rattle.power_rules.specs.Calls as powers
use Rattle.power_rules.specs.Calls.{HandedBack, ToSend, started, stepped}
use Rattle.host_rules.specs.Answers.{refusal_number, hundredths_answer, float_answer, burst_answer, sweep_beside, next_answer, counts_answer, choice_answer, watch_outcome, levels_answer, verdict_answer, power_outcome, sent_answer, sent_outcome}

-- f is one-to-one over what g gives
abbrev pub OneToOneOver : {A B C : Type 0} → (A → B) → (B → C) → Type 0
OneToOneOver {A} g f = (a b : A) → f (g a) ≡ f (g b) → g a ≡ g b

-- a call on a watch whose answer is its acceptance alone
abbrev pub Changes : Call → Type 0
Changes (start c d) = Unit {0}
Changes (new_beam s l) = Unit {0}
Changes (file c b) = Unit {0}
Changes (ask c) = ⊥
Changes (verdict h) = ⊥

-- a watch with such a call
pub record Changing : Type 0 where
  pub watch : Watch
  pub call : Call
  pub changes : Changes call

-- a filing in a sweep, and what it hands back: the sweep, and its answer
pub record SweepFiling : Type 0 where
  pub sweep : Sweep
  pub channel : ℕ
  pub burst : Burst Float

abbrev pub handed_sweep : SweepFiling → Sweep × Told Unit
handed_sweep x = (leaves x.sweep (filing x.sweep x.channel x.burst), acceptance (filing x.sweep x.channel x.burst))

-- a power step
pub record PowerStep : Type 0 where
  pub parameters : PowerParameters
  pub power : PowerRecord
  pub decoded : Decoded
  pub sqi : ℤ

abbrev pub handed_power : PowerStep → HandedBack ToSend
handed_power x = stepped x.parameters x.power x.decoded x.sqi

-- nothing is lost at the border: the numbers that a host finds fix what is told of the call, a place too, and the record beside it. It is said
-- over what each call gives; and what is told fixes the library's answer (`AnswersDiffer` of each part)
pub record NothingLost : Type 0 where
  pub level : OneToOneOver level_of hundredths_answer
  pub quality : OneToOneOver quality_of hundredths_answer
  pub level_back : OneToOneOver level_back hundredths_answer
  pub quality_back : OneToOneOver quality_back hundredths_answer
  pub level_shown : OneToOneOver level_shown float_answer
  pub quality_shown : OneToOneOver quality_shown float_answer
  pub burst : OneToOneOver (λ (r : Reading Float). burst_of (Heard r)) burst_answer
  pub sweep : OneToOneOver handed_sweep (λ (h : Sweep × Told Unit). sweep_beside h.0 h.1)
  pub next : OneToOneOver next_told next_answer
  pub counts : OneToOneOver counts_told counts_answer
  pub choice : OneToOneOver (λ (x : Sweep × ℤ × List ℕ). choosing x.0 x.1 x.2) choice_answer
  pub watch : OneToOneOver (λ (x : Changing). called x.watch x.call) watch_outcome
  pub levels : OneToOneOver (λ (x : Watch × ℕ). (called x.0 (ask x.1)).answer) levels_answer
  pub verdict : OneToOneOver (λ (x : Watch × ℤ). (called x.0 (verdict x.1)).answer) verdict_answer
  pub power : OneToOneOver started power_outcome
  pub sent : OneToOneOver (λ (x : PowerStep). (handed_power x).answer) sent_answer
  pub step : OneToOneOver handed_power sent_outcome
  -- the tests of a sweep, a watch and a power record: the number alone
  pub sweep_number : OneToOneOver checking refusal_number
  pub watch_number : OneToOneOver (λ (w : Watch). (watches.tested w).answer) refusal_number
  pub power_number : OneToOneOver (λ (r : PowerRecord). (powers.tested r).answer) refusal_number
