-- The four ends of a step: refused with 9, 7 or 1, or accepted. Each is the definition's, once the tests before it are known.
use mathlib.Core.Path.{◌≡◌, sym, ap, ◌∙◌}
use mathlib.Core.Bool.{true, false, ◌&&◌}
use Prim.Native.Nat.{ℕ, ◌≤◌}
use lib.IntN.{ℤ, pos}
use Rattle.std.specs.Prelude.{Ok, Err}
use Rattle.refusal.specs.declared.Refusal.{Refusal}
use Rattle.refusal.specs.declared.Refusal.TheVariants.{ReadingOutOfRange, ParameterOutOfRange, RecordNotWellFormed}
use Rattle.refusal.specs.declared.Handed.{Handed}
use Rattle.refusal.specs.Told.{refused_for, gives}
use Rattle.readings_rules.specs.Ranges.{quality_in_range}
use Rattle.power_rules.specs.declared.PowerParameters.{PowerParameters}
use Rattle.power_rules.specs.declared.PowerRecord.{PowerRecord}
use Rattle.power_rules.specs.declared.Decoded.{Decoded}
use Rattle.power_rules.specs.declared.Sent.{Sent}
use Rattle.power_rules.specs.PowerSteps.{parameters_in_range, codes_in_range, well_formed, pan_use, record_after}
use Rattle.power_rules.specs.Calls.{HandedBack, ToSend, stepped, sending}
use Rattle.power_rules.specs.Told.{told_answer}
use Rattle.power_rules.specs.Code.{quality_span, above_lowest, par_at, pan_at}
use Rattle.power_rules.proofs.Whole.{both}
use Rattle.power_rules.proofs.Ranges.{usable, formed, use_below}
use Rattle.power_rules.proofs.Rules.{Above, above, par_law, pan_law}

-- a quality within range, counted from the lowest, is no more than the span
pub above_small : (z : ℤ) → quality_in_range z ≡ true → above_lowest z ≤ quality_span
above_small z e =
    let a : Above z = above z e in
    rw a.is a.small

-- what a step hands back is told by its definition
abbrev pub Tells : Handed PowerRecord Sent → HandedBack ToSend → Type 0
Tells s h = (s.state ≡ h.power) × (told_answer s.answer ≡ h.answer)

-- what is told, as one record
pub told_whole : (s : Handed PowerRecord Sent) (h : HandedBack ToSend) → Tells s h → h ≡ record { power = s.state; answer = told_answer s.answer }
told_whole s h t = λ i. record { power = sym t.0 i; answer = sym t.1 i }

module _ (p : PowerParameters) (r : PowerRecord) (d : Decoded) (sqi : ℤ) where
  refuse : (s : Handed PowerRecord Sent) (why : Refusal) → stepped p r d sqi ≡ record { power = r; answer = refused_for why }
      → (s.state ≡ r) × (s.answer ≡ Err why) → Tells s (stepped p r d sqi)
  refuse s why e h = rw e (h.0, ap told_answer h.1)

  pub refuse_9 : (s : Handed PowerRecord Sent) → (s.state ≡ r) × (s.answer ≡ Err RecordNotWellFormed) → well_formed r ≡ false
      → Tells s (stepped p r d sqi)
  unfolding stepped
  refuse_9 s h f = refuse s RecordNotWellFormed (rw f) h

  pub refuse_7 : (s : Handed PowerRecord Sent) → (s.state ≡ r) × (s.answer ≡ Err ParameterOutOfRange) → well_formed r ≡ true
      → (parameters_in_range p && codes_in_range d) ≡ false → Tells s (stepped p r d sqi)
  unfolding stepped
  refuse_7 s h f g = refuse s ParameterOutOfRange (rw (f, g)) h

  pub refuse_1 : (s : Handed PowerRecord Sent) → (s.state ≡ r) × (s.answer ≡ Err ReadingOutOfRange) → well_formed r ≡ true
      → (parameters_in_range p && codes_in_range d) ≡ true → quality_in_range sqi ≡ false → Tells s (stepped p r d sqi)
  unfolding stepped
  refuse_1 s h f g q = refuse s ReadingOutOfRange (rw (f, g, q)) h

  pub stepped_is : well_formed r ≡ true → (parameters_in_range p && codes_in_range d) ≡ true → quality_in_range sqi ≡ true
      → stepped p r d sqi ≡ record { power = record_after p r d; answer = gives (sending p r d sqi) }
  unfolding stepped
  stepped_is f g q = rw (f, g, q)

  pub accept : (s : Handed PowerRecord Sent) (n : ℕ)
      → (s.state ≡ record_after p r d) × (s.answer ≡ Ok (record { par = par_at p (pan_use r d) n; pan = pan_at p (record_after p r d) }))
      → n ≡ above_lowest sqi → well_formed r ≡ true → (parameters_in_range p && codes_in_range d) ≡ true → quality_in_range sqi ≡ true
      → Tells s (stepped p r d sqi)
  unfolding sending
  accept s n h e f g q =
      let par = ap (λ (m : ℕ). pos (par_at p (pan_use r d) m)) e ∙ sym (par_law p (pan_use r d) (use_below r d (formed r f)) sqi q) in
      let pan = sym (pan_law p (record_after p r d) (usable p (both _ _ g).0).limits) in
      rw (stepped_is f g q) (h.0, ap told_answer h.1 ∙ λ i. gives (record { par = par i; pan = pan i }))
