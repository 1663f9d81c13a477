-- The tests of the library's parts are the definitions', and what they say is the invariant of what passed. Each end is one of the laws of `Ends`.
use Rattle.std.proofs.Common.{◌≡◌, ◌∙◌, ◌&&◌, sym, refl, true, false, Err, w32}
use Rattle.std.proofs.lemmas.Int.{to_z-of_z}
use Rattle.refusal.specs.declared.Refusal.{Refusal}
use Rattle.refusal.specs.declared.Refusal.TheVariants.{ReadingOutOfRange, ParameterOutOfRange, RecordNotWellFormed}
use Rattle.refusal.specs.declared.Handed.{Handed}
use Rattle.readings_rules.specs.Ranges.{quality_in_range}
use Rattle.power_rules.specs.declared.PowerRecord.{PowerRecord}
use Rattle.power_rules.specs.declared.Sent.{Sent}
use Rattle.power_rules.specs.PowerSteps.{parameters_in_range, codes_in_range, well_formed}
use Rattle.power_rules.proofs.Whole.{both}
use Rattle.power_rules.proofs.Ranges.{usable, formed}
use Rattle.power.proofs.Ends.{told_whole, refuse_9, refuse_7, refuse_1, stepped_is}
use Rattle.power.proofs.Accepted.new.Goals as goal

-- a refusal, beside the record that was given
abbrev refusing : PowerRecord → Refusal → Handed PowerRecord Sent
refusing r why = record { state = r; answer = Err why }

pub returns-then-not-well_formed-clause-refused : goal.returns-then-not-well_formed-clause-refused
returns-then-not-well_formed-clause-refused c =
    let a = c.args in
    let s = refusing a.r RecordNotWellFormed in
    told_whole s _ (refuse_9 a.p a.r a.d a.sqi s (refl, refl) (sym c.well_formed-2.ensures ∙ c.if-not-well_formed.true))

pub returns-then-not-parameters_in_range-codes_in_range-clause-refused :
    goal.returns-then-not-parameters_in_range-codes_in_range-clause-refused
returns-then-not-parameters_in_range-codes_in_range-clause-refused c =
    let a = c.args in
    let s = refusing a.r ParameterOutOfRange in
    let f : well_formed a.r ≡ true = sym c.well_formed-2.ensures ∙ c.if-not-well_formed.false in
    let g : (parameters_in_range a.p && codes_in_range a.d) ≡ false =
    (λ i. sym c.parameters_in_range.ensures i && sym c.codes_in_range.ensures i) ∙ c.if-not-parameters_in_range-codes_in_range.true in
    told_whole s _ (refuse_7 a.p a.r a.d a.sqi s (refl, refl) f g)

pub returns-then-not-sqi-clause-refused : goal.returns-then-not-sqi-clause-refused
returns-then-not-sqi-clause-refused c =
    let a = c.args in
    let s = refusing a.r ReadingOutOfRange in
    let f : well_formed a.r ≡ true = sym c.well_formed-2.ensures ∙ c.if-not-well_formed.false in
    let g : (parameters_in_range a.p && codes_in_range a.d) ≡ true =
    (λ i. sym c.parameters_in_range.ensures i && sym c.codes_in_range.ensures i) ∙ c.if-not-parameters_in_range-codes_in_range.false in
    let q : quality_in_range a.sqi ≡ false = rw (to_z-of_z w32 a.sqi c.ranges.sqi) at c.if-not-sqi.true in
    told_whole s _ (refuse_1 a.p a.r a.d a.sqi s (refl, refl) f g q)

pub returns-clause-accepted : goal.returns-clause-accepted
returns-clause-accepted c =
    let a = c.args in
    let f : well_formed a.r ≡ true = sym c.well_formed-2.ensures ∙ c.if-not-well_formed.false in
    let g : (parameters_in_range a.p && codes_in_range a.d) ≡ true =
    (λ i. sym c.parameters_in_range.ensures i && sym c.codes_in_range.ensures i) ∙ c.if-not-parameters_in_range-codes_in_range.false in
    let q : quality_in_range a.sqi ≡ true = rw (to_z-of_z w32 a.sqi c.ranges.sqi) at c.if-not-sqi.false in
    stepped_is a.p a.r a.d a.sqi f g q

pub invariant_of-result : goal.invariant_of-result
invariant_of-result c =
    record {
      usable = usable _ (sym c.parameters_in_range.ensures ∙ (both _ _ c.if-not-parameters_in_range-codes_in_range.false).0);
      formed = formed _ (sym c.well_formed-2.ensures ∙ c.if-not-well_formed.false);
      inside = c.if-not-sqi.false;
    }
