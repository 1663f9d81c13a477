-- By the laws of `Bursts`: what both floats gave lies in the ranges.
use Rattle.std.proofs.Common.{ap₂, ◌∙◌, ◌≡◌, ℤ, w32, to_z, of_z, rules}
use Rattle.refusal.specs.Told.{gives}
use Rattle.readings_rules.specs.Burst.{heard}
use Rattle.readings_rules.proofs.Bursts.{burst_is, in_range_too}
use Rattle.readings.proofs.burst_to_hundredths.Goals as goal

pub returns-in_ok-quality_to_hundredths-in-Heard-clause-range :
    goal.returns-in_ok-quality_to_hundredths-in-Heard-clause-range
returns-in_ok-quality_to_hundredths-in-Heard-clause-range c =
    let l = c.in_ok-level_to_hundredths-in-Heard in
    let q = c.in_ok-quality_to_hundredths-in-Heard in
    let l-is : to_z w32 (of_z w32 l.field-0) ≡ l.field-0 = search rules in
    let q-is : to_z w32 (of_z w32 q.field-0) ≡ q.field-0 = search rules in
    (in_range_too c.args.b (ap₂ (λ (l q : ℤ). gives (heard l q)) l-is q-is ∙ burst_is c.in-Heard.is l.ensures q.ensures)).1
