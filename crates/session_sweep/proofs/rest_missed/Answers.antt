-- `session_sweep::rest_missed` meets its contract: a turn files "missed" for one channel more.
use Rattle.std.proofs.Common.{ℕ, suc, ◌≡◌, ◌+◌, ◌-◌, ◌≤◌, refl, sym, ap, ◌∙◌, arith, add-one}
use Rattle.readings_rules.specs.declared.Burst.TheVariants.{Missed}
use Rattle.sweep_rules.specs.declared.Sweep.{Sweep}
use Rattle.sweep_rules.specs.Filing.{filing, leaves}
use Rattle.sweep_rules.specs.Record.{last_swept}
use Rattle.session_sweep.specs.Rows.{missed_from}
use Rattle.session_sweep.proofs.rest_missed.Goals as goal

missed_none : (c : ℕ) (s : Sweep) → missed_from 0 c s ≡ s
unfolding missed_from
missed_none c s = refl

missed_one : (n c : ℕ) (s : Sweep) → missed_from (suc n) c s ≡ missed_from n (c + 1) (leaves s (filing s c Missed))
unfolding missed_from
missed_one n c s = ap (λ k. missed_from n k (leaves s (filing s c Missed))) (sym (add-one c))

pub loop-channel-preserved : goal.loop-channel-preserved
loop-channel-preserved c =
    let at = c.loop-channel in
    let k = at.channel in
    let below : k ≤ last_swept = omega (arith, c.loop-channel-test.true) in
    let n : last_swept + 1 - k ≡ suc (last_swept + 1 - (k + 1)) = omega (arith, below) in (
      omega (arith, below),
      ap (missed_from (last_swept + 1 - (k + 1)) (k + 1)) c.file.ensures.sweep
          ∙ sym (missed_one (last_swept + 1 - (k + 1)) k at.sweep)
          ∙ ap (λ m. missed_from m k at.sweep) (sym n)
          ∙ at.invariant.1,
    )

pub returns : goal.returns
returns c =
    let at = c.loop-channel in
    let n : last_swept + 1 - at.channel ≡ 0 = omega (arith, c.loop-channel-test.false) in
    sym (missed_none at.channel at.sweep) ∙ ap (λ k. missed_from k at.channel at.sweep) (sym n) ∙ at.invariant.1
