-- `lowest_clear` meets its contract: a turn passes the set bits of one word.
use Rattle.std.proofs.Common.{ℕ, ◌-◌, ◌*◌, ◌≡◌, arith, sym, ap, ◌∙◌, max}
use Rattle.sweep_rules.specs.Map.{is_set}
use Rattle.sweep_rules.specs.Next.{lowest_not}
use Rattle.sweep_rules.proofs.Lowest.{swept_end, lowest_none}
use Rattle.sweep.proofs.WordRuns.{found, goes_on}
use Rattle.sweep.proofs.lowest_clear.Goals as goal

pub returns-then-c-end : goal.returns-then-c-end
returns-then-c-end c =
    let m = c.args.map.now in
    let i = c.loop-i.i in
    let e = c.max-first.ensures in
    found m i c.max-first.result (omega arith) e (c.fits-map i) (omega arith)
    ∙ ap (λ (n : ℕ). lowest_not (is_set m) (swept_end - n) n) e
    ∙ c.loop-i.invariant

pub loop-i-preserved : goal.loop-i-preserved
loop-i-preserved c =
    let m = c.args.map.now in
    let i = c.loop-i.i in
    let e = c.max-first.ensures in
    goes_on m i c.max-first.result (omega arith) e (c.fits-map i) (omega arith)
    ∙ ap (λ (n : ℕ). lowest_not (is_set m) (swept_end - n) n) e
    ∙ c.loop-i.invariant

pub returns : goal.returns
returns c =
    let e : c.loop-i.i ≡ 17 = omega arith in
    sym (lowest_none (is_set c.args.map.now) (max 2 (c.loop-i.i * 64)) (omega arith)) ∙ c.loop-i.invariant
