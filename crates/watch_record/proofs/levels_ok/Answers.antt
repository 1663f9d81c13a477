-- A count with no room is told at once. A level is in the range as the code asks it, in 32 bits, and 0 where its bits are.
use Rattle.std.proofs.Common.{◌≡◌, ◌+◌, ◌-◌, ℕ, Bool, List, ℤ, length, sym, ap, ap₂, ◌∙◌, rules, arith}
use mathlib.Core.Bool.{◌&&◌, ◌||◌, and_assoc, and-true}
use mathlib.Core.Logic.{⊎_elim}
use lib.Dec.{ltb}
use mir.Syntax.{w16}
use mir.Val.{SFits}
use Rattle.readings_rules.specs.Ranges.{level_in_range}
use Rattle.watch_rules.specs.Limits.{capacity}
use Rattle.watch_rules.specs.Record.{is_zero, levels_fine}
use Rattle.watch_record.proofs.Scan.{bits_zero, one-level, levels_past, levels_lacking}
use Rattle.watch_record.proofs.levels_ok.Goals as goal

pub returns-then-t-gt-CAPACITY : goal.returns-then-t-gt-CAPACITY
returns-then-t-gt-CAPACITY c =
    let t = c.args.t.now in
    let l : length t.levels ≡ capacity = search rules in
    sym (levels_lacking t.count t.levels (omega (arith, c.if-t-gt-CAPACITY.true)))

pub loop-level-init : goal.loop-level-init
loop-level-init c =
    let t = c.args.t.now in
    let l : length t.levels ≡ capacity = search rules in
    let gives = c.into_iter-level-iterator.ensures.into_iter_gives in
    let all : c.into_iter-level-iterator.result.a.rest.now ≡ t.levels =
    ap (λ i. i.a.rest.now) gives ∙ ap (λ i. i.rest.now) c.zip-level-items.ensures.first ∙ c.iter.ensures.rest in
    let start : c.into_iter-level-iterator.result.b.start ≡ 0 = ap (λ i. i.b.start) gives ∙ ap (λ i. i.start) c.zip-level-items.ensures.second in
    let n : t.count - 0 ≡ t.count = omega arith in (
      omega (arith, start, ap length all),
      ap₂ (λ (k : ℕ) (m : List ℤ). levels_fine (t.count - k) m) start all ∙ ap (λ (k : ℕ). levels_fine k t.levels) n,
    )

pub loop-level-preserved : goal.loop-level-preserved
loop-level-preserved c =
    let n = c.args.t.now.count in
    let ok = c.loop-level.ok in
    let x = c.in-Some.level.now in
    let place = c.in-Some.place in
    let xs = c.next.new.self.a.rest.now in
    let step = c.in-Some.ensures.steps in
    let fits : SFits w16 x = search rules in
    let same : c.from.result ≡ x = search rules in
    let ranged : c.contains.result ≡ level_in_range c.from.result = search rules in (
      omega (arith, c.loop-level.invariant.0, ap length step.0, step.1.0, step.1.1),
      ap₂ (λ (a b : Bool). (ok && (a && (ltb place n || b))) && levels_fine (n - c.next.new.self.b.start) xs)
          (ranged ∙ ap level_in_range same)
          (bits_zero x fits)
          ∙ ap (λ (k : ℕ). (ok && (level_in_range x && (ltb place n || is_zero x))) && levels_fine (n - k) xs) step.1.1
          ∙ and_assoc ok (level_in_range x && (ltb place n || is_zero x)) (levels_fine (n - (place + 1)) xs)
          ∙ ap (λ (b : Bool). ok && b) (sym (one-level n place x xs))
          ∙ ap₂ (λ (k : ℕ) (m : List ℤ). ok && levels_fine (n - k) m) step.1.0 (sym step.0)
          ∙ c.loop-level.invariant.1,
    )

pub returns : goal.returns
returns c =
    let n = c.args.t.now.count in
    let ok = c.loop-level.ok in
    let start = c.loop-level.level-iterator.b.start in
    let left = c.loop-level.level-iterator.a.rest.now in
    let room = c.loop-level.invariant.0 in
    let few = c.if-t-gt-CAPACITY.false in
    let none : length left ≡ 0 = ⊎_elim (λ a. a.1.0) (λ b. let e = b.1.0 in absurd (omega arith)) c.in-None.ensures.steps in
    let e : n - start ≡ 0 = omega arith in
    sym (and-true ok) ∙ ap (λ (b : Bool). ok && b) (sym (levels_past (n - start) left e none)) ∙ c.loop-level.invariant.1
