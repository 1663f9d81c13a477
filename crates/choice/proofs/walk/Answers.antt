-- `walk` meets its contract: each turn of the outer loop takes the next key of the order, which the scan finds.
use Rattle.std.proofs.Common.{◌%◌, rules, ℕ, ◌+◌, ◌≡◌, arith, sym, ap, ◌∙◌, subst, length, get_or, length-append}
use Rattle.std.proofs.lemmas.List.{get_or_default}
use Rattle.std.proofs.lemmas.Iterator.{YieldsList-from_slice}
use Rattle.std.proofs.lemmas.Iterator.Consumers.{YieldsList-turn, YieldsList-end}
use Rattle.choice_rules.specs.Code.{lesser_of}
use Rattle.choice_rules.proofs.Turns.{Least, NextKey, least_turn, least_next, top, top_small, first_top, less}
use Rattle.choice_rules.proofs.Turns.{walked_start, says_end, says_far, says_read, says_camp, walked_on}
use Rattle.choice.proofs.walk.Goals as goal
use Rattle.choice.proofs.walk.Goals.{In_default, Joined-tried-eq0, then-tried-eq0, else-tried-eq0}

pub order-init : goal.order-init
order-init c = walked_start c.requires

pub scan-preserved : goal.scan-preserved
scan-preserved c =
    let ks = c.args.keys.now in
    let y = c.scan.yielded in
    let t = YieldsList-turn (YieldsList-from_slice ks c.iter-left.ensures.rest) y c.scan.left c.scan.yielded_by
    c.next.result c.next.new.self c.in-Some.key c.in-Some.is c.next.ensures.steps in
    let k : c.in-Some.key.now ≡ get_or ks (length y) 0 = t.1 ∙ get_or_default ks (length y) c.in-Some.key.now 0 t.0 in
    record {
      can = tt;
      ends = tt;
      least = simp length-append (subst (λ (x : ℕ). Least ks c.order.from x (length y + 1))
          (sym (c.lesser-next.ensures ∙ ap (λ (x : ℕ). lesser_of c.order.from x c.scan.next) k)) (least_turn c.scan.invariant.least t.0));
    }

-- the scan has gone over all the keys
at_end : (c : In_default) → length c.scan.yielded ≡ length c.args.keys.now
at_end c =
    (YieldsList-end (YieldsList-from_slice c.args.keys.now c.iter-left.ensures.rest) c.scan.yielded c.scan.left c.scan.yielded_by
    c.next.result c.next.new.self c.in_default.is c.next.ensures.steps).1

pub returns-then-next-ge-PASSED : goal.returns-then-next-ge-PASSED
returns-then-next-ge-PASSED c =
    says_end c.requires c.order.invariant c.scan.invariant.least (at_end (goal.at.returns-then-next-ge-PASSED c).In_default) c.if-next-ge-PASSED.true

-- where some key is left, it has found the next one of the order
next_key : (c : Joined-tried-eq0) → NextKey c.args.keys.now c.args.margin c.args.outcomes.now c.order.from c.scan.next
next_key c =
    let e = YieldsList-end (YieldsList-from_slice c.args.keys.now c.iter-left.ensures.rest) c.scan.yielded c.scan.left c.scan.yielded_by
    c.next.result c.next.new.self c.in_default.is c.next.ensures.steps in
    least_next c.requires c.scan.invariant.least e.1 c.if-next-ge-PASSED.false

-- and the first found is the strongest
strongest_is_top : (c : Joined-tried-eq0) → c.if-tried-eq0.strongest ≡ top c.args.keys.now c.args.margin c.args.outcomes.now
strongest_is_top c = elim c.if-tried-eq0.branch [
  | then-tried-eq0 w ↦ w.strongest-is ∙ first_top c.requires c.order.invariant (next_key c) w.if-tried-eq0.true
  | else-tried-eq0 w ↦ w.strongest-is ∙ c.order.invariant.tops w.if-tried-eq0.false
]

pub overflow_add-strongest : goal.overflow_add-strongest
overflow_add-strongest c =
    let t = strongest_is_top (goal.at.overflow_add-strongest c).Joined-tried-eq0 in
    let h = top_small c.requires in
    let m = c.requires.small in
    omega arith

pub order-smaller : goal.order-smaller
order-smaller c = less c.requires c.order.invariant (next_key (goal.at.order-smaller c).Joined-tried-eq0)

pub order-preserved : goal.order-preserved
order-preserved c =
    let j = (goal.at.order-preserved c).Joined-tried-eq0 in
    let outcome = get_or c.args.outcomes.now (c.scan.next % 2048) 0 in
    let unread : outcome ≡ 0 → ⊥ = search rules in
    let unsuitable : outcome ≡ 1 → ⊥ = search rules in
    walked_on c.requires c.order.invariant (next_key j) (strongest_is_top j) c.if-strongest-margin.false unread unsuitable

-- the next one is far
pub returns-then-strongest-margin : goal.returns-then-strongest-margin
returns-then-strongest-margin c =
    let j = (goal.at.returns-then-strongest-margin c).Joined-tried-eq0 in
    says_far c.requires c.order.invariant (next_key j) (strongest_is_top j) c.if-strongest-margin.true

pub returns-in-0 : goal.returns-in-0
returns-in-0 c =
    let j = (goal.at.returns-in-0 c).Joined-tried-eq0 in
    says_read c.requires c.order.invariant (next_key j) (strongest_is_top j) c.if-strongest-margin.false c.in-0.is

pub returns-in-1 : goal.returns-in-1
returns-in-1 c =
    let j = (goal.at.returns-in-1 c).Joined-tried-eq0 in
    says_camp c.requires c.order.invariant (next_key j) (strongest_is_top j) c.if-strongest-margin.false c.in-1.is
