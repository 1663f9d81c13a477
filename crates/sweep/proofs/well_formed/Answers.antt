-- `well_formed` meets its contract. A record is well formed exactly when the ends of its map of visited channels are clear and each of its
-- words stands as it may.
use Rattle.std.proofs.Common.{◌<◌, ◌≡◌, ◌∙◌, sym, arith, rules, length, below_more, length-append}
use Rattle.std.proofs.lemmas.Iterator.Consumers.{YieldsList-turn, YieldsList-end}
use Rattle.sweep_rules.specs.Code.{word_fine}
use Rattle.sweep_rules.proofs.Tests.{clash}
use Rattle.sweep_rules.proofs.Formed.{formed, unformed, words_formed, formed_ends, formed_word, word_of}
use Rattle.sweep.proofs.WordChunks.{words_given, words_length, word_is}
use Rattle.sweep.proofs.well_formed.Goals as goal
use Rattle.sweep.proofs.well_formed.Goals.{In-Some}

pub returns-then-not-ends_clear : goal.returns-then-not-ends_clear
returns-then-not-ends_clear c = sym (unformed _ (λ w. clash (formed_ends _ w) (sym c.if-not-ends_clear.ensures)))

-- which word a turn goes over
turn : (c : In-Some) → (length c.loop-levels.yielded < 17)
    × (word_fine c.in-Some.levels.now 0 c.in-Some.visited.now c.in-Some.heard.now ≡ word_of c.args.sweep.now (length c.loop-levels.yielded))
turn c =
    let w = c.args.sweep.now in
    let l = c.loop-levels in
    let road = words_given c.into_iter-levels-iterator.result w (search rules) (search rules) (search rules) (search rules) in
    let t = YieldsList-turn road l.yielded l.levels-iterator l.yielded_by c.next.result c.next.new.self _ c.in-Some.is c.next.ensures.steps in
    let few : length l.yielded < 17 = omega (arith, t.0, words_length w (omega arith) (omega arith) (omega arith)) in
    (few, word_is w (omega arith) (omega arith) (omega arith) (length l.yielded) _ few t.1)

pub returns-then-not-word_fine : goal.returns-then-not-word_fine
returns-then-not-word_fine c =
    let t = turn (goal.at.returns-then-not-word_fine c).In-Some in
    sym (unformed _ (λ w. clash (t.1 ∙ formed_word c.args.sweep.now w (length c.loop-levels.yielded) t.0) (sym c.if-not-word_fine.ensures)))

pub loop-levels-preserved : goal.loop-levels-preserved
loop-levels-preserved c =
    let t = turn (goal.at.loop-levels-preserved c).In-Some in
    simp length-append (below_more _ _ c.loop-levels.invariant (sym t.1 ∙ sym c.if-not-word_fine.ensures))

pub returns : goal.returns
returns c =
    let w = c.args.sweep.now in
    let l = c.loop-levels in
    let road = words_given c.into_iter-levels-iterator.result w (search rules) (search rules) (search rules) (search rules) in
    let e = YieldsList-end road l.yielded l.levels-iterator l.yielded_by c.next.result c.next.new.self c.in-None.is c.next.ensures.steps in
    let all : length l.yielded ≡ 17 = e.1 ∙ words_length w (omega arith) (omega arith) (omega arith) in
    sym (formed _ (words_formed _ (sym c.if-not-ends_clear.ensures) (λ j h. l.invariant j (omega arith))))
