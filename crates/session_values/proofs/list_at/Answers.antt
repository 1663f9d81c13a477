-- The words from the place on, 8 at most, in turn.
use Rattle.std.proofs.Common.{ℕ, ◌<◌, ◌==◌, List, [], ◌∷◌, ◌++◌, map, length, take, drop, refl, ap, ◌∙◌, arith}
use Rattle.std.proofs.lemmas.List.{length-map, map_push}
use Rattle.std.specs.Prelude.{unwrap_or}
use lib.Dec.{lit<}
use lib.ListN.{length-take}
use Rattle.std.proofs.lemmas.Iterator.{YieldsList, YieldsList-from_take}
use Rattle.std.proofs.lemmas.Iterator.Adapters.{YieldsList-from_skip}
use Rattle.std.proofs.lemmas.Iterator.Consumers.{YieldsList-at, YieldsList-turn, YieldsList-end}
use Rattle.std.proofs.lemmas.Iterator.Splits.{YieldsList-from_slice_split}
use Rattle.std.specs.Borrow.{Bor}
use Rattle.std.specs.List.{slice_split}
use Rattle.session_words.specs.Words.{space, words_of}
use Rattle.session_words.proofs.Cuts.{words_are}
use Rattle.session_values.specs.Values.{channel}
use Rattle.session_values.proofs.Lists.{channels_are}
use Rattle.session_values.proofs.list_at.Given as given
use Rattle.session_values.proofs.list_at.Goals as goal
use Rattle.session_values.proofs.list_at.Goals.{After-into_iter-word-iterator}

module _ (c : After-into_iter-word-iterator) where
  words : YieldsList given.iterator-loop-word.next_gives (λ (w : Bor (List ℕ)). w.now) c.into_iter-word-iterator.result
      (take 8 (drop c.args.place (slice_split (λ b. b == space) c.args.line.now)))
  words =
      let s = c.split.ensures in
      let split = YieldsList-from_slice_split _ (λ b. b == space) c.args.line.now s.rest s.done s.closure (λ x b q k. (refl, grind (arith, k))) in
      let skip = YieldsList-from_skip c.args.place (YieldsList-at c.skip.ensures.source split) c.skip.ensures.count in
      let taken = YieldsList-from_take 8 (YieldsList-at c.take-word-items.ensures.source skip) c.take-word-items.ensures.count in
      YieldsList-at c.into_iter-word-iterator.ensures.into_iter_gives taken

pub push-requires : goal.push-requires
push-requires c =
    let w = words (goal.at.push-requires c).After-into_iter-word-iterator in
    let l = c.loop-word in
    let turn = YieldsList-turn w l.yielded l.word-iterator l.yielded_by c.next.result c.next.new.self c.in-Some.word c.in-Some.is c.next.ensures.steps in
    let few : length l.channels.items < 8
    = omega (arith, length-take {A = List ℕ}, ap length l.invariant, length-map {A = List ℕ} {B = ℕ}, length-map {A = Bor (List ℕ)} {B = List ℕ}, turn.0) in
    (lit< tt, few)

pub loop-word-preserved : goal.loop-word-preserved
loop-word-preserved c =
    rw (map_push, map_push)
    (c.push.ensures.items ∙ ap (λ r. r ++ c.unwrap_or.result ∷ []) c.loop-word.invariant
    ∙ ap (λ n. map channel (map (λ w. w.now) c.loop-word.yielded) ++ n ∷ []) (c.unwrap_or.ensures ∙ ap (λ o. unwrap_or o 0) c.natural.ensures.value))

pub returns : goal.returns
returns c =
    let w = words (goal.at.returns c).After-into_iter-word-iterator in
    let l = c.loop-word in
    let end = YieldsList-end w l.yielded l.word-iterator l.yielded_by c.next.result c.next.new.self c.in-None.is c.next.ensures.steps in
    l.invariant
    ∙ ap (map channel) end.0
    ∙ ap (λ ws. map channel (take 8 (drop c.args.place ws))) (words_are c.args.line.now)
    ∙ channels_are (words_of c.args.line.now) c.args.place
