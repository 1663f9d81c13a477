-- `session::blocks::answer_block` meets its contract: by the laws of `Filling`, which the loop keeps. A turn takes bytes without a newline to the
-- end of the block, or a line, which is on the watch or not.
use Rattle.std.proofs.Common.{ℕ, List, [], ◌+◌, ◌-◌, ◌≤◌, ◌<◌, ◌≡◌, true, length, refl, ap, ◌∙◌, arith}
use mathlib.Core.Bool.{and-eq-true_iff, ◌&&◌}
use lib.Dec.{leb, ltb}
use borrow.Author.Tests.{ltb-true, leb-true}
use Rattle.std.proofs.Math.Seq.{paste, paste-zero}
use Rattle.byte_scan.specs.Bytes.{index_of, slice}
use Rattle.session_words.specs.Bytes.{newline, fitting}
use Rattle.session_words.specs.Words.{between}
use Rattle.session_lines.specs.Lines.{kept, kept_of, with_more}
use Rattle.session_lines.specs.declared.Line.{Line}
use Rattle.session_texts.specs.Text.{room, said}
use Rattle.session_texts.specs.declared.Text.{Text}
use Rattle.session.specs.declared.blocks.Session.{Session}
use Rattle.session.specs.File.{line_written, following}
use Rattle.session.specs.Reading.{so_far}
use Rattle.session.proofs.Filling.{Filling, filling_begins, filling_on, filling_moves, line_on, line_ends}
use Rattle.session.proofs.blocks.answer_block.Goals as goal

pub loop-at-init : goal.loop-at-init
loop-at-init c = filling_begins _ _ _

pub overflow_sub-out : goal.overflow_sub-out
overflow_sub-out c = c.loop-at.invariant.fits

-- the two tests of the loop
in_block : (a b r o : ℕ) → (ltb a b && leb r o) ≡ true → a < b
in_block a b r o e = ltb-true a b ((and-eq-true_iff (ltb a b) (leb r o)).0 e).0

has_room : (a b r o : ℕ) → (ltb a b && leb r o) ≡ true → r ≤ o
has_room a b r o e = leb-true r o ((and-eq-true_iff (ltb a b) (leb r o)).0 e).1

-- ---- no newline: the bytes go to the line that has begun

pub loop-at-preserved-then-end-block : goal.loop-at-preserved-then-end-block
loop-at-preserved-then-end-block c =
    let l = c.loop-at in
    let block = c.args.block.now in
    let found = c.find-end in
    let s : Session = record { state = l.state; line = l.line; number = l.number } in
    let t : Session = record { state = l.state; line = c.push.new.self; number = l.number } in
    let inside : l.at < length block = in_block l.at (length block) room (length l.out - l.used) c.loop-at-test.true in
    let some : room ≤ length l.out - l.used = has_room l.at (length block) room (length l.out - l.used) c.loop-at-test.true in
    let goes = line_on block inside found.ensures.place s t c.if-end-block.true c.push.ensures refl refl in
    let none : 0 ≡ fitting [] l.out l.used = omega arith in
    filling_on l.invariant t [] (found.result - l.at) (omega (arith, found.ensures.place)) (omega (arith, inside, c.if-end-block.true))
    (omega (arith, found.ensures.place, found.ensures.most))
    some (omega arith) goes (omega (arith, none)) (paste-zero l.out l.used [] ∙ ap (paste l.out l.used []) none)

-- ---- a newline: the line m is answered

answered : {s₀ : Session} {block out₀ out : List ℕ} {s : Session} {at used : ℕ} (f : Filling s₀ block out₀ out s at used)
    (t : Session) (m : Line) (text : Text) {out' : List ℕ} {end used' : ℕ} → at < length block → room ≤ length out - used
    → end ≡ at + index_of newline (slice at (length block) block) → end < length block → length (said text) ≤ room
    → kept m ≡ with_more (kept s.line) (between block at end) → kept t.line ≡ kept_of []
    → said text ≡ (line_written s.number s.state (so_far m)).text → t.state ≡ (line_written s.number s.state (so_far m)).state
    → t.number ≡ following s.number → used' ≡ used + fitting (said text) out used → out' ≡ paste out used (said text) (fitting (said text) out used)
    → Filling s₀ block out₀ out' t (end + 1) used'
answered {s₀} {block} {out₀} {out} {s} {at} {used} f t m text {out'} {end} i some p e r k b w a n u q =
    let goes = line_ends block i p s t m (said text) e k b w a n in
    filling_on f t (said text) (end + 1 - at) (omega (arith, p)) (omega (arith, p)) (omega (arith, p, e)) some r goes u q

pub loop-at-preserved : goal.loop-at-preserved
loop-at-preserved c =
    let l = c.loop-at in
    let m = c.push.new.self in
    let block = c.args.block.now in
    let inside = in_block l.at (length block) room (length l.out - l.used) c.loop-at-test.true in
    let some = has_room l.at (length block) room (length l.out - l.used) c.loop-at-test.true in
    let put = c.put-used.ensures in
    answered l.invariant _ m c.answer_line.result inside some c.find-end.ensures.place (omega (arith, c.find-end.ensures.most, c.if-end-block.false)) put.fits
    c.push.ensures c.blank-line.ensures
    (ap (λ w. w.text) c.answer_line.ensures) (ap (λ w. w.state) c.answer_line.ensures) c.next_number-number.ensures put.place put.bytes

-- ---- all of it

pub returns-clause-rest : goal.returns-clause-rest
returns-clause-rest c = c.loop-at.invariant.rest

pub returns-clause-beyond : goal.returns-clause-beyond
returns-clause-beyond c = c.loop-at.invariant.beyond

pub returns-clause-written : goal.returns-clause-written
returns-clause-written c = c.loop-at.invariant.fits

pub returns-clause-taken : goal.returns-clause-taken
returns-clause-taken c = c.loop-at.invariant.within

pub returns-clause-moves : goal.returns-clause-moves
returns-clause-moves c = filling_moves c.loop-at.invariant c.loop-at-test.false
