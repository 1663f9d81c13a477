-- `session::lines::kind_of` meets its contract: by the tests of the line's first byte and length (`Ended`).
use Rattle.std.proofs.Common.{ℕ, List, ◌≡◌, false, get_or, length, ◌∙◌, arith}
use borrow.Author.Tests.{eq-eqb, ne_eqb}
use Rattle.std.proofs.lemmas.Bool.Decides.{nat_tests}
use Rattle.session_lines.specs.Lines.{hash, passed_over}
use Rattle.session.proofs.Ended.{passed_empty, first_byte, passed, long, of_row, of_none}
use Rattle.session.proofs.lines.kind_of.Goals as goal

-- no comment
call : (held : List ℕ) → (length held ≡ 0 → ⊥) → (get_or held 0 0 ≡ hash → ⊥) → passed_over held ≡ false
call held e f = first_byte held e ∙ ne_eqb _ _ f

pub returns-then-is_empty : goal.returns-then-is_empty
returns-then-is_empty c n s =
    let held = c.args.held.now in
    let none : length held ≡ 0 = grind (arith, nat_tests) in
    passed c.args.length held n s (passed_empty held none)

pub returns-then-held-eq-HASH : goal.returns-then-held-eq-HASH
returns-then-held-eq-HASH c n s =
    let held = c.args.held.now in
    let some : length held ≡ 0 → ⊥ = grind (arith, nat_tests) in
    passed c.args.length held n s (first_byte held some ∙ eq-eqb _ _ c.if-held-eq-HASH.true)

pub returns-then-length-gt-LONGEST : goal.returns-then-length-gt-LONGEST
returns-then-length-gt-LONGEST c n s =
    let held = c.args.held.now in
    let some : length held ≡ 0 → ⊥ = grind (arith, nat_tests) in
    long c.args.length held n s (call held some c.if-held-eq-HASH.false) c.if-length-gt-LONGEST.true

pub returns-in-Some : goal.returns-in-Some
returns-in-Some c n s =
    let held = c.args.held.now in
    let some : length held ≡ 0 → ⊥ = grind (arith, nat_tests) in
    of_row c.args.length held n s (call held some c.if-held-eq-HASH.false) c.if-length-gt-LONGEST.false c.in-Some.ensures.row

pub returns-in-None : goal.returns-in-None
returns-in-None c n s =
    let held = c.args.held.now in
    let some : length held ≡ 0 → ⊥ = grind (arith, nat_tests) in
    of_none c.args.length held n s (call held some c.if-held-eq-HASH.false) c.if-length-gt-LONGEST.false c.in-None.ensures.row
