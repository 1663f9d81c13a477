-- The first of the table's rows that the line has, as the library looks for it.
use Rattle.std.proofs.Common.{ℕ, List, ◌≡◌, ◌==◌, length, ap, refl, ◌∙◌, rules, tests, arith}
use Rattle.std.specs.Prelude.{Option, position, unwrap_or}
use Rattle.std.proofs.lemmas.Iterator.Search.{position_from_yields_List}
use Rattle.std.proofs.lemmas.Iterator.Splits.{YieldsList-from_slice_split}
use Rattle.session_words.specs.Bytes.{newline}
use Rattle.session_words.specs.Words.{words_of}
use Rattle.session_calls.specs.Grammar.{fits, rows_of}
use Rattle.session_calls.proofs.Splits.{rows_are}
use Rattle.session_calls.proofs.Tables.{first_is}
use Rattle.session_calls.proofs.row_of.Goals as goal

-- the place where the library finds one
found : (c : goal.After-position) → c.position.result ≡ position (λ row. fits (words_of row) (words_of c.args.line.now)) (rows_of c.args.table.now)
found c =
    let s = c.split.ensures in
    let rows = YieldsList-from_slice_split _ (λ b. b == newline) c.args.table.now s.rest s.done s.closure (λ x b q k. (refl, grind (arith, k))) in
    let has = λ (row : List ℕ). fits (words_of row) (words_of c.args.line.now) in
    position_from_yields_List has _ _ c.position.result c.position.ensures.ran rows (λ x b q k. search (rules, tests))
    ∙ ap (position has) (rows_are c.args.table.now)

pub returns-clause-place : goal.returns-clause-place
returns-clause-place c = found c

pub returns-clause-row : goal.returns-clause-row
returns-clause-row c =
    ap (λ (r : Option ℕ). unwrap_or r (length (rows_of c.args.table.now))) (found c) ∙ first_is (words_of c.args.line.now) (rows_of c.args.table.now)
