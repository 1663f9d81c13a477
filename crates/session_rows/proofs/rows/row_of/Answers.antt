-- `session_rows::rows::row_of` meets its contract: the text has the rows of the table.
use Rattle.std.proofs.Common.{ℕ, ◌≡◌, ◌<◌, Bool, true, false, cond, List, length, map, Option, Some, None, subst, refl, sym, ap, ◌∙◌, ltb, ltb-true, rules}
use Rattle.std.specs.Prelude.{unwrap_or, position, IfSome}
use Rattle.std.specs.List.{position_or_len}
use Rattle.session_words.specs.Words.{words_of}
use Rattle.session_calls.specs.Grammar.{fits, rows_of}
use Rattle.session_calls.specs.Table.{text_of}
use Rattle.session_calls.proofs.Tables.{first_is}
use Rattle.session_watch.specs.Rows.{watch_rows}
use Rattle.session_sweep.specs.Rows.{sweep_rows}
use Rattle.session_rows.specs.Table.{choice_rows, power_rows, reading_rows, table, rows, row_of}
use Rattle.session_rows.proofs.rows.row_of.Goals as goal

pub returns-clause-row : goal.returns-clause-row
unfolding rows_of row_of rows table watch_rows sweep_rows choice_rows power_rows reading_rows
returns-clause-row c =
    ap (λ r. unwrap_or r rows) c.row_of.ensures.place ∙ first_is (words_of c.args.line.now) (map text_of table)

-- what is found stands in the list
within : (p : List ℕ → Bool) (xs : List (List ℕ)) (r : Option ℕ) → r ≡ position p xs → IfSome r (λ k. k < length xs)
within p xs r e = subst (λ (o : Option ℕ). IfSome o (λ k. k < length xs)) (sym e) (go (ltb at (length xs)) refl)
  where
    at : ℕ
    at = position_or_len p xs

    go : (t : Bool) → ltb at (length xs) ≡ t → IfSome (cond t (Some at) None) (λ k. k < length xs)
    go true h = ltb-true at (length xs) h
    go false h = search rules

pub returns-clause-few : goal.returns-clause-few
unfolding rows_of rows table watch_rows sweep_rows choice_rows power_rows reading_rows
returns-clause-few c = within (λ row. fits (words_of row) (words_of c.args.line.now)) (map text_of table) c.row_of.result c.row_of.ensures.place
