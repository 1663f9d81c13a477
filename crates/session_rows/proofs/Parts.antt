-- The table in its parts: the row of a number is one of a part, or comes after it.
use Prim.Native.Nat.{ℕ, ◌-◌, ◌≤◌, ◌<◌}
use mathlib.Core.Path.{◌≡◌, refl, sym, ap, ◌∙◌}
use mathlib.Core.List.{List, ◌++◌, map}
use native.Mathlib.Omega.{arith}
use lib.ListN.{length}
use lib.IntN.{pos}
use Rattle.sweep_rules.specs.declared.Sweep.{Sweep}
use Rattle.watch_rules.specs.Told.{Call, verdict}
use Rattle.session_words.specs.Words.{words_of}
use Rattle.session_calls.specs.Table.{turned, row_at}
use Rattle.session_calls.proofs.Tables.{first_most, by_number, in_part, past_part, beyond, at_turned}
use Rattle.session_state.specs.declared.State.{State}
use Rattle.session_watch.specs.Rows.{watch_rows}
use Rattle.session_sweep.specs.Rows.{SweepWritten, next_asked, sweep_rows}
use Rattle.session_rows.specs.Calls.{Written, watching, sweeping, malformed}
use Rattle.session_rows.specs.Table.{Rows, choice_rows, power_rows, reading_rows, other_rows, table, rows, row_of, row_written, line_asked}

-- the number of rows of the code
pub rows_are : 23 ≡ rows
unfolding rows table watch_rows sweep_rows choice_rows power_rows reading_rows
rows_are = refl

-- no line has a row beyond the last, and the rows on the watch are some of all
pub row_most : (ws : List (List ℕ)) → row_of ws ≤ rows
unfolding row_of rows
row_most ws = first_most ws table

pub few_watch : {k : ℕ} → k < length watch_rows → k ≤ rows
unfolding rows table watch_rows sweep_rows choice_rows power_rows reading_rows
few_watch h = omega arith

module _ (n : ℕ) (s : State) (ws : List (List ℕ)) where
  -- what the row of a number does, among these rows
  abbrev pub at : Rows → ℕ → Written
  at rows k = row_at rows malformed k ws n s

  pub within : (part rest : Rows) {k : ℕ} → k < length part → at part k ≡ at (part ++ rest) k
  within part rest {k} h = ap (λ f. f n s) (in_part malformed ws part rest k malformed h)

  pub after : (part rest : Rows) {k : ℕ} → length part ≤ k → at rest (k - length part) ≡ at (part ++ rest) k
  after part rest {k} h = ap (λ f. f n s) (past_part malformed ws part rest k h)

  -- the row of this number, as an arm of the code's match is told it
  pub row_is : (rows : Rows) {j k : ℕ} → j ≡ k → at rows k ≡ at rows j
  row_is rows e = ap (at rows) (sym e)

  -- no row of these, as the last arm is told it
  pub no_row : (rows : Rows) (k : ℕ) → length rows ≤ k → malformed n s ≡ at rows k
  no_row rows k p = ap (λ f. f n s) (beyond malformed ws rows k p)

  -- beyond the last row
  pub no_call : row_written rows n s ws ≡ malformed n s
  unfolding row_written rows
  no_call = sym (ap (λ f. f n s) (beyond malformed ws table rows (omega arith)))

  abbrev on_watch : Call → ℕ → State → Written
  on_watch call n = watching call

  abbrev on_sweep : (Sweep → SweepWritten) → ℕ → State → Written
  on_sweep call n = sweeping call

  -- a row on the watch
  pub on_watch_lem : {k : ℕ} → k < length watch_rows → watching (row_at watch_rows (verdict (pos 0)) k ws) s ≡ row_written k n s ws
  unfolding table row_written watch_rows
  on_watch_lem {k} h =
      ap (λ f. f n s) (at_turned on_watch watch_rows (verdict (pos 0)) malformed k ws h)
      ∙ within (map (turned on_watch) watch_rows) (map (turned on_sweep) sweep_rows ++ other_rows) h

  -- a row after those
  past_watch : {k : ℕ} → length watch_rows ≤ k → at (map (turned on_sweep) sweep_rows ++ other_rows) (k - length watch_rows) ≡ row_written k n s ws
  unfolding table row_written watch_rows
  past_watch h = after (map (turned on_watch) watch_rows) (map (turned on_sweep) sweep_rows ++ other_rows) h

  -- a row on the sweep
  pub on_sweep_lem : {k : ℕ} → length watch_rows ≤ k → k - length watch_rows < length sweep_rows
      → sweeping (row_at sweep_rows next_asked (k - length watch_rows) ws) s ≡ row_written k n s ws
  unfolding sweep_rows
  on_sweep_lem {k} h l =
      ap (λ f. f n s) (at_turned on_sweep sweep_rows next_asked malformed (k - length watch_rows) ws l)
      ∙ within (map (turned on_sweep) sweep_rows) other_rows l
      ∙ past_watch h

  -- a row of another part
  pub past_sweep : {k : ℕ} → length watch_rows ≤ k → length sweep_rows ≤ k - length watch_rows
      → at other_rows (k - length watch_rows - length sweep_rows) ≡ row_written k n s ws
  unfolding sweep_rows
  past_sweep h l = after (map (turned on_sweep) sweep_rows) other_rows l ∙ past_watch h

-- the row that a line has
pub of_line : (n : ℕ) (s : State) (line : List ℕ) → row_written (row_of (words_of line)) n s (words_of line) ≡ line_asked n s line
unfolding row_of row_written line_asked
of_line n s line = ap (λ f. f n s) (by_number malformed (words_of line) table)
