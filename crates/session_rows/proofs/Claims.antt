-- The claim of specs/Claims.antt: the test that each row differs from each later one is computed over the table.
use Prim.Native.Nat.{ℕ}
use mathlib.Core.Path.{◌≡◌, refl, ap, ◌∙◌}
use mathlib.Core.Bool.{true}
use mathlib.Core.List.{List, [], map}
use lib.ListN.{get_or, length-map, get_or-map}
use Rattle.session_words.specs.Words.{words_of}
use Rattle.session_words.specs.Bytes.{alike}
use Rattle.session_numbers.specs.Numbers.{natural_of, whole_of, with_sign, digits_of, all_digits}
use Rattle.session_calls.specs.Grammar.{fits_word, fits}
use Rattle.session_calls.specs.Table.{text_of}
use Rattle.session_calls.proofs.Apart.{differ, from_all, all_differ, one_row_lem}
use Rattle.session_watch.specs.Rows.{watch_rows}
use Rattle.session_sweep.specs.Rows.{sweep_rows}
use Rattle.session_rows.specs.Table.{choice_rows, power_rows, reading_rows, table, rows}
use Rattle.session_rows.specs.Claims.{OneRow}

-- the words of each row
abbrev words : List (List (List ℕ))
words = map words_of (map text_of table)

computed : all_differ words ≡ true
unfolding table watch_rows sweep_rows choice_rows power_rows reading_rows all_differ from_all differ words_of alike fits_word natural_of whole_of with_sign digits_of all_digits
computed = refl

pub one_row : OneRow
unfolding rows
one_row line i j h k f g =
    one_row_lem words (words_of line) (words_of []) computed i j (rw (length-map, length-map) h) (rw (length-map, length-map) k) (row i f) (row j g)
  where
    row : (n : ℕ) → fits (words_of (get_or (map text_of table) n [])) (words_of line) ≡ true → fits (get_or words n (words_of [])) (words_of line) ≡ true
    row n e = ap (λ r. fits r (words_of line)) (get_or-map words_of (map text_of table) n []) ∙ e
