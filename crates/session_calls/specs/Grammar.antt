-- Session files, section Calls: the rows of a table of calls, as texts, and which of them a line has.
use Rattle.std.specs.Prelude.{ℕ, zero, suc, Bool, true, false, cond, ◌&&◌, List, [], ◌∷◌, eqb, is_some}
use Rattle.session_words.specs.Bytes.{bytes_of, newline, alike}
use Rattle.session_words.specs.Words.{before, words_of}
use Rattle.session_numbers.specs.Numbers.{channel_of, byte_of, int_of, num_of}

-- whether a word of a line is what a word of a row asks for: a number of the kind that it names, or the word itself
unfoldable pub fits_word : List ℕ → List ℕ → Bool
fits_word asked w =
    cond (alike asked (bytes_of "CH")) (is_some (channel_of w))
    (cond (alike asked (bytes_of "INT")) (is_some (int_of w))
    (cond (alike asked (bytes_of "BYTE")) (is_some (byte_of w))
    (cond (alike asked (bytes_of "NUM")) (is_some (num_of w))
    (alike asked w))))

-- CH.., the last word of a row: 0 to 8 channels
abbrev pub many : List ℕ
many = bytes_of "CH.."

abbrev pub most_channels : ℕ
most_channels = 8

-- at most so many words, each of them a channel
unfoldable pub channels_up_to : ℕ → List (List ℕ) → Bool
channels_up_to n [] = true
channels_up_to zero (w ∷ ws) = false
channels_up_to (suc n) (w ∷ ws) = is_some (channel_of w) && channels_up_to n ws

-- whether a line has a row, both as their words: each word fits, and none is left over
unfoldable pub fits : List (List ℕ) → List (List ℕ) → Bool
fits [] [] = true
fits [] (w ∷ ws) = false
fits (asked ∷ row) [] = alike asked many
fits (asked ∷ row) (w ∷ ws) = cond (alike asked many) (channels_up_to most_channels (w ∷ ws)) (fits_word asked w && fits row ws)

-- a table's text cut at each newline
unfoldable pub rows_of : List ℕ → List (List ℕ)
rows_of [] = [] ∷ []
rows_of (b ∷ s) = cond (eqb b newline) ([] ∷ rows_of s) (before b (rows_of s))

-- the number of the first row that a line has, by its words; where it has none, the number of rows
unfoldable pub first_fit : List (List ℕ) → List (List ℕ) → ℕ
first_fit [] ws = 0
first_fit (row ∷ rows) ws = cond (fits (words_of row) ws) 0 (suc (first_fit rows ws))
