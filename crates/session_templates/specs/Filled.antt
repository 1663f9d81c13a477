-- The text of an answer by its template, and its line: `A` and `B` stand for its numbers, and `Z` for one that may be below 0. A number that has no
-- letter there is not written.
use Rattle.std.specs.Prelude.{ℕ, ◌+◌, Bool, cond, ◌||◌, List, [], ◌∷◌, ◌++◌, eqb, ℤ, pos}
use Prim.Native.String.{String}
use Rattle.session_words.specs.Bytes.{bytes_of, newline}
use Rattle.session_texts.specs.Text.{decimal_text, signed_text}

-- the letters `A`, `B` and `Z`
abbrev pub letter_a : ℕ
letter_a = 65

abbrev pub letter_b : ℕ
letter_b = 66

abbrev pub letter_z : ℕ
letter_z = 90

-- whether a byte of a template stands for a number; the others stand for themselves
abbrev pub stands_for : ℕ → Bool
stands_for x = eqb x letter_a || eqb x letter_b || eqb x letter_z

-- what a byte of a template stands for
abbrev pub piece : ℕ → ℕ → ℤ → ℕ → List ℕ
piece a b z x =
    cond (eqb x letter_a) (decimal_text a)
    (cond (eqb x letter_b) (decimal_text b)
    (cond (eqb x letter_z) (signed_text z)
    (x ∷ [])))

abbrev pub filled : List ℕ → ℕ → ℕ → ℤ → List ℕ
filled [] a b z = []
filled (x ∷ t) a b z = piece a b z x ++ filled t a b z

-- the most bytes of such a text: a number has at most 20 digits, and may have a sign
abbrev pub wide : ℕ → ℕ
wide x = cond (stands_for x) 21 1

abbrev pub widest : List ℕ → ℕ
widest [] = 0
widest (x ∷ t) = wide x + widest t

-- a template with its numbers, none of them below 0
abbrev pub says : String → ℕ → ℕ → List ℕ
says t a b = filled (bytes_of t) a b (pos 0)

-- every line written ends with a newline
abbrev pub line : List ℕ → List ℕ
line text = text ++ (newline ∷ [])
