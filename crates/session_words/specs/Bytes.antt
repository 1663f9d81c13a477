-- Texts as bytes, the test whether two words are the same, and how many bytes find room.
use Rattle.std.specs.Prelude.{ℕ, ◌-◌, min, Bool, true, false, ◌&&◌, List, [], ◌∷◌, length, eqb}
use Prim.Native.Char.{code}
use Prim.Native.String.{String, [] as []ᵗ, ◌∷◌ as ◌∷ᵗ◌}

-- a text's bytes: the texts of a session file are ASCII, a byte to a character
abbrev pub bytes_of : String → List ℕ
bytes_of []ᵗ = []
bytes_of (c ∷ᵗ s) = code c ∷ bytes_of s

-- the byte that ends a line
abbrev pub newline : ℕ
newline = 10

-- the byte of a minus sign
abbrev pub minus : ℕ
minus = 45

-- the same bytes in the same order
unfoldable pub alike : List ℕ → List ℕ → Bool
alike [] [] = true
alike [] (b ∷ t) = false
alike (a ∷ s) [] = false
alike (a ∷ s) (b ∷ t) = eqb a b && alike s t

-- how many bytes of a text find room in a buffer from a place on
abbrev pub fitting : List ℕ → List ℕ → ℕ → ℕ
fitting s out at = min (length s) (length out - at)
