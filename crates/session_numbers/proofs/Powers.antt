-- Numbers of so many digits, in any base above 0: how they grow by a digit, and that they stay below a power.
use Prim.Native.Nat.{ℕ, ◌+◌, ◌*◌, ◌^◌, ◌≤◌, ◌<◌}
use native.Mathlib.Numerals.{add-one}
use native.Mathlib.Nat.{pow-suc, pow-le-pow_right, lt_of_lt_of_le, mul-le-mul_right, suc-mul}
use native.Mathlib.Omega.{arith}
use lib.Pow.{pow-add}

-- one more digit
pub grows : (b v d i : ℕ) → v < b ^ i → d < b → v * b + d < b ^ (i + 1)
grows b v d i h k =
    rw (add-one, pow-suc) (lt_of_lt_of_le (next (v * b) d b k) (one_less v (b ^ i) b h))
  where
    next : (x d b : ℕ) → d < b → x + d < x + b
    next x d b k = omega arith

    one_less : (v p b : ℕ) → v < p → v * b + b ≤ p * b
    one_less v p b h = rw suc-mul at (mul-le-mul_right b h)

-- fewer digits than so many
pub below : (b v i j : ℕ) → 0 < b → v < b ^ i → i ≤ j → v < b ^ j
below b v i j p h k = lt_of_lt_of_le h (pow-le-pow_right p k)

-- so many digits, and so many after them
pub joins : (b v w i j : ℕ) → v < b ^ i → w < b ^ j → v * b ^ j + w < b ^ (i + j)
joins b v w i j h k = rw pow-add (lt_of_lt_of_le (next (v * b ^ j) w (b ^ j) k) (rw suc-mul at (mul-le-mul_right (b ^ j) h)))
  where
    next : (x d p : ℕ) → d < p → x + d < x + p
    next x d p k = omega arith

-- one more digit than i, of n that find room
pub finds_room : (b v d i n m : ℕ) → v < b ^ i → d < b → i < n → b ^ n < m → v * b + d < m
finds_room b v d i n m h k l r =
    let p : 0 < b = omega arith in
    let l : i + 1 ≤ n = omega arith in
    let g : v * b + d < b ^ (i + 1) = grows b v d i h k in
    let q : b ^ (i + 1) ≤ b ^ n = pow-le-pow_right p l in
    omega arith
