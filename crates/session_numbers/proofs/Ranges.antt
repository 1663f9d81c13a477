-- A whole number as it is told by a type whose own `try_from` makes one value alone of each: by an unsigned type, one from 0 to its highest, or to a
-- lower one; by a signed one, one within its range.
use Rattle.std.proofs.Common.{◌≡◌, ℕ, suc, ◌^◌, ◌<◌, ◌≤◌, Bool, true, false, cond, leb, List, refl, sym, ap, ◌∙◌, arith, le-leb}
use Rattle.std.proofs.Common.{Option, None, Some, Result, Ok, Err, ℤ, pos, negsuc}
use Rattle.std.proofs.lemmas.Bool.{lt-leb}
use mathlib.Core.Path.{subst}
use native.Mathlib.Decide.{dec_le}
use native.Mathlib.Nat.{lt_of_not-le}
use lib.Dec.{leb-zero}
use Rattle.std.specs.Prelude.{unsigned_abs, FitsSigned, nat_abs, option_map, option_and_then}
use Rattle.std.specs.Int.{FitsUnsignedBits, w32}
use Rattle.std.specs.Option.{MatchOption}
use Rattle.std.specs.Bool.{then_some}
use Rattle.std.specs.Result.{OkIff, result_ok}
use Rattle.session_numbers.specs.Numbers.{whole_of, within, natural_of, int_of}
use Rattle.session_numbers.specs.Code.{Told, OnlyValue}

-- a whole number of which the type's own `try_from` made x
pub told_some : {A E : Type 0} (gives : ℤ → Result A E → Type 0) (o : Option ℤ) (z : ℤ) (x : Result A E) (r : Option A)
    → o ≡ Some z → gives z x → r ≡ result_ok x → Told gives o r
told_some gives o z x r e h q = subst (λ y. Told gives y r) (sym e) (x, h, q)

-- what is told of a whole number, where the type's own `try_from` makes one value alone of each
pub told_only_value : {A E : Type 0} (gives : ℤ → Result A E → Type 0) (value : ℤ → Option A) → OnlyValue gives value
    → (z : Option ℤ) (r : Option A) → Told gives z r → r ≡ option_and_then value z
told_only_value gives value h None r e = e
told_only_value gives value h (Some z) r t = t.2 ∙ h z t.0 t.1

-- the same, where the value is told of a whole number or of none
told_option : {A E : Type 0} (gives : ℤ → Result A E → Type 0) (value : Option ℤ → Option A) → value None ≡ None
    → OnlyValue gives (λ z. value (Some z)) → (z : Option ℤ) (r : Option A) → Told gives z r → r ≡ value z
told_option gives value none h z r t = told_only_value gives (λ z. value (Some z)) h z r t ∙ all z
  where
    all : (z : Option ℤ) → option_and_then (λ z. value (Some z)) z ≡ value z
    all None = sym none
    all (Some z) = refl

-- a whole number from 0 to the highest
abbrev pub natural_in : ℕ → Option ℤ → Option ℕ
natural_in highest z = option_map nat_abs (within (pos 0) (pos highest) z)

-- an unsigned type makes one value alone of each number: the number, up to its highest
pub natural_only_value : (k highest : ℕ) (E : Type 0) → suc highest ≡ 2 ^ k
    → OnlyValue (λ z (o : Result ℕ E). OkIff o (FitsUnsignedBits k z) (unsigned_abs z)) (λ z. natural_in highest (Some z))
natural_only_value k highest E top = by
  where
    above : (n : ℕ) → (n < 2 ^ k → ⊥) → highest < n
    above n f = lt_of_not-le (λ (h : n ≤ highest). f (omega arith))

    by : (z : ℤ) (o : Result ℕ E) → OkIff o (FitsUnsignedBits k z) (unsigned_abs z) → result_ok o ≡ natural_in highest (Some z)
    by (pos n) (Ok x) f = rw (leb-zero n, le-leb n highest (omega arith)) (ap Some f.1)
    by (pos n) (Err e) f = rw (leb-zero n, lt-leb n highest (above n f)) refl
    by (negsuc n) (Ok x) f = absurd f.0
    by (negsuc n) (Err e) f = refl

pub natural_told : (k highest : ℕ) (E : Type 0) (s : List ℕ) (r : Option ℕ) → suc highest ≡ 2 ^ k
    → Told (λ z (o : Result ℕ E). OkIff o (FitsUnsignedBits k z) (unsigned_abs z)) (whole_of s) r → r ≡ natural_of highest s
unfolding natural_of
natural_told k highest E s r top h = told_option _ (natural_in highest) refl (natural_only_value k highest E top) (whole_of s) r h

-- what is left of a number where those above a highest are left out
abbrev Left : ℕ → Option ℕ → Option ℕ → Type 0
Left highest q o = MatchOption o (q ≡ None) (λ n. q ≡ then_some (leb n highest) n)

-- a number up to a highest that a type holds: one of the type that is not above it
pub natural_up_to : (k top highest : ℕ) (E : Type 0) (s : List ℕ) (r q : Option ℕ) → suc top ≡ 2 ^ k → highest ≤ top
    → Told (λ z (o : Result ℕ E). OkIff o (FitsUnsignedBits k z) (unsigned_abs z)) (whole_of s) r
    → Left highest q r → q ≡ natural_of highest s
unfolding natural_of
natural_up_to k top highest E s r q e h t f = go (whole_of s) (subst (Left highest q) (natural_told k top E s r e t) f)
  where
    told : (n : ℕ) (b : Bool) → q ≡ then_some b n → q ≡ option_map nat_abs (cond b (Some (pos n)) None)
    told n true e = e
    told n false e = e

    by : (n : ℕ) → Dec (n ≤ top) → Left highest q (option_map nat_abs (cond (leb n top) (Some (pos n)) None))
        → q ≡ option_map nat_abs (cond (leb n highest) (Some (pos n)) None)
    by n (yes l) f = told n (leb n highest) (rw (le-leb n top l) at f)
    by n (no l) f =
        let g : top < n = lt_of_not-le l in
        rw (lt-leb n highest (omega arith)) (rw (lt-leb n top g) at f)

    go : (o : Option ℤ) → Left highest q (option_map nat_abs (within (pos 0) (pos top) o)) → q ≡ option_map nat_abs (within (pos 0) (pos highest) o)
    go None f = f
    go (Some (pos n)) f = rw (leb-zero n) (by n (dec_le n top) (rw (leb-zero n) at f))
    go (Some (negsuc n)) f = f

-- a whole number of 32 bits with a sign
abbrev pub int_in : Option ℤ → Option ℤ
int_in = within (negsuc 2147483647) (pos 2147483647)

-- 32 bits with a sign make one value alone of each number too
pub int_only_value : (E : Type 0) → OnlyValue (λ z (o : Result ℤ E). OkIff o (FitsSigned w32 z) z) (λ z. int_in (Some z))
int_only_value E (pos n) (Ok x) f = rw (le-leb n 2147483647 (omega (arith, f.0.sfits))) (ap Some f.1)
int_only_value E (pos n) (Err e) f = rw (lt-leb n 2147483647 (lt_of_not-le (λ (h : n ≤ 2147483647). f (record { sfits = omega arith })))) refl
int_only_value E (negsuc n) (Ok x) f = rw (le-leb n 2147483647 (omega (arith, f.0.sfits))) (ap Some f.1)
int_only_value E (negsuc n) (Err e) f = rw (lt-leb n 2147483647 (lt_of_not-le (λ (h : n ≤ 2147483647). f (record { sfits = omega arith })))) refl

pub int_told : (E : Type 0) (s : List ℕ) (r : Option ℤ) → Told (λ z (o : Result ℤ E). OkIff o (FitsSigned w32 z) z) (whole_of s) r → r ≡ int_of s
unfolding int_of
int_told E s r h = told_option _ int_in refl (int_only_value E) (whole_of s) r h
