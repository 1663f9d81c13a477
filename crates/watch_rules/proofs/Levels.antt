-- The last n of a list: its end, as many as the lesser of n and the number of all. Nothing else is used of the definition.
use Prim.Native.Nat.{ℕ, ◌-◌}
use mathlib.Core.Path.{sym}
use mathlib.Core.List.{List}
use native.Mathlib.Omega.{arith}
use lib.ListN.{length, take, take-append-drop, length-drop}
use Rattle.watch_rules.specs.Lists.{last_n}
use Rattle.watch_rules.specs.Claims.{LastOf}

pub last_of : {A : Type 0} (n : ℕ) (l : List A) → LastOf n l (last_n n l)
last_of n l =
    record {
      older = take (length l - n) l;
      joined = sym (take-append-drop (length l - n) l);
      number = omega (arith, length-drop (length l - n) l);
    }
