-- What the private functions of the calls return. No reader of the public contracts needs this file.
use Rattle.std.specs.Prelude.{ℕ, Bool, cond, ◌&&◌, ◌||◌, List, [], ◌∷◌, leb, ℤ, length, Option, Some, None}
use Rattle.std.specs.Int.Signed.{lt_z, le_z}
use Rattle.std.proofs.Math.Option as rule
use Rattle.watch_rules.specs.Lists.{sum}
use Rattle.watch_rules.specs.Rows.{Row}
use Rattle.watch.specs.declared.Pick.{Pick}

-- the first of two comes first: by the greater sum, and by the lower channel among equals
abbrev pub ahead : Pick → Pick → Bool
ahead p q = lt_z q.sum p.sum || (le_z q.sum p.sum && leb p.channel q.channel)

-- the better of two
abbrev pub better_of : Pick → Pick → Pick
better_of p q = cond (ahead p q) p q

-- the better of the best so far, if there is one, and another
abbrev pub better_with : Option Pick → Pick → Pick
better_with None q = q
better_with (Some p) q = better_of p q

abbrev pub pick_of : Row → Pick
pick_of r = record { channel = r.channel; sum = sum r.levels }

-- levels that count: no fewer than are kept, and a sum above the bar
abbrev pub able : ℕ → ℤ → List ℤ → Bool
able depth bar l = leb depth (length l) && lt_z bar (sum l)

-- the best so far with one neighbour more, and with several
abbrev pub consider : ℕ → ℤ → Option Pick → Row → Option Pick
consider depth bar best r = cond (able depth bar r.levels) (Some (better_with best (pick_of r))) best

abbrev pub scan : ℕ → ℤ → Option Pick → List Row → Option Pick
scan depth bar best [] = best
scan depth bar best (r ∷ rs) = scan depth bar (consider depth bar best r) rs

-- the channel of the best
abbrev pub chosen : Option Pick → rule.Option ℕ
chosen None = rule.none
chosen (Some p) = rule.some p.channel
