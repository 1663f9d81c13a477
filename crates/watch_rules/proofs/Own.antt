-- Rows whose levels are those that the whole has for their channel: since channels differ, all rows of a watch are.
use mathlib.Core.Path.{◌≡◌, refl, ◌∙◌}
use mathlib.Core.Bool.{true, false, not}
use mathlib.Core.List.{List, [], ◌∷◌}
use lib.Dec.{eqb}
use borrow.Author.Tests.{eq-eqb}
use Rattle.watch_rules.specs.Lists.{mem, distinct}
use Rattle.watch_rules.specs.Rows.{Row, channels, levels_of}
use Rattle.watch_rules.proofs.Laws.{and_left, and_right, not_is, or_false_left, or_false_right, eqb_sym}

-- rows whose levels are those that the whole has for their channel
unfoldable pub Own : List Row → List Row → Type 0
Own all [] = Unit {0}
Own all (r ∷ rs) = (r.levels ≡ levels_of r.channel all) × Own all rs

own_cons : (s : Row) (all rs : List Row) → mem s.channel (channels rs) ≡ false → Own all rs → Own (s ∷ all) rs
unfolding Own
own_cons s all [] e o = tt
own_cons s all (r ∷ rs) e o = (
  rw (eqb_sym s.channel r.channel ∙ or_false_left (eqb r.channel s.channel) (mem s.channel (channels rs)) e) o.0,
  own_cons s all rs (or_false_right (eqb r.channel s.channel) (mem s.channel (channels rs)) e) o.1,
)

pub own_self : (rs : List Row) → distinct (channels rs) ≡ true → Own rs rs
unfolding Own
own_self [] e = tt
own_self (r ∷ rs) e =
    let a : mem r.channel (channels rs) ≡ false = not_is _ (and_left (not (mem r.channel (channels rs))) (distinct (channels rs)) e) in (
      rw (eq-eqb r.channel r.channel refl),
      own_cons r rs rs a (own_self rs (and_right (not (mem r.channel (channels rs))) (distinct (channels rs)) e)),
    )

-- the neighbours' rows, in the whole
pub own_rest : (r : Row) (rs : List Row) → distinct (channels (r ∷ rs)) ≡ true → Own (r ∷ rs) rs
unfolding Own
own_rest r rs e = (own_self (r ∷ rs) e).1
