-- These channels, in this order, each with the levels that it had: what a new beam makes of rows. The channels are the given ones, and a channel's
-- levels are what they were where it is among them, and none where it is not.
use Prim.Native.Nat.{ℕ, suc, ◌≤◌}
use mathlib.Core.Path.{◌≡◌, refl, ap, ◌∙◌}
use mathlib.Core.Bool.{true, cond}
use mathlib.Core.List.{List, [], ◌∷◌, map}
use native.Mathlib.Omega.{arith}
use lib.Dec.{eqb, leb-zero}
use lib.IntN.{ℤ}
use lib.ListN.{length, length-map}
use borrow.Author.Tests.{eqb-true, le-leb}
use Rattle.watch_rules.specs.Lists.{mem, distinct, every}
use Rattle.readings_rules.specs.Channels.{channel_in_range}
use Rattle.watch_rules.specs.Limits.{list_limit, depth_in_range, room}
use Rattle.watch_rules.specs.Rows.{Row, row, channels, levels_of, rest, relisted}
use Rattle.watch_rules.proofs.Laws.{by_case, and_left, and_right, and_both}
use Rattle.watch_rules.proofs.Good.{levels_ok, row_fine, Good}

-- ---- rows made from channels

channels_made : (f : ℕ → List ℤ) (l : List ℕ) → channels (map (λ c. row c (f c)) l) ≡ l
channels_made f [] = refl
channels_made f (c ∷ l) = ap (◌∷◌ c) (channels_made f l)

levels_made : (f : ℕ → List ℤ) (d : ℕ) (l : List ℕ) → levels_of d (map (λ c. row c (f c)) l) ≡ cond (mem d l) (f d) []
levels_made f d [] = refl
levels_made f d (c ∷ l) =
    by_case (eqb c d)
    (λ q. rw q (ap f (eqb-true c d q)))
    (λ q. rw q (levels_made f d l))

pub levels_fine : (depth d : ℕ) (rs : List Row) → every (row_fine depth) rs ≡ true → levels_ok depth (levels_of d rs) ≡ true
levels_fine depth d [] e = and_both (leb-zero depth) refl
levels_fine depth d (r ∷ rs) e =
    by_case (eqb r.channel d)
    (λ q. rw q (and_right (channel_in_range r.channel) _ (and_left (row_fine depth r) (every (row_fine depth) rs) e)))
    (λ q. rw q (levels_fine depth d rs (and_right (row_fine depth r) (every (row_fine depth) rs) e)))

fine_made : (depth : ℕ) (rs : List Row) (l : List ℕ) → every (row_fine depth) rs ≡ true → every channel_in_range l ≡ true
    → every (row_fine depth) (map (λ c. row c (levels_of c rs)) l) ≡ true
fine_made depth rs [] e h = refl
fine_made depth rs (c ∷ l) e h =
    and_both (and_both (and_left (channel_in_range c) (every channel_in_range l) h) (levels_fine depth c rs e))
    (fine_made depth rs l e (and_right (channel_in_range c) (every channel_in_range l) h))

-- ---- relisted rows

module _ (s : ℕ) (l : List ℕ) (rs : List Row) where
  pub channels_relisted : channels (relisted s l rs) ≡ s ∷ l
  channels_relisted = channels_made _ (s ∷ l)

  pub rest_relisted : channels (rest (relisted s l rs)) ≡ l
  rest_relisted = channels_made _ l

  pub length_relisted : length (relisted s l rs) ≡ suc (length l)
  length_relisted = length-map (s ∷ l) _

  pub levels_relisted : (d : ℕ) → levels_of d (relisted s l rs) ≡ cond (mem d (s ∷ l)) (levels_of d rs) []
  levels_relisted d = levels_made (λ c. levels_of c rs) d (s ∷ l)

  -- a sound list, and a serving channel that is in range and not in it, make good rows
  pub good_relisted : {depth : ℕ} → Good depth rs → depth_in_range depth ≡ true → length l ≤ list_limit → every channel_in_range (s ∷ l) ≡ true
      → distinct (s ∷ l) ≡ true → Good depth (relisted s l rs)
  good_relisted {depth} g deep short ranged apart =
      record {
        depth = deep;
        short = le-leb (length (relisted s l rs)) room (omega (arith, length_relisted));
        apart = ap distinct channels_relisted ∙ apart;
        fine = fine_made depth rs (s ∷ l) g.fine ranged;
      }
