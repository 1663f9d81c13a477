-- A new beam: a watch built channel by channel, each with the levels that it had.
use Prim.Native.Nat.{ℕ, ◌+◌, ◌≤◌, ◌<◌}
use mathlib.Core.Path.{◌≡◌, refl, sym, ap, ◌∙◌}
use mathlib.Core.List.{List, [], ◌∷◌, ◌++◌, map}
use native.Mathlib.Omega.{arith}
use lib.ListN.{length, take, get_or, set, length-map}
use lib.Seq.{length-take-le}
use Rattle.watch_rules.specs.declared.Track.{Track}
use Rattle.watch_rules.specs.Lists.{pad_to}
use Rattle.watch_rules.specs.Limits.{list_limit, room}
use Rattle.watch_rules.specs.Rows.{Row, row, levels_of, relisted}
use Rattle.watch_rules.specs.Record.{track_of, unused}
use Rattle.watch_rules.proofs.Relist.{length_relisted}
use Rattle.watch_record.proofs.Tracks.{pad_to_snoc}
use Rattle.watch_channels.proofs.ListScan.{more}

map_snoc : {A B : Type 0} (f : A → B) (l : List A) (a : A) → map f (l ++ a ∷ []) ≡ map f l ++ f a ∷ []
map_snoc f [] a = refl
map_snoc f (b ∷ l) a = ap (◌∷◌ (f b)) (map_snoc f l a)

module _ (s : ℕ) (rs : List Row) where
  -- the tracks of a serving channel and a list
  abbrev pub tracks_for : List ℕ → List Track
  tracks_for l = pad_to room unused (map track_of (relisted s l rs))

  tracks_snoc : (l : List ℕ) (c : ℕ) → map track_of (relisted s (l ++ c ∷ []) rs) ≡ map track_of (relisted s l rs) ++ track_of (row c (levels_of c rs)) ∷ []
  tracks_snoc l c =
      ap (map track_of) (map_snoc (λ k. row k (levels_of k rs)) (s ∷ l) c)
      ∙ map_snoc track_of (relisted s l rs) (row c (levels_of c rs))

  -- one more of the list
  pub list_step : (l : List ℕ) (i : ℕ) → i < length l → length l ≤ list_limit
      → set (tracks_for (take i l)) (i + 1) (track_of (row (get_or l i 0) (levels_of (get_or l i 0) rs))) ≡ tracks_for (take (i + 1) l)
  list_step l i h g =
      let xs : List Track = map track_of (relisted s (take i l) rs) in
      let n : length xs ≡ i + 1 =
      omega (arith, length-map (relisted s (take i l) rs) track_of, length_relisted s (take i l) rs, length-take-le i l (omega arith)) in
      let a : Track = track_of (row (get_or l i 0) (levels_of (get_or l i 0) rs)) in
      ap (λ (k : ℕ). set (pad_to room unused xs) k a) (sym n)
      ∙ pad_to_snoc room unused xs a (omega arith)
      ∙ ap (pad_to room unused) (sym (tracks_snoc (take i l) (get_or l i 0)))
      ∙ ap tracks_for (sym (more l i h))
