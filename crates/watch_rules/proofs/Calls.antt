-- What a call hands back in each case, for the proofs of the calls: refusal 9, another refusal, or what the rules grant. Each case is the
-- definition with its tests decided.
use Prim.Native.Nat.{ℕ, zero, suc, ◌≤◌, ◌<◌}
use mathlib.Core.Path.{◌≡◌, refl, ap, ◌∙◌}
use mathlib.Core.Bool.{Bool, true, false, cond, ◌&&◌}
use mathlib.Core.List.{List, [], ◌∷◌}
use native.Mathlib.Omega.{arith}
use lib.Dec.{eqb}
use lib.ListN.{length, get_or}
use borrow.Author.Tests.{eqb-true}
use Rattle.refusal.specs.declared.Refusal.TheVariants.{RecordNotWellFormed}
use Rattle.refusal.specs.declared.Reason.{Reason}
use Rattle.refusal.specs.Told.{Told, refused, gives, refused_for, giving, unless_refused}
use Rattle.watch_rules.specs.declared.Track.{Track}
use Rattle.watch_rules.specs.declared.Watch.{Watch}
use Rattle.watch_rules.specs.Lists.{mem}
use Rattle.watch_rules.specs.Limits.{room}
use Rattle.watch_rules.specs.Told.{Call, Called, Given, accepted}
use Rattle.watch_rules.specs.Rules.{View, watched, allowed, answer, granted}
use Rattle.watch_rules.specs.Rows.{Row, channels, shown}
use Rattle.watch_rules.specs.Record.{rows, view_of, record_of, changed_record, tracks_fine, track_fine, depth_fine, well_formed, handed, returned, called, tested}
use Rattle.watch_rules.proofs.Laws.{clash, and_left, and_right}
use Rattle.watch_rules.proofs.Good.{Good}
use Rattle.watch_rules.proofs.Encode.{tracks_read, rows_record, well_formed_record}

abbrev pub handing : Watch → Told Given → Called
handing w a = record { watch = w; answer = a }

-- ---- the cases of a call

pub called_unformed : (w : Watch) (k : Call) → well_formed w ≡ false → called w k ≡ handing w (refused_for RecordNotWellFormed)
unfolding called
called_unformed w k e = ap (λ (b : Bool). cond b (handed w (rows w) k) (returned w)) e

module _ (w : Watch) (k : Call) (formed : well_formed w ≡ true) where
  called_formed : (o : Told Unit) → allowed (view_of w) k ≡ o
      → called w k ≡ handing (unless_refused o w (changed_record w.depth (rows w) k)) (giving o (granted (view_of w) k))
  unfolding called answer
  called_formed o e =
      ap (λ (b : Bool). cond b (handed w (rows w) k) (returned w)) formed
      ∙ ap (λ (o : Told Unit). handing (unless_refused o w (changed_record w.depth (rows w) k)) (giving o (granted (view_of w) k))) e

  pub called_refused : {n : Reason} → allowed (view_of w) k ≡ refused n → called w k ≡ handing w (refused n)
  called_refused {n} e = called_formed (refused n) e

  pub called_granted : allowed (view_of w) k ≡ gives tt → called w k ≡ handing (changed_record w.depth (rows w) k) (gives (granted (view_of w) k))
  called_granted e = called_formed (gives tt) e

-- the test of well-formedness
pub tested_formed : (w : Watch) → well_formed w ≡ true → tested w ≡ handing w (gives accepted)
unfolding tested
tested_formed w e = ap (λ (b : Bool). cond b (handing w (gives accepted)) (returned w)) e

pub tested_unformed : (w : Watch) → well_formed w ≡ false → tested w ≡ handing w (refused_for RecordNotWellFormed)
unfolding tested
tested_unformed w e = ap (λ (b : Bool). cond b (handing w (gives accepted)) (returned w)) e

-- on the record of good rows
pub called_record : (d : ℕ) (rs : List Row) (k : Call) → Good d rs → called (record_of d rs) k ≡ handed (record_of d rs) rs k
unfolding called
called_record d rs k g =
    ap (λ (b : Bool). cond b (handed (record_of d rs) (rows (record_of d rs)) k) (returned (record_of d rs))) (well_formed_record d rs g)
    ∙ ap (λ (q : List Row). handed (record_of d rs) q k) (rows_record d rs)

-- ---- the answer

-- where the call is allowed, what the rules grant
pub granted_answer : (v : View) (k : Call) → allowed v k ≡ gives tt → answer v k ≡ gives (granted v k)
unfolding answer
granted_answer v k e = ap (λ (o : Told Unit). giving o (granted v k)) e

-- or, where it is not, what is told of the refusal
pub refused_answer : (v : View) (k : Call) (n : Reason) → allowed v k ≡ refused n → answer v k ≡ refused n
unfolding answer
refused_answer v k n e = ap (λ (o : Told Unit). giving o (granted v k)) e

-- ---- what a well-formed record is

pub formed_tracks : (w : Watch) → well_formed w ≡ true → tracks_fine w.depth w.watched w.tracks ≡ true
unfolding well_formed
formed_tracks w e =
    and_left (tracks_fine w.depth w.watched w.tracks) _ (and_right (eqb (length w.tracks) room && depth_fine w.watched w.depth) _ e)

pub formed_long : (w : Watch) → well_formed w ≡ true → length w.tracks ≡ room
unfolding well_formed
formed_long w e = eqb-true (length w.tracks) room
    (and_left (eqb (length w.tracks) room) _ (and_left (eqb (length w.tracks) room && depth_fine w.watched w.depth) _ e))

pub formed_depth : (w : Watch) → well_formed w ≡ true → depth_fine w.watched w.depth ≡ true
unfolding well_formed
formed_depth w e =
    and_right (eqb (length w.tracks) room) _ (and_left (eqb (length w.tracks) room && depth_fine w.watched w.depth) _ e)

pub formed_short : (w : Watch) → well_formed w ≡ true → w.watched ≤ room
formed_short w e = omega (arith, formed_long w e, (tracks_read w.depth w.watched w.tracks (formed_tracks w e)).within)

pub fine_at : (depth n i : ℕ) (ts : List Track) (d : Track) → tracks_fine depth n ts ≡ true → i < n → track_fine depth (get_or ts i d) ≡ true
fine_at depth zero i ts d e h = absurd (omega arith)
fine_at depth (suc n) i [] d e h = clash e refl
fine_at depth (suc n) zero (t ∷ ts) d e h = and_left (track_fine depth t) (tracks_fine depth n ts) e
fine_at depth (suc n) (suc i) (t ∷ ts) d e h = fine_at depth n i ts d (and_right (track_fine depth t) (tracks_fine depth n ts) e) (omega arith)

-- the channels under watch are those that have a row
pub first_watched : (d : ℕ) (rs : List Row) (c : ℕ) → watched (shown d rs) c ≡ mem c (channels rs)
first_watched d [] c = refl
first_watched d (r ∷ rs) c = refl
