-- A record is well formed where its tracks are and their channels differ: a watch has as many tracks as there is room for by its type.
use Rattle.std.proofs.Common.{◌≡◌, ℕ, ◌&&◌, Bool, true, false, List, length, take, sym, ap, ap₂, ◌∙◌, eq-eqb}
use mathlib.Core.Bool.{and-false}
use lib.Dec.{eqb}
use Rattle.watch_rules.specs.declared.Watch.{Watch}
use Rattle.watch_rules.specs.Lists.{distinct}
use Rattle.watch_rules.specs.Limits.{room}
use Rattle.watch_rules.specs.Rows.{channels}
use Rattle.watch_rules.specs.Record.{rows, tracks_fine, depth_fine, well_formed}
use Rattle.watch_record.specs.Code.{channels_of}
use Rattle.watch_record.proofs.Scan.{channels_rows}
use Rattle.watch_record.proofs.well_formed.Goals as goal
use Rattle.watch_record.proofs.well_formed.Goals.{then-depth_ok, else-depth_ok}

-- what the definition is of a record with as many tracks as there is room for
abbrev tests : Watch → Bool → Bool → Bool
tests w d t = d && (t && distinct (channels_of (take w.watched w.tracks)))

of_room : (w : Watch) → length w.tracks ≡ room → (d t : Bool) → depth_fine w.watched w.depth ≡ d → tracks_fine w.depth w.watched w.tracks ≡ t
    → well_formed w ≡ tests w d t
unfolding well_formed
of_room w l d t p q =
    ap₂ (λ (a : Bool) (m : List ℕ). (a && depth_fine w.watched w.depth) && (tracks_fine w.depth w.watched w.tracks && distinct m))
    (eq-eqb (length w.tracks) room l) (channels_rows (take w.watched w.tracks))
    ∙ ap₂ (tests w) p q

no_depth : (w : Watch) → depth_fine w.watched w.depth ≡ false → well_formed w ≡ false
unfolding well_formed
no_depth w e =
    ap (λ (b : Bool). (eqb (length w.tracks) room && b) && (tracks_fine w.depth w.watched w.tracks && distinct (channels (rows w)))) e
    ∙ ap (λ (b : Bool). b && (tracks_fine w.depth w.watched w.tracks && distinct (channels (rows w)))) (and-false (eqb (length w.tracks) room))

pub returns-then-tracks_ok : goal.returns-then-tracks_ok
returns-then-tracks_ok c =
    let w = c.args.w.now in
    let e : c.apart.result ≡ distinct (channels_of (take w.watched w.tracks)) = c.apart.ensures ∙ ap (λ ts. distinct (channels_of ts)) c.used.ensures in
    elim c.if-depth_ok.branch [
      | then-depth_ok v ↦ e ∙ sym (of_room w v.tracks_ok.ensures.long true true (cc) (cc))
      | else-depth_ok v ↦ absurd (cc)
    ]

pub returns-else-tracks_ok : goal.returns-else-tracks_ok
returns-else-tracks_ok c =
    let w = c.args.w.now in
    elim c.if-depth_ok.branch [
      | then-depth_ok v ↦ c.if-tracks_ok.false ∙ sym (of_room w v.tracks_ok.ensures.long true false (cc) (cc))
      | else-depth_ok v ↦ c.if-tracks_ok.false ∙ sym (no_depth w (cc))
    ]
