-- The readings' contract says what the burst is in hundredths; a heard level goes to the track at the channel's place.
use Rattle.std.proofs.Common.{◌≡◌, ℕ, true, take, get_or, sym, ap, ◌∙◌, rules, arith}
use Rattle.std.specs.Prelude.{Some, None}
use Rattle.std.specs.List.{position}
use Rattle.std.proofs.lemmas.Result.{err_from_is_err_and}
use lib.IntN.{ℤ}
use mir.Syntax.{w32, w16}
use mir.Val.{SFits, to_z, of_z}
use mir.Facts.{to_z-of_z}
use Rattle.refusal.specs.declared.Refusal.{Refusal}
use Rattle.refusal.specs.declared.Refusal.TheVariants.{NotWatched}
use Rattle.refusal.specs.Told.{Told, gives, refused_for, acceptance}
use Rattle.refusal.proofs.Provided.{refuse_now, refuse_later}
use Rattle.readings_rules.specs.declared.Burst.{Burst}
use Rattle.readings_rules.specs.Burst.{BurstResult, heard, missed, burst_of}
use Rattle.readings_rules.specs.Told.{told_burst}
use Rattle.std.specs.Prelude.{Float, Option, Ok, Err}
use Rattle.std.specs.Option.{ok_or}
use Rattle.watch_rules.specs.declared.Track.{Track}
use Rattle.watch_rules.specs.declared.Watch.{Watch}
use Rattle.watch_rules.specs.Limits.{depth_in_range}
use Rattle.watch_rules.specs.Told.{file, accepted}
use Rattle.watch_rules.specs.Rows.{push, filed_rows}
use Rattle.watch_rules.specs.Record.{rows, row_of, track_of, record_of, well_formed, called}
use Rattle.watch_rules.proofs.Depth.{depth_used}
use Rattle.watch_rules.proofs.Encode.{read_record}
use Rattle.watch_rules.proofs.Calls.{called_unformed, called_refused, called_granted, formed_depth, formed_short}
use Rattle.watch_record.specs.Code.{nothing, back}
use Rattle.watch_record.proofs.Places.{has}
use Rattle.watch_record.proofs.Watched.{found_at, found_place, found_below}
use Rattle.watch.proofs.Found.{sought, unfound, found_watched, found_fine}
use Rattle.watch.proofs.Stored.{with_track, watch_pushed}
use Rattle.watch.proofs.filed.Goals as goal

-- where the channel has a place among the tracks
module _ (w : Watch) (k : ℕ) (formed : well_formed w ≡ true) {p : ℕ} (e : Some p ≡ position (has k) (take w.watched w.tracks)) where
  -- a channel was found, so that the depth is in range
  deep : depth_in_range w.depth ≡ true
  deep = let h = found_place w k formed e in depth_used w.watched w.depth (omega arith) (formed_depth w formed)

  -- what is granted of a burst that is not refused
  granted : (b : Burst Float) (r : BurstResult) → burst_of b ≡ gives r
      → called w (file k b) ≡ back (record_of w.depth (filed_rows w.depth k (gives r) (rows w))) (gives accepted)
  granted b r q =
      called_granted w (file k b) formed (refuse_later NotWatched (found_watched w k formed e) (ap acceptance q))
      ∙ ap (λ (t : Told BurstResult). back (record_of w.depth (filed_rows w.depth k t (rows w))) (gives accepted)) q

  -- the watch with one more level at that place is the one of the rules
  filed_there : (x q : ℤ)
      → with_track w p (track_of (push w.depth x (row_of (get_or w.tracks p nothing))))
      ≡ record_of w.depth (filed_rows w.depth k (gives (heard x q)) (rows w))
  filed_there x q =
      ap (λ (i : ℕ). with_track w i (track_of (push w.depth x (row_of (get_or w.tracks i nothing))))) (found_at w k formed e)
      ∙ watch_pushed w k formed (found_place w k formed e) x

pub returns-in_err-sound : goal.returns-in_err-sound
returns-in_err-sound c =
    let a = c.args in
    let p = err_from_is_err_and c.from_residual.result c.from_residual.ensures.1 in
    rw (p.1, p.2)
    (ap (λ (r : Refusal). back a.w.now (refused_for r)) c.in_err-sound.ensures.cases.0
    ∙ sym (called_unformed a.w.now (file a.channel a.burst) c.in_err-sound.ensures.cases.1))

pub returns-in_err-place : goal.returns-in_err-place
returns-in_err-place c =
    let a = c.args in
    let w = a.w.now in
    let x = c.in_err-place.ensures in
    let none : None ≡ position (has a.channel) (take w.watched w.tracks) = sought a.channel c.in_ok-sound.ensures.cases.0 c.place.ensures x.ok_part in
    let p = err_from_is_err_and c.from_residual-in_err-place.result c.from_residual-in_err-place.ensures.1 in
    let v : Err c.in_err-place.field-0.0 ≡ Err NotWatched = x.value ∙ ap (λ (o : Option ℕ). ok_or o NotWatched) x.ok_part in
    let why : c.in_err-place.field-0.0 ≡ NotWatched = cc in
    rw (p.1, p.2)
    (ap (λ (r : Refusal). back w (refused_for r)) why
    ∙ sym (called_refused w (file a.channel a.burst) c.in_ok-sound.ensures.cases.1
    (refuse_now NotWatched _ (unfound w a.channel c.in_ok-sound.ensures.cases.1 none))))

pub returns-in_err-reading : goal.returns-in_err-reading
returns-in_err-reading c =
    let a = c.args in
    let w = a.w.now in
    let formed = c.in_ok-sound.ensures.cases.1 in
    let e : Some c.in_ok-place.place ≡ position (has a.channel) (take w.watched w.tracks) =
    sought a.channel c.in_ok-sound.ensures.cases.0 c.place.ensures c.in_ok-place.ensures.ok_part in
    let p = err_from_is_err_and c.from_residual-in_err-reading.result c.from_residual-in_err-reading.ensures.1 in
    rw (p.1, p.2)
    (sym (called_refused w (file a.channel a.burst) formed
    (refuse_later NotWatched (found_watched w a.channel formed e) (ap acceptance (sym c.in_err-reading.ensures.value)))))

pub returns-in_default : goal.returns-in_default
returns-in_default c =
    let a = c.args in
    let w = a.w.now in
    let formed = c.in_ok-sound.ensures.cases.1 in
    let e : Some c.in_ok-place.place ≡ position (has a.channel) (take w.watched w.tracks) =
    sought a.channel c.in_ok-sound.ensures.cases.0 c.place.ensures c.in_ok-place.ensures.ok_part in
    let b : burst_of a.burst ≡ gives missed = sym c.in_ok-reading.ensures.value ∙ ap (λ (b : Burst ℤ). told_burst (Ok b)) c.in_default.is in
    ap (λ (v : Watch). back v (gives accepted)) (sym (read_record w formed).back) ∙ sym (granted w a.channel formed e a.burst missed b)

pub offset_bounds-w-place : goal.offset_bounds-w-place
offset_bounds-w-place c =
    let a = c.args in
    let w = a.w.now in
    let formed = c.in_ok-sound.ensures.cases.1 in
    let e : Some c.in_ok-place.place ≡ position (has a.channel) (take w.watched w.tracks) =
    sought a.channel c.in_ok-sound.ensures.cases.0 c.place.ensures c.in_ok-place.ensures.ok_part in
    record { fits = omega (arith, found_below w a.channel formed e, formed_short w formed) }

pub push-requires-clause-fine : goal.push-requires-clause-fine
push-requires-clause-fine c =
    let a = c.args in
    let w = a.w.now in
    found_fine w a.channel c.in_ok-sound.ensures.cases.1 (sought a.channel c.in_ok-sound.ensures.cases.0 c.place.ensures c.in_ok-place.ensures.ok_part)

pub push-requires-clause-deep : goal.push-requires-clause-deep
push-requires-clause-deep c =
    let a = c.args in
    let w = a.w.now in
    deep w a.channel c.in_ok-sound.ensures.cases.1 (sought a.channel c.in_ok-sound.ensures.cases.0 c.place.ensures c.in_ok-place.ensures.ok_part)

pub returns : goal.returns
returns c =
    let a = c.args in
    let w = a.w.now in
    let formed = c.in_ok-sound.ensures.cases.1 in
    let k = c.in_ok-place.place in
    let e : Some k ≡ position (has a.channel) (take w.watched w.tracks) =
    sought a.channel c.in_ok-sound.ensures.cases.0 c.place.ensures c.in_ok-place.ensures.ok_part in
    let r = c.in-Heard.reading in
    let b : burst_of a.burst ≡ gives (heard r.level r.quality) = sym c.in_ok-reading.ensures.value ∙ ap (λ (b : Burst ℤ). told_burst (Ok b)) c.in-Heard.is in
    let wide : SFits w32 r.level = search rules in
    let narrow : SFits w16 (to_z w32 (of_z w32 r.level)) = search rules in
    ap (λ (t : Track). back (with_track w k t) (gives accepted))
    (c.push.ensures ∙ ap (λ (z : ℤ). track_of (push w.depth z (row_of (get_or w.tracks k nothing)))) (to_z-of_z narrow ∙ to_z-of_z wide))
    ∙ ap (λ (v : Watch). back v (gives accepted)) (filed_there w a.channel formed e r.level r.quality)
    ∙ sym (granted w a.channel formed e a.burst (heard r.level r.quality) b)
