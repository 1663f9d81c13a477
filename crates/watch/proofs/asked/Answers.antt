-- A channel under watch has its levels in the track at its place: their count and mean are the answer.
use Rattle.std.proofs.Common.{◌≡◌, ℕ, List, take, length, get_or, refl, sym, ap, ◌∙◌, rules}
use Rattle.std.specs.Prelude.{Option, Some, None, Err}
use Rattle.std.specs.Option.{ok_or}
use Rattle.std.specs.List.{position}
use Rattle.std.proofs.lemmas.Result.{err_from_is_err_and}
use lib.IntN.{ℤ}
use mir.Syntax.{w32}
use mir.Val.{SFits}
use mir.Facts.{to_z-of_z}
use Rattle.refusal.specs.declared.Refusal.{Refusal}
use Rattle.refusal.specs.declared.Refusal.TheVariants.{NotWatched}
use Rattle.refusal.specs.Told.{gives, refused_for}
use Rattle.refusal.proofs.Provided.{refuse_now, refuse_later}
use Rattle.watch_rules.specs.declared.Track.{Track}
use Rattle.watch_rules.specs.declared.Watch.{Watch}
use Rattle.watch_rules.specs.Told.{ask, levels}
use Rattle.watch_rules.specs.Rules.{mean}
use Rattle.watch_rules.specs.Rows.{levels_of}
use Rattle.watch_rules.specs.Record.{rows, row_of}
use Rattle.watch_rules.proofs.Encode.{read_record}
use Rattle.watch_rules.proofs.Calls.{called_unformed, called_refused, called_granted}
use Rattle.watch_record.specs.Code.{nothing, back}
use Rattle.watch_record.proofs.Places.{has}
use Rattle.watch_record.proofs.Watched.{found_used}
use Rattle.watch.proofs.Found.{sought, unfound, found_watched, found_levels}
use Rattle.watch.proofs.asked.Goals as goal

pub returns-in_err-sound : goal.returns-in_err-sound
returns-in_err-sound c =
    let a = c.args in
    let p = err_from_is_err_and c.from_residual.result c.from_residual.ensures.1 in
    rw (p.1, p.2)
    (ap (λ (r : Refusal). back a.w.now (refused_for r)) c.in_err-sound.ensures.cases.0
    ∙ sym (called_unformed a.w.now (ask a.channel) c.in_err-sound.ensures.cases.1))

pub returns-in_err-place : goal.returns-in_err-place
returns-in_err-place c =
    let a = c.args in
    let w = a.w.now in
    let x = c.in_err-place.ensures in
    let none : None ≡ position (has a.channel) (take w.watched w.tracks) = sought a.channel c.in_ok-sound.ensures.cases.0 c.place.ensures x.ok_part in
    let p = err_from_is_err_and c.from_residual-in_err-place.result c.from_residual-in_err-place.ensures.1 in
    let v : Err c.in_err-place.field-0.0 ≡ Err NotWatched = x.value ∙ ap (λ (o : Option ℕ). ok_or o NotWatched) x.ok_part in
    let why : c.in_err-place.field-0.0 ≡ NotWatched = cc in
    rw (p.1, p.2)
    (ap (λ (r : Refusal). back w (refused_for r)) why
    ∙ sym (called_refused w (ask a.channel) c.in_ok-sound.ensures.cases.1 (refuse_now NotWatched _ (unfound w a.channel c.in_ok-sound.ensures.cases.1 none))))

pub returns : goal.returns
returns c =
    let a = c.args in
    let w = a.w.now in
    let formed = c.in_ok-sound.ensures.cases.1 in
    let k = c.in_ok-place.place in
    let e : Some k ≡ position (has a.channel) (take w.watched w.tracks) =
    sought a.channel c.in_ok-sound.ensures.cases.0 c.place.ensures c.in_ok-place.ensures.ok_part in
    let l = c.levels_of-levels.result.now in
    let own : l ≡ levels_of a.channel (rows w) =
    c.levels_of-levels.ensures.kept
    ∙ ap (λ (ts : List Track). (row_of (get_or ts k nothing)).levels)
    (c.tracks.ensures ∙ ap (λ (v : Watch). take v.watched v.tracks) c.in_ok-sound.ensures.cases.0)
    ∙ ap (λ (t : Track). (row_of t).levels) (found_used w a.channel formed e)
    ∙ sym (found_levels w a.channel formed e) in
    let fits : SFits w32 c.mean.result = search rules in
    ap (λ (z : ℤ). back w (gives (levels (length l) z))) (to_z-of_z fits ∙ c.mean.ensures)
    ∙ ap (λ (m : List ℤ). back w (gives (levels (length m) (mean m)))) own
    ∙ sym (called_granted w (ask a.channel) formed (refuse_later NotWatched (found_watched w a.channel formed e) refl)
    ∙ ap (λ (v : Watch). back v (gives (levels (length (levels_of a.channel (rows w))) (mean (levels_of a.channel (rows w))))))
    (read_record w formed).back)
