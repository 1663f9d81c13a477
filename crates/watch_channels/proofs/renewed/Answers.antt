-- Refused as the tests say, the list judged against the new serving channel; accepted, the watch is built anew.
use Rattle.std.proofs.Common.{◌≡◌, ℕ, List, true, refl, sym, ap, ◌∙◌, le-leb}
use Rattle.std.proofs.lemmas.Bool.{lt-leb}
use Rattle.std.proofs.lemmas.Result.{err_from_is_err_and}
use Rattle.refusal.specs.declared.Refusal.{Refusal}
use Rattle.refusal.specs.declared.Refusal.TheVariants.{ChannelOutOfRange, NotWatched}
use Rattle.refusal.specs.Told as refusal
use Rattle.refusal.specs.Told.{Told, gives, refused_for, provided}
use Rattle.refusal.proofs.Provided.{refuse_now, refuse_later}
use Rattle.readings_rules.specs.Channels.{channel_highest, channel_in_range}
use Rattle.watch_rules.specs.declared.Watch.{Watch}
use Rattle.watch_rules.specs.Told.{new_beam, accepted}
use Rattle.watch_rules.specs.Rules.{serves, allowed}
use Rattle.watch_rules.specs.Record.{view_of, record_of, rows}
use Rattle.watch_rules.specs.Rows.{relisted}
use Rattle.watch_rules.proofs.ListSound.{list_sound, sound_short, passes_sound, sound_passes, fault_first}
use Rattle.watch_rules.proofs.Calls.{called_unformed, called_refused, called_granted}
use Rattle.watch_record.specs.Code.{back}
use Rattle.watch_record.proofs.Watched.{serving_some, serving_none}
use Rattle.watch_channels.proofs.renewed.Goals as goal

-- where the serving channel is in range and the list has no fault, the call goes on to what follows
module _ (w : Watch) (s : ℕ) (l : List ℕ) (ranged : channel_in_range s ≡ true) (sound : list_sound s l ≡ true) where
  passes : {a : Told Unit} → provided (serves (view_of w).serving) NotWatched refusal.accepted ≡ a → allowed (view_of w) (new_beam s l) ≡ a
  passes e = refuse_later ChannelOutOfRange ranged (sound_passes s l sound _ ∙ e)

pub returns-in_err-sound : goal.returns-in_err-sound
returns-in_err-sound c =
    let a = c.args in
    let p = err_from_is_err_and c.from_residual.result c.from_residual.ensures.1 in
    rw (p.1, p.2)
    (ap (λ (r : Refusal). back a.w.now (refused_for r)) c.in_err-sound.ensures.cases.0
    ∙ sym (called_unformed a.w.now (new_beam a.serving a.list.now) c.in_err-sound.ensures.cases.1))

pub returns-then-serving-gt-CHANNEL_HIGHEST : goal.returns-then-serving-gt-CHANNEL_HIGHEST
returns-then-serving-gt-CHANNEL_HIGHEST c =
    let a = c.args in
    sym (called_refused a.w.now (new_beam a.serving a.list.now) c.in_ok-sound.ensures.cases.1
    (refuse_now ChannelOutOfRange _ (lt-leb a.serving channel_highest c.if-serving-gt-CHANNEL_HIGHEST.true)))

pub returns-in_err-list_fault : goal.returns-in_err-list_fault
returns-in_err-list_fault c =
    let a = c.args in
    let ranged : channel_in_range a.serving ≡ true = le-leb a.serving channel_highest c.if-serving-gt-CHANNEL_HIGHEST.false in
    let p = err_from_is_err_and c.from_residual-in_err-list_fault.result c.from_residual-in_err-list_fault.ensures.1 in
    rw (p.1, p.2)
    (sym (called_refused a.w.now (new_beam a.serving a.list.now) c.in_ok-sound.ensures.cases.1
    (refuse_later ChannelOutOfRange ranged (fault_first a.serving a.list.now (sym c.in_err-list_fault.ensures) _))))

pub returns-then-sound-eq0 : goal.returns-then-sound-eq0
returns-then-sound-eq0 c =
    let a = c.args in
    let formed = c.in_ok-sound.ensures.cases.1 in
    let ranged : channel_in_range a.serving ≡ true = le-leb a.serving channel_highest c.if-serving-gt-CHANNEL_HIGHEST.false in
    let sound : list_sound a.serving a.list.now ≡ true = (passes_sound a.serving a.list.now refusal.accepted (sym c.in_ok-list_fault.ensures)).0 in
    let idle : a.w.now.watched ≡ 0 = sym (ap (λ (w : Watch). w.watched) c.in_ok-sound.ensures.cases.0) ∙ c.if-sound-eq0.true in
    sym (called_refused a.w.now (new_beam a.serving a.list.now) formed
    (passes a.w.now a.serving a.list.now ranged sound (refuse_now NotWatched _ (serving_none a.w.now formed idle))))

pub relist-requires : goal.relist-requires
relist-requires c =
    let a = c.args in
    sound_short a.serving a.list.now (passes_sound a.serving a.list.now refusal.accepted (sym c.in_ok-list_fault.ensures)).0

pub returns : goal.returns
returns c =
    let a = c.args in
    let formed = c.in_ok-sound.ensures.cases.1 in
    let same = c.in_ok-sound.ensures.cases.0 in
    let ranged : channel_in_range a.serving ≡ true = le-leb a.serving channel_highest c.if-serving-gt-CHANNEL_HIGHEST.false in
    let sound : list_sound a.serving a.list.now ≡ true = (passes_sound a.serving a.list.now refusal.accepted (sym c.in_ok-list_fault.ensures)).0 in
    let active : a.w.now.watched ≡ 0 → ⊥ = λ e. c.if-sound-eq0.false (ap (λ (w : Watch). w.watched) same ∙ e) in
    ap (λ (v : Watch). back v (gives accepted))
    (c.relist.ensures ∙ ap (λ (w : Watch). record_of w.depth (relisted a.serving a.list.now (rows w))) same)
    ∙ sym (called_granted a.w.now (new_beam a.serving a.list.now) formed
    (passes a.w.now a.serving a.list.now ranged sound (refuse_later NotWatched (serving_some a.w.now formed active) refl)))
