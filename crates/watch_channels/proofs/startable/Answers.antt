-- Refused or accepted as the tests say; accepted, the channel is alone, without levels.
use Rattle.std.proofs.Common.{◌≡◌, true, refl, sym, ◌∙◌, le-leb}
use Rattle.std.proofs.lemmas.Bool.{lt-leb}
use Rattle.refusal.specs.declared.Refusal.TheVariants.{ChannelOutOfRange, ParameterOutOfRange}
use Rattle.refusal.proofs.Provided.{refuse_now, refuse_later}
use Rattle.readings_rules.specs.Channels.{channel_highest}
use Rattle.watch_rules.specs.Limits.{depth_in_range}
use Rattle.watch_rules.specs.Record.{well_formed}
use Rattle.watch_rules.specs.Told.{start}
use Rattle.watch_rules.proofs.Calls.{called_unformed, called_refused, called_granted}
use Rattle.watch_channels.proofs.startable.Goals as goal

pub returns-then-not-well_formed-clause-refused : goal.returns-then-not-well_formed-clause-refused
returns-then-not-well_formed-clause-refused c =
    let a = c.args in called_unformed a.w.now (start a.serving a.depth) (sym c.well_formed-2.ensures ∙ c.if-not-well_formed.true)

pub returns-then-not-depth_in_range-clause-refused : goal.returns-then-not-depth_in_range-clause-refused
returns-then-not-depth_in_range-clause-refused c =
    let a = c.args in
    let formed : well_formed a.w.now ≡ true = sym c.well_formed-2.ensures ∙ c.if-not-well_formed.false in
    called_refused a.w.now (start a.serving a.depth) formed
    (refuse_now ParameterOutOfRange _ (sym c.depth_in_range.ensures ∙ c.if-not-depth_in_range.true))

pub returns-then-serving-gt-CHANNEL_HIGHEST-clause-refused : goal.returns-then-serving-gt-CHANNEL_HIGHEST-clause-refused
returns-then-serving-gt-CHANNEL_HIGHEST-clause-refused c =
    let a = c.args in
    let formed : well_formed a.w.now ≡ true = sym c.well_formed-2.ensures ∙ c.if-not-well_formed.false in
    let deep : depth_in_range a.depth ≡ true = sym c.depth_in_range.ensures ∙ c.if-not-depth_in_range.false in
    called_refused a.w.now (start a.serving a.depth) formed
    (refuse_later ParameterOutOfRange deep
    (refuse_now ChannelOutOfRange _ (lt-leb a.serving channel_highest c.if-serving-gt-CHANNEL_HIGHEST.true)))

pub returns-clause-accepted : goal.returns-clause-accepted
returns-clause-accepted c =
    let a = c.args in
    let formed : well_formed a.w.now ≡ true = sym c.well_formed-2.ensures ∙ c.if-not-well_formed.false in
    let deep : depth_in_range a.depth ≡ true = sym c.depth_in_range.ensures ∙ c.if-not-depth_in_range.false in
    called_granted a.w.now (start a.serving a.depth) formed
    (refuse_later ParameterOutOfRange deep
    (refuse_later ChannelOutOfRange (le-leb a.serving channel_highest c.if-serving-gt-CHANNEL_HIGHEST.false) refl))
