-- The mean that an ask answers and the channel that a verdict names are those of the rules, also where the call is refused.
use Prim.Native.Nat.{ℕ, suc}
use mathlib.Core.Path.{◌≡◌, refl, sym, ap, ◌∙◌}
use mathlib.Core.Bool.{Bool, true, false, cond, ◌&&◌, and-false}
use mathlib.Core.List.{[]}
use mathlib.Core.Option.{Option, none, some}
use lib.IntN.{ℤ, pos}
use lib.Signed.{◌≤ℤ◌}
use Rattle.readings_rules.specs.Channels.{channel_highest}
use Rattle.refusal.specs.declared.Refusal.TheVariants as why
use Rattle.refusal.specs.declared.Reason.TheVariants.{Alone}
use Rattle.refusal.specs.Told.{Told, gives}
use Rattle.refusal.proofs.Provided.{refuse_now, refuse_later}
use Rattle.watch_rules.specs.Lists.{is, sum}
use Rattle.watch_rules.specs.Limits.{hysteresis_in_range}
use Rattle.watch_rules.specs.Told.{ask, verdict, Given, wait}
use Rattle.watch_rules.specs.Rules.{View, watched, serves, answer, mean, full, serving_levels, exceeds, counts, target, stay_or_move, verdict_of}
use Rattle.watch_rules.specs.Claims.{mean_told, moves_to}
use Rattle.watch_rules.proofs.Laws.{by_case, and_both}
use Rattle.watch_rules.proofs.Order.{yes_le}
use Rattle.watch_rules.proofs.Calls.{refused_answer, granted_answer}
use Rattle.watch_rules.proofs.Best.{best_none}

pub mean_told_lem : (v : View) (c : ℕ) → (watched v c ≡ false → v.levels c ≡ []) → mean_told (answer v (ask c)) ≡ mean (v.levels c)
mean_told_lem v c bare =
    by_case (watched v c)
    (λ e. ap mean_told (granted_answer v (ask c) (refuse_later why.NotWatched e refl)))
    (λ e. ap mean_told (refused_answer v (ask c) (Alone 6) (refuse_now why.NotWatched _ e)) ∙ sym (ap mean (bare e)))

-- while the serving channel has fewer levels than the depth, nothing is moved to
no_target : (v : View) (h : ℤ) → full v.depth (serving_levels v) ≡ false → target v h ≡ none
unfolding target counts
no_target v h e =
    best_none (counts v h) (λ c. sum (v.levels c))
    (λ c. ap (λ (b : Bool). b && (v.neighbour c && (full v.depth (v.levels c) && exceeds v h c))) e)
    (suc channel_highest)

-- nor where there is no neighbour
no_neighbour : (v : View) (h : ℤ) → ((c : ℕ) → v.neighbour c ≡ false) → target v h ≡ none
unfolding target counts
no_neighbour v h e =
    best_none (counts v h) (λ c. sum (v.levels c))
    (λ c. ap (λ (b : Bool). full v.depth (serving_levels v) && (b && (full v.depth (v.levels c) && exceeds v h c))) (e c)
    ∙ and-false (full v.depth (serving_levels v)))
    (suc channel_highest)

-- a hysteresis of 0 to 6,000 is in range
pub in_range : (h : ℤ) → pos 0 ≤ℤ h → h ≤ℤ pos 6000 → hysteresis_in_range h ≡ true
in_range h low high = and_both (yes_le low) (yes_le high)

named : (o : Option ℕ) (c : ℕ) → moves_to (gives (stay_or_move o)) c ≡ is o c
named none c = refl
named (some d) c = refl

pub moved_told : (v : View) (h : ℤ) (c : ℕ) → (serves v.serving ≡ false → (d : ℕ) → v.neighbour d ≡ false) → pos 0 ≤ℤ h → h ≤ℤ pos 6000
    → moves_to (answer v (verdict h)) c ≡ is (target v h) c
moved_told v h c alone low high =
    by_case (serves v.serving)
    (λ s.
    ap (λ (a : Told Given). moves_to a c)
    (granted_answer v (verdict h) (refuse_later why.ParameterOutOfRange r (refuse_later why.NotWatched s refl)))
    ∙ by_case (full v.depth (serving_levels v)) (λ f. judge f ∙ named (target v h) c) (λ f. judge f ∙ nothing (no_target v h f)))
    (λ s.
    ap (λ (a : Told Given). moves_to a c)
    (refused_answer v (verdict h) (Alone 6) (refuse_later why.ParameterOutOfRange r (refuse_now why.NotWatched _ s)))
    ∙ nothing (no_neighbour v h (alone s)))
  where
    r : hysteresis_in_range h ≡ true
    r = in_range h low high

    nothing : target v h ≡ none → false ≡ is (target v h) c
    nothing f = sym (ap (λ (o : Option ℕ). is o c) f)

    judge : {b : Bool} → full v.depth (serving_levels v) ≡ b
        → moves_to (gives (verdict_of v h)) c ≡ moves_to (gives (cond b (stay_or_move (target v h)) wait)) c
    judge f = ap (λ (b : Bool). moves_to (gives (cond b (stay_or_move (target v h)) wait)) c) f
