-- The rows of the choice. That the sweeps are well formed and finished and the outcome strings fine is shown once for each; by the law `accepts` of the
-- choice the call then gives what is chosen, which is computed from the search order.
use Prim.Native.Nat.{ℕ, zero, suc}
use mathlib.Core.Path.{◌≡◌, refl}
use mathlib.Core.Bool.{Bool, true, false, not, ◌&&◌}
use mathlib.Core.List.{List, [], ◌∷◌}
use lib.ListN.{get_or, replicate, set}
use lib.IntN.{ℤ, pos}
use Rattle.refusal.specs.Told.{gives}
use Rattle.readings_rules.specs.Ranges.{level_in_range}
use Rattle.sweep_rules.specs.Map.{channels, bit_at, is_set, with_bit, all_below}
use Rattle.sweep_rules.specs.Record.{heard, level_at, implies, is_zero, fresh_sweep, finished, well_formed}
use Rattle.sweep_rules.specs.Record.{heard_where_visited, no_bit_outside, zero_where_not_heard, levels_in_range}
use Rattle.sweep_rules.specs.declared.Sweep.{Sweep}
use Rattle.sweep_rules.proofs.Tests.{both, each_all}
use Rattle.choice_rules.specs.Order.{from, keep, beginning, insert_by, sort_by, search_order, near_of, near_part}
use Rattle.choice_rules.specs.Choose.{camp, read, no_beam, outcomes_fine, first_open, place_in, answer_of, chosen_among, chosen, choosing}
use Rattle.choice_rules.proofs.Refusals.{accepts}
use Rattle.examples.specs.Given.{minus, nothing_heard, three_heard, nothing_read, three_read}

-- ---- the levels, by laws: to compute them channel by channel would take seconds

module _ {A : Type 0} where
  zeros_keep : (P : ℕ → A → Bool) (n : ℕ) (d : A) → ((c : ℕ) → P c d ≡ true) → (c : ℕ) → P c (get_or (replicate n d) c d) ≡ true
  zeros_keep P zero d h c = h c
  zeros_keep P (suc n) d h zero = h 0
  zeros_keep P (suc n) d h (suc c) = zeros_keep (λ i. P (suc i)) n d (λ i. h (suc i)) c

  -- what holds of each element at its place still does after one is put in of which it holds
  set_keeps : (P : ℕ → A → Bool) (l : List A) (i : ℕ) (a d : A) → P i a ≡ true → ((c : ℕ) → P c (get_or l c d) ≡ true)
      → (c : ℕ) → P c (get_or (set l i a) c d) ≡ true
  set_keeps P [] i a d h k c = k c
  set_keeps P (x ∷ xs) zero a d h k zero = h
  set_keeps P (x ∷ xs) zero a d h k (suc c) = k (suc c)
  set_keeps P (x ∷ xs) (suc i) a d h k zero = k 0
  set_keeps P (x ∷ xs) (suc i) a d h k (suc c) = set_keeps (λ j. P (suc j)) xs i a d h (λ j. k (suc j)) c

implies_true : (b : Bool) → implies b true ≡ true
implies_true true = refl
implies_true false = refl

-- of three_heard's levels
three_keep : (P : ℕ → ℤ → Bool) → P 100 (minus 9000) ≡ true → P 200 (minus 9000) ≡ true → P 300 (minus 9300) ≡ true
    → ((c : ℕ) → P c (pos 0) ≡ true) → (c : ℕ) → P c (level_at three_heard c) ≡ true
unfolding fresh_sweep three_heard
three_keep P x y z h =
    let none = replicate channels (pos 0) in
    let one = set none 100 (minus 9000) in
    let two = set one 200 (minus 9000) in
    set_keeps P two 300 (minus 9300) (pos 0) z
    (set_keeps P one 200 (minus 9000) (pos 0) y
    (set_keeps P none 100 (minus 9000) (pos 0) x
    (zeros_keep P channels (pos 0) h)))

nothing_keep : (P : ℕ → ℤ → Bool) → ((c : ℕ) → P c (pos 0) ≡ true) → (c : ℕ) → P c (level_at nothing_heard c) ≡ true
unfolding fresh_sweep nothing_heard
nothing_keep P h = zeros_keep P channels (pos 0) h

abbrev zero_unless_heard : Sweep → ℕ → ℤ → Bool
zero_unless_heard s c l = implies (not (heard s c)) (is_zero l)

-- ---- accepted

three_maps : (heard_where_visited three_heard && no_bit_outside three_heard) ≡ true
unfolding bit_at is_set with_bit all_below fresh_sweep heard_where_visited no_bit_outside three_heard
three_maps = refl

three_zeros : zero_where_not_heard three_heard ≡ true
unfolding bit_at is_set with_bit fresh_sweep zero_where_not_heard three_heard
three_zeros =
    each_all channels _ (λ c h. three_keep (zero_unless_heard three_heard) refl refl refl (λ d. implies_true (not (heard three_heard d))) c)

three_levels : levels_in_range three_heard ≡ true
unfolding levels_in_range
three_levels = each_all channels _ (λ c h. three_keep (λ d. level_in_range) refl refl refl (λ d. refl) c)

three_formed : well_formed three_heard ≡ true
unfolding well_formed
three_formed = both (both three_maps three_zeros) three_levels

nothing_maps : (heard_where_visited nothing_heard && no_bit_outside nothing_heard) ≡ true
unfolding bit_at is_set all_below fresh_sweep heard_where_visited no_bit_outside nothing_heard
nothing_maps = refl

nothing_zeros : zero_where_not_heard nothing_heard ≡ true
unfolding zero_where_not_heard
nothing_zeros = each_all channels _ (λ c h. nothing_keep (zero_unless_heard nothing_heard) (λ d. implies_true (not (heard nothing_heard d))) c)

nothing_levels : levels_in_range nothing_heard ≡ true
unfolding levels_in_range
nothing_levels = each_all channels _ (λ c h. nothing_keep (λ d. level_in_range) (λ d. refl) c)

nothing_formed : well_formed nothing_heard ≡ true
unfolding well_formed
nothing_formed = both (both nothing_maps nothing_zeros) nothing_levels

three_finished : finished three_heard ≡ true
unfolding bit_at is_set all_below finished three_heard
three_finished = refl

nothing_finished : finished nothing_heard ≡ true
unfolding bit_at is_set all_below finished nothing_heard
nothing_finished = refl

nothing_fine : outcomes_fine nothing_read ≡ true
unfolding all_below outcomes_fine nothing_read
nothing_fine = refl

three_fine : outcomes_fine three_read ≡ true
unfolding all_below outcomes_fine nothing_read three_read
three_fine = refl

-- ---- the search orders

three_order : search_order (heard three_heard) three_heard ≡ 100 ∷ 200 ∷ 300 ∷ []
unfolding bit_at is_set with_bit fresh_sweep from keep insert_by sort_by search_order three_heard
three_order = refl

nothing_order : search_order (heard nothing_heard) nothing_heard ≡ []
unfolding bit_at is_set fresh_sweep from keep sort_by search_order nothing_heard
nothing_order = refl

-- ---- margin 300, nothing read

three_unread : chosen three_heard (pos 300) nothing_read ≡ read 100 1
unfolding fresh_sweep beginning near_of near_part first_open place_in answer_of chosen_among chosen three_heard nothing_read
three_unread = rw three_order

pub reads : choosing three_heard (pos 300) nothing_read ≡ gives (read 100 1)
reads = accepts _ _ _ _ (record { formed = three_formed; fine = nothing_fine; margin = refl; done = three_finished; is = three_unread })

-- ---- 100 barred, 200 other network, 300 suitable

three_suitable : chosen three_heard (pos 300) three_read ≡ camp 300 3
unfolding fresh_sweep beginning near_of near_part first_open place_in answer_of chosen_among chosen three_heard nothing_read three_read
three_suitable = rw three_order

pub camps : choosing three_heard (pos 300) three_read ≡ gives (camp 300 3)
camps = accepts _ _ _ _ (record { formed = three_formed; fine = three_fine; margin = refl; done = three_finished; is = three_suitable })

-- ---- the same at margin 299

three_narrow : chosen three_heard (pos 299) three_read ≡ no_beam 2
unfolding fresh_sweep beginning near_of near_part first_open place_in answer_of chosen_among chosen three_heard nothing_read three_read
three_narrow = rw three_order

pub narrow : choosing three_heard (pos 299) three_read ≡ gives (no_beam 2)
narrow = accepts _ _ _ _ (record { formed = three_formed; fine = three_fine; margin = refl; done = three_finished; is = three_narrow })

-- ---- nothing heard

nothing_chosen : chosen nothing_heard (pos 300) nothing_read ≡ no_beam 0
unfolding near_of near_part first_open answer_of chosen_among chosen
nothing_chosen = rw nothing_order

pub silent : choosing nothing_heard (pos 300) nothing_read ≡ gives (no_beam 0)
silent = accepts _ _ _ _ (record { formed = nothing_formed; fine = nothing_fine; margin = refl; done = nothing_finished; is = nothing_chosen })
