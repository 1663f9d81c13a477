-- The ones of a map as the sum of an iterator: as many as the channels whose bit is set.
use Rattle.std.proofs.Common.{ℕ, ◌+◌, ◌^◌, ◌<◌, ◌≡◌, arith, refl, ap, ◌∙◌, List, [], ◌∷◌, length, get_or}
use Rattle.std.specs.List.{sum_by}
use Rattle.std.specs.Int.Count.{ones}
use Rattle.std.proofs.lemmas.List.Sums.{sum_by-cons}
use Rattle.sweep_rules.specs.Map.{channels, is_set, set_bits}
use Rattle.sweep_rules.specs.Claims.{ones_of}
use Rattle.sweep_rules.proofs.Tests.{many_le}
use Rattle.sweep_rules.proofs.Maps.{ones_are_channels}

ones_summed : (m : List ℕ) → sum_by ones m ≡ ones_of m
unfolding ones_of
ones_summed [] = refl
ones_summed (w ∷ ws) = sum_by-cons ones w ws ∙ ap (λ (n : ℕ). ones w + n) (ones_summed ws)

pub sum_is_set_bits : (m : List ℕ) → length m ≡ 17 → ((i : ℕ) → get_or m i 0 < 2 ^ 64) → sum_by ones m ≡ set_bits m
sum_is_set_bits m long fits = ones_summed m ∙ ones_are_channels m long fits

pub sum_small : (m : List ℕ) → length m ≡ 17 → ((i : ℕ) → get_or m i 0 < 2 ^ 64) → sum_by ones m < 2 ^ 32
unfolding set_bits
sum_small m long fits = omega (arith, sum_is_set_bits m long fits, many_le (is_set m) channels)
