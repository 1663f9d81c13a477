-- By the whole number that 64 bits hold, where it is not above the highest.
use Rattle.std.proofs.Common.{◌≡◌, ℕ, Bool, leb, Option, None, Some, refl, ap, ◌∙◌, arith, rules, tests}
use Rattle.std.specs.Bool.{then_some}
use Rattle.std.specs.Prelude.{MatchOption}
use Rattle.session_numbers.proofs.Ranges.{natural_up_to}
use Rattle.session_numbers.proofs.natural.Goals as goal

-- what the test keeps, as the definition tells it
kept : (highest : ℕ) (r q : Option ℕ) (P : ℕ → Bool → Type 0) → ((n : ℕ) (b : Bool) → P n b → b ≡ leb n highest)
    → MatchOption r (q ≡ None) (λ n. (b : Bool) × P n b × (q ≡ then_some b n)) → MatchOption r (q ≡ None) (λ n. q ≡ then_some (leb n highest) n)
kept highest None q P by f = f
kept highest (Some n) q P by f = f.2 ∙ ap (λ b. then_some b n) (by n f.0 f.1)

pub returns-clause-value : goal.returns-clause-value
returns-clause-value c =
    natural_up_to 64 18446744073709551615 c.args.highest _ c.args.word.now c.whole_number.result c.filter.result refl (omega arith) c.whole_number.ensures.told
    (kept c.args.highest c.whole_number.result c.filter.result _ (λ n b q. search (rules, tests)) c.filter.ensures)
