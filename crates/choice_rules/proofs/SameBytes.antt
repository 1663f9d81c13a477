-- Bytes that agree on a list of channels give one answer.
use Prim.Native.Nat.{ℕ}
use mathlib.Core.Path.{◌≡◌, refl, sym, ap, ◌∙◌}
use mathlib.Core.Bool.{true, false, cond}
use mathlib.Core.List.{List, [], ◌∷◌}
use mathlib.Core.Logic.{⊎_elim}
use lib.Dec.{eqb}
use Rattle.sweep_rules.proofs.Tests.{which}
use Rattle.choice_rules.specs.Choose.{suitable, camp, read, first_open, place_in, answer_of}
use Rattle.choice_rules.specs.Code.{All}
use Rattle.choice_rules.proofs.Answers.{is_open, first_yes, first_no}

-- outcomes that agree on a list give the same first open channel, and the same answer for it
pub answer_same : (o p : ℕ → ℕ) (order near cs : List ℕ) → All (λ c. o c ≡ p c) cs
    → answer_of o order near (first_open o cs) ≡ answer_of p order near (first_open p cs)
unfolding answer_of first_open
answer_same o p order near [] a = refl
answer_same o p order near (c ∷ cs) a = ⊎_elim
    (λ (e : is_open (o c) ≡ true).
    ap (answer_of o order near) (first_yes o c cs e)
    ∙ ap (λ (x : ℕ). cond (eqb x suitable) (camp c (place_in order c)) (read c (place_in order c))) a.0
    ∙ sym (ap (answer_of p order near) (first_yes p c cs (ap is_open (sym a.0) ∙ e))))
    (λ (e : is_open (o c) ≡ false).
    ap (answer_of o order near) (first_no o c cs e)
    ∙ answer_same o p order near cs a.1
    ∙ sym (ap (answer_of p order near) (first_no p c cs (ap is_open (sym a.0) ∙ e))))
    (which (is_open (o c)))
