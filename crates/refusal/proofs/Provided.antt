-- The chain of refusals: a test that fails refuses, one that holds goes on to the next.
use Prim.Native.Nat.{ℕ}
use mathlib.Core.Path.{◌≡◌, refl, sym, ap, ◌∙◌}
use mathlib.Core.Bool.{Bool, true, false}
use Rattle.refusal.specs.declared.Refusal.{Refusal}
use Rattle.refusal.specs.declared.Reason.{Reason}
use Rattle.refusal.specs.Number.{reason_of}
use Rattle.refusal.specs.Told.{Told, refused, gives, accepted, refused_for, provided, acceptance}
use Rattle.refusal.specs.Claims.{ToldRule, HandedRule}
use Rattle.refusal.proofs.OneToOne.{gives_refused}

-- one answer has one reason
pub same_reason : {A : Type 0} {t : Told A} {m n : Reason} → t ≡ refused m → t ≡ refused n → m ≡ n
same_reason {A} {t} {m} {n} p q = let e : ◌≡◌ {A = Told A} (refused m) (refused n) = sym p ∙ q in cc

pub acceptance_refused : {A : Type 0} (t : Told A) {n : Reason} → acceptance t ≡ refused n → t ≡ refused n
acceptance_refused (gives a) e = absurd (gives_refused e)
acceptance_refused (refused m) e = ap refused (same_reason refl e)

module _ {A : Type 0} where
  pub refuse_now : {b : Bool} (r : Refusal) (a : Told A) → b ≡ false → provided b r a ≡ refused_for r
  refuse_now r a e = ap (λ (b : Bool). provided b r a) e

  pub refuse_later : {b : Bool} (r : Refusal) {a c : Told A} → b ≡ true → a ≡ c → provided b r a ≡ c
  refuse_later r {a} e q = ap (λ (b : Bool). provided b r a) e ∙ q

  -- where nothing refuses, each test of the chain holds
  pub passed_test : (r : Refusal) (b : Bool) (a : Told A) {x : A} → provided b r a ≡ gives x → b ≡ true
  passed_test r true a e = refl
  passed_test r false a e = absurd (gives_refused (sym e))

  pub passed_rest : (r : Refusal) (b : Bool) (a : Told A) {x : A} → provided b r a ≡ gives x → a ≡ gives x
  passed_rest r true a e = e
  passed_rest r false a e = absurd (gives_refused (sym e))

  -- a refusal comes from the test or from what follows it
  pub refused_by {ℓ} : {P : Type ℓ} {n : Reason} (b : Bool) (r : Refusal) (a : Told A) → provided b r a ≡ refused n
      → (b ≡ false → reason_of r ≡ n → P) → (b ≡ true → a ≡ refused n → P) → P
  refused_by true r a e f g = g refl e
  refused_by false r a e f g = f refl (same_reason refl e)

-- ---- the words themselves

accepted_gives : (a : Told ℕ) → acceptance a ≡ accepted → (x : ℕ) × (a ≡ gives x)
accepted_gives (gives x) e = (x, refl)
accepted_gives (refused n) e = absurd (gives_refused (sym e))

pub told_rule : ToldRule
told_rule =
    record {
      holds = λ r a. refl;
      fails = λ r a. refl;
      accepts = λ a. (accepted_gives a, λ h. ap acceptance h.1);
      refuses = λ a n. (acceptance_refused a, ap acceptance);
      given = λ x. refl;
      not_given = λ n x. refl;
      changed = λ before after. refl;
      unchanged = λ n before after. refl;
    }

pub handed_rule : HandedRule
handed_rule =
    record {
      leaves_made = λ given made. refl;
      leaves_given = λ n given. refl;
      hands_made = λ given made x. refl;
      hands_given = λ n given made x. refl;
    }
