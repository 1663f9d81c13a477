-- A call that only reads a record: refusal 9, or a value of a well formed one.
use Rattle.std.proofs.Common.{refl, ◌≡◌, sym, ap, ◌∙◌, Result, Ok, Err}
use Rattle.std.specs.Result.{MatchResult, IsOkAnd}
use Rattle.refusal.specs.declared.Refusal.{Refusal}
use Rattle.refusal.specs.declared.Refusal.TheVariants.{RecordNotWellFormed}
use Rattle.refusal.specs.Told.{gives, accepted, refused, provided, told, told_as}
use Rattle.refusal.proofs.OneToOne.{gives_refused}
use Rattle.refusal.proofs.Provided.{passed_test, refused_by, refuse_now, refuse_later}
use Rattle.sweep_rules.specs.declared.Sweep.{Sweep}
use Rattle.sweep_rules.specs.Record.{well_formed}
use Rattle.sweep_rules.specs.Filing.{checking}

-- the answer is the test's, with a value where that accepts
pub read_of : {A B : Type 0} (words : A → B) (value : B) (s : Sweep) (t : Result Unit Refusal) (r : Result A Refusal) {P : Unit → A → Type 0}
    → told t ≡ checking s → MatchResult t (λ u. IsOkAnd r (P u)) (λ why. r ≡ Err why) → ((u : Unit) (a : A) → P u a → words a ≡ value)
    → told_as words r ≡ provided (well_formed s) RecordNotWellFormed (gives value)
unfolding checking
read_of words value s (Ok u) (Ok a) e m h =
    ap gives (h u a m) ∙ sym (refuse_later RecordNotWellFormed (passed_test RecordNotWellFormed (well_formed s) accepted (sym e)) refl)
read_of words value s (Ok u) (Err why) e m h = absurd m
read_of words value s (Err why) r e m h =
    ap (told_as words) m
    ∙ refused_by (well_formed s) RecordNotWellFormed accepted (sym e)
    (λ w q. sym (refuse_now RecordNotWellFormed (gives value) w ∙ ap refused q))
    (λ w q. absurd (gives_refused q))
