-- A list of filings, call by call: what one more at its end comes to. Each law goes by the list, and its last case by the rule of one filing.
use mathlib.Core.Path.{◌≡◌, refl, ap, ◌∙◌}
use mathlib.Core.Bool.{Bool, true, false, cond}
use mathlib.Core.List.{List, [], ◌∷◌, ◌++◌, append-nil}
use Rattle.refusal.specs.Told.{Told, refused, gives}
use Rattle.sweep_rules.specs.Filing.{leaves}
use Rattle.sweep_rules.specs.Claims.{Accepts, Filing, told, after, is_accepted, accepted_of, is_heard, heard_of, SequenceRule}
use Rattle.sweep_rules.specs.declared.Sweep.{Sweep}
use Rattle.sweep_rules.proofs.Refusals.{from_row, to_row}

-- a part of the elements, one by one
cond-append : (b : Bool) (f : Filing) (fs gs hs : List Filing) → gs ≡ fs ++ hs → cond b (f ∷ gs) gs ≡ cond b (f ∷ fs) fs ++ hs
cond-append true f fs gs hs e = ap (λ (l : List Filing). f ∷ l) e
cond-append false f fs gs hs e = e

after_more : (fs : List Filing) (s : Sweep) (f : Filing) → after s (fs ++ (f ∷ [])) ≡ leaves (after s fs) (told (after s fs) f)
unfolding after
after_more [] s f = refl
after_more (g ∷ fs) s f = after_more fs (leaves s (told s g)) f

accepted_more : (fs : List Filing) (s : Sweep) (f : Filing)
    → accepted_of s (fs ++ (f ∷ [])) ≡ accepted_of s fs ++ cond (is_accepted (told (after s fs) f)) (f ∷ []) []
unfolding after accepted_of
accepted_more [] s f = refl
accepted_more (g ∷ fs) s f =
    let u = leaves s (told s g) in
    let last = cond (is_accepted (told (after u fs) f)) (f ∷ []) [] in
    cond-append (is_accepted (told s g)) g (accepted_of u fs) (accepted_of u (fs ++ (f ∷ []))) last (accepted_more fs u f)

heard_more : (fs : List Filing) (f : Filing) → heard_of (fs ++ (f ∷ [])) ≡ heard_of fs ++ cond (is_heard f.burst) (f ∷ []) []
unfolding heard_of
heard_more [] f = refl
heard_more (g ∷ fs) f =
    cond-append (is_heard g.burst) g (heard_of fs) (heard_of (fs ++ (f ∷ []))) (cond (is_heard f.burst) (f ∷ []) []) (heard_more fs f)

taken : (s : Sweep) (f : Filing) → Accepts s f.channel f.burst → is_accepted (told s f) ≡ true
taken s f A = by (told s f) refl
  where
    by : (a : Told Sweep) → told s f ≡ a → is_accepted a ≡ true
    by (gives t) e = refl
    by (refused n) e = absurd (A n (to_row s f.channel f.burst n e))

module _ (l : List Filing) (f : Filing) (b : Bool) where
  one_more_lem : b ≡ true → l ++ cond b (f ∷ []) [] ≡ l ++ (f ∷ [])
  one_more_lem e = ap (λ (x : Bool). l ++ cond x (f ∷ []) []) e

  none_more : b ≡ false → l ++ cond b (f ∷ []) [] ≡ l
  none_more e = ap (λ (x : Bool). l ++ cond x (f ∷ []) []) e ∙ append-nil l

pub sequence_rule : SequenceRule
unfolding after accepted_of heard_of
sequence_rule = record {
  none_yet = λ s. refl;
  one_more = λ s fs f. after_more fs s f;
  none_accepted = λ s. refl;
  one_accepted = λ s fs f A. accepted_more fs s f ∙ one_more_lem (accepted_of s fs) f (is_accepted (told (after s fs) f)) (taken (after s fs) f A);
  one_refused = λ s fs f n row.
      accepted_more fs s f
      ∙ none_more (accepted_of s fs) f (is_accepted (told (after s fs) f)) (ap is_accepted (from_row (after s fs) f.channel f.burst row));
  none_heard = refl;
  one_heard = λ fs f r e. heard_more fs f ∙ one_more_lem (heard_of fs) f (is_heard f.burst) (ap is_heard e);
  one_missed = λ fs f e. heard_more fs f ∙ none_more (heard_of fs) f (is_heard f.burst) (ap is_heard e);
}
