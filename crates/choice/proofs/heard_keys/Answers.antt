-- `heard_keys` meets its contract: a heard channel adds its key to the list.
use Rattle.std.proofs.Common.{ℕ, ◌<◌, ◌≡◌, arith, rules, sym, ap, ◌∙◌, List, [], ◌∷◌, ◌++◌, length, length-append, ℤ, w32, FitsSigned}
use Rattle.arrayvec.specs.ArrayVec.{ArrayVec}
use mir.ValLaws.{to_z-of_z}
use Rattle.readings_rules.specs.Ranges.{level_in_range}
use Rattle.sweep_rules.specs.Map.{channels, is_set}
use Rattle.sweep_rules.specs.Record.{level_at}
use Rattle.sweep_rules.proofs.Formed.{level_range, well_formed_rule}
use Rattle.choice_rules.specs.Code.{key_of}
use Rattle.choice_rules.proofs.Gathered.{keys_to, keys_start, keys_same, keys_new}
use Rattle.choice.proofs.heard_keys.Goals as goal
use Rattle.choice.proofs.heard_keys.Goals.{then-is_set, else-is_set}

pub loop-c-init : goal.loop-c-init
loop-c-init c =
    let s = c.args.sweep.now in
    record {
      are = c.new-keys.ensures ∙ sym (keys_start (is_set s.heard) (level_at s));
      few = simp c.new-keys.ensures (omega arith);
    }

pub key-requires : goal.key-requires
key-requires c =
    let s = c.args.sweep.now in
    let z = level_at s c.loop-c.c in
    let h : c.loop-c.c < channels = omega arith in
    let fits : FitsSigned w32 z = search rules in
    (ap level_in_range (to_z-of_z w32 z fits) ∙ level_range s ((well_formed_rule s).0 c.requires) c.loop-c.c h, h)

pub loop-c-preserved : goal.loop-c-preserved
loop-c-preserved c =
    let s = c.args.sweep.now in
    let l = c.loop-c in
    let z = level_at s l.c in
    let few = l.invariant.few in
    elim c.if-is_set.branch [
      | then-is_set w ↦
          let fits : FitsSigned w32 z = search rules in
          let k : w.key.result ≡ key_of z l.c = w.key.ensures ∙ ap (λ (y : ℤ). key_of y l.c) (to_z-of_z w32 z fits) in
          let e : c.if-is_set.keys.items ≡ l.keys.items ++ (w.key.result ∷ []) = ap (λ (v : ArrayVec ℕ). v.items) w.keys-is ∙ w.push.ensures.items in
          record {
            are =
                e ∙ ap (λ (xs : List ℕ). xs ++ (w.key.result ∷ [])) l.invariant.are
                ∙ ap (λ (n : ℕ). keys_to (is_set s.heard) (level_at s) l.c ++ (n ∷ [])) k
                ∙ sym (keys_new (is_set s.heard) (level_at s) l.c (sym w.if-is_set.ensures));
            few = rw e (simp length-append (omega arith));
          }
      | else-is_set w ↦
          record {
            are = ap (λ (v : ArrayVec ℕ). v.items) w.keys-is ∙ l.invariant.are ∙ sym (keys_same (is_set s.heard) (level_at s) l.c (sym w.if-is_set.ensures));
            few = let q = ap (λ (v : ArrayVec ℕ). length v.items) w.keys-is in omega arith;
          }
    ]
