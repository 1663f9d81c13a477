-- The two tests are those of the definition, of the numbers themselves.
use Rattle.std.proofs.Common.{◌≡◌, ◌<◌, refl, sym, ap, subst, ◌∙◌, Bool, ◌&&◌, ℤ, pos, ◌*ℤ◌, nat_abs, FitsSigned, w32}
use lib.Signed.{le_z}
use lib.Ieee.{Float, binary32, of_int, of_bits, div}
use mir.ValLaws.{to_z-of_z}
use Rattle.refusal.specs.declared.Refusal.TheVariants.{ReadingOutOfRange}
use Rattle.refusal.specs.Told.{gives, provided}
use Rattle.readings_rules.specs.Ranges.{in_range}
use Rattle.readings_rules.specs.Float.{shown, float_of}
use Rattle.readings_rules.proofs.Range.{product_fits}
use Rattle.readings.proofs.Ends.{read, end_read}
use Rattle.readings.proofs.Range.to_float.Goals.{else-self-h-via-then-self-h+else-h-self, else-self-h-via-else-self-h}
use Rattle.readings.proofs.Range.to_float.Goals as goal

-- an end in hundredths
end_is : (z : ℤ) → nat_abs z < 656 → read (read z *ℤ pos 100) ≡ z *ℤ pos 100
end_is z h = ap (λ (y : ℤ). read (y *ℤ pos 100)) (end_read z h) ∙ to_z-of_z w32 (z *ℤ pos 100) (product_fits z h)

low_test : (low h : ℤ) {b : Bool} → FitsSigned w32 h → nat_abs low < 656
    → le_z (read (read low *ℤ pos 100)) (read h) ≡ b → le_z (low *ℤ pos 100) h ≡ b
low_test low h {b} g l t =
    subst (λ (z : ℤ). le_z (low *ℤ pos 100) z ≡ b) (to_z-of_z w32 h g) (subst (λ (z : ℤ). le_z z (read h) ≡ b) (end_is low l) t)

high_test : (high h : ℤ) {b : Bool} → FitsSigned w32 h → nat_abs high < 656
    → le_z (read h) (read (read high *ℤ pos 100)) ≡ b → le_z h (high *ℤ pos 100) ≡ b
high_test high h {b} g l t =
    subst (λ (z : ℤ). le_z z (high *ℤ pos 100) ≡ b) (to_z-of_z w32 h g) (subst (λ (z : ℤ). le_z (read h) z ≡ b) (end_is high l) t)

picked : (low high h : ℤ) {a b : Bool} (x : Float) → le_z (low *ℤ pos 100) h ≡ a → le_z h (high *ℤ pos 100) ≡ b → x ≡ float_of h
    → provided (a && b) ReadingOutOfRange (gives x) ≡ shown low high h
unfolding shown
picked low high h {a} {b} x e f g =
    ap (λ (t : Bool). provided (t && b) ReadingOutOfRange (gives x)) (sym e)
    ∙ ap (λ (t : Bool). provided (le_z (low *ℤ pos 100) h && t) ReadingOutOfRange (gives x)) (sym f)
    ∙ ap (λ (y : Float). provided (in_range low high h) ReadingOutOfRange (gives y)) g

pub returns-then-h-self : goal.returns-then-h-self
unfolding float_of of_bits of_int
returns-then-h-self c =
    let r = c.args.self in
    picked r.low r.high c.args.h _ (low_test r.low c.args.h c.ranges.h r.near.0 c.if-self-h.true)
    (high_test r.high c.args.h c.ranges.h r.near.1 c.if-h-self.true)
    (ap (λ (z : ℤ). div binary32 (of_int binary32 z) (of_int binary32 (pos 100))) (to_z-of_z w32 c.args.h c.ranges.h))

pub returns-else-self-h : goal.returns-else-self-h
returns-else-self-h c =
    let r = c.args.self in
    elim c.else-self-h.branch [
      | else-self-h-via-then-self-h+else-h-self w ↦
          picked r.low r.high c.args.h (float_of c.args.h) (low_test r.low c.args.h c.ranges.h r.near.0 w.if-self-h.true)
          (high_test r.high c.args.h c.ranges.h r.near.1 w.if-h-self.false) refl
      | else-self-h-via-else-self-h w ↦
          picked r.low r.high c.args.h (float_of c.args.h) (low_test r.low c.args.h c.ranges.h r.near.0 w.if-self-h.false) refl refl
    ]
