-- The two tests are those of the definition, of the ends themselves.
use Rattle.std.proofs.Common.{◌≡◌, ◌<◌, Bool, ℤ, nat_abs, w32, subst, ◌∙◌}
use lib.Ieee.{Float, binary32, of_int, le}
use mir.ValLaws.{to_z-of_z}
use borrow.Author.Rules.{sfits_of}
use Rattle.readings_rules.proofs.Range.{inside_small, inside, too_high, too_low}
use Rattle.readings.proofs.Ends.{read, end_read}
use Rattle.readings.proofs.Range.to_hundredths.Goals.{else-self-x-via-then-self-x+else-x-self, else-self-x-via-else-self-x}
use Rattle.readings.proofs.Range.to_hundredths.Goals as goal

low_test : (low : ℤ) (x : Float) {b : Bool} → nat_abs low < 656 → le (of_int binary32 (read low)) x ≡ b → le (of_int binary32 low) x ≡ b
low_test low x {b} h t = subst (λ (z : ℤ). le (of_int binary32 z) x ≡ b) (end_read low h) t

high_test : (high : ℤ) (x : Float) {b : Bool} → nat_abs high < 656 → le x (of_int binary32 (read high)) ≡ b → le x (of_int binary32 high) ≡ b
high_test high x {b} h t = subst (λ (z : ℤ). le x (of_int binary32 z) ≡ b) (end_read high h) t

pub nearest_hundredths-requires : goal.nearest_hundredths-requires
nearest_hundredths-requires c =
    let r = c.args.self in
    inside_small r.low r.high c.args.x r.near.0 r.near.1 (low_test r.low c.args.x r.near.0 c.if-self-x.true)
    (high_test r.high c.args.x r.near.1 c.if-x-self.true)

pub returns-then-x-self : goal.returns-then-x-self
returns-then-x-self c =
    let r = c.args.self in
    inside r.low r.high c.args.x r.near.0 r.near.1 _ (low_test r.low c.args.x r.near.0 c.if-self-x.true)
    (high_test r.high c.args.x r.near.1 c.if-x-self.true)
    (to_z-of_z w32 c.nearest_hundredths.result (sfits_of c.nearest_hundredths.type_inv) ∙ c.nearest_hundredths.ensures)

pub returns-else-self-x : goal.returns-else-self-x
returns-else-self-x c =
    let r = c.args.self in
    elim c.else-self-x.branch [
      | else-self-x-via-then-self-x+else-x-self w ↦
          too_high r.low r.high c.args.x r.near.0 r.near.1 (low_test r.low c.args.x r.near.0 w.if-self-x.true)
          (high_test r.high c.args.x r.near.1 w.if-x-self.false)
      | else-self-x-via-else-self-x w ↦
          too_low r.low r.high c.args.x r.near.0 r.near.1 (low_test r.low c.args.x r.near.0 w.if-self-x.false)
    ]
