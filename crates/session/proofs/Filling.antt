-- Filling a buffer with the answers of a block, line after line: what has been written and what is still to be written stay the answers of
-- the whole.
use Prim.Native.Nat.{ℕ, zero, suc, ◌+◌, ◌-◌, ◌≤◌, ◌<◌}
use mathlib.Core.Path.{◌≡◌, refl, sym, ap, ap₂, ◌∙◌}
use mathlib.Core.Bool.{false, ◌&&◌}
use mathlib.Core.List.{List, [], ◌++◌, append_assoc}
use native.Mathlib.Omega.{arith}
use lib.ListN.{length, take, drop, length-drop}
use lib.Seq.{paste, take-paste, drop-paste, length-paste, drop-drop, take_all}
use lib.Dec.{leb, ltb}
use borrow.Author.Tests.{lt-ltb, le-leb}
use Rattle.watch_rules.proofs.Laws.{clash, and_both}
use Rattle.byte_scan.specs.Bytes.{index_of, slice}
use Rattle.session_words.specs.Words.{between}
use Rattle.session_words.proofs.Cuts.{to_end}
use Rattle.session_words.proofs.Lists.{rest-is}
use Rattle.session_words.specs.Bytes.{newline}
use Rattle.session_lines.specs.Lines.{kept_of, kept, with_more}
use Rattle.session_words.specs.Bytes.{fitting}
use Rattle.session_texts.specs.Text.{room}
use Rattle.session_lines.specs.declared.Line.{Line}
use Rattle.session.specs.declared.blocks.Session.{Session}
use Rattle.session.specs.File.{line_written, following}
use Rattle.session.specs.Reading.{so_far, to_write, GoesOn, Moves}
use Rattle.session.proofs.Steps.{goes_on, ends}

-- ---- the bytes of a block from `at` on, where the search for a newline ends at `end`

module _ (block : List ℕ) {at end : ℕ} (inside : at < length block) (found : end ≡ at + index_of newline (slice at (length block) block)) where
  place : end ≡ at + index_of newline (drop at block)
  place = found ∙ ap (λ r. at + index_of newline r) (to_end at block)

  -- no newline: all bytes go to the line that has begun
  pub line_on : (s t : Session) → end ≡ length block
      → kept t.line ≡ with_more (kept s.line) (between block at end) → t.state ≡ s.state → t.number ≡ s.number
      → GoesOn s (drop at block) [] t (drop (end - at) (drop at block))
  line_on s t e m a n =
      let size = length-drop at block in
      let all : between block at end ≡ drop at block = ap (λ k. take (k - at) (drop at block)) e ∙ rest-is block at in
      goes_on s t (drop at block) [] (end - at) refl (m ∙ ap (with_more (kept s.line)) all) a n (omega (arith, place, size, e)) (omega (arith, size, e))

  -- a newline: the line m has ended, and is answered
  pub line_ends : (s t : Session) (m : Line) (text : List ℕ) → end < length block
      → kept m ≡ with_more (kept s.line) (between block at end) → kept t.line ≡ kept_of []
      → text ≡ (line_written s.number s.state (so_far m)).text → t.state ≡ (line_written s.number s.state (so_far m)).state
      → t.number ≡ following s.number → GoesOn s (drop at block) text t (drop (end + 1 - at) (drop at block))
  line_ends s t m text e k b w a n =
      let size = length-drop at block in
      let i : end - at ≡ index_of newline (drop at block) = omega (arith, place) in
      let q : end + 1 - at ≡ suc (index_of newline (drop at block)) = omega (arith, place) in
      ends s t m (drop at block) text (end + 1 - at) w q (k
      ∙ ap (λ x. with_more (kept s.line) (take x (drop at block))) i) b a n (omega (arith, place, size, e))

-- ---- the buffer `out`, of which `used` bytes are answers, once `at` bytes of the block were taken

pub record Filling (s₀ : Session) (block out₀ out : List ℕ) (s : Session) (at used : ℕ) : Type 0 where
  pub within : at ≤ length block
  pub fits : used ≤ length out
  pub same : length out ≡ length out₀
  pub rest : GoesOn s₀ block (take used out) s (drop at block)
  pub beyond : drop used out ≡ drop used out₀
  pub begins : at ≡ 0 → used ≡ 0

pub filling_begins : (s : Session) (block out : List ℕ) → Filling s block out out s 0 0
filling_begins s block out =
    record { within = omega arith; fits = omega arith; same = refl; rest = λ more. refl; beyond = refl; begins = λ e. refl }

module _ {s₀ s : Session} {block out₀ out : List ℕ} {at used : ℕ} (f : Filling s₀ block out₀ out s at used) where
  -- k bytes more, of which a text is to be written
  pub filling_on : (t : Session) (text : List ℕ) {out' : List ℕ} {at' used' : ℕ} (k : ℕ) → at' ≡ at + k → 0 < k → at + k ≤ length block
      → room ≤ length out - used → length text ≤ room → GoesOn s (drop at block) text t (drop k (drop at block))
      → used' ≡ used + fitting text out used → out' ≡ paste out used text (fitting text out used) → Filling s₀ block out₀ out' t at' used'
  filling_on t text {out'} {at'} {used'} k on some few r l goes u p =
      let n : fitting text out used ≡ length text = omega (arith, r, l) in
      let e : used' ≡ used + length text = u ∙ ap (λ x. used + x) n in
      let q : out' ≡ paste out used text (length text) = p ∙ ap (paste out used text) n in
      let b : used + length text ≤ length out = omega (arith, r, l, f.fits) in
      let a : length text ≤ length text = omega arith in
      let m : length out' ≡ length out = ap length q ∙ length-paste out used text (length text) b a in
      let w : take used' out' ≡ take used out ++ text =
      ap₂ take e q ∙ take-paste out used text (length text) f.fits a ∙ ap (λ x. take used out ++ x) (take_all (length text) text a) in
      let x : drop used' out' ≡ drop used' out =
      ap₂ drop e q ∙ drop-paste out used text (length text) f.fits a ∙ ap (λ j. drop j out) (sym e) in
      record {
        within = omega (arith, on, few);
        fits = omega (arith, e, m, b);
        same = m ∙ f.same;
        rest = λ more.
            f.rest more
            ∙ ap (λ z. take used out ++ z) (goes more)
            ∙ sym (append_assoc (take used out) text (to_write t (drop k (drop at block) ++ more)))
            ∙ ap₂ (λ z v. z ++ to_write t (v ++ more)) (sym w) (drop-drop k at block ∙ ap (λ j. drop j block) (sym on));
        beyond =
            x ∙ ap (λ j. drop j out) e ∙ sym (drop-drop (length text) used out)
            ∙ ap (drop (length text)) f.beyond
            ∙ drop-drop (length text) used out₀ ∙ ap (λ j. drop j out₀) (sym e);
        begins = λ i. let v : ⊥ = omega (arith, on, some, i) in absurd v;
      }

  -- where nothing was taken, there is nothing to take or no room
  pub filling_moves : (ltb at (length block) && leb room (length out - used)) ≡ false → Moves block out₀ at
  filling_moves e h r = go at refl
    where
      go : (n : ℕ) → at ≡ n → 0 < at
      go (suc n) i = omega arith
      go zero i =
          let b = f.begins i in
          absurd (clash (and_both (lt-ltb at (length block) (omega (arith, i, h))) (le-leb room (length out - used) (omega (arith, f.same, b, r)))) e)
