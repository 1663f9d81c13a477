-- The words for lists that the rules are written in, each by how often a channel is in a list. Down the list.
use Prim.Native.Nat.{ℕ, suc, ◌+◌, ◌≤◌, ◌<◌}
use mathlib.Core.Path.{◌≡◌, refl, sym, ap, ◌∙◌}
use mathlib.Core.Bool.{Bool, true, false, not}
use mathlib.Core.List.{List, [], ◌∷◌, ◌++◌}
use mathlib.Core.Option.{Option, none, some}
use native.Mathlib.Omega.{arith}
use lib.Dec.{eqb}
use lib.IntN.{ℤ, ◌+ℤ◌, +ℤ_idl, +ℤ_idr, +ℤ_assoc}
use borrow.Author.Tests.{eqb-true, eq-eqb, ne_eqb}
use Rattle.watch_rules.specs.Lists.{mem, times_in, distinct, every, is, sum}
use Rattle.watch_rules.specs.Claims.{WordsRule}
use Rattle.watch_rules.proofs.Laws.{by_case, clash, and_left, and_right, not_is, or_false_left, or_false_right, or_true_right}

-- ---- in the list

pub mem_times : (c : ℕ) (l : List ℕ) → mem c l ≡ true → 0 < times_in c l
mem_times c [] e = clash e refl
mem_times c (d ∷ l) e =
    by_case (eqb d c) (λ q. rw q (omega arith)) (λ q. rw q (mem_times c l (or_true_right (eqb d c) (mem c l) e q)))

pub times_mem : (c : ℕ) (l : List ℕ) → 0 < times_in c l → mem c l ≡ true
times_mem c [] h = absurd (omega arith)
times_mem c (d ∷ l) h = by_case (eqb d c) (λ q. rw q) (λ q. rw q (times_mem c l (rw q at h)))

times_none : (c : ℕ) (l : List ℕ) → mem c l ≡ false → times_in c l ≡ 0
times_none c [] e = refl
times_none c (d ∷ l) e = rw (or_false_left (eqb d c) (mem c l) e) (times_none c l (or_false_right (eqb d c) (mem c l) e))

pub times_more : (c d : ℕ) (l : List ℕ) → times_in c l ≤ times_in c (d ∷ l)
times_more c d l = by_case (eqb d c) (λ q. rw q (omega arith)) (λ q. rw q (omega arith))

pub times_first : (c : ℕ) (l : List ℕ) → times_in c (c ∷ l) ≡ suc (times_in c l)
times_first c l = rw (eq-eqb c c refl)

pub times_joined_lem : (c : ℕ) (l m : List ℕ) → times_in c (l ++ m) ≡ times_in c l + times_in c m
times_joined_lem c [] m = omega arith
times_joined_lem c (d ∷ l) m =
    by_case (eqb d c) (λ q. rw q (omega (arith, times_joined_lem c l m))) (λ q. rw q (times_joined_lem c l m))

-- ---- the sum

sum_joined_lem : (l m : List ℤ) → sum (l ++ m) ≡ sum l +ℤ sum m
sum_joined_lem [] m = sym (+ℤ_idl (sum m))
sum_joined_lem (x ∷ l) m = ap (λ (z : ℤ). x +ℤ z) (sum_joined_lem l m) ∙ sym (+ℤ_assoc x (sum l) (sum m))

-- ---- no channel twice

pub distinct_times : (l : List ℕ) → distinct l ≡ true → (c : ℕ) → times_in c l ≤ 1
distinct_times [] e c = omega arith
distinct_times (d ∷ l) e c =
    by_case (eqb d c)
    (λ q.
    let z : mem d l ≡ false = not_is (mem d l) (and_left (not (mem d l)) (distinct l) e) in
    let n : times_in c l ≡ 0 = times_none c l (ap (λ (x : ℕ). mem x l) (sym (eqb-true d c q)) ∙ z) in
    rw q (omega arith))
    (λ q. rw q (distinct_times l (and_right (not (mem d l)) (distinct l) e) c))

-- the channel that is there twice
pub repeat_found : (l : List ℕ) → distinct l ≡ false → (c : ℕ) × (1 < times_in c l)
repeat_found [] e = clash refl e
repeat_found (d ∷ l) e =
    by_case (mem d l)
    (λ m. (d, (let f = times_first d l in let n = mem_times d l m in omega arith)))
    (λ m.
    let r : (c : ℕ) × (1 < times_in c l) = repeat_found l (rw m at e) in
    (r.0, (let g = times_more r.0 d l in let n = r.1 in omega arith)))

-- ---- a test of each channel

-- the channel that fails it
pub every_found : (test : ℕ → Bool) (l : List ℕ) → every test l ≡ false → (c : ℕ) × (0 < times_in c l) × (test c ≡ false)
every_found test [] e = clash refl e
every_found test (d ∷ l) e =
    by_case (test d)
    (λ m.
    let r : (c : ℕ) × (0 < times_in c l) × (test c ≡ false) = every_found test l (rw m at e) in
    (r.0, (let g = times_more r.0 d l in let n = r.1 in omega arith), r.2))
    (λ m. (d, (let f = times_first d l in omega arith), m))

pub every_times : (test : ℕ → Bool) (l : List ℕ) → every test l ≡ true → (c : ℕ) → 0 < times_in c l → test c ≡ true
every_times test [] e c h = absurd (omega arith)
every_times test (d ∷ l) e c h =
    by_case (eqb d c)
    (λ q. ap test (sym (eqb-true d c q)) ∙ and_left (test d) (every test l) e)
    (λ q. every_times test l (and_right (test d) (every test l) e) c (rw q at h))

-- ---- the one that is there

pub is_some : (o : Option ℕ) (c : ℕ) → is o c ≡ true → o ≡ some c
is_some none c e = clash e refl
is_some (some b) c e = ap {B = Option ℕ} some (eqb-true b c e)

pub some_is : (o : Option ℕ) (c : ℕ) → o ≡ some c → is o c ≡ true
some_is o c e = ap (λ (x : Option ℕ). is x c) e ∙ eq-eqb c c refl

pub words_rule : WordsRule
words_rule =
    record {
      times_one = λ c. times_first c [];
      times_other = λ c d n. rw (ne_eqb d c n);
      times_joined = times_joined_lem;
      sum_one = λ x. +ℤ_idr x;
      sum_joined = sum_joined_lem;
      among = λ c l. (mem_times c l, times_mem c l);
      apart = λ l. (
        distinct_times l,
        (λ h. by_case (distinct l) (λ e. e) (λ e. absurd (let r = repeat_found l e in let n = h r.0 in omega (arith, r.1)))),
      );
      all = λ test l. (
        every_times test l,
        (λ h. by_case (every test l) (λ e. e) (λ e. (let r = every_found test l e in clash (h r.0 r.1) r.2))),
      );
      same = λ o c. (is_some o c, some_is o c);
    }
