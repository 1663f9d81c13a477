-- Laws of tests, lists and rows that belong to no one call. Each goes by cases of a test, or down a list.
use Prim.Native.Nat.{ℕ, zero, suc, ◌≤◌}
use mathlib.Core.Path.{◌≡◌, refl, sym, ap, ◌∙◌}
use mathlib.Core.Bool.{Bool, true, false, not, cond, ◌&&◌, ◌||◌, true≢false, false≢true}
use mathlib.Core.List.{List, [], ◌∷◌, ◌++◌, append_assoc}
use native.Mathlib.Omega.{arith}
use lib.Dec.{eqb}
use lib.IntN.{ℤ}
use lib.ListN.{length, drop, take, length-append}
use lib.Seq.{drop_at, take-length}
use borrow.Author.Tests.{eqb-true, eqb-false, eq-eqb, ne_eqb}
use Rattle.watch_rules.specs.Lists.{mem, every, last_n, pad_to}
use Rattle.watch_rules.specs.Rules.{View}
use Rattle.watch_rules.specs.Rows.{Row, channels, levels_of, first, rest, push_at}
use Rattle.watch_rules.specs.Claims.{LastOf}
use Rattle.watch_rules.proofs.Levels.{last_of}

-- ---- tests

pub by_case {ℓ} : {P : Type ℓ} (b : Bool) → (b ≡ true → P) → (b ≡ false → P) → P
by_case true f g = f refl
by_case false f g = g refl

pub clash {ℓ} : {P : Type ℓ} {b : Bool} → b ≡ true → b ≡ false → P
clash p q = absurd (true≢false (sym p ∙ q))

pub and_left : (a b : Bool) → (a && b) ≡ true → a ≡ true
and_left true b e = refl
and_left false b e = e

pub and_right : (a b : Bool) → (a && b) ≡ true → b ≡ true
and_right true b e = e
and_right false b e = absurd (false≢true e)

pub and_both : {a b : Bool} → a ≡ true → b ≡ true → (a && b) ≡ true
and_both p q = rw (p, q)

pub not_is : (a : Bool) → not a ≡ true → a ≡ false
not_is true e = sym e
not_is false e = refl

pub or_false_left : (a b : Bool) → (a || b) ≡ false → a ≡ false
or_false_left true b e = e
or_false_left false b e = refl

pub or_false_right : (a b : Bool) → (a || b) ≡ false → b ≡ false
or_false_right true b e = absurd (true≢false e)
or_false_right false b e = e

pub or_true_right : (a b : Bool) → (a || b) ≡ true → a ≡ false → b ≡ true
or_true_right true b e q = clash refl q
or_true_right false b e q = e

pub cond_same : {A : Type 0} (b : Bool) (a : A) → cond b a a ≡ a
cond_same true a = refl
cond_same false a = refl

pub cond_map : {A B : Type 0} (f : A → B) (b : Bool) (x y : A) → f (cond b x y) ≡ cond b (f x) (f y)
cond_map f true x y = refl
cond_map f false x y = refl

pub eqb_sym : (a b : ℕ) → eqb a b ≡ eqb b a
eqb_sym a b =
    by_case (eqb a b)
    (λ e. e ∙ sym (eq-eqb b a (sym (eqb-true a b e))))
    (λ e. e ∙ sym (ne_eqb b a (λ q. eqb-false a b e (sym q))))

-- ---- lists

pub take_pad_to : {A : Type 0} (n : ℕ) (d : A) (xs : List A) → take (length xs) (pad_to n d xs) ≡ xs
take_pad_to zero d [] = refl
take_pad_to zero d (x ∷ xs) = ap (◌∷◌ x) (take-length xs)
take_pad_to (suc n) d [] = refl
take_pad_to (suc n) d (x ∷ xs) = ap (◌∷◌ x) (take_pad_to n d xs)

pub length_pad_to : {A : Type 0} (n : ℕ) (d : A) (xs : List A) → length xs ≤ n → length (pad_to n d xs) ≡ n
length_pad_to zero d [] h = refl
length_pad_to zero d (x ∷ xs) h = absurd (omega arith)
length_pad_to (suc n) d [] h = ap suc (length_pad_to n d [] (omega arith))
length_pad_to (suc n) d (x ∷ xs) h = ap suc (length_pad_to n d xs (omega arith))

pub take_none : {A : Type 0} (l : List A) → take 0 l ≡ []
take_none [] = refl
take_none (a ∷ l) = refl

pub drop_none : {A : Type 0} (l : List A) → drop 0 l ≡ l
drop_none [] = refl
drop_none (a ∷ l) = refl

-- ends of one list that are as long as each other
ends_same : {A : Type 0} (a b c d : List A) → a ++ b ≡ c ++ d → length b ≡ length d → b ≡ d
ends_same a b c d e h =
    let k : length a ≡ length c = omega (arith, ap length e, length-append a b, length-append c d) in
    sym (drop_at a b (length c) k) ∙ ap (drop (length c)) e ∙ drop_at c d (length c) refl

pub last-last : {A : Type 0} (n : ℕ) (l : List A) (x : A) → last_n n (last_n n l ++ x ∷ []) ≡ last_n n (l ++ x ∷ [])
last-last {A} n l x =
    let p : LastOf n l (last_n n l) = last_of n l in
    let q : LastOf n (last_n n l ++ x ∷ []) (last_n n (last_n n l ++ x ∷ [])) = last_of n (last_n n l ++ x ∷ []) in
    let r : LastOf n (l ++ x ∷ []) (last_n n (l ++ x ∷ [])) = last_of n (l ++ x ∷ []) in
    ends_same (p.older ++ q.older) (last_n n (last_n n l ++ x ∷ [])) r.older (last_n n (l ++ x ∷ []))
    (append_assoc p.older q.older (last_n n (last_n n l ++ x ∷ []))
    ∙ ap (λ (z : List A). p.older ++ z) (sym q.joined)
    ∙ sym (append_assoc p.older (last_n n l) (x ∷ []))
    ∙ ap (λ (z : List A). z ++ x ∷ []) (sym p.joined)
    ∙ r.joined)
    (omega (arith, p.number, q.number, r.number, length-append (last_n n l) (x ∷ []), length-append l (x ∷ [])))

pub last_short : {A : Type 0} (n : ℕ) (l : List A) → length l ≤ n → last_n n l ≡ l
last_short n l h =
    let p : LastOf n l (last_n n l) = last_of n l in
    ends_same p.older (last_n n l) [] l (sym p.joined) (omega (arith, p.number))

pub last_none : {A : Type 0} (n : ℕ) → last_n {A = A} n [] ≡ []
last_none n = last_short n [] (omega arith)

pub length_last_n : {A : Type 0} (n : ℕ) (l : List A) → length (last_n n l) ≤ n
length_last_n n l = omega (arith, (last_of n l).number)

every_end : {A : Type 0} (f : A → Bool) (a b : List A) → every f (a ++ b) ≡ true → every f b ≡ true
every_end f [] b e = e
every_end f (x ∷ a) b e = every_end f a b (and_right (f x) (every f (a ++ b)) e)

pub every_last : {A : Type 0} (f : A → Bool) (n : ℕ) (l : List A) → every f l ≡ true → every f (last_n n l) ≡ true
every_last f n l e = every_end f (last_of n l).older (last_n n l) (ap (every f) (sym (last_of n l).joined) ∙ e)

pub every_snoc : {A : Type 0} (f : A → Bool) (l : List A) (x : A) → every f l ≡ true → f x ≡ true → every f (l ++ x ∷ []) ≡ true
every_snoc f [] x e h = and_both h refl
every_snoc f (a ∷ l) x e h =
    and_both (and_left (f a) (every f l) e) (every_snoc f l x (and_right (f a) (every f l) e) h)

-- ---- a channel's row

pub view_path : {u v : View} → u.depth ≡ v.depth → u.serving ≡ v.serving → ((c : ℕ) → u.neighbour c ≡ v.neighbour c)
    → ((c : ℕ) → u.levels c ≡ v.levels c) → u ≡ v
view_path o p q r = λ i. record { depth = o i; serving = p i; neighbour = λ c. q c i; levels = λ c. r c i }

pub levels_none : (d : ℕ) (rs : List Row) → mem d (channels rs) ≡ false → levels_of d rs ≡ []
levels_none d [] e = refl
levels_none d (r ∷ rs) e =
    rw (or_false_left (eqb r.channel d) (mem d (channels rs)) e)
    (levels_none d rs (or_false_right (eqb r.channel d) (mem d (channels rs)) e))

-- ---- a level that is filed

module _ (depth c : ℕ) (x : ℤ) where
  pub channels_push : (rs : List Row) → channels (push_at depth c x rs) ≡ channels rs
  channels_push [] = refl
  channels_push (r ∷ rs) =
      by_case (eqb r.channel c) (λ q. rw q) (λ q. rw q (ap (◌∷◌ r.channel) (channels_push rs)))

  pub first_push : (rs : List Row) → first (push_at depth c x rs) ≡ first rs
  first_push [] = refl
  first_push (r ∷ rs) = by_case (eqb r.channel c) (λ q. rw q) (λ q. rw q)

  pub rest_push : (rs : List Row) → channels (rest (push_at depth c x rs)) ≡ channels (rest rs)
  rest_push [] = refl
  rest_push (r ∷ rs) = by_case (eqb r.channel c) (λ q. rw q) (λ q. rw q (channels_push rs))

  pub levels-push : (d : ℕ) (rs : List Row) → mem c (channels rs) ≡ true
      → levels_of d (push_at depth c x rs) ≡ cond (eqb c d) (last_n depth (levels_of d rs ++ x ∷ [])) (levels_of d rs)
  levels-push d [] h = clash h refl
  levels-push d (r ∷ rs) h =
      by_case (eqb r.channel c)
      (λ q. by_case (eqb r.channel d)
      (λ v. let e : eqb c d ≡ true = eq-eqb c d (sym (eqb-true r.channel c q) ∙ eqb-true r.channel d v) in rw (q, e, v))
      (λ v. let e : eqb c d ≡ false = ne_eqb c d (λ z. eqb-false r.channel d v (eqb-true r.channel c q ∙ z)) in rw (q, e, v)))
      (λ q. by_case (eqb r.channel d)
      (λ v. let e : eqb c d ≡ false = ne_eqb c d (λ z. eqb-false r.channel c q (eqb-true r.channel d v ∙ sym z)) in rw (q, e, v))
      (λ v. rw (q, v) (levels-push d rs (or_true_right (eqb r.channel c) (mem c (channels rs)) h q))))
