-- Sequences of calls: one call more at the end, and two sequences side by side. If each pair of calls answers alike and leaves related states
-- related, then so does every sequence of such pairs; each law goes down the sequence.
use mathlib.Core.Path.{◌≡◌, refl, ap, ap₂, ◌∙◌, subst}
use mathlib.Core.List.{List, [], ◌∷◌, ◌++◌, Forall₂}
use Rattle.laws.specs.Sequences.{after_all, answers_to}

-- ---- one call more

module _ {S C : Type 0} (next : S → C → S) where
  pub after_more : (s : S) (ks : List C) (k : C) → after_all next s (ks ++ k ∷ []) ≡ next (after_all next s ks) k
  after_more s [] k = refl
  after_more s (j ∷ ks) k = after_more (next s j) ks k

  pub answers_more : {A : Type 0} (answer : S → C → A) (s : S) (ks : List C) (k : C)
      → answers_to next answer s (ks ++ k ∷ []) ≡ answers_to next answer s ks ++ answer (after_all next s ks) k ∷ []
  answers_more answer s [] k = refl
  answers_more answer s (j ∷ ks) k = ap (◌∷◌ (answer s j)) (answers_more answer (next s j) ks k)

  -- what every call keeps, every sequence keeps
  pub kept_through : (P : S → Type 0) → ((s : S) (k : C) → P s → P (next s k)) → (s : S) (ks : List C) → P s → P (after_all next s ks)
  kept_through P step s [] p = p
  kept_through P step s (k ∷ ks) p = kept_through P step (next s k) ks (step s k p)

-- ---- side by side

-- two sequences of calls, pair by pair alike, from related states: their answers are pair by pair close, and they end in related states
module _ {S T C D : Type 0} (next : S → C → S) (after : T → D → T) (Related : S → T → Type 0) (Alike : C → D → Type 0)
    (stay : (s : S) (t : T) (k : C) (j : D) → Alike k j → Related s t → Related (next s k) (after t j)) where
  pub ends_related : (s : S) (t : T) {ks : List C} {js : List D} → Forall₂ Alike ks js → Related s t → Related (after_all next s ks) (after_all after t js)
  ends_related s t Forall₂.nil r = r
  ends_related s t (Forall₂.cons {a = k} {b = j} h hs) r = ends_related (next s k) (after t j) hs (stay s t k j h r)

  pub answers_related : {A B : Type 0} (answer : S → C → A) (reply : T → D → B) (Close : A → B → Type 0)
      → ((s : S) (t : T) (k : C) (j : D) → Alike k j → Related s t → Close (answer s k) (reply t j))
      → (s : S) (t : T) {ks : List C} {js : List D} → Forall₂ Alike ks js → Related s t
      → Forall₂ Close (answers_to next answer s ks) (answers_to after reply t js)
  answers_related answer reply Close close s t Forall₂.nil r = Forall₂.nil
  answers_related answer reply Close close s t (Forall₂.cons {a = k} {b = j} h hs) r =
      Forall₂.cons (close s t k j h r) (answers_related answer reply Close close (next s k) (after t j) hs (stay s t k j h r))

-- a sequence beside itself, and lists that are the same element by element
alike_self : {C : Type 0} (ks : List C) → Forall₂ ◌≡◌ ks ks
alike_self [] = Forall₂.nil
alike_self (k ∷ ks) = Forall₂.cons refl (alike_self ks)

all_equal : {A : Type 0} {l m : List A} → Forall₂ ◌≡◌ l m → l ≡ m
all_equal Forall₂.nil = refl
all_equal (Forall₂.cons e es) = ap₂ ◌∷◌ e (all_equal es)

-- the same calls: the same answers, and related ends
module _ {S T C : Type 0} (next : S → C → S) (after : T → C → T) (Related : S → T → Type 0)
    (stay : (s : S) (t : T) (k : C) → Related s t → Related (next s k) (after t k)) where
  stays : (s : S) (t : T) (k j : C) → k ≡ j → Related s t → Related (next s k) (after t j)
  stays s t k j e r = subst (λ (i : C). Related (next s k) (after t i)) e (stay s t k r)

  pub same_end : (s : S) (t : T) (ks : List C) → Related s t → Related (after_all next s ks) (after_all after t ks)
  same_end s t ks r = ends_related next after Related ◌≡◌ stays s t (alike_self ks) r

  pub same_answers : {A : Type 0} (answer : S → C → A) (reply : T → C → A) → ((s : S) (t : T) (k : C) → Related s t → answer s k ≡ reply t k)
      → (s : S) (t : T) (ks : List C) → Related s t → answers_to next answer s ks ≡ answers_to after reply t ks
  same_answers answer reply same s t ks r =
      all_equal
      (answers_related next after Related ◌≡◌ stays answer reply ◌≡◌
      (λ u v k j e q. same u v k q ∙ ap (reply v) e)
      s t (alike_self ks) r)
