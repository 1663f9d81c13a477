-- One walk for every function of the form
--     let s = callee(*r, a, b, ..);    *r = s.record;    s.answer
-- over a lent record r, whatever the other arguments are, any number of them, of any plain types; and whichever two fields of s are meant.
-- The arguments' cells are one entry of the context throughout (`rooms`, `cells`, `deaths`), so that every position is a numeral.
use mathlib.Core.Path.{◌≡◌, refl, sym, subst}
use Prim.Native.Nat.{ℕ, zero, suc}
use mathlib.Core.List.{List, [], ◌∷◌, ◌++◌}
use mathlib.Core.Option.{some}
use seplogic.Ra.Ura.{Ura}
use base.Fraction.{full_share}
use lib.Dec.{T}
use lib.ListN.{get_or}
use mir.Syntax.{Callee as Called, Sym, Ty, ty_struct, Tys, ty_ref, mut, named, Opd as Operand, copy, place, deref, field, rv_opd, seq, assign, call, return, Local, local, value_local, Fn, Step as PStep}
use mir.Val.{Val, Vals, vptr, vstruct, has_ty, WT}
use mir.Fields.{get_v}
use base.Logic.{SProp, ent, sep, wand, ex, via, comm∗, assoc∗, assoc', mono_l, mono_r, wand_i, ex_i}
use base.Fml.{GName, Lft, Share, Fml, ftrue, fsep, fat, froom, fdies, flft, fobs, fbor}
use prog.Memory.{field_at}
use prog.Wp.{Env, Spot, Calls, Loops, WpFn, eval_opds, read, no_local}
use types.Logic.{Logic, sem}
use contract.Monad.{fact}
use types.Kit.{Item, Goal, ‵, raw, mean, ⋆, nth, del, pull, unpull, Seq, Step, step, allocs, passes, frees, some as Some-of, later, ◌$◌, ◌∵◌, !, qed, by, move, drop, use1, rewrite, fsplit, fjoin, pick, await}
use types.Run.{Opds, Reads, Finds, Walks, look, look_raw, init, store_raw, forget, stop, hop, fld, from, load, of_opd, and_then, land, assigns, returns, enter, alloc1, alloc0, params1, pass1, pass0, free1, free0}
use types.Part.{whole, sub, look_in}
use types.SemTy.{Body}
use sound.WpLaws.{FmC}
use denote.Laws.{Is, Typed, shows}
use denote.Memory.{mem, pointee}
use denote.Steps.{opens, closes, owned, facts, heard, nothing}
use denote.Struct.Steps.{spelt}
use denote.Struct.Struct.{layout, Plains}
use denote.Struct.Declared.{Declared, fields, shape, row}
use denote.Struct.Laws as LL
use denote.Triple.Statement.{Contract}
use denote.Triple.Call.{calls_at}

-- ---- the arguments' locals: a block for each
abbrev pub Blocks : List Ty → Type 0
Blocks [] = Unit {0}
Blocks (τ ∷ τs) = ℕ × Blocks τs

abbrev pub env : (τs : List Ty) → Blocks τs → List (Ty × ℕ)
env [] bs = []
env (τ ∷ τs) bs = (τ, bs.0) ∷ env τs bs.1

abbrev pub locals : List Ty → List Local
locals [] = []
locals (τ ∷ τs) = local τ value_local ∷ locals τs

abbrev pub rooms : (τs : List Ty) → Blocks τs → Fml
rooms [] bs = ftrue
rooms (τ ∷ τs) bs = fsep (froom τ bs.0 zero) (rooms τs bs.1)

abbrev pub deaths : (τs : List Ty) → Blocks τs → Fml
deaths [] bs = ftrue
deaths (τ ∷ τs) bs = fsep (fdies τ bs.0) (deaths τs bs.1)

abbrev pub cells : (τs : List Ty) → Blocks τs → List Val → Fml
cells [] bs vs = ftrue
cells (τ ∷ τs) bs [] = ftrue
cells (τ ∷ τs) bs (v ∷ vs) = fsep (fat full_share τ bs.0 zero v) (cells τs bs.1 vs)

-- the operands that read them, from local i on; and the local j places after them
abbrev pub copies : ℕ → List Ty → List Operand
copies i [] = []
copies i (τ ∷ τs) = copy (place i []) ∷ copies (suc i) τs

abbrev pub after : List Ty → ℕ → ℕ
after [] j = j
after (τ ∷ τs) j = suc (after τs j)

module _ {M : Type 1} {𝓤 : Ura M} (𝓛 : Logic 𝓤) where
  -- local i on are the arguments'
  open 𝓛 use {H}

  abbrev pub At : Env 𝓤 H → ℕ → (τs : List Ty) → Blocks τs → Type 0
  At E i [] bs = Unit {0}
  At E i (τ ∷ τs) bs = (get_or E i (no_local 𝓤 H) ≡ (τ, bs.0)) × At E (suc i) τs bs.1

  pub at_next : (e : Ty × ℕ) (E : Env 𝓤 H) (i : ℕ) (τs : List Ty) (bs : Blocks τs) → At E i τs bs → At (e ∷ E) (suc i) τs bs
  at_next e E i [] bs a = tt
  at_next e E i (τ ∷ τs) bs a = (a.0, at_next e E (suc i) τs bs.1 a.1)

  pub at_head : (τs : List Ty) (bs : Blocks τs) (F : Env 𝓤 H) → At (env τs bs ++ F) zero τs bs
  at_head [] bs F = tt
  at_head (τ ∷ τs) bs F = (refl, at_next (τ, bs.0) (env τs bs.1 ++ F) zero τs bs.1 (at_head τs bs.1 F))

  pub after_is : (τs : List Ty) (bs : Blocks τs) (F : Env 𝓤 H) (j : ℕ) → get_or (env τs bs ++ F) (after τs j) (no_local 𝓤 H) ≡ get_or F j (no_local 𝓤 H)
  after_is [] bs F j = refl
  after_is (τ ∷ τs) bs F j = after_is τs bs.1 F j

  module _ where
    -- reading them all leaves them as they are
    pub evals : (E : Env 𝓤 H) (i : ℕ) (τs : List Ty) (bs : Blocks τs) (vs : List Val) → Typed τs vs → At E i τs bs → (P : SProp 𝓤) (Kt : List Val → SProp 𝓤)
        → ent 𝓤 (sep 𝓤 (sem 𝓛 (cells τs bs vs)) P) (Kt vs) → ent 𝓤 (sep 𝓤 (sem 𝓛 (cells τs bs vs)) P) (eval_opds 𝓤 H E (copies i τs) Kt)
    evals E i [] bs [] ty a P Kt h = h
    evals E i [] bs (v ∷ vs) ty a P Kt h = absurd ty
    evals E i (τ ∷ τs) bs [] ty a P Kt h = absurd ty
    evals E i (τ ∷ τs) bs (v ∷ vs) ty a P Kt h =
        let c : SProp 𝓤 = H.at full_share τ bs.0 zero v in
        let cs : SProp 𝓤 = sem 𝓛 (cells τs bs.1 vs) in
        let X : Val → SProp 𝓤 = λ u. eval_opds 𝓤 H E (copies (suc i) τs) (λ us. Kt (u ∷ us)) in
        let rest : ent 𝓤 (sep 𝓤 cs (sep 𝓤 c P)) (X v) = evals E (suc i) τs bs.1 vs ty.1 a.1 (sep 𝓤 c P) (λ us. Kt (v ∷ us))
        (via 𝓤 (sep 𝓤 (sep 𝓤 cs c) P) (assoc' 𝓤 cs c P) (via 𝓤 (sep 𝓤 (sep 𝓤 c cs) P) (mono_l 𝓤 P (comm∗ 𝓤 cs c)) h)) in
        subst (λ (e : Ty × ℕ). ent 𝓤 (sep 𝓤 (sep 𝓤 c cs) P) (read 𝓤 H e.0 e.1 zero X)) (sym a.0)
        (via 𝓤 (sep 𝓤 c (sep 𝓤 cs P)) (assoc∗ 𝓤 c cs P)
        (via 𝓤 (sep 𝓤 c (wand 𝓤 c (X v))) (mono_r 𝓤 c (wand_i 𝓤 (sep 𝓤 cs P) c (X v)
        (via 𝓤 (sep 𝓤 cs (sep 𝓤 P c)) (assoc∗ 𝓤 cs P c) (via 𝓤 (sep 𝓤 cs (sep 𝓤 c P)) (mono_r 𝓤 cs (comm∗ 𝓤 P c)) rest))))
        (via 𝓤 (ex 𝓤 (λ (u : Val). sep 𝓤 (H.at full_share τ bs.0 zero u) (wand 𝓤 (H.at full_share τ bs.0 zero u) (X u))))
        (ex_i 𝓤 (λ (u : Val). sep 𝓤 (H.at full_share τ bs.0 zero u) (wand 𝓤 (H.at full_share τ bs.0 zero u) (X u))) v)
        (ex_i 𝓤 (λ (q : Share). ex 𝓤 (λ (u : Val). sep 𝓤 (H.at q τ bs.0 zero u) (wand 𝓤 (H.at q τ bs.0 zero u) (X u)))) full_share))))

-- ---- the steps of a walk over them
module _ {M : Type 1} {𝓤 : Ura M} {𝓛 : Logic 𝓤} {K : Type 0} where
  open 𝓛 use {H}

  pub alloc_all : K → (τs : List Ty) {ls : List Local} {Kt : Env 𝓤 H → Goal 𝓤 H} {Γ : List (Item 𝓤)}
      → ((bs : Blocks τs) → Seq K 𝓛 (‵ (rooms τs bs) ∷ ‵ (deaths τs bs) ∷ Γ) (allocs ls (λ E. Kt (env τs bs ++ E)))) → Seq K 𝓛 Γ (allocs (locals τs ++ ls) Kt)
  alloc_all t [] k = nothing t $ nothing t $ k tt
  alloc_all t (τ ∷ τs) k = alloc1 t (λ b. alloc_all t τs (λ bs. move t (2 ∷ 0 ∷ []) $ fjoin t $ move t (2 ∷ 1 ∷ []) $ fjoin t $ move t
      (1 ∷ 0 ∷ []) $ k (b, bs)))

  pub pass_all : K → (τs : List Ty) (bs : Blocks τs) (vs : List Val) → Typed τs vs → (F : Env 𝓤 H) {g : Goal 𝓤 H} {Γ : List (Item 𝓤)}
      → Step K 𝓛 (‵ (cells τs bs vs) ∷ Γ) g (‵ (rooms τs bs) ∷ Γ) (passes (env τs bs ++ F) vs g)
  pass_all t [] bs [] ty F = pass0 t
  pass_all t [] bs (v ∷ vs) ty F = absurd ty
  pass_all t (τ ∷ τs) bs [] ty F = absurd ty
  pass_all t (τ ∷ τs) bs (v ∷ vs) ty F = step (λ s. fsplit t $ pass1 t (init t 0 refl ty.0) $ move t (1 ∷ []) $ pass_all t τs bs.1 vs
      ty.1 F $ move t (1 ∷ 0 ∷ []) $ fjoin t $ s)

  pub free_all : K → (τs : List Ty) (bs : Blocks τs) (vs : List Val) → Typed τs vs → {F : Env 𝓤 H} {g : Goal 𝓤 H} {Γ : List (Item 𝓤)}
      → Step K 𝓛 Γ (frees F g) (‵ (cells τs bs vs) ∷ ‵ (deaths τs bs) ∷ Γ) (frees (env τs bs ++ F) g)
  free_all t [] bs [] ty = step (λ s. drop t $ drop t $ s)
  free_all t [] bs (v ∷ vs) ty = absurd ty
  free_all t (τ ∷ τs) bs [] ty = absurd ty
  free_all t (τ ∷ τs) bs (v ∷ vs) ty = step (λ s. fsplit t $ move t (2 ∷ []) $ fsplit t $ move t (2 ∷ 0 ∷ []) $ forget t 0 refl $ free1 t $ move t
      (1 ∷ 0 ∷ []) $ free_all t τs bs.1 vs ty.1 $ s)

  -- what is read, by an equation
  pub reads_as : K → {Γ : List (Item 𝓤)} {τ : Ty} {b o : ℕ} {u v : Val} → u ≡ v → Reads K 𝓛 Γ τ b o u → Reads K 𝓛 Γ τ b o v
  reads_as t {Γ} {τ} {b} {o} e r = subst (λ (x : Val). Reads K 𝓛 Γ τ b o x) e r

  module _ {Γ : List (Item 𝓤)} {E : Env 𝓤 H} where
    -- entry n of the context is the arguments' cells
    pub all_opds : K → (n i : ℕ) (τs : List Ty) (bs : Blocks τs) (vs : List Val) → Typed τs vs → At 𝓛 E i τs bs
        → nth 𝓛 n Γ ≡ ‵ (cells τs bs vs) → Opds K 𝓛 Γ E (copies i τs) vs
    all_opds t n i τs bs vs ty a e = record {
      go = λ Kt h. via 𝓤 (sep 𝓤 (mean 𝓛 (nth 𝓛 n Γ)) (⋆ 𝓛 (del 𝓛 n Γ))) (pull 𝓛 n Γ)
          (subst (λ (j : Item 𝓤). ent 𝓤 (sep 𝓤 (mean 𝓛 j) (⋆ 𝓛 (del 𝓛 n Γ))) (eval_opds 𝓤 H E (copies i τs) Kt)) (sym e)
          (evals 𝓛 E i τs bs vs ty a (⋆ 𝓛 (del 𝓛 n Γ)) Kt
          (subst (λ (j : Item 𝓤). ent 𝓤 (sep 𝓤 (mean 𝓛 j) (⋆ 𝓛 (del 𝓛 n Γ))) (Kt vs)) e (via 𝓤 (⋆ 𝓛 Γ) (unpull 𝓛 n Γ) h))));
    }

    -- a place in a local whose spot is known by an equation
    pub from_at : K → {i : ℕ} {st : List PStep} {sp : Spot 𝓤 H} {τ : Ty} {b : ℕ} → get_or E i (no_local 𝓤 H) ≡ (τ, b)
        → Walks K 𝓛 Γ E (τ, b, zero) st sp → Finds K 𝓛 Γ E (place i st) sp
    from_at t {i} {st} {sp} e w = from t (subst (λ (x : Ty × ℕ). Walks K 𝓛 Γ E (x.0, x.1, zero) st sp) (sym e) w)

-- ---- the function: its callee gives a struct ν of fields σs, of which number i is the record and number j the answer
module _ (R : Declared) (τA : Ty) (ν : Sym) (σs : Tys) (i j : ℕ) (#callee : Called) where
  abbrev τS : Ty
  τS = ty_struct ν σs

  abbrev τR : Ty
  τR = layout (shape R)

  abbrev pub lent : List Ty → Fn
  lent τs = record {
    lifetimes = 1;
    outlives = [];
    ty_params = [];
    givens = 0;
    params = after τs 1;
    locals = local τA value_local ∷ local (ty_ref (named 0) mut (pointee (row R).written)) value_local ∷
        (locals τs ++ (local τS value_local ∷ local τR value_local ∷ []));
    body =
        seq (assign (place (suc (suc (after τs 1))) []) (rv_opd (copy (place 1 (deref τR ∷ [])))))
        (seq (call #callee (copy (place (suc (suc (after τs 1))) []) ∷ copies 2 τs) (place (suc (suc (after τs 0))) []))
        (seq (assign (place 1 (deref τR ∷ [])) (rv_opd (copy (place (suc (suc (after τs 0))) (field i ∷ [])))))
        (seq (assign (place 0 []) (rv_opd (copy (place (suc (suc (after τs 0))) (field j ∷ []))))) return)));
  }

  module _ (R' : LL.Laws R) where
    abbrev vR : R.D → Val
    vR = LL.val R R'

    -- what a result v of the callee is: the struct of the fields us, among them a record r and an answer w
    pub record Got (v : Val) (us : Vals) (r : R.D) (w : Val) : Type 0 where
      pub is : v ≡ vstruct us
      pub typed : T (has_ty τS v) × WT v
      pub held : get_v us i ≡ vR r
      pub fits : Is (row R) r (vR r ∷ [])
      pub told : get_v us j ≡ w
      pub answer : T (has_ty τA w) × WT w

    module _ {M : Type 1} {𝓤 : Ura M} (𝓛 : Logic 𝓤) (R-plain : Plains (fields R)) {dR dA : ℕ}
        (at_r : field_at zero σs i ≡ some (τR, dR)) (at_a : field_at zero σs j ≡ some (τA, dA))
        {D : Type 0} (us : D → Vals) (f0 : D → R.D) (v_a : D → Val) (Says : D → Type 0) (κ : Lft) (q : Share) (b o : ℕ) (γ : GName) (h : R.D)
        (τs : List Ty) (vs : List Val) (ty : Typed τs vs) (Pre : SProp 𝓤) (Post₀ : Val → SProp 𝓤) (Post : Val → SProp 𝓤)
        (asks : Is (row R) h (vR h ∷ []) → ent 𝓤 (sem 𝓛 ftrue) Pre)
        (gives : (v : Val) → ent 𝓤 (Post₀ v) (𝓛.H.⇛ (ex 𝓤 (λ (s : D). fact 𝓤 (Got v (us s) (f0 s) (v_a s) × Says s)))))
        (exits : (s : D) → Says s → ent 𝓤 (sep 𝓤 (𝓛.A.obs γ ((row R).coded.code (f0 s))) (sep 𝓤 (𝓛.A.bor κ (Body (mem (row R)) b o γ)) (𝓛.A.lft κ q)))
        (Post (v_a s)))
        (C : Calls 𝓤 𝓛.H) (Λ : Loops 𝓤 𝓛.H) (fm : FmC 𝓤 𝓛.H 𝓛.laws C) (known : ent 𝓤 Pre (C #callee (vR h ∷ vs) Post₀)) where
      open 𝓛 use {H, A}

      abbrev Callee : Contract 𝓤
      Callee = record { Ghost = Unit {0}; args = λ _. vR h ∷ vs; pre = λ _. Pre; post = λ _. Post₀ }

      pub walk : ent 𝓤 (sep 𝓤 (A.obs γ ((row R).coded.code h)) (sep 𝓤 (A.bor κ (Body (mem (row R)) b o γ)) (A.lft κ q)))
          (WpFn 𝓤 H C Λ (lent τs) (vptr b o ∷ vs) Post)
      walk =
          qed 𝓛 (‵ (fobs γ ((row R).coded.code h)) ∷ ‵ (fbor κ (Body (mem (row R)) b o γ)) ∷ ‵ (flft κ q) ∷ []) ∵
          enter ! C Λ (lent τs) (vptr b o ∷ vs) _ $
          alloc1 ! (λ l₀. alloc1 ! (λ l₁. alloc_all ! τs (λ bs. alloc1 ! (λ l₂. alloc1 ! (λ l₃. alloc0 ! $ params1 ! $
          pass1 ! (init ! 6 refl (tt, tt)) $ move ! (4 ∷ []) $ pass_all ! τs bs vs ty ((τS, l₂) ∷ (τR, l₃) ∷ []) $
          move ! (10 ∷ 11 ∷ 12 ∷ []) $ opens ! tt (row R) {h = h} b o
          (λ xs. spelt ! (row R) (Is (row R)) (shows 𝓛 (row R)) (LL.vals R R') (LL.tells R R') full_share h xs b o $
          move ! (1 ∷ []) $ facts ! (row R) (Is (row R)) (shows 𝓛 (row R)) h (vR h ∷ []) (λ isR.
          -- [the record's cell; the open borrow; obs; auth; the arguments 4; the copy 5, 6; the result 7, 8; the arguments' ends 9; the
          -- reference 10, 11; _0 12, 13]
          assigns ! (of_opd ! (load ! (from ! (hop ! (look ! 10 refl) (stop !))) (look_raw ! 0 refl))) (from_at ! (after_is 𝓛 τs bs _ 1) (stop !))
          (init ! 5 refl ((LL.lawful R R' 𝓛).typed h _ isR).0) $
          nothing ! $ use1 𝓛 (raw Pre) (asks isR) $
          calls_at ! fm Callee (λ _. known) tt
          (and_then ! (load ! (from_at ! (after_is 𝓛 τs bs _ 1) (stop !)) (look ! 6 refl))
          (all_opds ! 5 2 τs bs vs ty
          (at_next 𝓛 (τA, l₀) ((ty_ref (named 0) mut (pointee (row R).written), l₁) ∷ (env τs bs ++ (τS, l₂) ∷ (τR, l₃) ∷ [])) 1 τs bs
          (at_next 𝓛 (ty_ref (named 0) mut (pointee (row R).written), l₁) (env τs bs ++ (τS, l₂) ∷ (τR, l₃) ∷ []) 0 τs bs
          (at_head 𝓛 τs bs ((τS, l₂) ∷ (τR, l₃) ∷ [])))) refl)) (λ v.
          use1 𝓛 (later (Some-of (λ (s : D). raw (fact 𝓤 (Got v (us s) (f0 s) (v_a s) × Says s))))) (gives v) $ await ! tt $ pick !
          (λ s. heard ! (Got v (us s) (f0 s) (v_a s) × Says s) (λ g.
          land ! (from_at ! (after_is 𝓛 τs bs _ 0) (stop !)) (init ! 7 refl g.0.typed) $
          rewrite ! 7 (λ (y : Val). ‵ (fat full_share τS l₂ 0 y)) g.0.is refl $
          assigns ! (of_opd ! (load ! (from_at ! (after_is 𝓛 τs bs _ 0) (fld ! at_r (stop !)))
          (reads_as ! g.0.held (look_in ! 7 (sub ! i at_r (whole !))))))
          (from ! (hop ! (look ! 10 refl) (stop !))) (store_raw ! 0 refl ((LL.lawful R R' 𝓛).typed (f0 s) _ g.0.fits).0) $
          assigns ! (of_opd ! (load ! (from_at ! (after_is 𝓛 τs bs _ 0) (fld ! at_a (stop !)))
          (reads_as ! g.0.told (look_in ! 7 (sub ! j at_a (whole !)))))) (from ! (stop !)) (init ! 12 refl g.0.answer) $
          owned ! (row R) (Is (row R)) (LL.makes R R-plain 𝓛) (f0 s) _ g.0.fits $ move ! (1 ∷ 0 ∷ []) $ closes ! tt (row R) (f0 s)
          (vR (f0 s) ∷ []) b o $
          -- [obs; the borrow; the token; the arguments 3; the copy 4, 5; the result 6, 7; the arguments' ends 8; the reference 9, 10; _0 11, 12]
          returns ! (look ! 11 refl) $ forget ! 4 refl $ forget ! 6 refl $ forget ! 9 refl $ forget ! 11 refl $
          move ! (11 ∷ 12 ∷ []) $ free1 ! $ move ! (9 ∷ 10 ∷ []) $ free1 ! $ move ! (3 ∷ 8 ∷ []) $ free_all ! τs bs vs ty $ move !
          (5 ∷ 6 ∷ []) $ free1 ! $ move ! (3 ∷ 4 ∷ []) $ free1 ! $ free0 ! $
          by ! (exits s g.1)))))))))))
