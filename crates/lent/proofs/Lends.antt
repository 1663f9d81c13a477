-- From the walk (`Walk.antt`) to the contract of any function over a lent record that calls a by-value function: the theorems `stands` and `stands_equal`.
use mathlib.Core.Path.{◌≡◌, refl, sym, subst, ap, ◌∙◌}
use Prim.Native.Nat.{ℕ}
use mathlib.Core.List.{List, [], ◌∷◌}
use mathlib.Core.Option.{some}
use seplogic.Ra.Ura.{Ura}
use lib.Dec.{T}
use lib.Ieee.{Format}
use mir.Syntax.{Callee as Called, Ty, Tys, ty_int, ty_float, Width, Fn, named}
use mir.Val.{Val, Vals, vint, vfloat, vptr, of_list, of_z, has_ty, WT}
use mir.Fields.{get_v}
use base.Logic.{SProp, ent, sep, emp, via, fst∗, snd∗, id⊢, emp∗, comm∗, mono∗, mono_l, ex_e, ex_i, ex}
use base.Fml.{ftrue, flft, fobs, fbor}
use prog.Memory.{field_at}
use prog.Wp.{WpFn, Tables, Closed}
use prog.Model.{Model}
use prog.Routine.{Routine, Env}
use types.Logic.{Logic, sem}
use contract.Monad.{fact, fact_i, fact_use}
use contract.Lifetimes.{Lfts, Shares}
use contract.Running.{Running, tables, tables_of}
use types.Kit.{Item, prop, ‵, Step, step, ◌⊛◌, ◌$◌, ◌∵◌, !, qed, by, move, keep, drop, use0, split, join, fsplit, fsplit3, fjoin, fjoin3, feq_i, suffices, frame, done}
use types.SemTy.{Body}
use sound.WpLaws.{fm_of, WpFn-mono}
use denote.RattleType.{RattleType, Denots, mirs, flat, owns}
use denote.Laws.{Is, Ises, Are, Typed, Tells, Tellss, Spells, valss, Makes, Makess, shows, owns_make}
use denote.Memory.{mem, lone}
use denote.Enum.Enum.{Few, Plainss}
use denote.Enum.Declared as ED
use denote.Enum.Laws as EL
use denote.Exit.{yes, Last, left}
use denote.Plain.{UInt, uint_Tells, uint_Makes, uint_Lawful}
use denote.Signed.{SInt, sint_Tells, sint_Makes, sint_Lawful}
use denote.Floats.{FloatOf, float_Tells, float_Makes, float_Lawful}
use denote.Ref.{MutRef, mut_vals, mut_Tells}
use denote.Signature.{Slot, plain, mut_ref_to, types_at}
use denote.Steps.{owned, nothing, only}
use denote.Struct.Struct.{layout, to_tys, Plains}
use denote.Struct.Declared.{Declared, fields, shape, row}
use denote.Struct.Laws as LL
use denote.Triple.Statement.{Contract, Triple}
use denote.Triple.Spec.{Meets, triple_of}
use denote.Triple.Table.{entered, cited}
use denote.Triple.End.{Fins, all}
use denote.Triple.Clauses.{Ended, Clauses, Lasts, lasts, ensured, closing}
use denote.Triple.Entry.{Args, alive, on_entry}
use denote.Triple.Walked.{Stays, stay_ref, stay_none, has_of, fits_of, walk_of, AllGo, Goes-none, Goes-ref, ends_at, walked, walk_Meets}
use Rattle.lent.proofs.Walk.{lent, Got, walk}

-- ---- a plain argument, or an answer
pub record Arg : Type 2 where
  pub row : RattleType
  pub ty : Ty
  pub val : row.Denot → Val
  pub tells : Tells row (Is row) (λ x. val x ∷ [])
  pub typed : {M : Type 1} {𝓤 : Ura M} (𝓛 : Logic 𝓤) → (x : row.Denot) → Is row x (val x ∷ []) → T (has_ty ty (val x)) × WT (val x)
  pub makes : {M : Type 1} {𝓤 : Ura M} (𝓛 : Logic 𝓤) → Makes 𝓛 row (Is row)
  pub last : (x : row.Denot) → Last (row.exit yes) x
  pub silent : (x : row.Denot) (f : Last (row.exit yes) x) → left (row.exit yes) x f ≡ ftrue

abbrev pub uint_arg : Width → Arg
uint_arg w = record {
  row = UInt w;
  ty = ty_int w;
  val = vint w;
  tells = uint_Tells w;
  typed = λ 𝓛 x is. ((uint_Lawful 𝓛 w).typed x _ is).0;
  makes = λ 𝓛. uint_Makes 𝓛 w;
  last = λ x. tt;
  silent = λ x f. refl;
}

abbrev pub sint_arg : Width → Arg
sint_arg w = record {
  row = SInt w;
  ty = ty_int w;
  val = λ z. vint w (of_z w z);
  tells = sint_Tells w;
  typed = λ 𝓛 x is. ((sint_Lawful 𝓛 w).typed x _ is).0;
  makes = λ 𝓛. sint_Makes 𝓛 w;
  last = λ x. tt;
  silent = λ x f. refl;
}

abbrev pub float_arg : Format → Arg
float_arg f = record {
  row = FloatOf f;
  ty = ty_float f;
  val = vfloat f;
  tells = float_Tells f;
  typed = λ 𝓛 x is. ((float_Lawful 𝓛 f).typed x _ is).0;
  makes = λ 𝓛. float_Makes 𝓛 f;
  last = λ x. tt;
  silent = λ x e. refl;
}

-- a struct: `last` and `silent` are `λ x. tt` and `λ x f. refl` at any struct of plain data
abbrev pub struct_arg : (S : Declared) → LL.Laws S → Plains (fields S) → ((x : S.D) → Last ((row S).exit yes) x)
    → ((x : S.D) (f : Last ((row S).exit yes) x) → left ((row S).exit yes) x f ≡ ftrue) → Arg
struct_arg S L pl la si = record {
  row = row S;
  ty = layout (shape S);
  val = LL.val S L;
  tells = LL.tells S L;
  typed = λ 𝓛 x is. ((LL.lawful S L 𝓛).typed x _ is).0;
  makes = λ 𝓛. LL.makes S pl 𝓛;
  last = la;
  silent = si;
}

abbrev pub enum_arg : (E : ED.Declared) → EL.Laws E → Plainss (ED.variants E) → Few (ED.shape E) → ((x : E.D) → Last ((ED.row E).exit yes) x)
    → ((x : E.D) (f : Last ((ED.row E).exit yes) x) → left ((ED.row E).exit yes) x f ≡ ftrue) → Arg
enum_arg E L pl few la si = record {
  row = ED.row E;
  ty = lone (ED.row E).mir;
  val = EL.val E L;
  tells = EL.tells E L;
  typed = λ 𝓛 x is. ((EL.lawful E L 𝓛 few).typed x _ is).0;
  makes = λ 𝓛. EL.makes E pl 𝓛;
  last = la;
  silent = si;
}

-- ---- a list of them
abbrev pub tys : List Arg → List Ty
tys [] = []
tys (X ∷ Xs) = X.ty ∷ tys Xs

abbrev pub slots : (n : ℕ) → List Arg → List (Slot n)
slots n [] = []
slots n (X ∷ Xs) = plain (λ _. X.row) ∷ slots n Xs

module _ (n : ℕ) (κs : Lfts n) where
  abbrev pub Rows : List Arg → List RattleType
  Rows Xs = types_at (slots n Xs) κs

  abbrev pub vals : (Xs : List Arg) → Denots (Rows Xs) → List Val
  vals [] a = []
  vals (X ∷ Xs) a = X.val a.0 ∷ vals Xs a.1

  abbrev pub spells : (Xs : List Arg) → Spells (Rows Xs)
  spells [] = tt
  spells (X ∷ Xs) = ((λ x. X.val x ∷ []), spells Xs)

  abbrev pub tellss : (Xs : List Arg) → Tellss (Rows Xs) (Ises (Rows Xs)) (spells Xs)
  tellss [] = tt
  tellss (X ∷ Xs) = (X.tells, tellss Xs)

  -- what is known of them at entry
  abbrev pub Known : (Xs : List Arg) → Denots (Rows Xs) → Type 0
  Known Xs a = Are (Rows Xs) (Ises (Rows Xs)) a (valss (Rows Xs) (spells Xs) a)

  flat_is : (Xs : List Arg) (a : Denots (Rows Xs)) → flat (Rows Xs) (valss (Rows Xs) (spells Xs) a) ≡ vals Xs a
  flat_is [] a = refl
  flat_is (X ∷ Xs) a = ap (λ (vs : List Val). X.val a.0 ∷ vs) (flat_is Xs a.1)

  module _ {M : Type 1} {𝓤 : Ura M} (𝓛 : Logic 𝓤) where
    typed_all : (Xs : List Arg) (a : Denots (Rows Xs)) → Known Xs a → Typed (tys Xs) (vals Xs a)
    typed_all [] a are = tt
    typed_all (X ∷ Xs) a are = (X.typed 𝓛 a.0 are.0, typed_all Xs a.1 are.1)

    makes_all : (Xs : List Arg) → Makess 𝓛 (Rows Xs) (Ises (Rows Xs))
    makes_all [] = tt
    makes_all (X ∷ Xs) = (X.makes 𝓛, makes_all Xs)

-- as the callee is passed them
module _ (κs : Lfts 1) where
  abbrev pub carry : (Xs : List Arg) → Denots (Rows 1 κs Xs) → Denots (Rows 0 tt Xs)
  carry [] a = tt
  carry (X ∷ Xs) a = (a.0, carry Xs a.1)

  carry_known : (Xs : List Arg) (a : Denots (Rows 1 κs Xs)) → Known 1 κs Xs a → Known 0 tt Xs (carry Xs a)
  carry_known [] a are = tt
  carry_known (X ∷ Xs) a are = (are.0, carry_known Xs a.1 are.1)

  carry_vals : (Xs : List Arg) (a : Denots (Rows 1 κs Xs)) → vals 0 tt Xs (carry Xs a) ≡ vals 1 κs Xs a
  carry_vals [] a = refl
  carry_vals (X ∷ Xs) a = ap (λ (vs : List Val). X.val a.0 ∷ vs) (carry_vals Xs a.1)

-- at exit they are as they were
abbrev stays : (Xs : List Arg) → Stays {n = 1} (slots 1 Xs) (all yes (slots 1 Xs))
stays [] = tt
stays (X ∷ Xs) = (stay_none (λ _. X.row) yes, stays Xs)

abbrev pub fins : (κs : Lfts 1) (Xs : List Arg) (a : Denots (Rows 1 κs Xs)) → Fins κs (slots 1 Xs) (all yes (slots 1 Xs)) a
fins κs [] a = tt
fins κs (X ∷ Xs) a = (X.last a.0, fins κs Xs a.1)

fit_all : (κs : Lfts 1) (Xs : List Arg) (a : Denots (Rows 1 κs Xs)) → fits_of κs (slots 1 Xs) (all yes (slots 1 Xs)) (stays Xs) a (fins κs Xs a)
fit_all κs [] a = tt
fit_all κs (X ∷ Xs) a = (tt, fit_all κs Xs a.1)

module _ {M : Type 1} {𝓤 : Ura M} (𝓛 : Logic 𝓤) where
  has_all : (κs : Lfts 1) (Xs : List Arg) (a : Denots (Rows 1 κs Xs)) → Known 1 κs Xs a
      → ent 𝓤 (emp 𝓤) (sem 𝓛 (has_of κs (slots 1 Xs) (all yes (slots 1 Xs)) (stays Xs) a (fins κs Xs a) (valss (Rows 1 κs Xs) (spells 1 κs Xs) a)))
  has_all κs [] a are = id⊢ 𝓤 (emp 𝓤)
  has_all κs (X ∷ Xs) a are = via 𝓤 (sep 𝓤 (emp 𝓤) (emp 𝓤)) (emp∗ 𝓤 (emp 𝓤))
      (mono∗ 𝓤 (X.makes 𝓛 a.0 (X.val a.0 ∷ []) are.0) (has_all κs Xs a.1 are.1))

  go_args : (Xs : List Arg) → AllGo 𝓛 1 (slots 1 Xs) (all yes (slots 1 Xs)) (stays Xs)
  go_args [] = tt
  go_args (X ∷ Xs) = (Goes-none 𝓛 1 (λ _. X.row) yes (λ κs x f. X.silent x f), go_args Xs)

-- a goal P ∗ Q where Q is had for nothing
also : {M : Type 1} {𝓤 : Ura M} {𝓛 : Logic 𝓤} {K : Type 0} {Γ : List (Item 𝓤)} → K → {P Q : SProp 𝓤}
    → ent 𝓤 (emp 𝓤) Q → Step K 𝓛 Γ (prop P) Γ (prop (sep 𝓤 P Q))
also {𝓤 = 𝓤} t {P} {Q} q = step (λ s. record { prf = via 𝓤 P s.prf (via 𝓤 (sep 𝓤 (emp 𝓤) P) (emp∗ 𝓤 P) (via 𝓤 (sep 𝓤 Q P) (mono_l 𝓤 P q) (comm∗ 𝓤 Q P))) })

-- ---- what the callee gives
-- the types of its fields, and their values
module _ (S : Declared) where
  abbrev pub field_tys : Tys
  field_tys = to_tys (mirs (fields S))

  abbrev pub field_vals : LL.Laws S → S.D → Vals
  field_vals S' s = of_list (flat (fields S) (valss (fields S) (LL.spells S.parts S') (S.to s)))

-- one of its fields: its number, and where it lies. Of any declared struct, `at` is (d, refl) with the field's offset d, `is` is `λ s. refl`, and
-- `owed` the field's part of `LL.owed`
pub record Holds (S : Declared) (S' : LL.Laws S) (T : RattleType) (τ : Ty) (val : T.Denot → Val) : Type 2 where
  pub number : ℕ
  pub get : S.D → T.Denot
  pub at : (d : ℕ) × (field_at 0 (field_tys S) number ≡ some (τ, d))
  pub is : (s : S.D) → get_v (field_vals S S' s) number ≡ val (get s)
  pub owed : (s : S.D) (v : Val) → Is (row S) s (v ∷ []) → Is T (get s) (val (get s) ∷ [])

-- the types of a function over a lent record R that answers A°: its callee gives S, which holds both
pub record Lending : Type 2 where
  pub R : Declared
  pub R' : LL.Laws R
  pub R-plain : Plains (fields R)
  pub A° : Arg
  pub S : Declared
  pub S' : LL.Laws S
  pub held : Holds S S' (row R) (layout (shape R)) (LL.val R R')
  pub told : Holds S S' A°.row A°.ty A°.val

-- ---- the two signatures, and contracts of one fact each: what the callee says of the s that it gives, and what the function tells of its
-- answer and of the record at exit
module _ (L : Lending) (Xs : List Arg) where
  abbrev pub Own : Ended
  Own = record {
    signature = record { lifetimes = 1; outlives = []; params = mut_ref_to (0 ∷ []) tt (plain (λ _. row L.R)) ∷ slots 1 Xs; result = plain (λ _. L.A°.row) };
    kept = (yes, all yes (slots 1 Xs));
  }

  abbrev pub Callee : Ended
  Callee = record {
    signature = record { lifetimes = 0; outlives = []; params = plain (λ _. row L.R) ∷ slots 0 Xs; result = plain (λ _. row L.S) };
    kept = (yes, all yes (slots 0 Xs));
  }

  abbrev pub Saying : Type 1
  Saying = L.R.D → Denots (Rows 0 tt Xs) → L.S.D → Type 0

  abbrev pub Telling : Type 1
  Telling = L.R.D → Denots (Rows 0 tt Xs) → L.A°.row.Denot → L.R.D → Type 0

  module _ {M : Type 1} (𝓤 : Ura M) where
    abbrev pub saying : Saying → Clauses 𝓤 Callee
    saying Says κs a = record { ghost = Unit {0}; requires = λ _. emp 𝓤; ensures = λ _ s end. fact 𝓤 (Says a.0 a.1 s) }

    abbrev pub telling : Telling → Clauses 𝓤 Own
    telling Tells κs a = record {
      ghost = Unit {0};
      requires = λ _. emp 𝓤;
      ensures = λ _ x end. fact 𝓤 (Tells a.0.now (carry κs Xs a.1) x end.0.now);
    }

module _ (L : Lending) (Xs : List Arg) (Says : Saying L Xs) (Tells : Telling L Xs)
    (tells : (h : L.R.D) (a : Denots (Rows 0 tt Xs)) (s : L.S.D) → Says h a s → Tells h a (L.told.get s) (L.held.get s))
    (#callee : Called) {M : Type 1} {𝓤 : Ura M} (𝓛 : Logic 𝓤) where
  open 𝓛 use {H, A}

  abbrev τA : Ty
  τA = L.A°.ty

  abbrev vR : L.R.D → Val
  vR = LL.val L.R L.R'

  abbrev v_a : L.S.D → Val
  v_a s = L.A°.val (L.told.get s)

  abbrev own : Ended
  own = Own L Xs

  abbrev stayed : Stays own.signature.params own.kept
  stayed = (stay_ref (0 ∷ []) tt (plain (λ _. row L.R)), stays Xs)

  abbrev code : Fn
  code = lent L.R τA L.S.name (field_tys L.S) L.held.number L.told.number #callee (tys Xs)

  -- the callee's contract as a triple
  abbrev callee : Contract 𝓤
  callee = triple_of 𝓛 (Callee L Xs).signature (closing 𝓛 (Callee L Xs) (saying L Xs 𝓤 Says))

  -- what is known of a result v of the callee: it is of s, which the callee says
  abbrev Known-of : L.R.D → Denots (Rows 0 tt Xs) → Val → L.S.D → Type 0
  Known-of h a v s = Got L.R τA L.S.name (field_tys L.S) L.held.number L.told.number #callee L.R' v (field_vals L.S L.S' s)
      (L.held.get s) (v_a s)
      × (Says h a s × Is L.A°.row (L.told.get s) (v_a s ∷ []))

  module _ (h : L.R.D) (a : Denots (Rows 0 tt Xs)) (are : Known 0 tt Xs a) where
    abbrev to_callee : callee.Ghost
    to_callee = ((tt, tt, tt, (h, a), (vR h ∷ [], valss (Rows 0 tt Xs) (spells 0 tt Xs) a)), tt)

    asks : Is (row L.R) h (vR h ∷ []) → ent 𝓤 (sem 𝓛 ftrue) (callee.pre to_callee)
    asks isR = qed 𝓛 (‵ ftrue ∷ []) ∵ also ! (id⊢ 𝓤 (emp 𝓤)) $
        use0 𝓛 (‵ (owns (Rows 0 tt Xs) a (valss (Rows 0 tt Xs) (spells 0 tt Xs) a)))
        (owns_make 𝓛 (Rows 0 tt Xs) (Ises (Rows 0 tt Xs)) (makes_all 0 tt 𝓛 Xs) a _ are) $
        owned ! (row L.R) (Is (row L.R)) (LL.makes L.R L.R-plain 𝓛) h (vR h ∷ []) isR $ fjoin ! $ move ! (1 ∷ 0 ∷ []) $ done !

    is_known : (v : Val) (s : L.S.D) → Is (row L.S) s (v ∷ []) → Says h a s → Known-of h a v s
    is_known v s is e = (
      record {
        is = ap only (LL.tells L.S L.S' s (v ∷ []) is);
        typed = ((LL.lawful L.S L.S' 𝓛).typed s _ is).0;
        held = L.held.is s;
        fits = L.held.owed s v is;
        told = L.told.is s;
        answer = L.A°.typed 𝓛 (L.told.get s) (L.told.owed s v is);
      },
      (e, L.told.owed s v is),
    )

    gives : (v : Val) → ent 𝓤 (callee.post to_callee v) (H.⇛ (ex 𝓤 (λ (s : L.S.D). fact 𝓤 (Known-of h a v s))))
    gives v =
        let F : L.S.D → SProp 𝓤 = λ s. fact 𝓤 (Known-of h a v s) in
        let O : L.S.D → SProp 𝓤 = λ s. sem 𝓛 ((row L.S).own_val s (v ∷ [])) in
        let P : SProp 𝓤 = alive 𝓛 (Callee L Xs).signature tt tt in
        let N : L.S.D → SProp 𝓤 = λ s. ensured 𝓛 (Callee L Xs) (saying L Xs 𝓤 Says) tt (h, a) tt s in
        let E : Lasts (Callee L Xs) tt (h, a) → SProp 𝓤 = λ ws. sem 𝓛 (lasts (Callee L Xs) tt (h, a) ws) in
        𝓛.laws.⇛_mono (ex 𝓤 (λ (s : L.S.D). sep 𝓤 (sep 𝓤 P (O s)) (N s))) (ex 𝓤 F) (ex_e 𝓤 (λ (s : L.S.D). sep 𝓤 (sep 𝓤 P (O s)) (N s)) (λ s. via 𝓤 (F s)
        (fact_use 𝓤 (Is (row L.S) s (v ∷ [])) (via 𝓤 (sep 𝓤 P (O s)) (fst∗ 𝓤 (sep 𝓤 P (O s)) (N s))
        (via 𝓤 (O s) (snd∗ 𝓤 P (O s)) (shows 𝓛 (row L.S) s (v ∷ []))))
        (λ is. fact_use 𝓤 (Says h a s) (via 𝓤 (N s) (snd∗ 𝓤 (sep 𝓤 P (O s)) (N s))
        (ex_e 𝓤 (λ ws. sep 𝓤 (E ws) (fact 𝓤 (Says h a s))) (λ ws. snd∗ 𝓤 (E ws) (fact 𝓤 (Says h a s)))))
        (λ e. fact_i 𝓤 (Known-of h a v s) (sep 𝓤 (sep 𝓤 P (O s)) (N s)) (is_known v s is e))))
        (ex_i 𝓤 F s)))

  module _ (κs : Lfts 1) (qs : Shares 1) (a : Args own.signature κs) (are : Known 1 κs Xs a.1) where
    abbrev at_own : (walk_of 𝓛 own stayed (telling L Xs 𝓤 Tells)).Ghost
    at_own = ((κs, qs, tt, a, (mut_vals a.0, valss (Rows 1 κs Xs) (spells 1 κs Xs) a.1)), tt)

    abbrev a₀ : Denots (Rows 0 tt Xs)
    a₀ = carry κs Xs a.1

    exits : (s : L.S.D) → Says a.0.now a₀ s × Is L.A°.row (L.told.get s) (v_a s ∷ [])
        → ent 𝓤 (sep 𝓤 (A.obs a.0.ghost_name ((row L.R).coded.code (L.held.get s)))
        (sep 𝓤 (A.bor κs.0 (Body (mem (row L.R)) a.0.ref_ptr.0 a.0.ref_ptr.1 a.0.ghost_name)) (A.lft κs.0 qs.0)))
        ((walk_of 𝓛 own stayed (telling L Xs 𝓤 Tells)).post at_own (v_a s))
    exits s e =
        qed 𝓛 (‵ (fobs a.0.ghost_name ((row L.R).coded.code (L.held.get s))) ∷ ‵
        (fbor κs.0 (Body (mem (row L.R)) a.0.ref_ptr.0 a.0.ref_ptr.1 a.0.ghost_name)) ∷ ‵ (flft κs.0 qs.0) ∷ []) ∵
        suffices ! _ (ends_at 𝓛 own stayed (telling L Xs 𝓤 Tells) at_own (v_a s) (L.told.get s) (L.held.get s, fins κs Xs a.1)
        (tt, fit_all κs Xs a.1)) $
        also ! (fact_i 𝓤 _ (emp 𝓤) (tells a.0.now a₀ s e.0)) $ nothing ! $ move ! (3 ∷ 0 ∷ []) $ join ! $ frame ! $
        feq_i ! (List Val) (mut_vals a.0) (mut_vals a.0) refl $ fjoin3 ! $
        use0 𝓛 (‵ (has_of κs (slots 1 Xs) (all yes (slots 1 Xs)) (stays Xs) a.1 (fins κs Xs a.1)
        (valss (Rows 1 κs Xs) (spells 1 κs Xs) a.1))) (has_all 𝓛 κs Xs a.1 are) $
        move ! (1 ∷ 0 ∷ []) $ fjoin ! $
        owned ! L.A°.row (Is L.A°.row) (L.A°.makes 𝓛) (L.told.get s) (v_a s ∷ []) e.1 $ move ! (1 ∷ 0 ∷ []) $ done !

  module _ (𝓣 : Tables 𝓤 H) (met : Triple 𝓤 (𝓣.C #callee) callee) where
    runs : (κs : Lfts 1) (qs : Shares 1) (a : Args own.signature κs) (are : Known 1 κs Xs a.1)
        → ent 𝓤 (on_entry 𝓛 own.signature κs qs a (mut_vals a.0, valss (Rows 1 κs Xs) (spells 1 κs Xs) a.1))
        (WpFn 𝓤 H 𝓣.C 𝓣.Λ code (vptr a.0.ref_ptr.0 a.0.ref_ptr.1 ∷ vals 1 κs Xs a.1)
        ((walk_of 𝓛 own stayed (telling L Xs 𝓤 Tells)).post (at_own κs qs a are)))
    runs κs qs a are =
        let a₀ : Denots (Rows 0 tt Xs) = carry κs Xs a.1 in
        let are₀ : Known 0 tt Xs a₀ = carry_known κs Xs a.1 are in
        let at : callee.Ghost = to_callee a.0.now a₀ are₀ in
        qed 𝓛 ((‵ (flft κs.0 qs.0) ⊛ ‵ ftrue) ∷ ‵ (owns (MutRef (named 0) κs.0 (row L.R) ∷ Rows 1 κs Xs) a
        (mut_vals a.0, valss (Rows 1 κs Xs) (spells 1 κs Xs) a.1)) ∷ []) ∵
        split ! $ move ! (2 ∷ []) $ fsplit ! $ fsplit3 ! $ drop ! $ move ! (0 ∷ 1 ∷ 3 ∷ []) $ keep ! (0 ∷ 1 ∷ 2 ∷ []) $
        by ! (walk L.R τA L.S.name (field_tys L.S) L.held.number L.told.number #callee L.R' 𝓛 L.R-plain
        L.held.at.1 L.told.at.1
        (field_vals L.S L.S') L.held.get v_a _ κs.0 qs.0 a.0.ref_ptr.0 a.0.ref_ptr.1 a.0.ghost_name a.0.now (tys Xs) (vals 1 κs Xs a.1)
        (typed_all 1 κs 𝓛 Xs a.1 are) _ _ _
        (asks a.0.now a₀ are₀) (gives a.0.now a₀ are₀) (exits κs qs a are) 𝓣.C 𝓣.Λ (fm_of 𝓤 H 𝓛.laws 𝓣)
        (subst (λ (vs : List Val). ent 𝓤 (callee.pre at) (𝓣.C #callee (vR a.0.now ∷ vs) (callee.post at)))
        (flat_is 0 tt Xs a₀ ∙ carry_vals κs Xs a.1) (met at)))

    meets : Meets 𝓛 own.signature (WpFn 𝓤 H 𝓣.C 𝓣.Λ code) (closing 𝓛 own (telling L Xs 𝓤 Tells))
    meets = walk_Meets 𝓛 own stayed (Goes-ref 𝓛 1 0 tt (plain (λ _. row L.R)), go_args 𝓛 Xs) (telling L Xs 𝓤 Tells)
        (WpFn 𝓤 H 𝓣.C 𝓣.Λ code) (WpFn-mono 𝓤 H 𝓛.laws 𝓣 code)
        (walked 𝓛 own stayed (telling L Xs 𝓤 Tells) (WpFn 𝓤 H 𝓣.C 𝓣.Λ code) (λ κs. (mut_vals, spells 1 κs Xs))
        (λ κs. (mut_Tells (named 0) κs.0 (row L.R), tellss 1 κs Xs))
        (λ κs qs bounds a g are. let entry : SProp 𝓤 = on_entry 𝓛 own.signature κs qs a (mut_vals a.0, valss (Rows 1 κs Xs) (spells 1 κs Xs) a.1) in
        via 𝓤 entry (fst∗ 𝓤 entry (emp 𝓤))
        (subst (λ (vs : List Val). ent 𝓤 entry
        (WpFn 𝓤 H 𝓣.C 𝓣.Λ code (vptr a.0.ref_ptr.0 a.0.ref_ptr.1 ∷ vs)
        ((walk_of 𝓛 own stayed (telling L Xs 𝓤 Tells)).post (at_own κs qs a are.1))))
        (sym (flat_is 1 κs Xs a.1)) (runs κs qs a are.1))))

-- ---- what a proof cites: of the function and of its callee it gives what Rattle made of them, and the callee's theorem
module _ (L : Lending) (Xs : List Arg) {M : Type 1} {𝓤 : Ura M} (𝓛 : Logic 𝓤) (𝓜 : Model 𝓤 𝓛.H) (𝓡 : Running 𝓤 𝓛.H 𝓜) (γ : Env)
    (#own #callee : Called) (routine : Routine) (calls : γ #callee ≡ routine)
    (closed : Closed 𝓤 𝓛.H (tables 𝓤 𝓛.H 𝓜 𝓡 γ).C (tables 𝓤 𝓛.H 𝓜 𝓡 γ).Λ #own
    (lent L.R L.A°.ty L.S.name (field_tys L.S) L.held.number L.told.number #callee (tys Xs))) where
  open 𝓛 use {H}

  abbrev pub CalleeMeets : Saying L Xs → Type 1
  CalleeMeets Says = Meets 𝓛 (Callee L Xs).signature (𝓡.run routine) (closing 𝓛 (Callee L Xs) (saying L Xs 𝓤 Says))

  abbrev pub OwnMeets : Telling L Xs → Type 1
  OwnMeets Tells = Meets 𝓛 (Own L Xs).signature (𝓡.run (γ #own)) (closing 𝓛 (Own L Xs) (telling L Xs 𝓤 Tells))

  stands_if : (Says : Saying L Xs) (Tells : Telling L Xs) → ((h : L.R.D) (a : Denots (Rows 0 tt Xs)) (s : L.S.D) → Says h a s
      → Tells h a (L.told.get s) (L.held.get s)) → CalleeMeets Says → OwnMeets Tells
  unfolding tables_of
  stands_if Says Tells tells met =
      entered 𝓤 H (triple_of 𝓛 (Own L Xs).signature (closing 𝓛 (Own L Xs) (telling L Xs 𝓤 Tells))) (tables 𝓤 H 𝓜 𝓡 γ).C
      (tables 𝓤 H 𝓜 𝓡 γ).Λ #own _ closed
      (meets L Xs Says Tells tells #callee 𝓛 (tables_of 𝓤 H 𝓜 (tables 𝓤 H 𝓜 𝓡 γ))
      (cited 𝓤 H (triple_of 𝓛 (Callee L Xs).signature (closing 𝓛 (Callee L Xs) (saying L Xs 𝓤 Says))) 𝓜 𝓡 γ #callee routine calls met))

  -- what the callee's contract says of the two fields, the function's says of its answer and of the record at exit
  pub stands : (Tells : Telling L Xs) → CalleeMeets (λ h a s. Tells h a (L.told.get s) (L.held.get s)) → OwnMeets Tells
  stands Tells met = stands_if _ Tells (λ h a s e. e) met

  -- the callee's contract is one equation: the answer and the record at exit are the two fields of its right side
  pub stands_equal : (F : L.R.D → Denots (Rows 0 tt Xs) → L.S.D) → CalleeMeets (λ h a s. s ≡ F h a)
      → OwnMeets (λ h a x r. (x ≡ L.told.get (F h a)) × (r ≡ L.held.get (F h a)))
  stands_equal F met = stands_if _ (λ h a x r. (x ≡ L.told.get (F h a)) × (r ≡ L.held.get (F h a)))
      (λ h a s e. (ap L.told.get e, ap L.held.get e)) met
