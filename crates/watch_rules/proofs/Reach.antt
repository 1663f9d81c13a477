-- A record is well formed exactly when calls leave it. One way: calls keep record and plain watch in step, and the record of good rows is
-- well formed. Other way: a start and a new beam give the channels, and each level is filed, oldest first, as the float that shows it.
use Rattle.std.specs.Prelude.{Float}
use Prim.Native.Nat.{ℕ, ◌≤◌}
use mathlib.Core.Path.{◌≡◌, refl, sym, ap, ap₂, ◌∙◌, subst}
use mathlib.Core.Bool.{Bool, true, false, not, ◌||◌, or-true}
use mathlib.Core.List.{List, [], ◌∷◌, ◌++◌, map, append_assoc, append-nil}
use native.Mathlib.Omega.{arith}
use lib.Dec.{eqb, leb}
use lib.IntN.{ℤ, pos}
use lib.ListN.{length, length-append, length-map}
use mir.Syntax.{w16, w64}
use mir.Val.{Fits}
use borrow.Author.Tests.{eqb-true, eq-eqb, ne_eqb, le-leb, leb-true}
use Rattle.refusal.specs.declared.Refusal.TheVariants as why
use Rattle.refusal.specs.Told.{Told, gives, acceptance, unless_refused}
use Rattle.refusal.proofs.Provided.{refuse_later}
use Rattle.readings_rules.specs.declared.Burst.{Burst}
use Rattle.readings_rules.specs.declared.Burst.TheVariants.{Heard}
use Rattle.readings_rules.specs.Ranges.{level_in_range}
use Rattle.readings_rules.specs.Float.{float_of}
use Rattle.readings_rules.specs.Burst.{BurstResult, heard, both_of, burst_of}
use Rattle.readings_rules.proofs.SingleFloat.{float_single}
use Rattle.readings_rules.proofs.Back.{level_back, quality_back}
use Rattle.watch_rules.specs.declared.Watch.{Watch}
use Rattle.watch_rules.specs.Lists.{mem, distinct, every}
use Rattle.readings_rules.specs.Channels.{channel_highest, channel_in_range}
use Rattle.watch_rules.specs.Limits.{list_limit, depth_in_range}
use Rattle.watch_rules.specs.Told.{Call, start, new_beam, file, Called}
use Rattle.watch_rules.specs.Rules.{allowed}
use Rattle.watch_rules.specs.Plain.{idle, after}
use Rattle.watch_rules.specs.Rows.{Row, row, channels, levels_of, shown, push, push_at, changed_rows, changed_depth, filed_rows}
use Rattle.watch_rules.specs.Record.{rows, record_of, changed_record, well_formed, fresh, called, after_from}
use Rattle.watch_rules.specs.Claims.{AllChannels, CanBeMade, AllCanBeMade, Reachable, WellFormedIsReachable}
use Rattle.watch_rules.proofs.Laws.{clash, and_left, and_right, and_both, not_is, or_false_left, or_false_right, cond_same, last_short}
use Rattle.watch_rules.proofs.Depth.{depth_high}
use Rattle.watch_rules.proofs.Good.{levels_ok, row_fine, Good, good_fits, few_levels, ranged_levels}
use Rattle.watch_rules.proofs.Encode.{rows_record, well_formed_record, read_record, Read}
use Rattle.watch_rules.proofs.ListSound.{list_sound, sound_passes}
use Rattle.watch_rules.proofs.Calls.{called_record, first_watched}
use Rattle.watch_rules.proofs.Steps.{channels_fine}
use Rattle.watch_rules.proofs.Sequence.{after_more}
use Rattle.watch_rules.proofs.Demand3.{linked}

-- ---- rows that calls leave

abbrev Left : ℕ → List Row → Type 0
Left d rs = Reachable (record_of d rs)

-- they are good: the record that calls leave is that of good rows, and it has only one list of rows and one depth
left_good : (d : ℕ) (rs : List Row) → Left d rs → Good d rs
left_good d rs r =
    let l = linked r.calls in
    let n : ℕ = (after idle r.calls).depth in
    let both : record_of n l.held ≡ record_of d rs = sym l.made ∙ r.leave in
    let one : l.held ≡ rs = sym (rows_record n l.held) ∙ ap rows both ∙ rows_record d rs in
    subst (λ (m : ℕ). Good m rs) (ap (λ (w : Watch). w.depth) both) (subst (Good n) one l.kept.good)

made_more : (ks : List Call) (k : Call) → AllCanBeMade ks → CanBeMade k → AllCanBeMade (ks ++ k ∷ [])
made_more [] k a b = (b, tt)
made_more (j ∷ ks) k a b = (a.0, made_more ks k a.1 b)

-- one more call
extend : (d : ℕ) (rs : List Row) (k : Call) → Left d rs → CanBeMade k → allowed (shown d rs) k ≡ gives tt → Left (changed_depth d k) (changed_rows d rs k)
extend d rs k r b n =
    record {
      calls = r.calls ++ k ∷ [];
      made = made_more r.calls k r.made b;
      leave =
          after_more fresh r.calls k
          ∙ ap (λ (w : Watch). (called w k).watch) r.leave
          ∙ ap (λ (o : Called). o.watch) (called_record d rs k (left_good d rs r))
          ∙ ap (λ (o : Told Unit). unless_refused o (record_of d rs) (changed_record d rs k)) n;
    }

-- ---- a burst for each level: the float that shows it, and any quality in range

burst_for : ℤ → Burst Float
burst_for x = Heard (record { level = float_of x; quality = float_of (pos 0) })

burst_for_lem : (x : ℤ) → level_in_range x ≡ true → burst_of (burst_for x) ≡ gives (heard x (pos 0))
unfolding burst_for
burst_for_lem x e = ap₂ both_of (level_back x e) (quality_back (pos 0) refl)

channel_fits : (c : ℕ) → channel_in_range c ≡ true → Fits w16 c
channel_fits c e = let h = leb-true c channel_highest e in record { fits = omega arith }

depth_fits : (d : ℕ) → depth_in_range d ≡ true → Fits w64 d
depth_fits d e = let h = depth_high d e in record { fits = omega arith }

file_made : (c : ℕ) (x : ℤ) → channel_in_range c ≡ true → CanBeMade (file c (burst_for x))
unfolding burst_for
file_made c x e = (channel_fits c e, (float_single x, float_single (pos 0)))

-- ---- a channel's row among the others

pub mem_middle : (c : ℕ) (l m : List ℕ) → mem c (l ++ c ∷ m) ≡ true
mem_middle c [] m = ap (λ (b : Bool). b || mem c m) (eq-eqb c c refl)
mem_middle c (d ∷ l) m = ap (λ (b : Bool). eqb d c || b) (mem_middle c l m) ∙ or-true (eqb d c)

pub distinct_middle : (c : ℕ) (l m : List ℕ) → distinct (l ++ c ∷ m) ≡ true → mem c l ≡ false
distinct_middle c [] m e = refl
distinct_middle c (d ∷ l) m e =
    let n : mem d (l ++ c ∷ m) ≡ false = not_is _ (and_left (not (mem d (l ++ c ∷ m))) (distinct (l ++ c ∷ m)) e) in
    let q : eqb d c ≡ false = ne_eqb d c (λ z. clash (ap (λ (x : ℕ). mem x (l ++ c ∷ m)) z ∙ mem_middle c l m) n) in
    rw q (distinct_middle c l m (and_right (not (mem d (l ++ c ∷ m))) (distinct (l ++ c ∷ m)) e))

channels_append : (rs qs : List Row) → channels (rs ++ qs) ≡ channels rs ++ channels qs
channels_append [] qs = refl
channels_append (r ∷ rs) qs = ap (◌∷◌ r.channel) (channels_append rs qs)

push_middle : (d : ℕ) (x : ℤ) (rs : List Row) (r : Row) (qs : List Row) → mem r.channel (channels rs) ≡ false
    → push_at d r.channel x (rs ++ r ∷ qs) ≡ rs ++ push d x r ∷ qs
push_middle d x [] r qs e = rw (eq-eqb r.channel r.channel refl)
push_middle d x (s ∷ rs) r qs e =
    rw (or_false_left (eqb s.channel r.channel) (mem r.channel (channels rs)) e)
    (ap (◌∷◌ s) (push_middle d x rs r qs (or_false_right (eqb s.channel r.channel) (mem r.channel (channels rs)) e)))

-- ---- the levels of one row are filed, then those of every row

module _ (d : ℕ) (rs : List Row) (c : ℕ) (qs : List Row) (ranged : channel_in_range c ≡ true) where
  abbrev with_levels : List ℤ → List Row
  with_levels a = rs ++ row c a ∷ qs

  file_one : (pre : List ℤ) (x : ℤ) → level_in_range x ≡ true → length (pre ++ x ∷ []) ≤ d
      → Left d (with_levels pre) → Left d (with_levels (pre ++ x ∷ []))
  file_one pre x e h l =
      let at : List Row = with_levels pre in
      let there : mem c (channels at) ≡ true = ap (mem c) (channels_append rs (row c pre ∷ qs)) ∙ mem_middle c (channels rs) (channels qs) in
      let apart : mem c (channels rs) ≡ false =
      distinct_middle c (channels rs) (channels qs) (ap distinct (sym (channels_append rs (row c pre ∷ qs))) ∙ (left_good d at l).apart) in
      let open_to : allowed (shown d at) (file c (burst_for x)) ≡ gives tt =
      refuse_later why.NotWatched (first_watched d at c ∙ there) (ap acceptance (burst_for_lem x e)) in
      let one : changed_rows d at (file c (burst_for x)) ≡ with_levels (pre ++ x ∷ []) =
      ap (λ (t : Told BurstResult). filed_rows d c t at) (burst_for_lem x e)
      ∙ push_middle d x rs (row c pre) qs apart
      ∙ ap with_levels (last_short d (pre ++ x ∷ []) h) in
      subst (Left d) one (extend d at (file c (burst_for x)) l (file_made c x ranged) open_to)

  fill_row : (pre post : List ℤ) → every level_in_range post ≡ true → length (pre ++ post) ≤ d
      → Left d (with_levels pre) → Left d (with_levels (pre ++ post))
  fill_row pre [] e h l = subst (λ (a : List ℤ). Left d (with_levels a)) (sym (append-nil pre)) l
  fill_row pre (x ∷ post) e h l =
      let short : length (pre ++ x ∷ []) ≤ d = omega (arith, h, length-append pre (x ∷ post), length-append pre (x ∷ [])) in
      let whole : (pre ++ x ∷ []) ++ post ≡ pre ++ x ∷ post = append_assoc pre (x ∷ []) post in
      subst (λ (a : List ℤ). Left d (with_levels a)) whole
      (fill_row (pre ++ x ∷ []) post (and_right (level_in_range x) (every level_in_range post) e)
      (subst (λ (a : List ℤ). length a ≤ d) (sym whole) h)
      (file_one pre x (and_left (level_in_range x) (every level_in_range post) e) short l))

bare : Row → Row
bare r = row r.channel []

fill_rows : (d : ℕ) (rs qs : List Row) → every (row_fine d) qs ≡ true → Left d (rs ++ map bare qs) → Left d (rs ++ qs)
unfolding bare
fill_rows d rs [] e l = l
fill_rows d rs (q ∷ qs) e l =
    let ok : row_fine d q ≡ true = and_left (row_fine d q) (every (row_fine d) qs) e in
    let lv : levels_ok d q.levels ≡ true = and_right (channel_in_range q.channel) (levels_ok d q.levels) ok in
    let one : Left d (rs ++ q ∷ map bare qs) =
    fill_row d rs q.channel (map bare qs) (and_left (channel_in_range q.channel) (levels_ok d q.levels) ok) [] q.levels
    (ranged_levels d q.levels lv) (few_levels d q.levels lv) l in
    subst (Left d) (append_assoc rs (q ∷ []) qs)
    (fill_rows d (rs ++ q ∷ []) qs (and_right (row_fine d q) (every (row_fine d) qs) e)
    (subst (Left d) (sym (append_assoc rs (q ∷ []) (map bare qs))) one))

-- ---- a start and a new beam give the rows without levels

list_made : (l : List ℕ) → every channel_in_range l ≡ true → AllChannels l
list_made [] e = tt
list_made (c ∷ l) e =
    (channel_fits c (and_left (channel_in_range c) (every channel_in_range l) e), list_made l (and_right (channel_in_range c) (every channel_in_range l) e))

bare_levels : (a : ℕ) (qs : List Row) → map (λ c. row c (levels_of c (row a [] ∷ []))) (channels qs) ≡ map bare qs
unfolding bare
bare_levels a [] = refl
bare_levels a (q ∷ qs) = ap₂ ◌∷◌ (ap (row q.channel) (cond_same (eqb a q.channel) [])) (bare_levels a qs)

none_left : Left 0 []
none_left = record { calls = []; made = tt; leave = refl }

bare_left : (d : ℕ) (rs : List Row) → Good d rs → Left d (map bare rs)
unfolding bare
bare_left d [] g = subst (λ (n : ℕ). Left n []) (sym (eqb-true d 0 g.depth)) none_left
bare_left d (r ∷ rs) g =
    let c : ℕ = r.channel in
    let l : List ℕ = channels rs in
    let all : every channel_in_range (c ∷ l) ≡ true = channels_fine d (r ∷ rs) g.fine in
    let ok : channel_in_range c ≡ true = and_left (channel_in_range c) (every channel_in_range l) all in
    let oks : every channel_in_range l ≡ true = and_right (channel_in_range c) (every channel_in_range l) all in
    let one : Left d (row c [] ∷ []) =
    extend 0 [] (start c d) none_left (channel_fits c ok, depth_fits d g.depth)
    (refuse_later why.ParameterOutOfRange g.depth (refuse_later why.ChannelOutOfRange ok refl)) in
    let fits : leb (length l) list_limit ≡ true =
    le-leb (length l) list_limit (omega (arith, length-map rs (λ (q : Row). q.channel), good_fits (r ∷ rs) g)) in
    let may : list_sound c l ≡ true = and_both (and_both fits oks) g.apart in
    subst (Left d) (ap₂ (λ (a : List ℤ) (b : List Row). row c a ∷ b) (cond_same (eqb c c) []) (bare_levels c rs))
    (extend d (row c [] ∷ []) (new_beam c l) one (channel_fits c ok, list_made l oks)
    (refuse_later why.ChannelOutOfRange ok (sound_passes c l may _)))

good_left : (d : ℕ) (rs : List Row) → Good d rs → Left d rs
good_left d rs g = fill_rows d [] rs g.fine (bare_left d rs g)

-- ---- both sides

pub left_formed : (ks : List Call) → well_formed (after_from fresh ks) ≡ true
left_formed ks = let l = linked ks in ap well_formed l.made ∙ well_formed_record (after idle ks).depth l.held l.kept.good

pub well_formed_is_reachable : WellFormedIsReachable
well_formed_is_reachable w = (
  (λ e.
      let r : Read w = read_record w e in
      subst Reachable r.back (good_left w.depth (rows w) r.good)),
  (λ r. ap well_formed (sym r.leave) ∙ left_formed r.calls),
)
