-- The record's rows and the plain watch keep in step: the rows are good, and show what the plain watch shows, at its depth. Each accepted
-- call keeps it so. What they show is compared as one value, so that every answer, mean and part in the verdict follows at once.
use Prim.Native.Nat.{ℕ}
use mathlib.Core.Path.{◌≡◌, refl, sym, ap, ◌∙◌}
use mathlib.Core.Bool.{Bool, true, cond, ◌&&◌, ◌||◌, false≢true}
use mathlib.Core.List.{List, [], ◌∷◌, ◌++◌}
use lib.Dec.{eqb, leb, leb-zero}
use lib.IntN.{ℤ}
use lib.ListN.{length, length-map}
use borrow.Author.Tests.{le-leb}
use Rattle.refusal.specs.declared.Refusal.TheVariants as why
use Rattle.refusal.specs.Told.{Told, refused, gives, acceptance}
use Rattle.refusal.proofs.Provided.{passed_test, passed_rest}
use Rattle.readings_rules.specs.Ranges.{level_in_range}
use Rattle.readings_rules.specs.Burst.{BurstResult, heard, missed, burst_of, InRange}
use Rattle.readings_rules.proofs.Bursts.{burst_in_range_lem}
use Rattle.watch_rules.specs.Lists.{mem, distinct, every, last_n}
use Rattle.readings_rules.specs.Channels.{channel_in_range}
use Rattle.watch_rules.specs.Limits.{depth_in_range, room}
use Rattle.watch_rules.specs.Told.{Call, start, new_beam, file, ask, verdict}
use Rattle.watch_rules.specs.Rules.{View, watched, serves, allowed}
use Rattle.watch_rules.specs.Plain.{Plain, seen, change, after_file, under_watch}
use Rattle.watch_rules.specs.Rows.{Row, channels, levels_of, first, shown, push, push_at, relisted, changed_rows, filed_rows}
use Rattle.watch_rules.specs.Record.{depth_fine}
use Rattle.watch_rules.proofs.Laws.{by_case, and_left, and_right, and_both, cond_same, cond_map, last-last, last_none, length_last_n, every_last, every_snoc, view_path, levels_none, channels_push, first_push, rest_push, levels-push}
use Rattle.watch_rules.proofs.Good.{levels_ok, row_fine, Good, ranged_levels}
use Rattle.watch_rules.proofs.ListSound.{list_sound, sound_short, sound_ranged, sound_apart, passes_sound}
use Rattle.watch_rules.proofs.Calls.{first_watched}
use Rattle.watch_rules.proofs.Relist.{rest_relisted, levels_relisted, good_relisted}

pub record Step (rs : List Row) (p : Plain) : Type 0 where
  pub same : shown p.depth rs ≡ seen p
  pub good : Good p.depth rs

-- ---- start

step_start : (rs : List Row) (p : Plain) (c depth : ℕ) → depth_in_range depth ≡ true → channel_in_range c ≡ true
    → Step (changed_rows p.depth rs (start c depth)) (change p (start c depth))
step_start rs p c depth deep h =
    record {
      same = view_path refl refl (λ d. refl) (λ d. cond_same (eqb c d) [] ∙ sym (last_none depth));
      good = record { depth = deep; short = refl; apart = refl; fine = and_both (and_both h (and_both (leb-zero depth) refl)) refl };
    }

-- ---- file

fine_push : (depth c : ℕ) (x : ℤ) (rs : List Row) → level_in_range x ≡ true → every (row_fine depth) rs ≡ true → every (row_fine depth) (push_at depth c x rs) ≡ true
fine_push depth c x [] h e = e
fine_push depth c x (r ∷ rs) h e =
    let f : row_fine depth r ≡ true = and_left (row_fine depth r) (every (row_fine depth) rs) e in
    let g : every (row_fine depth) rs ≡ true = and_right (row_fine depth r) (every (row_fine depth) rs) e in
    let k : levels_ok depth r.levels ≡ true = and_right (channel_in_range r.channel) (levels_ok depth r.levels) f in
    let l : List ℤ = r.levels ++ x ∷ [] in
    let o : row_fine depth (push depth x r) ≡ true =
    and_both (and_left (channel_in_range r.channel) (levels_ok depth r.levels) f)
    (and_both (le-leb (length (last_n depth l)) depth (length_last_n depth l))
    (every_last level_in_range depth l (every_snoc level_in_range r.levels x (ranged_levels depth r.levels k) h))) in
    by_case (eqb r.channel c)
    (λ q. rw q (and_both o g))
    (λ q. rw q (and_both f (fine_push depth c x rs h g)))

step_heard : (rs : List Row) (p : Plain) (c : ℕ) (x q : ℤ) → Step rs p → mem c (channels rs) ≡ true → level_in_range x ≡ true
    → Step (push_at p.depth c x rs) (after_file p c (gives (heard x q)))
step_heard rs p c x q s there ranged =
    let depth : ℕ = p.depth in
    let same_length : length (push_at depth c x rs) ≡ length rs =
    sym (length-map (push_at depth c x rs) (λ (r : Row). r.channel)) ∙ ap length (channels_push depth c x rs) ∙ length-map rs (λ (r : Row). r.channel) in
    record {
      good =
          record {
            depth = ap (λ (n : ℕ). depth_fine n depth) same_length ∙ s.good.depth;
            short = ap (λ (n : ℕ). leb n room) same_length ∙ s.good.short;
            apart = ap distinct (channels_push depth c x rs) ∙ s.good.apart;
            fine = fine_push depth c x rs ranged s.good.fine;
          };
      same =
          view_path
          refl
          (first_push depth c x rs ∙ ap (λ (v : View). v.serving) s.same)
          (λ d. ap (mem d) (rest_push depth c x rs) ∙ ap (λ (v : View). v.neighbour d) s.same)
          (λ d. levels-push depth c x d rs there
          ∙ ap (λ (l : List ℤ). cond (eqb c d) (last_n depth (l ++ x ∷ [])) l) (ap (λ (v : View). v.levels d) s.same)
          ∙ ap (λ (l : List ℤ). cond (eqb c d) l (last_n depth (p.levels d))) (last-last depth (p.levels d) x)
          ∙ sym (cond_map (last_n depth) (eqb c d) (p.levels d ++ x ∷ []) (p.levels d)));
    }

step_file : (rs : List Row) (p : Plain) (c : ℕ) (t : Told BurstResult) → Step rs p → mem c (channels rs) ≡ true → InRange t
    → Step (filed_rows p.depth c t rs) (after_file p c t)
step_file rs p c (gives (heard x q)) s there i = step_heard rs p c x q s there i.0
step_file rs p c (gives missed) s there i = s
step_file rs p c (refused n) s there i = s

-- ---- new beam

-- what a new beam makes of the levels of a channel
abbrev kept : ℕ → ℕ → List ℕ → View → List ℤ
kept d s l v = cond (watched v d && (eqb s d || mem d l)) (v.levels d) []

levels_kept : (depth d s : ℕ) (l : List ℕ) (rs : List Row) → levels_of d (relisted s l rs) ≡ kept d s l (shown depth rs)
levels_kept depth d s l rs =
    levels_relisted s l rs d
    ∙ by_case (mem d (channels rs))
    (λ m. ap (λ (b : Bool). cond (b && mem d (s ∷ l)) (levels_of d rs) []) (sym (first_watched depth rs d ∙ m)))
    (λ m. ap (λ (x : List ℤ). cond (mem d (s ∷ l)) x []) (levels_none d rs m)
    ∙ cond_same (mem d (s ∷ l)) []
    ∙ ap (λ (b : Bool). cond (b && mem d (s ∷ l)) (levels_of d rs) []) (sym (first_watched depth rs d ∙ m)))

-- a watch that has a serving channel has a depth in range
pub deep : (depth : ℕ) (rs : List Row) → Good depth rs → serves (first rs) ≡ true → depth_in_range depth ≡ true
deep depth [] g on = absurd (false≢true on)
deep depth (r ∷ rs) g on = g.depth

step_beam : (rs : List Row) (p : Plain) (s : ℕ) (l : List ℕ) → Step rs p → channel_in_range s ≡ true → list_sound s l ≡ true → serves (first rs) ≡ true
    → Step (changed_rows p.depth rs (new_beam s l)) (change p (new_beam s l))
step_beam rs p s l k ranged ok on =
    let depth : ℕ = p.depth in
    record {
      same =
          view_path
          refl
          refl
          (λ d. ap (mem d) (rest_relisted s l rs))
          (λ d. levels_kept depth d s l rs
          ∙ ap (kept d s l) k.same
          ∙ ap (cond (under_watch p d && (eqb s d || mem d l)) (last_n depth (p.levels d))) (sym (last_none depth))
          ∙ sym (cond_map (last_n depth) (under_watch p d && (eqb s d || mem d l)) (p.levels d) []));
      good =
          good_relisted s l rs k.good (deep depth rs k.good on) (sound_short s l ok) (and_both ranged (sound_ranged s l ok)) (sound_apart s l ok);
    }

-- the channels of rows that are fine are in range
pub channels_fine : (depth : ℕ) (rs : List Row) → every (row_fine depth) rs ≡ true → every channel_in_range (channels rs) ≡ true
channels_fine depth [] e = refl
channels_fine depth (r ∷ rs) e =
    and_both (and_left (channel_in_range r.channel) _ (and_left (row_fine depth r) (every (row_fine depth) rs) e))
    (channels_fine depth rs (and_right (row_fine depth r) (every (row_fine depth) rs) e))

-- ---- every accepted call

pub step : (rs : List Row) (p : Plain) (k : Call) → Step rs p → allowed (shown p.depth rs) k ≡ gives tt
    → Step (changed_rows p.depth rs k) (change p k)
step rs p (start c d) s e =
    step_start rs p c d
    (passed_test why.ParameterOutOfRange (depth_in_range d) _ e)
    (passed_test why.ChannelOutOfRange (channel_in_range c) _ (passed_rest why.ParameterOutOfRange (depth_in_range d) _ e))
step rs p (new_beam c l) s e =
    let passed = passes_sound c l _ (passed_rest why.ChannelOutOfRange (channel_in_range c) _ e) in
    step_beam rs p c l s (passed_test why.ChannelOutOfRange (channel_in_range c) _ e) passed.0
    (passed_test why.NotWatched (serves (first rs)) _ passed.1)
step rs p (file c b) s e =
    step_file rs p c (burst_of b) s
    (sym (first_watched p.depth rs c) ∙ passed_test why.NotWatched (watched (shown p.depth rs) c) (acceptance (burst_of b)) e)
    (burst_in_range_lem b)
step rs p (ask c) s e = s
step rs p (verdict h) s e = s
