-- What follows of every record that calls leave: it is well formed, so its rows are good. And a record that no calls leave is not well
-- formed, so every call on it is refused with 9.
use Prim.Native.Nat.{ℕ}
use mathlib.Core.Path.{◌≡◌, refl, sym, ap, ◌∙◌}
use mathlib.Core.Bool.{Bool, true, false}
use mathlib.Core.List.{List, [], ◌∷◌, Memᴰ}
use native.Mathlib.Omega.{arith}
use lib.ListN.{length, take}
use borrow.Author.Tests.{leb-true}
use Rattle.refusal.specs.declared.Reason.TheVariants.{Alone}
use Rattle.readings_rules.specs.Channels.{channel_in_range}
use Rattle.readings_rules.specs.Ranges.{level_in_range}
use Rattle.readings_rules.proofs.Ranges.{range_rule}
use Rattle.watch_rules.specs.declared.Watch.{Watch}
use Rattle.watch_rules.specs.Lists.{every}
use Rattle.watch_rules.specs.Rows.{channels, levels_of}
use Rattle.watch_rules.specs.Record.{rows, well_formed, fresh, called, after_from}
use Rattle.watch_rules.specs.Claims.{count_of, Follows, ItFollows, Reachable, UnformedRule}
use Rattle.watch_rules.proofs.Laws.{by_case, and_left, and_right}
use Rattle.watch_rules.proofs.Words.{distinct_times, every_times}
use Rattle.watch_rules.proofs.Good.{levels_ok, Good, good_fits, few_levels, ranged_levels}
use Rattle.watch_rules.proofs.Encode.{read_record}
use Rattle.watch_rules.proofs.Calls.{called_unformed, tested_unformed, tested_formed}
use Rattle.watch_rules.proofs.Relist.{levels_fine}
use Rattle.watch_rules.proofs.Steps.{channels_fine}
use Rattle.watch_rules.proofs.Demand3.{count_record}
use Rattle.watch_rules.proofs.Refusals.{row_number}
use Rattle.watch_rules.proofs.Rules.{refusal_rule}
use Rattle.watch_rules.proofs.Reach.{left_formed, well_formed_is_reachable}

-- ---- a record that calls leave

each_of : {A : Type 0} (f : A → Bool) (x : A) (l : List A) → every f l ≡ true → Memᴰ x l → f x ≡ true
each_of f x [] e d = elim d [ ]
each_of f x (y ∷ l) e (Memᴰ.head q) = ap f q ∙ and_left (f y) (every f l) e
each_of f x (y ∷ l) e (Memᴰ.tail d) = each_of f x l (and_right (f y) (every f l) e) d

formed_follows : (w : Watch) → well_formed w ≡ true → Follows w
formed_follows w f =
    let g : Good w.depth (rows w) = (read_record w f).good in
    let fine : (c : ℕ) → levels_ok w.depth (levels_of c (rows w)) ≡ true = λ c. levels_fine w.depth c (rows w) g.fine in
    record {
      few = good_fits (rows w) g;
      differ = distinct_times (channels (rows w)) g.apart;
      in_range = λ c t. leb-true c 1087 (every_times channel_in_range (channels (rows w)) (channels_fine w.depth (rows w) g.fine) c t);
      counts =
          λ c.
          let n : count_of c (take w.watched w.tracks) ≡ length (levels_of c (rows w)) =
          ap (λ (x : Watch). count_of c (take x.watched x.tracks)) (sym (read_record w f).back) ∙ count_record w.depth c (rows w) in
          omega (arith, n, few_levels w.depth (levels_of c (rows w)) (fine c));
      levels = λ c x m. (range_rule.level x).0 (each_of level_in_range x (levels_of c (rows w)) (ranged_levels w.depth (levels_of c (rows w)) (fine c)) m);
    }

pub it_follows : ItFollows
it_follows ks = formed_follows (after_from fresh ks) (left_formed ks)

-- ---- one that no calls leave

not_formed : (w : Watch) → ¬ (Reachable w) → well_formed w ≡ false
not_formed w n = by_case (well_formed w) (λ e. absurd (n ((well_formed_is_reachable w).0 e))) (λ e. e)

pub unformed_rule : UnformedRule
unformed_rule w =
    record {
      calls = λ k n. called_unformed w k (not_formed w n);
      tests = λ n. tested_unformed w (not_formed w n);
      formed = λ r. tested_formed w ((well_formed_is_reachable w).1 r);
      others =
          λ k r e.
          (row_number ((refusal_rule r.calls k (Alone 9)).0 (ap (λ (x : Watch). (called x k).answer) r.leave ∙ e))).1 refl;
    }
