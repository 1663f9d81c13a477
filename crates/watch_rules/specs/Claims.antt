-- Demand 3, and what else is claimed of the watch. Proved in `proofs/`, each under its name in snake case.
use Rattle.std.specs.Prelude.{ℕ, ◌+◌, ◌≤◌, ◌<◌, min, ◌≡◌, ◌⊎◌, ◌↔◌, Bool, true, false, cond, T, eqb, ℤ, pos, ◌+ℤ◌, ◌*ℤ◌, ◌≤ℤ◌, ◌<ℤ◌, length, take, Ok, Err, Float}
use mathlib.Core.List.{List, [], ◌∷◌, ◌++◌, Memᴰ}
use Rattle.std.proofs.Math.Option.{Option, none, some}
use Rattle.std.proofs.Math.ListN.{get_elem?}
use Rattle.std.specs.Float.{binary32}
use Rattle.std.specs.Float.Ieee.{fits}
use Rattle.std.specs.Int.{w16, w32, w64}
use Rattle.std.proofs.Common.{Fits, SFits}
use Rattle.refusal.specs.declared.Refusal.{Refusal}
use Rattle.refusal.specs.declared.Reason.{Reason}
use Rattle.refusal.specs.declared.Reason.TheVariants.{Alone, At}
use Rattle.refusal.specs.Number.{reason_of}
use Rattle.refusal.specs.Told.{Told, refused, gives}
use Rattle.refusal.specs.Claims.{OneToOne}
use Rattle.readings_rules.specs.declared.Burst.{Burst}
use Rattle.readings_rules.specs.declared.Burst.TheVariants.{Heard, Missed}
use Rattle.readings_rules.specs.Burst.{heard, burst_of}
use Rattle.readings_rules.specs.Claims.{LevelInRange}
use Rattle.watch_rules.specs.declared.Track.{Track}
use Rattle.watch_rules.specs.declared.Watch.{Watch}
use Rattle.watch_rules.specs.declared.Answer.TheVariants as says
use Rattle.watch_rules.specs.Lists.{mem, times_in, distinct, every, is, last_n, sum}
use Rattle.watch_rules.specs.Told.{Call, start, new_beam, file, ask, verdict, Given, accepted, levels, wait, stay, move_to, told_answer, told_handed}
use Rattle.watch_rules.specs.Rules.{answer, mean, full, counts, target}
use Rattle.watch_rules.specs.Plain.{Plain, idle, seen, next, answers, after}
use Rattle.watch_rules.specs.Rows.{channels, levels_of, first, rest}
use Rattle.watch_rules.specs.Record.{rows, view_of, well_formed, fresh, called, tested, answers_from, after_from}
use Rattle.watch_rules.specs.Refusals.{Watched, Faulty, Fault, FirstFault, Refuses, Accepted}
use Rattle.watch_rules.specs.PlainSteps.{IsIdle, Started, BeamTaken, Filed}

-- ---- demand 3: what is compared besides the answers

-- a channel's part in the verdict at a hysteresis: "whether it has 15 levels, whether it counts and whether it is the one moved to", the
-- depth for 15
pub record Part : Type 0 where
  pub full : Bool
  pub counts : Bool
  pub moved_to : Bool

-- the mean that an answer tells; 0 where it tells none
abbrev pub mean_told : Told Given → ℤ
mean_told (refused n) = pos 0
mean_told (gives accepted) = pos 0
mean_told (gives (levels count mean)) = mean
mean_told (gives wait) = pos 0
mean_told (gives stay) = pos 0
mean_told (gives (move_to c)) = pos 0

-- whether an answer says "move" to this channel
abbrev pub moves_to : Told Given → ℕ → Bool
moves_to (refused n) c = false
moves_to (gives accepted) c = false
moves_to (gives (levels count mean)) c = false
moves_to (gives wait) c = false
moves_to (gives stay) c = false
moves_to (gives (move_to d)) c = eqb d c

-- "after the last call the serving channel, the set of neighbours and, for each channel under watch, the levels .., oldest first, ..
-- and its count, mean and part in the verdict": here for each channel number, and one that is not under watch has no levels. And the depth
pub record Compared : Type 0 where
  pub depth : ℕ
  pub serving : Option ℕ
  pub neighbour : ℕ → Bool
  pub levels : ℕ → List ℤ
  pub count : ℕ → ℕ
  pub mean : ℕ → ℤ
  pub part : ℤ → ℕ → Part

-- the count that a channel's track holds; 0 where it has no track
abbrev pub count_of : ℕ → List Track → ℕ
count_of c [] = 0
count_of c (t ∷ ts) = cond (eqb t.channel c) t.count (count_of c ts)

-- of a record: its levels, its counts, and what an ask and a verdict answer; whether a channel counts shows in no answer
abbrev pub of_record : Watch → Compared
of_record w =
    record {
      depth = w.depth;
      serving = first (rows w);
      neighbour = λ c. mem c (channels (rest (rows w)));
      levels = λ c. levels_of c (rows w);
      count = λ c. count_of c (take w.watched w.tracks);
      mean = λ c. mean_told (called w (ask c)).answer;
      part =
          λ h c.
          record {
            full = full w.depth (levels_of c (rows w));
            counts = counts (view_of w) h c;
            moved_to = moves_to (called w (verdict h)).answer c;
          };
    }

-- of the plain watch: the last levels, as many as its depth or fewer, of all filed since the channel came under watch, and what the rules give of these
abbrev pub of_plain : Plain → Compared
of_plain p =
    record {
      depth = p.depth;
      serving = p.serving;
      neighbour = p.neighbour;
      levels = λ c. last_n p.depth (p.levels c);
      count = λ c. length (last_n p.depth (p.levels c));
      mean = λ c. mean (last_n p.depth (p.levels c));
      part =
          λ h c.
          record {
            full = full p.depth (last_n p.depth (p.levels c));
            counts = counts (seen p) h c;
            moved_to = is (target (seen p) h) c;
          };
    }

-- alike in all of this, the part in the verdict at each hysteresis of 0 to 6,000
pub record Alike (a b : Compared) : Type 0 where
  pub depth : a.depth ≡ b.depth
  pub serving : a.serving ≡ b.serving
  pub neighbour : (c : ℕ) → a.neighbour c ≡ b.neighbour c
  pub levels : (c : ℕ) → a.levels c ≡ b.levels c
  pub count : (c : ℕ) → a.count c ≡ b.count c
  pub mean : (c : ℕ) → a.mean c ≡ b.mean c
  pub part : (h : ℤ) → pos 0 ≤ℤ h → h ≤ℤ pos 6000 → (c : ℕ) → a.part h c ≡ b.part h c

-- ---- demand 3: the order within lists

-- the same channels in any order: each channel as often in the one list as in the other
abbrev pub Reordered : List ℕ → List ℕ → Type 0
Reordered l m = (c : ℕ) → times_in c l ≡ times_in c m

-- two calls alike except for the order within their lists: a new beam has the same serving channel in both
pub data ButForOrder : Call → Call → Type 0 where
  same : (k : Call) → ButForOrder k k
  lists : (s : ℕ) (l m : List ℕ) → Reordered l m → ButForOrder (new_beam s l) (new_beam s m)

-- two sequences, call by call
pub data AllButForOrder : List Call → List Call → Type 0 where
  end : AllButForOrder [] []
  more : {k j : Call} {ks js : List Call} → ButForOrder k j → AllButForOrder ks js → AllButForOrder (k ∷ ks) (j ∷ js)

-- one of 12 to 14, the numbers that tell a place
abbrev pub OneOfFaults : ℕ → Type 0
OneOfFaults n = (12 ≤ n) × (n ≤ 14)

-- ---- demand 3

-- "For every sequence of these calls from a fresh watch, whatever their arguments, refused ones included, every answer equals the one
-- that the plain watch of document 01 gives. .. After the sequence the two are alike"
pub record AsPlain (ks : List Call) : Type 0 where
  pub answered : answers_from fresh ks ≡ answers idle ks
  pub alike : Alike (of_record (after_from fresh ks)) (of_plain (after idle ks))

-- what two such sequences may be answered: the same, or both "one of 12 to 14", whichever of them and whatever the place
pub data ButForFault : Told Given → Told Given → Type 0 where
  same_answer : (a : Told Given) → ButForFault a a
  faults : (n m place other : ℕ) → OneOfFaults n → OneOfFaults m → ButForFault (refused (At n place)) (refused (At m other))

-- answer by answer
pub data AllButForFault : List (Told Given) → List (Told Given) → Type 0 where
  no_more : AllButForFault [] []
  and_more : {a b : Told Given} {l m : List (Told Given)} → ButForFault a b → AllButForFault l m → AllButForFault (a ∷ l) (b ∷ m)

-- "every two sequences alike except for the order within their lists get the same answers and end alike in all of this", and "may differ in
-- which of 12 to 14 a refused list gets and in the place told, and in nothing else"
pub record PlaceFree (ks js : List Call) : Type 0 where
  pub answered : AllButForFault (answers_from fresh ks) (answers_from fresh js)
  pub alike : Alike (of_record (after_from fresh ks)) (of_record (after_from fresh js))

-- demand 3 whole
pub record Demand3 : Type 0 where
  pub as_plain : (ks : List Call) → AsPlain ks
  pub place_free : (ks js : List Call) → AllButForOrder ks js → PlaceFree ks js

-- "and in nothing else": an answer that tells no place is the same in both, one that differs is 12, 13 or 14, and there are as many answers
pub record NothingElse : Type 0 where
  pub placeless : (a b : Told Given) → ButForFault a b → ((n place : ℕ) → ¬ (a ≡ refused (At n place))) → a ≡ b
  pub numbers : (n place : ℕ) (b : Told Given) → ButForFault (refused (At n place)) b → ¬ (refused (At n place) ≡ b) → (n ≡ 12) ⊎ ((n ≡ 13) ⊎ (n ≡ 14))
  pub each : (l m : List (Told Given)) → AllButForFault l m → (i : ℕ) (a b : Told Given) → get_elem? l i ≡ some a → get_elem? m i ≡ some b
      → ButForFault a b
  pub as_many : (l m : List (Told Given)) → AllButForFault l m → length l ≡ length m

-- ---- well formed

-- a call that can be made: a channel is a u16, a depth a usize, a hysteresis an i32, and each float one that an f32 holds
abbrev pub Single : Burst Float → Type 0
Single (Heard r) = T (fits binary32 r.level) × T (fits binary32 r.quality)
Single Missed = Unit {0}

abbrev pub AllChannels : List ℕ → Type 0
AllChannels [] = Unit {0}
AllChannels (c ∷ cs) = Fits w16 c × AllChannels cs

abbrev pub CanBeMade : Call → Type 0
CanBeMade (start c d) = Fits w16 c × Fits w64 d
CanBeMade (new_beam s l) = Fits w16 s × AllChannels l
CanBeMade (file c b) = Fits w16 c × Single b
CanBeMade (ask c) = Fits w16 c
CanBeMade (verdict h) = SFits w32 h

abbrev pub AllCanBeMade : List Call → Type 0
AllCanBeMade [] = Unit {0}
AllCanBeMade (k ∷ ks) = CanBeMade k × AllCanBeMade ks

-- "some sequence of these calls, from a fresh watch, leaves that record"
pub record Reachable (w : Watch) : Type 0 where
  pub calls : List Call
  pub made : AllCanBeMade calls
  pub leave : after_from fresh calls ≡ w

-- "A watch is well formed exactly when some sequence of these calls, from a fresh watch, leaves that record."
abbrev pub WellFormedIsReachable : Type 0
WellFormedIsReachable = (w : Watch) → (well_formed w ≡ true) ↔ Reachable w

-- "It follows that channels differ and are in range, counts are at most 15, levels are in range", the depth for 15: of every record that
-- calls leave. It has a channel for each row, at most 7
pub record Follows (w : Watch) : Type 0 where
  pub few : length (rows w) ≤ 7
  pub differ : (c : ℕ) → times_in c (channels (rows w)) ≤ 1
  pub in_range : (c : ℕ) → 0 < times_in c (channels (rows w)) → c ≤ 1087
  pub counts : (c : ℕ) → count_of c (take w.watched w.tracks) ≤ w.depth
  pub levels : (c : ℕ) (x : ℤ) → Memᴰ x (levels_of c (rows w)) → LevelInRange x

abbrev pub ItFollows : Type 0
ItFollows = (ks : List Call) → Follows (after_from fresh ks)

-- 9: "a record not well formed", before every other refusal: the call and the test hand the record back as it was given. On any other the
-- test is accepted, and no call is refused with 9
pub record Unformed (w : Watch) : Type 0 where
  pub calls : (k : Call) → ¬ (Reachable w) → called w k ≡ record { watch = w; answer = refused (Alone 9) }
  pub tests : ¬ (Reachable w) → tested w ≡ record { watch = w; answer = refused (Alone 9) }
  pub formed : Reachable w → tested w ≡ record { watch = w; answer = gives accepted }
  pub others : (k : Call) → Reachable w → ¬ ((called w k).answer ≡ refused (Alone 9))

abbrev pub UnformedRule : Type 0
UnformedRule = (w : Watch) → Unformed w

-- "An ask, a verdict or a refusal leaves the watch as it was.": of every record, well formed or not
pub record LeftAsItWas (w : Watch) : Type 0 where
  pub asked : (c : ℕ) → (called w (ask c)).watch ≡ w
  pub judged : (h : ℤ) → (called w (verdict h)).watch ≡ w
  pub refusing : (k : Call) (n : Reason) → (called w k).answer ≡ refused n → (called w k).watch ≡ w

abbrev pub Unchanged : Type 0
Unchanged = (w : Watch) → LeftAsItWas w

-- the list of the record, in its own order, which no answer shows: the new serving channel, then the list as it was given, of every record where
-- the call is accepted
abbrev pub ListOrder : Watch → Type 0
ListOrder w = (s : ℕ) (l : List ℕ) → (called w (new_beam s l)).answer ≡ gives accepted → channels (rows (called w (new_beam s l)).watch) ≡ s ∷ l

abbrev pub ListRule : Type 0
ListRule = (w : Watch) → ListOrder w

-- ---- the rules that record and plain watch share, in document 01's words, without the definitions of `Rules`

-- "Each call is given the watch as the one before left it": record and plain watch after one call more, and the answer that it adds
pub record InTurn (ks : List Call) (k : Call) : Type 0 where
  pub watch : after_from fresh (ks ++ k ∷ []) ≡ (called (after_from fresh ks) k).watch
  pub answered : answers_from fresh (ks ++ k ∷ []) ≡ answers_from fresh ks ++ (called (after_from fresh ks) k).answer ∷ []
  pub plain : after idle (ks ++ k ∷ []) ≡ next (after idle ks) k
  pub plain_answered : answers idle (ks ++ k ∷ []) ≡ answers idle ks ++ answer (seen (after idle ks)) k ∷ []

-- "The sequence may be empty.": then nothing is answered, and each is as it began
pub record SequenceRule : Type 0 where
  pub empty : (after_from fresh [] ≡ fresh) × (answers_from fresh [] ≡ []) × (after idle [] ≡ idle) × (answers idle [] ≡ [])
  pub in_turn : (ks : List Call) (k : Call) → InTurn ks k

-- "A call that the refusal rules below refuse, with these arguments in this state, answers that refusal and changes nothing. .. An accepted
-- call": the steps of the plain watch, whatever it holds
pub record StepsOf (p : Plain) : Type 0 where
  pub refusing : (k : Call) (n : Reason) → Refuses p k n → (answer (seen p) k ≡ refused n) × (next p k ≡ p)
  pub starts : (c d : ℕ) → Accepted p (start c d) → Started c d (next p (start c d))
  pub beams : (s : ℕ) (l : List ℕ) → Accepted p (new_beam s l) → BeamTaken p s l (next p (new_beam s l))
  pub files : (c : ℕ) (b : Burst Float) (level quality : ℤ) → Accepted p (file c b) → burst_of b ≡ gives (heard level quality) → Filed p c level (next p (file c b))
  -- "Missed: no change. Ask, verdict: no change."
  pub misses : (c : ℕ) → next p (file c Missed) ≡ p
  pub asks : (c : ℕ) → next p (ask c) ≡ p
  pub judges : (h : ℤ) → next p (verdict h) ≡ p

pub record PlainRule : Type 0 where
  pub begins : IsIdle idle
  pub steps : (p : Plain) → StepsOf p

-- a list and its end, the last n or all if fewer: as many as the lesser of n and the number of all
pub record LastOf {A : Type 0} (n : ℕ) (all last : List A) : Type 0 where
  pub older : List A
  pub joined : all ≡ older ++ last
  pub number : length last ≡ min n (length all)

-- "Those levels are the last ones, 15 at most, filed under that channel number since it last came under watch", the depth for 15: the
-- levels in the record
abbrev pub LevelsRule : Type 0
LevelsRule = (ks : List Call) (c : ℕ) → LastOf (after idle ks).depth ((after idle ks).levels c) ((of_record (after_from fresh ks)).levels c)

-- after every sequence of calls, the next is refused with a number, and at a place where one is told, exactly when the table says so
abbrev pub RefusalRule : Type 0
RefusalRule = (ks : List Call) (k : Call) (n : Reason) → ((called (after_from fresh ks) k).answer ≡ refused n) ↔ Refuses (after idle ks) k n

-- an answer of the group: "11 over 6 channels (no place)", and 12 to 14 at a place
pub data OfGroup : Told Given → Type 0 where
  eleven : OfGroup (refused (Alone 11))
  placed : (n place : ℕ) → OneOfFaults n → OfGroup (refused (At n place))

-- "E2's group judged against the new serving channel", after 2: a list gets one of 11 to 14 exactly where document 01 gave 5 with the new
-- channel serving, 11 exactly for over 6 channels, and a place exactly where it is the first faulty one of a list that is not too long. At that
-- place one number alone fits, in whichever order its faults are asked for: the serving channel is in range, and a repeat of a faulty channel is
-- told at the earlier place. The watch has no part in it, idle or not. No other call tells a place
pub record ListFaultRule : Type 0 where
  pub split : (ks : List Call) (s : ℕ) (l : List ℕ) → OfGroup (called (after_from fresh ks) (new_beam s l)).answer ↔ ((s ≤ 1087) × Faulty s l)
  pub too_long : (ks : List Call) (s : ℕ) (l : List ℕ) → ((called (after_from fresh ks) (new_beam s l)).answer ≡ refused (Alone 11))
      ↔ ((s ≤ 1087) × (6 < length l))
  pub at_place : (ks : List Call) (s : ℕ) (l : List ℕ) (n place : ℕ) → ((called (after_from fresh ks) (new_beam s l)).answer ≡ refused (At n place))
      ↔ ((s ≤ 1087) × (length l ≤ 6) × FirstFault s l place n)
  pub order_unseen : (s : ℕ) (l : List ℕ) (place n m : ℕ) → s ≤ 1087 → FirstFault s l place n → Fault s l place m → m ≡ n
  pub any_watch : (ks js : List Call) (s : ℕ) (l : List ℕ) → OfGroup (called (after_from fresh ks) (new_beam s l)).answer
      → (called (after_from fresh ks) (new_beam s l)).answer ≡ (called (after_from fresh js) (new_beam s l)).answer
  pub beams_only : (ks : List Call) (k : Call) (n place : ℕ) → (called (after_from fresh ks) k).answer ≡ refused (At n place)
      → (s : ℕ) × (l : List ℕ) × (k ≡ new_beam s l)

-- "The other calls answer that they are accepted.": where the table has no number
abbrev pub Accepts : List Call → Call → Type 0
Accepts ks k = Accepted (after idle ks) k → (called (after_from fresh ks) k).answer ≡ gives accepted

pub record AcceptedRule : Type 0 where
  pub starts : (ks : List Call) (c d : ℕ) → Accepts ks (start c d)
  pub beams : (ks : List Call) (s : ℕ) (l : List ℕ) → Accepts ks (new_beam s l)
  pub files : (ks : List Call) (c : ℕ) (b : Burst Float) → Accepts ks (file c b)

-- ---- the new beam, and the two calls of document 01 that it takes the place of

-- "New list: replaces the neighbours. A channel watched before and after keeps its levels, whichever place it moves to. A dropped one loses
-- them. A new one has none."
pub record NeighboursReplaced (p : Plain) (l : List ℕ) (q : Plain) : Type 0 where
  pub depth : q.depth ≡ p.depth
  pub serving : q.serving ≡ p.serving
  pub serving_keeps : (s : ℕ) → p.serving ≡ some s → q.levels s ≡ p.levels s
  pub neighbours : (c : ℕ) → (q.neighbour c ≡ true) ↔ (0 < times_in c l)
  pub kept : (c : ℕ) → p.neighbour c ≡ true → 0 < times_in c l → q.levels c ≡ p.levels c
  pub dropped : (c : ℕ) → p.neighbour c ≡ true → times_in c l ≡ 0 → q.levels c ≡ []
  pub new : (c : ℕ) → p.neighbour c ≡ false → 0 < times_in c l → q.levels c ≡ []

-- "Move: the neighbour and the serving channel change roles. All levels stay."
pub record RolesChanged (p : Plain) (c : ℕ) (q : Plain) : Type 0 where
  pub depth : q.depth ≡ p.depth
  pub serving : q.serving ≡ some c
  pub neighbours : (d : ℕ) → (q.neighbour d ≡ true) ↔ ((p.serving ≡ some d) ⊎ ((p.neighbour d ≡ true) × (¬ (d ≡ c))))
  pub levels : (d : ℕ) → q.levels d ≡ p.levels d

-- a move by the new call: it is always accepted, and the two change roles
pub record MoveTaken (ks : List Call) (c : ℕ) (l : List ℕ) : Type 0 where
  pub answered : (called (after_from fresh ks) (new_beam c l)).answer ≡ gives accepted
  pub roles : RolesChanged (after idle ks) c (after idle (ks ++ new_beam c l ∷ []))

-- after every sequence of calls. "The serving channel may be the old one, a neighbour or a stranger": the call is accepted where it is in range,
-- the list has no fault and the watch is not idle, and nothing else is asked. With the serving channel as it was, an accepted call is what the
-- new list was. With a neighbour, and in its place in the list "the old serving channel", it is what the move was. Where no channel is dropped, all
-- levels stay, whatever the roles. With the serving channel and the set of neighbours as they were, accepted or not, it changes nothing that is
-- compared
pub record BeamRule : Type 0 where
  pub answered : (ks : List Call) (s : ℕ) (l : List ℕ) → ((called (after_from fresh ks) (new_beam s l)).answer ≡ gives accepted)
      ↔ ((s ≤ 1087) × (¬ (Faulty s l)) × (¬ ((after idle ks).serving ≡ none)))
  pub as_list : (ks : List Call) (s : ℕ) (l : List ℕ) → (after idle ks).serving ≡ some s
      → (called (after_from fresh ks) (new_beam s l)).answer ≡ gives accepted
      → NeighboursReplaced (after idle ks) l (after idle (ks ++ new_beam s l ∷ []))
  pub as_move : (ks : List Call) (s c : ℕ) (l m : List ℕ) → channels (rows (after_from fresh ks)) ≡ s ∷ (l ++ c ∷ m) → MoveTaken ks c (l ++ s ∷ m)
  pub all_stay : (ks : List Call) (s : ℕ) (l : List ℕ) → (called (after_from fresh ks) (new_beam s l)).answer ≡ gives accepted
      → ((c : ℕ) → Watched (after idle ks) c → 0 < times_in c (s ∷ l)) → (c : ℕ) → (after idle (ks ++ new_beam s l ∷ [])).levels c ≡ (after idle ks).levels c
  pub again : (ks : List Call) (s : ℕ) (l : List ℕ) → (after idle ks).serving ≡ some s
      → ((c : ℕ) → ((after idle ks).neighbour c ≡ true) ↔ (0 < times_in c l))
      → Alike (of_record (called (after_from fresh ks) (new_beam s l)).watch) (of_record (after_from fresh ks))

-- "the largest whole number not above sum / count; 0 for a count of 0"
pub record IsMean (l : List ℤ) (m : ℤ) : Type 0 where
  pub none : length l ≡ 0 → m ≡ pos 0
  pub not_above : (m *ℤ pos (length l)) ≤ℤ sum l
  pub largest : (k : ℤ) → 0 < length l → (k *ℤ pos (length l)) ≤ℤ sum l → k ≤ℤ m

-- "Ask (channel): count and mean": after every sequence of calls, of a channel under watch, over its levels in the record
pub record Asked (l : List ℤ) (a : Told Given) : Type 0 where
  pub mean : ℤ
  pub is_mean : IsMean l mean
  pub answered : a ≡ gives (levels (length l) mean)

abbrev pub AskRule : Type 0
AskRule =
    (ks : List Call) (c : ℕ) → Watched (after idle ks) c
    → Asked ((of_record (after_from fresh ks)).levels c) (called (after_from fresh ks) (ask c)).answer

-- of what a record shows at depth n, where s serves: "the neighbours that count are those with 15 levels whose sum exceeds the serving sum
-- by more than 15 times the hysteresis", the depth for 15, once the serving channel has as many levels itself
pub record Counts (n : ℕ) (v : Compared) (s : ℕ) (h : ℤ) (c : ℕ) : Type 0 where
  pub serving : n ≤ length (v.levels s)
  pub neighbour : v.neighbour c ≡ true
  pub full : n ≤ length (v.levels c)
  pub exceeds : (sum (v.levels s) +ℤ pos n *ℤ h) <ℤ sum (v.levels c)

-- "the one with the greatest sum, the lowest channel number among equals"
pub record Strongest (n : ℕ) (v : Compared) (s : ℕ) (h : ℤ) (c : ℕ) : Type 0 where
  pub counting : Counts n v s h c
  pub greatest : (d : ℕ) → Counts n v s h d → sum (v.levels d) ≤ℤ sum (v.levels c)
  pub lowest : (d : ℕ) → Counts n v s h d → sum (v.levels d) ≡ sum (v.levels c) → c ≤ d

-- `"wait" while the serving channel has fewer than 15 levels. Otherwise .. None: "stay". Else "move" to the one with the greatest sum`, the
-- depth for 15: each of the three exactly then
pub record Judged (n : ℕ) (v : Compared) (s : ℕ) (h : ℤ) (a : Told Given) : Type 0 where
  pub waits : (a ≡ gives wait) ↔ (length (v.levels s) < n)
  pub stays : (a ≡ gives stay) ↔ ((n ≤ length (v.levels s)) × ((c : ℕ) → ¬ (Counts n v s h c)))
  pub moves : (c : ℕ) → (a ≡ gives (move_to c)) ↔ Strongest n v s h c

-- after every sequence of calls, at each hysteresis of 0 to 6,000, where a channel serves: what the call answers, by the depth of the plain
-- watch
abbrev pub VerdictRule : Type 0
VerdictRule =
    (ks : List Call) (s : ℕ) (h : ℤ) → (after idle ks).serving ≡ some s → pos 0 ≤ℤ h → h ≤ℤ pos 6000
    → Judged (after idle ks).depth (of_record (after_from fresh ks)) s h (called (after_from fresh ks) (verdict h)).answer

-- a channel's part in the verdict by the same words; while the serving channel has fewer levels than the depth, nothing counts and nothing
-- is moved to
pub record TakesPart (n : ℕ) (v : Compared) (s : ℕ) (h : ℤ) (c : ℕ) : Type 0 where
  pub full : ((v.part h c).full ≡ true) ↔ (n ≤ length (v.levels c))
  pub counts : ((v.part h c).counts ≡ true) ↔ Counts n v s h c
  pub moved_to : ((v.part h c).moved_to ≡ true) ↔ Strongest n v s h c
  pub waiting : length (v.levels s) < n → ((v.part h c).counts ≡ false) × ((v.part h c).moved_to ≡ false)

abbrev pub PartRule : Type 0
PartRule =
    (ks : List Call) (s : ℕ) (h : ℤ) → (after idle ks).serving ≡ some s → pos 0 ≤ℤ h → h ≤ℤ pos 6000
    → (c : ℕ) → TakesPart (after idle ks).depth (of_record (after_from fresh ks)) s h c

-- "The depth, 5 to 31, is given at the start of a watch and stays for its life.": of the record, after every sequence of calls. An accepted
-- start gives it, and no other call changes it; from the first accepted start on it is 5 to 31, whatever follows; before that the record is
-- the fresh one, and its depth is 0
pub record DepthRule : Type 0 where
  pub given : (ks : List Call) (c d : ℕ) → Accepted (after idle ks) (start c d) → (called (after_from fresh ks) (start c d)).watch.depth ≡ d
  pub stays : (ks : List Call) (k : Call) → ((c d : ℕ) → ¬ (k ≡ start c d)) → (called (after_from fresh ks) k).watch.depth ≡ (after_from fresh ks).depth
  pub ever : (ks js : List Call) (s : ℕ) → (after idle ks).serving ≡ some s
      → (5 ≤ (after_from fresh (ks ++ js)).depth) × ((after_from fresh (ks ++ js)).depth ≤ 31)
  pub before : (ks : List Call) → (after idle ks).serving ≡ none → after_from fresh ks ≡ fresh
  pub begins : fresh.depth ≡ 0

-- the words for lists in which the plain watch, the record's tests and these claims are written: how often a channel is in a list, the sum
-- of a list, and the others by the first
pub record WordsRule : Type 0 where
  pub times_one : (c : ℕ) → times_in c (c ∷ []) ≡ 1
  pub times_other : (c d : ℕ) → ¬ (d ≡ c) → times_in c (d ∷ []) ≡ 0
  pub times_joined : (c : ℕ) (l m : List ℕ) → times_in c (l ++ m) ≡ times_in c l + times_in c m
  pub sum_one : (x : ℤ) → sum (x ∷ []) ≡ x
  pub sum_joined : (l m : List ℤ) → sum (l ++ m) ≡ sum l +ℤ sum m
  pub among : (c : ℕ) (l : List ℕ) → (mem c l ≡ true) ↔ (0 < times_in c l)
  pub apart : (l : List ℕ) → (distinct l ≡ true) ↔ ((c : ℕ) → times_in c l ≤ 1)
  pub all : (test : ℕ → Bool) (l : List ℕ) → (every test l ≡ true) ↔ ((c : ℕ) → 0 < times_in c l → test c ≡ true)
  pub same : (o : Option ℕ) (c : ℕ) → (is o c ≡ true) ↔ (o ≡ some c)

-- ---- answers

-- an answer tells what its name says, and a refusal its number and place
pub record AnswersTold : Type 0 where
  pub accepts : told_answer (Ok says.Accepted) ≡ gives accepted
  pub asked : (count : ℕ) (mean : ℤ) → told_answer (Ok (says.Levels count mean)) ≡ gives (levels count mean)
  pub waits : told_answer (Ok says.Wait) ≡ gives wait
  pub stays : told_answer (Ok says.Stay) ≡ gives stay
  pub moves : (c : ℕ) → told_answer (Ok (says.MoveTo c)) ≡ gives (move_to c)
  pub reason : (why : Refusal) → told_answer (Err why) ≡ refused (reason_of why)

-- what is told of an answer fixes its case and values, and so does what is told of what a call hands back
pub record AnswersDiffer : Type 0 where
  pub answer : OneToOne told_answer
  pub handed : OneToOne told_handed
