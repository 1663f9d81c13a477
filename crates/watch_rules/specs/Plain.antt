-- Document 01, section The plain watch, with the new beam of document 02. It is fed the calls alone; it sees no answer and no record. Of a list it
-- takes the set; only the rule that refuses a list looks at places.
use Rattle.std.specs.Prelude.{ℕ, Bool, false, cond, ◌&&◌, ◌||◌, List, [], ◌∷◌, ◌++◌, eqb, ℤ}
use Rattle.std.proofs.Math.Option.{Option, none, some}
use Rattle.refusal.specs.Told.{Told, refused, gives, unless_refused}
use Rattle.readings_rules.specs.Burst.{BurstResult, heard, missed, burst_of}
use Rattle.watch_rules.specs.Lists.{mem, is, last_n}
use Rattle.watch_rules.specs.Told.{Call, start, new_beam, file, ask, verdict, Given}
use Rattle.watch_rules.specs.Rules.{View, allowed, answer}

-- "It holds a serving channel or none, a set of neighbours and, for each of these channels (the ones under watch), all levels filed
-- since it came under watch, oldest first.", and the depth given at its last accepted start
pub record Plain : Type 0 where
  pub depth : ℕ
  pub serving : Option ℕ
  pub neighbour : ℕ → Bool
  pub levels : ℕ → List ℤ

-- "It begins idle.": nothing was started yet, and the depth is 0
abbrev pub idle : Plain
idle = record { depth = 0; serving = none; neighbour = λ c. false; levels = λ c. [] }

-- the serving channel and the neighbours are the ones under watch
abbrev pub under_watch : Plain → ℕ → Bool
under_watch p c = is p.serving c || p.neighbour c

-- "The rules above give the answer, over each channel's last 15 levels, or all if fewer.", the depth for 15
abbrev pub seen : Plain → View
seen p = record { depth = p.depth; serving = p.serving; neighbour = p.neighbour; levels = λ c. last_n p.depth (p.levels c) }

-- "Start: that channel serves, under watch from now, without levels. Nothing else is under watch." "The depth .. is
-- given at the start of a watch and stays for its life."
abbrev pub after_start : ℕ → ℕ → Plain
after_start c d = record { depth = d; serving = some c; neighbour = λ e. false; levels = λ e. [] }

-- ".. one call with a new serving channel and a list. Each channel watched before and after keeps its levels, in whichever role; the rest is as
-- document 01 says for a new list": "the neighbours are the set of its channels. .. any other comes under watch now, without levels. A dropped
-- one's are gone." A channel is under watch afterwards where it is the new serving channel or in the list
abbrev pub after_new_beam : Plain → ℕ → List ℕ → Plain
after_new_beam p s l =
    record {
      depth = p.depth;
      serving = some s;
      neighbour = λ c. mem c l;
      levels = λ c. cond (under_watch p c && (eqb s c || mem c l)) (p.levels c) [];
    }

-- "File: a heard level's hundredths go to the end of that channel's levels. Missed: no change." (A burst whose floats are out of range is
-- refused before this.)
abbrev pub after_file : Plain → ℕ → Told BurstResult → Plain
after_file p c (gives (heard level quality)) =
    record {
      depth = p.depth;
      serving = p.serving;
      neighbour = p.neighbour;
      levels = λ d. cond (eqb c d) (p.levels d ++ level ∷ []) (p.levels d);
    }
after_file p c (gives missed) = p
after_file p c (refused n) = p

-- an accepted call. "Ask, verdict: no change."
abbrev pub change : Plain → Call → Plain
change p (start c d) = after_start c d
change p (new_beam s l) = after_new_beam p s l
change p (file c b) = after_file p c (burst_of b)
change p (ask c) = p
change p (verdict h) = p

-- "A call that the refusal rules below refuse, with these arguments in this state, answers that refusal and changes nothing."
abbrev pub next : Plain → Call → Plain
next p k = unless_refused (allowed (seen p) k) p (change p k)

-- the answers to a sequence of calls, and the plain watch after the last of them
abbrev pub answers : Plain → List Call → List (Told Given)
answers p [] = []
answers p (k ∷ ks) = answer (seen p) k ∷ answers (next p k) ks

abbrev pub after : Plain → List Call → Plain
after p [] = p
after p (k ∷ ks) = after (next p k) ks
