-- What is left of the words are channels, and not more than are left.
use Rattle.std.proofs.Common.{◌≡◌, ℕ, ◌-◌, List}
use Rattle.session_calls.specs.Grammar.{channels_up_to}
use Rattle.session_calls.specs.Code.{WordsOf}
use Rattle.session_calls.proofs.are_channels.Given as goal

abbrev pub invariant-loop : goal.invariant-loop
invariant-loop g l =
    (ws : List (List ℕ)) → WordsOf g.W.Iterator.next_gives l.initial.words ws
    → (vs : List (List ℕ)) × WordsOf g.W.Iterator.next_gives l.words vs × (channels_up_to 8 ws ≡ channels_up_to (8 - l.counter) vs)
