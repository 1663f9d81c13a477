-- The words have the row where what is left of them has what is left of the row.
use Rattle.std.proofs.Common.{◌≡◌, ℕ, List}
use Rattle.std.specs.Iterator.{IsFinite}
use Rattle.session_calls.specs.Grammar.{fits}
use Rattle.session_calls.specs.Code.{WordsOf}
use Rattle.session_calls.proofs.fits_words.Given as goal

abbrev pub invariant-loop-asked : goal.invariant-loop-asked
invariant-loop-asked g l =
    g.W.Iterator.can_next l.line
    × IsFinite (g.W.Iterator.remaining l.line)
    × ((rs ws : List (List ℕ)) → WordsOf g.R.Iterator.next_gives l.initial.asked-iterator rs → WordsOf g.W.Iterator.next_gives l.initial.line ws
    → (us vs : List (List ℕ)) × WordsOf g.R.Iterator.next_gives l.asked-iterator us × WordsOf g.W.Iterator.next_gives l.line vs × (fits rs ws ≡ fits us vs))
