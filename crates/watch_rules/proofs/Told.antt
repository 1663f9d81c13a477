-- What is told of an answer is what its name says, and fixes it: there is a way back.
use Rattle.std.proofs.Common.{◌≡◌, refl}
use Rattle.refusal.specs.declared.Handed.{Handed}
use Rattle.refusal.proofs.OneToOne.{by_way_back, told_as_differs, answer_of, answer_back}
use Rattle.watch_rules.specs.declared.Watch.{Watch}
use Rattle.watch_rules.specs.declared.Answer.{Answer}
use Rattle.watch_rules.specs.declared.Answer.TheVariants.{Accepted, Levels, Wait, Stay, MoveTo}
use Rattle.watch_rules.specs.Told.{Given, accepted, levels, wait, stay, move_to, given_of, Called, told_handed}
use Rattle.watch_rules.specs.Claims.{AnswersTold, AnswersDiffer}

pub answers_told : AnswersTold
answers_told =
    record { accepts = refl; asked = λ count mean. refl; waits = refl; stays = refl; moves = λ c. refl; reason = λ why. refl }

from_given : Given → Answer
from_given accepted = Accepted
from_given (levels n m) = Levels n m
from_given wait = Wait
from_given stay = Stay
from_given (move_to c) = MoveTo c

given_back : (a : Answer) → from_given (given_of a) ≡ a
unfolding from_given
given_back Accepted = refl
given_back (Levels n m) = refl
given_back Wait = refl
given_back Stay = refl
given_back (MoveTo c) = refl

handed_of : Called → Handed Watch Answer
handed_of c = record { state = c.watch; answer = answer_of from_given c.answer }

handed_back : (h : Handed Watch Answer) → handed_of (told_handed h) ≡ h
unfolding handed_of
handed_back h = λ i. record { state = h.state; answer = answer_back given_of from_given given_back h.answer i }

pub answers_differ : AnswersDiffer
answers_differ =
    record {
      answer = told_as_differs given_of from_given given_back;
      handed = by_way_back told_handed handed_of handed_back;
    }
