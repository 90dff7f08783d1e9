use Rattle.listing_text.proofs.Putting.{Spelling}
use Rattle.listing_text.proofs.text.put_decimal.Given as goal

abbrev pub invariant-loop-rest : goal.invariant-loop-rest
invariant-loop-rest l = Spelling l.initial.text l.at l.n l.text l.rest l.to

abbrev pub decreases-loop-rest : goal.decreases-loop-rest
decreases-loop-rest l = l.rest
