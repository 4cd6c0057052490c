-- What the measuring of all children answers, in the words of Words.antt. Assumes nothing.
use Rattle.std.specs.Prelude.{Result, Ok, Err, ⊤}
use Rattle.rules.specs.Rules.{Found}
use Rattle.rules.specs.Rules.Found.{pass, stop}
use Rattle.listing.specs.declared.Refusal.{Refusal}
use Rattle.listing.specs.Answers.{refusal_number, refusal_place}

abbrev pub stop_of : Refusal → Found
stop_of r = stop (refusal_number r) (refusal_place r)

abbrev pub found_of : Result ⊤ Refusal → Found
found_of (Err r) = stop_of r
found_of (Ok _) = pass
