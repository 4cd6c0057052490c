-- What the code's own answers say: each case of what a call returns, exactly when, in the words of Meaning.antt of `layer`. An answer that meets
-- the call's promise is meant. Assumes nothing.
use Rattle.rules.proofs.Prelude.{◌↔◌, List, ℕ, swap, meant_stop}
use Rattle.std.specs.Prelude.{Ok, Err}
use Rattle.layer.specs.declared.Refusal.{Refusal}
use Rattle.layer.specs.Answers.{refusal_number, refusal_place}
use Rattle.layer.specs.Meaning.{Layer, Refusal as Due}
use Rattle.object.specs.declared.Message.{Message}
use Rattle.object.specs.Promises.{CheckPromise}
use Rattle.object.specs.Steps.{OpeningOf}
use Rattle.object.proofs.Means.{good, checks_mean}
use Rattle.object.proofs.Accepts.{accepts}
use Rattle.object.proofs.Refuses.{is_due, refuses}

module _ (d o : List ℕ) where
  -- `check`
  pub check_accepted : (n v e : ℕ) → CheckPromise d o (Ok (record { count = n; start = v; end = e })) ↔ Layer d o n v e
  check_accepted n v e = swap (accepts d o n v e)

  pub check_refused : (r : Refusal) → CheckPromise d o (Err r) ↔ Due d o (refusal_number r) (refusal_place r)
  check_refused r = swap (refuses d o (refusal_number r) (refusal_place r))

  -- `open`
  pub open_open : (m : Message) → OpeningOf d o (Ok m) → Layer d o m.layer.count m.layer.start m.layer.end
  open_open m p = let l = p.layered in rw (l.count_is, l.start_is, l.end_is) (good d o p.passes)

  pub open_refused : (r : Refusal) → OpeningOf d o (Err r) ↔ Due d o (refusal_number r) (refusal_place r)
  open_refused r = (meant_stop (checks_mean d o), is_due d o)
