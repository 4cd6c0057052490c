-- `writing::write_steps` meets its contract: the loop keeps that what is left makes the same of both buffers as the whole. Assumes nothing.
use Rattle.rules.proofs.Prelude.{◌-◌, length, arith}
use Rattle.writing.proofs.Writes.{Written, write_start, write_due, write_turn, write_end}
use Rattle.writing.proofs.write_steps.Statement.{statement}
use Rattle.writing.proofs.write_steps.Tie as tie

abbrev invariant_loop : tie.invariant-loop-at
invariant_loop path names₀ words₀ at₀ used₀ row₀ names words at used row = Written path names₀ words₀ at used row names words

abbrev decreases_loop : tie.decreases-loop-at
decreases_loop path names₀ words₀ at₀ used₀ row₀ names words at used row = length path - at

pub write_steps_spec : {M : Type 1} → statement M
write_steps_spec =
    tie.close
    (tie.spec
    invariant_loop
    decreases_loop
    (λ c. write_start c.requires)  -- loop-holds
    (λ c κs. (omega arith, write_due c.loop-at.invariant (omega arith)))  -- write-step-requires
    (λ c. let w = c in
    let t = write_turn w.loop-at.invariant (omega arith) w.write_step-extent.ensures in
    omega (arith, t.names_room, t.same_names))  -- add-used
    (λ c. let w = c in
    let t = write_turn w.loop-at.invariant (omega arith) w.write_step-extent.ensures in
    omega (arith, t.words_room, t.same_words))  -- add-row
    (λ c. omega (arith, c.write_step-extent.ensures.inside))  -- add-at
    (λ c. omega (arith, c.write_step-extent.ensures.inside))  -- add-at-2
    (λ c. omega (arith, c.write_step-extent.ensures.inside))  -- loop-less
    (λ c. let w = c in write_turn w.loop-at.invariant (omega arith) w.write_step-extent.ensures)  -- loop-again
    (λ c. c.loop-at.invariant.same_names)  -- same-length
    (λ c. c.loop-at.invariant.same_words)  -- same-length-2
    (λ c. write_end c.loop-at.invariant (omega arith)))  -- returns
