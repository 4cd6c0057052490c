-- `pieces_call::feed` meets its contract: 40; a settled strip stays; else the words of the state after the piece, and the store. Assumes nothing.
use Rattle.rules.proofs.Prelude.{ap, ◌∙◌, arith, rules}
use Rattle.strip.specs.Shapes.{words_of, dictionary_shape}
use Rattle.strip.proofs.Laws.{on_strip}
use Rattle.pieces_call.proofs.Laws.{too_short, settled, fed}
use Rattle.pieces_call.proofs.feed.Statement.{statement}
use Rattle.pieces_call.proofs.feed.Tie as tie

pub feed_spec : {M : Type 1} → statement M
feed_spec =
    tie.close
    (tie.spec
    (λ c. too_short _ _ _ (omega arith))  -- returns
    (λ c κs. search rules) (λ c. search rules) (λ c. search rules)
    (λ c. let a = c.args in
    let is = c.unpack_u32-code.ensures.is in
    rw is (settled a.store.now a.piece.now a.strip.now (omega arith) (λ e. omega (arith, is, e))))  -- returns-2
    (λ c κs. search rules) (λ c κs. search rules) (λ c κs. search rules) (λ c κs. search rules)
    (λ c. search rules) (λ c. search rules)
    (λ c. let call = c in
    let read = call in
    let a = read.args in
    let held = call.unpack_u32-held.ensures.is in
    let taken = call.receive.ensures in
    fed a.store.now a.piece.now a.strip.now (omega arith) (omega (arith, read.unpack_u32-code.ensures.is))
    (on_strip _ _ (omega arith) (c.of_fed-words.ensures ∙ rw held at (ap (words_of dictionary_shape) taken.answers)) c.write.ensures)
    (rw held at taken.leaves)))  -- returns-3
