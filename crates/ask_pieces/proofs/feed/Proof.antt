-- `ask_pieces::feed` meets its contract: the strip carries the state after the piece whole, and the store is as the call leaves it. Assumes nothing.
use mathlib.Core.Path.{◌∙◌}
use native.Mathlib.Omega.{arith}
use borrow.Author.Rules.{rules}
use Rattle.ask_pieces.proofs.Laws.{words_are, store_is}
use Rattle.ask_pieces.proofs.feed.Statement.{statement}
use Rattle.ask_pieces.proofs.feed.Tie as tie

pub feed_spec : {M : Type 1} → statement M
feed_spec =
    tie.close
    (tie.spec
    (λ c κs. search rules) (λ c κs. search rules) (λ c. search rules)
    (λ c. let call = c in
    let a = call.args in
    let told = call.lichenhusk_feed.ensures in
    let store = call.slice_known-1.given 0 in
    let piece = call.shared_slice_known-1.given 0 in
    let six = words_are a.store.now a.piece.now a.strip.now (omega arith) told (omega (arith, store)) (omega (arith, piece)) in (
      (c.read.ensures ∙ six, c.read.ensures),
      store_is a.store.now a.piece.now a.strip.now (omega arith) told,
    )))  -- returns
