-- `pieces::feed` meets its contract: a settled answer, and 44, stay; of a piece's answer enough is remembered. Assumes nothing.
use Rattle.pieces.specs.Feed.{fed, store_after}
use Rattle.pieces.proofs.Answers.{remembered}
use Rattle.pieces.proofs.feed.Goals as goal

pub returns-in-More : goal.returns-in-More
unfolding fed store_after
returns-in-More c =
    let a = c.args in
    let e = c.in-More.is in
    let taken = c.receive.ensures in
    record {
      answers = rw (e, c.into.ensures) (remembered a.store.now a.piece.now _ _ taken.leaves c.receive.result taken.answers);
      leaves = rw e taken.leaves;
    }

pub returns-in-Settled : goal.returns-in-Settled
unfolding fed store_after
returns-in-Settled c = let e = c.in-Settled.is in record { answers = rw e; leaves = rw e }

pub returns-in-Full : goal.returns-in-Full
unfolding fed store_after
returns-in-Full c = let e = c.in-Full.is in record { answers = rw e; leaves = rw e }
