-- What a program has after a piece: the strip's words and the store, whether the strip is settled or not. Assumes nothing.
use Rattle.rules.proofs.Prelude.{◌≡◌, refl, ap, Bool, true, false, cond, List, ℕ, ◌≤◌, ◌<◌, length, get_or}
use borrow.Author.Tests.{eqb-true, eqb-false}
use Rattle.pieces.specs.declared.State.TheVariants.{More}
use Rattle.pieces.specs.Feed.{store_after}
use Rattle.strip.specs.Shapes.{strip_bytes}
use Rattle.lichenhusk.specs.Strip.{code_in, wants_more, held_in, feed_words}
use Rattle.lichenhusk.specs.Promises.{FeedPromise}
use Rattle.strip.specs.Reading.{words_in}
use Rattle.host.proofs.Pieces.{feed_settled, feed_reads, feed_stores}
use Rattle.ask_pieces.specs.Fed.{words_after, store_left}

module _ (store piece strip : List ℕ) (enough : strip_bytes ≤ length strip) {code : ℕ} {after left : List ℕ} (promised : FeedPromise store piece strip code after left) where
  pub words_are : get_or store 0 0 < 256 → get_or piece 0 0 < 256 → words_in after ≡ words_after store piece strip
  words_are p q = go (wants_more strip) refl
    where
      go : (b : Bool) → wants_more strip ≡ b → words_in after ≡ cond b (feed_words store piece strip) (words_in strip)
      go true e = feed_reads store piece strip code after left promised enough (eqb-true (code_in strip) 3 e) p q
      go false e = ap words_in (feed_settled store piece strip code after left promised enough (eqb-false (code_in strip) 3 e)).1

  pub store_is : left ≡ store_left store piece strip
  store_is = go (wants_more strip) refl
    where
      go : (b : Bool) → wants_more strip ≡ b → left ≡ cond b (store_after store piece (More (held_in strip))) store
      go true e = feed_stores store piece strip code after left promised enough (eqb-true (code_in strip) 3 e)
      go false e = (feed_settled store piece strip code after left promised enough (eqb-false (code_in strip) 3 e)).2
