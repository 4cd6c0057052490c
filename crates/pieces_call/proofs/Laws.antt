-- What feeding a piece through a strip leaves: with 40, and where the strip is settled, all as it was; else the words of the state after the
-- piece. Assumes nothing.
use Rattle.rules.proofs.Prelude.{◌≡◌, refl, Bool, true, false, cond, List, ℕ, ◌≤◌, ◌<◌, eq-eqb, ne_eqb, lt-ltb, le-ltb, length}
use Rattle.strip.specs.Shapes.{strip_bytes}
use Rattle.strip.specs.Strip.{returned}
use Rattle.strip.specs.Promises.{Left}
use Rattle.strip.proofs.Laws.{no_strip, not_filled, is_filled}
use Rattle.pieces.specs.declared.State.TheVariants.{More}
use Rattle.pieces.specs.Feed.{store_after}
use Rattle.pieces_call.specs.Promises.{code_in, wants_more, held_in, feed_words, FeedPromise}

-- a choice between two that are the same
alike : (b : Bool) {x y : List ℕ} → y ≡ x → y ≡ cond b x y
alike true e = e
alike false e = refl

module _ (store piece strip : List ℕ) where
  pub too_short : length strip < strip_bytes → FeedPromise store piece strip 40 strip store
  unfolding returned
  too_short h =
      record {
        returns = rw (lt-ltb _ _ h);
        leaves = alike (wants_more strip) (no_strip strip (feed_words store piece strip) h).leaves;
        stores = alike (wants_more strip) (not_filled strip store (store_after store piece (More (held_in strip))) h);
      }

  module _ (h : strip_bytes ≤ length strip) where
    pub settled : (code_in strip ≡ 3 → ⊥) → FeedPromise store piece strip (code_in strip) strip store
    unfolding returned
    settled n =
        let e = ne_eqb (code_in strip) 3 n in
        record { returns = rw (e, le-ltb _ _ h); leaves = rw e; stores = rw e }

    pub fed : code_in strip ≡ 3 → {code : ℕ} {after left : List ℕ} → Left strip (feed_words store piece strip) code after
        → left ≡ store_after store piece (More (held_in strip)) → FeedPromise store piece strip code after left
    fed m l s =
        let e = eq-eqb (code_in strip) 3 m in
        record { returns = rw e l.returns; leaves = rw e l.leaves; stores = rw e (is_filled strip store _ h s) }
