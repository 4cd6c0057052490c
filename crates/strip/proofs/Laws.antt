-- What a call leaves: with 40 the strip and all that was lent as they were, otherwise the six words, and what it fills. Assumes nothing.
use Rattle.rules.proofs.Prelude.{◌≡◌, List, ℕ, ◌≤◌, ◌<◌, lt-ltb, le-ltb, length}
use Rattle.strip.specs.declared.Words.{Words}
use Rattle.strip.specs.Shapes.{strip_bytes}
use Rattle.strip.specs.Steps.{list_of, Wrote}
use Rattle.strip.specs.Strip.{returned, strip_after, filled_after}
use Rattle.strip.specs.Promises.{Left}

module _ (strip words : List ℕ) where
  pub no_strip : length strip < strip_bytes → Left strip words 40 strip
  unfolding returned strip_after
  no_strip h = record { returns = rw (lt-ltb _ _ h); leaves = rw (lt-ltb _ _ h) }

  pub on_strip : strip_bytes ≤ length strip → {w : Words} {code : ℕ} {after : List ℕ} → list_of w ≡ words → Wrote w strip code after → Left strip words code after
  unfolding returned strip_after
  on_strip h e wrote = record { returns = rw (le-ltb _ _ h, ← e) wrote.returns; leaves = rw (le-ltb _ _ h, ← e) wrote.leaves }

module _ (strip lent filled : List ℕ) where
  pub not_filled : length strip < strip_bytes → lent ≡ filled_after strip lent filled
  unfolding filled_after
  not_filled h = rw (lt-ltb _ _ h)

  pub is_filled : strip_bytes ≤ length strip → {after : List ℕ} → after ≡ filled → after ≡ filled_after strip lent filled
  unfolding filled_after
  is_filled h e = rw (le-ltb _ _ h) e
