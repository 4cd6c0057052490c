-- The strip carries the answer whole (strip/proofs/Carries.antt), and the code that is returned is the first word; with 40 the strip was short.
-- Assumes nothing.
use Rattle.rules.proofs.Prelude.{◌≡◌, sym, ap, ◌∙◌, List, ℕ, ◌≤◌, ◌<◌, dec_lt, arith, lt-ltb, le-ltb, length, get_or, Answer}
use Rattle.strip.specs.Shapes.{Shape, words_of, strip_bytes}
use Rattle.lichenhusk.specs.Strip.{returned}
use Rattle.lichenhusk.specs.Promises.{Left}
use Rattle.host.specs.Host.{Tells}
pub use Rattle.strip.proofs.Carries.{Fits, first_is, carried}

-- WHAT A HOST READS

-- words that fit, and that say what is so
abbrev pub Said : (List ℕ → Type 0) → List ℕ → Type 0
Said Says words = Fits words × (get_or words 0 0 ≡ 40 → ⊥) × Says words

module _ (Says : List ℕ → Type 0) (shape : Shape) (x : Answer) (strip : List ℕ) (code : ℕ) (after : List ℕ) (left : Left strip (words_of shape x) code after) where
  -- where the strip is short, and where it is not
  short : length strip < strip_bytes → Tells Says strip code after
  unfolding returned
  short h =
      let c : code ≡ 40 = left.returns ∙ rw (lt-ltb (length strip) strip_bytes h) in
      record { no_strip = (λ _. h, λ _. c); says = λ m. absurd (m c) }

  written : strip_bytes ≤ length strip → Said Says (words_of shape x) → Tells Says strip code after
  unfolding returned
  written h (fits, m, is) =
      let c : code ≡ get_or (words_of shape x) 0 0 = left.returns ∙ rw (le-ltb (length strip) strip_bytes h) in
      let back = carried shape x left h fits in
      record { no_strip = (λ w. absurd (m (sym c ∙ w)), λ w. absurd (omega arith)); says = λ _. (ap (λ l. get_or l 0 0) back ∙ sym c, rw back is) }

  pub tells : Said Says (words_of shape x) → Tells Says strip code after
  tells is = go (dec_lt (length strip) strip_bytes)
    where
      go : Dec (length strip < strip_bytes) → Tells Says strip code after
      go (yes h) = short h
      go (no h) = written (omega arith) is
