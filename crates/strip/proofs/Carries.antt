-- The strip carries an answer whole: words that fit 32 bits are read back as they are. Assumes nothing.
use Rattle.rules.proofs.Prelude.{◌≡◌, refl, List, [], ◌∷◌, ◌++◌, append_assoc, ℕ, zero, suc, ◌+◌, ◌*◌, ◌≤◌, ◌<◌, arith, le-ltb, length}
use Rattle.rules.proofs.Prelude.{drop, get_or, drop-append-add, Answer, code_of, gives}
use Rattle.width.specs.Width.{bytes_of}
use Rattle.width.proofs.Laws.{bytes_length, le_bytes}
use Rattle.strip.specs.Shapes.{Shape, words_of, bytes_of_words, strip_bytes}
use Rattle.strip.specs.Strip.{strip_after}
use Rattle.strip.specs.Promises.{Left}
use Rattle.strip.specs.Reading.{word, words_in}

-- each word fits 32 bits
abbrev pub Fits : List ℕ → Type 0
Fits [] = Unit {0}
Fits (n ∷ words) = (n < 4294967296) × Fits words

words_back_law : (words rest : List ℕ) → Fits words → (k : ℕ) → k < length words → word (bytes_of_words words ++ rest) k ≡ get_or words k 0
unfolding bytes_of_words
words_back_law [] rest f k p = absurd (omega arith)
words_back_law (n ∷ words) rest f zero p = rw (append_assoc (bytes_of 4 n) (bytes_of_words words) rest) (le_bytes 4 n (bytes_of_words words ++ rest) f.0)
words_back_law (n ∷ words) rest f (suc k) p =
    let e : 4 * suc k ≡ length (bytes_of 4 n) + 4 * k = omega (arith, bytes_length 4 n) in
    rw (append_assoc (bytes_of 4 n) (bytes_of_words words) rest, e, drop-append-add (bytes_of 4 n) (bytes_of_words words ++ rest) (4 * k))
    (words_back_law words rest f.1 k (omega arith))

reads_back : (strip words : List ℕ) → strip_bytes ≤ length strip → Fits words → (k : ℕ) → k < length words → word (strip_after strip words) k ≡ get_or words k 0
unfolding strip_after
reads_back strip words h f k p = rw (le-ltb (length strip) strip_bytes h) (words_back_law words (drop strip_bytes strip) f k p)

module _ (shape : Shape) where
  -- THE FIRST WORD IS THE CODE
  pub first_is : (x : Answer) → get_or (words_of shape x) 0 0 ≡ code_of x
  first_is (gives c v p) = refl

  -- what is left in a strip that is long enough is read back
  pub carried : (x : Answer) {strip : List ℕ} {code : ℕ} {after : List ℕ} → Left strip (words_of shape x) code after → strip_bytes ≤ length strip
      → Fits (words_of shape x) → words_in after ≡ words_of shape x
  carried (gives c v p) {strip = strip} left h f =
      let back = reads_back strip (words_of shape (gives c v p)) h f in
      rw (left.leaves, back 0 (omega arith), back 1 (omega arith), back 2 (omega arith), back 3 (omega arith), back 4 (omega arith), back 5 (omega arith))
