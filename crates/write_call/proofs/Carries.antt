-- No word of a written dictionary's answer is too large for its four bytes, so that a strip carries the answer whole. Of 45 the place is a name's
-- number, which it carries where there are no more than 4,294,967,296 names. Assumes nothing.
use Rattle.rules.proofs.Prelude.{◌≡◌, List, ℕ, ◌≤◌, ◌<◌, arith, length}
use Rattle.dictionary.specs.Limits.{limit}
use Rattle.fill.proofs.Laws.{size_count}
use Rattle.fill.specs.Steps.{list_of}
use Rattle.write.specs.Writing.{written}
use Rattle.write.specs.Meaning.{Refusal}
use Rattle.write.specs.Meaning.Refusal.{bad_name, too_long, no_room}
use Rattle.write.proofs.Refuses as writes
use Rattle.strip.specs.Shapes.{words_of, dictionary_shape, strip_bytes}
use Rattle.strip.specs.Reading.{words_in}
use Rattle.strip.proofs.Carries.{Fits, carried}
use Rattle.write_call.specs.Promises.{write_words, WritePromise}

-- which numbers there are, and that their places fit
pub code_small : {run ends room : List ℕ} {c p : ℕ} → length ends ≤ 4294967296 → Refusal run ends room c p → (1 ≤ c) × (c < 47) × (c ≡ 40 → ⊥) × (p < 4294967296)
code_small few (bad_name b) = (omega arith, omega arith, (λ z. omega arith), omega (arith, b.is_name))
code_small few (too_long g h) = (omega arith, omega arith, (λ z. omega arith), omega arith)
code_small few (no_room g h k) = (omega arith, omega arith, (λ z. omega arith), omega arith)

module _ (run ends room : List ℕ) (few : length ends ≤ 4294967296) where
  pub write_fits : Fits (write_words run ends room)
  unfolding limit
  write_fits =
      writes.by_answer run ends room (λ x. Fits (words_of dictionary_shape x))
      (λ n b a. omega (arith, a.counts, a.ends_at, a.within, size_count (list_of run ends)))
      (λ c p r. let s = code_small few r in omega (arith, s))

  pub write_carried : {strip : List ℕ} {code : ℕ} {after room' : List ℕ} → WritePromise run ends room strip code after room' → strip_bytes ≤ length strip
      → words_in after ≡ write_words run ends room
  write_carried promised enough = carried dictionary_shape (written run ends room) promised.strip_left enough write_fits
