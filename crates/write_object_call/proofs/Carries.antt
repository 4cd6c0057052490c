-- No word of a written object's answer is too large for its four bytes, so that a strip carries the answer whole. A place is a pair's number, which
-- it carries where there are no more than 4,294,967,296 words of pairs. Assumes nothing.
use Rattle.rules.proofs.Prelude.{◌≡◌, List, ℕ, ◌≤◌, ◌<◌, arith, length}
use Rattle.dictionary.specs.Limits.{limit}
use Rattle.metadata.proofs.Fits as dictionary-fits
use Rattle.metadata.proofs.Refuses as dictionary-refuses
use Rattle.write_object.specs.Writing.{written}
use Rattle.write_object.specs.Meaning.{Refusal}
use Rattle.write_object.specs.Meaning.Refusal.{of_dictionary, no_entry, double, bad_range, empty_child, too_long, no_room}
use Rattle.write_object.proofs.Laws.{size_above}
use Rattle.write_object.proofs.Refuses as writes
use Rattle.strip.specs.Shapes.{words_of, layer_shape, strip_bytes}
use Rattle.strip.specs.Reading.{words_in}
use Rattle.strip.proofs.Carries.{Fits, carried}
use Rattle.write_object_call.specs.Promises.{write_object_words, WriteObjectPromise}

-- which numbers there are, and that their places fit
pub code_small : {d bytes pairs room : List ℕ} {c p : ℕ} → length pairs ≤ 4294967296 → Refusal d bytes pairs room c p → (1 ≤ c) × (c < 47) × (c ≡ 40 → ⊥) × (p < 4294967296)
code_small {d} few (of_dictionary r) =
    let s = dictionary-fits.checks_code d (dictionary-refuses.is_due d r) in (omega arith, omega arith, (λ z. omega arith), omega arith)
code_small few (no_entry o b) = (omega arith, omega arith, (λ z. omega arith), omega (arith, b.is_pair))
code_small few (double n b) = (omega arith, omega arith, (λ z. omega arith), omega (arith, b.inside))
code_small few (bad_range s b) = (omega arith, omega arith, (λ z. omega arith), omega (arith, b.is_pair))
code_small few (empty_child r b) = (omega arith, omega arith, (λ z. omega arith), omega (arith, b.is_pair))
code_small few (too_long g h) = (omega arith, omega arith, (λ z. omega arith), omega arith)
code_small few (no_room g h k) = (omega arith, omega arith, (λ z. omega arith), omega arith)

module _ (d bytes pairs room : List ℕ) (few : length pairs ≤ 4294967296) where
  pub write_object_fits : Fits (write_object_words d bytes pairs room)
  unfolding limit
  write_object_fits =
      writes.by_answer d bytes pairs room (λ x. Fits (words_of layer_shape x))
      (λ n v b a. let s = size_above d bytes pairs a.good.ranged.single.distinct in omega (arith, a.counts, a.starts, a.ends, a.within, s))
      (λ c p r. let s = code_small few r in omega (arith, s))

  pub write_object_carried : {strip : List ℕ} {code : ℕ} {after room' : List ℕ} → WriteObjectPromise d bytes pairs room strip code after room' → strip_bytes ≤ length strip
      → words_in after ≡ write_object_words d bytes pairs room
  write_object_carried promised enough = carried layer_shape (written d bytes pairs room) promised.strip_left enough write_object_fits
