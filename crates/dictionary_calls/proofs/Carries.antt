-- No word of these calls' answers is too large for its four bytes, so that a strip carries the answer whole. Assumes nothing.
use Rattle.rules.proofs.Prelude.{◌≡◌, List, ℕ, ◌≤◌, arith, length, by_meaning}
use Rattle.dictionary.specs.Dictionary as dictionary
use Rattle.metadata.proofs.Means as means
use Rattle.metadata.proofs.Refuses as refuses
use Rattle.metadata.proofs.Names as names
use Rattle.metadata.proofs.Fits as fits
use Rattle.strip.specs.Shapes.{words_of, dictionary_shape, name_shape, strip_bytes}
use Rattle.strip.specs.Reading.{words_in}
use Rattle.strip.proofs.Carries.{Fits, carried}
use Rattle.dictionary_calls.specs.Promises.{verdict_words, name_at_words, DictionaryPromise, NamePromise}

module _ (d : List ℕ) where
  pub dictionary_fits : Fits (verdict_words d)
  unfolding dictionary.verdict_within
  dictionary_fits =
      by_meaning (λ x. Fits (words_of dictionary_shape x)) _ (means.checks_mean d)
      (λ g. let s = fits.accepted_small d g in omega arith)
      (λ c p due. let s = fits.checks_code d (refuses.is_due d due) in omega arith)

  pub name_fits : (i : ℕ) → Fits (name_at_words d i)
  name_fits i =
      names.by_answer d i (λ x. Fits (words_of name_shape x))
      (λ a e n. let s = fits.name_small d i n.accepted n.is_entry in omega arith)
      (λ n. omega arith)
      (λ c p due. let s = fits.checks_code d (refuses.is_due d due) in omega arith)

  module _ {strip : List ℕ} {code : ℕ} {after : List ℕ} where
    pub dictionary_carried : DictionaryPromise d strip code after → strip_bytes ≤ length strip → words_in after ≡ verdict_words d
    dictionary_carried left enough = carried dictionary_shape (dictionary.verdict d) left enough dictionary_fits

    pub name_carried : (i : ℕ) → NamePromise d i strip code after → strip_bytes ≤ length strip → words_in after ≡ name_at_words d i
    name_carried i left enough = carried name_shape (dictionary.name_at d i) left enough (name_fits i)
