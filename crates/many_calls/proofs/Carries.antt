-- No word of these calls' answers is too large for its four bytes, so that a strip carries the answer whole. Of 45 the place is a name's number,
-- which it carries where there are no more than 4,294,967,296 names. Assumes nothing.
use Rattle.rules.proofs.Prelude.{◌≡◌, List, ℕ, ◌≤◌, arith, length}
use Rattle.object.proofs.Refuses.{is_due}
use Rattle.object.proofs.Fits.{checks_code, layer_small}
use Rattle.many.specs.Many.{lookups}
use Rattle.many.proofs.Means as many
use Rattle.listing.specs.Words.{listed}
use Rattle.listing.proofs.Lists as listing
use Rattle.strip.specs.Shapes.{words_of, layer_shape, strip_bytes}
use Rattle.strip.specs.Reading.{words_in}
use Rattle.strip.proofs.Carries.{Fits, carried}
use Rattle.many_calls.specs.Promises.{list_words, all_words, ListPromise, AllPromise}

module _ (d o : List ℕ) where
  pub list_fits : (w : List ℕ) → Fits (list_words d o w)
  list_fits w =
      listing.by_answer d o w (λ x. Fits (words_of layer_shape x))
      (λ n v e l. let s = layer_small d o l.accepted in omega arith)
      (λ k n. let s = layer_small d o n.accepted in omega (arith, n.field))
      (λ n. omega arith)
      (λ c p due. let s = checks_code d o (is_due d o due) in omega arith)

  pub list_carried : (w : List ℕ) {strip : List ℕ} {code : ℕ} {after filled : List ℕ} → ListPromise d o w strip code after filled → strip_bytes ≤ length strip
      → words_in after ≡ list_words d o w
  list_carried w promised enough = carried layer_shape (listed d o w) promised.strip_left enough (list_fits w)

module _ (d o names ends words : List ℕ) (few : length ends ≤ 4294967296) where
  pub all_fits : Fits (all_words d o names ends words)
  all_fits =
      many.by_answer d o names ends words (λ x. Fits (words_of layer_shape x))
      (λ n v e a. let s = layer_small d o a.accepted in omega arith)
      (λ k b. omega (arith, b.is_name))
      (λ n. omega arith)
      (λ c p r. let s = checks_code d o (is_due d o r.due) in omega arith)

  pub all_carried : {strip : List ℕ} {code : ℕ} {after filled : List ℕ} → AllPromise d o names ends words strip code after filled → strip_bytes ≤ length strip
      → words_in after ≡ all_words d o names ends words
  all_carried promised enough = carried layer_shape (lookups d o names ends words) promised.strip_left enough all_fits
