-- No word of these calls' answers is too large for its four bytes, so that a strip carries the answer whole. Assumes nothing.
use Rattle.rules.proofs.Prelude.{◌≡◌, List, ℕ, ◌≤◌, arith, length, by_meaning}
use Rattle.metadata.proofs.Fits as dictionary-fits
use Rattle.layer.specs.Object as object
use Rattle.object.proofs.Means.{checks_mean}
use Rattle.object.proofs.Refuses.{is_due}
use Rattle.object.proofs.Fits.{checks_code, layer_small, child_small}
use Rattle.lookup.specs.ByName.{lookup}
use Rattle.lookup.proofs.Finds as found
use Rattle.strip.specs.Shapes.{words_of, lookup_shape, layer_shape, strip_bytes}
use Rattle.strip.specs.Reading.{words_in}
use Rattle.strip.proofs.Carries.{Fits, carried}
use Rattle.object_calls.specs.Promises.{layer_words, lookup_words, LayerPromise, LookupPromise}

module _ (d o : List ℕ) where
  pub layer_fits : Fits (layer_words d o)
  unfolding object.verdict_within
  layer_fits =
      by_meaning (λ x. Fits (words_of layer_shape x)) _ (checks_mean d o)
      (λ g. let s = layer_small d o g in omega arith)
      (λ c p due. let s = checks_code d o (is_due d o due) in omega arith)

  pub lookup_fits : (q : List ℕ) → Fits (lookup_words d o q)
  lookup_fits q =
      found.by_answer d o q (λ x. Fits (words_of lookup_shape x))
      (λ k i a e f. let s = layer_small d o f.accepted in
      let t = child_small d o k f.accepted f.is_field in
      let u = dictionary-fits.accepted_small d f.accepted.named.headed.placed.counted.typed.sized.over in omega (arith, f.is_entry, f.is_field))
      (λ a. omega arith)
      (λ c p due. let s = checks_code d o (is_due d o due) in omega arith)

  module _ {strip : List ℕ} {code : ℕ} {after : List ℕ} where
    pub layer_carried : LayerPromise d o strip code after → strip_bytes ≤ length strip → words_in after ≡ layer_words d o
    layer_carried left enough = carried layer_shape (object.verdict d o) left enough layer_fits

    pub lookup_carried : (q : List ℕ) → LookupPromise d o q strip code after → strip_bytes ≤ length strip → words_in after ≡ lookup_words d o q
    lookup_carried q left enough = carried lookup_shape (lookup d o q) left enough (lookup_fits q)
