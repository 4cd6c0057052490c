-- A raise of the limit (document 02, request d): under two limits that dictionary and object are within, every call of the host returns the
-- same code and leaves the same strip and the same lent words. `Left` and `Filled` of the words under a limit are what a call with that limit
-- promises; the calls' own promises are those under `limit` (`lookup_as_before` has it written out). Assumes nothing.
use Rattle.rules.proofs.Prelude.{◌≡◌, List, ℕ, ◌≤◌, arith, length}
use Rattle.dictionary.specs.Limits.{limit}
use Rattle.dictionary.specs.Dictionary as dictionary
use Rattle.metadata.proofs.Raised.{verdict_alike, name_alike, raised}
use Rattle.layer.specs.Object as object
use Rattle.object.proofs.Raised as layer
use Rattle.lookup.specs.ByName.{lookup_within}
use Rattle.lookup.proofs.Raised.{lookup_alike}
use Rattle.many.specs.Many.{lookups_within, rows_after_within}
use Rattle.many.proofs.Raised.{lookups_alike, rows_alike}
use Rattle.listing.specs.Words.{listed_within, words_after_within}
use Rattle.listing.proofs.Raised.{listed_alike, words_alike}
use Rattle.strip.specs.Shapes.{words_of, lookup_shape, layer_shape, dictionary_shape, name_shape}
use Rattle.lichenhusk.specs.Promises.{Left, Filled, LookupPromise}
use Rattle.lichenhusk.proofs.Pinned.{strip_pinned, filled_pinned}

module _ (a b : ℕ) (d strip : List ℕ) {code code' : ℕ} {after after' : List ℕ} where
  -- THE DICTIONARY, within both
  module _ (in-a : length d ≤ a) (in_b : length d ≤ b) where
    pub dictionary_strip : Left strip (words_of dictionary_shape (dictionary.verdict_within a d)) code after
        → Left strip (words_of dictionary_shape (dictionary.verdict_within b d)) code' after' → (code ≡ code') × (after ≡ after')
    dictionary_strip x y = strip_pinned strip _ code code' after after' (rw (verdict_alike a b d in-a in_b) at x) y

    pub name_strip : (i : ℕ) → Left strip (words_of name_shape (dictionary.name_at_within a d i)) code after
        → Left strip (words_of name_shape (dictionary.name_at_within b d i)) code' after' → (code ≡ code') × (after ≡ after')
    name_strip i x y = strip_pinned strip _ code code' after after' (rw (name_alike a b d in-a in_b i) at x) y

  -- AN OBJECT OVER IT, both within both
  module _ (o : List ℕ) (in-a : layer.Within a d o) (in_b : layer.Within b d o) where
    pub layer_strip : Left strip (words_of layer_shape (object.verdict_within a d o)) code after
        → Left strip (words_of layer_shape (object.verdict_within b d o)) code' after' → (code ≡ code') × (after ≡ after')
    layer_strip x y = strip_pinned strip _ code code' after after' (rw (layer.verdict_alike a b d o in-a in_b) at x) y

    pub lookup_strip : (q : List ℕ) → Left strip (words_of lookup_shape (lookup_within a d o q)) code after
        → Left strip (words_of lookup_shape (lookup_within b d o q)) code' after' → (code ≡ code') × (after ≡ after')
    lookup_strip q x y = strip_pinned strip _ code code' after after' (rw (lookup_alike a b d o in-a in_b q) at x) y

    -- with the lent words after the call
    pub list_strip : (words : List ℕ) {filled filled' : List ℕ}
        → Filled strip (words_of layer_shape (listed_within a d o words)) words (words_after_within a d o words) code after filled
        → Filled strip (words_of layer_shape (listed_within b d o words)) words (words_after_within b d o words) code' after' filled'
        → (code ≡ code') × (after ≡ after') × (filled ≡ filled')
    list_strip words {filled} {filled'} x y =
        filled_pinned strip _ words _ code code' after after' filled filled'
        (rw (listed_alike a b d o words in-a in_b, words_alike a b d o words in-a in_b) at x) y

    pub all_strip : (names ends words : List ℕ) {filled filled' : List ℕ}
        → Filled strip (words_of layer_shape (lookups_within a d o names ends words)) words (rows_after_within a d o names ends words) code after filled
        → Filled strip (words_of layer_shape (lookups_within b d o names ends words)) words (rows_after_within b d o names ends words) code' after' filled'
        → (code ≡ code') × (after ≡ after') × (filled ≡ filled')
    all_strip names ends words {filled} {filled'} x y =
        filled_pinned strip _ words _ code code' after after' filled filled'
        (rw (lookups_alike a b d o in-a in_b names ends words, rows_alike a b d o in-a in_b names ends words) at x) y

-- THE RAISE: what the host got from a lookup up to 65,536 bytes it gets now
pub lookup_as_before : (d o q strip : List ℕ) {was is : ℕ} {left leaves : List ℕ} → layer.Within 65536 d o
    → Left strip (words_of lookup_shape (lookup_within 65536 d o q)) was left → LookupPromise d o q strip is leaves → (was ≡ is) × (left ≡ leaves)
lookup_as_before d o q strip inside = lookup_strip 65536 limit d strip o inside (omega (arith, raised), omega (arith, raised)) q
