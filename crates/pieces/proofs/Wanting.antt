-- The bytes that are wanted: more than there are exactly where the verdict is not settled; no fewer settle it, and until they are there as many
-- are wanted. Assumes nothing.
use Rattle.rules.proofs.Prelude.{◌≡◌, refl, sym, ◌∙◌, Bool, true, false, List, [], ◌∷◌, ◌++◌, ℕ, ◌≤◌, ◌<◌, arith, lt-ltb, le-ltb, ltb, length, length-append}
use Rattle.rules.proofs.Prelude.{Found, accept, refuse, ◌otherwise◌, pass, stop, false_true, meant_stop}
use Rattle.dictionary.specs.Limits.{limit}
use Rattle.dictionary.specs.Dictionary.{count, end, checks, verdict, verdict_within}
use Rattle.dictionary.specs.Wanted.{wanted}
use Rattle.dictionary.specs.Meaning.{Versioned, Counted, Placed, Refusal}
use Rattle.dictionary.specs.Meaning.Refusal.{too_long, empty, other_version, count_cut, start_sum, start_short, first_offset, end_sum, end_short, cut_text, no_text, bad_range, not_above}
use Rattle.dictionary.proofs.Asked.{wanted_at, wanted_none}
use Rattle.metadata.proofs.Means.{good, checks_mean}
use Rattle.metadata.proofs.Appended.{version_same, width_same, start_same, offset_same, end_same}
use Rattle.pieces.specs.Pieces.{unsettled}
use Rattle.pieces.specs.Meaning.{Wants}
use Rattle.pieces.specs.Meaning.Wants.{first_byte, the_count, the_offsets, the_region}

module _ (d : List ℕ) where
  -- what is wanted is what the definition says, and more than is there
  pub wants_is : {w : ℕ} → Wants d w → (wanted d ≡ w) × (length d < w)
  wants_is (first_byte h) = (wanted_at d 1 (omega arith), omega arith)
  wants_is (the_count b h) = (wanted_at d 3 (omega arith), h)
  wants_is (the_offsets b f h) = (wanted_at d 5 (omega arith), h)
  wants_is (the_region b z f h) = (wanted_at d 8 (omega arith), h)

  -- EITHER some bytes are wanted, or the verdict is settled and none are
  pub data Stand : Bool → Type 0 where
    lacks : {w : ℕ} → Wants d w → Stand true
    settled : wanted d ≡ 0 → Stand false

  stands : {c p : ℕ} → Refusal d c p → Stand (unsettled (refuse c p))
  stands (too_long h) = settled (wanted_at d 0 h)
  stands (empty h) = lacks (first_byte h)
  stands (other_version b h) = settled (wanted_at d 2 (omega arith))
  stands (count_cut b h) = lacks (the_count b h)
  stands (start_sum b h) = settled (wanted_at d 4 (omega arith))
  stands (start_short b f h) = lacks (the_offsets b f h)
  stands (first_offset b h) = settled (wanted_at d 6 (omega arith))
  stands (end_sum b z h) = settled (wanted_at d 7 (omega arith))
  stands (end_short b z f h) = lacks (the_region b z f h)
  stands (cut_text h l b) = settled (wanted_none d (omega arith))
  stands (no_text h l b) = settled (wanted_none d (omega arith))
  stands (bad_range t q g h) = settled (wanted_none d (omega arith))
  stands (not_above t q g r s z h) = settled (wanted_none d (omega arith))

  pub stand : Stand (unsettled (verdict d))
  unfolding verdict_within ◌otherwise◌
  stand = go (checks d) refl
    where
      go : (f : Found) → checks d ≡ f → Stand (unsettled (f otherwise accept (count d ∷ end d ∷ [])))
      go pass g = let r = good d g in settled (wanted_none d (omega arith))
      go (stop c p) g = stands (meant_stop (checks_mean d) g)

  -- so it is unsettled exactly where more bytes are wanted than there are
  pub lacking : unsettled (verdict d) ≡ ltb (length d) (wanted d)
  lacking = go stand
    where
      go : {b : Bool} → Stand b → b ≡ ltb (length d) (wanted d)
      go (lacks w) = let is = wants_is w in sym (lt-ltb (length d) (wanted d) (omega (arith, is)))
      go (settled z) = sym (le-ltb (length d) (wanted d) (omega (arith, z)))

  pub why : unsettled (verdict d) ≡ true → Wants d (wanted d)
  why u = go stand u
    where
      go : {b : Bool} → Stand b → b ≡ true → Wants d (wanted d)
      go (lacks {w = w} h) u = rw (wants_is h).0 h
      go (settled z) u = false_true u

  pub unsettled_by : {w : ℕ} → Wants d w → unsettled (verdict d) ≡ true
  unsettled_by w = let is = wants_is w in lacking ∙ lt-ltb (length d) (wanted d) (omega (arith, is))

-- UNTIL THEY ARE THERE nothing settles, and as many are wanted
module _ (d t : List ℕ) (within : length (d ++ t) ≤ limit) where
  versioned_on : Versioned d → Versioned (d ++ t)
  versioned_on v =
      record {
        sized = record { not_long = within; not_empty = omega (arith, length-append d t) };
        version_one = version_same d t v.sized.not_empty ∙ v.version_one;
      }

  counted_on : Counted d → Counted (d ++ t)
  counted_on c =
      record {
        versioned = versioned_on c.versioned;
        count_inside = omega (arith, length-append d t, width_same d t c.versioned.sized.not_empty);
      }

  placed_on : Placed d → Placed (d ++ t)
  placed_on p =
      let s = start_same d t p.counted.count_inside in
      record {
        counted = counted_on p.counted;
        start_fits = omega (arith, s);
        start_inside = omega (arith, s, length-append d t);
      }

  pub still : {w : ℕ} → Wants d w → length (d ++ t) < w → Wants (d ++ t) w
  still (first_byte h) p = first_byte (omega arith)
  still (the_count b h) p =
      let s = width_same d t b.sized.not_empty in
      rw s at (the_count (versioned_on b) (omega (arith, s)))
  still (the_offsets b f h) p =
      let s = start_same d t b.count_inside in
      rw s at (the_offsets (counted_on b) (omega (arith, s)) (omega (arith, s)))
  still (the_region b z f h) p =
      let s = end_same d t b.start_inside in
      rw s at (the_region (placed_on b) (offset_same d t b.start_inside 0 (omega arith) ∙ z) (omega (arith, s)) (omega (arith, s)))
