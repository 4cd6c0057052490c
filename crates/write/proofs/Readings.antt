-- Reading what was written, number by number: width, count, offsets, region, names (the readings of `dictionary`). Assumes nothing.
use Prim.Native.Nat.{◌%◌}
use lib.Seq.{drop-append_seam, take-length}
use Rattle.rules.proofs.Prelude.{◌≡◌, refl, ◌∙◌, true, List, [], ◌∷◌, ◌++◌, append_assoc, ℕ, zero, suc, ◌+◌, ◌-◌, ◌*◌, ◌/◌, ◌≤◌, ◌<◌, add-one, arith}
use Rattle.rules.proofs.Prelude.{eq-eqb, length, take, drop, get_or, length-append, take_at, take_all, drop-append-add}
use Rattle.part.specs.Part.{part}
use Rattle.width.specs.Width.{bytes_of}
use Rattle.width.proofs.Laws.{bytes_length, le_bytes}
use Rattle.put.specs.Numbers.{numbers}
use Rattle.put.proofs.Numbers.{le_numbers}
use Rattle.dictionary.specs.Dictionary.{version, sorted, width, count, offset, start, end, region, name}
use Rattle.sets.specs.Sets.{total}
use Rattle.sets.proofs.Laws.{total_part}
use Rattle.lay.specs.Bytes.{offsets, joined}
use Rattle.fill.specs.Bytes.{lead, layout}
use Rattle.lay.proofs.Laws.{offsets_count, offsets_length, offsets_at, joined_length}
use Rattle.fill.proofs.Laws.{layout_length}
use Rattle.write.proofs.Smallest.{Smallest}

-- NAME k in the names one after another
joined_at : (xs : List (List ℕ)) (k : ℕ) → k < length xs → part (joined xs) (total (take k xs)) (total (take (suc k) xs)) ≡ get_or xs k []
unfolding joined total
joined_at [] k p = absurd (omega arith)
joined_at (x ∷ xs) zero p = let e : length x + 0 - 0 ≡ length x = omega arith in rw e (take_at x (joined xs) (length x) refl)
joined_at (x ∷ xs) (suc k) p =
    let a = total (take k xs) in
    let b = total (take (suc k) xs) in
    let e : length x + b - (length x + a) ≡ b - a = omega arith in
    rw (e, drop-append-add x (joined xs) a) (joined_at xs k (omega arith))

-- what is left from there
pub joined_from : (xs : List (List ℕ)) (k : ℕ) → drop (total (take k xs)) (joined xs) ≡ joined (drop k xs)
unfolding joined total
joined_from xs zero = refl
joined_from [] (suc k) = refl
joined_from (x ∷ xs) (suc k) = drop-append-add x (joined xs) (total (take k xs)) ∙ joined_from xs k

module _ (w : ℕ) (names : List (List ℕ)) (held : Smallest names w) where
  pub version_is : version (layout w names) ≡ 1
  unfolding version
  version_is = omega (arith, held.some)

  pub sorted_is : sorted (layout w names) ≡ true
  unfolding sorted
  sorted_is = let e : lead w / 16 % 2 ≡ 1 = omega (arith, held.some) in eq-eqb _ _ e

  pub width_is : width (layout w names) ≡ w
  unfolding width
  width_is = omega (arith, held.some)

  pub count_is : count (layout w names) ≡ length names
  unfolding count
  count_is = rw width_is (le_bytes w (length names) (numbers w (offsets 0 names) ++ joined names) held.count_fits)

  pub offset_is : (k : ℕ) → k ≤ length names → offset (layout w names) k ≡ total (take k names)
  unfolding offset
  offset_is k p =
      let place : 1 + w + w * k ≡ suc (length (bytes_of w (length names)) + w * k) = omega (arith, bytes_length w (length names)) in
      let is : get_or (offsets 0 names) k 0 ≡ total (take k names) = offsets_at 0 k names p ∙ omega arith in
      rw (width_is, place, drop-append-add (bytes_of w (length names)) (numbers w (offsets 0 names) ++ joined names) (w * k))
      (le_numbers w (offsets 0 names) (joined names) k (omega (arith, offsets_count 0 names)) (omega (arith, is, total_part names k, held.total_fits)) ∙ is)

  pub start_is : start (layout w names) ≡ 1 + w + w * (length names + 1)
  unfolding start
  start_is = rw (width_is, count_is)

  pub end_is : end (layout w names) ≡ start (layout w names) + total names
  unfolding end
  end_is = rw (count_is, offset_is (length names) (omega arith), take-length names)

  pub end_whole : end (layout w names) ≡ length (layout w names)
  end_whole = omega (arith, end_is, start_is, layout_length w names)

  head_length : length (lead w ∷ (bytes_of w (length names) ++ numbers w (offsets 0 names))) ≡ start (layout w names)
  head_length =
      rw (start_is, length-append (bytes_of w (length names)) (numbers w (offsets 0 names))) (omega (arith, bytes_length w (length names), offsets_length w 0 names))

  pub region_is : region (layout w names) ≡ joined names
  unfolding region
  region_is =
      let v = start (layout w names) in
      let rest : drop v (layout w names) ≡ joined names =
      rw (← head_length, ← append_assoc) (drop-append_seam (lead w ∷ (bytes_of w (length names) ++ numbers w (offsets 0 names))) (joined names)) in
      rw rest (take_all (end (layout w names) - v) (joined names) (omega (arith, end_is, joined_length names)))

  pub name_is : (k : ℕ) → k < length names → name (layout w names) k ≡ get_or names k []
  unfolding name
  name_is k p =
      rw (region_is, offset_is k (omega arith), offset_is (k + 1) (omega arith), add-one k) (joined_at names k p)
