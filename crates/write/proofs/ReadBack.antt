-- Reading back (document 02, j): what was written is accepted as a sorted dictionary of that count and length, its names by number are exactly
-- the list, and a name is in it exactly when it was given. Assumes nothing.
use Rattle.rules.proofs.Prelude.{◌≡◌, refl, sym, ◌∙◌, true, ◌↔◌, inl, inr, List, [], ◌∷◌, ℕ, zero, suc, ◌+◌, ◌-◌, ◌≤◌, ◌<◌, add-zero, add-one, arith}
use Rattle.rules.proofs.Prelude.{length, take, drop, get_or, length-drop, accept}
use lib.Seq.{get_or-drop}
use Rattle.walk.specs.Walk.Items.{none}
use Rattle.walk.proofs.Laws.{items_append}
use Rattle.chars.specs.Rfc3629.{Text, Char, char}
use Rattle.chars.proofs.Laws.{chars}
use Rattle.chars.proofs.Bounds.{text_first}
use Rattle.width.specs.Limits.{u32_max}
use Rattle.dictionary.specs.Limits.{limit}
use Rattle.dictionary.specs.Dictionary.{sorted, count, name, verdict}
use Rattle.dictionary.specs.Meaning.{Sized, Counted, Placed, Headed, Dictionary, GoodEntry, Cut}
use Rattle.metadata.proofs.Accepts.{accepts}
use Rattle.run.specs.Run as run
use Rattle.given.specs.Meaning.{GoodNames}
use Rattle.sets.specs.Sets.{In, Increasing, total}
use Rattle.sets.proofs.Laws.{at_in, in_at, rising, total_next, total_part}
use Rattle.lay.specs.Bytes.{joined}
use Rattle.fill.specs.Bytes.{width_for, layout, dictionary, size}
use Rattle.fill.specs.Steps.{list_of}
use Rattle.lay.proofs.Laws.{joined_length}
use Rattle.fill.proofs.Laws.{layout_length}
use Rattle.write.specs.Meaning.{Named}
use Rattle.write.proofs.TheList.{the_list}
use Rattle.write.proofs.Smallest.{Smallest, smallest}
use Rattle.write.proofs.Readings.{joined_from, version_is, sorted_is, width_is, count_is, offset_is, start_is, end_whole, region_is, name_is}

-- each is a text
abbrev Texts : List (List ℕ) → Type 0
Texts names = (x : List ℕ) → In x names → Text x

joined_text : (xs : List (List ℕ)) → Texts xs → Text (joined xs)
unfolding joined
joined_text [] t = none
joined_text (x ∷ xs) t = items_append Char char chars (t x (inl refl)) (joined_text xs (λ y h. t y (inr h)))

drop_texts : (xs : List (List ℕ)) (k : ℕ) → Texts xs → Texts (drop k xs)
drop_texts xs zero t = t
drop_texts [] (suc k) t = t
drop_texts (x ∷ xs) (suc k) t = drop_texts xs k (λ y h. t y (inr h))

total_none : (xs : List (List ℕ)) → total (take 0 xs) ≡ 0
unfolding total
total_none xs = refl

module _ (w : ℕ) (names : List (List ℕ)) (held : Smallest names w) (increasing : Increasing names) (texts : Texts names) (fits : length (layout w names) ≤ limit) where
  -- where a name starts, no character is cut
  whole_at : (k : ℕ) → k ≤ length names → Cut (layout w names) k → ⊥
  whole_at k p cut =
      let o = total (take k names) in
      let inside : o < length (joined names) = rw (offset_is w names held k p, region_is w names held) at cut.inside in
      let tail = rw (offset_is w names held k p, region_is w names held) at cut.on_tail in
      let byte : get_or (joined (drop k names)) 0 0 ≡ get_or (joined names) o 0 = rw (← joined_from names k, get_or-drop o (joined names) 0 0, add-zero o) in
      let filled : 0 < length (joined (drop k names)) = rw (← joined_from names k, length-drop o (joined names)) (omega arith) in
      text_first (joined_text (drop k names) (drop_texts names k texts)) filled (rw byte tail)

  good_entry : (k : ℕ) → k < count (layout w names) → GoodEntry (layout w names) k
  good_entry k q =
      let p : k < length names = omega (arith, q, count_is w names held) in
      let this = offset_is w names held k (omega arith) in
      let next = offset_is w names held (k + 1) (omega arith) in
      record {
        in_range =
            record {
              rises = rw (this, next, add-one k) (omega (arith, total_next names k p));
              stays = rw (next, region_is w names held, joined_length names) (total_part names (k + 1));
              start_whole = whole_at k (omega arith);
              end_whole = whole_at (k + 1) (omega arith);
            };
        above = λ s z. rw (name_is w names held (k - 1) (omega arith), name_is w names held k p) (rising names increasing (k - 1) k (omega arith) p);
      }

  -- the rules of document 01 hold
  is_dictionary : Dictionary (layout w names) (length names) (length (layout w names))
  unfolding limit u32_max
  is_dictionary =
      let size_is = layout_length w names in
      let sized : Sized (layout w names) = record { not_long = fits; not_empty = omega (arith, size_is) } in
      let counted : Counted (layout w names) =
      record {
        versioned = record { sized = sized; version_one = version_is w names held };
        count_inside = rw (width_is w names held) (omega (arith, size_is));
      } in
      let placed : Placed (layout w names) =
      record {
        counted = counted;
        start_fits = omega (arith, start_is w names held, size_is, fits);
        start_inside = omega (arith, start_is w names held, size_is);
      } in
      let headed : Headed (layout w names) =
      record {
        placed = placed;
        first_zero = offset_is w names held 0 (omega arith) ∙ total_none names;
        end_fits = omega (arith, end_whole w names held, fits);
        end_inside = omega (arith, end_whole w names held);
      } in
      record {
        texted = record { headed = headed; is_text = rw (region_is w names held) (joined_text names texts) };
        entries = good_entry;
        counts = sym (count_is w names held);
        ends = sym (end_whole w names held);
      }

-- x is the name of an entry
pub record Entered (d x : List ℕ) : Type 0 where
  pub entry : ℕ
  pub is_entry : entry < count d
  pub is : name d entry ≡ x

-- WHAT READING BACK SAYS of the bytes d, for the names that were given
pub record ReadBack (given ends d : List ℕ) : Type 0 where
  pub accepted : verdict d ≡ accept (length (list_of given ends) ∷ length d ∷ [])
  pub is_sorted : sorted d ≡ true
  pub counts : count d ≡ length (list_of given ends)
  pub name_by_number : (k : ℕ) → k < count d → name d k ≡ get_or (list_of given ends) k []
  pub exactly : (x : List ℕ) → Named given ends x ↔ Entered d x

-- THE THEOREM: of good names whose dictionary is within the limit
pub reads_back : (given ends : List ℕ) → GoodNames given ends → size (list_of given ends) ≤ limit → ReadBack given ends (dictionary (list_of given ends))
unfolding dictionary size run.name
reads_back given ends good fits =
    let names = list_of given ends in
    let list = the_list given ends in
    let w = width_for names in
    let held = smallest names fits in
    let texts : Texts names = λ x h. let n = list.given x h in rw n.is at (good n.number n.is_name).is_text in
    let counts = count_is w names held in
    let by_number : (k : ℕ) → k < count (layout w names) → name (layout w names) k ≡ get_or names k [] = λ k p. name_is w names held k (omega (arith, p, counts)) in
    record {
      accepted = (accepts (layout w names) (length names) (length (layout w names))).1 (is_dictionary w names held list.increasing texts fits);
      is_sorted = sorted_is w names held;
      counts = counts;
      name_by_number = by_number;
      exactly = λ x. (
        λ n. let s = in_at names x (list.all x n) in
            let p : s.place < count (layout w names) = omega (arith, s.inside, counts) in
            record { entry = s.place; is_entry = p; is = by_number s.place p ∙ s.is },
        λ e. list.given x (rw (sym (by_number e.entry e.is_entry) ∙ e.is) at (at_in names e.entry (omega (arith, e.is_entry, counts)))),
      );
    }
