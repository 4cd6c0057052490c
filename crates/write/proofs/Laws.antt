-- What the writer's last steps go by: the sizes, the answers, the room. Assumes nothing.
use Prim.Native.Nat.{max}
use Rattle.rules.proofs.Prelude.{◌≡◌, sym, ◌∙◌, List, ℕ, ◌+◌, ◌*◌, ◌≤◌, ◌<◌, mul-le-mul_right, arith, length, sets, sets-eq, ◌&◌}
use Rattle.std.specs.Prelude.{Result, Ok, Err}
use Rattle.rules.proofs.Prelude.{refuse, pass, stop, first_at, first_pass, refused, answered, stops, goes}
use Rattle.dictionary.specs.Limits.{limit}
use Rattle.given.specs.Given as goal
use Rattle.sets.specs.Sets.{total}
use Rattle.lay.specs.Bytes.{width_of}
use Rattle.fill.specs.Bytes.{width_for, layout, dictionary, size}
use Rattle.lay.specs.Steps.{SizesOf}
use Rattle.fill.specs.Steps.{list_of, Laid}
use Rattle.lay.proofs.Laws.{width_some, width_few}
use Rattle.fill.proofs.Laws.{size_is, size_count, size_total}
use Rattle.write.specs.declared.Written.{Written}
use Rattle.write.specs.declared.Refusal.{Refusal}
use Rattle.write.specs.declared.Refusal.TheVariants as refusal
use Rattle.write.specs.Writing.{size_checks, checks, written, room_after}
use Rattle.write.specs.Answers.{written_numbers}
use Rattle.write.specs.Promises.{DictionaryPromise}
use Rattle.write.specs.Steps.{Finished}

-- THE SIZES that were measured, and the width for them

module _ {names : List (List ℕ)} {count sum : ℕ} (s : SizesOf names count sum) {w : ℕ} (e : w ≡ width_of (max count sum)) where
  width_is : w ≡ width_for names
  unfolding width_for
  width_is = rw (← s.count_is, ← s.sum_is) e

  pub width_small : (1 ≤ w) × (w ≤ 4)
  width_small = omega (arith, e, width_some (max count sum), width_few (max count sum))

  -- so no sum on the way wraps
  pub sums_small : (w ≤ 4) × (w * (count + 1) ≤ 4 * (count + 1)) × (count ≤ 16777216) × (sum ≤ 16777216)
  unfolding limit
  sums_small = (width_small.1, mul-le-mul_right (count + 1) width_small.1, s.few, s.short)

  pub length_is : 1 + w + w * (count + 1) + sum ≡ size names
  length_is = rw (width_is, s.count_is, s.sum_is) (sym (size_is names))

  pub layout_is : layout w names ≡ dictionary names
  unfolding dictionary
  layout_is = rw width_is

  pub laid : (room : List ℕ) → size names ≤ length room → Laid w names room count (1 + w + w * (count + 1))
  laid room f =
      record {
        some = width_small.0;
        few = width_small.1;
        count_is = s.count_is;
        region_is = rw s.count_is;
        fits = omega (arith, f, length_is, s.sum_is);
      }

-- THE ANSWER after the names' own checks

pub too_long : (names : List (List ℕ)) (room : List ℕ) → limit < size names → size_checks names room ≡ stop 10 0
unfolding size_checks
too_long names room h = first_at 0 _ h

pub names_long : (names : List (List ℕ)) → limit < max (length names) (total names) → limit < size names
names_long names h = omega (arith, h, size_count names, size_total names)

pub no_room : (names : List (List ℕ)) (room : List ℕ) → size names ≤ limit → length room < size names → size_checks names room ≡ stop 46 0
unfolding size_checks
no_room names room h k = first_at 1 _ (h, k)

pub has_room : (names : List (List ℕ)) (room : List ℕ) → size names ≤ limit → size names ≤ length room → size_checks names room ≡ pass
unfolding size_checks
has_room names room h k = first_pass _ (h & k & tt)

pub finish_stop : {names : List (List ℕ)} {room : List ℕ} (r : Result Written Refusal) {c p : ℕ} → size_checks names room ≡ stop c p → written_numbers r ≡ refuse c p → Finished names room room r
finish_stop r e n = record { answer = n ∙ sym (refused _ e); leaves = rw e }

pub finish_pass : {names : List (List ℕ)} {room after : List ℕ} {count n : ℕ} → size names ≤ limit → size names ≤ length room → count ≡ length names → n ≡ size names
    → after ≡ sets room 0 (dictionary names) → Finished names room after (Ok (record { count = count; length = n }))
unfolding size
finish_pass {names} {room} h k c e a =
    let ok = has_room names room h k in
    let z : 0 + length (dictionary names) ≡ length (dictionary names) = omega arith in
    record { answer = rw (c, e) (sym (answered _ ok)); leaves = a ∙ rw ok (rw z at (sets-eq (dictionary names) room 0 (omega arith))) }

-- ALL OF IT

module _ (run ends room : List ℕ) where
  pub refused_name : (k : ℕ) → stop 45 k ≡ goal.checks run ends → DictionaryPromise run ends room (Err (refusal.BadName k)) room
  unfolding written room_after checks
  refused_name k e =
      record { answer = sym (refused _ (stops _ (sym e))); leaves = rw (stops (size_checks (list_of run ends) room) (sym e)) }

  pub good_names : {after : List ℕ} {r : Result Written Refusal} → pass ≡ goal.checks run ends → Finished (list_of run ends) room after r → DictionaryPromise run ends room r after
  unfolding written room_after checks
  good_names e f = let g = goes (size_checks (list_of run ends) room) (sym e) in record { answer = rw g f.answer; leaves = rw g f.leaves }
