-- Accepted pairs in any other order are accepted, with the same answer, and leave the same bytes (document 02, k). Assumes nothing.
use Rattle.rules.proofs.Prelude.{◌≡◌, refl, sym, ap, ◌∙◌, List, ◌∷◌, ℕ, zero, suc, ◌+◌, ◌*◌, ◌<◌, ◌/◌, arith, length}
use Rattle.sets.specs.Sets.{Distinct}
use Rattle.sets.proofs.Distinct.{all_new, as_many}
use Rattle.source.specs.Pairs.{pairs, id, from, to, child}
use Rattle.pairs.specs.Checks.{pair_name}
use Rattle.write_object.specs.Writing.{written, room_after}
use Rattle.write_object.specs.Meaning.{GoodPairs}
use Rattle.layered.specs.Fields.{Matched, SamePairs, Reordered}
use Rattle.layered.specs.Fields.Reordered.{as_given, after_one, exchanged, and_then}
use Rattle.layered.proofs.Canonical.{same_names, same_answer, same_room}

-- WHERE A PAIR GOES

record Moved (words words' : List ℕ) (k : ℕ) : Type 0 where
  number : ℕ
  is_pair : number < pairs words'
  same_id : id words' number ≡ id words k
  same_from : from words' number ≡ from words k
  same_to : to words' number ≡ to words k

-- behind one pair more
module _ (i a e : ℕ) (words : List ℕ) (k : ℕ) where
  id_next : id (i ∷ a ∷ e ∷ words) (suc k) ≡ id words k
  id_next = let z : 3 * suc k ≡ suc (suc (suc (3 * k))) = omega arith in rw z

  from_next : from (i ∷ a ∷ e ∷ words) (suc k) ≡ from words k
  from_next = let z : 3 * suc k + 1 ≡ suc (suc (suc (3 * k + 1))) = omega arith in rw z

  to_next : to (i ∷ a ∷ e ∷ words) (suc k) ≡ to words k
  to_next = let z : 3 * suc k + 2 ≡ suc (suc (suc (3 * k + 2))) = omega arith in rw z

later : (i a e j b f : ℕ) {words words' : List ℕ} {k : ℕ} → Moved words words' k → Moved (i ∷ a ∷ e ∷ words) (j ∷ b ∷ f ∷ words') (suc k)
later i a e j b f {words} {words'} {k} m =
    record {
      number = suc m.number;
      is_pair = omega (arith, m.is_pair);
      same_id = id_next j b f words' m.number ∙ m.same_id ∙ sym (id_next i a e words k);
      same_from = from_next j b f words' m.number ∙ m.same_from ∙ sym (from_next i a e words k);
      same_to = to_next j b f words' m.number ∙ m.same_to ∙ sym (to_next i a e words k);
    }

stays : (words : List ℕ) (k : ℕ) → k < pairs words → Moved words words k
stays words k p = record { number = k; is_pair = p; same_id = refl; same_from = refl; same_to = refl }

moves : {words words' : List ℕ} → Reordered words words' → (k : ℕ) → k < pairs words → Moved words words' k
moves (as_given {words}) k p = stays words k p
moves (after_one r) zero p = record { number = 0; is_pair = omega arith; same_id = refl; same_from = refl; same_to = refl }
moves (after_one {i} {a} {e} r) (suc k) p = later i a e i a e (moves r k (omega arith))
moves exchanged zero p = record { number = 1; is_pair = omega arith; same_id = refl; same_from = refl; same_to = refl }
moves exchanged (suc zero) p = record { number = 0; is_pair = omega arith; same_id = refl; same_from = refl; same_to = refl }
moves (exchanged {i} {a} {e} {j} {b} {f} {words}) (suc (suc k)) p = later i a e j b f (later j b f i a e (stays words k (omega arith)))
moves (and_then r s) k p =
    let m = moves r k p in
    let n = moves s m.number m.is_pair in
    record {
      number = n.number;
      is_pair = n.is_pair;
      same_id = n.same_id ∙ m.same_id;
      same_from = n.same_from ∙ m.same_from;
      same_to = n.same_to ∙ m.same_to;
    }

-- and back
back : {words words' : List ℕ} → Reordered words words' → Reordered words' words
back as_given = as_given
back (after_one r) = after_one (back r)
back exchanged = exchanged
back (and_then r s) = and_then (back s) (back r)

same_length : {words words' : List ℕ} → Reordered words words' → length words ≡ length words'
same_length as_given = refl
same_length (after_one r) = ap (λ (n : ℕ). suc (suc (suc n))) (same_length r)
same_length exchanged = refl
same_length (and_then r s) = same_length r ∙ same_length s

matched : (bytes : List ℕ) {words words' : List ℕ} → Reordered words words' → (k : ℕ) → k < pairs words → Matched bytes words k bytes words'
unfolding child
matched bytes r k p = let m = moves r k p in record { number = m.number; is_pair = m.is_pair; same_id = m.same_id; same_child = rw (m.same_from, m.same_to) }

-- THE THEOREMS

-- they are the same pairs
pub same_pairs : (bytes : List ℕ) {words words' : List ℕ} → Reordered words words' → SamePairs bytes words bytes words'
same_pairs bytes r = record { to = matched bytes r; from = matched bytes (back r) }

-- as good as they were
module _ (d bytes words words' : List ℕ) (r : Reordered words words') where
  same_distinct : Distinct (pair_name d words) 0 (pairs words) → Distinct (pair_name d words') 0 (pairs words')
  same_distinct alone =
      let many : pairs words ≡ pairs words' = ap (λ (n : ℕ). n / 3) (same_length r) in
      as_many (pair_name d words') 0 (pairs words')
      (ap length (sym (same_names d bytes words bytes words' (same_pairs bytes r))) ∙ all_new (pair_name d words) 0 (pairs words) alone ∙ many)

  pub good_too : GoodPairs d bytes words → GoodPairs d bytes words'
  good_too g =
      let came = moves (back r) in
      let known = g.ranged.single.known in
      record {
        ranged = record {
          single = record {
            known = record { over = known.over; entries = λ k p. let m = came k p in omega (arith, m.same_id, known.entries m.number m.is_pair) };
            distinct = same_distinct g.ranged.single.distinct;
          };
          ranges = λ k p.
              let m = came k p in
              let was = g.ranged.ranges m.number m.is_pair in
              record { rises = omega (arith, m.same_from, m.same_to, was.rises); inside = omega (arith, m.same_to, was.inside) };
        };
        some = λ k p. let m = came k p in omega (arith, m.same_from, m.same_to, g.some m.number m.is_pair);
      }

  -- and they come to the same
  pub any_order : GoodPairs d bytes words → (room : List ℕ)
      → (written d bytes words room ≡ written d bytes words' room) × (room_after d bytes words room ≡ room_after d bytes words' room)
  any_order g room =
      let same = same_pairs bytes r in
      (same_answer d bytes words bytes words' same g (good_too g) room, same_room d bytes words bytes words' same g (good_too g) room)
