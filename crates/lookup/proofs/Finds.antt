-- The lookup finds field k exactly when the layer is accepted and k is its field of that name; it says absent exactly when the layer is
-- accepted and has no such field; it refuses as the verdict does; and never two fields have one name. Assumes nothing.
use Rattle.rules.proofs.Prelude.{◌≡◌, refl, ◌∙◌, ◌↔◌, List, [], ◌∷◌, ℕ, ◌+◌, ◌≤◌, ◌<◌, arith, length, Answer, accept, refuse, answered, refused}
use Rattle.rules.proofs.Prelude.{by_meaning}
use Rattle.names.specs.Search.{Sought, seek}
use Rattle.names.specs.Search.Sought.{nowhere, here}
use Rattle.names.proofs.Search as names
use Rattle.dictionary.specs.Dictionary as dictionary
use Rattle.dictionary.specs.Meaning.{Named}
use Rattle.metadata.proofs.Names.{named, name_there}
use Rattle.layer.specs.Object.{count, id, offset, start, end, field_name}
use Rattle.layer.specs.Meaning.{Layer, Refusal}
use Rattle.layer.proofs.Laws.{names_rise, end_is}
use Rattle.object.proofs.Means.{checks_mean}
use Rattle.object.proofs.Accepts.{all_pass}
use Rattle.object.proofs.Refuses.{is_due}
use Rattle.object.proofs.Fits.{checks_code}
use Rattle.lookup.specs.ByName.{absent, found as found_for, lookup, lookup_within, start_of, end_of}
use Rattle.lookup.specs.Meaning.{Found, Absent, Spells}
use Rattle.lookup.specs.Meaning.Spells.{spells}

module _ (d o q : List ℕ) where
  abbrev Good : Type 0
  Good = Layer d o (count o) (start o) (end o)

  -- the layer, a field and its name are enough: what else `Found` says follows, that the id is an entry and that the child has bytes among it
  pub by_name : Good → (k : ℕ) → k < count o → field_name d o k ≡ q → Found d o q k (id o k) (start o + offset o k) (end o)
  unfolding field_name
  by_name g k p e =
      record {
        accepted = g;
        is_field = p;
        is_name = e;
        is_id = refl;
        is_entry = (g.named.names k p).entry;
        id_names = e;
        starts = refl;
        ends = refl;
        has_bytes = omega (arith, end_is o, g.offsets k p);
      }

  -- WHAT IS SO OF EACH CASE IS SO OF THE ANSWER
  pub by_answer : (P : Answer → Type 0) → ((k i a e : ℕ) → Found d o q k i a e → P (accept (k ∷ i ∷ a ∷ e ∷ []))) → (Absent d o q → P absent)
      → ((c p : ℕ) → Refusal d o c p → P (refuse c p)) → P (lookup d o q)
  unfolding lookup_within
  by_answer P is_found is_absent is_refused = by_meaning P _ (checks_mean d o) (λ g. go g (seek (field_name d o) q (count o)) refl) is_refused
    where
      go : Good → (s : Sought) → seek (field_name d o) q (count o) ≡ s → P (found_for o s)
      go g nowhere e = is_absent (record { accepted = g; no_field = names.seek_nowhere (field_name d o) q (count o) e })
      go g (here k) e = let at = names.seek_at (field_name d o) q (count o) k e in is_found k _ _ _ (by_name g k at.0 at.1)

  -- FOUND
  is_there : (k i a e : ℕ) → lookup d o q ≡ accept (k ∷ i ∷ a ∷ e ∷ []) → Found d o q k i a e
  is_there k i a e =
      by_answer (λ x. x ≡ accept (k ∷ i ∷ a ∷ e ∷ []) → Found d o q k i a e)
      (λ j h b f is w. let k-is : j ≡ k = cc in let i-is : h ≡ i = cc in let a-is : b ≡ a = cc in let e-is : f ≡ e = cc in rw (k-is, i-is, a-is, e-is) at is)
      (λ _ w. let z : ◌≡◌ {A = ℕ} 0 1 = cc in absurd (omega arith))
      (λ c p _ w. let z : ◌≡◌ {A = ℕ} 0 1 = cc in absurd (omega arith))

  is_found : (k i a e : ℕ) → Found d o q k i a e → lookup d o q ≡ accept (k ∷ i ∷ a ∷ e ∷ [])
  unfolding lookup_within
  is_found k i a e f =
      let c = all_pass d o _ _ _ f.accepted in
      let only : (j : ℕ) → k < j → j < count o → field_name d o j ≡ q → ⊥ = λ j p r h.
      let same = names.once (field_name d o) q (count o) (names_rise d o c) k j f.is_field r f.is_name h in omega arith in
      answered _ c ∙ rw (names.seek_last (field_name d o) q (count o) k f.is_field f.is_name only, f.is_id, f.starts, f.ends)

  -- ABSENT
  none_there : lookup d o q ≡ absent → Absent d o q
  none_there =
      by_answer (λ x. x ≡ absent → Absent d o q) (λ k i a e _ w. let z : ◌≡◌ {A = ℕ} 0 1 = cc in absurd (omega arith)) (λ none w. none)
      (λ c p r w. let z : c ≡ 1 = cc in absurd (omega (arith, checks_code d o (is_due d o r))))

  is_absent : Absent d o q → lookup d o q ≡ absent
  unfolding lookup_within
  is_absent a = answered _ (all_pass d o _ _ _ a.accepted) ∙ rw (names.seek_none (field_name d o) q (count o) a.no_field)

  -- REFUSED
  turned_down : (c p : ℕ) → (c ≡ 1 → ⊥) → lookup d o q ≡ refuse c p → Refusal d o c p
  turned_down c p n =
      by_answer (λ x. x ≡ refuse c p → Refusal d o c p) (λ k i a e _ w. let z : ◌≡◌ {A = ℕ} 0 1 = cc in absurd (omega arith))
      (λ _ w. let z : c ≡ 1 = cc in absurd (n z))
      (λ b r due w. let c-is : b ≡ c = cc in let p-is : r ≡ p = cc in rw (c-is, p-is) at due)

  -- THE THEOREMS
  pub found : (k i a e : ℕ) → (lookup d o q ≡ accept (k ∷ i ∷ a ∷ e ∷ [])) ↔ Found d o q k i a e
  found k i a e = (is_there k i a e, is_found k i a e)

  -- the same without what follows: an accepted layer, a field of it, its name
  pub found_at : (k : ℕ) → (lookup d o q ≡ accept (k ∷ id o k ∷ (start o + offset o k) ∷ end o ∷ [])) ↔ (Good × (k < count o) × (field_name d o k ≡ q))
  found_at k =
      (λ e. let f = is_there k _ _ _ e in (f.accepted, f.is_field, f.is_name), λ h. is_found k _ _ _ (by_name h.0 k h.1 h.2))

  pub absent_is : (lookup d o q ≡ absent) ↔ Absent d o q
  absent_is = (none_there, is_absent)

  pub refused_is : (c p : ℕ) → (c ≡ 1 → ⊥) → (lookup d o q ≡ refuse c p) ↔ Refusal d o c p
  unfolding lookup_within
  refused_is c p n = (turned_down c p n, λ r. refused _ (is_due d o r))

  pub once : (n v e i j : ℕ) → Layer d o n v e → i < n → j < n → field_name d o i ≡ q → field_name d o j ≡ q → i ≡ j
  once n v e i j l p r a b =
      names.once (field_name d o) q (count o) (names_rise d o (all_pass d o n v e l)) i j (omega arith) (omega arith) a b

  -- where the child lies there are bytes; on absence or refusal it is nothing, at the start
  pub found_inside : (k i a e : ℕ) → Found d o q k i a e → (a ≤ e) × (e ≤ length o)
  found_inside k i a e f = omega arith

  pub child_inside : (start_of (lookup d o q) ≤ end_of (lookup d o q)) × (end_of (lookup d o q) ≤ length o)
  child_inside = by_answer (λ x. (start_of x ≤ end_of x) × (end_of x ≤ length o)) found_inside (λ _. omega arith) (λ c p _. omega arith)

  -- what a host asked a second time for: the name by number at the found id is the query
  pub asked_again : (k i a e : ℕ) → Found d o q k i a e → Spells d q (dictionary.name_at d i)
  asked_again k i a e f =
      let n : Named d i _ _ = record { accepted = f.accepted.named.headed.placed.counted.typed.sized.over; is_entry = f.is_entry; starts = refl; ends = refl } in
      rw ((named d i _ _).1 n) (spells ((name_there d i _ _ n).0 ∙ f.id_names))
