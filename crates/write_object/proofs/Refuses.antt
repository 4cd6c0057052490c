-- An answer is given, and each refusal with its place, exactly when document 02 says so (the types of specs/Meaning.antt). Assumes nothing.
use Rattle.rules.proofs.Prelude.{◌≡◌, refl, ◌∙◌, ◌↔◌, List, [], ◌∷◌, ◌++◌, ℕ, length, drop, Answer, accept, refuse, pass, stop, ◌&◌}
use Rattle.rules.proofs.Prelude.{Meant, by_rows, meant_then, meant_map, meant_pass, meant_stop, stops, goes, refused, answered, turned_down, let_through, by_meaning}
use Rattle.dictionary.specs.Dictionary as dictionary-specs
use Rattle.dictionary.specs.Meaning as dictionary-meaning
use Rattle.metadata.proofs.Means as dictionary
use Rattle.metadata.proofs.Accepts as dictionary-accepts
use Rattle.metadata.proofs.Refuses as dictionary-refuses
use Rattle.sets.specs.Sets.{Distinct}
use Rattle.source.specs.Pairs.{pairs}
use Rattle.source.specs.Names.{Entries, GoodRanges}
use Rattle.doubles.specs.Doubles as doubles-specs
use Rattle.doubles.proofs.Means as doubles
use Rattle.pairs.specs.Checks.{pair_name, id_checks}
use Rattle.pairs.specs.Meaning.{SomeBytes}
use Rattle.pairs.proofs.Means.{ids_mean, ids_good, ids_bad, ranges_mean, ranges_good, ranges_bad, empties_mean, empties_good, empties_bad}
use Rattle.builder.specs.Bytes.{object, start, size}
use Rattle.write_object.specs.Writing.{size_rules, size_checks, checks, written, room_after}
use Rattle.write_object.specs.Meaning.{Over, Known, Single, Ranged, GoodPairs, Refusal, Accepted}
use Rattle.write_object.specs.Meaning.Refusal.{of_dictionary, no_entry, double, bad_range, empty_child, too_long, no_room}
use Rattle.write_object.proofs.Laws as laws

module _ (d bytes words room : List ℕ) where
  abbrev Says : Type 0
  Says = Accepted d bytes words room (pairs words) (start d bytes words) (size d bytes words)

  abbrev Due : ℕ → ℕ → Type 0
  Due c p = Refusal d bytes words room c p

  -- EACH REFUSAL THAT IS DUE is given: the checks before it pass
  over : Over d → dictionary-specs.checks d ≡ pass
  over o = dictionary-accepts.all_pass d _ _ o.accepted

  known : Known d words → id_checks d words ≡ pass
  known k = (ids_good d words).1 k.entries

  single : Single d words → doubles-specs.checks (pair_name d words) (pairs words) ≡ pass
  single s = (doubles.good (pair_name d words) (pairs words)).1 s.distinct

  pub pairs_pass : GoodPairs d bytes words → checks d bytes words room ≡ size_checks (size d bytes words) room
  unfolding checks
  pairs_pass g =
      let r = g.ranged in
      let s = r.single in
      goes _ (over s.known.over) ∙ goes _ (known s.known) ∙ goes _ (single s)
      ∙ goes _ ((ranges_good bytes words).1 r.ranges) ∙ goes _ ((empties_good words).1 g.some)

  pub is_due : {c p : ℕ} → Due c p → checks d bytes words room ≡ stop c p
  unfolding checks
  is_due (of_dictionary r) = stops _ (dictionary-refuses.is_due d r)
  is_due (no_entry {k = k} o b) = goes _ (over o) ∙ stops _ ((ids_bad d words k).1 b)
  is_due (double {k = k} n b) = goes _ (over n.over) ∙ goes _ (known n) ∙ stops _ ((doubles.bad (pair_name d words) (pairs words) k).1 b)
  is_due (bad_range {k = k} s b) =
      goes _ (over s.known.over) ∙ goes _ (known s.known) ∙ goes _ (single s) ∙ stops _ ((ranges_bad bytes words k).1 b)
  is_due (empty_child {k = k} r b) =
      let s = r.single in
      goes _ (over s.known.over) ∙ goes _ (known s.known) ∙ goes _ (single s) ∙ goes _ ((ranges_good bytes words).1 r.ranges)
      ∙ stops _ ((empties_bad words k).1 b)
  is_due (too_long g h) = pairs_pass g ∙ laws.too_long (size d bytes words) room h
  is_due (no_room g h k) = pairs_pass g ∙ laws.no_room (size d bytes words) room h k

  -- AND NO OTHER
  pub checks_mean : Meant Says Due (checks d bytes words room)
  unfolding checks size_checks
  checks_mean =
      meant_then _ (meant_map (λ a. over_is a) (λ c p r. of_dictionary r) (dictionary.checks_mean d)) λ o.
      meant_then _ (meant_map (λ e. known_is o e) (λ c p b. of_code (no_entry o b.1) b.0) (ids_mean d words)) λ k.
      meant_then _ (meant_map (λ a. single_is k a) (λ c p b. of_code (double k b.1) b.0) (doubles.checks_mean (pair_name d words) (pairs words))) λ s.
      meant_then _ (meant_map (λ g. ranged_is s g) (λ c p b. of_code (bad_range s b.1) b.0) (ranges_mean bytes words)) λ r.
      meant_then _ (meant_map (λ e. good_is r e) (λ c p b. of_code (empty_child r b.1) b.0) (empties_mean words)) λ g.
      by_rows Says Due (size_rules (size d bytes words) (length room))
      ((λ h. too_long g h) & λ f. (λ h. no_room g f h) & λ e. record { good = g; within = f; fits = e; counts = refl; starts = refl; ends = refl })
    where
      of_code : {c e p : ℕ} → Due c p → c ≡ e → Due e p
      of_code r z = rw z at r

      over_is : dictionary-meaning.Dictionary d (dictionary-specs.count d) (dictionary-specs.end d) → Over d
      over_is a = record { accepted = a }

      known_is : Over d → Entries d words → Known d words
      known_is o e = record { over = o; entries = e }

      single_is : Known d words → Distinct (pair_name d words) 0 (pairs words) → Single d words
      single_is k a = record { known = k; distinct = a }

      ranged_is : Single d words → GoodRanges bytes words → Ranged d bytes words
      ranged_is s g = record { single = s; ranges = g }

      good_is : Ranged d bytes words → SomeBytes words → GoodPairs d bytes words
      good_is r e = record { ranged = r; some = e }

  pub all_pass : {n v b : ℕ} → Accepted d bytes words room n v b → checks d bytes words room ≡ pass
  all_pass a = pairs_pass a.good ∙ laws.has_room (size d bytes words) room a.within a.fits

  -- ONE WAY INTO AN ANSWER
  pub by_answer : (P : Answer → Type 0) → ((n v b : ℕ) → Accepted d bytes words room n v b → P (accept (n ∷ v ∷ b ∷ [])))
      → ((c p : ℕ) → Refusal d bytes words room c p → P (refuse c p)) → P (written d bytes words room)
  unfolding written
  by_answer P is_written is_refused = by_meaning P _ checks_mean (is_written _ _ _) is_refused

  -- THE THEOREMS
  pub refuses : (c p : ℕ) → (written d bytes words room ≡ refuse c p) ↔ Refusal d bytes words room c p
  unfolding written
  refuses c p = (
    λ v. meant_stop checks_mean (turned_down (checks d bytes words room) (pairs words) (start d bytes words ∷ size d bytes words ∷ []) v),
    λ r. refused _ (is_due r),
  )

  pub accepts : (n v b : ℕ) → (written d bytes words room ≡ accept (n ∷ v ∷ b ∷ [])) ↔ Accepted d bytes words room n v b
  unfolding written
  accepts n v b = (
    λ x.
        let w = let_through (checks d bytes words room) (accept (pairs words ∷ start d bytes words ∷ size d bytes words ∷ [])) x in
        let a = meant_pass checks_mean w.0 in
        record { good = a.good; within = a.within; fits = a.fits; counts = cc w.1; starts = cc w.1; ends = cc w.1 },
    λ a. rw (a.counts, a.starts, a.ends) (answered _ (all_pass a)),
  )

  -- AND THE ROOM: a refusal leaves it; what was written stands at its front, what was there after it
  pub refused_room : {c p : ℕ} → Refusal d bytes words room c p → room_after d bytes words room ≡ room
  unfolding room_after
  refused_room r = rw (is_due r)

  pub written_room : {n v b : ℕ} → Accepted d bytes words room n v b → room_after d bytes words room ≡ object d bytes words ++ drop (size d bytes words) room
  unfolding room_after
  written_room a = rw (all_pass a)
