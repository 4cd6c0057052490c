-- All: where many names are answered, the five words of each name are what the lookup of that name alone answers: found, with its field, id,
-- start and end, exactly when that is so, or absent. Names that are equal have equal rows, and never two fields. Assumes nothing.
use Rattle.rules.proofs.Prelude.{◌≡◌, refl, sym, ap, ◌∙◌, ◌↔◌, ◌⊎◌, inl, inr, List, ℕ, ◌+◌, ◌*◌, ◌<◌, add-zero, arith, length, drop, get_or}
use Rattle.rules.proofs.Prelude.{List·getD-append, Answer, gives, each, pass, stop}
use Rattle.rules.proofs.Rows.{rows_length, row_word}
use Rattle.run.specs.Run.{name}
use Rattle.layer.specs.Object.{checks, field_name}
use Rattle.object.proofs.Accepts.{all_pass}
use Rattle.object.proofs.Refuses.{is_due}
use Rattle.object.proofs.Fits.{checks_code}
use Rattle.std.specs.Prelude.{Option, Result}
use Rattle.layer.specs.declared.Refusal.{Refusal}
use Rattle.lookup.specs.declared.Found as lookup
use Rattle.lookup.specs.ByName.{lookup}
use Rattle.lookup.specs.Meaning.{Found, Absent}
use Rattle.lookup.specs.Answers.{lookup_numbers}
use Rattle.lookup.specs.Promises.{GetPromise}
use Rattle.lookup.proofs.Finds as one
use Rattle.rows.specs.Rows.{row_of}
use Rattle.many.specs.Many.{row, row_within, rows_after}
use Rattle.many.specs.Meaning.{Answered, row_at, found_row, absent_row}
use Rattle.many.proofs.Rows.{row_five}
use Rattle.many.proofs.Means.{words_answered}

-- WHAT A ROW SAYS OF ONE NAME

-- it is found or absent
abbrev pub Either : List ℕ → Type 0
Either r = ((f : ℕ) × (i : ℕ) × (a : ℕ) × (e : ℕ) × (r ≡ found_row f i a e)) ⊎ (r ≡ absent_row)

module _ (d o q : List ℕ) where
  found_row_law : (f i a e : ℕ) → (row_of (lookup d o q) ≡ found_row f i a e) ↔ Found d o q f i a e
  found_row_law f i a e = (
    one.by_answer d o q (λ x. row_of x ≡ found_row f i a e → Found d o q f i a e)
        (λ g j b t is w. let f-is : g ≡ f = cc in let i-is : j ≡ i = cc in let a-is : b ≡ a = cc in let e-is : t ≡ e = cc in rw (f-is, i-is, a-is, e-is) at is)
        (λ _ w. let z : ◌≡◌ {A = ℕ} 1 0 = cc in absurd (omega arith))
        (λ c p r w. let z : c ≡ 0 = cc in absurd (omega (arith, checks_code d o (is_due d o r)))),
    λ is. rw ((one.found d o q f i a e).1 is),
  )

  absent_row_law : (row_of (lookup d o q) ≡ absent_row) ↔ Absent d o q
  absent_row_law = (
    one.by_answer d o q (λ x. row_of x ≡ absent_row → Absent d o q) (λ f i a e _ w. let z : ◌≡◌ {A = ℕ} 0 1 = cc in absurd (omega arith)) (λ none w. none)
        (λ c p r w. let z : c ≡ 1 = cc in absurd (omega (arith, checks_code d o (is_due d o r)))),
    λ none. rw ((one.absent_is d o q).1 none),
  )

  either_row : checks d o ≡ pass → Either (row_of (lookup d o q))
  either_row passes =
      one.by_answer d o q (λ x. Either (row_of x)) (λ f i a e _. inl (f, i, a, e, refl)) (λ _. inr refl) λ c p r.
      let stops : checks d o ≡ stop c p = is_due d o r in
      let z : ◌≡◌ {A = ℕ} 0 1 = cc in absurd (omega arith)

-- five words, one by one
five_words : (x : Answer) (after : List ℕ) (k : ℕ) → ((j : ℕ) → j < 5 → get_or after (5 * k + j) 0 ≡ get_or (row_of x) j 0) → row_at after k ≡ row_of x
five_words (gives c v p) after k h =
    let h0 : get_or after (5 * k) 0 ≡ c = rw add-zero at (h 0 (omega arith)) in
    rw (h0, h 1 (omega arith), h 2 (omega arith), h 3 (omega arith), h 4 (omega arith))

module _ (d o names ends words : List ℕ) (n v e : ℕ) (is : Answered d o names ends words n v e) where
  abbrev after : List ℕ
  after = rows_after d o names ends words

  module _ (k : ℕ) (asked : k < length ends) where
    -- word j of name k, and all five
    pub row_is : (j : ℕ) → j < 5 → get_or after (5 * k + j) 0 ≡ get_or (row_of (lookup d o (name names ends k))) j 0
    unfolding row_within
    row_is j p =
        let rows = row d o names ends in
        rw (words_answered d o names ends words n v e is)
        (List·getD-append (each rows (length ends)) (drop (5 * length ends) words) 0 (5 * k + j) (omega (arith, rows_length rows 5 (row_five d o names ends) (length ends)))
        ∙ row_word rows 5 (row_five d o names ends) (length ends) k j asked p)

    pub row_whole : row_at after k ≡ row_of (lookup d o (name names ends k))
    row_whole = five_words (lookup d o (name names ends k)) after k row_is

    pub row_found : (f i a t : ℕ) → (row_at after k ≡ found_row f i a t) ↔ Found d o (name names ends k) f i a t
    row_found f i a t = let says = found_row_law d o (name names ends k) f i a t in (λ w. says.0 (sym row_whole ∙ w), λ h. row_whole ∙ says.1 h)

    pub row_absent : (row_at after k ≡ absent_row) ↔ Absent d o (name names ends k)
    row_absent = let says = absent_row_law d o (name names ends k) in (λ w. says.0 (sym row_whole ∙ w), λ h. row_whole ∙ says.1 h)

    -- one of the two
    pub row_either : Either (row_at after k)
    row_either = rw row_whole (either_row d o (name names ends k) (all_pass d o n v e is.accepted))

    -- whatever `get` returns for that name
    pub row_of_get : (r : Result (Option lookup.Found) Refusal) → GetPromise d o (name names ends k) r → row_at after k ≡ row_of (lookup_numbers r)
    row_of_get r promised = row_whole ∙ ap row_of (sym promised)

  module _ (j k : ℕ) (first-asked : j < length ends) (then-asked : k < length ends) where
    pub row_once : name names ends j ≡ name names ends k → row_at after j ≡ row_at after k
    row_once same = row_whole j first-asked ∙ rw same (sym (row_whole k then-asked))

    -- two rows that are found have one field exactly where they have one name
    pub one_field : (f i a t g h b u : ℕ) → row_at after j ≡ found_row f i a t → row_at after k ≡ found_row g h b u
        → (f ≡ g) ↔ (name names ends j ≡ name names ends k)
    one_field f i a t g h b u at_j at-k =
        let x = (row_found j first-asked f i a t).0 at_j in
        let y = (row_found k then-asked g h b u).0 at-k in (
          λ same. sym x.is_name ∙ ap (field_name d o) same ∙ y.is_name,
          λ same. one.once d o (name names ends k) _ _ _ f g x.accepted x.is_field y.is_field (x.is_name ∙ same) y.is_name,
        )
