-- What a host learns from each call, whatever code was returned (specs/Host.antt); and no word of any answer is too large for its four bytes.
-- Assumes nothing.
use Rattle.rules.proofs.Prelude.{◌≡◌, refl, sym, ap, ◌∙◌, ◌↔◌, List, ◌++◌, ℕ, ◌+◌, ◌*◌, ◌≤◌, ◌<◌, add-zero, dec_lt, arith, lt-ltb, le-ltb}
use Rattle.rules.proofs.Prelude.{length, drop, get_or, List·getD-append, Answer, code_of, by_meaning}
use Rattle.chars.specs.Rfc3629.{Completed}
use Rattle.dictionary.specs.Dictionary as dictionary
use Rattle.dictionary.specs.Meaning.{Refusal}
use Rattle.metadata.proofs.Means as dictionary-means
use Rattle.metadata.proofs.Refuses as dictionary-refuses
use Rattle.metadata.proofs.Refuses.{NoText}
use Rattle.metadata.proofs.Names as dictionary-names
use Rattle.metadata.proofs.Fits as dictionary-fits
use Rattle.metadata.proofs.Says.{too_small, enough}
use Rattle.part.specs.Part.{part}
use Rattle.std.specs.Prelude.{Ok}
use Rattle.lengths.specs.Lengths.{own_length}
use Rattle.layer.specs.Object as object
use Rattle.object.proofs.Means.{checks_mean}
use Rattle.object.proofs.Refuses.{is_due}
use Rattle.object.proofs.Fits.{checks_code}
use Rattle.lookup.specs.ByName.{lookup as lookup-of}
use Rattle.lookup.specs.Meaning.{Found, Absent, Spells}
use Rattle.lookup.specs.Meaning.Spells.{spells}
use Rattle.lookup.proofs.Finds as lookup
use Rattle.listing.specs.Words.{child, span, rows, listed as list_of, words_after as filled}
use Rattle.listing.proofs.Rows.{rows_length}
use Rattle.listing.specs.Meaning.{Listed}
use Rattle.listing.proofs.Listed.{id_word, start_word, span_word, own_length_law, span_some, span_ends}
use Rattle.listing.proofs.Lists as listing
use Rattle.strip.specs.Shapes.{words_of, lookup_shape, layer_shape, dictionary_shape, name_shape, strip_bytes}
use Rattle.lichenhusk.proofs.Carries.{dictionary_fits, name_fits, layer_fits, lookup_fits, list_fits}
use Rattle.lichenhusk.specs.Strip.{lookup_words, layer_words, list_words, verdict_words, name_at_words, filled_after}
use Rattle.lichenhusk.specs.Promises.{DictionaryPromise, NamePromise, LayerPromise, LookupPromise, ListPromise, EmptyPromise}
use Rattle.host.specs.Host.{word, Tells, DictionarySays, NameSays, LayerSays, LookupSays, Spelled, ListSays, Fills, EmptyTells}
use Rattle.host.specs.Host.DictionarySays.{accepted, refused as dictionary-refused}
use Rattle.host.specs.Host.NameSays.{named, no_entry, refused as name-refused}
use Rattle.host.specs.Host.LayerSays.{accepted as layer-accepted, refused as layer-refused}
use Rattle.host.specs.Host.LookupSays.{found, absent, refused as lookup-refused}
use Rattle.host.specs.Host.Spelled.{spelled}
use Rattle.host.specs.Host.ListSays.{listed, no_length, no_room, refused as list_refused}
use Rattle.host.proofs.Carries.{Fits, Said, tells}

-- WHAT THE WORDS OF EACH ANSWER SAY
module _ (d : List ℕ) where
  pub dictionary_said : Said (DictionarySays d) (verdict_words d)
  unfolding dictionary.verdict_within
  dictionary_said =
      by_meaning (λ x. Fits (words_of dictionary_shape x) → Said (DictionarySays d) (words_of dictionary_shape x)) _ (dictionary-means.checks_mean d)
      (λ g f. (f, (λ w. omega arith), accepted g))
      (λ c p due f. let s = dictionary-fits.checks_code d (dictionary-refuses.is_due d due) in (f, (λ w. omega arith), dictionary-refused s.0 s.1 due))
      (dictionary_fits d)

  pub name_said : (i : ℕ) → Said (NameSays d i) (name_at_words d i)
  name_said i =
      dictionary-names.by_answer d i (λ x. Fits (words_of name_shape x) → Said (NameSays d i) (words_of name_shape x))
      (λ a e n f. (f, (λ w. omega arith), named n))
      (λ n f. (f, (λ w. omega arith), no_entry n))
      (λ c p due f. let s = dictionary-fits.checks_code d (dictionary-refuses.is_due d due) in (f, (λ w. omega arith), name-refused s.0 s.1 due))
      (name_fits d i)

module _ (d o : List ℕ) where
  pub layer_said : Said (LayerSays d o) (layer_words d o)
  unfolding object.verdict_within
  layer_said =
      by_meaning (λ x. Fits (words_of layer_shape x) → Said (LayerSays d o) (words_of layer_shape x)) _ (checks_mean d o)
      (λ g f. (f, (λ w. omega arith), layer-accepted g))
      (λ c p due f. let s = checks_code d o (is_due d o due) in (f, (λ w. omega arith), layer-refused s.0 s.1 due))
      (layer_fits d o)

  pub lookup_said : (q : List ℕ) → Said (LookupSays d o q) (lookup_words d o q)
  lookup_said q =
      lookup.by_answer d o q (λ x. Fits (words_of lookup_shape x) → Said (LookupSays d o q) (words_of lookup_shape x))
      (λ k i a e there f. (f, (λ w. omega arith), found there))
      (λ none f. (f, (λ w. omega arith), absent none))
      (λ c p due f. let s = checks_code d o (is_due d o due) in (f, (λ w. omega arith), lookup-refused s.0 s.1 due))
      (lookup_fits d o q)

  pub list_said : (w : List ℕ) → Said (ListSays d o w) (list_words d o w)
  list_said w =
      listing.by_answer d o w (λ x. Fits (words_of layer_shape x) → Said (ListSays d o w) (words_of layer_shape x))
      (λ n v e l f. (f, (λ z. omega arith), listed l))
      (λ k n f. (f, (λ z. omega arith), no_length n))
      (λ n f. (f, (λ z. omega arith), no_room n))
      (λ c p due f. let s = checks_code d o (is_due d o due) in (f, (λ z. omega arith), list_refused s.0 s.1 due))
      (list_fits d o w)

-- THE THEOREMS: what each call tells
module _ (strip : List ℕ) (code : ℕ) (after : List ℕ) where
  pub dictionary_tells : (d : List ℕ) → DictionaryPromise d strip code after → Tells (DictionarySays d) strip code after
  dictionary_tells d l = tells _ dictionary_shape (dictionary.verdict d) strip code after l (dictionary_said d)

  module _ (d : List ℕ) (promised : DictionaryPromise d strip code after) where
    -- it returned a dictionary's refusal: that is due, at the strip's place
    pub returned_refusal : 10 ≤ code → code < 40 → Refusal d code (word after 5)
    returned_refusal p q = let s = (dictionary_tells d promised).says (λ f. omega arith) in rw s.0 at (go s.1 (rw s.0 p))
      where
        go : {w : List ℕ} → DictionarySays d w → 10 ≤ get_or w 0 0 → Refusal d (get_or w 0 0) (get_or w 5 0)
        go (accepted g) p = absurd (omega arith)
        go (dictionary-refused b t r) p = r

    -- 19: the names are no text, and there are further bytes with which they are one; 16: there are none
    pub returned_cut : code ≡ 19 → NoText d (word after 5) × Completed (dictionary.region d)
    returned_cut z = (dictionary-refuses.cut_off d _).0 (rw z at (returned_refusal (omega arith) (omega arith)))

    pub returned_corrupt : code ≡ 16 → NoText d (word after 5) × (Completed (dictionary.region d) → ⊥)
    returned_corrupt z = (dictionary-refuses.corrupt d _).0 (rw z at (returned_refusal (omega arith) (omega arith)))

  pub name_tells : (d : List ℕ) (i : ℕ) → NamePromise d i strip code after → Tells (NameSays d i) strip code after
  name_tells d i l = tells _ name_shape (dictionary.name_at d i) strip code after l (name_said d i)

  module _ (d o : List ℕ) where
    pub layer_tells : LayerPromise d o strip code after → Tells (LayerSays d o) strip code after
    layer_tells l = tells _ layer_shape (object.verdict d o) strip code after l (layer_said d o)

    module _ (q : List ℕ) (promised : LookupPromise d o q strip code after) where
      pub lookup_tells : Tells (LookupSays d o q) strip code after
      lookup_tells = tells _ lookup_shape (lookup-of d o q) strip code after promised (lookup_said d o q)

      -- it returned 0: the strip's words are a field of that name, with its id, start and end
      pub returned_found : code ≡ 0 → Found d o q (word after 1) (word after 2) (word after 3) (word after 4)
      returned_found z = let s = lookup_tells.says (λ f. omega arith) in go s.1 (s.0 ∙ z)
        where
          go : {w : List ℕ} → LookupSays d o q w → get_or w 0 0 ≡ 0 → Found d o q (get_or w 1 0) (get_or w 2 0) (get_or w 3 0) (get_or w 4 0)
          go (found f) z = f
          go (absent a) z = absurd (omega arith)
          go (lookup-refused b t r) z = absurd (omega arith)

      -- a found child is never empty: start is below end exactly where 0 was returned, unless the strip is short
      pub start_below_end : (code ≡ 40 → ⊥) → (code ≡ 0) ↔ (word after 3 < word after 4)
      start_below_end m = let s = lookup_tells.says m in rw s.0 at (go s.1)
        where
          go : {w : List ℕ} → LookupSays d o q w → (get_or w 0 0 ≡ 0) ↔ (get_or w 3 0 < get_or w 4 0)
          go (found f) = (λ z. f.has_bytes, λ h. refl)
          go (absent a) = (λ z. absurd (omega arith), λ h. absurd (omega arith))
          go (lookup-refused b t r) = (λ z. absurd (omega arith), λ h. absurd (omega arith))

      -- and what a host asked a second time for: a name call at the strip's id gives the name that was looked for
      pub name_of_found : code ≡ 0 → (strip' : List ℕ) (code' : ℕ) (after' : List ℕ) → NamePromise d (word after 2) strip' code' after'
          → Tells (Spelled d q) strip' code' after'
      name_of_found z strip' code' after' asked =
          tells _ name_shape (dictionary.name_at d (word after 2)) strip' code' after' asked
          (go (lookup.asked_again d o q _ _ _ _ (returned_found z)) (name_said d (word after 2)).0)
        where
          go : {x : Answer} → Spells d q x → Fits (words_of name_shape x) → Said (Spelled d q) (words_of name_shape x)
          go (spells is) fits = (fits, (λ w. omega arith), spelled is)

      -- it returned 1: there is none
      pub returned_absent : code ≡ 1 → Absent d o q
      returned_absent z = let s = lookup_tells.says (λ f. omega arith) in go s.1 (s.0 ∙ z)
        where
          go : {w : List ℕ} → LookupSays d o q w → get_or w 0 0 ≡ 1 → Absent d o q
          go (found f) z = absurd (omega arith)
          go (absent a) z = a
          go (lookup-refused b t r) z = absurd (omega arith)

    module _ (w words_after : List ℕ) (promised : ListPromise d o w strip code after words_after) where
      pub list_tells : Tells (ListSays d o w) strip code after
      list_tells = tells _ layer_shape (list_of d o w) strip code after promised.strip_left (list_said d o w)

      -- and what it filled
      pub list_fills : Fills o w code after words_after
      unfolding filled_after
      list_fills = go (dec_lt (length strip) strip_bytes)
        where
          by_case : {x : List ℕ} → ListSays d o w x → words_after ≡ filled d o w
              → (get_or x 0 0 ≡ 0 → words_after ≡ rows o (get_or x 1 0) ++ drop (3 * get_or x 1 0) w) × ((get_or x 0 0 ≡ 0 → ⊥) → words_after ≡ w)
          by_case (listed l) q = (λ _. q ∙ listing.words_listed d o w _ _ _ l, λ m. absurd (m refl))
          by_case (no_length r) q = (λ z. absurd (omega arith), λ _. q ∙ listing.words_stay d o w (listing.no_length_stops d o w _ r))
          by_case (no_room r) q = (λ z. absurd (omega arith), λ _. q ∙ listing.words_stay d o w (listing.no_room_stops d o w r))
          by_case (list_refused b t r) q = (λ z. absurd (omega arith), λ _. q ∙ listing.words_stay d o w (listing.refusal_stops d o w r))

          go : Dec (length strip < strip_bytes) → Fills o w code after words_after
          go (yes h) =
              let left : words_after ≡ w = promised.words_left ∙ rw (lt-ltb (length strip) strip_bytes h) in
              record { filled = λ z. absurd (omega (arith, list_tells.no_strip.1 h)); kept = λ _. left }
          go (no h) =
              let left : words_after ≡ filled d o w = promised.words_left ∙ rw (le-ltb (length strip) strip_bytes (omega arith)) in
              let s = list_tells.says (λ f. h (list_tells.no_strip.0 f)) in
              let w = by_case s.1 left in record { filled = λ z. w.0 (s.0 ∙ z); kept = λ m. w.1 (λ z. m (sym s.0 ∙ z)) }

      -- it returned 0: the strip's words are those of an accepted layer, and word j of a field stands in its row
      module _ (z : code ≡ 0) where
        pub returned_listed : Listed d o w (word after 1) (word after 3) (word after 4)
        returned_listed = let s = list_tells.says (λ f. omega arith) in go s.1 (s.0 ∙ z)
          where
            go : {x : List ℕ} → ListSays d o w x → get_or x 0 0 ≡ 0 → Listed d o w (get_or x 1 0) (get_or x 3 0) (get_or x 4 0)
            go (listed l) z = l
            go (no_length r) z = absurd (omega arith)
            go (no_room r) z = absurd (omega arith)
            go (list_refused b t r) z = absurd (omega arith)

        row_word : (k j : ℕ) → k < word after 1 → j < 3 → get_or words_after (3 * k + j) 0 ≡ get_or (rows o (word after 1)) (3 * k + j) 0
        row_word k j p q =
            let n = word after 1 in rw (list_fills.filled z) (List·getD-append (rows o n) (drop (3 * n) w) 0 (3 * k + j) (omega (arith, rows_length o n)))

        -- the id of a field that a lookup finds is the first word of that field's row
        pub id_listed : (q : List ℕ) (k i a e : ℕ) → Found d o q k i a e → get_or words_after (3 * k) 0 ≡ i
        id_listed q k i a e f =
            let field : k < word after 1 = rw returned_listed.accepted.counts f.is_field in
            rw add-zero at (row_word k 0 field (omega arith)) ∙ id_word o _ k field ∙ sym f.is_id

        -- a field's span is the own length of the child at its start, is never 0, and ends at the trimmed end or before
        module _ (k : ℕ) (p : k < word after 1) where
          span_is : get_or words_after (3 * k + 2) 0 ≡ span o k
          span_is = row_word k 2 p (omega arith) ∙ span_word o _ k p

          start_is : get_or words_after (3 * k + 1) 0 ≡ object.start o + object.offset o k
          start_is = row_word k 1 p (omega arith) ∙ start_word o _ k p

          pub own_listed : own_length (part o (get_or words_after (3 * k + 1) 0) (word after 4)) ≡ Ok (get_or words_after (3 * k + 2) 0)
          unfolding child
          own_listed = rw (span_is, start_is, returned_listed.accepted.ends) (own_length_law d o w _ _ _ k returned_listed p)

          pub span_listed : 0 < get_or words_after (3 * k + 2) 0
          span_listed = rw span_is (span_some d o w _ _ _ k returned_listed p)

          pub ends_listed : get_or words_after (3 * k + 1) 0 + get_or words_after (3 * k + 2) 0 ≤ word after 4
          ends_listed = rw (span_is, start_is, returned_listed.accepted.ends) (span_ends d o w _ _ _ k returned_listed p)

-- the empty dictionary
pub empty_tells : (room : List ℕ) (code : ℕ) (after : List ℕ) → EmptyPromise room code after → EmptyTells room code after
empty_tells room code after p = go (dec_lt (length room) 3)
  where
    go : Dec (length room < 3) → EmptyTells room code after
    go (yes h) =
        let w = too_small room h in
        let c : code ≡ 42 = p.returns ∙ ap code_of w.0 in
        record { written = (λ z. absurd (omega arith), λ k. absurd (omega (arith, k.0))); no_room = (λ _. (h, p.leaves ∙ w.1), λ _. c) }
    go (no h) =
        let w = enough room (omega arith) in
        let c : code ≡ 0 = p.returns ∙ ap code_of w.0 in
        record { written = (λ _. (omega arith, p.leaves ∙ w.1), λ _. c); no_room = (λ z. absurd (omega arith), λ k. absurd (h k.0)) }
