-- What the loop over the lines goes by: so many lines are pairs, and what is left of the text are the others. Assumes nothing.
use lib.ListN.{drop_of_length-le}
use lib.Seq.{take-append-add, take-append-le, get_or-drop, drop-append_seam, length-take-le, length-sets}
use borrow.Rule.Slice.PartMut.{put_mid}
use Rattle.rules.proofs.Prelude.{◌≡◌, refl, sym, ap, ◌∙◌, List, [], ◌∷◌, ◌++◌, append_assoc, ℕ, ◌+◌, ◌-◌, ◌*◌, ◌/◌, ◌≤◌, ◌<◌, dec_lt, arith}
use Rattle.rules.proofs.Prelude.{length, length-append, List·getD-append, take, drop, length-take, length-drop, take_all, take_at, get_or, get_or-append-add, sets, sets-eq, drop-drop}
use Rattle.part.proofs.Laws.{part_append}
use Rattle.text.specs.Steps.{Reaches}
use Rattle.source.specs.Pairs.{id, from, to, child}
use Rattle.split.specs.Lines.{newline, lines_of}
use Rattle.split.proofs.Laws.{next_line}
use Rattle.pairing.specs.Meaning.{PairOf, Stands, Paired}

-- PAIRS, one after another

pub none_paired : (d : List ℕ) (lines : List (List ℕ)) → Paired d lines [] [] 0
none_paired d lines = record { counts = omega arith; stands = λ k q. absurd (omega arith) }

module _ {d : List ℕ} {lines : List (List ℕ)} {bytes words : List ℕ} {n : ℕ} (p : Paired d lines bytes words n) (i : ℕ) (x : List ℕ) where
  abbrev three : List ℕ
  three = i ∷ length bytes ∷ (length bytes + length x) ∷ []

  -- those before stay
  older : (k : ℕ) → k < n → Stands d (get_or lines k []) (bytes ++ x) (words ++ three) k
  unfolding child
  older k q =
      let s = p.stands k q in
      let a : id (words ++ three) k ≡ id words k = List·getD-append words three 0 (3 * k) (omega (arith, p.counts)) in
      let b : from (words ++ three) k ≡ from words k = List·getD-append words three 0 (3 * k + 1) (omega (arith, p.counts)) in
      let e : to (words ++ three) k ≡ to words k = List·getD-append words three 0 (3 * k + 2) (omega (arith, p.counts)) in
      let same = part_append bytes x (from words k) (to words k) s.rises s.inside in
      record {
        pair = rw (a, b, e, same) s.pair;
        rises = omega (arith, s.rises, b, e);
        inside = simp length-append (omega (arith, s.inside, e));
      }

  -- and one more
  newest : PairOf d (get_or lines n []) i x → Stands d (get_or lines n []) (bytes ++ x) (words ++ three) n
  unfolding child
  newest q =
      let at : 3 * n ≡ length words + 0 = omega (arith, p.counts) in
      let at1 : 3 * n + 1 ≡ length words + 1 = omega (arith, p.counts) in
      let at2 : 3 * n + 2 ≡ length words + 2 = omega (arith, p.counts) in
      let a : id (words ++ three) n ≡ i = rw at (get_or-append-add words three 0 0) in
      let b : from (words ++ three) n ≡ length bytes = rw at1 (get_or-append-add words three 1 0) in
      let e : to (words ++ three) n ≡ length bytes + length x = rw at2 (get_or-append-add words three 2 0) in
      let m : length bytes + length x - length bytes ≡ length x = omega arith in
      let all : take (length bytes + length x - length bytes) (drop (length bytes) (bytes ++ x)) ≡ x =
      rw (m, drop-append_seam bytes x) (take_all (length x) x (omega arith)) in
      record {
        pair = rw (a, b, e, all) q;
        rises = omega (arith, b, e);
        inside = simp length-append (omega (arith, e));
      }

  pub more : PairOf d (get_or lines n []) i x → Paired d lines (bytes ++ x) (words ++ three) (n + 1)
  more q = record { counts = simp length-append (omega (arith, p.counts)); stands = λ k h. by_place k h (dec_lt k n) }
    where
      by_place : (k : ℕ) → k < n + 1 → Dec (k < n) → Stands d (get_or lines k []) (bytes ++ x) (words ++ three) k
      by_place k h (yes r) = older k r
      by_place k h (no r) = let here : k ≡ n = omega arith in rw here (newest q)

-- what was lent, with the part that was filled

bytes_more : (len n k : ℕ) (bytes new : List ℕ) → len ≤ length bytes → n ≤ length new → take (len + n) (put_mid len k bytes new) ≡ take len bytes ++ take n new
bytes_more len n k bytes new h few =
    let front = take len bytes in
    let after = drop k (drop len bytes) in
    let m : length front ≡ len = length-take-le len bytes h in
    ap (λ (j : ℕ). take (j + n) (front ++ (new ++ after))) (sym m) ∙ take-append-add front (new ++ after) n
    ∙ ap (λ (x : List ℕ). front ++ x) (take-append-le n new after few)

words_more : (words v : List ℕ) (count : ℕ) → count + 3 ≤ length words → length v ≡ 3 → take (count + 3) (sets words count v) ≡ take count words ++ v
words_more words v count h e =
    let front : length (take count words) ≡ count = length-take-le count words (omega arith) in
    rw (sets-eq v words count (omega arith)) (take_at (take count words ++ v) _ (count + 3) (simp length-append (omega (arith, e, front))))

-- WHERE THE LOOP STANDS: the lines before `at` are pairs, and what is left are the lines after them

pub record Left (text d bytes words : List ℕ) (at line len count : ℕ) : Type 0 where
  pub paired : Paired d (lines_of text) (take len bytes) (take count words) line
  pub lines_left : drop line (lines_of text) ≡ lines_of (drop at text)
  pub counts : count ≡ 3 * line
  pub halves : 2 * line ≤ at
  pub lines_in : line ≤ length (lines_of text)
  pub bytes_in : len ≤ length bytes
  pub words_in : count ≤ length words

pub begins : (text d bytes words : List ℕ) → Left text d bytes words 0 0 0 0
begins text d bytes words =
    record { paired = none_paired d (lines_of text); lines_left = refl; counts = refl; halves = omega arith; lines_in = omega arith; bytes_in = omega arith; words_in = omega arith }

module _ {text d bytes words : List ℕ} {at line len count : ℕ} (l : Left text d bytes words at line len count) where
  -- a line more
  module _ {end : ℕ} (p : at < length text) (r : Reaches newline text at end) where
    pub within : (at ≤ end) × (end ≤ length text)
    within = omega (arith, (next_line text at end p r).1, r.inside)

    abbrev this : List ℕ
    this = take (end - at) (drop at text)

    left_are : drop line (lines_of text) ≡ this ∷ lines_of (drop (end + 1) text)
    left_are = l.lines_left ∙ (next_line text at end p r).0

    is_line : get_or (lines_of text) line [] ≡ this
    is_line =
        let here : line ≡ line + 0 = omega arith in
        ap (λ (k : ℕ). get_or (lines_of text) k []) here ∙ sym (get_or-drop line (lines_of text) 0 []) ∙ ap (λ (x : List (List ℕ)). get_or x 0 []) left_are

    rest_are : drop (line + 1) (lines_of text) ≡ lines_of (drop (end + 1) text)
    rest_are = sym (drop-drop 1 line (lines_of text)) ∙ ap (λ (x : List (List ℕ)). drop 1 x) left_are

    one_more : line + 1 ≤ length (lines_of text)
    one_more = let n = simp length-drop at (ap (λ (x : List (List ℕ)). length x) left_are) in omega (arith, n, l.lines_in)

    -- which has a byte, the space
    pub some : {i : ℕ} {x : List ℕ} → PairOf d this i x → at < end
    some pair = let h = pair.halves.inside in let s = simp (length-take, length-drop) at h in omega (arith, s)

    pub has_room : {i : ℕ} {x : List ℕ} → PairOf d this i x → 3 * ((length text + 1) / 2) ≤ length words → count + 3 ≤ length words
    has_room pair h = omega (arith, h, some pair, within, l.counts, l.halves)

    pub turn : {i : ℕ} (n : ℕ) (new : List ℕ) → PairOf d this i (take n new) → n ≤ length new → length new ≡ length bytes - len → count + 3 ≤ length words
        → Left text d (put_mid len (length bytes - len) bytes new) (sets words count (i ∷ len ∷ (len + n) ∷ [])) (end + 1) (line + 1) (len + n) (count + 3)
    turn {i} n new pair few same room =
        let b = bytes_more len n (length bytes - len) bytes new l.bytes_in few in
        let w = words_more words (i ∷ len ∷ (len + n) ∷ []) count room refl in
        let lb : length (take len bytes) ≡ len = length-take-le len bytes l.bytes_in in
        let ln : length (take n new) ≡ n = length-take-le n new few in
        record {
          paired = rw (b, w) (rw (lb, ln) at (more l.paired i (take n new) (rw is_line pair)));
          lines_left = rest_are;
          counts = omega (arith, l.counts);
          halves = omega (arith, l.halves, some pair);
          lines_in = one_more;
          bytes_in = simp length-append (omega (arith, lb, few));
          words_in = rw (length-sets words count (i ∷ len ∷ (len + n) ∷ [])) room;
        }

  -- and none left
  pub ended : length text ≤ at → Paired d (lines_of text) (take len bytes) (take count words) (length (lines_of text))
  unfolding lines_of
  ended h =
      let none : drop line (lines_of text) ≡ [] = l.lines_left ∙ rw (drop_of_length-le text h) in
      let n = simp length-drop at (ap (λ (x : List (List ℕ)). length x) none) in
      let all : line ≡ length (lines_of text) = omega (arith, n, l.lines_in) in
      rw all at l.paired
