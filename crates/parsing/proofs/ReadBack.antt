-- What is written is the steps: they stand in the two buffers row by row, and are read back exactly. Assumes nothing.
use mathlib.Core.Path.{subst}
use Rattle.rules.proofs.Prelude.{◌≡◌, refl, sym, ap, ap₂, List, [], ◌∷◌, ◌++◌, append_assoc, ℕ, ◌+◌, ◌-◌, ◌*◌, arith, length, length-append, drop}
use Rattle.rules.proofs.Prelude.{get_or, get_or-append-add}
use lib.Seq.{take-append_seam, drop-append_seam, get_or-append_seam}
use Rattle.part.specs.Part.{part}
use Rattle.steps.specs.Path.{Step}
use Rattle.steps.specs.Path.Step.{named, indexed}
use Rattle.steps.specs.Path.Parsed.{steps}
use Rattle.writing.specs.Written.{text_of, weight, row_of, names_of, words_of, total}
use Rattle.writing.proofs.Laws.{row_length}
use Rattle.parsing.specs.Parsing.{answer, names_after, words_after}
use Rattle.parsing.specs.ReadBack.{read_back, StandsAt, Laid}

-- a name that stands after p
part_of : (p t u : List ℕ) → part (p ++ (t ++ u)) (length p) (length p + length t) ≡ t
part_of p t u =
    let e : length p + length t - length p ≡ length t = omega arith in
    rw (e, drop-append_seam p (t ++ u), take-append_seam t u)

-- word k of what stands after q
word_of : (q v : List ℕ) (k : ℕ) → get_or (q ++ v) (length q + k) 0 ≡ get_or v k 0
word_of q v k = get_or-append-add q v k 0

-- a step whose row and name stand so
module _ (p q u v : List ℕ) where
  stands_named : (t : List ℕ) → StandsAt (p ++ (t ++ u)) (q ++ (row_of (length p) (named t) ++ v)) (length q) (named t)
  stands_named t =
      let w = row_of (length p) (named t) ++ v in
      let zero-th : get_or (q ++ w) (length q) 0 ≡ 0 = get_or-append_seam q 0 _ 0 in
      record {
        room = omega (arith, length-append q w);
        is = rw (zero-th, word_of q w 1, word_of q w 2) (ap named (sym (part_of p t u)));
        rises = λ _. omega (arith, word_of q w 1, word_of q w 2);
        inside = λ _. omega (arith, word_of q w 2, length-append p (t ++ u), length-append t u);
      }

  stands_indexed : (n : ℕ) → StandsAt (p ++ u) (q ++ (row_of (length p) (indexed n) ++ v)) (length q) (indexed n)
  stands_indexed n =
      let w = row_of (length p) (indexed n) ++ v in
      let zero-th : get_or (q ++ w) (length q) 0 ≡ 1 = get_or-append_seam q 1 _ 0 in
      record {
        room = omega (arith, length-append q w);
        is = rw (zero-th, word_of q w 1, word_of q w 2) (ap indexed (omega arith));
        rises = λ e. absurd (omega (arith, zero-th));
        inside = λ e. absurd (omega (arith, zero-th));
      }

stands : (x : Step) (p q u v : List ℕ) → StandsAt (p ++ (text_of x ++ u)) (q ++ (row_of (length p) x ++ v)) (length q) x
stands (named t) p q u v = stands_named p q u v t
stands (indexed n) p q u v = stands_indexed p q u v n

lay : (xs : List Step) (p q u v : List ℕ) → Laid (p ++ (names_of xs ++ u)) (q ++ (words_of (length p) xs ++ v)) (length q) xs
unfolding names_of words_of weight
lay [] p q u v = tt
lay (x ∷ xs) p q u v =
    let names : p ++ (names_of (x ∷ xs) ++ u) ≡ p ++ (text_of x ++ (names_of xs ++ u)) = ap (λ (l : List ℕ). p ++ l) (append_assoc (text_of x) (names_of xs) u) in
    let rest = words_of (length p + length (text_of x)) xs in
    let words : q ++ (words_of (length p) (x ∷ xs) ++ v) ≡ q ++ (row_of (length p) x ++ (rest ++ v)) = ap (λ (l : List ℕ). q ++ l) (append_assoc (row_of (length p) x) rest v) in
    let used : length p + length (text_of x) ≡ length (p ++ text_of x) = sym (length-append p (text_of x)) in
    let row : length q + 3 ≡ length (q ++ row_of (length p) x) = omega (arith, length-append q (row_of (length p) x), row_length (length p) x) in
    let more = lay xs (p ++ text_of x) (q ++ row_of (length p) x) u v in
    let after : Laid (p ++ (text_of x ++ (names_of xs ++ u))) (q ++ (row_of (length p) x ++ (rest ++ v))) (length q + 3) xs =
    rw (← append_assoc p (text_of x) (names_of xs ++ u), ← append_assoc q (row_of (length p) x) (rest ++ v), row, used) more in (
      rw (names, words) (stands x p q (names_of xs ++ u) (rest ++ v)),
      subst (λ (l : List ℕ). Laid l (q ++ (words_of (length p) (x ∷ xs) ++ v)) (length q + 3) xs) (sym names)
          (subst (λ (m : List ℕ). Laid (p ++ (text_of x ++ (names_of xs ++ u))) m (length q + 3) xs) (sym words) after),
    )

-- THE STEPS STAND in the two buffers after an accepted path, three words each, from the first word on
pub laid : (s names words : List ℕ) (xs : List Step) → answer s names words ≡ steps xs
    → Laid (names_after (answer s names words) names) (words_after (answer s names words) words) 0 xs
laid s names words xs e = rw e (lay xs [] [] (drop (total xs) names) (drop (3 * length xs) words))

-- what is laid from `row` on is read back
pub read_laid : (names words : List ℕ) (row : ℕ) (xs : List Step) → Laid names words row xs → read_back names words row (length xs) ≡ xs
unfolding read_back
read_laid names words row [] l = refl
read_laid names words row (x ∷ xs) (h, l) =
    ap₂ ◌∷◌ (sym h.is) (read_laid names words (row + 3) xs l)

-- AND ARE READ BACK exactly
pub read_back_law : (s names words : List ℕ) (xs : List Step) → answer s names words ≡ steps xs
    → read_back (names_after (answer s names words) names) (words_after (answer s names words) words) 0 (length xs) ≡ xs
read_back_law s names words xs e = read_laid _ _ 0 xs (laid s names words xs e)
