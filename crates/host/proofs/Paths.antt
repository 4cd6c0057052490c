-- What a host learns from a path's answer: the strip's words, exactly when, and both buffers. A strip carries it whole where the value and the
-- lent words are below 4,294,967,296 (of the empty path the end is the value's length, and 53 has the step's number). Assumes nothing.
use Rattle.rules.proofs.Prelude.{◌≡◌, sym, ap, ◌∙◌, ◌↔◌, List, ℕ, ◌*◌, ◌≤◌, ◌<◌, dec_lt, arith, lt-ltb, le-ltb, length, drop}
use Rattle.rules.proofs.Prelude.{Answer, code_of}
use lib.Seq.{drop_at}
use Rattle.metadata.proofs.Fits as dictionary-fits
use Rattle.metadata.proofs.Refuses as dictionary-refuses
use Rattle.steps.specs.Path.{Step}
use Rattle.writing.specs.Written.{total, names_of, words_of}
use Rattle.writing.proofs.Laws.{names_length, words_length}
use Rattle.parsing.specs.Parsing.{answer, names_after, words_after}
use Rattle.parsing.specs.Meaning as parsing
use Rattle.parsing.specs.Meaning.Refusal.{not_text, leading_dot_law, met, no_room}
use Rattle.parsing.proofs.Means.{accepts, refuses}
use Rattle.parsing.proofs.ReadBack.{laid}
use Rattle.path.specs.Path.{by_path}
use Rattle.path.specs.Meaning.{Says}
use Rattle.path.specs.Meaning.Says.{bad_path, bad_dictionary, walked}
use Rattle.path.proofs.Means as means
use Rattle.strip.specs.Shapes.{words_of as strip_words, lookup_shape, strip_bytes}
use Rattle.lichenhusk.proofs.Carries.{path_code, walk_fits, answer_fits}
use Rattle.lichenhusk.specs.Strip.{path_words, returned, filled_after}
use Rattle.lichenhusk.specs.Promises.{PathPromise}
use Rattle.host.specs.Host.{words_in, Tells, PathSays, Steps, FillsSteps}
use Rattle.host.specs.Host.PathSays.{says}
use Rattle.host.proofs.Carries.{first_is, Said, tells}
use Rattle.host.proofs.Exactly.{exactly}

module _ (d v path names words : List ℕ) (short : length v < 4294967296) (few : length words ≤ 4294967296) where
  -- WHAT THE WORDS SAY
  pub path_said : Said (PathSays d v path names words) (path_words d v path names words)
  path_said =
      let s = means.says d v path names words in
      let f = answer_fits d v path names words short few s in
      (f.0, (λ e. f.1 (sym (first_is lookup_shape (by_path d v path names words)) ∙ e)), says s)

  path_only : (six : List ℕ) → PathSays d v path names words six → path_words d v path names words ≡ six
  path_only _ (says t) = ap (strip_words lookup_shape) (means.said d v path names words t)

  module _ (strip : List ℕ) (code : ℕ) (after names' words' : List ℕ) (promised : PathPromise d v path names words strip code after names' words') where
    -- THE STRIP
    pub path_tells : Tells (PathSays d v path names words) strip code after
    path_tells = tells _ lookup_shape (by_path d v path names words) strip code after promised.strip_left path_said

    pub path_exactly : strip_bytes ≤ length strip → (six : List ℕ) → (words_in after ≡ six) ↔ PathSays d v path names words six
    path_exactly enough = exactly strip enough _ lookup_shape (by_path d v path names words) path_said path_only promised.strip_left

    -- THE TWO BUFFERS
    have_steps : {xs : List Step} → parsing.Accepted path names words xs → names' ≡ names_after (answer path names words) names
        → words' ≡ words_after (answer path names words) words → Steps path names words names' words'
    have_steps {xs} a p q =
        let is = (accepts path names words xs).1 a in
        record {
          all = xs;
          accepted = a;
          stand = rw (p, q) (laid path names words xs is);
          names_rest = rw (p, is) (drop_at (names_of xs) (drop (total xs) names) (total xs) (names_length xs));
          words_rest = rw (q, is) (drop_at (words_of 0 xs) (drop (3 * length xs) words) (3 * length xs) (words_length 0 xs));
        }

    by_case : {r : Answer} → Says d v path names words r → code ≡ code_of r → names' ≡ names_after (answer path names words) names
        → words' ≡ words_after (answer path names words) words → FillsSteps path names words code names' words'
    by_case (bad_path {c = c} r) e p q =
        let is = (refuses path names words c).1 r in
        let z = path_code r in
        record { no_strip = λ f. absurd (omega (arith, z, e, f)); kept = λ _. (rw is at p, rw is at q); filled = λ m h. absurd (omega (arith, z, e, h)) }
    by_case (bad_dictionary a r) e p q =
        let z = dictionary-fits.checks_code d (dictionary-refuses.is_due d r) in
        record { no_strip = λ f. absurd (omega (arith, z, e, f)); kept = λ h. absurd (omega (arith, z, e, h)); filled = λ _ _. have_steps a p q }
    by_case (walked a good t) e p q =
        let z = walk_fits d v path names words short few a t in
        record { no_strip = λ f. absurd (z.2 (sym e ∙ f)); kept = λ h. absurd (omega (arith, z.1, e, h)); filled = λ _ _. have_steps a p q }

    pub path_fills : FillsSteps path names words code names' words'
    unfolding filled_after returned
    path_fills = go (dec_lt (length strip) strip_bytes)
      where
        go : Dec (length strip < strip_bytes) → FillsSteps path names words code names' words'
        go (yes h) =
            let so = lt-ltb (length strip) strip_bytes h in
            let z : code ≡ 40 = promised.strip_left.returns ∙ rw so in
            let p : names' ≡ names = promised.names_left ∙ rw so in
            let q : words' ≡ words = promised.words_left ∙ rw so in
            record { no_strip = λ _. (p, q); kept = λ _. (p, q); filled = λ m. absurd (m z) }
        go (no h) =
            let so = le-ltb (length strip) strip_bytes (omega arith) in
            let z : code ≡ code_of (by_path d v path names words) = promised.strip_left.returns ∙ rw so (first_is lookup_shape (by_path d v path names words)) in
            by_case (means.says d v path names words) z (promised.names_left ∙ rw so) (promised.words_left ∙ rw so)
