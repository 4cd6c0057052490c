-- What a host learns from many names at one check: the strip's words, exactly when, and the rows. Of 45 the place is a name's number, which a
-- strip carries whole where there are no more than 4,294,967,296 names. Assumes nothing.
use Rattle.rules.proofs.Prelude.{◌≡◌, refl, ap, ◌∙◌, ◌↔◌, List, ◌++◌, ℕ, ◌*◌, ◌≤◌, ◌<◌, dec_lt, arith, lt-ltb, le-ltb, length, drop, get_or, each}
use lib.Seq.{drop_at}
use Rattle.rules.proofs.Rows.{rows_length}
use Rattle.object.proofs.Refuses.{is_due}
use Rattle.object.proofs.Fits.{checks_code}
use Rattle.many.specs.Many.{row, lookups, rows_after}
use Rattle.many.proofs.Rows.{row_five}
use Rattle.many.proofs.Means as many
use Rattle.many.proofs.AllRows as rows
use Rattle.strip.specs.Shapes.{words_of, layer_shape, strip_bytes}
use Rattle.lichenhusk.proofs.Carries.{all_fits}
use Rattle.lichenhusk.specs.Strip.{all_words, filled_after}
use Rattle.lichenhusk.specs.Promises.{AllPromise}
use Rattle.host.specs.Host.{words_in, Tells, AllSays, FillsAll}
use Rattle.host.specs.Host.AllSays.{answered, bad_end, no_room, refused}
use Rattle.host.proofs.Carries.{Fits, Said, tells}
use Rattle.host.proofs.Exactly.{exactly}

module _ (d o names ends words : List ℕ) (few : length ends ≤ 4294967296) where
  pub all_said : Said (AllSays d o names ends words) (all_words d o names ends words)
  all_said =
      many.by_answer d o names ends words (λ x. Fits (words_of layer_shape x) → Said (AllSays d o names ends words) (words_of layer_shape x))
      (λ n v e a f. (f, (λ w. omega arith), answered a))
      (λ k b f. (f, (λ w. omega arith), bad_end b))
      (λ n f. (f, (λ w. omega arith), no_room n))
      (λ c p r f. let s = checks_code d o (is_due d o r.due) in (f, (λ w. omega arith), refused s.0 s.1 r))
      (all_fits d o names ends words few)

  module _ (strip : List ℕ) (code : ℕ) (after words_after : List ℕ) (promised : AllPromise d o names ends words strip code after words_after) where
    -- THE STRIP
    pub all_tells : Tells (AllSays d o names ends words) strip code after
    all_tells = tells _ layer_shape (lookups d o names ends words) strip code after promised.strip_left all_said

    pub all_exactly : strip_bytes ≤ length strip → (six : List ℕ) → (words_in after ≡ six) ↔ AllSays d o names ends words six
    all_exactly enough = exactly strip enough _ layer_shape (lookups d o names ends words) all_said only promised.strip_left
      where
        only : (six : List ℕ) → AllSays d o names ends words six → words_of layer_shape (lookups d o names ends words) ≡ six
        only _ (answered a) = ap (words_of layer_shape) ((many.answered_is d o names ends words _ _ _).1 a)
        only _ (bad_end b) = ap (words_of layer_shape) ((many.bad_end_is d o names ends words _).1 b)
        only _ (no_room n) = ap (words_of layer_shape) ((many.no_room_is d o names ends words).1 n)
        only _ (refused b t r) = ap (words_of layer_shape) ((many.refused_is d o names ends words _ _ (λ e. omega arith) (λ e. omega arith)).1 r)

    -- THE ROWS
    pub all_fills : FillsAll d o names ends words code words_after
    unfolding filled_after
    all_fills = go (dec_lt (length strip) strip_bytes)
      where
        -- what stands after the rows
        rest : words_after ≡ each (row d o names ends) (length ends) ++ drop (5 * length ends) words
            → drop (5 * length ends) words_after ≡ drop (5 * length ends) words
        rest is =
            let rows = each (row d o names ends) (length ends) in
            rw is (drop_at rows (drop (5 * length ends) words) (5 * length ends) (rows_length (row d o names ends) 5 (row_five d o names ends) (length ends)))

        by_case : {six : List ℕ} → AllSays d o names ends words six → words_after ≡ rows_after d o names ends words → FillsAll d o names ends words (get_or six 0 0) words_after
        by_case (answered a) is = record {
          filled = λ _ k p. rw is (rows.row_whole d o names ends words _ _ _ a k p);
          past = λ _. rest (is ∙ many.words_answered d o names ends words _ _ _ a);
          kept = λ m. absurd (m refl);
        }
        by_case (bad_end b) is =
            record { filled = λ z. absurd (omega arith); past = λ z. absurd (omega arith); kept = λ _. is ∙ many.words_bad_end d o names ends words b }
        by_case (no_room n) is =
            record { filled = λ z. absurd (omega arith); past = λ z. absurd (omega arith); kept = λ _. is ∙ many.words_no_room d o names ends words n }
        by_case (refused b t r) is =
            record { filled = λ z. absurd (omega arith); past = λ z. absurd (omega arith); kept = λ _. is ∙ many.words_refused d o names ends words r }

        go : Dec (length strip < strip_bytes) → FillsAll d o names ends words code words_after
        go (yes h) =
            let left : words_after ≡ words = promised.words_left ∙ rw (lt-ltb (length strip) strip_bytes h) in
            let forty = all_tells.no_strip.1 h in
            record { filled = λ z. absurd (omega arith); past = λ z. absurd (omega arith); kept = λ _. left }
        go (no h) =
            let left : words_after ≡ rows_after d o names ends words = promised.words_left ∙ rw (le-ltb (length strip) strip_bytes (omega arith)) in
            let s = all_tells.says (λ f. h (all_tells.no_strip.0 f)) in
            rw s.0 at (by_case s.1 left)
