-- What is left to write makes the same of the buffers as the whole does. Assumes nothing.
use Rattle.rules.proofs.Prelude.{◌≡◌, refl, sym, ap, ◌∙◌, false, List, [], ◌∷◌, ℕ, suc, ◌+◌, ◌-◌, ◌*◌, ◌/◌, ◌≤◌, ◌<◌, arith}
use Rattle.rules.proofs.Prelude.{length, take, drop, get_or, set, sets}
use Prim.Native.Nat.{◌%◌}
use lib.Seq.{length-sets, take-nil}
use Rattle.width.specs.Limits.{u32_max}
use Rattle.put.proofs.Laws.{copy_turn, sets_append}
use Rattle.brackets.specs.Brackets.{content}
use Rattle.brackets.specs.Steps.{ByteOf}
use Rattle.steps.specs.Path.{Step, Next, Parsed, next, add, parse}
use Rattle.steps.specs.Path.Step.{named, indexed}
use Rattle.steps.specs.Path.Next.{wrong, takes}
use Rattle.steps.specs.Path.Parsed.{refused, steps}
use Rattle.steps.proofs.Laws.{parse_end, parse_wrong, parse_step}
use Rattle.writing.specs.Written.{text_of, weight, row_of, names_of, words_of, total}
use Rattle.writing.specs.Steps.{TakesOf, Due, WroteOf, Room, steps_in}
use Rattle.writing.specs.declared.Extent.{Extent}
use Rattle.writing.proofs.Laws.{row_length}

-- COPIES, byte by byte
module _ (l : List ℕ) (to i len : ℕ) where
  pub content_turn : (s : List ℕ) (at byte size : ℕ) → i < len → ByteOf s at byte size
      → sets l (to + i) (take (len - i) (content false (drop at s)))
      ≡ sets (set l (to + i) byte) (to + (i + 1)) (take (len - (i + 1)) (content false (drop (at + size) s)))
  content_turn s at byte size h b = rw b.content_is (copy_turn l to i len byte (content false (drop (at + size) s)) h)

  pub content_none : (s : List ℕ) (at : ℕ) → content false (drop at s) ≡ [] → sets l (to + i) (take (len - i) (content false (drop at s))) ≡ l
  content_none s at e = rw (e, take-nil (len - i))

-- WHAT STANDS NEXT, where the rest is steps
takes_inj : {x y : Step} {n m : ℕ} → takes x n ≡ takes y m → (x ≡ y) × (n ≡ m)
takes_inj e = (cc, cc)

steps_inj : {xs ys : List Step} → steps xs ≡ steps ys → xs ≡ ys
steps_inj e = cc

none_nothing : {A : Type 0} {code : ℕ} {xs : List Step} → refused code ≡ steps xs → A
none_nothing e = let z : ◌≡◌ {A = ℕ} 0 1 = cc in absurd (omega arith)

pub record Head (s : List ℕ) (at : ℕ) (rest : List Step) : Type 0 where
  pub step : Step
  pub more : ℕ
  pub tail : List Step
  pub is : next (get_or s at 0) (drop (at + 1) s) ≡ takes step more
  pub rest_is : rest ≡ step ∷ tail
  pub tail_is : parse 0 (drop (at + (more + 1)) s) ≡ steps tail

head_of : (s : List ℕ) (at : ℕ) (rest : List Step) → at < length s → parse 0 (drop at s) ≡ steps rest → Head s at rest
head_of s at rest h e = go (next (get_or s at 0) (drop (at + 1) s)) refl
  where
    go : (n : Next) → next (get_or s at 0) (drop (at + 1) s) ≡ n → Head s at rest
    go (wrong code) f = none_nothing (sym (parse_wrong s at code h f) ∙ e)
    go (takes x n) f = by_tail (parse 0 (drop (at + (n + 1)) s)) refl
      where
        by_tail : (p : Parsed) → parse 0 (drop (at + (n + 1)) s) ≡ p → Head s at rest
        by_tail (refused code) g = none_nothing (sym (parse_step s at x n h f ∙ ap (add x) g) ∙ e)
        by_tail (steps xs) g =
            let whole = sym e ∙ parse_step s at x n h f ∙ ap (add x) g in
            record { step = x; more = n; tail = xs; is = f; rest_is = steps_inj whole; tail_is = g }

-- THE STEPS. So many are written, and the rest stands at `at`.
pub record Written (s names₀ words₀ : List ℕ) (at used row : ℕ) (names words : List ℕ) : Type 0 where
  pub rest : List Step
  pub rest_is : parse 0 (drop at s) ≡ steps rest
  pub names_are : sets names₀ 0 (names_of (steps_in (parse 0 s))) ≡ sets names used (names_of rest)
  pub words_are : sets words₀ 0 (words_of 0 (steps_in (parse 0 s))) ≡ sets words row (words_of used rest)
  pub names_room : used + total rest ≤ length names
  pub words_room : row + 3 * length rest ≤ length words
  pub fits : used + total rest ≤ u32_max
  pub same_names : length names ≡ length names₀
  pub same_words : length words ≡ length words₀
  pub inside : at ≤ length s

pub write_start : {s names words : List ℕ} → Room s names words → Written s names words 0 0 0 names words
write_start r =
    record {
      rest = r.all;
      rest_is = r.is;
      names_are = rw r.is;
      words_are = rw r.is;
      names_room = omega (arith, r.room.bytes);
      words_room = omega (arith, r.room.rows);
      fits = omega (arith, r.room.range);
      same_names = refl;
      same_words = refl;
      inside = omega arith;
    }

module _ {s names₀ words₀ : List ℕ} {at used row : ℕ} {names words : List ℕ} (r : Written s names₀ words₀ at used row names words) where
  pub write_due : at < length s → Due s at used row names words
  unfolding total
  write_due h =
      let d = head_of s at r.rest h r.rest_is in
      let t : total r.rest ≡ weight d.step + total d.tail = ap total d.rest_is in
      let k : length r.rest ≡ suc (length d.tail) = ap length d.rest_is in
      record {
        step = d.step;
        more = d.more;
        is = d.is;
        names_room = omega (arith, r.names_room, t);
        words_room = omega (arith, r.words_room, k);
        fits = omega (arith, r.fits, t);
      }

  pub write_turn : {names' words' : List ℕ} {w : Extent} → at < length s → WroteOf s at used row names words names' words' w
      → Written s names₀ words₀ (at + (w.more + 1)) (used + w.len) (row + 3) names' words'
  unfolding names_of words_of total weight
  write_turn {w = w} h o =
      let d = head_of s at r.rest h r.rest_is in
      let x = o.step in
      let same = takes_inj (sym d.is ∙ o.is) in
      let rest_is : r.rest ≡ x ∷ d.tail = d.rest_is ∙ ap (λ (y : Step). y ∷ d.tail) same.0 in
      let t : total r.rest ≡ w.len + total d.tail = ap total rest_is ∙ ap (λ (n : ℕ). n + total d.tail) o.weighs in
      let k : length r.rest ≡ suc (length d.tail) = ap length rest_is in
      let ln = ap length o.names_are ∙ length-sets names used (text_of x) in
      let lw = ap length o.words_are ∙ length-sets words row (row_of used x) in
      record {
        rest = d.tail;
        rest_is = rw (← same.1) d.tail_is;
        names_are =
            r.names_are ∙ ap (λ (xs : List Step). sets names used (names_of xs)) rest_is
            ∙ sets_append names used (text_of x) (names_of d.tail) ∙ rw (o.names_are, o.weighs);
        words_are =
            r.words_are ∙ ap (λ (xs : List Step). sets words row (words_of used xs)) rest_is
            ∙ sets_append words row (row_of used x) (words_of (used + weight x) d.tail) ∙ rw (o.words_are, row_length used x, o.weighs);
        names_room = omega (arith, r.names_room, t, ln);
        words_room = omega (arith, r.words_room, k, lw);
        fits = omega (arith, r.fits, t);
        same_names = ln ∙ r.same_names;
        same_words = lw ∙ r.same_words;
        inside = omega (arith, o.inside);
      }

  pub write_end : length s ≤ at → (names ≡ sets names₀ 0 (names_of (steps_in (parse 0 s)))) × (words ≡ sets words₀ 0 (words_of 0 (steps_in (parse 0 s))))
  unfolding names_of words_of
  write_end h =
      let none : r.rest ≡ [] = steps_inj (sym r.rest_is ∙ parse_end s at h) in
      (sym (r.names_are ∙ rw none), sym (r.words_are ∙ rw none))

-- ONE STEP
module _ {s : List ℕ} {at used row : ℕ} {names words : List ℕ} where
  pub due_room : {len more : ℕ} → Due s at used row names words → TakesOf s at len more
      → (used + len ≤ length names) × (row + 3 ≤ length words) × (used + len ≤ u32_max)
  due_room {len = len} d t =
      let same = takes_inj (sym d.is ∙ t.is) in
      let w : weight d.step ≡ len = ap weight same.0 ∙ t.weighs in
      (omega (arith, d.names_room, w), d.words_room, omega (arith, d.fits, w))

  -- a name t was written, or an index n
  pub wrote_name : (t : List ℕ) {names' words' : List ℕ} {len more : ℕ} → takes (named t) more ≡ next (get_or s at 0) (drop (at + 1) s)
      → length t ≡ len → at + 1 + more ≤ length s → names' ≡ sets names used t → words' ≡ sets words row (0 ∷ used ∷ (used + len) ∷ [])
      → WroteOf s at used row names words names' words' (record { len = len; more = more })
  unfolding weight
  wrote_name t e l h p q = record { step = named t; is = sym e; weighs = l; names_are = p; words_are = q ∙ rw l; inside = h }

  pub wrote_index : {words' : List ℕ} {n more : ℕ} → takes (indexed n) more ≡ next (get_or s at 0) (drop (at + 1) s)
      → at + 1 + more ≤ length s → words' ≡ sets words row (1 ∷ n % 4294967296 ∷ n / 4294967296 ∷ [])
      → WroteOf s at used row names words names words' (record { len = 0; more = more })
  unfolding weight
  wrote_index {n = n} e h q = record { step = indexed n; is = sym e; weighs = refl; names_are = refl; words_are = q; inside = h }
