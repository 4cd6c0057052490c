-- What the whole call answers and leaves. Assumes nothing.
use Rattle.rules.proofs.Prelude.{◌≡◌, refl, sym, ap, ap₂, ◌∙◌, Bool, true, false, ◌||◌, List, [], ◌∷◌, ◌++◌, ℕ, ◌+◌, ◌*◌, ◌≤◌, ◌<◌, arith, length, drop}
use Rattle.rules.proofs.Prelude.{get_or, sets, sets-eq, lt-ltb, le-ltb, ltb-true, ltb-false, eqb, ltb}
use Rattle.steps.specs.Path.{Step, Parsed, parse}
use Rattle.writing.specs.Written.{Fits, names_of, words_of, total, sizes}
use Rattle.parsing.specs.Parsing.{leading_dot, steps_of, lacking, answer}
use Rattle.writing.specs.Written.Sizes.{bad, of}
use Rattle.part.specs.Part.{part}
use Rattle.part.proofs.Laws.{part_whole}
use Rattle.width.specs.Limits.{u32_max}
use Rattle.chars.specs.Rfc3629.{Text, text_up_to}
use Rattle.chars.proofs.Laws.{text_whole, text_all}
use Rattle.texts.specs.Known.{Tells}
use Rattle.steps.specs.Path.Parsed.{refused, steps}
use Rattle.writing.specs.Steps.{Room, steps_in}
use Rattle.writing.proofs.Laws.{names_length, words_length}
use Rattle.parsing.specs.declared.Refusal.{Refusal}
use Rattle.std.specs.Prelude.{Result, Ok, Err, IsErr, IsErrAnd}
use Rattle.writing.specs.declared.Parsed as measured
use Rattle.parsing.specs.Meaning.{Lacks}
use Rattle.parsing.specs.Meaning.Lacks.{few_words, few_bytes, past_range}
use Rattle.parsing.specs.Answers.{refusal_number}
use Rattle.parsing.specs.Promises.{ParsePromise}

-- THE WHOLE

pub is_bad : (p : Parsed) (code : ℕ) → bad code ≡ sizes p → p ≡ refused code
is_bad (refused d) code e = let z : code ≡ d = cc in ap refused (sym z)
is_bad (steps xs) code e = let z : ◌≡◌ {A = ℕ} 0 1 = cc in absurd (omega arith)

pub is_of : (p : Parsed) (count sum : ℕ) → of count sum ≡ sizes p → (p ≡ steps (steps_in p)) × (count ≡ length (steps_in p)) × (sum ≡ total (steps_in p))
is_of (refused d) count sum e = let z : ◌≡◌ {A = ℕ} 0 1 = cc in absurd (omega arith)
is_of (steps xs) count sum e = (refl, cc, cc)

pub dot_none : (s : List ℕ) → length s ≡ 0 → leading_dot s ≡ false
unfolding leading_dot
dot_none [] h = refl
dot_none (b ∷ s) h = absurd (omega arith)

pub dot_some : (s : List ℕ) → 0 < length s → leading_dot s ≡ eqb (get_or s 0 0) 46
unfolding leading_dot
dot_some [] h = absurd (omega arith)
dot_some (b ∷ s) h = refl

-- ROOM, or none
unfoldable pub Roomy : (names words : List ℕ) (xs : List Step) → Bool → Type 0
Roomy names words xs true = Lacks names words xs
Roomy names words xs false = Fits names words xs

module _ (names words : List ℕ) (xs : List Step) where
  pub roomy : Roomy names words xs (lacking (length names) (length words) (length xs) (total xs))
  unfolding Roomy
  roomy = go (ltb (length words) (3 * length xs)) refl (ltb (length names) (total xs)) refl (ltb u32_max (total xs)) refl
    where
      go : (u : Bool) → ltb (length words) (3 * length xs) ≡ u → (v : Bool) → ltb (length names) (total xs) ≡ v
          → (w : Bool) → ltb u32_max (total xs) ≡ w → Roomy names words xs (u || (v || w))
      go true e v f w g = few_words (ltb-true _ _ e)
      go false e true f w g = few_bytes (ltb-true _ _ f)
      go false e false f true g = past_range (ltb-true _ _ g)
      go false e false f false g = record { rows = ltb-false _ _ e; bytes = ltb-false _ _ f; range = ltb-false _ _ g }

  no_lack : Lacks names words xs → Fits names words xs → ⊥
  no_lack (few_words l) f = omega (arith, f.rows)
  no_lack (few_bytes l) f = omega (arith, f.bytes)
  no_lack (past_range l) f = omega (arith, f.range)

  pub lacking_so : Lacks names words xs → lacking (length names) (length words) (length xs) (total xs) ≡ true
  unfolding Roomy
  lacking_so l = go (lacking (length names) (length words) (length xs) (total xs)) refl roomy
    where
      go : (u : Bool) → lacking (length names) (length words) (length xs) (total xs) ≡ u → Roomy names words xs u
          → lacking (length names) (length words) (length xs) (total xs) ≡ true
      go true e r = e
      go false e r = absurd (no_lack l r)

  pub fits_so : Fits names words xs → lacking (length names) (length words) (length xs) (total xs) ≡ false
  unfolding Roomy
  fits_so f = go (lacking (length names) (length words) (length xs) (total xs)) refl roomy
    where
      go : (u : Bool) → lacking (length names) (length words) (length xs) (total xs) ≡ u → Roomy names words xs u
          → lacking (length names) (length words) (length xs) (total xs) ≡ false
      go true e r = absurd (no_lack r f)
      go false e r = e

-- the checks in their order
not_text : (s : List ℕ) → (Text s → ⊥) → text_up_to s < length s
not_text s n = go (ltb (text_up_to s) (length s)) refl
  where
    go : (u : Bool) → ltb (text_up_to s) (length s) ≡ u → text_up_to s < length s
    go true e = ltb-true (text_up_to s) (length s) e
    go false e = absurd (n (text_all s (ltb-false (text_up_to s) (length s) e)))

pub of_whole : (s : List ℕ) (r : Bool) → Tells (part s 0 (length s)) r → Tells s r
of_whole s r h = rw (part_whole s) at h

module _ (s names words : List ℕ) where
  pub answer_text : (Text s → ⊥) → answer s names words ≡ refused 70
  unfolding answer steps_of
  answer_text n = rw (lt-ltb (text_up_to s) (length s) (not_text s n))

  module _ (is_text : Text s) where
    seen : ltb (text_up_to s) (length s) ≡ false
    seen = le-ltb (text_up_to s) (length s) (omega (arith, text_whole s is_text))

    pub answer_dot : leading_dot s ≡ true → answer s names words ≡ refused 71
    unfolding answer steps_of
    answer_dot e = rw (seen, e)

    module _ (e : leading_dot s ≡ false) where
      pub answer_wrong : (code : ℕ) → bad code ≡ sizes (parse 0 s) → answer s names words ≡ refused code
      unfolding answer steps_of
      answer_wrong code f = rw (seen, e, is_bad (parse 0 s) code f)

      module _ (count sum : ℕ) (f : of count sum ≡ sizes (parse 0 s)) where
        pub answer_room : lacking (length names) (length words) count sum ≡ true → answer s names words ≡ refused 76
        unfolding answer steps_of
        answer_room g = let o = is_of (parse 0 s) count sum f in rw (seen, e, o.0, ← o.1, ← o.2, g)

        pub answer_good : lacking (length names) (length words) count sum ≡ false → answer s names words ≡ steps (steps_in (parse 0 s))
        unfolding answer steps_of
        answer_good g = let o = is_of (parse 0 s) count sum f in rw (seen, e, o.0, ← o.1, ← o.2, g)

  pub room_for : (count sum : ℕ) → of count sum ≡ sizes (parse 0 s) → lacking (length names) (length words) count sum ≡ false → Room s names words
  unfolding Roomy
  room_for count sum f g =
      let (is, k, t) = is_of (parse 0 s) count sum f in
      let xs = steps_in (parse 0 s) in
      let none : lacking (length names) (length words) (length xs) (total xs) ≡ false = rw (← k, ← t) g in
      record { all = xs; is = is; room = rw none at (roomy names words xs) }

  -- what the writer leaves is the steps and then the rest
  pub names_written : Room s names words → sets names 0 (names_of (steps_in (parse 0 s))) ≡ names_of (steps_in (parse 0 s)) ++ drop (total (steps_in (parse 0 s))) names
  names_written r =
      let xs = steps_in (parse 0 s) in
      let x : xs ≡ r.all = ap steps_in r.is in
      let n : length (names_of xs) ≡ total xs = names_length xs in
      let k : 0 + length (names_of xs) ≡ total xs = omega (arith, n) in
      let h : 0 + length (names_of xs) ≤ length names = omega (arith, n, r.room.bytes, ap total x) in
      sets-eq (names_of xs) names 0 h ∙ ap (λ (j : ℕ). names_of xs ++ drop j names) k

  pub words_written : Room s names words → sets words 0 (words_of 0 (steps_in (parse 0 s))) ≡ words_of 0 (steps_in (parse 0 s)) ++ drop (3 * length (steps_in (parse 0 s))) words
  words_written r =
      let xs = steps_in (parse 0 s) in
      let x : xs ≡ r.all = ap steps_in r.is in
      let n : length (words_of 0 xs) ≡ 3 * length xs = words_length 0 xs in
      let k : 0 + length (words_of 0 xs) ≡ 3 * length xs = omega (arith, n) in
      let h : 0 + length (words_of 0 xs) ≤ length words = omega (arith, n, r.room.rows, ap length x) in
      sets-eq (words_of 0 xs) words 0 h ∙ ap (λ (j : ℕ). words_of 0 xs ++ drop j words) k

-- THE PROMISE: a refusal leaves both buffers; the steps are written
pub kept_so : (s names words : List ℕ) (r : Refusal) → answer s names words ≡ refused (refusal_number r) → ParsePromise s names words (Err r) names words
kept_so s names words r e = record { says = rw e; names_left = rw e; words_left = rw e }

-- and so does a step's refusal that is passed on
pub passed_so : (s names words : List ℕ) (r : Result measured.Parsed Refusal) (code : ℕ) → IsErr r × IsErrAnd r (λ e. refusal_number e ≡ code)
    → answer s names words ≡ refused code → ParsePromise s names words r names words
passed_so s names words (Ok m) code (h, k) e = absurd k
passed_so s names words (Err r) code (h, k) e = kept_so s names words r (e ∙ ap refused (sym k))

pub written_so : (s names words names' words' : List ℕ) (m : measured.Parsed) → Room s names words → of m.count m.total ≡ sizes (parse 0 s)
    → answer s names words ≡ steps (steps_in (parse 0 s)) → names' ≡ sets names 0 (names_of (steps_in (parse 0 s)))
    → words' ≡ sets words 0 (words_of 0 (steps_in (parse 0 s))) → ParsePromise s names words (Ok m) names' words'
written_so s names words names' words' m r f e p q =
    let o = is_of (parse 0 s) m.count m.total f in
    let z : of m.count m.total ≡ of (length (steps_in (parse 0 s))) (total (steps_in (parse 0 s))) = ap₂ of o.1 o.2 in
    record { says = rw e z; names_left = rw e (p ∙ names_written s names words r); words_left = rw e (q ∙ words_written s names words r) }
