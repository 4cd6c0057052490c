-- A path is accepted, with its steps, exactly when document 02, i), says so, and refused with a number exactly when that refusal is due
-- (specs/Meaning.antt); and what the call answers, by its promise. Assumes nothing.
use Rattle.rules.proofs.Prelude.{◌≡◌, refl, sym, ap, ◌∙◌, ◌↔◌, Bool, true, false, cond, List, [], ◌∷◌, ℕ, arith, ltb, ltb-true, ltb-false}
use Rattle.rules.proofs.Prelude.{length, false_true}
use borrow.Author.Tests.{eqb-true}
use Rattle.chars.specs.Rfc3629.{Text, text_up_to}
use Rattle.chars.proofs.Laws.{text_whole, text_all}
use Rattle.steps.specs.Path.{Step, Parsed, parse}
use Rattle.steps.specs.Path.Parsed.{refused, steps}
use Rattle.steps.proofs.Means.{spells, refuses as met-refuses}
use Rattle.writing.specs.Written.{total, sizes}
use Rattle.writing.specs.Steps.{steps_in}
use Rattle.parsing.specs.Parsing.{leading_dot, steps_of, lacking, room_for, answer}
use Rattle.parsing.specs.declared.Refusal as declared
use Rattle.std.specs.Prelude.{Ok, Err}
use Rattle.writing.specs.declared.Parsed as measured
use Rattle.parsing.specs.Answers.{refusal_number}
use Rattle.parsing.specs.Promises.{ParsePromise}
use Rattle.parsing.specs.ReadBack.{read_back, Laid}
use Rattle.parsing.proofs.ReadBack.{laid, read_back_law}
use Rattle.parsing.proofs.Laws.{is_bad, is_of, answer_text, answer_dot, answer_wrong, answer_room, answer_good, Roomy, roomy, lacking_so, fits_so}
use Rattle.parsing.specs.Meaning.{LeadsWithDot, Accepted, Refusal}
use Rattle.parsing.specs.Meaning.LeadsWithDot.{dot}
use Rattle.parsing.specs.Meaning.Refusal.{not_text, leading_dot_law, met, no_room}

-- A LEADING DOT
dot_of : (s : List ℕ) → leading_dot s ≡ true → LeadsWithDot s
unfolding leading_dot
dot_of [] e = absurd (false_true e)
dot_of (b ∷ s) e = rw (eqb-true b 46 e) dot

dot_so : {s : List ℕ} → LeadsWithDot s → leading_dot s ≡ true
unfolding leading_dot
dot_so dot = refl

-- WHAT AN ANSWER MEANS
module _ (path names words : List ℕ) where
  Means : Parsed → Type 0
  Means (refused c) = Refusal path names words c
  Means (steps xs) = Accepted path names words xs

  means_room : Text path → (LeadsWithDot path → ⊥) → (p : Parsed) → parse 0 path ≡ p → Means (room_for names words p)
  unfolding Means Roomy
  means_room t n (refused c) e = met t n ((met-refuses path c).0 e)
  means_room t n (steps xs) e = go (lacking (length names) (length words) (length xs) (total xs)) (roomy names words xs)
    where
      go : (u : Bool) → Roomy names words xs u → Means (cond u (refused 76) (steps xs))
      go true r = no_room t n ((spells path xs).0 e) r
      go false r = record { is_text = t; no_dot = n; spelt = (spells path xs).0 e; room = r }

  means : Means (answer path names words)
  unfolding Means answer steps_of
  means = go (ltb (text_up_to path) (length path)) refl (leading_dot path) refl
    where
      go : (u : Bool) → ltb (text_up_to path) (length path) ≡ u → (v : Bool) → leading_dot path ≡ v
          → Means (room_for names words (cond u (refused 70) (cond v (refused 71) (parse 0 path))))
      go true e v f = not_text (λ t. omega (arith, ltb-true (text_up_to path) (length path) e, text_whole path t))
      go false e true f = leading_dot_law (text_all path (ltb-false _ _ e)) (dot_of path f)
      go false e false f =
          means_room (text_all path (ltb-false _ _ e)) (λ d. false_true (sym f ∙ dot_so d)) (parse 0 path) refl

  -- AND BACK
  no_dot_so : (LeadsWithDot path → ⊥) → leading_dot path ≡ false
  no_dot_so n = go (leading_dot path) refl
    where
      go : (u : Bool) → leading_dot path ≡ u → leading_dot path ≡ false
      go true e = absurd (n (dot_of path e))
      go false e = e

  accepted_so : {xs : List Step} → Accepted path names words xs → answer path names words ≡ steps xs
  accepted_so {xs = xs} a =
      let e = (spells path xs).1 a.spelt in
      answer_good path names words a.is_text (no_dot_so a.no_dot) (length xs) (total xs) (sym (ap sizes e)) (fits_so names words xs a.room)
      ∙ ap (λ (p : Parsed). steps (steps_in p)) e

  is_due : {c : ℕ} → Refusal path names words c → answer path names words ≡ refused c
  is_due (not_text n) = answer_text path names words n
  is_due (leading_dot_law t d) = answer_dot path names words t (dot_so d)
  is_due (met {c = c} t n m) = answer_wrong path names words t (no_dot_so n) c (sym (ap sizes ((met-refuses path c).1 m)))
  is_due (no_room {xs = xs} t n s l) =
      answer_room path names words t (no_dot_so n) (length xs) (total xs) (sym (ap sizes ((spells path xs).1 s))) (lacking_so names words xs l)

  -- THE THEOREMS
  pub accepts : (xs : List Step) → (answer path names words ≡ steps xs) ↔ Accepted path names words xs
  unfolding Means
  accepts xs = (λ e. rw e at means, accepted_so)

  pub refuses : (c : ℕ) → (answer path names words ≡ refused c) ↔ Refusal path names words c
  unfolding Means
  refuses c = (λ e. rw e at means, is_due)

-- BY THE PROMISE: what the call's own answer says of the path, and of what it leaves
pub record Read (path names words : List ℕ) (count sum : ℕ) (names' words' : List ℕ) : Type 0 where
  pub all : List Step
  pub accepted : Accepted path names words all
  pub count_is : count ≡ length all
  pub total_is : sum ≡ total all
  pub stand : Laid names' words' 0 all
  pub back : read_back names' words' 0 count ≡ all

module _ (path names words names' words' : List ℕ) where
  pub refused_so : (r : declared.Refusal) → ParsePromise path names words (Err r) names' words'
      → Refusal path names words (refusal_number r) × (names' ≡ names) × (words' ≡ words)
  refused_so r h =
      let e = is_bad (answer path names words) (refusal_number r) h.says in
      ((refuses path names words (refusal_number r)).0 e, h.names_left ∙ rw e, h.words_left ∙ rw e)

  pub parsed_so : (p : measured.Parsed) → ParsePromise path names words (Ok p) names' words' → Read path names words p.count p.total names' words'
  parsed_so p h =
      let (e, k, t) = is_of (answer path names words) p.count p.total h.says in
      let xs = steps_in (answer path names words) in
      record {
        all = xs;
        accepted = (accepts path names words xs).0 e;
        count_is = k;
        total_is = t;
        stand = rw (h.names_left, h.words_left) (laid path names words xs e);
        back = rw (h.names_left, h.words_left, k) (read_back_law path names words xs e);
      }
