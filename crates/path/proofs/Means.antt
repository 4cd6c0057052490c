-- A path is answered exactly as specs/Meaning.antt says it in words. Assumes nothing.
use Rattle.rules.proofs.Prelude.{◌≡◌, refl, ◌∙◌, ◌↔◌, Bool, true, false, cond, eqb, List, [], ◌∷◌, ℕ, suc, arith, Answer, refuse, pass, by_meaning, answered}
use Rattle.rules.proofs.Laws as rules
use borrow.Author.Tests.{eqb-true, eqb-false, ne_eqb}
use Rattle.dictionary.specs.Dictionary as dictionary
use Rattle.metadata.proofs.Means as metadata
use Rattle.metadata.proofs.Accepts.{all_pass}
use Rattle.metadata.proofs.Refuses.{is_due as is-due-dictionary}
use Rattle.layer.specs.Meaning as object
use Rattle.object.proofs.Refuses.{is_due}
use Rattle.object.proofs.Fits.{checks_code}
use Rattle.lookup.proofs.Finds as lookup
use Rattle.elements.specs.Element.{element}
use Rattle.elements.specs.Meaning as list
use Rattle.elements.proofs.Means as elements
use Rattle.steps.specs.Path.{Step, Parsed}
use Rattle.steps.specs.Path.Parsed.{refused, steps}
use Rattle.steps.specs.Path.Step.{named, indexed}
use Rattle.parsing.specs.Parsing.{answer}
use Rattle.parsing.specs.Meaning.{Accepted}
use Rattle.parsing.proofs.Means as parsing
use Rattle.lookup.specs.declared.Found.{Found as Spot}
use Rattle.strides.specs.Stride.{as_step, stride}
use Rattle.path.specs.Path.{whole, handed, onward, walk, asked, by_parsed, by_path}
use Rattle.path.specs.Meaning.{Ends, Says}
use Rattle.path.specs.Meaning.Ends.{arrived, by_name, by_index, no_name, no_index, no_object, no_list, bad_object, bad_list}
use Rattle.path.specs.Meaning.Says.{bad_path, bad_dictionary, walked}

-- a refusal as a step's: 22 is told as 53
as_a_step : (n c p : ℕ) (P : Answer → Type 0) → (c ≡ 22 → P (refuse 53 n)) → ((c ≡ 22 → ⊥) → P (refuse c p)) → P (as_step n (refuse c p))
as_a_step n c p P kind other = go (eqb c 22) refl
  where
    go : (u : Bool) → eqb c 22 ≡ u → P (cond u (refuse 53 n) (refuse c p))
    go true e = kind (eqb-true c 22 e)
    go false e = other (eqb-false c 22 e)

module _ (d v : List ℕ) (over : dictionary.checks d ≡ pass) where
  -- what a step goes on with
  abbrev Next : Type 0
  Next = Spot → Answer

  -- THE WALK ENDS AS IT SAYS
  by_named : (n : ℕ) (at : Spot) (q : List ℕ) (xs : List Step) (next : Next) → ((to : Spot) → Ends d v (suc n) to xs (next to))
      → Ends d v n at (named q ∷ xs) (onward at.start (stride d (handed v at) n (named q)) next)
  unfolding stride
  by_named n at q xs next more =
      let P : Answer → Type 0 = λ r. Ends d v n at (named q ∷ xs) (onward at.start (as_step n r) next) in
      lookup.by_answer d (handed v at) q P (λ k i a e f. by_name f (more _)) (λ none. no_name none) λ c p r.
      as_a_step n c p (λ s. Ends d v n at (named q ∷ xs) (onward at.start s next)) (λ e. no_object (rw e at r)) (λ e. bad_object r e)

  by_indexed : (n : ℕ) (at : Spot) (m : ℕ) (xs : List Step) (next : Next) → ((to : Spot) → Ends d v (suc n) to xs (next to))
      → Ends d v n at (indexed m ∷ xs) (onward at.start (stride d (handed v at) n (indexed m)) next)
  unfolding stride
  by_indexed n at m xs next more =
      let P : Answer → Type 0 = λ r. Ends d v n at (indexed m ∷ xs) (onward at.start (as_step n r) next) in
      rw (answered (element (handed v at) m) over)
      (elements.by_answer (handed v at) m P (λ a e f. by_index f (more _)) (λ none. no_index none) λ c p r.
      as_a_step n c p (λ s. Ends d v n at (indexed m ∷ xs) (onward at.start s next)) (λ e. no_list (rw e at r)) (λ e. bad_list r e))

  pub ends : (n : ℕ) (at : Spot) (xs : List Step) → Ends d v n at xs (walk d v n at xs)
  unfolding walk
  ends n at [] = arrived
  ends n at (named q ∷ xs) = by_named n at q xs _ (λ to. ends (suc n) to xs)
  ends n at (indexed m ∷ xs) = by_indexed n at m xs _ (λ to. ends (suc n) to xs)

  -- AND NO OTHER WAY
  pub only : {n : ℕ} {at : Spot} {xs : List Step} {r : Answer} → Ends d v n at xs r → walk d v n at xs ≡ r
  unfolding walk stride
  only arrived = refl
  only (by_name {at = at} {q = q} f more) = rw ((lookup.found d (handed v at) q _ _ _ _).1 f) (only more)
  only (by_index {m = m} {at = at} f more) = rw (answered (element (handed v at) m) over, (elements.found (handed v at) m _ _).1 f) (only more)
  only (no_name {at = at} {q = q} none) = rw ((lookup.absent_is d (handed v at) q).1 none)
  only (no_index {m = m} {at = at} none) = rw (answered (element (handed v at) m) over, (elements.absent (handed v at) m).1 none)
  only (no_object {p = p} {at = at} {q = q} r) = rw ((lookup.refused_is d (handed v at) q 22 p (λ e. omega arith)).1 r)
  only (no_list {m = m} {p = p} {at = at} r) =
      rw (answered (element (handed v at) m) over, (elements.refused (handed v at) m 22 p (λ e. omega arith)).1 r)
  only (bad_object {c = c} {p = p} {at = at} {q = q} r other) =
      let known = checks_code d (handed v at) (is_due d (handed v at) r) in
      rw ((lookup.refused_is d (handed v at) q c p (λ e. omega (arith, known))).1 r, ne_eqb c 22 other)
  only (bad_list {m = m} {c = c} {p = p} {at = at} r other) =
      let known = elements.refusal_code (handed v at) r in
      rw (answered (element (handed v at) m) over, (elements.refused (handed v at) m c p (λ e. omega (arith, known))).1 r, ne_eqb c 22 other)

  pub walk_ends : (n : ℕ) (at : Spot) (xs : List Step) (r : Answer) → (walk d v n at xs ≡ r) ↔ Ends d v n at xs r
  walk_ends n at xs r = (λ e. rw e at (ends n at xs), only)

-- THE WHOLE ANSWER, in words
module _ (d v path names words : List ℕ) where
  abbrev Told : Answer → Type 0
  Told = Says d v path names words

  steps_say : (xs : List Step) → Accepted path names words xs → Told (asked d v xs)
  unfolding asked
  steps_say xs a =
      by_meaning Told _ (metadata.checks_mean d) (λ good. walked a good (ends d v (all_pass d _ _ good) 0 (whole v) xs)) (λ c p r. bad_dictionary a r)

  pub says : Told (by_path d v path names words)
  unfolding by_path
  says = go (answer path names words) refl
    where
      go : (r : Parsed) → answer path names words ≡ r → Told (by_parsed d v r)
      go (refused c) e = bad_path ((parsing.refuses path names words c).0 e)
      go (steps xs) e = steps_say xs ((parsing.accepts path names words xs).0 e)

  -- and nothing else is
  pub said : {r : Answer} → Told r → by_path d v path names words ≡ r
  unfolding by_path asked
  said (bad_path {c = c} r) = rw ((parsing.refuses path names words c).1 r)
  said (bad_dictionary {xs = xs} a r) = rw ((parsing.accepts path names words xs).1 a) (rules.refused _ (is-due-dictionary d r))
  said (walked {xs = xs} a good e) =
      let over = all_pass d _ _ good in rw ((parsing.accepts path names words xs).1 a) (rules.answered _ over ∙ only d v over e)

  pub answers : (r : Answer) → (by_path d v path names words ≡ r) ↔ Told r
  answers r = (λ e. rw e at says, said)
