-- Bytes added after the outermost object, after the dictionary or after both, each within the limit, change no answer to a path whose first step
-- is a name, unless it was empty or short (11, 13, 21 or 23): the outermost layer answers as before, and what it hands down are the same bytes.
-- Assumes nothing.
use Rattle.rules.proofs.Prelude.{◌≡◌, refl, sym, ap, ◌∙◌, Bool, true, false, cond, eqb, List, [], ◌∷◌, ◌++◌, ℕ, suc, ◌+◌, ◌≤◌, arith, length, length-append}
use Rattle.rules.proofs.Prelude.{Found, Stays, Answer, gives, refuse, code_of, pass, stop, ◌otherwise◌, answered, refused}
use borrow.Author.Tests.{eqb-true, ne_eqb}
use mathlib.Core.List.{append-nil}
use Rattle.part.proofs.Laws.{part_append, part_whole, part_length}
use Rattle.dictionary.specs.Limits.{limit}
use Rattle.dictionary.specs.Dictionary as dictionary
use Rattle.metadata.proofs.Appended as metadata
use Rattle.object.proofs.Appended.{Settled}
use Rattle.lookup.specs.ByName.{lookup}
use Rattle.lookup.proofs.Appended.{lookup_appended}
use Rattle.elements.specs.Element.{element}
use Rattle.steps.specs.Path.{Step}
use Rattle.steps.specs.Path.Step.{named, indexed}
use Rattle.steps.specs.Path.Parsed.{steps}
use Rattle.parsing.specs.Parsing.{answer}
use Rattle.lookup.specs.declared.Found.{Found as Spot}
use Rattle.strides.specs.Stride.{single, as_step, stride}
use Rattle.strides.proofs.Answers.{by_single}
use Rattle.strides.proofs.Inside.{Within, stride_inside}
use Rattle.path.specs.Path.{whole, handed, spot_of, onward, walk, asked, by_path}

-- neither empty nor short
settled_at : (c : ℕ) → (c ≡ 11 → ⊥) × (c ≡ 13 → ⊥) × (c ≡ 21 → ⊥) × (c ≡ 23 → ⊥) → Settled c
settled_at c h = record { not_empty_dictionary = h.0; not_short_dictionary = h.1; not_empty = h.2; not_short = h.3 }

-- an answer that the walk goes on from, or ends with, is settled where the walk's is
settled_step : (d v : List ℕ) (x : Step) (n a : ℕ) (next : Spot → Answer) → Settled (code_of (onward a (as_step n (single d v x)) next)) → Settled (code_of (single d v x))
settled_step d v x n a next =
    by_single d v x (λ r. Settled (code_of (onward a (as_step n r) next)) → Settled (code_of r))
    (λ k i b e _. settled_at 0 (omega arith))
    (λ c p. go c p (eqb c 22) refl)
  where
    go : (c p : ℕ) (w : Bool) → eqb c 22 ≡ w → Settled (code_of (onward a (cond w (refuse 53 n) (gives c [] p)) next)) → Settled c
    go c p true e s = settled_at c (omega (arith, eqb-true c 22 e))
    go c p false e s = s

module _ (d t : List ℕ) (dictionary-limit : length (d ++ t) ≤ limit) (over : dictionary.checks d ≡ pass) where
  over_more : dictionary.checks (d ++ t) ≡ pass
  over_more = go (dictionary.checks d) over (metadata.checks_kept d t dictionary-limit)
    where
      go : (f : Found) → f ≡ pass → Stays metadata.lifted f (dictionary.checks (d ++ t)) → dictionary.checks (d ++ t) ≡ pass
      go pass e s = s
      go (stop c p) e s = let z : ◌≡◌ {A = ℕ} 0 1 = cc in absurd (omega arith)

  -- a step into the same bytes
  step_same : (s : List ℕ) → length s ≤ limit → (x : Step) → Settled (code_of (single d s x)) → single (d ++ t) s x ≡ single d s x
  step_same s h (named q) settled = rw (append-nil s) at (lookup_appended d t s [] q dictionary-limit (rw (append-nil s) h) settled)
  step_same s h (indexed n) settled = answered (element s n) over_more ∙ sym (answered (element s n) over)

  module _ (v u : List ℕ) (value-limit : length (v ++ u) ≤ limit) where
    shorter : length v ≤ limit
    shorter = omega (arith, length-append v u)

    abbrev Goes : List Step → ℕ → Type 0
    Goes xs n = (at : Spot) → at.start ≤ at.end → at.end ≤ length v → Settled (code_of (walk d v n at xs))
        → walk (d ++ t) (v ++ u) n at xs ≡ walk d v n at xs

    -- where a step answers the same, and what comes after what it found does
    same_onward : (n : ℕ) (at : Spot) → at.start ≤ at.end → at.end ≤ length v → (xs : List Step) (r : Answer) → Within (handed v at) r
        → Settled (code_of (onward at.start r (λ next. walk d v (suc n) next xs))) → Goes xs (suc n)
        → onward at.start r (λ next. walk (d ++ t) (v ++ u) (suc n) next xs) ≡ onward at.start r (λ next. walk d v (suc n) next xs)
    same_onward n at rises inside xs (gives c [] p) w settled goes = refl
    same_onward n at rises inside xs (gives c (k ∷ values) p) w settled goes =
        let l = part_length v at.start at.end rises inside in
        goes (spot_of at.start (k ∷ values)) (omega (arith, w.0)) (omega (arith, w.1, l, rises, inside)) settled

    -- what was found lies in the value, and the walk goes on in the same bytes
    walk_same : (xs : List Step) (n : ℕ) → Goes xs n
    unfolding walk stride
    walk_same [] n at rises inside settled = refl
    walk_same (x ∷ xs) n at rises inside settled =
        let s = handed v at in
        let within = part_length v at.start at.end rises inside in
        let r = step_same s (omega (arith, within, shorter)) x (settled_step d s x n at.start (λ next. walk d v (suc n) next xs) settled) in
        rw (part_append v u at.start at.end rises inside, r)
        (same_onward n at rises inside xs (stride d s n x) (stride_inside d s n x) settled (walk_same xs (suc n)))

    -- THE FIRST STEP, into the outermost object
    settled_of : (q : List ℕ) (xs : List Step) → Settled (code_of (walk d v 0 (whole v) (named q ∷ xs))) → Settled (code_of (lookup d v q))
    unfolding walk stride
    settled_of q xs settled = rw (part_whole v) at (settled_step d (handed v (whole v)) (named q) 0 0 (λ next. walk d v 1 next xs) settled)

    step_in : (q : List ℕ) → Settled (code_of (lookup d v q)) → stride (d ++ t) (handed (v ++ u) (whole (v ++ u))) 0 (named q) ≡ stride d (handed v (whole v)) 0 (named q)
    unfolding stride
    step_in q settled = rw (part_whole (v ++ u), part_whole v, lookup_appended d t v u q dictionary-limit value-limit settled)

    first_same : (q : List ℕ) (xs : List Step) → Settled (code_of (walk d v 0 (whole v) (named q ∷ xs)))
        → walk (d ++ t) (v ++ u) 0 (whole (v ++ u)) (named q ∷ xs) ≡ walk d v 0 (whole v) (named q ∷ xs)
    unfolding walk
    first_same q xs settled =
        let s = handed v (whole v) in
        ap (λ (r : Answer). onward 0 r (λ next. walk (d ++ t) (v ++ u) 1 next xs)) (step_in q (settled_of q xs settled))
        ∙ same_onward 0 (whole v) (omega arith) (omega arith) xs (stride d s 0 (named q)) (stride_inside d s 0 (named q)) settled (walk_same xs 1)

-- THE THEOREM, of steps and of a path
module _ (d t v u : List ℕ) (dictionary-limit : length (d ++ t) ≤ limit) (value-limit : length (v ++ u) ≤ limit) where
  pub asked_appended : (q : List ℕ) (xs : List Step) → Settled (code_of (asked d v (named q ∷ xs))) → asked (d ++ t) (v ++ u) (named q ∷ xs) ≡ asked d v (named q ∷ xs)
  unfolding asked ◌otherwise◌
  asked_appended q xs = go (dictionary.checks d) refl (metadata.checks_kept d t dictionary-limit)
    where
      go : (f : Found) → dictionary.checks d ≡ f → Stays metadata.lifted f (dictionary.checks (d ++ t)) → Settled (code_of (f otherwise walk d v 0 (whole v) (named q ∷ xs)))
          → (dictionary.checks (d ++ t) otherwise walk (d ++ t) (v ++ u) 0 (whole (v ++ u)) (named q ∷ xs)) ≡ (f otherwise walk d v 0 (whole v) (named q ∷ xs))
      go pass e s settled = answered _ s ∙ first_same d t dictionary-limit e v u value-limit q xs settled
      go (stop c p) e s settled = refused _ (s (rw (ne_eqb c 11 settled.not_empty_dictionary, ne_eqb c 13 settled.not_short_dictionary)))

  pub path_appended : (path names words q : List ℕ) (xs : List Step) → answer path names words ≡ steps (named q ∷ xs) → Settled (code_of (by_path d v path names words))
      → by_path (d ++ t) (v ++ u) path names words ≡ by_path d v path names words
  unfolding by_path
  path_appended path names words q xs e settled = rw e (asked_appended q xs (rw e at settled))
