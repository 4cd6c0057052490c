-- A PATH ANSWERS WHAT THE SINGLE LOOKUPS ANSWER, one after another: the definition is their iteration (`walks`); a path of one step is the
-- single lookup, save that 53 stands for its 22 (`one_step`); and a path of more is that of its first steps, and then that of the others
-- where it ended (`and_then`, `next_step`). Assumes nothing.
use Rattle.rules.proofs.Prelude.{◌≡◌, refl, ◌∙◌, Bool, true, false, cond, eqb, ne_eqb, List, [], ◌∷◌, ◌++◌, ℕ, suc, ◌+◌, arith, length, add-zero}
use Rattle.rules.proofs.Prelude.{Found, Answer, accept, gives, refuse, pass, stop, ◌otherwise◌, answered, refused}
use native.Mathlib.Nat.{zero-add}
use Rattle.part.proofs.Laws.{part_whole}
use Rattle.dictionary.specs.Dictionary as dictionary
use Rattle.metadata.proofs.Fits.{checks_code}
use Rattle.layer.proofs.Laws.{by_dictionary}
use Rattle.lookup.specs.ByName.{lookup_within}
use Rattle.steps.specs.Path.{Step}
use Rattle.steps.specs.Path.Step.{named, indexed}
use Rattle.lookup.specs.declared.Found.{Found as Spot}
use Rattle.strides.specs.Stride.{single, as_step, stride}
use Rattle.strides.proofs.Answers.{by_single}
use Rattle.path.specs.Path.{whole, handed, spot_of, onward, arrival, walk, asked}

module _ (d v : List ℕ) where
  -- THE ITERATION, for any steps
  pub walks : (n : ℕ) (at : Spot) (x : Step) (xs : List Step)
      → walk d v n at (x ∷ xs) ≡ onward at.start (as_step n (single d (handed v at) x)) (λ next. walk d v (suc n) next xs)
  unfolding walk stride
  walks n at x xs = refl

  -- no steps: the whole value, whatever it is
  pub no_steps : asked d v [] ≡ (dictionary.checks d otherwise accept (0 ∷ 0 ∷ 0 ∷ length v ∷ []))
  unfolding asked walk
  no_steps = refl

  -- ONE STEP: the single lookup
  abbrev Again : ℕ → Answer → Type 0
  Again n r = onward 0 (as_step n r) arrival ≡ as_step n r

  again : (n : ℕ) (x : Step) → Again n (single d v x)
  again n x = by_single d v x (Again n) (λ k i a e. rw (zero-add a, zero-add e)) λ c p. go c p (eqb c 22)
    where
      go : (c p : ℕ) (u : Bool) → onward 0 (cond u (refuse 53 n) (gives c [] p)) arrival ≡ cond u (refuse 53 n) (gives c [] p)
      go c p true = refl
      go c p false = refl

  refused_first : (x : Step) {c p : ℕ} → dictionary.checks d ≡ stop c p → single d v x ≡ refuse c p
  unfolding lookup_within
  refused_first (named q) e = refused _ (by_dictionary d v e)
  refused_first (indexed n) e = refused _ e

  pub one_step : (x : Step) → asked d v (x ∷ []) ≡ as_step 0 (single d v x)
  unfolding asked walk stride
  one_step x = go (dictionary.checks d) refl
    where
      go : (f : Found) → dictionary.checks d ≡ f → (f otherwise onward 0 (as_step 0 (single d (handed v (whole v)) x)) arrival) ≡ as_step 0 (single d v x)
      go pass e = answered _ refl ∙ rw (part_whole v) (again 0 x)
      go (stop c p) e = refused _ refl ∙ rw (refused_first x e, ne_eqb c 22 (λ z. omega (arith, checks_code d e)))

  -- FIRST STEPS AND OTHERS
  pub and_then : (n : ℕ) (at : Spot) (xs ys : List Step)
      → walk d v n at (xs ++ ys) ≡ onward 0 (walk d v n at xs) (λ next. walk d v (n + length xs) next ys)
  unfolding walk
  and_then n at [] ys = rw (add-zero n, zero-add at.start, zero-add at.end)
  and_then n at (x ∷ xs) ys = go (stride d (handed v at) n x) (λ next. and_then (suc n) next xs ys)
    where
      more : n + suc (length xs) ≡ suc n + length xs
      more = omega arith

      go : (r : Answer) → ((next : Spot) → walk d v (suc n) next (xs ++ ys) ≡ onward 0 (walk d v (suc n) next xs) (λ to. walk d v (suc n + length xs) to ys))
          → onward at.start r (λ next. walk d v (suc n) next (xs ++ ys))
          ≡ onward 0 (onward at.start r (λ next. walk d v (suc n) next xs)) (λ next. walk d v (n + suc (length xs)) next ys)
      go (gives code [] place) later = refl
      go (gives code (k ∷ values) place) later = rw more (later (spot_of at.start (k ∷ values)))

  -- ONE STEP MORE: where the steps before it ended, the single lookup in the bytes that they found, said from the whole's first byte
  pub next_step : (xs : List Step) (x : Step)
      → asked d v (xs ++ (x ∷ [])) ≡ onward 0 (asked d v xs) (λ at. onward at.start (as_step (length xs) (single d (handed v at) x)) arrival)
  unfolding asked walk stride ◌otherwise◌
  next_step xs x = go (dictionary.checks d)
    where
      go : (f : Found) → (f otherwise walk d v 0 (whole v) (xs ++ (x ∷ [])))
          ≡ onward 0 (f otherwise walk d v 0 (whole v) xs) (λ at. onward at.start (as_step (length xs) (single d (handed v at) x)) arrival)
      go pass = and_then 0 (whole v) xs (x ∷ []) ∙ rw (zero-add (length xs))
      go (stop c p) = refl
