-- How many steps a path has, and how long their names are. Assumes nothing.
use Rattle.rules.proofs.Prelude.{◌≡◌, refl, sym, ap₂, ◌∙◌, false, List, ℕ, ◌+◌, ◌≤◌, ◌<◌, arith, length, take, drop, get_or, length-drop}
use lib.Seq.{length-take-le}
use Rattle.brackets.specs.Brackets.{index_limit, content}
use Rattle.steps.specs.Path.{Step, Parsed, next, add, parse}
use Rattle.writing.specs.Written.{Sizes, weight, total, sizes}
use Rattle.steps.specs.Path.Step.{named, indexed}
use Rattle.steps.specs.Path.Next.{wrong, takes}
use Rattle.steps.specs.Path.Parsed.{refused, steps}
use Rattle.writing.specs.Written.Sizes.{bad, of}
use Rattle.writing.specs.Steps.{TakesOf}
use Rattle.steps.proofs.Laws.{parse_end, parse_wrong, parse_step}

-- How many, and how long.

unfoldable pub grow : ℕ → ℕ → Sizes → Sizes
grow k m (bad code) = bad code
grow k m (of a b) = of (k + a) (m + b)

sizes_add : (x : Step) (p : Parsed) → sizes (add x p) ≡ grow 1 (weight x) (sizes p)
unfolding grow total
sizes_add x (refused code) = refl
sizes_add x (steps xs) = ap₂ of (omega arith) refl

grow_grow : (k m a b : ℕ) (z : Sizes) → grow k m (grow a b z) ≡ grow (k + a) (m + b) z
unfolding grow
grow_grow k m a b (bad code) = refl
grow_grow k m a b (of c d) = ap₂ of (omega arith) (omega arith)

grow_none : (z : Sizes) → grow 0 0 z ≡ z
unfolding grow
grow_none (bad code) = refl
grow_none (of a b) = ap₂ of (omega arith) (omega arith)

-- the steps so far have been counted, and the rest stands at `at`
pub record Counted (s : List ℕ) (at count sum : ℕ) : Type 0 where
  pub sizes_are : sizes (parse 0 s) ≡ grow count sum (sizes (parse 0 (drop at s)))
  pub few_steps : count ≤ at
  pub few_bytes : sum ≤ at
  pub inside : at ≤ length s

pub count_start : (s : List ℕ) → Counted s 0 0 0
count_start s = record { sizes_are = sym (grow_none (sizes (parse 0 s))); few_steps = omega arith; few_bytes = omega arith; inside = omega arith }

module _ {s : List ℕ} {at count sum : ℕ} (r : Counted s at count sum) where
  pub count_wrong : {code : ℕ} → at < length s → next (get_or s at 0) (drop (at + 1) s) ≡ wrong code → bad code ≡ sizes (parse 0 s)
  unfolding grow
  count_wrong {code = code} h e = sym (r.sizes_are ∙ rw (parse_wrong s at code h e))

  pub count_end : length s ≤ at → of count sum ≡ sizes (parse 0 s)
  unfolding grow total
  count_end h = sym (r.sizes_are ∙ rw (parse_end s at h) (ap₂ of (omega arith) (omega arith)))

  pub count_turn : {len more : ℕ} → at < length s → TakesOf s at len more → Counted s (at + (more + 1)) (count + 1) (sum + len)
  count_turn {len = len} {more = more} h t =
      let rest = sizes (parse 0 (drop (at + (more + 1)) s)) in
      record {
        sizes_are = r.sizes_are ∙ rw (parse_step s at t.step more h t.is, sizes_add t.step (parse 0 (drop (at + (more + 1)) s)), t.weighs) (grow_grow count sum 1 len rest);
        few_steps = omega (arith, r.few_steps);
        few_bytes = omega (arith, r.few_bytes, t.fewer);
        inside = omega (arith, t.inside);
      }

-- WHAT A SCAN TAKES
module _ {s : List ℕ} {at : ℕ} where
  pub plain_takes : (from : ℕ) {len more : ℕ} → takes (named (take len (drop from s))) more ≡ next (get_or s at 0) (drop (at + 1) s)
      → (from + len ≤ length s) × (len ≤ more + 1) × (at + 1 + more ≤ length s) → TakesOf s at len more
  unfolding weight
  plain_takes from {len = len} e (f, g, h) =
      let rest = drop from s in
      record { step = named (take len rest); is = sym e; weighs = length-take-le len rest (simp length-drop (omega arith)); fewer = g; inside = h }

  pub quoted_takes : (from : ℕ) {len more : ℕ} → takes (named (take len (content false (drop from s)))) more ≡ next (get_or s at 0) (drop (at + 1) s)
      → (len ≤ length (content false (drop from s))) × (len ≤ more + 1) × (at + 1 + more ≤ length s) → TakesOf s at len more
  unfolding weight
  quoted_takes from {len = len} e (f, g, h) =
      let rest = content false (drop from s) in
      record { step = named (take len rest); is = sym e; weighs = length-take-le len rest f; fewer = g; inside = h }

  pub index_takes : {value more : ℕ} → takes (indexed value) more ≡ next (get_or s at 0) (drop (at + 1) s)
      → (value < index_limit) × (at + 1 + more ≤ length s) → TakesOf s at 0 more
  unfolding weight
  index_takes {value = value} e (f, h) = record { step = indexed value; is = sym e; weighs = refl; fewer = omega arith; inside = h }
