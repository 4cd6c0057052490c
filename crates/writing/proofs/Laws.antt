-- How much is written of steps. Assumes nothing.
use Rattle.rules.proofs.Prelude.{◌≡◌, refl, ap, ◌∙◌, List, [], ◌∷◌, ℕ, ◌+◌, ◌*◌, arith, length, length-append}
use Rattle.steps.specs.Path.{Step}
use Rattle.steps.specs.Path.Step.{named, indexed}
use Rattle.writing.specs.Written.{text_of, weight, row_of, names_of, words_of, total}

pub row_length : (from : ℕ) (x : Step) → length (row_of from x) ≡ 3
row_length from (named t) = refl
row_length from (indexed n) = refl

pub names_length : (xs : List Step) → length (names_of xs) ≡ total xs
unfolding names_of total weight
names_length [] = refl
names_length (x ∷ xs) = length-append (text_of x) (names_of xs) ∙ ap (λ (n : ℕ). length (text_of x) + n) (names_length xs)

pub words_length : (from : ℕ) (xs : List Step) → length (words_of from xs) ≡ 3 * length xs
unfolding words_of
words_length from [] = refl
words_length from (x ∷ xs) =
    let e = length-append (row_of from x) (words_of (from + weight x) xs) in
    omega (arith, e, row_length from x, words_length (from + weight x) xs)
