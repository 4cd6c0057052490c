-- What is written, in the order of names: for each name of the list the item of the number that has it. Assumes nothing.
use Rattle.std.specs.Prelude.{List, [], ◌∷◌, ℕ}
use Rattle.names.specs.Search.{Sought, seek}
use Rattle.names.specs.Search.Sought.{nowhere, here}
use Rattle.source.specs.declared.Source.{Source}
use Rattle.source.specs.Names.{name_of, count_of, item_of}
use Rattle.sort.specs.Steps.{labels}
use Rattle.pick.specs.Pick.{list_of}

-- the number, of n, that has a name
abbrev pub place_of : Sought → ℕ
place_of nowhere = 0
place_of (here k) = k

unfoldable pub number_of : (ℕ → List ℕ) → ℕ → List ℕ → ℕ
number_of name n x = place_of (seek name x n)

unfoldable pub numbers_for : (ℕ → List ℕ) → ℕ → List (List ℕ) → List ℕ
numbers_for name n [] = []
numbers_for name n (x ∷ xs) = number_of name n x ∷ numbers_for name n xs

-- the numbers in the order of their names
unfoldable pub numbers_of : List ℕ → List ℕ → Source → List ℕ
numbers_of run words kind = numbers_for (name_of run words kind) (count_of words kind) (list_of run words kind)

-- and what is written for them
unfoldable pub items_of : List ℕ → List ℕ → List ℕ → Source → List (List ℕ)
items_of run words bytes kind = labels (item_of bytes words kind) (numbers_of run words kind)
