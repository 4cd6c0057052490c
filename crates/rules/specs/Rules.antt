-- Ordered checks, the language in which every verdict of this project is written: a table of rows "test ⇒ number at place", of which the
-- first row that holds gives the refusal (document 01, "Checks, in order" and "Answers"). Definitions only; the laws are in proofs/Laws.antt.
-- Assumes nothing.
use Rattle.std.specs.Prelude.{◌≡◌, Bool, true, false, not, cond, ◌&&◌, ◌||◌, ◌⊎◌, List, [], ◌∷◌, ◌++◌, ℕ, zero, suc, ◌≤◌, ◌<◌, ltb, leb, eqb}

infix 30 ◌<?◌
infix 30 ◌≤?◌
infix 30 ◌≠?◌
infixr 28 ◌and◌
infixr 27 ◌or◌
infix 25 ◌⇒◌at◌
infixr 12 ◌or_else◌
infixr 10 ◌otherwise◌
-- ANSWERS, in the paper's numbers: the code, the values that come with it, and the place.

pub data Answer : Type 0 where
  gives : (code : ℕ) (values : List ℕ) (place : ℕ) → Answer

abbrev pub refuse : ℕ → ℕ → Answer
refuse code place = gives code [] place

-- 0: accepted, found or written
abbrev pub accept : List ℕ → Answer
accept values = gives 0 values 0

abbrev pub code_of : Answer → ℕ
code_of (gives code values place) = code

-- TESTS, as data: what a test says where it holds (true), what it says where it fails (false), and which of the two is so.

pub data Test : Type 0 where
  ◌<?◌ : ℕ → ℕ → Test
  ◌≤?◌ : ℕ → ℕ → Test
  ◌≠?◌ : ℕ → ℕ → Test
  is : Bool → Test
  isn't : Bool → Test
  ◌and◌ : Test → Test → Test
  ◌or◌ : Test → Test → Test

-- what is so of a test that was answered by a bool; of two tests one holds: where the first fails, the second holds
abbrev pub Says : Bool → Test → Type 0
Says true (a <? b) = a < b
Says false (a <? b) = b ≤ a
Says true (a ≤? b) = a ≤ b
Says false (a ≤? b) = b < a
Says true (a ≠? b) = a ≡ b → ⊥
Says false (a ≠? b) = a ≡ b
Says true (is b) = b ≡ true
Says false (is b) = b ≡ false
Says true (isn't b) = b ≡ false
Says false (isn't b) = b ≡ true
Says true (t and u) = Says true t × Says true u
Says false (t and u) = Says true t → Says false u
Says true (t or u) = Says false t → Says true u
Says false (t or u) = Says false t × Says false u

abbrev pub Holds : Test → Type 0
Holds t = Says true t

abbrev pub Fails : Test → Type 0
Fails t = Says false t

abbrev pub holds : Test → Bool
holds (a <? b) = ltb a b
holds (a ≤? b) = leb a b
holds (a ≠? b) = not (eqb a b)
holds (is b) = b
holds (isn't b) = not b
holds (t and u) = holds t && holds u
holds (t or u) = holds t || holds u

-- ROWS AND TABLES.

-- where the test holds, the refusal of this number at this place
pub data Rule : Type 0 where
  ◌⇒◌at◌ : Test → ℕ → ℕ → Rule

-- what a table comes to: the first row that holds stops with its number and place, or all rows pass
pub data Found : Type 0 where
  pass : Found
  stop : (code place : ℕ) → Found

unfoldable pub first : List Rule → Found
first [] = pass
first ((test ⇒ code at place) ∷ rows) = cond (holds test) (stop code place) (first rows)

-- "entry by entry": the table of 0, then the table of 1, and so on up to n; and words that are written row by row
unfoldable pub each : {A : Type 0} → (ℕ → List A) → ℕ → List A
each table zero = []
each table (suc n) = each table n ++ table n

-- the next check, where all before it passed
unfoldable pub ◌or_else◌ : Found → Found → Found
◌or_else◌ pass next = next
◌or_else◌ (stop code place) next = stop code place

-- the answer, where all checks passed
unfoldable pub ◌otherwise◌ : Found → Answer → Answer
◌otherwise◌ pass answer = answer
◌otherwise◌ (stop code place) answer = refuse code place

-- what is written to lent memory, where all checks passed; any refusal leaves it
abbrev pub unless_refused : Found → List ℕ → List ℕ → List ℕ
unless_refused pass written kept = written
unless_refused (stop code place) written kept = kept

-- WHAT TABLES SAY.

-- no row holds
abbrev pub Passed : List Rule → Type 0
Passed [] = Unit {0}
Passed ((test ⇒ code at place) ∷ rows) = Fails test × Passed rows

-- row k is the first that holds
abbrev pub At : ℕ → List Rule → Type 0
At k [] = ⊥
At zero ((test ⇒ code at place) ∷ rows) = Holds test
At (suc k) ((test ⇒ code at place) ∷ rows) = Fails test × At k rows

-- the refusal of row k
abbrev pub refusal_at : ℕ → List Rule → Found
refusal_at k [] = pass
refusal_at zero ((test ⇒ code at place) ∷ rows) = stop code place
refusal_at (suc k) ((test ⇒ code at place) ∷ rows) = refusal_at k rows

-- what is so of every row's number and place
abbrev pub Rows : (ℕ → ℕ → Type 0) → List Rule → Type 0
Rows Is [] = Unit {0}
Rows Is ((test ⇒ code at place) ∷ rows) = Is code place × Rows Is rows

-- MORE BYTES. Two tables, of the same bytes before and after some are added, row by row: numbers and places are the same; where all rows
-- before it failed, a row that failed fails again; and one that held holds again, unless its number is one that more bytes may lift.

abbrev pub Stands : Bool → Test → Test → Type 0
Stands true test test' = Unit {0}
Stands false test test' = Holds test → Holds test'

abbrev pub Kept : (lifted : ℕ → Bool) → List Rule → List Rule → Type 0
Kept lifted [] [] = Unit {0}
Kept lifted [] (row' ∷ rows') = ⊥
Kept lifted (row ∷ rows) [] = ⊥
Kept lifted ((test ⇒ code at place) ∷ rows) ((test' ⇒ code' at place') ∷ rows') =
    ((code ≡ code') × (place ≡ place') × (Fails test → Fails test') × Stands (lifted code) test test')
    × (Fails test → Kept lifted rows rows')

-- so what the first table comes to, the second does, unless more bytes lift it
abbrev pub Stays : (lifted : ℕ → Bool) → Found → Found → Type 0
Stays lifted pass found' = found' ≡ pass
Stays lifted (stop code place) found' = lifted code ≡ false → found' ≡ stop code place

-- FEWER BYTES: what a cut leaves, "empty" or "short", at place 0.

abbrev pub StopsAs : (empty short : ℕ) → Found → Type 0
StopsAs empty short found = (found ≡ stop empty 0) ⊎ (found ≡ stop short 0)

abbrev pub RefusedAs : (empty short : ℕ) → Answer → Type 0
RefusedAs empty short answer = (answer ≡ refuse empty 0) ⊎ (answer ≡ refuse short 0)
