-- What stands between brackets (document 02, i; utils.rs: parse_in_bracket). Assumes nothing.
use Rattle.std.specs.Prelude.{Bool, true, false, cond, ◌&&◌, ◌||◌, List, [], ◌∷◌, ℕ, zero, suc, ◌+◌, ◌-◌, ◌*◌, eqb, ltb, leb, length, take, drop, Option, None, Some}

-- IN BRACKETS, a backslash takes the next byte as it is; the first other ] closes

-- one byte further on; none stays none
abbrev pub one_more : ℕ → ℕ
one_more zero = 0
one_more (suc n) = suc (suc n)

-- how many bytes up to the closing bracket, and with it; 0 where none closes. `taken`: a backslash stands before
unfoldable pub closes : (taken : Bool) → List ℕ → ℕ
closes taken [] = 0
closes true (b ∷ s) = one_more (closes false s)
closes false (b ∷ s) = cond (eqb b 92) (one_more (closes true s)) (cond (eqb b 93) 1 (one_more (closes false s)))

-- the bytes up to there, without the backslashes
unfoldable pub content : (taken : Bool) → List ℕ → List ℕ
content taken [] = []
content true (b ∷ s) = b ∷ content false s
content false (b ∷ s) = cond (eqb b 92) (content true s) (cond (eqb b 93) [] (b ∷ content false s))

-- QUOTES, after that: at least two bytes, of which the first and the last are the quote

unfoldable pub first_or : ℕ → List ℕ → ℕ
first_or d [] = d
first_or d (b ∷ s) = b

unfoldable pub last_or : ℕ → List ℕ → ℕ
last_or d [] = d
last_or d (b ∷ s) = last_or b s

abbrev pub same_quotes : ℕ → ℕ → Bool
same_quotes a b = eqb a b && (eqb a 39 || eqb a 34)

abbrev pub in_quotes : (count first last : ℕ) → Bool
in_quotes count first last = leb 2 count && same_quotes first last

abbrev pub quoted : List ℕ → Bool
quoted t = in_quotes (length t) (first_or 0 t) (last_or 0 t)

abbrev pub unquoted : List ℕ → List ℕ
unquoted t = take (length t - 2) (drop 1 t)

-- or else A NUMBER below 2 to the 64th: a plus or none, then decimal digits, at least one

unfoldable pub digits : ℕ → List ℕ → Option ℕ
digits n [] = Some n
digits n (b ∷ t) = cond (leb 48 b && leb b 57) (digits (10 * n + (b - 48)) t) None

unfoldable pub unsigned : List ℕ → List ℕ
unsigned [] = []
unsigned (b ∷ t) = cond (eqb b 43) t (b ∷ t)

unfoldable pub some_digits : List ℕ → Option ℕ
some_digits [] = None
some_digits (b ∷ t) = digits 0 (b ∷ t)

-- 2 to the 64th
abbrev pub index_limit : ℕ
index_limit = 18446744073709551616

abbrev pub small : Option ℕ → Option ℕ
small None = None
small (Some n) = cond (ltb n index_limit) (Some n) None

unfoldable pub number : List ℕ → Option ℕ
number t = small (some_digits (unsigned t))
