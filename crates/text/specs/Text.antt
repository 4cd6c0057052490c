-- What a line of text says: where a run of bytes ends, the bytes that hex digits spell, the number that decimal digits spell. Each is a plain
-- function of the text as a list. Assumes nothing.
use Rattle.std.specs.Prelude.{Bool, false, cond, ◌&&◌, ◌||◌, List, [], ◌∷◌, ℕ, suc, ◌+◌, ◌-◌, ◌*◌}
use Rattle.std.specs.Prelude.{◌/◌, ◌%◌, eqb, leb, ltb, length, Option, None, Some, Result, Ok, Err}
use Rattle.text.specs.declared.Fault.{Fault}
use Rattle.text.specs.declared.Fault.TheVariants.{Odd, NoDigit, Long}

-- RUNS

-- how many bytes stand before the first that stops the run
unfoldable pub before : (ℕ → Bool) → List ℕ → ℕ
before stops [] = 0
before stops (b ∷ s) = cond (stops b) 0 (suc (before stops s))

-- a space, a tab or a carriage return
unfoldable pub is_blank : ℕ → Bool
is_blank b = eqb b 0x20 || eqb b 0x09 || eqb b 0x0D

-- DIGITS

abbrev pub within : ℕ → ℕ → ℕ → Bool
within low high b = leb low b && leb b high

-- what a hex digit stands for, 0 to 9, A to F or a to f; 16 for any other byte
unfoldable pub digit_of : ℕ → ℕ
digit_of b =
    cond (within 0x30 0x39 b) (b - 48)
    (cond (within 0x41 0x46 b) (b - 55)
    (cond (within 0x61 0x66 b) (b - 87) 16))

abbrev pub no_digit : ℕ → Bool
no_digit b = ltb 15 (digit_of b)

-- HEX

-- the bytes of the digits two by two, the high one first
unfoldable pub pairs : List ℕ → List ℕ
pairs [] = []
pairs (a ∷ []) = []
pairs (a ∷ b ∷ s) = (digit_of a * 16 + digit_of b) ∷ pairs s

abbrev pub is_dash : List ℕ → Bool
is_dash [] = false
is_dash (b ∷ []) = eqb b 0x2D
is_dash (b ∷ c ∷ s) = false

-- into a room of so many bytes. `-` spells none. Then an odd number of digits is a fault, more bytes than there is room for, and a byte that
-- is no digit
unfoldable pub hex_of : List ℕ → ℕ → Result (List ℕ) Fault
hex_of text room =
    cond (is_dash text) (Ok [])
    (cond (eqb (length text % 2) 1) (Err Odd)
    (cond (ltb room (length text / 2)) (Err Long)
    (cond (ltb (before no_digit text) (length text)) (Err NoDigit) (Ok (pairs text)))))

-- NUMBERS

-- the number that decimal digits spell after v, where each byte is one
unfoldable pub decimal : ℕ → List ℕ → Option ℕ
decimal v [] = Some v
decimal v (b ∷ s) = cond (ltb 9 (digit_of b)) None (decimal (v * 10 + digit_of b) s)

-- below 2^32
abbrev pub small : Option ℕ → Option ℕ
small (Some v) = cond (ltb v 4294967296) (Some v) None
small None = None

-- of one digit or more
unfoldable pub number_of : List ℕ → Option ℕ
number_of [] = None
number_of (b ∷ s) = small (decimal 0 (b ∷ s))
