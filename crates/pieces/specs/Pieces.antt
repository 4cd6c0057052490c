-- A dictionary that comes in pieces: what is answered to the bytes received so far (document 02, l). Assumes nothing.
use Rattle.std.specs.Prelude.{Bool, cond, ◌||◌, List, [], ◌∷◌, ℕ, min, eqb, ltb, length, take}
use Rattle.rules.specs.Rules.{Answer, refuse, code_of}
use Rattle.rules.specs.Rules.Answer.{gives}
use Rattle.dictionary.specs.Limits.{limit}
use Rattle.dictionary.specs.Dictionary.{verdict}
use Rattle.dictionary.specs.Wanted.{wanted}

-- As many bytes as the store and the length limit allow
unfoldable pub room : List ℕ → ℕ
room store = min (length store) limit

-- 11 and 13 do not settle it: more bytes may lift them
abbrev pub unsettled : Answer → Bool
unsettled v = eqb (code_of v) 11 || eqb (code_of v) 13

-- they are answered as "more", number 3, with the bytes held and how many are wanted
abbrev pub more : (held wants : ℕ) → Answer
more held wants = gives 3 (held ∷ wants ∷ []) 0

-- or as 44 once more bytes have come than there is room for
abbrev pub full : Answer
full = refuse 44 0

-- the answer to the bytes that are kept, `over` where more have come
unfoldable pub judged : (kept : List ℕ) (over : Bool) → Answer
judged kept over = cond (unsettled (verdict kept)) (cond over full (more (length kept) (wanted kept))) (verdict kept)

-- THE ANSWER to the bytes received: the whole verdict on the first of them, as many as there is room for
unfoldable pub answer : (room : ℕ) (got : List ℕ) → Answer
answer n got = judged (take n got) (ltb n (length got))
