-- What the code answers, in the words of Text.antt. Assumes nothing.
use Rattle.std.specs.Prelude.{◌≡◌, Bool, not, List, [], ◌++◌, ℕ, ◌+◌, ◌≤◌, min, eqb, length, drop, Result, Ok, Err, IfOk}
use Rattle.text.specs.declared.Stop.{Stop}
use Rattle.text.specs.declared.Stop.TheVariants.{Blank, Letter, NoDigit, At}
use Rattle.part.specs.declared.Span.{Span}
use Rattle.text.specs.declared.Fault.{Fault}
use Rattle.text.specs.Text.{before, is_blank, no_digit}

abbrev pub stops_at : Stop → ℕ → Bool
stops_at Blank b = is_blank b
stops_at Letter b = not (is_blank b)
stops_at NoDigit b = no_digit b
stops_at (At x) b = eqb b x

-- where the run from a place on ends; from past the end it ends with the text
pub record Reaches (stops : ℕ → Bool) (s : List ℕ) (from r : ℕ) : Type 0 where
  pub is : r ≡ min from (length s) + before stops (drop from s)
  pub inside : r ≤ length s

-- the first word: after the blanks, up to the next
pub record WordOf (s : List ℕ) (from : ℕ) (r : Span) : Type 0 where
  pub start_is : r.start ≡ min from (length s) + before (λ b. not (is_blank b)) (drop from s)
  pub end_is : r.end ≡ r.start + before is_blank (drop r.start s)
  pub inside : r.end ≤ length s

-- how many bytes are spelt, or the fault
abbrev pub len_of : Result (List ℕ) Fault → Result ℕ Fault
len_of (Ok s) = Ok (length s)
len_of (Err f) = Err f

abbrev pub bytes_of : Result (List ℕ) Fault → List ℕ
bytes_of (Ok s) = s
bytes_of (Err f) = []

-- what was read, and all of the room afterwards: its bytes after those that are spelt stay
pub record Read (reading : Result (List ℕ) Fault) (room : List ℕ) (r : Result ℕ Fault) (after : List ℕ) : Type 0 where
  pub is : r ≡ len_of reading
  pub room_is : after ≡ bytes_of reading ++ drop (length (bytes_of reading)) room
  pub fits : IfOk r (λ n. n ≤ length after)
