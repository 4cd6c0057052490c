-- What a scan says of a path, in the words of Path.antt. Assumes nothing.
use Rattle.std.specs.Prelude.{◌≡◌, false, List, ℕ, ◌+◌, ◌≤◌, ◌<◌, length, take, drop, get_or, Result, Ok, Err}
use Rattle.brackets.specs.Brackets.{index_limit, content}
use Rattle.steps.specs.Path.{Next, next}
use Rattle.steps.specs.Path.Step.{named, indexed}
use Rattle.steps.specs.Path.Next.{wrong, takes}
use Rattle.steps.specs.Answers.{refusal_number}
use Rattle.steps.specs.declared.Refusal.{Refusal}
use Rattle.steps.specs.declared.Scan.{Scan}
use Rattle.steps.specs.declared.Scan.TheVariants as scan

-- what a scan says of the path
abbrev pub read_scan : List ℕ → Result Scan Refusal → Next
read_scan s (Err r) = wrong (refusal_number r)
read_scan s (Ok (scan.Plain from len more)) = takes (named (take len (drop from s))) more
read_scan s (Ok (scan.Quoted from len more)) = takes (named (take len (content false (drop from s)))) more
read_scan s (Ok (scan.Index value more)) = takes (indexed value) more

-- it lies in the path
abbrev pub Bounded : List ℕ → ℕ → Result Scan Refusal → Type 0
Bounded s at (Err r) = Unit {0}
Bounded s at (Ok (scan.Plain from len more)) = (from + len ≤ length s) × (len ≤ more + 1) × (at + 1 + more ≤ length s)
Bounded s at (Ok (scan.Quoted from len more)) = (len ≤ length (content false (drop from s))) × (len ≤ more + 1) × (at + 1 + more ≤ length s)
Bounded s at (Ok (scan.Index value more)) = (value < index_limit) × (at + 1 + more ≤ length s)

-- the step that the byte at `at` starts
abbrev pub ScanOf : List ℕ → ℕ → Result Scan Refusal → Type 0
ScanOf s at r = (read_scan s r ≡ next (get_or s at 0) (drop (at + 1) s)) × Bounded s at r
