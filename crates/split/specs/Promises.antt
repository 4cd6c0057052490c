-- What the call promises: the lines of the text stand one after another at the front of the run, and their ends at the front of the words; what
-- stood after them stays. Assumes nothing.
use Rattle.std.specs.Prelude.{◌≡◌, List, ◌++◌, ℕ, length, drop}
use Rattle.sets.specs.Sets.{total}
use Rattle.lay.specs.Bytes.{joined}
use Rattle.split.specs.declared.Names.{Names}
use Rattle.split.specs.Lines.{lines_of, ends_of}

pub record GatherPromise (text run ends : List ℕ) (r : Names) (run' ends' : List ℕ) : Type 0 where
  pub len_is : r.len ≡ total (lines_of text)
  pub count_is : r.count ≡ length (lines_of text)
  pub run_is : run' ≡ joined (lines_of text) ++ drop (total (lines_of text)) run
  pub ends_is : ends' ≡ ends_of 0 (lines_of text) ++ drop (length (lines_of text)) ends
