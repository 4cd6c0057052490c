-- `writing::extent_at` meets its contract, by the cases of the scan. Assumes nothing.
use Rattle.writing.proofs.Measures.{plain_takes, quoted_takes, index_takes}
use Rattle.writing.proofs.extent_at.Goals as goal

pub returns-in-Plain : goal.returns-in-Plain
returns-in-Plain c = let r = rw c.in-Plain.is at c.in_ok-len.ensures in plain_takes c.in-Plain.from r.0 r.1

pub returns-in-Quoted : goal.returns-in-Quoted
returns-in-Quoted c = let r = rw c.in-Quoted.is at c.in_ok-len.ensures in quoted_takes c.in-Quoted.from r.0 r.1

pub returns-in-Index : goal.returns-in-Index
returns-in-Index c = let r = rw c.in-Index.is at c.in_ok-len.ensures in index_takes r.0 r.1
