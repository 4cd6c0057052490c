-- `encoding::list_widths` meets its contract: each number is read off the one byte. Assumes nothing.
use Rattle.rules.proofs.Prelude.{rules}
use Rattle.encoding.specs.Encoding.{list_widths}
use Rattle.encoding.proofs.list_widths.Statement.{statement}
use Rattle.encoding.proofs.list_widths.Tie as tie

pub list_widths_spec : {M : Type 1} → statement M
unfolding list_widths
list_widths_spec =
    tie.close
    (tie.spec
    (λ c κs. search rules) (λ c. search rules)
    (λ c. rw c.count_width.ensures))  -- returns
