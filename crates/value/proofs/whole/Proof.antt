-- `value::whole` meets its contract: by what the header byte says. Assumes nothing.
use Rattle.rules.proofs.Prelude.{◌∙◌, ap, rules}
use Rattle.std.specs.Prelude.{Ok}
use Rattle.value.specs.Reading.{read_by}
use Rattle.value.proofs.Laws.{by_header, some_byte, payload_there}
use Rattle.value.proofs.whole.Statement.{statement}
use Rattle.value.proofs.whole.Tie as tie

pub whole_spec : {M : Type 1} → statement M
unfolding read_by
whole_spec =
    tie.close
    (tie.spec
    (λ c. some_byte _ _ c.requires)  -- shared-slice-read-header-of
    (λ c κs. search rules)  -- header-of-requires
    (λ c. search rules)  -- enum-known-header
    (λ c κs. payload_there _ _ c.requires
    (rw c.in-Primitive.is at c.header_of-header.ensures.says))  -- primitive-requires
    (λ c. search rules) (λ c. search rules) (λ c. search rules)
    (λ c. let n = c in
    ap Ok c.primitive.ensures ∙ by_header _ _ n.requires (rw c.in-Primitive.is at n.header_of-header.ensures.says))  -- returns
    (λ c. let n = c in by_header _ _ n.requires (rw c.in-ShortString.is at n.header_of-header.ensures.says))  -- returns-2
    (λ c. let n = c in by_header _ _ n.requires (rw c.in-Object.is at n.header_of-header.ensures.says))  -- returns-3
    (λ c. let n = c in by_header _ _ n.requires (rw c.in-List.is at n.header_of-header.ensures.says)))  -- returns-4
