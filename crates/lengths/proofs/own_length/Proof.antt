-- `lengths::own_length` meets its contract: no bytes, or by what the header byte says. Assumes nothing.
use Rattle.rules.proofs.Prelude.{◌≡◌, ◌∙◌, List, ℕ, ◌≤◌, arith, rules, length, get_or}
use Rattle.encoding.specs.declared.Header.{Header}
use Rattle.std.specs.Prelude.{Result}
use Rattle.lengths.specs.declared.Flaw.{Flaw}
use Rattle.lengths.specs.Lengths.{length_by, own_length}
use Rattle.encoding.specs.Promises.{HeaderPromise}
use Rattle.lengths.proofs.Laws.{of_none, of_some, short_end, list_as_object}
use Rattle.lengths.proofs.own_length.Statement.{statement}
use Rattle.lengths.proofs.own_length.Tie as tie

-- what a step answers for the header of the first byte is the own length
told : (s : List ℕ) (h : Header) {r : Result ℕ Flaw} → HeaderPromise (get_or s 0 0) h → 1 ≤ length s → r ≡ length_by h s → r ≡ own_length s
told s h p some e = e ∙ (rw (← p.says) at (of_some s some))

pub own_length_spec : {M : Type 1} → statement M
own_length_spec =
    tie.close
    (tie.spec
    (λ c. of_none _ c.if-s-lt1.true)  -- returns
    (λ c. search rules)  -- shared-slice-read-header-of
    (λ c κs. search rules)  -- header-of-requires
    (λ c. search rules)  -- enum-known-h
    (λ c κs. search rules)  -- primitive-length-requires
    (λ c. search rules)  -- enum-known-h-2
    (λ c. let n = rw c.in-ShortString.is at c.header_of-h.ensures.bounds in omega arith)  -- add-within
    (λ c κs. search rules)  -- within-requires
    (λ c. search rules)  -- enum-known-h-3
    (λ c κs. rw c.in-Object.is at c.header_of-h.ensures.bounds)  -- layout-length-requires
    (λ c. search rules)  -- enum-known-h-4
    (λ c κs. rw c.in-List.is at c.header_of-h.ensures.bounds)  -- layout-length-requires-2
    (λ c. let n = c in
    let says = rw c.in-Primitive.is at n.header_of-h.ensures in
    told n.args.s.now _ says n.if-s-lt1.false c.primitive_length.ensures)  -- returns-2
    (λ c. let n = c in
    let says = rw c.in-ShortString.is at n.header_of-h.ensures in
    told n.args.s.now _ says n.if-s-lt1.false (c.within.ensures ∙ short_end _ _))  -- returns-3
    (λ c. let n = c in
    let says = rw c.in-Object.is at n.header_of-h.ensures in
    told n.args.s.now _ says n.if-s-lt1.false c.layout_length.ensures)  -- returns-4
    (λ c. let n = c in
    let says = rw c.in-List.is at n.header_of-h.ensures in
    told n.args.s.now _ says n.if-s-lt1.false (c.layout_length-in-List.ensures ∙ list_as_object _ _)))  -- returns-5
