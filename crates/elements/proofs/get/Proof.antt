-- `elements::get` meets its contract: length, type, and then the list. The limit is opened here. Assumes nothing.
use Rattle.rules.proofs.Prelude.{sym, ◌∙◌, arith, rules, first_at, ◌&◌}
use Rattle.dictionary.specs.Limits.{limit}
use Rattle.encoding.proofs.Laws.{other_type, list_says}
use Rattle.elements.proofs.Laws.{by_head}
use Rattle.elements.proofs.get.Statement.{statement}
use Rattle.elements.proofs.get.Tie as tie

pub get_spec : {M : Type 1} → statement M
unfolding limit
get_spec =
    tie.close
    (tie.spec
    (λ c. sym (by_head _ _ (first_at 0 _ (omega arith))))  -- returns
    (λ c. sym (by_head _ _ (first_at 1 _ (omega arith))))  -- returns-2
    (λ c. search rules) (λ c κs. search rules) (λ c. search rules)
    (λ c κs. let call = c in
    let says = list_says _ _ (sym call.header_of-header.ensures.says ∙ c.in-List.is) in (
      rw c.in-List.is at call.header_of-header.ensures.bounds,
      record { not_long = call.if-list-gt-LIMIT.false; not_empty = call.if-list-lt1.false; is_list = says.0; widths_are = says.1 },
    ))  -- get-in-requires
    (λ c. search rules) (λ c. search rules) (λ c. search rules)
    (λ c. search rules)  -- returns-3
    (λ c. let other = other_type 3 _ _ c.header_of-header.ensures (rw c.in-Primitive.is (λ e. omega arith)) in
    sym (by_head _ _ (first_at 2 _ (omega arith & omega arith & other))))  -- returns-4
    (λ c. let other = other_type 3 _ _ c.header_of-header.ensures (rw c.in-ShortString.is (λ e. omega arith)) in
    sym (by_head _ _ (first_at 2 _ (omega arith & omega arith & other))))  -- returns-5
    (λ c. let other = other_type 3 _ _ c.header_of-header.ensures (rw c.in-Object.is (λ e. omega arith)) in
    sym (by_head _ _ (first_at 2 _ (omega arith & omega arith & other)))))  -- returns-6
