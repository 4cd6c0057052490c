-- `layer::read_header` meets its contract: length, type, and then the layout. The limit is opened here. Assumes nothing.
use Rattle.rules.proofs.Prelude.{◌∙◌, sym, arith, rules, first_at, ◌&◌}
use Rattle.dictionary.specs.Limits.{limit}
use Rattle.encoding.proofs.Laws.{other_type, object_says}
use Rattle.layer.specs.Object.{basic_type}
use Rattle.layer.proofs.read_header.Statement.{statement}
use Rattle.layer.proofs.read_header.Tie as tie

pub read_header_spec : {M : Type 1} → statement M
unfolding limit basic_type
read_header_spec =
    tie.close
    (tie.spec
    (λ c. first_at 0 _ (omega arith))  -- returns
    (λ c. first_at 1 _ (omega arith))  -- returns-2
    (λ c. search rules) (λ c κs. search rules) (λ c. search rules)
    (λ c κs. let says = object_says _ _ (sym c.header_of-header.ensures.says ∙ c.in-Object.is) in
    record {
      not_long = c.if-object-gt-LIMIT.false;
      not_empty = c.if-object-lt1.false;
      is_object = says.0;
      widths_are = says.1;
      few = rw c.in-Object.is at c.header_of-header.ensures.bounds;
    })  -- read-layout-requires
    (λ c. search rules) (λ c. search rules) (λ c. search rules)
    (λ c. search rules)  -- returns-3
    (λ c. let other = other_type 2 _ _ c.header_of-header.ensures (rw c.in-Primitive.is (λ e. omega arith)) in first_at 2 _ (omega arith & omega arith & other))  -- returns-4
    (λ c. let other = other_type 2 _ _ c.header_of-header.ensures (rw c.in-ShortString.is (λ e. omega arith)) in first_at 2 _ (omega arith & omega arith & other))  -- returns-5
    (λ c. let other = other_type 2 _ _ c.header_of-header.ensures (rw c.in-List.is (λ e. omega arith)) in first_at 2 _ (omega arith & omega arith & other)))  -- returns-6
