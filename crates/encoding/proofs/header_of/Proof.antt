-- `encoding::header_of` meets its contract: an arm a basic type. Assumes nothing.
use Rattle.rules.proofs.Prelude.{◌≡◌, ◌∙◌, ap, ℕ, arith, rules}
use Rattle.width.specs.Promises.{WidePromise}
use Rattle.encoding.specs.declared.Header.{Header}
use Rattle.encoding.specs.declared.Header.TheVariants as header
use Rattle.encoding.specs.Encoding.{header_of}
use Rattle.encoding.specs.Promises.{HeaderPromise}
use Rattle.encoding.proofs.Laws.{is_primitive, is_short, is_object, is_list, bounded}
use Rattle.encoding.proofs.header_of.Statement.{statement}
use Rattle.encoding.proofs.header_of.Tie as tie

-- what the widened byte says, the byte says
told : (b n : ℕ) {r : Header} → WidePromise b n → r ≡ header_of n → HeaderPromise b r
told b n w e = record { says = e ∙ ap header_of w.0; bounds = rw e (bounded n w.1) }

pub header_of_spec : {M : Type 1} → statement M
header_of_spec =
    tie.close
    (tie.spec
    (λ c κs. search rules) (λ c κs. search rules) (λ c κs. search rules)
    (λ c. told _ _ c.wide-b.ensures (is_primitive _ (omega arith)))  -- returns
    (λ c. told _ _ c.wide-b.ensures (is_short _ (omega arith)))  -- returns-2
    (λ c. told _ _ c.wide-b.ensures (ap header.Object c.object_widths.ensures ∙ is_object _ (omega arith)))  -- returns-3
    (λ c. told _ _ c.wide-b.ensures (ap header.List c.list_widths.ensures ∙ is_list _ (omega arith))))  -- returns-4
