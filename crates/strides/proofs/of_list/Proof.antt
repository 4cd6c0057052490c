-- `strides::of_list` meets its contract: 53 stands for 22, and every other refusal for itself. Assumes nothing.
use Rattle.rules.proofs.Prelude.{◌≡◌, refl, false, eqb, rules}
use Rattle.list.specs.declared.Refusal.{Refusal}
use Rattle.list.specs.declared.Refusal.TheVariants.{Short, Sum, Offset}
use Rattle.list.specs.Answers.{refusal_number}
use Rattle.strides.proofs.of_list.Statement.{statement}
use Rattle.strides.proofs.of_list.Tie as tie

never_22 : (r : Refusal) → eqb (refusal_number r) 22 ≡ false
never_22 Short = refl
never_22 Sum = refl
never_22 (Offset k) = refl

pub of_list_spec : {M : Type 1} → statement M
of_list_spec =
    tie.close
    (tie.spec
    (λ c. search rules) (λ c. search rules) (λ c. search rules) (λ c. search rules)
    (λ c. rw c.in-TooLong.is)  -- returns
    (λ c. rw c.in-Empty.is)  -- returns-2
    (λ c. rw c.in-BasicType.is)  -- returns-3
    (λ c. rw (c.in-List.is, never_22 c.in-List.l)))  -- returns-4
