-- `columns::check_ids` meets its contract: a field's rules are those of its id after the one before. Assumes nothing.
use Rattle.rules.proofs.Prelude.{◌≡◌, refl, sym, ap, ◌∙◌, List, ℕ, zero, suc, ◌+◌, ◌-◌, ◌<◌, arith, first, each_none, each_more, each_stop}
use Rattle.layout.proofs.Results.{raised}
use Rattle.layer.specs.Object.{id, id_rules}
use Rattle.columns.specs.Steps.{id_row}
use Rattle.columns.proofs.check_ids.Goals as goal

row_is : (n : ℕ) (o : List ℕ) (k before : ℕ) → (0 < k → before ≡ id o (k - 1)) → first (id_row n k before (id o k)) ≡ first (id_rules n o k)
unfolding id_rules first
row_is n o zero before e = refl
row_is n o (suc k) before e = rw (e (omega arith))

pub loop-k-init : goal.loop-k-init
loop-k-init c = ((λ p. absurd (omega arith)), each_none _)

pub returns-in_err-judge_id : goal.returns-in_err-judge_id
returns-in_err-judge_id c =
    let l = c.loop-k in
    let a = c.args in
    let row = row_is a.entries a.object.now l.k l.before l.invariant.0 in
    let stops = sym row ∙ ap (λ x. first (id_row a.entries l.k l.before x)) (sym c.id_at-id.ensures.0) ∙ sym c.in_err-judge_id.ensures in
    rw (raised _ c.from_residual.ensures.1) (sym (each_stop _ l.k _ l.invariant.1 stops (omega arith)))

pub loop-k-preserved : goal.loop-k-preserved
loop-k-preserved c =
    let l = c.loop-k in
    let a = c.args in
    let k-is : l.k + 1 - 1 ≡ l.k = omega arith in
    let row = row_is a.entries a.object.now l.k l.before l.invariant.0 in
    let passes = sym row ∙ ap (λ x. first (id_row a.entries l.k l.before x)) (sym c.id_at-id.ensures.0) ∙ sym c.in_ok-judge_id.ensures in
    ((λ p. rw k-is c.id_at-id.ensures.0), each_more _ l.k l.invariant.1 ∙ passes)
