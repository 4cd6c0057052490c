-- `keys::same_rest` meets its contract: the lengths tell, or eight bytes at a time. Assumes nothing.
use mathlib.Core.Path.{sym}
use native.Mathlib.Omega.{arith}
use borrow.Author.Rules.{rules}
use lib.ListN.{length}
use Rattle.keys.proofs.Same.{all_same, lengths_differ, raws_differ, raws_same, raws_tell}
use Rattle.keys.proofs.same_rest.Statement.{statement}
use Rattle.keys.proofs.same_rest.Tie as tie

pub same_rest_spec : {M : Type 1} → statement M
same_rest_spec =
    tie.close
    (tie.spec
    (λ c. sym (lengths_differ _ _ (λ e. omega arith)))  -- returns
    (λ c. let s = c in sym (all_same _ _ (length s.args.a.now) (omega arith) (omega arith) (λ k p. s.requires k (omega arith))))  -- returns-2
    (λ c κs. search rules) (λ c κs. search rules)
    (λ c. sym (raws_differ _ _ 0 _ _ c.raw.ensures c.raw-2.ensures (λ e. omega arith)))  -- returns-3
    (λ c κs. let law = raws_same _ _ 0 _ _ c.raw.ensures c.raw-2.ensures
    c.shared_slice_known-1.given c.shared_slice_known-2-1.given in
    (law (omega arith) (omega arith) (omega arith) (λ k p. absurd (omega arith)), omega arith, omega arith, omega arith))  -- alike-requires
    (λ c κs. search rules) (λ c κs. search rules)
    (λ c. raws_tell _ _ _ _ _ c.raw-3.ensures c.raw-4.ensures
    c.shared_slice_known-1.given
    c.shared_slice_known-2-1.given _ (omega arith) (omega arith)
    c.alike-i.ensures))  -- returns-4
