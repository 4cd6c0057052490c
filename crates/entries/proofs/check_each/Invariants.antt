use Rattle.rules.proofs.Prelude.{◌≡◌, first, each, pass}
use Rattle.dictionary.specs.Dictionary.{entry_rules}
use Rattle.entries.specs.Steps.{Reached}
use Rattle.entries.proofs.check_each.Given as goal

-- all entries before k pass
abbrev pub invariant-loop-k : goal.invariant-loop-k
invariant-loop-k l = Reached l.dict l.k l.p l.a × (first (each (entry_rules l.dict) l.k) ≡ pass)
