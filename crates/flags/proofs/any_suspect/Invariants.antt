use Rattle.rules.proofs.Prelude.{◌≡◌, false, first, each, pass, Fails}
use Rattle.dictionary.specs.Dictionary.{entry_rules, offset, cuts}
use Rattle.flags.proofs.any_suspect.Given as goal

-- as long as nothing was flagged, all entries before i pass, and the next starts where a character does
abbrev pub invariant-loop-i : goal.invariant-loop-i
invariant-loop-i l =
    (l.from ≡ offset l.dict l.i) × (l.any ≡ false → Fails (cuts l.region l.from) × (first (each (entry_rules l.dict) l.i) ≡ pass))
