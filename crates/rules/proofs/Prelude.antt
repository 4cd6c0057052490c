-- What the proofs of the crates above use most, in one place: equations, lists, numbers and tactics, each as the library has it, and the
-- language and the laws of rules. Assumes nothing.
pub use mathlib.Core.Bool.{Bool, true, false, not, cond, ◌&&◌, ◌||◌}
pub use mathlib.Core.List.{List, [], ◌∷◌, ◌++◌, append_assoc, map}
pub use mathlib.Core.Logic.{◌↔◌, ◌⊎◌, ⊎_elim}
pub use mathlib.Core.Logic.◌⊎◌.{inl, inr}
pub use mathlib.Core.Path.{◌≡◌, ◌∙◌, refl, sym, ap, ap₂}
pub use Prim.Native.Nat.{ℕ, ◌+◌, ◌-◌, ◌*◌, ◌≤◌, ◌<◌, ◌/◌, zero, suc}
pub use native.Mathlib.Decide.{dec_lt}
pub use native.Mathlib.Nat.{mul-le-mul_right, mul-le-mul_left, add-zero}
pub use native.Mathlib.Numerals.{add-one}
pub use native.Mathlib.Omega.{arith}
pub use borrow.Author.Rules.{rules}
pub use borrow.Author.Tests.{ne_eqb, lt-ltb, le-ltb, not-true, not-false, eq-eqb, ltb-true, ltb-false, leb-true, leb-false}
pub use lib.Dec.{eqb, ltb, leb}
pub use lib.ListN.{length, length-append, get_or-append as List·getD-append, take, drop, length-take, take-append-drop, get_or, length-set, set, length-drop, replicate}
pub use lib.Seq.{take_all, take-add, sets-eq, get_or-append-add, sets, take_at, drop-append-add, drop-drop}
pub use Rattle.rules.specs.Rules.{accept, Found, Kept, Stays, code_of, StopsAs, RefusedAs, Passed, Fails, Says, Test, Answer, refuse, unless_refused}
unfoldable pub use Rattle.rules.specs.Rules.{first, each, ◌or_else◌, ◌otherwise◌}
pub use Rattle.rules.specs.Rules.Answer.{gives}
pub use Rattle.rules.specs.Rules.Found.{pass, stop}
pub use Rattle.rules.specs.Rules.Rule.{◌⇒◌at◌}
pub use Rattle.rules.specs.Rules.Test.{◌<?◌, ◌≤?◌, isn't, ◌and◌, ◌or◌}
pub use Rattle.rules.proofs.Laws.{let_through, answered, each_pass, ◌&◌, passed, both_pass, each_same, kept, same_stays, stays_then}
pub use Rattle.rules.proofs.Laws.{stays_answer, cut_stops, stops_first, refused_as, Meant, meant_then, meant_stop, rows_mean, each_means}
pub use Rattle.rules.proofs.Laws.{first_pass, stops, goes, unless, false_true, never, Cases, by_rows, by_each, meant_map, meant_pass, refused}
pub use Rattle.rules.proofs.Laws.{first_at, by_meaning, surely, turned_down, each_stop, swap, each_none, each_more, each_alike, stays_same}
pub use Rattle.rules.proofs.Laws.{stays_more, stops_next, each_passed, and_last}
