-- What a `?` hands up, where the error is converted on its way. Assumes nothing.
use Rattle.std.proofs.Common.{◌≡◌, Result, Ok, Err}
use Rattle.std.specs.Result.{IsErrAnd}
use mathlib.Core.Path.{ap}

pub raised : {T E : Type 0} {e : E} (r : Result T E) → IsErrAnd r (λ f. f ≡ e) → r ≡ Err e
raised (Ok x) p = absurd p
raised (Err f) p = ap Err p
