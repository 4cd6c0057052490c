-- What the steps find is what the lookup of a name alone answers, and rows of it are written one after another. Assumes nothing.
use Rattle.rules.proofs.Prelude.{◌≡◌, refl, sym, List, ◌++◌, ℕ, ◌+◌, ◌*◌, ◌≤◌, arith, length, drop, sets, Answer, gives, each, pass, answered}
use Rattle.rules.proofs.Rows.{rows_more}
use Rattle.names.specs.Search.{Sought, seek}
use Rattle.names.specs.Search.Sought.{nowhere, here}
use Rattle.names.proofs.Search.{seek_at}
use Rattle.run.specs.Run.{name}
use Rattle.layer.specs.Object.{count, field_name, checks}
use Rattle.layer.proofs.Laws.{in_region, end_is}
use Rattle.lookup.specs.ByName.{found, lookup, lookup_within}
use Rattle.rows.specs.Rows.{row_of}
use Rattle.many.specs.Many.{row, row_within}
use Rattle.rows.specs.Steps.{InLayer}

module _ (d o q : List ℕ) (passes : checks d o ≡ pass) where
  pub in_layer : (s : Sought) → s ≡ seek (field_name d o) q (count o) → InLayer o s
  in_layer nowhere e = tt
  in_layer (here k) e =
      let is_field = (seek_at (field_name d o) q (count o) k (sym e)).0 in
      (is_field, omega (arith, in_region d o passes k is_field, end_is o))

  pub answers : {s : Sought} → s ≡ seek (field_name d o) q (count o) → found o s ≡ lookup d o q
  unfolding lookup_within
  answers e = rw e (sym (answered _ passes))

-- a row has five words
five : (x : Answer) → length (row_of x) ≡ 5
five (gives c v p) = refl

pub row_five : (d o names ends : List ℕ) (k : ℕ) → length (row d o names ends k) ≡ 5
unfolding row_within
row_five d o names ends k = five (lookup d o (name names ends k))

pub one_more : (d o names ends lent : List ℕ) {words : List ℕ} (k at : ℕ) (q : List ℕ) → words ≡ each (row d o names ends) k ++ drop at lent → at ≡ 5 * k
    → at + 5 ≤ length lent → q ≡ name names ends k → sets words at (row_of (lookup d o q)) ≡ each (row d o names ends) (k + 1) ++ drop (at + 5) lent
unfolding row_within
one_more d o names ends lent {words} k at q e a h is = rw is (rows_more (row d o names ends) 5 (row_five d o names ends) lent words k at e a h)
