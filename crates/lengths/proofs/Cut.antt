-- A value cut anywhere before its own length has a cut header, or is longer than the bytes. Assumes nothing.
use Rattle.rules.proofs.Prelude.{◌≡◌, refl, sym, ◌∙◌, ◌⊎◌, inl, inr, List, ℕ, ◌<◌, arith, take, drop, take-append-drop, length-take}
use Rattle.lengths.specs.declared.Flaw.{Flaw}
use Rattle.std.specs.Prelude.{Result, Ok, Err}
use Rattle.lengths.specs.declared.Flaw.TheVariants.{Cut, Sum, Unknown, Longer}
use Rattle.lengths.specs.Lengths.{own_length}
use Rattle.lengths.proofs.Appended.{Settled, appended, at_hand}

module _ (s : List ℕ) (n m : ℕ) (e : own_length s ≡ Ok n) (cut : m < n) where
  -- a settled answer to the bytes that are left would be that to all
  stays : Settled (own_length (take m s)) → Ok n ≡ own_length (take m s)
  stays settled = sym e ∙ (rw take-append-drop at (appended (take m s) (drop m s) settled))

  pub cut_or_longer : (own_length (take m s) ≡ Err Cut) ⊎ (own_length (take m s) ≡ Err Longer)
  cut_or_longer = go (own_length (take m s)) refl
    where
      go : (r : Result ℕ Flaw) → own_length (take m s) ≡ r → (own_length (take m s) ≡ Err Cut) ⊎ (own_length (take m s) ≡ Err Longer)
      go (Ok k) q =
          let same = stays (rw q tt) in
          let k-is : k ≡ n = cc in absurd (omega (arith, at_hand (take m s) k q, length-take m s))
      go (Err Cut) q = inl q
      go (Err Sum) q = let same = stays (rw q tt) in let z : ◌≡◌ {A = ℕ} 0 1 = cc in absurd (omega arith)
      go (Err Unknown) q = let same = stays (rw q tt) in let z : ◌≡◌ {A = ℕ} 0 1 = cc in absurd (omega arith)
      go (Err Longer) q = inr q
