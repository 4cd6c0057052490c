-- None of four wrong versions meets the promise of `feed`, by the worked cases: one that always wants more, one that refuses every piece, one
-- that judges each piece alone, and one that leaves the store as it was lent. Assumes nothing.
use Rattle.rules.proofs.Prelude.{◌≡◌, refl, sym, ap, ◌∙◌, List, [], ◌∷◌, ℕ, arith, get_or, code_of}
use Rattle.pieces.specs.declared.State.{State}
use Rattle.pieces.specs.declared.State.TheVariants.{More, Settled, Full}
use Rattle.pieces.specs.Pieces.{full}
use Rattle.pieces.specs.Feed.{state_numbers}
use Rattle.pieces.specs.Promises.{FeedPromise}
use Rattle.pieces.specs.Worked.{Told, D, bare}
use Rattle.pieces.proofs.Worked.{worked}

-- row k of the table of worked cases, on both sides
abbrev at : ℕ → List Told → Told
at k table = get_or table k (record { answer = full; left = [] })

-- a state's number, over whatever store
same_code : (a b : List ℕ) (s : State) → code_of (state_numbers a s) ≡ code_of (state_numbers b s)
same_code a b (More h) = refl
same_code a b (Settled v) = refl
same_code a b Full = refl

module _ (feed : (store piece : List ℕ) → State → State) (left : (store piece : List ℕ) → State → List ℕ)
    (meets : (store piece : List ℕ) (s : State) → FeedPromise store piece s (feed store piece s) (left store piece s)) where
  -- the number that is told of D, whole
  whole : code_of (state_numbers (left (bare 14) D (More 0)) (feed (bare 14) D (More 0))) ≡ 0
  whole = ap code_of ((meets (bare 14) D (More 0)).answers ∙ ap (λ t. (at 5 t).answer) worked)

  pub not_always_more : (held : (store piece : List ℕ) → State → ℕ) → ((store piece : List ℕ) (s : State) → feed store piece s ≡ More (held store piece s)) → ⊥
  not_always_more held wrong = let z : ◌≡◌ {A = ℕ} 3 0 = rw (wrong (bare 14) D (More 0)) at whole in omega arith

  pub not_always_full : ((store piece : List ℕ) (s : State) → feed store piece s ≡ Full) → ⊥
  not_always_full wrong = let z : ◌≡◌ {A = ℕ} 44 0 = rw (wrong (bare 14) D (More 0)) at whole in omega arith

  -- the last byte of the empty dictionary, alone, is no dictionary's first
  pub not_alone : ((store piece : List ℕ) (h : ℕ) → feed store piece (More h) ≡ feed store piece (More 0)) → ⊥
  not_alone wrong =
      let store : List ℕ = 0x01 ∷ 0x00 ∷ bare 2 in
      let last : List ℕ = 0x00 ∷ [] in
      let after : code_of (state_numbers (left store last (More 2)) (feed store last (More 2))) ≡ 0 =
      ap code_of ((meets store last (More 2)).answers ∙ ap (λ t. (at 2 t).answer) worked) in
      let first : code_of (state_numbers (left store last (More 0)) (feed store last (More 0))) ≡ 12 =
      ap code_of ((meets store last (More 0)).answers ∙ ap (λ t. (at 3 t).answer) worked) in
      let z : ◌≡◌ {A = ℕ} 0 12 = sym after ∙ rw (wrong store last 2) (same_code _ _ (feed store last (More 0))) ∙ first in
      omega arith

  pub not_unwritten : ((store piece : List ℕ) (s : State) → left store piece s ≡ store) → ⊥
  not_unwritten wrong =
      let same = sym (wrong (bare 4) (0x01 ∷ []) (More 0)) ∙ (meets (bare 4) (0x01 ∷ []) (More 0)).leaves ∙ ap (λ t. (at 0 t).left) worked in
      let z : ◌≡◌ {A = ℕ} 9 1 = ap (λ (l : List ℕ). get_or l 0 0) same in
      omega arith
