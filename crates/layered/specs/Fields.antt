-- What document 02, k), says of the fields that are written, in its words: which pairs they are and in what order, how wide their numbers are,
-- and when two inputs have the same pairs. proofs/ shows that builder's definitions say the same. Assumes nothing.
use Rattle.std.specs.Prelude.{◌≡◌, ◌⊎◌, List, [], ◌∷◌, ℕ, ◌≤◌, ◌<◌, ◌^◌, ◌/◌}
use Rattle.sets.specs.Sets.{Increasing, total}
use Rattle.sort.specs.Steps.{labels}
use Rattle.source.specs.Pairs.{pairs, id, child}
use Rattle.pairs.specs.Checks.{pair_name}

-- k is one of the numbers
abbrev pub Among : ℕ → List ℕ → Type 0
Among k [] = ⊥
Among k (j ∷ js) = (k ≡ j) ⊎ Among k js

-- THE FIELDS: numbers of pairs, by increasing name, and every pair is there (proofs/TheFields.antt: of pairs with no name twice there is one
-- such list, and `fields` is it)
pub record TheFields (d words ks : List ℕ) : Type 0 where
  pub increasing : Increasing (labels (pair_name d words) ks)
  pub given : (k : ℕ) → Among k ks → k < pairs words
  pub all : (k : ℕ) → k < pairs words → Among k ks

-- THE WIDTHS: w bytes hold every id, and no fewer do (so 1 where there is no pair); w bytes hold the children's total length, and no fewer do
pub record SmallestIds (words : List ℕ) (w : ℕ) : Type 0 where
  pub some : 1 ≤ w
  pub few : w ≤ 4
  pub fits : (k : ℕ) → k < pairs words → id words k < 256 ^ w
  pub least : (v : ℕ) → 1 ≤ v → ((k : ℕ) → k < pairs words → id words k < 256 ^ v) → w ≤ v

pub record SmallestOffsets (children : List (List ℕ)) (w : ℕ) : Type 0 where
  pub some : 1 ≤ w
  pub few : w ≤ 4
  pub fits : total children < 256 ^ w
  pub least : (v : ℕ) → 1 ≤ v → total children < 256 ^ v → w ≤ v

-- THE COUNT of n fields takes w bytes, four exactly above 255; then bit 6 of the first byte is set, and bit 7 never is
pub record SmallestCount (n first w : ℕ) : Type 0 where
  pub long : 255 < n → (w ≡ 4) × (first / 64 ≡ 1)
  pub short : n ≤ 255 → (w ≡ 1) × (first / 64 ≡ 0)

-- THE SAME PAIRS, in whatever order, with the children wherever they lie: the other has a pair with the id and the child of pair k ..
pub record Matched (bytes words : List ℕ) (k : ℕ) (bytes' words' : List ℕ) : Type 0 where
  pub number : ℕ
  pub is_pair : number < pairs words'
  pub same_id : id words' number ≡ id words k
  pub same_child : child bytes' words' number ≡ child bytes words k

-- .. and so both ways
pub record SamePairs (bytes words bytes' words' : List ℕ) : Type 0 where
  pub to : (k : ℕ) → k < pairs words → Matched bytes words k bytes' words'
  pub from : (k : ℕ) → k < pairs words' → Matched bytes' words' k bytes words

-- PAIRS IN ANOTHER ORDER: neighbours change places, again and again; a cut last pair stays the last
pub data Reordered : List ℕ → List ℕ → Type 0 where
  as_given : {words : List ℕ} → Reordered words words
  after_one : {i a e : ℕ} {words words' : List ℕ} → Reordered words words' → Reordered (i ∷ a ∷ e ∷ words) (i ∷ a ∷ e ∷ words')
  exchanged : {i a e j b f : ℕ} {words : List ℕ} → Reordered (i ∷ a ∷ e ∷ j ∷ b ∷ f ∷ words) (j ∷ b ∷ f ∷ i ∷ a ∷ e ∷ words)
  and_then : {words words' words'' : List ℕ} → Reordered words words' → Reordered words' words'' → Reordered words words''
