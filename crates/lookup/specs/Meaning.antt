-- What the lookup's answers say, in the words of document 01 and, of the id, request c) of document 02. proofs/Finds.antt shows that the
-- lookup of ByName.antt says the same. Assumes nothing.
use Rattle.std.specs.Prelude.{◌≡◌, List, [], ◌∷◌, ℕ, ◌+◌, ◌<◌}
use Rattle.rules.specs.Rules.{Answer, accept}
use Rattle.part.specs.Part.{part}
use Rattle.dictionary.specs.Dictionary as dictionary
use Rattle.layer.specs.Object.{count, id, offset, start, end, field_name}
use Rattle.layer.specs.Meaning.{Layer, Refusal}

-- found: the layer is accepted, k is one of its fields, field k's dictionary bytes equal the query; i is the field's id, and so the dictionary's
-- bytes at i are the query; the child runs from a to e and is never empty
pub record Found (d o q : List ℕ) (k i a e : ℕ) : Type 0 where
  pub accepted : Layer d o (count o) (start o) (end o)
  pub is_field : k < count o
  pub is_name : field_name d o k ≡ q
  pub is_id : i ≡ id o k
  pub is_entry : i < dictionary.count d
  pub id_names : dictionary.name d i ≡ q
  pub starts : a ≡ start o + offset o k
  pub ends : e ≡ end o
  pub has_bytes : a < e

-- absent: the layer is accepted, and none of its fields has that name
pub record Absent (d o q : List ℕ) : Type 0 where
  pub accepted : Layer d o (count o) (start o) (end o)
  pub no_field : (k : ℕ) → k < count o → field_name d o k ≡ q → ⊥

-- nothing is found: the name is absent, or the dictionary or the layer is refused
pub data NotFound (d o q : List ℕ) : Type 0 where
  absent : Absent d o q → NotFound d o q
  refused : {c p : ℕ} → Refusal d o c p → NotFound d o q

-- an answer to `name by number` that gives q: the dictionary's bytes where it says are q
pub data Spells (d q : List ℕ) : Answer → Type 0 where
  spells : {s t : ℕ} → part d s t ≡ q → Spells d q (accept (s ∷ t ∷ []))
