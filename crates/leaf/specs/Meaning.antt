-- What document 02, h), asks of a leaf, in words: when it is good, and when each refusal is due. proofs/Means.antt shows that `leaf` of
-- Leaf.antt says the same. Assumes nothing.
use Rattle.std.specs.Prelude.{◌≡◌, true, List, ℕ, get_or, Ok, Err}
use Rattle.chars.specs.Rfc3629.{Text}
use Rattle.lengths.specs.declared.Flaw.TheVariants.{Cut, Sum, Unknown, Longer}
use Rattle.encoding.specs.Encoding.{header_of}
use Rattle.lengths.specs.Lengths.{own_length}
use Rattle.leaf.specs.Leaf.{is_string, text}

-- it has an own length, and a string's text is UTF-8
pub record GoodLeaf (s : List ℕ) : Type 0 where
  pub bytes : ℕ
  pub measured : own_length s ≡ Ok bytes
  pub is_text : is_string (header_of (get_or s 0 0)) ≡ true → Text (text (header_of (get_or s 0 0)) s)

pub data Refusal (s : List ℕ) : ℕ → ℕ → Type 0 where
  header_cut : own_length s ≡ Err Cut → Refusal s 50 0
  past_range : own_length s ≡ Err Sum → Refusal s 50 0
  past_bytes : own_length s ≡ Err Longer → Refusal s 50 0
  no_such_type : own_length s ≡ Err Unknown → Refusal s 51 0
  not_text : {n : ℕ} → own_length s ≡ Ok n → is_string (header_of (get_or s 0 0)) ≡ true → (Text (text (header_of (get_or s 0 0)) s) → ⊥) → Refusal s 54 0
