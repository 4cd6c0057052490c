-- A leaf by its own length: without one its refusal, and with one the rules of its text. Assumes nothing.
use Rattle.rules.proofs.Prelude.{◌≡◌, refl, List, ℕ, zero, suc, ◌+◌, ◌-◌, ◌≤◌, ◌<◌, arith, drop, get_or, first, stop, stops, goes}
use Rattle.std.specs.Prelude.{Result, Ok, Err}
use lib.Seq.{get_or-drop}
use Rattle.encoding.specs.declared.Header.TheVariants as header
use Rattle.lengths.specs.declared.Flaw.{Flaw}
use Rattle.lengths.specs.declared.Flaw.TheVariants.{Cut, Sum, Unknown, Longer}
use Rattle.encoding.specs.Encoding.{header_of}
use Rattle.lengths.specs.Lengths.{payloads, payload, bytes_by, own_length}
use Rattle.lengths.proofs.Means.{known}
use Rattle.leaf.specs.Leaf.{length_found, text_rules, leaf}
use Rattle.leaf.specs.Answers.{refusal_number, of_length}

-- a primitive from type 14 on has a payload of four bytes at least
four_or_more : (k : ℕ) → k < 7 → 4 ≤ get_or (drop 14 payloads) k 0
four_or_more zero p = omega arith
four_or_more (suc zero) p = omega arith
four_or_more (suc (suc zero)) p = omega arith
four_or_more (suc (suc (suc zero))) p = omega arith
four_or_more (suc (suc (suc (suc zero)))) p = omega arith
four_or_more (suc (suc (suc (suc (suc zero))))) p = omega arith
four_or_more (suc (suc (suc (suc (suc (suc zero)))))) p = omega arith
four_or_more (suc (suc (suc (suc (suc (suc (suc k))))))) p = absurd (omega arith)

four_at_least : (t : ℕ) → 14 ≤ t → t < 21 → 4 ≤ payload t
unfolding payload
four_at_least t p q =
    let z : 14 + (t - 14) ≡ t = omega arith in rw (get_or-drop 14 payloads (t - 14) 0, z) at (four_or_more (t - 14) (omega arith))

module _ (s : List ℕ) where
  -- without an own length
  pub length_stops : {l : Result ℕ Flaw} {c p : ℕ} → own_length s ≡ l → length_found l ≡ stop c p → leaf s ≡ stop c p
  unfolding leaf
  length_stops e f = stops (first (text_rules (header_of (get_or s 0 0)) s)) (rw e f)

  pub no_length : (f : Flaw) → own_length s ≡ Err f → leaf s ≡ stop (refusal_number (of_length f)) 0
  unfolding length_found
  no_length Cut e = length_stops e refl
  no_length Sum e = length_stops e refl
  no_length Unknown e = length_stops e refl
  no_length Longer e = length_stops e refl

  module _ (n : ℕ) (own : own_length s ≡ Ok n) where
    -- with one, of n bytes
    pub leaf_by_text : leaf s ≡ first (text_rules (header_of (get_or s 0 0)) s)
    unfolding leaf length_found
    leaf_by_text = goes (first (text_rules (header_of (get_or s 0 0)) s)) (rw own)

    -- of which a primitive from type 14 on has five at least: a string's text starts within it
    pub five_bytes : (t : ℕ) → header.Primitive t ≡ header_of (get_or s 0 0) → 14 ≤ t → 5 ≤ n
    unfolding bytes_by
    five_bytes t e p = let k = rw (← e) at (known s n own).1 in omega (arith, k.bytes, four_at_least t p k.headed.known)
