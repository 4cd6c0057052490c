-- Bytes after a leaf's own length change nothing: its own bytes are answered as they are with any others after them. And a leaf that is let
-- through has an own length. Assumes nothing.
use Rattle.rules.proofs.Prelude.{◌≡◌, refl, sym, ◌∙◌, true, List, ◌++◌, ℕ, ◌-◌, ◌≤◌, ◌<◌, dec_lt, arith, length, List·getD-append, take}
use Rattle.rules.proofs.Prelude.{drop, take-append-drop, get_or, pass}
use Rattle.std.specs.Prelude.{Result, Ok, Err}
use Rattle.part.specs.Part.{part}
use Rattle.part.proofs.Laws.{part_append}
use Rattle.encoding.specs.declared.Header.{Header}
use Rattle.lengths.specs.declared.Flaw.{Flaw}
use Rattle.lengths.specs.declared.Flaw.TheVariants.{Cut, Sum, Unknown, Longer}
use Rattle.encoding.specs.Encoding.{header_of}
use Rattle.lengths.specs.Lengths.{own_length, is_known, bytes_of}
use Rattle.lengths.proofs.Means.{known, is_known_law}
use Rattle.lengths.proofs.Appended as lengths
use Rattle.lengths.proofs.Appended.{Settled, own_bytes, at_hand}
use Rattle.leaf.specs.Leaf.{length_found, text_start, text, text_rules, leaf}
use Rattle.leaf.proofs.Laws.{length_stops, leaf_by_text}
use Rattle.leaf.proofs.Means.{good}

-- what is let through has an own length
pub measured : (s : List ℕ) → leaf s ≡ pass → own_length s ≡ Ok (bytes_of (own_length s))
measured s e = rw (good s e).measured

-- BYTES ADDED
module _ (s u : List ℕ) where
  -- a part that ends within the bytes, wherever it starts
  part_same : (f t : ℕ) → t ≤ length s → part (s ++ u) f t ≡ part s f t
  part_same f t p = go (dec_lt t f)
    where
      go : Dec (t < f) → part (s ++ u) f t ≡ part s f t
      go (yes q) = let z : t - f ≡ 0 = omega arith in rw z
      go (no q) = part_append s u f t (omega arith) p

  rules_same : (h : Header) (n : ℕ) → own_length s ≡ Ok n → own_length (s ++ u) ≡ Ok n → text_rules h (s ++ u) ≡ text_rules h s
  unfolding text_rules text
  rules_same h n e f = rw (e, f, part_same (text_start h) n (at_hand s n e))

  by_length : (l : Result ℕ Flaw) → own_length s ≡ l → own_length (s ++ u) ≡ l → Settled l → leaf (s ++ u) ≡ leaf s
  unfolding length_found
  by_length (Ok n) e f k =
      let byte : get_or (s ++ u) 0 0 ≡ get_or s 0 0 = List·getD-append s u 0 0 (known s n e).0 in
      leaf_by_text (s ++ u) n f ∙ rw (byte, rules_same (header_of (get_or s 0 0)) n e f) (sym (leaf_by_text s n e))
  by_length (Err Cut) e f k = absurd k
  by_length (Err Sum) e f k = length_stops (s ++ u) f refl ∙ sym (length_stops s e refl)
  by_length (Err Unknown) e f k = length_stops (s ++ u) f refl ∙ sym (length_stops s e refl)
  by_length (Err Longer) e f k = absurd k

  -- they lift a cut header and "longer than the bytes", and nothing else
  pub appended : Settled (own_length s) → leaf (s ++ u) ≡ leaf s
  appended settled = by_length (own_length s) refl (lengths.appended s u settled) settled

  pub local : is_known (own_length s) ≡ true → leaf (s ++ u) ≡ leaf s
  local e = appended (rw (is_known_law s e) tt)

-- BYTES AFTER THE OWN LENGTH
pub whatever_follows : (s : List ℕ) (n : ℕ) → own_length s ≡ Ok n → (u : List ℕ) → leaf (take n s ++ u) ≡ leaf s
whatever_follows s n own u =
    let alone : Settled (own_length (take n s)) = rw (own_bytes s n own) tt in
    appended (take n s) u alone ∙ sym (rw (take-append-drop n s) at (appended (take n s) (drop n s) alone))
