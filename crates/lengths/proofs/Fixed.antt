-- A primitive whose type alone says its bytes has that own length, where they are there. Assumes nothing.
use Rattle.rules.proofs.Prelude.{◌≡◌, refl, sym, ◌∙◌, Bool, true, false, cond, ◌||◌, List, [], ◌∷◌, ℕ, zero, suc, ◌+◌, ◌≤◌, ◌<◌, arith, length, get_or, ltb, ltb-false, false_true}
use Rattle.rules.proofs.Laws.{neither}
use Rattle.width.specs.Limits.{u32_max}
use Rattle.encoding.specs.declared.Header.TheVariants as header
use Rattle.std.specs.Prelude.{Some, None, Ok}
use Rattle.encoding.specs.Encoding.{header_of}
use Rattle.lengths.specs.Lengths.{payload, payloads, holds_length, bytes_by, fixed_length, own_length}
use Rattle.lengths.specs.Meaning.{Typed, Encoded}
use Rattle.lengths.specs.Meaning.Due.{measured}
use Rattle.lengths.proofs.Laws.{held_none}
use Rattle.lengths.proofs.Means.{exactly_when}

-- what such a type is
pub record Fixed (t n : ℕ) : Type 0 where
  pub known : t < 21
  pub holds_none : holds_length t ≡ false
  pub bytes : n ≡ 1 + payload t

pub fixed : (t n : ℕ) → fixed_length t ≡ Some n → Fixed t n
unfolding fixed_length
fixed t n some = go (ltb 20 t || holds_length t) refl some
  where
    go : (b : Bool) → (ltb 20 t || holds_length t) ≡ b → cond b None (Some (1 + payload t)) ≡ Some n → Fixed t n
    go true e p = let z : ◌≡◌ {A = ℕ} 0 1 = cc in absurd (omega arith)
    go false e p = let f = neither (ltb 20 t) (holds_length t) e in record { known = omega (arith, ltb-false 20 t f.0); holds_none = f.1; bytes = cc }

-- at most 17 bytes follow the header byte
abbrev Most : ℕ → List ℕ → Type 0
Most n [] = Unit {0}
Most n (x ∷ l) = (x ≤ n) × Most n l

most : (n : ℕ) (l : List ℕ) (t : ℕ) → Most n l → get_or l t 0 ≤ n
most n [] t h = omega arith
most n (x ∷ l) zero h = h.0
most n (x ∷ l) (suc t) h = most n l t h.1

few : (t : ℕ) → payload t ≤ 17
unfolding payload
few t = most 17 payloads t (omega arith)

-- THE LAW
pub fixed_known : (s : List ℕ) (t n : ℕ) → 1 ≤ length s → header_of (get_or s 0 0) ≡ header.Primitive t → fixed_length t ≡ Some n → n ≤ length s
    → own_length s ≡ Ok n
unfolding bytes_by u32_max
fixed_known s t n some says is there =
    let f = fixed t n is in
    let typed : Typed t s = record { known = f.known; length_there = λ h. false_true (sym f.holds_none ∙ h) } in
    let none = held_none t s f.holds_none in
    let encoded : Encoded (header.Primitive t) s n = record { headed = typed; bytes = omega (arith, f.bytes, none); fits = omega (arith, f.bytes, few t); there = there } in
    (exactly_when s (Ok n)).1 (measured some (rw says encoded))
