-- What the loops go by: no space from a place on, and no entry before one. Assumes nothing.
use lib.ListN.{drop_of_length-le}
use lib.Seq.{drop-cons}
use native.Mathlib.Nat.{le_refl}
use Rattle.rules.proofs.Prelude.{◌≡◌, refl, sym, ap, ◌∙◌, Bool, true, false, cond, List, [], ◌∷◌, ℕ, suc, ◌+◌, ◌/◌, ◌≤◌, ◌<◌, add-one, dec_lt}
use Rattle.rules.proofs.Prelude.{arith, ne_eqb, ltb, eqb, le-ltb, length, take, drop, length-drop, get_or, take_at}
use Prim.Native.Nat.{◌%◌}
use Rattle.std.specs.Prelude.{Result, Ok, Err}
use Rattle.text.specs.Text.{before, is_dash, no_digit, pairs, hex_of}
use Rattle.text.specs.Steps.{Read}
use Rattle.text.specs.declared.Fault.{Fault}
use Rattle.text.specs.declared.Fault.TheVariants.{Odd, NoDigit, Long}
use Rattle.dictionary.specs.declared.Header.{Header}
use Rattle.dictionary.specs.Dictionary.{count, name}
use Rattle.metadata.specs.Steps.{CheckedOf}
use Rattle.metadata.proofs.Means.{good}
use Rattle.metadata.proofs.Fits.{accepted_small}
use Rattle.pairing.specs.Meaning.{space, NoSpace, Halves, EntryOf}

-- NO SPACE FROM A PLACE ON

pub record Blank (line : List ℕ) (i : ℕ) : Type 0 where
  pub inside : i ≤ length line
  pub after : NoSpace (drop i line)

pub no_bytes : (line : List ℕ) → Blank line (length line)
unfolding before
no_bytes line = record { inside = omega arith; after = rw (drop_of_length-le line (le_refl (length line))) }

-- a byte more, which is none
pub one_more : {line : List ℕ} {i : ℕ} → Blank line (i + 1) → (get_or line i 0 ≡ 0x20 → ⊥) → Blank line i
unfolding before
one_more {line} {i} b n =
    let cut : drop i line ≡ get_or line i 0 ∷ drop (i + 1) line = drop-cons line i 0 (omega (arith, b.inside)) ∙ ap (λ (k : ℕ). get_or line i 0 ∷ drop k line) (sym (add-one i)) in
    record {
      inside = omega (arith, b.inside);
      after = rw (cut, ne_eqb (get_or line i 0) 0x20 n) (ap suc b.after);
    }

-- the space itself, and none
pub here : {line : List ℕ} {i : ℕ} → Blank line (i + 1) → get_or line i 0 ≡ 0x20 → Halves line i
here b e = record { inside = omega (arith, b.inside); is_space = e; is_last = b.after }

-- NO ENTRY BEFORE A PLACE

pub record Passed (d query : List ℕ) (i : ℕ) : Type 0 where
  pub inside : i ≤ count d
  pub none : (j : ℕ) → j < i → name d j ≡ query → ⊥

pub none_yet : (d query : List ℕ) → Passed d query 0
none_yet d query = record { inside = omega arith; none = λ j p e. absurd (omega arith) }

module _ {d query : List ℕ} {i : ℕ} (p : Passed d query i) where
  -- the entry at it is no more the name
  pub next : i < count d → (name d i ≡ query → ⊥) → Passed d query (i + 1)
  next h n = record { inside = omega arith; none = λ j q. by_place j q (dec_lt j i) }
    where
      by_place : (j : ℕ) → j < i + 1 → Dec (j < i) → name d j ≡ query → ⊥
      by_place j q (yes r) = p.none j r
      by_place j q (no r) = λ e. let here : j ≡ i = omega arith in n (rw here at e)

  -- it is
  pub found : i < count d → name d i ≡ query → EntryOf d query i
  found h e = record { inside = h; is_name = e; is_first = p.none }

-- A PAIR: what digits spell is spelt in any room that has some for it

abbrev Spells : List ℕ → Bool → Bool → Bool → Bool → Result (List ℕ) Fault
Spells t dash odd long bad = cond dash (Ok []) (cond odd (Err Odd) (cond long (Err Long) (cond bad (Err NoDigit) (Ok (pairs t)))))

module _ (t out : List ℕ) {after : List ℕ} (n : ℕ) where
  by_test : (dash odd long bad : Bool) → Read (Spells t dash odd long bad) out (Ok n) after → Spells t dash odd false bad ≡ Ok (take n after)
  by_test true _ _ _ read = let e = read.is in let z : n ≡ 0 = cc in rw z
  by_test false true _ _ read = let e = read.is in let z : ◌≡◌ {A = ℕ} 0 1 = cc in absurd (omega arith)
  by_test false false true _ read = let e = read.is in let z : ◌≡◌ {A = ℕ} 0 1 = cc in absurd (omega arith)
  by_test false false false true read = let e = read.is in let z : ◌≡◌ {A = ℕ} 0 1 = cc in absurd (omega arith)
  by_test false false false false read =
      let e = read.is in
      let z : length (pairs t) ≡ n = cc in
      ap Ok (sym (rw read.room_is (take_at (pairs t) _ n z)))

  pub spelt : Read (hex_of t (length out)) out (Ok n) after → hex_of t (length t) ≡ Ok (take n after)
  unfolding hex_of
  spelt read =
      rw (le-ltb (length t) (length t / 2) (omega arith))
      (by_test (is_dash t) (eqb (length t % 2) 1) (ltb (length out) (length t / 2)) (ltb (before no_digit t) (length t)) read)

-- the entry's number fits a word
pub small : {d : List ℕ} {h : Header} {i : ℕ} → CheckedOf d (Ok h) → i ≤ count d → i < 4294967296
small {d} checked p = omega (arith, (accepted_small d (good d checked.1)).number)
