-- The own length, by what the header byte says. Assumes nothing.
use Rattle.rules.proofs.Prelude.{◌≡◌, refl, ◌∙◌, Bool, true, false, List, [], ◌∷◌, ℕ, ◌+◌, ◌≤◌, ◌<◌, arith, eqb}
use Rattle.rules.proofs.Prelude.{length, drop, get_or, first, ◌<?◌, ◌≤?◌, ◌and◌, ◌⇒◌at◌, Found, pass, stop, first_at, first_pass, goes, ◌&◌, false_true, ◌||◌}
use borrow.Author.Tests.{eqb-true}
use Rattle.rules.proofs.Laws.{first_append}
use Rattle.rules.specs.Rules.Test.{is}
use Rattle.width.specs.Width.{le}
use Rattle.layout.specs.declared.Widths.{Widths}
use Rattle.layout.specs.declared.Flaw.{Flaw as LayoutFlaw}
use Rattle.layout.specs.declared.Flaw.TheVariants as lower
use Rattle.layout.specs.Steps.{HeadOf}
use Rattle.layout.proofs.Laws.{count_before, offsets_before, start_before}
use Rattle.encoding.specs.declared.Header.{Header}
use Rattle.encoding.specs.declared.Header.TheVariants as header
use Rattle.encoding.specs.Encoding.{header_of}
use Rattle.std.specs.Prelude.{Ok, Err}
use Rattle.lengths.specs.declared.Flaw.TheVariants.{Cut, Unknown}
use Rattle.lengths.specs.Lengths.{payloads, payload, holds_length, held, bytes_by, end_rules, length_rules, case_of, of_layout, length_by, own_length}
use Rattle.lengths.specs.Steps.{sized}

-- a length is known where the table passes, and nowhere else
pub known_passes : (f : Found) {n m : ℕ} → case_of f n ≡ Ok m → (f ≡ pass) × (n ≡ m)
unfolding case_of
known_passes pass e = (refl, cc)
known_passes (stop c p) e = let z : ◌≡◌ {A = ℕ} 0 1 = cc in absurd (omega arith)

pub by_passes : (h : Header) (s : List ℕ) {n : ℕ} → length_by h s ≡ Ok n → (first (length_rules h s) ≡ pass) × (bytes_by h s ≡ n)
unfolding length_by
by_passes h s e = known_passes (first (length_rules h s)) e

pub by_known : (h : Header) (s : List ℕ) → first (length_rules h s) ≡ pass → length_by h s ≡ Ok (bytes_by h s)
unfolding length_by case_of
by_known h s e = rw e

pub of_none : (s : List ℕ) → length s < 1 → Err Cut ≡ own_length s
unfolding own_length
of_none [] p = refl
of_none (b ∷ s) p = absurd (omega arith)

pub of_some : (s : List ℕ) → 1 ≤ length s → length_by (header_of (get_or s 0 0)) s ≡ own_length s
unfolding own_length
of_some [] p = absurd (omega arith)
of_some (b ∷ s) p = refl

-- a primitive
module _ (t : ℕ) (s : List ℕ) where
  pub no_such_type : 21 ≤ t → Err Unknown ≡ length_by (header.Primitive t) s
  unfolding length_by length_rules case_of
  no_such_type h = rw (first_at 0 (length_rules (header.Primitive t) s) h)

  module _ (known : t < 21) where
    pub length_cut : holds_length t ≡ true → length s < 5 → Err Cut ≡ length_by (header.Primitive t) s
    unfolding length_by length_rules case_of
    length_cut b h = rw (first_at 1 (length_rules (header.Primitive t) s) (known, (b, h)))

    pub to_its_end : (holds_length t ≡ true → 5 ≤ length s) → sized (length s) (1 + payload t + held t s) ≡ length_by (header.Primitive t) s
    unfolding length_by length_rules bytes_by
    to_its_end whole =
        let before = (21 ≤? t ⇒ 3 at 0) ∷ (is (holds_length t) and length s <? 5 ⇒ 1 at 0) ∷ [] in
        let after = end_rules (length s) (1 + payload t + held t s) in
        rw (first_append before after ∙ goes _ (first_pass before (known & whole & tt)))

  -- the length that a primitive holds has four bytes
  pub holds_four : holds_length t ≡ true → payload t ≡ 4
  unfolding holds_length payload
  holds_four b = go (eqb t 15) refl (eqb t 16) refl b
    where
      go : (u : Bool) → eqb t 15 ≡ u → (v : Bool) → eqb t 16 ≡ v → (u || v) ≡ true → get_or payloads t 0 ≡ 4
      go true e v f b = let z : t ≡ 15 = eqb-true t 15 e in rw z
      go false e true f b = let z : t ≡ 16 = eqb-true t 16 f in rw z
      go false e false f b = false_true b

  pub held_some : holds_length t ≡ true → held t s ≡ le 4 (drop 1 s)
  unfolding held
  held_some b = rw b

  pub held_none : holds_length t ≡ false → held t s ≡ 0
  unfolding held
  held_none b = rw b

-- a short string
pub short_end : (n : ℕ) (s : List ℕ) → sized (length s) (1 + n) ≡ length_by (header.ShortString n) s
unfolding length_by length_rules bytes_by
short_end n s = refl

-- a list's own length is that of its layout, as an object's is
pub list_as_object : (w : Widths) (s : List ℕ) → length_by (header.Object w) s ≡ length_by (header.List w) s
unfolding length_by length_rules bytes_by
list_as_object w s = refl

-- a layout's flaw is that of the object or list
pub layout_flaw : (f : LayoutFlaw) (w : Widths) (s : List ℕ) → HeadOf s w (Err f) → Err (of_layout f) ≡ length_by (header.Object w) s
unfolding length_by length_rules case_of
layout_flaw lower.Cut w s h = rw (h 1 2 4)
layout_flaw lower.Sum w s h = rw (h 1 2 4)
layout_flaw lower.Longer w s h = rw (h 1 2 4)

-- a value has a byte at least
pub bytes_some : (h : Header) (s : List ℕ) → 1 ≤ bytes_by h s
unfolding bytes_by
bytes_some (header.Primitive t) s = omega arith
bytes_some (header.ShortString n) s = omega arith
bytes_some (header.Object w) s = omega (arith, count_before w s, offsets_before w s, start_before w s)
bytes_some (header.List w) s = omega (arith, count_before w s, offsets_before w s, start_before w s)
