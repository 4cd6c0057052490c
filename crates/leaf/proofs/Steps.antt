-- A leaf that stands in a whole: where its text is, and what its check answers by the check of that. Assumes nothing.
use Rattle.rules.proofs.Prelude.{◌≡◌, sym, ◌∙◌, true, false, List, ℕ, ◌+◌, ◌-◌, ◌≤◌, ◌<◌, arith, length, get_or, false_true}
use Rattle.std.specs.Prelude.{Result, Ok, Err}
use borrow.Author.Tests.{eqb-true}
use Rattle.part.specs.Part.{part}
use Rattle.part.proofs.Laws.{part_length, part_first, part_part}
use Rattle.encoding.specs.declared.Header.{Header}
use Rattle.encoding.specs.declared.Header.TheVariants as header
use Rattle.encoding.specs.Encoding.{header_of}
use Rattle.lengths.specs.Lengths.{own_length}
use Rattle.lengths.proofs.Means.{known}
use Rattle.lengths.proofs.Appended.{some_bytes, at_hand}
use Rattle.part.specs.declared.Span.{Span}
use Rattle.texts.specs.Known.{KnownOf}
use Rattle.leaf.specs.declared.Refusal.{Refusal}
use Rattle.leaf.specs.Leaf.{is_string, text_start, text}
use Rattle.leaf.specs.Meaning.Refusal.{not_text}
use Rattle.leaf.specs.Steps.{TextOf, LeafOf}
use Rattle.leaf.proofs.Laws.{five_bytes}
use Rattle.leaf.proofs.Means.{all_pass, is_due}

-- a leaf of n bytes from a to e of the whole w, of which a range is known to be text
abbrev Stands : (w : List ℕ) (a e n : ℕ) → Span → Type 0
Stands w a e n t = (a ≤ e) × (e ≤ length w) × KnownOf w t × (own_length (part w a e) ≡ Ok n)

-- a string's type is 14 at least
pub string_type : (t : ℕ) → is_string (header.Primitive t) ≡ true → 14 ≤ t
unfolding is_string
string_type t is = omega (arith, eqb-true t 16 is)

module _ {w : List ℕ} {a e n : ℕ} {t : Span} (stands : Stands w a e n t) where
  own : own_length (part w a e) ≡ Ok n
  own = stands.3

  size : length (part w a e) ≡ e - a
  size = part_length w a e stands.0 stands.1

  -- its header byte is there, and so are its bytes
  pub starts_inside : a < e
  starts_inside = omega (arith, size, (known (part w a e) n own).0)

  pub ends_inside : a + n ≤ e
  ends_inside = omega (arith, size, stands.0, at_hand (part w a e) n own)

  pub some : 1 ≤ n
  some = some_bytes (part w a e) n own

  first_byte : get_or (part w a e) 0 0 ≡ get_or w a 0
  first_byte = part_first w a e starts_inside

  pub after_five : {k : ℕ} → header.Primitive k ≡ header_of (get_or w a 0) → 14 ≤ k → 5 ≤ n
  after_five {k} says from = five_bytes (part w a e) n own k (rw first_byte says) from

  module _ {h : Header} (says : h ≡ header_of (get_or w a 0)) where
    says_part : h ≡ header_of (get_or (part w a e) 0 0)
    says_part = rw first_byte says

    text_at : text (header_of (get_or (part w a e) 0 0)) (part w a e) ≡ part w (a + text_start h) (a + n)
    unfolding text
    text_at = rw (← says_part, own) (part_part w a e (text_start h) n ends_inside)

    -- what is no string is good
    pub no_string : is_string h ≡ false → LeafOf w a e (Ok t)
    no_string b =
        let good = all_pass (part w a e) (record { bytes = n; measured = own; is_text = λ s. false_true (sym b ∙ (rw (← says_part) at s)) }) in
        (good, stands.2)

    -- and a string is what its text is
    pub as_its_text : is_string h ≡ true → (r : Result Span Refusal) → TextOf w (a + text_start h) (a + n) r → LeafOf w a e r
    as_its_text b (Err k) told =
        rw told.0 (is_due (part w a e) (not_text own (rw (← says_part) b) (λ x. told.1 (rw text_at at x))))
    as_its_text b (Ok k) told =
        (all_pass (part w a e) (record { bytes = n; measured = own; is_text = λ _. rw text_at told.0 }), told.1)
