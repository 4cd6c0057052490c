-- A primitive of a fixed length whose bytes are there, and a short string of text, are good leaves. Assumes nothing.
use Rattle.rules.proofs.Prelude.{◌≡◌, sym, ap, ◌∙◌, refl, true, false, List, ℕ, ◌+◌, ◌-◌, ◌≤◌, ◌<◌, arith, length, get_or, pass, false_true}
use Rattle.std.specs.Prelude.{Ok, Some}
use borrow.Author.Tests.{eqb-true}
use Rattle.part.specs.Part.{part}
use Rattle.part.proofs.Laws.{part_length, part_first, part_part}
use Rattle.width.specs.Limits.{u32_max}
use Rattle.chars.specs.Rfc3629.{Text}
use Rattle.encoding.specs.declared.Header.{Header}
use Rattle.encoding.specs.declared.Header.TheVariants as header
use Rattle.encoding.specs.Encoding.{header_of}
use Rattle.lengths.specs.Lengths.{holds_length, fixed_length, bytes_by, own_length}
use Rattle.lengths.specs.Meaning.{Encoded}
use Rattle.lengths.specs.Meaning.Due.{measured}
use Rattle.encoding.specs.Promises.{HeaderPromise}
use Rattle.lengths.proofs.Means.{exactly_when}
use Rattle.lengths.proofs.Fixed.{fixed, fixed_known}
use Rattle.leaf.specs.Leaf.{head_of, IsLeaf, is_string, text_start, text, leaf}
use Rattle.leaf.proofs.Means.{all_pass}

module _ (w : List ℕ) (a e : ℕ) (inside : a < e) (there : e ≤ length w) where
  size : length (part w a e) ≡ e - a
  size = part_length w a e (omega arith) there

  says : {h : Header} → HeaderPromise (get_or w a 0) h → head_of (part w a e) ≡ h
  says p = ap header_of (part_first w a e inside) ∙ sym p.says

  -- a type that holds no length is no string's
  no_string : (t : ℕ) → holds_length t ≡ false → is_string (header.Primitive t) ≡ true → ⊥
  unfolding is_string holds_length
  no_string t free is = let z : t ≡ 16 = eqb-true t 16 is in false_true (sym (rw z at free))

  pub small_primitive : (t n : ℕ) → HeaderPromise (get_or w a 0) (header.Primitive t) → fixed_length t ≡ Some n → n ≤ e - a
      → IsLeaf (head_of (part w a e)) × (leaf (part w a e) ≡ pass)
  small_primitive t n p some fits =
      let head = says p in
      let own = fixed_known (part w a e) t n (omega (arith, size)) head some (omega (arith, size)) in (
        rw head tt,
        all_pass (part w a e) (record { bytes = n; measured = own; is_text = λ is. absurd (no_string t (fixed t n some).holds_none (rw head at is)) }),
      )

  pub small_string : (n : ℕ) → HeaderPromise (get_or w a 0) (header.ShortString n) → a + 1 + n ≤ e → Text (part w (a + 1) (a + 1 + n))
      → IsLeaf (head_of (part w a e)) × (leaf (part w a e) ≡ pass)
  unfolding bytes_by text text_start u32_max
  small_string n p fits is_text =
      let head = says p in
      let encoded : Encoded (header.ShortString n) (part w a e) (1 + n) =
      record { headed = tt; bytes = refl; fits = omega (arith, p.bounds); there = omega (arith, size) } in
      let own : own_length (part w a e) ≡ Ok (1 + n) = (exactly_when (part w a e) (Ok (1 + n))).1 (measured (omega (arith, size)) (rw head encoded)) in
      let at : a + 1 + n ≡ a + (1 + n) = omega arith in (
        rw head tt,
        all_pass (part w a e) (record { bytes = 1 + n; measured = own; is_text = λ _. rw (head, own, part_part w a e 1 (1 + n) (omega arith), ← at) is_text }),
      )
