-- A reading, exactly when: each value is read exactly from the bytes that give it in the words of specs/Meaning.antt. Assumes nothing.
use Rattle.rules.proofs.Prelude.{◌≡◌, refl, sym, ap, ◌∙◌, ◌↔◌, true, false, Bool, cond, List, ℕ, ◌≤◌, length, drop, get_or}
use Rattle.width.specs.Width.{le}
use Rattle.encoding.specs.declared.Header.{Header}
use Rattle.encoding.specs.declared.Header.TheVariants as header
use Rattle.std.specs.Prelude.{Result, Ok, Err}
use Rattle.lengths.specs.declared.Flaw.{Flaw}
use Rattle.lengths.specs.declared.Flaw.TheVariants as flaw
use Rattle.encoding.specs.Encoding.{header_of}
use Rattle.lengths.specs.Lengths.{holds_length, own_length}
use Rattle.lengths.specs.Meaning.{Lacks, Due}
use Rattle.lengths.specs.Meaning.Lacks.{no_such_type as no-type, length_cut, count_cut, offsets_sum, start_sum, offsets_cut, end_sum, end_past}
use Rattle.lengths.specs.Meaning.Due.{no_bytes as none_there, measured as whole, none}
use Rattle.lengths.proofs.Means as own
use Rattle.value.specs.declared.Value.{Value}
use Rattle.value.specs.declared.Value.TheVariants.{Bytes}
use Rattle.value.specs.declared.Kind.TheVariants.{Primitive}
use Rattle.value.specs.declared.Refusal.{Refusal}
use Rattle.value.specs.Reading.{single, double, payload_start, primitive, read_by, measured, reading}
use Rattle.value.specs.Meaning.{Begins, OfType, Placed, Reads}
use Rattle.value.specs.Meaning.Reads.{null, is_true, is_false, int8, int16, int32, int64, double as a-double, double_nan, float, float_nan}
use Rattle.value.specs.Meaning.Reads.{payload, after_length, short_string, object, list, no_bytes, header_cut, past_range, past_bytes, no_such_type}
use Rattle.value.proofs.Laws.{by_single, by_double, by_type, by_length, by_header, placed_is}

-- WHAT IS READ IS SO
module _ (s : List ℕ) where
  pub double_reads : {n : ℕ} → OfType s 7 n → Reads s (Ok (double (le 8 (drop 1 s))))
  double_reads b = by_double (λ v. Reads s (Ok v)) (le 8 (drop 1 s)) (double_nan b) (a-double b)

  pub single_reads : {n : ℕ} → OfType s 14 n → Reads s (Ok (single (le 4 (drop 1 s))))
  single_reads b = by_single (λ v. Reads s (Ok v)) (le 4 (drop 1 s)) (float_nan b) (float b)

  pub placed_reads : {t n : ℕ} → OfType s t n → Placed t → Reads s (Ok (Bytes (Primitive t) (payload_start t) n))
  unfolding payload_start
  placed_reads {t} {n} b p = go (holds_length t) refl
    where
      go : (u : Bool) → holds_length t ≡ u → Reads s (Ok (Bytes (Primitive t) (cond u 5 1) n))
      go true e = after_length b p e
      go false e = payload b p e

  primitive_reads : {t n : ℕ} → OfType s t n → Reads s (Ok (primitive t s n))
  primitive_reads {t} {n} b =
      let at : (k : ℕ) → t ≡ k → OfType s k n = λ k e. rw e at b in
      by_type (λ v. Reads s (Ok v)) t s n (λ e. null (at 0 e)) (λ e. is_true (at 1 e)) (λ e. is_false (at 2 e))
      (λ e. int8 (at 3 e)) (λ e. int16 (at 4 e)) (λ e. int32 (at 5 e)) (λ e. int64 (at 6 e))
      (λ e. double_reads (at 7 e)) (λ e. single_reads (at 14 e))
      (λ least no_float. placed_reads b (record { from_eight = least; no_float = no_float }))

  by_reads : {n : ℕ} (h : Header) → Begins s h n → Reads s (Ok (read_by h s n))
  unfolding read_by
  by_reads (header.Primitive t) b = primitive_reads b
  by_reads (header.ShortString k) b = short_string b
  by_reads (header.Object w) b = object b
  by_reads (header.List w) b = list b

  lacking_reads : (f : Flaw) → 1 ≤ length s → Lacks s (header_of (get_or s 0 0)) f → Reads s (measured (Err f) s)
  unfolding measured
  lacking_reads f some (no-type t e p) = no_such_type some e p
  lacking_reads f some (length_cut t e known b p) = header_cut some (length_cut t e known b p)
  lacking_reads f some (count_cut a p) = header_cut some (count_cut a p)
  lacking_reads f some (offsets_sum a b p) = past_range some (offsets_sum a b p)
  lacking_reads f some (start_sum a b c p) = past_range some (start_sum a b c p)
  lacking_reads f some (offsets_cut a b c d p) = header_cut some (offsets_cut a b c d p)
  lacking_reads f some (end_sum d p) = past_range some (end_sum d p)
  lacking_reads f some (end_past d q p) = past_bytes some (end_past d q p)

  due_reads : (l : Result ℕ Flaw) → Due s l → Reads s (measured l s)
  unfolding measured
  due_reads l (none_there e) = no_bytes e
  due_reads l (whole some e) = by_reads (header_of (get_or s 0 0)) (record { some = some; says = refl; encoded = e })
  due_reads l (none some k) = lacking_reads _ some k

  what_reads : Reads s (reading s)
  unfolding reading
  what_reads = due_reads (own_length s) ((own.exactly_when s (own_length s)).0 refl)

-- AND WHAT IS SO IS READ
module _ (s : List ℕ) where
  -- by the length that is due, and by the header where it is known
  by_due : (l : Result ℕ Flaw) → Due s l → reading s ≡ measured l s
  by_due l d = sym (by_length s (sym ((own.exactly_when s l).1 d)))

  begun : {h : Header} {n : ℕ} → Begins s h n → reading s ≡ Ok (read_by h s n)
  begun {h} {n} b =
      let own_is : own_length s ≡ Ok n = (own.exactly_when s (Ok n)).1 (whole b.some (rw b.says b.encoded)) in
      sym (by_header s n own_is (sym b.says))

  placed : {t n : ℕ} (a : ℕ) → OfType s t n → Placed t → payload_start t ≡ a → reading s ≡ Ok (Bytes (Primitive t) a n)
  unfolding read_by
  placed {t} {n} a b p is = begun b ∙ ap Ok (sym (placed_is t s n p.from_eight p.no_float (sym is)))

  is_read : (v : Result Value Refusal) → Reads s v → reading s ≡ v
  unfolding read_by primitive single double payload_start measured
  is_read v (null b) = begun b
  is_read v (is_true b) = begun b
  is_read v (is_false b) = begun b
  is_read v (int8 b) = begun b
  is_read v (int16 b) = begun b
  is_read v (int32 b) = begun b
  is_read v (int64 b) = begun b
  is_read v (a-double b e) = begun b ∙ rw e
  is_read v (double_nan b e) = begun b ∙ rw e
  is_read v (float b e) = begun b ∙ rw e
  is_read v (float_nan b e) = begun b ∙ rw e
  is_read v (payload b p e) = placed 1 b p (rw e)
  is_read v (after_length b p e) = placed 5 b p (rw e)
  is_read v (short_string b) = begun b
  is_read v (object b) = begun b
  is_read v (list b) = begun b
  is_read v (no_bytes e) = by_due (Err flaw.Cut) (none_there e)
  is_read v (header_cut some k) = by_due (Err flaw.Cut) (none some k)
  is_read v (past_range some k) = by_due (Err flaw.Sum) (none some k)
  is_read v (past_bytes some k) = by_due (Err flaw.Longer) (none some k)
  is_read v (no_such_type some e p) = by_due (Err flaw.Unknown) (none some (no-type _ e p))

-- THE THEOREM
pub exactly_when : (s : List ℕ) (v : Result Value Refusal) → (reading s ≡ v) ↔ Reads s v
exactly_when s v = (λ e. rw e at (what_reads s), is_read s v)
