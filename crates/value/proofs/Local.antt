-- Bytes after a value's own length change no reading. Bytes added lift no refusal but that of a cut header and of a length past the bytes; a
-- value cut anywhere before its own length is refused with 50. Assumes nothing.
use Rattle.rules.proofs.Prelude.{◌≡◌, refl, sym, ap, ◌∙◌, ◌⊎◌, inl, inr, List, ◌++◌, ℕ, ◌+◌, ◌≤◌, ◌<◌}
use Rattle.rules.proofs.Prelude.{length, List·getD-append, take, drop, take-append-drop, get_or}
use Rattle.width.proofs.Laws.{le_append_at}
use Rattle.number.proofs.Means.{signed_append_at}
use Rattle.encoding.specs.declared.Header.{Header}
use Rattle.encoding.specs.declared.Header.TheVariants as header
use Rattle.std.specs.Prelude.{Result, Ok, Err}
use Rattle.lengths.specs.declared.Flaw.{Flaw}
use Rattle.lengths.specs.declared.Flaw.TheVariants.{Cut, Sum, Unknown, Longer}
use Rattle.encoding.specs.Encoding.{header_of}
use Rattle.lengths.specs.Lengths.{payload, own_length}
use Rattle.lengths.proofs.Appended as lengths
use Rattle.lengths.proofs.Appended.{Settled, own_bytes}
use Rattle.lengths.proofs.Cut.{cut_or_longer}
use Rattle.value.specs.declared.Refusal.TheVariants.{Short}
use Rattle.value.specs.declared.Value.TheVariants as value
use Rattle.value.specs.Reading.{single, double, primitive, read_by, measured, reading}
use Rattle.value.proofs.Laws.{by_type, placed_is, by_length, some_byte, payload_there}

-- what 50 is of
of_cut : (s : List ℕ) → own_length s ≡ Err Cut → reading s ≡ Err Short
unfolding measured
of_cut s e = sym (by_length s (sym e))

of_longer : (s : List ℕ) → own_length s ≡ Err Longer → reading s ≡ Err Short
unfolding measured
of_longer s e = sym (by_length s (sym e))

module _ (s u : List ℕ) where
  -- EACH PRIMITIVE, whose payload is there
  primitive_same : (t n : ℕ) → 1 + payload t ≤ length s → primitive t (s ++ u) n ≡ primitive t s n
  unfolding primitive payload
  primitive_same t n there =
      let at : (k : ℕ) → t ≡ k → 1 + payload k ≤ length s = λ k e. rw e at there in
      by_type (λ v. primitive t (s ++ u) n ≡ v) t s n (λ e. rw e) (λ e. rw e) (λ e. rw e)
      (λ e. rw e (ap value.I8 (signed_append_at 1 1 s u (at 3 e)))) (λ e. rw e (ap value.I16 (signed_append_at 2 1 s u (at 4 e))))
      (λ e. rw e (ap value.I32 (signed_append_at 4 1 s u (at 5 e)))) (λ e. rw e (ap value.I64 (signed_append_at 8 1 s u (at 6 e))))
      (λ e. rw e (ap double (le_append_at 8 1 s u (at 7 e)))) (λ e. rw e (ap single (le_append_at 4 1 s u (at 14 e))))
      (λ least no_float. sym (placed_is t (s ++ u) n least no_float refl))

  by_same : (h : Header) (n : ℕ) → ((t : ℕ) → header.Primitive t ≡ h → 1 + payload t ≤ length s) → read_by h (s ++ u) n ≡ read_by h s n
  unfolding read_by
  by_same (header.Primitive t) n there = primitive_same t n (there t refl)
  by_same (header.ShortString k) n there = refl
  by_same (header.Object w) n there = refl
  by_same (header.List w) n there = refl

  -- BYTES ADDED
  measured_same : (l : Result ℕ Flaw) → own_length s ≡ l → measured l (s ++ u) ≡ measured l s
  unfolding measured
  measured_same (Ok n) e =
      let some = some_byte s n e in
      let first : get_or (s ++ u) 0 0 ≡ get_or s 0 0 = List·getD-append s u 0 0 some in
      rw first (ap Ok (by_same (header_of (get_or s 0 0)) n (λ t p. payload_there s n e p)))
  measured_same (Err f) e = refl

  pub appended : Settled (own_length s) → reading (s ++ u) ≡ reading s
  appended settled =
      let same = lengths.appended s u settled in
      sym (by_length (s ++ u) (sym same)) ∙ measured_same (own_length s) refl ∙ by_length s refl

  -- so every reading stays but a refusal with 50
  pub stays : (reading s ≡ Err Short → ⊥) → reading (s ++ u) ≡ reading s
  stays other = appended (go (own_length s) refl)
    where
      go : (l : Result ℕ Flaw) → own_length s ≡ l → Settled l
      go (Ok n) e = tt
      go (Err Cut) e = absurd (other (of_cut s e))
      go (Err Sum) e = tt
      go (Err Unknown) e = tt
      go (Err Longer) e = absurd (other (of_longer s e))

-- BYTES AFTER THE OWN LENGTH
module _ (s : List ℕ) (n : ℕ) (own : own_length s ≡ Ok n) where
  alone : reading (take n s) ≡ reading s
  alone = sym (rw (take-append-drop n s) at (appended (take n s) (drop n s) (rw (own_bytes s n own) tt)))

  pub local : (u : List ℕ) → reading (take n s ++ u) ≡ reading s
  local u = appended (take n s) u (rw (own_bytes s n own) tt) ∙ alone

  -- CUT
  pub cut : (m : ℕ) → m < n → reading (take m s) ≡ Err Short
  cut m before = go (cut_or_longer s n m own before)
    where
      go : (own_length (take m s) ≡ Err Cut) ⊎ (own_length (take m s) ≡ Err Longer) → reading (take m s) ≡ Err Short
      go (inl e) = of_cut (take m s) e
      go (inr e) = of_longer (take m s) e
