-- The own length, exactly when: each answer of `own_length` is given exactly when it is due in the words of specs/Meaning.antt. Assumes nothing.
use Rattle.rules.proofs.Prelude.{◌≡◌, refl, sym, ap, ◌∙◌, ◌↔◌, List, ℕ, ◌≤◌, ◌<◌, arith, length, get_or, Found, first, pass, stop}
use Rattle.rules.proofs.Prelude.{◌&◌, true, false_true, dec_lt, Meant, by_rows, meant_pass, first_at, first_pass}
use Rattle.rules.proofs.Laws.Meant.{all_pass, one_stops}
use Rattle.width.specs.Limits.{u32_max}
use Rattle.layout.specs.declared.Widths.{Widths}
use Rattle.layout.specs.Layout as layout
use Rattle.encoding.specs.declared.Header.{Header}
use Rattle.encoding.specs.declared.Header.TheVariants as header
use Rattle.lengths.specs.declared.Flaw.{Flaw}
use Rattle.std.specs.Prelude.{Result, Ok, Err}
use Rattle.lengths.specs.declared.Flaw.TheVariants.{Sum, Longer}
use Rattle.encoding.specs.Encoding.{header_of}
use Rattle.lengths.specs.Lengths.{bytes_by, length_rules, flaw_of, case_of, length_by, own_length, is_known, bytes_of}
use Rattle.lengths.specs.Meaning.{Typed, Counted, Headed, Encoded, Laid, Lacks, Due}
use Rattle.lengths.specs.Meaning.Laid.{as_object, as_list}
use Rattle.lengths.specs.Meaning.Lacks.{no_such_type, length_cut, count_cut, offsets_sum, start_sum, offsets_cut, end_sum, end_past}
use Rattle.lengths.specs.Meaning.Due.{no_bytes, measured, none}
use Rattle.lengths.proofs.Laws as laws
use Rattle.lengths.proofs.Laws.{by_passes, of_none, of_some}

-- EACH HEADER'S TABLE, ROW BY ROW

module _ (s : List ℕ) where
  -- what a row's number stands for is due
  abbrev Stops : Header → ℕ → ℕ → Type 0
  Stops h c p = Lacks s h (flaw_of c)

  abbrev Measured : Header → Type 0
  Measured h = Encoded h s (bytes_by h s)

  laid_means : (w : Widths) (h : Header) → Laid w h → (Counted w s → Headed h s) → bytes_by h s ≡ layout.end w s
      → Meant (Measured h) (Stops h) (first (layout.rules 1 2 4 w s))
  unfolding case_of
  laid_means w h laid headed e =
      by_rows (Measured h) (Stops h) (layout.rules 1 2 4 w s)
      (count_cut laid & λ there.
      offsets_sum laid there & λ fits.
      start_sum laid there fits & λ fits'.
      offsets_cut laid there fits fits' & λ there'.
      let head : Headed h s = headed (record { count_there = there; offsets_fit = fits; start_fits = fits'; offsets_there = there' }) in
      (λ p. end_sum head (rw e p)) & λ small.
      (λ p. end_past head (rw e small) (rw e p)) & λ inside.
      record { headed = head; bytes = refl; fits = rw e small; there = rw e inside })

  rules_mean : (h : Header) → Meant (Measured h) (Stops h) (first (length_rules h s))
  unfolding length_rules bytes_by case_of
  rules_mean (header.Primitive t) =
      by_rows (Measured (header.Primitive t)) (Stops (header.Primitive t)) (length_rules (header.Primitive t) s)
      (no_such_type t refl & λ known.
      (λ p. length_cut t refl known p.0 p.1) & λ whole.
      let head : Typed t s = record { known = known; length_there = whole } in
      end_sum head & λ small. end_past head small & λ inside. record { headed = head; bytes = refl; fits = small; there = inside })
  rules_mean (header.ShortString n) =
      by_rows (Measured (header.ShortString n)) (Stops (header.ShortString n)) (length_rules (header.ShortString n) s)
      (end_sum tt & λ small. end_past tt small & λ inside. record { headed = tt; bytes = refl; fits = small; there = inside })
  rules_mean (header.Object w) = laid_means w (header.Object w) as_object (λ c. c) refl
  rules_mean (header.List w) = laid_means w (header.List w) as_list (λ c. c) refl

  -- ALL HEADERS: what is so of each case is so of the length
  by_header : (h : Header) (P : Result ℕ Flaw → Type 0) → (Measured h → P (Ok (bytes_by h s))) → ((r : Flaw) → Lacks s h r → P (Err r)) → P (length_by h s)
  unfolding length_by case_of
  by_header h P known lacks = go (first (length_rules h s)) (rules_mean h)
    where
      go : (f : Found) → Meant (Measured h) (Stops h) f → P (case_of f (bytes_by h s))
      go pass (all_pass m) = known m
      go (stop c p) (one_stops l) = lacks _ l

-- AND BACK
module _ (s : List ℕ) where
  is_passed : (h : Header) (n : ℕ) → Encoded h s n → length_by h s ≡ Ok n
  unfolding length_by length_rules case_of bytes_by
  is_passed (header.Primitive t) n e =
      let z = e.bytes in
      rw (first_pass (length_rules (header.Primitive t) s) (e.headed.known & e.headed.length_there & omega arith & omega arith & tt)) (ap Ok (sym z))
  is_passed (header.ShortString k) n e = let z = e.bytes in rw (first_pass (length_rules (header.ShortString k) s) (omega arith)) (ap Ok (sym z))
  is_passed (header.Object w) n e =
      let z = e.bytes in let h = e.headed in rw (first_pass (layout.rules 1 2 4 w s) (omega arith)) (ap Ok (sym z))
  is_passed (header.List w) n e =
      let z = e.bytes in let h = e.headed in rw (first_pass (layout.rules 1 2 4 w s) (omega arith)) (ap Ok (sym z))

  sum_passed : (h : Header) → Headed h s → u32_max < bytes_by h s → length_by h s ≡ Err Sum
  unfolding length_by length_rules case_of bytes_by
  sum_passed (header.Primitive t) d p = rw (first_at 2 (length_rules (header.Primitive t) s) (d.known & d.length_there & p))
  sum_passed (header.ShortString k) d p = rw (first_at 0 (length_rules (header.ShortString k) s) p)
  sum_passed (header.Object w) d p = rw (first_at 4 (layout.rules 1 2 4 w s) (omega arith))
  sum_passed (header.List w) d p = rw (first_at 4 (layout.rules 1 2 4 w s) (omega arith))

  bytes_passed : (h : Header) → Headed h s → bytes_by h s ≤ u32_max → length s < bytes_by h s → length_by h s ≡ Err Longer
  unfolding length_by length_rules case_of bytes_by
  bytes_passed (header.Primitive t) d q p = rw (first_at 3 (length_rules (header.Primitive t) s) (d.known & d.length_there & q & p))
  bytes_passed (header.ShortString k) d q p = rw (first_at 1 (length_rules (header.ShortString k) s) (q & p))
  bytes_passed (header.Object w) d q p = rw (first_at 5 (layout.rules 1 2 4 w s) (omega arith))
  bytes_passed (header.List w) d q p = rw (first_at 5 (layout.rules 1 2 4 w s) (omega arith))

  laid_at : {w : Widths} {h : Header} (c : ℕ) → Laid w h → first (layout.rules 1 2 4 w s) ≡ stop c 0 → length_by h s ≡ case_of (stop c 0) 0
  unfolding length_by length_rules case_of
  laid_at c as_object e = rw e
  laid_at c as_list e = rw e

  is_lacking : (h : Header) (f : Flaw) → Lacks s h f → length_by h s ≡ Err f
  unfolding case_of
  is_lacking h r (no_such_type t e p) = rw e (sym (laws.no_such_type t s p))
  is_lacking h r (length_cut t e known b p) = rw e (sym (laws.length_cut t s known b p))
  is_lacking h r (count_cut {w = w} l p) = laid_at 1 l (first_at 0 (layout.rules 1 2 4 w s) p)
  is_lacking h r (offsets_sum {w = w} l a p) = laid_at 2 l (first_at 1 (layout.rules 1 2 4 w s) (a & p))
  is_lacking h r (start_sum {w = w} l a b p) = laid_at 2 l (first_at 2 (layout.rules 1 2 4 w s) (a & b & p))
  is_lacking h r (offsets_cut {w = w} l a b c p) = laid_at 1 l (first_at 3 (layout.rules 1 2 4 w s) (a & b & c & p))
  is_lacking h r (end_sum d p) = sum_passed h d p
  is_lacking h r (end_past d q p) = bytes_passed h d q p

-- THE THEOREM
module _ (s : List ℕ) where
  due : Due s (own_length s)
  due = go (dec_lt (length s) 1)
    where
      go : Dec (length s < 1) → Due s (own_length s)
      go (yes p) = rw (← of_none s p) (no_bytes (omega arith))
      go (no p) =
          let some : 1 ≤ length s = omega arith in
          rw (← of_some s some) (by_header s (header_of (get_or s 0 0)) (Due s) (measured some) (λ r. none some))

  is_due : (r : Result ℕ Flaw) → Due s r → own_length s ≡ r
  is_due r (no_bytes p) = sym (of_none s (omega arith))
  is_due r (measured {n = n} some e) = sym (of_some s some) ∙ is_passed s _ n e
  is_due r (none some l) = sym (of_some s some) ∙ is_lacking s _ _ l

  pub exactly_when : (r : Result ℕ Flaw) → (own_length s ≡ r) ↔ Due s r
  exactly_when r = (λ e. rw e at due, is_due r)

  -- a length that is known: its rules hold, and it is one byte at least
  pub known : (n : ℕ) → own_length s ≡ Ok n → (1 ≤ length s) × Encoded (header_of (get_or s 0 0)) s n
  known n e = go (dec_lt (length s) 1)
    where
      go : Dec (length s < 1) → (1 ≤ length s) × Encoded (header_of (get_or s 0 0)) s n
      go (yes p) = let none = of_none s p in let z : ◌≡◌ {A = ℕ} 0 1 = cc in absurd (omega arith)
      go (no p) =
          let some : 1 ≤ length s = omega arith in
          let through = by_passes (header_of (get_or s 0 0)) s (of_some s some ∙ e) in
          (some, rw through.1 at (meant_pass (rules_mean s (header_of (get_or s 0 0))) through.0))

-- KNOWN OR NOT: its bytes are at hand, and some where it is known
module _ (s : List ℕ) where
  pub bytes_at_hand : bytes_of (own_length s) ≤ length s
  bytes_at_hand = go (own_length s) refl
    where
      go : (r : Result ℕ Flaw) → own_length s ≡ r → bytes_of r ≤ length s
      go (Ok n) e = (known s n e).1.there
      go (Err f) e = omega arith

  pub is_known_law : is_known (own_length s) ≡ true → own_length s ≡ Ok (bytes_of (own_length s))
  is_known_law b = go (own_length s) b
    where
      go : (r : Result ℕ Flaw) → is_known r ≡ true → r ≡ Ok (bytes_of r)
      go (Ok n) e = refl
      go (Err f) e = false_true e
