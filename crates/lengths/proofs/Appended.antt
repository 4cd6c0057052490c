-- Bytes after a value's own length change nothing: its own bytes have the length that they have with any others after them. Of what has no own
-- length, bytes added lift a cut header and "longer than the bytes", and nothing else. Assumes nothing.
use Rattle.rules.proofs.Prelude.{◌≡◌, refl, sym, ap, ◌∙◌, Bool, true, false, cond, ◌||◌, List, [], ◌∷◌, ◌++◌, ℕ, ◌≤◌, arith, eqb, length}
use Rattle.rules.proofs.Prelude.{length-append, List·getD-append, drop, take, take-append-drop, get_or, Found, Kept, Stays, first, pass, stop}
use Rattle.rules.proofs.Prelude.{kept, passed, first_pass, ◌&◌}
use borrow.Author.Tests.{eqb-true}
use lib.Seq.{length-take-le}
use Rattle.width.specs.Width.{le}
use Rattle.width.proofs.Laws.{le_append_at}
use Rattle.layout.specs.Layout as layout
use Rattle.layout.proofs.Appended as layout-appended
use Rattle.encoding.specs.declared.Header.{Header}
use Rattle.encoding.specs.declared.Header.TheVariants as header
use Rattle.lengths.specs.declared.Flaw.{Flaw}
use Rattle.std.specs.Prelude.{Result, Ok, Err}
use Rattle.lengths.specs.declared.Flaw.TheVariants.{Cut, Sum, Unknown, Longer}
use Rattle.encoding.specs.Encoding.{header_of}
use Rattle.lengths.specs.Lengths.{holds_length, held, bytes_by, length_rules, case_of, length_by, own_length}
use Rattle.lengths.proofs.Laws.{by_passes, by_known, of_some, holds_four, bytes_some}
use Rattle.lengths.proofs.Means.{known}

-- the cases that more bytes may lift: a cut header, and longer than the bytes
abbrev pub lifted : ℕ → Bool
lifted c = eqb c 1 || eqb c 4

abbrev pub Settled : Result ℕ Flaw → Type 0
Settled (Ok n) = Unit {0}
Settled (Err Cut) = ⊥
Settled (Err Sum) = Unit {0}
Settled (Err Unknown) = Unit {0}
Settled (Err Longer) = ⊥

module _ (s u : List ℕ) where
  held_same : (t : ℕ) → (holds_length t ≡ true → 5 ≤ length s) → held t (s ++ u) ≡ held t s
  unfolding held
  held_same t whole = go (holds_length t) whole
    where
      go : (b : Bool) → (b ≡ true → 5 ≤ length s) → cond b (le 4 (drop 1 (s ++ u))) 0 ≡ cond b (le 4 (drop 1 s)) 0
      go true p = le_append_at 4 1 s u (p refl)
      go false p = refl

  -- EACH HEADER'S TABLE
  pub rules_kept : (h : Header) → Kept lifted (length_rules h s) (length_rules h (s ++ u))
  unfolding length_rules
  rules_kept (header.Primitive t) =
      let more = length-append s u in
      (refl, refl, (λ f. f), (λ h. h)) & λ known.
      (refl, refl, (λ f b. omega (arith, f b)), tt) & λ whole.
      let e = held_same t whole in omega arith & λ small. omega arith & λ inside. tt
  rules_kept (header.ShortString n) = let more = length-append s u in omega arith & λ small. omega arith & λ inside. tt
  rules_kept (header.Object w) = layout-appended.rules_kept w s u lifted 1 2 4 refl refl refl
  rules_kept (header.List w) = layout-appended.rules_kept w s u lifted 1 2 4 refl refl refl

  pub bytes_same : (h : Header) → first (length_rules h s) ≡ pass → bytes_by h (s ++ u) ≡ bytes_by h s
  unfolding length_rules bytes_by
  bytes_same (header.Primitive t) e = rw (held_same t (passed (length_rules (header.Primitive t) s) e).1.0)
  bytes_same (header.ShortString n) e = refl
  bytes_same (header.Object w) e = layout-appended.end_same w s u (passed (layout.rules 1 2 4 w s) e).1.1.1.0
  bytes_same (header.List w) e = layout-appended.end_same w s u (passed (layout.rules 1 2 4 w s) e).1.1.1.0

  -- and back: a value that ends within the bytes before has its length without those after
  bytes_shrink : (h : Header) → first (length_rules h (s ++ u)) ≡ pass → bytes_by h (s ++ u) ≤ length s
      → (first (length_rules h s) ≡ pass) × (bytes_by h (s ++ u) ≡ bytes_by h s)
  unfolding length_rules bytes_by
  bytes_shrink (header.Primitive t) e inside =
      let p = passed (length_rules (header.Primitive t) (s ++ u)) e in
      let whole : holds_length t ≡ true → 5 ≤ length s = λ b. omega (arith, holds_four t s b) in
      let same = held_same t whole in
      (first_pass (length_rules (header.Primitive t) s) (p.0 & whole & omega arith & omega arith & tt), rw same)
  bytes_shrink (header.ShortString n) e inside =
      let p = passed (length_rules (header.ShortString n) (s ++ u)) e in
      (first_pass (length_rules (header.ShortString n) s) (p.0 & inside & tt), refl)
  bytes_shrink (header.Object w) e inside =
      let p = layout-appended.rules_shrink w s u (omega (arith, passed (layout.rules 1 2 4 w (s ++ u)) e)) inside in
      (first_pass (layout.rules 1 2 4 w s) (omega (arith, p.0)), p.1)
  bytes_shrink (header.List w) e inside =
      let p = layout-appended.rules_shrink w s u (omega (arith, passed (layout.rules 1 2 4 w (s ++ u)) e)) inside in
      (first_pass (layout.rules 1 2 4 w s) (omega (arith, p.0)), p.1)

-- a settled answer's number is not lifted
unlifted : (c p n : ℕ) → Settled (case_of (stop c p) n) → lifted c ≡ false
unfolding case_of
unlifted c p n settled = go (eqb c 1) refl (eqb c 4) refl
  where
    go : (u : Bool) → eqb c 1 ≡ u → (v : Bool) → eqb c 4 ≡ v → (u || v) ≡ false
    go true e v f = absurd (rw e at settled)
    go false e true f = let z : c ≡ 4 = eqb-true c 4 f in absurd (rw z at settled)
    go false e false f = refl

by_appended : (s : List ℕ) (h : Header) (u : List ℕ) → Settled (length_by h s) → length_by h (s ++ u) ≡ length_by h s
unfolding length_by case_of
by_appended s h u =
    go (first (length_rules h s)) refl (kept lifted (length_rules h s) (length_rules h (s ++ u)) (rules_kept s u h))
  where
    go : (f : Found) → first (length_rules h s) ≡ f → Stays lifted f (first (length_rules h (s ++ u)))
        → Settled (case_of f (bytes_by h s)) → case_of (first (length_rules h (s ++ u))) (bytes_by h (s ++ u)) ≡ case_of f (bytes_by h s)
    go pass e k settled = rw (k, bytes_same s u h e)
    go (stop c p) e k settled = rw (k (unlifted c p (bytes_by h s) settled))

-- BYTES ADDED
pub appended : (s u : List ℕ) → Settled (own_length s) → own_length (s ++ u) ≡ own_length s
unfolding own_length
appended [] u settled = absurd settled
appended (b ∷ s) u settled = by_appended (b ∷ s) (header_of b) u settled

-- BYTES TAKEN AWAY
module _ (s : List ℕ) (n : ℕ) (e : own_length s ≡ Ok n) where
  -- a value has a byte at least, and its bytes are at hand
  pub some_bytes : 1 ≤ n
  some_bytes = let k = known s n e in rw k.1.bytes (bytes_some (header_of (get_or s 0 0)) s)

  pub at_hand : n ≤ length s
  at_hand = (known s n e).1.there

  -- its own bytes have that length, whatever follows
  pub own_bytes : own_length (take n s) ≡ Ok n
  own_bytes =
      let whole = take-append-drop n s in
      let long : length (take n s) ≡ n = length-take-le n s at_hand in
      let some = some_bytes in
      let same : get_or s 0 0 ≡ get_or (take n s) 0 0 = rw whole at (List·getD-append (take n s) (drop n s) 0 0 (omega arith)) in
      let h = header_of (get_or s 0 0) in
      let through = by_passes h s (of_some s (omega (arith, at_hand)) ∙ e) in
      let shrunk = bytes_shrink (take n s) (drop n s) h (rw whole through.0) (rw whole (omega (arith, through.1))) in
      let size : bytes_by h (take n s) ≡ n = sym (rw whole at shrunk.1) ∙ through.1 in
      sym (of_some (take n s) (omega arith)) ∙ rw (← same) (by_known h (take n s) shrunk.0 ∙ ap Ok size)

  pub whatever_follows : (u : List ℕ) → own_length (take n s ++ u) ≡ Ok n
  whatever_follows u = rw own_bytes at (appended (take n s) u (rw own_bytes tt))
