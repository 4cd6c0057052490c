-- A part of a text that starts and ends on no byte 80-BF is a text, and two texts that touch are one: so a range that is known to be text
-- answers for strings that lie in it, and grows by those that touch it. Assumes nothing.
use Rattle.rules.proofs.Prelude.{◌≡◌, sym, List, ◌++◌, ℕ, ◌+◌, ◌-◌, ◌≤◌, ◌<◌, dec_lt, arith, false_true}
use Rattle.rules.proofs.Prelude.{length, drop, length-drop, take-add, drop-drop}
use lib.Seq.{take-length, drop-length, get_or-drop}
use Rattle.std.specs.Prelude.{Bool, Result, Ok, Err, is_ok, ⊤}
use Rattle.part.specs.declared.Span.{Span}
use Rattle.part.specs.Part.{part}
use Rattle.part.proofs.Laws.{part_length, part_at, part_part}
use Rattle.walk.specs.Walk.Items.{none}
use Rattle.walk.proofs.Laws.{items_append}
use Rattle.chars.specs.Rfc3629.{Char, Text, Bound, char, LongestText}
use Rattle.chars.proofs.Laws.{chars, text_whole, longest_is}
use Rattle.chars.proofs.Bounds.{bound}
use Rattle.utf8.specs.declared.Flaw.{Flaw}
use Rattle.utf8.specs.declared.Flaw.TheVariants.{Cut, Broken}
use Rattle.utf8.specs.Utf8.{Judged}
use Rattle.utf8.specs.Utf8.Judged.{whole, cut, broken}
use Rattle.utf8.specs.Promises.{CheckPromise}
use Rattle.utf8.proofs.Judges.{judges}
use Rattle.texts.specs.Known.{KnownOf, Tells, Starts}

-- A PART OF A TEXT

-- a place at which no byte 80-BF stands, or the end, is where characters start
bound_at : {s : List ℕ} → Text s → (i : ℕ) → i ≤ length s → Starts s (length s) i → Bound s i
bound_at {s} t i p starts = go (dec_lt i (length s))
  where
    go : Dec (i < length s) → Bound s i
    go (yes q) = bound t i q (starts q)
    go (no q) = let e : i ≡ length s = omega arith in rw (e, take-length s, drop-length s) (t, none)

pub text_part : (s : List ℕ) → Text s → (i j : ℕ) → i ≤ j → j ≤ length s → Starts s (length s) i → Starts s (length s) j → Text (part s i j)
text_part s t i j p q starts ends =
    let rest : Text (drop i s) = (bound_at t i (omega arith) starts).1 in
    let place : i + (j - i) ≡ j = omega arith in
    (bound_at rest (j - i) (simp length-drop (omega arith))
    (λ r c. ends (omega (arith, length-drop i s)) (rw (get_or-drop i s (j - i) 0, place) at c))).0

-- TEXTS THAT TOUCH

pub parts_join : (w : List ℕ) (a b c : ℕ) → a ≤ b → b ≤ c → part w a b ++ part w b c ≡ part w a c
parts_join w a b c p q =
    let size : c - a ≡ b - a + (c - b) = omega arith in
    let place : a + (b - a) ≡ b = omega arith in
    rw (size, take-add (b - a) (c - b) (drop a w), drop-drop (b - a) a w, place)

pub texts_join : (w : List ℕ) (a b c : ℕ) → a ≤ b → b ≤ c → Text (part w a b) → Text (part w b c) → Text (part w a c)
texts_join w a b c p q t u = rw (parts_join w a b c p q) at (items_append Char char chars t u)

-- A RANGE OF A WHOLE
module _ (w : List ℕ) (t : Span) (known : KnownOf w t) where
  size : length (part w t.start t.end) ≡ t.end - t.start
  size = part_length w t.start t.end known.rises known.inside

  -- where no character of the whole is cut, none of the range is
  starts_inside : (k : ℕ) → t.start ≤ k → Starts w t.end k
      → Starts (part w t.start t.end) (length (part w t.start t.end)) (k - t.start)
  starts_inside k p starts inside cont =
      let place : t.start + (k - t.start) ≡ k = omega arith in
      let byte = part_at w t.start t.end (k - t.start) (omega (arith, size)) in
      starts (omega (arith, size)) (rw (byte, place) at cont)

  -- what lies in it and cuts no character of it is a text
  pub text_within : (i j : ℕ) → t.start ≤ i → i ≤ j → j ≤ t.end → Starts w t.end i → Starts w t.end j → Text (part w i j)
  text_within i j p q r starts ends =
      let a = t.start in
      let at_i : a + (i - a) ≡ i = omega arith in
      let at_j : a + (j - a) ≡ j = omega arith in
      let first = starts_inside i p starts in
      let last = starts_inside j (omega arith) ends in
      let inner = text_part (part w a t.end) known.is_text (i - a) (j - a) (omega arith) (omega (arith, size)) first last in
      rw (part_part w a t.end (i - a) (j - a) (omega arith), at_i, at_j) at inner

  -- and it grows by a text that touches it
  pub known_left : (i : ℕ) → i ≤ t.start → Text (part w i t.start) → KnownOf w (record { start = i; end = t.end })
  known_left i p before =
      let up = known.rises in
      record { rises = omega arith; inside = known.inside; is_text = texts_join w i t.start t.end p up before known.is_text }

  pub known_right : (j : ℕ) → t.end ≤ j → j ≤ length w → Text (part w t.end j) → KnownOf w (record { start = t.start; end = j })
  known_right j p q after =
      let up = known.rises in
      record { rises = omega arith; inside = q; is_text = texts_join w t.start t.end j up p known.is_text after }

-- a text of the whole is a range of it that is known to be text
pub known_of : (w : List ℕ) (i j : ℕ) → i ≤ j → j ≤ length w → Text (part w i j) → KnownOf w (record { start = i; end = j })
known_of w i j p q t = record { rises = p; inside = q; is_text = t }

-- WHAT THE CHECK OF UTF-8 TELLS
-- what has a longest text that is not all of it is none
no_text : (s : List ℕ) (p : ℕ) → LongestText s p → Text s → ⊥
no_text s p l t = omega (arith, l.short, longest_is s p l, text_whole s t)

-- so a verdict says whether bytes are text
pub verdict_tells : (s : List ℕ) (r : Result ⊤ Flaw) (b : Bool) → CheckPromise s r → b ≡ is_ok r → Tells s b
verdict_tells s r b e same = rw same (go r ((judges s r).0 e))
  where
    go : (r : Result ⊤ Flaw) → Judged s r → Tells s (is_ok r)
    go (Ok _) (whole t) = record { if_so = λ _. t; if_not = λ f _. false_true (sym f) }
    go (Err (Cut p)) (cut l b) = record { if_so = λ f. false_true f; if_not = λ _. no_text s p l }
    go (Err (Broken p)) (broken l n) = record { if_so = λ f. false_true f; if_not = λ _. no_text s p l }
