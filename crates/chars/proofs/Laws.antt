-- The functions of specs/Rfc3629.antt find what its table says: `char` finds the characters, and `text_up_to` is the length of the longest
-- well-formed prefix. Assumes nothing.
use mathlib.Core.Path.{◌≡◌, refl, sym, ap}
use mathlib.Core.Bool.{Bool, true, false, cond, ◌&&◌}
use mathlib.Core.List.{List, [], ◌∷◌, ◌++◌}
use Prim.Native.Nat.{ℕ, zero, suc, ◌+◌, ◌≤◌, ◌<◌, ◌-◌, zero-le, suc-le-suc}
use native.Mathlib.Numerals.{add-one}
use native.Mathlib.Omega.{arith}
use borrow.Author.Tests.{leb-true, le-leb, lt-leb}
use lib.Dec.{leb}
use lib.ListN.{length, take, drop, get_or, drop_of_length-le, length-drop}
use lib.Seq.{drop-cons, take-length}
use Rattle.std.specs.Prelude.{Option, Some, None}
use Rattle.rules.specs.Rules.Test.{is}
use Rattle.rules.proofs.Laws.{false_true, both, unless}
use Rattle.walk.specs.Walk.{Finds}
use Rattle.walk.proofs.Laws.{up_to_le, up_to_sound, up_to_left, up_to_longest, up_to_whole}
use Rattle.leads.specs.declared.Lead.{Lead}
use Rattle.leads.specs.Table.{asks, lead_of}
use Rattle.chars.specs.Rfc3629.{Tails, Char, Text, LongestText, tails_of, char_by, char, text_up_to}
use Rattle.chars.specs.Rfc3629.Tails.{end, next}
use Rattle.chars.specs.Rfc3629.Char.{char_of}
use Rattle.leads.proofs.Table.{lead_is}

-- The bytes after it.

suc_sub_one : (n : ℕ) → suc n - 1 ≡ n
suc_sub_one n = omega arith

pub tails_length : {l h n : ℕ} {c : List ℕ} → Tails l h n c → length c ≡ n
tails_length end = refl
tails_length (next p q r) = ap suc (tails_length r)

pub tails_complete : {l h n : ℕ} {c : List ℕ} → Tails l h n c → (s : List ℕ) → tails_of l h n (c ++ s) ≡ true
unfolding tails_of
tails_complete end s = refl
tails_complete {l} {h} (next {b = b} p q r) s = rw (le-leb l b p, le-leb b h q) (tails_complete r s)

pub tails_sound : (l h n : ℕ) (s : List ℕ) → tails_of l h n s ≡ true → (n ≤ length s) × Tails l h n (take n s)
unfolding tails_of
tails_sound l h zero s e = (zero-le, end)
tails_sound l h (suc n) [] e = false_true e
tails_sound l h (suc n) (b ∷ s) e =
    let u = both (leb l b) (leb b h && tails_of 0x80 0xBF n s) e in
    let v = both (leb b h) (tails_of 0x80 0xBF n s) u.1 in
    let r = tails_sound 0x80 0xBF n s v.1 in
    (suc-le-suc r.0, next (leb-true l b u.0) (leb-true b h v.0) r.1)

-- What a loop over them goes by, at a place of the list.
module _ (l h : ℕ) (at : ℕ) (s : List ℕ) where
  pub tails_none : tails_of l h 0 (drop at s) ≡ true
  unfolding tails_of
  tails_none = refl

  pub tails_low : (n : ℕ) → 0 < n → at < length s → get_or s at 0 < l → tails_of l h n (drop at s) ≡ false
  unfolding tails_of
  tails_low zero p q u = absurd (omega arith)
  tails_low (suc n) p q u = rw (drop-cons s at 0 q, lt-leb l (get_or s at 0) u)

  pub tails_high : (n : ℕ) → 0 < n → at < length s → l ≤ get_or s at 0 → h < get_or s at 0 → tails_of l h n (drop at s) ≡ false
  unfolding tails_of
  tails_high zero p q u v = absurd (omega arith)
  tails_high (suc n) p q u v = rw (drop-cons s at 0 q, le-leb l (get_or s at 0) u, lt-leb (get_or s at 0) h v)

  pub tails_in : (n : ℕ) → 0 < n → at < length s → l ≤ get_or s at 0 → get_or s at 0 ≤ h → tails_of l h n (drop at s) ≡ tails_of 0x80 0xBF (n - 1) (drop (at + 1) s)
  unfolding tails_of
  tails_in zero p q u v = absurd (omega arith)
  tails_in (suc n) p q u v =
      rw (drop-cons s at 0 q, le-leb l (get_or s at 0) u, le-leb (get_or s at 0) h v, add-one at, suc_sub_one n)

-- A character.

char_found : (s : List ℕ) → (char s ≤ length s) × (0 < char s → Char (take (char s) s))
unfolding char
char_found [] = (zero-le, λ p. absurd (omega arith))
char_found (a ∷ s) = by_lead (lead_of a) refl
  where
    by_lead : (x : Option Lead) → lead_of a ≡ x → (char_by x s ≤ suc (length s)) × (0 < char_by x s → Char (take (char_by x s) (a ∷ s)))
    by_lead None e = (zero-le, λ p. absurd (omega arith))
    by_lead (Some x) e = by_tails (tails_of x.lo x.hi x.rest s) refl
      where
        by_tails : (t : Bool) → tails_of x.lo x.hi x.rest s ≡ t → (cond t (suc x.rest) 0 ≤ suc (length s)) × (0 < cond t (suc x.rest) 0 → Char (take (cond t (suc x.rest) 0) (a ∷ s)))
        by_tails true f = let u = tails_sound x.lo x.hi x.rest s f in (suc-le-suc u.0, λ _. char_of e u.1)
        by_tails false f = (zero-le, λ p. absurd (omega arith))

char_filled : (c : List ℕ) → Char c → 0 < length c
char_filled c (char_of e t) = suc-le-suc zero-le

char_complete : (c s : List ℕ) → Char c → char (c ++ s) ≡ length c
unfolding char
char_complete c s (char_of e t) = rw (e, tails_complete t s) (ap suc (sym (tails_length t)))

-- What code goes by, at a place of the list.
module _ (at : ℕ) (s : List ℕ) where
  pub char_end : length s ≤ at → char (drop at s) ≡ 0
  unfolding char
  char_end q = rw (drop_of_length-le s q)

  pub char_bad : at < length s → lead_of (get_or s at 0) ≡ None → char (drop at s) ≡ 0
  unfolding char
  char_bad q e = rw (drop-cons s at 0 q, e)

  pub char_seq : {l h n : ℕ} (t : Bool) → at < length s → lead_of (get_or s at 0) ≡ asks l h n → t ≡ tails_of l h n (drop (at + 1) s) → char (drop at s) ≡ cond t (n + 1) 0
  unfolding char
  char_seq {n = n} t q e f = rw (f, drop-cons s at 0 q, e, add-one at, add-one n)

  pub char_plain : at < length s → get_or s at 0 < 0x80 → char (drop at s) ≡ 1
  char_plain q p = char_seq true q (lead_is 0x00 0x7F (asks 0x80 0xBF 0) refl (omega arith) (omega arith)) (sym (tails_none 0x80 0xBF (at + 1) s))

  pub tails_fit : (l h n : ℕ) → tails_of l h n (drop at s) ≡ true → n ≤ length s - at
  tails_fit l h n e = rw length-drop at (tails_sound l h n (drop at s) e).0

  pub tails_past : (l h n : ℕ) → length s - at < n → tails_of l h n (drop at s) ≡ false
  tails_past l h n p = unless (is (tails_of l h n (drop at s))) (λ e. omega (arith, tails_fit l h n e))

-- `char` finds the characters
pub chars : Finds Char char
chars =
    record {
      filled = char_filled;
      inside = λ s. (char_found s).0;
      sound = λ s. (char_found s).1;
      complete = char_complete;
    }

-- `text_up_to s` is the length of the longest text that s starts with
pub text_le : (s : List ℕ) → text_up_to s ≤ length s
unfolding text_up_to
text_le s = up_to_le char s

pub text_sound : (s : List ℕ) → Text (take (text_up_to s) s)
unfolding text_up_to
text_sound s = up_to_sound Char char chars s

pub text_left : (s : List ℕ) → char (drop (text_up_to s) s) ≡ 0
unfolding text_up_to
text_left s = up_to_left Char char chars s

pub text_longest : (s : List ℕ) (n : ℕ) → n ≤ length s → Text (take n s) → n ≤ text_up_to s
unfolding text_up_to
text_longest s n h r = up_to_longest Char char chars s n h r

-- a text is passed whole, and only a text is
pub text_whole : (s : List ℕ) → Text s → text_up_to s ≡ length s
unfolding text_up_to
text_whole s r = up_to_whole Char char chars s r

pub text_all : (s : List ℕ) → length s ≤ text_up_to s → Text s
text_all s h =
    let e : text_up_to s ≡ length s = omega (arith, text_le s) in
    rw (e, take-length) at (text_sound s)

-- the longest text is the one that is measured
pub longest_is : (s : List ℕ) (p : ℕ) → LongestText s p → text_up_to s ≡ p
longest_is s p l =
    omega (arith, l.longest (text_up_to s) (text_le s) (text_sound s), text_longest s p (omega arith) l.is_text)
