-- What "cut" means to its reader: a list that is no text is cut exactly if there are further bytes with which it is one. So a text that lost
-- its end is never called broken, and no further bytes mend what is. Assumes nothing.
use mathlib.Core.Path.{◌≡◌, sym, ap, ◌∙◌}
use mathlib.Core.List.{List, [], ◌++◌, append_assoc, append-nil}
use mathlib.Core.Logic.{◌↔◌}
use Prim.Native.Nat.{ℕ, ◌+◌, ◌-◌, ◌≤◌, ◌<◌}
use native.Mathlib.Decide.{dec_lt}
use native.Mathlib.Omega.{arith}
use lib.ListN.{length, take, drop, take-append-drop, length-append, length-drop}
use lib.Seq.{take-append-le, take-append-add, length-take-le}
use Rattle.walk.specs.Walk.Items.{none, more}
use Rattle.walk.proofs.Laws.{items_append, items_rest}
use Rattle.chars.specs.Rfc3629.{Char, Text, Begins, Completed, LongestText, char}
use Rattle.chars.proofs.Laws.{chars, text_left, longest_is}

-- a text that is not empty starts with a character
text_starts : {u : List ℕ} → Text u → 0 < length u → 0 < char u
text_starts none p = absurd (omega arith)
text_starts (more {c = c} {s = s} x r) p = omega (arith, chars.complete c s x, chars.filled c x)

-- and one character is a text
one : {c : List ℕ} → Char c → Text c
one {c} x = let t : Text (c ++ []) = more x none in rw append-nil at t

-- bytes that start with no character, and with further ones do, are a proper beginning
begun : (s t : List ℕ) → 0 < length s → char s ≡ 0 → 0 < char (s ++ t) → Begins s
begun s t p starts_None q = go (dec_lt (length s) (char (s ++ t)))
  where
    n : ℕ
    n = char (s ++ t)

    whole : Char (take n (s ++ t))
    whole = chars.sound (s ++ t) q

    go : Dec (length s < n) → Begins s
    go (yes l) =
        let m : n ≡ length s + (n - length s) = omega arith in
        let long : n ≤ length s + length t = omega (arith, chars.inside (s ++ t), length-append s t) in
        record {
          some = p;
          further = take (n - length s) t;
          at_least_one = omega (arith, length-take-le (n - length s) t (omega arith));
          whole = rw (m, take-append-add s t (n - length s)) at whole;
        }
    go (no l) =
        let c : Char (take n s) = rw (take-append-le n s t (omega arith)) at whole in
        absurd (omega (arith, q, starts_None, ap char (take-append-drop n s), chars.complete (take n s) (drop n s) c, chars.filled (take n s) c))

module _ (s : List ℕ) (p : ℕ) (l : LongestText s p) where
  -- the list is its longest text, and what that leaves
  split : (t : List ℕ) → s ++ t ≡ take p s ++ (drop p s ++ t)
  split t = ap (λ (u : List ℕ). u ++ t) (sym (take-append-drop p s)) ∙ append_assoc (take p s) (drop p s) t

  left_begins : Completed s → Begins (drop p s)
  left_begins c =
      let rest : Text (drop p s ++ c.further) = items_rest Char char chars l.is_text _ (rw (split c.further) at c.is_text) in
      let some : 0 < length (drop p s) = omega (arith, length-drop p s) in
      let none : char (drop p s) ≡ 0 = rw (longest_is s p l) at (text_left s) in
      begun (drop p s) c.further some none (text_starts rest (omega (arith, length-append (drop p s) c.further)))

  completed : Begins (drop p s) → Completed s
  completed b = record { further = b.further; is_text = rw (split b.further) (items_append Char char chars l.is_text (one b.whole)) }

  -- THE THEOREM
  pub truncated : Begins (drop p s) ↔ Completed s
  truncated = (completed, left_begins)
