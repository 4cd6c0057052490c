-- The functions of Brackets.antt find what Meaning.antt says, and nothing else. Assumes nothing.
use Rattle.rules.proofs.Prelude.{◌≡◌, refl, ap, ◌∙◌, ◌↔◌, Bool, true, false, cond, ◌&&◌, ◌||◌, List, [], ◌∷◌, ◌++◌, append_assoc, ℕ, zero, suc, ◌+◌, ◌-◌}
use Rattle.rules.proofs.Prelude.{◌*◌, ◌<◌, arith, eqb, leb, ne_eqb, lt-ltb, leb-true, length, length-append, take, drop, drop-append-add, false_true}
use mathlib.Core.List.{append-nil}
use lib.Seq.{take-append_seam}
use borrow.Author.Tests.{eqb-true, eqb-false, le-leb}
use Rattle.brackets.specs.Brackets.{index_limit, one_more, closes, content, first_or, last_or, same_quotes, quoted, unquoted, digits, unsigned, some_digits, number}
use Rattle.std.specs.Prelude.{None, Some}
use Rattle.brackets.proofs.Laws.{small_is}
use Rattle.brackets.specs.Meaning.{Escapes, Shut, Quote, Quoted, Digit, Decimal, Numeral}
use Rattle.brackets.specs.Meaning.Escapes.{end, plainly, taken}
use Rattle.brackets.specs.Meaning.Quote.{single, double}
use Rattle.brackets.specs.Meaning.Decimal.{digit, further}
use Rattle.brackets.specs.Meaning.Numeral.{bare, signed}

-- BRACKETS THAT CLOSE: how far, and what they hold
escapes_found : {s t : List ℕ} → Escapes s t → (u : List ℕ) → (content false (s ++ 93 ∷ u) ≡ t) × (closes false (s ++ 93 ∷ u) ≡ suc (length s))
unfolding content closes
escapes_found end u = (refl, refl)
escapes_found (plainly {b = b} p q r) u =
    let e = escapes_found r u in
    (rw (ne_eqb b 92 p, ne_eqb b 93 q, e.0), rw (ne_eqb b 92 p, ne_eqb b 93 q, e.1))
escapes_found (taken r) u = let e = escapes_found r u in (rw e.0, rw e.1)

pub shut_content : {w t rest : List ℕ} → Shut w t rest → content false w ≡ t
shut_content h = rw h.is (escapes_found h.unescaped _).0

pub shut_closes : {w t rest : List ℕ} (h : Shut w t rest) → closes false w ≡ suc (length h.inner)
shut_closes h = rw h.is (escapes_found h.unescaped _).1

-- and back: where `closes` finds one, the brackets are shut there
shut_more : {b : ℕ} {w t rest : List ℕ} → (b ≡ 92 → ⊥) → (b ≡ 93 → ⊥) → Shut w t rest → Shut (b ∷ w) (b ∷ t) rest
shut_more {b = b} p q h = record { inner = b ∷ h.inner; is = ap (λ (s : List ℕ). b ∷ s) h.is; unescaped = plainly p q h.unescaped }

shut_taken : {c : ℕ} {w t rest : List ℕ} → Shut w t rest → Shut (92 ∷ c ∷ w) (c ∷ t) rest
shut_taken {c = c} h = record { inner = 92 ∷ c ∷ h.inner; is = ap (λ (s : List ℕ). 92 ∷ c ∷ s) h.is; unescaped = taken h.unescaped }

-- what is found from w on, k bytes of which the brackets take, and after a backslash
abbrev Found : (w t : List ℕ) (k : ℕ) → Type 0
Found w t k = 0 < k → Shut w t (drop k w)

found_more : {b : ℕ} {w t : List ℕ} (k : ℕ) → (b ≡ 92 → ⊥) → (b ≡ 93 → ⊥) → Found w t k → Found (b ∷ w) (b ∷ t) (one_more k)
found_more zero p q f h = absurd (omega arith)
found_more (suc k) p q f h = shut_more p q (f (omega arith))

found_taken : {c : ℕ} {w t : List ℕ} (k : ℕ) → Found w t k → Found (92 ∷ c ∷ w) (c ∷ t) (one_more (one_more k))
found_taken zero f h = absurd (omega arith)
found_taken (suc k) f h = shut_taken (f (omega arith))

found_byte : (b : ℕ) (w t u : List ℕ) (k m : ℕ) → Found w t k → Found (92 ∷ w) u (one_more m) → (x y : Bool) → eqb b 92 ≡ x → eqb b 93 ≡ y
    → Found (b ∷ w) (cond x u (cond y [] (b ∷ t))) (cond x (one_more m) (cond y 1 (one_more k)))
found_byte b w t u k m f g true y e e' = rw (eqb-true b 92 e) g
found_byte b w t u k m f g false true e e' = λ h. rw (eqb-true b 93 e') (record { inner = []; is = refl; unescaped = end })
found_byte b w t u k m f g false false e e' = found_more k (eqb-false b 92 e) (eqb-false b 93 e') f

found : (w : List ℕ) → Found w (content false w) (closes false w) × Found (92 ∷ w) (content true w) (one_more (closes true w))
unfolding content closes
found [] = (λ h. absurd (omega arith), λ h. absurd (omega arith))
found (b ∷ w) =
    let (f, g) = found w in
    (found_byte b w (content false w) (content true w) (closes false w) (closes true w) f g (eqb b 92) (eqb b 93) refl refl, found_taken (closes false w) f)

pub shut_found : (w : List ℕ) → 0 < closes false w → Shut w (content false w) (drop (closes false w) w)
shut_found w = (found w).0

-- none closes exactly where `closes` says so
pub open_found : (w : List ℕ) → (closes false w ≡ 0) ↔ ((t rest : List ℕ) → Shut w t rest → ⊥)
open_found w = (λ e t rest h. omega (arith, shut_closes h), λ n. go n (closes false w) refl)
  where
    go : ((t rest : List ℕ) → Shut w t rest → ⊥) → (k : ℕ) → closes false w ≡ k → closes false w ≡ 0
    go n zero e = e
    go n (suc k) e = absurd (n _ _ (shut_found w (omega arith)))

-- what stands after the bracket that closes
pub shut_rest : {w t rest : List ℕ} (h : Shut w t rest) → drop (closes false w) w ≡ rest
shut_rest {w = w} {rest = rest} h =
    let e : closes false w ≡ length h.inner + 1 = omega (arith, shut_closes h) in
    rw (e, h.is) (drop-append-add h.inner (93 ∷ rest) 1)

-- A NAME IN QUOTES
last_of : (d b : ℕ) (s : List ℕ) → last_or d (s ++ b ∷ []) ≡ b
unfolding last_or
last_of d b [] = refl
last_of d b (a ∷ s) = last_of a b s

is_quote : {q : ℕ} → Quote q → same_quotes q q ≡ true
is_quote single = refl
is_quote double = refl

pub quoted_so : {t name : List ℕ} → Quoted t name → (quoted t ≡ true) × (unquoted t ≡ name)
unfolding first_or last_or
quoted_so {t = t} {name = name} h =
    let q = h.quote in
    let n : length (name ++ q ∷ []) ≡ length name + 1 = length-append name (q ∷ []) in
    let e : suc (length (name ++ q ∷ [])) - 2 ≡ length name = omega (arith, n) in (
      rw (h.is, le-leb 2 (suc (length (name ++ q ∷ []))) (omega (arith, n)), last_of q q name, is_quote h.is_quote),
      rw (h.is, e) (take-append_seam name (q ∷ [])),
    )

-- and back: the first and the last byte are the same quote, and the name lies between them
quote_of : (a b : ℕ) → same_quotes a b ≡ true → (a ≡ b) × Quote a
quote_of a b = go (eqb a b) refl (eqb a 39) refl (eqb a 34) refl
  where
    go : (u : Bool) → eqb a b ≡ u → (v : Bool) → eqb a 39 ≡ v → (w : Bool) → eqb a 34 ≡ w → (u && (v || w)) ≡ true → (a ≡ b) × Quote a
    go true e true f w g h = (eqb-true a b e, rw (eqb-true a 39 f) single)
    go true e false f true g h = (eqb-true a b e, rw (eqb-true a 34 g) double)
    go true e false f false g h = absurd (false_true h)
    go false e v f w g h = absurd (false_true h)

-- a list of at least one byte is all but its last one, and that
split_last : (d b : ℕ) (s : List ℕ) → b ∷ s ≡ take (length s) (b ∷ s) ++ last_or d (b ∷ s) ∷ []
unfolding last_or
split_last d b [] = refl
split_last d b (c ∷ s) = ap (λ (l : List ℕ). b ∷ l) (split_last b c s)

quoted_byte : (a b : ℕ) (s : List ℕ) → same_quotes a (last_or 0 (a ∷ b ∷ s)) ≡ true → Quoted (a ∷ b ∷ s) (take (length s) (b ∷ s))
unfolding last_or
quoted_byte a b s h =
    let (same, is_quote) = quote_of a (last_or a (b ∷ s)) h in
    record { quote = a; is_quote = is_quote; is = ap (λ (l : List ℕ). a ∷ l) (split_last a b s ∙ rw (← same)) }

pub quoted_back : (t : List ℕ) → quoted t ≡ true → Quoted t (unquoted t)
unfolding first_or
quoted_back [] h = absurd (false_true h)
quoted_back (a ∷ []) h = absurd (false_true h)
quoted_back (a ∷ b ∷ s) h =
    let e : suc (suc (length s)) - 2 ≡ length s = omega arith in
    rw e (quoted_byte a b s (rw (le-leb 2 (suc (suc (length s))) (omega arith)) at h))

-- A NUMBER
is_digit : (b : ℕ) → Digit b → (leb 48 b && leb b 57) ≡ true
is_digit b (l, h) = rw (le-leb 48 b l, le-leb b 57 h)

digit_of_law : (b : ℕ) → (leb 48 b && leb b 57) ≡ true → Digit b
digit_of_law b = go (leb 48 b) refl (leb b 57) refl
  where
    go : (u : Bool) → leb 48 b ≡ u → (v : Bool) → leb b 57 ≡ v → (u && v) ≡ true → Digit b
    go true e true f h = (leb-true 48 b e, leb-true b 57 f)
    go true e false f h = absurd (false_true h)
    go false e v f h = absurd (false_true h)

digits_further : (m : ℕ) (t : List ℕ) (n b : ℕ) → digits m t ≡ Some n → Digit b → digits m (t ++ b ∷ []) ≡ Some (10 * n + (b - 48))
unfolding digits
digits_further m [] n b e d = let z : m ≡ n = cc in rw (is_digit b d, z)
digits_further m (a ∷ t) n b e d = go (leb 48 a && leb a 57) e (λ f. digits_further (10 * m + (a - 48)) t n b f d)
  where
    go : (u : Bool) → cond u (digits (10 * m + (a - 48)) t) None ≡ Some n → (digits (10 * m + (a - 48)) t ≡ Some n → digits (10 * m + (a - 48)) (t ++ b ∷ []) ≡ Some (10 * n + (b - 48)))
        → cond u (digits (10 * m + (a - 48)) (t ++ b ∷ [])) None ≡ Some (10 * n + (b - 48))
    go true e k = k e
    go false e k = let z : ◌≡◌ {A = ℕ} 0 1 = cc in absurd (omega arith)

-- a numeral's digits say its number, and its first byte is one of them
record Begun (t : List ℕ) (n : ℕ) : Type 0 where
  pub first : ℕ
  pub others : List ℕ
  pub is_first : Digit first
  pub are : t ≡ first ∷ others
  pub say : digits 0 t ≡ Some n

begun : {t : List ℕ} {n : ℕ} → Decimal t n → Begun t n
unfolding digits
begun (digit {b = b} d) =
    record { first = b; others = []; is_first = d; are = refl; say = rw (is_digit b d) (ap Some (omega arith)) }
begun (further {t = t} {n = n} {b = b} r d) =
    let h = begun r in
    record {
      first = h.first;
      others = h.others ++ b ∷ [];
      is_first = h.is_first;
      are = ap (λ (l : List ℕ). l ++ b ∷ []) h.are;
      say = digits_further 0 t n b h.say d;
    }

-- the same digits after others
decimal_more : {p : List ℕ} {m : ℕ} → Decimal p m → (t : List ℕ) (n : ℕ) → digits m t ≡ Some n → Decimal (p ++ t) n
unfolding digits
decimal_more {p = p} {m = m} d [] n e = let z : m ≡ n = cc in rw (append-nil p, ← z) d
decimal_more {p = p} {m = m} d (b ∷ t) n e = go (leb 48 b && leb b 57) refl e (λ h. decimal_more {p = p ++ b ∷ []} {m = 10 * m + (b - 48)} (further d h) t n)
  where
    go : (u : Bool) → (leb 48 b && leb b 57) ≡ u → cond u (digits (10 * m + (b - 48)) t) None ≡ Some n
        → (Digit b → digits (10 * m + (b - 48)) t ≡ Some n → Decimal ((p ++ b ∷ []) ++ t) n) → Decimal (p ++ b ∷ t) n
    go true f e k = rw (append_assoc p (b ∷ []) t) at (k (digit_of_law b f) e)
    go false f e k = let z : ◌≡◌ {A = ℕ} 0 1 = cc in absurd (omega arith)

decimal_of : (t : List ℕ) (n : ℕ) → some_digits t ≡ Some n → Decimal t n
unfolding some_digits digits
decimal_of [] n e = let z : ◌≡◌ {A = ℕ} 0 1 = cc in absurd (omega arith)
decimal_of (b ∷ t) n e = go (leb 48 b && leb b 57) refl e
  where
    go : (u : Bool) → (leb 48 b && leb b 57) ≡ u → cond u (digits (10 * 0 + (b - 48)) t) None ≡ Some n → Decimal (b ∷ t) n
    go true f e = let z : 10 * 0 + (b - 48) ≡ b - 48 = omega arith in decimal_more (digit (digit_of_law b f)) t n (rw z at e)
    go false f e = let z : ◌≡◌ {A = ℕ} 0 1 = cc in absurd (omega arith)

some_begun : {t : List ℕ} {n : ℕ} → Begun t n → some_digits t ≡ Some n
unfolding some_digits
some_begun h = rw h.are (rw h.are at h.say)

plain_begun : {t : List ℕ} {n : ℕ} → Begun t n → unsigned t ≡ t
unfolding unsigned
plain_begun h = rw (h.are, ne_eqb h.first 43 (λ e. omega (arith, h.is_first)))

numeral_says : {t : List ℕ} {n : ℕ} → Numeral t n → number t ≡ Some n
unfolding number unsigned
numeral_says (bare {n = n} d l) = let h = begun d in rw (plain_begun h, some_begun h, lt-ltb n index_limit l)
numeral_says (signed {n = n} d l) = rw (some_begun (begun d), lt-ltb n index_limit l)

numeral_of : (t : List ℕ) (n : ℕ) → number t ≡ Some n → Numeral t n
unfolding number unsigned some_digits
numeral_of [] n e = let z : ◌≡◌ {A = ℕ} 0 1 = cc in absurd (omega arith)
numeral_of (b ∷ t) n e = go (eqb b 43) refl (small_is _ n e)
  where
    go : (u : Bool) → eqb b 43 ≡ u → (some_digits (cond u t (b ∷ t)) ≡ Some n) × (n < index_limit) → Numeral (b ∷ t) n
    go true f (g, l) = rw (eqb-true b 43 f) (signed (decimal_of t n g) l)
    go false f (g, l) = bare (decimal_of (b ∷ t) n g) l

-- `number` is the number that a numeral says
pub numerals : (t : List ℕ) (n : ℕ) → (number t ≡ Some n) ↔ Numeral t n
numerals t n = (numeral_of t n, numeral_says)

-- and no numeral is quoted
unquoted_first : (b : ℕ) (t : List ℕ) → (b ≡ 39 → ⊥) → (b ≡ 34 → ⊥) → quoted (b ∷ t) ≡ false
unfolding first_or
unquoted_first b t p q = rw (ne_eqb b 39 p, ne_eqb b 34 q) (both_false (leb 2 (suc (length t))) (eqb b (last_or 0 (b ∷ t))))
  where
    both_false : (u v : Bool) → (u && (v && false)) ≡ false
    both_false true true = refl
    both_false true false = refl
    both_false false v = refl

pub numeral_unquoted : {t : List ℕ} {n : ℕ} → Numeral t n → quoted t ≡ false
numeral_unquoted (bare d l) =
    let h = begun d in
    rw h.are (unquoted_first h.first h.others (λ e. omega (arith, h.is_first)) (λ e. omega (arith, h.is_first)))
numeral_unquoted (signed {t = t} d l) = unquoted_first 43 t (λ e. omega arith) (λ e. omega arith)
