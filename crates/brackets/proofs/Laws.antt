-- Laws of what brackets hold, at places of the list, as code goes by them. Assumes nothing.
use Rattle.rules.proofs.Prelude.{◌≡◌, refl, sym, ap, ◌∙◌, Bool, true, false, cond, ◌&&◌, List, [], ◌∷◌, ℕ, zero, suc, ◌+◌, ◌-◌, ◌*◌, ◌≤◌, ◌<◌, add-one}
use Rattle.rules.proofs.Prelude.{arith, ltb-true, leb-true, lt-ltb, le-ltb, ne_eqb, ltb, leb, length, take, drop, get_or, false_true}
use lib.ListN.{drop_of_length-le}
use lib.Seq.{drop-cons}
use Rattle.brackets.specs.Brackets.{index_limit, one_more, closes, content, first_or, last_or, same_quotes, in_quotes, unquoted, digits, unsigned, some_digits, small, number}
use Rattle.std.specs.Prelude.{Option, None, Some, Ok, Err}
use Rattle.std.specs.Char.{is_ascii_digit}
use Rattle.brackets.specs.Steps.{later, ByteOf, PieceOf, LookOf, AfterPlus}
use Rattle.brackets.specs.declared.Piece.{Piece}
use Rattle.brackets.specs.declared.Piece.TheVariants.{Never, Close, Byte}
use mathlib.Core.Logic.{◌⊎◌, inl, inr}

-- One byte of what brackets hold.

later_one : (n : ℕ) → one_more n ≡ later 1 n
unfolding later
later_one zero = refl
later_one (suc n) = omega arith

later_two : (n : ℕ) → one_more (one_more n) ≡ later 2 n
unfolding later
later_two zero = refl
later_two (suc n) = omega arith

pub later_none : (n : ℕ) → later 0 n ≡ n
unfolding later
later_none zero = refl
later_none (suc n) = omega arith

pub later_zero : (k : ℕ) → later k 0 ≡ 0
unfolding later
later_zero k = refl

pub later_some : (k n : ℕ) → 0 < n → later k n ≡ k + n
unfolding later
later_some k zero h = absurd (omega arith)
later_some k (suc n) h = refl

pub later_later : (k m n : ℕ) → later k (later m n) ≡ later (k + m) n
unfolding later
later_later k m zero = refl
later_later k m (suc n) =
    let e : m + suc n ≡ suc (m + n) = omega arith in
    rw e (omega arith)

module _ (s : List ℕ) (at : ℕ) where
  pub unit_end : length s ≤ at → (content false (drop at s) ≡ []) × (closes false (drop at s) ≡ 0)
  unfolding content closes
  unit_end h = (rw (drop_of_length-le s h), rw (drop_of_length-le s h))

  module _ (h : at < length s) where
    pub unit_close : get_or s at 0 ≡ 93 → (content false (drop at s) ≡ []) × (closes false (drop at s) ≡ 1)
    unfolding content closes
    unit_close e = (rw (drop-cons s at 0 h, e), rw (drop-cons s at 0 h, e))

    pub unit_cut : get_or s at 0 ≡ 92 → length s ≤ at + 1 → (content false (drop at s) ≡ []) × (closes false (drop at s) ≡ 0)
    unfolding content closes
    unit_cut e k =
        let k' : length s ≤ suc at = omega arith in
        let g : drop (suc at) s ≡ [] = drop_of_length-le s k' in
        (rw (drop-cons s at 0 h, e, g), rw (drop-cons s at 0 h, e, g))

    pub unit_plain : (get_or s at 0 ≡ 93 → ⊥) → (get_or s at 0 ≡ 92 → ⊥) → ByteOf s at (get_or s at 0) 1
    unfolding content closes
    unit_plain p q =
        record {
          content_is = rw (add-one at, drop-cons s at 0 h, ne_eqb (get_or s at 0) 92 q, ne_eqb (get_or s at 0) 93 p);
          closes_is = rw (add-one at, drop-cons s at 0 h, ne_eqb (get_or s at 0) 92 q, ne_eqb (get_or s at 0) 93 p) (later_one (closes false (drop (suc at) s)));
          some = omega arith;
          inside = omega arith;
        }

    pub unit_taken : get_or s at 0 ≡ 92 → at + 1 < length s → ByteOf s at (get_or s (at + 1) 0) 2
    unfolding content closes
    unit_taken e k =
        let k' : suc at < length s = omega arith in
        let two : at + 2 ≡ suc (suc at) = omega arith in
        record {
          content_is = rw (add-one at, two, drop-cons s at 0 h, e, drop-cons s (suc at) 0 k');
          closes_is = rw (two, drop-cons s at 0 h, e, drop-cons s (suc at) 0 k') (later_two (closes false (drop (suc (suc at)) s)));
          some = omega arith;
          inside = omega arith;
        }

-- what is no byte ends what they hold
pub no_byte : (s : List ℕ) (at : ℕ) (p : Piece) → PieceOf s at p → ((b n : ℕ) → p ≡ Byte b n → ⊥) → content false (drop at s) ≡ []
no_byte s at Never h n = h.0
no_byte s at Close h n = h.0
no_byte s at (Byte b k) h n = absurd (n b k refl)

pub none_held : (s : List ℕ) (at : ℕ) {p : Piece} → PieceOf s at p → (p ≡ Never) ⊎ (p ≡ Close) → content false (drop at s) ≡ []
none_held s at h (inl e) = (rw e at h).0
none_held s at h (inr e) = (rw e at h).0

-- A pass over the brackets that has come to `at`.

pub record Surveyed (s : List ℕ) (from at count last : ℕ) : Type 0 where
  pub closes_is : closes false (drop from s) ≡ later (at - from) (closes false (drop at s))
  pub count_is : length (content false (drop from s)) ≡ count + length (content false (drop at s))
  pub last_is : last_or 0 (content false (drop from s)) ≡ last_or last (content false (drop at s))
  pub come : from + count ≤ at
  pub inside : at ≤ length s

pub survey_start : (s : List ℕ) (from : ℕ) → from ≤ length s → Surveyed s from from 0 0
survey_start s from h =
    let e : from - from ≡ 0 = omega arith in
    record { closes_is = rw (e, later_none (closes false (drop from s))); count_is = omega arith; last_is = refl; come = omega arith; inside = h }

module _ {s : List ℕ} {from at count last : ℕ} (r : Surveyed s from at count last) where
  pub survey_turn : {byte size : ℕ} → ByteOf s at byte size → Surveyed s from (at + size) (count + 1) byte
  unfolding last_or
  survey_turn {size = size} b =
      let e : at + size - from ≡ (at - from) + size = omega (arith, r.come) in
      record {
        closes_is = r.closes_is ∙ rw (b.closes_is, e) (later_later (at - from) size (closes false (drop (at + size) s)));
        count_is = r.count_is ∙ rw b.content_is (omega arith);
        last_is = r.last_is ∙ rw b.content_is;
        come = omega (arith, r.come, b.some);
        inside = b.inside;
      }

  pub survey_never : (content false (drop at s) ≡ []) × (closes false (drop at s) ≡ 0) → LookOf s from (Err (record { count = count; last = last }))
  unfolding last_or
  survey_never (e, f) = (r.closes_is ∙ rw (f, later_zero (at - from)), sym (r.count_is ∙ rw e (omega arith)), sym (r.last_is ∙ rw e))

  pub survey_close : (content false (drop at s) ≡ []) × (closes false (drop at s) ≡ 1) × (at < length s)
      → LookOf s from (Ok (record { size = at + 1 - from; count = count; last = last }))
  unfolding last_or
  survey_close (e, f, g) =
      let k : closes false (drop from s) ≡ (at - from) + 1 = r.closes_is ∙ rw f (later_some (at - from) 1 (omega arith)) in
      record {
        size_is = omega (arith, r.come, k);
        count_is = sym (r.count_is ∙ rw e (omega arith));
        last_is = sym (r.last_is ∙ rw e);
        inside = omega (arith, r.come);
        shut = omega (arith, r.come);
      }

-- A number. Once it is too large it stays so.

pub data Large : Option ℕ → Type 0 where
  no : Large None
  big : {n : ℕ} → index_limit ≤ n → Large (Some n)

pub digits_large : (n : ℕ) (t : List ℕ) → index_limit ≤ n → Large (digits n t)
unfolding digits
digits_large n [] h = big h
digits_large n (b ∷ t) h = go (leb 48 b && leb b 57) (digits_large (10 * n + (b - 48)) t (omega arith))
  where
    go : (u : Bool) → Large (digits (10 * n + (b - 48)) t) → Large (cond u (digits (10 * n + (b - 48)) t) None)
    go true r = r
    go false r = no

pub small_large : {x : Option ℕ} → Large x → small x ≡ None
small_large no = refl
small_large (big {n = n} h) = rw (le-ltb n index_limit h)

module _ {s : List ℕ} {at byte size : ℕ} (b : ByteOf s at byte size) (value : ℕ) where
  pub digits_none : is_ascii_digit byte ≡ false → small (digits value (content false (drop at s))) ≡ None
  unfolding digits
  digits_none e = rw (b.content_is, e)

  module _ (e : is_ascii_digit byte ≡ true) where
    pub digits_more : digits value (content false (drop at s)) ≡ digits (10 * value + (byte - 48)) (content false (drop (at + size) s))
    unfolding digits
    digits_more = rw (b.content_is, e)

    pub digits_over : index_limit ≤ 10 * value + (byte - 48) → small (digits value (content false (drop at s))) ≡ None
    digits_over o = rw digits_more (small_large (digits_large (10 * value + (byte - 48)) (content false (drop (at + size) s)) o))

pub digits_end : (s : List ℕ) (at value : ℕ) → content false (drop at s) ≡ [] → value < index_limit → Some value ≡ small (digits value (content false (drop at s)))
unfolding digits
digits_end s at value e h = rw (e, lt-ltb value index_limit h)

-- at least one digit
pub some_none : (s : List ℕ) (at : ℕ) → content false (drop at s) ≡ [] → small (some_digits (content false (drop at s))) ≡ None
unfolding some_digits
some_none s at e = rw e

pub some_byte : {s : List ℕ} {at byte size : ℕ} → ByteOf s at byte size → some_digits (content false (drop at s)) ≡ digits 0 (content false (drop at s))
unfolding some_digits
some_byte b = rw b.content_is

-- after a plus or none
pub no_plus_none : (s : List ℕ) (at : ℕ) → content false (drop at s) ≡ [] → at ≤ length s → AfterPlus s at at
unfolding unsigned
no_plus_none s at e h = record { is = rw e; inside = h }

module _ {s : List ℕ} {at byte size : ℕ} (b : ByteOf s at byte size) where
  pub plus_taken : byte ≡ 43 → AfterPlus s at (at + size)
  unfolding unsigned
  plus_taken e = record { is = rw (b.content_is, e); inside = b.inside }

  pub no_plus : (byte ≡ 43 → ⊥) → AfterPlus s at at
  unfolding unsigned
  no_plus e = record { is = rw (b.content_is, ne_eqb byte 43 e); inside = omega (arith, b.inside) }

pub number_after : {s : List ℕ} {at r : ℕ} → AfterPlus s at r → number (content false (drop at s)) ≡ small (some_digits (content false (drop r s)))
unfolding number
number_after h = rw h.is

-- it is below 2 to the 64th
pub small_is : (x : Option ℕ) (n : ℕ) → small x ≡ Some n → (x ≡ Some n) × (n < index_limit)
small_is None n e = let z : ◌≡◌ {A = ℕ} 0 1 = cc in absurd (omega arith)
small_is (Some k) n e = go (ltb k index_limit) refl e
  where
    go : (u : Bool) → ltb k index_limit ≡ u → cond u (Some k) None ≡ Some n → (Some k ≡ Some n) × (n < index_limit)
    go true f g = let z : k ≡ n = cc in (g, omega (arith, ltb-true k index_limit f))
    go false f g = let z : ◌≡◌ {A = ℕ} 0 1 = cc in absurd (omega arith)

pub number_below : (t : List ℕ) (n : ℕ) → number t ≡ Some n → n < index_limit
unfolding number
number_below t n e = (small_is (some_digits (unsigned t)) n e).1

-- What brackets hold, by its first byte.

module _ {s : List ℕ} {at byte size : ℕ} (b : ByteOf s at byte size) where
  pub first_byte : first_or 0 (content false (drop at s)) ≡ byte
  unfolding first_or
  first_byte = rw b.content_is

  module _ {n : ℕ} (e : n ≡ length (content false (drop at s))) where
    pub unquoted_byte : unquoted (content false (drop at s)) ≡ take (n - 2) (content false (drop (at + size) s))
    unquoted_byte = rw (e, b.content_is)

    pub after_byte : n - 2 ≤ length (content false (drop (at + size) s))
    after_byte = omega (arith, e, ap length b.content_is)

-- a name in quotes has two bytes at least
pub two_quotes : (n a b : ℕ) → in_quotes n a b ≡ true → 2 ≤ n
two_quotes n a b = go (leb 2 n) refl
  where
    go : (u : Bool) → leb 2 n ≡ u → (u && same_quotes a b) ≡ true → 2 ≤ n
    go true e f = leb-true 2 n e
    go false e f = absurd (false_true f)
