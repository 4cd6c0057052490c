-- Laws of offsets and items: how long they are, and what the writers' loops go by. Assumes nothing.
use Prim.Native.Nat.{max}
use native.Mathlib.Nat.{mul-suc}
use lib.ListN.{drop_of_length-le}
use lib.Seq.{length-sets, drop-cons, take-length}
use Rattle.rules.proofs.Prelude.{◌≡◌, refl, sym, ap, ◌∙◌, Bool, true, false, cond, List, [], ◌∷◌, ◌++◌, ℕ, zero, suc, ◌+◌, ◌-◌, ◌*◌, ◌≤◌, ◌<◌, add-one, arith}
use Rattle.rules.proofs.Prelude.{ltb, lt-ltb, le-ltb, length, take, drop, get_or, sets, length-append}
use mathlib.Core.List.{append-nil}
use Rattle.part.proofs.Laws.{part_length}
use Rattle.width.specs.Width.{bytes_of}
use Rattle.width.proofs.Laws.{bytes_length}
use Rattle.put.specs.Numbers.{numbers}
use Rattle.put.proofs.Laws.{sets_append, sets_apart}
use Rattle.put.proofs.Numbers.{numbers_length}
use Rattle.dictionary.specs.Limits.{limit}
use Rattle.sets.specs.Sets.{total}
use Rattle.sets.proofs.Laws.{total_next, total_part, collect_count}
use Rattle.source.specs.declared.Source.{Source}
use Rattle.part.specs.declared.Span.{Span}
use Rattle.source.specs.Names.{name_of, count_of, item_of}
use Rattle.source.specs.Steps.{SpanOf}
use Rattle.source.proofs.Laws.{count_within}
use Rattle.pick.specs.Pick as pick
use Rattle.lay.specs.Items.{items_of}
use Rattle.lay.specs.Bytes.{width_of, offsets, joined}
use Rattle.lay.specs.Steps.{Steady, Stands, Apart, filled}
use Rattle.lay.proofs.Items.{items_many, item_at}

-- THE WALK over the list

list_count : (run words : List ℕ) (kind : Source) → length (pick.list_of run words kind) ≤ count_of words kind
unfolding pick.list_of
list_count run words kind = collect_count (name_of run words kind) 0 (count_of words kind)

module _ (run words : List ℕ) (kind : Source) where
  pub reached_first : (last : ℕ) → pick.Reached run words kind 0 last
  reached_first last = record { inside = omega arith; known = λ p. absurd (omega arith); before = λ p. absurd (omega arith) }

  pub reached_next : {j number : ℕ} → pick.Stands run words kind j number → pick.Reached run words kind (j + 1) number
  reached_next {j} {number} n =
      let e : j + 1 - 1 ≡ j = omega arith in
      record { inside = omega (arith, n.inside); known = λ p. n.known; before = λ p. rw e n.is }

  module _ (bytes : List ℕ) where
    pub stands_inside : {j number start len : ℕ} → Stands run words bytes kind j number start len → (j < length (items_of run words bytes kind)) × (j < length words)
    stands_inside s = omega (arith, s.is_name.inside, items_many run words kind bytes, list_count run words kind, count_within words kind)

    pub stands_at : (j k : ℕ) (r : Span) → Steady run words bytes kind → pick.Stands run words kind j k → SpanOf bytes (item_of bytes words kind k) r
        → Stands run words bytes kind j k r.start (r.end - r.start)
    stands_at j k r steady n s =
        let is = s.bytes_are ∙ item_at run words kind bytes steady n in
        record {
          is_name = n;
          inside = omega (arith, s.rises, s.inside);
          bytes_are = is;
          len_is = sym (part_length bytes r.start r.end s.rises s.inside) ∙ ap length is;
        }

-- SIZES

pub width_some : (n : ℕ) → 1 ≤ width_of n
unfolding width_of
width_some n = one 0 _ (ltb n 0x100) (one 1 _ (ltb n 0x10000) (one 2 4 (ltb n 0x1000000) (omega arith)))
  where
    one : (a b : ℕ) (t : Bool) → 1 ≤ b → 1 ≤ cond t (suc a) b
    one a b true h = omega arith
    one a b false h = h

pub width_few : (n : ℕ) → width_of n ≤ 4
unfolding width_of
width_few n = one 1 _ (ltb n 0x100) (one 2 _ (ltb n 0x10000) (one 3 4 (ltb n 0x1000000) (omega arith) (omega arith)) (omega arith)) (omega arith)
  where
    one : (a b : ℕ) (t : Bool) → b ≤ 4 → a ≤ 4 → cond t a b ≤ 4
    one a b true h k = k
    one a b false h k = h

pub width_one : (n : ℕ) → n < 0x100 → 1 ≡ width_of n
unfolding width_of
width_one n p = rw (lt-ltb n 0x100 p)

pub width_two : (n : ℕ) → 0x100 ≤ n → n < 0x10000 → 2 ≡ width_of n
unfolding width_of
width_two n p q = rw (le-ltb n 0x100 p, lt-ltb n 0x10000 q)

pub width_three : (n : ℕ) → 0x10000 ≤ n → n < 0x1000000 → 3 ≡ width_of n
unfolding width_of
width_three n p q = let a : 0x100 ≤ n = omega arith in rw (le-ltb n 0x100 a, le-ltb n 0x10000 p, lt-ltb n 0x1000000 q)

pub width_four : (n : ℕ) → 0x1000000 ≤ n → 4 ≡ width_of n
unfolding width_of
width_four n p =
    let a : 0x100 ≤ n = omega arith in
    let b : 0x10000 ≤ n = omega arith in
    rw (le-ltb n 0x100 a, le-ltb n 0x10000 b, le-ltb n 0x1000000 p)

pub offsets_count : (o : ℕ) (xs : List (List ℕ)) → length (offsets o xs) ≡ length xs + 1
unfolding offsets
offsets_count o [] = refl
offsets_count o (x ∷ xs) = omega (arith, offsets_count (o + length x) xs)

pub offsets_length : (w o : ℕ) (xs : List (List ℕ)) → length (numbers w (offsets o xs)) ≡ w * (length xs + 1)
offsets_length w o xs = numbers_length w (offsets o xs) ∙ ap (λ (n : ℕ). w * n) (offsets_count o xs)

-- offset k is the length of the items before it
pub offsets_at : (o k : ℕ) (xs : List (List ℕ)) → k ≤ length xs → get_or (offsets o xs) k 0 ≡ o + total (take k xs)
unfolding offsets total
offsets_at o zero [] p = omega arith
offsets_at o zero (x ∷ xs) p = omega arith
offsets_at o (suc k) [] p = absurd (omega arith)
offsets_at o (suc k) (x ∷ xs) p = offsets_at (o + length x) k xs (omega arith) ∙ omega arith

pub joined_length : (xs : List (List ℕ)) → length (joined xs) ≡ total xs
unfolding joined total
joined_length [] = refl
joined_length (x ∷ xs) = simp length-append (omega (arith, joined_length xs))

-- MEASURING: the sum so far, and over the limit on the way is over the limit at the end

pub sum_next : (items : List (List ℕ)) {j n s : ℕ} → j < length items → n ≡ length (get_or items j []) → s ≡ total (take j items) → s + n ≡ total (take (j + 1) items)
sum_next items {j} p e h = rw (add-one j) (omega (arith, e, h, total_next items j p))

pub sum_all : (items : List (List ℕ)) {j : ℕ} → j ≡ length items → total (take j items) ≡ total items
sum_all items e = rw (e, take-length items)

pub long_sum : (items : List (List ℕ)) {j n s : ℕ} → j < length items → n ≡ length (get_or items j []) → s ≡ total (take j items) → limit < s + n
    → limit < max (length items) (total items)
long_sum items {j} p e h l = omega (arith, l, sum_next items p e h, total_part items (j + 1))

-- FILLING, an item a turn: what is left to write makes the same of the room as the whole does

-- one offset and one item more
module _ (items : List (List ℕ)) (j : ℕ) where
  offsets_next : (w o n : ℕ) → j < length items → n ≡ length (get_or items j [])
      → numbers w (offsets o (drop j items)) ≡ bytes_of w o ++ numbers w (offsets (o + n) (drop (j + 1) items))
  unfolding numbers offsets
  offsets_next w o n p e = rw (drop-cons items j [] p, add-one j, e)

  joined_next : j < length items → joined (drop j items) ≡ get_or items j [] ++ joined (drop (j + 1) items)
  unfolding joined
  joined_next p = rw (drop-cons items j [] p, add-one j)

-- the last offset, and no item
module _ (items : List (List ℕ)) (j : ℕ) (e : j ≡ length items) where
  none_left : drop j items ≡ []
  none_left = let p : length items ≤ j = omega arith in drop_of_length-le items p

  offsets_last : (w o : ℕ) → numbers w (offsets o (drop j items)) ≡ bytes_of w o ++ []
  unfolding numbers offsets
  offsets_last w o = rw none_left

  joined_none : joined (drop j items) ≡ []
  unfolding joined
  joined_none = rw none_left

pub record Filling (w : ℕ) (items : List (List ℕ)) (lent : List ℕ) (at region : ℕ) (room : List ℕ) (to sum j : ℕ) : Type 0 where
  pub comes_to : sets (sets room to (numbers w (offsets sum (drop j items)))) (region + sum) (joined (drop j items)) ≡ filled w items lent at region
  pub same_length : length room ≡ length lent
  pub offsets_fit : to + length (numbers w (offsets sum (drop j items))) ≤ region
  pub items_fit : region + sum + length (joined (drop j items)) ≤ length lent

pub fill_begins : {w : ℕ} {items : List (List ℕ)} {room : List ℕ} {at region : ℕ} → Apart w items room at region → Filling w items room at region room at 0 0
unfolding filled
fill_begins {w} {items} {room} {at} {region} a =
    let z : region + 0 ≡ region = omega arith in
    record { comes_to = rw z; same_length = refl; offsets_fit = a.offsets_fit; items_fit = omega (arith, a.items_fit) }

-- an offset is always left
some_left : (w o : ℕ) (xs : List (List ℕ)) → w ≤ length (numbers w (offsets o xs))
some_left w o xs =
    omega (arith, offsets_length w o xs, mul-suc w (length xs), ap (λ (n : ℕ). w * n) (add-one (length xs)))

module _ {w : ℕ} {items : List (List ℕ)} {lent : List ℕ} {at region : ℕ} {room : List ℕ} {to sum j : ℕ} (f : Filling w items lent at region room to sum j) where
  pub number_fits : (to + w ≤ length room) × (to + w ≤ region) × (region + sum ≤ length lent)
  number_fits = omega (arith, some_left w sum (drop j items), f.offsets_fit, f.items_fit, f.same_length)

  pub fill_ends : j ≡ length items → sets room to (bytes_of w sum) ≡ filled w items lent at region
  fill_ends e = rw (offsets_last items j e w sum, joined_none items j e, append-nil) at f.comes_to

  module _ {n : ℕ} (p : j < length items) (e : n ≡ length (get_or items j [])) where
    left_lengths : (length (numbers w (offsets sum (drop j items))) ≡ w + length (numbers w (offsets (sum + n) (drop (j + 1) items))))
        × (length (joined (drop j items)) ≡ n + length (joined (drop (j + 1) items)))
    left_lengths = (
      rw (offsets_next items j w sum n p e, length-append (bytes_of w sum) (numbers w (offsets (sum + n) (drop (j + 1) items))), bytes_length w sum),
      rw (joined_next items j p, length-append (get_or items j []) (joined (drop (j + 1) items)), e),
    )

    pub item_fits : region + sum + n ≤ length lent
    item_fits = omega (arith, left_lengths.1, f.items_fit)

    pub fill_turn : {x : List ℕ} → x ≡ get_or items j [] → Filling w items lent at region (sets (sets room to (bytes_of w sum)) (region + sum) x) (to + w) (sum + n) (j + 1)
    fill_turn {x} is =
        let os = numbers w (offsets (sum + n) (drop (j + 1) items)) in
        let js = joined (drop (j + 1) items) in
        let one = sets room to (bytes_of w sum) in
        let size : n ≡ length x = e ∙ sym (ap length is) in
        let place : region + (sum + n) ≡ region + sum + length x = omega arith in
        let after : to + w ≡ to + length (bytes_of w sum) = omega (arith, bytes_length w sum) in
        let apart : to + w + length os ≤ region + sum = omega (arith, left_lengths.0, f.offsets_fit) in
        record {
          comes_to =
              rw (place, sets_apart one (to + w) (region + sum) os x apart, ← sets_append (sets one (to + w) os) (region + sum) x js)
              (rw (after, ← sets_append room to (bytes_of w sum) os, is)
              (rw (offsets_next items j w sum n p e, joined_next items j p) at f.comes_to));
          same_length = length-sets one (region + sum) x ∙ length-sets room to (bytes_of w sum) ∙ f.same_length;
          offsets_fit = omega (arith, left_lengths.0, f.offsets_fit);
          items_fit = omega (arith, left_lengths.1, f.items_fit);
        }
