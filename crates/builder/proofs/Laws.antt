-- What the writer of an object's bytes goes by: the walk over the pairs, the ids a turn, and all of it. Assumes nothing.
use lib.ListN.{drop_of_length-le}
use lib.Seq.{length-sets, drop-cons}
use Rattle.std.specs.Prelude.{Option}
use Rattle.std.specs.Borrow.{Bor}
use Rattle.rules.proofs.Prelude.{◌≡◌, refl, sym, ap, ◌∙◌, Bool, List, ◌++◌, ℕ, ◌+◌, ◌-◌, ◌*◌, ◌≤◌, ◌<◌, add-one, dec_lt, arith}
use Rattle.rules.proofs.Prelude.{mul-le-mul_right, lt-ltb, le-ltb, length, drop, get_or, set, sets, length-append}
use Rattle.width.specs.Width.{bytes_of}
use Rattle.width.proofs.Laws.{bytes_length}
use Rattle.put.specs.Numbers.{numbers}
use Rattle.dictionary.specs.Limits.{limit}
use Rattle.put.proofs.Laws.{sets_append}
use Rattle.put.proofs.Numbers.{numbers_length}
use Rattle.sets.specs.Sets.{Distinct, collect, total}
use Rattle.source.specs.declared.Source.TheVariants as source
use Rattle.source.specs.Pairs.{pairs, id}
use Rattle.source.specs.Names.{name_of, count_of, Sound, GoodRanges, item_of, Ranged}
use Rattle.pick.specs.Pick as pick
use Rattle.lay.specs.Items.{numbers_of, items_of}
use Rattle.lay.specs.Bytes.{offsets, joined}
use Rattle.lay.specs.Steps.{Lent, filled}
use Rattle.lay.proofs.Laws.{offsets_length, joined_length}
use Rattle.pairs.specs.Checks.{pair_name}
use Rattle.builder.specs.Bytes.{fields, ids_of, children_of, children, count_width, lead, start_for, layout}
use Rattle.builder.specs.Steps.{Ready, Laid}
use Rattle.builder.proofs.Fields.{ids_count, ids_at, children_count, fields_many, fields_count, one_pair, field_is}

-- THE FIRST BYTE AND THE COUNT'S WIDTH

pub short_count : (n : ℕ) → n ≤ 0xFF → 1 ≡ count_width n
unfolding count_width
short_count n p = rw (le-ltb 0xFF n p)

pub long_count : (n : ℕ) → 0xFF < n → 4 ≡ count_width n
unfolding count_width
long_count n p = rw (lt-ltb 0xFF n p)

pub few_counts : (n : ℕ) → count_width n ≤ 4
few_counts n = go (dec_lt 0xFF n)
  where
    go : Dec (0xFF < n) → count_width n ≤ 4
    go (yes p) = omega (arith, long_count n p)
    go (no p) = omega (arith, short_count n (omega arith))

-- no sum on the way to the region wraps
pub start_small : (wi wo n : ℕ) → wi ≤ 4 → wo ≤ 4 → n ≤ limit
    → (wi * n ≤ 4 * n) × (wo * (n + 1) ≤ 4 * (n + 1)) × (n ≤ 16777216) × (count_width n ≤ 4)
unfolding limit
start_small wi wo n p q r = (mul-le-mul_right n p, mul-le-mul_right (n + 1) q, r, few_counts n)

-- and there is an offset for each field before it
pub start_above : (wi wo n : ℕ) → 1 ≤ wo → n < start_for wi wo n
unfolding start_for
start_above wi wo n p = omega (arith, mul-le-mul_right {m = 1} {n = wo} (n + 1) p)

module _ (wi wo n : ℕ) where
  pub short_lead : n ≤ 0xFF → 2 + 4 * (wo - 1) + 16 * (wi - 1) ≡ lead wi wo n
  unfolding lead
  short_lead p = rw (le-ltb 0xFF n p) (omega arith)

  pub long_lead : 0xFF < n → 2 + 4 * (wo - 1) + 16 * (wi - 1) + 64 ≡ lead wi wo n
  unfolding lead
  long_lead p = rw (lt-ltb 0xFF n p)

-- PAIRS as a source of names

module _ (d words : List ℕ) (names : ℕ) (sorts : Bool) where
  pub list_is : pick.list_of d words (source.Pairs names sorts) ≡ collect (pair_name d words) 0 (pairs words)
  unfolding pick.list_of name_of count_of pair_name
  list_is = refl

  pub items_are : (bytes : List ℕ) → items_of d words bytes (source.Pairs names sorts) ≡ children d bytes words
  unfolding items_of numbers_of pick.list_of name_of count_of item_of pair_name children children_of fields
  items_are bytes = refl

  module _ {order : Option (Bor (List ℕ))} (r : Ready d words order names sorts) where
    pub sound : Sound d words (source.Pairs names sorts)
    unfolding Sound
    sound = (r.over, r.entries)

    pub lent_pairs : (bytes : List ℕ) → GoodRanges bytes words → Lent d words bytes (source.Pairs names sorts)
    unfolding Ranged name_of count_of pair_name
    lent_pairs bytes g =
        record { sound = sound; ranged = g; steady = λ i j p q e. ap (item_of bytes words (source.Pairs names sorts)) (one_pair d words r.distinct i j p q e) }

    -- the pair that has name j is field j, and its id is id j
    pub id_is : (j k : ℕ) → pick.Stands d words (source.Pairs names sorts) j k
        → (k < pairs words) × (j < length (ids_of words (fields d words))) × (id words k ≡ get_or (ids_of words (fields d words)) j 0) × (j < pairs words)
    unfolding name_of count_of pick.list_of pair_name
    id_is j k s =
        let there : j < length (fields d words) = omega (arith, fields_many d words, s.inside) in
        let same = field_is d words r.distinct j k s.inside s.known s.is in
        let id-there = ap (id words) same ∙ sym (ids_at words (fields d words) j there) in
        (s.known, omega (arith, there, ids_count words (fields d words)), id-there, omega (arith, there, fields_count d words r.distinct))

  pub ids_done : (j : ℕ) → j ≡ length (pick.list_of d words (source.Pairs names sorts)) → j ≡ length (ids_of words (fields d words))
  unfolding name_of count_of pick.list_of pair_name
  ids_done j e = e ∙ sym (fields_many d words) ∙ sym (ids_count words (fields d words))

-- IDS, one a turn: what is left to write makes the same of the room as the whole does

pub record Numbering (w : ℕ) (ids lent : List ℕ) (at : ℕ) (room : List ℕ) (to j : ℕ) : Type 0 where
  pub comes_to : sets room to (numbers w (drop j ids)) ≡ sets lent at (numbers w ids)
  pub same_length : length room ≡ length lent
  pub fits : to + length (numbers w (drop j ids)) ≤ length lent

pub ids_begin : {w : ℕ} {ids lent : List ℕ} {at : ℕ} → at + length (numbers w ids) ≤ length lent → Numbering w ids lent at lent at 0
ids_begin p = record { comes_to = refl; same_length = refl; fits = p }

module _ {w : ℕ} {ids lent : List ℕ} {at : ℕ} {room : List ℕ} {to j : ℕ} (n : Numbering w ids lent at room to j) where
  pub ids_end : j ≡ length ids → room ≡ sets lent at (numbers w ids)
  unfolding numbers
  ids_end e = let p : length ids ≤ j = omega arith in rw (drop_of_length-le ids p) at n.comes_to

  module _ (p : j < length ids) where
    next : (i : ℕ) → i ≡ get_or ids j 0 → numbers w (drop j ids) ≡ bytes_of w i ++ numbers w (drop (j + 1) ids)
    unfolding numbers
    next i e = rw (drop-cons ids j 0 p, add-one j, e)

    longer : length (numbers w (drop j ids)) ≡ w + length (numbers w (drop (j + 1) ids))
    longer = rw (next (get_or ids j 0) refl, length-append (bytes_of w (get_or ids j 0)) (numbers w (drop (j + 1) ids)), bytes_length w (get_or ids j 0))

    pub id_fits : to + w ≤ length room
    id_fits = omega (arith, longer, n.fits, n.same_length)

    pub id_turn : (i : ℕ) → i ≡ get_or ids j 0 → Numbering w ids lent at (sets room to (bytes_of w i)) (to + w) (j + 1)
    id_turn i e =
        let after : to + w ≡ to + length (bytes_of w i) = omega (arith, bytes_length w i) in
        record {
          comes_to = rw (after, ← sets_append room to (bytes_of w i) (numbers w (drop (j + 1) ids))) (rw (next i e) at n.comes_to);
          same_length = length-sets room to (bytes_of w i) ∙ n.same_length;
          fits = omega (arith, longer, n.fits);
        }

-- THE WHOLE: the first byte, the count, the ids, offsets and children

module _ (wi wo : ℕ) (ids : List ℕ) (items : List (List ℕ)) where
  pub all_filled : (room : List ℕ) (n region : ℕ) → n ≡ length ids → length items ≡ length ids → region ≡ start_for wi wo n
      → filled wo items (sets (sets (set room 0 (lead wi wo n)) 1 (bytes_of (count_width n) n)) (1 + count_width n) (numbers wi ids)) (1 + count_width n + wi * n) region
      ≡ sets room 0 (layout wi wo ids items)
  unfolding filled layout start_for
  all_filled room n region e f g =
      let w = count_width n in
      let bs = bytes_of w n in
      let is = numbers wi ids in
      let os = numbers wo (offsets 0 items) in
      let one = set room 0 (lead wi wo n) in
      let a : 1 + w ≡ 1 + length bs = omega (arith, bytes_length w n) in
      let b : 1 + w + wi * n ≡ 1 + length bs + length is = omega (arith, bytes_length w n, numbers_length wi ids, ap (λ (m : ℕ). wi * m) e) in
      let c : region ≡ 1 + length bs + length is + length os = omega (arith, g, b, offsets_length wo 0 items, ap (λ (m : ℕ). wo * (m + 1)) (f ∙ sym e), a) in
      rw (← e, c, b, a)
      (sym (sets_append one 1 bs (is ++ (os ++ joined items)) ∙ sets_append (sets one 1 bs) (1 + length bs) is (os ++ joined items)
      ∙ sets_append (sets (sets one 1 bs) (1 + length bs) is) (1 + length bs + length is) os (joined items)))

pub layout_length : (wi wo : ℕ) (ids : List ℕ) (items : List (List ℕ)) → length items ≡ length ids
    → length (layout wi wo ids items) ≡ start_for wi wo (length ids) + total items
unfolding layout start_for
layout_length wi wo ids items e =
    simp length-append
    (omega (arith, bytes_length (count_width (length ids)) (length ids), numbers_length wi ids, offsets_length wo 0 items, ap (λ (n : ℕ). wo * (n + 1)) e, joined_length items))

-- AS MANY ids and children as pairs
module _ (d bytes words : List ℕ) (alone : Distinct (pair_name d words) 0 (pairs words)) where
  pub ids_all : length (ids_of words (fields d words)) ≡ pairs words
  ids_all = ids_count words (fields d words) ∙ fields_count d words alone

  pub children_all : length (children d bytes words) ≡ pairs words
  unfolding children
  children_all = children_count bytes words (fields d words) ∙ fields_count d words alone

-- WHERE ALL HAS ROOM, each row has
module _ {wi wo : ℕ} {d bytes words room : List ℕ} {count region : ℕ} (l : Laid wi wo d bytes words room count region) (alone : Distinct (pair_name d words) 0 (pairs words)) where
  pub ids_many : count ≡ length (ids_of words (fields d words))
  ids_many = l.count_is ∙ sym (ids_all d bytes words alone)

  pub children_many : length (children d bytes words) ≡ length (ids_of words (fields d words))
  children_many = children_all d bytes words alone ∙ sym (ids_all d bytes words alone)

  pub region_is : region ≡ start_for wi wo count
  region_is = l.region_is ∙ ap (start_for wi wo) (sym l.count_is)

  pub rows : {wc : ℕ} → wc ≡ count_width count
      → (region ≡ 1 + wc + wi * count + wo * (count + 1))
      × (length (numbers wi (ids_of words (fields d words))) ≡ wi * count)
      × (length (numbers wo (offsets 0 (children d bytes words))) ≡ wo * (count + 1))
      × (length (joined (children d bytes words)) ≡ total (children d bytes words))
  unfolding start_for
  rows e = (
    rw e region_is,
    numbers_length wi (ids_of words (fields d words)) ∙ ap (λ (n : ℕ). wi * n) (sym ids_many),
    offsets_length wo 0 (children d bytes words) ∙ ap (λ (n : ℕ). wo * (n + 1)) (children_many ∙ sym ids_many),
    joined_length (children d bytes words),
  )
