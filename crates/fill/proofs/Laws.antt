-- Laws of a dictionary's bytes: how long they are, and what they make of the room. Assumes nothing.
use Prim.Native.Nat.{max}
use Rattle.rules.proofs.Prelude.{◌≡◌, sym, ◌∙◌, List, ◌++◌, ℕ, ◌+◌, ◌*◌, ◌≤◌, ◌<◌, arith, mul-le-mul_right, length, set, sets, length-append}
use Rattle.width.specs.Width.{bytes_of}
use Rattle.width.proofs.Laws.{bytes_length}
use Rattle.put.specs.Numbers.{numbers}
use Rattle.put.proofs.Laws.{sets_append}
use Rattle.sets.specs.Sets.{total}
use Rattle.lay.specs.Bytes.{offsets, joined}
use Rattle.lay.specs.Steps.{filled}
use Rattle.lay.proofs.Laws.{width_some, offsets_length, joined_length}
use Rattle.fill.specs.Bytes.{width_for, lead, layout, dictionary, size}

-- SIZES

pub layout_length : (w : ℕ) (names : List (List ℕ)) → length (layout w names) ≡ 1 + w + w * (length names + 1) + total names
layout_length w names =
    simp length-append (omega (arith, bytes_length w (length names), offsets_length w 0 names, joined_length names))

pub size_is : (names : List (List ℕ)) → size names ≡ 1 + width_for names + width_for names * (length names + 1) + total names
unfolding size dictionary
size_is names = layout_length (width_for names) names

pub size_total : (names : List (List ℕ)) → total names ≤ size names
size_total names = omega (arith, size_is names)

pub size_count : (names : List (List ℕ)) → length names < size names
unfolding width_for
size_count names =
    omega (arith, size_is names, mul-le-mul_right {m = 1} {n = width_for names} (length names + 1) (width_some (max (length names) (total names))))

-- THE WHOLE: the first byte, the count, and both
pub all_filled : (w : ℕ) (names : List (List ℕ)) (room : List ℕ) (count region : ℕ) → count ≡ length names → region ≡ 1 + w + w * (length names + 1)
    → filled w names (sets (set room 0 (lead w)) 1 (bytes_of w count)) (1 + w) region ≡ sets room 0 (layout w names)
unfolding filled
all_filled w names room count region e f =
    let bs = bytes_of w (length names) in
    let os = numbers w (offsets 0 names) in
    let at : 1 + w ≡ 1 + length bs = omega (arith, bytes_length w (length names)) in
    let past : region ≡ 1 + length bs + length os = omega (arith, f, bytes_length w (length names), offsets_length w 0 names) in
    rw (e, past, at)
    (sym (sets_append (set room 0 (lead w)) 1 bs (os ++ joined names) ∙ sets_append (sets (set room 0 (lead w)) 1 bs) (1 + length bs) os (joined names)))
