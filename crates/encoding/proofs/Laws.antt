-- What the header byte says, within which bounds. Assumes nothing.
use Rattle.rules.proofs.Prelude.{◌≡◌, refl, ap, ◌∙◌, Bool, true, false, cond, ℕ, ◌/◌, ◌≤◌, ◌<◌, arith, eqb, sym}
use borrow.Author.Tests.{eqb-true, eqb-false}
use Prim.Native.Nat.{◌%◌}
use Rattle.layout.specs.declared.Widths.{Widths}
use Rattle.layout.specs.Steps.{Few}
use Rattle.encoding.specs.declared.Header.{Header}
use Rattle.encoding.specs.declared.Header.TheVariants as header
use Rattle.encoding.specs.Encoding.{count_width, object_widths, list_widths, header_of}
use Rattle.encoding.specs.Promises.{Bounded, HeaderPromise}

-- by the basic type
module _ (b : ℕ) where
  pub is_primitive : b % 4 ≡ 0 → header.Primitive (b / 4) ≡ header_of b
  unfolding header_of
  is_primitive e = rw e

  pub is_short : b % 4 ≡ 1 → header.ShortString (b / 4) ≡ header_of b
  unfolding header_of
  is_short e = rw e

  pub is_object : b % 4 ≡ 2 → header.Object (object_widths b) ≡ header_of b
  unfolding header_of
  is_object e = rw e

  pub is_list : b % 4 ≡ 3 → header.List (list_widths b) ≡ header_of b
  unfolding header_of
  is_list e = rw e

-- and back to it
abbrev pub type_of : Header → ℕ
type_of (header.Primitive t) = 0
type_of (header.ShortString n) = 1
type_of (header.Object w) = 2
type_of (header.List w) = 3

pub type_is : (b : ℕ) → type_of (header_of b) ≡ b % 4
type_is b = go (eqb (b % 4) 0) refl (eqb (b % 4) 1) refl (eqb (b % 4) 2) refl
  where
    go : (u : Bool) → eqb (b % 4) 0 ≡ u → (v : Bool) → eqb (b % 4) 1 ≡ v → (w : Bool) → eqb (b % 4) 2 ≡ w → type_of (header_of b) ≡ b % 4
    go true e v f w g = let z = eqb-true (b % 4) 0 e in rw (← is_primitive b z) (sym z)
    go false e true f w g = let z = eqb-true (b % 4) 1 f in rw (← is_short b z) (sym z)
    go false e false f true g = let z = eqb-true (b % 4) 2 g in rw (← is_object b z) (sym z)
    go false e false f false g =
        let z : b % 4 ≡ 3 = omega (arith, eqb-false (b % 4) 0 e, eqb-false (b % 4) 1 f, eqb-false (b % 4) 2 g) in rw (← is_list b z) (sym z)

-- a byte that says another kind has another type
pub other_type : (n b : ℕ) (r : Header) → HeaderPromise b r → (type_of r ≡ n → ⊥) → b % 4 ≡ n → ⊥
other_type n b r p h z = h (ap type_of p.says ∙ type_is b ∙ z)

pub object_says : (b : ℕ) (w : Widths) → header_of b ≡ header.Object w → (b % 4 ≡ 2) × (w ≡ object_widths b)
object_says b w e =
    let two : b % 4 ≡ 2 = sym (type_is b) ∙ ap type_of e in
    let same : header.Object w ≡ header.Object (object_widths b) = sym (is_object b two ∙ e) in (two, cc)

pub list_says : (b : ℕ) (w : Widths) → header_of b ≡ header.List w → (b % 4 ≡ 3) × (w ≡ list_widths b)
list_says b w e =
    let three : b % 4 ≡ 3 = sym (type_is b) ∙ ap type_of e in
    let same : header.List w ≡ header.List (list_widths b) = sym (is_list b three ∙ e) in (three, cc)

few_count : (bit : ℕ) → (1 ≤ count_width bit) × (count_width bit ≤ 4)
unfolding count_width
few_count bit = go (eqb bit 1)
  where
    go : (v : Bool) → (1 ≤ cond v 4 1) × (cond v 4 1 ≤ 4)
    go true = (omega arith, omega arith)
    go false = (omega arith, omega arith)

object_few : (b : ℕ) → Few (object_widths b)
unfolding object_widths
object_few b =
    let c = few_count (b / 64 % 2) in
    record { count_some = c.0; count_few = c.1; id_few = omega arith; offset_some = omega arith; offset_few = omega arith }

list_few : (b : ℕ) → Few (list_widths b)
unfolding list_widths
list_few b =
    let c = few_count (b / 16 % 2) in
    record { count_some = c.0; count_few = c.1; id_few = omega arith; offset_some = omega arith; offset_few = omega arith }

-- what a byte can say
pub bounded : (b : ℕ) → b < 256 → Bounded (header_of b)
unfolding header_of
bounded b p = go (eqb (b % 4) 0) (eqb (b % 4) 1) (eqb (b % 4) 2)
  where
    go : (u v w : Bool) → Bounded (cond u (header.Primitive (b / 4)) (cond v (header.ShortString (b / 4)) (cond w (header.Object (object_widths b)) (header.List (list_widths b)))))
    go true v w = omega arith
    go false true w = omega arith
    go false false true = object_few b
    go false false false = list_few b
