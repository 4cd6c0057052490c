-- What an encoding is, in the words of document 02, f), and VariantEncoding.md: the rules that hold of a value with an own length, and when it
-- has none. proofs/Means.antt shows that `own_length` of Lengths.antt says the same. Assumes nothing.
use Rattle.std.specs.Prelude.{◌≡◌, true, List, ℕ, ◌+◌, ◌≤◌, ◌<◌, length, get_or, Result, Ok, Err}
use Rattle.width.specs.Limits.{u32_max}
use Rattle.layout.specs.declared.Widths.{Widths}
use Rattle.layout.specs.Layout as layout
use Rattle.encoding.specs.declared.Header.{Header}
use Rattle.encoding.specs.declared.Header.TheVariants as header
use Rattle.lengths.specs.declared.Flaw.{Flaw}
use Rattle.lengths.specs.declared.Flaw.TheVariants.{Cut, Sum, Unknown, Longer}
use Rattle.encoding.specs.Encoding.{header_of}
use Rattle.lengths.specs.Lengths.{holds_length, bytes_by}

-- WHAT THE HEADER MUST HAVE, by what its first byte says

-- a primitive has one of the 21 types, and of types 15 and 16 the length is there
pub record Typed (t : ℕ) (s : List ℕ) : Type 0 where
  pub known : t < 21
  pub length_there : holds_length t ≡ true → 5 ≤ length s

-- an object or a list has its count, and all its ids and offsets; none of these places is above the u32 range
pub record Counted (w : Widths) (s : List ℕ) : Type 0 where
  pub count_there : 1 + w.count ≤ length s
  pub offsets_fit : layout.offsets_start w s ≤ u32_max
  pub start_fits : layout.start w s ≤ u32_max
  pub offsets_there : layout.start w s ≤ length s

abbrev pub Headed : Header → List ℕ → Type 0
Headed (header.Primitive t) s = Typed t s
Headed (header.ShortString n) s = Unit {0}
Headed (header.Object w) s = Counted w s
Headed (header.List w) s = Counted w s

-- THE RULES OF A VALUE whose first byte says h: n bytes, which are there
pub record Encoded (h : Header) (s : List ℕ) (n : ℕ) : Type 0 where
  pub headed : Headed h s
  pub bytes : n ≡ bytes_by h s
  pub fits : n ≤ u32_max
  pub there : n ≤ length s

-- WHEN IT HAS NO OWN LENGTH

-- an object and a list are laid out alike
pub data Laid (w : Widths) : Header → Type 0 where
  as_object : Laid w (header.Object w)
  as_list : Laid w (header.List w)

pub data Lacks (s : List ℕ) (h : Header) : Flaw → Type 0 where
  no_such_type : (t : ℕ) → h ≡ header.Primitive t → 21 ≤ t → Lacks s h Unknown
  length_cut : (t : ℕ) → h ≡ header.Primitive t → t < 21 → holds_length t ≡ true → length s < 5 → Lacks s h Cut
  count_cut : {w : Widths} → Laid w h → length s < 1 + w.count → Lacks s h Cut
  offsets_sum : {w : Widths} → Laid w h → 1 + w.count ≤ length s → u32_max < layout.offsets_start w s → Lacks s h Sum
  start_sum : {w : Widths} → Laid w h → 1 + w.count ≤ length s → layout.offsets_start w s ≤ u32_max → u32_max < layout.start w s → Lacks s h Sum
  offsets_cut : {w : Widths} → Laid w h → 1 + w.count ≤ length s → layout.offsets_start w s ≤ u32_max → layout.start w s ≤ u32_max
      → length s < layout.start w s → Lacks s h Cut
  end_sum : Headed h s → u32_max < bytes_by h s → Lacks s h Sum
  end_past : Headed h s → bytes_by h s ≤ u32_max → length s < bytes_by h s → Lacks s h Longer

-- WHAT EACH ANSWER SAYS
pub data Due (s : List ℕ) : Result ℕ Flaw → Type 0 where
  no_bytes : length s ≡ 0 → Due s (Err Cut)
  measured : {n : ℕ} → 1 ≤ length s → Encoded (header_of (get_or s 0 0)) s n → Due s (Ok n)
  none : {f : Flaw} → 1 ≤ length s → Lacks s (header_of (get_or s 0 0)) f → Due s (Err f)
