-- A value's header byte: what it says (document 02, f; VariantEncoding.md, "Value encoding"). b is the byte. Assumes nothing.
use Rattle.std.specs.Prelude.{cond, ℕ, ◌+◌, ◌/◌, ◌%◌, eqb}
use Rattle.layout.specs.declared.Widths.{Widths}
use Rattle.encoding.specs.declared.Header.{Header}
use Rattle.encoding.specs.declared.Header.TheVariants as header

-- a bit says that a count takes four bytes instead of one
unfoldable pub count_width : ℕ → ℕ
count_width bit = cond (eqb bit 1) 4 1

-- of an object: bits 2-3 plus 1 are the offset width, bits 4-5 plus 1 the id width, bit 6 says a count of four bytes
unfoldable pub object_widths : ℕ → Widths
object_widths b = record { count = count_width (b / 64 % 2); id = b / 16 % 4 + 1; offset = b / 4 % 4 + 1 }

-- of a list: bits 2-3 plus 1 are the offset width, there are no ids, and bit 4 says a count of four bytes
unfoldable pub list_widths : ℕ → Widths
list_widths b = record { count = count_width (b / 16 % 2); id = 0; offset = b / 4 % 4 + 1 }

-- the low two bits are the basic type; the upper six say a primitive's type, a short string's length, or widths
unfoldable pub header_of : ℕ → Header
header_of b =
    cond (eqb (b % 4) 0) (header.Primitive (b / 4))
    (cond (eqb (b % 4) 1) (header.ShortString (b / 4))
    (cond (eqb (b % 4) 2) (header.Object (object_widths b))
    (header.List (list_widths b))))
