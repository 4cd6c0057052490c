-- The first bytes of UTF-8's characters by RFC 3629, section 4, and what each asks (document 01, "Dictionary bytes"). Assumes nothing.
use Rattle.std.specs.Prelude.{cond, ◌&&◌, List, [], ◌∷◌, ℕ, ◌≤◌, leb, Option, Some, None}
use Rattle.leads.specs.declared.Lead.{Lead}

-- THE TABLE: a first byte from `from` to `to` is followed by `rest` bytes, the first of them from `lo` to `hi`. Nothing else.

pub data Row : Type 0 where
  row : (from to lo hi rest : ℕ) → Row

abbrev pub table : List Row
table =
    row 0x00 0x7F 0x80 0xBF 0
    ∷ row 0xC2 0xDF 0x80 0xBF 1
    ∷ row 0xE0 0xE0 0xA0 0xBF 2
    ∷ row 0xE1 0xEC 0x80 0xBF 2
    ∷ row 0xED 0xED 0x80 0x9F 2
    ∷ row 0xEE 0xEF 0x80 0xBF 2
    ∷ row 0xF0 0xF0 0x90 0xBF 3
    ∷ row 0xF1 0xF3 0x80 0xBF 3
    ∷ row 0xF4 0xF4 0x80 0x8F 3
    ∷ []

abbrev pub asks : (lo hi rest : ℕ) → Option Lead
asks lo hi rest = Some (record { lo = lo; hi = hi; rest = rest })

-- what the table asks after a first byte; None: it starts no character
abbrev pub look : List Row → ℕ → Option Lead
look [] a = None
look (row from to lo hi rest ∷ rows) a = cond (leb from a && leb a to) (asks lo hi rest) (look rows a)

unfoldable pub lead_of : ℕ → Option Lead
lead_of a = look table a

-- a byte from 80 to BF, which continues a character
abbrev pub Cont : ℕ → Type 0
Cont b = (0x80 ≤ b) × (b ≤ 0xBF)
