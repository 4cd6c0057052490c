-- The longest dictionary or object that document 01's checks let through, named once. Proofs go by the name. Assumes nothing.
use Rattle.std.specs.Prelude.{ℕ}

-- the longest dictionary or object that is read (10, 20): document 01's number, raised by request d) of document 02
unfoldable pub limit : ℕ
limit = 16777216
