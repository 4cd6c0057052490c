-- Numbers of one width, one after another: a row of offsets. Assumes nothing.
use Rattle.std.specs.Prelude.{List, [], ◌∷◌, ◌++◌, ℕ}
use Rattle.width.specs.Width.{bytes_of}

unfoldable pub numbers : ℕ → List ℕ → List ℕ
numbers w [] = []
numbers w (n ∷ ns) = bytes_of w n ++ numbers w ns
