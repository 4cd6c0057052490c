-- Worked cases of request l): the store that is lent, the bytes held, a piece, what is answered and what is left in the store.
-- proofs/Worked.antt proves that the definitions say the same. Assumes nothing.
use Rattle.std.specs.Prelude.{List, [], ◌∷◌, ◌++◌, ℕ, take, replicate}
use Rattle.rules.specs.Rules.{Answer, refuse, accept}
use Rattle.pieces.specs.declared.State.TheVariants.{More}
use Rattle.pieces.specs.Pieces.{more, full}
use Rattle.pieces.specs.Feed.{fed, store_after}

pub record Case : Type 0 where
  pub store : List ℕ
  pub held : ℕ
  pub piece : List ℕ

pub record Told : Type 0 where
  pub answer : Answer
  pub left : List ℕ

abbrev pub tell : Case → Told
tell c = record { answer = fed c.store c.piece (More c.held); left = store_after c.store c.piece (More c.held) }

-- n bytes that nothing was copied to
abbrev pub bare : ℕ → List ℕ
bare n = replicate n 9

-- document 01's dictionary D of "flow" and "roll"
abbrev pub D : List ℕ
D = 0x11 ∷ 0x02 ∷ 0x00 ∷ 0x04 ∷ 0x08 ∷ 0x66 ∷ 0x6C ∷ 0x6F ∷ 0x77 ∷ 0x72 ∷ 0x6F ∷ 0x6C ∷ 0x6C ∷ []

abbrev case : List ℕ → ℕ → List ℕ → Case
case store held piece = record { store = store; held = held; piece = piece }

abbrev told : Answer → List ℕ → Told
told a l = record { answer = a; left = l }

-- THE TABLE: the empty dictionary 01 00 00 byte by byte, and its last byte as the first; no bytes into no room; D whole, in two pieces, and an empty piece between them; a store
-- that is exactly full; a byte too many for it, and all at once; one that settles and has too many; 12, 13 and 14 by the header alone, 19 by
-- the last byte; a state that counts past its store
abbrev pub cases : List (Case × Told)
cases =
    (case (bare 4) 0 (0x01 ∷ []), told (more 1 2) (0x01 ∷ bare 3))
    ∷ (case (0x01 ∷ bare 3) 1 (0x00 ∷ []), told (more 2 3) (0x01 ∷ 0x00 ∷ bare 2))
    ∷ (case (0x01 ∷ 0x00 ∷ bare 2) 2 (0x00 ∷ []), told (accept (0 ∷ 3 ∷ [])) (0x01 ∷ 0x00 ∷ 0x00 ∷ bare 1))
    ∷ (case (0x01 ∷ 0x00 ∷ bare 2) 0 (0x00 ∷ []), told (refuse 12 0) (0x00 ∷ 0x00 ∷ bare 2))
    ∷ (case [] 0 [], told (more 0 1) [])
    ∷ (case (bare 14) 0 D, told (accept (2 ∷ 13 ∷ [])) (D ++ bare 1))
    ∷ (case (bare 14) 0 (take 5 D), told (more 5 13) (take 5 D ++ bare 9))
    ∷ (case (take 5 D ++ bare 9) 5 [], told (more 5 13) (take 5 D ++ bare 9))
    ∷ (case (bare 12) 0 (take 12 D), told (more 12 13) (take 12 D))
    ∷ (case (take 12 D) 12 (0x6C ∷ []), told full (take 12 D))
    ∷ (case (bare 12) 0 D, told full (take 12 D))
    ∷ (case (bare 3) 0 (0x01 ∷ 0x00 ∷ 0x00 ∷ 0x07 ∷ []), told (accept (0 ∷ 3 ∷ [])) (0x01 ∷ 0x00 ∷ 0x00 ∷ []))
    ∷ (case (bare 3) 0 (0x02 ∷ []), told (refuse 12 0) (0x02 ∷ bare 2))
    ∷ (case (bare 5) 0 (0xC1 ∷ 0xFD ∷ 0xFF ∷ 0xFF ∷ 0x3F ∷ []), told (more 5 4294967293) (0xC1 ∷ 0xFD ∷ 0xFF ∷ 0xFF ∷ 0x3F ∷ []))
    ∷ (case (bare 5) 0 (0xC1 ∷ 0xFE ∷ 0xFF ∷ 0xFF ∷ 0x3F ∷ []), told (refuse 14 0) (0xC1 ∷ 0xFE ∷ 0xFF ∷ 0xFF ∷ 0x3F ∷ []))
    ∷ (case (0x01 ∷ 0x01 ∷ 0x00 ∷ 0x01 ∷ bare 1) 4 (0xC3 ∷ []), told (refuse 19 0) (0x01 ∷ 0x01 ∷ 0x00 ∷ 0x01 ∷ 0xC3 ∷ []))
    ∷ (case (bare 3) 4 (0x01 ∷ []), told full (bare 3))
    ∷ []
