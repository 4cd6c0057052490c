-- Two inputs with the same set of names give the same bytes, and where both are good the same answer and room (document 02, j); no names give
-- 11 00 00. Assumes nothing.
use Rattle.rules.proofs.Prelude.{◌≡◌, refl, ap, List, [], ◌∷◌, ℕ}
use Rattle.width.specs.Width.{bytes_of}
use Rattle.put.specs.Numbers.{numbers}
use Rattle.given.specs.Meaning.{GoodNames}
use Rattle.given.proofs.Means.{good}
use Rattle.sets.specs.Sets.{total, collect}
use Rattle.source.specs.Names.{count_of}
use Rattle.pick.specs.Pick as pick
use Rattle.lay.specs.Bytes.{width_of, offsets, joined}
use Rattle.fill.specs.Bytes.{width_for, dictionary}
use Rattle.fill.specs.Steps.{list_of}
use Rattle.write.specs.Writing.{checks, written, room_after}
use Rattle.write.specs.Meaning.{Named}
use Rattle.write.proofs.TheList.{the_list, same_list}

module _ (run ends run' ends' : List ℕ) (to : (x : List ℕ) → Named run ends x → Named run' ends' x) (from : (x : List ℕ) → Named run' ends' x → Named run ends x) where
  same_names : list_of run ends ≡ list_of run' ends'
  same_names = same_list (the_list run ends) (the_list run' ends') to from

  pub same_bytes : dictionary (list_of run ends) ≡ dictionary (list_of run' ends')
  same_bytes = ap dictionary same_names

  module _ (g : GoodNames run ends) (g' : GoodNames run' ends') (room : List ℕ) where
    same_checks : checks run ends room ≡ checks run' ends' room
    unfolding checks
    same_checks = rw ((good run ends).1 g, (good run' ends').1 g', same_names)

    pub same_answer : written run ends room ≡ written run' ends' room
    unfolding written
    same_answer = rw (same_checks, same_names)

    pub same_room : room_after run ends room ≡ room_after run' ends' room
    unfolding room_after
    same_room = rw (same_checks, same_names)

pub no_names : (run : List ℕ) → dictionary (list_of run []) ≡ 0x11 ∷ 0x00 ∷ 0x00 ∷ []
unfolding dictionary width_for width_of numbers offsets joined bytes_of pick.list_of count_of collect total
no_names run = refl
