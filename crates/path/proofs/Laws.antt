-- Laws of the walk: one step more, and how the loop comes to its end. Assumes nothing.
use Rattle.rules.proofs.Prelude.{◌≡◌, sym, ◌∙◌, List, [], ◌∷◌, ℕ, suc, ◌+◌, ◌-◌, ◌*◌, ◌≤◌, ◌<◌, arith, add-one, length, Answer, accept, gives, refuse}
use Rattle.part.specs.Part.{part}
use Rattle.part.proofs.Laws.{part_length}
use Rattle.steps.specs.Path.{Step}
use Rattle.writing.specs.Written.{sizes}
use Rattle.writing.specs.Written.Sizes.{bad, of}
use Rattle.writing.specs.Steps.{steps_in}
use Rattle.parsing.specs.Parsing.{answer, names_after, words_after}
use Rattle.parsing.specs.ReadBack.{step_at, read_back, Laid}
use Rattle.parsing.proofs.Laws.{is_of, is_bad}
use Rattle.parsing.proofs.ReadBack.{laid, read_back_law}
use Rattle.lookup.specs.declared.Found.{Found as Spot}
use Rattle.strides.specs.Stride.{stride}
use Rattle.strides.specs.Steps.{Stands}
use Rattle.strides.proofs.Inside.{stride_inside}
use Rattle.path.specs.Path.{whole, onward, walk, asked, by_path}
use Rattle.path.specs.Steps.{Filled}

-- A WALK THAT HAS COME TO STEP `number`: what is left decides as the whole does, and stands in the buffers; `at` lies in the value
pub record Come (d v names words : List ℕ) (count number : ℕ) (at : Spot) : Type 0 where
  pub going : walk d v 0 (whole v) (read_back names words 0 count) ≡ walk d v number at (read_back names words (3 * number) (count - number))
  pub filled : Laid names words (3 * number) (read_back names words (3 * number) (count - number))
  pub few : number ≤ count
  pub rises : at.start ≤ at.end
  pub inside : at.end ≤ length v

pub start : (d v names words : List ℕ) (count : ℕ) → Filled names words count → Come d v names words count 0 (whole v)
start d v names words count h =
    let n : count - 0 ≡ count = omega arith in
    record { going = rw n; filled = rw n h; few = omega arith; rises = omega arith; inside = omega arith }

module _ (d v names words : List ℕ) (count number : ℕ) (at : Spot) (w : Come d v names words count number at) where
  abbrev Here : Step
  Here = step_at names words (3 * number)

  abbrev Handed : List ℕ
  Handed = part v at.start at.end

  module _ (h : number < count) where
    more : count - number ≡ suc (count - (number + 1))
    more = omega arith

    -- the next step stands there
    pub stands : Stands names words (3 * number)
    unfolding read_back
    stands = (rw more at w.filled).0

    -- the whole is decided by what it answers
    decided : {r : Answer} → r ≡ stride d Handed number Here
        → walk d v 0 (whole v) (read_back names words 0 count)
        ≡ onward at.start r (λ next. walk d v (suc number) next (read_back names words (3 * number + 3) (count - (number + 1))))
    unfolding walk read_back
    decided e = w.going ∙ rw (more, ← e)

    -- absence and a refusal are the whole's answer
    pub ends : (code place : ℕ) → gives code [] place ≡ stride d Handed number Here → gives code [] place ≡ walk d v 0 (whole v) (read_back names words 0 count)
    ends code place e = sym (decided e)

    -- what is found is handed down
    pub turn : (s : Spot) → accept (s.field ∷ s.id ∷ s.start ∷ s.end ∷ []) ≡ stride d Handed number Here
        → Come d v names words count (number + 1) (record { field = s.field; id = s.id; start = at.start + s.start; end = at.start + s.end })
    unfolding read_back
    turn s e =
        let i = rw (← e) at (stride_inside d Handed number Here) in
        let l = part_length v at.start at.end w.rises w.inside in
        let row : 3 * (number + 1) ≡ 3 * number + 3 = omega arith in
        record {
          going = decided e ∙ rw (row, add-one number);
          filled = rw row (rw more at w.filled).1;
          few = omega arith;
          rises = omega (arith, i.0);
          inside = omega (arith, i.1, l, w.rises, w.inside);
        }

  -- no step is left
  pub done : count ≤ number → accept (at.field ∷ at.id ∷ at.start ∷ at.end ∷ []) ≡ walk d v 0 (whole v) (read_back names words 0 count)
  unfolding walk read_back
  done h =
      let n : count - number ≡ 0 = omega arith in
      sym (w.going ∙ rw n)

-- A PATH THAT WAS READ: its steps stand in the buffers that it left, and the answer is theirs
module _ (path names words names' words' : List ℕ) (count sum : ℕ) (says : of count sum ≡ sizes (answer path names words))
    (names_left : names' ≡ names_after (answer path names words) names) (words_left : words' ≡ words_after (answer path names words) words) where
  abbrev Read : List Step
  Read = steps_in (answer path names words)

  read : read_back names' words' 0 count ≡ Read
  read =
      let o = is_of (answer path names words) count sum says in
      rw (names_left, words_left, o.1) (read_back_law path names words Read o.0)

  pub filled : Filled names' words' count
  filled =
      let o = is_of (answer path names words) count sum says in
      rw (read, names_left, words_left) (laid path names words Read o.0)

  pub by_steps : (d v : List ℕ) → by_path d v path names words ≡ asked d v (read_back names' words' 0 count)
  unfolding by_path
  by_steps d v = rw (read, (is_of (answer path names words) count sum says).0)

-- and one that was refused
pub by_refusal : (d v path names words : List ℕ) (code : ℕ) → bad code ≡ sizes (answer path names words) → refuse code 0 ≡ by_path d v path names words
unfolding by_path
by_refusal d v path names words code e = rw (is_bad (answer path names words) code e)
