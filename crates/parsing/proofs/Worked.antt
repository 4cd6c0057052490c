-- The worked paths: the definitions answer each as its row says. Assumes nothing.
use Rattle.rules.proofs.Prelude.{◌≡◌, refl, map, List, ℕ}
use Rattle.width.specs.Limits.{u32_max}
use Rattle.walk.specs.Walk.{up_to}
use Rattle.leads.specs.Table.{lead_of}
use Rattle.chars.specs.Rfc3629.{tails_of, char, text_up_to}
use Rattle.brackets.specs.Brackets as brackets
use Rattle.steps.specs.Path.{Parsed, plain, bracket, dotted, next, parse}
use Rattle.writing.specs.Written.{weight, names_of, words_of, total, sizes}
use Rattle.parsing.specs.Parsing.{leading_dot, steps_of, answer, names_after, words_after}
use Rattle.parsing.specs.Worked.{paths, Asked, Left, calls}

pub worked : map (λ (c : List ℕ × Parsed). steps_of c.0) paths ≡ map (λ (c : List ℕ × Parsed). c.1) paths
unfolding up_to lead_of tails_of char text_up_to plain bracket dotted next parse leading_dot steps_of
    brackets.closes brackets.content brackets.first_or brackets.last_or brackets.digits brackets.unsigned brackets.some_digits brackets.number
worked = refl

-- the call's answer, and both buffers after it
pub after : Asked → Left
after a =
    let p = answer a.path a.names a.words in
    record { says = sizes p; names = names_after p a.names; words = words_after p a.words }

pub called : map (λ (c : Asked × Left). after c.0) calls ≡ map (λ (c : Asked × Left). c.1) calls
unfolding up_to lead_of tails_of char text_up_to plain bracket dotted next parse leading_dot steps_of after answer u32_max weight names_of words_of total
    brackets.closes brackets.content brackets.first_or brackets.last_or brackets.digits brackets.unsigned brackets.some_digits brackets.number
called = refl
