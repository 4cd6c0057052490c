-- Laws of steps, at places of the list, as code goes by them. Assumes nothing.
use Rattle.rules.proofs.Prelude.{◌≡◌, refl, sym, ap, ◌∙◌, Bool, true, false, cond, List, [], ◌∷◌, ℕ, zero, suc, ◌+◌, ◌-◌, ◌≤◌, ◌<◌, add-one, arith}
use Rattle.rules.proofs.Prelude.{ne_eqb, length, take, drop, get_or, drop-drop}
use lib.ListN.{drop_of_length-le}
use lib.Seq.{drop-cons}
use Rattle.brackets.specs.Brackets.{closes, content, in_quotes, quoted, unquoted, number}
use Rattle.steps.specs.Path.{Step, Next, ends, plain, numbered, element, closed, bracket, dotted, next, add, parse}
use Rattle.steps.specs.Path.Step.{named}
use Rattle.steps.specs.Path.Next.{wrong, takes}
use Rattle.steps.specs.Path.Parsed.{refused, steps}
use Rattle.brackets.specs.Steps.{ByteOf, Seen}
use Rattle.brackets.specs.declared.Look.{Look}
use Rattle.brackets.proofs.Laws.{first_byte, unquoted_byte}

-- A name.

module _ (s : List ℕ) (at : ℕ) where
  pub plain_end : length s ≤ at → plain (drop at s) ≡ 0
  unfolding plain
  plain_end h = rw (drop_of_length-le s h)

  pub plain_stop : at < length s → ends (get_or s at 0) ≡ true → plain (drop at s) ≡ 0
  unfolding plain
  plain_stop h e = rw (drop-cons s at 0 h, e)

  pub plain_more : at < length s → ends (get_or s at 0) ≡ false → plain (drop at s) ≡ suc (plain (drop (at + 1) s))
  unfolding plain
  plain_more h e = rw (drop-cons s at 0 h, e, add-one at)

-- Brackets.

pub closed_some : (n : ℕ) (t : List ℕ) → 0 < n → closed n t ≡ element n t
closed_some zero t h = absurd (omega arith)
closed_some (suc n) t h = refl

module _ (u : List ℕ) where
  pub bracket_open : closes false u ≡ 0 → bracket u ≡ wrong 74
  unfolding bracket
  bracket_open e = rw e

  module _ (h : 0 < closes false u) where
    bracket_number : quoted (content false u) ≡ false → bracket u ≡ numbered (closes false u) (number (content false u))
    unfolding bracket
    bracket_number e = closed_some _ _ h ∙ rw e

    bracket_name : quoted (content false u) ≡ true → bracket u ≡ takes (named (unquoted (content false u))) (closes false u)
    unfolding bracket
    bracket_name e = closed_some _ _ h ∙ rw e

-- after a pass over them
module _ {s : List ℕ} {at : ℕ} {l : Look} (r : Seen s at l) where
  some_close : 0 < closes false (drop at s)
  some_close = omega (arith, r.size_is, r.shut)

  look_number : quoted (content false (drop at s)) ≡ false → numbered l.size (number (content false (drop at s))) ≡ bracket (drop at s)
  look_number e = sym (bracket_number (drop at s) some_close e ∙ rw r.size_is)

  pub look_none : content false (drop at s) ≡ [] → numbered l.size (number (content false (drop at s))) ≡ bracket (drop at s)
  look_none e = look_number (rw e)

  module _ {byte size : ℕ} (b : ByteOf s at byte size) where
    look_is : quoted (content false (drop at s)) ≡ in_quotes l.count byte l.last
    look_is = rw (r.count_is, first_byte b, r.last_is)

    pub look_unquoted : in_quotes l.count byte l.last ≡ false → numbered l.size (number (content false (drop at s))) ≡ bracket (drop at s)
    look_unquoted e = look_number (look_is ∙ e)

    pub look_quoted : in_quotes l.count byte l.last ≡ true
        → takes (named (take (l.count - 2) (content false (drop (at + size) s)))) l.size ≡ bracket (drop at s)
    look_quoted e = sym (bracket_name (drop at s) some_close (look_is ∙ e) ∙ rw (unquoted_byte b r.count_is, r.size_is))

-- A dot and a name.

pub dotted_end : (s : List ℕ) (at : ℕ) → length s ≤ at → dotted (drop at s) ≡ wrong 72
unfolding dotted
dotted_end s at h = rw (drop_of_length-le s h)

module _ (c : ℕ) (s : List ℕ) where
  after_dot : Bool → Next
  after_dot u = cond u (wrong 73) (takes (named (c ∷ take (plain s) s)) (suc (plain s)))

  dotted_stop_at : plain (c ∷ s) ≡ 0 → dotted (c ∷ s) ≡ wrong 73
  unfolding plain dotted after_dot
  dotted_stop_at = go (ends c)
    where
      go : (u : Bool) → cond u 0 (suc (plain s)) ≡ 0 → after_dot u ≡ wrong 73
      go true e = refl
      go false e = absurd (omega arith)

  dotted_name_at : (n : ℕ) → n ≡ plain (c ∷ s) → (n ≡ 0 → ⊥) → dotted (c ∷ s) ≡ takes (named (take n (c ∷ s))) n
  unfolding plain dotted after_dot
  dotted_name_at n = go (ends c)
    where
      go : (u : Bool) → n ≡ cond u 0 (suc (plain s)) → (n ≡ 0 → ⊥) → after_dot u ≡ takes (named (take n (c ∷ s))) n
      go true e f = absurd (f e)
      go false e f = rw e

module _ (s : List ℕ) (at : ℕ) (h : at < length s) where
  pub dotted_stop : plain (drop at s) ≡ 0 → dotted (drop at s) ≡ wrong 73
  dotted_stop e = rw (drop-cons s at 0 h) (dotted_stop_at (get_or s at 0) (drop (suc at) s) (rw (drop-cons s at 0 h) at e))

  pub dotted_name : (n : ℕ) → n ≡ plain (drop at s) → (n ≡ 0 → ⊥) → dotted (drop at s) ≡ takes (named (take n (drop at s))) n
  dotted_name n e f = rw (drop-cons s at 0 h) (dotted_name_at (get_or s at 0) (drop (suc at) s) n (rw (drop-cons s at 0 h) at e) f)

-- A step.

module _ (b : ℕ) (s : List ℕ) where
  pub next_dot : b ≡ 46 → next b s ≡ dotted s
  unfolding next
  next_dot e = rw e

  pub next_bracket : b ≡ 91 → next b s ≡ bracket s
  unfolding next
  next_bracket e = rw e

  pub next_close : b ≡ 93 → next b s ≡ wrong 73
  unfolding next
  next_close e = rw e

pub next_name : (s : List ℕ) (at n : ℕ) → at < length s → (get_or s at 0 ≡ 46 → ⊥) → (get_or s at 0 ≡ 91 → ⊥) → (get_or s at 0 ≡ 93 → ⊥)
    → n ≡ plain (drop (at + 1) s) → takes (named (take (n + 1) (drop at s))) n ≡ next (get_or s at 0) (drop (at + 1) s)
unfolding next
next_name s at n h p q r e =
    rw (ne_eqb (get_or s at 0) 46 p, ne_eqb (get_or s at 0) 91 q, ne_eqb (get_or s at 0) 93 r, ← e, add-one n, add-one at, drop-cons s at 0 h)

-- Steps one after another.

parse_skip : (n : ℕ) (s : List ℕ) → parse n s ≡ parse 0 (drop n s)
unfolding parse
parse_skip zero s = refl
parse_skip (suc n) [] = refl
parse_skip (suc n) (b ∷ s) = parse_skip n s

pub parse_cons : (b : ℕ) (s : List ℕ) (x : Step) (n : ℕ) → next b s ≡ takes x n → parse 0 (b ∷ s) ≡ add x (parse 0 (drop n s))
unfolding parse
parse_cons b s x n e = rw e (ap (add x) (parse_skip n s))

pub parse_stop : (b : ℕ) (s : List ℕ) (code : ℕ) → next b s ≡ wrong code → parse 0 (b ∷ s) ≡ refused code
unfolding parse
parse_stop b s code e = rw e

module _ (s : List ℕ) (at : ℕ) where
  pub parse_end : length s ≤ at → parse 0 (drop at s) ≡ steps []
  unfolding parse
  parse_end h = rw (drop_of_length-le s h)

  pub parse_wrong : (code : ℕ) → at < length s → next (get_or s at 0) (drop (at + 1) s) ≡ wrong code → parse 0 (drop at s) ≡ refused code
  parse_wrong code h e = rw (drop-cons s at 0 h) (parse_stop (get_or s at 0) (drop (suc at) s) code (rw (add-one at) at e))

  pub parse_step : (x : Step) (n : ℕ) → at < length s → next (get_or s at 0) (drop (at + 1) s) ≡ takes x n → parse 0 (drop at s) ≡ add x (parse 0 (drop (at + (n + 1)) s))
  parse_step x n h e =
      let k : at + (n + 1) ≡ suc at + n = omega arith in
      rw (drop-cons s at 0 h, k, ← drop-drop n (suc at) s) (parse_cons (get_or s at 0) (drop (suc at) s) x n (rw (add-one at) at e))
