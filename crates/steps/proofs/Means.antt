-- A path is the steps that it spells, and is refused exactly where something else is met first (specs/Meaning.antt). Assumes nothing.
use Rattle.rules.proofs.Prelude.{◌≡◌, refl, sym, ap, ◌∙◌, ◌↔◌, Bool, true, false, cond, ◌||◌, List, [], ◌∷◌, ◌++◌, ℕ, zero, suc, arith, eqb, ne_eqb}
use Rattle.rules.proofs.Prelude.{length, take, drop, take-append-drop, false_true}
use lib.Seq.{take-append_seam, drop-append_seam}
use borrow.Author.Tests.{eqb-true}
use Rattle.brackets.specs.Brackets.{closes, content, quoted, unquoted, number}
use Rattle.std.specs.Prelude.{Option, None, Some}
use Rattle.brackets.specs.Meaning.{Shut, Quoted, Numeral}
use Rattle.brackets.proofs.Means.{shut_content, shut_closes, shut_found, open_found, shut_rest, quoted_so, quoted_back, numerals, numeral_unquoted}
use Rattle.steps.specs.Path.{Step, Next, Parsed, ends, plain, numbered, element, closed, bracket, dotted, next, add, follow, parse}
use Rattle.steps.specs.Path.Step.{named}
use Rattle.steps.specs.Path.Next.{wrong, takes}
use Rattle.steps.specs.Path.Parsed.{refused, steps}
use Rattle.steps.specs.Meaning.{Ending, Plain, Ends, Name, Holds, Stands, Spells, Wrong, Refused}
use Rattle.steps.specs.Meaning.Ending.{dot, opening, closing}
use Rattle.steps.specs.Meaning.Plain.{done, byte}
use Rattle.steps.specs.Meaning.Ends.{nothing, ending}
use Rattle.steps.specs.Meaning.Holds.{name, index}
use Rattle.steps.specs.Meaning.Stands.{bare, after_dot, bracketed}
use Rattle.steps.specs.Meaning.Spells.{end, step}
use Rattle.steps.specs.Meaning.Wrong.{trailing_dot, no_name, closes_nothing, unclosed, neither}
use Rattle.steps.specs.Meaning.Refused.{here, later}
use Rattle.steps.proofs.Laws.{closed_some, parse_cons, parse_stop}

-- ONE OF . [ ]
ends_so : {b : ℕ} → Ending b → ends b ≡ true
ends_so dot = refl
ends_so opening = refl
ends_so closing = refl

ending_of : (b : ℕ) → ends b ≡ true → Ending b
ending_of b = go (eqb b 46) refl (eqb b 91) refl (eqb b 93) refl
  where
    go : (u : Bool) → eqb b 46 ≡ u → (v : Bool) → eqb b 91 ≡ v → (w : Bool) → eqb b 93 ≡ w → (u || (v || w)) ≡ true → Ending b
    go true e v f w g h = rw (eqb-true b 46 e) dot
    go false e true f w g h = rw (eqb-true b 91 f) opening
    go false e false f true g h = rw (eqb-true b 93 g) closing
    go false e false f false g h = absurd (false_true h)

no_ending : (b : ℕ) → ends b ≡ false → Ending b → ⊥
no_ending b e h = false_true (sym e ∙ ends_so h)

plain_byte : (b : ℕ) → (Ending b → ⊥) → ends b ≡ false
plain_byte b n = go (ends b) refl
  where
    go : (u : Bool) → ends b ≡ u → ends b ≡ false
    go true e = absurd (n (ending_of b e))
    go false e = e

-- A NAME
plain_so : {t rest : List ℕ} → Plain t → Ends rest → plain (t ++ rest) ≡ length t
unfolding plain
plain_so done nothing = refl
plain_so done (ending e) = rw (ends_so e)
plain_so (byte {b = b} n p) e = rw (plain_byte b n) (ap suc (plain_so p e))

-- and back: as far as `plain` goes
plain_of : (s : List ℕ) → Plain (take (plain s) s) × Ends (drop (plain s) s)
unfolding plain
plain_of [] = (done, nothing)
plain_of (b ∷ s) = go (ends b) refl (plain_of s)
  where
    go : (u : Bool) → ends b ≡ u → Plain (take (plain s) s) × Ends (drop (plain s) s)
        → Plain (take (cond u 0 (suc (plain s))) (b ∷ s)) × Ends (drop (cond u 0 (suc (plain s))) (b ∷ s))
    go true e (p, q) = (done, ending (ending_of b e))
    go false e (p, q) = (byte (no_ending b e) p, q)

-- the name that b and the plain bytes after it are
name_of : (b : ℕ) (s : List ℕ) → ends b ≡ false → Name (b ∷ take (plain s) s) (drop (plain s) s)
name_of b s e =
    let (p, q) = plain_of s in
    record { some = omega arith; plain = byte (no_ending b e) p; ends = q }

-- WHAT BRACKETS HOLD
holds_so : (n : ℕ) {t : List ℕ} {x : Step} → Holds t x → element n t ≡ takes x n
holds_so n (name q) = let (e, f) = quoted_so q in rw (e, f)
holds_so n (index {t = t} {n = k} h) = rw (numeral_unquoted h, (numerals t k).1 h)

-- and back: a name, a number, or neither
holds_nothing : (t : List ℕ) → quoted t ≡ false → number t ≡ None → (x : Step) → Holds t x → ⊥
holds_nothing t e f x (name q) = false_true (sym e ∙ (quoted_so q).0)
holds_nothing t e f x (index {n = k} h) = let g = sym f ∙ (numerals t k).1 h in let z : ◌≡◌ {A = ℕ} 0 1 = cc in omega arith

-- WHAT A BYTE STARTS: a step that stands there, or what is none. w is that byte and s
Told : (w s : List ℕ) → Next → Type 0
Told w s (wrong code) = Wrong w code
Told w s (takes x n) = Stands w x (drop n s)

element_told : (s t : List ℕ) (n : ℕ) → Shut s t (drop n s) → Told (91 ∷ s) s (element n t)
unfolding Told
element_told s t n h = go (quoted t) refl (number t) refl
  where
    go : (u : Bool) → quoted t ≡ u → (k : Option ℕ) → number t ≡ k → Told (91 ∷ s) s (cond u (takes (named (unquoted t)) n) (numbered n k))
    go true e k f = bracketed h (name (quoted_back t e))
    go false e None f = neither h (holds_nothing t e f)
    go false e (Some k) f = bracketed h (index ((numerals t k).0 f))

closed_told : (s : List ℕ) (k : ℕ) → closes false s ≡ k → Told (91 ∷ s) s (closed k (content false s))
unfolding Told
closed_told s zero e = unclosed ((open_found s).0 e)
closed_told s (suc k) e = element_told s (content false s) (suc k) (rw e at (shut_found s (omega (arith, e))))

dotted_told : (s : List ℕ) → Told (46 ∷ s) s (dotted s)
unfolding Told dotted
dotted_told [] = trailing_dot
dotted_told (c ∷ s) = go (ends c) refl
  where
    go : (u : Bool) → ends c ≡ u → Told (46 ∷ c ∷ s) (c ∷ s) (cond u (wrong 73) (takes (named (c ∷ take (plain s) s)) (suc (plain s))))
    go true e = no_name (ending_of c e)
    go false e = rw (take-append-drop (plain s) s) at (after_dot (name_of c s e))

next_told : (b : ℕ) (s : List ℕ) → Told (b ∷ s) s (next b s)
unfolding Told next bracket
next_told b s = go (eqb b 46) refl (eqb b 91) refl (eqb b 93) refl
  where
    go : (u : Bool) → eqb b 46 ≡ u → (v : Bool) → eqb b 91 ≡ v → (w : Bool) → eqb b 93 ≡ w
        → Told (b ∷ s) s (cond u (dotted s) (cond v (closed (closes false s) (content false s)) (cond w (wrong 73) (takes (named (b ∷ take (plain s) s)) (plain s)))))
    go true e v f w g = rw (eqb-true b 46 e) (dotted_told s)
    go false e true f w g = rw (eqb-true b 91 f) (closed_told s (closes false s) refl)
    go false e false f true g = rw (eqb-true b 93 g) closes_nothing
    go false e false f false g = rw (take-append-drop (plain s) s) at (bare (name_of b s (rw (e, f, g))))

-- STEPS ONE AFTER ANOTHER
Means : List ℕ → Parsed → Type 0
Means w (refused code) = Refused w code
Means w (steps xs) = Spells w xs

add_means : {w rest : List ℕ} {x : Step} → Stands w x rest → (p : Parsed) → Means rest p → Means w (add x p)
unfolding Means
add_means h (refused code) m = later h m
add_means h (steps xs) m = step h m

follow_means : (w s : List ℕ) (n : Next) → Told w s n → ((k : ℕ) → Means (drop k s) (parse k s)) → Means w (follow n (λ k. parse k s))
unfolding Told Means
follow_means w s (wrong code) h all = here h
follow_means w s (takes x n) h all = add_means h (parse n s) (all n)

means : (n : ℕ) (s : List ℕ) → Means (drop n s) (parse n s)
unfolding Means parse
means zero [] = end
means (suc n) [] = end
means zero (b ∷ s) = follow_means (b ∷ s) s (next b s) (next_told b s) (λ k. means k s)
means (suc n) (b ∷ s) = means n s

-- AND BACK: what stands there is found
is_no : {b c : ℕ} → (Ending b → ⊥) → Ending c → eqb b c ≡ false
is_no {b = b} {c = c} n h = ne_eqb b c (λ e. n (rw e h))

next_bare : (b : ℕ) (t rest : List ℕ) → Plain (b ∷ t) → Ends rest → next b (t ++ rest) ≡ takes (named (b ∷ t)) (length t)
unfolding next
next_bare b t rest (byte n p) e =
    rw (is_no n dot, is_no n opening, is_no n closing, plain_so p e, take-append_seam t rest)

next_dotted : (b : ℕ) (t rest : List ℕ) → Plain (b ∷ t) → Ends rest → next 46 (b ∷ t ++ rest) ≡ takes (named (b ∷ t)) (suc (length t))
unfolding next dotted
next_dotted b t rest (byte n p) e = rw (plain_byte b n, plain_so p e, take-append_seam t rest)

bare_parse : (t rest : List ℕ) → Name t rest → parse 0 (t ++ rest) ≡ add (named t) (parse 0 rest)
bare_parse [] rest h = absurd (omega (arith, h.some))
bare_parse (b ∷ t) rest h =
    parse_cons b (t ++ rest) (named (b ∷ t)) (length t) (next_bare b t rest h.plain h.ends) ∙ rw (drop-append_seam t rest)

dotted_parse : (t rest : List ℕ) → Name t rest → parse 0 (46 ∷ t ++ rest) ≡ add (named t) (parse 0 rest)
dotted_parse [] rest h = absurd (omega (arith, h.some))
dotted_parse (b ∷ t) rest h =
    parse_cons 46 (b ∷ t ++ rest) (named (b ∷ t)) (suc (length t)) (next_dotted b t rest h.plain h.ends) ∙ rw (drop-append_seam t rest)

-- brackets that are shut
next_shut : {w t rest : List ℕ} → Shut w t rest → next 91 w ≡ element (closes false w) t
unfolding next bracket
next_shut {w = w} h = closed_some (closes false w) (content false w) (omega (arith, shut_closes h)) ∙ rw (shut_content h)

stands_parse : {w rest : List ℕ} {x : Step} → Stands w x rest → parse 0 w ≡ add x (parse 0 rest)
stands_parse (bare {t = t} {rest = rest} h) = bare_parse t rest h
stands_parse (after_dot {t = t} {rest = rest} h) = dotted_parse t rest h
stands_parse (bracketed {w = w} {x = x} h k) = parse_cons 91 w x (closes false w) (next_shut h ∙ holds_so _ k) ∙ rw (shut_rest h)

-- brackets that hold neither
number_none : (t : List ℕ) → ((n : ℕ) → Numeral t n → ⊥) → number t ≡ None
number_none t never = go (number t) refl
  where
    go : (k : Option ℕ) → number t ≡ k → number t ≡ None
    go None e = e
    go (Some k) e = absurd (never k ((numerals t k).0 e))

not_quoted : (t : List ℕ) → ((n : List ℕ) → Quoted t n → ⊥) → quoted t ≡ false
not_quoted t never = go (quoted t) refl
  where
    go : (u : Bool) → quoted t ≡ u → quoted t ≡ false
    go true e = absurd (never _ (quoted_back t e))
    go false e = e

next_neither : {w t rest : List ℕ} → Shut w t rest → ((x : Step) → Holds t x → ⊥) → next 91 w ≡ wrong 75
next_neither {t = t} h never = next_shut h ∙ rw (not_quoted t (λ n q. never _ (name q)), number_none t (λ n k. never _ (index k)))

wrong_parse : {w : List ℕ} {c : ℕ} → Wrong w c → parse 0 w ≡ refused c
unfolding next dotted bracket
wrong_parse trailing_dot = parse_stop 46 [] 72 refl
wrong_parse (no_name {b = b} {s = s} e) = parse_stop 46 (b ∷ s) 73 (rw (ends_so e))
wrong_parse (closes_nothing {s = s}) = parse_stop 93 s 73 refl
wrong_parse (unclosed {w = w} never) = parse_stop 91 w 74 (rw ((open_found w).1 never))
wrong_parse (neither {w = w} h never) = parse_stop 91 w 75 (next_neither h never)

spells_parse : {w : List ℕ} {xs : List Step} → Spells w xs → parse 0 w ≡ steps xs
unfolding parse
spells_parse end = refl
spells_parse (step h m) = stands_parse h ∙ rw (spells_parse m)

refused_parse : {w : List ℕ} {c : ℕ} → Refused w c → parse 0 w ≡ refused c
refused_parse (here h) = wrong_parse h
refused_parse (later h m) = stands_parse h ∙ rw (refused_parse m)

-- THE THEOREMS
pub spells : (w : List ℕ) (xs : List Step) → (parse 0 w ≡ steps xs) ↔ Spells w xs
unfolding Means
spells w xs = (λ e. rw e at (means 0 w), spells_parse)

pub refuses : (w : List ℕ) (c : ℕ) → (parse 0 w ≡ refused c) ↔ Refused w c
unfolding Means
refuses w c = (λ e. rw e at (means 0 w), refused_parse)
