-- Laws of tests and tables: what a verdict says when it accepts, when it refuses, when bytes are added and when they are cut off.
-- Assumes nothing.
use mathlib.Core.Path.{◌≡◌, refl, sym, ap, ap₂, ◌∙◌}
use mathlib.Core.Bool.{Bool, true, false, not, cond, ◌&&◌, ◌||◌}
use mathlib.Core.Logic.{◌↔◌, ◌⊎◌, ⊎_elim}
use mathlib.Core.Logic.◌⊎◌.{inl, inr}
use mathlib.Core.List.{List, [], ◌∷◌, ◌++◌}
use Prim.Native.Nat.{ℕ, zero, suc, ◌+◌, ◌<◌}
use native.Mathlib.Decide.{dec_lt}
use native.Mathlib.Numerals.{add-one}
use native.Mathlib.Omega.{arith}
use lib.Dec.{eqb}
use borrow.Author.Tests.{lt-ltb, le-ltb, ltb-true, ltb-false, le-leb, lt-leb, leb-true, leb-false, eq-eqb, ne_eqb, eqb-true, eqb-false, not-true, not-false}
use Rattle.rules.specs.Rules.{Answer, refuse, accept, code_of, Test, Says, Holds, Fails, holds, Rule, Found, first, each, ◌or_else◌, ◌otherwise◌}
use Rattle.rules.specs.Rules.{Passed, At, refusal_at, Rows, Stands, Kept, Stays, StopsAs, RefusedAs}
use Rattle.rules.specs.Rules.Answer.{gives}
use Rattle.rules.specs.Rules.Test.{◌<?◌, ◌≤?◌, ◌≠?◌, is, isn't, ◌and◌, ◌or◌}
use Rattle.rules.specs.Rules.Rule.{◌⇒◌at◌}
use Rattle.rules.specs.Rules.Found.{pass, stop}

-- a pair, for chains of facts
infixr 5 ◌&◌
abbrev pub ◌&◌ : {A B : Type 0} → A → B → A × B
◌&◌ a b = (a, b)

-- a promise has its sides the other way round
pub swap : {A P : Type 0} {x y : A} → ((x ≡ y) ↔ P) → ((y ≡ x) ↔ P)
swap both = (λ e. both.0 (sym e), λ p. sym (both.1 p))

-- WHAT IS IMPOSSIBLE

pub false_true : {A : Type 0} → false ≡ true → A
false_true e = let z : ◌≡◌ {A = ℕ} 0 1 = cc in absurd (omega arith)

stop_pass : {A : Type 0} {c p : ℕ} → stop c p ≡ pass → A
stop_pass e = let z : ◌≡◌ {A = ℕ} 0 1 = cc in absurd (omega arith)

-- TESTS: what `holds` computes is what `Holds` and `Fails` say.

pub both : (a b : Bool) → (a && b) ≡ true → (a ≡ true) × (b ≡ true)
both true b e = (refl, e)
both false b e = false_true e

not_both : (a b : Bool) → (a ≡ true → b ≡ false) → (a && b) ≡ false
not_both true b h = h refl
not_both false b h = refl

pub either : (a b : Bool) → (a ≡ false → b ≡ true) → (a || b) ≡ true
either true b h = refl
either false b h = h refl

pub neither : (a b : Bool) → (a || b) ≡ false → (a ≡ false) × (b ≡ false)
neither true b e = false_true (sym e)
neither false b e = (refl, e)

decides : (t : Test) (v : Bool) → (holds t ≡ v) ↔ Says v t
decides (a <? b) true = (ltb-true a b, lt-ltb a b)
decides (a <? b) false = (ltb-false a b, le-ltb a b)
decides (a ≤? b) true = (leb-true a b, le-leb a b)
decides (a ≤? b) false = (leb-false a b, lt-leb a b)
decides (a ≠? b) true = (λ e. eqb-false a b (not-true _ e), λ h. ap not (ne_eqb a b h))
decides (a ≠? b) false = (λ e. eqb-true a b (not-false _ e), λ h. ap not (eq-eqb a b h))
decides (is b) true = (λ e. e, λ h. h)
decides (is b) false = (λ e. e, λ h. h)
decides (isn't b) true = (not-true b, ap not)
decides (isn't b) false = (not-false b, ap not)
decides (t and u) true = (
  λ e. let w = both (holds t) (holds u) e in ((decides t true).0 w.0, (decides u true).0 w.1),
  λ h. rw ((decides t true).1 h.0) ((decides u true).1 h.1),
)
decides (t and u) false = (
  λ e h. (decides u false).0 (rw ((decides t true).1 h) at e),
  λ h. not_both (holds t) (holds u) (λ e. (decides u false).1 (h ((decides t true).0 e))),
)
decides (t or u) true = (
  λ e f. (decides u true).0 (rw ((decides t false).1 f) at e),
  λ h. either (holds t) (holds u) (λ e. (decides u true).1 (h ((decides t false).0 e))),
)
decides (t or u) false = (
  λ e. let w = neither (holds t) (holds u) e in ((decides t false).0 w.0, (decides u false).0 w.1),
  λ h. rw ((decides t false).1 h.0) ((decides u false).1 h.1),
)

-- a choice by a test, from what it says either way
pub by_test : (t : Test) {A : Type 0} (P : A → Type 0) {x y : A} → (Holds t → P x) → (Fails t → P y) → P (cond (holds t) x y)
by_test t P {x} {y} f g = go (holds t) refl
  where
    go : (u : Bool) → holds t ≡ u → P (cond u x y)
    go true e = f ((decides t true).0 e)
    go false e = g ((decides t false).0 e)

pub either_way : (t : Test) {A : Type 0} → (Holds t → A) → (Fails t → A) → A
either_way t {A} f g = by_test t (λ (_ : ℕ). A) {x = 0} {y = 0} f g

-- a test that cannot hold fails, one that cannot fail holds, and none does both
pub unless : (t : Test) → (Holds t → ⊥) → Fails t
unless t n = either_way t (λ h. absurd (n h)) (λ f. f)

pub surely : (t : Test) → (Fails t → ⊥) → Holds t
surely t n = either_way t (λ h. h) (λ f. absurd (n f))

pub never : (t : Test) → Fails t → Holds t → ⊥
never t f h = let z : false ≡ true = sym ((decides t false).1 f) ∙ (decides t true).1 h in false_true z

-- ONE TABLE

-- the first row that holds gives the refusal
pub first_at : (k : ℕ) (rows : List Rule) → At k rows → first rows ≡ refusal_at k rows
unfolding first
first_at k [] h = absurd h
first_at zero ((t ⇒ c at p) ∷ rows) h = rw ((decides t true).1 h)
first_at (suc k) ((t ⇒ c at p) ∷ rows) h = rw ((decides t false).1 h.0) (first_at k rows h.1)

-- a table passes exactly where no row holds
pub first_pass : (rows : List Rule) → Passed rows → first rows ≡ pass
unfolding first
first_pass [] h = refl
first_pass ((t ⇒ c at p) ∷ rows) h = rw ((decides t false).1 h.0) (first_pass rows h.1)

pub passed : (rows : List Rule) → first rows ≡ pass → Passed rows
unfolding first
passed [] e = tt
passed ((t ⇒ c at p) ∷ rows) e =
    by_test t (λ z. z ≡ pass → Fails t × Passed rows) (λ h. stop_pass) (λ h e. (h, passed rows e)) e

-- TABLE AFTER TABLE, AND THE ANSWER

pub stops : {f : Found} {c p : ℕ} (next : Found) → f ≡ stop c p → (f or_else next) ≡ stop c p
unfolding ◌or_else◌
stops next e = rw e

pub goes : {f : Found} (next : Found) → f ≡ pass → (f or_else next) ≡ next
unfolding ◌or_else◌
goes next e = rw e

pub both_pass : (f next : Found) → (f or_else next) ≡ pass → (f ≡ pass) × (next ≡ pass)
unfolding ◌or_else◌
both_pass pass next e = (refl, e)
both_pass (stop c p) next e = stop_pass e

pub refused : {f : Found} {c p : ℕ} (x : Answer) → f ≡ stop c p → (f otherwise x) ≡ refuse c p
unfolding ◌otherwise◌
refused x e = rw e

pub answered : {f : Found} (x : Answer) → f ≡ pass → (f otherwise x) ≡ x
unfolding ◌otherwise◌
answered x e = rw e

-- values come only with an answer that all checks let through
pub let_through : (f : Found) (x : Answer) {c p n : ℕ} {v : List ℕ} → (f otherwise x) ≡ gives c (n ∷ v) p → (f ≡ pass) × (x ≡ gives c (n ∷ v) p)
unfolding ◌otherwise◌
let_through pass x e = (refl, e)
let_through (stop c p) x e = let z : ◌≡◌ {A = ℕ} 0 1 = cc in absurd (omega arith)

-- and a refusal with no values is a row's, where the answer has some
pub turned_down : (f : Found) (n : ℕ) (v : List ℕ) {c p : ℕ} → (f otherwise accept (n ∷ v)) ≡ refuse c p → f ≡ stop c p
unfolding ◌otherwise◌
turned_down pass n v e = let z : ◌≡◌ {A = ℕ} 0 1 = cc in absurd (omega arith)
turned_down (stop c p) n v e = cc

-- A FAMILY OF TABLES, ENTRY BY ENTRY

pub first_append : (a b : List Rule) → first (a ++ b) ≡ (first a or_else first b)
unfolding first ◌or_else◌
first_append [] b = refl
first_append ((t ⇒ c at p) ∷ rows) b = go (holds t) (first_append rows b)
  where
    go : (u : Bool) → first (rows ++ b) ≡ (first rows or_else first b) → cond u (stop c p) (first (rows ++ b)) ≡ (cond u (stop c p) (first rows) or_else first b)
    go true e = refl
    go false e = e

-- what holds below n and at n holds below n + 1
pub and_last : (P : ℕ → Type 0) (n : ℕ) → ((k : ℕ) → k < n → P k) → P n → (k : ℕ) → k < suc n → P k
and_last P n below last k p = go (dec_lt k n)
  where
    go : Dec (k < n) → P k
    go (yes q) = below k q
    go (no q) = let z : k ≡ n = omega arith in rw z last

module _ (table : ℕ → List Rule) where
  -- none yet; one more; and the first that stops, stops all
  pub each_none : first (each table 0) ≡ pass
  unfolding first each
  each_none = refl

  pub each_more : (k : ℕ) → first (each table k) ≡ pass → first (each table (k + 1)) ≡ first (table k)
  unfolding each
  each_more k e = rw (add-one k) (first_append (each table k) (table k) ∙ goes _ e)

  pub each_stop : (k n : ℕ) {c p : ℕ} → first (each table k) ≡ pass → first (table k) ≡ stop c p → k < n → first (each table n) ≡ stop c p
  unfolding each
  each_stop k zero e h q = absurd (omega arith)
  each_stop k (suc n) {c} {p} e h q =
      first_append (each table n) (table n) ∙ go (each_stop k n e h) (dec_lt k n)
    where
      go : (k < n → first (each table n) ≡ stop c p) → Dec (k < n) → (first (each table n) or_else first (table n)) ≡ stop c p
      go r (yes w) = stops _ (r w)
      go r (no w) = let z : k ≡ n = omega arith in rw (← z) (goes _ e ∙ h)

  -- all pass exactly where each does
  pub each_pass : (n : ℕ) → ((k : ℕ) → k < n → Passed (table k)) → first (each table n) ≡ pass
  unfolding each first
  each_pass zero h = refl
  each_pass (suc n) h =
      first_append (each table n) (table n)
      ∙ goes _ (each_pass n (λ k p. h k (omega arith)))
      ∙ first_pass (table n) (h n (omega arith))

  pub each_passed : (n : ℕ) → first (each table n) ≡ pass → (k : ℕ) → k < n → Passed (table k)
  unfolding each
  each_passed zero e = λ k p. absurd (omega arith)
  each_passed (suc n) e =
      let w = both_pass (first (each table n)) _ (sym (first_append (each table n) (table n)) ∙ e) in
      and_last (λ j. Passed (table j)) n (each_passed n w.0) (passed (table n) w.1)

pub each_same : {A : Type 0} (f g : ℕ → List A) (n : ℕ) → ((k : ℕ) → k < n → f k ≡ g k) → each f n ≡ each g n
unfolding each
each_same f g zero h = refl
each_same f g (suc n) h = rw (each_same f g n (λ k p. h k (omega arith)), h n (omega arith))

-- MEANING: what passing and each refusal come to, put together from what each row says. `A` is what is so where all rows pass, and
-- `B code place` where a row stops with these numbers.

pub data Meant (A : Type 0) (B : ℕ → ℕ → Type 0) : Found → Type 0 where
  all_pass : A → Meant A B pass
  one_stops : {code place : ℕ} → B code place → Meant A B (stop code place)

-- what a table's rows have to show: each row its refusal, and all that fail what passing means
abbrev pub Cases : Type 0 → (ℕ → ℕ → Type 0) → List Rule → Type 0
Cases A B [] = A
Cases A B ((t ⇒ c at p) ∷ rows) = (Holds t → B c p) × (Fails t → Cases A B rows)

pub by_rows : (A : Type 0) (B : ℕ → ℕ → Type 0) (rows : List Rule) → Cases A B rows → Meant A B (first rows)
unfolding first
by_rows A B [] k = all_pass k
by_rows A B ((t ⇒ c at p) ∷ rows) k =
    by_test t (Meant A B) (λ h. one_stops (k.0 h)) (λ f. by_rows A B rows (k.1 f))

pub meant_then : {A C : Type 0} {B : ℕ → ℕ → Type 0} {f : Found} (next : Found) → Meant A B f → (A → Meant C B next) → Meant C B (f or_else next)
unfolding ◌or_else◌
meant_then next (all_pass a) k = k a
meant_then next (one_stops b) k = one_stops b

-- what is so of every row's number and place is so of those with which the table stops
of_rows : {A : Type 0} (B : ℕ → ℕ → Type 0) (rows : List Rule) → (Passed rows → A) → Rows B rows → Cases A B rows
of_rows B [] f k = f tt
of_rows B ((t ⇒ c at p) ∷ rows) f k = (λ h. k.0, λ g. of_rows B rows (λ r. f (g, r)) k.1)

pub rows_mean : (B : ℕ → ℕ → Type 0) (rows : List Rule) → Rows B rows → Meant (Passed rows) B (first rows)
rows_mean B rows k = by_rows (Passed rows) B rows (of_rows B rows (λ p. p) k)

-- entry by entry: each table shows its refusals, given that those before it passed
abbrev AllPassed : (ℕ → List Rule) → ℕ → Type 0
AllPassed table n = (k : ℕ) → k < n → Passed (table k)

pub by_each : (B : ℕ → ℕ → Type 0) (table : ℕ → List Rule) (n : ℕ)
    → ((k : ℕ) → k < n → AllPassed table k → Cases (Unit {0}) B (table k)) → Meant (AllPassed table n) B (first (each table n))
unfolding each first
by_each B table zero h = all_pass (λ k p. absurd (omega arith))
by_each B table (suc n) h =
    rw (first_append (each table n) (table n))
    (meant_then (first (table n)) (by_each B table n (λ k p. h k (omega arith))) λ all.
    go all (first (table n)) refl (by_rows (Unit {0}) B (table n) (h n (omega arith) all)))
  where
    go : AllPassed table n → (next : Found) → first (table n) ≡ next → Meant (Unit {0}) B next → Meant (AllPassed table (suc n)) B next
    go all pass e (all_pass u) = all_pass (and_last (λ j. Passed (table j)) n all (passed (table n) e))
    go all (stop c p) e (one_stops b) = one_stops b

pub each_means : (B : ℕ → ℕ → Type 0) (table : ℕ → List Rule) (n : ℕ) → ((k : ℕ) → k < n → Rows B (table k)) → Meant (AllPassed table n) B (first (each table n))
each_means B table n h = by_each B table n (λ k p _. of_rows B (table k) (λ _. tt) (h k p))

pub meant_map : {A C : Type 0} {B D : ℕ → ℕ → Type 0} {f : Found} → (A → C) → ((c p : ℕ) → B c p → D c p) → Meant A B f → Meant C D f
meant_map g h (all_pass a) = all_pass (g a)
meant_map g h (one_stops {code = c} {place = p} b) = one_stops (h c p b)

of_stop : {A : Type 0} {B : ℕ → ℕ → Type 0} {c p : ℕ} → Meant A B (stop c p) → B c p
of_stop (one_stops b) = b

pub meant_pass : {A : Type 0} {B : ℕ → ℕ → Type 0} {f : Found} → Meant A B f → f ≡ pass → A
meant_pass (all_pass a) e = a
meant_pass (one_stops b) e = stop_pass e

pub meant_stop : {A : Type 0} {B : ℕ → ℕ → Type 0} {f : Found} {c p : ℕ} → Meant A B f → f ≡ stop c p → B c p
meant_stop m e = of_stop (rw e at m)

-- an answer after its checks, by what passing means and what each refusal means
pub by_meaning : {A : Type 0} {B : ℕ → ℕ → Type 0} {f : Found} (P : Answer → Type 0) (x : Answer) → Meant A B f → (A → P x)
    → ((c p : ℕ) → B c p → P (refuse c p)) → P (f otherwise x)
unfolding ◌otherwise◌
by_meaning P x (all_pass a) passes refuses = passes a
by_meaning P x (one_stops {code = c} {place = p} b) passes refuses = refuses c p b

-- BYTES ADDED

-- tables that are kept row by row come to the same, but for what more bytes lift
pub kept : (lifted : ℕ → Bool) (rows rows' : List Rule) → Kept lifted rows rows' → Stays lifted (first rows) (first rows')
unfolding first
kept lifted [] [] k = refl
kept lifted [] (r ∷ rows') k = absurd k
kept lifted (r ∷ rows) [] k = absurd k
kept lifted ((t ⇒ c at p) ∷ rows) ((u ⇒ d at q) ∷ rows') k =
    by_test t (λ x. Stays lifted x (cond (holds u) (stop d q) (first rows')))
    (λ h. go (lifted c) k.0.3 h)
    (λ f. rw ((decides u false).1 (k.0.2 f)) (kept lifted rows rows' (k.1 f)))
  where
    go : (b : Bool) → Stands b t u → Holds t → b ≡ false → cond (holds u) (stop d q) (first rows') ≡ stop c p
    go true w h e = false_true (sym e)
    go false w h e = rw ((decides u true).1 (w h), k.0.0, k.0.1)

pub same_stays : (lifted : ℕ → Bool) (f : Found) → Stays lifted f f
same_stays lifted pass = refl
same_stays lifted (stop c p) = λ _. refl

-- what fewer numbers lift, more do
pub stays_more : (few many : ℕ → Bool) (f g : Found) → ((c : ℕ) → many c ≡ false → few c ≡ false) → Stays few f g → Stays many f g
stays_more few many pass g h k = k
stays_more few many (stop c p) g h k = λ e. k (h c e)

pub stays_then : (lifted : ℕ → Bool) (f g next next' : Found) → Stays lifted f g → (f ≡ pass → Stays lifted next next') → Stays lifted (f or_else next) (g or_else next')
unfolding ◌or_else◌
stays_then lifted pass g next next' k h = rw k (h refl)
stays_then lifted (stop c p) g next next' k h = λ e. rw (k e)

pub stays_answer : (lifted : ℕ → Bool) (f g : Found) (x y : Answer)
    → Stays lifted f g → (f ≡ pass → y ≡ x) → lifted (code_of (f otherwise x)) ≡ false → (g otherwise y) ≡ (f otherwise x)
unfolding ◌otherwise◌
stays_answer lifted pass g x y k h e = rw k (h refl)
stays_answer lifted (stop c p) g x y k h e = rw (k e)

-- BYTES CUT OFF

-- where the first part stops, what comes after does not matter
pub stops_first : {a b : ℕ} {f : Found} → StopsAs a b f → (next : Found) → StopsAs a b (f or_else next)
stops_first s next = ⊎_elim (λ e. inl (stops next e)) (λ e. inr (stops next e)) s

pub stops_next : {a b : ℕ} {f next : Found} → f ≡ pass → StopsAs a b next → StopsAs a b (f or_else next)
stops_next {next = next} e s = rw (goes next e) s

pub refused_as : {a b : ℕ} {f : Found} → StopsAs a b f → (x : Answer) → RefusedAs a b (f otherwise x)
refused_as s x = ⊎_elim (λ e. inl (refused x e)) (λ e. inr (refused x e)) s

-- where the whole passes a table at place 0 and the cut one cannot, the cut one stops there with a number that more bytes lift
pub cut_stops : (a b : ℕ) (rows rows' : List Rule) → Rows (λ c p. p ≡ 0) rows → Kept (λ c. eqb c a || eqb c b) rows rows'
    → first rows' ≡ pass → (first rows ≡ pass → ⊥) → StopsAs a b (first rows)
cut_stops a b rows rows' z k e n = go (first rows) (kept _ rows rows' k) (rows_mean _ rows z) n
  where
    go : (f : Found) → Stays (λ c. eqb c a || eqb c b) f (first rows') → Meant (Passed rows) (λ c p. p ≡ 0) f → (f ≡ pass → ⊥) → StopsAs a b f
    go pass s m n = absurd (n refl)
    go (stop c p) s (one_stops z) n =
        either_way (is (eqb c a)) (λ w. inl (ap₂ stop (eqb-true c a w) z)) λ f.
        either_way (is (eqb c b)) (λ w. inr (ap₂ stop (eqb-true c b w) z)) (λ g. stop_pass (sym (s (rw (f, g))) ∙ e))

-- TWO FAMILIES OF ONE MEANING

-- what nothing lifts stays the same
pub stays_same : (f g : Found) → Stays (λ _. false) f g → f ≡ g
stays_same pass g k = sym k
stays_same (stop c p) g k = sym (k refl)

-- families whose tables come to the same wherever all before passed
pub each_alike : (f g : ℕ → List Rule) (n : ℕ) → ((k : ℕ) → k < n → AllPassed f k → first (f k) ≡ first (g k)) → first (each f n) ≡ first (each g n)
unfolding each
each_alike f g zero h = refl
each_alike f g (suc n) h =
    first_append (each f n) (f n)
    ∙ go (first (each f n)) refl (each_alike f g n (λ k p. h k (omega arith))) (λ e. h n (omega arith) (each_passed f n e))
    ∙ sym (first_append (each g n) (g n))
  where
    go : (x : Found) → first (each f n) ≡ x → first (each f n) ≡ first (each g n) → (first (each f n) ≡ pass → first (f n) ≡ first (g n))
        → (first (each f n) or_else first (f n)) ≡ (first (each g n) or_else first (g n))
    go pass e same next = goes _ e ∙ next e ∙ sym (goes _ (sym same ∙ e))
    go (stop c p) e same next = stops _ e ∙ sym (stops _ (sym same ∙ e))
