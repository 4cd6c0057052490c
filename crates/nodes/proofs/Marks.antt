-- Marks: what is kept is so, and what is recalled holds to the end at hand. Assumes nothing.
use Rattle.rules.proofs.Prelude.{◌≡◌, sym, ◌∙◌, List, ℕ, suc, ◌+◌, ◌-◌, ◌≤◌, ◌<◌, arith, length, get_or, set, pass}
use Rattle.std.specs.Prelude.{Ok}
use native.Mathlib.Decide.{ℕ_discrete}
use lib.Seq.{get_or-set_other}
use Rattle.walk.specs.Walk.Items.{none}
use Rattle.part.specs.Part.{part}
use Rattle.dictionary.specs.Limits.{limit}
use Rattle.dictionary.specs.Dictionary as dictionary
use Rattle.lengths.specs.Lengths.{own_length}
use Rattle.part.specs.declared.Span.{Span}
use Rattle.marks.specs.Marks.{cleared}
use Rattle.marks.proofs.Laws.{cleared_at, put_read}
use Rattle.nodes.specs.Tree.{tree}
use Rattle.nodes.specs.Tree.Seen.{fine}
use Rattle.nodes.specs.Steps.{Marked, Remembers}
use Rattle.nodes.proofs.Local.{recall}

module _ (d w : List ℕ) where
  -- no marks say nothing
  none_marked : (marks : List ℕ) → Marked d w (cleared marks)
  none_marked marks i h e = absurd (omega (arith, e, cleared_at marks i))

  pub remembers_none : {marks : List ℕ} → marks ≡ cleared marks → Remembers d w marks (record { start = 0; end = 0 })
  remembers_none {marks} e = record { marked = rw e (none_marked marks); known = record { rises = omega arith; inside = omega arith; is_text = none } }

  -- a good value's may be put
  marked_put : (marks : List ℕ) (a e h : ℕ) → Marked d w marks → a ≤ e → e ≤ length w → tree d h (part w a e) ≡ fine → Marked d w (set marks a (h + 1))
  marked_put marks a e h m p q good i h' is = go (ℕ_discrete a i)
    where
      go : Dec (a ≡ i) → (e' : ℕ) × (i ≤ e') × (e' ≤ length w) × (tree d h' (part w i e') ≡ fine)
      go (yes z) =
          let at : get_or (set marks a (h + 1)) a 0 ≡ suc h' = rw (← z) at is in
          let x : h ≡ h' = omega (arith, put_read marks a (h + 1) (omega (arith, at))) in
          (e, omega arith, q, rw (← z, ← x) good)
      go (no z) = m i h' (sym (get_or-set_other marks a i (h + 1) 0 (λ e. z (sym e))) ∙ is)

  pub remembers_put : {marks after : List ℕ} {t : Span} (a e h : ℕ) → Remembers d w marks t → a ≤ e → e ≤ length w → tree d h (part w a e) ≡ fine
      → after ≡ set marks a (h + 1) → Remembers d w after t
  remembers_put {marks} a e h m p q good is = record { marked = rw is (marked_put marks a e h m.marked p q good); known = m.known }

  -- and what is marked is good, to an end that its own length fits
  module _ (over : dictionary.checks d ≡ pass) (limited : length w ≤ limit) (marks : List ℕ) (known : Marked d w marks) where
    pub marked_use : (a e m n : ℕ) → a ≤ e → e ≤ length w → m ≡ get_or marks a 0 → 0 < m → own_length (part w a e) ≡ Ok n → tree d (m - 1) (part w a e) ≡ fine
    marked_use a e m n p q is some own =
        let up : m ≡ suc (m - 1) = omega arith in
        let k = known a (m - 1) (sym is ∙ up) in
        recall w d over limited (m - 1) a k.0 e n k.1 k.2 p q k.3 own
