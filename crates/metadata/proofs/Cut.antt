-- An accepted dictionary, cut anywhere before its trimmed end, is refused as empty or short at place 0, whatever is asked. Assumes nothing.
use Rattle.rules.proofs.Prelude.{◌≡◌, List, [], ◌∷◌, ℕ, ◌<◌, arith, take, drop, length-take, take-append-drop, Kept, accept, first, StopsAs, RefusedAs, pass}
use Rattle.rules.proofs.Prelude.{let_through, both_pass, passed, cut_stops, stops_first, refused_as}
use Rattle.dictionary.specs.Dictionary.{count, end, head_rules, checks, checks_within, verdict, verdict_within, name_at, name_at_within}
use Rattle.metadata.proofs.Means.{good}
use Rattle.metadata.proofs.Appended.{lifted, end_same, head_kept}

module _ (d : List ℕ) (m : ℕ) where
  -- a header that passes reaches its trimmed end, and the bytes after do not move that
  too_short : m < end d → first (head_rules (take m d)) ≡ pass → ⊥
  too_short p e =
      let head = passed (head_rules (take m d)) e in
      omega (arith, length-take m d, rw take-append-drop at (end_same (take m d) (drop m d) (omega arith)))

  -- so the header's table stops, and what comes after does not matter
  pub checks_cut : checks d ≡ pass → m < end d → StopsAs 11 13 (checks (take m d))
  unfolding checks_within
  checks_cut e p =
      let g = good d e in
      let stays : Kept lifted (head_rules (take m d)) (head_rules d) = rw take-append-drop at (head_kept (take m d) (drop m d) (rw take-append-drop (omega arith))) in
      stops_first (cut_stops 11 13 (head_rules (take m d)) (head_rules d) (omega arith) stays (both_pass (first (head_rules d)) _ e).0 (too_short p)) _

-- THE THEOREMS
module _ (d : List ℕ) (n e m : ℕ) (accepted : verdict d ≡ accept (n ∷ e ∷ [])) (cut : m < e) where
  pub stopped : StopsAs 11 13 (checks (take m d))
  unfolding verdict_within
  stopped =
      let through = let_through (checks d) (accept (count d ∷ end d ∷ [])) accepted in
      let e-is : e ≡ end d = cc in checks_cut d m through.0 (omega arith)

  pub verdict_cut : RefusedAs 11 13 (verdict (take m d))
  unfolding verdict_within
  verdict_cut = refused_as stopped _

  pub name_cut : (i : ℕ) → RefusedAs 11 13 (name_at (take m d) i)
  unfolding name_at_within
  name_cut i = refused_as (stops_first stopped _) _
