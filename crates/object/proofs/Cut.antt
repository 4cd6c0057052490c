-- An accepted dictionary cut anywhere before its trimmed end makes the layer empty or short at place 0, 11 or 13; an accepted object cut
-- likewise, 21 or 23. Assumes nothing.
use Rattle.rules.proofs.Prelude.{◌≡◌, List, [], ◌∷◌, ℕ, ◌<◌, arith, take, drop, length-take, take-append-drop, Kept, accept, first, StopsAs, RefusedAs, pass}
use Rattle.rules.proofs.Prelude.{let_through, passed, cut_stops, stops_first, stops_next, refused_as}
use Rattle.dictionary.specs.Dictionary as dictionary
use Rattle.metadata.proofs.Cut.{stopped}
use Rattle.layer.specs.Object.{end, head_rules, checks, checks_within, layer, verdict, verdict_within}
use Rattle.layer.proofs.Laws.{passes}
use Rattle.object.proofs.Means.{good}
use Rattle.object.proofs.Appended.{lifted_here, end_same, head_kept}

-- THE DICTIONARY CUT: its checks stop, and what comes after does not matter
module _ (d o : List ℕ) (n e m : ℕ) (accepted : dictionary.verdict d ≡ accept (n ∷ e ∷ [])) (cut : m < e) where
  pub dictionary_stopped : StopsAs 11 13 (checks (take m d) o)
  unfolding checks_within
  dictionary_stopped = stops_first (stopped d n e m accepted cut) _

  pub dictionary_cut : RefusedAs 11 13 (verdict (take m d) o)
  unfolding verdict_within
  dictionary_cut = refused_as dictionary_stopped _

-- THE OBJECT CUT

-- a header that passes reaches its trimmed end, and the bytes after do not move that
too_short : (o : List ℕ) (m : ℕ) → m < end o → first (head_rules (take m o)) ≡ pass → ⊥
too_short o m p e =
    let head = passed (head_rules (take m o)) e in
    omega (arith, length-take m o, rw take-append-drop at (end_same (take m o) (drop m o) (omega arith)))

module _ (d o : List ℕ) (n v e m : ℕ) (accepted : verdict d o ≡ accept (n ∷ v ∷ e ∷ [])) (cut : m < e) where
  pub object_stopped : StopsAs 21 23 (checks d (take m o))
  unfolding verdict_within checks_within
  object_stopped =
      let through = let_through (checks d o) (layer o) accepted in
      let e-is : e ≡ end o = cc in
      let all = passes d o through.0 in
      let g = good d o through.0 in
      let stays : Kept lifted_here (head_rules (take m o)) (head_rules o) = rw take-append-drop at (head_kept (take m o) (drop m o) (rw take-append-drop (omega arith))) in
      stops_next all.over (stops_first (cut_stops 21 23 (head_rules (take m o)) (head_rules o) (omega arith) stays all.header (too_short o m (omega arith))) _)

  pub object_cut : RefusedAs 21 23 (verdict d (take m o))
  unfolding verdict_within
  object_cut = refused_as object_stopped _
