-- Bytes added after the dictionary, after a value whose outermost is an object, or after both, each within the limit, change no answer but empty
-- and short: 11 and 13 of the dictionary, 23 of the outermost object. A refusal further in stays, whatever its number. Assumes nothing.
use Rattle.rules.proofs.Prelude.{◌≡◌, refl, sym, ◌∙◌, List, [], ◌∷◌, ◌++◌, ℕ, ◌-◌, ◌≤◌, arith, length, length-append, gives, Found, pass, stop}
use Rattle.dictionary.specs.Limits.{limit}
use Rattle.dictionary.specs.Dictionary as dictionary
use Rattle.metadata.proofs.Appended as dictionary-appended
use Rattle.layout.specs.declared.Widths.{Widths}
use Rattle.layout.specs.Layout.{end}
use Rattle.encoding.specs.declared.Header.TheVariants as header
use Rattle.layer.specs.Object as object
use Rattle.layer.proofs.Laws as object-laws
use Rattle.object.proofs.Appended.{Settled, unlifted, checks_kept}
use Rattle.nodes.specs.Tree.{levels, verdict, verdict_at}
use Rattle.nodes.specs.Meaning.{head_of}
use Rattle.nodes.proofs.Inside.{object_measured}
use Rattle.marked.proofs.Settled.{by_tree, refused_by, by_object, object_head}
use Rattle.tree.proofs.Local.{verdict_local, tree_dictionary}

module _ (d t v u : List ℕ) {w : Widths} (is : head_of v ≡ header.Object w) (dictionary-limit : length (d ++ t) ≤ limit) (value-limit : length (v ++ u) ≤ limit) where
  fits : length v ≤ limit
  fits = omega (arith, length-append v u)

  -- the outermost layer is refused, with a number that stays
  stays : {c p : ℕ} → object.checks d v ≡ stop c p → Settled c → verdict (d ++ t) (v ++ u) ≡ verdict d v
  stays {c} {p} e settled =
      let again : object.checks (d ++ t) (v ++ u) ≡ stop c p = (rw e at (checks_kept d t v u dictionary-limit value-limit)) (unlifted c settled) in
      sym (refused_by 0 (d ++ t) (v ++ u) (by_object (d ++ t) (v ++ u) (object_head v u is) value-limit again))
      ∙ refused_by 0 d v (by_object d v is fits e)

  -- it passes: what comes after has the same bytes, over the same names
  passes : object.checks d v ≡ pass → verdict (d ++ t) (v ++ u) ≡ verdict d v
  unfolding verdict_at
  passes e =
      let over = (object-laws.passes d v e).over in
      let over' : dictionary.checks (d ++ t) ≡ pass = rw over at (dictionary-appended.checks_kept d t dictionary-limit) in
      verdict_local (d ++ t) v u (end w v) (object_measured v is d e) value-limit 0
      ∙ rw (by_tree 0 (d ++ t) v over' fits, tree_dictionary d t over over' (levels - 0) v, by_tree 0 d v over fits)

  -- THE THEOREM: unless it is refused at the outermost value as empty or short
  pub verdict_appended : ((c p : ℕ) → verdict d v ≡ gives c (0 ∷ []) p → Settled c) → verdict (d ++ t) (v ++ u) ≡ verdict d v
  verdict_appended settled = go (object.checks d v) refl
    where
      go : (f : Found) → object.checks d v ≡ f → verdict (d ++ t) (v ++ u) ≡ verdict d v
      go pass e = passes e
      go (stop c p) e = stays e (settled c p (sym (refused_by 0 d v (by_object d v is fits e))))
