-- `spots::settle` meets its contract: the field at the spot, or one before it. Assumes nothing.
use Rattle.rules.proofs.Prelude.{◌≡◌, sym, ◌∙◌, List, ℕ, ◌<◌, arith, rules}
use Rattle.names.proofs.Search.{seek_none, is_same}
use Rattle.keys.specs.Steps.{KeyOf}
use Rattle.keys.proofs.Keys.{key_before, key_alike}
use Rattle.dictionary.specs.declared.Header.{Header}
use Rattle.width.specs.Limits.{u32_max}
use Rattle.layer.specs.declared.Layer.{Layer}
use Rattle.layer.specs.Object.{count, field_name}
use Rattle.layer.proofs.Laws.{count_below, entry_of}
use Rattle.object.specs.Steps.{Opened}
use Rattle.spots.specs.declared.Spot.{Spot}
use Rattle.spots.specs.Steps.{SpotOf}
use Rattle.spots.proofs.FromAbove.{not_there, is_there}
use Rattle.spots.proofs.settle.Statement.{statement}
use Rattle.spots.proofs.settle.Tie as tie

-- the spot is a field
inside : {d o q : List ℕ} {h : Header} {l : Layer} {spot : Spot} → Opened d h o l × SpotOf d o q spot → (l.count ≡ 0 → ⊥) → spot.at < count o
inside p n = p.1.inside (omega (arith, p.0.layered.count_is))

-- and the key is that of its name
key_is : (c : tie.After-key-key) → let s = c in
    KeyOf (field_name s.args.dict.now s.args.object.now s.args.spot.at) c.key-key.result
unfolding field_name
key_is c = rw (c.span_of-there.ensures.name_is, c.id_at-id.ensures.0) at c.key-key.ensures

pub settle_spec : {M : Type 1} → statement M
unfolding u32_max field_name
settle_spec =
    tie.close
    (tie.spec
    (λ c. let s = c in sym (seek_none _ _ _ (λ k p. absurd (omega (arith, s.requires.0.layered.count_is)))))  -- returns
    (λ c κs. let s = c in (s.requires.0.layered, inside s.requires c.if-l-eq0.false))  -- id-at-requires
    (λ c κs. let s = c in
    (s.requires.0.over, omega (arith, entry_of s.args.dict.now s.args.object.now s.requires.0.passes _ (inside s.requires c.if-l-eq0.false))))  -- span-of-requires
    (λ c κs. search rules)  -- key-requires
    (λ c. let s = c in
    sym (not_there _ _ _ s.requires.0.passes _ (inside s.requires c.if-l-eq0.false) s.requires.1.above
    (key_before (key_is c.before.before) s.requires.1.key_is (omega arith))))  -- returns-2
    (λ c. search rules) (λ c. search rules) (λ c. search rules)
    (λ c κs. key_alike c.key-key.ensures
    c.requires.1.key_is (omega arith))  -- same-rest-requires
    (λ c. let s = c in
    let span = c in
    let name_is = is_same _ _ (sym c.same_rest.ensures ∙ c.if-same_rest.true) in
    let field_is = rw (span.span_of-there.ensures.name_is, span.id_at-id.ensures.0) at name_is in
    sym (is_there _ _ _ s.requires.0.passes _ (inside s.requires span.if-l-eq0.false) s.requires.1.above field_is))  -- returns-3
    (λ c. let s = c in
    let at = inside s.requires c.if-l-eq0.false in
    omega (arith, at, s.requires.0.layered.passes, count_below s.args.object.now))  -- add-find
    (λ c κs. let s = c in
    (s.requires.0, omega (arith, inside s.requires c.if-l-eq0.false), s.requires.1.above))  -- find-requires
    (λ c. search rules))  -- returns-4
