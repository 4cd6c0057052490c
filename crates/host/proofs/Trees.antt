-- What a host learns of a tree: the strip's words, exactly when, and the marks; a refusal's number, place and start fit 32 bits, and the start
-- is within the value. Assumes nothing.
use Rattle.rules.proofs.Prelude.{◌≡◌, refl, sym, ap, ◌∙◌, ◌↔◌, List, [], ◌∷◌, ℕ, ◌≤◌, ◌<◌, dec_lt, arith, lt-ltb, le-ltb}
use Rattle.rules.proofs.Prelude.{length, get_or}
use Rattle.width.specs.Limits.{u32_max}
use Rattle.layout.specs.declared.Widths.{Widths}
use Rattle.layout.specs.Layout.{count, child_start, end}
use Rattle.encoding.specs.declared.Header.TheVariants as header
use Rattle.std.specs.Prelude.{Ok}
use Rattle.lengths.specs.Lengths.{own_length, bytes_of}
use Rattle.layer.specs.Object.{id, field_name}
use Rattle.lookup.specs.ByName.{lookup}
use Rattle.nodes.specs.Tree.{Seen, checks_at, verdict, verdict_at}
use Rattle.nodes.specs.Tree.Seen.{fine, wrong}
use Rattle.nodes.specs.Meaning.{head_of, GoodTree, Refusal, Inside}
use Rattle.tree.proofs.Accepts.{accepts, own_length_law}
use Rattle.tree.proofs.Refuses.{refuses}
use Rattle.tree.proofs.Inside.{good_inside, found_inside}
use Rattle.strip.specs.Shapes.{words_of, lookup_shape, tree_shape, strip_bytes}
use Rattle.lichenhusk.proofs.Carries.{tree_fits}
use Rattle.lichenhusk.specs.Strip.{tree_words, filled_after}
use Rattle.lichenhusk.specs.Promises.{LookupPromise, TreePromise}
use Rattle.host.specs.Host.{word, words_in, Tells, TreeSays, Clears}
use Rattle.host.specs.Host.TreeSays.{accepted, refused}
use Rattle.host.proofs.Carries.{Said, carried, tells}
use Rattle.host.proofs.Tells.{lookup_said}
use Rattle.host.proofs.Exactly.{exactly}
pub use Rattle.lichenhusk.proofs.Carries.{Small, refusal_small}

-- WHAT THE WORDS SAY
module _ (d v : List ℕ) where
  pub tree_said : Said (TreeSays d v) (tree_words d v)
  unfolding verdict_at u32_max
  tree_said = go (checks_at 0 d v) refl
    where
      go : (x : Seen) → checks_at 0 d v ≡ x → Said (TreeSays d v) (tree_words d v)
      go fine e =
          let g = (accepts d v (bytes_of (own_length v))).0 (rw e) in
          rw e (rw e at (tree_fits d v), (λ w. omega arith), accepted g.0 g.1)
      go (wrong c p a) e =
          let r = (refuses d v c p a).0 (rw e) in
          rw e (rw e at (tree_fits d v), (refusal_small d v r).0.no_strip, refused r)

  tree_only : (words : List ℕ) → TreeSays d v words → tree_words d v ≡ words
  tree_only _ (accepted g m) = ap (words_of tree_shape) ((accepts d v _).1 (g, m))
  tree_only _ (refused r) = ap (words_of tree_shape) ((refuses d v _ _ _).1 r)

  -- THE THEOREMS
  module _ (marks strip : List ℕ) (code : ℕ) (after marks_after : List ℕ) (promised : TreePromise d v marks strip code after marks_after) where
    pub tree_tells : Tells (TreeSays d v) strip code after
    tree_tells = tells _ tree_shape (verdict d v) strip code after promised.strip_left tree_said

    pub tree_exactly : strip_bytes ≤ length strip → (words : List ℕ) → (words_in after ≡ words) ↔ TreeSays d v words
    tree_exactly enough = exactly strip enough _ tree_shape (verdict d v) tree_said tree_only promised.strip_left

    -- it returned 0: the tree is good, and the strip's end its own length
    pub returned_good : code ≡ 0 → GoodTree d v × (own_length v ≡ Ok (word after 4))
    returned_good z = let s = tree_tells.says (λ f. omega arith) in go s.1 (s.0 ∙ z)
      where
        go : {w : List ℕ} → TreeSays d v w → get_or w 0 0 ≡ 0 → GoodTree d v × (own_length v ≡ Ok (get_or w 4 0))
        go (accepted g m) z = (g, m)
        go (refused r) z = absurd (omega (arith, (refusal_small d v r).0.least))

    -- it returned another, but for 40: that refusal is the first that is due, at the strip's place, of the value at the strip's start
    pub returned_bad : (code ≡ 0 → ⊥) → (code ≡ 40 → ⊥) → Refusal d v code (word after 5) (word after 3)
    returned_bad m n = let s = tree_tells.says n in rw s.0 at (go s.1 (λ z. m (sym s.0 ∙ z)))
      where
        go : {w : List ℕ} → TreeSays d v w → (get_or w 0 0 ≡ 0 → ⊥) → Refusal d v (get_or w 0 0) (get_or w 5 0) (get_or w 3 0)
        go (accepted g m) z = absurd (z refl)
        go (refused r) z = r

    -- where that value starts is a place of the whole
    pub start_inside : (code ≡ 40 → ⊥) → word after 3 ≤ length v
    start_inside n = go (tree_tells.says n).1
      where
        go : {w : List ℕ} → TreeSays d v w → get_or w 3 0 ≤ length v
        go (accepted g m) = omega arith
        go (refused r) = (refusal_small d v r).0.inside

    -- THE MARKS
    pub tree_clears : Clears marks code marks_after
    unfolding filled_after
    tree_clears = go (dec_lt (length strip) strip_bytes)
      where
        go : Dec (length strip < strip_bytes) → Clears marks code marks_after
        go (yes h) = record {
          kept = λ _. promised.words_left ∙ rw (lt-ltb (length strip) strip_bytes h);
          none_left = λ m. absurd (m (tree_tells.no_strip.1 h));
        }
        go (no h) = record {
          kept = λ f. absurd (h (tree_tells.no_strip.0 f));
          none_left = λ _. promised.words_left ∙ rw (le-ltb (length strip) strip_bytes (omega arith));
        }

-- WHAT STANDS IN A TREE that got 0, given to a call by itself, with a strip that is long enough
module _ (d v marks strip : List ℕ) (code : ℕ) (after marks_after : List ℕ) (promised : TreePromise d v marks strip code after marks_after) (z : code ≡ 0) where
  module _ (s : List ℕ) (inside : Inside v s) (room : List ℕ) (enough : strip_bytes ≤ length room) {c : ℕ} {left : List ℕ} where
    -- gets 0 as a tree, too
    pub inside_good : (lent lent_after : List ℕ) → TreePromise d s lent room c left lent_after → c ≡ 0
    inside_good lent lent_after p =
        let g = good_inside d v s (returned_good d v marks strip code after marks_after promised z).0 inside in
        let told = tree_tells d s lent room c left lent_after p in
        let words = (tree_exactly d s lent room c left lent_after p enough _).1 (accepted g (own_length_law d s g)) in
        sym (told.says (λ f. omega (arith, told.no_strip.0 f))).0 ∙ ap (λ l. get_or l 0 0) words

    -- and of an object each field is found by its name, with its number, its id and where its child stands
    pub inside_found : {w : Widths} → head_of s ≡ header.Object w → (k : ℕ) → k < count w s → LookupPromise d s (field_name d s k) room c left
        → words_in left ≡ 0 ∷ k ∷ id s k ∷ child_start w s k ∷ end w s ∷ 0 ∷ []
    inside_found is k below p =
        carried lookup_shape (lookup d s (field_name d s k)) p enough (lookup_said d s (field_name d s k)).0
        ∙ ap (words_of lookup_shape) (found_inside d v s (returned_good d v marks strip code after marks_after promised z).0 inside is k below)
