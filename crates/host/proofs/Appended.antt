-- Bytes added to the dictionary, to the object or to both, within the limit: what a call returned and left meets its promise for the more
-- bytes too, so that it returns and leaves the same (Pinned), unless the code was "empty" or "short". Assumes nothing.
use Rattle.rules.proofs.Prelude.{◌≡◌, refl, sym, ap, ◌∙◌, List, [], ◌∷◌, ◌++◌, ℕ, ◌≤◌, ◌<◌, dec_lt, arith, lt-ltb, le-ltb, length, get_or, Answer, code_of, gives}
use Rattle.run.specs.Meaning.{GoodEnds}
use Rattle.dictionary.specs.Limits.{limit}
use Rattle.metadata.proofs.Appended.{appended, name_appended}
use Rattle.object.proofs.Appended.{Settled, verdict_appended}
use Rattle.lookup.proofs.Appended.{lookup_appended}
use Rattle.many.specs.Many.{lookups}
use Rattle.many.proofs.Appended.{lookups_appended, rows_appended, run_appended, rows_run_appended}
use Rattle.listing.specs.Words.{listed}
use Rattle.listing.proofs.Appended.{listed_appended, words_appended}
use Rattle.layout.specs.declared.Widths.{Widths}
use Rattle.encoding.specs.declared.Header.TheVariants as header
use Rattle.nodes.specs.Tree as tree
use Rattle.nodes.specs.Meaning.{head_of}
use Rattle.tree.proofs.Appended as tree_appended
use Rattle.steps.specs.Path.{Step}
use Rattle.steps.specs.Path.Step.{named}
use Rattle.steps.specs.Path.Parsed.{steps}
use Rattle.parsing.specs.Parsing.{answer}
use Rattle.path.proofs.Appended.{path_appended}
use Rattle.strip.specs.Shapes.{Shape, words_of, lookup_shape, layer_shape, dictionary_shape, name_shape, tree_shape, strip_bytes}
use Rattle.lichenhusk.specs.Strip.{returned, strip_after, filled_after}
use Rattle.lichenhusk.specs.Promises.{Left, Filled, DictionaryPromise, NamePromise, LayerPromise, LookupPromise, ListPromise, AllPromise, TreePromise, PathPromise}
use Rattle.host.specs.Host.{word}
use Rattle.host.proofs.Carries.{first_is, carried}
use Rattle.host.proofs.Trees.{tree_said}

-- an answer that its code keeps is left as it was; with 40 nothing is looked at
module _ (shape : Shape) (strip : List ℕ) (x y : Answer) {code : ℕ} {after : List ℕ} where
  pub keeps : (code ≡ code_of x → y ≡ x) → Left strip (words_of shape x) code after → Left strip (words_of shape y) code after
  unfolding returned strip_after
  keeps same l = go (dec_lt (length strip) strip_bytes)
    where
      go : Dec (length strip < strip_bytes) → Left strip (words_of shape y) code after
      go (yes h) = let t = lt-ltb (length strip) strip_bytes h in record { returns = rw t (rw t at l.returns); leaves = rw t (rw t at l.leaves) }
      go (no h) = let t = le-ltb (length strip) strip_bytes (omega arith) in rw (same ((rw t at l.returns) ∙ first_is shape x)) l

  -- with the words that a call fills
  keeps_filled : {lent f g lent_after : List ℕ} → (code ≡ code_of x → (y ≡ x) × (g ≡ f)) → Filled strip (words_of shape x) lent f code after lent_after
      → Filled strip (words_of shape y) lent g code after lent_after
  unfolding filled_after returned
  keeps_filled {lent} {f} {g} same p =
      record { strip_left = keeps (λ c. (same c).0) p.strip_left; words_left = p.words_left ∙ go (dec_lt (length strip) strip_bytes) }
    where
      go : Dec (length strip < strip_bytes) → filled_after strip lent f ≡ filled_after strip lent g
      go (yes h) = rw (lt-ltb (length strip) strip_bytes h)
      go (no h) = let long = le-ltb (length strip) strip_bytes (omega arith) in rw (long, (same ((rw long at p.strip_left.returns) ∙ first_is shape x)).1)

-- THE THEOREMS, by the code that was returned
module _ (d t strip : List ℕ) (fits : length (d ++ t) ≤ limit) {code : ℕ} {after : List ℕ} where
  pub dictionary_kept : (code ≡ 11 → ⊥) → (code ≡ 13 → ⊥) → DictionaryPromise d strip code after → DictionaryPromise (d ++ t) strip code after
  dictionary_kept m n = keeps dictionary_shape strip _ _ (λ c. appended d t fits (λ w. m (c ∙ w)) (λ w. n (c ∙ w)))

  pub name_kept : (i : ℕ) → (code ≡ 11 → ⊥) → (code ≡ 13 → ⊥) → NamePromise d i strip code after → NamePromise (d ++ t) i strip code after
  name_kept i m n = keeps name_shape strip _ _ (λ c. name_appended d t i fits (λ w. m (c ∙ w)) (λ w. n (c ∙ w)))

  module _ (o u : List ℕ) (object-fits : length (o ++ u) ≤ limit) (settled : Settled code) where
    pub layer_kept : LayerPromise d o strip code after → LayerPromise (d ++ t) (o ++ u) strip code after
    layer_kept = keeps layer_shape strip _ _ (λ c. verdict_appended d t o u fits object-fits (rw c at settled))

    pub lookup_kept : (q : List ℕ) → LookupPromise d o q strip code after → LookupPromise (d ++ t) (o ++ u) q strip code after
    lookup_kept q = keeps lookup_shape strip _ _ (λ c. lookup_appended d t o u q fits object-fits (rw c at settled))

    pub list_kept : (w words_after : List ℕ) → ListPromise d o w strip code after words_after → ListPromise (d ++ t) (o ++ u) w strip code after words_after
    list_kept w words_after =
        keeps_filled layer_shape strip _ _
        (λ c. let kept : Settled (code_of (listed d o w)) = rw c at settled in (listed_appended d t o u w fits object-fits kept, words_appended d t o u w fits object-fits kept))

    pub all_kept : (names ends w words_after : List ℕ) → AllPromise d o names ends w strip code after words_after
        → AllPromise (d ++ t) (o ++ u) names ends w strip code after words_after
    all_kept names ends w words_after =
        keeps_filled layer_shape strip _ _
        (λ c. let kept : Settled (code_of (lookups d o names ends w)) = rw c at settled in (
          lookups_appended d t o u names ends w fits object-fits kept,
          rows_appended d t o u names ends w fits object-fits kept,
        ))

-- bytes after the last end: where the ends are good, they are ignored
pub run_kept : (d o names more ends w strip : List ℕ) → GoodEnds names ends → (code : ℕ) (after words_after : List ℕ)
    → AllPromise d o names ends w strip code after words_after → AllPromise d o (names ++ more) ends w strip code after words_after
run_kept d o names more ends w strip good code after words_after =
    keeps_filled layer_shape strip _ _ (λ c. (run_appended d o names more ends w good, rows_run_appended d o names more ends w good))

-- A TREE whose outermost value is an object: unless the dictionary or that object is refused as empty or short, which have start 0. A refusal of a
-- value inside it stays, whatever its number
module _ (d t v u marks strip : List ℕ) {w : Widths} (is : head_of v ≡ header.Object w) (fits : length (d ++ t) ≤ limit) (value-fits : length (v ++ u) ≤ limit) where
  pub tree_kept : {code : ℕ} {after left : List ℕ} → (word after 3 ≡ 0 → Settled code) → TreePromise d v marks strip code after left
      → TreePromise (d ++ t) (v ++ u) marks strip code after left
  unfolding returned
  tree_kept {code} {after} settled p =
      keeps_filled tree_shape strip _ _ (λ c. (tree_appended.verdict_appended d t v u is fits value-fits (λ n q e. go n q e (c ∙ ap code_of e) (dec_lt (length strip) strip_bytes)), refl)) p
    where
      go : (n q : ℕ) → tree.verdict d v ≡ gives n (0 ∷ []) q → code ≡ n → Dec (length strip < strip_bytes) → Settled n
      go n q e c (yes h) =
          let forty : code ≡ 40 = p.strip_left.returns ∙ rw (lt-ltb (length strip) strip_bytes h) in
          absurd ((tree_said d v).1 (first_is tree_shape (tree.verdict d v) ∙ ap code_of e ∙ sym c ∙ forty))
      go n q e c (no h) =
          let words = carried tree_shape (tree.verdict d v) p.strip_left (omega arith) (tree_said d v).0 in
          let start : word after 3 ≡ 0 = ap (λ l. get_or l 3 0) words ∙ rw e in rw c at (settled start)

-- A PATH whose first step is a name, into the outermost object
module _ (d t v u path names words strip q : List ℕ) (xs : List Step) (is : answer path names words ≡ steps (named q ∷ xs))
    (fits : length (d ++ t) ≤ limit) (value-fits : length (v ++ u) ≤ limit) where
  pub path_kept : {code : ℕ} {after names' words' : List ℕ} → Settled code → PathPromise d v path names words strip code after names' words'
      → PathPromise (d ++ t) (v ++ u) path names words strip code after names' words'
  path_kept settled p =
      record {
        strip_left = keeps lookup_shape strip _ _ (λ c. path_appended d t v u fits value-fits path names words q xs is (rw c at settled)) p.strip_left;
        names_left = p.names_left;
        words_left = p.words_left;
      }
