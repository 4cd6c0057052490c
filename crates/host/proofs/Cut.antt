-- An accepted dictionary cut anywhere before its trimmed end makes every call that takes it answer 11 or 13 at place 0, with all other words 0;
-- an accepted object cut likewise, 21 or 23, and a tree whose outermost value is one, 50 or 23; and a listing's words stay as they were lent.
-- Assumes nothing.
use Rattle.rules.proofs.Prelude.{◌≡◌, refl, ◌∙◌, Bool, true, false, cond, ◌⊎◌, ⊎_elim, inl, inr, List, [], ◌∷◌, ℕ, ◌<◌, ltb, length, take, Answer, accept}
use Rattle.rules.proofs.Prelude.{refuse, RefusedAs}
use Rattle.run.specs.Meaning.{GoodEnds}
use Rattle.dictionary.specs.Dictionary as dictionary
use Rattle.metadata.proofs.Cut as dictionary-cuts
use Rattle.layer.specs.Object as object
use Rattle.object.proofs.Cut as object-cuts
use Rattle.lookup.proofs.Cut as lookup-cuts
use Rattle.many.proofs.Cut as many-cuts
use Rattle.listing.proofs.Cut as listing-cuts
use Rattle.layout.specs.declared.Widths.{Widths}
use Rattle.encoding.specs.declared.Header.TheVariants as header
use Rattle.nodes.specs.Tree as tree
use Rattle.nodes.specs.Meaning.{head_of}
use Rattle.tree.proofs.Cut as tree-cuts
use Rattle.strip.specs.Shapes.{Shape, words_of, lookup_shape, layer_shape, dictionary_shape, name_shape, refusal_words, strip_bytes}
use Rattle.lichenhusk.specs.Strip.{filled_after}
use Rattle.lichenhusk.specs.Promises.{Left, DictionaryPromise, NamePromise, LayerPromise, LookupPromise, ListPromise, AllPromise, TreePromise}

-- the words of one of two refusals at place 0
abbrev pub LeftAs : (empty short : ℕ) → List ℕ → ℕ → List ℕ → Type 0
LeftAs empty short strip code after =
    Left strip (refusal_words empty 0) code after ⊎ Left strip (refusal_words short 0) code after

of_words : {a b : ℕ} (shape : Shape) (strip : List ℕ) (x : Answer) {code : ℕ} {after : List ℕ} → RefusedAs a b x
    → Left strip (words_of shape x) code after → Left strip (words_of shape (refuse a 0)) code after ⊎ Left strip (words_of shape (refuse b 0)) code after
of_words shape strip x r l = ⊎_elim (λ e. inl (rw e at l)) (λ e. inr (rw e at l)) r

-- words that the listing leaves stay, whatever the strip
as_lent : (w strip : List ℕ) {filled : List ℕ} → filled ≡ w → filled_after strip w filled ≡ w
unfolding filled_after
as_lent w strip e = rw e (either (ltb (length strip) strip_bytes))
  where
    either : (b : Bool) → cond b w w ≡ w
    either true = refl
    either false = refl

module _ (strip : List ℕ) (m : ℕ) {code : ℕ} {after : List ℕ} where
  -- THE DICTIONARY CUT
  module _ (d : List ℕ) (n e : ℕ) (accepted : dictionary.verdict d ≡ accept (n ∷ e ∷ [])) (cut : m < e) where
    pub dictionary_cut : DictionaryPromise (take m d) strip code after → LeftAs 11 13 strip code after
    dictionary_cut = of_words dictionary_shape strip _ (dictionary-cuts.verdict_cut d n e m accepted cut)

    pub name_cut : (i : ℕ) → NamePromise (take m d) i strip code after → LeftAs 11 13 strip code after
    name_cut i = of_words name_shape strip _ (dictionary-cuts.name_cut d n e m accepted cut i)

    pub layer_cut : (o : List ℕ) → LayerPromise (take m d) o strip code after → LeftAs 11 13 strip code after
    layer_cut o = of_words layer_shape strip _ (object-cuts.dictionary_cut d o n e m accepted cut)

    pub lookup_cut : (o q : List ℕ) → LookupPromise (take m d) o q strip code after → LeftAs 11 13 strip code after
    lookup_cut o q = of_words lookup_shape strip _ (lookup-cuts.dictionary_cut d o q m n e accepted cut)

    pub list_cut : (o w left : List ℕ) → ListPromise (take m d) o w strip code after left → LeftAs 11 13 strip code after × (left ≡ w)
    list_cut o w left p =
        let c = listing-cuts.dictionary_cut d o w m n e accepted cut in (of_words layer_shape strip _ c.0 p.strip_left, p.words_left ∙ as_lent w strip c.1)

    pub all_cut : (o names ends w left : List ℕ) → GoodEnds names ends → AllPromise (take m d) o names ends w strip code after left
        → LeftAs 11 13 strip code after × (left ≡ w)
    all_cut o names ends w left good p =
        let c = many-cuts.dictionary_cut names ends w good d o m n e accepted cut in (of_words layer_shape strip _ c.0 p.strip_left, p.words_left ∙ as_lent w strip c.1)

    pub tree_cut : (v marks left : List ℕ) → TreePromise (take m d) v marks strip code after left → LeftAs 11 13 strip code after
    tree_cut v marks left p = ⊎_elim (λ x. inl (rw x at p.strip_left)) (λ x. inr (rw x at p.strip_left)) (tree-cuts.dictionary_cut d v n e m accepted cut)

  -- THE OBJECT CUT
  module _ (d o : List ℕ) (n v e : ℕ) (accepted : object.verdict d o ≡ accept (n ∷ v ∷ e ∷ [])) (cut : m < e) where
    pub layer_object_cut : LayerPromise d (take m o) strip code after → LeftAs 21 23 strip code after
    layer_object_cut = of_words layer_shape strip _ (object-cuts.object_cut d o n v e m accepted cut)

    pub lookup_object_cut : (q : List ℕ) → LookupPromise d (take m o) q strip code after → LeftAs 21 23 strip code after
    lookup_object_cut q = of_words lookup_shape strip _ (lookup-cuts.object_cut d o q m n v e accepted cut)

    pub list_object_cut : (w left : List ℕ) → ListPromise d (take m o) w strip code after left → LeftAs 21 23 strip code after × (left ≡ w)
    list_object_cut w left p =
        let c = listing-cuts.object_cut d o w m n v e accepted cut in (of_words layer_shape strip _ c.0 p.strip_left, p.words_left ∙ as_lent w strip c.1)

    pub all_object_cut : (names ends w left : List ℕ) → GoodEnds names ends → AllPromise d (take m o) names ends w strip code after left
        → LeftAs 21 23 strip code after × (left ≡ w)
    all_object_cut names ends w left good p =
        let c = many-cuts.object_cut names ends w good d o m n v e accepted cut in (of_words layer_shape strip _ c.0 p.strip_left, p.words_left ∙ as_lent w strip c.1)

  -- as a tree: of no bytes it is 50
  pub tree_object_cut : (d v : List ℕ) {w : Widths} → head_of v ≡ header.Object w → (e : ℕ) → tree.verdict d v ≡ accept (0 ∷ e ∷ []) → m < e
      → (marks left : List ℕ) → TreePromise d (take m v) marks strip code after left → LeftAs 50 23 strip code after
  tree_object_cut d v is e accepted cut marks left p =
      ⊎_elim (λ x. inl (rw x at p.strip_left)) (λ x. inr (rw x at p.strip_left)) (tree-cuts.value_cut d v is m e accepted cut)
