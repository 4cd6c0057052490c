-- What a host reads, exactly when: the words of a strip that is long enough are these exactly if what they say is so (specs/Host.antt).
-- Assumes nothing.
use Rattle.rules.proofs.Prelude.{◌≡◌, sym, ap, ◌∙◌, ◌↔◌, List, ℕ, ◌≤◌, arith, length, Answer}
use Rattle.dictionary.specs.Dictionary as dictionary
use Rattle.metadata.proofs.Accepts as dictionary-accepts
use Rattle.metadata.proofs.Refuses as dictionary-refuses
use Rattle.metadata.proofs.Names as dictionary-names
use Rattle.layer.specs.Object as object
use Rattle.object.proofs.Accepts.{accepts}
use Rattle.object.proofs.Refuses.{refuses}
use Rattle.lookup.specs.ByName.{lookup as lookup-of}
use Rattle.lookup.proofs.Finds as lookup
use Rattle.listing.specs.Words.{listed as list_of}
use Rattle.listing.proofs.Lists as listing
use Rattle.strip.specs.Shapes.{Shape, words_of, lookup_shape, layer_shape, dictionary_shape, name_shape, strip_bytes}
use Rattle.lichenhusk.specs.Promises.{Left, DictionaryPromise, NamePromise, LayerPromise, LookupPromise, ListPromise}
use Rattle.host.specs.Host.{words_in, DictionarySays, NameSays, LayerSays, LookupSays, ListSays}
use Rattle.host.specs.Host.DictionarySays.{accepted, refused as dictionary-refused}
use Rattle.host.specs.Host.NameSays.{named, no_entry, refused as name-refused}
use Rattle.host.specs.Host.LayerSays.{accepted as layer-accepted, refused as layer-refused}
use Rattle.host.specs.Host.LookupSays.{found, absent, refused as lookup-refused}
use Rattle.host.specs.Host.ListSays.{listed, no_length, no_room, refused as list_refused}
use Rattle.host.proofs.Carries.{Said, carried}
use Rattle.host.proofs.Tells.{dictionary_said, name_said, layer_said, lookup_said, list_said}

module _ (strip : List ℕ) (enough : strip_bytes ≤ length strip) {code : ℕ} {after : List ℕ} where
  -- where only the answer's words say what is so
  pub exactly : (Says : List ℕ → Type 0) (shape : Shape) (x : Answer) → Said Says (words_of shape x) → ((words : List ℕ) → Says words → words_of shape x ≡ words)
      → Left strip (words_of shape x) code after → (words : List ℕ) → (words_in after ≡ words) ↔ Says words
  exactly Says shape x said only left words =
      let read = carried shape x left enough said.0 in
      (λ e. rw (sym read ∙ e) at said.2, λ s. read ∙ only words s)

  -- THE THEOREMS
  module _ (d : List ℕ) where
    pub dictionary_exactly : DictionaryPromise d strip code after → (words : List ℕ) → (words_in after ≡ words) ↔ DictionarySays d words
    dictionary_exactly = exactly _ dictionary_shape (dictionary.verdict d) (dictionary_said d) only
      where
        only : (words : List ℕ) → DictionarySays d words → words_of dictionary_shape (dictionary.verdict d) ≡ words
        only _ (accepted g) = ap (words_of dictionary_shape) ((dictionary-accepts.accepts d _ _).1 g)
        only _ (dictionary-refused b t r) = ap (words_of dictionary_shape) ((dictionary-refuses.refuses d _ _).1 r)

    pub name_exactly : (i : ℕ) → NamePromise d i strip code after → (words : List ℕ) → (words_in after ≡ words) ↔ NameSays d i words
    name_exactly i = exactly _ name_shape (dictionary.name_at d i) (name_said d i) only
      where
        only : (words : List ℕ) → NameSays d i words → words_of name_shape (dictionary.name_at d i) ≡ words
        only _ (named n) = ap (words_of name_shape) ((dictionary-names.named d i _ _).1 n)
        only _ (no_entry n) = ap (words_of name_shape) ((dictionary-names.no_entry d i).1 n)
        only _ (name-refused b t r) = ap (words_of name_shape) ((dictionary-names.refused_is d i _ _ (λ e. omega arith)).1 r)

    module _ (o : List ℕ) where
      pub layer_exactly : LayerPromise d o strip code after → (words : List ℕ) → (words_in after ≡ words) ↔ LayerSays d o words
      layer_exactly = exactly _ layer_shape (object.verdict d o) (layer_said d o) only
        where
          only : (words : List ℕ) → LayerSays d o words → words_of layer_shape (object.verdict d o) ≡ words
          only _ (layer-accepted g) = ap (words_of layer_shape) ((accepts d o _ _ _).1 g)
          only _ (layer-refused b t r) = ap (words_of layer_shape) ((refuses d o _ _).1 r)

      pub lookup_exactly : (q : List ℕ) → LookupPromise d o q strip code after → (words : List ℕ) → (words_in after ≡ words) ↔ LookupSays d o q words
      lookup_exactly q = exactly _ lookup_shape (lookup-of d o q) (lookup_said d o q) only
        where
          only : (words : List ℕ) → LookupSays d o q words → words_of lookup_shape (lookup-of d o q) ≡ words
          only _ (found f) = ap (words_of lookup_shape) ((lookup.found d o q _ _ _ _).1 f)
          only _ (absent a) = ap (words_of lookup_shape) ((lookup.absent_is d o q).1 a)
          only _ (lookup-refused b t r) = ap (words_of lookup_shape) ((lookup.refused_is d o q _ _ (λ e. omega arith)).1 r)

      pub list_exactly : (w words_after : List ℕ) → ListPromise d o w strip code after words_after → (words : List ℕ) → (words_in after ≡ words) ↔ ListSays d o w words
      list_exactly w words_after promised = exactly _ layer_shape (list_of d o w) (list_said d o w) only promised.strip_left
        where
          only : (words : List ℕ) → ListSays d o w words → words_of layer_shape (list_of d o w) ≡ words
          only _ (listed l) = ap (words_of layer_shape) ((listing.listed_is d o w _ _ _).1 l)
          only _ (no_length n) = ap (words_of layer_shape) ((listing.no_length_is d o w _).1 n)
          only _ (no_room n) = ap (words_of layer_shape) ((listing.no_room_is d o w).1 n)
          only _ (list_refused b t r) = ap (words_of layer_shape) ((listing.refused_is d o w _ _ (λ e. omega arith) (λ e. omega arith)).1 r)
