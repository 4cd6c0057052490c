-- Each call's promise fixes its answer: two codes, strips, words and rooms that meet it are equal. Assumes nothing.
use Rattle.rules.proofs.Prelude.{◌≡◌, sym, ◌∙◌, List, ℕ}
use Rattle.lichenhusk.specs.Promises.{Left, Filled, PathPromise, FeedPromise, EmptyPromise}

-- lookup, dictionary, name, layer, value, and the first state of a dictionary in pieces
pub strip_pinned : (strip words : List ℕ) (c c' : ℕ) (a a' : List ℕ) → Left strip words c a → Left strip words c' a' → (c ≡ c') × (a ≡ a')
strip_pinned strip words c c' a a' l m = (l.returns ∙ sym m.returns, l.leaves ∙ sym m.leaves)

-- the listing and many names, with the words that they fill, a tree, with its marks, and what is written, with its room
pub filled_pinned : (strip words lent filled : List ℕ) (c c' : ℕ) (a a' w w' : List ℕ) → Filled strip words lent filled c a w → Filled strip words lent filled c' a' w'
    → (c ≡ c') × (a ≡ a') × (w ≡ w')
filled_pinned strip words lent filled c c' a a' w w' p q =
    let s = strip_pinned strip _ c c' a a' p.strip_left q.strip_left in (s.0, s.1, p.words_left ∙ sym q.words_left)

-- a path, with both its buffers
pub path_pinned : (d v path names words strip : List ℕ) (c c' : ℕ) (a a' n n' w w' : List ℕ) → PathPromise d v path names words strip c a n w
    → PathPromise d v path names words strip c' a' n' w' → (c ≡ c') × (a ≡ a') × (n ≡ n') × (w ≡ w')
path_pinned d v path names words strip c c' a a' n n' w w' p q =
    let s = strip_pinned strip _ c c' a a' p.strip_left q.strip_left in
    (s.0, s.1, p.names_left ∙ sym q.names_left, p.words_left ∙ sym q.words_left)

-- a piece, with its store
pub feed_pinned : (store piece strip : List ℕ) (c c' : ℕ) (a a' s s' : List ℕ) → FeedPromise store piece strip c a s → FeedPromise store piece strip c' a' s'
    → (c ≡ c') × (a ≡ a') × (s ≡ s')
feed_pinned store piece strip c c' a a' s s' p q = (p.returns ∙ sym q.returns, p.leaves ∙ sym q.leaves, p.stores ∙ sym q.stores)

-- the empty dictionary
pub empty_pinned : (room : List ℕ) (c c' : ℕ) (a a' : List ℕ) → EmptyPromise room c a → EmptyPromise room c' a' → (c ≡ c') × (a ≡ a')
empty_pinned room c c' a a' p q = (p.returns ∙ sym q.returns, p.leaves ∙ sym q.leaves)
