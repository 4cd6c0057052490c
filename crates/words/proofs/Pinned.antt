-- The words of an answer fix the six numbers, and these what their writer leaves: two answers that meet a promise are equal.
-- Assumes nothing.
use Rattle.rules.proofs.Prelude.{◌≡◌, refl, sym, ◌∙◌, List, ℕ, get_or}
use Rattle.metadata.proofs.Pinned.{by_back}
use Rattle.strip.specs.declared.Words.{Words}
use Rattle.strip.specs.Steps.{list_of, Wrote}

abbrev words_back : List ℕ → Words
words_back l = record { code = get_or l 0 0; number = get_or l 1 0; id = get_or l 2 0; start = get_or l 3 0; end = get_or l 4 0; place = get_or l 5 0 }

-- of_verdict, of_entry, of_layer, of_lookup and of_listing
pub words_pinned : (words : List ℕ) (w w' : Words) → list_of w ≡ words → list_of w' ≡ words → w ≡ w'
words_pinned words w w' a b = by_back list_of words_back (λ w. refl) w w' (a ∙ sym b)

pub write_pinned : (w : Words) (strip : List ℕ) (c c' : ℕ) (a a' : List ℕ) → Wrote w strip c a → Wrote w strip c' a' → (c ≡ c') × (a ≡ a')
write_pinned w strip c c' a a' p q = (p.returns ∙ sym q.returns, p.leaves ∙ sym q.leaves)
