-- Every number of the layer's answers fits 32 bits: values, and each refusal's number and place. Assumes nothing.
use Rattle.rules.proofs.Prelude.{◌≡◌, List, ℕ, ◌+◌, ◌≤◌, ◌<◌, arith, stop, meant_then, meant_map, meant_stop, rows_mean, each_means}
use Rattle.width.specs.Limits.{u32_max}
use Rattle.metadata.proofs.Fits.{Small, checks_fit}
use Rattle.layer.specs.Object.{count, offset, start, end, head_rules, name_rules, offset_rules, checks, checks_within}
use Rattle.layer.specs.Meaning.{Layer}
use Rattle.layer.proofs.Laws.{count_below, start_before, end_is}

-- the layer's numbers are the dictionary's, 10 to 19, and 20 to 28, so that none is taken for another answer's
abbrev Ours : ℕ → ℕ → Type 0
Ours c p = (10 ≤ c) × (c < 29) × (p < 4294967296)

pub checks_code : (d o : List ℕ) {c p : ℕ} → checks d o ≡ stop c p → (10 ≤ c) × (c < 29) × (p < 4294967296)
unfolding checks_within name_rules offset_rules u32_max
checks_code d o e =
    meant_stop
    (meant_then _ (meant_map (λ a. a) (λ c p s. omega arith) (checks_fit d)) λ _.
    meant_then _ (rows_mean Ours (head_rules o) (omega arith)) λ head.
    meant_then _ (each_means Ours (name_rules d o) (count o) (λ k q. omega (arith, count_below o))) λ _.
    each_means Ours (offset_rules o) (count o) (λ k q. omega (arith, count_below o))) e

-- the layer's numbers
pub layer_small : (d o : List ℕ) {n v e : ℕ} → Layer d o n v e → (n < 4294967296) × Small v e
unfolding u32_max
layer_small d o g = omega (arith, count_below o, start_before o)

-- where field k's child starts
pub child_small : (d o : List ℕ) (k : ℕ) → Layer d o (count o) (start o) (end o) → k < count o → start o + offset o k < 4294967296
unfolding u32_max
child_small d o k g p = omega (arith, g.offsets k p, end_is o)
