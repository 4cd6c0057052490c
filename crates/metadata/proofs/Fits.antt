-- Every number of the dictionary's answers fits 32 bits: what an accepted one gives, and each refusal's number and place. Assumes nothing.
use Rattle.rules.proofs.Prelude.{◌≡◌, List, ℕ, ◌+◌, ◌≤◌, ◌<◌, mul-le-mul_right, arith, Passed, stop, Meant, meant_then, meant_stop, rows_mean, each_means}
use Rattle.chars.proofs.Laws.{text_le}
use Rattle.width.specs.Limits.{u32_max}
use Rattle.dictionary.specs.Dictionary.{width, count, offset, start, end, region, head_rules, region_rules, entry_rules, checks, checks_within}
use Rattle.dictionary.specs.Meaning.{Dictionary}
use Rattle.dictionary.proofs.Laws.{start_before, end_is, region_length}

-- a number and a place of 32 bits
pub record Small (c p : ℕ) : Type 0 where
  pub number : c < 4294967296
  pub place : p < 4294967296

-- there are fewer entries than bytes
count_below : (d : List ℕ) → count d < start d
unfolding start width
count_below d = omega (arith, mul-le-mul_right {m = 1} {n = width d} (count d + 1) (omega arith))

-- a refusal's number is 10 to 19, so that none is taken for another answer's
abbrev pub Ours : ℕ → ℕ → Type 0
Ours c p = (10 ≤ c) × (c < 20) × (p < 4294967296)

pub checks_fit : (d : List ℕ) → Meant ((k : ℕ) → k < count d → Passed (entry_rules d k)) Ours (checks d)
unfolding checks_within entry_rules u32_max
checks_fit d =
    meant_then _ (rows_mean Ours (head_rules d) (omega arith)) λ head.
    meant_then _ (rows_mean Ours (region_rules (region d)) (omega (arith, end_is d, region_length d (omega arith), text_le (region d)))) λ _.
    each_means Ours (entry_rules d) (count d) (λ k q. omega (arith, count_below d))

pub checks_code : (d : List ℕ) {c p : ℕ} → checks d ≡ stop c p → Ours c p
checks_code d e = meant_stop (checks_fit d) e

-- the count, the end, and where each name stands
pub accepted_small : (d : List ℕ) → Dictionary d (count d) (end d) → Small (count d) (end d)
unfolding u32_max
accepted_small d g = omega (arith, count_below d, start_before d)

pub name_small : (d : List ℕ) (i : ℕ) → Dictionary d (count d) (end d) → i < count d → Small (start d + offset d i) (start d + offset d (i + 1))
unfolding u32_max
name_small d i g p =
    let r = (g.entries i p).in_range in
    omega (arith, end_is d, region_length d g.texted.headed.end_inside)
