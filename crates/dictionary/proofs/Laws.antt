-- Where the dictionary's numbers stand, and by which table its checks are settled. Assumes nothing.
use Rattle.std.specs.Prelude.{Result, Ok, Err, ⊤}
use Rattle.rules.proofs.Prelude.{◌≡◌, refl, sym, ◌∙◌, Bool, true, false, cond, List, ℕ, ◌+◌, ◌-◌, ◌*◌, ◌≤◌, mul-le-mul_left, arith, ltb, length, Found, first, each, Passed, Fails}
use Rattle.rules.proofs.Prelude.{◌or_else◌, pass, stop, first_pass, passed, stops, goes, unless, false_true, ◌&◌}
use Rattle.part.specs.Part.{part}
use Rattle.part.proofs.Laws.{part_length, part_part}
use Rattle.chars.specs.Rfc3629.{Text, text_up_to}
use Rattle.chars.proofs.Laws.{text_all}
use Rattle.chars.proofs.Bounds.{text_first}
use Rattle.utf8.specs.declared.Flaw.{Flaw}
use Rattle.utf8.specs.declared.Flaw.TheVariants.{Cut, Broken}
use Rattle.utf8.specs.Utf8.{is_cut, verdict}
use Rattle.dictionary.specs.Dictionary.{head_rules, region_rules, entry_rows, entry_rules, checks, checks_within, sorted, width, count, offset, start, end, region, name, cuts, outside}
use Rattle.dictionary.specs.Steps.{stop_of, of_text}

-- PLACES

module _ (d : List ℕ) where
  -- in their order
  pub count_before : 1 + width d ≤ start d
  unfolding start
  count_before = omega arith

  pub start_before : start d ≤ end d
  unfolding end
  start_before = omega arith

  pub end_is : end d ≡ start d + offset d (count d)
  unfolding end
  end_is = refl

  -- the header holds offset k
  pub offset_inside : (w k : ℕ) → w ≡ width d → k ≤ count d → 1 + w + w * k + w ≤ start d
  unfolding start
  offset_inside w k e h = rw e (omega (arith, mul-le-mul_left (width d) h))

  -- the part of the bytes that is the region
  pub region_is : (v e : ℕ) → v ≡ start d → e ≡ end d → part d v e ≡ region d
  unfolding region
  region_is v e p q = rw (p, q)

  pub region_length : end d ≤ length d → length (region d) ≡ offset d (count d)
  unfolding region
  region_length h = part_length d (start d) (end d) start_before h ∙ omega (arith, end_is)

  -- a name in the region is a part of the dictionary
  pub name_part : (k : ℕ) → end d ≤ length d → offset d (k + 1) ≤ length (region d) → part d (start d + offset d k) (start d + offset d (k + 1)) ≡ name d k
  unfolding name region
  name_part k h i =
      sym (part_part d (start d) (end d) (offset d k) (offset d (k + 1)) (omega (arith, end_is, region_length h)))

-- a text starts with no byte that continues a character
pub uncut_zero : (r : List ℕ) → Text r → Fails (cuts r 0)
uncut_zero r t = unless (cuts r 0) (λ h. text_first t h.0 h.1)

-- the region's table says what the text's verdict is
abbrev pub found_in : Result ⊤ Flaw → Found
found_in (Ok _) = pass
found_in (Err flaw) = stop_of (of_text flaw)

pub by_text : (r : List ℕ) → first (region_rules r) ≡ found_in (verdict r)
unfolding first verdict
by_text r = go (is_cut r) (ltb (text_up_to r) (length r))
  where
    go : (a b : Bool) → cond a (stop 19 (text_up_to r)) (cond b (stop 16 (text_up_to r)) pass) ≡ found_in (cond a (Err (Cut (text_up_to r))) (cond b (Err (Broken (text_up_to r))) (Ok tt)))
    go true b = refl
    go false true = refl
    go false false = refl

-- a region that passes is one
pub text_passed : (r : List ℕ) → first (region_rules r) ≡ pass → Text r
text_passed r e = text_all r (passed (region_rules r) e).1.0

-- THE CHECKS, BY WHERE THEY ARE SETTLED

module _ (d : List ℕ) where
  -- the rows of entry k, from the numbers
  pub entry_is : (k : ℕ) {b : Bool} {r : List ℕ} {p a e : ℕ} → b ≡ sorted d → r ≡ region d → p ≡ offset d (k - 1) → a ≡ offset d k → e ≡ offset d (k + 1)
      → first (entry_rules d k) ≡ first (entry_rows b r p a e k)
  unfolding entry_rules
  entry_is k e1 e2 e3 e4 e5 = rw (e1, e2, e3, e4, e5)

  -- an entry whose offsets are in range passes, where the names need not be in order
  pub entry_passes : (k : ℕ) {b : Bool} {r : List ℕ} {a e : ℕ} → b ≡ sorted d → b ≡ false → r ≡ region d → a ≡ offset d k → e ≡ offset d (k + 1)
      → Fails (cuts r a) → Fails (outside r a e) → first (entry_rules d k) ≡ pass
  entry_passes k e1 unsorted e2 e3 e4 whole range =
      entry_is k e1 e2 refl e3 e4 ∙ first_pass _ ((whole & range) & (λ s. false_true (sym unsorted ∙ s)) & tt)

  pub by_head : {c p : ℕ} → first (head_rules d) ≡ stop c p → checks d ≡ stop c p
  unfolding checks_within
  by_head e = stops _ e

  pub by_region : Passed (head_rules d) → {f : Found} → first (region_rules (region d)) ≡ f → checks d ≡ (f or_else first (each (entry_rules d) (count d)))
  unfolding checks_within
  by_region h e = goes _ (first_pass (head_rules d) h) ∙ rw e
