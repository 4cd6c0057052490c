-- `width::unpack_u32` meets its contract: each return is one step more of `unpack_more`. Assumes nothing.
use mathlib.Core.Path.{◌≡◌}
use mathlib.Core.List.{List}
use Prim.Native.Nat.{◌+◌, ◌*◌, ℕ}
use native.Mathlib.Omega.{arith}
use borrow.Author.Rules.{rules}
use lib.ListN.{drop, get_or}
use Rattle.width.specs.Width.{le}
use Rattle.width.proofs.Laws.{unpack_first, unpack_more}
use Rattle.width.proofs.unpack_u32.Statement.{statement}
use Rattle.width.proofs.unpack_u32.Tie as tie

-- the sum after each byte is the number of the bytes so far
module _ (at : ℕ) (s : List ℕ) {a b : ℕ} (one : a ≡ get_or s at 0) (two : b ≡ get_or s (at + 1) 0) where
  of_two : a + 256 * b ≡ le 2 (drop at s)
  of_two = unpack_more 1 at s (unpack_first at s one) two

  of_three : {d : ℕ} → d ≡ get_or s (at + 2) 0 → a + 256 * b + 65536 * d ≡ le 3 (drop at s)
  of_three three = unpack_more 2 at s of_two three

  of_four : {d e : ℕ} → d ≡ get_or s (at + 2) 0 → e ≡ get_or s (at + 3) 0 → a + 256 * b + 65536 * d + 16777216 * e ≡ le 4 (drop at s)
  of_four three four = unpack_more 3 at s (of_three three) four

pub unpack_u32_spec : {M : Type 1} → statement M
unpack_u32_spec =
    tie.close
    (tie.spec
    (λ c. search rules) (λ c κs. search rules)
    (λ c. let a = c.args in
    record {
      is = rw c.if-width-eq1.true (unpack_first a.at a.s.now c.wide-one.ensures.0);
      fits = omega arith;
      within = rw c.if-width-eq1.true (omega arith);
    })  -- returns
    (λ c. search rules) (λ c. search rules) (λ c κs. search rules) (λ c. search rules) (λ c. search rules)
    (λ c. let c1 = c in
    let a = c1.args in
    record {
      is = rw c.if-width-eq2.true (of_two a.at a.s.now c1.wide-one.ensures.0 c.wide.ensures.0);
      fits = omega arith;
      within = rw c.if-width-eq2.true (omega arith);
    })  -- returns-2
    (λ c. search rules) (λ c. search rules) (λ c κs. search rules) (λ c. search rules) (λ c. search rules)
    (λ c. let c2 = c in
    let c1 = c2 in
    let a = c1.args in
    record {
      is = rw c.if-width-eq3.true (of_three a.at a.s.now c1.wide-one.ensures.0 c2.wide.ensures.0 c.wide-2.ensures.0);
      fits = omega arith;
      within = rw c.if-width-eq3.true (omega arith);
    })  -- returns-3
    (λ c. search rules) (λ c. search rules) (λ c κs. search rules) (λ c. search rules) (λ c. search rules)
    (λ c. let c3 = c in
    let c2 = c3 in
    let c1 = c2 in
    let a = c1.args in
    let w : a.width ≡ 4 = omega arith in
    record {
      is = rw w (of_four a.at a.s.now c1.wide-one.ensures.0 c2.wide.ensures.0 c3.wide-2.ensures.0 c.wide-3.ensures.0);
      fits = omega arith;
      within = rw w (omega arith);
    }))  -- returns-4
