-- A list is what `verdict` says of it: a text, cut, or broken. Assumes nothing.
use mathlib.Core.Path.{◌≡◌, refl, sym, ◌∙◌}
use mathlib.Core.Bool.{Bool, true, false, cond}
use mathlib.Core.List.{List}
use mathlib.Core.Logic.{◌↔◌}
use Prim.Native.Nat.{ℕ, ◌<◌}
use native.Mathlib.Omega.{arith}
use borrow.Author.Tests.{lt-ltb, le-ltb, ltb-true, ltb-false}
use lib.Dec.{ltb}
use lib.ListN.{length, drop, length-drop}
use Rattle.std.specs.Prelude.{Result, Ok, Err, ⊤}
use Rattle.rules.proofs.Laws.{false_true}
use Rattle.chars.specs.Rfc3629.{LongestText, text_up_to, begins}
use Rattle.chars.proofs.Laws.{text_sound, text_longest, text_whole, text_all, longest_is}
use Rattle.chars.proofs.Begins.{begins_is, begins_not, begins_end}
use Rattle.utf8.specs.declared.Flaw.{Flaw}
use Rattle.utf8.specs.declared.Flaw.TheVariants.{Cut, Broken}
use Rattle.utf8.specs.Utf8.{Judged, is_cut, verdict}
use Rattle.utf8.specs.Utf8.Judged.{whole, cut, broken}
use Rattle.utf8.specs.Promises.{CheckPromise}

-- THE VERDICT, by what is left after the longest text.
module _ (s : List ℕ) (p : ℕ) (measured : text_up_to s ≡ p) where
  pub left_cut : begins (drop p s) ≡ true → verdict s ≡ Err (Cut p)
  unfolding verdict is_cut
  left_cut b = rw (measured, b)

  pub left_broken : begins (drop p s) ≡ false → p < length s → verdict s ≡ Err (Broken p)
  unfolding verdict is_cut
  left_broken b l = rw (measured, b, lt-ltb p (length s) l)

  pub left_none : p ≡ length s → verdict s ≡ (Ok tt)
  unfolding verdict is_cut
  left_none e = rw (measured, begins_end p s (omega arith), le-ltb p (length s) (omega arith))

is_judged : (s : List ℕ) (r : Result ⊤ Flaw) → Judged s r → verdict s ≡ r
is_judged s (Ok tt) (whole t) = left_none s (length s) (text_whole s t) refl
is_judged s (Err (Cut p)) (cut l b) = left_cut s p (longest_is s p l) ((begins_is (drop p s)).1 b)
is_judged s (Err (Broken p)) (broken l n) = left_broken s p (longest_is s p l) (begins_not (drop p s) n) l.short

pub judged : (s : List ℕ) → Judged s (verdict s)
unfolding verdict is_cut
judged s = go (begins (drop (text_up_to s) s)) refl (ltb (text_up_to s) (length s)) refl
  where
    longest : text_up_to s < length s → LongestText s (text_up_to s)
    longest h = record { short = h; is_text = text_sound s; longest = text_longest s }

    go : (b : Bool) → begins (drop (text_up_to s) s) ≡ b → (c : Bool) → ltb (text_up_to s) (length s) ≡ c
        → Judged s (cond b (Err (Cut (text_up_to s))) (cond c (Err (Broken (text_up_to s))) (Ok tt)))
    go true e c f =
        let b = (begins_is (drop (text_up_to s) s)).0 e in
        cut (longest (omega (arith, b.some, length-drop (text_up_to s) s))) b
    go false e true f = broken (longest (ltb-true _ _ f)) (λ b. false_true (sym e ∙ (begins_is _).1 b))
    go false e false f = whole (text_all s (ltb-false _ _ f))

-- THE THEOREM: what `check` answers is what the list is
pub judges : (s : List ℕ) (r : Result ⊤ Flaw) → CheckPromise s r ↔ Judged s r
judges s r = (λ e. rw e (judged s), λ j. sym (is_judged s r j))
