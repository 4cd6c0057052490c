-- None of three wrong writers meets the promise, by the worked cases: one that keeps the pairs' order, one that swaps two children, one that
-- refuses always. Assumes nothing.
use Prim.Native.Nat.{◌%◌}
use Rattle.std.specs.Prelude.{Result}
use Rattle.rules.proofs.Prelude.{◌≡◌, sym, ap, ◌∙◌, List, [], ◌∷◌, ◌++◌, ℕ, arith, get_or, accept, code_of}
use Rattle.write_object.specs.declared.Built.{Built}
use Rattle.write_object.specs.declared.Refusal.{Refusal}
use Rattle.write_object.specs.Writing.{room_after}
use Rattle.write_object.specs.Answers.{built_numbers}
use Rattle.write_object.specs.Promises.{ObjectPromise}
use Rattle.write_object.specs.Worked.{Told, D, lent, roll_flow, object, room}
use Rattle.write_object.proofs.Worked.{worked}

-- row k of the table of worked cases, on both sides
abbrev row : ℕ → List Told → Told
row k table = get_or table k (record { answer = accept []; left = [] })

-- two pairs
abbrev two : ℕ → ℕ → ℕ → ℕ → ℕ → ℕ → List ℕ
two i a e j b f = i ∷ a ∷ e ∷ j ∷ b ∷ f ∷ []

module _ (write : (d bytes words room : List ℕ) → Result Built Refusal) (after : (d bytes words room : List ℕ) → List ℕ)
    (meets : (d bytes words room : List ℕ) → ObjectPromise d bytes words room (write d bytes words room) (after d bytes words room)) where
  -- it writes
  abbrev Writes : (d bytes words room : List ℕ) → Type 0
  Writes d bytes words room = code_of (built_numbers (write d bytes words room)) ≡ 0

  writes : Writes D lent roll_flow (room 11)
  writes = ap code_of ((meets D lent roll_flow (room 11)).answer ∙ ap (λ (t : List Told). (row 1 t).answer) worked)

  leaves : after D lent roll_flow (room 11) ≡ object ++ 9 ∷ []
  leaves = (meets D lent roll_flow (room 11)).leaves ∙ ap (λ (t : List Told). (row 1 t).left) worked

  -- one that keeps the pairs' order: of two, the first one's id stands first
  pub not_in_given_order : ((d bytes room : List ℕ) (i a e j b f : ℕ) → Writes d bytes (two i a e j b f) room → get_or (after d bytes (two i a e j b f) room) 2 0 ≡ i % 256) → ⊥
  not_in_given_order wrong =
      let z : ◌≡◌ {A = ℕ} 1 0 = sym (wrong D lent (room 11) 1 0 1 0 1 3 writes) ∙ ap (λ (s : List ℕ). get_or s 2 0) leaves in omega arith

  -- one that swaps two children: it leaves what is due to the pairs with their ranges exchanged
  pub not_swapped : ((d bytes room : List ℕ) (i a e j b f : ℕ) → after d bytes (two i a e j b f) room ≡ room_after d bytes (two i b f j a e) room) → ⊥
  not_swapped wrong =
      let other = wrong D lent (room 11) 1 0 1 0 1 3 ∙ ap (λ (t : List Told). (row 2 t).left) worked in
      let z : ◌≡◌ {A = ℕ} 0x0C 0x04 = ap (λ (s : List ℕ). get_or s 7 0) (sym leaves ∙ other) in omega arith

  -- one that refuses always
  pub not_always_refused : ((d bytes words room : List ℕ) → Writes d bytes words room → ⊥) → ⊥
  not_always_refused wrong = wrong D lent roll_flow (room 11) writes
