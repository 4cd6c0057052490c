-- None of three wrong writers meets the promise, by the worked cases: one that writes the empty dictionary always, one that drops a name, one
-- that keeps doubles. Assumes nothing.
use Rattle.std.specs.Prelude.{Result, Ok}
use Rattle.rules.proofs.Prelude.{◌≡◌, sym, ap, ◌∙◌, List, [], ◌∷◌, ◌++◌, ℕ, arith, length, drop, get_or, accept}
use Rattle.write.specs.declared.Written.{Written}
use Rattle.write.specs.declared.Refusal.{Refusal}
use Rattle.write.specs.Writing.{written, room_after}
use Rattle.write.specs.Answers.{written_numbers}
use Rattle.write.specs.Promises.{DictionaryPromise}
use Rattle.write.specs.Worked.{Told, D, roll_flow, twice, room}
use Rattle.write.proofs.Pinned.{written_injective}
use Rattle.write.proofs.Worked.{worked}

-- row k of the table of worked cases, on both sides
abbrev row : ℕ → List Told → Told
row k table = get_or table k (record { answer = accept []; left = [] })

module _ (write : (run ends room : List ℕ) → Result Written Refusal) (after : (run ends room : List ℕ) → List ℕ)
    (meets : (run ends room : List ℕ) → DictionaryPromise run ends room (write run ends room) (after run ends room)) where
  -- one that writes the empty dictionary always
  pub not_always_empty : ((run ends room : List ℕ) → after run ends room ≡ 0x11 ∷ 0x00 ∷ 0x00 ∷ drop 3 room) → ⊥
  not_always_empty wrong =
      let ends : List ℕ = 4 ∷ 8 ∷ [] in
      let is : room_after roll_flow ends (room 14) ≡ D ++ 9 ∷ [] = ap (λ (t : List Told). (row 1 t).left) worked in
      let says : 0x11 ∷ 0x00 ∷ 0x00 ∷ drop 3 (room 14) ≡ D ++ 9 ∷ [] = sym (wrong roll_flow ends (room 14)) ∙ (meets roll_flow ends (room 14)).leaves ∙ is in
      let z : ◌≡◌ {A = ℕ} 0 2 = cc in omega arith

  -- one that drops the last name
  pub not_a_name_less : ((run ends room : List ℕ) (e : ℕ) → write run (ends ++ e ∷ []) room ≡ write run ends room) → ⊥
  not_a_name_less wrong =
      let both : written roll_flow (4 ∷ 8 ∷ []) (room 14) ≡ accept (2 ∷ 13 ∷ []) = ap (λ (t : List Told). (row 1 t).answer) worked in
      let one : written roll_flow (4 ∷ []) (room 14) ≡ accept (1 ∷ 8 ∷ []) = ap (λ (t : List Told). (row 3 t).answer) worked in
      let same : accept (2 ∷ 13 ∷ []) ≡ accept (1 ∷ 8 ∷ []) =
      sym both ∙ sym (meets roll_flow (4 ∷ 8 ∷ []) (room 14)).answer ∙ ap written_numbers (wrong roll_flow (4 ∷ []) (room 14) 8)
      ∙ (meets roll_flow (4 ∷ []) (room 14)).answer ∙ one in
      let z : ◌≡◌ {A = ℕ} 2 1 = cc in omega arith

  -- one that keeps doubles: as many names are written as are given
  pub not_with_doubles : ((run ends room : List ℕ) (n b : ℕ) → write run ends room ≡ Ok (record { count = n; length = b }) → n ≡ length ends) → ⊥
  not_with_doubles wrong =
      let ends : List ℕ = 1 ∷ 2 ∷ [] in
      let one : written twice ends (room 5) ≡ accept (1 ∷ 5 ∷ []) = ap (λ (t : List Told). (row 2 t).answer) worked in
      let so = written_injective (write twice ends (room 5)) (Ok (record { count = 1; length = 5 })) ((meets twice ends (room 5)).answer ∙ one) in
      omega (arith, wrong twice ends (room 5) 1 5 so)
