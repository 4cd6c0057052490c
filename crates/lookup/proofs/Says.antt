-- What the code's own answers say: each case of what a call returns, exactly when, in the words of specs/Meaning.antt. An answer that meets
-- the call's promise is meant. Assumes nothing.
use Rattle.rules.proofs.Prelude.{◌≡◌, sym, ap, ◌∙◌, true, false, ◌↔◌, List, [], ℕ, arith, length, ◌otherwise◌, swap, false_true}
use denote.Ref.{Bor}
use Rattle.std.specs.Prelude.{Option, Some, None, Result, Ok, Err}
use Rattle.part.specs.declared.Span.{Span}
use Rattle.dictionary.specs.declared.Refusal.{Refusal as DictionaryRefusal}
use Rattle.part.specs.Part.{part}
use Rattle.part.proofs.Laws.{part_length}
use Rattle.metadata.specs.Answers.{entry_numbers}
use Rattle.metadata.specs.Promises.{GetPromise as NamePromise}
use Rattle.metadata.proofs.Pinned.{refusal_by as dictionary_by}
use Rattle.layer.specs.declared.Refusal.{Refusal}
use Rattle.layer.specs.Answers.{refusal_number, refusal_place}
use Rattle.layer.specs.Meaning.{Refusal as Due}
use Rattle.object.proofs.Refuses.{is_due}
use Rattle.object.proofs.Pinned.{refusal_by, refusal_back}
use Rattle.lookup.specs.ByName.{lookup as lookup-of, lookup_within, start_of, end_of}
use Rattle.lookup.specs.Meaning.{Found, Absent, NotFound, Spells}
use Rattle.lookup.specs.Meaning.NotFound.{absent, refused}
use Rattle.lookup.specs.Answers.{PartOf}
use Rattle.lookup.specs.Promises.{GetPromise, ChildPromise}
use Rattle.lookup.proofs.Finds.{by_answer, found, absent_is, refused_is, found_inside, asked_again}

-- no case of a refusal has the number of "absent"
not_absent : (r : Refusal) → refusal_number r ≡ 1 → ⊥
unfolding refusal_by dictionary_by
not_absent r e = false_true (rw e at (refusal_back (λ _. true) false r))

-- `get`
module _ (d o q : List ℕ) where
  pub get_found : (k i a e : ℕ) → GetPromise d o q (Ok (Some (record { field = k; id = i; start = a; end = e }))) ↔ Found d o q k i a e
  get_found k i a e = swap (found d o q k i a e)

  -- and so `metadata::get` at the id that was found gives the query
  pub get_again : (k i a e : ℕ) → GetPromise d o q (Ok (Some (record { field = k; id = i; start = a; end = e }))) → (x : Result (Option Span) DictionaryRefusal) → NamePromise d i x → Spells d q (entry_numbers x)
  get_again k i a e promised x named = rw named (asked_again d o q k i a e ((get_found k i a e).0 promised))

  pub get_absent : GetPromise d o q (Ok None) ↔ Absent d o q
  get_absent = swap (absent_is d o q)

  pub get_refused : (r : Refusal) → GetPromise d o q (Err r) ↔ Due d o (refusal_number r) (refusal_place r)
  get_refused r = swap (refused_is d o q (refusal_number r) (refusal_place r) (not_absent r))

-- the bytes of a found child
some_there : (d o q : List ℕ) (k i a e : ℕ) → Found d o q k i a e → part o a e ≡ [] → ⊥
some_there d o q k i a e f none =
    let inside = found_inside d o q k i a e f in omega (arith, part_length o a e inside.0 inside.1, ap length none)

-- `child`: the part where it was found; on absence or refusal the empty part at the object's start
module _ (d : List ℕ) (object : Bor (List ℕ)) (q : List ℕ) (r : Bor (List ℕ)) (promised : ChildPromise d object q r) where
  pub child_found : (k i a e : ℕ) → Found d object.now q k i a e → PartOf object r a e
  child_found k i a e f = rw ((found d object.now q k i a e).1 f) at promised

  pub child_absent : Absent d object.now q → PartOf object r 0 0
  child_absent f = rw ((absent_is d object.now q).1 f) at promised

  pub child_refused : (c p : ℕ) → Due d object.now c p → PartOf object r 0 0
  unfolding lookup_within ◌otherwise◌
  child_refused c p due = rw (is_due d object.now due) at promised

  -- and so it is empty exactly on absence or refusal: no found child is
  pub child_empty : (r.now ≡ []) ↔ NotFound d object.now q
  child_empty = (λ none. nowhere (sym promised.bytes ∙ none), nothing)
    where
      o : List ℕ
      o = object.now

      nowhere : part o (start_of (lookup-of d o q)) (end_of (lookup-of d o q)) ≡ [] → NotFound d o q
      nowhere =
          by_answer d o q (λ x. part o (start_of x) (end_of x) ≡ [] → NotFound d o q) (λ k i a e f none. absurd (some_there d o q k i a e f none))
          (λ a _. absent a) (λ c p due _. refused due)

      nothing : NotFound d o q → r.now ≡ []
      nothing (absent a) = (child_absent a).bytes
      nothing (refused due) = (child_refused _ _ due).bytes
