-- None of document 01's six wrong versions meets its promise, nor one for request c), nor one for many names, nor three for values, nor three for
-- trees, nor two for paths, by the worked cases: a function that meets it and is one of them cannot be. Assumes nothing.
use Rattle.rules.proofs.Prelude.{◌≡◌, ap, ◌∙◌, List, [], ◌∷◌, ℕ, ◌+◌, arith, get_or, replicate, accept}
use denote.Ref.{Bor}
use lib.IntN.{pos}
use Rattle.std.specs.Prelude.{Option, Some, None, Result, Ok, Err}
use Rattle.dictionary.specs.declared.Refusal.{Refusal as DictionaryRefusal}
use Rattle.dictionary.specs.declared.Refusal.TheVariants.{Short}
use Rattle.metadata.specs.declared.Accepted.{Accepted}
use Rattle.metadata.specs.Promises.{CheckPromise}
use Rattle.metadata.proofs.Pinned.{check_pinned}
use Rattle.layer.specs.declared.Refusal.{Refusal as LayerRefusal}
use Rattle.object.specs.declared.Accepted.{Accepted as Layered}
use Rattle.lookup.specs.declared.Found.{Found}
use Rattle.lookup.specs.ByName as by_name
use Rattle.lookup.specs.Promises.{GetPromise, ChildPromise}
use Rattle.lookup.proofs.Pinned.{get_pinned}
use Rattle.many.specs.declared.Refusal.{Refusal as ManyRefusal}
use Rattle.many.specs.Meaning.{row_at}
use Rattle.many.specs.Promises.{GetAllPromise}
use Rattle.listing.specs.declared.Refusal.{Refusal as ListingRefusal}
use Rattle.listing.specs.Promises.{ListPromise}
use Rattle.value.specs.declared.Value.{Value}
use Rattle.value.specs.declared.Value.TheVariants as value
use Rattle.value.specs.declared.Refusal.{Refusal as ValueRefusal}
use Rattle.value.specs.declared.Refusal.TheVariants as refused
use Rattle.value.specs.Promises.{ReadPromise}
use Rattle.layer.specs.Object as object
use Rattle.nodes.specs.declared.Fault.{Fault}
use Rattle.tree.specs.Promises.{CheckPromise as TreePromise}
use Rattle.tree.proofs.Pinned.{check_pinned as tree-pinned}
use Rattle.path.specs.declared.Refusal.{Refusal as PathRefusal}
use Rattle.path.specs.Answers.{asked_numbers}
use Rattle.path.specs.Path.{by_path}
use Rattle.host.specs.Worked.{Told, D, P, alone, unknown, inside, flow, roll, run}
use Rattle.host.specs.Worked.Told.{leaves}
use Rattle.host.specs.WorkedPaths.{nested, flow_roll, bytes, triples}
use Rattle.host.proofs.Worked.{worked}
use Rattle.host.proofs.WorkedPaths.{worked as walked}

-- row k of the table of worked cases, on both sides
abbrev pub at : ℕ → List Told → Told
at k table = get_or table k (leaves [])

-- two dictionaries of one first byte: of no entries, and of two
abbrev pub none : List ℕ
none = 0x01 ∷ 0x00 ∷ 0x00 ∷ []

abbrev two : List ℕ
two = 0x01 ∷ 0x02 ∷ 0x00 ∷ 0x01 ∷ 0x02 ∷ 0x61 ∷ 0x61 ∷ []

module _ (check : List ℕ → Result Accepted DictionaryRefusal) (meets : (d : List ℕ) → CheckPromise d (check d)) where
  -- one that always says 13
  pub not_always_short : ((d : List ℕ) → check d ≡ Err Short) → ⊥
  not_always_short wrong =
      let is = ap (at 0) worked in
      let says = rw (wrong none) at (meets none) in
      let z : ◌≡◌ {A = ℕ} 0 13 = cc in omega arith

  -- one that reports an entry count from the header byte alone
  pub not_by_first_byte : (count : ℕ → ℕ) → ((d : List ℕ) (n e : ℕ) → check d ≡ Ok (record { count = n; end = e }) → n ≡ count (get_or d 0 0)) → ⊥
  not_by_first_byte count wrong =
      let is_none = ap (at 0) worked in
      let is_two = ap (at 6) worked in
      let none_is : check none ≡ Ok (record { count = 0; end = 3 }) = check_pinned none _ _ (meets none) (cc) in
      let two_is : check two ≡ Ok (record { count = 2; end = 7 }) = check_pinned two _ _ (meets two) (cc) in
      omega (arith, wrong none 0 3 none_is, wrong two 2 7 two_is)

module _ (get : List ℕ → List ℕ → List ℕ → Result (Option Found) LayerRefusal) (meets : (d o q : List ℕ) → GetPromise d o q (get d o q)) where
  -- one that says absent to every name
  pub not_always_absent : ((d o q : List ℕ) → get d o q ≡ Ok None) → ⊥
  not_always_absent wrong =
      let is = ap (at 7) worked in
      let says = rw (wrong D P flow) at (meets D P flow) in
      let z : ◌≡◌ {A = ℕ} 0 1 = cc in omega arith

  -- one that finds field 0 always, wherever it says the child is
  pub not_field_zero : (id start end : List ℕ → List ℕ → List ℕ → ℕ) → ((d o q : List ℕ) → get d o q ≡ Ok (Some (record { field = 0; id = id d o q; start = start d o q; end = end d o q }))) → ⊥
  not_field_zero id start end wrong =
      let is = ap (at 8) worked in
      let says = rw (wrong D P roll) at (meets D P roll) in
      let z : ◌≡◌ {A = ℕ} 0 1 = cc in omega arith

  -- one that gives the field as the id
  pub not_the_field : ((d o q : List ℕ) (k i a e : ℕ) → get d o q ≡ Ok (Some (record { field = k; id = i; start = a; end = e })) → i ≡ k) → ⊥
  not_the_field wrong =
      let is = ap (at 18) worked in
      let found-is : get D alone roll ≡ Ok (Some (record { field = 0; id = 1; start = 5; end = 6 })) = get_pinned D alone roll _ _ (meets D alone roll) (cc) in
      omega (arith, wrong D alone roll 0 1 5 6 found-is)

-- one that leaves the listing's words as lent
pub not_as_lent : (list : List ℕ → List ℕ → List ℕ → Result Layered ListingRefusal) (after : List ℕ → List ℕ → List ℕ → List ℕ)
    → ((d o w : List ℕ) → ListPromise d o w (list d o w) (after d o w)) → ((d o w : List ℕ) → after d o w ≡ w) → ⊥
not_as_lent list after meets wrong =
    let lent : List ℕ = replicate 6 0 in
    let is = ap (at 10) worked in
    let says = rw (wrong D P lent) at (meets D P lent).leaves in
    let z : ◌≡◌ {A = ℕ} 0 8 = cc in omega arith

-- one that asks for the first name again
pub not_the_first : (all : (d o names ends words : List ℕ) → Result Layered ManyRefusal) (after : (d o names ends words : List ℕ) → List ℕ)
    → ((d o names ends w : List ℕ) → GetAllPromise d o names ends w (all d o names ends w) (after d o names ends w))
    → ((d o names ends w : List ℕ) → row_at (after d o names ends w) 1 ≡ row_at (after d o names ends w) 0) → ⊥
not_the_first all after meets wrong =
    let ends : List ℕ = 4 ∷ 7 ∷ 11 ∷ [] in
    let is = ap (at 19) worked in
    let lent : List ℕ = replicate 16 9 in
    let rows : List ℕ = 0 ∷ 0 ∷ 0 ∷ 8 ∷ 10 ∷ 1 ∷ 0 ∷ 0 ∷ 0 ∷ 0 ∷ 0 ∷ 1 ∷ 1 ∷ 7 ∷ 10 ∷ 9 ∷ [] in
    let left : after D P run ends lent ≡ rows = (meets D P run ends lent).leaves ∙ cc in
    let same = rw left at (wrong D P run ends lent) in
    let z : ◌≡◌ {A = ℕ} 0 1 = cc in omega arith

-- one that hands back the whole object as child
pub not_the_whole : (child : List ℕ → Bor (List ℕ) → List ℕ → Bor (List ℕ))
    → ((d : List ℕ) (object : Bor (List ℕ)) (q : List ℕ) → ChildPromise d object q (child d object q))
    → ((d : List ℕ) (object : Bor (List ℕ)) (q : List ℕ) → (child d object q).now ≡ (object).now) → ⊥
not_the_whole child meets wrong =
    let object : Bor (List ℕ) = record { ref_ptr = (0, 0); now = P } in
    let is = ap (at 7) worked in
    let found : by_name.lookup D P flow ≡ accept (0 ∷ 0 ∷ 8 ∷ 10 ∷ []) = cc in
    let says = rw (wrong D object flow, found) at (meets D object flow).bytes in
    let z : ◌≡◌ {A = ℕ} 2 12 = cc in omega arith

module _ (read : List ℕ → Result Value ValueRefusal) (meets : (s : List ℕ) → ReadPromise s (read s)) where
  -- one that reads a byte without its sign: FB as 251
  pub not_unsigned : ((b : ℕ) → read (0x0C ∷ b ∷ []) ≡ Ok (value.I8 (pos b))) → ⊥
  not_unsigned wrong =
      let is = ap (at 31) worked in
      let says = rw (wrong 0xFB) at (meets (0x0C ∷ 0xFB ∷ [])) in
      let z : ◌≡◌ {A = ℕ} 0 1 = cc in omega arith

  -- one that loses what tells two NaNs apart
  pub not_one_nan : (n : ℕ) → ((s : List ℕ) (m : ℕ) → read s ≡ Ok (value.F32Nan m) → m ≡ n) → ⊥
  not_one_nan n wrong =
      let is-quiet = ap (at 35) worked in
      let is-other = ap (at 36) worked in
      let quiet : List ℕ = 0x38 ∷ 0x01 ∷ 0x00 ∷ 0xC0 ∷ 0xFF ∷ [] in
      let other : List ℕ = 0x38 ∷ 0x01 ∷ 0x00 ∷ 0x80 ∷ 0x7F ∷ [] in
      omega (arith, wrong quiet 0xFFC00001 (meets quiet ∙ cc), wrong other 0x7F800001 (meets other ∙ cc))

  -- one that refuses every value
  pub not_always_refused : ((s : List ℕ) → read s ≡ Err refused.Short) → ⊥
  not_always_refused wrong =
      let is = ap (at 31) worked in
      let says = rw (wrong (0x0C ∷ 0xFB ∷ [])) at (meets (0x0C ∷ 0xFB ∷ [])) in
      let z : ◌≡◌ {A = ℕ} 0 1 = cc in omega arith

module _ (check : List ℕ → List ℕ → Result ℕ Fault) (meets : (d v : List ℕ) → TreePromise d v (check d v)) where
  -- one that accepts everything
  pub not_always_accepted : (end : List ℕ → List ℕ → ℕ) → ((d v : List ℕ) → check d v ≡ Ok (end d v)) → ⊥
  not_always_accepted end wrong =
      let is = ap (at 44) worked in
      let says = rw (wrong D (0x54 ∷ [])) at (meets D (0x54 ∷ [])) in
      let z : ◌≡◌ {A = ℕ} 0 51 = cc in omega arith

  -- one that never looks below the first layer: what is accepted as a layer is accepted
  pub not_the_layer : ((d o : List ℕ) (n v e : ℕ) → object.verdict d o ≡ accept (n ∷ v ∷ e ∷ []) → check d o ≡ Ok e) → ⊥
  not_the_layer wrong =
      let layer_is = ap (at 53) worked in
      let is = ap (at 54) worked in
      let accepted : object.verdict D unknown ≡ accept (2 ∷ 7 ∷ 10 ∷ []) = cc in
      let says = rw (wrong D unknown 2 7 10 accepted) at (meets D unknown) in
      let z : ◌≡◌ {A = ℕ} 0 51 = cc in omega arith

  -- one that takes a level more
  pub not_33 : ((e : ℕ) → check D (inside 32) ≡ Ok e → check D (inside 33) ≡ Ok (e + 4)) → ⊥
  not_33 wrong =
      let good = ap (at 55) worked in
      let is = ap (at 56) worked in
      let accepted : check D (inside 32) ≡ Ok 129 = tree-pinned D (inside 32) _ _ (meets D (inside 32)) (cc) in
      let says = rw (wrong 129 accepted) at (meets D (inside 33)) in
      let z : ◌≡◌ {A = ℕ} 0 52 = cc in omega arith

module _ (get : (d v path names words : List ℕ) → Result (Option Found) PathRefusal)
    (meets : (d v path names words : List ℕ) → asked_numbers (get d v path names words) ≡ by_path d v path names words) where
  -- one that stops at the first step: it answers `flow.roll` as `flow`
  pub not_the_first_step : ((d v names words : List ℕ) → get d v flow_roll names words ≡ get d v flow names words) → ⊥
  not_the_first_step wrong =
      let first = ap (at 1) walked in
      let both = ap (at 2) walked in
      let says = rw (wrong D nested bytes triples) at (meets D nested flow_roll bytes triples) in
      let is = meets D nested flow bytes triples in
      let z : ◌≡◌ {A = ℕ} 5 10 = cc in omega arith

  -- one that answers absent always
  pub not_always_nowhere : ((d v path names words : List ℕ) → get d v path names words ≡ Ok None) → ⊥
  not_always_nowhere wrong =
      let is = ap (at 0) walked in
      let says = rw (wrong D P roll bytes triples) at (meets D P roll bytes triples) in
      let z : ◌≡◌ {A = ℕ} 0 1 = cc in omega arith
