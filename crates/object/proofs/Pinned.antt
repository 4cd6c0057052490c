-- Each public call's promise fixes its whole answer: two answers that meet it are equal. Each answer is read back
-- out of document 01's numbers, so no two cases have the same. Assumes nothing.
use Rattle.rules.proofs.Prelude.{◌≡◌, refl, sym, ap, ap₂, ◌∙◌, cond, List, [], ◌∷◌, ℕ, arith, eqb, Answer, gives}
use Rattle.std.specs.Prelude.{Result, Ok, Err}
use Rattle.metadata.proofs.Pinned.{refusal_by as dictionary_by, refusal_back as dictionary-back, by_back, checked_pinned}
use Rattle.layer.specs.declared.Refusal.{Refusal}
use Rattle.layer.specs.declared.Refusal.TheVariants.{Dictionary, TooLong, Empty, BasicType, Short, Sum, NoSuchEntry, NotAbove, Offset, EmptyChild}
use Rattle.layer.specs.declared.Layer.{Layer}
use Rattle.layer.specs.Object.{offset_width, id_width, count, ids_start, offsets_start, start, end}
use Rattle.layer.specs.Answers.{refusal_number, refusal_place}
use Rattle.layer.specs.Steps.{LayerOf}
use Rattle.object.specs.declared.Accepted.{Accepted}
use Rattle.object.specs.declared.Message.{Message}
use Rattle.object.specs.Answers.{verdict_numbers}
use Rattle.object.specs.Promises.{CheckPromise}
use Rattle.object.specs.Steps.{CheckedOf, MessageOf, OpeningOf}

-- REFUSALS: number and place, read back; `other` where the number is none of theirs
unfoldable pub refusal_by : {A : Type 0} → (Refusal → A) → A → ℕ → ℕ → A
refusal_by is other c p =
    dictionary_by (λ r. is (Dictionary r))
    (cond (eqb c 20) (is TooLong)
    (cond (eqb c 21) (is Empty)
    (cond (eqb c 22) (is BasicType)
    (cond (eqb c 23) (is Short)
    (cond (eqb c 24) (is Sum)
    (cond (eqb c 25) (is (NoSuchEntry p))
    (cond (eqb c 26) (is (NotAbove p)) (cond (eqb c 27) (is (Offset p)) (cond (eqb c 28) (is (EmptyChild p)) other)))))))))
    c p

pub refusal_back : {A : Type 0} (is : Refusal → A) (other : A) (r : Refusal) → refusal_by is other (refusal_number r) (refusal_place r) ≡ is r
unfolding refusal_by dictionary_by
refusal_back is other (Dictionary r) = dictionary-back (λ x. is (Dictionary x)) _ r
refusal_back is other TooLong = refl
refusal_back is other Empty = refl
refusal_back is other BasicType = refl
refusal_back is other Short = refl
refusal_back is other Sum = refl
refusal_back is other (NoSuchEntry k) = refl
refusal_back is other (NotAbove k) = refl
refusal_back is other (Offset k) = refl
refusal_back is other (EmptyChild k) = refl

pub refusal_injective : (r q : Refusal) → refusal_number r ≡ refusal_number q → refusal_place r ≡ refusal_place q → r ≡ q
refusal_injective r q c p =
    sym (refusal_back (λ x. x) TooLong r) ∙ ap₂ (refusal_by (λ x. x) TooLong) c p ∙ refusal_back (λ x. x) TooLong q

-- ANSWERS
abbrev none : Accepted
none = record { count = 0; start = 0; end = 0 }

verdict_back : Answer → Result Accepted Refusal
verdict_back (gives c (n ∷ v ∷ e ∷ x) p) = Ok (record { count = n; start = v; end = e })
verdict_back (gives c (n ∷ v ∷ []) p) = Ok (record { count = n; start = v; end = 0 })
verdict_back (gives c (n ∷ []) p) = Ok (record { count = n; start = 0; end = 0 })
verdict_back (gives c [] p) = refusal_by Err (Ok none) c p

verdict_back_law : (v : Result Accepted Refusal) → verdict_back (verdict_numbers v) ≡ v
unfolding verdict_back
verdict_back_law (Err r) = refusal_back Err (Ok none) r
verdict_back_law (Ok a) = refl

pub verdict_injective : (v u : Result Accepted Refusal) → verdict_numbers v ≡ verdict_numbers u → v ≡ u
verdict_injective = by_back verdict_numbers verdict_back verdict_back_law

-- NUMBERS HANDED ON: the one layer and the one message that meet their promise
pub layer_is : (o : List ℕ) (l : Layer) → LayerOf o l
    → record { id_width = id_width o; offset_width = offset_width o; count = count o; ids = ids_start o; offsets = offsets_start o; start = start o; end = end o } ≡ l
layer_is o l h =
    rw (← h.id_width_is, ← h.offset_width_is, ← h.count_is, ← h.ids_is, ← h.offsets_is, ← h.start_is, ← h.end_is)

pub message_by : (m n : Message) → m.header ≡ n.header → m.layer ≡ n.layer → m ≡ n
message_by m n h l = ap₂ (λ x y. record { header = x; layer = y }) h l

message_pinned : (d o : List ℕ) (m n : Message) → MessageOf d o m → MessageOf d o n → m ≡ n
message_pinned d o m n a b =
    let heads = checked_pinned d (Ok m.header) (Ok n.header) a.over b.over in
    message_by m n (cc) (sym (layer_is o m.layer a.layered) ∙ layer_is o n.layer b.layered)

-- THE THEOREMS, a call each
pub check_layer_pinned : (d o : List ℕ) (r q : Result Layer Refusal) → CheckedOf d o r → CheckedOf d o q → r ≡ q
check_layer_pinned d o (Err r) (Err q) a b = ap Err (refusal_injective r q (cc) (cc))
check_layer_pinned d o (Err r) (Ok n) a b = let c = b.1 in let z : ◌≡◌ {A = ℕ} 0 1 = cc in absurd (omega arith)
check_layer_pinned d o (Ok l) (Err q) a b = let c = a.1 in let z : ◌≡◌ {A = ℕ} 0 1 = cc in absurd (omega arith)
check_layer_pinned d o (Ok l) (Ok n) a b = ap Ok (sym (layer_is o l a.0) ∙ layer_is o n b.0)

pub open_pinned : (d o : List ℕ) (r q : Result Message Refusal) → OpeningOf d o r → OpeningOf d o q → r ≡ q
open_pinned d o (Err r) (Err q) a b = ap Err (refusal_injective r q (cc) (cc))
open_pinned d o (Err r) (Ok n) a b = let c = b.passes in let z : ◌≡◌ {A = ℕ} 0 1 = cc in absurd (omega arith)
open_pinned d o (Ok m) (Err q) a b = let c = a.passes in let z : ◌≡◌ {A = ℕ} 0 1 = cc in absurd (omega arith)
open_pinned d o (Ok m) (Ok n) a b = ap Ok (message_pinned d o m n a b)

pub check_pinned : (d o : List ℕ) (r q : Result Accepted Refusal) → CheckPromise d o r → CheckPromise d o q → r ≡ q
check_pinned d o r q a b = verdict_injective r q (a ∙ sym b)
