-- The promises fix the whole answer and the store after it: two that meet one are equal. So two cuttings of the same bytes end in the same
-- state. The two exceptions that the request names, that the store is written under a refusal and that its bytes past those that settled the
-- verdict may depend on the cutting, are no exceptions here: of each single call the whole store is fixed. Assumes nothing.
use Rattle.std.specs.Prelude.{Ok, Err}
use Rattle.rules.proofs.Prelude.{◌≡◌, refl, sym, ap, ◌∙◌, List, [], ◌∷◌, ℕ, Answer, cond, eqb, gives}
use Rattle.metadata.proofs.Pinned.{refusal_by, refusal_back, by_back}
use Rattle.pieces.specs.declared.Fed.{Fed}
use Rattle.pieces.specs.declared.Fed.TheVariants as fed
use Rattle.pieces.specs.declared.State.{State}
use Rattle.pieces.specs.declared.State.TheVariants.{More, Settled, Full}
use Rattle.pieces.specs.Pieces.{room}
use Rattle.pieces.specs.Feed.{fed_numbers, state_of, state_numbers, bytes_of}
use Rattle.pieces.specs.Promises.{BeginPromise, FeedPromise, ReceivePromise}
use Rattle.pieces.specs.Meaning.{Feeds}
use Rattle.pieces.proofs.Cutting.{any_cutting}

-- an answer to a piece, read back out of its numbers
fed_back : Answer → Fed
fed_back (gives c (n ∷ e ∷ v) p) = cond (eqb c 3) (fed.More n e) (fed.Settled (Ok (record { count = n; end = e })))
fed_back (gives c (n ∷ []) p) = fed.Full
fed_back (gives c [] p) = refusal_by (λ r. fed.Settled (Err r)) fed.Full c p

fed_back_law : (f : Fed) → fed_back (fed_numbers f) ≡ f
unfolding fed_back refusal_by
fed_back_law (fed.More held wants) = refl
fed_back_law (fed.Settled (Err r)) = refusal_back (λ q. fed.Settled (Err q)) fed.Full r
fed_back_law (fed.Settled (Ok a)) = refl
fed_back_law fed.Full = refl

pub fed_injective : (f g : Fed) → fed_numbers f ≡ fed_numbers g → f ≡ g
fed_injective = by_back fed_numbers fed_back fed_back_law

-- and a state, out of its own
state_back : Answer → State
state_back a = state_of (fed_back a)

state_back_law : (store : List ℕ) (s : State) → state_back (state_numbers store s) ≡ s
unfolding state_back
state_back_law store (More held) = ap state_of (fed_back_law (fed.More held _))
state_back_law store (Settled v) = ap state_of (fed_back_law (fed.Settled v))
state_back_law store Full = ap state_of (fed_back_law fed.Full)

pub state_injective : (store : List ℕ) (s t : State) → state_numbers store s ≡ state_numbers store t → s ≡ t
state_injective store = by_back (state_numbers store) state_back (state_back_law store)

-- over two stores: the same numbers, the same state
pub state_by_numbers : (store store' : List ℕ) (s t : State) → state_numbers store s ≡ state_numbers store' t → s ≡ t
unfolding state_back
state_by_numbers store store' s t e = sym (state_back_law store s) ∙ rw e (state_back_law store' t)

-- THE THEOREMS, a call each
pub begin_pinned : (r q : State) → BeginPromise r → BeginPromise q → r ≡ q
begin_pinned r q a b = a ∙ sym b

pub feed_pinned : (store piece : List ℕ) (state r q : State) (after after' : List ℕ) → FeedPromise store piece state r after → FeedPromise store piece state q after'
    → (r ≡ q) × (after ≡ after')
feed_pinned store piece state r q after after' a b =
    (state_by_numbers after after' r q (a.answers ∙ sym b.answers), a.leaves ∙ sym b.leaves)

pub receive_pinned : (store piece : List ℕ) (held : ℕ) (r q : Fed) (after after' : List ℕ) → ReceivePromise store piece held r after → ReceivePromise store piece held q after'
    → (r ≡ q) × (after ≡ after')
receive_pinned store piece held r q after after' a b = (fed_injective r q (a.answers ∙ sym b.answers), a.leaves ∙ sym b.leaves)

-- TWO CUTTINGS of the same bytes, over stores with the same room
pub two_cuttings : (store store' : List ℕ) {s t : State} {end end' : List ℕ} {pieces pieces' : List (List ℕ)}
    → Feeds (More 0) store pieces s end → Feeds (More 0) store' pieces' t end' → room store ≡ room store' → bytes_of pieces ≡ bytes_of pieces' → s ≡ t
two_cuttings store store' {s} {t} {end} {end'} run run' same_room same_bytes =
    state_by_numbers end end' s t (any_cutting store run ∙ rw (same_room, same_bytes) (sym (any_cutting store' run')))
