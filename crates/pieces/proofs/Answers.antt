-- What is answered to the bytes received, exactly when; that an answer which is not "more" stays, whatever bytes come after; and that fewer
-- bytes than those that are wanted settle nothing. Assumes nothing.
use lib.Seq.{take-append-le, take-append-add}
use mathlib.Core.List.{append-nil}
use Rattle.rules.proofs.Prelude.{◌≡◌, refl, sym, ap, ◌∙◌, ◌↔◌, Bool, true, false, List, [], ◌++◌, ℕ, ◌+◌, ◌-◌, ◌≤◌, ◌<◌, dec_lt}
use Rattle.rules.proofs.Prelude.{arith, eq-eqb, ne_eqb, lt-ltb, le-ltb, ltb, eqb, length, take, drop}
use Rattle.rules.proofs.Prelude.{◌||◌, length-append, length-take, take_all, take-append-drop, Answer, refuse, code_of, false_true}
use Rattle.rules.proofs.Prelude.{by_meaning}
use Rattle.dictionary.specs.Limits.{limit}
use Rattle.dictionary.specs.Dictionary.{verdict, verdict_within}
use Rattle.dictionary.specs.Wanted.{wanted}
use Rattle.metadata.proofs.Means.{checks_mean}
use Rattle.metadata.proofs.Accepts.{accepts}
use Rattle.metadata.proofs.Refuses.{refuses}
use Rattle.metadata.proofs.Appended.{appended}
use Rattle.metadata.proofs.Fits.{checks_fit}
use Rattle.pieces.specs.declared.Fed.{Fed}
use Rattle.pieces.specs.declared.Fed.TheVariants as fed-case
use Rattle.pieces.specs.declared.State.TheVariants.{More}
use Rattle.pieces.specs.Pieces.{room, unsettled, more, full, answer}
use Rattle.pieces.specs.Feed.{fed_numbers, state_of, state_numbers, fed, store_after}
use Rattle.pieces.specs.Meaning.{Wants, Final, Says}
use Rattle.pieces.specs.Meaning.Wants.{first_byte}
use Rattle.pieces.specs.Meaning.Says.{wanting, overflowing, accepted, refused}
use Rattle.pieces.proofs.Wanting.{why, wants_is, unsettled_by}
use Rattle.pieces.proofs.Laws.{judged_settled, judged_full, judged_more, past_room, fits, after_is, fed_answers, got_length, kept_is}

-- WHICH VERDICTS SETTLE
not_eleven : (v : Answer) → unsettled v ≡ false → code_of v ≡ 11 → ⊥
not_eleven v e h = false_true (sym e ∙ rw (eq-eqb (code_of v) 11 h))

not_thirteen : (v : Answer) → unsettled v ≡ false → code_of v ≡ 13 → ⊥
not_thirteen v e h = go (eqb (code_of v) 11) (rw (eq-eqb (code_of v) 13 h) at e)
  where
    go : (b : Bool) → (b || true) ≡ false → ⊥
    go true e = false_true (sym e)
    go false e = false_true (sym e)

-- bytes that settle it settle it with any more after them, and answer the same
pub settled_stays : (d t : List ℕ) → length (d ++ t) ≤ limit → unsettled (verdict d) ≡ false → verdict (d ++ t) ≡ verdict d
settled_stays d t l e = appended d t l (not_eleven (verdict d) e) (not_thirteen (verdict d) e)

-- so where more are wanted, fewer do not settle it
pub fewer_unsettled : (d : List ℕ) (m : ℕ) → length d ≤ limit → unsettled (verdict d) ≡ true → unsettled (verdict (take m d)) ≡ true
fewer_unsettled d m l e = go (unsettled (verdict (take m d))) refl
  where
    go : (b : Bool) → unsettled (verdict (take m d)) ≡ b → b ≡ true
    go true f = refl
    go false f =
        let same : verdict d ≡ verdict (take m d) = rw take-append-drop at (settled_stays (take m d) (drop m d) (rw take-append-drop l) f) in
        false_true (sym f ∙ ap unsettled (sym same) ∙ e)

-- THE ANSWER, by what is judged
module _ (n : ℕ) (got : List ℕ) where
  answer_settled : unsettled (verdict (take n got)) ≡ false → answer n got ≡ verdict (take n got)
  unfolding answer
  answer_settled e = judged_settled (take n got) (ltb n (length got)) e

  answer_full : n < length got → unsettled (verdict (take n got)) ≡ true → answer n got ≡ full
  unfolding answer
  answer_full p e = rw (lt-ltb _ _ p) (judged_full (take n got) e)

  answer_more : length got ≤ n → unsettled (verdict got) ≡ true → answer n got ≡ more (length got) (wanted got)
  unfolding answer
  answer_more p u = rw (le-ltb _ _ p, take_all n got p) (judged_more got u)

-- a verdict that settles, in words
settled_says : (n : ℕ) (got : List ℕ) → unsettled (verdict (take n got)) ≡ false → Says n got (verdict (take n got))
unfolding verdict_within
settled_says n got e =
    by_meaning (λ a. unsettled a ≡ false → Says n got a) _ (checks_mean (take n got)) (λ g _. accepted g)
    (λ c p r u. refused (record { due = r; not_empty = not_eleven (refuse c p) u; not_short = not_thirteen (refuse c p) u })) e

-- EACH ANSWER, exactly when
pub says : (n : ℕ) (got : List ℕ) → Says n got (answer n got)
says n got = go (unsettled (verdict (take n got))) refl (dec_lt n (length got))
  where
    go : (b : Bool) → unsettled (verdict (take n got)) ≡ b → Dec (n < length got) → Says n got (answer n got)
    go false e d = rw (answer_settled n got e) (settled_says n got e)
    go true e (yes p) = rw (answer_full n got p e) (overflowing p (why (take n got) e))
    go true e (no p) =
        let q : length got ≤ n = omega arith in
        let u : unsettled (verdict got) ≡ true = rw (take_all n got q) at e in
        rw (answer_more n got q u) (wanting q (why got u))

final_settles : (d : List ℕ) {c p : ℕ} → Final d c p → unsettled (verdict d) ≡ false
final_settles d {c} {p} f =
    ap unsettled ((refuses d c p).1 f.due) ∙ rw (ne_eqb c 11 f.not_empty, ne_eqb c 13 f.not_short)

pub said : (n : ℕ) (got : List ℕ) {a : Answer} → Says n got a → answer n got ≡ a
said n got (wanting p w) = answer_more n got p (unsettled_by got w) ∙ rw (wants_is got w).0
said n got (overflowing p w) = answer_full n got p (unsettled_by (take n got) w)
said n got (accepted {k = k} {e = e} g) =
    let v = (accepts (take n got) k e).1 g in
    answer_settled n got (ap unsettled v) ∙ v
said n got (refused {c = c} {p = p} f) =
    answer_settled n got (final_settles (take n got) f) ∙ (refuses (take n got) c p).1 f.due

pub answers_is : (n : ℕ) (got : List ℕ) (a : Answer) → (answer n got ≡ a) ↔ Says n got a
answers_is n got a = (λ e. rw (← e) (says n got), said n got)

-- nothing received, nothing settled
pub begins : (n : ℕ) → answer n [] ≡ more 0 1
begins n = said n [] (wanting (omega arith) (first_byte refl))

-- a verdict's number is neither 3 nor 44
pub verdict_final : (d : List ℕ) → (code_of (verdict d) ≡ 3 → ⊥) × (code_of (verdict d) ≡ 44 → ⊥)
unfolding verdict_within
verdict_final d =
    by_meaning (λ a. (code_of a ≡ 3 → ⊥) × (code_of a ≡ 44 → ⊥)) _ (checks_fit d) (λ _. ((λ z. omega arith), λ z. omega arith))
    (λ c p o. ((λ z. omega arith), λ z. omega arith))

-- "more" says how many bytes were received, and how many are wanted
pub more_says : (n : ℕ) (got : List ℕ) {h w : ℕ} → more h w ≡ answer n got → (h ≡ length got) × (length got ≤ n) × Wants got w
more_says n got {h} {w} e = go (says n got) e
  where
    go : {a : Answer} → Says n got a → more h w ≡ a → (h ≡ length got) × (length got ≤ n) × Wants got w
    go (wanting {w = v} q u) e = let z : h ≡ length got = cc in let y : w ≡ v = cc in (z, q, rw y u)
    go (overflowing p u) e = let z : ◌≡◌ {A = ℕ} 0 1 = cc in absurd (omega arith)
    go (accepted g) e = let z : ◌≡◌ {A = ℕ} 0 1 = cc in absurd (omega arith)
    go (refused f) e = let z : ◌≡◌ {A = ℕ} 0 1 = cc in absurd (omega arith)

-- MORE BYTES: the first n of them
take_more : (n : ℕ) (got t : List ℕ) → take n (got ++ t) ≡ take n got ++ take (n - length got) t
take_more n got t = go (dec_lt n (length got))
  where
    go : Dec (n < length got) → take n (got ++ t) ≡ take n got ++ take (n - length got) t
    go (yes p) =
        let z : n - length got ≡ 0 = omega arith in
        take-append-le n got t (omega arith) ∙ sym (rw z (append-nil (take n got)))
    go (no p) =
        let s : n ≡ length got + (n - length got) = omega arith in
        ap (λ k. take k (got ++ t)) s ∙ take-append-add got t (n - length got) ∙ ap (λ x. x ++ take (n - length got) t) (sym (take_all n got (omega arith)))

-- an answer that is not "more" stays
pub answer_stays : (n : ℕ) (got t : List ℕ) → n ≤ limit → (code_of (answer n got) ≡ 3 → ⊥) → answer n (got ++ t) ≡ answer n got
answer_stays n got t l final = go (unsettled (verdict (take n got))) refl (dec_lt n (length got))
  where
    go : (b : Bool) → unsettled (verdict (take n got)) ≡ b → Dec (n < length got) → answer n (got ++ t) ≡ answer n got
    go false e d =
        let u = take (n - length got) t in
        let front : take n (got ++ t) ≡ take n got ++ u = take_more n got t in
        let within : length (take n got ++ u) ≤ limit = omega (arith, ap length front, length-take n (got ++ t)) in
        let same : verdict (take n (got ++ t)) ≡ verdict (take n got) = ap verdict front ∙ settled_stays (take n got) u within e in
        answer_settled n (got ++ t) (ap unsettled same ∙ e) ∙ same ∙ sym (answer_settled n got e)
    go true e (yes p) =
        let front : take n (got ++ t) ≡ take n got = take-append-le n got t (omega arith) in
        answer_full n (got ++ t) (omega (arith, length-append got t)) (ap (λ x. unsettled (verdict x)) front ∙ e) ∙ sym (answer_full n got p e)
    go true e (no p) =
        let q : length got ≤ n = omega arith in
        absurd (final (ap code_of (answer_more n got q (rw (take_all n got q) at e))))

-- WHAT A STATE REMEMBERS is enough: the bytes of the store say how many are wanted
module _ (store piece : List ℕ) (held : ℕ) (after : List ℕ) (left : after ≡ store_after store piece (More held)) where
  wanted_there : {h w : ℕ} → more h w ≡ fed store piece (More held) → wanted (take h after) ≡ w
  wanted_there {h} {w} e = go (dec_lt (room store) held)
    where
      go : Dec (room store < held) → wanted (take h after) ≡ w
      go (yes past) = let z : ◌≡◌ {A = ℕ} 3 44 = ap code_of (e ∙ past_room store piece held past) in absurd (omega arith)
      go (no p) =
          let inside : held ≤ room store = omega arith in
          let got = take held store ++ piece in
          let is = more_says (room store) got (e ∙ fed_answers store piece held inside) in
          let h-is : h ≡ held + fits store piece held inside = omega (arith, is.0, is.1, got_length store piece held inside) in
          let there : take h after ≡ got =
          rw (h-is, left, after_is store piece held inside) (kept_is store piece held inside) ∙ take_all (room store) got is.1 in
          ap wanted there ∙ (wants_is got is.2).0

  pub remembered : (f : Fed) → fed_numbers f ≡ fed store piece (More held) → state_numbers after (state_of f) ≡ fed store piece (More held)
  remembered (fed-case.More h w) e = ap (more h) (wanted_there e) ∙ e
  remembered (fed-case.Settled v) e = e
  remembered fed-case.Full e = e
