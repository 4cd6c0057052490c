-- What a host learns of a dictionary in pieces: after any run of calls from a strip that was begun, the strip's words are those of the answer to
-- all bytes received, exactly when; the store holds these bytes; a strip that is settled, and one that is short, leave all as it was. Bytes are
-- what a slice has: each is below 256, which is what makes the words fit. Assumes nothing.
use Rattle.rules.proofs.Prelude.{◌≡◌, refl, sym, ap, ◌∙◌, ◌↔◌, List, [], ◌∷◌, ◌++◌, append_assoc, ℕ, zero, suc, ◌*◌, ◌≤◌, ◌<◌, dec_lt}
use Rattle.rules.proofs.Prelude.{arith, eq-eqb, ne_eqb, lt-ltb, le-ltb, length, take, drop, get_or}
use Rattle.rules.proofs.Prelude.{Bool, true, false, cond, length-append, length-drop, List·getD-append, Answer, code_of, gives}
use mathlib.Core.List.{append-nil}
use lib.ListN.{get_or-eq_default}
use Rattle.width.specs.Width.{bytes_of as numeral}
use Rattle.width.specs.Limits.{u32_max}
use Rattle.width.proofs.Laws.{Bytes, bytes_length}
use Rattle.dictionary.specs.Limits.{limit}
use Rattle.dictionary.specs.Dictionary.{width}
use Rattle.metadata.proofs.Refuses.{is_due}
use Rattle.metadata.proofs.Fits.{accepted_small, checks_code}
use Rattle.pieces.specs.declared.State.TheVariants.{More}
use Rattle.pieces.specs.Pieces.{room, more, answer}
use Rattle.pieces.specs.Feed.{fed, store_after, bytes_of}
use Rattle.pieces.specs.Meaning.{Wants, Says, NoFewer}
use Rattle.pieces.specs.Meaning.Wants.{first_byte, the_count, the_offsets, the_region}
use Rattle.pieces.specs.Meaning.Says.{wanting, overflowing, accepted, refused}
use Rattle.pieces.proofs.Laws.{room_within, past_room, fed_answers}
use Rattle.pieces.proofs.Answers.{says as answered, said, answer_stays}
use Rattle.pieces.proofs.Cutting.{Received, first_received, rest_received, more_received}
use Rattle.strip.specs.Shapes.{words_of, dictionary_shape, bytes_of_words, strip_bytes}
use Rattle.lichenhusk.specs.Strip.{returned, strip_after, filled_after, code_in, wants_more, held_in, feed_words}
use Rattle.lichenhusk.specs.Promises.{Left, BeginPromise, FeedPromise}
use Rattle.host.specs.Host.{word, words_in, PiecesSay, Runs}
use Rattle.host.specs.Host.PiecesSay.{says}
use Rattle.host.specs.Host.Runs.{no_more, one_more}
use Rattle.host.proofs.Carries.{Fits, first_is, carried}

-- EVERY WORD FITS, since a first byte is below 256
abbrev FirstSmall : List ℕ → Type 0
FirstSmall d = get_or d 0 0 < 256

wanted_small : (d : List ℕ) {w : ℕ} → FirstSmall d → Wants d w → w < 4294967296
unfolding width u32_max
wanted_small d b (first_byte h) = omega arith
wanted_small d b (the_count v h) = omega (arith, b)
wanted_small d b (the_offsets c f h) = omega arith
wanted_small d b (the_region p z f h) = omega arith

said_fits : (n : ℕ) (got : List ℕ) → n ≤ limit → FirstSmall got → {r : Answer} → Says n got r → Fits (words_of dictionary_shape r)
unfolding limit
said_fits n got l b (wanting p w) = omega (arith, wanted_small got b w)
said_fits n got l b (overflowing p w) = omega arith
said_fits n got l b (accepted g) = let s = accepted_small (take n got) (rw (g.counts, g.ends) at g) in omega (arith, g.counts, g.ends)
said_fits n got l b (refused f) = omega (arith, checks_code (take n got) (is_due (take n got) f.due))

answer_fits : (n : ℕ) (got : List ℕ) → n ≤ limit → FirstSmall got → Fits (words_of dictionary_shape (answer n got))
answer_fits n got l b = said_fits n got l b (answered n got)

-- so too after one piece, from any state
first_held : (k : ℕ) (s : List ℕ) → FirstSmall s → FirstSmall (take k s)
first_held zero s h = omega arith
first_held (suc k) [] h = h
first_held (suc k) (b ∷ s) h = h

first_joined : (a b : List ℕ) → FirstSmall a → FirstSmall b → FirstSmall (a ++ b)
first_joined [] b p q = q
first_joined (x ∷ a) b p q = p

fed_fits : (store piece : List ℕ) (held : ℕ) → FirstSmall store → FirstSmall piece → Fits (words_of dictionary_shape (fed store piece (More held)))
fed_fits store piece held p q = go (dec_lt (room store) held)
  where
    go : Dec (room store < held) → Fits (words_of dictionary_shape (fed store piece (More held)))
    go (yes h) = rw (past_room store piece held h) (omega arith)
    go (no h) =
        let first = first_joined (take held store) piece (first_held held store p) q in
        rw (fed_answers store piece held (omega arith)) (answer_fits (room store) (take held store ++ piece) (room_within store) first)

-- THE STRIP KEEPS ITS LENGTH
words_length : (words : List ℕ) → length (bytes_of_words words) ≡ 4 * length words
unfolding bytes_of_words
words_length [] = refl
words_length (n ∷ words) = length-append (numeral 4 n) (bytes_of_words words) ∙ omega (arith, bytes_length 4 n, words_length words)

kept_length : (strip : List ℕ) (r : Answer) → strip_bytes ≤ length strip → length (strip_after strip (words_of dictionary_shape r)) ≡ length strip
unfolding strip_after
kept_length strip (gives c v p) h =
    let six = words_of dictionary_shape (gives c v p) in
    rw (le-ltb (length strip) strip_bytes h)
    (length-append (bytes_of_words six) (drop strip_bytes strip) ∙ omega (arith, words_length six, length-drop strip_bytes strip))

-- and the code comes back
on_code : (strip : List ℕ) (r : Answer) → strip_bytes ≤ length strip → returned strip (words_of dictionary_shape r) ≡ code_of r
unfolding returned
on_code strip r h = rw (le-ltb (length strip) strip_bytes h) (first_is dictionary_shape r)

-- a choice between two that are the same
either_way : (b : Bool) (l : List ℕ) → cond b l l ≡ l
either_way true l = refl
either_way false l = refl

-- ONE CALL
module _ (store piece strip : List ℕ) (code : ℕ) (after left : List ℕ) (promised : FeedPromise store piece strip code after left) where
  -- with a short strip 40, and all as it was
  pub feed_no_strip : length strip < strip_bytes → (code ≡ 40) × (after ≡ strip) × (left ≡ store)
  unfolding returned strip_after filled_after
  feed_no_strip h =
      let s = lt-ltb (length strip) strip_bytes h in (
        promised.returns ∙ rw s,
        promised.leaves ∙ rw s (either_way (wants_more strip) strip),
        promised.stores ∙ rw s (either_way (wants_more strip) store),
      )

  module _ (enough : strip_bytes ≤ length strip) where
    -- with a settled one its own code, and all as it was
    pub feed_settled : (word strip 0 ≡ 3 → ⊥) → (code ≡ word strip 0) × (after ≡ strip) × (left ≡ store)
    unfolding returned
    feed_settled m =
        let e = ne_eqb (code_in strip) 3 m in
        (promised.returns ∙ rw (e, le-ltb (length strip) strip_bytes enough), promised.leaves ∙ rw e, promised.stores ∙ rw e)

    -- and at "more" the words of the answer, and the piece in the store
    feed_left : word strip 0 ≡ 3 → Left strip (feed_words store piece strip) code after
    feed_left m =
        let e = eq-eqb (code_in strip) 3 m in
        record { returns = promised.returns ∙ rw e; leaves = promised.leaves ∙ rw e }

    pub feed_reads : word strip 0 ≡ 3 → FirstSmall store → FirstSmall piece → words_in after ≡ feed_words store piece strip
    feed_reads m p q = carried dictionary_shape (fed store piece (More (held_in strip))) (feed_left m) enough (fed_fits store piece (held_in strip) p q)

    pub feed_stores : word strip 0 ≡ 3 → left ≡ store_after store piece (More (word strip 1))
    unfolding filled_after
    feed_stores m = promised.stores ∙ rw (eq-eqb (code_in strip) 3 m, le-ltb (length strip) strip_bytes enough)

-- ANY RUN OF CALLS: what a strip and a store have in them after the bytes received
record Stands (n : ℕ) (got strip store : List ℕ) : Type 0 where
  long : strip_bytes ≤ length strip
  reads : words_in strip ≡ words_of dictionary_shape (answer n got)
  received : Received n got (answer n got) store

-- its code and, of "more", the bytes held
code_is_read : {n : ℕ} {got strip store : List ℕ} → Stands n got strip store → word strip 0 ≡ code_of (answer n got)
code_is_read {n} {got} s = ap (λ (l : List ℕ). get_or l 0 0) s.reads ∙ first_is dictionary_shape (answer n got)

-- one piece more, and the code that is returned
abbrev Goes : (n : ℕ) (got : List ℕ) (code : ℕ) (strip store : List ℕ) → Type 0
Goes n got code strip store = (code ≡ code_of (answer n got)) × Stands n got strip store

next_stands : (n : ℕ) (got piece strip store : List ℕ) {code : ℕ} {after left : List ℕ} → n ≤ limit → Bytes (got ++ piece)
    → Stands n got strip store → FeedPromise store piece strip code after left → Goes n (got ++ piece) code after left
next_stands n got piece strip store {code} {after} {left} l b s f = go (answered n got) refl
  where
    -- at an answer that is not "more" nothing moves
    rest : (code_of (answer n got) ≡ 3 → ⊥) → Goes n (got ++ piece) code after left
    rest final =
        let same = feed_settled store piece strip code after left f s.long (λ z. final (sym (code_is_read s) ∙ z)) in
        let stays = answer_stays n got piece l final in (
          same.0 ∙ code_is_read s ∙ ap code_of (sym stays),
          record {
            long = rw same.1 s.long;
            reads = rw (same.1, stays) s.reads;
            received = rw (same.2, stays) (rest_received n got piece l final s.received);
          },
        )

    fed_now : {w : ℕ} → answer n got ≡ more (length got) w → Goes n (got ++ piece) code after left
    fed_now e =
        let waits : word strip 0 ≡ 3 = code_is_read s ∙ ap code_of e in
        let held : word strip 1 ≡ length got = ap (λ (t : List ℕ). get_or t 1 0) (s.reads ∙ ap (words_of dictionary_shape) e) in
        let stored = feed_stores store piece strip code after left f s.long waits in
        let got-it = more_received n got piece l (rw e at s.received) (rw held at stored) in
        let is : fed store piece (More (word strip 1)) ≡ answer n (got ++ piece) = rw held got-it.answers in
        let written : Left strip (words_of dictionary_shape (answer n (got ++ piece))) code after = rw is at (feed_left store piece strip code after left f s.long waits) in
        let there : length after ≡ length strip = ap length written.leaves ∙ kept_length strip (answer n (got ++ piece)) s.long in (
          written.returns ∙ on_code strip (answer n (got ++ piece)) s.long,
          record {
            long = rw there s.long;
            reads = carried dictionary_shape (answer n (got ++ piece)) written s.long (answer_fits n (got ++ piece) l (b 0));
            received = rw got-it.answers at got-it;
          },
        )

    go : {r : Answer} → Says n got r → answer n got ≡ r → Goes n (got ++ piece) code after left
    go (wanting p w) e = fed_now e
    go (overflowing p w) e = let c = ap code_of e in rest (λ z. omega arith)
    go (accepted g) e = let c = ap code_of e in rest (λ z. omega arith)
    go (refused r) e = let c = ap code_of e in rest (λ z. omega (arith, checks_code (take n got) (is_due (take n got) r.due)))

-- the bytes of a beginning are bytes
front_bytes : (a t : List ℕ) → Bytes (a ++ t) → Bytes a
front_bytes a t b k = go (dec_lt k (length a))
  where
    go : Dec (k < length a) → get_or a k 0 < 256
    go (yes p) = rw (List·getD-append a t 0 k p) at (b k)
    go (no p) = rw (get_or-eq_default a 0 {n = k} (omega arith)) (omega arith)

all_stand : (n : ℕ) (got : List ℕ) → n ≤ limit → {strip store after left : List ℕ} {pieces : List (List ℕ)} → Bytes (got ++ bytes_of pieces)
    → Stands n got strip store → Runs strip store pieces after left → Stands n (got ++ bytes_of pieces) after left
unfolding bytes_of
all_stand n got l b s no_more = rw (append-nil got) s
all_stand n got l b s (one_more {strip = strip} {store = store} {piece = piece} {pieces = pieces} f rest) =
    let all : Bytes (got ++ piece ++ bytes_of pieces) = rw append_assoc b in
    rw append_assoc at (all_stand n (got ++ piece) l all (next_stands n got piece strip store l (front_bytes (got ++ piece) (bytes_of pieces) all) s f).1 rest)

-- THE THEOREMS: from a strip that was begun
module _ (lent : List ℕ) (enough : strip_bytes ≤ length lent) {first : ℕ} {strip : List ℕ} (begun : BeginPromise lent first strip)
    (store : List ℕ) {after left : List ℕ} {pieces : List (List ℕ)} (bytes : Bytes (bytes_of pieces)) (run : Runs strip store pieces after left) where
  begins_so : Stands (room store) [] strip store
  begins_so =
      let is : more 0 1 ≡ answer (room store) [] = (first_received store).answers in
      let there : length strip ≡ length lent = ap length begun.leaves ∙ kept_length lent (more 0 1) enough in
      record {
        long = rw there enough;
        reads = carried dictionary_shape (more 0 1) begun enough (omega arith) ∙ ap (words_of dictionary_shape) is;
        received = rw is at (first_received store);
      }

  stands : Stands (room store) (bytes_of pieces) after left
  stands = all_stand (room store) [] (room_within store) bytes begins_so run

  -- the six words are the answer's to all bytes received, however they were cut
  pub pieces_read : words_in after ≡ words_of dictionary_shape (answer (room store) (bytes_of pieces))
  pieces_read = stands.reads

  pub pieces_exactly : (six : List ℕ) → (words_in after ≡ six) ↔ PiecesSay (room store) (bytes_of pieces) six
  pieces_exactly six = (λ e. rw (sym pieces_read ∙ e) at (says (answered (room store) (bytes_of pieces))), to)
    where
      to : {six : List ℕ} → PiecesSay (room store) (bytes_of pieces) six → words_in after ≡ six
      to (says r) = pieces_read ∙ ap (words_of dictionary_shape) (said (room store) (bytes_of pieces) r)

  -- the store holds the first k of them, where no fewer settle the verdict
  pub pieces_hold : (k : ℕ) → k ≤ room store → k ≤ length (bytes_of pieces) → NoFewer k (bytes_of pieces) → take k left ≡ take k (bytes_of pieces)
  pieces_hold = stands.received.kept

  -- and the next call returns the code of the answer to one piece more
  pub pieces_return : {code : ℕ} {next mid piece : List ℕ} → Bytes (bytes_of pieces ++ piece) → FeedPromise left piece after code next mid
      → code ≡ code_of (answer (room store) (bytes_of pieces ++ piece))
  pieces_return {piece = piece} b f = (next_stands (room store) (bytes_of pieces) piece after left (room_within store) b stands f).0
