-- No word of a path's answer is too large for its four bytes, so that a strip carries the answer whole, where the value and the lent words are
-- below 4,294,967,296 (of the empty path the end is the value's length, and 53 has the step's number). Assumes nothing.
use Rattle.rules.proofs.Prelude.{◌≡◌, List, ℕ, ◌+◌, ◌≤◌, ◌<◌, arith, length, Answer, code_of}
use Rattle.width.specs.Limits.{u32_max}
use Rattle.part.proofs.Laws.{part_length}
use Rattle.metadata.proofs.Fits as dictionary-fits
use Rattle.metadata.proofs.Refuses as dictionary-refuses
use Rattle.layout.specs.Layout.{count, start}
use Rattle.layout.proofs.Laws.{count_below}
use Rattle.encoding.specs.Encoding.{list_widths}
use Rattle.list.proofs.Fits.{refusal_fits}
use Rattle.object.proofs.Refuses.{is_due}
use Rattle.object.proofs.Fits.{checks_code, layer_small}
use Rattle.lookup.proofs.Finds as lookup
use Rattle.elements.specs.Element.{widths}
use Rattle.elements.specs.Meaning as list
use Rattle.elements.specs.Meaning.Refusal.{too_long, empty, no_list, layer}
use Rattle.elements.proofs.Means as elements
use Rattle.steps.specs.Path.{Step}
use Rattle.steps.specs.Meaning as path
use Rattle.parsing.specs.Meaning as parsing
use Rattle.parsing.specs.Meaning.Refusal.{not_text, leading_dot_law, met, no_room}
use Rattle.lookup.specs.declared.Found.{Found as Spot}
use Rattle.path.specs.Path.{whole, handed, by_path}
use Rattle.path.specs.Meaning.{Ends, Says}
use Rattle.path.specs.Meaning.Ends.{arrived, by_name, by_index, no_name, no_index, no_object, no_list as not-list, bad_object, bad_list}
use Rattle.path.specs.Meaning.Says.{bad_path, bad_dictionary, walked}
use Rattle.path.proofs.Means as means
use Rattle.strip.specs.Shapes.{words_of as strip_words, lookup_shape, strip_bytes}
use Rattle.strip.specs.Reading.{words_in}
use Rattle.strip.proofs.Carries.{Fits, carried}
use Rattle.path_call.specs.Promises.{path_words, PathPromise}

-- a walk's answer: its words, and that its number is below those of the path's own refusals and is not the strip's
abbrev Walked : Answer → Type 0
Walked r = Fits (strip_words lookup_shape r) × (code_of r < 70) × (code_of r ≡ 40 → ⊥)

-- there are fewer elements than bytes of a list's header
few_elements : (s : List ℕ) → count (widths s) s < start (widths s) s
unfolding list_widths
few_elements s = count_below (widths s) s (omega arith)

list_fits : (s : List ℕ) {c p : ℕ} → list.Refusal s c p → (c < 63) × (c ≡ 40 → ⊥) × (p < 4294967296)
list_fits s (too_long a) = omega arith
list_fits s (empty a b) = omega arith
list_fits s (no_list a b t) = omega arith
list_fits s (layer a b t r) = let z = refusal_fits (few_elements s) r in omega (arith, z)

module _ (d v : List ℕ) (short : length v < 4294967296) where
  -- where a walk has come to
  record Small (at : Spot) : Type 0 where
    field_fits : at.field < 4294967296
    id_fits : at.id < 4294967296
    rises : at.start ≤ at.end
    inside : at.end ≤ length v

  ends_fit : {n : ℕ} {at : Spot} {xs : List Step} {r : Answer} → n + length xs < 4294967296 → Small at → Ends d v n at xs r → Walked r
  unfolding u32_max
  ends_fit few small arrived = ((omega arith), omega arith, λ z. omega arith)
  ends_fit few small (by_name {k = k} {a = a} {e = e} {at = at} {q = q} f more) =
      let s = handed v at in
      let l = layer_small d s f.accepted in
      let u = dictionary-fits.accepted_small d f.accepted.named.headed.placed.counted.typed.sized.over in
      let i = lookup.found_inside d s q _ _ _ _ f in
      let p = part_length v at.start at.end small.rises small.inside in
      ends_fit (omega (arith, few))
      (record { field_fits = omega (arith, f.is_field, l); id_fits = omega (arith, f.is_entry, u); rises = omega (arith, i); inside = omega (arith, i, p, small) }) more
  ends_fit few small (by_index {m = m} {at = at} f more) =
      let s = handed v at in
      let i = elements.inside s m _ _ f in
      let p = part_length v at.start at.end small.rises small.inside in
      let h = f.accepted.layer.headed.counted.start_fits in
      ends_fit (omega (arith, few))
      (record { field_fits = omega (arith, f.is_element, few_elements s, h); id_fits = omega arith; rises = omega (arith, i); inside = omega (arith, i, p, small) }) more
  ends_fit few small (no_name none) = (omega arith, omega arith, λ z. omega arith)
  ends_fit few small (no_index none) = (omega arith, omega arith, λ z. omega arith)
  ends_fit few small (no_object r) = (omega (arith, few), omega arith, λ z. omega arith)
  ends_fit few small (not-list r) = (omega (arith, few), omega arith, λ z. omega arith)
  ends_fit few small (bad_object {at = at} r other) = let z = checks_code d (handed v at) (is_due d (handed v at) r) in (omega (arith, z), omega (arith, z), λ e. omega (arith, z))
  ends_fit few small (bad_list {at = at} r other) = let z = list_fits (handed v at) r in (omega (arith, z), omega (arith, z), z.1)

-- the path's own refusals have numbers of their own
wrong_code : {w : List ℕ} {c : ℕ} → path.Wrong w c → (70 ≤ c) × (c < 77)
wrong_code path.Wrong.trailing_dot = omega arith
wrong_code (path.Wrong.no_name e) = omega arith
wrong_code path.Wrong.closes_nothing = omega arith
wrong_code (path.Wrong.unclosed n) = omega arith
wrong_code (path.Wrong.neither s n) = omega arith

met_code : {w : List ℕ} {c : ℕ} → path.Refused w c → (70 ≤ c) × (c < 77)
met_code (path.Refused.here w) = wrong_code w
met_code (path.Refused.later s r) = met_code r

pub path_code : {path names words : List ℕ} {c : ℕ} → parsing.Refusal path names words c → (70 ≤ c) × (c < 77)
path_code (not_text n) = omega arith
path_code (leading_dot_law t l) = omega arith
path_code (met t n r) = met_code r
path_code (no_room t n s l) = omega arith

module _ (d v path names words : List ℕ) (short : length v < 4294967296) (few : length words ≤ 4294967296) where
  pub walk_fits : {xs : List Step} {r : Answer} → parsing.Accepted path names words xs → Ends d v 0 (whole v) xs r → Walked r
  walk_fits {xs} a e =
      let rows = a.room.rows in
      ends_fit d v short (omega (arith, rows, few)) (record { field_fits = omega arith; id_fits = omega arith; rises = omega arith; inside = omega arith }) e

  pub answer_fits : {r : Answer} → Says d v path names words r → Fits (strip_words lookup_shape r) × (code_of r ≡ 40 → ⊥)
  answer_fits (bad_path r) = let z = path_code r in (omega (arith, z), λ e. omega (arith, z))
  answer_fits (bad_dictionary a r) = let z = dictionary-fits.checks_code d (dictionary-refuses.is_due d r) in (omega (arith, z), λ e. omega (arith, z))
  answer_fits (walked a good e) = let z = walk_fits a e in (z.0, z.2)

  pub path_carried : {strip : List ℕ} {code : ℕ} {after names' words' : List ℕ} → PathPromise d v path names words strip code after names' words' → strip_bytes ≤ length strip
      → words_in after ≡ path_words d v path names words
  path_carried promised enough =
      carried lookup_shape (by_path d v path names words) promised.strip_left enough (answer_fits (means.says d v path names words)).0
