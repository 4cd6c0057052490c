-- Bytes added after the dictionary, after the object or after both, each within the limit, change no answer but empty and short (11, 13, 21
-- and 23). With the laws by which each of the object's numbers stays as it is, for the layers above. Assumes nothing.
use Rattle.rules.proofs.Prelude.{◌≡◌, refl, sym, ap, ◌∙◌, Bool, true, false, ◌||◌, List, ◌++◌, ℕ, ◌+◌, ◌-◌, ◌*◌, ◌≤◌, ◌<◌, arith, ne_eqb, eqb, length}
use Rattle.rules.proofs.Prelude.{length-append, List·getD-append, Found, Kept, Stays, code_of, first, each, ◌or_else◌, pass, ◌&◌, false_true, passed, each_same}
use Rattle.rules.proofs.Prelude.{each_alike, kept, same_stays, stays_same, stays_more, stays_then, stays_answer}
use Rattle.width.proofs.Laws.{le_append_at}
use Rattle.dictionary.specs.Limits.{limit}
use Rattle.dictionary.specs.Dictionary as dictionary
use Rattle.metadata.proofs.Means as dictionary-means
use Rattle.metadata.proofs.Appended as dictionary-appended
use Rattle.dictionary.specs.declared.Header.{Header}
use Rattle.std.specs.Prelude.{Result, Ok, Err}
use Rattle.dictionary.specs.declared.Refusal as dictionary-refusal
use Rattle.layer.specs.declared.Refusal.{Refusal}
use Rattle.object.specs.declared.Message.{Message}
use Rattle.layer.specs.declared.Layer.{Layer}
use Rattle.layer.specs.Object.{basic_type, offset_width, id_width, count_width, count, ids_start, id, offsets_start, offset, start, end, field_name}
use Rattle.layer.specs.Object.{head_rules, name_rules, offset_rules, checks, checks_within, layer, verdict, verdict_within}
use Rattle.layer.specs.Answers.{refusal_number}
use Rattle.layer.specs.Steps.{LayerOf}
use Rattle.layer.proofs.Laws.{ids_before, offsets_before, id_inside, offset_inside}
use Rattle.object.specs.Steps.{OpeningOf}
use Rattle.object.proofs.Means.{good}
use Rattle.object.proofs.Pinned.{layer_is, message_by, open_pinned}

-- the object's refusals that more bytes may lift, empty and short; and the dictionary's with them
abbrev pub lifted_here : ℕ → Bool
lifted_here c = eqb c 21 || eqb c 23

abbrev pub lifted : ℕ → Bool
lifted c = dictionary-appended.lifted c || lifted_here c

-- a number that more bytes do not lift
pub record Settled (c : ℕ) : Type 0 where
  pub not_empty_dictionary : c ≡ 11 → ⊥
  pub not_short_dictionary : c ≡ 13 → ⊥
  pub not_empty : c ≡ 21 → ⊥
  pub not_short : c ≡ 23 → ⊥

pub unlifted : (c : ℕ) → Settled c → lifted c ≡ false
unlifted c s =
    rw (ne_eqb c 11 s.not_empty_dictionary, ne_eqb c 13 s.not_short_dictionary, ne_eqb c 21 s.not_empty, ne_eqb c 23 s.not_short)

-- the number of what `open` answers
abbrev pub opening_code : Result Message Refusal → ℕ
opening_code (Err r) = refusal_number r
opening_code (Ok m) = 0

never : {h : Header} {q : dictionary-refusal.Refusal} → ◌≡◌ {A = Result Header dictionary-refusal.Refusal} (Ok h) (Err q) → ⊥
never e = let z : ◌≡◌ {A = ℕ} 0 1 = cc in omega arith

neither : (a b : Bool) → (a || b) ≡ false → (a ≡ false) × (b ≡ false)
neither false b e = (refl, e)
neither true b e = false_true (cc)

-- the layer's checks after the dictionary's, and after the header's
abbrev pub fields : List ℕ → List ℕ → Found
fields d o = first (each (name_rules d o) (count o)) or_else first (each (offset_rules o) (count o))

abbrev pub own : List ℕ → List ℕ → Found
own d o = first (head_rules o) or_else fields d o

module _ (o u : List ℕ) where
  -- EACH NUMBER STAYS where the bytes that hold it are there
  module _ (h : 1 ≤ length o) where
    pub type_same : basic_type (o ++ u) ≡ basic_type o
    unfolding basic_type
    type_same = rw (List·getD-append o u 0 0 h)

    offset_width_same : offset_width (o ++ u) ≡ offset_width o
    unfolding offset_width
    offset_width_same = rw (List·getD-append o u 0 0 h)

    id_width_same : id_width (o ++ u) ≡ id_width o
    unfolding id_width
    id_width_same = rw (List·getD-append o u 0 0 h)

    count_width_same : count_width (o ++ u) ≡ count_width o
    unfolding count_width
    count_width_same = rw (List·getD-append o u 0 0 h)

    pub ids_same : ids_start (o ++ u) ≡ ids_start o
    unfolding ids_start
    ids_same = rw count_width_same

  module _ (h : ids_start o ≤ length o) where
    some : 1 ≤ length o
    unfolding ids_start
    some = omega arith

    pub count_same : count (o ++ u) ≡ count o
    unfolding count ids_start
    count_same = rw (count_width_same some, le_append_at (count_width o) 1 o u h)

    pub offsets_same : offsets_start (o ++ u) ≡ offsets_start o
    unfolding offsets_start
    offsets_same = rw (ids_same some, id_width_same some, count_same)

    pub start_same : start (o ++ u) ≡ start o
    unfolding start
    start_same = rw (offsets_same, offset_width_same some, count_same)

  module _ (h : start o ≤ length o) where
    pub counted : ids_start o ≤ length o
    counted = omega (arith, ids_before o, offsets_before o)

    pub id_same : (k : ℕ) → k < count o → id (o ++ u) k ≡ id o k
    unfolding id
    id_same k p =
        rw (id_width_same (some counted), ids_same (some counted), le_append_at (id_width o) (ids_start o + id_width o * k) o u (omega (arith, offsets_before o, id_inside o (id_width o) k refl p)))

    pub offset_same : (k : ℕ) → k ≤ count o → offset (o ++ u) k ≡ offset o k
    unfolding offset
    offset_same k p =
        rw (offset_width_same (some counted), offsets_same counted, le_append_at (offset_width o) (offsets_start o + offset_width o * k) o u (omega (arith, offset_inside o (offset_width o) k refl p)))

    pub end_same : end (o ++ u) ≡ end o
    unfolding end
    end_same = rw (count_same counted, start_same counted, offset_same (count o) (omega arith))

    offset_rules_same : (k : ℕ) → k < count o → offset_rules (o ++ u) k ≡ offset_rules o k
    unfolding offset_rules
    offset_rules_same k p = rw (count_same counted, offset_same k (omega arith), offset_same (count o) (omega arith))

    pub layer_same : layer (o ++ u) ≡ layer o
    layer_same = rw (count_same counted, start_same counted, end_same)

  -- THE HEADER'S CHECKS, one by one
  pub head_kept : length (o ++ u) ≤ limit → Kept lifted_here (head_rules o) (head_rules (o ++ u))
  head_kept l =
      let more = length-append o u in
      omega arith & λ f20.
      omega arith & λ f21.
      let t = type_same f21 in
      let i = ids_same f21 in
      omega arith & λ f22.
      omega arith & λ f23.
      let a = offsets_same f23 in
      let s = start_same f23 in
      omega arith & λ f24.
      omega arith & λ f24'.
      omega arith & λ f23'.
      let e = end_same f23' in omega arith & λ f24''. omega arith & λ f23''. tt

module _ (d t o u : List ℕ) where
  -- OVER AN ACCEPTED DICTIONARY
  module _ (over : dictionary.checks d ≡ pass) where
    module _ (placed : start o ≤ length o) where
      pub field_same : (k : ℕ) → k < count o → id o k < dictionary.count d → field_name (d ++ t) (o ++ u) k ≡ field_name d o k
      unfolding field_name
      field_same k p i =
          let g = dictionary-means.good d over in
          rw (id_same o u placed k p, dictionary-appended.name_same d t (omega arith) (id o k) i)

      -- a field's row is the same where the id before is an entry
      name_kept : (k : ℕ) → k < count o → (0 < k → id o (k - 1) < dictionary.count d) → Kept (λ _. false) (name_rules d o k) (name_rules (d ++ t) (o ++ u) k)
      unfolding name_rules
      name_kept k p before =
          let g = dictionary-means.good d over in
          let last : 0 < k → field_name (d ++ t) (o ++ u) (k - 1) ≡ field_name d o (k - 1) = λ z. field_same (k - 1) (omega arith) (before z) in
          rw (dictionary-appended.count_same d t (omega arith), id_same o u placed k p)
          ((refl, refl, (λ f. f), (λ h. h))
          & λ entry.
          let this = field_same k p entry in
          (refl, refl, (λ f z. rw (last z, this) (f z)), λ h. (h.0, rw (last h.0, this) h.1))
          & λ _. tt)

      names_same : first (each (name_rules d o) (count o)) ≡ first (each (name_rules (d ++ t) (o ++ u)) (count o))
      unfolding name_rules
      names_same =
          each_alike (name_rules d o) (name_rules (d ++ t) (o ++ u)) (count o) λ k p all.
          stays_same _ _ (kept (λ _. false) _ _ (name_kept k p (λ z. (all (k - 1) (omega arith)).0)))

      pub fields_same : fields (d ++ t) (o ++ u) ≡ fields d o
      fields_same =
          rw (count_same o u (counted o u placed), ← names_same, each_same (offset_rules (o ++ u)) (offset_rules o) (count o) (offset_rules_same o u placed))

    pub own_kept : length (o ++ u) ≤ limit → Stays lifted_here (own d o) (own (d ++ t) (o ++ u))
    own_kept l =
        stays_then lifted_here (first (head_rules o)) (first (head_rules (o ++ u))) (fields d o) (fields (d ++ t) (o ++ u))
        (kept lifted_here (head_rules o) (head_rules (o ++ u)) (head_kept o u l)) λ e.
        let head = passed (head_rules o) e in
        rw (fields_same (omega arith)) (same_stays lifted_here (fields d o))

  -- ALL CHECKS
  module _ (dictionary-limit : length (d ++ t) ≤ limit) (object-limit : length (o ++ u) ≤ limit) where
    pub checks_kept : Stays lifted (checks d o) (checks (d ++ t) (o ++ u))
    unfolding checks_within
    checks_kept =
        stays_then lifted (dictionary.checks d) (dictionary.checks (d ++ t)) (own d o) (own (d ++ t) (o ++ u))
        (stays_more dictionary-appended.lifted lifted (dictionary.checks d) _ (λ c e. (neither _ (lifted_here c) e).0) (dictionary-appended.checks_kept d t dictionary-limit)) λ over.
        stays_more lifted_here lifted (own d o) _ (λ c e. (neither (dictionary-appended.lifted c) _ e).1) (own_kept over object-limit)

    -- THE VERDICT
    pub verdict_appended : Settled (code_of (verdict d o)) → verdict (d ++ t) (o ++ u) ≡ verdict d o
    unfolding verdict_within
    verdict_appended s =
        stays_answer lifted (checks d o) (checks (d ++ t) (o ++ u)) _ _ checks_kept (λ e. let g = good d o e in layer_same o u (omega arith)) (unlifted _ s)

    -- `open`
    layer_kept : (l l' : Layer) → start o ≤ length o → LayerOf o l → LayerOf (o ++ u) l' → l' ≡ l
    layer_kept l l' placed a b =
        let counts = counted o u placed in
        let one = some o u counts in
        sym (layer_is (o ++ u) l' b)
        ∙ rw (id_width_same o u one, offset_width_same o u one, count_same o u counts, ids_same o u one, offsets_same o u counts, start_same o u counts)
        (rw (end_same o u placed) (layer_is o l a))

    pub open_appended : (r r' : Result Message Refusal) → Settled (opening_code r) → OpeningOf d o r → OpeningOf (d ++ t) (o ++ u) r' → r' ≡ r
    open_appended (Err q) r' s a b = open_pinned (d ++ t) (o ++ u) r' (Err q) b ((rw a at checks_kept) (unlifted _ s))
    open_appended (Ok m) (Err q) s a b =
        let passing : checks (d ++ t) (o ++ u) ≡ pass = rw a.passes at checks_kept in
        let z : ◌≡◌ {A = ℕ} 0 1 = cc in absurd (omega arith)
    open_appended (Ok m) (Ok m') s a b =
        let was : Result Header dictionary-refusal.Refusal = Ok m.header in
        let is : Result Header dictionary-refusal.Refusal = Ok m'.header in
        let heads : is ≡ was = dictionary-appended.checked_appended d t was is dictionary-limit never never a.over b.over in
        let g = good d o a.passes in
        ap Ok (message_by m' m (cc) (layer_kept m.layer m'.layer (omega arith) a.layered b.layered))
