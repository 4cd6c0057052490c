-- Document 01's two length cases, at the limit of request d): a dictionary and an object of just that length are read, whatever stands after
-- their ends, and those of one byte more get 10 and 20, the latter as a tree, too. No program has room to run these. Assumes nothing.
use Rattle.rules.proofs.Prelude.{◌≡◌, ap, ◌∙◌, List, [], ◌∷◌, ◌++◌, ℕ, ◌+◌, arith, length, lt-ltb, length-append, accept, refuse, gives, code_of, first, let_through}
use Rattle.dictionary.specs.Limits.{limit}
use Rattle.dictionary.specs.Dictionary as dictionary
use Rattle.metadata.proofs.Appended.{appended}
use Rattle.metadata.proofs.Raised as dictionary-raised
use Rattle.layer.specs.Object as object
use Rattle.object.proofs.Raised as object-raised
use Rattle.nodes.specs.Tree as tree
use Rattle.nodes.specs.Tree.{◌and_then◌}
use Rattle.lookup.specs.ByName.{lookup}
use Rattle.lookup.proofs.Appended.{lookup_appended}
use Rattle.host.specs.Worked.{D, P, flow}
use Rattle.host.proofs.Bites.{none, at}
use Rattle.host.proofs.Worked.{worked}

pub longest_dictionary : (t : List ℕ) → length (none ++ t) ≡ limit → dictionary.verdict (none ++ t) ≡ accept (0 ∷ 3 ∷ [])
longest_dictionary t l =
    let row = ap (at 0) worked in
    let is : dictionary.verdict none ≡ accept (0 ∷ 3 ∷ []) = cc in
    let code = ap code_of is in
    appended none t (omega arith) (λ e. omega arith) (λ e. omega arith) ∙ is

pub longer_dictionary : (d : List ℕ) → length d ≡ limit + 1 → dictionary.verdict d ≡ refuse 10 0
longer_dictionary d l = dictionary-raised.verdict_past limit d (omega arith)

pub longest_object : (u : List ℕ) → length (P ++ u) ≡ limit → lookup D (P ++ u) flow ≡ accept (0 ∷ 0 ∷ 8 ∷ 10 ∷ [])
longest_object u l =
    let row = ap (at 7) worked in
    let is : lookup D P flow ≡ accept (0 ∷ 0 ∷ 8 ∷ 10 ∷ []) = cc in
    let code = ap code_of is in
    let longer = length-append P u in
    lookup_appended D [] P u flow (omega (arith, dictionary-raised.raised)) (omega arith) (omega arith) ∙ is

pub longer_object : (d o : List ℕ) {n e : ℕ} → dictionary.verdict d ≡ accept (n ∷ e ∷ []) → length o ≡ limit + 1 → object.verdict d o ≡ refuse 20 0
unfolding dictionary.verdict_within
longer_object d o v l = object-raised.verdict_past limit d o (let_through (dictionary.checks d) _ v).0 (omega arith)

pub longer_tree : (d v : List ℕ) {n e : ℕ} → dictionary.verdict d ≡ accept (n ∷ e ∷ []) → length v ≡ limit + 1 → tree.verdict d v ≡ gives 20 (0 ∷ []) 0
unfolding dictionary.verdict_within tree.verdict_at tree.checks_at tree.here ◌and_then◌ first
longer_tree d v a l = rw ((let_through (dictionary.checks d) _ a).0, lt-ltb limit (length v) (omega arith))
