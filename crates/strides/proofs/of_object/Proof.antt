-- `strides::of_object` meets its contract: 53 stands for 22, and every other refusal for itself. Assumes nothing.
use Rattle.rules.proofs.Prelude.{◌≡◌, refl, false, [], ◌∷◌, eqb, rules}
use types.Run.{OneOf, miss}
use denote.Enum.Declared.{tag_of}
use Rattle.layer.specs.contracts.Refusal.{the_type}
use Rattle.dictionary.specs.declared.Refusal.{Refusal as OfDictionary}
use Rattle.dictionary.specs.declared.Refusal.TheVariants as dictionary
use Rattle.dictionary.specs.Answers.{refusal_number as dictionary_number}
use Rattle.layer.specs.declared.Refusal.{Refusal as OfLayer}
use Rattle.layer.specs.declared.Refusal.TheVariants as layer
use Rattle.layer.specs.Answers.{refusal_number}
use Rattle.strides.proofs.of_object.Statement.{statement}
use Rattle.strides.proofs.of_object.Tie as tie

never_22 : (r : OfDictionary) → eqb (dictionary_number r) 22 ≡ false
never_22 dictionary.TooLong = refl
never_22 dictionary.Empty = refl
never_22 dictionary.Version = refl
never_22 dictionary.Short = refl
never_22 dictionary.Sum = refl
never_22 dictionary.FirstOffset = refl
never_22 (dictionary.NotUtf8 p) = refl
never_22 (dictionary.Range k) = refl
never_22 (dictionary.NotAbove k) = refl
never_22 (dictionary.CutText p) = refl

-- whatever is not the one case has another number
others : (r : OfLayer) → OneOf (0 ∷ 1 ∷ 2 ∷ 4 ∷ 5 ∷ 6 ∷ 7 ∷ 8 ∷ 9 ∷ []) (tag_of the_type r) → eqb (refusal_number r) 22 ≡ false
others (layer.Dictionary r) k = never_22 r
others layer.TooLong k = refl
others layer.Empty k = refl
others layer.BasicType k = absurd (miss (0 ∷ 1 ∷ 2 ∷ 4 ∷ 5 ∷ 6 ∷ 7 ∷ 8 ∷ 9 ∷ []) 3 tt k)
others layer.Short k = refl
others layer.Sum k = refl
others (layer.NoSuchEntry i) k = refl
others (layer.NotAbove i) k = refl
others (layer.Offset i) k = refl
others (layer.EmptyChild i) k = refl

pub of_object_spec : {M : Type 1} → statement M
of_object_spec =
    tie.close
    (tie.spec
    (λ c. search rules)
    (λ c. rw c.in-BasicType.is)  -- returns
    (λ c. rw (others c.args.r c.in_default.in_default-own.keys2)))  -- returns-2
