-- What the steps of the layer's check answer each other, in the words of Object.antt of `layer`. Assumes nothing.
use Rattle.std.specs.Prelude.{◌≡◌, List, ℕ, Result, Ok, Err}
use Rattle.rules.specs.Rules.Found.{pass}
use Rattle.dictionary.specs.declared.Header.{Header}
use Rattle.layer.specs.declared.Layer.{Layer}
use Rattle.layer.specs.declared.Refusal.{Refusal}
use Rattle.layer.specs.Object.{checks}
use Rattle.layer.specs.Steps.{stop_of, LayerOf}
use Rattle.fields.specs.Steps.{Over}
use Rattle.object.specs.declared.Message.{Message}

-- all checks of the layer, over such a dictionary
abbrev pub CheckedOf : List ℕ → List ℕ → Result Layer Refusal → Type 0
CheckedOf d o (Err r) = checks d o ≡ stop_of r
CheckedOf d o (Ok l) = LayerOf o l × (checks d o ≡ pass)

-- a dictionary and an object that passed all checks, with the numbers of both
pub record Opened (d : List ℕ) (h : Header) (o : List ℕ) (l : Layer) : Type 0 where
  pub over : Over d h
  pub layered : LayerOf o l
  pub passes : checks d o ≡ pass

abbrev pub MessageOf : List ℕ → List ℕ → Message → Type 0
MessageOf d o m = Opened d m.header o m.layer

abbrev pub OpeningOf : List ℕ → List ℕ → Result Message Refusal → Type 0
OpeningOf d o (Err r) = checks d o ≡ stop_of r
OpeningOf d o (Ok m) = MessageOf d o m
