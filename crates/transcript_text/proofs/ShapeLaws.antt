-- Values of several shapes: what is read is spelled so, and what is spelled so is read.
use Rattle.std.proofs.Common.{◌≡◌, ℕ, List, [], ◌∷◌, ◌++◌, Some}
use Rattle.std.specs.List.{AllByRecursion, slice_get}
use Rattle.net_types.specs.Cutting.{Choices}
use Rattle.net_types.specs.Reads.{Reads}
use Rattle.net_types.proofs.ChoiceLaws.{ChoiceSound, Chosen, part_chosen, part_sound}
use Rattle.transcript_text.specs.Shapes.{Shape, choice_of}

-- its fields are read from their text, and a value that they make is its word and their text
pub record IsShape {V X : Type 0} (text_of : V → List ℕ) (Fits : V → Type 0) (shape : Shape V X) : Type 0 where
  pub reads : Reads shape.fields.text (λ x. Fits (shape.make x)) shape.fields.at
  pub spelled : (x : X) → text_of (shape.make x) ≡ shape.word ++ shape.fields.text x

-- what is read as one of the shapes is spelled so
pub record AreSound {V : Type 0} (text_of : V → List ℕ) (Fits : V → Type 0) (shapes : Choices V) : Type 0 where
  pub each : AllByRecursion (ChoiceSound text_of Fits) shapes

pub no_shape : {V : Type 0} {text_of : V → List ℕ} {Fits : V → Type 0} → AreSound text_of Fits []
no_shape = record { each = tt }

pub with_shape : {V X : Type 0} {text_of : V → List ℕ} {Fits : V → Type 0} {shape : Shape V X} {shapes : Choices V} → IsShape text_of Fits shape
    → AreSound text_of Fits shapes → AreSound text_of Fits (choice_of shape ∷ shapes)
with_shape {text_of = text_of} {Fits = Fits} {shape = shape} is others = record {
  each = (part_sound text_of Fits shape.word shape.make is.reads is.spelled (λ x fits. fits), others.each);
}

-- a value of the shape at this place is read
pub of_shape : {V X : Type 0} {text_of : V → List ℕ} {Fits : V → Type 0} {shape : Shape V X} (shapes : Choices V) (index : ℕ) → IsShape text_of Fits shape
    → slice_get shapes index ≡ Some (choice_of shape) → (x : X) → Fits (shape.make x) → Chosen shapes text_of (shape.make x)
of_shape {text_of = text_of} {shape = shape} shapes index is stands x fits =
    part_chosen shapes text_of index shape.word shape.make x is.reads stands (is.spelled x) fits
