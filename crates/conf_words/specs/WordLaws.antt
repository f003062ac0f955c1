-- A text is read in one way.
use Rattle.std.specs.Prelude.{◌≡◌, ℕ, List}
use Rattle.conf_words.specs.TextLines.{BeginsWithLine}
use Rattle.conf_words.specs.Arguments.{Said, AreArgumentsOf, IsWholeArgument}
use Rattle.conf_words.specs.Readings.{Read, IsReadAs}

abbrev pub ArgumentsAreOne : Type 0
ArgumentsAreOne =
    (text : List ℕ) (one other : List Said) → AreArgumentsOf text one → AreArgumentsOf text other → one ≡ other

abbrev pub WholeArgumentsAreOne : Type 0
WholeArgumentsAreOne =
    (about : List ℕ) (one other : Said) → IsWholeArgument about one → IsWholeArgument about other → one ≡ other

abbrev pub LinesAreOne : Type 0
LinesAreOne =
    (text one other after behind : List ℕ) → BeginsWithLine text one after → BeginsWithLine text other behind
    → (one ≡ other) × (after ≡ behind)

abbrev pub ReadingsAreOne : Type 0
ReadingsAreOne = (text : List ℕ) (one other : Read) → IsReadAs text one → IsReadAs text other → one ≡ other
