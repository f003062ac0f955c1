-- What follows a directive: arguments, parted by blanks and tabs. A quoted one ends at the next quote or with the line.
use Rattle.std.specs.Prelude.{◌≡◌, ◌≢◌, ◌⊎◌, ℕ, Bool, true, List, [], ◌∷◌, ◌++◌, IsTrue}
use Rattle.net_types.specs.Marks.{Only, Lacks}
use Rattle.conf_words.specs.declared.arguments.Form.{Form}
use Rattle.conf_words.specs.declared.arguments.Form.TheVariants.{Plain, Quoted}
use Rattle.conf_words.specs.declared.arguments.Argument.{Argument}
use Rattle.conf_words.specs.Marks.{quote, parts_words, is_of_word}
use Rattle.conf_words.specs.Parts.{Leads}

-- an argument without its quotes
pub record Said : Type 0 where
  pub form : Form
  pub text : List ℕ

abbrev pub said : Form → List ℕ → Said
said form text = record { form = form; text = text }

abbrev pub shown_argument : Argument → Said
shown_argument argument = said argument.form argument.text.now

-- a word may end before this
abbrev pub ends_word : List ℕ → Bool
ends_word [] = true
ends_word (byte ∷ bytes) = parts_words byte

-- a word that isn't quoted begins here
abbrev pub BeginsWord : List ℕ → Type 0
BeginsWord [] = ⊥
BeginsWord (byte ∷ bytes) = IsTrue (is_of_word byte) × (byte ≢ quote)

-- how an argument is spelled before the rest of the line
abbrev pub SpelledBefore : Form → List ℕ → List ℕ → List ℕ → Type 0
SpelledBefore Plain text spelling rest =
    (spelling ≡ text) × BeginsWord text × Only is_of_word text × IsTrue (ends_word rest)
SpelledBefore Quoted text spelling rest =
    Lacks quote text × ((spelling ≡ quote ∷ text ++ quote ∷ []) ⊎ ((spelling ≡ quote ∷ text) × (rest ≡ [])))

-- the text is blanks, an argument, and the rest
pub record BeginsWithArgument (text : List ℕ) (argument : Said) (rest : List ℕ) : Type 0 where
  pub gap : List ℕ
  pub spelling : List ℕ
  pub parted : text ≡ gap ++ (spelling ++ rest)
  pub blanks : Only parts_words gap
  pub spelled : SpelledBefore argument.form argument.text spelling rest

-- the text is these arguments, and blanks at its end
abbrev pub AreArgumentsOf : List ℕ → List Said → Type 0
AreArgumentsOf text arguments = (rest : List ℕ) × Leads BeginsWithArgument arguments text rest × Only parts_words rest

-- The text is blanks and one argument to its end, as `static` takes it: a quoted one, or all that stands from a word
-- on.
abbrev pub IsWholeAs : Form → List ℕ → List ℕ → Type 0
IsWholeAs Quoted about text = AreArgumentsOf about (said Quoted text ∷ [])
IsWholeAs Plain about text = (gap : List ℕ) × (about ≡ gap ++ text) × Only parts_words gap × BeginsWord text

abbrev pub IsWholeArgument : List ℕ → Said → Type 0
IsWholeArgument about argument = IsWholeAs argument.form about argument.text
