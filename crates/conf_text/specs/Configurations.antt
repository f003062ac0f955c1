-- The configuration of a text.
use Rattle.std.specs.Prelude.{◌≡◌, ◌⊎◌, ℕ, List, [], map, Option, Some, None, Result, Ok, Err}
use Rattle.std.specs.List.{filter_map, flat_map}
use Rattle.std.specs.Str.Lossy.{utf8_lossy}
use Rattle.net_types.specs.declared.interface.Name.{Name}
use Rattle.conf_words.specs.Directives.{Directive}
use Rattle.conf_words.specs.Readings.{Read, IsReadAs}
use Rattle.conf_directives.specs.declared.names.InterfaceList.{InterfaceList}
use Rattle.conf_directives.specs.declared.names.InterfaceList.TheVariants.{Allowed, Denied}
use Rattle.conf_values.specs.declared.patterns.Pattern.{Pattern}
use Rattle.conf_directives.specs.Contents.{DirectiveContent}
use Rattle.conf_text.specs.declared.answers.ConfFault.{ConfFault}
use Rattle.conf_text.specs.Numbering.{line_number}
use Rattle.conf_text.specs.Places.{Global, Block}
use Rattle.conf_text.specs.Standings.{Standing, Stand}
use Rattle.conf_text.specs.Sayings.{said_of, said_at_place}
use Rattle.conf_scopes.specs.Values.{last_of, interfaces_said, script_said}
use Rattle.conf_scopes.specs.Scopes.{ScopeContent, scope_of}
use Rattle.conf_text.specs.Faults.{names_in, first_fault, not_text}

-- a word that does nothing, and the line where it stands
pub record NoticeContent : Type 0 where
  pub line : ℕ
  pub word : List ℕ

-- the blocks of an interface
pub record BlockContent : Type 0 where
  pub name : Name
  pub scope : ScopeContent

pub record Configuration : Type 0 where
  pub global : ScopeContent
  pub blocks : List BlockContent
  -- words of `allowinterfaces` and `denyinterfaces`
  pub allowed : List Pattern
  pub denied : List Pattern
  -- the last `script` line
  pub script : Option (List ℕ)
  pub notices : List NoticeContent

abbrev pub block_of : List Standing → Name → BlockContent
block_of lines name = record { name = name; scope = scope_of (said_at_place (Block name) lines) }

abbrev pub interfaces_of : InterfaceList → List DirectiveContent → List Pattern
interfaces_of list lines = flat_map (λ patterns. patterns) (filter_map (interfaces_said list) lines)

abbrev pub notice_of : (line : ℕ) → (word : List ℕ) → NoticeContent
notice_of line word = record { line = line; word = utf8_lossy word }

abbrev pub notices_of : Standing → List NoticeContent
notices_of stands = map (notice_of (line_number stands.number)) (said_of stands).notices

-- what lines without a fault say
unfoldable pub configured : List Standing → Configuration
configured lines = record {
  global = scope_of (said_at_place Global lines);
  blocks = map (block_of lines) (names_in lines);
  allowed = interfaces_of Allowed (said_at_place Global lines);
  denied = interfaces_of Denied (said_at_place Global lines);
  script = last_of script_said (said_at_place Global lines);
  notices = flat_map notices_of lines;
}

-- Without a fault all lines stand so, and say this. A fault among the first lines is that of all; where there is none,
-- and no more lines of text, it is the line that isn't text.
abbrev pub Tells : (front : List Standing) → (rest : List Directive) → Option ℕ → Result Configuration ConfFault
    → Type 0
Tells front rest number (Ok conf) =
    (rest ≡ []) × (first_fault front ≡ None) × (number ≡ None) × (conf ≡ configured front)
Tells front rest number (Err fault) =
    (first_fault front ≡ Some fault) ⊎ ((rest ≡ []) × (first_fault front ≡ None) × (not_text number ≡ Some fault))

-- the text has this configuration, or this first fault
pub record IsConfOf (text : List ℕ) (told : Result Configuration ConfFault) : Type 0 where
  pub read : Read
  pub is_read : IsReadAs text read
  pub front : List Standing
  pub rest : List Directive
  pub stand : Stand read.found front rest
  pub tells : Tells front rest read.not_text told
