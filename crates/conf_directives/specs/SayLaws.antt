-- A line says one thing; identifiers, codes and lengths are such.
use Rattle.std.specs.Prelude.{◌≡◌, ◌≤◌, ◌<◌, ◌⊎◌, ℕ, false, List, length, Option, IfSome}
use Rattle.std.specs.List.{AllByRecursion}
use Rattle.v4_options.specs.declared.code.TheConstants as code
use Rattle.conf_directives.specs.declared.names.CodeList.{CodeList}
use Rattle.conf_directives.specs.declared.names.CodeList.TheVariants as lists
use Rattle.conf_directives.specs.declared.values.ShareLine.{ShareLine}
use Rattle.conf_directives.specs.declared.shares.Asked.{Asked}
use Rattle.conf_directives.specs.Shares.{asked_by, share}
use Rattle.conf_directives.specs.Codes.{codes_in, is_needed}
use Rattle.net_types.specs.declared.interface.Name.{Name}
use Rattle.conf_directives.specs.Contents.{SaidContent}
use Rattle.conf_values.specs.Identifiers.{identifier}
use Rattle.conf_directives.specs.Says.{IsOfInterface, Says}

abbrev pub LinesSayOneThing : Type 0
LinesSayOneThing =
    (word about : List ℕ) (one other : Option SaidContent) → Says word about one → Says word about other → one ≡ other

abbrev pub BlocksAreOfOneInterface : Type 0
BlocksAreOfOneInterface =
    (about : List ℕ) (one other : Option Name) → IsOfInterface about one → IsOfInterface about other → one ≡ other

-- option 61 has one byte or more, and a length byte (RFC 2132, section 9.14)
pub record FitsOption (bytes : List ℕ) : Type 0 where
  pub some : 1 ≤ length bytes
  pub most : length bytes ≤ 255

abbrev pub IdentifiersFit : Type 0
IdentifiersFit = (text : List ℕ) → IfSome (identifier text) FitsOption

-- none is refused without which no lease is one
abbrev pub MayStand : CodeList → ℕ → Type 0
MayStand lists.Asked number = Unit {0}
MayStand lists.Refused number = is_needed number ≡ false
MayStand lists.Required number = Unit {0}

pub record FitsCode (list : CodeList) (number : ℕ) : Type 0 where
  pub past_padding : code.PAD < number
  pub before_end : number < code.END
  pub stands : MayStand list number

abbrev pub CodesFit : Type 0
CodesFit = (list : CodeList) (words : List (List ℕ)) → AllByRecursion (FitsCode list) (codes_in list words).codes

-- a subnet has a prefix of 1 to 127 bits
pub record FitsLine (line : ShareLine) : Type 0 where
  pub least : 1 ≤ line.len
  pub most : line.len ≤ 127

-- no length is asked for, or one of 8 to 127 bits
abbrev pub FitsAsked : Asked → Type 0
FitsAsked asked = (asked.hint ≡ 0) ⊎ ((8 ≤ asked.hint) × (asked.hint ≤ 127))

abbrev pub SharesFit : Type 0
SharesFit = (word : List ℕ) → IfSome (share word) FitsLine

abbrev pub HintsFit : Type 0
HintsFit = (parts : List (List ℕ)) → IfSome (asked_by parts) FitsAsked
