-- What the value of a variable is, and what it is made of. It stands as plain text in a shell, a file or a log,
-- whatever a server sent.
use Rattle.std.specs.Prelude.{◌≡◌, ◌≢◌, ℕ, ◌<◌, ◌≤◌, Bool, ◌==◌, ◌||◌, IsTrue, List, [], ◌++◌, codes, decimal}
use Rattle.std.specs.Char.{is_ascii_alphanumeric, is_ascii_digit}
use Rattle.std.specs.Int.{is_in_range}
use Rattle.std.specs.List.{AllByRecursion, Contains}
use Rattle.std.specs.Net.Grammar.{IsDotted}
use Rattle.net_types.specs.AddressText.{ip6_text, net6_text}
use Rattle.net_types.specs.Ip6Text.{SpellsIp6, SpellsNet6}
use Rattle.net_types.specs.Marks.{Only}
use Rattle.net_types.specs.NameText as interfaces
use Rattle.net_types.specs.declared.address.Ip6.{Ip6}
use Rattle.net_types.specs.declared.address.Net6.{Net6}
use Rattle.domain_names.specs.NameText as domains
use Rattle.hook_env.specs.Lists.{listed}

-- ---- grammars

-- One of some words of letters and digits; a decimal number below a limit; the name of an interface or of a domain; an
-- address; a network with the length of its prefix; a route, which is a network and the address of its gateway.
pub data Grammar : Type 0 where
  OneOf : (words : List (List ℕ)) → Grammar
  Number : (limit : ℕ) → Grammar
  InterfaceName : Grammar
  DomainName : Grammar
  Address4 : Grammar
  Network4 : Grammar
  Route4 : Grammar
  Address6 : Grammar
  Network6 : Grammar

-- two texts with a blank between them
pub record IsPair (First Second : List ℕ → Type 0) (text : List ℕ) : Type 0 where
  pub first : List ℕ
  pub second : List ℕ
  pub is_first : First first
  pub is_second : Second second
  pub parted : text ≡ first ++ codes " " ++ second

-- ---- what it is made of

-- a digit or `.`
abbrev pub is_address4_byte : ℕ → Bool
is_address4_byte byte = is_ascii_digit byte || (byte == 46)

-- a digit, a letter of a to f, or `:`
abbrev pub is_address6_byte : ℕ → Bool
is_address6_byte byte = is_ascii_digit byte || is_in_range 97 102 byte || (byte == 58)

-- so, or `/`
abbrev pub is_network4_byte : ℕ → Bool
is_network4_byte byte = is_address4_byte byte || (byte == 47)

abbrev pub is_network6_byte : ℕ → Bool
is_network6_byte byte = is_address6_byte byte || (byte == 47)

-- one such byte or more, and no other
pub record IsMadeOf (is_such : ℕ → Bool) (text : List ℕ) : Type 0 where
  pub some : text ≢ []
  pub only : Only is_such text

abbrev pub HasGrammar : Grammar → List ℕ → Type 0
HasGrammar (OneOf words) text = IsMadeOf is_ascii_alphanumeric text
HasGrammar (Number limit) text = IsMadeOf is_ascii_digit text
HasGrammar InterfaceName text = IsTrue (interfaces.is_name text)
HasGrammar DomainName text = IsTrue (domains.is_name text)
HasGrammar Address4 text = IsMadeOf is_address4_byte text
HasGrammar Network4 text = IsMadeOf is_network4_byte text
HasGrammar Route4 text = IsPair (IsMadeOf is_network4_byte) (IsMadeOf is_address4_byte) text
HasGrammar Address6 text = IsMadeOf is_address6_byte text
HasGrammar Network6 text = IsMadeOf is_network6_byte text

-- ---- what it is

-- such a word, and one of these
pub record IsOneOf (words : List (List ℕ)) (text : List ℕ) : Type 0 where
  pub word : IsMadeOf is_ascii_alphanumeric text
  pub among : Contains words text

-- its digits, without a zero in front
pub record IsNumberBelow (limit : ℕ) (text : List ℕ) : Type 0 where
  pub number : ℕ
  pub below : number < limit
  pub spelled : text ≡ decimal number

-- four decimal numbers below 256, with dots between them
pub record IsAddress4 (text : List ℕ) : Type 0 where
  pub octets : List ℕ
  pub dotted : IsDotted text octets

-- an address, a slash, and a length of at most 32
pub record IsNetwork4 (text : List ℕ) : Type 0 where
  pub address : List ℕ
  pub is_address : IsAddress4 address
  pub len : ℕ
  pub short : len ≤ 32
  pub spelled : text ≡ address ++ codes "/" ++ decimal len

-- An address of IPv6 reads so (RFC 4291, section 2.2), in the one spelling that RFC 5952 gives it.
pub record IsAddress6 (text : List ℕ) : Type 0 where
  pub ip : Ip6
  pub reads : SpellsIp6 text ip
  pub printed : text ≡ ip6_text ip

-- so one with the length of a prefix, which is at most 128
pub record IsNetwork6 (text : List ℕ) : Type 0 where
  pub net : Net6
  pub reads : SpellsNet6 text net
  pub printed : text ≡ net6_text net

abbrev pub Spells : Grammar → List ℕ → Type 0
Spells (OneOf words) text = IsOneOf words text
Spells (Number limit) text = IsNumberBelow limit text
Spells InterfaceName text = IsTrue (interfaces.is_name text)
Spells DomainName text = IsTrue (domains.is_name text)
Spells Address4 text = IsAddress4 text
Spells Network4 text = IsNetwork4 text
Spells Route4 text = IsPair IsNetwork4 IsAddress4 text
Spells Address6 text = IsAddress6 text
Spells Network6 text = IsNetwork6 text

-- ---- forms

-- one such text, or several with a blank between each two
pub data Form : Type 0 where
  One : (grammar : Grammar) → Form
  Several : (grammar : Grammar) → Form

pub record IsListOf (Is : List ℕ → Type 0) (value : List ℕ) : Type 0 where
  pub texts : List (List ℕ)
  pub some : texts ≢ []
  pub listed : value ≡ listed texts
  pub each : AllByRecursion Is texts

-- the value is made of the bytes of its form
abbrev pub HasForm : Form → List ℕ → Type 0
HasForm (One grammar) value = HasGrammar grammar value
HasForm (Several grammar) value = IsListOf (HasGrammar grammar) value

-- it is what its form says
abbrev pub IsOfForm : Form → List ℕ → Type 0
IsOfForm (One grammar) value = Spells grammar value
IsOfForm (Several grammar) value = IsListOf (Spells grammar) value
