-- Laws on the text of the resolver's file.
use Rattle.std.specs.Prelude.{◌≡◌, ◌≢◌, ◌≤◌, ℕ, IsTrue, List, [], length, AllPairs, bytes_eq}
use Rattle.std.specs.List.{AllByRecursion, list_any}
use Rattle.net_types.specs.declared.interface.Name.{Name}
use Rattle.net_types.specs.AddressText.{FitsIp4, FitsIp6}
use Rattle.net_types.specs.NameText.{FitsName}
use Rattle.net_types.specs.TextLines.{AreLines, Line, lines_text}
use Rattle.domain_names.specs.NameText.{is_name}
use Rattle.resolver_text.specs.declared.part.Server.{Server}
use Rattle.resolver_text.specs.declared.part.Server.TheVariants.{V4, V6}
use Rattle.resolver_text.specs.Parts.{PartContent}
use Rattle.resolver_text.specs.Texts.{server_text, unlike}
use Rattle.resolver_text.specs.ResolverText.{SEARCH_LIMIT, SERVER_LIMIT, names_of, resolver_text, search_line, server_line, servers_of}

abbrev pub FitsServer : Server → Type 0
FitsServer (V4 ip) = FitsIp4 ip
FitsServer (V6 ip) = FitsIp6 ip

-- an interface's name, and addresses; of the names that came nothing is asked
pub record FitsPart (part : PartContent) : Type 0 where
  pub name : FitsName part.name
  pub servers : AllByRecursion FitsServer part.servers

-- names to search in, or one server's address
pub data IsResolverLine : Line → Type 0 where
  Searches : (names : List (List ℕ)) → names ≢ [] → AllByRecursion (λ name. IsTrue (is_name name)) names
      → IsResolverLine (search_line names)
  Asks : (name : Name) (server : Server) → FitsName name → FitsServer server
      → IsResolverLine (server_line (server_text name server))

-- the bytes are such lines: each is ended by a line feed, and no other line feed stands among them
pub record HasResolverLines (text : List ℕ) : Type 0 where
  pub lines : List Line
  pub spelled : text ≡ lines_text lines
  pub parted : AreLines lines
  pub each : AllByRecursion IsResolverLine lines

abbrev pub AreResolverLines : Type 0
AreResolverLines = (parts : List PartContent) → AllByRecursion FitsPart parts → HasResolverLines (resolver_text parts)

pub record AreFew (parts : List PartContent) : Type 0 where
  pub names : length (names_of parts) ≤ SEARCH_LIMIT
  pub servers : length (servers_of parts) ≤ SERVER_LIMIT

abbrev pub HaveLimits : Type 0
HaveLimits = (parts : List PartContent) → AreFew parts

-- no two alike, and a text is among them exactly where it was among all
pub record AreUnlike (texts : List (List ℕ)) : Type 0 where
  pub apart : AllPairs (λ one other. one ≢ other) (unlike texts)
  pub same : (text : List ℕ)
      → list_any (λ other. bytes_eq other text) (unlike texts) ≡ list_any (λ other. bytes_eq other text) texts

abbrev pub KeepUnlike : Type 0
KeepUnlike = (texts : List (List ℕ)) → AreUnlike texts
