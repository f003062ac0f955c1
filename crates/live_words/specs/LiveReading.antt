-- How the words of `live` are read, one by one. A law says that what is read is what the words say.
use Rattle.std.specs.Prelude.{ℕ, ◌+◌, ◌≡◌, ◌≤◌, Bool, false, not, ◌&&◌, nat_le, nat_lt, List, [], ◌∷◌, length, Option, Some, None, option_map, bytes_eq, codes, ◌==◌, if◌then◌else◌}
use Rattle.std.specs.List.{list_any}
use Rattle.clap.specs.Words.{first_value, found_of, matched_of, raw_values}
use Rattle.clap.specs.declared.parser.matches.ArgMatches.{ArgMatches}
use Rattle.clap.specs.declared.parser.matches.Found.{Found}
use Rattle.net_types.specs.declared.interface.IfSpec.{IfSpec}
use Rattle.net_types.specs.declared.interface.Name.{Name}
use Rattle.net_types.specs.declared.address.Mac.{Mac}
use Rattle.net_types.specs.AddressText.{mac_at}
use Rattle.net_types.specs.Cutting.{◌>>=◌, pair_at, guarded}
use Rattle.net_types.specs.NameText.{name_at}
use Rattle.net_types.specs.Numbers.{number_at}
use Rattle.iface_lists.specs.UnlikeIfaces.{all_unlike}
use Rattle.live_words.specs.declared.places.Ports.{Ports}
use Rattle.live_words.specs.declared.reading.LiveWords.{LiveWords}
use Rattle.live_words.specs.LiveWords.{hyphen, equals_sign}

-- ---- the ports

unfoldable pub port_at : List ℕ → Option ℕ
port_at word = guarded (λ port. nat_le 1 port) (number_at 65536 word)

-- both, where they are unlike
abbrev pub ports_at : Option ℕ → Option ℕ → Option Ports
ports_at (Some own) (Some peer) =
    if own == peer then None
    else Some (record { own = own; peer = peer })
ports_at own peer = None

-- ---- the interfaces

-- the interface of this number
abbrev pub spec_of : ℕ → Name × Mac → IfSpec
spec_of number named = record { index = record { number = number }; name = named.0; mac = named.1 }

unfoldable pub named_at : List ℕ → Option (Name × Mac)
named_at word = pair_at equals_sign name_at mac_at word

-- interfaces, numbered from this one on
abbrev pub specs_at : ℕ → List (List ℕ) → Option (List IfSpec)
specs_at number [] = Some []
specs_at number (word ∷ words) = do
  named ← named_at word
  specs ← specs_at (number + 1) words
  Some (spec_of number named ∷ specs)

unfoldable pub ifaces_at : List (List ℕ) → Option (List IfSpec)
ifaces_at words = guarded all_unlike (specs_at 1 words)

-- ---- the words by their places

pub record Places : Type 0 where
  pub port : List ℕ
  pub peer : List ℕ
  pub folder : List ℕ
  pub script : List ℕ
  pub interfaces : List (List ℕ)

abbrev pub is_some_text : List ℕ → Bool
is_some_text text = nat_lt 0 (length text)

-- the paths aren't empty, and there are 1 to 64 interfaces
abbrev pub are_places : Places → Bool
are_places places =
    is_some_text places.folder && is_some_text places.script
    && (nat_le 1 (length places.interfaces) && nat_le (length places.interfaces) 64)

unfoldable pub places_at : List (List ℕ) → Option Places
places_at (work ∷ port ∷ peer ∷ folder ∷ script ∷ interfaces) =
    guarded are_places
    (Some (record { port = port; peer = peer; folder = folder; script = script; interfaces = interfaces }))
places_at words = None

-- ---- what they say

pub record Said : Type 0 where
  pub ports : Ports
  pub folder : List ℕ
  pub script : List ℕ
  pub specs : List IfSpec

abbrev pub said_of : LiveWords → Said
said_of live =
    record { ports = live.ports; folder = live.folder.now; script = live.script.now; specs = live.interfaces }

unfoldable pub said_at : Places → Option Said
said_at places = do
  ports ← ports_at (port_at places.port) (port_at places.peer)
  specs ← ifaces_at places.interfaces
  Some (record { ports = ports; folder = places.folder; script = places.script; specs = specs })

abbrev pub is_live : List (List ℕ) → Bool
is_live [] = false
is_live (work ∷ words) = bytes_eq work (codes "live")

-- what would be taken for an option, or for the end of the options
abbrev pub is_option : List ℕ → Bool
is_option [] = false
is_option (byte ∷ bytes) = byte == hyphen

unfoldable pub live_at : List (List ℕ) → Option Said
live_at words =
    if is_live words && not (list_any is_option words) then places_at words >>= said_at
    else None

-- ---- what a parse found

pub record HasPlaces (found : Found) (places : Places) : Type 0 where
  pub port : first_value found (codes "PORT") ≡ Some places.port
  pub peer : first_value found (codes "PEER") ≡ Some places.peer
  pub folder : first_value found (codes "DIR") ≡ Some places.folder
  pub script : first_value found (codes "SCRIPT") ≡ Some places.script
  pub interfaces : option_map raw_values (matched_of found (codes "IFACE")) ≡ Some places.interfaces
  pub few : length places.interfaces ≤ 64

-- the parse found the words at their places, or none where there are no such words
abbrev pub ArePlaced : Option ArgMatches → Option Places → Type 0
ArePlaced (Some matches) (Some places) = HasPlaces (found_of matches) places
ArePlaced None None = Unit {0}
ArePlaced found places = ⊥

-- what was found, read
abbrev pub said_in : Found → Option Said
said_in found = do
  port ← first_value found (codes "PORT")
  peer ← first_value found (codes "PEER")
  ports ← ports_at (port_at port) (port_at peer)
  folder ← first_value found (codes "DIR")
  script ← first_value found (codes "SCRIPT")
  words ← option_map raw_values (matched_of found (codes "IFACE"))
  specs ← ifaces_at words
  Some (record { ports = ports; folder = folder; script = script; specs = specs })
