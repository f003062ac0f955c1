-- What the words of `live` say: its own port and its peer's, a folder, a script, and the interfaces.
use Rattle.std.specs.Prelude.{◌≡◌, ◌≢◌, ℕ, ◌≤◌, List, [], ◌∷◌, ◌++◌, length, map, Option, Some, None, codes, decimal}
use Rattle.net_types.specs.declared.interface.IfSpec.{IfSpec}
use Rattle.net_types.specs.AddressText.{mac_text}
use Rattle.net_types.specs.NameText.{name_text}
use Rattle.script_model.specs.Scripts.{FitInterfaces}
use Rattle.live_words.specs.declared.reading.LiveWords.{LiveWords}

-- a port is a decimal number without leading zeros or sign
abbrev pub IsPort : ℕ → Type 0
IsPort port = (1 ≤ port) × (port ≤ 65535)

abbrev pub hyphen : ℕ
hyphen = 45

-- a path isn't empty, and isn't taken for an option
abbrev pub IsPath : List ℕ → Type 0
IsPath [] = ⊥
IsPath (byte ∷ bytes) = byte ≢ hyphen

abbrev pub equals_sign : ℕ
equals_sign = 61

-- an interface's name and hardware address
abbrev pub iface_word : IfSpec → List ℕ
iface_word spec = name_text spec.name ++ equals_sign ∷ mac_text spec.mac

pub record AsksLive (words : List (List ℕ)) (specs : List IfSpec) : Type 0 where
  pub port : ℕ
  pub peer : ℕ
  pub folder : List ℕ
  pub script : List ℕ
  pub says : words ≡ codes "live" ∷ decimal port ∷ decimal peer ∷ folder ∷ script ∷ map iface_word specs
  pub port_is : IsPort port
  pub peer_is : IsPort peer
  pub unlike : port ≢ peer
  pub folder_is : IsPath folder
  pub script_is : IsPath script
  pub some : 1 ≤ length specs
  pub fit : FitInterfaces specs

-- the interfaces that the words name, or none where they are no words of `live`
abbrev pub IsLiveRead : List (List ℕ) → Option (List IfSpec) → Type 0
IsLiveRead words (Some specs) = AsksLive words specs
IsLiveRead words None = (specs : List IfSpec) → AsksLive words specs → ⊥

-- these are the very words, and the ports are unlike
pub record SaysLive (words : List (List ℕ)) (live : LiveWords) : Type 0 where
  pub says : words
      ≡ codes "live" ∷ decimal live.ports.own ∷ decimal live.ports.peer ∷ live.folder.now ∷ live.script.now
      ∷ map iface_word live.interfaces
  pub port_is : IsPort live.ports.own
  pub peer_is : IsPort live.ports.peer
  pub unlike : live.ports.own ≢ live.ports.peer

abbrev pub BeginsLive : List (List ℕ) → Type 0
BeginsLive words = (others : List (List ℕ)) × (words ≡ codes "live" ∷ others)
