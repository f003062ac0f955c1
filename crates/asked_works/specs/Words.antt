-- What the words of the program ask for.
use Rattle.std.specs.Prelude.{ℕ, ◌≡◌, ◌≤◌, ◌⊎◌, List, [], ◌∷◌, codes, decimal}
use Rattle.net_types.specs.declared.address.Mac.{Mac}
use Rattle.net_types.specs.declared.interface.IfSpec.{IfSpec}
use Rattle.net_types.specs.declared.interface.Name.{Name}
use Rattle.net_types.specs.AddressText.{FitsMac, mac_text}
use Rattle.net_types.specs.NameText.{FitsName, name_text}
use Rattle.live_words.specs.LiveWords.{AsksLive}

-- the words are `replay` alone
abbrev pub AskReplay : List (List ℕ) → Type 0
AskReplay words = words ≡ codes "replay" ∷ []

-- the words are `check` alone
abbrev pub AskCheck : List (List ℕ) → Type 0
AskCheck words = words ≡ codes "check" ∷ []

-- the words are `live`, its ports, a folder, a script and interfaces
abbrev pub AskLive : List (List ℕ) → Type 0
AskLive words = (specs : List IfSpec) × AsksLive words specs

-- the words are `make` and a number of rounds, in decimal digits without leading zeros or sign
pub record AsksMake (words : List (List ℕ)) (rounds : ℕ) : Type 0 where
  pub says : words ≡ codes "make" ∷ decimal rounds ∷ []
  pub some : 1 ≤ rounds
  pub few : rounds ≤ 100

abbrev pub AskMake : List (List ℕ) → Type 0
AskMake words = (rounds : ℕ) × AsksMake words rounds

-- the words are `dump` alone
abbrev pub AskDump : List (List ℕ) → Type 0
AskDump words = words ≡ codes "dump" ∷ []

-- the words are `import`, the name of an interface and its hardware address, as they are printed
pub record AsksImport (words : List (List ℕ)) (name : Name) (mac : Mac) : Type 0 where
  pub says : words ≡ codes "import" ∷ name_text name ∷ mac_text mac ∷ []
  pub named : FitsName name
  pub addressed : FitsMac mac

abbrev pub AskImport : List (List ℕ) → Type 0
AskImport words = (name : Name) × (mac : Mac) × AsksImport words name mac

-- the words are `lab` alone
abbrev pub AskLab : List (List ℕ) → Type 0
AskLab words = words ≡ codes "lab" ∷ []

-- the words are `audit` alone
abbrev pub AskAudit : List (List ℕ) → Type 0
AskAudit words = words ≡ codes "audit" ∷ []

-- the words are `audit` and `why`
abbrev pub AskWhy : List (List ℕ) → Type 0
AskWhy words = words ≡ codes "audit" ∷ codes "why" ∷ []

-- the words are of one of these forms
abbrev pub AskWork : List (List ℕ) → Type 0
AskWork words =
    AskReplay words
    ⊎ (AskCheck words
    ⊎ (AskLive words
    ⊎ (AskMake words ⊎ (AskDump words ⊎ (AskImport words ⊎ (AskLab words ⊎ (AskAudit words ⊎ AskWhy words)))))))
