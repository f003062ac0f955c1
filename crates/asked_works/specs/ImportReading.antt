-- How the words of `import` are read. A law says that what is read is what the words say.
use Rattle.std.specs.Prelude.{ℕ, List, [], ◌∷◌, Option, Some, None, bytes_eq, codes, if◌then◌else◌}
use Rattle.net_types.specs.declared.address.Mac.{Mac}
use Rattle.net_types.specs.declared.interface.Name.{Name}
use Rattle.net_types.specs.AddressText.{mac_at}
use Rattle.net_types.specs.Cutting.{◌>>=◌}
use Rattle.net_types.specs.NameText.{name_at}
use Rattle.asked_works.specs.declared.words.Import.{Import}
use Rattle.asked_works.specs.Words.{AsksImport}

-- on which interface the capture was taken
unfoldable pub taken_on_at : (name mac : List ℕ) → Option Import
taken_on_at name mac = do
  named ← name_at name
  addressed ← mac_at mac
  Some (record { name = named; mac = addressed })

unfoldable pub import_at : List (List ℕ) → Option Import
import_at (work ∷ name ∷ mac ∷ []) = if bytes_eq work (codes "import") then taken_on_at name mac else None
import_at words = None

-- the interface that the words name, or none where they are no words of `import`
abbrev pub IsImportRead : List (List ℕ) → Option Import → Type 0
IsImportRead words (Some on) = AsksImport words on.name on.mac
IsImportRead words None = (name : Name) (mac : Mac) → AsksImport words name mac → ⊥
