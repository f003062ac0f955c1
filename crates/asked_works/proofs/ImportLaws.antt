-- The words of `import`: what is read is what they say, and what they say is read.
use Rattle.std.proofs.Common.{◌≡◌, ℕ, true, false, cond, List, [], ◌∷◌, Option, Some, None, option_and_then, refl, sym, ap, subst, ◌∙◌, codes, bytes_eq}
use Rattle.std.proofs.lemmas.Slice.Eq.{bytes_eq-Decides}
use Rattle.net_types.specs.declared.address.Mac.{Mac}
use Rattle.net_types.specs.declared.interface.Name.{Name}
use Rattle.net_types.specs.AddressText.{FitsMac, mac_at, mac_text}
use Rattle.net_types.specs.NameText.{FitsName, name_at, name_text}
use Rattle.net_types.proofs.AddressLaws.{mac_reads}
use Rattle.net_types.proofs.NameLaws.{name_reads}
use Rattle.net_types.proofs.ReadsLaws.{passed, some_same}
use Rattle.asked_works.specs.declared.words.Import.{Import}
use Rattle.asked_works.specs.Words.{AsksImport}
use Rattle.asked_works.specs.ImportReading.{import_at, taken_on_at, IsImportRead}

record Taken (name mac : List ℕ) (on : Import) : Type 0 where
  named : (name ≡ name_text on.name) × FitsName on.name
  addressed : (mac ≡ mac_text on.mac) × FitsMac on.mac

abbrev both_read : Name → Mac → Option Import
both_read name mac = Some (record { name = name; mac = mac })

taken_sound : (name mac : List ℕ) (on : Import) → taken_on_at name mac ≡ Some on → Taken name mac on
unfolding taken_on_at
taken_sound name mac on e =
    let first = passed (name_at name) (λ (n : Name). option_and_then (both_read n) (mac_at mac)) on e in
    let second = passed (mac_at mac) (both_read first.value) on first.gives in
    let same : record { name = first.value; mac = second.value } ≡ on = some_same second.gives in
    subst (Taken name mac) same (record { named = name_reads.sound name first.value first.was; addressed = mac_reads.sound mac second.value second.was })

import_sound : (words : List (List ℕ)) (on : Import) → import_at words ≡ Some on → AsksImport words on.name on.mac
unfolding import_at
import_sound [] on e = cc
import_sound (a ∷ []) on e = cc
import_sound (a ∷ b ∷ []) on e = cc
import_sound (a ∷ b ∷ c ∷ d ∷ words) on e = cc
import_sound (work ∷ name ∷ mac ∷ []) on e =
    elim (bytes_eq work (codes "import")) as
    (λ b. bytes_eq work (codes "import") ≡ b → cond b (taken_on_at name mac) None ≡ Some on → AsksImport (work ∷ name ∷ mac ∷ []) on.name on.mac) [
      | true ↦ λ t q.
          let taken = taken_sound name mac on q in
          record {
            says = ap (λ w. w ∷ name ∷ mac ∷ []) ((bytes_eq-Decides work (codes "import")).0 t)
                ∙ ap (λ w. codes "import" ∷ w ∷ mac ∷ []) taken.named.0 ∙ ap (λ w. codes "import" ∷ name_text on.name ∷ w ∷ []) taken.addressed.0;
            named = taken.named.1;
            addressed = taken.addressed.1;
          }
      | false ↦ λ t q. let never : ⊥ = cc in absurd never
    ] refl e

import_whole : (words : List (List ℕ)) (name : Name) (mac : Mac) → AsksImport words name mac → import_at words ≡ Some (record { name = name; mac = mac })
unfolding import_at taken_on_at
import_whole words name mac asks = rw (asks.says, name_reads.whole name asks.named, mac_reads.whole mac asks.addressed) refl

none_some : {A : Type 0} {a : A} → None ≡ Some a → ⊥
none_some e = cc

-- what is read says what the words ask
pub import_read : (words : List (List ℕ)) (found : Option Import) → found ≡ import_at words → IsImportRead words found
import_read words (Some on) e = import_sound words on (sym e)
import_read words None e = λ name mac asks. none_some (e ∙ import_whole words name mac asks)

-- words name one interface
pub import_is_one : (words : List (List ℕ)) (on : Import) (name : Name) (mac : Mac) → AsksImport words on.name on.mac → AsksImport words name mac
    → on ≡ record { name = name; mac = mac }
import_is_one words on name mac first second = some_same (sym (import_whole words on.name on.mac first) ∙ import_whole words name mac second)
