-- An identifier has 1 to 255 bytes.
use Rattle.std.proofs.Common.{◌≡◌, ℕ, ◌≤◌, Bool, true, false, List, ◌∷◌, length, Option, Some, None, refl, arith, leb-true}
use Rattle.std.specs.Prelude.{IfSome, option_map, if◌then◌else◌}
use Rattle.std.proofs.lemmas.Bool.{and_parts}
use Rattle.net_types.specs.Cutting.{guarded, read_all}
use Rattle.conf_values.specs.Words.{colon_parts}
use Rattle.conf_values.specs.Texts.{is_printed}
use Rattle.conf_values.specs.Identifiers.{are_enough, identifier_by, pair, pairs, typed_text}
use Rattle.conf_directives.specs.SayLaws.{FitsOption, IdentifiersFit}

guarded_passes : {X : Type 0} (test : X → Bool) (found : Option X) → IfSome (guarded test found) (λ x. test x ≡ true)
guarded_passes test None = tt
guarded_passes test (Some x) =
    elim (test x) as (λ b. test x ≡ b → IfSome (if b then Some x else None) (λ x. test x ≡ true)) [
      | true ↦ λ e. e
      | false ↦ λ e. tt
    ] refl

enough_fit : (bytes : List ℕ) → are_enough bytes ≡ true → FitsOption bytes
enough_fit bytes enough =
    let both = and_parts _ _ enough in
    let least : 2 ≤ length bytes = leb-true _ _ both.0 in
    let most : length bytes ≤ 255 = leb-true _ _ both.1 in
    record { some = omega (arith, least); most = most }

typed_fit : (text : List ℕ) → IfSome (typed_text text) FitsOption
typed_fit text =
    elim (is_printed 254 text) as (λ b. is_printed 254 text ≡ b → IfSome (option_map (λ bytes. 0 ∷ bytes) (if b then Some text else None)) FitsOption) [
      | true ↦ λ e.
          let most : length text ≤ 254 = leb-true _ _ (and_parts _ _ e).0 in
          record { some = omega arith; most = omega (arith, most) }
      | false ↦ λ e. tt
    ] refl

by_fit : (text : List ℕ) (found : Option (List ℕ)) → IfSome found (λ bytes. are_enough bytes ≡ true) → IfSome (identifier_by found text) FitsOption
by_fit text None passes = typed_fit text
by_fit text (Some bytes) passes = enough_fit bytes passes

pub identifiers_fit : IdentifiersFit
identifiers_fit text = by_fit text (pairs text) (guarded_passes are_enough (read_all pair (colon_parts text)))
