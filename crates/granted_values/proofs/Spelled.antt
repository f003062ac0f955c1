-- The options of an ACK are found in its area, and each value among them.
use Rattle.std.proofs.Common.{◌≡◌, ◌≢◌, ℕ, ◌<◌, inl, inr, List, [], ◌∷◌, ◌++◌, map, Option, Some, None, refl, ap, ◌∙◌, arith, eqb}
use Rattle.std.specs.Prelude.{IfSome, ◌==◌, if◌then◌else◌}
use Rattle.std.specs.Option.{option_map}
use Rattle.std.specs.List.{flat_map, AllByRecursion}
use Rattle.std.proofs.lemmas.List.{append-nil}
use Rattle.net_types.specs.declared.address.Ip4.{Ip4}
use Rattle.net_types.specs.Fields.{u16_octets, u32_octets, ip4_octets}
use Rattle.v4_options.specs.OptionArea.{Instance, instances_in}
use Rattle.v4_options.specs.OptionValue.{pieces, joined, value_of}
use Rattle.v4_options.specs.AreaGrammar.{FitsPart, part_instances}
use Rattle.v4_options.proofs.AreaLaws.{area_instances}
use Rattle.v4_message.specs.Requests.{option_part, options_text}
use Rattle.domain_names.proofs.Labels.{cases_bool}
use Rattle.granted_values.specs.AckValues.{SentRoute, AckValues}
use Rattle.granted_values.specs.ValueTexts.{addresses_text, addresses_value, routes_text, routes_value, Field, ack_fields, if_said, fields_options, ack_options}
use Rattle.granted_values.specs.ReadBack.{FitsValue, FitsAck}

-- ---- the area

pub record FitsField (field : Field) : Type 0 where
  pub not_padding : field.0 ≢ 0
  pub not_end : field.0 ≢ 255
  pub value : IfSome field.1 FitsValue

abbrev Spells : List Instance → Type 0
Spells instances = AllByRecursion FitsPart (map option_part instances)

both_spell : (xs ys : List Instance) → Spells xs → Spells ys → Spells (xs ++ ys)
both_spell [] ys p q = q
both_spell (x ∷ xs) ys p q = (p.0, both_spell xs ys p.1 q)

field_spells : (code : ℕ) (value : Option (List ℕ)) → FitsField (code, value) → Spells (if_said code value)
field_spells code None fits = tt
field_spells code (Some value) fits = ((fits.not_padding, fits.not_end, fits.value), tt)

fields_spell : (fields : List Field) → AllByRecursion FitsField fields → Spells (fields_options fields)
fields_spell [] fit = tt
fields_spell (field ∷ fields) fit =
    both_spell (if_said field.0 field.1) (fields_options fields) (field_spells field.0 field.1 fit.0) (fields_spell fields fit.1)

parts_instances : (instances : List Instance) → flat_map part_instances (map option_part instances) ≡ instances
parts_instances [] = refl
parts_instances (i ∷ instances) = ap (λ (more : List Instance). i ∷ more) (parts_instances instances)

number16_fits : (n : Option ℕ) → IfSome (option_map u16_octets n) FitsValue
number16_fits None = tt
number16_fits (Some n) = omega arith

number_fits : (n : Option ℕ) → IfSome (option_map u32_octets n) FitsValue
number_fits None = tt
number_fits (Some n) = omega arith

address_fits : (ip : Option Ip4) → IfSome (option_map ip4_octets ip) FitsValue
address_fits None = tt
address_fits (Some ip) = omega arith

addresses_fit : (addresses : List Ip4) → FitsValue (addresses_text addresses) → IfSome (addresses_value addresses) FitsValue
addresses_fit [] size = tt
addresses_fit (first ∷ others) size = size

routes_fit : (routes : List SentRoute) → FitsValue (routes_text routes) → IfSome (routes_value routes) FitsValue
routes_fit [] size = tt
routes_fit (first ∷ others) size = size

fits_field : (code : ℕ) (value : Option (List ℕ)) → 0 < code → code < 255 → IfSome value FitsValue → FitsField (code, value)
fits_field code value some below fits = record { not_padding = λ e. omega arith; not_end = λ e. omega arith; value = fits }

ack_spells : (values : AckValues) → FitsAck values → Spells (ack_options values)
ack_spells values fits =
    let mask = fits_field 1 (option_map ip4_octets values.mask) (omega arith) (omega arith) (address_fits values.mask) in
    let routers = fits_field 3 (addresses_value values.routers) (omega arith) (omega arith) (addresses_fit values.routers fits.routers.size) in
    let dns = fits_field 6 (addresses_value values.dns) (omega arith) (omega arith) (addresses_fit values.dns fits.dns.size) in
    let mtu = fits_field 26 (option_map u16_octets values.mtu) (omega arith) (omega arith) (number16_fits values.mtu) in
    let broadcast = fits_field 28 (option_map ip4_octets values.broadcast) (omega arith) (omega arith) (address_fits values.broadcast) in
    let ntp = fits_field 42 (addresses_value values.ntp) (omega arith) (omega arith) (addresses_fit values.ntp fits.ntp.size) in
    let t1 = fits_field 58 (option_map u32_octets values.t1) (omega arith) (omega arith) (number_fits values.t1) in
    let t2 = fits_field 59 (option_map u32_octets values.t2) (omega arith) (omega arith) (number_fits values.t2) in
    let searched = fits_field 119 values.search (omega arith) (omega arith) fits.search in
    let routes = fits_field 121 (routes_value values.routes) (omega arith) (omega arith) (routes_fit values.routes fits.routes_size) in
    let fields : AllByRecursion FitsField (ack_fields values) =
    (mask, (routers, (dns, (mtu, (broadcast, (ntp, (t1, (t2, (searched, (routes, tt)))))))))) in
    fields_spell (ack_fields values) fields

pub options_found : (values : AckValues) → FitsAck values → instances_in (options_text (ack_options values) ++ 255 ∷ []) ≡ ack_options values
options_found values fits =
    area_instances (options_text (ack_options values) ++ 255 ∷ []) (map option_part (ack_options values))
    (record { rest = 255 ∷ []; text = refl; fit = ack_spells values fits; ends = refl })
    ∙ parts_instances (ack_options values)

-- ---- a value

abbrev pub with_value : Option (List ℕ) → List (List ℕ) → List (List ℕ)
with_value None others = others
with_value (Some value) others = value ∷ others

-- the values of a code among fields
abbrev pub all_of : ℕ → List Field → List (List ℕ)
all_of code [] = []
all_of code (field ∷ fields) = if field.0 == code then with_value field.1 (all_of code fields) else all_of code fields

pieces_field : (code c : ℕ) (value : Option (List ℕ)) (fields : List Field) → pieces code (fields_options fields) ≡ all_of code fields
    → pieces code (fields_options ((c, value) ∷ fields)) ≡ all_of code ((c, value) ∷ fields)
pieces_field code c None fields later =
    elim (cases_bool (eqb c code)) [
      | inl same ↦ rw same later
      | inr other ↦ rw other later
    ]
pieces_field code c (Some value) fields later =
    elim (cases_bool (eqb c code)) [
      | inl same ↦ rw same (ap (λ (others : List (List ℕ)). value ∷ others) later)
      | inr other ↦ rw other later
    ]

pieces_of : (code : ℕ) (fields : List Field) → pieces code (fields_options fields) ≡ all_of code fields
pieces_of code [] = refl
pieces_of code (field ∷ fields) = pieces_field code field.0 field.1 fields (pieces_of code fields)

pub only_value : (value : Option (List ℕ)) → joined (with_value value []) ≡ value
only_value None = refl
only_value (Some value) = ap (λ (bytes : List ℕ). Some bytes) (append-nil value)

pub value_found : (code : ℕ) (values : AckValues) → value_of code (ack_options values) ≡ joined (all_of code (ack_fields values))
value_found code values = ap joined (pieces_of code (ack_fields values))
