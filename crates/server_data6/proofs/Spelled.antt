-- The options of a server's message are found again, and nothing in them is malformed.
use Rattle.std.proofs.Common.{◌≡◌, ℕ, ◌+◌, ◌<◌, ◌≤◌, ◌^◌, Bool, true, false, List, [], ◌∷◌, ◌++◌, length, drop, map, Option, Some, None, refl, ap, ◌∙◌, arith, leb}
use Rattle.std.specs.Prelude.{IfSome, ◌&&◌}
use Rattle.std.specs.Option.{option_map}
use Rattle.std.specs.List.{AllByRecursion}
use Rattle.std.proofs.lemmas.Bool.{le-leb}
use Rattle.net_types.specs.declared.address.Ip6.{Ip6}
use Rattle.net_types.specs.Fields.{u32_octets}
use Rattle.v6_options.specs.declared.ia.IaKind.{IaKind}
use Rattle.v6_options.specs.declared.ia.IaKind.TheVariants.{Na, Pd}
use Rattle.v6_options.specs.OptionArea.{Instance, has_form}
use Rattle.v6_options.specs.Nesting.{fields_len, malformed_held, malformed_in}
use Rattle.v6_message.specs.Requests.{options_text}
use Rattle.v6_message.proofs.SpelledOptions.{IsSpelled, AreSpelled, texts_whole}
use Rattle.server_data6.specs.Spoken.{StatusText, GivenItem, GivenIa, Reply6}
use Rattle.server_data6.specs.ReplyTexts.{if_said, status_text, status_option, item_value, item_option, ia_code, ia_options, ia_value, ia_option, servers_text, servers_value, rapid_value, Field, reply6_fields, fields_options, reply6_options}
use Rattle.server_data6.specs.ReadBack.{FitsValue, FitsStatus, FitsItem, FitsIa, FitsReply6}

both_spelled : (xs ys : List Instance) → AreSpelled xs → AreSpelled ys → AreSpelled (xs ++ ys)
both_spelled [] ys p q = q
both_spelled (x ∷ xs) ys p q = (p.0, both_spelled xs ys p.1 q)

both_true : (a b : Bool) → a ≡ true → b ≡ true → (a && b) ≡ true
both_true true b p q = q
both_true false b p q = p

one_status : (status : StatusText) → FitsStatus status → IsSpelled (13, status_text status)
one_status status fits = record {
  fits = (omega arith, fits.size, le-leb 2 (length (status_text status)) (omega arith));
  held = λ at. refl;
}

pub status_spelled : (status : Option StatusText) → IfSome status FitsStatus → AreSpelled (status_option status)
status_spelled None fits = tt
status_spelled (Some status) fits = (one_status status fits, tt)

-- ---- IAs

item_spelled : (kind : IaKind) (item : GivenItem) → FitsItem kind item → IsSpelled (item_option kind item)
item_spelled Na item fits = record {
  fits = (omega arith, fits.size, le-leb 24 (length (item_value Na item)) (omega arith));
  held = λ at. texts_whole (at + 4 + 24) (status_option item.status) (status_spelled item.status fits.status);
}
item_spelled Pd item fits = record {
  fits = (
    omega arith,
    fits.size,
    both_true (leb 25 (length (item_value Pd item))) (leb item.net.len 128)
        (le-leb 25 (length (item_value Pd item)) (omega arith)) (le-leb item.net.len 128 fits.net.1),
  );
  held = λ at. texts_whole (at + 4 + 25) (status_option item.status) (status_spelled item.status fits.status);
}

items_spelled : (kind : IaKind) (items : List GivenItem) → AllByRecursion (FitsItem kind) items → AreSpelled (map (item_option kind) items)
items_spelled kind [] p = tt
items_spelled kind (item ∷ items) p = (item_spelled kind item p.0, items_spelled kind items p.1)

pub held_spelled : (ia : GivenIa) → FitsIa ia → AreSpelled (ia_options ia)
held_spelled ia fits =
    both_spelled (status_option ia.status) (map (item_option ia.kind) ia.items) (status_spelled ia.status fits.status)
    (items_spelled ia.kind ia.items fits.items)

holder_spelled : (kind : IaKind) (value : List ℕ) (held : List Instance) → length value < 2 ^ 16 → 12 ≤ length value
    → drop 12 value ≡ options_text held → AreSpelled held → IsSpelled (ia_code kind, value)
holder_spelled Na value held size room rest spelled = record {
  fits = (omega arith, size, le-leb 12 (length value) room);
  held = λ at. ap (malformed_in (at + 4 + 12)) rest ∙ texts_whole (at + 4 + 12) held spelled;
}
holder_spelled Pd value held size room rest spelled = record {
  fits = (omega arith, size, le-leb 12 (length value) room);
  held = λ at. ap (malformed_in (at + 4 + 12)) rest ∙ texts_whole (at + 4 + 12) held spelled;
}

ia_spelled : (ia : GivenIa) → FitsIa ia → IsSpelled (ia_option ia)
ia_spelled ia fits = holder_spelled ia.kind (ia_value ia) (ia_options ia) fits.size (omega arith) refl (held_spelled ia fits)

ias_spelled : (ias : List GivenIa) → AllByRecursion FitsIa ias → AreSpelled (map ia_option ias)
ias_spelled [] p = tt
ias_spelled (ia ∷ ias) p = (ia_spelled ia p.0, ias_spelled ias p.1)

-- ---- the other options

abbrev FieldSpelled : Field → Type 0
FieldSpelled field = IfSome field.1 (λ value. IsSpelled (field.0, value))

field_spelled : (code : ℕ) (value : Option (List ℕ)) → FieldSpelled (code, value) → AreSpelled (if_said code value)
field_spelled code None p = tt
field_spelled code (Some value) p = (p, tt)

fields_spelled : (fields : List Field) → AllByRecursion FieldSpelled fields → AreSpelled (fields_options fields)
fields_spelled [] p = tt
fields_spelled (field ∷ fields) p =
    both_spelled (if_said field.0 field.1) (fields_options fields) (field_spelled field.0 field.1 p.0) (fields_spelled fields p.1)

-- an option of which nothing is asked but its length
plain_spelled : (code : ℕ) → code < 2 ^ 16 → ((value : List ℕ) → has_form code value ≡ true) → fields_len code ≡ None
    → (value : Option (List ℕ)) → IfSome value FitsValue → FieldSpelled (code, value)
plain_spelled code small form none None fits = tt
plain_spelled code small form none (Some value) fits = record {
  fits = (small, fits, form value);
  held = λ at. ap (λ (fields : Option ℕ). malformed_held fields at value malformed_in) none;
}

status_field : (status : Option StatusText) → IfSome status FitsStatus → FieldSpelled (13, option_map status_text status)
status_field None fits = tt
status_field (Some status) fits = one_status status fits

preference_fits : (preference : Option ℕ) → IfSome (option_map (λ (value : ℕ). value ∷ []) preference) FitsValue
preference_fits None = tt
preference_fits (Some value) = omega arith

rapid_fits : (rapid : Bool) → IfSome (rapid_value rapid) FitsValue
rapid_fits false = tt
rapid_fits true = omega arith

servers_fit : (servers : List Ip6) → FitsValue (servers_text servers) → IfSome (servers_value servers) FitsValue
servers_fit [] fits = tt
servers_fit (first ∷ others) fits = fits

seconds_fit : (seconds : Option ℕ) → IfSome (option_map u32_octets seconds) FitsValue
seconds_fit None = tt
seconds_fit (Some n) = omega arith

pub reply6_spelled : (reply : Reply6) → FitsReply6 reply → AreSpelled (reply6_options reply)
reply6_spelled reply fits =
    let client = plain_spelled 1 (omega arith) (λ value. refl) refl reply.client fits.client in
    let server = plain_spelled 2 (omega arith) (λ value. refl) refl reply.server fits.server in
    let status = status_field reply.status fits.status in
    let preferred =
    plain_spelled 7 (omega arith) (λ value. refl) refl (option_map (λ (value : ℕ). value ∷ []) reply.preference) (preference_fits reply.preference) in
    let rapid = plain_spelled 14 (omega arith) (λ value. refl) refl (rapid_value reply.rapid) (rapid_fits reply.rapid) in
    let servers = plain_spelled 23 (omega arith) (λ value. refl) refl (servers_value reply.dns) (servers_fit reply.dns fits.dns) in
    let searched = plain_spelled 24 (omega arith) (λ value. refl) refl reply.search fits.search in
    let sol_max = plain_spelled 82 (omega arith) (λ value. refl) refl (option_map u32_octets reply.sol_max) (seconds_fit reply.sol_max) in
    let fields : AllByRecursion FieldSpelled (reply6_fields reply) = (client, (server, (status, (preferred, (rapid, (servers, (searched, (sol_max, tt)))))))) in
    both_spelled (fields_options (reply6_fields reply)) (map ia_option reply.ias) (fields_spelled (reply6_fields reply) fields) (ias_spelled reply.ias fits.ias)
