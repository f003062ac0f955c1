-- Each IA of a server's message is read back, with its items.
use Rattle.std.proofs.Common.{◌≡◌, ℕ, List, [], ◌∷◌, ◌++◌, map, Option, Some, None, refl, sym, ap, ◌∙◌}
use Rattle.std.specs.Prelude.{IfSome, ◌==◌, if◌then◌else◌}
use Rattle.std.specs.Option.{option_map}
use Rattle.std.specs.List.{AllByRecursion, filter_map, cons_option}
use Rattle.std.proofs.lemmas.Nat.{from_be_bytes-to_be_bytes_2, from_be_bytes-to_be_bytes_4}
use Rattle.net_types.proofs.WireNumbers.{wide_back}
use Rattle.v6_options.specs.declared.ia.IaKind.{IaKind}
use Rattle.v6_options.specs.declared.ia.IaKind.TheVariants.{Na, Pd}
use Rattle.v6_options.specs.declared.ia.ItemSaid.{ItemSaid}
use Rattle.v6_options.specs.OptionArea.{Instance}
use Rattle.v6_options.specs.OptionWalk.{first_of}
use Rattle.v6_options.specs.Statuses.{status_by, status_in}
use Rattle.v6_options.specs.Ias.{IaContent, address_in, prefix_in, item_by, items_in, ia_in, ia_by}
use Rattle.v6_message.specs.Requests.{options_text}
use Rattle.v6_message.proofs.SpelledOptions.{texts_found}
use Rattle.server_data6.specs.Spoken.{StatusText, GivenItem, GivenIa}
use Rattle.server_data6.specs.ReplyTexts.{status_text, status_option, item_value, item_option, ia_code, ia_options, ia_value, ia_option}
use Rattle.server_data6.specs.ReadBack.{status_number, item_given, ia_given, FitsStatus, FitsItem, FitsIa}
use Rattle.server_data6.proofs.Spelled.{status_spelled, held_spelled}

-- ---- statuses

pub status_back : (status : Option StatusText) → IfSome status FitsStatus → status_by (option_map status_text status) ≡ status_number status
status_back None fits = refl
status_back (Some status) fits = from_be_bytes-to_be_bytes_2 status.number fits.number

status_first : (status : Option StatusText) (more : List Instance) → first_of 13 more ≡ None
    → first_of 13 (status_option status ++ more) ≡ option_map status_text status
status_first None more none = none
status_first (Some status) more none = refl

status_only : (status : Option StatusText) → first_of 13 (status_option status) ≡ option_map status_text status
status_only None = refl
status_only (Some status) = refl

status_alone : (status : Option StatusText) → IfSome status FitsStatus → status_in (options_text (status_option status)) ≡ status_number status
status_alone status fits =
    ap (λ (is : List Instance). status_by (first_of 13 is)) (texts_found (status_option status) (status_spelled status fits))
    ∙ ap status_by (status_only status) ∙ status_back status fits

-- ---- items

abbrev if_success : ℕ → ItemSaid → Option ItemSaid
if_success status item = if status == 0 then Some item else None

item_back : (kind : IaKind) (item : GivenItem) → FitsItem kind item → item_by kind (item_option kind item) ≡ item_given item
item_back Na item fits =
    ap (λ (status : ℕ). if_success status (address_in (item_value Na item))) (status_alone item.status fits.status)
    ∙ (λ i. if_success (status_number item.status) (record {
      net = record { ip = record { number = wide_back item.net.ip.number fits.net.0 i }; len = sym fits.net.1 i };
      preferred = from_be_bytes-to_be_bytes_4 item.preferred fits.preferred i;
      valid = from_be_bytes-to_be_bytes_4 item.valid fits.valid i;
    }))
item_back Pd item fits =
    ap (λ (status : ℕ). if_success status (prefix_in (item_value Pd item))) (status_alone item.status fits.status)
    ∙ (λ i. if_success (status_number item.status) (record {
      net = record { ip = record { number = wide_back item.net.ip.number fits.net.0 i }; len = item.net.len };
      preferred = from_be_bytes-to_be_bytes_4 item.preferred fits.preferred i;
      valid = from_be_bytes-to_be_bytes_4 item.valid fits.valid i;
    }))

items_back : (kind : IaKind) (items : List GivenItem) → AllByRecursion (FitsItem kind) items
    → filter_map (item_by kind) (map (item_option kind) items) ≡ filter_map item_given items
items_back kind [] p = refl
items_back kind (item ∷ items) p = λ i. cons_option (item_back kind item p.0 i) (items_back kind items p.1 i)

-- a status isn't an item, and an item isn't a status
past_status : (kind : IaKind) (status : Option StatusText) (more : List Instance)
    → filter_map (item_by kind) (status_option status ++ more) ≡ filter_map (item_by kind) more
past_status kind None more = refl
past_status Na (Some status) more = refl
past_status Pd (Some status) more = refl

no_status : (kind : IaKind) (items : List GivenItem) → first_of 13 (map (item_option kind) items) ≡ None
no_status kind [] = refl
no_status Na (item ∷ items) = no_status Na items
no_status Pd (item ∷ items) = no_status Pd items

-- ---- IAs

in_back : (ia : GivenIa) → FitsIa ia → ia_in ia.kind (ia_value ia) ≡ ia_given ia
in_back ia fits =
    let found = texts_found (ia_options ia) (held_spelled ia fits) in
    let others = map (item_option ia.kind) ia.items in
    let status : status_in (options_text (ia_options ia)) ≡ status_number ia.status =
    ap (λ (is : List Instance). status_by (first_of 13 is)) found
    ∙ ap status_by (status_first ia.status others (no_status ia.kind ia.items)) ∙ status_back ia.status fits.status in
    let items : items_in ia.kind (options_text (ia_options ia)) ≡ filter_map item_given ia.items =
    ap (filter_map (item_by ia.kind)) found ∙ past_status ia.kind ia.status others ∙ items_back ia.kind ia.items fits.items in
    λ i. record {
      kind = ia.kind;
      iaid = from_be_bytes-to_be_bytes_4 ia.iaid fits.iaid i;
      t1 = from_be_bytes-to_be_bytes_4 ia.t1 fits.t1 i;
      t2 = from_be_bytes-to_be_bytes_4 ia.t2 fits.t2 i;
      status = status i;
      items = items i;
    }

by_code : (kind : IaKind) (value : List ℕ) → ia_by (ia_code kind, value) ≡ Some (ia_in kind value)
by_code Na value = refl
by_code Pd value = refl

ia_back : (ia : GivenIa) → FitsIa ia → ia_by (ia_option ia) ≡ Some (ia_given ia)
ia_back ia fits = by_code ia.kind (ia_value ia) ∙ ap (λ (content : IaContent). Some content) (in_back ia fits)

pub ias_back : (ias : List GivenIa) → AllByRecursion FitsIa ias → filter_map ia_by (map ia_option ias) ≡ map ia_given ias
ias_back [] p = refl
ias_back (ia ∷ ias) p = λ i. cons_option (ia_back ia p.0 i) (ias_back ias p.1 i)
