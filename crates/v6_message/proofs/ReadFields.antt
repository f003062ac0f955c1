-- Each field of a client's message is read back from its options.
use Rattle.std.proofs.Common.{◌≡◌, ℕ, ◌<◌, ◌^◌, Bool, true, false, List, [], ◌∷◌, ◌++◌, map, Option, Some, None, refl, sym, ap, ◌∙◌, eqb}
use Rattle.std.specs.Prelude.{is_some, ◌==◌, if◌then◌else◌}
use Rattle.std.specs.List.{AllByRecursion, filter_map, cons_option}
use Rattle.std.proofs.lemmas.List.{append-nil}
use Rattle.std.proofs.lemmas.List.Elements.{filter_map-append}
use Rattle.std.proofs.lemmas.Nat.{from_be_bytes-to_be_bytes_4}
use Rattle.net_types.specs.declared.address.Net6.{Net6}
use Rattle.v6_options.specs.declared.ia.IaKind.{IaKind}
use Rattle.v6_options.specs.declared.ia.IaKind.TheVariants.{Na, Pd}
use Rattle.v6_options.specs.declared.ia.ItemSaid.{ItemSaid}
use Rattle.v6_options.specs.OptionArea.{Instance}
use Rattle.v6_options.specs.OptionWalk.{first_of}
use Rattle.v6_options.specs.Statuses.{status_by, status_in}
use Rattle.v6_options.specs.Ias.{IaContent, address_in, prefix_in, item_by, items_in, ia_in, ia_by}
use Rattle.v6_message.specs.declared.kind.Kind6.{Kind6}
use Rattle.v6_message.specs.declared.kind.Kind6.TheVariants.{Solicit, Request, Renew, Rebind, Release, Decline}
use Rattle.v6_message.specs.Requests.{AskedContent, item_of, options_text, ia_option, ia_value, server_options, rapid_options, wanted_in}
use Rattle.v6_message.specs.ReadBack.{FitsNet, FitsAsked, asked_in}
use Rattle.v6_message.proofs.SpelledOptions.{nothing_found, texts_found, items_spelled}
use Rattle.net_types.proofs.WireNumbers.{wide_back}

-- ---- items

status_of_nothing : status_in [] ≡ 0
status_of_nothing = ap (λ (is : List Instance). status_by (first_of 13 is)) nothing_found

-- an address or prefix that is asked for, as a server would say it
abbrev item_said : Net6 → ItemSaid
item_said net = record { net = net; preferred = 0; valid = 0 }

item_back : (kind : IaKind) (net : Net6) → FitsNet kind net → item_by kind (item_of kind net) ≡ Some (item_said net)
item_back Na net fits =
    ap (λ (s : ℕ). if s == 0 then Some (address_in (item_of Na net).1) else None) status_of_nothing
    ∙ (λ i. Some (record { net = record { ip = record { number = wide_back net.ip.number fits.0 i }; len = sym fits.1 i }; preferred = 0; valid = 0 }))
item_back Pd net fits =
    ap (λ (s : ℕ). if s == 0 then Some (prefix_in (item_of Pd net).1) else None) status_of_nothing
    ∙ (λ i. Some (record { net = record { ip = record { number = wide_back net.ip.number fits.0 i }; len = net.len }; preferred = 0; valid = 0 }))

items_back : (kind : IaKind) (items : List Net6) → AllByRecursion (FitsNet kind) items
    → filter_map (item_by kind) (map (item_of kind) items) ≡ map item_said items
items_back kind [] p = refl
items_back kind (net ∷ items) p = λ i. cons_option (item_back kind net p.0 i) (items_back kind items p.1 i)

nets_back : (items : List Net6) → map (λ item. item.net) (map item_said items) ≡ items
nets_back [] = refl
nets_back (net ∷ items) = ap (λ (more : List Net6). net ∷ more) (nets_back items)

-- ---- IAs

no_status : (kind : IaKind) (items : List Net6) → first_of 13 (map (item_of kind) items) ≡ None
no_status kind [] = refl
no_status Na (net ∷ items) = no_status Na items
no_status Pd (net ∷ items) = no_status Pd items

abbrev ia_said : AskedContent → IaContent
ia_said ia = record { kind = ia.kind; iaid = ia.iaid; t1 = 0; t2 = 0; status = 0; items = map item_said ia.items }

in_back : (kind : IaKind) (iaid : ℕ) (items : List Net6) → iaid < 2 ^ 32 → AllByRecursion (FitsNet kind) items
    → ia_in kind (ia_value (record { kind = kind; iaid = iaid; items = items })) ≡ ia_said (record { kind = kind; iaid = iaid; items = items })
in_back kind iaid items iaid_fits fit =
    let found = texts_found (map (item_of kind) items) (items_spelled kind items fit) in
    let status : status_in (options_text (map (item_of kind) items)) ≡ 0 =
    ap (λ (is : List Instance). status_by (first_of 13 is)) found ∙ ap status_by (no_status kind items) in
    let read : items_in kind (options_text (map (item_of kind) items)) ≡ map item_said items =
    ap (filter_map (item_by kind)) found ∙ items_back kind items fit in
    λ i. record {
      kind = kind;
      iaid = from_be_bytes-to_be_bytes_4 iaid iaid_fits i;
      t1 = 0;
      t2 = 0;
      status = status i;
      items = read i;
    }

ia_back : (kind : IaKind) (iaid : ℕ) (items : List Net6) → iaid < 2 ^ 32 → AllByRecursion (FitsNet kind) items
    → ia_by (ia_option (record { kind = kind; iaid = iaid; items = items })) ≡ Some (ia_said (record { kind = kind; iaid = iaid; items = items }))
ia_back Na iaid items iaid_fits fit = ap (λ (ia : IaContent). Some ia) (in_back Na iaid items iaid_fits fit)
ia_back Pd iaid items iaid_fits fit = ap (λ (ia : IaContent). Some ia) (in_back Pd iaid items iaid_fits fit)

same_asked : (ia : AskedContent) → asked_in (ia_said ia) ≡ ia
same_asked ia = λ i. record { kind = ia.kind; iaid = ia.iaid; items = nets_back ia.items i }

pub ias_back : (ias : List AskedContent) → AllByRecursion FitsAsked ias → map asked_in (filter_map ia_by (map ia_option ias)) ≡ ias
ias_back [] p = refl
ias_back (ia ∷ ias) p =
    ap (λ (o : Option IaContent). map asked_in (cons_option o (filter_map ia_by (map ia_option ias)))) (ia_back ia.kind ia.iaid ia.items p.0.iaid p.0.items)
    ∙ (λ i. same_asked ia i ∷ ias_back ias p.1 i)

-- ---- the other options

past_ia : (code : ℕ) (kind : IaKind) (iaid : ℕ) (items : List Net6) (more : List Instance) → eqb 3 code ≡ false → eqb 25 code ≡ false
    → first_of code (ia_option (record { kind = kind; iaid = iaid; items = items }) ∷ more) ≡ first_of code more
past_ia code Na iaid items more no_na no_pd = rw no_na refl
past_ia code Pd iaid items more no_na no_pd = rw no_pd refl

past_ias : (code : ℕ) (ias : List AskedContent) (more : List Instance) → eqb 3 code ≡ false → eqb 25 code ≡ false
    → first_of code (map ia_option ias ++ more) ≡ first_of code more
past_ias code [] more no_na no_pd = refl
past_ias code (ia ∷ ias) more no_na no_pd =
    past_ia code ia.kind ia.iaid ia.items (map ia_option ias ++ more) no_na no_pd ∙ past_ias code ias more no_na no_pd

none_wanted : (code : ℕ) (kind : Kind6) → eqb 6 code ≡ false → first_of code (wanted_in kind) ≡ None
none_wanted code Solicit other = rw other refl
none_wanted code Request other = rw other refl
none_wanted code Renew other = rw other refl
none_wanted code Rebind other = rw other refl
none_wanted code Release other = refl
none_wanted code Decline other = refl

no_ias_wanted : (kind : Kind6) → filter_map ia_by (wanted_in kind) ≡ []
no_ias_wanted Solicit = refl
no_ias_wanted Request = refl
no_ias_wanted Renew = refl
no_ias_wanted Rebind = refl
no_ias_wanted Release = refl
no_ias_wanted Decline = refl

module _ (client elapsed : List ℕ) (ias : List AskedContent) (kind : Kind6) where
  abbrev last : List Instance
  last = map ia_option ias ++ wanted_in kind

  abbrev options : Option (List ℕ) → Bool → List Instance
  options server rapid = (1, client) ∷ (server_options server ++ ((8, elapsed) ∷ (rapid_options rapid ++ last)))

  not_last : (code : ℕ) → eqb 3 code ≡ false → eqb 25 code ≡ false → eqb 6 code ≡ false → first_of code last ≡ None
  not_last code no_na no_pd no_wanted = past_ias code ias (wanted_in kind) no_na no_pd ∙ none_wanted code kind no_wanted

  pub server_back : (server : Option (List ℕ)) (rapid : Bool) → first_of 2 (options server rapid) ≡ server
  server_back None false = not_last 2 refl refl refl
  server_back None true = not_last 2 refl refl refl
  server_back (Some server) rapid = refl

  pub elapsed_back : (server : Option (List ℕ)) (rapid : Bool) → first_of 8 (options server rapid) ≡ Some elapsed
  elapsed_back None rapid = refl
  elapsed_back (Some server) rapid = refl

  pub rapid_back : (server : Option (List ℕ)) (rapid : Bool) → is_some (first_of 14 (options server rapid)) ≡ rapid
  rapid_back None false = ap (λ (o : Option (List ℕ)). is_some o) (not_last 14 refl refl refl)
  rapid_back None true = refl
  rapid_back (Some server) false = ap (λ (o : Option (List ℕ)). is_some o) (not_last 14 refl refl refl)
  rapid_back (Some server) true = refl

  last_ias : filter_map ia_by last ≡ filter_map ia_by (map ia_option ias)
  last_ias =
      filter_map-append ia_by (map ia_option ias) (wanted_in kind)
      ∙ ap (λ (more : List IaContent). filter_map ia_by (map ia_option ias) ++ more) (no_ias_wanted kind)
      ∙ append-nil (filter_map ia_by (map ia_option ias))

  pub ias_among : (server : Option (List ℕ)) (rapid : Bool) → filter_map ia_by (options server rapid) ≡ filter_map ia_by (map ia_option ias)
  ias_among None false = last_ias
  ias_among None true = last_ias
  ias_among (Some server) false = last_ias
  ias_among (Some server) true = last_ias
