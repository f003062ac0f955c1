-- The options of a client's message are found again, and nothing in them is malformed.
use Rattle.std.proofs.Common.{◌≡◌, ℕ, ◌+◌, ◌*◌, ◌<◌, ◌≤◌, ◌^◌, Bool, true, false, List, [], ◌∷◌, ◌++◌, length, map, Option, Some, None, refl, ap, ◌∙◌, arith}
use Rattle.std.specs.Prelude.{IfSome}
use Rattle.std.specs.List.{AllByRecursion}
use Rattle.std.proofs.lemmas.Bool.{le-leb}
use Rattle.net_types.specs.declared.address.Net6.{Net6}
use Rattle.v6_options.specs.declared.area.Front.TheVariants.{End}
use Rattle.v6_options.specs.declared.ia.IaKind.{IaKind}
use Rattle.v6_options.specs.declared.ia.IaKind.TheVariants.{Na, Pd}
use Rattle.v6_options.specs.OptionArea.{Instance, instances_in}
use Rattle.v6_options.specs.Nesting.{fields_len, or_else, malformed_held, malformed_in}
use Rattle.v6_options.specs.OptionGrammar.{word_text, FitsOption}
use Rattle.v6_options.proofs.Fronts.{instances_front, front_nothing}
use Rattle.v6_options.proofs.WholeAreas.{none_at_end}
use Rattle.v6_options.proofs.OptionTexts.{option_instances, option_malformed}
use Rattle.v6_message.specs.declared.kind.Kind6.{Kind6}
use Rattle.v6_message.specs.declared.kind.Kind6.TheVariants.{Solicit, Request, Renew, Rebind, Release, Decline}
use Rattle.v6_message.specs.Requests.{AskedContent, SaidContent, item_of, item_len, options_text, ia_option, ia_value, server_options, rapid_options, wanted_in, said_options}
use Rattle.v6_message.specs.ReadBack.{FitsNet, FitsAsked, FitsSaid}
use Rattle.v6_message.proofs.OptionLists.{ia_value_len}

pub nothing_found : instances_in [] ≡ []
nothing_found = instances_front [] End front_nothing

-- an option that fits the grammar, and holds only such
pub record IsSpelled (i : Instance) : Type 0 where
  pub fits : FitsOption i.0 i.1
  pub held : (at : ℕ) → malformed_held (fields_len i.0) at i.1 malformed_in ≡ None

abbrev pub AreSpelled : List Instance → Type 0
AreSpelled instances = AllByRecursion IsSpelled instances

spelled_append : (xs ys : List Instance) → AreSpelled xs → AreSpelled ys → AreSpelled (xs ++ ys)
spelled_append [] ys p q = q
spelled_append (x ∷ xs) ys p q = (p.0, spelled_append xs ys p.1 q)

pub texts_found : (instances : List Instance) → AreSpelled instances → instances_in (options_text instances) ≡ instances
texts_found [] p = nothing_found
texts_found (i ∷ instances) p =
    option_instances i.0 i.1 (options_text instances) p.0.fits ∙ ap (λ (is : List Instance). i ∷ is) (texts_found instances p.1)

pub texts_whole : (at : ℕ) (instances : List Instance) → AreSpelled instances → malformed_in at (options_text instances) ≡ None
texts_whole at [] p = none_at_end at
texts_whole at (i ∷ instances) p =
    option_malformed at i.0 i.1 (options_text instances) p.0.fits
    ∙ ap (λ (o : Option ℕ). or_else o (malformed_in (at + 4 + length i.1) (options_text instances))) (p.0.held at)
    ∙ texts_whole (at + 4 + length i.1) instances p.1

-- ---- items

item_spelled : (kind : IaKind) (net : Net6) → FitsNet kind net → IsSpelled (item_of kind net)
item_spelled Na net fits = record { fits = (omega arith, omega arith, refl); held = λ at. none_at_end (at + 4 + 24) }
item_spelled Pd net fits = record { fits = (omega arith, omega arith, le-leb net.len 128 fits.1); held = λ at. none_at_end (at + 4 + 25) }

pub items_spelled : (kind : IaKind) (items : List Net6) → AllByRecursion (FitsNet kind) items → AreSpelled (map (item_of kind) items)
items_spelled kind [] p = tt
items_spelled kind (net ∷ items) p = (item_spelled kind net p.0, items_spelled kind items p.1)

-- ---- IAs

few_bytes : (n : ℕ) (kind : IaKind) → n ≤ 4 → 12 + n * item_len kind < 2 ^ 16
few_bytes n Na h = omega arith
few_bytes n Pd h = omega arith

ia_spelled : (kind : IaKind) (iaid : ℕ) (items : List Net6) → length items ≤ 4 → AllByRecursion (FitsNet kind) items
    → IsSpelled (ia_option (record { kind = kind; iaid = iaid; items = items }))
ia_spelled Na iaid items few fit =
    let ia : AskedContent = record { kind = Na; iaid = iaid; items = items } in
    let size = ia_value_len ia in
    record {
      fits = (omega arith, omega (arith, size, few_bytes (length items) Na few), le-leb 12 (length (ia_value ia)) (omega (arith, size)));
      held = λ at. texts_whole (at + 4 + 12) (map (item_of Na) items) (items_spelled Na items fit);
    }
ia_spelled Pd iaid items few fit =
    let ia : AskedContent = record { kind = Pd; iaid = iaid; items = items } in
    let size = ia_value_len ia in
    record {
      fits = (omega arith, omega (arith, size, few_bytes (length items) Pd few), le-leb 12 (length (ia_value ia)) (omega (arith, size)));
      held = λ at. texts_whole (at + 4 + 12) (map (item_of Pd) items) (items_spelled Pd items fit);
    }

ias_spelled : (ias : List AskedContent) → AllByRecursion FitsAsked ias → AreSpelled (map ia_option ias)
ias_spelled [] p = tt
ias_spelled (ia ∷ ias) p = (ia_spelled ia.kind ia.iaid ia.items p.0.few p.0.items, ias_spelled ias p.1)

-- ---- the other options

server_spelled : (server : Option (List ℕ)) → IfSome server (λ server. length server ≤ 130) → AreSpelled (server_options server)
server_spelled None h = tt
server_spelled (Some server) h = (record { fits = (omega arith, omega (arith, h), refl); held = λ at. refl }, tt)

rapid_spelled : (rapid : Bool) → AreSpelled (rapid_options rapid)
rapid_spelled false = tt
rapid_spelled true = (record { fits = (omega arith, omega arith, refl); held = λ at. refl }, tt)

wanted_spelled : (kind : Kind6) → AreSpelled (wanted_in kind)
wanted_spelled Solicit = (record { fits = (omega arith, omega arith, refl); held = λ at. refl }, tt)
wanted_spelled Request = (record { fits = (omega arith, omega arith, refl); held = λ at. refl }, tt)
wanted_spelled Renew = (record { fits = (omega arith, omega arith, refl); held = λ at. refl }, tt)
wanted_spelled Rebind = (record { fits = (omega arith, omega arith, refl); held = λ at. refl }, tt)
wanted_spelled Release = tt
wanted_spelled Decline = tt

pub said_spelled : (said : SaidContent) → FitsSaid said → AreSpelled (said_options said)
said_spelled said fits =
    let last = spelled_append (map ia_option said.ias) (wanted_in said.kind) (ias_spelled said.ias fits.ias) (wanted_spelled said.kind) in
    let rapid = spelled_append (rapid_options said.rapid) (map ia_option said.ias ++ wanted_in said.kind) (rapid_spelled said.rapid) last in
    let elapsed : IsSpelled (8, word_text said.elapsed) = record { fits = (omega arith, omega arith, refl); held = λ at. refl } in
    let client : IsSpelled (1, said.client) = record { fits = (omega arith, omega (arith, fits.client), refl); held = λ at. refl } in
    let after : AreSpelled ((8, word_text said.elapsed) ∷ (rapid_options said.rapid ++ (map ia_option said.ias ++ wanted_in said.kind))) = (elapsed, rapid) in (
      client,
      spelled_append (server_options said.server)
          ((8, word_text said.elapsed) ∷ (rapid_options said.rapid ++ (map ia_option said.ias ++ wanted_in said.kind)))
          (server_spelled said.server fits.server) after,
    )
