-- The IAs that a client's messages name (RFC 8415, sections 18.2.1 to 18.2.8), in the order in which they are asked
-- for.
use Rattle.std.specs.Prelude.{ℕ, Bool, not, ◌&&◌, List, [], ◌∷◌, map, filter, take, ◌==◌, if◌then◌else◌}
use Rattle.std.specs.List.{flat_map, list_any}
use Rattle.net_types.specs.declared.address.Net6.{Net6}
use Rattle.v6_options.specs.declared.ia.IaKind.{IaKind}
use Rattle.v6_options.specs.declared.ia.IaKind.TheVariants.{Na, Pd}
use Rattle.v6_options.specs.declared.ia.ItemSaid.{ItemSaid}
use Rattle.v6_options.specs.Ias.{IaContent}
use Rattle.v6_message.specs.Requests.{AskedContent}
use Rattle.lease6_text.specs.declared.lease.Item6.{Item6}
use Rattle.lease6_text.specs.declared.lease.TheConstants.{ITEM_LIMIT}
use Rattle.lease6_text.specs.Leases.{IaLeaseContent}
use Rattle.lease6_text.specs.LineParts.{has_net, is_of_net}
use Rattle.v6_items.specs.declared.asks.IaAsk.{IaAsk}
use Rattle.v6_items.specs.declared.scope.Scope6.{Scope6}
use Rattle.v6_items.specs.declared.scope.Scope6.TheVariants as scope
use Rattle.v6_items.specs.Items.{asked_at, items_at, is_in, is_live, is_nonempty}
use Rattle.v6_items.specs.Reading.{ia_for, saids_of}

abbrev pub asked_with : IaKind → (iaid : ℕ) → List Net6 → AskedContent
asked_with kind iaid nets = record { kind = kind; iaid = iaid; items = nets }

-- an IA, unless it names nothing
abbrev pub named_with : IaKind → (iaid : ℕ) → List Net6 → List AskedContent
named_with kind iaid nets = if is_nonempty nets then asked_with kind iaid nets ∷ [] else []

-- ---- SOLICIT

-- a prefix of this length is wished for (RFC 8415, section 18.2.1)
abbrev pub hinted : IaKind → (hint : ℕ) → List Net6
hinted Na hint = []
hinted Pd hint = if hint == 0 then [] else record { ip = record { number = 0 }; len = hint } ∷ []

abbrev pub ia_solicited : IaAsk → AskedContent
ia_solicited ask = asked_with ask.kind ask.iaid (hinted ask.kind ask.hint)

-- ---- the items of the client

-- an IA names at most four
abbrev pub nets_in : Scope6 → List Item6 → List Net6
nets_in scope items = take ITEM_LIMIT (map (λ item. item.net) (filter (is_in scope) items))

abbrev pub ia_asked : Scope6 → List IaLeaseContent → IaAsk → AskedContent
ia_asked scope ias ask = asked_with ask.kind ask.iaid (nets_in scope (asked_at ask ias))

abbrev pub ias_asked : Scope6 → List IaLeaseContent → List IaAsk → List AskedContent
ias_asked scope ias asks = map (ia_asked scope ias) asks

-- only IAs with items are given back
abbrev pub ia_released : List IaLeaseContent → IaAsk → List AskedContent
ia_released ias ask = named_with ask.kind ask.iaid (nets_in scope.All (asked_at ask ias))

abbrev pub ias_released : List IaLeaseContent → List IaAsk → List AskedContent
ias_released ias asks = flat_map (ia_released ias) asks

-- ---- what a server offers

abbrev pub nets_said : List ItemSaid → List Net6
nets_said saids = map (λ said. said.net) saids

abbrev pub ia_offered : List IaContent → IaAsk → AskedContent
ia_offered ias ask = asked_with ask.kind ask.iaid (nets_said (saids_of (ia_for ask ias)))

abbrev pub ias_offered : List IaContent → List IaAsk → List AskedContent
ias_offered ias asks = map (ia_offered ias) asks

-- ---- what is declined: what stood in an IA and isn't held any more

abbrev pub nets_gone : List Item6 → List Net6 → List Net6
nets_gone items nets = filter (λ net. not (has_net items net)) nets

abbrev pub ia_declined : List IaLeaseContent → AskedContent → List AskedContent
ia_declined ias ia = named_with ia.kind ia.iaid (nets_gone (items_at ia.kind ia.iaid ias) ia.items)

abbrev pub ias_declined : List IaLeaseContent → List AskedContent → List AskedContent
ias_declined ias stood = flat_map (ia_declined ias) stood

-- what is over isn't declined
abbrev pub is_over_in : (at : ℕ) → List Item6 → Net6 → Bool
is_over_in at items net = list_any (λ item. is_of_net net item && not (is_live at item)) items

abbrev pub nets_lapsed : (at : ℕ) → List Item6 → List Net6 → List Net6
nets_lapsed at items nets = filter (λ net. not (is_over_in at items net)) nets

abbrev pub ia_lapsed : (at : ℕ) → List IaLeaseContent → AskedContent → AskedContent
ia_lapsed at ias ia = asked_with ia.kind ia.iaid (nets_lapsed at (items_at ia.kind ia.iaid ias) ia.items)

abbrev pub ias_lapsed : (at : ℕ) → List IaLeaseContent → List AskedContent → List AskedContent
ias_lapsed at ias stood = map (ia_lapsed at ias) stood
