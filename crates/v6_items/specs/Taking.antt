-- How a Reply is taken (RFC 8415, sections 18.2.10.1 and 14.2): which items stay, which change their moments, and which
-- come.
use Rattle.std.specs.Prelude.{ℕ, Bool, true, false, ◌&&◌, List, [], ◌∷◌, ◌++◌, filter, fold, length, position, remove, slice_set, min, Option, Some, None, nat_lt, ◌==◌, if◌then◌else◌}
use Rattle.std.specs.List.{list_any, flat_map}
use Rattle.net_types.specs.declared.interface.IfSpec.{IfSpec}
use Rattle.net_types.specs.declared.address.Net6.{Net6}
use Rattle.v6_options.specs.declared.code.TheConstants.{DNS_SERVERS, DOMAIN_LIST}
use Rattle.v6_options.specs.declared.ia.ItemSaid.{ItemSaid}
use Rattle.v6_options.specs.Ias.{IaContent}
use Rattle.v6_message.specs.Replies.{Content6}
use Rattle.lease6_text.specs.LeaseText.declared.lease.Origin.{Origin}
use Rattle.lease6_text.specs.LeaseText.Leases.{ValueContent}
use Rattle.lease6_text.specs.declared.lease.Item6.{Item6}
use Rattle.lease6_text.specs.declared.lease.TheConstants.{ITEM_LIMIT}
use Rattle.lease6_text.specs.Leases.{IaLeaseContent, Lease6Content}
use Rattle.lease6_text.specs.LineParts.{is_of_net}
use Rattle.lease6_text.specs.ValueForms.{is_well_formed6}
use Rattle.v6_items.specs.declared.asks.IaAsk.{IaAsk}
use Rattle.v6_items.specs.declared.scope.Scope6.{Scope6}
use Rattle.v6_items.specs.declared.scope.Scope6.TheVariants as scope
use Rattle.v6_items.specs.declared.renewing.Spans6.{Spans6}
use Rattle.v6_items.specs.Bounds.{AreTimed}
use Rattle.v6_items.specs.Items.{is_live, asked_at, ia_with, ias_of, is_nonempty}
use Rattle.v6_items.specs.Reading.{ia_for, is_unbound, saids_of}
use Rattle.v6_items.specs.Renewing.{joined, spans_of, t1_from, t2_from}
use Rattle.v6_items.specs.Times.{moment_after}

-- ---- the items of an IA

-- the items as far as they are taken, and the shortest preferred lifetime of those that were set, in seconds
pub record IaTaking : Type 0 where
  pub items : List Item6
  pub shortest : Option ℕ

-- its moments count from the Reply's arrival
abbrev pub item_from : (at : ℕ) → ItemSaid → Item6
item_from at said = record {
  net = said.net;
  preferred = moment_after at said.preferred;
  valid = moment_after at said.valid;
}

abbrev pub shorter : Option ℕ → ℕ → Option ℕ
shorter None preferred = Some preferred
shorter (Some shortest) preferred = Some (min shortest preferred)

abbrev pub place_of : Net6 → List Item6 → Option ℕ
place_of net items = position (is_of_net net) items

abbrev pub taken_out : Option ℕ → List Item6 → List Item6
taken_out None items = items
taken_out (Some place) items = remove items place

-- an item that is there changes its moments; another one comes last, unless there are four
abbrev pub placed : (at : ℕ) → ItemSaid → Option ℕ → IaTaking → IaTaking
placed at said (Some place) taking = record {
  items = slice_set taking.items place (item_from at said);
  shortest = shorter taking.shortest said.preferred;
}
placed at said None taking =
    if nat_lt (length taking.items) ITEM_LIMIT
    then record { items = taking.items ++ item_from at said ∷ []; shortest = shorter taking.shortest said.preferred }
    else taking

-- an item with a valid lifetime of 0 goes; another one is set
abbrev pub takes_item : (at : ℕ) → IaTaking → ItemSaid → IaTaking
takes_item at taking said =
    if said.valid == 0
    then record { items = taken_out (place_of said.net taking.items) taking.items; shortest = taking.shortest }
    else placed at said (place_of said.net taking.items) taking

-- of the items of a kept lease that is asked for again only those are held that the Reply names
abbrev pub is_named : List ItemSaid → Item6 → Bool
is_named saids item = list_any (λ said. is_of_net said.net item) saids

abbrev pub is_carried : Scope6 → List ItemSaid → Item6 → Bool
is_carried scope.Nothing saids item = false
is_carried scope.All saids item = true
is_carried (scope.Since at) saids item = is_live at item && is_named saids item

abbrev pub carried_on : Scope6 → List ItemSaid → List Item6 → List Item6
carried_on scope saids items = filter (is_carried scope saids) items

-- an IA that the server doesn't know loses its items
abbrev pub carried : Scope6 → (unbound : Bool) → List ItemSaid → List Item6 → List Item6
carried scope unbound saids items = if unbound then [] else carried_on scope saids items

abbrev pub taken_from : (at : ℕ) → List Item6 → List ItemSaid → IaTaking
taken_from at items saids = fold (takes_item at) (record { items = items; shortest = None }) saids

abbrev pub ia_taken : (at : ℕ) → Scope6 → Option IaContent → List Item6 → IaTaking
ia_taken at scope ia items = taken_from at (carried scope (is_unbound ia) (saids_of ia) items) (saids_of ia)

-- ---- the lease

-- a Reply, its IAs, the moment of its arrival, and the items that it meets
pub record Meeting : Type 0 where
  pub at : ℕ
  pub scope : Scope6
  pub kept : Option Lease6Content
  pub ias : List IaContent

abbrev pub taken_by : Meeting → IaAsk → IaTaking
taken_by m ask = ia_taken m.at m.scope (ia_for ask m.ias) (asked_at ask (ias_of m.kept))

-- the lifetimes of what counts of an IA are numbers of 32 bits
abbrev pub IsTimedFor : Meeting → IaAsk → Type 0
IsTimedFor m ask = AreTimed (saids_of (ia_for ask m.ias))

-- an IA, unless it has no items afterwards
abbrev pub ia_granted : Meeting → IaAsk → List IaLeaseContent
ia_granted m ask = ia_with ask.kind ask.iaid (taken_by m ask).items

abbrev pub ias_granted : Meeting → List IaAsk → List IaLeaseContent
ias_granted m asks = flat_map (ia_granted m) asks

abbrev pub ia_spans : Meeting → IaAsk → Option Spans6
ia_spans m ask = spans_of (ia_for ask m.ias) (taken_by m ask).shortest

abbrev pub spans_granted : Meeting → List IaAsk → Option Spans6
spans_granted m asks = fold (λ spans ask. joined spans (ia_spans m ask)) None asks

abbrev pub t1_of : Option Lease6Content → Option ℕ
t1_of None = None
t1_of (Some lease) = lease.t1

abbrev pub t2_of : Option Lease6Content → Option ℕ
t2_of None = None
t2_of (Some lease) = lease.t2

-- where no IA brought items, T1 and T2 stay
abbrev pub t1_granted : Meeting → Option Spans6 → Option ℕ
t1_granted m None = t1_of m.kept
t1_granted m (Some spans) = t1_from m.at spans

abbrev pub t2_granted : Meeting → Option Spans6 → Option ℕ
t2_granted m None = t2_of m.kept
t2_granted m (Some spans) = t2_from m.at spans

-- a value is kept where it has the form of its code (RFC 3646)
abbrev pub value_granted : (code : ℕ) → List ℕ → List ValueContent
value_granted code bytes = if is_well_formed6 code bytes then record { code = code; bytes = bytes } ∷ [] else []

abbrev pub values_granted : Content6 → List ValueContent
values_granted message = value_granted DNS_SERVERS message.dns ++ value_granted DOMAIN_LIST message.search

-- it is given to the interface, and the moment of the Reply's arrival confirms it
abbrev pub origin_granted : IfSpec → Meeting → Origin
origin_granted iface m = record { mac = iface.mac; confirmed = m.at }

-- the lease of an interface after the Reply of a server, unless no item is left
abbrev pub lease_granted : IfSpec → (server : List ℕ) → Content6 → Meeting → List IaAsk → Option Lease6Content
lease_granted iface server message m asks =
    if is_nonempty (ias_granted m asks)
    then Some (record {
      origin = Some (origin_granted iface m);
      name = iface.name;
      server = server;
      t1 = t1_granted m (spans_granted m asks);
      t2 = t2_granted m (spans_granted m asks);
      ias = ias_granted m asks;
      values = values_granted message;
    })
    else None
