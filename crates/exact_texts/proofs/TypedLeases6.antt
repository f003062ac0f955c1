-- The lease that a Reply grants has numbers and addresses within the types that hold them, and so have leases that items go from.
use Rattle.std.proofs.Common.{ℕ, zero, suc, ◌<◌, ◌^◌, Bool, true, false, ◌&&◌, List, [], ◌∷◌, ◌++◌, filter, flat_map, fold, length, set, take, drop, Option, Some, None, IfSome, eqb, leb, nat_lt}
use Rattle.std.proofs.lemmas.Bool.{and_parts, leb-true}
use Rattle.std.specs.List.{AllByRecursion}
use Rattle.std.specs.Option.{option_and_then, option_map, option_map_or}
use Rattle.net_types.proofs.AllLaws.{all_join}
use Rattle.net_types.proofs.CaseLaws.{gated, split}
use Rattle.net_types.specs.AddressText.{FitsIp6, FitsMac}
use Rattle.net_types.specs.Marks.{AreBytes}
use Rattle.v6_options.specs.Duids.{duid_in}
use Rattle.v6_options.specs.declared.ia.IaKind.{IaKind}
use Rattle.v6_options.specs.declared.ia.ItemSaid.{ItemSaid}
use Rattle.v6_message.specs.Replies.{Content6}
use Rattle.lease6_text.specs.Bounds.{IsDuid, IsTypedIa}
use Rattle.lease6_text.specs.Leases.{IaLeaseContent, Lease6Content}
use Rattle.lease6_text.specs.LineParts.{is_ia}
use Rattle.lease6_text.specs.declared.lease.Item6.{Item6}
use Rattle.lease6_text.specs.declared.lease.TheConstants.{ITEM_LIMIT}
use Rattle.v6_client.specs.Answers.{fresh_of, granted, meeting_of, server_of}
use Rattle.v6_client.specs.Clients.{ClientContent}
use Rattle.v6_client.specs.V6Items.Items.{asked_at, ia_with, ias_of, is_nonempty, pruned_ia, pruned_ias, staying, stays_in, thinned, without}
use Rattle.v6_client.specs.Moves.{kept_left, lease_with, thinned_lease}
use Rattle.v6_client.specs.V6Items.Reading.{ia_for, is_unbound, saids_of}
use Rattle.v6_client.specs.V6Items.Taking.{IaTaking, Meeting, carried, ia_granted, ias_granted, is_carried, item_from, place_of, placed, taken_by, taken_out, takes_item}
use Rattle.v6_client.specs.V6Items.declared.asks.IaAsk.{IaAsk}
use Rattle.v6_client.specs.V6Items.declared.scope.Cause6.{Cause6}
use Rattle.v6_client.specs.V6Items.declared.scope.Cause6.TheVariants.{Lapse}
use Rattle.v6_client.specs.V6Items.declared.scope.Parting6.{Parting6}
use Rattle.v6_client.specs.V6Items.declared.scope.Scope6.{Scope6}
use Rattle.exact_texts.proofs.Heard6.{HasServer, IsAddressed, find_all, saids_addressed}

abbrev TypedItem : Item6 → Type 0
TypedItem item = FitsIp6 item.net.ip

abbrev TypedItems : List Item6 → Type 0
TypedItems items = AllByRecursion TypedItem items

abbrev TypedIas : List IaLeaseContent → Type 0
TypedIas ias = AllByRecursion IsTypedIa ias

-- a lease, apart from its bounds and the values that came with it
pub record TypedLease6 (lease : Lease6Content) : Type 0 where
  pub origin : IfSome lease.origin (λ origin. FitsMac origin.mac)
  pub server : IsDuid lease.server
  pub ias : TypedIas lease.ias

-- the number of what is asked for has 32 bits
abbrev pub IsNumbered : IaAsk → Type 0
IsNumbered ask = ask.iaid < 2 ^ 32

-- ---- lists

pub all_filter : {X : Type 0} (P : X → Type 0) (p : X → Bool) (xs : List X) → AllByRecursion P xs → AllByRecursion P (filter p xs)
all_filter P p [] all = tt
all_filter P p (x ∷ xs) all =
    gated (AllByRecursion P) (p x) (x ∷ filter p xs) (filter p xs) (all.0, all_filter P p xs all.1) (all_filter P p xs all.1)

pub all_flat : {X Y : Type 0} (P : X → Type 0) (Q : Y → Type 0) (f : X → List Y) → ((x : X) → P x → AllByRecursion Q (f x)) → (xs : List X)
    → AllByRecursion P xs → AllByRecursion Q (flat_map f xs)
all_flat P Q f each [] all = tt
all_flat P Q f each (x ∷ xs) all = all_join Q (f x) (flat_map f xs) (each x all.0) (all_flat P Q f each xs all.1)

out_all : {X : Type 0} (P : X → Type 0) (xs : List X) (i : ℕ) → AllByRecursion P xs → AllByRecursion P (take i xs ++ drop (suc i) xs)
out_all P [] zero all = tt
out_all P [] (suc i) all = tt
out_all P (x ∷ xs) zero all = all.1
out_all P (x ∷ xs) (suc i) all = (all.0, out_all P xs i all.1)

set_all : {X : Type 0} (P : X → Type 0) (xs : List X) (i : ℕ) (v : X) → P v → AllByRecursion P xs → AllByRecursion P (set xs i v)
set_all P [] zero v here all = tt
set_all P [] (suc i) v here all = tt
set_all P (x ∷ xs) zero v here all = (here, all.1)
set_all P (x ∷ xs) (suc i) v here all = (all.0, set_all P xs i v here all.1)

-- ---- IAs

with_typed : (kind : IaKind) (iaid : ℕ) → iaid < 2 ^ 32 → (items : List Item6) → TypedItems items → TypedIas (ia_with kind iaid items)
with_typed kind iaid small items typed = gated TypedIas (is_nonempty items) _ [] (record { iaid = small; items = typed }, tt) tt

thinned_typed : (cause : Cause6) (ia : IaLeaseContent) → IsTypedIa ia → TypedIas (thinned cause ia)
thinned_typed cause ia typed =
    with_typed ia.kind ia.iaid typed.iaid (staying cause ia.kind ia.items) (all_filter TypedItem (stays_in cause ia.kind) ia.items typed.items)

items_found : (found : Option IaLeaseContent) → IfSome found IsTypedIa → TypedItems (option_map_or (λ ia. ia.items) found [])
items_found None typed = tt
items_found (Some ia) typed = typed.items

at_typed : (ask : IaAsk) (ias : List IaLeaseContent) → TypedIas ias → TypedItems (asked_at ask ias)
at_typed ask ias typed = items_found _ (find_all IsTypedIa (is_ia (ask.kind, ask.iaid)) ias typed)

pruned_typed : (at : ℕ) (ias : List IaLeaseContent) → TypedIas ias → (ask : IaAsk) → IsNumbered ask → TypedIas (pruned_ia at ias ask)
pruned_typed at ias typed ask small =
    with_typed ask.kind ask.iaid small (staying (Lapse at) ask.kind (asked_at ask ias))
    (all_filter TypedItem (stays_in (Lapse at) ask.kind) (asked_at ask ias) (at_typed ask ias typed))

-- ---- leases that items go from

with_ias : (lease : Lease6Content) (ias : List IaLeaseContent) → TypedLease6 lease → TypedIas ias → TypedLease6 (lease_with ias lease)
with_ias lease ias typed others = record { origin = typed.origin; server = typed.server; ias = others }

pub thin_typed : (cause : Cause6) (kept : Option Lease6Content) → IfSome kept TypedLease6 → IfSome (option_map (thinned_lease cause) kept) TypedLease6
thin_typed cause None typed = tt
thin_typed cause (Some lease) typed =
    with_ias lease (without cause lease.ias) typed (all_flat IsTypedIa IsTypedIa (thinned cause) (thinned_typed cause) lease.ias typed.ias)

pub left_typed : (cause : Cause6) (parting : Parting6) (kept : Option Lease6Content) → IfSome kept TypedLease6
    → IfSome (kept_left cause parting kept) TypedLease6
left_typed cause parting kept typed =
    gated (λ (k : Option Lease6Content). IfSome k TypedLease6) parting.stays (option_map (thinned_lease cause) kept) kept (thin_typed cause kept typed) typed

pub prune_typed : (at : ℕ) (asks : List IaAsk) → AllByRecursion IsNumbered asks → (kept : Option Lease6Content) → IfSome kept TypedLease6
    → IfSome (option_map (λ lease. lease_with (pruned_ias at lease.ias asks) lease) kept) TypedLease6
prune_typed at asks small None typed = tt
prune_typed at asks small (Some lease) typed =
    with_ias lease (pruned_ias at lease.ias asks) typed
    (all_flat IsNumbered IsTypedIa (pruned_ia at lease.ias) (pruned_typed at lease.ias typed.ias) asks small)

-- ---- the items of a Reply

abbrev TakesTyped : IaTaking → Type 0
TakesTyped taking = TypedItems taking.items

out_typed : (place : Option ℕ) (items : List Item6) → TypedItems items → TypedItems (taken_out place items)
out_typed None items typed = typed
out_typed (Some place) items typed = out_all TypedItem items place typed

placed_typed : (at : ℕ) (said : ItemSaid) (place : Option ℕ) (taking : IaTaking) → IsAddressed said → TakesTyped taking
    → TakesTyped (placed at said place taking)
placed_typed at said (Some place) taking good typed = set_all TypedItem taking.items place (item_from at said) good typed
placed_typed at said None taking good typed =
    gated TakesTyped (nat_lt (length taking.items) ITEM_LIMIT) _ taking (all_join TypedItem taking.items (item_from at said ∷ []) typed (good, tt)) typed

takes_typed : (at : ℕ) (taking : IaTaking) (said : ItemSaid) → IsAddressed said → TakesTyped taking → TakesTyped (takes_item at taking said)
takes_typed at taking said good typed =
    gated TakesTyped (eqb said.valid 0) _ (placed at said (place_of said.net taking.items) taking)
    (out_typed (place_of said.net taking.items) taking.items typed) (placed_typed at said (place_of said.net taking.items) taking good typed)

all_taken : (at : ℕ) (saids : List ItemSaid) (taking : IaTaking) → AllByRecursion IsAddressed saids → TakesTyped taking
    → TakesTyped (fold (takes_item at) taking saids)
all_taken at [] taking good typed = typed
all_taken at (said ∷ saids) taking good typed = all_taken at saids (takes_item at taking said) good.1 (takes_typed at taking said good.0 typed)

carried_typed : (scope : Scope6) (unbound : Bool) (saids : List ItemSaid) (items : List Item6) → TypedItems items
    → TypedItems (carried scope unbound saids items)
carried_typed scope true saids items typed = tt
carried_typed scope false saids items typed = all_filter TypedItem (is_carried scope saids) items typed

module _ (m : Meeting) (kept : IfSome m.kept TypedLease6) (saids : (ask : IaAsk) → AllByRecursion IsAddressed (saids_of (ia_for ask m.ias))) where
  had_typed : (lease : Option Lease6Content) → IfSome lease TypedLease6 → TypedIas (ias_of lease)
  had_typed None typed = tt
  had_typed (Some lease) typed = typed.ias

  taken_typed : (ask : IaAsk) → TypedItems (taken_by m ask).items
  taken_typed ask =
      all_taken m.at (saids_of (ia_for ask m.ias)) _ (saids ask)
      (carried_typed m.scope (is_unbound (ia_for ask m.ias)) (saids_of (ia_for ask m.ias)) (asked_at ask (ias_of m.kept))
      (at_typed ask (ias_of m.kept) (had_typed m.kept kept)))

  granted_typed : (ask : IaAsk) → IsNumbered ask → TypedIas (ia_granted m ask)
  granted_typed ask small = with_typed ask.kind ask.iaid small (taken_by m ask).items (taken_typed ask)

  all_granted : (asks : List IaAsk) → AllByRecursion IsNumbered asks → TypedIas (ias_granted m asks)
  all_granted asks small = all_flat IsNumbered IsTypedIa (ia_granted m) granted_typed asks small

-- ---- the lease of a Reply

duid_typed : (bytes : List ℕ) → AreBytes bytes → IfSome (duid_in bytes) IsDuid
duid_typed bytes octets =
    split (leb 2 (length bytes) && leb (length bytes) 130)
    (λ e. let parts = and_parts (leb 2 (length bytes)) (leb (length bytes) 130) e in
    rw e (record { least = leb-true 2 (length bytes) parts.0; most = leb-true (length bytes) 130 parts.1; octets = octets }))
    (λ e. rw e tt)

by_server : (server : Option (List ℕ)) → IfSome server AreBytes → IfSome (option_and_then duid_in server) IsDuid
by_server None octets = tt
by_server (Some bytes) octets = duid_typed bytes octets

module _ (at : ℕ) (c : ClientContent) (mac : FitsMac c.settings.site.iface.mac) (small : AllByRecursion IsNumbered c.settings.asks)
    (kept : IfSome c.kept TypedLease6) (message : Content6) (brings : HasServer message) where
  lease_typed : (server : List ℕ) → IsDuid server → IfSome (granted at c message server) TypedLease6
  lease_typed server is =
      gated (λ (lease : Option Lease6Content). IfSome lease TypedLease6) (is_nonempty (ias_granted (meeting_of at c message) c.settings.asks)) (Some _) None
      (record {
        origin = mac;
        server = is;
        ias = all_granted (meeting_of at c message) kept (saids_addressed message.options brings.options) c.settings.asks small;
      }) tt

  of_server : (server : Option (List ℕ)) → IfSome server IsDuid → IfSome (option_and_then (granted at c message) server) TypedLease6
  of_server None is = tt
  of_server (Some server) is = lease_typed server is

  pub fresh_typed : (taken : Bool) → IfSome (fresh_of at taken c message) TypedLease6
  fresh_typed true = of_server (server_of message) (by_server message.server brings.server)
  fresh_typed false = tt
