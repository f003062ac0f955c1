-- The values of the leases that an interface keeps are bytes, in every life.
use Rattle.std.proofs.Common.{◌≡◌, ℕ, Bool, true, false, not, ◌&&◌, List, [], ◌∷◌, flat_map, length, map, Option, Some, None, IfSome, refl, nat_le}
use Rattle.std.specs.List.{AllByRecursion}
use Rattle.std.specs.Option.{option_and_then, option_map}
use Rattle.machine.specs.Moment.{is_due}
use Rattle.net_types.proofs.AllLaws.{all_join}
use Rattle.net_types.proofs.CaseLaws.{gated}
use Rattle.net_types.specs.Marks.{AreBytes}
use Rattle.net_types.specs.declared.address.Ip6.{Ip6}
use Rattle.net_types.specs.declared.interface.IfSpec.{IfSpec}
use Rattle.net_types.specs.declared.interface.Name.{Name}
use Rattle.lease_text.specs.Bounds.{HasText}
use Rattle.lease_text.specs.Leases.{LeaseContent, ValueContent}
use Rattle.v4_options.specs.ValueForms.{is_well_formed}
use Rattle.v4_options.specs.declared.table.TheConstants.{KEPT_CODES}
use Rattle.lease_text.specs.declared.lease.TheConstants.{VALUE_LIMIT}
use Rattle.lease6_text.specs.Bounds.{HasText6}
use Rattle.lease6_text.specs.Leases.{Lease6Content}
use Rattle.lease6_text.specs.ValueForms.{is_well_formed6}
use Rattle.v4_options.specs.OptionArea.{Instance}
use Rattle.v4_options.specs.OptionValue.{value_of}
use Rattle.v4_client.specs.Calls.{answer_to}
use Rattle.v4_client.specs.Granting.{kept_of, kept_value, kept_values, unless_refused}
use Rattle.v4_client.specs.Messages.{is_among}
use Rattle.v4_client.specs.Moves.{fresh_after, fresh_with, kept_after}
use Rattle.v4_client.specs.declared.states.Answer4.{Answer4}
use Rattle.v4_client.specs.declared.states.Answer4.TheVariants as answer
use Rattle.v4_client.specs.declared.states.Keep4.{Keep4}
use Rattle.v4_client.specs.declared.states.Keep4.TheVariants.{Stays, Clears, Takes}
use Rattle.v6_message.specs.Replies.{Content6}
use Rattle.v6_message.specs.declared.kind.ServerKind6.{ServerKind6}
use Rattle.v6_message.specs.declared.kind.ServerKind6.TheVariants.{Advertise, Reply}
use Rattle.v6_options.specs.declared.code.TheConstants.{DNS_SERVERS, DOMAIN_LIST}
use Rattle.v6_client.specs.Answers.{advertise_answer, advertised, counts, fresh_of, granted, is_taken, learnt, server_of}
use Rattle.v6_client.specs.Calls.{answer_in, carried_by, carrier_step, dates_in, due_of, fresh_in, rebind_step, release_step, stands_at}
use Rattle.v6_client.specs.Clients.{ClientContent, holds, is_at_end, is_restarting, turn_of}
use Rattle.v6_client.specs.Hearing.{heard_row}
use Rattle.v6_client.specs.Inputs.{duplicate_row}
use Rattle.v6_client.specs.V6Items.Items.{pruned_ias}
use Rattle.v6_client.specs.Moves as moves6
use Rattle.v6_client.specs.Moves.{declining_now, given_up, kept_left, lapsed, lease_with, missing, parting_at, thinned_lease}
use Rattle.v6_client.specs.Runs.{Turned6, answered, carrier_turned, contested_turned, hears_turned, rebind_turned, release_turned, rested, stepped, tick_turned}
use Rattle.v6_client.specs.V6Items.Taking.{value_granted, values_granted}
use Rattle.v6_client.specs.Ticks.{tick_row}
use Rattle.v6_client.specs.V6Items.declared.asks.IaAsk.{IaAsk}
use Rattle.v6_client.specs.declared.states.Carrier6.{Carrier6}
use Rattle.v6_client.specs.declared.states.Carrier6.TheVariants.{Up, Down}
use Rattle.v6_client.specs.V6Items.declared.scope.Cause6.{Cause6}
use Rattle.v6_client.specs.V6Items.declared.scope.Cause6.TheVariants.{Lapse, Duplicate}
use Rattle.v6_client.specs.declared.states.Keep6.{Keep6}
use Rattle.v6_client.specs.declared.states.Keep6.TheVariants as keep6
use Rattle.v6_client.specs.V6Items.declared.scope.Parting6.{Parting6}
use Rattle.v6_client.specs.declared.states.Step6.{Step6}
use Rattle.v6_client.specs.declared.states.Tell6.{Tell6}
use Rattle.world.specs.StoreCalls.{Reading, Found, Missing, Unread}
use Rattle.client_model.specs.declared.interfaces.Iface.{Iface}
use Rattle.client_model.specs.Dhcp4Steps.{arrival_at}
use Rattle.client_model.specs.Dhcp6Steps.{after_dhcp6}
use Rattle.client_model.specs.Interfaces.{resting}
use Rattle.client_model.specs.KeptLeases.{Beginning, is_own, kept_by, lease_spelled, own_lease}
use Rattle.client_model.specs.KeptLeases6.{kept6_by}
use Rattle.client_model.proofs.KeptTexts.{is_reading}
use Rattle.turn_model.proofs.Loading.{kept_fits6}
use Rattle.turn_model.specs.Loading.{Loaded, beginning_of}
use Rattle.safe_texts.proofs.FrameOctets.{Good4, Good6, HasValues6, Values, heard4_good, heard6_good, value_bytes}
use Rattle.safe_texts.proofs.KeptThrough.{BringsGood, IsKept}

-- ---- values that are bytes

abbrev pub OctetValue : ValueContent → Type 0
OctetValue value = AreBytes value.bytes

abbrev pub OctetValues : List ValueContent → Type 0
OctetValues values = AllByRecursion OctetValue values

abbrev Octets4 : LeaseContent → Type 0
Octets4 lease = OctetValues lease.values

abbrev Octets6 : Lease6Content → Type 0
Octets6 lease = OctetValues lease.values

pub record HasOctets (f : Iface) : Type 0 where
  pub kept4 : IfSome f.dhcp4.kept Octets4
  pub fresh4 : OctetValues f.dhcp4.fresh
  pub kept6 : IfSome f.dhcp6.kept Octets6

-- ---- DHCPv4

kept_octets : (keep : Keep4) (name : Name) (fresh : List ValueContent) (kept : Option LeaseContent) → OctetValues fresh → IfSome kept Octets4
    → IfSome (kept_after keep name fresh kept) Octets4
kept_octets Stays name fresh kept new old = old
kept_octets Clears name fresh kept new old = tt
kept_octets (Takes terms) name fresh kept new old = new

fresh_octets : (keep : Keep4) (fresh : List ValueContent) → OctetValues fresh → OctetValues (fresh_after keep fresh)
fresh_octets Stays fresh new = new
fresh_octets Clears fresh new = new
fresh_octets (Takes terms) fresh new = tt

one_kept : (code : ℕ) (found : Option (List ℕ)) → IfSome found AreBytes → OctetValues (kept_value code found)
one_kept code None h = tt
one_kept code (Some value) h =
    gated OctetValues (nat_le (length value) VALUE_LIMIT && is_well_formed code value) (record { code = code; bytes = value } ∷ []) [] (h, tt) tt

not_refused : (refused : List ℕ) (code : ℕ) (found : Option (List ℕ)) → IfSome found AreBytes → IfSome (unless_refused refused code found) AreBytes
not_refused refused code found h = gated (λ (o : Option (List ℕ)). IfSome o AreBytes) (is_among refused code) None found tt h

all_kept : (refused : List ℕ) (instances : List Instance) → Values instances → (codes : List ℕ) → OctetValues (flat_map (kept_of refused instances) codes)
all_kept refused instances h [] = tt
all_kept refused instances h (code ∷ codes) =
    all_join OctetValue (kept_of refused instances code) (flat_map (kept_of refused instances) codes)
    (one_kept code (unless_refused refused code (value_of code instances)) (not_refused refused code (value_of code instances) (value_bytes code instances h)))
    (all_kept refused instances h codes)

brought_octets : (given : Answer4) (values fresh : List ValueContent) → OctetValues values → OctetValues fresh → OctetValues (fresh_with given values fresh)
brought_octets (answer.Ack terms) values fresh new old = new
brought_octets answer.Nothing values fresh new old = old
brought_octets (answer.Offer address server) values fresh new old = old
brought_octets answer.Nak values fresh new old = old

-- ---- DHCPv6

kept6_octets : (keep : Keep6) (fresh kept : Option Lease6Content) → IfSome fresh Octets6 → IfSome kept Octets6
    → IfSome (moves6.kept_after keep fresh kept) Octets6
kept6_octets keep6.Stays fresh kept new old = old
kept6_octets keep6.Clears fresh kept new old = tt
kept6_octets keep6.Takes fresh kept new old = new

thinned_octets : (cause : Cause6) (kept : Option Lease6Content) → IfSome kept Octets6 → IfSome (option_map (thinned_lease cause) kept) Octets6
thinned_octets cause None old = tt
thinned_octets cause (Some lease) old = old

left_octets : (cause : Cause6) (parting : Parting6) (kept : Option Lease6Content) → IfSome kept Octets6 → IfSome (kept_left cause parting kept) Octets6
left_octets cause parting kept old =
    gated (λ (k : Option Lease6Content). IfSome k Octets6) parting.stays (option_map (thinned_lease cause) kept) kept (thinned_octets cause kept old) old

pruned_octets : (at : ℕ) (asks : List IaAsk) (kept : Option Lease6Content) → IfSome kept Octets6
    → IfSome (option_map (λ lease. lease_with (pruned_ias at lease.ias asks) lease) kept) Octets6
pruned_octets at asks None old = tt
pruned_octets at asks (Some lease) old = old

abbrev KeepsOctets : ClientContent → Type 0
KeepsOctets c = IfSome c.kept Octets6

lapsed_octets : (at : ℕ) (parting : Parting6) (c : ClientContent) → KeepsOctets c → KeepsOctets (lapsed at parting c)
lapsed_octets at parting c old =
    gated KeepsOctets (holds c.state && parting.goes && not (is_at_end at c.state)) _ c (left_octets (Lapse at) parting c.kept old) old

given_octets : (address : Ip6) (parting : Parting6) (c : ClientContent) → KeepsOctets c → KeepsOctets (given_up address parting c)
given_octets address parting c old =
    gated KeepsOctets (holds c.state && parting.goes) _ c
    (gated KeepsOctets (is_restarting c.state) (missing address parting c) (declining_now address c) (left_octets (Duplicate address) parting c.kept old)
    (thinned_octets (Duplicate address) c.kept old)) old

carried_octets : (carrier : Carrier6) (at : ℕ) (c : ClientContent) → KeepsOctets c → KeepsOctets (carried_by carrier at c)
carried_octets Up at c old = gated KeepsOctets (stands_at at c) _ c (pruned_octets at c.settings.asks c.kept old) old
carried_octets Down at c old = old

granted_value : (code : ℕ) (bytes : List ℕ) → AreBytes bytes → OctetValues (value_granted code bytes)
granted_value code bytes h = gated OctetValues (is_well_formed6 code bytes) (record { code = code; bytes = bytes } ∷ []) [] (h, tt) tt

granted_values : (message : Content6) → HasValues6 message → OctetValues (values_granted message)
granted_values message h =
    all_join OctetValue (value_granted DNS_SERVERS message.dns) (value_granted DOMAIN_LIST message.search) (granted_value DNS_SERVERS message.dns h.dns)
    (granted_value DOMAIN_LIST message.search h.search)

granted_octets : (at : ℕ) (c : ClientContent) (message : Content6) → HasValues6 message → (server : List ℕ) → IfSome (granted at c message server) Octets6
granted_octets at c message h server = gated (λ (o : Option Lease6Content). IfSome o Octets6) _ (Some _) None (granted_values message h) tt

by_server : (at : ℕ) (c : ClientContent) (message : Content6) → HasValues6 message → (server : Option (List ℕ))
    → IfSome (option_and_then (granted at c message) server) Octets6
by_server at c message h None = tt
by_server at c message h (Some server) = granted_octets at c message h server

fresh6_octets : (at : ℕ) (taken : Bool) (c : ClientContent) (message : Content6) → HasValues6 message → IfSome (fresh_of at taken c message) Octets6
fresh6_octets at true c message h = by_server at c message h (server_of message)
fresh6_octets at false c message h = tt

stepped_octets : (step : Step6) (fresh : Option Lease6Content) (c : ClientContent) → IfSome fresh Octets6 → KeepsOctets c
    → KeepsOctets (stepped step fresh c).client
stepped_octets step fresh c new old = kept6_octets step.keep fresh c.kept new old

advertised_octets : (c : ClientContent) (message : Content6) → KeepsOctets c → KeepsOctets (advertised (advertise_answer c message) message c)
advertised_octets c message old = gated KeepsOctets _ _ c old old

answered_octets : (at salt : ℕ) (message : Content6) → HasValues6 message → (kind : ServerKind6) (c : ClientContent) → KeepsOctets c
    → KeepsOctets (answered at salt message kind c).client
answered_octets at salt message h Advertise c old =
    stepped_octets (heard_row (turn_of at salt c) (advertise_answer c message) c.state) None (advertised (advertise_answer c message) message c) tt
    (advertised_octets c message old)
answered_octets at salt message h Reply c old =
    stepped_octets (heard_row (turn_of at salt c) (answer_in at c message) c.state) (fresh_in at c message) c
    (fresh6_octets at (is_taken c message) c message h) old

tick_octets : (at salt : ℕ) (c : ClientContent) → KeepsOctets c → KeepsOctets (tick_turned at salt c).client
unfolding tick_turned
tick_octets at salt c old =
    gated (λ (turned : Turned6). KeepsOctets turned.client) (is_due (due_of c) at)
    (stepped (tick_row (turn_of at salt c) (dates_in c) (parting_at (Lapse at) c) c.state) None (lapsed at (parting_at (Lapse at) c) c)) (rested c)
    (stepped_octets (tick_row (turn_of at salt c) (dates_in c) (parting_at (Lapse at) c) c.state) None (lapsed at (parting_at (Lapse at) c) c) tt
    (lapsed_octets at (parting_at (Lapse at) c) c old)) old

hears_octets : (at salt : ℕ) (message : Content6) → HasValues6 message → (c : ClientContent) → KeepsOctets c
    → KeepsOctets (hears_turned at salt message c).client
unfolding hears_turned
hears_octets at salt message h c old =
    gated (λ (turned : Turned6). KeepsOctets turned.client) (counts c message) (answered at salt message message.kind (learnt message.sol_max c)) (rested c)
    (answered_octets at salt message h message.kind (learnt message.sol_max c) old) old

carrier_octets : (carrier : Carrier6) (at salt : ℕ) (c : ClientContent) → KeepsOctets c → KeepsOctets (carrier_turned carrier at salt c).client
unfolding carrier_turned
carrier_octets carrier at salt c old = stepped_octets (carrier_step carrier at salt c) None (carried_by carrier at c) tt (carried_octets carrier at c old)

contested_octets : (address : Ip6) (at salt : ℕ) (c : ClientContent) → KeepsOctets c → KeepsOctets (contested_turned address at salt c).client
unfolding contested_turned
contested_octets address at salt c old =
    stepped_octets (duplicate_row (turn_of at salt c) (parting_at (Duplicate address) c) c.state) None
    (given_up address (parting_at (Duplicate address) c) c) tt
    (given_octets address (parting_at (Duplicate address) c) c old)

release_octets : (tell : Tell6) (at salt : ℕ) (c : ClientContent) → KeepsOctets c → KeepsOctets (release_turned tell at salt c).client
unfolding release_turned
release_octets tell at salt c old = stepped_octets (release_step tell at salt c) None c tt old

rebind_octets : (at salt : ℕ) (c : ClientContent) → KeepsOctets c → KeepsOctets (rebind_turned at salt c).client
unfolding rebind_turned
rebind_octets at salt c old = stepped_octets (rebind_step at salt c) None c tt old

-- ---- of an interface

with6 : (f : Iface) (turned : Turned6) → KeepsOctets turned.client → HasOctets f → HasOctets (after_dhcp6 turned f)
with6 f turned kept q = record { kept4 = q.kept4; fresh4 = q.fresh4; kept6 = kept }

pub octets_kept : IsKept HasOctets Good4 Good6
octets_kept = record {
  carrier = λ up f q. record { kept4 = q.kept4; fresh4 = q.fresh4; kept6 = q.kept6 };
  stopped = λ f q. record { kept4 = q.kept4; fresh4 = q.fresh4; kept6 = q.kept6 };
  local = λ local f q. record { kept4 = q.kept4; fresh4 = q.fresh4; kept6 = q.kept6 };
  step4 = λ step f q. record {
    kept4 = kept_octets step.keep f.dhcp4.settings.site.iface.name f.dhcp4.fresh f.dhcp4.kept q.fresh4 q.kept4;
    fresh4 = fresh_octets step.keep f.dhcp4.fresh q.fresh4;
    kept6 = q.kept6;
  };
  unsent4 = λ at salt f q. record { kept4 = q.kept4; fresh4 = q.fresh4; kept6 = q.kept6 };
  brings4 = λ at heard good f q. record {
    kept4 = q.kept4;
    fresh4 = brought_octets (answer_to (arrival_at at heard) f.dhcp4) (kept_values f.dhcp4.settings.refused heard.message.instances) f.dhcp4.fresh
        (all_kept f.dhcp4.settings.refused heard.message.instances good KEPT_CODES) q.fresh4;
    kept6 = q.kept6;
  };
  tick6 = λ at salt f q. with6 f (tick_turned at salt f.dhcp6) (tick_octets at salt f.dhcp6 q.kept6) q;
  carrier6 = λ carrier at salt f q. with6 f (carrier_turned carrier at salt f.dhcp6) (carrier_octets carrier at salt f.dhcp6 q.kept6) q;
  contested6 = λ address at salt f q. with6 f (contested_turned address at salt f.dhcp6) (contested_octets address at salt f.dhcp6 q.kept6) q;
  release6 = λ tell at salt f q. with6 f (release_turned tell at salt f.dhcp6) (release_octets tell at salt f.dhcp6 q.kept6) q;
  rebind6 = λ at salt f q. with6 f (rebind_turned at salt f.dhcp6) (rebind_octets at salt f.dhcp6 q.kept6) q;
  hears6 = λ at salt heard good f q. with6 f (hears_turned at salt heard.message f.dhcp6) (hears_octets at salt heard.message good f.dhcp6 q.kept6) q;
}

pub octets_good : (bytes : List ℕ) → AreBytes bytes → BringsGood Good4 Good6 bytes
octets_good bytes h = record { heard4 = λ mac. heard4_good mac bytes h; heard6 = λ mac. heard6_good mac bytes h }

-- ---- the leases with which it begins: a text spells values that are bytes

own_octets : (spec : IfSpec) (lease : LeaseContent) → HasText lease → IfSome (own_lease spec lease) Octets4
own_octets spec lease has = gated (λ (k : Option LeaseContent). IfSome k Octets4) (is_own spec lease.name lease.origin) (Some lease) None has.typed.values tt

spelled_octets : (spec : IfSpec) (text : List ℕ) (found : Option LeaseContent) → lease_spelled text ≡ found
    → IfSome (option_and_then (own_lease spec) found) Octets4
spelled_octets spec text None e = tt
spelled_octets spec text (Some lease) e = own_octets spec lease ((is_reading text lease).sound e).spells.1

read_octets : (spec : IfSpec) (reading : Reading) → IfSome (kept_by spec reading) Octets4
read_octets spec (Found bytes) = spelled_octets spec bytes (lease_spelled bytes) refl
read_octets spec Missing = tt
read_octets spec Unread = tt

text6_octets : (kept : Option Lease6Content) → IfSome kept HasText6 → IfSome kept Octets6
text6_octets None has = tt
text6_octets (Some lease) has = has.typed.values

loaded4 : (spec : IfSpec) (read : Option Reading) → IfSome (option_and_then (kept_by spec) read) Octets4
loaded4 spec None = tt
loaded4 spec (Some reading) = read_octets spec reading

loaded6 : (spec : IfSpec) (read : Option Reading) → IfSome (option_and_then (kept6_by spec) read) Octets6
loaded6 spec None = tt
loaded6 spec (Some reading) = text6_octets (kept6_by spec reading) (kept_fits6 spec reading)

begins_with : (duid : List ℕ) (one : Loaded) → HasOctets (resting (beginning_of duid one))
begins_with duid one = record {
  kept4 = loaded4 one.managed.spec one.lease4;
  fresh4 = tt;
  kept6 = loaded6 one.managed.spec one.lease6;
}

pub all_begin : (duid : List ℕ) (all : List Loaded) → AllByRecursion (λ (b : Beginning). HasOctets (resting b)) (map (beginning_of duid) all)
all_begin duid [] = tt
all_begin duid (one ∷ all) = (begins_with duid one, all_begin duid all)
