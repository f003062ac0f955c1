-- The DHCPv6 client of an interface keeps a lease within the bounds of its text over each call.
use Rattle.std.proofs.Common.{◌≡◌, ℕ, not, ◌&&◌, Option, Some, None, IfSome, sym, subst}
use Rattle.std.specs.List.{AllByRecursion}
use Rattle.machine.specs.Moment.{is_due}
use Rattle.net_types.proofs.CaseLaws.{gated}
use Rattle.net_types.specs.AddressText.{FitsMac}
use Rattle.net_types.specs.Marks.{AreBytes}
use Rattle.net_types.specs.Moments.{IsMoment}
use Rattle.net_types.specs.declared.address.Ip6.{Ip6}
use Rattle.lease_text.specs.Leases.{ValueContent}
use Rattle.lease6_text.specs.Bounds.{FitsLease6, HasText6}
use Rattle.lease6_text.specs.Leases.{Lease6Content}
use Rattle.v6_message.specs.Replies.{Content6}
use Rattle.v6_message.specs.declared.kind.ServerKind6.{ServerKind6}
use Rattle.v6_message.specs.declared.kind.ServerKind6.TheVariants.{Advertise, Reply}
use Rattle.v6_client.specs.Answers.{advertise_answer, advertised, counts, is_taken, learnt}
use Rattle.v6_client.specs.Calls.{answer_in, carried_by, carrier_step, dates_in, due_of, fresh_in, rebind_step, release_step, stands_at}
use Rattle.v6_client.specs.Clients.{ClientContent, holds, is_at_end, is_restarting, turn_of}
use Rattle.v6_client.specs.Hearing.{heard_row}
use Rattle.v6_client.specs.Inputs.{duplicate_row}
use Rattle.v6_client.specs.Moves as moves
use Rattle.v6_client.specs.Moves.{declining_now, given_up, lapsed, missing, parting_at}
use Rattle.v6_client.specs.Runs.{Turned6, answered, carrier_turned, contested_turned, hears_turned, rebind_turned, release_turned, rested, stepped, tick_turned}
use Rattle.v6_client.specs.Settings.{SettingsContent}
use Rattle.v6_client.specs.Sound.{IsSound}
use Rattle.v6_client.specs.Ticks.{tick_row}
use Rattle.v6_client.specs.declared.states.Carrier6.{Carrier6}
use Rattle.v6_client.specs.declared.states.Carrier6.TheVariants.{Up, Down}
use Rattle.v6_client.specs.V6Items.declared.scope.Cause6.TheVariants.{Lapse, Duplicate}
use Rattle.v6_client.specs.declared.states.Keep6.{Keep6}
use Rattle.v6_client.specs.declared.states.Keep6.TheVariants.{Stays, Clears, Takes}
use Rattle.v6_client.specs.V6Items.declared.scope.Parting6.{Parting6}
use Rattle.v6_client.specs.declared.states.Step6.{Step6}
use Rattle.v6_client.specs.declared.states.Tell6.{Tell6}
use Rattle.v6_client.proofs.SettingsStay.{settings_stay}
use Rattle.v6_client_laws.proofs.StayingRuns.{sound_stays}
use Rattle.v6_client_laws.proofs.TimedReplies.{grants_fit}
use Rattle.exact_texts.proofs.Heard6.{HasServer}
use Rattle.exact_texts.proofs.TypedLeases6.{IsNumbered, TypedLease6, fresh_typed, left_typed, prune_typed, thin_typed}

abbrev KeepsTyped : ClientContent → Type 0
KeepsTyped c = IfSome c.kept TypedLease6

-- ---- what goes before a step

kept_typed : (keep : Keep6) (fresh kept : Option Lease6Content) → IfSome fresh TypedLease6 → IfSome kept TypedLease6
    → IfSome (moves.kept_after keep fresh kept) TypedLease6
kept_typed Stays fresh kept new old = old
kept_typed Clears fresh kept new old = tt
kept_typed Takes fresh kept new old = new

lapsed_typed : (at : ℕ) (parting : Parting6) (c : ClientContent) → KeepsTyped c → KeepsTyped (lapsed at parting c)
lapsed_typed at parting c old =
    gated KeepsTyped (holds c.state && parting.goes && not (is_at_end at c.state)) _ c (left_typed (Lapse at) parting c.kept old) old

given_typed : (address : Ip6) (parting : Parting6) (c : ClientContent) → KeepsTyped c → KeepsTyped (given_up address parting c)
given_typed address parting c old =
    gated KeepsTyped (holds c.state && parting.goes) _ c
    (gated KeepsTyped (is_restarting c.state) (missing address parting c) (declining_now address c) (left_typed (Duplicate address) parting c.kept old)
    (thin_typed (Duplicate address) c.kept old)) old

carried_typed : (carrier : Carrier6) (at : ℕ) (c : ClientContent) → AllByRecursion IsNumbered c.settings.asks → KeepsTyped c
    → KeepsTyped (carried_by carrier at c)
carried_typed Up at c small old = gated KeepsTyped (stands_at at c) _ c (prune_typed at c.settings.asks small c.kept old) old
carried_typed Down at c small old = old

-- ---- the calls

abbrev TurnsTyped : Turned6 → Type 0
TurnsTyped turned = KeepsTyped turned.client

stepped_typed : (step : Step6) (fresh : Option Lease6Content) (c : ClientContent) → IfSome fresh TypedLease6 → KeepsTyped c
    → TurnsTyped (stepped step fresh c)
stepped_typed step fresh c new old = kept_typed step.keep fresh c.kept new old

tick_typed : (at salt : ℕ) (c : ClientContent) → KeepsTyped c → TurnsTyped (tick_turned at salt c)
unfolding tick_turned
tick_typed at salt c old =
    gated TurnsTyped (is_due (due_of c) at)
    (stepped (tick_row (turn_of at salt c) (dates_in c) (parting_at (Lapse at) c) c.state) None (lapsed at (parting_at (Lapse at) c) c)) (rested c)
    (stepped_typed (tick_row (turn_of at salt c) (dates_in c) (parting_at (Lapse at) c) c.state) None (lapsed at (parting_at (Lapse at) c) c) tt
    (lapsed_typed at (parting_at (Lapse at) c) c old)) old

carrier_typed : (carrier : Carrier6) (at salt : ℕ) (c : ClientContent) → AllByRecursion IsNumbered c.settings.asks → KeepsTyped c
    → TurnsTyped (carrier_turned carrier at salt c)
unfolding carrier_turned
carrier_typed carrier at salt c small old =
    stepped_typed (carrier_step carrier at salt c) None (carried_by carrier at c) tt (carried_typed carrier at c small old)

contested_typed : (address : Ip6) (at salt : ℕ) (c : ClientContent) → KeepsTyped c → TurnsTyped (contested_turned address at salt c)
unfolding contested_turned
contested_typed address at salt c old =
    stepped_typed (duplicate_row (turn_of at salt c) (parting_at (Duplicate address) c) c.state) None
    (given_up address (parting_at (Duplicate address) c) c) tt (given_typed address (parting_at (Duplicate address) c) c old)

release_typed : (tell : Tell6) (at salt : ℕ) (c : ClientContent) → KeepsTyped c → TurnsTyped (release_turned tell at salt c)
unfolding release_turned
release_typed tell at salt c old = stepped_typed (release_step tell at salt c) None c tt old

rebind_typed : (at salt : ℕ) (c : ClientContent) → KeepsTyped c → TurnsTyped (rebind_turned at salt c)
unfolding rebind_turned
rebind_typed at salt c old = stepped_typed (rebind_step at salt c) None c tt old

advertised_typed : (c : ClientContent) (message : Content6) → KeepsTyped c → KeepsTyped (advertised (advertise_answer c message) message c)
advertised_typed c message old = gated KeepsTyped _ _ c old old

module _ (at salt : ℕ) (message : Content6) (brings : HasServer message) where
  answered_typed : (kind : ServerKind6) (c : ClientContent) → FitsMac c.settings.site.iface.mac → AllByRecursion IsNumbered c.settings.asks → KeepsTyped c
      → TurnsTyped (answered at salt message kind c)
  answered_typed Advertise c mac small old =
      stepped_typed (heard_row (turn_of at salt c) (advertise_answer c message) c.state) None (advertised (advertise_answer c message) message c) tt
      (advertised_typed c message old)
  answered_typed Reply c mac small old =
      stepped_typed (heard_row (turn_of at salt c) (answer_in at c message) c.state) (fresh_in at c message) c
      (fresh_typed at c mac small old message brings (is_taken c message)) old

  hears_typed : (c : ClientContent) → FitsMac c.settings.site.iface.mac → AllByRecursion IsNumbered c.settings.asks → KeepsTyped c
      → TurnsTyped (hears_turned at salt message c)
  unfolding hears_turned
  hears_typed c mac small old =
      gated TurnsTyped (counts c message) (answered at salt message message.kind (learnt message.sol_max c)) (rested c)
      (answered_typed message.kind (learnt message.sol_max c) mac small old) old

-- ---- a client whose leases have a text, apart from the values that came with them

pub record Exact6 (c : ClientContent) : Type 0 where
  pub sound : IsSound c
  pub mac : FitsMac c.settings.site.iface.mac
  pub asks : AllByRecursion IsNumbered c.settings.asks
  pub kept : KeepsTyped c

same_settings : (old new : ClientContent) → new.settings ≡ old.settings → Exact6 old → IsSound new → KeepsTyped new → Exact6 new
same_settings old new same exact sound kept = record {
  sound = sound;
  mac = subst (λ (s : SettingsContent). FitsMac s.site.iface.mac) (sym same) exact.mac;
  asks = subst (λ (s : SettingsContent). AllByRecursion IsNumbered s.asks) (sym same) exact.asks;
  kept = kept;
}

module _ (at salt : ℕ) (early : IsMoment at) (c : ClientContent) (exact : Exact6 c) where
  pub tick6 : Exact6 (tick_turned at salt c).client
  tick6 =
      same_settings c (tick_turned at salt c).client (settings_stay c at salt).tick exact (sound_stays c at salt exact.sound).tick
      (tick_typed at salt c exact.kept)

  pub message6 : (message : Content6) → HasServer message → Exact6 (hears_turned at salt message c).client
  message6 message brings =
      same_settings c (hears_turned at salt message c).client ((settings_stay c at salt).message message tt) exact
      ((sound_stays c at salt exact.sound).message message (grants_fit c message at early exact.sound brings.options))
      (hears_typed at salt message brings c exact.mac exact.asks exact.kept)

  pub carrier6 : (carrier : Carrier6) → Exact6 (carrier_turned carrier at salt c).client
  carrier6 carrier =
      same_settings c (carrier_turned carrier at salt c).client ((settings_stay c at salt).carrier carrier) exact
      ((sound_stays c at salt exact.sound).carrier carrier) (carrier_typed carrier at salt c exact.asks exact.kept)

  pub contested6 : (address : Ip6) → Exact6 (contested_turned address at salt c).client
  contested6 address =
      same_settings c (contested_turned address at salt c).client ((settings_stay c at salt).duplicate address) exact
      ((sound_stays c at salt exact.sound).duplicate address) (contested_typed address at salt c exact.kept)

  pub release6 : (tell : Tell6) → Exact6 (release_turned tell at salt c).client
  release6 tell =
      same_settings c (release_turned tell at salt c).client ((settings_stay c at salt).release tell) exact
      ((sound_stays c at salt exact.sound).release tell) (release_typed tell at salt c exact.kept)

  pub rebind6 : Exact6 (rebind_turned at salt c).client
  rebind6 =
      same_settings c (rebind_turned at salt c).client (settings_stay c at salt).rebind exact (sound_stays c at salt exact.sound).rebind
      (rebind_typed at salt c exact.kept)

-- ---- what is held

values_text : (kept : Option Lease6Content) → IfSome kept FitsLease6 → IfSome kept TypedLease6
    → IfSome kept (λ (lease : Lease6Content). AllByRecursion (λ (value : ValueContent). AreBytes value.bytes) lease.values) → IfSome kept HasText6
values_text None fits typed values = tt
values_text (Some lease) fits typed values = record {
  fits = fits;
  typed = record { origin = typed.origin; server = typed.server; ias = typed.ias; values = values };
}

-- the kept lease has a text, with these values
pub text6 : (c : ClientContent) → Exact6 c
    → IfSome c.kept (λ (lease : Lease6Content). AllByRecursion (λ (value : ValueContent). AreBytes value.bytes) lease.values) → IfSome c.kept HasText6
text6 c exact values = values_text c.kept exact.sound.kept exact.kept values

pub typed6_of : (kept : Option Lease6Content) → IfSome kept HasText6 → IfSome kept TypedLease6
typed6_of None has = tt
typed6_of (Some lease) has = record { origin = has.typed.origin; server = has.typed.server; ias = has.typed.ias }
