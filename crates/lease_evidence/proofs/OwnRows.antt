-- Each message of DHCPv4 that a row of the table says is the client's own.
use Rattle.std.proofs.Common.{◌≡◌, ℕ, ◌+◌, ◌*◌, ◌≤◌, ◌||◌, ◌&&◌, not, Bool, true, false, List, Option, Some, None, IfSome, refl, nat_le, arith}
use Rattle.std.specs.Prelude.{if◌then◌else◌, ◌==◌}
use Rattle.std.specs.Option.{is_some}
use Rattle.std.proofs.lemmas.Bool.Decides.{nat_tests}
use Rattle.std.proofs.lemmas.Slice.Eq.{bytes_eq-Decides}
use Rattle.machine.specs.Moment.{is_due}
use Rattle.net_types.proofs.CaseLaws.{gated}
use Rattle.net_types.specs.declared.address.Ip4.{Ip4}
use Rattle.net_types.specs.declared.address.Mac.{Mac}
use Rattle.frame_link.specs.declared.arp.ArpView.{ArpView}
use Rattle.arp_acd.specs.declared.detection.Acd.{Acd}
use Rattle.arp_acd.specs.declared.detection.AcdSays.{AcdSays}
use Rattle.arp_acd.specs.declared.detection.AcdSays.TheVariants.{Quiet, SayProbe, SayAnnounce, Passed, Conflict, GivenUp}
use Rattle.arp_acd.specs.Table as detection
use Rattle.arp_acd.proofs.Standing.{test-le}
use Rattle.lease_text.specs.declared.lease.Terms4.{Terms4}
use Rattle.lease_text.specs.Bounds.{FitsTerms}
use Rattle.lease_text.specs.Leases.{first_byte, is_host_address}
use Rattle.v4_message.specs.declared.writing.Kind4.{Kind4}
use Rattle.v4_message.specs.declared.writing.Kind4.TheVariants.{Discover, Request, Decline, Release}
use Rattle.v4_frames.specs.declared.sent.Sent4.{Sent4}
use Rattle.v4_frames.specs.declared.sent.TheConstants.{EVERY_MAC}
use Rattle.v4_frames.specs.declared.speaker.Speaker.{Speaker}
use Rattle.v4_frames.specs.declared.speaker.TheConstants.{BROADCAST_FLAG}
use Rattle.v4_frames.specs.Heard.{same_mac}
use Rattle.v4_frames.specs.Ours.{is_ours}
use Rattle.v4_client.specs.declared.moments.Backoff.{Backoff}
use Rattle.v4_client.specs.declared.moments.Backoff.TheVariants.{Four, Eight, Sixteen, ThirtyTwo, SixtyFour}
use Rattle.v4_client.specs.declared.moments.TheConstants.{SECOND}
use Rattle.v4_client.specs.declared.setup.Site4.{Site4}
use Rattle.v4_client.specs.declared.states.Answer4.{Answer4}
use Rattle.v4_client.specs.declared.states.Answer4.TheVariants as answer
use Rattle.v4_client.specs.declared.states.Exchange4.{Exchange4}
use Rattle.v4_client.specs.declared.states.News4.{News4}
use Rattle.v4_client.specs.declared.states.News4.TheVariants as news
use Rattle.v4_client.specs.declared.states.Origin4.{Origin4}
use Rattle.v4_client.specs.declared.states.Origin4.TheVariants.{Offered, Rebooted}
use Rattle.v4_client.specs.declared.states.Say4.{Say4}
use Rattle.v4_client.specs.declared.states.State4.{State4}
use Rattle.v4_client.specs.declared.states.State4.TheVariants.{Off, Init, Selecting, Requesting, Rebooting, Checking, Waiting, Bound, Renewing, Rebinding}
use Rattle.v4_client.specs.declared.states.Step4.{Step4}
use Rattle.v4_client.specs.declared.states.Tell.{Tell}
use Rattle.v4_client.specs.declared.states.Tell.TheVariants.{Server, Nobody}
use Rattle.v4_client.specs.declared.states.Turn4.{Turn4}
use Rattle.v4_client.specs.Detection.{checked, defended, with_acd}
use Rattle.v4_client.specs.Hearing.{offered, granted, answered, renewed, heard_row, contested, arp_row}
use Rattle.v4_client.specs.Inputs.{stood, entered, begins, begin_row, off_row, released, released_standing, release_row, rebind_row, unsent_row}
use Rattle.v4_client.specs.Moments.{expiry, renewal_at, rebinding_at, secs_since, standing_until, doubled}
use Rattle.v4_client.specs.Saying.{no_address, every_address, sent_of}
use Rattle.v4_client.specs.Sound.{FitsState}
use Rattle.v4_client.specs.Steps.{rests, to_init, expires, selecting, discovers, new_xid, requesting, rebooting, new_exchange, renewing, rebinding, declines, standing_news}
use Rattle.v4_client.specs.Ticks.{detects, tick_row}

-- ---- tests

first_of : (a b : Bool) → (a && b) ≡ true → a ≡ true
first_of true b h = refl
first_of false b h = absurd cc

same_number : (n : ℕ) → (n == n) ≡ true
same_number n = grind (arith, nat_tests)

-- no host has the address zero
some_address : (address : Ip4) → is_host_address address ≡ true → (address.number == 0) ≡ false
some_address address h =
    let le : 1 ≤ first_byte address =
    test-le 1 (first_byte address)
    (first_of (nat_le 1 (first_byte address)) (nat_le (first_byte address) 223)
    (first_of (nat_le 1 (first_byte address) && nat_le (first_byte address) 223) (not (first_byte address == 127)) h)) in
    let some : 1 ≤ address.number = omega (arith, le) in
    other address.number some
  where
    other : (n : ℕ) → 1 ≤ n → (n == 0) ≡ false
    other n some = grind (arith, nat_tests)

-- ---- messages

abbrev pub speaker_by : Mac → (broadcast : Bool) → Speaker
speaker_by mac broadcast = record { mac = mac; broadcast = broadcast }

-- servers are asked to answer by broadcast where that is set
abbrev flags_by : (broadcast : Bool) → ℕ
flags_by broadcast = if broadcast then BROADCAST_FLAG else 0

module _ (mac : Mac) where
  ours : (kind : Bool) → kind ≡ true → (same_mac mac mac && same_mac mac mac && kind) ≡ true
  ours kind is = rw ((bytes_eq-Decides mac.bytes mac.bytes).1 refl, is) refl

  -- from no address to everyone
  abbrev unaddressed : Kind4 → (xid secs flags : ℕ) → (asked server : Option Ip4) → Sent4
  unaddressed kind xid secs flags asked server = record {
    ends = record { from_mac = mac; to_mac = EVERY_MAC; from = no_address; to = every_address };
    said = record { kind = kind; xid = xid; secs = secs; flags = flags; ciaddr = no_address; mac = mac; asked = asked; server = server };
  }

  -- from the address that is held
  abbrev addressed : Kind4 → (xid : ℕ) → (from : Ip4) → (to_mac : Mac) → (to : Ip4) → (server : Option Ip4) → Sent4
  addressed kind xid from to_mac to server = record {
    ends = record { from_mac = mac; to_mac = to_mac; from = from; to = to };
    said = record { kind = kind; xid = xid; secs = 0; flags = 0; ciaddr = from; mac = mac; asked = None; server = server };
  }

  discover_own : (xid secs : ℕ) (broadcast : Bool)
      → is_ours (speaker_by mac broadcast) (unaddressed Discover xid secs (flags_by broadcast) None None) ≡ true
  discover_own xid secs true = ours true refl
  discover_own xid secs false = ours true refl

  selecting_own : (xid secs : ℕ) (broadcast : Bool) (asked server : Ip4)
      → is_ours (speaker_by mac broadcast) (unaddressed Request xid secs (flags_by broadcast) (Some asked) (Some server)) ≡ true
  selecting_own xid secs true asked server = ours true refl
  selecting_own xid secs false asked server = ours true refl

  rebooting_own : (xid : ℕ) (broadcast : Bool) (asked : Ip4) (server : Option Ip4)
      → is_ours (speaker_by mac broadcast) (unaddressed Request xid 0 (flags_by broadcast) (Some asked) server) ≡ true
  rebooting_own xid true asked None = ours true refl
  rebooting_own xid false asked None = ours true refl
  rebooting_own xid broadcast asked (Some server) = selecting_own xid 0 broadcast asked server

  decline_own : (xid : ℕ) (broadcast : Bool) (asked server : Ip4)
      → is_ours (speaker_by mac broadcast) (unaddressed Decline xid 0 0 (Some asked) (Some server)) ≡ true
  decline_own xid broadcast asked server = ours true refl

  held_own : (xid : ℕ) (broadcast : Bool) (from : Ip4) (to_mac : Mac) (to : Ip4) → (from.number == 0) ≡ false
      → is_ours (speaker_by mac broadcast) (addressed Request xid from to_mac to None) ≡ true
  held_own xid broadcast from to_mac to some =
      ours ((not (from.number == 0) && (from.number == from.number)) && true) (rw (some, same_number from.number) refl)

  releasing_own : (xid : ℕ) (broadcast : Bool) (from : Ip4) (to_mac : Mac) (to : Ip4) → (from.number == 0) ≡ false
      → is_ours (speaker_by mac broadcast) (addressed Release xid from to_mac to (Some to)) ≡ true
  releasing_own xid broadcast from to_mac to some =
      ours ((not (from.number == 0) && (from.number == from.number)) && true && true && (to.number == to.number))
      (rw (some, same_number from.number, same_number to.number) refl)

-- ---- what a step says

-- a client as its settings make it
abbrev pub speaker_at : Site4 → Speaker
speaker_at site = speaker_by site.iface.mac site.flags.broadcast

-- such a client may say it
abbrev pub IsOwn : Site4 → Say4 → Type 0
IsOwn site say = is_ours (speaker_at site) (sent_of say) ≡ true

-- the REQUEST that takes an offer names its server
abbrev pub HasServer : State4 → Type 0
HasServer (Requesting exchange secs backoff due) = is_some exchange.server ≡ true
HasServer Off = Unit {0}
HasServer (Init due) = Unit {0}
HasServer (Selecting xid began secs backoff due) = Unit {0}
HasServer (Rebooting exchange backoff end due stands) = Unit {0}
HasServer (Checking xid terms origin acd stands) = Unit {0}
HasServer (Waiting due) = Unit {0}
HasServer (Bound xid terms acd) = Unit {0}
HasServer (Renewing exchange terms acd due) = Unit {0}
HasServer (Rebinding exchange terms acd due) = Unit {0}

pub record OwnStepOf (site : Site4) (step : Step4) : Type 0 where
  pub names : HasServer step.state
  pub own : IfSome step.say (IsOwn site)

-- conflict detection leaves the server named
with_names : (state : State4) (acd : Acd) → HasServer state → HasServer (with_acd state acd)
with_names Off acd n = n
with_names (Init due) acd n = n
with_names (Selecting xid began secs backoff due) acd n = n
with_names (Requesting exchange secs backoff due) acd n = n
with_names (Rebooting exchange backoff end due stands) acd n = n
with_names (Checking xid terms origin before stands) acd n = n
with_names (Waiting due) acd n = n
with_names (Bound xid terms before) acd n = n
with_names (Renewing exchange terms before due) acd n = n
with_names (Rebinding exchange terms before due) acd n = n

module _ (turn : Turn4) where
  abbrev mac : Mac
  mac = turn.site.iface.mac

  abbrev OwnStep : Step4 → Type 0
  OwnStep step = OwnStepOf turn.site step

  abbrev IsHost : Terms4 → Type 0
  IsHost terms = is_host_address terms.net.ip ≡ true

  pub rests_own : (state : State4) → HasServer state → OwnStep (rests turn state)
  rests_own state n = record { names = n; own = tt }

  inits : OwnStep (to_init turn)
  inits = record { names = tt; own = tt }

  ends : OwnStep (expires turn)
  ends = record { names = tt; own = tt }

  selects : (xid began : ℕ) (backoff : Backoff) → OwnStep (selecting turn xid began backoff)
  selects xid began backoff = record { names = tt; own = discover_own mac xid (secs_since began turn.at) turn.site.flags.broadcast }

  requests : (exchange : Exchange4) (secs : ℕ) (backoff : Backoff) → is_some exchange.server ≡ true → OwnStep (requesting turn exchange secs backoff)
  requests exchange secs backoff n = record { names = n; own = by_server exchange.server n }
    where
      by_server : (server : Option Ip4) → is_some server ≡ true
          → is_ours (speaker_at turn.site) (unaddressed mac Request exchange.xid secs (flags_by turn.site.flags.broadcast) (Some exchange.address) server)
          ≡ true
      by_server None h = absurd cc
      by_server (Some server) h = selecting_own mac exchange.xid secs turn.site.flags.broadcast exchange.address server

  reboots : (exchange : Exchange4) (backoff : Backoff) (end : ℕ) (stands : Option Terms4) → OwnStep (rebooting turn exchange backoff end stands)
  reboots exchange backoff end stands = record { names = tt; own = rebooting_own mac exchange.xid turn.site.flags.broadcast exchange.address exchange.server }

  renews : (exchange : Exchange4) (terms : Terms4) (acd : Option Acd) → IsHost terms → OwnStep (renewing turn exchange terms acd)
  renews exchange terms acd host =
      record {
        names = tt;
        own = held_own mac exchange.xid turn.site.flags.broadcast terms.net.ip terms.server_mac terms.server (some_address terms.net.ip host);
      }

  rebinds : (exchange : Exchange4) (terms : Terms4) (acd : Option Acd) → IsHost terms → OwnStep (rebinding turn exchange terms acd)
  rebinds exchange terms acd host =
      record { names = tt; own = held_own mac exchange.xid turn.site.flags.broadcast terms.net.ip EVERY_MAC every_address (some_address terms.net.ip host) }

  refuses : (xid : ℕ) (terms : Terms4) (news : News4) → OwnStep (declines turn xid terms news)
  refuses xid terms news = record { names = tt; own = decline_own mac xid turn.site.flags.broadcast terms.net.ip terms.server }

  defends : (xid : ℕ) (terms : Terms4) (state : State4) (says : AcdSays) → HasServer state → OwnStep (defended turn xid terms state says)
  defends xid terms state Quiet n = record { names = n; own = tt }
  defends xid terms state SayProbe n = record { names = n; own = tt }
  defends xid terms state SayAnnounce n = record { names = n; own = tt }
  defends xid terms state Passed n = record { names = n; own = tt }
  defends xid terms state Conflict n = record { names = n; own = tt }
  defends xid terms state GivenUp n = refuses xid terms news.Expire

  checks : (xid : ℕ) (terms : Terms4) (origin : Origin4) (acd : Acd) (stands : Option Terms4) (says : AcdSays)
      → OwnStep (checked turn xid terms origin acd stands says)
  checks xid terms origin acd stands Quiet = record { names = tt; own = tt }
  checks xid terms origin acd stands SayProbe = record { names = tt; own = tt }
  checks xid terms origin acd stands SayAnnounce = record { names = tt; own = tt }
  checks xid terms origin acd stands Passed = record { names = tt; own = tt }
  checks xid terms origin acd stands Conflict = refuses xid terms (standing_news stands)
  checks xid terms origin acd stands GivenUp = record { names = tt; own = tt }

  -- ---- ticks

  watches : (xid : ℕ) (terms : Terms4) (state : State4) (acd : Option Acd) → HasServer state → OwnStep (detects turn xid terms state acd)
  watches xid terms state None n = rests_own state n
  watches xid terms state (Some acd) n =
      defends xid terms (with_acd state (detection.acd_tick acd turn.at turn.salt).acd) (detection.acd_tick acd turn.at turn.salt).says
      (with_names state (detection.acd_tick acd turn.at turn.salt).acd n)

  pub tick_own : (state : State4) → FitsState state → HasServer state → OwnStep (tick_row turn state)
  tick_own Off f n = rests_own Off tt
  tick_own (Init due) f n = selects (new_xid turn) turn.at Four
  tick_own (Waiting due) f n = selects (new_xid turn) turn.at Four
  tick_own (Selecting xid began secs backoff due) f n = selects xid began (doubled backoff)
  tick_own (Requesting exchange secs Four due) f n = requests exchange secs (doubled Four) n
  tick_own (Requesting exchange secs Eight due) f n = requests exchange secs (doubled Eight) n
  tick_own (Requesting exchange secs Sixteen due) f n = requests exchange secs (doubled Sixteen) n
  tick_own (Requesting exchange secs ThirtyTwo due) f n = requests exchange secs (doubled ThirtyTwo) n
  tick_own (Requesting exchange secs SixtyFour due) f n = inits
  tick_own (Rebooting exchange backoff end due stands) f n =
      let discovered : OwnStep (discovers turn) = selects (new_xid turn) turn.at Four in
      gated OwnStep (is_due (standing_until stands) turn.at) _ _ ends
      (gated OwnStep (nat_le end turn.at) _ _ (record { names = tt; own = discovered.own }) (reboots exchange (doubled backoff) end stands))
  tick_own (Checking xid terms origin acd stands) f n =
      gated OwnStep (is_due (standing_until stands) turn.at) _ _ (record { names = tt; own = tt })
      (gated OwnStep (is_due (expiry terms) turn.at) _ _ (record { names = tt; own = tt })
      (checks xid terms origin (detection.acd_tick acd turn.at turn.salt).acd stands (detection.acd_tick acd turn.at turn.salt).says))
  tick_own (Bound xid terms acd) f n =
      gated OwnStep (is_due (expiry terms) turn.at) _ _ ends
      (gated OwnStep (is_due (rebinding_at terms) turn.at) _ _ (rebinds (new_exchange turn terms.net.ip) terms acd f.address)
      (gated OwnStep (is_due (renewal_at terms) turn.at) _ _ (renews (new_exchange turn terms.net.ip) terms acd f.address)
      (watches xid terms (Bound xid terms acd) acd tt)))
  tick_own (Renewing exchange terms acd due) f n =
      gated OwnStep (is_due (expiry terms) turn.at) _ _ ends
      (gated OwnStep (is_due (rebinding_at terms) turn.at) _ _ (rebinds (new_exchange turn terms.net.ip) terms acd f.renewal.holds.address)
      (gated OwnStep (nat_le due turn.at) _ _ (renews exchange terms acd f.renewal.holds.address)
      (watches exchange.xid terms (Renewing exchange terms acd due) acd tt)))
  tick_own (Rebinding exchange terms acd due) f n =
      gated OwnStep (is_due (expiry terms) turn.at) _ _ ends
      (gated OwnStep (nat_le due turn.at) _ _ (rebinds exchange terms acd f.renewal.holds.address)
      (watches exchange.xid terms (Rebinding exchange terms acd due) acd tt))

  -- ---- messages

  offering : (xid secs : ℕ) (state : State4) (said : Answer4) → HasServer state → OwnStep (offered turn xid secs state said)
  offering xid secs state (answer.Offer address server) n =
      requests (record { xid = xid; address = address; server = Some server; first = turn.at }) secs Four refl
  offering xid secs state answer.Nothing n = rests_own state n
  offering xid secs state (answer.Ack terms) n = rests_own state n
  offering xid secs state answer.Nak n = rests_own state n

  grants : (xid : ℕ) (terms : Terms4) (origin : Origin4) (stands : Option Terms4) → OwnStep (granted turn xid terms origin stands)
  grants xid terms origin stands = gated OwnStep turn.site.flags.noarp _ _ (record { names = tt; own = tt }) (record { names = tt; own = tt })

  answering : (xid : ℕ) (origin : Origin4) (stands : Option Terms4) (state : State4) (said : Answer4) → HasServer state
      → OwnStep (answered turn xid origin stands state said)
  answering xid origin stands state (answer.Ack terms) n = grants xid terms origin stands
  answering xid origin stands state answer.Nak n = record { names = tt; own = tt }
  answering xid origin stands state answer.Nothing n = rests_own state n
  answering xid origin stands state (answer.Offer address server) n = rests_own state n

  renewing_by : (xid : ℕ) (news : News4) (acd : Option Acd) (state : State4) (said : Answer4) → HasServer state
      → OwnStep (renewed turn xid news acd state said)
  renewing_by xid news acd state (answer.Ack terms) n = record { names = tt; own = tt }
  renewing_by xid news acd state answer.Nak n = record { names = tt; own = tt }
  renewing_by xid news acd state answer.Nothing n = rests_own state n
  renewing_by xid news acd state (answer.Offer address server) n = rests_own state n

  pub heard_own : (said : Answer4) (state : State4) → HasServer state → OwnStep (heard_row turn said state)
  heard_own said Off n = rests_own Off n
  heard_own said (Init due) n = rests_own (Init due) n
  heard_own said (Selecting xid began secs backoff due) n = offering xid secs (Selecting xid began secs backoff due) said n
  heard_own said (Requesting exchange secs backoff due) n = answering exchange.xid Offered None (Requesting exchange secs backoff due) said n
  heard_own said (Rebooting exchange backoff end due stands) n = answering exchange.xid Rebooted stands (Rebooting exchange backoff end due stands) said n
  heard_own said (Checking xid terms origin acd stands) n = rests_own (Checking xid terms origin acd stands) n
  heard_own said (Waiting due) n = rests_own (Waiting due) n
  heard_own said (Bound xid terms acd) n = rests_own (Bound xid terms acd) n
  heard_own said (Renewing exchange terms acd due) n = renewing_by exchange.xid news.Renew acd (Renewing exchange terms acd due) said n
  heard_own said (Rebinding exchange terms acd due) n = renewing_by exchange.xid news.Rebind acd (Rebinding exchange terms acd due) said n

  -- ---- ARP packets

  contests : (own : List Mac) (arp : ArpView) (xid : ℕ) (terms : Terms4) (state : State4) (acd : Option Acd) → HasServer state
      → OwnStep (contested own turn arp xid terms state acd)
  contests own arp xid terms state None n = rests_own state n
  contests own arp xid terms state (Some acd) n =
      defends xid terms (with_acd state (detection.acd_hears own acd arp turn.at).acd) (detection.acd_hears own acd arp turn.at).says
      (with_names state (detection.acd_hears own acd arp turn.at).acd n)

  pub arp_own : (own : List Mac) (arp : ArpView) (state : State4) → HasServer state → OwnStep (arp_row own turn arp state)
  arp_own own arp Off n = rests_own Off n
  arp_own own arp (Init due) n = rests_own (Init due) n
  arp_own own arp (Selecting xid began secs backoff due) n = rests_own (Selecting xid began secs backoff due) n
  arp_own own arp (Requesting exchange secs backoff due) n = rests_own (Requesting exchange secs backoff due) n
  arp_own own arp (Rebooting exchange backoff end due stands) n = rests_own (Rebooting exchange backoff end due stands) n
  arp_own own arp (Checking xid terms origin acd stands) n =
      checks xid terms origin (detection.acd_hears own acd arp turn.at).acd stands (detection.acd_hears own acd arp turn.at).says
  arp_own own arp (Waiting due) n = rests_own (Waiting due) n
  arp_own own arp (Bound xid terms acd) n = contests own arp xid terms (Bound xid terms acd) acd n
  arp_own own arp (Renewing exchange terms acd due) n = contests own arp exchange.xid terms (Renewing exchange terms acd due) acd n
  arp_own own arp (Rebinding exchange terms acd due) n = contests own arp exchange.xid terms (Rebinding exchange terms acd due) acd n

  -- ---- the other inputs

  enters : (may_stand : Bool) (kept : Option Terms4) → OwnStep (entered turn may_stand kept)
  enters may_stand None = inits
  enters may_stand (Some terms) =
      gated OwnStep (is_due (expiry terms) turn.at || (turn.site.times.reboot == 0)) _ _ inits
      (reboots (new_exchange turn terms.net.ip) Four (turn.at + SECOND * turn.site.times.reboot) (stood turn may_stand terms))

  begun : (may_stand : Bool) (kept : Option Terms4) → OwnStep (begins turn may_stand kept)
  begun may_stand kept = let entering : OwnStep (entered turn may_stand kept) = enters may_stand kept in record { names = entering.names; own = entering.own }

  pub begin_own : (may_stand : Bool) (kept : Option Terms4) (state : State4) → HasServer state → OwnStep (begin_row turn may_stand kept state)
  begin_own may_stand kept Off n = begun may_stand kept
  begin_own may_stand kept (Init due) n = rests_own (Init due) n
  begin_own may_stand kept (Selecting xid began secs backoff due) n = rests_own (Selecting xid began secs backoff due) n
  begin_own may_stand kept (Requesting exchange secs backoff due) n = rests_own (Requesting exchange secs backoff due) n
  begin_own may_stand kept (Rebooting exchange backoff end due stands) n = rests_own (Rebooting exchange backoff end due stands) n
  begin_own may_stand kept (Checking xid terms origin acd stands) n = rests_own (Checking xid terms origin acd stands) n
  begin_own may_stand kept (Waiting due) n = rests_own (Waiting due) n
  begin_own may_stand kept (Bound xid terms acd) n = rests_own (Bound xid terms acd) n
  begin_own may_stand kept (Renewing exchange terms acd due) n = rests_own (Renewing exchange terms acd due) n
  begin_own may_stand kept (Rebinding exchange terms acd due) n = rests_own (Rebinding exchange terms acd due) n

  pub rebind_own : (kept : Option Terms4) (state : State4) → FitsState state → HasServer state → OwnStep (rebind_row turn kept state)
  rebind_own kept Off f n = begun false kept
  rebind_own kept (Init due) f n = rests_own (Init due) n
  rebind_own kept (Selecting xid began secs backoff due) f n = rests_own (Selecting xid began secs backoff due) n
  rebind_own kept (Requesting exchange secs backoff due) f n = rests_own (Requesting exchange secs backoff due) n
  rebind_own kept (Rebooting exchange backoff end due stands) f n = rests_own (Rebooting exchange backoff end due stands) n
  rebind_own kept (Checking xid terms origin acd stands) f n = rests_own (Checking xid terms origin acd stands) n
  rebind_own kept (Waiting due) f n = rests_own (Waiting due) n
  rebind_own kept (Bound xid terms acd) f n = rebinds (new_exchange turn terms.net.ip) terms acd f.address
  rebind_own kept (Renewing exchange terms acd due) f n = rebinds (new_exchange turn terms.net.ip) terms acd f.renewal.holds.address
  rebind_own kept (Rebinding exchange terms acd due) f n = rests_own (Rebinding exchange terms acd due) n

  pub off_own : OwnStep (off_row turn)
  off_own = record { names = tt; own = tt }

  lets_go : (tell : Tell) (terms : Terms4) → IsHost terms → OwnStep (released turn tell terms)
  lets_go Server terms host =
      record {
        names = tt;
        own = releasing_own mac (new_xid turn) turn.site.flags.broadcast terms.net.ip terms.server_mac terms.server (some_address terms.net.ip host);
      }
  lets_go Nobody terms host = record { names = tt; own = tt }

  lets_go_standing : (tell : Tell) (stands : Option Terms4) → IfSome stands FitsTerms → OwnStep (released_standing turn tell stands)
  lets_go_standing tell None f = off_own
  lets_go_standing tell (Some terms) f = lets_go tell terms f.address

  pub release_own : (tell : Tell) (state : State4) → FitsState state → OwnStep (release_row turn tell state)
  release_own tell Off f = off_own
  release_own tell (Init due) f = off_own
  release_own tell (Selecting xid began secs backoff due) f = off_own
  release_own tell (Requesting exchange secs backoff due) f = off_own
  release_own tell (Rebooting exchange backoff end due stands) f = lets_go_standing tell stands f.holds
  release_own tell (Checking xid terms origin acd stands) f = lets_go_standing tell stands f.holds
  release_own tell (Waiting due) f = off_own
  release_own tell (Bound xid terms acd) f = lets_go tell terms f.address
  release_own tell (Renewing exchange terms acd due) f = lets_go tell terms f.renewal.holds.address
  release_own tell (Rebinding exchange terms acd due) f = lets_go tell terms f.renewal.holds.address

pub unsent_names : (turn : Turn4) (state : State4) → HasServer state → HasServer (unsent_row turn state)
unsent_names turn Off n = n
unsent_names turn (Init due) n = n
unsent_names turn (Selecting xid began secs backoff due) n = n
unsent_names turn (Requesting exchange secs backoff due) n = n
unsent_names turn (Rebooting exchange backoff end due stands) n = n
unsent_names turn (Checking xid terms origin acd stands) n = n
unsent_names turn (Waiting due) n = n
unsent_names turn (Bound xid terms acd) n = n
unsent_names turn (Renewing exchange terms acd due) n = n
unsent_names turn (Rebinding exchange terms acd due) n = n
