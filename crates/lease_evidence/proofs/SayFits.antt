-- Each message that a client says fits its fields.
use Rattle.std.proofs.Common.{◌≡◌, ℕ, ◌+◌, ◌*◌, ◌%◌, ◌^◌, ◌<◌, ◌≤◌, ◌||◌, Bool, true, false, List, Option, Some, None, refl, sym, subst, nat_eq, nat_le, eqb, ◌&&◌, not, arith, lit<, IfSome}
use Rattle.std.specs.Option.{is_some}
use Rattle.std.specs.Prelude.{if◌then◌else◌}
use Rattle.machine.specs.Moment.{is_due}
use Rattle.net_types.proofs.CaseLaws.{gated}
use Rattle.net_types.specs.declared.address.Mac.{Mac}
use Rattle.frame_link.specs.declared.arp.ArpView.{ArpView}
use Rattle.arp_acd.specs.declared.detection.Acd.{Acd}
use Rattle.arp_acd.specs.declared.detection.AcdSays.{AcdSays}
use Rattle.arp_acd.specs.Table as detection
use Rattle.lease_text.specs.declared.lease.Terms4.{Terms4}
use Rattle.v4_client.specs.declared.moments.TheConstants.{SECOND}
use Rattle.v4_client.specs.declared.moments.Backoff.{Backoff}
use Rattle.v4_client.specs.declared.moments.Backoff.TheVariants.{Four, Eight, Sixteen, ThirtyTwo, SixtyFour}
use Rattle.v4_client.specs.declared.states.Answer4.{Answer4}
use Rattle.v4_client.specs.declared.states.Answer4.TheVariants as answer
use Rattle.v4_client.specs.declared.states.Exchange4.{Exchange4}
use Rattle.v4_client.specs.declared.states.News4.{News4}
use Rattle.v4_client.specs.declared.states.News4.TheVariants as news
use Rattle.v4_client.specs.declared.states.Origin4.{Origin4}
use Rattle.v4_client.specs.declared.states.State4.{State4}
use Rattle.v4_client.specs.declared.states.State4.TheVariants.{Off, Init, Selecting, Requesting, Rebooting, Checking, Waiting, Bound, Renewing, Rebinding}
use Rattle.v4_client.specs.declared.states.Step4.{Step4}
use Rattle.v4_client.specs.declared.states.Tell.{Tell}
use Rattle.v4_client.specs.declared.states.Tell.TheVariants.{Server, Nobody}
use Rattle.v4_client.specs.declared.states.Turn4.{Turn4}
use Rattle.v4_client.specs.Detection.{checked, defended, with_acd}
use Rattle.v4_client.specs.Moments.{expiry, renewal_at, rebinding_at, standing_until, doubled}
use Rattle.v4_client.specs.Saying.{no_address, sent_of, flags, to_everyone, to_server, base}
use Rattle.v4_client.specs.Sound.{FitsAnswer}
use Rattle.v4_client.specs.Steps.{rests, to_init, expires, requesting, rebooting, new_exchange, renewing, rebinding, declines, gives_up}
use Rattle.v4_client.specs.Answers.{answering, offer_by, reply_in, answer_of}
use Rattle.v4_client.specs.Hearing.{offered, answered, renewed, heard_row, contested, arp_row}
use Rattle.v4_client.specs.Inputs.{stood, begins, begin_row, off_row, released, released_standing, release_row, rebind_row, unsent_row}
use Rattle.v4_client.specs.Messages.{Arrival}
use Rattle.v4_client.specs.Settings.{SettingsContent}
use Rattle.net_types.specs.declared.address.Ip4.{Ip4}
use Rattle.v4_client.specs.Ticks.{detects, tick_row}
use Rattle.v4_client.specs.declared.states.Origin4.TheVariants as origin
use Rattle.arp_acd.specs.declared.detection.AcdSays.TheVariants.{Quiet, SayProbe, SayAnnounce, Passed, Conflict, GivenUp}
use Rattle.machine.specs.Draw.{xid_of, other_than}
use Rattle.v4_options.specs.declared.code.TheConstants.{SERVER_IDENTIFIER}
use Rattle.v4_message.specs.Messages.{address_at}
use Rattle.lease_text.specs.Leases.{first_byte, is_host_address}
use Rattle.v4_message.specs.declared.writing.Kind4.{Kind4}
use Rattle.v4_message.specs.declared.writing.Kind4.TheVariants.{Discover, Request, Decline, Release}
use Rattle.v4_frames.specs.declared.speaker.TheConstants.{BROADCAST_FLAG}
use Rattle.v4_frames.specs.InRange.{FitsIp4, FitsMac, FitsSent}
use Rattle.v4_client.specs.declared.setup.Site4.{Site4}
use Rattle.v4_client.specs.Moments.{secs_since}
use Rattle.v4_client.specs.Steps.{new_xid, selecting, discovers, standing_news}
use Rattle.lease_evidence.proofs.ReplyFacts.{IsGranted, is_granted, is_offered}
use Rattle.arp_acd.proofs.Standing.{test-le}

-- ---- what each state carries

pub record FitsAsk (exchange : Exchange4) : Type 0 where
  pub xid : exchange.xid < 2 ^ 32
  pub address : FitsIp4 exchange.address
  pub server : IfSome exchange.server FitsIp4

pub record FitsGrant (terms : Terms4) : Type 0 where
  pub address : FitsIp4 terms.net.ip
  pub server : FitsIp4 terms.server
  pub server_mac : FitsMac terms.server_mac

abbrev pub FitsFields : State4 → Type 0
FitsFields Off = Unit {0}
FitsFields (Init due) = Unit {0}
FitsFields (Selecting xid began secs backoff due) = (xid < 2 ^ 32) × (secs < 2 ^ 16)
FitsFields (Requesting exchange secs backoff due) = FitsAsk exchange × (secs < 2 ^ 16)
FitsFields (Rebooting exchange backoff end due stands) = FitsAsk exchange × IfSome stands FitsGrant
FitsFields (Checking xid terms origin acd stands) = (xid < 2 ^ 32) × FitsGrant terms × IfSome stands FitsGrant
FitsFields (Waiting due) = Unit {0}
FitsFields (Bound xid terms acd) = (xid < 2 ^ 32) × FitsGrant terms
FitsFields (Renewing exchange terms acd due) = FitsAsk exchange × FitsGrant terms
FitsFields (Rebinding exchange terms acd due) = FitsAsk exchange × FitsGrant terms

pub record FitsStep (step : Step4) : Type 0 where
  pub state : FitsFields step.state
  pub say : IfSome step.say (λ say. FitsSent (sent_of say))

-- ---- messages

four_fit : (a b : Bool) → (a && b) ≡ true → (a ≡ true) × (b ≡ true)
four_fit true true h = (refl, refl)
four_fit true false h = absurd cc
four_fit false b h = absurd cc

pub host_fits : (address : Ip4) → is_host_address address ≡ true → FitsIp4 address
host_fits address h =
    let one = four_fit (nat_le 1 (first_byte address) && nat_le (first_byte address) 223) (not (eqb (first_byte address) 127)) h in
    let two = four_fit (nat_le 1 (first_byte address)) (nat_le (first_byte address) 223) one.0 in
    let le : first_byte address ≤ 223 = test-le (first_byte address) 223 two.1 in
    omega (arith, le)

flags_fit : (site : Site4) → flags site < 2 ^ 16
flags_fit site = gated (λ n. n < 2 ^ 16) site.flags.broadcast BROADCAST_FLAG 0 (lit< tt) (lit< tt)

secs_fit : (began at : ℕ) → secs_since began at < 2 ^ 16
secs_fit began at = omega arith

drawn_fits : (last : Option ℕ) (xid : ℕ) → xid < 2 ^ 32 → other_than last xid < 2 ^ 32
drawn_fits None xid h = h
drawn_fits (Some last) xid h = gated (λ n. n < 2 ^ 32) (nat_eq xid last) ((xid + 1) % 2 ^ 32) xid (omega arith) h

pub new_xid_fits : (turn : Turn4) → new_xid turn < 2 ^ 32
new_xid_fits turn = drawn_fits turn.last (xid_of turn.salt turn.site.iface.index) (omega arith)

module _ (turn : Turn4) (mac : FitsMac turn.site.iface.mac) where
  everyone_fits : (kind : Kind4) (xid secs flags : ℕ) (ciaddr : Ip4) (asked server : Option Ip4) → xid < 2 ^ 32 → secs < 2 ^ 16 → flags < 2 ^ 16
      → FitsIp4 ciaddr
      → IfSome asked FitsIp4 → IfSome server FitsIp4
      → FitsSent (sent_of (to_everyone (record (base turn.site kind xid) { secs = secs; flags = flags; ciaddr = ciaddr; asked = asked; server = server })))
  everyone_fits kind xid secs flags ciaddr asked server x s f c a v = record {
    from_mac = mac;
    to_mac = refl;
    from = c;
    to = lit< tt;
    xid = x;
    secs = s;
    flags = f;
    ciaddr = c;
    mac = mac;
    asked = a;
    server = v;
  }

  server_fits : (kind : Kind4) (xid : ℕ) (terms : Terms4) (server : Option Ip4) → xid < 2 ^ 32 → FitsGrant terms → IfSome server FitsIp4
      → FitsSent (sent_of (to_server terms (record (base turn.site kind xid) { ciaddr = terms.net.ip; server = server })))
  server_fits kind xid terms server x t v = record {
    from_mac = mac;
    to_mac = t.server_mac;
    from = t.address;
    to = t.server;
    xid = x;
    secs = lit< tt;
    flags = lit< tt;
    ciaddr = t.address;
    mac = mac;
    asked = tt;
    server = v;
  }

  -- ---- steps

  zero_fits : FitsIp4 no_address
  zero_fits = lit< tt

  selecting_fits : (xid began : ℕ) (backoff : Backoff) → xid < 2 ^ 32 → FitsStep (selecting turn xid began backoff)
  selecting_fits xid began backoff x = record {
    state = (x, secs_fit began turn.at);
    say =
        everyone_fits Discover xid (secs_since began turn.at) (flags turn.site) no_address None None x (secs_fit began turn.at)
        (flags_fit turn.site) zero_fits tt tt;
  }

  discovers_fits : (news : News4) → FitsStep (record (discovers turn) { news = news })
  discovers_fits news = let fits = selecting_fits (new_xid turn) turn.at Four (new_xid_fits turn) in record { state = fits.state; say = fits.say }

  requesting_fits : (exchange : Exchange4) (secs : ℕ) (backoff : Backoff) → FitsAsk exchange → secs < 2 ^ 16 → FitsStep (requesting turn exchange secs backoff)
  requesting_fits exchange secs backoff a s = record {
    state = (a, s);
    say =
        everyone_fits Request exchange.xid secs (flags turn.site) no_address (Some exchange.address) exchange.server a.xid s
        (flags_fit turn.site) zero_fits a.address a.server;
  }

  rebooting_fits : (exchange : Exchange4) (backoff : Backoff) (end : ℕ) (stands : Option Terms4) → FitsAsk exchange → IfSome stands FitsGrant
      → FitsStep (rebooting turn exchange backoff end stands)
  rebooting_fits exchange backoff end stands a s = record {
    state = (a, s);
    say =
        everyone_fits Request exchange.xid 0 (flags turn.site) no_address (Some exchange.address) exchange.server a.xid (lit< tt)
        (flags_fit turn.site) zero_fits a.address a.server;
  }

  new_fits : (address : Ip4) → FitsIp4 address → FitsAsk (new_exchange turn address)
  new_fits address a = record { xid = new_xid_fits turn; address = a; server = tt }

  renewing_fits : (exchange : Exchange4) (terms : Terms4) (acd : Option Acd) → FitsAsk exchange → FitsGrant terms → FitsStep (renewing turn exchange terms acd)
  renewing_fits exchange terms acd a t = record { state = (a, t); say = server_fits Request exchange.xid terms None a.xid t tt }

  rebinding_fits : (exchange : Exchange4) (terms : Terms4) (acd : Option Acd) → FitsAsk exchange → FitsGrant terms
      → FitsStep (rebinding turn exchange terms acd)
  rebinding_fits exchange terms acd a t = record {
    state = (a, t);
    say = everyone_fits Request exchange.xid 0 0 terms.net.ip None None a.xid (lit< tt) (lit< tt) t.address tt tt;
  }

  rests_fits : (state : State4) → FitsFields state → FitsStep (rests turn state)
  rests_fits state f = record { state = f; say = tt }

  init_fits : FitsStep (to_init turn)
  init_fits = record { state = tt; say = tt }

  expires_fits : FitsStep (expires turn)
  expires_fits = record { state = tt; say = tt }

  declines_fits : (xid : ℕ) (terms : Terms4) (news : News4) → xid < 2 ^ 32 → FitsGrant terms → FitsStep (declines turn xid terms news)
  declines_fits xid terms news x t = record {
    state = tt;
    say = everyone_fits Decline xid 0 0 no_address (Some terms.net.ip) (Some terms.server) x (lit< tt) (lit< tt) zero_fits t.address t.server;
  }

  gives_up_fits : (xid : ℕ) (terms : Terms4) → xid < 2 ^ 32 → FitsGrant terms → FitsStep (gives_up turn xid terms)
  gives_up_fits xid terms x t = record { state = tt; say = (declines_fits xid terms news.Expire x t).say }

  defends_fits : (xid : ℕ) (terms : Terms4) (state : State4) (says : AcdSays) → xid < 2 ^ 32 → FitsGrant terms → FitsFields state
      → FitsStep (defended turn xid terms state says)
  defends_fits xid terms state Quiet x t f = record { state = f; say = tt }
  defends_fits xid terms state SayProbe x t f = record { state = f; say = tt }
  defends_fits xid terms state SayAnnounce x t f = record { state = f; say = tt }
  defends_fits xid terms state Passed x t f = record { state = f; say = tt }
  defends_fits xid terms state Conflict x t f = record { state = f; say = tt }
  defends_fits xid terms state GivenUp x t f = gives_up_fits xid terms x t

  checks_fits : (xid : ℕ) (terms : Terms4) (origin : Origin4) (acd : Acd) (stands : Option Terms4) (says : AcdSays) → xid < 2 ^ 32 → FitsGrant terms
      → IfSome stands FitsGrant → FitsStep (checked turn xid terms origin acd stands says)
  checks_fits xid terms origin acd stands Quiet x t s = record { state = (x, t, s); say = tt }
  checks_fits xid terms origin acd stands SayProbe x t s = record { state = (x, t, s); say = tt }
  checks_fits xid terms origin acd stands SayAnnounce x t s = record { state = (x, t, s); say = tt }
  checks_fits xid terms origin acd stands Passed x t s = record { state = (x, t); say = tt }
  checks_fits xid terms origin acd stands Conflict x t s = declines_fits xid terms (standing_news stands) x t
  checks_fits xid terms origin acd stands GivenUp x t s = record { state = (x, t, s); say = tt }

  detects_fits : (xid : ℕ) (terms : Terms4) (state : State4) (acd : Option Acd) → xid < 2 ^ 32 → FitsGrant terms
      → ((acd : Acd) → FitsFields (with_acd state acd))
      → FitsFields state → FitsStep (detects turn xid terms state acd)
  detects_fits xid terms state None x t with_on f = rests_fits state f
  detects_fits xid terms state (Some acd) x t with_on f =
      defends_fits xid terms (with_acd state (detection.acd_tick acd turn.at turn.salt).acd) (detection.acd_tick acd turn.at turn.salt).says x t
      (with_on (detection.acd_tick acd turn.at turn.salt).acd)

  pub tick_fits : (state : State4) → FitsFields state → FitsStep (tick_row turn state)
  tick_fits Off f = rests_fits Off tt
  tick_fits (Init due) f = selecting_fits (new_xid turn) turn.at Four (new_xid_fits turn)
  tick_fits (Waiting due) f = selecting_fits (new_xid turn) turn.at Four (new_xid_fits turn)
  tick_fits (Selecting xid began secs backoff due) f = selecting_fits xid began (doubled backoff) f.0
  tick_fits (Requesting exchange secs Four due) f = requesting_fits exchange secs (doubled Four) f.0 f.1
  tick_fits (Requesting exchange secs Eight due) f = requesting_fits exchange secs (doubled Eight) f.0 f.1
  tick_fits (Requesting exchange secs Sixteen due) f = requesting_fits exchange secs (doubled Sixteen) f.0 f.1
  tick_fits (Requesting exchange secs ThirtyTwo due) f = requesting_fits exchange secs (doubled ThirtyTwo) f.0 f.1
  tick_fits (Requesting exchange secs SixtyFour due) f = init_fits
  tick_fits (Rebooting exchange backoff end due stands) f =
      gated FitsStep (is_due (standing_until stands) turn.at) _ _ expires_fits
      (gated FitsStep (nat_le end turn.at) _ _ (discovers_fits (standing_news stands)) (rebooting_fits exchange (doubled backoff) end stands f.0 f.1))
  tick_fits (Checking xid terms origin acd stands) f =
      gated FitsStep (is_due (standing_until stands) turn.at) _ _ (record { state = (f.0, f.1, tt); say = tt })
      (gated FitsStep (is_due (expiry terms) turn.at) _ _ (record { state = tt; say = tt })
      (checks_fits xid terms origin (detection.acd_tick acd turn.at turn.salt).acd stands (detection.acd_tick acd turn.at turn.salt).says f.0 f.1 f.2))
  tick_fits (Bound xid terms acd) f =
      let new : FitsAsk (new_exchange turn terms.net.ip) = new_fits terms.net.ip f.1.address in
      gated FitsStep (is_due (expiry terms) turn.at) _ _ expires_fits
      (gated FitsStep (is_due (rebinding_at terms) turn.at) _ _ (rebinding_fits (new_exchange turn terms.net.ip) terms acd new f.1)
      (gated FitsStep (is_due (renewal_at terms) turn.at) _ _ (renewing_fits (new_exchange turn terms.net.ip) terms acd new f.1)
      (detects_fits xid terms (Bound xid terms acd) acd f.0 f.1 (λ next. f) f)))
  tick_fits (Renewing exchange terms acd due) f =
      let new : FitsAsk (new_exchange turn terms.net.ip) = new_fits terms.net.ip f.1.address in
      gated FitsStep (is_due (expiry terms) turn.at) _ _ expires_fits
      (gated FitsStep (is_due (rebinding_at terms) turn.at) _ _ (rebinding_fits (new_exchange turn terms.net.ip) terms acd new f.1)
      (gated FitsStep (nat_le due turn.at) _ _ (renewing_fits exchange terms acd f.0 f.1)
      (detects_fits exchange.xid terms (Renewing exchange terms acd due) acd f.0.xid f.1 (λ next. f) f)))
  tick_fits (Rebinding exchange terms acd due) f =
      gated FitsStep (is_due (expiry terms) turn.at) _ _ expires_fits
      (gated FitsStep (nat_le due turn.at) _ _ (rebinding_fits exchange terms acd f.0 f.1)
      (detects_fits exchange.xid terms (Rebinding exchange terms acd due) acd f.0.xid f.1 (λ next. f) f))

  -- ---- messages

  module _ (settings : SettingsContent) (arrival : Arrival) (named : IfSome (address_at SERVER_IDENTIFIER arrival.message.instances) FitsIp4)
      (source : FitsMac arrival.source) where
    named_fits : (server : Ip4) → address_at SERVER_IDENTIFIER arrival.message.instances ≡ Some server → FitsIp4 server
    named_fits server is = subst (λ (s : Option Ip4). IfSome s FitsIp4) is named

    granted_fits : (exchange : Exchange4) (terms : Terms4) → FitsAsk exchange → reply_in settings arrival exchange ≡ answer.Ack terms → FitsGrant terms
    granted_fits exchange terms a is =
        let g : IsGranted settings exchange arrival terms = is_granted settings exchange arrival terms is in
        record {
          address = subst FitsIp4 (sym g.address) a.address;
          server = named_fits terms.server g.from.named;
          server_mac = subst FitsMac (sym g.source) source;
        }

    offering_fits : (xid secs : ℕ) (state : State4) (said : Answer4) → offer_by settings arrival (answering settings xid arrival) ≡ said
        → (FitsAnswer said) → xid < 2 ^ 32 → secs < 2 ^ 16 → FitsFields state → FitsStep (offered turn xid secs state said)
    offering_fits xid secs state answer.Nothing is good x s f = rests_fits state f
    offering_fits xid secs state (answer.Ack terms) is good x s f = rests_fits state f
    offering_fits xid secs state answer.Nak is good x s f = rests_fits state f
    offering_fits xid secs state (answer.Offer address server) is good x s f =
        requesting_fits _ secs Four
        (record { xid = x; address = host_fits address good; server = named_fits server (is_offered settings xid arrival address server is).from.named }) s

    answering_fits : (exchange : Exchange4) (origin : Origin4) (stands : Option Terms4) (state : State4) (said : Answer4)
        → reply_in settings arrival exchange ≡ said
        → FitsAsk exchange → IfSome stands FitsGrant → FitsFields state → FitsStep (answered turn exchange.xid origin stands state said)
    answering_fits exchange origin stands state (answer.Ack terms) is a s f =
        let t : FitsGrant terms = granted_fits exchange terms a is in
        gated FitsStep turn.site.flags.noarp _ _ (record { state = (a.xid, t); say = tt }) (record { state = (a.xid, t, s); say = tt })
    answering_fits exchange origin stands state answer.Nak is a s f = record { state = tt; say = tt }
    answering_fits exchange origin stands state answer.Nothing is a s f = rests_fits state f
    answering_fits exchange origin stands state (answer.Offer address server) is a s f = rests_fits state f

    renewed_fits : (exchange : Exchange4) (news : News4) (acd : Option Acd) (state : State4) (said : Answer4) → reply_in settings arrival exchange ≡ said
        → FitsAsk exchange → FitsFields state → FitsStep (renewed turn exchange.xid news acd state said)
    renewed_fits exchange news acd state (answer.Ack terms) is a f = record { state = (a.xid, granted_fits exchange terms a is); say = tt }
    renewed_fits exchange news acd state answer.Nak is a f = record { state = tt; say = tt }
    renewed_fits exchange news acd state answer.Nothing is a f = rests_fits state f
    renewed_fits exchange news acd state (answer.Offer address server) is a f = rests_fits state f

    pub heard_fits : (state : State4) → FitsAnswer (answer_of settings arrival state) → FitsFields state
        → FitsStep (heard_row turn (answer_of settings arrival state) state)
    heard_fits Off good f = rests_fits Off f
    heard_fits (Init due) good f = rests_fits (Init due) f
    heard_fits (Selecting xid began secs backoff due) good f =
        offering_fits xid secs (Selecting xid began secs backoff due) (offer_by settings arrival (answering settings xid arrival)) refl good f.0 f.1 f
    heard_fits (Requesting exchange secs backoff due) good f =
        answering_fits exchange origin.Offered None (Requesting exchange secs backoff due) (reply_in settings arrival exchange) refl f.0 tt f
    heard_fits (Rebooting exchange backoff end due stands) good f =
        answering_fits exchange origin.Rebooted stands (Rebooting exchange backoff end due stands) (reply_in settings arrival exchange) refl f.0 f.1 f
    heard_fits (Checking xid terms origin acd stands) good f = rests_fits (Checking xid terms origin acd stands) f
    heard_fits (Waiting due) good f = rests_fits (Waiting due) f
    heard_fits (Bound xid terms acd) good f = rests_fits (Bound xid terms acd) f
    heard_fits (Renewing exchange terms acd due) good f =
        renewed_fits exchange news.Renew acd (Renewing exchange terms acd due) (reply_in settings arrival exchange) refl f.0 f
    heard_fits (Rebinding exchange terms acd due) good f =
        renewed_fits exchange news.Rebind acd (Rebinding exchange terms acd due) (reply_in settings arrival exchange) refl f.0 f

  -- ---- ARP packets

  contests_fits : (own : List Mac) (arp : ArpView) (xid : ℕ) (terms : Terms4) (state : State4) (acd : Option Acd) → xid < 2 ^ 32 → FitsGrant terms
      → ((acd : Acd) → FitsFields (with_acd state acd)) → FitsFields state → FitsStep (contested own turn arp xid terms state acd)
  contests_fits own arp xid terms state None x t with_on f = rests_fits state f
  contests_fits own arp xid terms state (Some acd) x t with_on f =
      defends_fits xid terms (with_acd state (detection.acd_hears own acd arp turn.at).acd) (detection.acd_hears own acd arp turn.at).says x t
      (with_on (detection.acd_hears own acd arp turn.at).acd)

  pub arp_fits : (own : List Mac) (arp : ArpView) (state : State4) → FitsFields state → FitsStep (arp_row own turn arp state)
  arp_fits own arp Off f = rests_fits Off f
  arp_fits own arp (Init due) f = rests_fits (Init due) f
  arp_fits own arp (Selecting xid began secs backoff due) f = rests_fits (Selecting xid began secs backoff due) f
  arp_fits own arp (Requesting exchange secs backoff due) f = rests_fits (Requesting exchange secs backoff due) f
  arp_fits own arp (Rebooting exchange backoff end due stands) f = rests_fits (Rebooting exchange backoff end due stands) f
  arp_fits own arp (Checking xid terms origin acd stands) f =
      checks_fits xid terms origin (detection.acd_hears own acd arp turn.at).acd stands (detection.acd_hears own acd arp turn.at).says f.0 f.1 f.2
  arp_fits own arp (Waiting due) f = rests_fits (Waiting due) f
  arp_fits own arp (Bound xid terms acd) f = contests_fits own arp xid terms (Bound xid terms acd) acd f.0 f.1 (λ next. f) f
  arp_fits own arp (Renewing exchange terms acd due) f =
      contests_fits own arp exchange.xid terms (Renewing exchange terms acd due) acd f.0.xid f.1 (λ next. f) f
  arp_fits own arp (Rebinding exchange terms acd due) f =
      contests_fits own arp exchange.xid terms (Rebinding exchange terms acd due) acd f.0.xid f.1 (λ next. f) f

  -- ---- the other inputs

  -- the kept lease's own fields, where the client may stand on it
  abbrev pub FitsKept : (may_stand : Bool) → Option Terms4 → Type 0
  FitsKept may_stand kept = IfSome kept (λ terms. FitsIp4 terms.net.ip × (may_stand ≡ true → FitsGrant terms))

  stood_fits : (may_stand : Bool) (terms : Terms4) → (may_stand ≡ true → FitsGrant terms) → IfSome (stood turn may_stand terms) FitsGrant
  stood_fits true terms g =
      gated (λ (s : Option Terms4). IfSome s FitsGrant) (turn.site.flags.persistent && true && is_some terms.origin) (Some terms) None (g refl) tt
  stood_fits false terms g = never turn.site.flags.persistent
    where
      never : (wished : Bool) → IfSome (if wished && false && is_some terms.origin then Some terms else None) FitsGrant
      never true = tt
      never false = tt

  begun_fits : (may_stand : Bool) (kept : Option Terms4) → FitsKept may_stand kept → FitsStep (begins turn may_stand kept)
  begun_fits may_stand None k = record { state = tt; say = tt }
  begun_fits may_stand (Some terms) k =
      let stands : Option Terms4 = stood turn may_stand terms in
      let fits : FitsStep (rebooting turn (new_exchange turn terms.net.ip) Four (turn.at + SECOND * turn.site.times.reboot) stands) =
      rebooting_fits (new_exchange turn terms.net.ip) Four (turn.at + SECOND * turn.site.times.reboot) stands (new_fits terms.net.ip k.0)
      (stood_fits may_stand terms k.1) in
      gated (λ (step : Step4). FitsStep (record step { spends = true })) (is_due (expiry terms) turn.at || eqb turn.site.times.reboot 0) _ _
      (record { state = tt; say = tt }) (record { state = fits.state; say = fits.say })

  pub begin_fits : (may_stand : Bool) (kept : Option Terms4) (state : State4) → FitsKept may_stand kept → FitsFields state
      → FitsStep (begin_row turn may_stand kept state)
  begin_fits may_stand kept Off k f = begun_fits may_stand kept k
  begin_fits may_stand kept (Init due) k f = rests_fits (Init due) f
  begin_fits may_stand kept (Selecting xid began secs backoff due) k f = rests_fits (Selecting xid began secs backoff due) f
  begin_fits may_stand kept (Requesting exchange secs backoff due) k f = rests_fits (Requesting exchange secs backoff due) f
  begin_fits may_stand kept (Rebooting exchange backoff end due stands) k f = rests_fits (Rebooting exchange backoff end due stands) f
  begin_fits may_stand kept (Checking xid terms origin acd stands) k f = rests_fits (Checking xid terms origin acd stands) f
  begin_fits may_stand kept (Waiting due) k f = rests_fits (Waiting due) f
  begin_fits may_stand kept (Bound xid terms acd) k f = rests_fits (Bound xid terms acd) f
  begin_fits may_stand kept (Renewing exchange terms acd due) k f = rests_fits (Renewing exchange terms acd due) f
  begin_fits may_stand kept (Rebinding exchange terms acd due) k f = rests_fits (Rebinding exchange terms acd due) f

  pub rebind_fits : (kept : Option Terms4) (state : State4) → FitsKept false kept → FitsFields state → FitsStep (rebind_row turn kept state)
  rebind_fits kept Off k f = begun_fits false kept k
  rebind_fits kept (Init due) k f = rests_fits (Init due) f
  rebind_fits kept (Selecting xid began secs backoff due) k f = rests_fits (Selecting xid began secs backoff due) f
  rebind_fits kept (Requesting exchange secs backoff due) k f = rests_fits (Requesting exchange secs backoff due) f
  rebind_fits kept (Rebooting exchange backoff end due stands) k f = rests_fits (Rebooting exchange backoff end due stands) f
  rebind_fits kept (Checking xid terms origin acd stands) k f = rests_fits (Checking xid terms origin acd stands) f
  rebind_fits kept (Waiting due) k f = rests_fits (Waiting due) f
  rebind_fits kept (Bound xid terms acd) k f = rebinding_fits (new_exchange turn terms.net.ip) terms acd (new_fits terms.net.ip f.1.address) f.1
  rebind_fits kept (Renewing exchange terms acd due) k f = rebinding_fits (new_exchange turn terms.net.ip) terms acd (new_fits terms.net.ip f.1.address) f.1
  rebind_fits kept (Rebinding exchange terms acd due) k f = rests_fits (Rebinding exchange terms acd due) f

  pub off_fits : FitsStep (off_row turn)
  off_fits = record { state = tt; say = tt }

  released_fits : (tell : Tell) (terms : Terms4) → FitsGrant terms → FitsStep (released turn tell terms)
  released_fits Server terms t = record { state = tt; say = server_fits Release (new_xid turn) terms (Some terms.server) (new_xid_fits turn) t t.server }
  released_fits Nobody terms t = record { state = tt; say = tt }

  standing_fits : (tell : Tell) (stands : Option Terms4) → IfSome stands FitsGrant → FitsStep (released_standing turn tell stands)
  standing_fits tell None s = off_fits
  standing_fits tell (Some terms) s = released_fits tell terms s

  pub release_fits : (tell : Tell) (state : State4) → FitsFields state → FitsStep (release_row turn tell state)
  release_fits tell Off f = off_fits
  release_fits tell (Init due) f = off_fits
  release_fits tell (Selecting xid began secs backoff due) f = off_fits
  release_fits tell (Requesting exchange secs backoff due) f = off_fits
  release_fits tell (Rebooting exchange backoff end due stands) f = standing_fits tell stands f.1
  release_fits tell (Checking xid terms origin acd stands) f = standing_fits tell stands f.2
  release_fits tell (Waiting due) f = off_fits
  release_fits tell (Bound xid terms acd) f = released_fits tell terms f.1
  release_fits tell (Renewing exchange terms acd due) f = released_fits tell terms f.1
  release_fits tell (Rebinding exchange terms acd due) f = released_fits tell terms f.1

pub unsent_fits : (turn : Turn4) (state : State4) → FitsFields state → FitsFields (unsent_row turn state)
unsent_fits turn Off f = f
unsent_fits turn (Init due) f = f
unsent_fits turn (Selecting xid began secs backoff due) f = f
unsent_fits turn (Requesting exchange secs backoff due) f = f
unsent_fits turn (Rebooting exchange backoff end due stands) f = f
unsent_fits turn (Checking xid terms origin acd stands) f = f
unsent_fits turn (Waiting due) f = f
unsent_fits turn (Bound xid terms acd) f = f
unsent_fits turn (Renewing exchange terms acd due) f = f
unsent_fits turn (Rebinding exchange terms acd due) f = f
