-- What a client that stands on its kept lease carries of the turns shown, or one that may come to, and that each step keeps it.
use Rattle.std.proofs.Common.{◌≡◌, ℕ, ◌+◌, ◌*◌, Bool, true, false, not, ◌&&◌, ◌||◌, List, [], ◌∷◌, Option, Some, None, IfSome, inl, inr, refl, sym, ap, subst, ◌∙◌, nat_le, eqb, if◌then◌else◌}
use Rattle.std.proofs.lemmas.Bool.Decides.{nat_tests}
use Rattle.std.specs.Option.{is_some}
use Rattle.std.specs.Prelude.{option_map, ◌==◌}
use Rattle.std.specs.List.{AllByRecursion, list_any}
use Rattle.machine.specs.Moment.{is_due}
use Rattle.machine.specs.Since.{Always}
use Rattle.net_types.proofs.CaseLaws.{gated}
use Rattle.net_types.specs.declared.address.Ip4.{Ip4}
use Rattle.net_types.specs.declared.address.Mac.{Mac}
use Rattle.net_types.specs.declared.interface.Name.{Name}
use Rattle.frame_link.specs.declared.arp.ArpView.{ArpView}
use Rattle.arp_acd.specs.declared.detection.Acd.{Acd}
use Rattle.arp_acd.specs.declared.detection.AcdSays.{AcdSays}
use Rattle.arp_acd.specs.declared.detection.AcdSays.TheVariants.{Quiet, SayProbe, SayAnnounce, Passed, Conflict, GivenUp}
use Rattle.arp_acd.specs.Table as detection
use Rattle.lease_text.specs.Bounds.{IsTyped}
use Rattle.lease_text.specs.declared.lease.Terms4.{Terms4}
use Rattle.lease_text.specs.Leases.{LeaseContent, ValueContent, terms_of}
use Rattle.v4_frames.specs.declared.sent.Sent4.{Sent4}
use Rattle.v4_client.specs.declared.moments.Backoff.TheVariants.{Four, Eight, Sixteen, ThirtyTwo, SixtyFour}
use Rattle.v4_client.specs.declared.moments.TheConstants.{SECOND}
use Rattle.v4_client.specs.declared.states.Answer4.{Answer4}
use Rattle.v4_client.specs.declared.states.Answer4.TheVariants as answer
use Rattle.v4_client.specs.declared.states.Exchange4.{Exchange4}
use Rattle.v4_client.specs.declared.states.News4.{News4}
use Rattle.v4_client.specs.declared.states.News4.TheVariants as news
use Rattle.v4_client.specs.declared.states.Origin4.{Origin4}
use Rattle.v4_client.specs.declared.states.Origin4.TheVariants as origin
use Rattle.v4_client.specs.declared.states.State4.{State4}
use Rattle.v4_client.specs.declared.states.State4.TheVariants.{Off, Init, Selecting, Requesting, Rebooting, Checking, Waiting, Bound, Renewing, Rebinding}
use Rattle.v4_client.specs.declared.states.Step4.{Step4}
use Rattle.v4_client.specs.declared.states.Turn4.{Turn4}
use Rattle.v4_client.specs.Answers.{answering, offer_by, reply_in, answer_of}
use Rattle.v4_client.specs.Clients.{ClientContent}
use Rattle.v4_client.specs.Detection.{checked, defended, with_acd}
use Rattle.v4_client.specs.Due.{due_of}
use Rattle.v4_client.specs.Hearing.{offered, granted, answered, renewed, heard_row, contested, arp_row}
use Rattle.v4_client.specs.Inputs.{stood, begins, begin_row, rebind_row, unsent_row}
use Rattle.v4_client.specs.Messages.{Arrival}
use Rattle.v4_client.specs.Moments.{expiry, renewal_at, rebinding_at, standing_until}
use Rattle.v4_client.specs.Moves.{kept_after}
use Rattle.v4_client.specs.Saying.{sent_of, request}
use Rattle.v4_client.specs.Settings.{SettingsContent}
use Rattle.v4_client.specs.Steps.{rests, rebooting, new_exchange}
use Rattle.v4_client.specs.Ticks.{detects, tick_row}
use Rattle.world.specs.declared.wakes.Event.{Event}
use Rattle.world.specs.declared.wakes.Event.TheVariants as came
use Rattle.evidence_words.specs.Entries.{Entry}
use Rattle.evidence_words.specs.Inputs.{Site, index_at, GoesOn, StaysOn, carrier_after, has_carrier, is_stop, is_stopped}
use Rattle.lease_evidence.specs.Exchanges.{Numbered, Seen, messages_at, seen_in, shows}
use Rattle.lease_evidence.specs.KeptBasis4.{AsksAgain, AsksAlone, IsAcknowledged, IsUnrefused, Sometime, speaks}
use Rattle.lease_evidence.specs.LeaseBasis.{GoodNak}
use Rattle.lease_evidence.specs.Replies.{reply_at}
use Rattle.lease_evidence.proofs.Observer.{Grant, stays_on}
use Rattle.lease_evidence.proofs.Watching.{Asks, On, Lasts, message_in}

-- ---- what is carried

-- nothing was said in a turn
abbrev SaysNone : Site → Entry → List Entry → Type 0
SaysNone site e past = speaks site e ≡ false

-- the client did nothing yet, and all stayed as it was
pub record MayStand (site : Site) (past : List Entry) (state : State4) (kept : Option LeaseContent) : Type 0 where
  pub off : state ≡ Off
  pub still : kept ≡ site.kept4
  pub typed : IfSome kept IsTyped
  pub silent : Always (SaysNone site) past
  pub none_open : (seen_in site past).current ≡ None
  pub stays : Always (StaysOn site) past
  pub unrefused : Always (IsUnrefused site) past

-- the kept lease is asked for in this exchange alone
pub record IsAsking (site : Site) (past : List Entry) (lease : LeaseContent) (xid : ℕ) : Type 0 where
  pub persistent : site.managed.conf.flags.persistent ≡ true
  pub filed : site.kept4 ≡ Some lease
  pub told : is_some lease.origin ≡ true
  pub up : has_carrier site past ≡ true
  pub stays : Always (StaysOn site) past
  pub asks : Always (AsksAlone site xid lease.net.ip) past
  pub asked : list_any (speaks site) past ≡ true
  pub unrefused : Always (IsUnrefused site) past

pub record Reboots (site : Site) (past : List Entry) (exchange : Exchange4) (kept : Option LeaseContent) (terms : Terms4) : Type 0 where
  pub lease : LeaseContent
  pub still : kept ≡ Some lease
  pub same : terms_of lease ≡ terms
  pub address : exchange.address ≡ lease.net.ip
  pub server : exchange.server ≡ None
  pub asking : IsAsking site past lease exchange.xid

pub record Checks (site : Site) (past : List Entry) (xid : ℕ) (kept : Option LeaseContent) (terms : Terms4) : Type 0 where
  pub lease : LeaseContent
  pub still : kept ≡ Some lease
  pub same : terms_of lease ≡ terms
  pub asking : IsAsking site past lease xid
  pub acknowledged : (o : Numbered) → (seen_in site past).current ≡ Some o → Sometime (IsAcknowledged site o) past

abbrev pub StandsIn : Site → List Entry → State4 → (kept : Option LeaseContent) → Type 0
StandsIn site past Off kept = Unit {0}
StandsIn site past (Init due) kept = Unit {0}
StandsIn site past (Selecting xid began secs backoff due) kept = Unit {0}
StandsIn site past (Requesting exchange secs backoff due) kept = Unit {0}
StandsIn site past (Rebooting exchange backoff end due stands) kept = IfSome stands (Reboots site past exchange kept)
StandsIn site past (Checking xid terms origin acd stands) kept = IfSome stands (Checks site past xid kept)
StandsIn site past (Waiting due) kept = Unit {0}
StandsIn site past (Bound xid terms acd) kept = Unit {0}
StandsIn site past (Renewing exchange terms acd due) kept = Unit {0}
StandsIn site past (Rebinding exchange terms acd due) kept = Unit {0}

pub record Stands (site : Site) (past : List Entry) (may : Bool) (state : State4) (kept : Option LeaseContent) : Type 0 where
  pub may_stand : may ≡ true → MayStand site past state kept
  pub stands : StandsIn site past state kept

abbrev pub StandsSo : Site → List Entry → ClientContent → Type 0
StandsSo site past c = Stands site past c.may_stand c.state c.kept

-- within a turn, after the tick: what it said is known
abbrev pub StandsMid : Site → List Entry → (first : Option Sent4) → State4 → (kept : Option LeaseContent) → Type 0
StandsMid site past first Off kept = Unit {0}
StandsMid site past first (Init due) kept = Unit {0}
StandsMid site past first (Selecting xid began secs backoff due) kept = Unit {0}
StandsMid site past first (Requesting exchange secs backoff due) kept = Unit {0}
StandsMid site past first (Rebooting exchange backoff end due stands) kept =
    IfSome stands (λ terms. Reboots site past exchange kept terms × IfSome first (AsksAgain exchange.xid exchange.address))
StandsMid site past first (Checking xid terms origin acd stands) kept = IfSome stands (λ old. Checks site past xid kept old × (first ≡ None))
StandsMid site past first (Waiting due) kept = Unit {0}
StandsMid site past first (Bound xid terms acd) kept = Unit {0}
StandsMid site past first (Renewing exchange terms acd due) kept = Unit {0}
StandsMid site past first (Rebinding exchange terms acd due) kept = Unit {0}

pub record StandsAmid (site : Site) (past : List Entry) (first : Option Sent4) (may : Bool) (state : State4) (kept : Option LeaseContent) : Type 0 where
  pub may_stand : may ≡ true → MayStand site past state kept × (first ≡ None)
  pub stands : StandsMid site past first state kept

abbrev pub StandsAmidSo : Site → List Entry → (first : Option Sent4) → ClientContent → Type 0
StandsAmidSo site past first c = StandsAmid site past first c.may_stand c.state c.kept

-- ---- what a turn shows, of what its two steps say

pub record ShowsBoth (site : Site) (e : Entry) (past : List Entry) (first second : Option Sent4) : Type 0 where
  pub stays : StaysOn site e past
  pub up : has_carrier site past ≡ true → has_carrier site (e ∷ past) ≡ true
  pub alone : (xid : ℕ) (address : Ip4) → IfSome first (AsksAgain xid address) → IfSome second (AsksAgain xid address) → AsksAlone site xid address e past
  pub speaks_so : speaks site e ≡ (is_some first || is_some second)
  pub seen_so : seen_in site (e ∷ past) ≡ shows e.moment second (shows e.moment first (seen_in site past))

-- ---- some general facts

if_map : {A : Type 0} (P Q : A → Type 0) (some : Option A) → ((a : A) → P a → Q a) → IfSome some P → IfSome some Q
if_map P Q None f h = tt
if_map P Q (Some a) f h = f a h

may_before : (spends may : Bool) → (if spends then false else may) ≡ true → may ≡ true
may_before true may h = absurd cc
may_before false may h = h

some_one : {A : Type 0} (a b : A) → Some a ≡ Some b → a ≡ b
some_one a b h = cc

none_some : {A : Type 0} (a : A) → None ≡ Some a → ⊥
none_some a h = cc

or_later : (a b : Bool) → b ≡ true → (a || b) ≡ true
or_later true b h = refl
or_later false b h = h

-- the carrier stays up
pub still_up : (index : ℕ) (event : Event) → stays_on true index event ≡ true → carrier_after index event true ≡ true
still_up index (came.Carrier other now) h = by (index == other) now h
  where
    by : (here now : Bool) → (not here || not true || now) ≡ true → (if here then now else true) ≡ true
    by true now h = h
    by false now h = refl
still_up index (came.Frame other len) h = refl
still_up index (came.Duplicate other addr) h = refl
still_up index (came.Release other) h = refl
still_up index (came.Rebind other) h = refl
still_up index came.Stop h = refl
still_up index came.Quiet h = refl
still_up index came.End h = refl

no_stop : (up : Bool) (index : ℕ) (event : Event) → GoesOn up index event → is_stop event ≡ false
no_stop up index (came.Carrier other now) goes = refl
no_stop up index (came.Frame other len) goes = refl
no_stop up index (came.Duplicate other addr) goes = refl
no_stop up index (came.Release other) goes = refl
no_stop up index (came.Rebind other) goes = refl
no_stop up index came.Stop goes = absurd goes
no_stop up index came.Quiet goes = refl
no_stop up index came.End goes = refl

-- no stop came
never_stopped : (site : Site) (past : List Entry) → Always (StaysOn site) past → is_stopped past ≡ false
never_stopped site [] stays = refl
never_stopped site (e ∷ past) stays =
    ap (λ (s : Bool). s || is_stopped past) (no_stop (has_carrier site past) (index_at site) e.event stays.0) ∙ never_stopped site past stays.1

-- where nothing was said nothing else was
silent_alone : (xid : ℕ) (address : Ip4) (messages : List (Option Sent4)) → list_any is_some messages ≡ false
    → AllByRecursion (λ message. IfSome message (AsksAgain xid address)) messages
silent_alone xid address [] h = tt
silent_alone xid address (None ∷ messages) h = (tt, silent_alone xid address messages h)
silent_alone xid address (Some sent ∷ messages) h = absurd cc

all_silent : (site : Site) (xid : ℕ) (address : Ip4) (past : List Entry) → Always (SaysNone site) past → Always (AsksAlone site xid address) past
all_silent site xid address [] h = tt
all_silent site xid address (e ∷ past) h = (silent_alone xid address (messages_at site e) h.0, all_silent site xid address past h.1)

-- ---- the tick

module _ (site : Site) (past : List Entry) (name : Name) (fresh : List ValueContent) (kept : Option LeaseContent) where
  abbrev pub Ticked : Step4 → Type 0
  Ticked step = StandsMid site past (message_in step) step.state (kept_after step.keep name fresh kept)

  pub rested_mid : (turn : Turn4) (state : State4) → StandsIn site past state kept → Ticked (rests turn state)
  rested_mid turn Off h = tt
  rested_mid turn (Init due) h = tt
  rested_mid turn (Selecting xid began secs backoff due) h = tt
  rested_mid turn (Requesting exchange secs backoff due) h = tt
  rested_mid turn (Rebooting exchange backoff end due stands) h = if_map (Reboots site past exchange kept) _ stands (λ terms r. (r, tt)) h
  rested_mid turn (Checking xid terms origin acd stands) h = if_map (Checks site past xid kept) _ stands (λ old r. (r, refl)) h
  rested_mid turn (Waiting due) h = tt
  rested_mid turn (Bound xid terms acd) h = tt
  rested_mid turn (Renewing exchange terms acd due) h = tt
  rested_mid turn (Rebinding exchange terms acd due) h = tt

  checks_mid : (turn : Turn4) (xid : ℕ) (terms : Terms4) (from : Origin4) (acd : Acd) (stands : Option Terms4) (says : AcdSays)
      → IfSome stands (Checks site past xid kept) → Ticked (checked turn xid terms from acd stands says)
  checks_mid turn xid terms from acd stands Quiet h = if_map (Checks site past xid kept) _ stands (λ old r. (r, refl)) h
  checks_mid turn xid terms from acd stands SayProbe h = if_map (Checks site past xid kept) _ stands (λ old r. (r, refl)) h
  checks_mid turn xid terms from acd stands SayAnnounce h = if_map (Checks site past xid kept) _ stands (λ old r. (r, refl)) h
  checks_mid turn xid terms from acd stands Passed h = tt
  checks_mid turn xid terms from acd stands Conflict h = tt
  checks_mid turn xid terms from acd stands GivenUp h = if_map (Checks site past xid kept) _ stands (λ old r. (r, refl)) h

  defends_mid : (turn : Turn4) (xid : ℕ) (terms : Terms4) (state : State4) (says : AcdSays) → ((first : Option Sent4) → StandsMid site past first state kept)
      → Ticked (defended turn xid terms state says)
  defends_mid turn xid terms state Quiet on = on None
  defends_mid turn xid terms state SayProbe on = on None
  defends_mid turn xid terms state SayAnnounce on = on None
  defends_mid turn xid terms state Passed on = on None
  defends_mid turn xid terms state Conflict on = on None
  defends_mid turn xid terms state GivenUp on = tt

  detects_mid : (turn : Turn4) (xid : ℕ) (terms : Terms4) (state : State4) (acd : Option Acd)
      → ((acd : Acd) (first : Option Sent4) → StandsMid site past first (with_acd state acd) kept)
      → ((first : Option Sent4) → StandsMid site past first state kept) → Ticked (detects turn xid terms state acd)
  detects_mid turn xid terms state None with_on on = on None
  detects_mid turn xid terms state (Some acd) with_on on =
      defends_mid turn xid terms (with_acd state (detection.acd_tick acd turn.at turn.salt).acd) (detection.acd_tick acd turn.at turn.salt).says
      (with_on (detection.acd_tick acd turn.at turn.salt).acd)

  pub tick_mid : (turn : Turn4) (state : State4) → StandsIn site past state kept → Ticked (tick_row turn state)
  tick_mid turn Off h = tt
  tick_mid turn (Init due) h = tt
  tick_mid turn (Waiting due) h = tt
  tick_mid turn (Selecting xid began secs backoff due) h = tt
  tick_mid turn (Requesting exchange secs Four due) h = tt
  tick_mid turn (Requesting exchange secs Eight due) h = tt
  tick_mid turn (Requesting exchange secs Sixteen due) h = tt
  tick_mid turn (Requesting exchange secs ThirtyTwo due) h = tt
  tick_mid turn (Requesting exchange secs SixtyFour due) h = tt
  tick_mid turn (Rebooting exchange backoff end due stands) h =
      gated Ticked (is_due (standing_until stands) turn.at) _ _ tt
      (gated Ticked (nat_le end turn.at) _ _ tt
      (if_map (Reboots site past exchange kept) _ stands
      (λ terms r. (r, record { kind = refl; same_xid = refl; names = refl; no_server = r.server; none_yet = refl })) h))
  tick_mid turn (Checking xid terms from acd stands) h =
      gated Ticked (is_due (standing_until stands) turn.at) _ _ tt
      (gated Ticked (is_due (expiry terms) turn.at) _ _ tt
      (checks_mid turn xid terms from (detection.acd_tick acd turn.at turn.salt).acd stands (detection.acd_tick acd turn.at turn.salt).says h))
  tick_mid turn (Bound xid terms acd) h =
      gated Ticked (is_due (expiry terms) turn.at) _ _ tt
      (gated Ticked (is_due (rebinding_at terms) turn.at) _ _ tt
      (gated Ticked (is_due (renewal_at terms) turn.at) _ _ tt
      (detects_mid turn xid terms (Bound xid terms acd) acd (λ next first. tt) (λ first. tt))))
  tick_mid turn (Renewing exchange terms acd due) h =
      gated Ticked (is_due (expiry terms) turn.at) _ _ tt
      (gated Ticked (is_due (rebinding_at terms) turn.at) _ _ tt
      (gated Ticked (nat_le due turn.at) _ _ tt
      (detects_mid turn exchange.xid terms (Renewing exchange terms acd due) acd (λ next first. tt) (λ first. tt))))
  tick_mid turn (Rebinding exchange terms acd due) h =
      gated Ticked (is_due (expiry terms) turn.at) _ _ tt
      (gated Ticked (nat_le due turn.at) _ _ tt
      (detects_mid turn exchange.xid terms (Rebinding exchange terms acd due) acd (λ next first. tt) (λ first. tt)))

  -- a tick of a client that may still stand does nothing
  abbrev ticks : Turn4 → State4 → Step4
  ticks turn state = if is_due (due_of state) turn.at then tick_row turn state else rests turn state

  tick_off : (turn : Turn4) (state : State4) → state ≡ Off → ticks turn state ≡ rests turn Off
  tick_off turn state off = ap (ticks turn) off

  tick_may : (turn : Turn4) (may : Bool) (state : State4) → (may ≡ true → MayStand site past state kept)
      → (if (ticks turn state).spends then false else may) ≡ true
      → MayStand site past (ticks turn state).state (kept_after (ticks turn state).keep name fresh kept) × (message_in (ticks turn state) ≡ None)
  tick_may turn may state before is =
      let m : MayStand site past state kept = before (may_before (ticks turn state).spends may is) in
      subst (λ (step : Step4). MayStand site past step.state (kept_after step.keep name fresh kept) × (message_in step ≡ None))
      (sym (tick_off turn state m.off))
      (record { off = refl; still = m.still; typed = m.typed; silent = m.silent; none_open = m.none_open; stays = m.stays; unrefused = m.unrefused }, refl)

  pub tick_stands : (turn : Turn4) (may : Bool) (state : State4) → Stands site past may state kept
      → StandsAmid site past (message_in (ticks turn state)) (if (ticks turn state).spends then false else may) (ticks turn state).state
      (kept_after (ticks turn state).keep name fresh kept)
  tick_stands turn may state h = record {
    may_stand = tick_may turn may state h.may_stand;
    stands =
        gated Ticked (is_due (due_of state) turn.at) (tick_row turn state) (rests turn state) (tick_mid turn state h.stands) (rested_mid turn state h.stands);
  }

-- ---- a failed send of the turn before

pub unsent_stands : (site : Site) (past : List Entry) (turn : Turn4) (may : Bool) (state : State4) (kept : Option LeaseContent)
    → Stands site past may state kept → Stands site past may (unsent_row turn state) kept
unsent_stands site past turn may state kept h = record {
  may_stand = λ is.
      let m : MayStand site past state kept = h.may_stand is in
      record {
        off = ap (unsent_row turn) m.off;
        still = m.still;
        typed = m.typed;
        silent = m.silent;
        none_open = m.none_open;
        stays = m.stays;
        unrefused = m.unrefused;
      };
  stands = by state h.stands;
}
  where
    by : (state : State4) → StandsIn site past state kept → StandsIn site past (unsent_row turn state) kept
    by Off h = h
    by (Init due) h = h
    by (Selecting xid began secs backoff due) h = h
    by (Requesting exchange secs backoff due) h = h
    by (Rebooting exchange backoff end due stands) h = h
    by (Checking xid terms from acd stands) h = h
    by (Waiting due) h = h
    by (Bound xid terms acd) h = h
    by (Renewing exchange terms acd due) h = h
    by (Rebinding exchange terms acd due) h = h

-- ---- the input of a turn

module _ (site : Site) (e : Entry) (past : List Entry) (first : Option Sent4) (name : Name) (fresh : List ValueContent) (kept : Option LeaseContent) where
  -- nothing of a NAK is heard
  abbrev pub NoNak : Type 0
  NoNak = (o : Numbered) → GoodNak site o e past → ⊥

  abbrev pub AfterInput : Step4 → Type 0
  AfterInput step = ShowsBoth site e past first (message_in step) → StandsIn site (e ∷ past) step.state (kept_after step.keep name fresh kept)

  asks_on : (lease : LeaseContent) (xid : ℕ) (second : Option Sent4) → ShowsBoth site e past first second → IfSome first (AsksAgain xid lease.net.ip)
      → IfSome second (AsksAgain xid lease.net.ip) → IsUnrefused site e past → IsAsking site past lease xid → IsAsking site (e ∷ past) lease xid
  asks_on lease xid second shows one two unrefused a = record {
    persistent = a.persistent;
    filed = a.filed;
    told = a.told;
    up = shows.up a.up;
    stays = (shows.stays, a.stays);
    asks = (shows.alone xid lease.net.ip one two, a.asks);
    asked = or_later (speaks site e) (list_any (speaks site) past) a.asked;
    unrefused = (unrefused, a.unrefused);
  }

  asks_so : (exchange : Exchange4) (address : Ip4) → exchange.address ≡ address → IfSome first (AsksAgain exchange.xid exchange.address)
      → IfSome first (AsksAgain exchange.xid address)
  asks_so exchange address same h = subst (λ (a : Ip4). IfSome first (AsksAgain exchange.xid a)) same h

  -- no NAK comes
  reboots_on : (exchange : Exchange4) (terms : Terms4) → NoNak → ShowsBoth site e past first None
      → Reboots site past exchange kept terms × IfSome first (AsksAgain exchange.xid exchange.address) → Reboots site (e ∷ past) exchange kept terms
  reboots_on exchange terms none shows h =
      let r : Reboots site past exchange kept terms = h.0 in
      record {
        lease = r.lease;
        still = r.still;
        same = r.same;
        address = r.address;
        server = r.server;
        asking = asks_on r.lease exchange.xid None shows (asks_so exchange r.lease.net.ip r.address h.1) tt (λ o nak. absurd (none o nak)) r.asking;
      }

  -- nothing is said: the open exchange stays the same
  same_open : first ≡ None → ShowsBoth site e past first None → seen_in site (e ∷ past) ≡ seen_in site past
  same_open none both = both.seen_so ∙ ap (λ (f : Option Sent4). shows e.moment None (shows e.moment f (seen_in site past))) none

  checks_on : (xid : ℕ) (old : Terms4) → ShowsBoth site e past first None → Checks site past xid kept old × (first ≡ None) → Checks site (e ∷ past) xid kept old
  checks_on xid old shows h =
      let c : Checks site past xid kept old = h.0 in
      let same : seen_in site (e ∷ past) ≡ seen_in site past = same_open h.1 shows in
      let was : (o : Numbered) → (seen_in site (e ∷ past)).current ≡ Some o → (seen_in site past).current ≡ Some o =
      λ o now. sym (ap (λ (s : Seen). s.current) same) ∙ now in
      record {
        lease = c.lease;
        still = c.still;
        same = c.same;
        asking = asks_on c.lease xid None shows (subst (λ (f : Option Sent4). IfSome f (AsksAgain xid c.lease.net.ip)) (sym h.1) tt) tt
            (λ o nak. c.acknowledged o (was o nak.is_open)) c.asking;
        acknowledged = λ o now. inr (tt, c.acknowledged o (was o now));
      }

  -- the state stays as it is
  pub rests_on : (turn : Turn4) (state : State4) → NoNak → StandsMid site past first state kept → AfterInput (rests turn state)
  rests_on turn Off none h shows = tt
  rests_on turn (Init due) none h shows = tt
  rests_on turn (Selecting xid began secs backoff due) none h shows = tt
  rests_on turn (Requesting exchange secs backoff due) none h shows = tt
  rests_on turn (Rebooting exchange backoff end due stands) none h shows =
      if_map (λ terms. Reboots site past exchange kept terms × IfSome first (AsksAgain exchange.xid exchange.address))
      (Reboots site (e ∷ past) exchange kept) stands
      (λ terms r. reboots_on exchange terms none shows r) h
  rests_on turn (Checking xid terms from acd stands) none h shows =
      if_map (λ old. Checks site past xid kept old × (first ≡ None)) (Checks site (e ∷ past) xid kept) stands (λ old r. checks_on xid old shows r) h
  rests_on turn (Waiting due) none h shows = tt
  rests_on turn (Bound xid terms acd) none h shows = tt
  rests_on turn (Renewing exchange terms acd due) none h shows = tt
  rests_on turn (Rebinding exchange terms acd due) none h shows = tt

  -- ---- a message

  module _ (settings : SettingsContent) (arrival : Arrival) (turn : Turn4)
      (replies : (exchange : Exchange4) → reply_at site exchange e ≡ reply_in settings arrival exchange) where
    -- the exchange that is open is this one
    asked_open : (exchange : Exchange4) (answered : ℕ) (current : Option Numbered) (o : Numbered) → Asks exchange answered current → current ≡ Some o
        → o.exchange ≡ exchange
    asked_open exchange answered None o asks is = absurd asks
    asked_open exchange answered (Some x) o asks is = ap (λ (y : Numbered). y.exchange) (sym (some_one x o is)) ∙ asks.0

    open_is : (exchange : Exchange4) (answered : ℕ) → Asks exchange answered (shows e.moment first (seen_in site past)).current
        → ShowsBoth site e past first None
        → (o : Numbered) → (seen_in site (e ∷ past)).current ≡ Some o → o.exchange ≡ exchange
    open_is exchange k asks both o now =
        asked_open exchange k (shows e.moment first (seen_in site past)).current o asks (sym (ap (λ (s : Seen). s.current) both.seen_so) ∙ now)

    said_in_it : (exchange : Exchange4) (said : Answer4) → reply_in settings arrival exchange ≡ said → (o : Numbered) → o.exchange ≡ exchange
        → reply_at site o.exchange e ≡ said
    said_in_it exchange said is o same = ap (λ (x : Exchange4). reply_at site x e) same ∙ replies exchange ∙ is

    not_nak : (said : Answer4) → (said ≡ answer.Nak → ⊥) → (exchange : Exchange4) → reply_in settings arrival exchange ≡ said
        → ((o : Numbered) → (seen_in site (e ∷ past)).current ≡ Some o → o.exchange ≡ exchange) → NoNak
    not_nak said unlike exchange is open_so o nak = unlike (sym (said_in_it exchange said is o (open_so o nak.is_open)) ∙ nak.refuses)

    -- an ACK: the address is checked
    acked : (exchange : Exchange4) (granted_terms old : Terms4) → reply_in settings arrival exchange ≡ answer.Ack granted_terms
        → ((o : Numbered) → (seen_in site (e ∷ past)).current ≡ Some o → o.exchange ≡ exchange) → ShowsBoth site e past first None
        → Reboots site past exchange kept old × IfSome first (AsksAgain exchange.xid exchange.address) → Checks site (e ∷ past) exchange.xid kept old
    acked exchange granted_terms old is open_so shows h =
        let r : Reboots site (e ∷ past) exchange kept old =
        reboots_on exchange old (not_nak (answer.Ack granted_terms) (λ bad. cc) exchange is open_so) shows h in
        record {
          lease = r.lease;
          still = r.still;
          same = r.same;
          asking = r.asking;
          acknowledged = λ o now. inl (record {
            terms = granted_terms;
            good = record { is_open = now; grants = said_in_it exchange (answer.Ack granted_terms) is o (open_so o now) };
          });
        }

    answers_on : (exchange : Exchange4) (k : ℕ) (from : Origin4) (stands : Option Terms4) (state : State4) (said : Answer4)
        → reply_in settings arrival exchange ≡ said
        → Asks exchange k (shows e.moment first (seen_in site past)).current
        → IfSome stands (λ old. Reboots site past exchange kept old × IfSome first (AsksAgain exchange.xid exchange.address))
        → (NoNak → AfterInput (rests turn state)) → AfterInput (answered turn exchange.xid from stands state said)
    answers_on exchange k from stands state (answer.Ack terms) is asks h on =
        gated AfterInput turn.site.flags.noarp _ _ (λ shows. tt)
        (λ shows. if_map (λ old. Reboots site past exchange kept old × IfSome first (AsksAgain exchange.xid exchange.address))
        (Checks site (e ∷ past) exchange.xid kept) stands
        (λ old r. acked exchange terms old is (open_is exchange k asks shows) shows r) h)
    answers_on exchange k from stands state answer.Nak is asks h on = λ shows. tt
    answers_on exchange k from stands state answer.Nothing is asks h on =
        λ shows. on (not_nak answer.Nothing (λ bad. cc) exchange is (open_is exchange k asks shows)) shows
    answers_on exchange k from stands state (answer.Offer address server) is asks h on =
        λ shows. on (not_nak (answer.Offer address server) (λ bad. cc) exchange is (open_is exchange k asks shows)) shows

    offers_on : (xid secs : ℕ) (state : State4) (said : Answer4) → AfterInput (rests turn state) → AfterInput (offered turn xid secs state said)
    offers_on xid secs state answer.Nothing on = on
    offers_on xid secs state (answer.Offer address server) on = λ shows. tt
    offers_on xid secs state (answer.Ack terms) on = on
    offers_on xid secs state answer.Nak on = on

    renews_on : (xid : ℕ) (told : News4) (acd : Option Acd) (state : State4) (said : Answer4) → AfterInput (rests turn state)
        → AfterInput (renewed turn xid told acd state said)
    renews_on xid told acd state (answer.Ack terms) on = λ shows. tt
    renews_on xid told acd state answer.Nak on = λ shows. tt
    renews_on xid told acd state answer.Nothing on = on
    renews_on xid told acd state (answer.Offer address server) on = on

    pub heard_on : (K : Terms4 → Type 0) (k : ℕ) (grant : Option Grant) (state : State4) → On K state (shows e.moment first (seen_in site past)).current k grant
        → StandsMid site past first state kept → AfterInput (heard_row turn (answer_of settings arrival state) state)
    heard_on K k grant Off on h = λ shows. tt
    heard_on K k grant (Init due) on h = λ shows. tt
    heard_on K k grant (Selecting xid began secs backoff due) on h =
        offers_on xid secs (Selecting xid began secs backoff due) (offer_by settings arrival (answering settings xid arrival)) (λ shows. tt)
    heard_on K k grant (Requesting exchange secs backoff due) on h =
        answers_on exchange k origin.Offered None (Requesting exchange secs backoff due) (reply_in settings arrival exchange) refl on tt (λ none shows. tt)
    heard_on K k grant (Rebooting exchange backoff end due stands) on h =
        answers_on exchange k origin.Rebooted stands (Rebooting exchange backoff end due stands) (reply_in settings arrival exchange) refl on.0 h
        (λ none. rests_on turn (Rebooting exchange backoff end due stands) none h)
    heard_on K k grant (Checking xid terms from acd stands) on h =
        λ shows. if_map (λ old. Checks site past xid kept old × (first ≡ None)) (Checks site (e ∷ past) xid kept) stands (λ old r. checks_on xid old shows r) h
    heard_on K k grant (Waiting due) on h = λ shows. tt
    heard_on K k grant (Bound xid terms acd) on h = λ shows. tt
    heard_on K k grant (Renewing exchange terms acd due) on h =
        renews_on exchange.xid news.Renew acd (Renewing exchange terms acd due) (reply_in settings arrival exchange) (λ shows. tt)
    heard_on K k grant (Rebinding exchange terms acd due) on h =
        renews_on exchange.xid news.Rebind acd (Rebinding exchange terms acd due) (reply_in settings arrival exchange) (λ shows. tt)

  -- ---- a packet

  module _ (turn : Turn4) (none : NoNak) where
    checks_heard : (xid : ℕ) (terms : Terms4) (from : Origin4) (acd : Acd) (stands : Option Terms4) (says : AcdSays)
        → StandsMid site past first (Checking xid terms from acd stands) kept
        → AfterInput (checked turn xid terms from acd stands says)
    checks_heard xid terms from acd stands Quiet h = rests_on turn (Checking xid terms from acd stands) none h
    checks_heard xid terms from acd stands SayProbe h = rests_on turn (Checking xid terms from acd stands) none h
    checks_heard xid terms from acd stands SayAnnounce h = rests_on turn (Checking xid terms from acd stands) none h
    checks_heard xid terms from acd stands Passed h = λ shows. tt
    checks_heard xid terms from acd stands Conflict h = λ shows. tt
    checks_heard xid terms from acd stands GivenUp h = rests_on turn (Checking xid terms from acd stands) none h

    defends_on : (xid : ℕ) (terms : Terms4) (state : State4) (says : AcdSays) → StandsIn site (e ∷ past) state kept
        → AfterInput (defended turn xid terms state says)
    defends_on xid terms state Quiet on = λ shows. on
    defends_on xid terms state SayProbe on = λ shows. on
    defends_on xid terms state SayAnnounce on = λ shows. on
    defends_on xid terms state Passed on = λ shows. on
    defends_on xid terms state Conflict on = λ shows. on
    defends_on xid terms state GivenUp on = λ shows. tt

    contests_on : (own : List Mac) (arp : ArpView) (xid : ℕ) (terms : Terms4) (state : State4) (acd : Option Acd)
        → ((acd : Acd) → StandsIn site (e ∷ past) (with_acd state acd) kept)
        → StandsIn site (e ∷ past) state kept → AfterInput (contested own turn arp xid terms state acd)
    contests_on own arp xid terms state None with_on on = λ shows. on
    contests_on own arp xid terms state (Some acd) with_on on =
        defends_on xid terms (with_acd state (detection.acd_hears own acd arp turn.at).acd) (detection.acd_hears own acd arp turn.at).says
        (with_on (detection.acd_hears own acd arp turn.at).acd)

    pub arp_on : (own : List Mac) (arp : ArpView) (state : State4) → StandsMid site past first state kept → AfterInput (arp_row own turn arp state)
    arp_on own arp Off h = λ shows. tt
    arp_on own arp (Init due) h = λ shows. tt
    arp_on own arp (Selecting xid began secs backoff due) h = λ shows. tt
    arp_on own arp (Requesting exchange secs backoff due) h = λ shows. tt
    arp_on own arp (Rebooting exchange backoff end due stands) h = rests_on turn (Rebooting exchange backoff end due stands) none h
    arp_on own arp (Checking xid terms from acd stands) h =
        checks_again (detection.acd_hears own acd arp turn.at).acd (detection.acd_hears own acd arp turn.at).says
      where
        checks_again : (next : Acd) (says : AcdSays) → AfterInput (checked turn xid terms from next stands says)
        checks_again next says = checks_heard xid terms from next stands says h
    arp_on own arp (Waiting due) h = λ shows. tt
    arp_on own arp (Bound xid terms acd) h = contests_on own arp xid terms (Bound xid terms acd) acd (λ next. tt) tt
    arp_on own arp (Renewing exchange terms acd due) h = contests_on own arp exchange.xid terms (Renewing exchange terms acd due) acd (λ next. tt) tt
    arp_on own arp (Rebinding exchange terms acd due) h = contests_on own arp exchange.xid terms (Rebinding exchange terms acd due) acd (λ next. tt) tt

    -- ---- the client begins

    abbrev test_of : Bool → Bool → Bool → Bool
    test_of wished may told = wished && may && told

    -- the first message of all
    starts : (lease : LeaseContent) → turn.site.flags.persistent ≡ site.managed.conf.flags.persistent → has_carrier site (e ∷ past) ≡ true
        → MayStand site past Off (Some lease) → first ≡ None
        → turn.site.flags.persistent ≡ true → is_some lease.origin ≡ true
        → ShowsBoth site e past first (Some (sent_of (request turn.site (new_exchange turn lease.net.ip) 0)))
        → Reboots site (e ∷ past) (new_exchange turn lease.net.ip) (Some lease) (terms_of lease)
    starts lease flag up m silent wished told shows = record {
      lease = lease;
      still = refl;
      same = refl;
      address = refl;
      server = refl;
      asking = record {
        persistent = sym flag ∙ wished;
        filed = sym m.still;
        told = told;
        up = up;
        stays = (shows.stays, m.stays);
        asks = (
          shows.alone (new_exchange turn lease.net.ip).xid lease.net.ip
              (subst (λ (f : Option Sent4). IfSome f (AsksAgain (new_exchange turn lease.net.ip).xid lease.net.ip)) (sym silent) tt)
              (record { kind = refl; same_xid = refl; names = refl; no_server = refl; none_yet = refl }),
          all_silent site (new_exchange turn lease.net.ip).xid lease.net.ip past m.silent,
        );
        asked = ap (λ (s : Bool). s || list_any (speaks site) past) (shows.speaks_so ∙ or_later (is_some first) true refl);
        unrefused = (λ o nak. absurd (none o nak), m.unrefused);
      };
    }

    both_true : (a b c : Bool) → (a && b && c) ≡ true → (a ≡ true) × (b ≡ true) × (c ≡ true)
    both_true true true true h = (refl, refl, refl)
    both_true true true false h = absurd cc
    both_true true false c h = absurd cc
    both_true false b c h = absurd cc

    stood_if : (may : Bool) (terms : Terms4) (P : Terms4 → Type 0)
        → ((turn.site.flags.persistent ≡ true) × (may ≡ true) × (is_some terms.origin ≡ true) → P terms) → IfSome (stood turn may terms) P
    stood_if may terms P f = by (turn.site.flags.persistent && may && is_some terms.origin) refl
      where
        by : (test : Bool) → (turn.site.flags.persistent && may && is_some terms.origin) ≡ test → IfSome (if test then Some terms else None) P
        by true is = f (both_true turn.site.flags.persistent may (is_some terms.origin) is)
        by false is = tt

  module _ (turn : Turn4) (none : NoNak) (flag : turn.site.flags.persistent ≡ site.managed.conf.flags.persistent)
      (up : has_carrier site (e ∷ past) ≡ true) where
    kept_off : (state : State4) (other : Option LeaseContent) → kept ≡ other → MayStand site past state kept → MayStand site past Off other
    kept_off state other same m =
        record {
          off = refl;
          still = sym same ∙ m.still;
          typed = subst (λ (k : Option LeaseContent). IfSome k IsTyped) same m.typed;
          silent = m.silent;
          none_open = m.none_open;
          stays = m.stays;
          unrefused = m.unrefused;
        }

    begun_on : (may : Bool) → (may ≡ true → MayStand site past Off kept × (first ≡ None)) → (filed : Option LeaseContent) → kept ≡ filed
        → AfterInput (begins turn may (option_map terms_of filed))
    begun_on may before None is = λ shows. tt
    begun_on may before (Some lease) is =
        gated (λ (step : Step4). AfterInput (record step { spends = true })) (is_due (expiry (terms_of lease)) turn.at || eqb turn.site.times.reboot 0) _ _
        (λ shows. tt)
        (λ shows. stood_if turn none may (terms_of lease) (Reboots site (e ∷ past) (new_exchange turn lease.net.ip) kept)
        (λ h.
        let m = before h.1 in
        subst (λ (k : Option LeaseContent). Reboots site (e ∷ past) (new_exchange turn lease.net.ip) k (terms_of lease)) (sym is)
        (starts turn none lease flag up (kept_off Off (Some lease) is m.0) m.1 h.0 h.2 shows)))

    pub begin_on : (may : Bool) (state : State4) → StandsMid site past first state kept → (may ≡ true → MayStand site past state kept × (first ≡ None))
        → AfterInput (begin_row turn may (option_map terms_of kept) state)
    begin_on may Off h before = begun_on may before kept refl
    begin_on may (Init due) h before = λ shows. tt
    begin_on may (Selecting xid began secs backoff due) h before = λ shows. tt
    begin_on may (Requesting exchange secs backoff due) h before = λ shows. tt
    begin_on may (Rebooting exchange backoff end due stands) h before = rests_on turn (Rebooting exchange backoff end due stands) none h
    begin_on may (Checking xid terms from acd stands) h before = rests_on turn (Checking xid terms from acd stands) none h
    begin_on may (Waiting due) h before = λ shows. tt
    begin_on may (Bound xid terms acd) h before = λ shows. tt
    begin_on may (Renewing exchange terms acd due) h before = λ shows. tt
    begin_on may (Rebinding exchange terms acd due) h before = λ shows. tt

    pub rebind_on : (state : State4) → StandsMid site past first state kept → AfterInput (rebind_row turn (option_map terms_of kept) state)
    rebind_on Off h = begun_on false (λ no. absurd cc) kept refl
    rebind_on (Init due) h = λ shows. tt
    rebind_on (Selecting xid began secs backoff due) h = λ shows. tt
    rebind_on (Requesting exchange secs backoff due) h = λ shows. tt
    rebind_on (Rebooting exchange backoff end due stands) h = rests_on turn (Rebooting exchange backoff end due stands) none h
    rebind_on (Checking xid terms from acd stands) h = rests_on turn (Checking xid terms from acd stands) none h
    rebind_on (Waiting due) h = λ shows. tt
    rebind_on (Bound xid terms acd) h = λ shows. tt
    rebind_on (Renewing exchange terms acd due) h = λ shows. tt
    rebind_on (Rebinding exchange terms acd due) h = λ shows. tt

  -- ---- a client that may still stand

  -- it goes on so where nothing is done
  may_on : (turn : Turn4) (state : State4) (two : Step4) → two ≡ rests turn Off → ShowsBoth site e past first (message_in two)
      → MayStand site past state kept × (first ≡ None)
      → MayStand site (e ∷ past) two.state (kept_after two.keep name fresh kept)
  may_on turn state two rested shows m =
      subst (λ (step : Step4). ShowsBoth site e past first (message_in step) → MayStand site (e ∷ past) step.state (kept_after step.keep name fresh kept))
      (sym rested)
      (λ both.
      let same : seen_in site (e ∷ past) ≡ seen_in site past = same_open m.1 both in
      let closed : (seen_in site (e ∷ past)).current ≡ None = ap (λ (s : Seen). s.current) same ∙ m.0.none_open in
      record {
        off = refl;
        still = m.0.still;
        typed = m.0.typed;
        silent = (both.speaks_so ∙ ap (λ (f : Option Sent4). is_some f || false) m.1, m.0.silent);
        none_open = closed;
        stays = (both.stays, m.0.stays);
        unrefused = (λ o nak. absurd (none_some o (sym closed ∙ nak.is_open)), m.0.unrefused);
      }) shows

  -- after the input: `row` is what comes of a state, and nothing comes of a client that is off
  pub input_stands : (turn : Turn4) (row : State4 → Step4) → row Off ≡ rests turn Off → (may : Bool) (state : State4)
      → StandsAmid site past first may state kept
      → AfterInput (row state) → ShowsBoth site e past first (message_in (row state))
      → Stands site (e ∷ past) (if (row state).spends then false else may) (row state).state (kept_after (row state).keep name fresh kept)
  input_stands turn row quiet may state h on shows = record {
    may_stand = λ is.
        let m = h.may_stand (may_before (row state).spends may is) in
        may_on turn state (row state) (ap row m.0.off ∙ quiet) shows m;
    stands = on shows;
  }

  -- where the chance is spent
  pub spent_stands : (two : Step4) (may : Bool) → two.spends ≡ true → StandsIn site (e ∷ past) two.state (kept_after two.keep name fresh kept)
      → Stands site (e ∷ past) (if two.spends then false else may) two.state (kept_after two.keep name fresh kept)
  spent_stands two may spent on = record { may_stand = λ is. absurd (never two.spends spent is); stands = on }
    where
      never : (spends : Bool) → spends ≡ true → (if spends then false else may) ≡ true → ⊥
      never true s is = cc
      never false s is = cc

  -- or the row either spends it or is as of a client that doesn't begin
  pub begin_stands : (turn : Turn4) (row : State4 → Step4) → (row Off).spends ≡ true → (may : Bool) (state : State4) → StandsAmid site past first may state kept
      → AfterInput (row state) → ShowsBoth site e past first (message_in (row state))
      → Stands site (e ∷ past) (if (row state).spends then false else may) (row state).state (kept_after (row state).keep name fresh kept)
  begin_stands turn row spends may state h on shows = record {
    may_stand = λ is.
        let m = h.may_stand (may_before (row state).spends may is) in
        absurd (never (row state).spends (ap (λ (s : State4). (row s).spends) m.0.off ∙ spends) is);
    stands = on shows;
  }
    where
      never : (spent : Bool) → spent ≡ true → (if spent then false else may) ≡ true → ⊥
      never true s is = cc
      never false s is = cc

-- a client that is off after a stop
pub stopped_stands : (site : Site) (e : Entry) (past : List Entry) (first : Option Sent4) (may : Bool) (state : State4) (kept : Option LeaseContent)
    → StandsAmid site past first may state kept → state ≡ Off → is_stopped past ≡ true → Stands site (e ∷ past) may state kept
stopped_stands site e past first may state kept h off stopped = record {
  may_stand = λ is.
      let m = h.may_stand is in
      absurd (let bad : false ≡ true = sym (never_stopped site past m.0.stays) ∙ stopped in cc);
  stands = subst (λ (s : State4). StandsIn site (e ∷ past) s kept) (sym off) tt;
}
