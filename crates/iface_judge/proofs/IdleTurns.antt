-- A turn that doesn't concern an interface brings nothing there: no input, no frame of its own.
use Rattle.std.proofs.Common.{◌≡◌, ℕ, Bool, true, false, not, ◌&&◌, ◌||◌, cond, if◌then◌else◌, List, [], ◌∷◌, map, Option, None, option_map, refl, ap, ◌∙◌}
use Rattle.std.specs.Prelude.{◌==◌, filter}
use Rattle.std.specs.List.{list_any}
use Rattle.net_types.specs.declared.address.Ip4.{Ip4}
use Rattle.net_types.specs.declared.address.Ip6.{Ip6}
use Rattle.frame_link.specs.declared.arp.ArpView.{ArpView}
use Rattle.v6_options.specs.declared.ia.IaKind.{IaKind}
use Rattle.v6_options.specs.declared.ia.IaKind.TheVariants.{Na, Pd}
use Rattle.v4_frames.specs.Heard.{HeardMessage, heard4_in}
use Rattle.v6_frames.specs.Heard.{HeardMessage6, heard6_in}
use Rattle.world.specs.declared.wakes.Event.{Event}
use Rattle.world.specs.declared.wakes.Event.TheVariants.{Frame, Carrier, Duplicate, Release, Rebind, Stop, Quiet, End}
use Rattle.evidence_words.specs.ClientModel.Dhcp4Steps.{arrival_at}
use Rattle.evidence_words.specs.ClientModel.IfaceTurns.{arp_heard}
use Rattle.evidence_words.specs.Entries.{Entry, Offer}
use Rattle.evidence_words.specs.Inputs.{Site, arp_on, carrier_after, contests, index_at, is_stop, offers_at, tells_contest, tells_use, uses}
use Rattle.evidence_words.specs.Probed.{probe_taken}
use Rattle.share_judge.specs.LeaseEvidence.Replies.{arrival_in, message_on}
use Rattle.share_judge.specs.LeaseEvidence.Exchanges.{message_of, messages_at}
use Rattle.item_judge.specs.Lease6Evidence.Exchanges6.{message6_of, messages6_at}
use Rattle.item_judge.specs.Lease6Evidence.Replies6.{message6_at, message6_on}
use Rattle.static_judge.specs.ProbeTables.ProbeTimes.{TurnTest, probe_turn, times_in}
use Rattle.static_judge.proofs.ProbeTables.Standing.{all_kept}
use Rattle.lease_judge.specs.LocalJudges.Choices.{goes_on}
use Rattle.lease_judge.specs.Judge as lease
use Rattle.item_judge.specs.Lease6Judge.Terms as items
use Rattle.share_judge.specs.KeptJudge.Staying as kept
use Rattle.audit_seats.specs.Concern.{concerns, is_input, is_offered}

pub neither : (a b : Bool) → (a || b) ≡ false → (a ≡ false) × (b ≡ false)
neither true b none = absurd cc
neither false b none = (refl, none)

none_kept : {X : Type 0} (test : X → Bool) (xs : List X) → list_any test xs ≡ false → filter test xs ≡ []
none_kept test [] none = refl
none_kept test (x ∷ xs) none =
    let p = neither (test x) (list_any test xs) none in
    ap (λ (b : Bool). cond b (x ∷ filter test xs) (filter test xs)) p.0 ∙ none_kept test xs p.1

or_true : (a : Bool) → (a || true) ≡ true
or_true true = refl
or_true false = refl

-- ---- inputs

pub carrier_kept : (index : ℕ) (event : Event) (before : Bool) → is_input index event ≡ false → carrier_after index event before ≡ before
carrier_kept index (Frame other len) before none = refl
carrier_kept index (Carrier other up) before none = ap (λ (b : Bool). if b then up else before) none
carrier_kept index (Duplicate other addr) before none = refl
carrier_kept index (Release other) before none = refl
carrier_kept index (Rebind other) before none = refl
carrier_kept index Stop before none = refl
carrier_kept index Quiet before none = refl
carrier_kept index End before none = refl

pub no_stop : (index : ℕ) (event : Event) → is_input index event ≡ false → is_stop event ≡ false
no_stop index (Frame other len) none = refl
no_stop index (Carrier other up) none = refl
no_stop index (Duplicate other addr) none = refl
no_stop index (Release other) none = refl
no_stop index (Rebind other) none = refl
no_stop index Stop none = none
no_stop index Quiet none = refl
no_stop index End none = refl

pub local_goes_on : (up : Bool) (index : ℕ) (event : Event) → is_input index event ≡ false → goes_on up index event ≡ true
local_goes_on up index (Frame other len) none = refl
local_goes_on up index (Carrier other now) none = ap (λ (b : Bool). not b || not up || now) none
local_goes_on up index (Duplicate other addr) none = refl
local_goes_on up index (Release other) none = ap not none
local_goes_on up index (Rebind other) none = refl
local_goes_on up index Stop none = absurd cc
local_goes_on up index Quiet none = refl
local_goes_on up index End none = refl

pub lease_stays : (up : Bool) (index : ℕ) (event : Event) → is_input index event ≡ false → lease.stays up index event ≡ true
lease_stays up index (Frame other len) none = refl
lease_stays up index (Carrier other now) none = ap (λ (b : Bool). not (b && up) || now) none
lease_stays up index (Duplicate other addr) none = refl
lease_stays up index (Release other) none = ap not none
lease_stays up index (Rebind other) none = refl
lease_stays up index Stop none = absurd cc
lease_stays up index Quiet none = refl
lease_stays up index End none = refl

pub items_stay : (up : Bool) (index : ℕ) (event : Event) → is_input index event ≡ false → items.stays up index event ≡ true
items_stay up index (Frame other len) none = refl
items_stay up index (Carrier other now) none = ap (λ (b : Bool). not (b && up) || now) none
items_stay up index (Duplicate other addr) none = refl
items_stay up index (Release other) none = ap not none
items_stay up index (Rebind other) none = refl
items_stay up index Stop none = absurd cc
items_stay up index Quiet none = refl
items_stay up index End none = refl

pub kept_stays : (up : Bool) (index : ℕ) (event : Event) → is_input index event ≡ false → kept.stays up index event ≡ true
kept_stays up index (Frame other len) none = refl
kept_stays up index (Carrier other now) none = ap (λ (b : Bool). now || not (b && up)) none ∙ or_true now
kept_stays up index (Duplicate other addr) none = refl
kept_stays up index (Release other) none = ap not none
kept_stays up index (Rebind other) none = refl
kept_stays up index Stop none = absurd cc
kept_stays up index Quiet none = refl
kept_stays up index End none = refl

pub alone : (index : ℕ) (kind : IaKind) (ip : Ip6) (event : Event) → is_input index event ≡ false → items.is_alone index kind ip event ≡ true
alone index Na ip (Frame other len) none = refl
alone index Na ip (Carrier other up) none = refl
alone index Na ip (Duplicate other addr) none = ap (λ (b : Bool). not (b && (addr.number == ip.number))) none
alone index Na ip (Release other) none = refl
alone index Na ip (Rebind other) none = refl
alone index Na ip Stop none = refl
alone index Na ip Quiet none = refl
alone index Na ip End none = refl
alone index Pd ip event none = refl

if_none : {X : Type 0} (b : Bool) (x : Option X) → b ≡ false → (if b then x else None) ≡ None
if_none true x none = absurd cc
if_none false x none = refl

no_arp : (index : ℕ) (event : Event) (bytes : List ℕ) → is_input index event ≡ false → arp_on index event bytes ≡ None
no_arp index (Frame other len) bytes none = if_none (index == other) (arp_heard bytes) none
no_arp index (Carrier other up) bytes none = refl
no_arp index (Duplicate other addr) bytes none = refl
no_arp index (Release other) bytes none = refl
no_arp index (Rebind other) bytes none = refl
no_arp index Stop bytes none = refl
no_arp index Quiet bytes none = refl
no_arp index End bytes none = refl

no_message4 : (site : Site) (event : Event) (bytes : List ℕ) → is_input (index_at site) event ≡ false → message_on site event bytes ≡ None
no_message4 site (Frame other len) bytes none = if_none (index_at site == other) (heard4_in site.managed.spec.mac bytes) none
no_message4 site (Carrier other up) bytes none = refl
no_message4 site (Duplicate other addr) bytes none = refl
no_message4 site (Release other) bytes none = refl
no_message4 site (Rebind other) bytes none = refl
no_message4 site Stop bytes none = refl
no_message4 site Quiet bytes none = refl
no_message4 site End bytes none = refl

no_message6 : (site : Site) (event : Event) (bytes : List ℕ) → is_input (index_at site) event ≡ false → message6_on site event bytes ≡ None
no_message6 site (Frame other len) bytes none = if_none (index_at site == other) (heard6_in site.managed.spec.mac bytes) none
no_message6 site (Carrier other up) bytes none = refl
no_message6 site (Duplicate other addr) bytes none = refl
no_message6 site (Release other) bytes none = refl
no_message6 site (Rebind other) bytes none = refl
no_message6 site Stop bytes none = refl
no_message6 site Quiet bytes none = refl
no_message6 site End bytes none = refl

-- ---- the turn

module _ (site : Site) (e : Entry) (idle : concerns (index_at site) e ≡ false) where
  pub no_input : is_input (index_at site) e.event ≡ false
  no_input = (neither (is_input (index_at site) e.event) (is_offered (index_at site) e.offers) idle).0

  pub no_offers : offers_at site e ≡ []
  no_offers =
      none_kept (λ o. o.iface == index_at site) e.offers (neither (is_input (index_at site) e.event) (is_offered (index_at site) e.offers) idle).1

  pub not_used : (addr : Ip4) → uses site addr e ≡ false
  not_used addr = ap (λ (arp : Option ArpView). tells_use site.own addr arp) (no_arp (index_at site) e.event e.bytes no_input)

  pub not_contested : (addr : Ip4) → contests site addr e ≡ false
  not_contested addr = ap (λ (arp : Option ArpView). tells_contest site.own addr arp) (no_arp (index_at site) e.event e.bytes no_input)

  pub not_probed : (addr : Ip4) → probe_taken site addr (offers_at site e) ≡ false
  not_probed addr = ap (λ (offers : List Offer). probe_taken site addr offers) no_offers

  pub no_messages4 : messages_at site e ≡ []
  no_messages4 = ap (λ (offers : List Offer). map (message_of site) offers) no_offers

  pub no_arrival : arrival_in site e ≡ None
  no_arrival = ap (λ (heard : Option HeardMessage). option_map (arrival_at e.moment) heard) (no_message4 site e.event e.bytes no_input)

  pub no_messages6 : messages6_at site e ≡ []
  no_messages6 = ap (λ (offers : List Offer). map (message6_of site) offers) no_offers

  pub none_came6 : message6_at site e ≡ None
  none_came6 = ap (λ (heard : Option HeardMessage6). option_map (λ h. h.message) heard) (no_message6 site e.event e.bytes no_input)

  -- how far an address was probed stays, where the turn is calm
  pub times_kept : (calm : TurnTest) (past : List Entry) → calm e past ≡ true → (addr : Ip4)
      → times_in calm site addr (e ∷ past) ≡ times_in calm site addr past
  times_kept calm past is addr = all_kept (probe_turn calm site addr e past) (not_contested addr) is (not_probed addr) (times_in calm site addr past)
