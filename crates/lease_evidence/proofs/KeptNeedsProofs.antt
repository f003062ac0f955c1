-- What the basis of a kept lease can't do without.
use Rattle.std.proofs.Common.{◌≡◌, ◌≢◌, ℕ, ◌||◌, Bool, true, false, List, [], ◌∷◌, ◌++◌, map, Option, Some, None, IfSome, inl, inr, refl, sym, ap, subst, ◌∙◌}
use Rattle.std.proofs.lemmas.List.Elements.{All-contains, All-from_recursion}
use Rattle.std.specs.List.{AllByRecursion, Contains, list_any}
use Rattle.std.specs.Option.{is_some}
use Rattle.machine.specs.Since.{Always}
use Rattle.net_types.specs.declared.address.Ip4.{Ip4}
use Rattle.net_types.specs.declared.address.Net.{Net}
use Rattle.net_types.specs.declared.address.Net.TheVariants.{V4}
use Rattle.lease_text.specs.declared.lease.Origin.{Origin}
use Rattle.lease_text.specs.declared.lease.TheConstants.{INFINITE_LEASE}
use Rattle.lease_text.specs.Leases.{LeaseContent}
use Rattle.v4_message.specs.declared.writing.Kind4.{Kind4}
use Rattle.v4_message.specs.declared.writing.Kind4.TheVariants.{Request}
use Rattle.v4_frames.specs.declared.sent.Sent4.{Sent4}
use Rattle.evidence_words.specs.Entries.{Entry, Offer}
use Rattle.evidence_words.specs.IfaceLives.{now_in, shown, site_of}
use Rattle.evidence_words.specs.Inputs.{Site, StaysOn, offers_at}
use Rattle.lease_evidence.specs.Endings.{LosesCarrier, IsGivenBack, IsToldToStop, IsRefused, Says}
use Rattle.lease_evidence.specs.Exchanges.{Numbered, message_of}
use Rattle.lease_evidence.specs.HeldLeases.{IsAsGranted, IsPlain4, PlainLeasesAreAsGranted, PlainLeasesAreGranted}
use Rattle.lease_evidence.specs.KeptBasis4.{AsksAgain, AsksAlone, IsAcknowledged, IsUnrefused, KeptBasis4, Sometime, speaks}
use Rattle.lease_evidence.specs.KeptNeeds.{KeptGivesNothing, NeedsFlag, HasNoOrigin, NeedsOrigin, NeedsItsAddress, EndsWithKept, KeptEndsBy, SaysElse, NamesServer, NeedsOneExchange, NeedsAsking}
use Rattle.lease_evidence.specs.LeaseBasis.{GrantsNothing}
use Rattle.lease_evidence.proofs.Cutting.{always_cut}
use Rattle.lease_evidence.proofs.EndingProofs.{lost_goes, given_goes, stop_goes}
use Rattle.lease_evidence.proofs.HeldRuns.{held_leases_rest}
use Rattle.lease_evidence.proofs.LawProofs.{lasts_not}
use Rattle.lease_evidence.proofs.Leases.{Rests}

differ : (b : Bool) → b ≡ true → b ≡ false → ⊥
differ true t f = absurd cc
differ false t f = absurd cc

-- ---- the settings and the lease

pub needs_flag : NeedsFlag
needs_flag site net now past off basis = differ site.managed.conf.flags.persistent basis.persistent off

-- what is so of the lease that was kept is so of that of the basis
of_kept : (P : LeaseContent → Type 0) (kept : Option LeaseContent) (lease : LeaseContent) → kept ≡ Some lease → IfSome kept P → P lease
of_kept P kept lease is h = subst (λ (k : Option LeaseContent). IfSome k P) is h

no_origin : (origin : Option Origin) → is_some origin ≡ true → origin ≡ None → ⊥
no_origin None told none = cc
no_origin (Some origin) told none = cc

pub needs_origin : NeedsOrigin
needs_origin site net now past none basis =
    no_origin basis.lease.origin basis.told (of_kept (λ lease. lease.origin ≡ None) site.kept4 basis.lease basis.kept none)

pub needs_its_address : NeedsItsAddress
needs_its_address site net now past other basis = of_kept (λ lease. net ≢ V4 lease.net) site.kept4 basis.lease basis.kept other basis.gives

pub ends_with_kept : EndsWithKept
ends_with_kept site net now past over basis =
    let it = of_kept _ site.kept4 basis.lease basis.kept over in
    lasts_not basis.lease.first basis.lease.lease now it.0 it.1 basis.unexpired

pub plain_leases : PlainLeasesAreGranted
plain_leases site net now past plain (inl granted) = granted
plain_leases site net now past (inl off) (inr kept) = absurd (needs_flag site net now past off kept)
plain_leases site net now past (inr none) (inr kept) = absurd (needs_origin site net now past none kept)

as_granted : (site : Site) (lease : LeaseContent) (past : List Entry) → IsPlain4 site → Rests site lease past → IsAsGranted site lease (now_in past) past
as_granted site lease past plain (inl granted) = granted
as_granted site lease past (inl off) (inr kept) = absurd (needs_flag site (V4 lease.net) (now_in past) past off kept)
as_granted site lease past (inr none) (inr kept) = absurd (needs_origin site (V4 lease.net) (now_in past) past none kept)

pub plain_leases_as_granted : PlainLeasesAreAsGranted
plain_leases_as_granted own beginning opening mets lease fits typed lived plain held =
    as_granted (site_of own beginning opening) lease (shown opening mets) plain (held_leases_rest own beginning opening mets lease fits typed lived held)

-- ---- the carrier, a release and a stop

stays_there : (site : Site) (net : Net) (now : ℕ) (later : List Entry) (e : Entry) (earlier : List Entry) → KeptBasis4 site net now (later ++ e ∷ earlier)
    → StaysOn site e earlier
stays_there site net now later e earlier basis = (always_cut (StaysOn site) later (e ∷ earlier) basis.stays).0

pub kept_ends_by_loss : KeptEndsBy LosesCarrier
kept_ends_by_loss site net now later e earlier loses basis = lost_goes site e earlier loses (stays_there site net now later e earlier basis)

pub kept_ends_by_release : KeptEndsBy IsGivenBack
kept_ends_by_release site net now later e earlier given basis = given_goes site e earlier given (stays_there site net now later e earlier basis)

pub kept_ends_by_stop : KeptEndsBy IsToldToStop
kept_ends_by_stop site net now later e earlier stop basis = stop_goes site e earlier stop (stays_there site net now later e earlier basis)

-- ---- what is said

all_of : {X Y : Type 0} (P : Y → Type 0) (f : X → Y) (xs : List X) → AllByRecursion P (map f xs) → AllByRecursion (λ (x : X). P (f x)) xs
all_of P f [] all = tt
all_of P f (x ∷ xs) all = (all.0, all_of P f xs all.1)

-- each message asks for the address again
asks_said : (site : Site) (kind : Kind4) (xid : ℕ) (address : Ip4) (e : Entry) (earlier : List Entry) → AsksAlone site xid address e earlier
    → (says : Says kind site e earlier)
    → AsksAgain xid address says.sent
asks_said site kind xid address e earlier alone says =
    let Asks : Option Sent4 → Type 0 = λ (message : Option Sent4). IfSome message (AsksAgain xid address) in
    subst Asks says.spells
    (All-contains (λ (o : Offer). Asks (message_of site o)) (offers_at site e) says.offer
    (All-from_recursion (λ (o : Offer). Asks (message_of site o)) (offers_at site e) (all_of Asks (message_of site) (offers_at site e) alone)) says.among)

module _ (site : Site) (net : Net) (now : ℕ) (later : List Entry) (e : Entry) (earlier : List Entry)
    (basis : KeptBasis4 site net now (later ++ e ∷ earlier)) where
  asks_there : (kind : Kind4) (says : Says kind site e earlier) → AsksAgain basis.xid basis.lease.net.ip says.sent
  asks_there kind says =
      asks_said site kind basis.xid basis.lease.net.ip e earlier
      (always_cut (AsksAlone site basis.xid basis.lease.net.ip) later (e ∷ earlier) basis.asks).0 says

  asks_before : (before : List Entry) (f : Entry) (rest : List Entry) → earlier ≡ before ++ f ∷ rest → (says : Says Request site f rest)
      → AsksAgain basis.xid basis.lease.net.ip says.sent
  asks_before before f rest cut says =
      let there : Always (AsksAlone site basis.xid basis.lease.net.ip) earlier =
      (always_cut (AsksAlone site basis.xid basis.lease.net.ip) later (e ∷ earlier) basis.asks).1 in
      asks_said site Request basis.xid basis.lease.net.ip f rest
      (always_cut (AsksAlone site basis.xid basis.lease.net.ip) before (f ∷ rest)
      (subst (λ (turns : List Entry). Always (AsksAlone site basis.xid basis.lease.net.ip) turns) cut there)).0 says

pub kept_ends_by_saying : KeptEndsBy SaysElse
kept_ends_by_saying site net now later e earlier said basis =
    said.other (sym said.says.is_kind ∙ (asks_there site net now later e earlier basis said.kind said.says).kind)

pub kept_ends_by_server : KeptEndsBy NamesServer
kept_ends_by_server site net now later e earlier named basis = named.server (asks_there site net now later e earlier basis Request named.request).no_server

pub needs_one_exchange : NeedsOneExchange
needs_one_exchange site net now later e earlier last before f rest cut first apart basis =
    apart
    ((asks_before site net now later e earlier basis before f rest cut first).same_xid
    ∙ sym (asks_there site net now later e earlier basis Request last).same_xid)

none_spoke : (site : Site) (past : List Entry) → Always (λ e earlier. speaks site e ≡ false) past → list_any (speaks site) past ≡ false
none_spoke site [] h = refl
none_spoke site (e ∷ past) h = ap (λ (said : Bool). said || list_any (speaks site) past) h.0 ∙ none_spoke site past h.1

pub needs_asking : NeedsAsking
needs_asking site net now past silent basis = differ (list_any (speaks site) past) basis.asked (none_spoke site past silent)

-- ---- what is heard

none_acknowledged : (site : Site) (refused : Numbered) (past : List Entry) → Always (GrantsNothing site refused) past
    → Sometime (IsAcknowledged site refused) past → ⊥
none_acknowledged site refused [] none some = absurd some
none_acknowledged site refused (e ∷ past) none some =
    elim some [ inl here ↦ none.0 here.terms here.good | inr before ↦ none_acknowledged site refused past none.1 before.1 ]

pub kept_ends_by_nak : KeptEndsBy IsRefused
kept_ends_by_nak site net now later e earlier refused basis =
    none_acknowledged site refused.opened earlier refused.unanswered
    ((always_cut (IsUnrefused site) later (e ∷ earlier) basis.unrefused).0 refused.opened (record { is_open = refused.is_open; refuses = refused.says }))
