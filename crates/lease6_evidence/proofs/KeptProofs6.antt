-- The laws of the basis of a kept lease's items.
use Rattle.std.proofs.Common.{◌≡◌, ℕ, zero, suc, ◌+◌, ◌<◌, ◌≤◌, inl, inr, true, false, not, List, [], ◌∷◌, ◌++◌, length, get_or, Option, Some, None, IfSome, refl, sym, ◌∙◌, subst, is_some, arith}
use Rattle.std.proofs.lemmas.Bool.Decides.{nat_tests}
use Rattle.std.specs.List.{AllByRecursion, Contains, list_any}
use Rattle.machine.specs.Moment.{is_due}
use Rattle.machine.specs.Since.{Since, Always}
use Rattle.v6_frames.specs.Spelled.{Sent6}
use Rattle.lease6_text.specs.LeaseText.declared.lease.Origin.{Origin}
use Rattle.lease6_text.specs.Leases.{Lease6Content}
use Rattle.v6_client.specs.declared.times.TheConstants.{RESTART_TIME}
use Rattle.world.specs.declared.wakes.Event.{Event}
use Rattle.lease_evidence.specs.EvidenceWords.Entries.{Entry}
use Rattle.lease_evidence.specs.EvidenceWords.Inputs.{GoesOn, Site, StaysOn, has_carrier, index_at}
use Rattle.lease6_evidence.specs.Ends6.{IsReleased, IsStopped, LosesCarrier}
use Rattle.lease6_evidence.specs.Exchanges6.{messages6_at}
use Rattle.lease6_evidence.specs.HeldItems.{PlainItemsAreGiven}
use Rattle.lease6_evidence.specs.KeptBasis6.{HearsNoReply, IsRebind, RebindsAlone, SaysNone6, StartsAsking, speaks6}
use Rattle.lease6_evidence.specs.KeptNeeds6.{EndsKeptBy, IsAnswered6, NeedsFlag6, NeedsItsTime, NeedsKeptItem, NeedsLiveItem, NeedsMessage6, NeedsOneExchange, NeedsOrigin6, NeedsRebind6}
use Rattle.lease6_evidence.proofs.EndProofs.{lost_goes, opposite}
use Rattle.lease6_evidence.proofs.Granted6.{of_contained}
use Rattle.lease6_evidence.proofs.LawProofs.{never}
use Rattle.lease6_evidence.proofs.WantProofs.{at_cut}

-- ---- the settings and the lease

pub needs_flag : NeedsFlag6
needs_flag site ask net now past off basis = opposite site.managed.conf.flags.persistent basis.persistent off

untold : (origin : Option Origin) → origin ≡ None → is_some origin ≡ true → ⊥
untold None none told = cc
untold (Some origin) none told = cc

pub needs_origin : NeedsOrigin6
needs_origin site ask net now past none basis =
    untold basis.lease.origin
    (subst (λ (kept : Option Lease6Content). IfSome kept (λ lease. lease.origin ≡ None)) basis.kept none) basis.told

pub plain_are_given : PlainItemsAreGiven
plain_are_given site ia item past plain held =
    elim held.basis [
      | inl given ↦ record { ask = held.ask; asked = held.asked; kind = held.kind; iaid = held.iaid; basis = given }
      | inr kept ↦
          absurd (elim plain [
            | inl off ↦ needs_flag site held.ask item.net _ past off kept
            | inr none ↦ needs_origin site held.ask item.net _ past none kept
          ])
    ]

pub needs_kept_item : NeedsKeptItem
needs_kept_item site ask net now past without basis =
    let has = basis.item in
    without basis.lease has.item basis.kept
    (record { ia = has.ia; among = has.among; kind = has.kind; iaid = has.iaid; of_ia = has.of_ia }) has.is_item

not_live : (valid : Option ℕ) (moment now : ℕ) → valid ≡ Some moment → moment ≤ now → not (is_due valid now) ≡ true → ⊥
not_live valid moment now is come live = past_due moment now come
    (subst (λ (until : Option ℕ). not (is_due until now) ≡ true) is live)
  where
    past_due : (moment now : ℕ) → moment ≤ now → not (is_due (Some moment) now) ≡ true → ⊥
    past_due moment now come live = grind (arith, nat_tests)

pub needs_live_item : NeedsLiveItem
needs_live_item site ask net now past over basis =
    let has = basis.item in
    let come = over basis.lease has.item basis.kept
    (record { ia = has.ia; among = has.among; kind = has.kind; iaid = has.iaid; of_ia = has.of_ia }) has.is_item in
    not_live has.item.valid come.moment now come.is_moment come.come has.live

-- ---- what came

stays_at : (site : Site) (past later : List Entry) (e : Entry) (earlier : List Entry) → past ≡ later ++ e ∷ earlier
    → Always (StaysOn site) past → StaysOn site e earlier
stays_at site past later e earlier cut stays =
    at_cut (StaysOn site) later e earlier (subst (λ (turns : List Entry). Always (StaysOn site) turns) cut stays)

pub kept_ends_with_the_carrier : EndsKeptBy LosesCarrier
kept_ends_with_the_carrier site ask net now past later e earlier cut lost basis =
    lost_goes (index_at site) e.event (has_carrier site earlier) lost.before lost.after
    (stays_at site past later e earlier cut basis.stays)

pub kept_ends_with_a_release : EndsKeptBy IsReleased
kept_ends_with_a_release site ask net now past later e earlier cut told basis =
    subst (λ (event : Event). GoesOn (has_carrier site earlier) (index_at site) event) told
    (stays_at site past later e earlier cut basis.stays) refl

pub kept_ends_with_a_stop : EndsKeptBy IsStopped
kept_ends_with_a_stop site ask net now past later e earlier cut told basis =
    subst (λ (event : Event). GoesOn (has_carrier site earlier) (index_at site) event) told
    (stays_at site past later e earlier cut basis.stays)

pub kept_ends_with_a_reply : EndsKeptBy IsAnswered6
kept_ends_with_a_reply site ask net now past later e earlier cut answered basis =
    at_cut (HearsNoReply site) later e earlier
    (subst (λ (turns : List Entry). Always (HearsNoReply site) turns) cut basis.asking.unanswered)
    answered.opened answered.message answered.good

-- ---- what was said

module _ (site : Site) (now : ℕ) where
  speaks_first : (xid : ℕ) (e : Entry) (past : List Entry) → SaysNone6 site e past → StartsAsking site xid now e past → ⊥
  speaks_first xid e past none starts = opposite (speaks6 site e) starts.speaks none

  pub never_asked : (xid : ℕ) (past : List Entry) → Always (SaysNone6 site) past
      → Since (RebindsAlone site xid) (StartsAsking site xid now) past → ⊥
  never_asked xid past silent asks =
      never (RebindsAlone site xid) (StartsAsking site xid now) (SaysNone6 site) (speaks_first xid) past silent asks

  -- each message is a REBIND
  abbrev Rebinding : (xid : ℕ) → Entry → Type 0
  Rebinding xid e = AllByRecursion (λ message. IfSome message (IsRebind xid)) (messages6_at site e)

  silent_rebinds : (xid : ℕ) (messages : List (Option Sent6)) → list_any is_some messages ≡ false
      → AllByRecursion (λ message. IfSome message (IsRebind xid)) messages
  silent_rebinds xid [] none = tt
  silent_rebinds xid (None ∷ messages) none = (tt, silent_rebinds xid messages none)
  silent_rebinds xid (Some sent ∷ messages) none = absurd cc

  all_silent : (xid : ℕ) (past : List Entry) → Always (SaysNone6 site) past → Always (λ e earlier. Rebinding xid e) past
  all_silent xid [] silent = tt
  all_silent xid (e ∷ past) silent = (silent_rebinds xid (messages6_at site e) silent.0, all_silent xid past silent.1)

  all_rebind : (xid : ℕ) (past : List Entry) → Since (RebindsAlone site xid) (StartsAsking site xid now) past
      → Always (λ e earlier. Rebinding xid e) past
  all_rebind xid [] asks = tt
  all_rebind xid (e ∷ past) (inl starts) = (starts.alone, all_silent xid past starts.first)
  all_rebind xid (e ∷ past) (inr on) = (on.0, all_rebind xid past on.1)

  turn_of_them : (P : Entry → Type 0) (past : List Entry) → Always (λ e earlier. P e) past → (e : Entry) → Contains past e → P e
  turn_of_them P past all e among = at_index past all among.0 among.1 among.2
    where
      at_index : (past : List Entry) → Always (λ e earlier. P e) past → (k : ℕ) → k < length past → get_or past k e ≡ e → P e
      at_index [] all k less is = absurd (omega (arith, less))
      at_index (f ∷ past) all zero less is = subst P is all.0
      at_index (f ∷ past) all (suc k) less is = at_index past all.1 k (omega (arith, less)) is

  said_rebind : (xid : ℕ) (past : List Entry) → Since (RebindsAlone site xid) (StartsAsking site xid now) past → (e : Entry)
      → Contains past e → (sent : Sent6) → Contains (messages6_at site e) (Some sent) → IsRebind xid sent
  said_rebind xid past asks e among sent said =
      of_contained (λ message. IfSome message (IsRebind xid)) (messages6_at site e)
      (turn_of_them (Rebinding xid) past (all_rebind xid past asks) e among) (Some sent) said

  late_at : (xid : ℕ) (later : List Entry) (e : Entry) (earlier : List Entry) → speaks6 site e ≡ true
      → Always (SaysNone6 site) earlier → e.moment + RESTART_TIME ≤ now
      → Since (RebindsAlone site xid) (StartsAsking site xid now) (later ++ e ∷ earlier) → ⊥
  late_at xid [] e earlier speaks silent late (inl starts) =
      let soon : now < e.moment + RESTART_TIME = starts.soon in omega (arith, soon, late)
  late_at xid [] e earlier speaks silent late (inr on) = never_asked xid earlier silent on.1
  late_at xid (l ∷ later) e earlier speaks silent late (inl starts) =
      opposite (speaks6 site e) speaks (at_cut (SaysNone6 site) later e earlier starts.first)
  late_at xid (l ∷ later) e earlier speaks silent late (inr on) = late_at xid later e earlier speaks silent late on.1

pub needs_message : NeedsMessage6
needs_message site ask net now past silent basis = never_asked site now basis.asking.xid past silent basis.asking.since

pub needs_rebind : NeedsRebind6
needs_rebind site ask net now past other basis =
    let asking = basis.asking in
    other.other (said_rebind site now asking.xid past asking.since other.says.e other.says.among other.sent other.says.said).kind

pub needs_one_exchange : NeedsOneExchange
needs_one_exchange site ask net now past two basis =
    let asking = basis.asking in
    let one = said_rebind site now asking.xid past asking.since two.says_one.e two.says_one.among two.one two.says_one.said in
    let other = said_rebind site now asking.xid past asking.since two.says_other.e two.says_other.among two.other two.says_other.said in
    two.unlike (one.same_xid ∙ sym other.same_xid)

pub needs_its_time : NeedsItsTime
needs_its_time site ask net now past late basis =
    late_at site now basis.asking.xid late.later late.e late.earlier late.speaks late.first late.late
    (subst (λ (turns : List Entry). Since (RebindsAlone site basis.asking.xid) (StartsAsking site basis.asking.xid now) turns)
    late.cut basis.asking.since)
