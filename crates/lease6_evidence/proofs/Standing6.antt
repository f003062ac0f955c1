-- What a client that stands on the kept lease carries of the turns shown, and one that may yet stand.
use Rattle.std.proofs.Common.{◌≡◌, ℕ, ◌+◌, ◌<◌, inl, inr, Bool, true, false, ◌||◌, List, [], ◌∷◌, Option, Some, None, IfSome, refl, sym, ap, ◌∙◌, subst, is_some, arith, eqb-true}
use Rattle.std.specs.List.{list_any}
use Rattle.std.specs.Prelude.{◌==◌}
use Rattle.std.proofs.lemmas.Bool.{eqb-true}
use Rattle.machine.specs.Since.{Since, Always}
use Rattle.net_types.proofs.CaseLaws.{split}
use Rattle.v6_message.specs.Replies.{Content6}
use Rattle.v6_frames.specs.Spelled.{Sent6}
use Rattle.lease6_text.specs.Leases.{Lease6Content}
use Rattle.v6_client.specs.declared.states.State6.{State6}
use Rattle.v6_client.specs.declared.states.State6.TheVariants.{Off, Waiting, Soliciting, Requesting, Bound, Renewing, Rebinding, Restarting, Declining}
use Rattle.v6_client.specs.declared.times.TheConstants.{RESTART_TIME}
use Rattle.v6_client.specs.Calls.{has_origin}
use Rattle.v6_client.specs.Clients.{ClientContent}
use Rattle.world.specs.declared.wakes.Event.{Event}
use Rattle.world.specs.declared.wakes.Event.TheVariants.{Frame, Carrier, Duplicate, Release, Rebind, Stop, Quiet, End}
use Rattle.lease_evidence.specs.EvidenceWords.Entries.{Entry}
use Rattle.lease_evidence.specs.EvidenceWords.Inputs.{Site, GoesOn, StaysOn, carrier_after, has_carrier, index_at, is_stop, is_stopped}
use Rattle.lease6_evidence.specs.Exchanges6.{Seen6, messages6_at, seen6_in, show6}
use Rattle.lease6_evidence.specs.KeptBasis6.{HearsNoReply, IsRebind, RebindsAlone, SaysNone6, speaks6}
use Rattle.lease6_evidence.specs.Replies6.{FirstReply, NoReply, message6_at}
use Rattle.lease6_evidence.proofs.ExchangeStates.{stood}
use Rattle.lease6_evidence.proofs.Spoken6.{Talk}

-- ---- what is carried

-- the first message of the life, by which a restart begins that ends at a moment
pub record Started (site : Site) (xid end : ℕ) (e : Entry) (past : List Entry) : Type 0 where
  pub speaks : speaks6 site e ≡ true
  pub alone : RebindsAlone site xid e past
  pub first : Always (SaysNone6 site) past
  pub ends : end ≡ e.moment + RESTART_TIME

-- A client that may yet stand: it is off, keeps what was kept, and nothing came that would end it. `said` is what it said in the
-- turn that goes on.
pub record MayStand (site : Site) (said : Option Sent6) (past : List Entry) (state : State6) (kept : Option Lease6Content) : Type
    0 where
  pub off : state ≡ Off
  pub same : kept ≡ site.kept6
  pub stays : Always (StaysOn site) past
  pub silent : Always (SaysNone6 site) past
  pub nothing : said ≡ None

-- one that stands
pub record Stands (site : Site) (xid end now : ℕ) (said : Option Sent6) (past : List Entry) : Type 0 where
  pub persistent : site.managed.conf.flags.persistent ≡ true
  pub told : has_origin site.kept6 ≡ true
  pub up : has_carrier site past ≡ true
  pub stays : Always (StaysOn site) past
  pub asking : Since (RebindsAlone site xid) (Started site xid end) past
  pub unanswered : Always (HearsNoReply site) past
  pub says : IfSome said (IsRebind xid)
  pub early : now < end

abbrev pub StandsIn : Site → (now : ℕ) → (said : Option Sent6) → List Entry → State6 → Type 0
StandsIn site now said past Off = Unit {0}
StandsIn site now said past (Waiting due) = Unit {0}
StandsIn site now said past (Soliciting exchange offer) = Unit {0}
StandsIn site now said past (Requesting exchange) = Unit {0}
StandsIn site now said past Bound = Unit {0}
StandsIn site now said past (Renewing exchange) = Unit {0}
StandsIn site now said past (Rebinding exchange) = Unit {0}
StandsIn site now said past (Restarting exchange end since true) = Stands site exchange.xid end now said past
StandsIn site now said past (Restarting exchange end since false) = Unit {0}
StandsIn site now said past (Declining exchange) = Unit {0}

pub record Standing6 (site : Site) (now : ℕ) (said : Option Sent6) (past : List Entry) (c : ClientContent) : Type 0 where
  pub may : c.fresh ≡ true → MayStand site said past c.state c.kept
  pub stands : StandsIn site now said past c.state

-- a client that doesn't stand
pub standing_not : (site : Site) (now : ℕ) (said : Option Sent6) (past : List Entry) (state : State6) → stood state ≡ false
    → StandsIn site now said past state
standing_not site now said past Off isnt = tt
standing_not site now said past (Waiting due) isnt = tt
standing_not site now said past (Soliciting exchange offer) isnt = tt
standing_not site now said past (Requesting exchange) isnt = tt
standing_not site now said past Bound isnt = tt
standing_not site now said past (Renewing exchange) isnt = tt
standing_not site now said past (Rebinding exchange) isnt = tt
standing_not site now said past (Restarting exchange end since true) isnt = absurd cc
standing_not site now said past (Restarting exchange end since false) isnt = tt
standing_not site now said past (Declining exchange) isnt = tt

-- ---- inputs

carrier_stays : (index : ℕ) (event : Event) (up : Bool) → up ≡ true → GoesOn up index event → carrier_after index event up ≡ true
carrier_stays index (Carrier other now) up is goes =
    split (index == other) (λ e. rw e (goes (eqb-true index other e) is)) (λ e. rw e is)
carrier_stays index (Frame other len) up is goes = is
carrier_stays index (Duplicate other address) up is goes = is
carrier_stays index (Release other) up is goes = is
carrier_stays index (Rebind other) up is goes = is
carrier_stays index Stop up is goes = is
carrier_stays index Quiet up is goes = is
carrier_stays index End up is goes = is

not_stop : (up : Bool) (index : ℕ) (event : Event) → GoesOn up index event → is_stop event ≡ false
not_stop up index (Carrier other now) goes = refl
not_stop up index (Frame other len) goes = refl
not_stop up index (Duplicate other address) goes = refl
not_stop up index (Release other) goes = refl
not_stop up index (Rebind other) goes = refl
not_stop up index Stop goes = absurd goes
not_stop up index Quiet goes = refl
not_stop up index End goes = refl

pub never_stopped : (site : Site) (past : List Entry) → Always (StaysOn site) past → is_stopped past ≡ false
never_stopped site [] stays = refl
never_stopped site (e ∷ past) stays =
    rw (not_stop (has_carrier site past) (index_at site) e.event stays.0) (never_stopped site past stays.1)

-- ---- Replies

-- a client that says nothing opens no exchange
shows_nothing : (messages : List (Option Sent6)) (seen : Seen6) → list_any is_some messages ≡ false → show6 messages seen ≡ seen
shows_nothing [] seen none = refl
shows_nothing (None ∷ messages) seen none = shows_nothing messages seen none
shows_nothing (Some sent ∷ messages) seen none = absurd cc

pub opens_nothing : (site : Site) (past : List Entry) → Always (SaysNone6 site) past
    → seen6_in site past ≡ record { count = 0; current = None }
opens_nothing site [] silent = refl
opens_nothing site (e ∷ past) silent =
    shows_nothing (messages6_at site e) (seen6_in site past) silent.0 ∙ opens_nothing site past silent.1

pub silent_unanswered : (site : Site) (past : List Entry) → Always (SaysNone6 site) past → Always (HearsNoReply site) past
silent_unanswered site [] silent = tt
silent_unanswered site (e ∷ past) silent = (
  λ opened message good. absurd (never (sym (ap (λ (s : Seen6). s.current) (opens_nothing site (e ∷ past) silent)) ∙ good.is_open)),
  silent_unanswered site past silent.1,
)
  where
    never : {A : Type 0} {x : A} → None ≡ Some x → ⊥
    never h = cc

-- no message came
pub silent_turn : (site : Site) (e : Entry) (past : List Entry) → message6_at site e ≡ None → HearsNoReply site e past
silent_turn site e past none opened message good = absurd (never (sym none ∙ good.came))
  where
    never : {A : Type 0} {x : A} → None ≡ Some x → ⊥
    never h = cc

never_answered : (site : Site) (number : ℕ) (past : List Entry) → Always (HearsNoReply site) past → Always (NoReply site number) past
never_answered site number [] none = tt
never_answered site number (e ∷ past) none =
    (λ opened message good same. none.0 opened message good, never_answered site number past none.1)

-- a good Reply after none is the first of its exchange
pub first_unheard : (site : Site) (e : Entry) (past : List Entry)
    → ((opened : _) (message : Content6) → FirstReply site opened message e past → ⊥) → Always (HearsNoReply site) past
    → HearsNoReply site e past
first_unheard site e past no_first none opened message good =
    no_first opened message (record { good = good; first = never_answered site opened.number past none })

-- ---- a turn

module _ (site : Site) (e : Entry) (past : List Entry) (said : Option Sent6) (stays : StaysOn site e past) where
  -- a client that stands goes on
  pub stands_on : (xid end : ℕ) → HearsNoReply site e past → Talk site e said None → Stands site xid end e.moment said past
      → Stands site xid end e.moment None (e ∷ past)
  stands_on xid end unheard talk k = record {
    persistent = k.persistent;
    told = k.told;
    up = carrier_stays (index_at site) e.event (has_carrier site past) k.up stays;
    stays = (stays, k.stays);
    asking = inr (talk.alone xid k.says tt, k.asking);
    unanswered = (unheard, k.unanswered);
    says = tt;
    early = k.early;
  }

  pub standing_on : (state : State6) → HearsNoReply site e past → Talk site e said None → StandsIn site e.moment said past state
      → StandsIn site e.moment None (e ∷ past) state
  standing_on Off unheard talk k = tt
  standing_on (Waiting due) unheard talk k = tt
  standing_on (Soliciting exchange offer) unheard talk k = tt
  standing_on (Requesting exchange) unheard talk k = tt
  standing_on Bound unheard talk k = tt
  standing_on (Renewing exchange) unheard talk k = tt
  standing_on (Rebinding exchange) unheard talk k = tt
  standing_on (Restarting exchange end since true) unheard talk k = stands_on exchange.xid end unheard talk k
  standing_on (Restarting exchange end since false) unheard talk k = tt
  standing_on (Declining exchange) unheard talk k = tt

  -- one that may yet stand still may
  pub may_still : (state after : State6) (kept left : Option Lease6Content) → after ≡ state → left ≡ kept
      → Talk site e said None → MayStand site said past state kept
      → MayStand site None (e ∷ past) after left
  may_still state after kept left same_state same_kept talk k = record {
    off = same_state ∙ k.off;
    same = same_kept ∙ k.same;
    stays = (stays, k.stays);
    silent = (talk.speaks ∙ (λ i. is_some (k.nothing i) || false), k.silent);
    nothing = refl;
  }

  -- it begins, and stands
  pub starts : (xid : ℕ) (sent : Sent6) (kept : Option Lease6Content) → site.managed.conf.flags.persistent ≡ true
      → has_origin kept ≡ true → has_carrier site (e ∷ past) ≡ true → message6_at site e ≡ None
      → IsRebind xid sent → Talk site e said (Some sent) → MayStand site said past Off kept
      → Stands site xid (e.moment + RESTART_TIME) e.moment None (e ∷ past)
  starts xid sent kept persistent told up none is talk k = record {
    persistent = persistent;
    told = subst (λ (lease : Option Lease6Content). has_origin lease ≡ true) k.same told;
    up = up;
    stays = (stays, k.stays);
    asking = inl (record {
      speaks = talk.speaks ∙ (λ i. is_some (k.nothing i) || true);
      alone = talk.alone xid (subst (λ (s : Option Sent6). IfSome s (IsRebind xid)) (sym k.nothing) tt) is;
      first = k.silent;
      ends = refl;
    });
    unanswered = (silent_turn site e past none, silent_unanswered site past k.silent);
    says = tt;
    early = later e.moment;
  }
    where
      later : (at : ℕ) → at < at + RESTART_TIME
      later at = omega arith
