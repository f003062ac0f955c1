-- Over every list of turns each interface keeps what it carries.
use Rattle.std.proofs.Common.{◌≡◌, ℕ, ◌<◌, ◌≤◌, ◌^◌, Bool, true, false, List, [], ◌∷◌, Option, nat_eq, refl, sym, ap, subst, ◌∙◌, arith}
use Rattle.std.specs.Prelude.{map, max}
use Rattle.std.specs.List.{AllByRecursion, IsDistinct}
use Rattle.net_types.specs.declared.address.Mac.{Mac}
use Rattle.net_types.specs.declared.interface.IfSpec.{IfSpec}
use Rattle.net_types.proofs.AllLaws.{all_map}
use Rattle.device_calls.specs.Calls.{Call}
use Rattle.lease_text.specs.Leases.{LeaseContent}
use Rattle.lease6_text.specs.Leases.{Lease6Content}
use Rattle.machine.specs.Moment.{moment_of}
use Rattle.v4_message.specs.Requests.{AskContent}
use Rattle.v4_client.specs.Settings.{SettingsContent}
use Rattle.world.specs.declared.wakes.Event.TheVariants.{Quiet}
use Rattle.settings.specs.declared.interfaces.Managed.{Managed}
use Rattle.script_model.specs.IfaceSets.{is_in, is_up}
use Rattle.client_model.specs.declared.interfaces.Iface.{Iface}
use Rattle.client_model.specs.ClientSettings.{ask_of, settings_of}
use Rattle.client_model.specs.IfaceSteps.{IfaceStep, index_of}
use Rattle.client_model.specs.Interfaces.{opened, resting}
use Rattle.client_model.specs.IfaceTurns.{iface_turned}
use Rattle.client_model.specs.Clients.{Client, ClientStep, Sending}
use Rattle.client_model.specs.HostDuid.{host_duid}
use Rattle.client_model.specs.KeptLeases.{Beginning}
use Rattle.evidence_words.specs.FiledLeases.{kept4_shown, kept6_shown}
use Rattle.evidence_words.specs.HostDuids.{duid_shown}
use Rattle.evidence_words.specs.Inputs.{Site}
use Rattle.client_model.proofs.SameInterfaces.{managed_in, IsSame, opened_is_same, turned_is_same, all_turned}
use Rattle.evidence_words.specs.TurnModel.FilesInLife.{AreNamedApart}
use Rattle.evidence_words.specs.TurnModel.Loading.{duid_with, beginnings_of}
use Rattle.evidence_words.specs.TurnModel.Turns.{Life, turn_moment, input_of, step_of}
use Rattle.evidence_words.specs.TurnModel.Opening.{opening_step}
use Rattle.evidence_words.specs.TurnModel.Lives.{OpeningMet, IsOpening, Met, life_after}
use Rattle.evidence_words.proofs.TurnModel.HostInLifeTurns.{opening_managed}
use Rattle.evidence_words.proofs.TurnModel.Loading.{KeepsFitting, beginnings_fit}
use Rattle.evidence_words.specs.Entries.{Offer, Entry, offers_on, entry_of, opening_entry, shown_after}
use Rattle.evidence.specs.Laws.{AreNumbered, AreMade}
use Rattle.evidence_words.proofs.Carrying.{Relation, IsCarried, entry}
use Rattle.evidence_words.proofs.FilesRead.{KeepsShown, beginnings_shown}
use Rattle.evidence_words.proofs.Made.{all_offers, marked_all, Shown, turn_shows, OpeningShown, opening_shows}
use Rattle.evidence_words.proofs.Offers.{Offered, ShownBy, all_shown, number_of, refused_among}
use Rattle.evidence.proofs.Keeping.{Keeps, opens_keeps, turn_keeps}

-- the numbers of interfaces count from 1 on
abbrev pub AreCounted : List Managed → Type 0
AreCounted managed = AllByRecursion (λ m. 1 ≤ number_of m) managed

-- what is known of an interface when a life begins
abbrev pub site_with : List Mac → (up : Bool) → (duid : List ℕ) → Option LeaseContent → Option Lease6Content → Managed → Site
site_with own up duid kept4 kept6 managed = record { managed = managed; duid = duid; own = own; up = up; kept4 = kept4; kept6 = kept6 }

-- what an opening found: the DUID of the host, and the leases of each interface
pub record Found : Type 0 where
  pub duid : List ℕ
  pub kept4 : Managed → Option LeaseContent
  pub kept6 : Managed → Option Lease6Content

abbrev pub found_in : List Managed → List Call → Found
found_in managed calls = record { duid = duid_shown managed calls; kept4 = kept4_shown calls; kept6 = kept6_shown calls }

abbrev pub site_by : List Mac → (up : Bool) → Found → Managed → Site
site_by own up found managed = site_with own up found.duid (found.kept4 managed) (found.kept6 managed) managed

module _ (Counted : Type 0) (Carries : Relation) (carried : IsCarried Counted Carries) (start : ℕ → Bool) (found : Found) where
  -- what is carried of an interface, whose client has the settings that the configuration gives
  pub record KeptOne (own : List Mac) (unsent : ℕ) (shown : List Entry) (iface : Iface) : Type 0 where
    pub settings : iface.dhcp4.settings ≡ settings_of found.duid iface.managed
    pub carries : Carries (site_by own (start (number_of iface.managed)) found iface.managed) (is_in unsent (index_of iface) ≡ false) iface shown

  abbrev KeptBy : Client → (unsent : ℕ) → List Entry → Type 0
  KeptBy client unsent shown = AllByRecursion (KeptOne client.own unsent shown) client.ifaces

  abbrev pub Kept : Life → List Entry → Type 0
  Kept life shown = KeptBy life.client life.unsent shown

  kept_same : (a b : Client) (set set2 : ℕ) (e e2 : Entry) (shown : List Entry) → a ≡ b → set ≡ set2 → e ≡ e2
      → KeptBy b set2 (e2 ∷ shown) → KeptBy a set (e ∷ shown)
  kept_same a b set set2 e e2 shown same sets entries k =
      subst (λ (c : Client). KeptBy c set (e ∷ shown)) (sym same)
      (subst (λ (u : ℕ). KeptBy b u (e ∷ shown)) (sym sets) (subst (λ (x : Entry). KeptBy b set2 (x ∷ shown)) (sym entries) k))

  module _ (life : Life) (met : Met) (taken : List Bool) (shown : List Entry) where
    abbrev failed : ℕ
    failed = marked_all (step_of life met.wake met.bytes).sends taken 0

    -- the turn as it is shown
    abbrev turn_entry : Entry
    turn_entry = entry (turn_moment life met.wake) met.wake.event met.bytes (all_offers (step_of life met.wake met.bytes).sends taken)

    abbrev step_for : Iface → IfaceStep
    step_for iface = iface_turned life.client.own (input_of life met.wake met.bytes) iface

    abbrev OfferedFor : IfaceStep → Managed → AskContent → Type 0
    OfferedFor step m ask =
        Offered m.spec ask (is_in failed (number_of m) ≡ false) step.said (offers_on (number_of m) turn_entry.offers)
        × (Counted → (is_in failed (number_of m) ≡ false → ⊥) → refused_among (offers_on (number_of m) turn_entry.offers) ≡ true)

    -- by what its DHCPv4 client says of itself
    abbrev OfferedBy : IfaceStep → Type 0
    OfferedBy step = OfferedFor step step.iface.managed step.iface.dhcp4.settings.ask

    one_kept : turn_entry.moment < 10 ^ 15 → (iface : Iface) → OfferedBy (step_for iface) → KeptOne life.client.own life.unsent shown iface
        → KeptOne life.client.own failed (turn_entry ∷ shown) (step_for iface).iface
    one_kept early iface offers kept =
        let step : IfaceStep = step_for iface in
        let same : IsSame iface step.iface = turned_is_same life.client.own (input_of life met.wake met.bytes) iface in
        let settings : step.iface.dhcp4.settings ≡ settings_of found.duid step.iface.managed =
        same.settings ∙ kept.settings ∙ ap (settings_of found.duid) (sym same.managed) in
        record {
          settings = settings;
          carries = subst (λ m. OfferedFor step m (ask_of found.duid m)
              → Carries (site_by life.client.own (start (number_of m)) found m) (is_in failed (number_of m) ≡ false) step.iface (turn_entry ∷ shown))
              (sym same.managed)
              (λ shows. carried.turns (site_by life.client.own (start (number_of iface.managed)) found iface.managed)
              (is_in failed (index_of iface) ≡ false) met.wake.salt
              turn_entry early shown life.unsent iface refl kept.carries (record { offered = shows.0; refused = shows.1 }))
              (subst (λ (a : AskContent). OfferedFor step step.iface.managed a) (ap (λ (set : SettingsContent). set.ask) settings) offers);
        }

    each_shown : (steps : List IfaceStep) → AllByRecursion (ShownBy Counted (step_of life met.wake met.bytes).sends taken) steps
        → AllByRecursion OfferedBy steps
    each_shown [] shows = tt
    each_shown (step ∷ steps) shows = ((shows.0.offered, shows.0.refused), each_shown steps shows.1)

    all_kept : turn_entry.moment < 10 ^ 15 → (ifaces : List Iface) → AllByRecursion OfferedBy (map step_for ifaces)
        → AllByRecursion (KeptOne life.client.own life.unsent shown) ifaces
        → AllByRecursion (KeptOne life.client.own failed (turn_entry ∷ shown)) (map (λ step. step.iface) (map step_for ifaces))
    all_kept early [] offers kept = tt
    all_kept early (iface ∷ ifaces) offers kept = (one_kept early iface offers.0 kept.0, all_kept early ifaces offers.1 kept.1)

  pub record KeptAfter (managed : List Managed) (life : Life) (shown : List Entry) : Type 0 where
    pub of_managed : managed_in life.client.ifaces ≡ managed
    pub early : life.now < 10 ^ 15
    pub kept : Kept life shown

  still_early : (life : Life) (at now : ℕ) → life.now < 10 ^ 15 → now ≡ max life.now (moment_of at) → now < 10 ^ 15
  still_early life at now early e = omega arith

  turned_kept : (managed : List Managed) → AreNumbered managed → (Counted → AreCounted managed) → (life : Life) (met : Met) (shown : List Entry)
      → KeptAfter managed life shown
      → Shown (step_of life met.wake met.bytes) (turn_moment life met.wake) met.calls met.life → KeptAfter managed met.life (entry_of met ∷ shown)
  turned_kept managed numbered counts life met shown k made =
      let same : managed_in (step_of life met.wake met.bytes).client.ifaces ≡ managed =
      all_turned life.client.own (input_of life met.wake met.bytes) life.client.ifaces ∙ k.of_managed in
      record {
        of_managed = ap (λ (client : Client). managed_in client.ifaces) made.client ∙ same;
        early = still_early life met.wake.at met.life.now k.early made.now;
        kept = kept_same met.life.client (step_of life met.wake met.bytes).client met.life.unsent (failed life met made.taken shown)
            (entry_of met) (turn_entry life met made.taken shown) shown made.client made.unsent
            (λ i. entry (made.now i) met.wake.event met.bytes (made.offers i))
            (all_kept life met made.taken shown (still_early life met.wake.at (turn_moment life met.wake) k.early refl) life.client.ifaces
            (each_shown life met made.taken shown (map (step_for life met made.taken shown) life.client.ifaces)
            (all_shown Counted (map (step_for life met made.taken shown) life.client.ifaces) made.taken made.answered
            (subst (λ ms. IsDistinct nat_eq (map number_of ms)) (sym same) numbered) (λ c. subst AreCounted (sym same) (counts c))))
            k.kept);
      }

  pub turns_kept : (managed : List Managed) → AreNumbered managed → (Counted → AreCounted managed) → (mets : List Met) (life : Life) (shown : List Entry)
      → KeptAfter managed life shown → AreMade managed life mets → KeptAfter managed (life_after life mets) (shown_after shown mets)
  turns_kept managed numbered counts [] life shown k made = k
  turns_kept managed numbered counts (met ∷ mets) life shown k made =
      turns_kept managed numbered counts mets met.life (entry_of met ∷ shown)
      (turned_kept managed numbered counts life met shown k (turn_shows managed life met.wake met.bytes met.calls met.life made.0)) made.1

pub own_stays : (managed : List Managed) (mets : List Met) (life : Life) → AreMade managed life mets → (life_after life mets).client.own ≡ life.client.own
own_stays managed [] life made = refl
own_stays managed (met ∷ mets) life made =
    own_stays managed mets met.life made.1
    ∙ ap (λ (client : Client). client.own) (turn_shows managed life met.wake met.bytes met.calls met.life made.0).client

-- ---- the opening

module _ (Counted : Type 0) (Carries : Relation) (carried : IsCarried Counted Carries) (own : List Mac) (up at salt unsent : ℕ) (early : at < 10 ^ 15)
    (offers : List Offer)
    (found : Found) where
  abbrev started : ℕ → Bool
  started index = is_up up index

  abbrev opening_shown : Entry
  opening_shown = entry at Quiet [] offers

  abbrev OpenedFor : IfaceStep → Managed → AskContent → Type 0
  OpenedFor step m ask =
      Offered m.spec ask (is_in unsent (number_of m) ≡ false) step.said (offers_on (number_of m) offers)
      × (Counted → (is_in unsent (number_of m) ≡ false → ⊥) → refused_among (offers_on (number_of m) offers) ≡ true)

  abbrev OpenedBy : IfaceStep → Type 0
  OpenedBy step = OpenedFor step step.iface.managed step.iface.dhcp4.settings.ask

  -- an interface begins with what the opening found
  record BeginsSo (b : Beginning) : Type 0 where
    four : b.kept4 ≡ found.kept4 b.managed
    six : b.kept6 ≡ found.kept6 b.managed

  one_opened : (b : Beginning) → KeepsFitting found.duid b → BeginsSo b → OpenedBy (opened up at salt b)
      → KeptOne Counted Carries carried started found own unsent (opening_shown ∷ []) (opened up at salt b).iface
  one_opened b within so shows =
      let m : Managed = b.managed in
      let step : IfaceStep = opened up at salt b in
      let same : IsSame (resting b) step.iface = opened_is_same up at salt b in
      let settings : step.iface.dhcp4.settings ≡ settings_of found.duid step.iface.managed =
      same.settings ∙ ap (λ (d : List ℕ). settings_of d m) within.duid_is ∙ ap (settings_of found.duid) (sym same.managed) in
      let clean : Type 0 = is_in unsent (number_of m) ≡ false in
      record {
        settings = settings;
        carries = subst (λ n. OpenedFor step n (ask_of found.duid n)
            → Carries (site_by own (started (number_of n)) found n) (is_in unsent (number_of n) ≡ false) step.iface (opening_shown ∷ []))
            (sym same.managed)
            (subst (λ (d : List ℕ). OpenedFor step m (ask_of d m)
            → Carries (site_with own (started (number_of m)) d (found.kept4 m) (found.kept6 m) m) clean step.iface (opening_shown ∷ [])) within.duid_is
            (λ given. subst
            (λ (k : Option LeaseContent). Carries (site_with own (started (number_of m)) b.duid k (found.kept6 m) m) clean step.iface (opening_shown ∷ []))
            so.four
            (subst
            (λ (k : Option Lease6Content). Carries (site_with own (started (number_of m)) b.duid b.kept4 k m) clean step.iface (opening_shown ∷ [])) so.six
            (carried.opens own clean at salt early offers b within.kept4 within.kept6 (started (number_of m))
            (record { offered = given.0; refused = given.1 })))))
            (subst (λ (a : AskContent). OpenedFor step step.iface.managed a) (ap (λ (set : SettingsContent). set.ask) settings) shows);
      }

  given_each : (sends : List Sending) (taken : List Bool) → unsent ≡ marked_all sends taken 0 → offers ≡ all_offers sends taken → (steps : List IfaceStep)
      → AllByRecursion (ShownBy Counted sends taken) steps → AllByRecursion OpenedBy steps
  given_each sends taken set list [] shows = tt
  given_each sends taken set list (step ∷ steps) shows = (
    subst
        (λ (u : ℕ). Offered step.iface.managed.spec step.iface.dhcp4.settings.ask (is_in u (number_of step.iface.managed) ≡ false) step.said
        (offers_on (number_of step.iface.managed) offers)
        × (Counted → (is_in u (number_of step.iface.managed) ≡ false → ⊥) → refused_among (offers_on (number_of step.iface.managed) offers) ≡ true)) (sym set)
        (subst
        (λ (os : List Offer). Offered step.iface.managed.spec step.iface.dhcp4.settings.ask
        (is_in (marked_all sends taken 0) (number_of step.iface.managed) ≡ false) step.said
        (offers_on (number_of step.iface.managed) os)
        ×
        (Counted → (is_in (marked_all sends taken 0) (number_of step.iface.managed) ≡ false → ⊥)
        → refused_among (offers_on (number_of step.iface.managed) os) ≡ true))
        (sym list)
        (shows.0.offered, shows.0.refused)),
    given_each sends taken set list steps shows.1,
  )

  each_opened : (beginnings : List Beginning) → AllByRecursion (KeepsFitting found.duid) beginnings → AllByRecursion BeginsSo beginnings
      → AllByRecursion OpenedBy (map (opened up at salt) beginnings)
      → AllByRecursion (KeptOne Counted Carries carried started found own unsent (opening_shown ∷ []))
      (map (λ (step : IfaceStep). step.iface) (map (opened up at salt) beginnings))
  each_opened [] within so shows = tt
  each_opened (b ∷ beginnings) within so shows = (one_opened b within.0 so.0 shows.0, each_opened beginnings within.1 so.1 shows.1)

first_early : (at now : ℕ) → now ≡ moment_of at → now < 10 ^ 15
first_early at now e = omega arith

pub opening_kept : (Counted : Type 0) (Carries : Relation) (carried : IsCarried Counted Carries) (managed : List Managed) → AreNumbered managed
    → AreNamedApart managed → (Counted → AreCounted managed) → (specs : List IfSpec) (opening : OpeningMet)
    → IsOpening managed specs opening
    → KeptAfter Counted Carries carried (λ index. is_up opening.begin.up index) (found_in managed opening.calls) managed opening.life
    (opening_entry opening ∷ [])
opening_kept Counted Carries carried managed numbered apart counts specs opening is =
    let read : OpeningShown managed specs opening.begin opening.calls opening.life = opening_shows managed specs opening.begin opening.calls opening.life is in
    let step : ClientStep = opening_step managed read.files specs opening.begin in
    let made : Shown step (moment_of opening.begin.at) opening.calls opening.life = read.shown in
    let found : Found = found_in managed opening.calls in
    let duid_is : duid_with managed read.files ≡ found.duid = ap (host_duid managed) (sym read.duid) in
    let beginnings : List Beginning = beginnings_of managed read.files in
    let at : ℕ = moment_of opening.begin.at in
    let unsent : ℕ = marked_all step.sends made.taken 0 in
    let same : managed_in step.client.ifaces ≡ managed = opening_managed managed specs opening.begin read.reads read.files read.makes in
    record {
      of_managed = ap (λ (client : Client). managed_in client.ifaces) made.client ∙ same;
      early = first_early opening.begin.at opening.life.now made.now;
      kept = kept_same Counted Carries carried (λ index. is_up opening.begin.up index) found opening.life.client step.client opening.life.unsent unsent
          (opening_entry opening) (entry at Quiet [] (all_offers step.sends made.taken)) [] made.client made.unsent
          (λ i. entry (made.now i) Quiet [] (made.offers i))
          (each_opened Counted Carries carried step.client.own opening.begin.up at opening.begin.salt unsent (first_early opening.begin.at at refl)
          (all_offers step.sends made.taken) found beginnings
          (subst (λ (d : List ℕ). AllByRecursion (KeepsFitting d) beginnings) duid_is (beginnings_fit managed read.files))
          (all_map (KeepsShown opening.calls) _ (λ b k. record { four = k.four; six = k.six }) beginnings
          (beginnings_shown (duid_with managed read.files) opening.calls read.files.ifaces (read.leases apart)))
          (given_each Counted Carries carried step.client.own opening.begin.up at opening.begin.salt unsent (first_early opening.begin.at at refl)
          (all_offers step.sends made.taken) found step.sends made.taken refl refl (map (opened opening.begin.up at opening.begin.salt) beginnings)
          (all_shown Counted (map (opened opening.begin.up at opening.begin.salt) beginnings) made.taken made.answered
          (subst (λ ms. IsDistinct nat_eq (map number_of ms)) (sym same) numbered) (λ c. subst AreCounted (sym same) (counts c)))));
    }

pub opened_own : (managed : List Managed) (specs : List IfSpec) (opening : OpeningMet) → IsOpening managed specs opening
    → opening.life.client.own ≡ map (λ spec. spec.mac) specs
opened_own managed specs opening is =
    ap (λ (client : Client). client.own) (opening_shows managed specs opening.begin opening.calls opening.life is).shown.client

-- ---- what an interface carries of static addresses and of link-local addresses

abbrev pub KeepsRelation : Relation
KeepsRelation site clean f past = Keeps site clean f past

pub keeps_carried : (Counted : Type 0) → IsCarried Counted KeepsRelation
keeps_carried Counted = record {
  opens = λ own clean at salt early offers b within within6 up shows. opens_keeps own clean at salt early offers b within up;
  turns = λ site clean salt e early past unsent f same k shows. turn_keeps site clean salt e early past unsent f k shows.offered;
}
