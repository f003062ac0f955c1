-- Over all turns of an interface: its kept DHCPv6 lease is that of its file, or a Reply granted it in one of them.
use Rattle.std.proofs.Common.{◌≡◌, ◌⊎◌, inl, inr, ℕ, Bool, true, false, ◌||◌, List, [], ◌∷◌, ◌++◌, Option, Some, None, refl, sym, ap, subst, ◌∙◌, is_some, ◌&&◌}
use Rattle.std.proofs.lemmas.Bool.{both_ways}
use Rattle.std.specs.Prelude.{option_to_list}
use Rattle.machine.specs.Moment.{is_due}
use Rattle.machine.specs.Since.{Since, Always}
use Rattle.net_types.proofs.CaseLaws.{gated}
use Rattle.net_types.specs.declared.address.Mac.{Mac}
use Rattle.v6_message.specs.Replies.{Content6}
use Rattle.v6_frames.specs.Spelled.{Sent6}
use Rattle.lease6_text.specs.Leases.{Lease6Content}
use Rattle.v6_client.specs.declared.states.Carrier6.TheVariants.{Up}
use Rattle.v6_client.specs.V6Items.declared.scope.Cause6.TheVariants.{Lapse}
use Rattle.v6_client.specs.declared.states.State6.{State6}
use Rattle.v6_client.specs.declared.states.State6.TheVariants.{Off}
use Rattle.v6_client.specs.Answers.{awaited, chosen, counts, has_bytes, is_awaited, is_from}
use Rattle.v6_client.specs.Calls.{dates_in, due_of}
use Rattle.v6_client.specs.Clients.{ClientContent, client_made, turn_of}
use Rattle.v6_client.specs.Moves.{parting_at}
use Rattle.v6_client.specs.Saying.{lease_server, plea_server}
use Rattle.v6_client.specs.Ticks.{tick_row}
use Rattle.v6_client.specs.Laws.{IsGranting}
use Rattle.v6_client.specs.Runs.{Turned6, hears_turned, release_turned, tick_turned}
use Rattle.v6_client.specs.Settings.{SettingsContent}
use Rattle.v6_client.proofs.SettingsStay.{settings_stay}
use Rattle.settings.specs.declared.interfaces.Managed.{Managed}
use Rattle.script_model.specs.IfaceSets.{is_in, is_up}
use Rattle.client_model.specs.declared.interfaces.Iface.{Iface}
use Rattle.client_model.specs.ClientSettings6.{runs_dhcp6, settings6_of}
use Rattle.client_model.specs.IfaceSteps.{IfaceStep, index_of}
use Rattle.client_model.specs.IfaceTurns.{iface_turned, input_step}
use Rattle.client_model.specs.Interfaces.{carrier_at_opening, resting, ticked, unsent_in}
use Rattle.client_model.specs.KeptLeases.{Beginning}
use Rattle.evidence_words.specs.Entries.{Entry}
use Rattle.evidence_words.specs.IfaceLives.{Met, Opening, entry_of, iface_after, opening_entry, shown, site_of}
use Rattle.evidence_words.specs.Inputs.{Site, carrier_after, has_carrier, index_at, is_stop}
use Rattle.lease6_evidence.specs.Replies6.{message6_at}
use Rattle.lease6_evidence.proofs.StandingCalls6.{release_off}
use Rattle.lease6_evidence.proofs.Steps6.{Does, message_in, sixes, sixes_join}
use Rattle.lease6_evidence.proofs.Turns6.{Call6, Begins, Contests, Drops, FitsCall6, Hears, Ignores, InputRuns, IsHalt, Rebinds, Releases, Rests, begins_or_rests, begins_run, input_runs, run6, says_of, ticks_run}
use Rattle.origin_laws.specs.Granted6.{GrantsNone, IsGrantedIn, IsLeftOf, KeptLeasesAreGranted6, WasKept, client_at}
use Rattle.origin_laws.proofs.Calls.{GrantsBy, GrantsNoneBy, call_keeps, carrier_less, granted_origin, tick_less}
use Rattle.origin_laws.proofs.Left.{Less, kept_both, left_both, left_self, less_self}

-- a Reply is heard, and the interface says what its client says of DHCPv6, at the tick and then
pub record HearsIn (site : Site) (message : Content6) (met : Met) (f : Iface) : Type 0 where
  pub came : message6_at site (entry_of met) ≡ Some message
  pub says_are : sixes (iface_turned site.own met.turn f).said
      ≡ option_to_list (message_in site.managed.spec.mac site.duid (tick_turned met.turn.at met.turn.salt f.dhcp6).out)
      ++ option_to_list (message_in site.managed.spec.mac site.duid (hears_turned met.turn.at met.turn.salt message (client_at met f)).out)

-- in such a turn a lease is granted
pub record GrantsIn (site : Site) (lease : Lease6Content) (met : Met) (f : Iface) : Type 0 where
  pub granted : IsGrantedIn site lease met f
  pub hears : HearsIn site granted.message met f

-- what is known of an interface after some turns
pub record Stands (site : Site) (past : List Entry) (f : Iface) : Type 0 where
  pub managed : f.managed ≡ site.managed
  pub carrier : f.stopped ≡ false → f.up ≡ has_carrier site past
  pub off : f.stopped ≡ true → f.dhcp6.state ≡ Off
  pub settings : f.dhcp6.settings ≡ settings6_of site.duid site.managed

-- ---- a turn

-- what a failed send of the turn before undoes is nothing to DHCPv6
pub record IsSame (f g : Iface) : Type 0 where
  pub managed : g.managed ≡ f.managed
  pub up : g.up ≡ f.up
  pub stopped : g.stopped ≡ f.stopped
  pub client : g.dhcp6 ≡ f.dhcp6

pub unsent_same : (set at salt : ℕ) (f : Iface) → IsSame f (unsent_in set at salt f)
unsent_same set at salt f =
    gated (λ (g : Iface). IsSame f g) (is_in set (index_of f)) _ _
    (record { managed = refl; up = refl; stopped = refl; client = refl })
    (record { managed = refl; up = refl; stopped = refl; client = refl })

call_settings : (call : Call6) (at salt : ℕ) (c : ClientContent) → (run6 call at salt c).client.settings ≡ c.settings
call_settings Ignores at salt c = refl
call_settings Rests at salt c = refl
call_settings (Hears message) at salt c = (settings_stay c at salt).message message tt
call_settings Begins at salt c = (settings_stay c at salt).carrier Up
call_settings Drops at salt c = (settings_stay c at salt).carrier _
call_settings (Contests address) at salt c = (settings_stay c at salt).duplicate address
call_settings (Releases tell) at salt c = (settings_stay c at salt).release tell
call_settings Rebinds at salt c = (settings_stay c at salt).rebind

-- ---- a client that is off

tick_off : (at salt : ℕ) (c : ClientContent) → c.state ≡ Off → (tick_turned at salt c).client.state ≡ Off
unfolding tick_turned
tick_off at salt c off =
    gated (λ (turned : Turned6). turned.client.state ≡ Off) (is_due (due_of c) at) _ _
    (subst (λ (s : State6). (tick_row (turn_of at salt c) (dates_in c) (parting_at (Lapse at) c) s).state ≡ Off) (sym off) refl) off

run_off : (at salt : ℕ) (call : Call6) (c : ClientContent) → IsHalt call → (call ≡ Ignores → c.state ≡ Off) → (run6 call at salt c).client.state ≡ Off
unfolding release_turned
run_off at salt Ignores c h off = off refl
run_off at salt (Releases tell) c h off = release_off (turn_of at salt c) tell (is_some c.kept) c.state
run_off at salt Rests c h off = absurd h
run_off at salt (Hears message) c h off = absurd h
run_off at salt Begins c h off = absurd h
run_off at salt Drops c h off = absurd h
run_off at salt (Contests address) c h off = absurd h
run_off at salt Rebinds c h off = absurd h

counts_not : (c : ClientContent) (message : Content6) → c.state ≡ Off → counts c message ≡ true → ⊥
counts_not c message off counted =
    not_awaited (subst (λ (s : State6). (is_awaited (awaited c.last s) message.xid && has_bytes message.client c.settings.duid
    && is_from (chosen s (lease_server c.kept) (plea_server c.plea)) message.server) ≡ true) off counted)
  where
    not_awaited : false ≡ true → ⊥
    not_awaited h = cc

module _ (site : Site) (past : List Entry) (met : Met) (f : Iface) (stands : Stands site past f) where
  abbrev at : ℕ
  at = met.turn.at

  abbrev salt : ℕ
  salt = met.turn.salt

  abbrev c0 : ClientContent
  c0 = f.dhcp6

  abbrev c1 : ClientContent
  c1 = client_at met f

  abbrev said : Turned6 → List Sent6
  said turned = option_to_list (message_in site.managed.spec.mac site.duid turned.out)

  -- the messages of a client, by what is known of it
  says_same : (m : Managed) (d c : ClientContent) (call : ClientContent → Turned6) → m ≡ site.managed → d ≡ c
      → c.settings ≡ settings6_of site.duid site.managed
      → option_to_list (message_in m.spec.mac d.settings.duid (call d).out) ≡ said (call c)
  says_same m d c call same client_is settings =
      let duid : d.settings.duid ≡ site.duid = ap (λ (x : ClientContent). x.settings.duid) client_is
      ∙ ap (λ (s : SettingsContent). s.duid) settings in
      λ i. option_to_list (message_in (same i).spec.mac (duid i) (call (client_is i)).out)

  settings1 : c1.settings ≡ settings6_of site.duid site.managed
  settings1 = (settings_stay c0 at salt).tick ∙ stands.settings

  module _ (g : Iface) (same : IsSame f g) where
    abbrev tick : IfaceStep
    tick = ticked at salt g

    abbrev g1 : Iface
    g1 = tick.iface

    does : Does g (tick_turned at salt g.dhcp6).client (says_of g (tick_turned at salt g.dhcp6)) tick
    does = ticks_run at salt g

    pub managed1 : g1.managed ≡ site.managed
    managed1 = does.managed ∙ same.managed ∙ stands.managed

    stopped1 : g1.stopped ≡ f.stopped
    stopped1 = does.stopped ∙ same.stopped

    client1 : g1.dhcp6 ≡ c1
    client1 = does.client_is ∙ ap (λ (d : ClientContent). (tick_turned at salt d).client) same.client

    carrier1 : g1.stopped ≡ false → g1.up ≡ has_carrier site past
    carrier1 h = does.up ∙ same.up ∙ stands.carrier (sym stopped1 ∙ h)

    abbrev input : IfaceStep
    input = input_step site.own at salt met.turn.event met.turn.bytes g1

    runs : InputRuns site at salt met.turn.bytes met.offers past met.turn.event g1 input
    runs =
        subst (λ (h : Iface). InputRuns site at salt met.turn.bytes met.offers past met.turn.event h
        (input_step site.own at salt met.turn.event met.turn.bytes h))
        (ap (λ (m : Managed). record g1 { managed = m }) (sym managed1))
        (input_runs site at salt met.turn.bytes met.offers past g1.dhcp4 g1.local g1.dhcp6 met.turn.event g1.up g1.stopped carrier1)

    client2 : input.iface.dhcp6 ≡ (run6 runs.call at salt c1).client
    client2 = runs.client_is ∙ ap (λ (d : ClientContent). (run6 runs.call at salt d).client) client1

    ignores_off : runs.call ≡ Ignores → c1.state ≡ Off
    ignores_off is = tick_off at salt c0 (stands.off (sym stopped1 ∙ runs.ignores is))

    not_or : (a b : Bool) → (a || b) ≡ false → b ≡ false
    not_or true b h = absurd cc
    not_or false b h = h

    stands_then : Stands site (entry_of met ∷ past) input.iface
    stands_then = record {
      managed = runs.managed ∙ managed1;
      carrier = λ h.
          let before : g1.stopped ≡ false = not_or (is_stop met.turn.event) g1.stopped (sym runs.stopped ∙ h) in
          runs.up before ∙ ap (carrier_after (index_at site) met.turn.event) (carrier1 before);
      off = λ h. ap (λ (d : ClientContent). d.state) client2 ∙ run_off at salt runs.call c1 (runs.halts h) ignores_off;
      settings = ap (λ (d : ClientContent). d.settings) client2 ∙ call_settings runs.call at salt c1 ∙ settings1;
    }

    says_are : sixes (tick.said ++ input.said) ≡ said (tick_turned at salt c0) ++ said (run6 runs.call at salt c1)
    says_are =
        let first : sixes tick.said ≡ said (tick_turned at salt c0) =
        does.says_are ∙ says_same g.managed g.dhcp6 c0 (tick_turned at salt) (same.managed ∙ stands.managed) same.client stands.settings in
        let second : sixes input.said ≡ said (run6 runs.call at salt c1) =
        runs.says_are ∙ says_same g1.managed g1.dhcp6 c1 (run6 runs.call at salt) managed1 client1 settings1 in
        sixes_join tick.said input.said ∙ (λ i. first i ++ second i)

    -- ---- what is granted

    no_message : (message : Content6) → message6_at site (entry_of met) ≡ None → message6_at site (entry_of met) ≡ Some message → ⊥
    no_message message none came = unlike message (sym none ∙ came)
      where
        unlike : (message : Content6) → None ≡ Some message → ⊥
        unlike message h = cc

    -- a call by which no Reply grants a lease, where none else came in
    grants_none : (call : Call6) → FitsCall6 site (entry_of met) past call → (call ≡ Ignores → c1.state ≡ Off) → GrantsNoneBy call at c1
        → GrantsNone site met f
    grants_none Ignores fits off none message given came grants = counts_not c1 message (off refl) grants.counted
    grants_none Rests fits off none message given came grants = no_message message fits.1 came
    grants_none (Hears heard) fits off none message given came grants = none message given (ap Hears (one_is heard message (sym fits.1 ∙ came))) grants
      where
        one_is : (one other : Content6) → Some one ≡ Some other → one ≡ other
        one_is one other is = cc
    grants_none Begins fits off none message given came grants = no_message message fits.1 came
    grants_none Drops fits off none message given came grants = no_message message fits came
    grants_none (Contests address) fits off none message given came grants = no_message message fits.1 came
    grants_none (Releases tell) fits off none message given came grants = no_message message fits came
    grants_none Rebinds fits off none message given came grants = no_message message fits.1 came

    -- the lease was kept before the turn, or is granted in it
    abbrev KeptOrGranted : Lease6Content → Type 0
    KeptOrGranted lease =
        (WasKept f.dhcp6.kept lease × GrantsNone site met f)
        ⊎ ((message : Content6) × (message6_at site (entry_of met) ≡ Some message) × IsGranting at message c1 lease
        × (sixes (tick.said ++ input.said) ≡ said (tick_turned at salt c0) ++ said (hears_turned at salt message c1)))

    by_call : (lease : Lease6Content) (call : Call6) → FitsCall6 site (entry_of met) past call → (call ≡ Ignores → c1.state ≡ Off)
        → sixes (tick.said ++ input.said) ≡ said (tick_turned at salt c0) ++ said (run6 call at salt c1)
        → (WasKept c1.kept lease × GrantsNoneBy call at c1) ⊎ GrantsBy call at c1 lease → KeptOrGranted lease
    by_call lease call fits off says (inl (was, none)) =
        let before : WasKept f.dhcp6.kept was.before =
        subst (λ (kept : Option Lease6Content). Less f.dhcp6.kept kept) was.was (tick_less at salt c0) in
        inl (kept_both f.dhcp6.kept was.before lease before was.left, grants_none call fits off none)
    by_call lease call fits off says (inr grants) =
        let heard : FitsCall6 site (entry_of met) past (Hears grants.message) =
        subst (λ (k : Call6). FitsCall6 site (entry_of met) past k) grants.is_call fits in
        inr (
          grants.message,
          heard.1,
          grants.grants,
          subst (λ (k : Call6). sixes (tick.said ++ input.said) ≡ said (tick_turned at salt c0) ++ said (run6 k at salt c1)) grants.is_call says,
        )

    kept_in_turn : (lease : Lease6Content) → input.iface.dhcp6.kept ≡ Some lease → KeptOrGranted lease
    kept_in_turn lease kept =
        by_call lease runs.call runs.fits ignores_off says_are
        (call_keeps runs.call at salt c1 lease (ap (λ (d : ClientContent). d.kept) (sym client2) ∙ kept))

  pub turn_stands : Stands site (entry_of met ∷ past) (iface_turned site.own met.turn f).iface
  turn_stands = stands_then (unsent_in met.turn.unsent at salt f) (unsent_same met.turn.unsent at salt f)

  granted_now : (lease : Lease6Content)
      → KeptOrGranted (unsent_in met.turn.unsent at salt f) (unsent_same met.turn.unsent at salt f) lease
      → (WasKept f.dhcp6.kept lease × GrantsNone site met f) ⊎ GrantsIn site lease met f
  granted_now lease (inl was) = inl was
  granted_now lease (inr (message, came, grants, says)) = inr (record {
    granted = record {
      message = message;
      came = came;
      given = lease;
      grants = grants;
      left = left_self lease;
      origin = granted_origin at message c1 lease grants ∙ ap (λ (s : SettingsContent). Some (record { mac = s.site.iface.mac; confirmed = at })) settings1;
    };
    hears = record { came = came; says_are = says };
  })

  pub turn_keeps : (lease : Lease6Content) → (iface_turned site.own met.turn f).iface.dhcp6.kept ≡ Some lease
      → (WasKept f.dhcp6.kept lease × GrantsNone site met f) ⊎ GrantsIn site lease met f
  turn_keeps lease kept =
      granted_now lease (kept_in_turn (unsent_in met.turn.unsent at salt f) (unsent_same met.turn.unsent at salt f) lease kept)

-- ---- the opening

module _ (own : List Mac) (beginning : Beginning) (opening : Opening) where
  abbrev life : Site
  life = site_of own beginning opening

  abbrev iface : List Met → Iface
  iface mets = iface_after own beginning opening mets

  abbrev made : ClientContent
  made = client_made (settings6_of beginning.duid beginning.managed) beginning.kept6

  abbrev up : Bool
  up = is_up opening.up beginning.managed.spec.index.number

  abbrev opened_when : Bool → Iface
  opened_when u = (carrier_at_opening u opening.at opening.salt (resting beginning)).iface

  begins_less : (runs : Bool) → Less beginning.kept6 (begins_or_rests opening.at opening.salt runs made).client.kept
  begins_less true = carrier_less Up opening.at opening.salt made
  begins_less false = less_self beginning.kept6

  begins_settings : (runs : Bool) → (begins_or_rests opening.at opening.salt runs made).client.settings ≡ made.settings
  begins_settings true = (settings_stay made opening.at opening.salt).carrier Up
  begins_settings false = refl

  abbrev coming : Iface
  coming = record (resting beginning) { up = true }

  opened_stands : (u : Bool) → up ≡ u → Stands life (opening_entry opening ∷ []) (opened_when u)
  opened_stands true is =
      let does = begins_run opening.at opening.salt coming in
      record {
        managed = does.managed;
        carrier = λ h. does.up ∙ sym is;
        off = λ h. absurd (both_ways _ does.stopped h);
        settings = ap (λ (d : ClientContent). d.settings) does.client_is ∙ begins_settings (runs_dhcp6 beginning.managed.conf);
      }
  opened_stands false is = record { managed = refl; carrier = λ h. sym is; off = λ h. absurd cc; settings = refl }

  opened_less : (u : Bool) → Less beginning.kept6 (opened_when u).dhcp6.kept
  opened_less true =
      subst (λ (d : ClientContent). Less beginning.kept6 d.kept) (sym (begins_run opening.at opening.salt coming).client_is)
      (begins_less (runs_dhcp6 beginning.managed.conf))
  opened_less false = less_self beginning.kept6

  -- ---- all turns

  pub stands_after : (mets : List Met) → Stands life (shown opening mets) (iface mets)
  stands_after [] = opened_stands up refl
  stands_after (met ∷ mets) = turn_stands life (shown opening mets) met (iface mets) (stands_after mets)

  abbrev pub None6 : Met → List Met → Type 0
  None6 met earlier = GrantsNone life met (iface earlier)

  abbrev pub Granted : Lease6Content → List Met → Type 0
  Granted lease mets = Since None6 (λ met earlier. GrantsIn life lease met (iface earlier)) mets

  grants_less : (middle lease : Lease6Content) → IsLeftOf middle lease → (met : Met) (f : Iface) → GrantsIn life middle met f → GrantsIn life lease met f
  grants_less middle lease left met f g =
      let was : IsGrantedIn life middle met f = g.granted in
      record {
        granted = record {
          message = was.message;
          came = was.came;
          given = was.given;
          grants = was.grants;
          left = left_both was.given middle lease was.left left;
          origin = ap (λ (l : Lease6Content). l.origin) left.rest ∙ was.origin;
        };
        hears = g.hears;
      }

  granted_less : (middle lease : Lease6Content) → IsLeftOf middle lease → (mets : List Met) → Granted middle mets → Granted lease mets
  granted_less middle lease left [] since = since
  granted_less middle lease left (met ∷ mets) (inl g) = inl (grants_less middle lease left met (iface mets) g)
  granted_less middle lease left (met ∷ mets) (inr since) = inr (since.0, granted_less middle lease left mets since.1)

  abbrev pub KeptOrGrantedSo : Lease6Content → List Met → Type 0
  KeptOrGrantedSo lease mets = (WasKept beginning.kept6 lease × Always None6 mets) ⊎ Granted lease mets

  later : (met : Met) (mets : List Met) (middle lease : Lease6Content) → IsLeftOf middle lease → None6 met mets → KeptOrGrantedSo middle mets
      → KeptOrGrantedSo lease (met ∷ mets)
  later met mets middle lease left none (inl was) = inl (kept_both beginning.kept6 middle lease was.0 left, (none, was.1))
  later met mets middle lease left none (inr since) = inr (inr (none, granted_less middle lease left mets since))

  pub kept_or_granted : (mets : List Met) (lease : Lease6Content) → (iface mets).dhcp6.kept ≡ Some lease → KeptOrGrantedSo lease mets
  kept_or_granted [] lease kept = inl (subst (λ (k : Option Lease6Content). Less beginning.kept6 k) kept (opened_less up), tt)
  kept_or_granted (met ∷ mets) lease kept =
      by_turn (turn_keeps life (shown opening mets) met (iface mets) (stands_after mets) lease kept) (kept_or_granted mets)
    where
      by_turn : (WasKept (iface mets).dhcp6.kept lease × None6 met mets) ⊎ GrantsIn life lease met (iface mets)
          → ((middle : Lease6Content) → (iface mets).dhcp6.kept ≡ Some middle → KeptOrGrantedSo middle mets)
          → KeptOrGrantedSo lease (met ∷ mets)
      by_turn (inl was) before = later met mets was.0.before lease was.0.left was.1 (before was.0.before was.0.was)
      by_turn (inr g) before = inr (inl g)

  granted_plain : (lease : Lease6Content) (mets : List Met) → Granted lease mets
      → Since None6 (λ met earlier. IsGrantedIn life lease met (iface earlier)) mets
  granted_plain lease [] since = since
  granted_plain lease (met ∷ mets) (inl g) = inl g.granted
  granted_plain lease (met ∷ mets) (inr since) = inr (since.0, granted_plain lease mets since.1)

  pub plainly : (lease : Lease6Content) (mets : List Met) → KeptOrGrantedSo lease mets
      → (WasKept beginning.kept6 lease × Always None6 mets) ⊎ Since None6 (λ met earlier. IsGrantedIn life lease met (iface earlier)) mets
  plainly lease mets (inl was) = inl was
  plainly lease mets (inr since) = inr (granted_plain lease mets since)

pub kept_leases_are_granted : KeptLeasesAreGranted6
kept_leases_are_granted own beginning opening mets lease kept =
    plainly own beginning opening lease mets (kept_or_granted own beginning opening mets lease kept)
