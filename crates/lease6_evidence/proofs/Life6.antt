-- Over each life of an interface its DHCPv6 client carries the basis of what it holds.
use Rattle.std.proofs.Common.{◌≡◌, ℕ, ◌^◌, ◌<◌, Bool, true, false, ◌||◌, List, ◌∷◌, ◌++◌, Option, Some, None, IfSome, refl, sym, ap, ◌∙◌, subst, is_some}
use Rattle.std.specs.List.{AllByRecursion}
use Rattle.std.specs.Option.{option_map}
use Rattle.std.specs.Prelude.{◌==◌, option_to_list}
use Rattle.machine.specs.Moment.{is_due}
use Rattle.net_types.proofs.CaseLaws.{gated}
use Rattle.net_types.specs.Marks.{AreBytes}
use Rattle.v6_message.specs.Replies.{Content6}
use Rattle.v6_frames.specs.Heard.{HeardMessage6}
use Rattle.v6_frames.specs.Spelled.{Sent6}
use Rattle.v6_client.specs.declared.states.State6.{State6}
use Rattle.v6_client.specs.declared.states.State6.TheVariants.{Off}
use Rattle.v6_client.specs.V6Items.declared.scope.Cause6.TheVariants.{Lapse}
use Rattle.v6_client.specs.Calls.{dates_in, due_of}
use Rattle.v6_client.specs.Clients.{ClientContent, turn_of}
use Rattle.v6_client.specs.Moves.{parting_at}
use Rattle.v6_client.specs.Runs.{Turned6, release_turned, tick_turned}
use Rattle.v6_client.specs.Settings.{SettingsContent}
use Rattle.v6_client.specs.Ticks.{tick_row}
use Rattle.v6_client.proofs.SettingsStay.{settings_stay}
use Rattle.world.specs.declared.wakes.Event.{Event}
use Rattle.world.specs.declared.wakes.Event.TheVariants.{Frame, Carrier, Duplicate, Release, Rebind, Stop, Quiet, End}
use Rattle.settings.specs.declared.interfaces.Managed.{Managed}
use Rattle.script_model.specs.IfaceSets.{is_in}
use Rattle.lease_evidence.specs.ClientModel.declared.interfaces.Iface.{Iface}
use Rattle.lease_evidence.specs.ClientModel.ClientSettings6.{settings6_of}
use Rattle.lease_evidence.specs.ClientModel.IfaceSteps.{IfaceStep, index_of, then_step}
use Rattle.lease_evidence.specs.ClientModel.IfaceTurns.{iface_turned, input_step}
use Rattle.lease_evidence.specs.ClientModel.Interfaces.{ticked, unsent_in}
use Rattle.lease_evidence.specs.EvidenceWords.Entries.{Entry}
use Rattle.lease_evidence.specs.EvidenceWords.IfaceLives.{IsSaid}
use Rattle.lease_evidence.specs.EvidenceWords.Inputs.{Site, carrier_after, has_carrier, index_at, is_stop, is_stopped}
use Rattle.lease6_evidence.specs.Exchanges6.{Seen6, seen6_in, shows6}
use Rattle.lease6_evidence.specs.Replies6.{message6_on}
use Rattle.lease6_evidence.proofs.Bytes6.{HasBytes, heard_typed}
use Rattle.lease6_evidence.proofs.ClientTurns6.{Carries6, FitsSite, call_carries, call_result, tick_carries, tick_result}
use Rattle.lease6_evidence.proofs.FieldRuns6.{BytesFor}
use Rattle.lease6_evidence.proofs.Spoken6.{FitsFour, FitsOwn, seen_after, talk_of}
use Rattle.lease6_evidence.proofs.Standing6.{Standing6}
use Rattle.lease6_evidence.proofs.StandingCalls6.{IsHalted, call_standing, release_off, tick_standing}
use Rattle.lease6_evidence.proofs.Steps6.{Does, message_in, sixes, sixes_join}
use Rattle.lease6_evidence.proofs.Turns6.{Call6, Begins, Contests, Drops, FitsCall6, Hears, Ignores, InputRuns, IsHalt, Rebinds, Releases, Rests, input_runs, run6, says_of, ticks_run}

-- ---- what came is bytes

shown_bytes : (heard : Option HeardMessage6) → IfSome heard (λ h. AreBytes h.message.options)
    → IfSome (option_map (λ h. h.message) heard) HasBytes
shown_bytes None h = tt
shown_bytes (Some heard) h = h

on_bytes : (site : Site) (event : Event) (bytes : List ℕ) → AreBytes bytes
    → IfSome (message6_on site event bytes) (λ h. AreBytes h.message.options)
on_bytes site (Frame index len) bytes octets =
    gated (λ (o : Option HeardMessage6). IfSome o (λ h. AreBytes h.message.options)) (index_at site == index) _ None
    (heard_typed site.managed.spec.mac bytes octets) tt
on_bytes site (Carrier index up) bytes octets = tt
on_bytes site (Duplicate index address) bytes octets = tt
on_bytes site (Release index) bytes octets = tt
on_bytes site (Rebind index) bytes octets = tt
on_bytes site Stop bytes octets = tt
on_bytes site Quiet bytes octets = tt
on_bytes site End bytes octets = tt

bytes_for : (site : Site) (e : Entry) (past : List Entry) → AreBytes e.bytes → (call : Call6) → FitsCall6 site e past call
    → BytesFor call
bytes_for site e past octets (Hears message) fit =
    subst (λ (o : Option Content6). IfSome o HasBytes) fit.1 (shown_bytes (message6_on site e.event e.bytes)
    (on_bytes site e.event e.bytes octets))
bytes_for site e past octets Ignores fit = tt
bytes_for site e past octets Rests fit = tt
bytes_for site e past octets Begins fit = tt
bytes_for site e past octets Drops fit = tt
bytes_for site e past octets (Contests address) fit = tt
bytes_for site e past octets (Releases tell) fit = tt
bytes_for site e past octets Rebinds fit = tt

-- ---- a client that is off

tick_off : (at salt : ℕ) (c : ClientContent) → c.state ≡ Off → (tick_turned at salt c).client.state ≡ Off
unfolding tick_turned
tick_off at salt c off =
    gated (λ (turned : Turned6). turned.client.state ≡ Off) (is_due (due_of c) at) _ _
    (subst (λ (s : State6). (tick_row (turn_of at salt c) (dates_in c) (parting_at (Lapse at) c) s).state ≡ Off) (sym off)
    refl) off

run_off : (at salt : ℕ) (call : Call6) (c : ClientContent) → IsHalt call → (call ≡ Ignores → c.state ≡ Off)
    → (run6 call at salt c).client.state ≡ Off
unfolding release_turned
run_off at salt Ignores c h off = off refl
run_off at salt (Releases tell) c h off = release_off (turn_of at salt c) tell (is_some c.kept) c.state
run_off at salt Rests c h off = absurd h
run_off at salt (Hears message) c h off = absurd h
run_off at salt Begins c h off = absurd h
run_off at salt Drops c h off = absurd h
run_off at salt (Contests address) c h off = absurd h
run_off at salt Rebinds c h off = absurd h

-- ---- what an interface carries

pub record Faced6 (site : Site) (now : ℕ) (past : List Entry) (f : Iface) : Type 0 where
  pub managed : f.managed ≡ site.managed
  pub stopped : f.stopped ≡ is_stopped past
  pub carrier : f.stopped ≡ false → f.up ≡ has_carrier site past
  pub off : f.stopped ≡ true → f.dhcp6.state ≡ Off
  pub client : Carries6 site now (seen6_in site past) past f.dhcp6
  pub standing : Standing6 site now None past f.dhcp6

-- ---- a turn

-- what a failed send of the turn before undoes is nothing to DHCPv6
record IsSame (f g : Iface) : Type 0 where
  managed : g.managed ≡ f.managed
  up : g.up ≡ f.up
  stopped : g.stopped ≡ f.stopped
  client : g.dhcp6 ≡ f.dhcp6

unsent_same : (set at salt : ℕ) (f : Iface) → IsSame f (unsent_in set at salt f)
unsent_same set at salt f =
    gated (λ (g : Iface). IsSame f g) (is_in set (index_of f)) _ _
    (record { managed = refl; up = refl; stopped = refl; client = refl })
    (record { managed = refl; up = refl; stopped = refl; client = refl })

module _ (site : Site) (fits : FitsSite site) (now : ℕ) (past : List Entry) (e : Entry) (early : e.moment < 10 ^ 15)
    (octets : AreBytes e.bytes) (salt : ℕ)
    (f : Iface) (faced : Faced6 site now past f) where
  abbrev c0 : ClientContent
  c0 = f.dhcp6

  abbrev c1 : ClientContent
  c1 = (tick_turned e.moment salt c0).client

  abbrev said : Turned6 → Option Sent6
  said turned = message_in site.managed.spec.mac site.duid turned.out

  -- the messages of a client, by what is known of it
  says_same : (m : Managed) (d c : ClientContent) (call : ClientContent → Turned6) → m ≡ site.managed → d ≡ c
      → c.settings ≡ settings6_of site.duid site.managed
      → option_to_list (message_in m.spec.mac d.settings.duid (call d).out) ≡ option_to_list (said (call c))
  says_same m d c call same client_is settings =
      let duid : d.settings.duid ≡ site.duid = ap (λ (x : ClientContent). x.settings.duid) client_is
      ∙ ap (λ (s : SettingsContent). s.duid) settings in
      λ i. option_to_list (message_in (same i).spec.mac (duid i) (call (client_is i)).out)

  module _ (g : Iface) (same : IsSame f g) where
    abbrev tick : IfaceStep
    tick = ticked e.moment salt g

    abbrev g1 : Iface
    g1 = tick.iface

    does : Does g (tick_turned e.moment salt g.dhcp6).client (says_of g (tick_turned e.moment salt g.dhcp6)) tick
    does = ticks_run e.moment salt g

    managed1 : g1.managed ≡ site.managed
    managed1 = does.managed ∙ same.managed ∙ faced.managed

    up1 : g1.up ≡ f.up
    up1 = does.up ∙ same.up

    stopped1 : g1.stopped ≡ f.stopped
    stopped1 = does.stopped ∙ same.stopped

    client1 : g1.dhcp6 ≡ c1
    client1 = does.client_is ∙ ap (λ (d : ClientContent). (tick_turned e.moment salt d).client) same.client

    settings0 : c0.settings ≡ settings6_of site.duid site.managed
    settings0 = faced.client.watched.settings

    settings1 : c1.settings ≡ settings6_of site.duid site.managed
    settings1 = (settings_stay c0 e.moment salt).tick ∙ settings0

    abbrev input : IfaceStep
    input = input_step site.own e.moment salt e.event e.bytes g1

    carrier1 : g1.stopped ≡ false → g1.up ≡ has_carrier site past
    carrier1 h = up1 ∙ faced.carrier (sym stopped1 ∙ h)

    runs : InputRuns site e.moment salt e.bytes e.offers past e.event g1 input
    runs =
        subst (λ (h : Iface). InputRuns site e.moment salt e.bytes e.offers past e.event h
        (input_step site.own e.moment salt e.event e.bytes h))
        (ap (λ (m : Managed). record g1 { managed = m }) (sym managed1))
        (input_runs site e.moment salt e.bytes e.offers past g1.dhcp4 g1.local g1.dhcp6 e.event g1.up g1.stopped carrier1)

    abbrev call : Call6
    call = runs.call

    call_bytes : BytesFor call
    call_bytes = bytes_for site e past octets call runs.fits

    ignores_off : call ≡ Ignores → c1.state ≡ Off
    ignores_off is = tick_off e.moment salt c0 (faced.off (sym stopped1 ∙ runs.ignores is))

    after_tick : Carries6 site e.moment (shows6 (said (tick_turned e.moment salt c0)) (seen6_in site past)) past c1
    after_tick = tick_carries site fits now e.moment salt (seen6_in site past) past c0 faced.client

    abbrev step : IfaceStep
    step = then_step tick (input_step site.own e.moment salt e.event e.bytes)

    says_are : sixes step.said ≡ option_to_list (said (tick_turned e.moment salt c0)) ++ option_to_list
        (said (run6 call e.moment salt c1))
    says_are =
        let first : sixes tick.said ≡ option_to_list (said (tick_turned e.moment salt c0)) =
        does.says_are ∙ says_same g.managed g.dhcp6 c0 (tick_turned e.moment salt) (same.managed ∙ faced.managed)
        same.client settings0 in
        let second : sixes input.said ≡ option_to_list (said (run6 call e.moment salt c1)) =
        runs.says_are ∙ says_same g1.managed g1.dhcp6 c1 (run6 call e.moment salt) managed1 client1 settings1 in
        sixes_join tick.said input.said ∙ (λ i. first i ++ second i)

    client2 : input.iface.dhcp6 ≡ (run6 call e.moment salt c1).client
    client2 = runs.client_is ∙ ap (λ (d : ClientContent). (run6 call e.moment salt d).client) client1

    standing1 : Standing6 site e.moment (said (tick_turned e.moment salt c0)) past c1
    standing1 = tick_standing site past now e.moment salt c0 faced.standing

    ignores_halted : call ≡ Ignores → IsHalted site e past salt (said (tick_turned e.moment salt c0)) c1
    ignores_halted is =
        record { off = ignores_off is; stopped = sym faced.stopped ∙ sym stopped1 ∙ runs.ignores is }

    abbrev seen1 : Seen6
    seen1 = shows6 (said (tick_turned e.moment salt c0)) (seen6_in site past)

    abbrev said_first : Option Sent6
    said_first = said (tick_turned e.moment salt c0)

    abbrev said_then : Option Sent6
    said_then = said (run6 call e.moment salt c1)

    -- what is known of both messages
    first_fits : IfSome said_first (FitsOwn site)
    first_fits = (tick_result site fits e.moment salt c0 settings0 faced.client.fields).says

    then_fits : IfSome said_then (FitsOwn site)
    then_fits = (call_result site fits call e.moment salt c1 call_bytes settings1 after_tick.sound after_tick.fields).says

    turn_seen : IsSaid site e step → AllByRecursion FitsFour step.said → seen6_in site (e ∷ past) ≡ shows6 said_then seen1
    turn_seen is four = seen_after site fits.mac e past step said_first said_then is says_are four first_fits then_fits

    turn_carries : IsSaid site e step → AllByRecursion FitsFour step.said
        → Carries6 site e.moment (seen6_in site (e ∷ past)) (e ∷ past) (run6 call e.moment salt c1).client
    turn_carries is four =
        call_carries site fits e early past salt seen1 c1 after_tick call runs.fits call_bytes ignores_off
        (λ fresh. (standing1.may fresh).same) (turn_seen is four)

    turn_standing : IsSaid site e step → AllByRecursion FitsFour step.said
        → Standing6 site e.moment None (e ∷ past) (run6 call e.moment salt c1).client
    turn_standing is four =
        call_standing site e past salt said_first call runs.fits seen1 c1 after_tick.watched after_tick.sound ignores_halted
        standing1 (turn_seen is four)
        (talk_of site fits.mac e step said_first said_then is says_are four first_fits then_fits)

    not_or : (a b : Bool) → (a || b) ≡ false → b ≡ false
    not_or true b h = absurd cc
    not_or false b h = h

    turn_faced : IsSaid site e step → AllByRecursion FitsFour step.said → Faced6 site e.moment (e ∷ past) step.iface
    turn_faced is four = record {
      managed = runs.managed ∙ managed1;
      stopped = runs.stopped ∙ ap (λ (b : Bool). is_stop e.event || b) (stopped1 ∙ faced.stopped);
      carrier = λ h.
          let before : g1.stopped ≡ false = not_or (is_stop e.event) g1.stopped (sym runs.stopped ∙ h) in
          runs.up before ∙ ap (carrier_after (index_at site) e.event) (carrier1 before);
      off = λ h. ap (λ (d : ClientContent). d.state) client2 ∙ run_off e.moment salt call c1 (runs.halts h) ignores_off;
      client = subst (λ (d : ClientContent). Carries6 site e.moment (seen6_in site (e ∷ past)) (e ∷ past) d) (sym client2)
          (turn_carries is four);
      standing = subst (λ (d : ClientContent). Standing6 site e.moment None (e ∷ past) d) (sym client2) (turn_standing is four);
    }

  pub turned_faced : (unsent : ℕ)
      → IsSaid site e (iface_turned site.own (record {
        at = e.moment;
        salt = salt;
        unsent = unsent;
        event = e.event;
        bytes =
            e.bytes;
      }) f)
      → AllByRecursion FitsFour
      (iface_turned site.own (record { at = e.moment; salt = salt; unsent = unsent; event = e.event; bytes = e.bytes })
      f).said
      → Faced6 site e.moment (e ∷ past)
      (iface_turned site.own (record { at = e.moment; salt = salt; unsent = unsent; event = e.event; bytes = e.bytes })
      f).iface
  turned_faced unsent is four = turn_faced (unsent_in unsent e.moment salt f) (unsent_same unsent e.moment salt f) is four
