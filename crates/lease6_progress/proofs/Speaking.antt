-- What an interface says of DHCPv6 in a turn is what its client says.
use Rattle.std.proofs.Common.{◌≡◌, ℕ, true, false, List, [], ◌∷◌, ◌++◌, map, Option, Some, None, refl, sym, ap, subst, ◌∙◌}
use Rattle.std.specs.Prelude.{option_to_list}
use Rattle.net_types.proofs.CaseLaws.{gated, split}
use Rattle.net_types.specs.declared.address.Mac.{Mac}
use Rattle.frame_link.specs.declared.arp.ArpView.{ArpView}
use Rattle.arp_acd.specs.declared.detection.ArpSay.{ArpSay}
use Rattle.v4_frames.specs.Heard as dhcp4
use Rattle.v4_client.specs.Calls.{arp_step, heard_step, rebind_step}
use Rattle.v4_client.specs.Clients as four
use Rattle.v4_client.specs.History.{tick_step}
use Rattle.v4_client.specs.declared.states.Say4.{Say4}
use Rattle.v4_client.specs.declared.states.Step4.{Step4}
use Rattle.v6_frames.specs.Heard.{HeardMessage6, heard6_in}
use Rattle.v6_frames.specs.Spelled.{Sent6}
use Rattle.v6_client.specs.Clients.{ClientContent}
use Rattle.v6_client.specs.Runs.{rebind_turned, tick_turned}
use Rattle.v6_client.specs.Saying.{SpokenContent}
use Rattle.v6_client.proofs.SettingsStay.{settings_stay}
use Rattle.ipv4ll.specs.declared.link_local.LinkLocal.{LinkLocal}
use Rattle.ipv4ll.specs.Table.{ll_hears, ll_tick}
use Rattle.world.specs.declared.wakes.Event.{Event}
use Rattle.world.specs.declared.wakes.Event.TheVariants as event
use Rattle.settings.specs.declared.interfaces.Managed.{Managed}
use Rattle.client_model.specs.declared.interfaces.Iface.{Iface}
use Rattle.client_model.specs.ClientSettings.{runs_dhcp4}
use Rattle.client_model.specs.ClientSettings6.{runs_dhcp6}
use Rattle.client_model.specs.Dhcp4Steps.{arms, arrival_at, dhcp4_packet, holds_lease, rebind_dhcp4, said_in, tick_dhcp4}
use Rattle.client_model.specs.Dhcp6Steps.{rebind_dhcp6, tick_dhcp6}
use Rattle.client_model.specs.IfaceSteps.{IfaceStep}
use Rattle.client_model.specs.IfaceTurns.{Turn, arp_heard, hears_either, iface_turned, input_step}
use Rattle.client_model.specs.Interfaces.{machines_rebind, ticked, unsent_in}
use Rattle.client_model.specs.LocalSteps.{local_hears, tick_local}
use Rattle.client_model.specs.Messages.{Said, Arp, Dhcp4, Dhcp6}
use Rattle.client_model.specs.Runs.{iface_run}
use Rattle.lease6_progress.specs.ClientTurns.{acts_in, client_run, takes, takes_in}
use Rattle.lease6_progress.specs.GoingWell.{CarrierStays}
use Rattle.lease6_progress.specs.InterfaceHolds.{ClientsSpeak}
use Rattle.lease6_progress.specs.InterfaceTurns.{begun, heard_as, input_for, is_own, messages6, sent_from, start_for, turn_for, turns_for}
use Rattle.lease6_progress.proofs.Interface.{Stands, arms_stand, arp_no_six, four_no_six, four_rebinds, shaped, ticked_stands, unsent_stands}
use Rattle.lease6_progress.proofs.Interfaces.{stands}
use Rattle.lease6_progress.proofs.Turning.{run_settings}

-- ---- messages

joined : (said more : List Said) → messages6 (said ++ more) ≡ messages6 said ++ messages6 more
joined [] more = refl
joined (Dhcp4 say ∷ said) more = joined said more
joined (Arp say ∷ said) more = joined said more
joined (Dhcp6 sent ∷ said) more = ap (λ (rest : List Sent6). sent ∷ rest) (joined said more)

no_arp : (say : Option ArpSay) → messages6 (map Arp (option_to_list say)) ≡ []
no_arp None = refl
no_arp (Some say) = refl

no_four : (step : Step4) → messages6 (said_in step) ≡ []
no_four step = by_parts step.say step.arp
  where
    by_parts : (say : Option Say4) (arp : Option ArpSay) → messages6 (map Dhcp4 (option_to_list say) ++ map Arp (option_to_list arp)) ≡ []
    by_parts None None = refl
    by_parts None (Some arp) = refl
    by_parts (Some say) None = refl
    by_parts (Some say) (Some arp) = refl

none_both : (said more : List Said) → messages6 said ≡ [] → messages6 more ≡ [] → messages6 (said ++ more) ≡ []
none_both said more one two = joined said more ∙ (λ i. one i ++ two i)

none_first : (said more : List Said) (says : List Sent6) → messages6 said ≡ [] → messages6 more ≡ says → messages6 (said ++ more) ≡ says
none_first said more says one two = joined said more ∙ (λ i. one i ++ two i)

module _ (managed : Managed) (runs : runs_dhcp6 managed.conf ≡ true) (own : List Mac) (at salt : ℕ) where
  abbrev says : (duid : List ℕ) → Option SpokenContent → List Sent6
  says duid say = map (sent_from managed duid) (option_to_list say)

  own_message : (duid : List ℕ) (say : Option SpokenContent)
      → messages6 (map (λ spoken. Dhcp6 (sent_from managed duid spoken)) (option_to_list say)) ≡ says duid say
  own_message duid None = refl
  own_message duid (Some spoken) = refl

  module _ (c4 : four.ClientContent) (local : LinkLocal) (c : ClientContent) where
    abbrev it : Iface
    it = shaped managed c4 local c

    abbrev duid : List ℕ
    duid = c.settings.duid

    tick_says : messages6 (ticked at salt it).said ≡ says duid (tick_turned at salt c).out.say
    tick_says =
        none_first ((tick_dhcp4 at salt it).said ++ (tick_local at salt (tick_dhcp4 at salt it).iface).said)
        (tick_dhcp6 at salt (tick_local at salt (tick_dhcp4 at salt it).iface).iface).said
        (says duid (tick_turned at salt c).out.say)
        (none_both (tick_dhcp4 at salt it).said (tick_local at salt (tick_dhcp4 at salt it).iface).said (no_four (tick_step at salt c4))
        (no_arp (ll_tick (tick_dhcp4 at salt it).iface.local at salt).out.arp))
        (own_message duid (tick_turned at salt c).out.say)

    either_says : (arp : Option ArpView) (message4 : Option dhcp4.HeardMessage) (message6 : Option HeardMessage6)
        → ((packet : ArpView) → arp ≡ Some packet → message6 ≡ None)
        → ((heard : dhcp4.HeardMessage) → message4 ≡ Some heard → message6 ≡ None)
        → messages6 (hears_either own at salt arp message4 message6 it).said ≡ says duid (takes at salt (heard_as message6) c).out.say
    either_says (Some packet) message4 message6 one two =
        subst (λ (m : Option HeardMessage6). messages6 (hears_either own at salt (Some packet) message4 message6 it).said
        ≡ says duid (takes at salt (heard_as m) c).out.say) (sym (one packet refl))
        (none_both (dhcp4_packet own at salt packet it).said (local_hears own at salt packet (dhcp4_packet own at salt packet it).iface).said
        (no_four (arp_step own at salt packet c4))
        (no_arp (ll_hears own (dhcp4_packet own at salt packet it).iface.local packet at salt).out.arp))
    either_says None (Some heard) message6 one two =
        subst (λ (m : Option HeardMessage6). messages6 (hears_either own at salt None (Some heard) message6 it).said
        ≡ says duid (takes at salt (heard_as m) c).out.say) (sym (two heard refl)) (no_four (heard_step salt (arrival_at at heard) c4))
    either_says None None (Some heard) one two = own_message duid (takes at salt (heard_as (Some heard)) c).out.say
    either_says None None None one two = refl

    four_says : messages6 (rebind_dhcp4 at salt it).said ≡ []
    four_says = gated (λ (step : IfaceStep). messages6 step.said ≡ []) (runs_dhcp4 managed.conf) _ _ (no_four (rebind_step at salt c4)) refl

    arms_says : messages6 (arms at it).said ≡ []
    arms_says = gated (λ (step : IfaceStep). messages6 step.said ≡ []) (holds_lease it) _ _ refl refl

    six_says : messages6 (rebind_dhcp6 at salt it).said ≡ says duid (rebind_turned at salt c).out.say
    six_says = rw runs (own_message duid (rebind_turned at salt c).out.say)

  rebinds_say : (c4 : four.ClientContent) (local : LinkLocal) (c : ClientContent)
      → messages6 (machines_rebind at salt (shaped managed c4 local c)).said ≡ says c.settings.duid (rebind_turned at salt c).out.say
  rebinds_say c4 local c =
      let iface : Iface = shaped managed c4 local c in
      let one : Stands managed c (rebind_dhcp4 at salt iface).iface = four_rebinds managed runs own at salt c4 local c in
      let two : Stands managed c (arms at (rebind_dhcp4 at salt iface).iface).iface =
      subst (λ (i : Iface). Stands managed c (arms at i).iface) (sym one.is) (arms_stand managed runs own at salt one.c4 one.local c) in
      none_first ((rebind_dhcp4 at salt iface).said ++ (arms at (rebind_dhcp4 at salt iface).iface).said)
      (rebind_dhcp6 at salt (arms at (rebind_dhcp4 at salt iface).iface).iface).said
      (says c.settings.duid (rebind_turned at salt c).out.say)
      (none_both (rebind_dhcp4 at salt iface).said (arms at (rebind_dhcp4 at salt iface).iface).said (four_says c4 local c)
      (subst (λ (i : Iface). messages6 (arms at i).said ≡ []) (sym one.is) (arms_says one.c4 one.local c)))
      (subst (λ (i : Iface). messages6 (rebind_dhcp6 at salt i).said ≡ says c.settings.duid (rebind_turned at salt c).out.say) (sym two.is)
      (six_says two.c4 two.local c))

  module _ (c4 : four.ClientContent) (local : LinkLocal) (c : ClientContent) where
    input_says : (e : Event) (bytes : List ℕ) → CarrierStays (input_for managed e bytes)
        → messages6 (input_step own at salt e bytes (shaped managed c4 local c)).said
        ≡ says c.settings.duid (takes at salt (input_for managed e bytes) c).out.say
    input_says (event.Frame index len) bytes stays =
        split (is_own managed index)
        (λ mine. rw mine (either_says c4 local c (arp_heard bytes) (dhcp4.heard4_in managed.spec.mac bytes) (heard6_in managed.spec.mac bytes)
        (arp_no_six managed.spec.mac bytes) (four_no_six managed.spec.mac bytes)))
        (λ alien. rw alien refl)
    input_says (event.Carrier index true) bytes stays =
        split (is_own managed index) (λ mine. rw mine refl) (λ alien. rw alien refl)
    input_says (event.Carrier index false) bytes stays =
        split (is_own managed index) (λ mine. absurd (rw mine at stays)) (λ alien. rw alien refl)
    input_says (event.Duplicate index address) bytes stays =
        split (is_own managed index) (λ mine. rw mine (own_message c.settings.duid _)) (λ alien. rw alien refl)
    input_says (event.Release index) bytes stays =
        split (is_own managed index) (λ mine. absurd (rw mine at stays)) (λ alien. rw alien refl)
    input_says (event.Rebind index) bytes stays =
        split (is_own managed index) (λ mine. rw mine (rebinds_say c4 local c)) (λ alien. rw alien refl)
    input_says event.Stop bytes stays = absurd stays
    input_says event.Quiet bytes stays = refl
    input_says event.End bytes stays = refl

-- ---- a turn

turn_says : (managed : Managed) → runs_dhcp6 managed.conf ≡ true → (own : List Mac) (turn : Turn) (c : ClientContent) (iface : Iface)
    → Stands managed c iface → CarrierStays (input_for managed turn.event turn.bytes)
    → messages6 (iface_turned own turn iface).said
    ≡ map (sent_from managed c.settings.duid) (option_to_list (acts_in (turn_for managed turn) c).out.say)
    ++ map (sent_from managed (acts_in (turn_for managed turn) c).client.settings.duid) (option_to_list (takes_in (turn_for managed turn) c).out.say)
turn_says managed runs own turn c iface s stays =
    let sent : Stands managed c (unsent_in turn.unsent turn.at turn.salt iface) =
    subst (λ (i : Iface). Stands managed c (unsent_in turn.unsent turn.at turn.salt i)) (sym s.is)
    (unsent_stands managed runs own turn.at turn.salt s.c4 s.local c turn.unsent) in
    let tick : Stands managed (tick_turned turn.at turn.salt c).client (ticked turn.at turn.salt (unsent_in turn.unsent turn.at turn.salt iface)).iface =
    subst (λ (i : Iface). Stands managed (tick_turned turn.at turn.salt c).client (ticked turn.at turn.salt i).iface) (sym sent.is)
    (ticked_stands managed runs own turn.at turn.salt sent.c4 sent.local c) in
    let first : messages6 (ticked turn.at turn.salt (unsent_in turn.unsent turn.at turn.salt iface)).said
    ≡ map (sent_from managed c.settings.duid) (option_to_list (tick_turned turn.at turn.salt c).out.say) =
    subst (λ (i : Iface). messages6 (ticked turn.at turn.salt i).said
    ≡ map (sent_from managed c.settings.duid) (option_to_list (tick_turned turn.at turn.salt c).out.say)) (sym sent.is)
    (tick_says managed runs own turn.at turn.salt sent.c4 sent.local c) in
    let second : messages6 (input_step own turn.at turn.salt turn.event turn.bytes
    (ticked turn.at turn.salt (unsent_in turn.unsent turn.at turn.salt iface)).iface).said
    ≡ map (sent_from managed (tick_turned turn.at turn.salt c).client.settings.duid) (option_to_list (takes_in (turn_for managed turn) c).out.say) =
    subst (λ (i : Iface). messages6 (input_step own turn.at turn.salt turn.event turn.bytes i).said
    ≡ map (sent_from managed (tick_turned turn.at turn.salt c).client.settings.duid) (option_to_list (takes_in (turn_for managed turn) c).out.say))
    (sym tick.is)
    (input_says managed runs own turn.at turn.salt tick.c4 tick.local (tick_turned turn.at turn.salt c).client turn.event turn.bytes stays) in
    joined (ticked turn.at turn.salt (unsent_in turn.unsent turn.at turn.salt iface)).said _ ∙ (λ i. first i ++ second i)

pub clients_speak : ClientsSpeak
clients_speak own b up at salt answered wait turn past r fair =
    let c : ClientContent = client_run (start_for at salt b) (turns_for b.managed past) in
    let same : c.settings ≡ (start_for at salt b).settings = run_settings (start_for at salt b) (turns_for b.managed past) in
    let then_same : (acts_in (turn_for b.managed turn) c).client.settings ≡ (start_for at salt b).settings =
    (settings_stay c turn.at turn.salt).tick ∙ same in
    turn_says b.managed r.runs own turn c (iface_run own (begun up at salt b) past)
    (stands own b up at salt r answered wait past fair.1) fair.0.stays
    ∙ (λ i. map (sent_from b.managed (same i).duid) (option_to_list (acts_in (turn_for b.managed turn) c).out.say)
    ++ map (sent_from b.managed (then_same i).duid) (option_to_list (takes_in (turn_for b.managed turn) c).out.say))
