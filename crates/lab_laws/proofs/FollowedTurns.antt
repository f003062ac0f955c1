-- What an interface says of DHCPv4 in its opening and in a turn follows what it said before.
use Rattle.std.proofs.Common.{◌≡◌, ℕ, Bool, true, false, List, [], ◌∷◌, ◌++◌, map, Option, Some, None, refl, sym, subst}
use Rattle.std.specs.Prelude.{option_to_list, ◌==◌}
use Rattle.net_types.proofs.CaseLaws.{gated}
use Rattle.net_types.specs.declared.address.Mac.{Mac}
use Rattle.frame_link.specs.declared.arp.ArpView.{ArpView}
use Rattle.arp_acd.specs.declared.detection.ArpSay.{ArpSay}
use Rattle.v4_message.specs.declared.writing.Said4.{Said4}
use Rattle.v4_frames.specs.Heard.{HeardMessage, heard4_in}
use Rattle.v6_frames.specs.Heard.{HeardMessage6, heard6_in}
use Rattle.v4_client.specs.declared.states.Carrier.TheVariants.{Up, Down}
use Rattle.v4_client.specs.declared.states.Say4.{Say4}
use Rattle.v4_client.specs.declared.states.Step4.{Step4}
use Rattle.v4_client.specs.declared.states.Tell.{Tell}
use Rattle.v4_client.specs.declared.states.Tell.TheVariants.{Server}
use Rattle.v4_client.specs.Calls.{answer_to, arp_step, brought, carrier_step, heard_step, rebind_step, release_step}
use Rattle.v4_client.specs.Clients.{ClientContent, kept_terms, turn_of}
use Rattle.v4_client.specs.History.{tick_step}
use Rattle.v4_client.specs.Messages.{Arrival}
use Rattle.world.specs.declared.wakes.Event.{Event}
use Rattle.world.specs.declared.wakes.Event.TheVariants.{Frame, Carrier, Duplicate, Release, Rebind, Stop, Quiet, End}
use Rattle.v6_client.specs.Moves.{OutContent}
use Rattle.v6_client.specs.declared.states.Carrier6.TheVariants as carrier6
use Rattle.v6_client.specs.Runs.{Turned6, tick_turned, hears_turned, carrier_turned, contested_turned, release_turned, rebind_turned}
use Rattle.v6_client.specs.Saying.{SpokenContent}
use Rattle.script_model.specs.IfaceSets.{is_in, is_up}
use Rattle.client_model.specs.declared.interfaces.Iface.{Iface}
use Rattle.client_model.specs.declared.steps.News.TheVariants.{Stopped}
use Rattle.client_model.specs.ClientSettings.{runs_dhcp4}
use Rattle.client_model.specs.ClientSettings6.{runs_dhcp6}
use Rattle.client_model.specs.Messages.{Said, Dhcp4, Arp, Dhcp6}
use Rattle.client_model.specs.Dhcp4Steps.{holds_lease, said_in, dhcp4_step, dhcp4_packet, dhcp4_takes, arrival_at, begin_dhcp4, rebind_dhcp4, drop_dhcp4, stop_dhcp4, tick_dhcp4, arms, begin_local}
use Rattle.client_model.specs.Dhcp6Steps as six
use Rattle.client_model.specs.IfaceSteps.{IfaceStep, index_of, silent, then_step}
use Rattle.client_model.specs.IfaceTurns.{Turn, arp_heard, hears_either, taken, input_step, iface_turned}
use Rattle.client_model.specs.Interfaces.{begins, machines_drop, machines_stop, resting, carrier_comes, opening_told, carrier_at_opening, opened, unsent_in, ticked, carried, machines_rebind, told_at_stop, tells, halted}
use Rattle.client_model.specs.KeptLeases.{Beginning}
use Rattle.client_model.specs.LocalSteps.{local_off, local_hears, tick_local}
use Rattle.lab_laws.specs.Messages.{Start, FollowEach, MessagesFollow, messages_after, said_onto, step_after}
use Rattle.lab_laws.proofs.Following.{Drawn, On, onto, SaysWell, After, due_follows, heard_follows, arp_follows, begin_follows, rebind_follows, off_follows, release_follows, unsent_follows}

onto_both : (said more : List Said) (past : List Said4) → said_onto (said ++ more) past ≡ said_onto more (said_onto said past)
onto_both [] more past = refl
onto_both (Dhcp4 say ∷ said) more past = onto_both said more (say.said ∷ past)
onto_both (Arp say ∷ said) more past = onto_both said more past
onto_both (Dhcp6 sent ∷ said) more past = onto_both said more past

-- a client that said these messages, and where it stands
pub record Followed (c : ClientContent) (past : List Said4) : Type 0 where
  pub drawn : Drawn c.last past
  pub on : On c.state past
  pub each : FollowEach past

abbrev pub Well : List Said4 → IfaceStep → Type 0
Well past step = Followed step.iface.dhcp4 (said_onto step.said past)

-- a step that goes on well wherever an interface stands
abbrev Fine : (Iface → IfaceStep) → Type 0
Fine step = (iface : Iface) (past : List Said4) → Followed iface.dhcp4 past → Well past (step iface)

then_well : (first : IfaceStep) (next : Iface → IfaceStep) (past : List Said4) → Well past first → Fine next → Well past (then_step first next)
then_well first next past well fine =
    subst (λ (said : List Said4). Followed (next first.iface).iface.dhcp4 said) (sym (onto_both first.said (next first.iface).said past))
    (fine first.iface (said_onto first.said past) well)

-- ---- steps of DHCPv4

each_after : (say : Option Say4) (past : List Said4) → FollowEach past → SaysWell say past → FollowEach (onto say past)
each_after None past each well = each
each_after (Some say) past each well = (well, each)

said_is : (step : Step4) (past : List Said4) → said_onto (said_in step) past ≡ onto step.say past
said_is step past = by_parts step.say step.arp
  where
    by_parts : (say : Option Say4) (arp : Option ArpSay) → said_onto (map Dhcp4 (option_to_list say) ++ map Arp (option_to_list arp)) past ≡ onto say past
    by_parts None None = refl
    by_parts None (Some arp) = refl
    by_parts (Some say) None = refl
    by_parts (Some say) (Some arp) = refl

stepped : (at : ℕ) (iface : Iface) (step : Step4) (past : List Said4) → FollowEach past → After past step → Well past (dhcp4_step at iface step)
stepped at iface step past each after =
    subst (λ (said : List Said4). Followed (dhcp4_step at iface step).iface.dhcp4 said) (sym (said_is step past))
    (record { drawn = after.drawn; on = after.on; each = each_after step.say past each after.well })

ticks : (at salt : ℕ) → Fine (tick_dhcp4 at salt)
ticks at salt iface past f =
    stepped at iface (tick_step at salt iface.dhcp4) past f.each (due_follows (turn_of at salt iface.dhcp4) past f.drawn iface.dhcp4.state f.on)

takes : (at salt : ℕ) (arrival : Arrival) → Fine (dhcp4_takes at salt arrival)
takes at salt arrival iface past f =
    stepped at (record iface { dhcp4 = brought arrival iface.dhcp4 }) (heard_step salt arrival iface.dhcp4) past f.each
    (heard_follows (turn_of arrival.at salt iface.dhcp4) past f.drawn (answer_to arrival iface.dhcp4) iface.dhcp4.state f.on)

hears_arp : (own : List Mac) (at salt : ℕ) (arp : ArpView) → Fine (dhcp4_packet own at salt arp)
hears_arp own at salt arp iface past f =
    stepped at iface (arp_step own at salt arp iface.dhcp4) past f.each (arp_follows (turn_of at salt iface.dhcp4) past f.drawn own arp iface.dhcp4.state f.on)

rests_well : Fine silent
rests_well iface past f = f

begins4 : (at salt : ℕ) → Fine (begin_dhcp4 at salt)
begins4 at salt iface past f =
    gated (Well past) (runs_dhcp4 iface.managed.conf) _ _
    (stepped at iface (carrier_step Up at salt iface.dhcp4) past f.each
    (begin_follows (turn_of at salt iface.dhcp4) past f.drawn iface.dhcp4.may_stand (kept_terms iface.dhcp4) iface.dhcp4.state f.on))
    f

rebinds4 : (at salt : ℕ) → Fine (rebind_dhcp4 at salt)
rebinds4 at salt iface past f =
    gated (Well past) (runs_dhcp4 iface.managed.conf) _ _
    (stepped at iface (rebind_step at salt iface.dhcp4) past f.each
    (rebind_follows (turn_of at salt iface.dhcp4) past f.drawn (kept_terms iface.dhcp4) iface.dhcp4.state f.on))
    f

drops4 : (at salt : ℕ) → Fine (drop_dhcp4 at salt)
drops4 at salt iface past f =
    stepped at iface (carrier_step Down at salt iface.dhcp4) past f.each (off_follows (turn_of at salt iface.dhcp4) past f.drawn)

stops4 : (tell : Tell) (at salt : ℕ) → Fine (stop_dhcp4 tell at salt)
stops4 tell at salt iface past f =
    stepped at iface (release_step tell at salt iface.dhcp4) past f.each (release_follows (turn_of at salt iface.dhcp4) past f.drawn tell iface.dhcp4.state)

-- ---- steps of the others

arps_only : (says : Option ArpSay) (past : List Said4) → said_onto (map Arp (option_to_list says)) past ≡ past
arps_only None past = refl
arps_only (Some say) past = refl

local_ticks : (at salt : ℕ) → Fine (tick_local at salt)
local_ticks at salt iface past f = subst (λ (said : List Said4). Followed iface.dhcp4 said) (sym (arps_only _ past)) f

local_takes : (own : List Mac) (at salt : ℕ) (arp : ArpView) → Fine (local_hears own at salt arp)
local_takes own at salt arp iface past f = subst (λ (said : List Said4). Followed iface.dhcp4 said) (sym (arps_only _ past)) f

local_ends : Fine local_off
local_ends iface past f = f

arming : (at : ℕ) → Fine (arms at)
arming at iface past f = gated (Well past) (holds_lease iface) _ _ f f

six_only : (iface : Iface) (out : OutContent) (past : List Said4) → said_onto (six.said6_in iface out) past ≡ past
six_only iface out past = by_say out.say
  where
    by_say : (say : Option SpokenContent) → said_onto (map (λ spoken. Dhcp6 (six.sent_by iface spoken)) (option_to_list say)) past ≡ past
    by_say None = refl
    by_say (Some spoken) = refl

six_well : (iface : Iface) (turned : Turned6) (past : List Said4) → Followed iface.dhcp4 past → Well past (six.dhcp6_step iface turned)
six_well iface turned past f = subst (λ (said : List Said4). Followed iface.dhcp4 said) (sym (six_only iface turned.out past)) f

begins6 : (at salt : ℕ) → Fine (six.begin_dhcp6 at salt)
begins6 at salt iface past f = gated (Well past) (runs_dhcp6 iface.managed.conf) _ _ (six_well iface (carrier_turned carrier6.Up at salt iface.dhcp6) past f) f

rebinds6 : (at salt : ℕ) → Fine (six.rebind_dhcp6 at salt)
rebinds6 at salt iface past f = gated (Well past) (runs_dhcp6 iface.managed.conf) _ _ (six_well iface (rebind_turned at salt iface.dhcp6) past f) f

-- ---- steps of the interface

begun : (at salt : ℕ) → Fine (begins at salt)
begun at salt iface past f =
    then_well (then_step (begin_dhcp4 at salt iface) (begin_local at)) (six.begin_dhcp6 at salt) past
    (then_well (begin_dhcp4 at salt iface) (begin_local at) past (begins4 at salt iface past f) (λ g said h. h)) (begins6 at salt)

dropped : (at salt : ℕ) → Fine (machines_drop at salt)
dropped at salt iface past f =
    then_well (then_step (drop_dhcp4 at salt iface) local_off) (six.drop_dhcp6 at salt) past
    (then_well (drop_dhcp4 at salt iface) local_off past (drops4 at salt iface past f) local_ends)
    (λ g said h. six_well g (carrier_turned carrier6.Down at salt g.dhcp6) said h)

stopped : (tell : Tell) (at salt : ℕ) → Fine (machines_stop tell at salt)
stopped tell at salt iface past f =
    then_well (then_step (stop_dhcp4 tell at salt iface) local_off) (six.stop_dhcp6 tell at salt) past
    (then_well (stop_dhcp4 tell at salt iface) local_off past (stops4 tell at salt iface past f) local_ends)
    (λ g said h. six_well g (release_turned (six.tell6_of tell) at salt g.dhcp6) said h)

rebound_well : (at salt : ℕ) → Fine (machines_rebind at salt)
rebound_well at salt iface past f =
    then_well (then_step (rebind_dhcp4 at salt iface) (arms at)) (six.rebind_dhcp6 at salt) past
    (then_well (rebind_dhcp4 at salt iface) (arms at) past (rebinds4 at salt iface past f) (arming at)) (rebinds6 at salt)

comes : (at salt : ℕ) → Fine (carrier_comes at salt)
comes at salt iface past f = begun at salt (record iface { up = true }) past f

carrier_well : (at salt : ℕ) (up : Bool) → Fine (carried at salt up)
carrier_well at salt true iface past f = gated (Well past) iface.up _ _ f (comes at salt iface past f)
carrier_well at salt false iface past f = gated (Well past) iface.up _ _ (dropped at salt (record iface { up = false }) past f) f

halts : (at salt : ℕ) → Fine (halted at salt)
halts at salt iface past f =
    then_well (machines_stop (told_at_stop iface.managed.conf) at salt (record iface { stopped = true })) (tells Stopped) past
    (stopped (told_at_stop iface.managed.conf) at salt (record iface { stopped = true }) past f) (λ g said h. h)

hears_well : (own : List Mac) (at salt : ℕ) (arp : Option ArpView) (message : Option HeardMessage) (message6 : Option HeardMessage6)
    → Fine (hears_either own at salt arp message message6)
hears_well own at salt (Some arp) message message6 iface past f =
    then_well (dhcp4_packet own at salt arp iface) (local_hears own at salt arp) past (hears_arp own at salt arp iface past f) (local_takes own at salt arp)
hears_well own at salt None (Some heard) message6 iface past f = takes at salt (arrival_at at heard) iface past f
hears_well own at salt None None (Some heard) iface past f = six_well iface (hears_turned at salt heard.message iface.dhcp6) past f
hears_well own at salt None None None iface past f = f

takes_well : (own : List Mac) (at salt : ℕ) (event : Event) (bytes : List ℕ) → Fine (taken own at salt event bytes)
takes_well own at salt (Frame index len) bytes iface past f =
    gated (Well past) (index_of iface == index) _ _
    (hears_well own at salt (arp_heard bytes) (heard4_in iface.managed.spec.mac bytes) (heard6_in iface.managed.spec.mac bytes) iface past f) f
takes_well own at salt (Carrier index up) bytes iface past f = gated (Well past) (index_of iface == index) _ _ (carrier_well at salt up iface past f) f
takes_well own at salt (Duplicate index addr) bytes iface past f =
    gated (Well past) (index_of iface == index) _ _ (six_well iface (contested_turned addr at salt iface.dhcp6) past f) f
takes_well own at salt (Release index) bytes iface past f = gated (Well past) (index_of iface == index) _ _ (stopped Server at salt iface past f) f
takes_well own at salt (Rebind index) bytes iface past f =
    gated (Well past) (index_of iface == index) _ _ (gated (Well past) iface.up _ _ (rebound_well at salt iface past f) f) f
takes_well own at salt Stop bytes iface past f = halts at salt iface past f
takes_well own at salt Quiet bytes iface past f = f
takes_well own at salt End bytes iface past f = f

input_well : (own : List Mac) (at salt : ℕ) (event : Event) (bytes : List ℕ) → Fine (input_step own at salt event bytes)
input_well own at salt event bytes iface past f = gated (Well past) iface.stopped _ _ f (takes_well own at salt event bytes iface past f)

all_tick : (at salt : ℕ) → Fine (ticked at salt)
all_tick at salt iface past f =
    then_well (then_step (tick_dhcp4 at salt iface) (tick_local at salt)) (six.tick_dhcp6 at salt) past
    (then_well (tick_dhcp4 at salt iface) (tick_local at salt) past (ticks at salt iface past f) (local_ticks at salt))
    (λ g said h. six_well g (tick_turned at salt g.dhcp6) said h)

undone : (set at salt : ℕ) (iface : Iface) (past : List Said4) → Followed iface.dhcp4 past → Followed (unsent_in set at salt iface).dhcp4 past
undone set at salt iface past f =
    gated (λ (g : Iface). Followed g.dhcp4 past) (is_in set (index_of iface)) _ _
    (record { drawn = f.drawn; on = unsent_follows (turn_of at salt iface.dhcp4) past iface.dhcp4.state f.on; each = f.each }) f

pub turn_well : (own : List Mac) (turn : Turn) (iface : Iface) (past : List Said4) → Followed iface.dhcp4 past → Well past (iface_turned own turn iface)
turn_well own turn iface past f =
    then_well (ticked turn.at turn.salt (unsent_in turn.unsent turn.at turn.salt iface)) (input_step own turn.at turn.salt turn.event turn.bytes) past
    (all_tick turn.at turn.salt (unsent_in turn.unsent turn.at turn.salt iface) past (undone turn.unsent turn.at turn.salt iface past f))
    (input_well own turn.at turn.salt turn.event turn.bytes)

pub opening_well : (up at salt : ℕ) (beginning : Beginning) → Well [] (opened up at salt beginning)
opening_well up at salt beginning =
    then_well (opening_told has (resting beginning)) (carrier_at_opening has at salt) [] (record { drawn = tt; on = tt; each = tt }) (by has)
  where
    has : Bool
    has = is_up up beginning.managed.spec.index.number

    by : (up : Bool) → Fine (carrier_at_opening up at salt)
    by true iface past f = comes at salt iface past f
    by false iface past f = f

-- ---- a life

followed_after : (start : Start) (turns : List Turn) → Followed (step_after start turns).iface.dhcp4 (messages_after start turns)
followed_after start [] = opening_well start.up start.at start.salt start.beginning
followed_after start (turn ∷ turns) = turn_well start.own turn (step_after start turns).iface (messages_after start turns) (followed_after start turns)

pub messages_follow : MessagesFollow
messages_follow start turns = (followed_after start turns).each
