-- A link-local address that a host holds or loses is one that it may choose by itself.
use Rattle.std.proofs.Common.{ℕ, Bool, List, [], Option, Some, None, IfSome, sym, subst, arith, lit≤, eqb}
use Rattle.machine.specs.Moment.{is_due}
use Rattle.net_types.proofs.CaseLaws.{gated}
use Rattle.net_types.specs.AddressText.{FitsNet4}
use Rattle.net_types.specs.declared.address.Ip4.{Ip4}
use Rattle.net_types.specs.declared.address.Mac.{Mac}
use Rattle.net_types.specs.declared.interface.IfIndex.{IfIndex}
use Rattle.frame_link.specs.declared.arp.ArpView.{ArpView}
use Rattle.arp_acd.proofs.Addresses.{addr-tick, addr-hears}
use Rattle.arp_acd.specs.Table as detection
use Rattle.arp_acd.specs.declared.detection.Acd.{Acd}
use Rattle.arp_acd.specs.declared.detection.AcdSays.{AcdSays}
use Rattle.arp_acd.specs.declared.detection.AcdSays.TheVariants.{Quiet, SayProbe, SayAnnounce, Passed, Conflict, GivenUp}
use Rattle.arp_acd.specs.declared.detection.Phase.{Phase}
use Rattle.arp_acd.specs.declared.detection.Phase.TheVariants.{Probing, Announcing, Held, Over}
use Rattle.ipv4ll.proofs.Chosen.{InState, step_in}
use Rattle.ipv4ll.specs.Choice.{IsChoice}
use Rattle.ipv4ll.specs.History.{Arm, Heard, Tick, Unsent}
use Rattle.ipv4ll.specs.Table.{LlStep, due_of, held_in, ll_armed, ll_hears, ll_restarts, ll_tick, moves, news_after, said_row, tells, tick_row}
use Rattle.ipv4ll.specs.declared.link_local.Fallback.{Fallback}
use Rattle.ipv4ll.specs.declared.link_local.LinkLocal.{LinkLocal}
use Rattle.ipv4ll.specs.declared.link_local.LlNews.{LlNews}
use Rattle.ipv4ll.specs.declared.link_local.LlNews.TheVariants.{Nothing, Timeout, Gained, Lost}
use Rattle.ipv4ll.specs.declared.link_local.State.{State}
use Rattle.ipv4ll.specs.declared.link_local.State.TheVariants.{Off, Armed, Chosen, Waiting}
use Rattle.ipv4ll.specs.declared.link_local.Waits.{Waits}
use Rattle.ipv4ll.specs.declared.link_local.Waits.TheVariants.{ForLease, ForNothing}
use Rattle.v4_client.specs.declared.states.News4.{News4}
use Rattle.v4_client.specs.declared.states.News4.TheVariants as news
use Rattle.settings.specs.declared.interfaces.IfConf.{IfConf}
use Rattle.client_model.specs.ClientSettings.{runs_dhcp4}
use Rattle.client_model.specs.Dhcp4Steps.{armed_after, followed}
use Rattle.client_model.specs.Jobs.{local_held}
use Rattle.client_model.specs.LocalSteps.{armed, armed_for_lease, chooses_local}
use Rattle.client_model.specs.WantedRows.{local_net}
use Rattle.safe_texts.specs.ExactVariables.{FitsHeld}

-- ---- an address that may be chosen

pub choice_fits : (ip : Ip4) → IsChoice ip → FitsNet4 (local_net ip)
choice_fits ip choice = record { address = (let most = choice.at_most in omega (arith, most)); prefix = lit≤ tt }

abbrev pub InRange : LinkLocal → Type 0
InRange local = InState local.state

held_choice : (address : Ip4) (phase : Phase) → IsChoice address → IfSome (detection.held_in address phase) IsChoice
held_choice address (Probing sent due) choice = tt
held_choice address (Announcing due last) choice = choice
held_choice address (Held last) choice = choice
held_choice address Over choice = tt

state_held : (state : State) → InState state → IfSome (held_in state) IsChoice
state_held Off range = tt
state_held (Armed due waits fallback) range = tt
state_held (Chosen conflicts acd) range = held_choice acd.addr acd.phase range
state_held (Waiting conflicts due) range = tt

held_fits : (found : Option Ip4) → IfSome found IsChoice → FitsHeld (local_held found)
held_fits None choice = tt
held_fits (Some ip) choice = choice_fits ip choice

pub local_fits : (local : LinkLocal) → InRange local → FitsHeld (local_held (held_in local.state))
local_fits local range = held_fits (held_in local.state) (state_held local.state range)

-- ---- what is lost

abbrev pub LosesChoice : LlNews → Type 0
LosesChoice Nothing = Unit {0}
LosesChoice Timeout = Unit {0}
LosesChoice Gained = Unit {0}
LosesChoice (Lost address) = IsChoice address

said_loses : (iface : IfIndex) (conflicts : ℕ) (acd : Acd) (at salt : ℕ) (says : AcdSays) → IsChoice acd.addr
    → LosesChoice (said_row iface conflicts acd at salt says).out.news
said_loses iface conflicts acd at salt Quiet choice = tt
said_loses iface conflicts acd at salt SayProbe choice = tt
said_loses iface conflicts acd at salt SayAnnounce choice = tt
said_loses iface conflicts acd at salt Passed choice = tt
said_loses iface conflicts acd at salt Conflict choice = tt
said_loses iface conflicts acd at salt GivenUp choice = choice

waited : (waits : Waits) → LosesChoice (news_after waits)
waited ForLease = tt
waited ForNothing = tt

row_loses : (iface : IfIndex) (state : State) (at salt : ℕ) → InState state → LosesChoice (tick_row iface state at salt).out.news
row_loses iface Off at salt range = tt
row_loses iface (Armed due waits fallback) at salt range = waited waits
row_loses iface (Chosen conflicts acd) at salt range =
    said_loses iface conflicts (detection.acd_tick acd at salt).acd at salt (detection.acd_tick acd at salt).says
    (subst IsChoice (sym (addr-tick acd at salt)) range)
row_loses iface (Waiting conflicts due) at salt range = tt

pub tick_loses : (local : LinkLocal) (at salt : ℕ) → InRange local → LosesChoice (ll_tick local at salt).out.news
tick_loses local at salt range =
    gated (λ (step : LlStep). LosesChoice step.out.news) (is_due (due_of local.state) at) (tick_row local.iface local.state at salt)
    (moves local.iface local.state (tells Nothing)) (row_loses local.iface local.state at salt range) tt

state_hears : (own : List Mac) (iface : IfIndex) (state : State) (arp : ArpView) (at salt : ℕ) → InState state
    → LosesChoice (ll_hears own (record { iface = iface; state = state }) arp at salt).out.news
state_hears own iface Off arp at salt range = tt
state_hears own iface (Armed due waits fallback) arp at salt range = tt
state_hears own iface (Chosen conflicts acd) arp at salt range =
    said_loses iface conflicts (detection.acd_hears own acd arp at).acd at salt (detection.acd_hears own acd arp at).says
    (subst IsChoice (sym (addr-hears own acd arp at)) range)
state_hears own iface (Waiting conflicts due) arp at salt range = tt

pub hears_loses : (own : List Mac) (local : LinkLocal) (arp : ArpView) (at salt : ℕ) → InRange local → LosesChoice (ll_hears own local arp at salt).out.news
hears_loses own local arp at salt range = state_hears own local.iface local.state arp at salt range

-- ---- each call

pub ticks_in_range : (local : LinkLocal) (at salt : ℕ) → InRange local → InRange (ll_tick local at salt).ll
ticks_in_range local at salt range = (step_in [] local.iface local.state (Tick at salt) range).chosen

pub hears_in_range : (own : List Mac) (local : LinkLocal) (arp : ArpView) (at salt : ℕ) → InRange local → InRange (ll_hears own local arp at salt).ll
hears_in_range own local arp at salt range = (step_in own local.iface local.state (Heard arp at salt) range).chosen

pub restarts_in_range : (local : LinkLocal) (at salt : ℕ) → InRange local → InRange (ll_restarts local at salt)
restarts_in_range local at salt range = (step_in [] local.iface local.state (Unsent at salt) range).chosen

arms_in_range : (local : LinkLocal) (due : ℕ) (waits : Waits) (fallback : Fallback) → InRange local → InRange (ll_armed local due waits fallback)
arms_in_range local due waits fallback range = (step_in [] local.iface local.state (Arm 0 due waits fallback) range).chosen

for_lease : (conf : IfConf) (at : ℕ) (local : LinkLocal) → InRange local → InRange (armed_for_lease conf at local)
for_lease conf at local range = gated InRange (eqb conf.times.timeout 0) local _ range (arms_in_range local _ _ _ range)

pub armed_in_range : (conf : IfConf) (at : ℕ) (local : LinkLocal) → InRange local → InRange (armed conf at local)
armed_in_range conf at local range =
    gated InRange (runs_dhcp4 conf) (armed_for_lease conf at local) _ (for_lease conf at local range)
    (gated InRange (chooses_local conf) _ local (arms_in_range local at _ _ range) range)

after_in_range : (conf : IfConf) (at : ℕ) (held : Bool) (local : LinkLocal) → InRange local → InRange (armed_after conf at held local)
after_in_range conf at held local range = gated InRange held (armed conf at local) local (armed_in_range conf at local range) range

pub followed_in_range : (conf : IfConf) (at : ℕ) (held : Bool) (told : News4) (local : LinkLocal) → InRange local → InRange (followed conf at held told local)
followed_in_range conf at held news.Bound local range = tt
followed_in_range conf at held news.Reboot local range = tt
followed_in_range conf at held news.Nak local range = after_in_range conf at held local range
followed_in_range conf at held news.Expire local range = after_in_range conf at held local range
followed_in_range conf at held news.Renew local range = range
followed_in_range conf at held news.Rebind local range = range
followed_in_range conf at held news.Stop local range = range
followed_in_range conf at held news.Nothing local range = range
