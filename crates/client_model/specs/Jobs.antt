-- What hooks are told of what is new on an interface (dhcpcd-run-hooks(8)).
use Rattle.std.specs.Prelude.{ℕ, ◌==◌, Bool, true, false, List, [], ◌∷◌, ◌++◌, find, flat_map, map, drop, Option, Some, None, option_to_list}
use Rattle.net_types.specs.declared.address.Ip4.{Ip4}
use Rattle.net_types.specs.declared.address.Net4.{Net4}
use Rattle.net_types.specs.declared.address.Net6.{Net6}
use Rattle.ipv4ll.specs.Table.{held_in}
use Rattle.settings.specs.PrefixShare.Subnets.{subnet_in}
use Rattle.v4_client.specs.LeaseText.Leases.{LeaseContent}
use Rattle.v6_client.specs.Lease6Text.declared.lease.Item6.{Item6}
use Rattle.v6_client.specs.Lease6Text.Leases.{IaLeaseContent, Lease6Content}
use Rattle.v4_client.specs.declared.states.News4.{News4}
use Rattle.v4_client.specs.declared.states.News4.TheVariants as news4
use Rattle.v4_client.specs.Clients.{held_of}
use Rattle.v6_client.specs.declared.states.News6.{News6}
use Rattle.v6_client.specs.declared.states.News6.TheVariants as news6
use Rattle.v6_client.specs.Clients as dhcp6
use Rattle.v6_options.specs.declared.ia.IaKind.{IaKind}
use Rattle.v6_options.specs.declared.ia.IaKind.TheVariants.{Na, Pd}
use Rattle.world.specs.declared.reasons.Reason.{Reason}
use Rattle.world.specs.declared.reasons.Reason.TheVariants as reason
use Rattle.world.specs.HookCalls.{Job}
use Rattle.hook_env.specs.Situations.{HeldContent, Nothing, Leased4, Address4, Leased6, Delegated, SituationContent}
use Rattle.hook_env.specs.Jobs.{job_of_situation}
use Rattle.settings.specs.declared.dhcp6_conf.ShareConf.{ShareConf}
use Rattle.settings.specs.declared.interfaces.Managed.{Managed}
use Rattle.settings.specs.HookSettings as hooks
use Rattle.settings.specs.HookSettings.{ScriptContent}
use Rattle.client_model.specs.declared.interfaces.Iface.{Iface}
use Rattle.client_model.specs.declared.steps.News.{News}
use Rattle.client_model.specs.declared.steps.News.TheVariants.{Opened, CarrierCame, CarrierWent, Released, Stopped, Lease4, Lease6, Timeout, LocalGained, LocalLost}
use Rattle.client_model.specs.IfaceSteps.{IfaceStep, Report, index_of}
use Rattle.client_model.specs.WantedRows.{first_address, local_net, metric_of, shares_of}

-- ---- the job of an event

-- the path of the script, empty for the device's own; none where no hooks are run
abbrev pub script_path : ScriptContent → Option (List ℕ)
script_path hooks.Nothing = None
script_path hooks.Default = Some []
script_path (hooks.At path) = Some path

abbrev pub situation_of : Reason → Managed → (up : Bool) → (held_before held_now : HeldContent) → (script : List ℕ)
    → SituationContent
situation_of reason managed up held_before held_now script = record {
  reason = reason;
  interface = managed.spec;
  metric = metric_of managed;
  up = up;
  script = script;
  env = managed.conf.hooks.env;
  held_before = held_before;
  held_now = held_now;
}

-- the job of an interface's event, where hooks are run; `up` is whether it has carrier then
abbrev pub jobs_of : Reason → Managed → (up : Bool) → (held_before held_now : HeldContent) → List Job
jobs_of reason managed up held_before held_now =
    map (λ script. job_of_situation (situation_of reason managed up held_before held_now script))
    (option_to_list (script_path managed.conf.hooks.script))

-- ---- what is held

abbrev pub leased4 : Option LeaseContent → HeldContent
leased4 None = Nothing
leased4 (Some lease) = Leased4 lease

abbrev pub leased6 : Option Lease6Content → HeldContent
leased6 None = Nothing
leased6 (Some lease) = Leased6 lease

abbrev pub local_held : Option Ip4 → HeldContent
local_held None = Nothing
local_held (Some ip) = Address4 (local_net ip)

-- ---- the reason of what has become of a lease

abbrev pub reason4 : News4 → Option Reason
reason4 news4.Nothing = None
reason4 news4.Bound = Some reason.Bound
reason4 news4.Reboot = Some reason.Reboot
reason4 news4.Renew = Some reason.Renew
reason4 news4.Rebind = Some reason.Rebind
reason4 news4.Nak = Some reason.Nak
reason4 news4.Expire = Some reason.Expire
reason4 news4.Stop = Some reason.Stop

-- items that go while others stay have no reason of their own
abbrev pub reason6 : News6 → Option Reason
reason6 news6.Nothing = None
reason6 news6.Changed = None
reason6 news6.Bound = Some reason.Bound6
reason6 news6.Reboot = Some reason.Reboot6
reason6 news6.Renew = Some reason.Renew6
reason6 news6.Rebind = Some reason.Rebind6
reason6 news6.Expire = Some reason.Expire6
reason6 news6.Stop = Some reason.Stop6

-- ---- what an interface tells: a job of its own, or an address out of a prefix, on the interface of a number
pub data Told : Type 0 where
  Own : (job : Job) → Told
  Shared : (iface : ℕ) → (net : Net6) → Told

abbrev pub own : Reason → Managed → (up : Bool) → (held_before held_now : HeldContent) → List Told
own reason managed up held_before held_now = map Own (jobs_of reason managed up held_before held_now)

abbrev pub own_if : Option Reason → Managed → (up : Bool) → (held_before held_now : HeldContent) → List Told
own_if None managed up held_before held_now = []
own_if (Some reason) managed up held_before held_now = own reason managed up held_before held_now

-- the address that a share gives of a prefix
abbrev pub shared_address : ShareConf → Option Net6 → List Told
shared_address share None = []
shared_address share (Some subnet) = Shared share.outlet.iface.number (first_address subnet) ∷ []

abbrev pub item_told : List ShareConf → IaKind → Item6 → List Told
item_told shares Na item = []
item_told shares Pd item = flat_map (λ share. shared_address share (subnet_in item.net share.share)) shares

abbrev pub ia_told : List ShareConf → IaLeaseContent → List Told
ia_told shares ia = flat_map (item_told (shares_of ia.iaid shares) ia.kind) ia.items

abbrev pub shares_told : List ShareConf → Option Lease6Content → List Told
shares_told shares None = []
shares_told shares (Some lease) = flat_map (ia_told shares) lease.ias

-- the shares are told where prefixes came, or came again
abbrev pub shares_at : News6 → List ShareConf → Option Lease6Content → List Told
shares_at news6.Bound shares lease = shares_told shares lease
shares_at news6.Reboot shares lease = shares_told shares lease
shares_at news6.Renew shares lease = shares_told shares lease
shares_at news6.Rebind shares lease = shares_told shares lease
shares_at news6.Expire shares lease = []
shares_at news6.Stop shares lease = []
shares_at news6.Changed shares lease = []
shares_at news6.Nothing shares lease = []

abbrev pub static_told : Managed → (up : Bool) → Option Net4 → List Told
static_told managed up None = []
static_told managed up (Some net) = own reason.StaticLine managed up Nothing (Address4 net)

-- of news, with the interface before and after it
abbrev pub told_of : News → (before after : Iface) → List Told
told_of Opened before after = own reason.Preinit after.managed after.up Nothing Nothing
told_of CarrierCame before after =
    own reason.Carrier after.managed true Nothing Nothing ++ static_told after.managed true after.managed.conf.address
told_of CarrierWent before after = own reason.NoCarrier after.managed false Nothing Nothing
told_of Released before after = []
told_of Stopped before after = own reason.Stopped after.managed after.up Nothing Nothing
told_of (Lease4 news) before after =
    own_if (reason4 news) after.managed after.up (leased4 (held_of before.dhcp4)) (leased4 (held_of after.dhcp4))
told_of (Lease6 news) before after =
    own_if (reason6 news) after.managed after.up (leased6 (dhcp6.held_of before.dhcp6))
    (leased6 (dhcp6.held_of after.dhcp6))
    ++ shares_at news after.managed.conf.dhcp6.shares (dhcp6.held_of after.dhcp6)
told_of Timeout before after = own reason.Timeout after.managed after.up Nothing Nothing
told_of LocalGained before after =
    own reason.Ipv4ll after.managed after.up Nothing (local_held (held_in after.local.state))
told_of (LocalLost ip) before after = own reason.Expire after.managed after.up (Address4 (local_net ip)) Nothing

abbrev pub told_by : Report → List Told
told_by report = told_of report.news report.before report.after

-- what a step tells, in order
abbrev pub told_in : IfaceStep → List Told
told_in step = flat_map told_by step.reports

-- ---- the jobs: the hook of the interface that shares a prefix is told of its address, with the carrier that it has
-- then

abbrev pub shared_jobs : (net : Net6) → Option Iface → List Job
shared_jobs net None = []
shared_jobs net (Some iface) = jobs_of reason.Delegated6 iface.managed iface.up Nothing (Delegated net)

abbrev pub jobs_among : List Iface → Told → List Job
jobs_among ifaces (Own job) = job ∷ []
jobs_among ifaces (Shared number net) = shared_jobs net (find (λ iface. index_of iface == number) ifaces)

-- Of steps of interfaces one after another: those before are as their steps left them, those after (`coming`) as they
-- were.
abbrev pub jobs_along : (gone coming : List Iface) → List IfaceStep → List Job
jobs_along gone coming [] = []
jobs_along gone coming (step ∷ steps) =
    flat_map (jobs_among (gone ++ step.iface ∷ drop 1 coming)) (told_in step)
    ++ jobs_along (gone ++ step.iface ∷ []) (drop 1 coming) steps
