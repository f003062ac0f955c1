-- What an interface's link-local machine does in its steps (RFC 3927).
use Rattle.std.specs.Prelude.{ℕ, ◌+◌, ◌*◌, ◌==◌, Bool, true, false, not, ◌&&◌, if◌then◌else◌, List, [], ◌∷◌, map, is_none, option_to_list}
use Rattle.net_types.specs.declared.address.Mac.{Mac}
use Rattle.frame_link.specs.declared.arp.ArpView.{ArpView}
use Rattle.ipv4ll.specs.declared.link_local.LinkLocal.{LinkLocal}
use Rattle.ipv4ll.specs.declared.link_local.LlNews.{LlNews}
use Rattle.ipv4ll.specs.declared.link_local.LlNews.TheVariants as local
use Rattle.ipv4ll.specs.declared.link_local.Fallback.{Fallback}
use Rattle.ipv4ll.specs.declared.link_local.Fallback.TheVariants.{Choose, GoOff}
use Rattle.ipv4ll.specs.declared.link_local.Waits.TheVariants.{ForLease, ForNothing}
use Rattle.ipv4ll.specs.Table.{LlStep, ll_tick, ll_hears, ll_armed, off}
use Rattle.v4_client.specs.declared.moments.TheConstants.{SECOND}
use Rattle.settings.specs.declared.interfaces.IfConf.{IfConf}
use Rattle.client_model.specs.declared.interfaces.Iface.{Iface}
use Rattle.client_model.specs.Messages.{Arp}
use Rattle.client_model.specs.declared.steps.News.{News}
use Rattle.client_model.specs.declared.steps.News.TheVariants.{Timeout, LocalGained, LocalLost}
use Rattle.client_model.specs.ClientSettings.{runs_dhcp4}
use Rattle.client_model.specs.IfaceSteps.{IfaceStep, silent}

-- A link-local address is chosen where no static address is given, and it isn't forbidden.
abbrev pub chooses_local : IfConf → Bool
chooses_local conf = not conf.flags.noipv4ll && not conf.flags.ipv6only && is_none conf.address

abbrev pub fallback_of : (chooses : Bool) → Fallback
fallback_of true = Choose
fallback_of false = GoOff

-- Where DHCPv4 runs, a lease is waited for, and then the timeout is told; with a timeout of 0 for ever.
abbrev pub armed_for_lease : IfConf → (at : ℕ) → LinkLocal → LinkLocal
armed_for_lease conf at local =
    if conf.times.timeout == 0 then local
    else ll_armed local (at + SECOND * conf.times.timeout) ForLease (fallback_of (chooses_local conf))

-- Else link-local is due at once.
abbrev pub armed : IfConf → (at : ℕ) → LinkLocal → LinkLocal
armed conf at local =
    if runs_dhcp4 conf then armed_for_lease conf at local
    else if chooses_local conf then ll_armed local at ForNothing Choose
    else local

abbrev pub local_off : Iface → IfaceStep
local_off iface = silent (record iface { local = off iface.local.iface })

-- what the machine's news is to its interface
abbrev pub local_news : LlNews → List News
local_news local.Nothing = []
local_news local.Timeout = Timeout ∷ []
local_news local.Gained = LocalGained ∷ []
local_news (local.Lost addr) = LocalLost addr ∷ []

abbrev pub local_step : Iface → LlStep → IfaceStep
local_step iface step = record {
  iface = record iface { local = step.ll };
  said = map Arp (option_to_list step.out.arp);
  reports =
      map (λ news. record { before = iface; news = news; after = record iface { local = step.ll } })
      (local_news step.out.news);
}

abbrev pub tick_local : (at salt : ℕ) → Iface → IfaceStep
tick_local at salt iface = local_step iface (ll_tick iface.local at salt)

abbrev pub local_hears : List Mac → (at salt : ℕ) → ArpView → Iface → IfaceStep
local_hears own at salt arp iface = local_step iface (ll_hears own iface.local arp at salt)
