-- What an interface's DHCPv4 client does in its steps, and what link-local makes of its news.
use Rattle.std.specs.Prelude.{ℕ, Bool, if◌then◌else◌, List, [], ◌∷◌, ◌++◌, map, is_some, option_to_list}
use Rattle.net_types.specs.declared.address.Mac.{Mac}
use Rattle.frame_link.specs.declared.arp.ArpView.{ArpView}
use Rattle.ipv4ll.specs.declared.link_local.LinkLocal.{LinkLocal}
use Rattle.ipv4ll.specs.Table.{off}
use Rattle.v4_client.specs.V4Frames.Heard.{HeardMessage}
use Rattle.v4_client.specs.declared.states.Carrier.TheVariants.{Up, Down}
use Rattle.v4_client.specs.declared.states.News4.{News4}
use Rattle.v4_client.specs.declared.states.News4.TheVariants as news
use Rattle.v4_client.specs.declared.states.Step4.{Step4}
use Rattle.v4_client.specs.declared.states.Tell.{Tell}
use Rattle.v4_client.specs.Calls.{arp_step, brought, carrier_step, heard_step, rebind_step, release_step}
use Rattle.v4_client.specs.Clients.{held_of}
use Rattle.v4_client.specs.History.{tick_step}
use Rattle.v4_client.specs.Messages.{Arrival}
use Rattle.v4_client.specs.Moves.{moved}
use Rattle.settings.specs.declared.interfaces.IfConf.{IfConf}
use Rattle.client_model.specs.declared.interfaces.Iface.{Iface}
use Rattle.client_model.specs.Messages.{Said, Arp, Dhcp4}
use Rattle.client_model.specs.declared.steps.News.{News}
use Rattle.client_model.specs.declared.steps.News.TheVariants.{Lease4}
use Rattle.client_model.specs.ClientSettings.{runs_dhcp4}
use Rattle.client_model.specs.IfaceSteps.{IfaceStep, silent}
use Rattle.client_model.specs.LocalSteps.{armed}

abbrev pub holds_lease : Iface → Bool
holds_lease iface = is_some (held_of iface.dhcp4)

-- link-local is armed where a lease that was held has ended
abbrev pub armed_after : IfConf → (at : ℕ) → (held : Bool) → LinkLocal → LinkLocal
armed_after conf at held local = if held then armed conf at local else local

-- A lease that is bound turns link-local off.
abbrev pub followed : IfConf → (at : ℕ) → (held : Bool) → News4 → LinkLocal → LinkLocal
followed conf at held news.Bound local = off local.iface
followed conf at held news.Reboot local = off local.iface
followed conf at held news.Nak local = armed_after conf at held local
followed conf at held news.Expire local = armed_after conf at held local
followed conf at held news.Renew local = local
followed conf at held news.Rebind local = local
followed conf at held news.Stop local = local
followed conf at held news.Nothing local = local

abbrev pub said_in : Step4 → List Said
said_in step = map Dhcp4 (option_to_list step.say) ++ map Arp (option_to_list step.arp)

abbrev pub lease_news : News4 → List News
lease_news news.Nothing = []
lease_news news.Bound = Lease4 news.Bound ∷ []
lease_news news.Reboot = Lease4 news.Reboot ∷ []
lease_news news.Renew = Lease4 news.Renew ∷ []
lease_news news.Rebind = Lease4 news.Rebind ∷ []
lease_news news.Nak = Lease4 news.Nak ∷ []
lease_news news.Expire = Lease4 news.Expire ∷ []
lease_news news.Stop = Lease4 news.Stop ∷ []

-- the interface after a step of its client
abbrev pub after_dhcp4 : (at : ℕ) → Step4 → Iface → Iface
after_dhcp4 at step iface = record iface {
  dhcp4 = moved step iface.dhcp4;
  local = followed iface.managed.conf at (holds_lease iface) step.news iface.local;
}

abbrev pub dhcp4_step : (at : ℕ) → Iface → Step4 → IfaceStep
dhcp4_step at iface step = record {
  iface = after_dhcp4 at step iface;
  said = said_in step;
  reports =
      map (λ news. record { before = iface; news = news; after = after_dhcp4 at step iface }) (lease_news step.news);
}

-- a client that is off begins, where DHCPv4 runs
abbrev pub begin_dhcp4 : (at salt : ℕ) → Iface → IfaceStep
begin_dhcp4 at salt iface =
    if runs_dhcp4 iface.managed.conf then dhcp4_step at iface (carrier_step Up at salt iface.dhcp4) else silent iface

-- a lease that is held is confirmed with any server, and a client that is off begins
abbrev pub rebind_dhcp4 : (at salt : ℕ) → Iface → IfaceStep
rebind_dhcp4 at salt iface =
    if runs_dhcp4 iface.managed.conf then dhcp4_step at iface (rebind_step at salt iface.dhcp4) else silent iface

-- the carrier is gone: the kept lease stays kept
abbrev pub drop_dhcp4 : (at salt : ℕ) → Iface → IfaceStep
drop_dhcp4 at salt iface = dhcp4_step at iface (carrier_step Down at salt iface.dhcp4)

abbrev pub stop_dhcp4 : Tell → (at salt : ℕ) → Iface → IfaceStep
stop_dhcp4 tell at salt iface = dhcp4_step at iface (release_step tell at salt iface.dhcp4)

-- link-local is armed where DHCPv4 begins, also where the client stands on its kept lease
abbrev pub begin_local : (at : ℕ) → Iface → IfaceStep
begin_local at iface = silent (record iface { local = armed iface.managed.conf at iface.local })

-- link-local is armed where no lease is held
abbrev pub arms : (at : ℕ) → Iface → IfaceStep
arms at iface = if holds_lease iface then silent iface else begin_local at iface

abbrev pub tick_dhcp4 : (at salt : ℕ) → Iface → IfaceStep
tick_dhcp4 at salt iface = dhcp4_step at iface (tick_step at salt iface.dhcp4)

abbrev pub arrival_at : (at : ℕ) → HeardMessage → Arrival
arrival_at at heard = record { message = heard.message; source = heard.source; at = at }

-- the values that a message brings are taken before its step
abbrev pub dhcp4_takes : (at salt : ℕ) → Arrival → Iface → IfaceStep
dhcp4_takes at salt arrival iface =
    dhcp4_step at (record iface { dhcp4 = brought arrival iface.dhcp4 }) (heard_step salt arrival iface.dhcp4)

abbrev pub dhcp4_packet : List Mac → (at salt : ℕ) → ArpView → Iface → IfaceStep
dhcp4_packet own at salt arp iface = dhcp4_step at iface (arp_step own at salt arp iface.dhcp4)
