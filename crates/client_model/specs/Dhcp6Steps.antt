-- What an interface's DHCPv6 client does in its steps.
use Rattle.std.specs.Prelude.{ℕ, if◌then◌else◌, List, [], ◌∷◌, map, option_to_list}
use Rattle.net_types.specs.declared.address.Ip6.{Ip6}
use Rattle.v4_client.specs.declared.states.Tell.{Tell}
use Rattle.v4_client.specs.declared.states.Tell.TheVariants as told
use Rattle.v6_frames.specs.Heard.{HeardMessage6}
use Rattle.v6_frames.specs.Spelled.{Sent6}
use Rattle.v6_client.specs.declared.states.Carrier6.TheVariants.{Up, Down}
use Rattle.v6_client.specs.declared.states.News6.{News6}
use Rattle.v6_client.specs.declared.states.News6.TheVariants as news
use Rattle.v6_client.specs.declared.states.Tell6.{Tell6}
use Rattle.v6_client.specs.declared.states.Tell6.TheVariants.{Server, Nobody}
use Rattle.v6_client.specs.Moves.{OutContent}
use Rattle.v6_client.specs.Runs.{Turned6, tick_turned, hears_turned, carrier_turned, contested_turned, release_turned, rebind_turned}
use Rattle.v6_client.specs.Saying.{SpokenContent}
use Rattle.client_model.specs.declared.interfaces.Iface.{Iface}
use Rattle.client_model.specs.declared.steps.News.{News}
use Rattle.client_model.specs.declared.steps.News.TheVariants.{Lease6}
use Rattle.client_model.specs.ClientSettings6.{runs_dhcp6}
use Rattle.client_model.specs.IfaceSteps.{IfaceStep, silent}
use Rattle.client_model.specs.Messages.{Said, Dhcp6}

-- a message of the interface's client
abbrev pub sent_by : Iface → SpokenContent → Sent6
sent_by iface spoken = record {
  mac = iface.managed.spec.mac;
  said = record {
    kind = spoken.kind;
    xid = spoken.xid;
    client = iface.dhcp6.settings.duid;
    server = spoken.server;
    elapsed = spoken.elapsed;
    rapid = spoken.rapid;
    ias = spoken.ias;
  };
}

abbrev pub said6_in : Iface → OutContent → List Said
said6_in iface out = map (λ spoken. Dhcp6 (sent_by iface spoken)) (option_to_list out.say)

abbrev pub lease6_news : News6 → List News
lease6_news news.Nothing = []
lease6_news news.Bound = Lease6 news.Bound ∷ []
lease6_news news.Reboot = Lease6 news.Reboot ∷ []
lease6_news news.Renew = Lease6 news.Renew ∷ []
lease6_news news.Rebind = Lease6 news.Rebind ∷ []
lease6_news news.Changed = Lease6 news.Changed ∷ []
lease6_news news.Expire = Lease6 news.Expire ∷ []
lease6_news news.Stop = Lease6 news.Stop ∷ []

-- the interface after a step of its client
abbrev pub after_dhcp6 : Turned6 → Iface → Iface
after_dhcp6 turned iface = record iface { dhcp6 = turned.client }

abbrev pub dhcp6_step : Iface → Turned6 → IfaceStep
dhcp6_step iface turned = record {
  iface = after_dhcp6 turned iface;
  said = said6_in iface turned.out;
  reports =
      map (λ news. record { before = iface; news = news; after = after_dhcp6 turned iface })
      (lease6_news turned.out.news);
}

-- a client that is off begins, where DHCPv6 runs
abbrev pub begin_dhcp6 : (at salt : ℕ) → Iface → IfaceStep
begin_dhcp6 at salt iface =
    if runs_dhcp6 iface.managed.conf then dhcp6_step iface (carrier_turned Up at salt iface.dhcp6) else silent iface

-- items that are held are asked for again of any server, and a client that is off begins
abbrev pub rebind_dhcp6 : (at salt : ℕ) → Iface → IfaceStep
rebind_dhcp6 at salt iface =
    if runs_dhcp6 iface.managed.conf then dhcp6_step iface (rebind_turned at salt iface.dhcp6) else silent iface

-- the carrier is gone: the kept lease stays kept
abbrev pub drop_dhcp6 : (at salt : ℕ) → Iface → IfaceStep
drop_dhcp6 at salt iface = dhcp6_step iface (carrier_turned Down at salt iface.dhcp6)

abbrev pub tell6_of : Tell → Tell6
tell6_of told.Server = Server
tell6_of told.Nobody = Nobody

abbrev pub stop_dhcp6 : Tell → (at salt : ℕ) → Iface → IfaceStep
stop_dhcp6 tell at salt iface = dhcp6_step iface (release_turned (tell6_of tell) at salt iface.dhcp6)

abbrev pub tick_dhcp6 : (at salt : ℕ) → Iface → IfaceStep
tick_dhcp6 at salt iface = dhcp6_step iface (tick_turned at salt iface.dhcp6)

abbrev pub dhcp6_takes : (at salt : ℕ) → HeardMessage6 → Iface → IfaceStep
dhcp6_takes at salt heard iface = dhcp6_step iface (hears_turned at salt heard.message iface.dhcp6)

-- another host uses an address
abbrev pub contested : (at salt : ℕ) → Ip6 → Iface → IfaceStep
contested at salt addr iface = dhcp6_step iface (contested_turned addr at salt iface.dhcp6)
