-- What an interface asks of the outside, in the words of the definitions.
use Rattle.std.specs.Prelude.{◌≡◌, ℕ, Bool, true, List, [], ◌++◌, map, Option, option_to_list}
use Rattle.net_types.specs.declared.address.Mac.{Mac}
use Rattle.net_types.specs.declared.interface.IfSpec.{IfSpec}
use Rattle.frame_link.specs.Packets.{announcement_text, probe_text}
use Rattle.arp_acd.specs.declared.detection.ArpSay.{ArpSay}
use Rattle.arp_acd.specs.declared.detection.ArpSay.TheVariants.{Announce, Probe}
use Rattle.v4_message.specs.Requests.{AskContent}
use Rattle.lease_text.specs.Leases.{LeaseContent}
use Rattle.lease6_text.specs.Leases.{Lease6Content}
use Rattle.v4_client.specs.Clients as dhcp4
use Rattle.v4_client.specs.Clients.{OutContent}
use Rattle.v4_client.specs.declared.states.News4.{News4}
use Rattle.v6_client.specs.declared.states.News6.{News6}
use Rattle.v6_client.specs.Clients as dhcp6
use Rattle.v6_client.specs.Moves as moves6
use Rattle.v6_client.specs.Saying.{SpokenContent}
use Rattle.client_model.specs.declared.interfaces.Iface.{Iface}
use Rattle.client_model.specs.declared.steps.News.{News}
use Rattle.client_model.specs.declared.steps.News.TheVariants.{Timeout, LocalGained, LocalLost}
use Rattle.ipv4ll.specs.declared.link_local.LlNews.{LlNews}
use Rattle.ipv4ll.specs.declared.link_local.LlNews.TheVariants as local
use Rattle.settings.specs.declared.interfaces.Managed.{Managed}
use Rattle.hook_env.specs.Situations.{Nothing}
use Rattle.world.specs.declared.reasons.Reason.TheVariants as reason
use Rattle.world.specs.HookCalls.{job_of}
use Rattle.client_model.specs.IfaceSteps.{IfaceStep, news_of}
use Rattle.client_model.specs.Jobs as jobs
use Rattle.client_model.specs.Jobs.{told_in, told_of, own, own_if, static_told, reason4, reason6, leased4, leased6, shares_at}
use Rattle.client_model.specs.Messages.{Said, Arp, Dhcp4, Dhcp6}
use Rattle.client_model.specs.Clients as client
use Rattle.client_model.specs.Clients.{sends_of, spelled}
use Rattle.client_model.specs.Dhcp4Steps.{followed, lease_news}
use Rattle.client_model.specs.Dhcp6Steps.{lease6_news, sent_by}
use Rattle.iface_machines.specs.declared.outs.Sending.{Sending}
use Rattle.iface_machines.specs.declared.outs.Outs.{Outs}
use Rattle.iface_machines.specs.declared.outs.Told.{Told}
use Rattle.iface_machines.specs.declared.outs.Told.TheVariants as told

-- a frame without where it lies in memory
abbrev pub sending_of : Sending → client.Sending
sending_of sending = record { iface = sending.iface; bytes = sending.bytes.items }

abbrev pub sends_in : Outs → List client.Sending
sends_in outs = map sending_of outs.sends.items

-- what hooks are told, without where it lies in memory
abbrev pub told_content : Told → jobs.Told
told_content (told.Own job) = jobs.Own (job_of job)
told_content (told.Shared iface net) = jobs.Shared iface.number net

abbrev pub told_to_hooks : Outs → List jobs.Told
told_to_hooks outs = map told_content outs.told.items

-- the frames to offer, what is new, and what hooks are told of it
pub record Asked : Type 0 where
  pub sends : List client.Sending
  pub news : List News
  pub told : List jobs.Told

abbrev pub asked_in : Outs → Asked
asked_in outs = record { sends = sends_in outs; news = outs.news.items; told = told_to_hooks outs }

-- These frames are offered after those before.
pub record Offers (sends : List client.Sending) (before after : Asked) : Type 0 where
  pub offers : after.sends ≡ before.sends ++ sends
  pub tells_no_more : after.news ≡ before.news
  pub hooks_no_more : after.told ≡ before.told

-- Hooks are told this after what they were told before.
pub record TellsHooks (told : List jobs.Told) (before after : Asked) : Type 0 where
  pub offers_no_more : after.sends ≡ before.sends
  pub tells_no_more : after.news ≡ before.news
  pub hooks : after.told ≡ before.told ++ told

-- This is new after what was new before, and so hooks are told of it.
pub record Tells (news : List News) (told : List jobs.Told) (before after : Asked) : Type 0 where
  pub offers_no_more : after.sends ≡ before.sends
  pub tells : after.news ≡ before.news ++ news
  pub hooks : after.told ≡ before.told ++ told

-- The interface goes on as in this step, and the step's frames, its news and what hooks are told come after those
-- before.
pub record Goes (step : IfaceStep) (iface : Iface) (before after : Asked) : Type 0 where
  pub goes_on : iface ≡ step.iface
  pub offers : after.sends ≡ before.sends ++ sends_of step
  pub tells : after.news ≡ before.news ++ news_of step
  pub hooks : after.told ≡ before.told ++ told_in step

-- by what an interface's messages are spelled
abbrev pub spec_in : Iface → IfSpec
spec_in iface = iface.managed.spec

abbrev pub ask_in : Iface → AskContent
ask_in iface = iface.dhcp4.settings.ask

-- ---- frames

abbrev pub framed : IfSpec → (bytes : List ℕ) → client.Sending
framed spec bytes = record { iface = spec.index; bytes = bytes }

abbrev pub arp_text : Mac → ArpSay → List ℕ
arp_text mac (Probe addr) = probe_text mac addr
arp_text mac (Announce addr) = announcement_text mac addr

-- what an interface's DHCPv6 client says
abbrev pub dhcp6_said : Iface → Option SpokenContent → List Said
dhcp6_said iface say = map (λ spoken. Dhcp6 (sent_by iface spoken)) (option_to_list say)

-- ---- what is told of an interface

-- the carrier came, and a static address with it
abbrev pub carrier_told : Managed → List jobs.Told
carrier_told managed = own reason.Carrier managed true Nothing Nothing ++ static_told managed true managed.conf.address

abbrev pub local_told : LlNews → Iface → List jobs.Told
local_told local.Nothing iface = []
local_told local.Timeout iface = told_of Timeout iface iface
local_told local.Gained iface = told_of LocalGained iface iface
local_told (local.Lost addr) iface = told_of (LocalLost addr) iface iface

-- What has become of a lease, with the lease that was held before where the news is of it, is told of the interface.
abbrev pub lease_told : News4 → (old : Option LeaseContent) → Iface → List jobs.Told
lease_told news old iface =
    own_if (reason4 news) iface.managed iface.up (leased4 old) (leased4 (dhcp4.held_of iface.dhcp4))

abbrev pub lease6_told : News6 → (old : Option Lease6Content) → Iface → List jobs.Told
lease6_told news old iface =
    own_if (reason6 news) iface.managed iface.up (leased6 old) (leased6 (dhcp6.held_of iface.dhcp6))
    ++ shares_at news iface.managed.conf.dhcp6.shares (dhcp6.held_of iface.dhcp6)

-- ---- what an interface takes over of its clients

-- The interface takes over what its DHCPv4 client says, which held a lease before or didn't.
pub record Follows (at : ℕ) (held : Bool) (out : OutContent) (old new : Iface) (before after : Asked) : Type 0 where
  pub goes_on : new ≡ record old { local = followed old.managed.conf at held out.news old.local }
  pub offers : after.sends
      ≡ before.sends
      ++ map (spelled (spec_in old) (ask_in old))
      (map Dhcp4 (option_to_list out.say) ++ map Arp (option_to_list out.arp))
  pub tells : after.news ≡ before.news ++ lease_news out.news
  pub hooks : after.told ≡ before.told ++ lease_told out.news out.old new

-- The interface takes over what its DHCPv6 client says.
pub record Follows6 (out : moves6.OutContent) (iface : Iface) (before after : Asked) : Type 0 where
  pub offers : after.sends ≡ before.sends ++ map (spelled (spec_in iface) (ask_in iface)) (dhcp6_said iface out.say)
  pub tells : after.news ≡ before.news ++ lease6_news out.news
  pub hooks : after.told ≡ before.told ++ lease6_told out.news out.old iface
