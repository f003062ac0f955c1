-- What a step of an interface is to its DHCPv6 client: how the client goes on, and which of its messages are said.
use Rattle.std.proofs.Common.{◌≡◌, ℕ, List, [], ◌∷◌, ◌++◌, map, Option, Some, None, refl, sym, ap, ◌∙◌, append-nil}
use Rattle.std.specs.Prelude.{option_map, option_to_list}
use Rattle.net_types.proofs.CaseLaws.{gated}
use Rattle.net_types.specs.declared.address.Mac.{Mac}
use Rattle.arp_acd.specs.declared.detection.ArpSay.{ArpSay}
use Rattle.lease_evidence.specs.V4Client.declared.states.Say4.{Say4}
use Rattle.lease_evidence.specs.V4Client.declared.states.Step4.{Step4}
use Rattle.v6_frames.specs.Spelled.{Sent6}
use Rattle.v6_client.specs.Clients.{ClientContent}
use Rattle.v6_client.specs.Moves.{OutContent}
use Rattle.v6_client.specs.Runs.{Turned6}
use Rattle.v6_client.specs.Saying.{SpokenContent}
use Rattle.lease_evidence.specs.Ipv4ll.Table.{LlStep}
use Rattle.lease_evidence.specs.ClientModel.declared.interfaces.Iface.{Iface}
use Rattle.lease_evidence.specs.ClientModel.Dhcp4Steps.{arms, begin_local, dhcp4_step, holds_lease, said_in}
use Rattle.lease_evidence.specs.ClientModel.Dhcp6Steps.{dhcp6_step}
use Rattle.lease_evidence.specs.ClientModel.IfaceSteps.{IfaceStep, silent, then_step}
use Rattle.lease_evidence.specs.ClientModel.LocalSteps.{local_off, local_step}
use Rattle.lease_evidence.specs.ClientModel.Messages.{Said, Arp, Dhcp4, Dhcp6}

-- ---- the messages of DHCPv6

abbrev pub six_of : Said → List Sent6
six_of (Dhcp4 say) = []
six_of (Arp say) = []
six_of (Dhcp6 sent) = sent ∷ []

abbrev pub sixes : List Said → List Sent6
sixes [] = []
sixes (say ∷ said) = six_of say ++ sixes said

six_join : (say : Said) (more rest : List Sent6) → (six_of say ++ more) ++ rest ≡ six_of say ++ (more ++ rest)
six_join (Dhcp4 say) more rest = refl
six_join (Arp say) more rest = refl
six_join (Dhcp6 sent) more rest = refl

pub sixes_join : (said more : List Said) → sixes (said ++ more) ≡ sixes said ++ sixes more
sixes_join [] more = refl
sixes_join (say ∷ said) more = ap (λ (rest : List Sent6). six_of say ++ rest) (sixes_join said more)
    ∙ sym (six_join say (sixes said) (sixes more))

no_arp_six : (says : List ArpSay) → sixes (map Arp says) ≡ []
no_arp_six [] = refl
no_arp_six (say ∷ says) = no_arp_six says

no_six : (step : Step4) → sixes (said_in step) ≡ []
no_six step = by_parts step.say step.arp
  where
    by_parts : (say : Option Say4) (arp : Option ArpSay)
        → sixes (map Dhcp4 (option_to_list say) ++ map Arp (option_to_list arp)) ≡ []
    by_parts None arp = no_arp_six (option_to_list arp)
    by_parts (Some say) arp = no_arp_six (option_to_list arp)

-- ---- steps

-- the message that a client says
abbrev pub sent_from : Mac → (duid : List ℕ) → SpokenContent → Sent6
sent_from mac duid spoken = record {
  mac = mac;
  said = record {
    kind = spoken.kind;
    xid = spoken.xid;
    client = duid;
    server = spoken.server;
    elapsed = spoken.elapsed;
    rapid = spoken.rapid;
    ias = spoken.ias;
  };
}

abbrev pub message_in : Mac → (duid : List ℕ) → OutContent → Option Sent6
message_in mac duid out = option_map (sent_from mac duid) out.say

-- the interface goes on with this client, and says these messages of it
pub record Does (f : Iface) (client : ClientContent) (says : List Sent6) (step : IfaceStep) : Type 0 where
  pub managed : step.iface.managed ≡ f.managed
  pub up : step.iface.up ≡ f.up
  pub stopped : step.iface.stopped ≡ f.stopped
  pub client_is : step.iface.dhcp6 ≡ client
  pub says_are : sixes step.said ≡ says

-- it does nothing for its client
abbrev pub Skips : Iface → IfaceStep → Type 0
Skips f step = Does f f.dhcp6 [] step

pub silent_skips : (f : Iface) → Skips f (silent f)
silent_skips f = record { managed = refl; up = refl; stopped = refl; client_is = refl; says_are = refl }

pub dhcp4_skips : (at : ℕ) (f : Iface) (step : Step4) → Skips f (dhcp4_step at f step)
dhcp4_skips at f step = record { managed = refl; up = refl; stopped = refl; client_is = refl; says_are = no_six step }

pub local_skips : (f : Iface) (step : LlStep) → Skips f (local_step f step)
local_skips f step = record {
  managed = refl;
  up = refl;
  stopped = refl;
  client_is = refl;
  says_are = no_arp_six
      (option_to_list step.out.arp);
}

pub off_skips : (f : Iface) → Skips f (local_off f)
off_skips f = record { managed = refl; up = refl; stopped = refl; client_is = refl; says_are = refl }

pub begin_local_skips : (at : ℕ) (f : Iface) → Skips f (begin_local at f)
begin_local_skips at f = record { managed = refl; up = refl; stopped = refl; client_is = refl; says_are = refl }

pub arms_skips : (at : ℕ) (f : Iface) → Skips f (arms at f)
arms_skips at f =
    gated (λ (step : IfaceStep). Skips f step) (holds_lease f) (silent f) _ (silent_skips f) (begin_local_skips at f)

-- a step of its client
pub dhcp6_does : (f : Iface) (turned : Turned6)
    → Does f turned.client (option_to_list (message_in f.managed.spec.mac f.dhcp6.settings.duid turned.out))
    (dhcp6_step f turned)
dhcp6_does f turned = record { managed = refl; up = refl; stopped = refl; client_is = refl; says_are = by_say turned.out.say }
  where
    by_say : (say : Option SpokenContent)
        → sixes (map (λ spoken. Dhcp6 (sent_from f.managed.spec.mac f.dhcp6.settings.duid spoken)) (option_to_list say))
        ≡ option_to_list (option_map (sent_from f.managed.spec.mac f.dhcp6.settings.duid) say)
    by_say None = refl
    by_say (Some spoken) = refl

-- ---- one after another

pub then_does : (f : Iface) (client last : ClientContent) (says more : List Sent6) (first : IfaceStep) (next : Iface
    → IfaceStep) → Does f client says first
    → ((g : Iface) → g.managed ≡ f.managed → g.dhcp6 ≡ client → Does g last more (next g))
    → Does f last (says ++ more) (then_step first next)
then_does f client last says more first next one two =
    let after : Does first.iface last more (next first.iface) = two first.iface one.managed one.client_is in
    record {
      managed = after.managed ∙ one.managed;
      up = after.up ∙ one.up;
      stopped = after.stopped ∙ one.stopped;
      client_is = after.client_is;
      says_are = sixes_join first.said (next first.iface).said ∙ (λ i. one.says_are i ++ after.says_are i);
    }

pub then_skips : (f : Iface) (client : ClientContent) (says : List Sent6) (first : IfaceStep) (next : Iface → IfaceStep)
    → Does f client says first
    → ((g : Iface) → Skips g (next g)) → Does f client says (then_step first next)
then_skips f client says first next one two =
    let after : Skips first.iface (next first.iface) = two first.iface in
    record {
      managed = after.managed ∙ one.managed;
      up = after.up ∙ one.up;
      stopped = after.stopped ∙ one.stopped;
      client_is = after.client_is ∙ one.client_is;
      says_are = sixes_join first.said (next first.iface).said ∙ (λ i. one.says_are i ++ after.says_are i) ∙ append-nil says;
    }
