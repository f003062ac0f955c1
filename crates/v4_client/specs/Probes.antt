-- Where addresses are probed, three probes come before a client is bound to a lease.
use Rattle.std.specs.Prelude.{◌≡◌, ℕ, ◌+◌, Bool, true, false, List, [], ◌∷◌, Option, Some, None, ◌==◌}
use Rattle.net_types.specs.declared.address.Ip4.{Ip4}
use Rattle.arp_acd.specs.declared.detection.ArpSay.{ArpSay}
use Rattle.arp_acd.specs.declared.detection.ArpSay.TheVariants.{Probe, Announce}
use Rattle.lease_text.specs.declared.lease.Terms4.{Terms4}
use Rattle.v4_client.specs.declared.states.Answer4.{Answer4}
use Rattle.v4_client.specs.declared.states.State4.TheVariants.{Off}
use Rattle.v4_client.specs.Clients.{ClientContent, bound_terms}
use Rattle.v4_client.specs.Moves.{is_grant}
use Rattle.v4_client.specs.History.{Event4, Tick, Heard, HeardArp, Unsent, Carries, Release, Rebind, step_of, answer_in, after_event, client_after}

abbrev pub is_probe_for : Ip4 → Option ArpSay → Bool
is_probe_for address None = false
is_probe_for address (Some (Probe probed)) = probed.number == address.number
is_probe_for address (Some (Announce announced)) = false

-- with an acceptable ACK, and with a send that failed, probing begins anew
abbrev pub is_anew : Event4 → Answer4 → Bool
is_anew (Tick at salt) said = is_grant said
is_anew (Heard arrival salt) said = is_grant said
is_anew (HeardArp own arp at salt) said = is_grant said
is_anew (Unsent at salt) said = true
is_anew (Carries carrier at salt) said = is_grant said
is_anew (Release tell at salt) said = is_grant said
is_anew (Rebind at salt) said = is_grant said

abbrev pub counted : (anew probe : Bool) → (before : ℕ) → ℕ
counted true probe before = 0
counted false true before = before + 1
counted false false before = before

-- how many probes for an address were said since probing began anew
abbrev pub probes_since : (start : ClientContent) → Ip4 → List Event4 → ℕ
probes_since start address [] = 0
probes_since start address (event ∷ past) =
    let c : ClientContent = client_after start past in
    counted (is_anew event (answer_in event c)) (is_probe_for address (step_of event c).arp)
    (probes_since start address past)

-- Where addresses are probed, the event from which on a client is bound to a lease comes after three probes for its
-- address. All of them were said since the ACK that granted it, and since the last send that failed.
abbrev pub ProbesFirst : Type 0
ProbesFirst = (start : ClientContent) (past : List Event4) (event : Event4) (terms : Terms4) → start.state ≡ Off
    → start.settings.site.flags.noarp ≡ false → bound_terms (client_after start past).state ≡ None
    → bound_terms (after_event event (client_after start past)).state ≡ Some terms
    → probes_since start terms.net.ip past ≡ 3
