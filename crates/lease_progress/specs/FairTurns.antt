-- A network as good as can be asked, turn by turn, and a life on it. Moments are in milliseconds.
use Rattle.std.specs.Prelude.{◌≡◌, ℕ, ◌+◌, ◌-◌, ◌*◌, ◌<◌, true, false, if◌then◌else◌, List, ◌∷◌, IfSome}
use Rattle.machine.specs.Since.{Always}
use Rattle.net_types.specs.declared.address.Mac.{Mac}
use Rattle.arp_acd.specs.declared.timing.TheConstants.{PROBE_WAIT, PROBE_NUM, PROBE_MAX, ANNOUNCE_WAIT}
use Rattle.lease_text.specs.declared.lease.Terms4.{Terms4}
use Rattle.v4_client.specs.Moments.{expiry}
use Rattle.settings.specs.declared.interfaces.IfConf.{IfConf}
use Rattle.client_model.specs.ClientSettings.{runs_dhcp4}
use Rattle.client_model.specs.Fitting.{FitsBeginning}
use Rattle.client_model.specs.KeptLeases.{Beginning}
use Rattle.evidence_words.specs.Entries.{Entry}
use Rattle.evidence_words.specs.Inputs.{Site, StaysOn, contests}
use Rattle.evidence_words.specs.IfaceLives.{Opening, Met, site_of, shown, IsLived, has_failed}
use Rattle.lease_evidence.specs.Exchanges.{Numbered}
use Rattle.lease_evidence.specs.HeldLeases.{KeepsTyped}
use Rattle.lease_evidence.specs.KeptBasis4.{IsUnrefused, Sometime}
use Rattle.lease_evidence.specs.LeaseBasis.{GoodAck}
use Rattle.lease_progress.specs.Prompt.{IsPrompt}
use Rattle.lease_progress.specs.Serving.{Answered, Serves}

-- The longest that probing takes (RFC 5227, section 2.1.1): the wait before the first probe, the gaps from each to the
-- next, and the quiet after the last. With `noarp` nothing is probed.
abbrev pub probing : IfConf → ℕ
probing conf = if conf.flags.noarp then 0 else PROBE_WAIT + (PROBE_NUM - 1) * PROBE_MAX + ANNOUNCE_WAIT

-- The carrier stays, nothing is given back, and no stop comes. The link takes the frames. An exchange that wasn't
-- granted isn't refused (RFC 2131, section 3.2), and no other host contests an address that was granted. What is
-- granted isn't over before it is probed. Servers answer in time.
pub record Fair (site : Site) (answered : Answered) (wait : ℕ) (e : Entry) (past : List Entry) : Type 0 where
  pub stays : StaysOn site e past
  pub taken : has_failed site e ≡ false
  pub unrefused : IsUnrefused site e past
  pub alone : (opened : Numbered) (terms : Terms4) → Sometime (GoodAck site opened terms) past
      → contests site terms.net.ip e ≡ false
  pub lasts : (opened : Numbered) (terms : Terms4) → GoodAck site opened terms e past
      → IfSome (expiry terms) (λ end. e.moment + probing site.managed.conf < end)
  pub served : Serves site answered wait (e ∷ past)

-- A life of an interface on which DHCPv4 runs, from an opening with carrier on, all of whose turns are so.
pub record GoesWell (own : List Mac) (b : Beginning) (o : Opening) (mets : List Met) (answered : Answered) (wait : ℕ)
    : Type 0 where
  pub fits : FitsBeginning b
  pub typed : KeepsTyped b
  pub runs : runs_dhcp4 b.managed.conf ≡ true
  pub up : (site_of own b o).up ≡ true
  pub lived : IsLived own b o mets
  pub prompt : IsPrompt own b o mets
  pub fair : Always (Fair (site_of own b o) answered wait) (shown o mets)
