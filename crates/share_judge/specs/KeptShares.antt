-- Whether an address is one out of a prefix of the kept lease of the interface upstream, while servers are asked for
-- that lease again (RFC 8415, section 18.2.12).
use Rattle.std.specs.Prelude.{ℕ, Bool, false, ◌&&◌, ◌==◌, List, Option, Some, None, is_some}
use Rattle.std.specs.List.{list_any}
use Rattle.net_types.specs.declared.address.Net.{Net}
use Rattle.net_types.specs.declared.interface.IfIndex.{IfIndex}
use Rattle.v6_options.specs.declared.ia.IaKind.TheVariants.{Pd}
use Rattle.lease6_text.specs.declared.lease.Item6.{Item6}
use Rattle.lease6_text.specs.Leases.{IaLeaseContent, Lease6Content}
use Rattle.lease6_text.specs.LineParts.{is_same_kind}
use Rattle.settings.specs.declared.dhcp6_conf.IaConf.{IaConf}
use Rattle.settings.specs.declared.interfaces.Managed.{Managed}
use Rattle.v6_client.specs.V6Items.Items.{is_live}
use Rattle.audit_words.specs.EvidenceWords.Entries.{Entry}
use Rattle.audit_words.specs.EvidenceWords.Inputs.{Site}
use Rattle.kept_judge.specs.declared.standing.Kept6.{Kept6}
use Rattle.kept_judge.specs.Asking6.{is_asking6, kept6_in}
use Rattle.share_judge.specs.declared.prefix.HeldPrefix.{HeldPrefix}
use Rattle.share_judge.specs.Sharing.{shares_out}

abbrev pub is_asked_by : (iaid : ℕ) → IaConf → Bool
is_asked_by iaid ia = is_same_kind ia.kind Pd && (ia.iaid == iaid)

-- the interface asks for the prefixes of this IAID
abbrev pub is_asked : List IaConf → (iaid : ℕ) → Bool
is_asked ias iaid = list_any (is_asked_by iaid) ias

abbrev pub prefix_of : (iaid : ℕ) → Item6 → HeldPrefix
prefix_of iaid item = record { iaid = iaid; net = item.net }

-- a prefix whose valid lifetime isn't over gives the address
abbrev pub item_shares : Managed → IfIndex → Net → (now iaid : ℕ) → Item6 → Bool
item_shares upstream index net now iaid item = is_live now item && shares_out upstream index net (prefix_of iaid item)

-- so one of an IA_PD that is asked for
abbrev pub ia_shares : Managed → IfIndex → Net → (now : ℕ) → IaLeaseContent → Bool
ia_shares upstream index net now ia =
    is_same_kind ia.kind Pd && is_asked upstream.conf.dhcp6.ias ia.iaid
    && list_any (item_shares upstream index net now ia.iaid) ia.items

-- of a lease that tells its origin, and is asked for on an interface with carrier
abbrev pub lease_shares : Managed → IfIndex → Net → (now : ℕ) → Kept6 → Option Lease6Content → Bool
lease_shares upstream index net now kept None = false
lease_shares upstream index net now kept (Some lease) =
    is_some lease.origin && list_any (ia_shares upstream index net now) lease.ias
    && kept.up && is_asking6 now kept.asked

abbrev pub is_kept_share : Site → IfIndex → Net → (now : ℕ) → List Entry → Bool
is_kept_share upstream index net now past =
    upstream.managed.conf.flags.persistent
    && lease_shares upstream.managed index net now (kept6_in upstream past) upstream.kept6
