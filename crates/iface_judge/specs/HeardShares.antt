-- Whether an address is one out of a prefix that the Replies of an interface upstream give (RFC 3633, section 12.1).
use Rattle.std.specs.Prelude.{ℕ, ◌-◌, ◌*◌, Bool, false, ◌&&◌, ◌||◌, zero, suc, List}
use Rattle.std.specs.List.{list_any}
use Rattle.net_types.specs.declared.address.Net.{Net}
use Rattle.net_types.specs.declared.address.Net.TheVariants.{V4, V6}
use Rattle.net_types.specs.declared.address.Net6.{Net6}
use Rattle.net_types.specs.declared.interface.IfIndex.{IfIndex}
use Rattle.prefix_share.specs.Subnets.{address_count}
use Rattle.settings.specs.declared.dhcp6_conf.ShareConf.{ShareConf}
use Rattle.evidence_words.specs.Entries.{Entry}
use Rattle.evidence_words.specs.IfaceLives.{now_in}
use Rattle.evidence_words.specs.Inputs.{Site}
use Rattle.item_judge.specs.Judging.{is_delegated}
use Rattle.share_judge.specs.Sharing.{shares_out}
use Rattle.share_judge.specs.declared.prefix.HeldPrefix.{HeldPrefix}

-- The one prefix of this length that may have the address first in its subnet for the share: what the share adds to
-- the prefix, and one, are taken from the address.
abbrev pub prefix_by : Net6 → ShareConf → (len : ℕ) → HeldPrefix
prefix_by net share len = record {
  iaid = share.iaid;
  net = record {
    ip = record { number = net.ip.number - 1 - share.share.sla * address_count share.share.len };
    len = len;
  };
}

-- the interface upstream has this prefix, and gives the address out of it
abbrev pub is_of : Site → IfIndex → Net6 → List Entry → HeldPrefix → Bool
is_of upstream index net past held =
    shares_out upstream.managed index (V6 net) held
    && is_delegated upstream held.iaid held.net (now_in past) past

-- so for one of the lengths below this one
abbrev pub is_of_some : Site → IfIndex → Net6 → List Entry → ShareConf → (below : ℕ) → Bool
is_of_some upstream index net past share zero = false
is_of_some upstream index net past share (suc len) =
    is_of upstream index net past (prefix_by net share len) || is_of_some upstream index net past share len

-- A prefix has up to 127 bits.
abbrev pub is_heard_share : Site → IfIndex → Net → List Entry → Bool
is_heard_share upstream index (V4 net) past = false
is_heard_share upstream index (V6 net) past =
    list_any (λ share. is_of_some upstream index net past share 128) upstream.managed.conf.dhcp6.shares
