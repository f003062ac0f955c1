-- What a judge of link-local addresses keeps of an interface, and what it tells.
use Rattle.std.specs.Prelude.{◌≡◌, ◌↔◌, ℕ, Bool, true, false, ◌&&◌, ◌==◌, nat_le, bytes_eq, if◌then◌else◌, List, Option, Some, None}
use Rattle.std.specs.List.{list_all}
use Rattle.std.specs.Option.{is_some}
use Rattle.net_types.specs.AddressText.{FitsIp4}
use Rattle.net_types.specs.declared.address.Ip4.{Ip4}
use Rattle.net_types.specs.declared.address.Mac.{Mac}
use Rattle.net_types.specs.declared.address.Net.{Net}
use Rattle.net_types.specs.declared.address.Net.TheVariants.{V4, V6}
use Rattle.net_types.specs.declared.address.Net4.{Net4}
use Rattle.frame_link.specs.Packets.{announcement_text}
use Rattle.evidence_words.specs.Entries as told
use Rattle.evidence_words.specs.Inputs as told_of
use Rattle.evidence_words.specs.Inputs.{has_carrier, tells_use}
use Rattle.audit_words.specs.Shown.{entry_shown, site_shown}
use Rattle.audit_words.specs.declared.shown.Entry.{Entry}
use Rattle.audit_words.specs.declared.shown.Offer.{Offer}
use Rattle.audit_words.specs.declared.shown.Site.{Site}
use Rattle.probe_table.specs.ByAddress.{IsEntered, is_addr, value_at}
use Rattle.probe_table.specs.ProbeTimes.{is_past}
use Rattle.probe_table.specs.Table.{Holds, times_of}
use Rattle.probe_table.specs.Targets.{target_in}
use Rattle.probe_table.specs.declared.table.ProbeTable.{ProbeTable}
use Rattle.local_evidence.specs.LinkLocalBasis.{LinkLocalBasis}
use Rattle.local_judge.specs.Choices.{choice_after, choice_in, is_calm, turn_for}
use Rattle.local_judge.specs.declared.choices.Choice.{Choice}
use Rattle.local_judge.specs.declared.choices.ChoiceTurn.{ChoiceTurn}
use Rattle.local_judge.specs.declared.judge.Chosen.{Chosen}
use Rattle.local_judge.specs.declared.judge.LocalJudge.{LocalJudge}
use Rattle.local_judge.specs.declared.judge.LocalTurn.{LocalTurn}

-- ---- what is announced

-- the address that a frame of an interface announces
abbrev pub announced_in : Mac → List ℕ → Option Ip4
announced_in mac bytes =
    if bytes_eq bytes (announcement_text mac (target_in bytes)) then Some (target_in bytes) else None

-- the one that an offered frame announces, if it is the interface's
abbrev pub announcement_of : Site → Offer → Option Ip4
announcement_of site offer =
    if offer.iface.number == site.managed.spec.index.number
    then announced_in site.managed.spec.mac offer.bytes.items
    else None

-- ---- what stands for an address

abbrev pub chosen_addr : Chosen → Ip4
chosen_addr chosen = chosen.addr

abbrev pub own_choice : Chosen → Option Choice
own_choice chosen = chosen.choice

abbrev pub choice_at : List Chosen → Ip4 → Option Choice
choice_at chosen addr = value_at chosen_addr own_choice None chosen addr

abbrev pub AreEntered : (old : List Chosen) → (candidates : List Ip4) → (new : List Chosen) → Type 0
AreEntered old candidates new = IsEntered chosen_addr own_choice None old candidates new

-- The judge holds whether the interface has carrier, how far each address was probed, and the choice of each that
-- stands, after some turns.
pub record Tells (judge : LocalJudge) (site : told_of.Site) (past : List told.Entry) : Type 0 where
  pub up : judge.up ≡ has_carrier site past
  pub probed : Holds (is_calm site) site past judge.probed
  pub chosen : (addr : Ip4) → FitsIp4 addr → choice_at judge.chosen.items addr ≡ choice_in site addr past

-- ---- a turn

-- whether a turn is calm, and no other address is announced in it
abbrev pub fits_in : LocalTurn → Ip4 → Bool
fits_in turn addr = turn.calm && list_all (is_addr addr) turn.announced.now

abbrev pub turn_at : LocalTurn → Ip4 → ChoiceTurn
turn_at turn addr = record {
  moment = turn.moment;
  fits = fits_in turn addr;
  fourth = is_past 2000 (times_of turn.probed.now addr).third turn.moment;
  used = tells_use turn.own.now addr turn.arp;
}

abbrev pub left_of : LocalTurn → Chosen → Option Chosen
left_of turn c =
    if (turn_at turn c.addr).fits
    then Some (record { addr = c.addr; choice = choice_after (turn_at turn c.addr) c.choice })
    else None

-- What stands for each address becomes the choice that stands after a turn.
abbrev pub ChoicesGoOn : Site → Entry → (calm : Bool) → ProbeTable → (old new : List Chosen) → Type 0
ChoicesGoOn site entry calm probed old new = (addr : Ip4)
    → (choice_at new addr
    ≡ choice_after (turn_for calm (site_shown site) addr (entry_shown entry) (times_of probed addr))
    (choice_at old addr))

-- ---- what it tells

-- whether a host may choose an address by itself (RFC 3927, section 2.1)
abbrev pub in_range : Ip4 → Bool
in_range addr = nat_le 0xa9fe_0100 addr.number && nat_le addr.number 0xa9fe_feff

-- whether an address is one that was chosen, and its choice stands
abbrev pub stands_in : LocalJudge → Net4 → Bool
stands_in judge net = (net.len == 16) && in_range net.ip && is_some (choice_at judge.chosen.items net.ip)

-- whether the choice of an address stands after some turns
abbrev pub gives_in : told_of.Site → Net → (past : List told.Entry) → Bool
gives_in site (V4 net) past = (net.len == 16) && in_range net.ip && is_some (choice_in site net.ip past)
gives_in site (V6 net) past = false

-- That is so exactly where the address has its basis.
abbrev pub ChosenHaveBases : Type 0
ChosenHaveBases = (site : told_of.Site) (net : Net) (past : List told.Entry)
    → (gives_in site net past ≡ true) ↔ LinkLocalBasis site net past
