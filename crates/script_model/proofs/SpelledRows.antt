-- The printed text of a row spells it, and each spelling stands in one line.
use Rattle.std.proofs.Common.{◌≡◌, ℕ, ◌^◌, ◌<◌, true, List, [], ◌∷◌, ◌++◌, map, codes, refl, sym, subst, arith}
use Rattle.std.specs.List.{AllByRecursion}
use Rattle.std.specs.Fmt.{decimal}
use Rattle.std.proofs.lemmas.Bool.Decides.{nat_tests}
use Rattle.world.specs.NetTypes.declared.address.Ip6.{Ip6}
use Rattle.world.specs.NetTypes.declared.address.Net6.{Net6}
use Rattle.world.specs.NetTypes.AddressText.{ip4_text, net_text}
use Rattle.world.specs.NetTypes.Ip6Text.{is_group_byte, SpellsIp6, SpellsNet6}
use Rattle.world.specs.NetTypes.Marks.{Lacks, is_printable, IsPrintable}
use Rattle.world.proofs.NetTypes.MarkLaws.{only-append, only_weaker, lacks_from, decimal_printable, ip4_printable, net4_printable}
use Rattle.world.specs.NetTypes.declared.address.Net.{Net}
use Rattle.world.specs.NetTypes.declared.address.Net.TheVariants.{V4, V6}
use Rattle.world.proofs.NetTypes.Ip6Laws.{ip6_printed, net6_printed}
use Rattle.world.specs.declared.rows.HostRow.{HostRow}
use Rattle.world.specs.declared.rows.HostRow.TheVariants.{Addr, Route}
use Rattle.world.specs.declared.rows.Via.{Via}
use Rattle.world.specs.declared.rows.Via.TheVariants.{OnLink, Reject, Gate4, Gate6}
use Rattle.world.specs.Rows.{IsInterface, IsNet, IsRow, LeadsTo}
use Rattle.world.specs.RowText.{row_text, way_text}
use Rattle.script_model.specs.RowSpellings.{SpellsNet, SpellsWay, SpellsRow}
use Rattle.script_model.specs.Spellings.{AreSpelled}

net_printed : (net : Net) → IsNet net → SpellsNet (net_text net) net
unfolding net_text
net_printed (V4 net) fits = refl
net_printed (V6 net) fits = net6_printed net (record { address = fits.0; prefix = fits.1 })

way_printed : (dest : Net) (way : Via) → LeadsTo dest way → SpellsWay (way_text way) way
way_printed dest OnLink leads = refl
way_printed dest Reject leads = refl
way_printed dest (Gate4 gate) leads = refl
way_printed (V4 net) (Gate6 gate) leads = absurd leads
way_printed (V6 net) (Gate6 gate) leads = record { address = _; spelled = refl; spells = ip6_printed gate leads }

pub row_printed : (row : HostRow) → IsRow row → SpellsRow (row_text row) row
unfolding row_text
row_printed (Addr iface net) fits = record { address = net_text net; spelled = refl; spells = net_printed net fits.1 }
row_printed (Route iface dest way metric) fits = record {
  network = net_text dest;
  path = way_text way;
  spelled = refl;
  spells = net_printed dest fits.1;
  leads = way_printed dest way fits.3;
}

-- so do the printed texts of rows, one by one
pub rows_printed : (rows : List HostRow) → AllByRecursion IsRow rows → AreSpelled SpellsRow (map row_text rows) rows
rows_printed [] fits = tt
rows_printed (row ∷ rows) fits = (row_printed row fits.0, rows_printed rows fits.1)

-- ---- the bytes of a spelling are printable

pub printable_word : (word text : List ℕ) → IsPrintable word → IsPrintable text → IsPrintable (word ++ text)
printable_word word text one other = only-append is_printable word text one other

group_printable : (b : ℕ) → is_group_byte b ≡ true → is_printable b ≡ true
group_printable b h = grind (arith, nat_tests)

pub ip6_printable : (text : List ℕ) (ip : Ip6) → SpellsIp6 text ip → IsPrintable text
ip6_printable text ip spells = only_weaker is_group_byte is_printable text group_printable spells.bytes

net6_printable : (text : List ℕ) (net : Net6) → SpellsNet6 text net → IsPrintable text
net6_printable text net spells =
    let small : net.len < 2 ^ 64 = let most = spells.prefix in omega arith in
    subst IsPrintable (sym spells.spelled)
    (printable_word (spells.address ++ codes "/") (decimal net.len)
    (printable_word spells.address (codes "/") (ip6_printable spells.address net.ip spells.spells) refl)
    (decimal_printable net.len small))

spelled_net_printable : (text : List ℕ) (net : Net) → IsNet net → SpellsNet text net → IsPrintable text
spelled_net_printable text (V4 net) fits spells = subst IsPrintable (sym spells) (net4_printable net (record { address = fits.0; prefix = fits.1 }))
spelled_net_printable text (V6 net) fits spells = net6_printable text net spells

spelled_way_printable : (text : List ℕ) (dest : Net) (way : Via) → LeadsTo dest way → SpellsWay text way → IsPrintable text
spelled_way_printable text dest OnLink leads spells = subst IsPrintable (sym spells) refl
spelled_way_printable text dest Reject leads spells = subst IsPrintable (sym spells) refl
spelled_way_printable text (V4 net) (Gate4 gate) leads spells =
    subst IsPrintable (sym spells) (printable_word (codes " via ") (ip4_text gate) refl (ip4_printable gate leads))
spelled_way_printable text (V6 net) (Gate4 gate) leads spells = absurd leads
spelled_way_printable text dest (Gate6 gate) leads spells =
    subst IsPrintable (sym spells.spelled) (printable_word (codes " via ") spells.address refl (ip6_printable spells.address gate spells.spells))

iface_printable : (number : ℕ) → IsInterface number → IsPrintable (decimal number)
iface_printable number fits = decimal_printable number (let within = fits.1 in omega arith)

pub spelled_printable : (text : List ℕ) (row : HostRow) → IsRow row → SpellsRow text row → IsPrintable text
spelled_printable text (Addr iface net) fits spells =
    subst IsPrintable (sym spells.spelled)
    (printable_word (codes "addr " ++ decimal iface.number ++ codes " ") spells.address
    (printable_word (codes "addr " ++ decimal iface.number) (codes " ")
    (printable_word (codes "addr ") (decimal iface.number) refl (iface_printable iface.number fits.0)) refl)
    (spelled_net_printable spells.address net fits.1 spells.spells))
spelled_printable text (Route iface dest way metric) fits spells =
    let small : metric < 2 ^ 64 = let below : metric < 2 ^ 32 = fits.4 in omega arith in
    let front = codes "route " ++ decimal iface.number ++ codes " " in
    subst IsPrintable (sym spells.spelled)
    (printable_word (front ++ spells.network ++ spells.path ++ codes " metric ") (decimal metric)
    (printable_word (front ++ spells.network ++ spells.path) (codes " metric ")
    (printable_word (front ++ spells.network) spells.path
    (printable_word front spells.network
    (printable_word (codes "route " ++ decimal iface.number) (codes " ")
    (printable_word (codes "route ") (decimal iface.number) refl (iface_printable iface.number fits.0)) refl)
    (spelled_net_printable spells.network dest fits.1 spells.spells))
    (spelled_way_printable spells.path dest way fits.3 spells.leads)) refl)
    (decimal_printable metric small))

-- so it stands in one line
pub spelled_line : (text : List ℕ) (row : HostRow) → IsRow row → SpellsRow text row → Lacks 10 text
spelled_line text row fits spells = lacks_from is_printable 10 text refl (spelled_printable text row fits spells)
