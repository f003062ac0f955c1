-- No line of a lease's text holds a line feed.
use Rattle.std.proofs.Common.{ℕ, ◌^◌, ◌<◌, List, [], ◌∷◌, ◌++◌, map, Option, Some, None, refl, arith, flat_map}
use Rattle.std.specs.Prelude.{IfSome, decimal}
use Rattle.std.specs.List.{AllByRecursion}
use Rattle.lease_text.specs.FieldLaws.Fields.{Field, IsField}
use Rattle.lease_text.proofs.FieldLaws.KindLaws.{mac_is, name_is, number_is}
use Rattle.net_types.specs.declared.interface.Name.{Name}
use Rattle.net_types.specs.declared.moment.TheConstants.{MOMENT_LIMIT}
use Rattle.net_types.specs.AddressText.{FitsIp6, FitsMac}
use Rattle.net_types.specs.HexText.{hex_text}
use Rattle.net_types.specs.NameText.{FitsName}
use Rattle.net_types.specs.Marks.{AreBytes, Lacks}
use Rattle.net_types.specs.TextLines.{AreLines}
use Rattle.net_types.proofs.AllLaws.{all_join}
use Rattle.net_types.proofs.MarkLaws.{decimal_lacks, hex_lacks, lacks-append}
use Rattle.v6_options.specs.declared.ia.IaKind.{IaKind}
use Rattle.v6_options.specs.declared.ia.IaKind.TheVariants.{Na, Pd}
use Rattle.lease_text.specs.declared.lease.Origin.{Origin}
use Rattle.lease_text.specs.Leases.{ValueContent}
use Rattle.lease_text.specs.LeaseLines.{confirmed_word, end_line, interface_word, mac_word, option_line, option_word, value_text}
use Rattle.lease6_text.specs.declared.lease.Item6.{Item6}
use Rattle.lease6_text.specs.Bounds.{FitsIa, FitsItem, FitsOrigin, FitsValue6, HasText6, IsTypedIa}
use Rattle.lease6_text.specs.LeaseLines.{holder_lines, grant_lines, head_lines, server_word, renewal_word, rebinding_word, ia_word, kind_word, item_word, item_text, item_line, ia_line, ia_lines, lease6_lines}
use Rattle.lease6_text.specs.Leases.{IaLeaseContent, Lease6Content}
use Rattle.lease6_text.proofs.PartReads.{item_feed, kept_small, moment_is, server_is}

-- ---- IAs

item_fed : (kind : IaKind) (item : Item6) → FitsItem kind item → FitsIp6 item.net.ip → Lacks 10 (item_line kind item)
item_fed Na item good typed = lacks-append 10 (item_word Na) (item_text Na item) refl (item_feed Na item (record { good = good; typed = typed }))
item_fed Pd item good typed = lacks-append 10 (item_word Pd) (item_text Pd item) refl (item_feed Pd item (record { good = good; typed = typed }))

ia_fed : (kind : IaKind) (iaid : ℕ) → iaid < 2 ^ 32 → Lacks 10 (ia_line kind iaid)
ia_fed Na iaid small = lacks-append 10 (ia_word ++ kind_word Na) (decimal iaid) refl (decimal_lacks iaid 10 (omega (arith, small)) refl)
ia_fed Pd iaid small = lacks-append 10 (ia_word ++ kind_word Pd) (decimal iaid) refl (decimal_lacks iaid 10 (omega (arith, small)) refl)

items_fed : (kind : IaKind) (items : List Item6) → AllByRecursion (FitsItem kind) items → AllByRecursion (λ (item : Item6). FitsIp6 item.net.ip) items
    → AreLines (map (item_line kind) items)
items_fed kind [] good typed = tt
items_fed kind (item ∷ items) good typed = (item_fed kind item good.0 typed.0, items_fed kind items good.1 typed.1)

ias_fed : (ias : List IaLeaseContent) → AllByRecursion FitsIa ias → AllByRecursion IsTypedIa ias → AreLines (flat_map ia_lines ias)
ias_fed [] good typed = tt
ias_fed (ia ∷ ias) good typed =
    all_join (Lacks 10) (ia_lines ia) (flat_map ia_lines ias)
    (ia_fed ia.kind ia.iaid typed.0.iaid, items_fed ia.kind ia.items good.0.each typed.0.items) (ias_fed ias good.1 typed.1)

-- ---- values

value_fed : (value : ValueContent) → FitsValue6 value → AreBytes value.bytes → Lacks 10 (option_line value)
value_fed value good octets =
    let small = kept_small value.code good.kept in
    lacks-append 10 option_word (value_text value) refl
    (lacks-append 10 (decimal value.code) (32 ∷ hex_text value.bytes) (decimal_lacks value.code 10 (omega (arith, small)) refl)
    (hex_lacks value.bytes 10 octets refl))

values_fed : (values : List ValueContent) → AllByRecursion FitsValue6 values → AllByRecursion (λ value. AreBytes value.bytes) values
    → AreLines (map option_line values ++ end_line ∷ [])
values_fed [] good octets = (refl, tt)
values_fed (value ∷ values) good octets = (value_fed value good.0 octets.0, values_fed values good.1 octets.1)

-- ---- all lines

-- a word and a field
field_fed : {X : Type 0} {field : Field X} (word : List ℕ) (x : X) → Lacks 10 word → IsField field → field.Fits x → Lacks 10 (word ++ field.text x)
field_fed {field = field} word x free is fits = lacks-append 10 word (field.text x) free (is.no_feed x fits)

holder_fed : (origin : Option Origin) (name : Name) → FitsName name → FitsOrigin origin → IfSome origin (λ o. FitsMac o.mac)
    → AreLines (holder_lines origin name)
holder_fed None name fits timely typed = (refl, (field_fed interface_word name refl name_is fits, tt))
holder_fed (Some origin) name fits timely typed = (
  refl,
  (
    field_fed interface_word name refl name_is fits,
    (
      field_fed mac_word origin.mac refl mac_is typed,
      (field_fed confirmed_word origin.confirmed refl (number_is MOMENT_LIMIT) (record { small = omega (arith, timely); below = timely }), tt),
    ),
  ),
)

pub are_lines : (lease : Lease6Content) → HasText6 lease → AreLines (lease6_lines lease)
are_lines lease good =
    all_join (Lacks 10) (head_lines lease) (flat_map ia_lines lease.ias ++ (map option_line lease.values ++ end_line ∷ []))
    (all_join (Lacks 10) (holder_lines lease.origin lease.name) (grant_lines lease)
    (holder_fed lease.origin lease.name good.fits.name good.fits.origin good.typed.origin) (
      field_fed server_word lease.server refl server_is good.typed.server,
      (field_fed renewal_word lease.t1 refl moment_is good.fits.t1, (field_fed rebinding_word lease.t2 refl moment_is good.fits.t2, tt)),
    ))
    (all_join (Lacks 10) (flat_map ia_lines lease.ias) (map option_line lease.values ++ end_line ∷ [])
    (ias_fed lease.ias good.fits.ias.each good.typed.ias) (values_fed lease.values good.fits.values.each good.typed.values))
