-- All lines of a lease are taken, one after another.
use Rattle.std.proofs.Common.{◌≡◌, ℕ, suc, ◌+◌, ◌≤◌, true, List, [], ◌∷◌, ◌++◌, length, map, Option, Some, None, option_map, option_and_then, refl, sym, ap, ◌∙◌, subst, arith, append_assoc, flat_map, length-append}
use Rattle.std.specs.Prelude.{AllPairs, IfSome, decimal}
use Rattle.std.specs.List.{AllByRecursion}
use Rattle.std.proofs.lemmas.List.{append-nil}
use Rattle.lease_text.specs.FieldLaws.Fields.{Field, IsField}
use Rattle.lease_text.proofs.FieldLaws.KindLaws.{mac_is, name_is, number_is}
use Rattle.net_types.specs.declared.interface.Name.{Name}
use Rattle.net_types.specs.declared.moment.TheConstants.{MOMENT_LIMIT}
use Rattle.net_types.specs.AddressText.{FitsIp6, FitsMac}
use Rattle.net_types.specs.HexText.{hex_text}
use Rattle.net_types.specs.NameText.{FitsName}
use Rattle.net_types.specs.Cutting.{after_word, by_word, differ, end_at}
use Rattle.net_types.specs.LineFormats.{WholeRun}
use Rattle.net_types.specs.LineReading.{run}
use Rattle.net_types.specs.Marks.{AreBytes}
use Rattle.net_types.specs.Reads.{Reads}
use Rattle.net_types.specs.TextLines.{Line}
use Rattle.net_types.proofs.ChoiceLaws.{words_apart}
use Rattle.net_types.proofs.ReadsLaws.{end_reads, guard_reads, strip_whole, word_reads}
use Rattle.v6_options.specs.declared.ia.IaKind.{IaKind}
use Rattle.v6_options.specs.declared.ia.IaKind.TheVariants.{Na, Pd}
use Rattle.lease_text.specs.declared.lease.Origin.{Origin}
use Rattle.lease_text.specs.Bounds.{IsRising}
use Rattle.lease_text.specs.Leases.{ValueContent}
use Rattle.lease_text.specs.LeaseLines.{confirmed_word, end_line, interface_word, mac_word, option_line, option_word, value_text}
use Rattle.lease_text.specs.LeaseReading.{last_code}
use Rattle.lease_text.proofs.LineReads.{last_more}
use Rattle.lease6_text.specs.declared.lease.Item6.{Item6}
use Rattle.lease6_text.specs.declared.reading.NextLine.{NextLine}
use Rattle.lease6_text.specs.declared.reading.NextLine.TheVariants.{Interface, OriginMac, Confirmed, Server, Renewal, Rebinding, FirstItem, Ias, Values, Nothing}
use Rattle.lease6_text.specs.declared.reading.TextVersion.TheVariants.{Plain, WithOrigin}
use Rattle.lease6_text.specs.Bounds.{FitsItem, FitsOrigin, FitsValue6, HasText6}
use Rattle.lease6_text.specs.LeaseLines.{SpellsLease6, plain_line, origin_line, interface_line, mac_line, confirmed_line, holder_lines, grant_lines, server_word, renewal_word, rebinding_word, ia_word, kind_word, item_word, item_text, item_line, ia_line, ia_lines, moment_text, lease6_lines}
use Rattle.lease6_text.specs.LeaseReading.{Reading, goes_to, with_origin, begun, with_ia, item_rest, item_added, with_value, value_step, step_at, step, given, start}
use Rattle.lease6_text.specs.LinesRead.{CanBegin}
use Rattle.lease6_text.specs.Leases.{IaLeaseContent, Lease6Content}
use Rattle.lease6_text.specs.LineParts.{may_begin, may_join, value6_at}
use Rattle.lease6_text.proofs.Apart.{apart_from, apart_before}
use Rattle.lease6_text.proofs.IaFacts.{AreIas, CanJoin, UnlikeItems, begins, comes_after, joins, own_fits}
use Rattle.lease6_text.proofs.LastIa.{rest_is, with_ias, added_is}
use Rattle.lease6_text.proofs.PartReads.{IsItem, IsNext, ia_reads, item_reads, kept_small, moment_is, server_is, value_reads, version_reads}

-- ---- one line

one_more : (reading next : Reading) (line : Line) (rest : List Line) (end : Option Reading) → step reading line ≡ Some next → run step rest next ≡ end
    → run step (line ∷ rest) reading ≡ end
one_more reading next line rest end e later = ap (option_and_then (run step rest)) e ∙ later

said : {X A : Type 0} {text_of : X → List ℕ} {Fits : X → Type 0} {found : List ℕ → Option X} (make : X → A) (x : X) → Reads text_of Fits found → Fits x
    → option_map make (found (text_of x)) ≡ Some (make x)
said make x law fits = ap (option_map make) (law.whole x fits)

-- the state within the lines of the IAs and the values
abbrev at_body : Lease6Content → NextLine → List IaLeaseContent → List ValueContent → Reading
at_body lease next ias values =
    record { next = next; origin = lease.origin; name = lease.name; server = Some lease.server; t1 = lease.t1; t2 = lease.t2; ias = ias; values = values }

-- ---- values

-- values that a lease has after others
record AreValues (before values : List ValueContent) : Type 0 where
  rising : IsRising (last_code before) values
  each : AllByRecursion FitsValue6 values
  octets : AllByRecursion (λ value. AreBytes value.bytes) values

first_next : (before : List ValueContent) (value : ValueContent) (values : List ValueContent) → AreValues before (value ∷ values)
    → IsNext (last_code before) value
first_next before value values are = record { above = are.rising.0; code = kept_small value.code are.each.0.kept; good = are.each.0; octets = are.octets.0 }

other_values : (before : List ValueContent) (value : ValueContent) (values : List ValueContent) → AreValues before (value ∷ values)
    → AreValues (before ++ value ∷ []) values
other_values before value values are =
    record { rising = subst (λ n. IsRising n values) (sym (last_more before value)) are.rising.1; each = are.each.1; octets = are.octets.1 }

value_said : (reading : Reading) (value : ValueContent) → IsNext (last_code reading.values) value
    → value_step reading (option_line value) ≡ Some (with_value reading value)
unfolding value_step
value_said reading value is =
    ap
    (λ o. by_word o (λ rest. option_map (with_value reading) (value6_at (last_code reading.values) rest))
    (option_map (λ _. goes_to Nothing reading) (after_word end_line end_at (option_line value))))
    (strip_whole option_word (value_text value))
    ∙ said (with_value reading) value (value_reads (last_code reading.values)) is

end_said : (reading : Reading) → value_step reading end_line ≡ Some (goes_to Nothing reading)
unfolding value_step
end_said reading =
    ap
    (λ o. by_word o (λ rest. option_map (with_value reading) (value6_at (last_code reading.values) rest))
    (option_map (λ _. goes_to Nothing reading) (after_word end_line end_at end_line)))
    (words_apart option_word end_line [] refl)
    ∙ said (λ _. goes_to Nothing reading) tt (word_reads end_line end_reads) tt

values_run : (lease : Lease6Content) (ias : List IaLeaseContent) (before values : List ValueContent) → AreValues before values
    → run step (map option_line values ++ end_line ∷ []) (at_body lease Values ias before) ≡ Some (at_body lease Nothing ias (before ++ values))
unfolding step_at
values_run lease ias before [] are =
    one_more (at_body lease Values ias before) (at_body lease Nothing ias before) end_line [] _ (end_said (at_body lease Values ias before))
    (ap (λ values. Some (at_body lease Nothing ias values)) (sym (append-nil before)))
values_run lease ias before (value ∷ values) are =
    one_more (at_body lease Values ias before) (at_body lease Values ias (before ++ value ∷ [])) (option_line value) (map option_line values ++ end_line ∷ []) _
    (value_said (at_body lease Values ias before) value (first_next before value values are))
    (values_run lease ias (before ++ value ∷ []) values (other_values before value values are)
    ∙ ap (λ all. Some (at_body lease Nothing ias all)) (append_assoc before (value ∷ []) values))

-- ---- a value where an IA may come

kinds_apart : (word : List ℕ) → differ (item_word Na) word ≡ true → differ (item_word Pd) word ≡ true → (kind : IaKind) → differ (item_word kind) word ≡ true
kinds_apart word one other Na = one
kinds_apart word one other Pd = other

no_item : (ias : List IaLeaseContent) (word rest : List ℕ) → differ (item_word Na) word ≡ true → differ (item_word Pd) word ≡ true
    → item_rest ias (word ++ rest) ≡ None
no_item [] word rest one other = refl
no_item (ia ∷ []) word rest one other = words_apart (item_word ia.kind) word rest (kinds_apart word one other ia.kind)
no_item (ia ∷ next ∷ ias) word rest one other = no_item (next ∷ ias) word rest one other

no_ia : (reading : Reading) (word rest : List ℕ) → differ ia_word word ≡ true → differ (item_word Na) word ≡ true → differ (item_word Pd) word ≡ true
    → step_at Ias reading (word ++ rest) ≡ value_step reading (word ++ rest)
unfolding step_at
no_ia reading word rest ia one other =
    ap (λ o. by_word o (begun reading) (by_word (item_rest reading.ias (word ++ rest)) (item_added reading) (value_step reading (word ++ rest))))
    (words_apart ia_word word rest ia)
    ∙ ap (λ o. by_word o (item_added reading) (value_step reading (word ++ rest))) (no_item reading.ias word rest one other)

body_values : (lease : Lease6Content) (ias : List IaLeaseContent) (values : List ValueContent) → AreValues [] values
    → run step (map option_line values ++ end_line ∷ []) (at_body lease Ias ias []) ≡ Some (at_body lease Nothing ias values)
body_values lease ias [] are =
    one_more (at_body lease Ias ias []) (at_body lease Nothing ias []) end_line [] _
    (no_ia (at_body lease Ias ias []) end_line [] refl refl refl ∙ end_said (at_body lease Ias ias [])) refl
body_values lease ias (value ∷ values) are =
    one_more (at_body lease Ias ias []) (at_body lease Values ias (value ∷ [])) (option_line value) (map option_line values ++ end_line ∷ []) _
    (no_ia (at_body lease Ias ias []) option_word (value_text value) refl refl refl
    ∙ value_said (at_body lease Ias ias []) value (first_next [] value values are))
    (values_run lease ias (value ∷ []) values (other_values [] value values are))

-- ---- items

abbrev ia_of : IaKind → (iaid : ℕ) → List Item6 → IaLeaseContent
ia_of kind iaid items = record { kind = kind; iaid = iaid; items = items }

ia_not_item : (kind : IaKind) → differ ia_word (item_word kind) ≡ true
ia_not_item Na = refl
ia_not_item Pd = refl

item_said : (lease : Lease6Content) (front : List IaLeaseContent) (kind : IaKind) (iaid : ℕ) (got : List Item6) (item : Item6) → IsItem kind item
    → CanJoin got item
    → step (at_body lease Ias (front ++ ia_of kind iaid got ∷ []) []) (item_line kind item)
    ≡ Some (at_body lease Ias (front ++ ia_of kind iaid (got ++ item ∷ []) ∷ []) [])
unfolding step_at
item_said lease front kind iaid got item is can =
    let ia : IaLeaseContent = ia_of kind iaid got in
    let reading : Reading = at_body lease Ias (front ++ ia ∷ []) [] in
    let line = item_line kind item in
    ap (λ o. by_word o (begun reading) (by_word (item_rest reading.ias line) (item_added reading) (value_step reading line)))
    (words_apart ia_word (item_word kind) (item_text kind item) (ia_not_item kind))
    ∙ ap (λ o. by_word o (item_added reading) (value_step reading line)) (rest_is front ia line ∙ strip_whole (item_word kind) (item_text kind item))
    ∙ added_is reading front ia (item_text kind item) refl
    ∙ ap (option_map (λ new. with_ias reading (front ++ new ∷ [])))
    (said (λ i. ia_of kind iaid (got ++ i ∷ [])) item (guard_reads (may_join got) (item_reads kind)) (is, joins got item can))

-- items that an IA of this kind has after others
pub record AreItems (kind : IaKind) (got items : List Item6) : Type 0 where
  pub few : length (got ++ items) ≤ 4
  pub unlike : AllPairs UnlikeItems (got ++ items)
  pub each : AllByRecursion (IsItem kind) items

next_joins : (kind : IaKind) (got : List Item6) (item : Item6) (items : List Item6) → AreItems kind got (item ∷ items) → CanJoin got item
next_joins kind got item items are = record {
  few =
      (let few = are.few in let long : length (got ++ item ∷ items)
      ≡ length got + suc (length items) = length-append got (item ∷ items) in omega (arith, few, long));
  anew = apart_before UnlikeItems got item items (apart_from UnlikeItems (got ++ item ∷ items) are.unlike);
}

others_are : (kind : IaKind) (got : List Item6) (item : Item6) (items : List Item6) → AreItems kind got (item ∷ items) → AreItems kind (got ++ item ∷ []) items
others_are kind got item items are =
    let same = sym (append_assoc got (item ∷ []) items) in
    record {
      few = subst (λ all. length all ≤ 4) same are.few;
      unlike = subst (λ all. AllPairs UnlikeItems all) same are.unlike;
      each = are.each.1;
    }

items_run : (lease : Lease6Content) (front : List IaLeaseContent) (kind : IaKind) (iaid : ℕ) (got items : List Item6) (rest : List Line) (end : Option Reading)
    → AreItems kind got items
    → run step rest (at_body lease Ias (front ++ ia_of kind iaid (got ++ items) ∷ []) []) ≡ end
    → run step (map (item_line kind) items ++ rest) (at_body lease Ias (front ++ ia_of kind iaid got ∷ []) []) ≡ end
items_run lease front kind iaid got [] rest end are later =
    ap (λ all. run step rest (at_body lease Ias (front ++ ia_of kind iaid all ∷ []) [])) (sym (append-nil got)) ∙ later
items_run lease front kind iaid got (item ∷ items) rest end are later =
    one_more (at_body lease Ias (front ++ ia_of kind iaid got ∷ []) []) (at_body lease Ias (front ++ ia_of kind iaid (got ++ item ∷ []) ∷ []) [])
    (item_line kind item) (map (item_line kind) items ++ rest) end
    (item_said lease front kind iaid got item are.each.0 (next_joins kind got item items are))
    (items_run lease front kind iaid (got ++ item ∷ []) items rest end (others_are kind got item items are)
    (ap (λ all. run step rest (at_body lease Ias (front ++ ia_of kind iaid all ∷ []) [])) (append_assoc got (item ∷ []) items) ∙ later))

-- ---- IAs

abbrev first_item : Lease6Content → List IaLeaseContent → IaKind → (iaid : ℕ) → Reading
first_item lease front kind iaid = at_body lease (FirstItem kind iaid) front []

ia_said : (lease : Lease6Content) (front : List IaLeaseContent) (kind : IaKind) (iaid : ℕ) → CanBegin front (kind, iaid)
    → step (at_body lease Ias front []) (ia_line kind iaid) ≡ Some (first_item lease front kind iaid)
unfolding step_at
ia_said lease front kind iaid can =
    let reading : Reading = at_body lease Ias front [] in
    let line = ia_line kind iaid in
    ap (λ o. by_word o (begun reading) (by_word (item_rest reading.ias line) (item_added reading) (value_step reading line)))
    (strip_whole ia_word (kind_word kind ++ decimal iaid))
    ∙ said (λ (key : IaKind × ℕ). goes_to (FirstItem key.0 key.1) reading) (kind, iaid) (guard_reads (may_begin front) ia_reads)
    (can.iaid, begins front (kind, iaid) can)

first_said : (lease : Lease6Content) (front : List IaLeaseContent) (kind : IaKind) (iaid : ℕ) (item : Item6) → IsItem kind item
    → step (first_item lease front kind iaid) (item_line kind item) ≡ Some (at_body lease Ias (front ++ ia_of kind iaid (item ∷ []) ∷ []) [])
unfolding step_at
first_said lease front kind iaid item is =
    said (with_ia (first_item lease front kind iaid) kind iaid) item (word_reads (item_word kind) (item_reads kind)) is

ia_run : (lease : Lease6Content) (front : List IaLeaseContent) (kind : IaKind) (iaid : ℕ) (items : List Item6) (rest : List Line) (end : Option Reading)
    → CanBegin front (kind, iaid)
    → 1 ≤ length items → AreItems kind [] items → run step rest (at_body lease Ias (front ++ ia_of kind iaid items ∷ []) []) ≡ end
    → run step (ia_line kind iaid ∷ (map (item_line kind) items ++ rest)) (at_body lease Ias front []) ≡ end
ia_run lease front kind iaid [] rest end can some are later = absurd (omega (arith, some))
ia_run lease front kind iaid (item ∷ items) rest end can some are later =
    one_more (at_body lease Ias front []) (first_item lease front kind iaid) (ia_line kind iaid)
    (item_line kind item ∷ (map (item_line kind) items ++ rest)) end
    (ia_said lease front kind iaid can)
    (one_more (first_item lease front kind iaid) (at_body lease Ias (front ++ ia_of kind iaid (item ∷ []) ∷ []) []) (item_line kind item)
    (map (item_line kind) items ++ rest) end
    (first_said lease front kind iaid item are.each.0)
    (items_run lease front kind iaid (item ∷ []) items rest end (others_are kind [] item items are) later))

each_item : (kind : IaKind) (items : List Item6) → AllByRecursion (FitsItem kind) items → AllByRecursion (λ (item : Item6). FitsIp6 item.net.ip) items
    → AllByRecursion (IsItem kind) items
each_item kind [] good typed = tt
each_item kind (item ∷ items) good typed = (record { good = good.0; typed = typed.0 }, each_item kind items good.1 typed.1)

ias_run : (lease : Lease6Content) (front ias : List IaLeaseContent) (rest : List Line) (end : Option Reading) → AreIas (front ++ ias)
    → run step rest (at_body lease Ias (front ++ ias) []) ≡ end → run step (flat_map ia_lines ias ++ rest) (at_body lease Ias front []) ≡ end
ias_run lease front [] rest end are later = ap (λ all. run step rest (at_body lease Ias all [])) (sym (append-nil front)) ∙ later
ias_run lease front (ia ∷ ias) rest end are later =
    let fits = own_fits front ia ias are in
    let same = append_assoc front (ia ∷ []) ias in
    let others = flat_map ia_lines ias ++ rest in
    ap (λ lines. run step (ia_line ia.kind ia.iaid ∷ lines) (at_body lease Ias front []))
    (append_assoc (map (item_line ia.kind) ia.items) (flat_map ia_lines ias) rest)
    ∙ ia_run lease front ia.kind ia.iaid ia.items others end (comes_after front ia ias are) fits.0.some
    (record { few = fits.0.few; unlike = fits.0.unlike; each = each_item ia.kind ia.items fits.0.each fits.1.items })
    (ias_run lease (front ++ ia ∷ []) ias rest end (subst AreIas (sym same) are) (ap (λ all. run step rest (at_body lease Ias all [])) same ∙ later))

-- ---- the whole lease

abbrev body_lines : Lease6Content → List Line
body_lines lease = flat_map ia_lines lease.ias ++ (map option_line lease.values ++ end_line ∷ [])

-- the lines after those of to whom it was granted
abbrev pub lines_after : Lease6Content → List Line
lines_after lease = grant_lines lease ++ body_lines lease

pub holder_then : (lease : Lease6Content) → lease6_lines lease ≡ holder_lines lease.origin lease.name ++ lines_after lease
holder_then lease = append_assoc (holder_lines lease.origin lease.name) (grant_lines lease) (body_lines lease)

abbrev at_grant : NextLine → Name → Option Origin → (server : Option (List ℕ)) → (t1 t2 : Option ℕ) → Reading
at_grant next name origin server t1 t2 =
    record { next = next; origin = origin; name = name; server = server; t1 = t1; t2 = t2; ias = []; values = [] }

said_field : {X A : Type 0} {field : Field X} (word : List ℕ) (make : X → A) (x : X) → IsField field → field.Fits x
    → option_map make (after_word word field.at (word ++ field.text x)) ≡ Some (make x)
said_field word make x is fits = said make x (word_reads word is.reads) fits

holder_run : (origin : Option Origin) (name : Name) (rest : List Line) (end : Option Reading) → FitsName name → FitsOrigin origin
    → IfSome origin (λ o. FitsMac o.mac)
    → run step rest (at_grant Server name origin None None None) ≡ end → run step (holder_lines origin name ++ rest) start ≡ end
unfolding step_at
holder_run None name rest end fits timely typed later =
    let begun : Reading = record start { next = Interface Plain } in
    one_more start begun plain_line (interface_line name ∷ rest) end (said (λ version. goes_to (Interface version) start) Plain version_reads tt)
    (one_more begun (at_grant Server name None None None None) (interface_line name) rest end
    (said_field interface_word (λ n. record begun { next = Server; name = n }) name name_is fits) later)
holder_run (Some origin) name rest end fits timely typed later =
    let begun : Reading = record start { next = Interface WithOrigin } in
    let before : NextLine → Reading = λ next. at_grant next name None None None None in
    let confirmed = confirmed_line origin.confirmed ∷ rest in
    one_more start begun origin_line (interface_line name ∷ mac_line origin.mac ∷ confirmed) end
    (said (λ version. goes_to (Interface version) start) WithOrigin version_reads tt)
    (one_more begun (before OriginMac) (interface_line name) (mac_line origin.mac ∷ confirmed) end
    (said_field interface_word (λ n. record begun { next = OriginMac; name = n }) name name_is fits)
    (one_more (before OriginMac) (before (Confirmed origin.mac)) (mac_line origin.mac) confirmed end
    (said_field mac_word (λ mac. goes_to (Confirmed mac) (before OriginMac)) origin.mac mac_is typed)
    (one_more (before (Confirmed origin.mac)) (at_grant Server name (Some origin) None None None) (confirmed_line origin.confirmed) rest end
    (said_field confirmed_word (with_origin (before (Confirmed origin.mac)) origin.mac) origin.confirmed (number_is MOMENT_LIMIT)
    (record { small = omega (arith, timely); below = timely })) later)))

lines_run : (lease : Lease6Content) → HasText6 lease → run step (lease6_lines lease) start ≡ Some (at_body lease Nothing lease.ias lease.values)
unfolding step_at
lines_run lease good =
    let at : NextLine → (server : Option (List ℕ)) → (t1 t2 : Option ℕ) → Reading = λ next. at_grant next lease.name lease.origin in
    let t2 = (rebinding_word ++ moment_text lease.t2) ∷ body_lines lease in
    let t1 = (renewal_word ++ moment_text lease.t1) ∷ t2 in
    ap (λ lines. run step lines start) (holder_then lease)
    ∙ holder_run lease.origin lease.name (lines_after lease) _ good.fits.name good.fits.origin good.typed.origin
    (one_more (at Server None None None) (at Renewal (Some lease.server) None None) (server_word ++ hex_text lease.server) t1 _
    (said_field server_word (λ server. at Renewal (Some server) None None) lease.server server_is good.typed.server)
    (one_more (at Renewal (Some lease.server) None None) (at Rebinding (Some lease.server) lease.t1 None) (renewal_word ++ moment_text lease.t1) t2 _
    (said_field renewal_word (λ t1. at Rebinding (Some lease.server) t1 None) lease.t1 moment_is good.fits.t1)
    (one_more (at Rebinding (Some lease.server) lease.t1 None) (at Ias (Some lease.server) lease.t1 lease.t2) (rebinding_word ++ moment_text lease.t2)
    (body_lines lease) _
    (said_field rebinding_word (λ t2. at Ias (Some lease.server) lease.t1 t2) lease.t2 moment_is good.fits.t2)
    (ias_run lease [] lease.ias (map option_line lease.values ++ end_line ∷ []) _ (record { fit = good.fits.ias; typed = good.typed.ias })
    (body_values lease lease.ias lease.values (record { rising = good.fits.values.rising; each = good.fits.values.each; octets = good.typed.values }))))))

pub whole : (lease : Lease6Content) (lines : List Line) → SpellsLease6 lease lines → WholeRun step given start lines lease
whole lease lines spells = record {
  state = at_body lease Nothing lease.ias lease.values;
  runs = ap (λ ls. run step ls start) spells.0 ∙ lines_run lease spells.1;
  gives = refl;
}
