-- One line is taken: the lines so far are those of the lease up to the next one.
use Rattle.std.proofs.Common.{◌≡◌, ℕ, ◌<◌, List, [], ◌∷◌, ◌++◌, map, take, Option, Some, None, option_map, refl, sym, ap, ◌∙◌, subst, append_assoc, flat_map}
use Rattle.std.proofs.lemmas.Grind.{flat_map-append}
use Rattle.std.proofs.lemmas.List.{append-nil, map-append}
use Rattle.std.proofs.lemmas.Option.{none-some}
use Rattle.lease_text.specs.FieldLaws.Fields.{Field, IsField}
use Rattle.lease_text.proofs.FieldLaws.KindLaws.{mac_is, name_is, number_is}
use Rattle.net_types.specs.declared.address.Mac.{Mac}
use Rattle.net_types.specs.declared.interface.Name.{Name}
use Rattle.net_types.specs.declared.moment.TheConstants.{MOMENT_LIMIT}
use Rattle.net_types.specs.AddressText.{FitsMac}
use Rattle.net_types.specs.Cutting.{after_word, by_word, end_at, guarded, strip_word}
use Rattle.net_types.specs.Marks.{AreBytes}
use Rattle.net_types.specs.NameText.{FitsName}
use Rattle.net_types.specs.Reads.{Reads}
use Rattle.net_types.specs.TextLines.{Line}
use Rattle.net_types.proofs.AllLaws.{all_join}
use Rattle.net_types.proofs.ReadsLaws.{end_reads, guard_reads, mapped, strip_sound, word_reads}
use Rattle.v6_options.specs.declared.ia.IaKind.{IaKind}
use Rattle.lease_text.specs.declared.lease.Origin.{Origin}
use Rattle.lease_text.specs.Bounds.{IsRising}
use Rattle.lease_text.specs.Leases.{ValueContent}
use Rattle.lease_text.specs.LeaseLines.{confirmed_word, end_line, interface_word, mac_word, option_line, option_word}
use Rattle.lease_text.specs.LeaseReading.{last_code}
use Rattle.lease_text.proofs.LineReads.{last_after, last_is_after}
use Rattle.lease6_text.specs.declared.lease.Item6.{Item6}
use Rattle.lease6_text.specs.declared.reading.NextLine.{NextLine}
use Rattle.lease6_text.specs.declared.reading.NextLine.TheVariants.{Version, Interface, OriginMac, Confirmed, Server, Renewal, Rebinding, FirstItem, Ias, Values, Nothing}
use Rattle.lease6_text.specs.declared.reading.TextVersion.{TextVersion}
use Rattle.lease6_text.specs.declared.reading.TextVersion.TheVariants.{Plain, WithOrigin}
use Rattle.lease6_text.specs.Bounds.{FitsMoment, FitsValue6, HasText6, IsDuid}
use Rattle.lease6_text.specs.LeaseLines.{interface_line, server_word, renewal_word, rebinding_word, moment_text, ia_word, item_word, item_line, ia_line, ia_lines, holder_lines, grant_lines, head_lines}
use Rattle.lease6_text.specs.LeaseReading.{Reading, after_interface, goes_to, with_origin, begun, with_ia, item_rest, ia_joined, item_added, with_value, value_step, step_at}
use Rattle.lease6_text.specs.LinesRead.{lease_in, lines_before, CanBegin, HasRead}
use Rattle.lease6_text.specs.Leases.{IaLeaseContent, Lease6Content}
use Rattle.lease6_text.specs.LineParts.{item_at, may_begin, may_join, value6_at}
use Rattle.lease6_text.proofs.IaFacts.{AreIas, CanJoin, can_begin, can_join, ia_more, ia_with, item_more, one_item}
use Rattle.lease6_text.proofs.LastIa.{last_ia, with_ias, added_is, maps_join}
use Rattle.lease6_text.proofs.PartReads.{IsItem, IsNext, ia_reads, item_reads, moment_is, server_is, value_reads, version_reads}

-- ---- a line is taken

-- A line was taken after those of a lease up to this one.
pub record Taken (from : NextLine) (lease : Lease6Content) (line : Line) (next : Reading) : Type 0 where
  pub spelled : lines_before next.next (lease_in next) ≡ lines_before from lease ++ line ∷ []
  pub good : HasText6 (lease_in next)
  pub read : HasRead next.next next.origin next.ias next.values

-- more lines after those of the head
behind : (lease : Lease6Content) (lines more : List Line) → head_lines lease ++ (lines ++ more) ≡ (head_lines lease ++ lines) ++ more
behind lease lines more = sym (append_assoc (head_lines lease) lines more)

-- by what is read of the line after a word
by_reads : {X : Type 0} {text_of : X → List ℕ} {Fits : X → Type 0} {found : List ℕ → Option X} (from : NextLine) (lease : Lease6Content) (text : List ℕ)
    (next : Reading)
    (word : List ℕ) (make : X → Reading) → Reads text_of Fits found → ((x : X) → Fits x → Taken from lease (word ++ text_of x) (make x))
    → option_map make (found text) ≡ Some next → Taken from lease (word ++ text) next
by_reads {found = found} from lease text next word make law takes e =
    let m = mapped make (found text) next e in
    let s = law.sound text m.value m.was in
    subst (λ n. Taken from lease (word ++ text) n) m.gives
    (subst (λ t. Taken from lease (word ++ t) (make m.value)) (sym s.0) (takes m.value s.1))

-- by the field after a word
by_field : {X : Type 0} {field : Field X} (from : NextLine) (lease : Lease6Content) (line : Line) (next : Reading) (word : List ℕ) (make : X → Reading)
    → IsField field
    → ((x : X) → field.Fits x → Taken from lease (word ++ field.text x) (make x)) → option_map make (after_word word field.at line) ≡ Some next
    → Taken from lease line next
by_field from lease line next word make is takes e = by_reads from lease line next [] make (word_reads word is.reads) takes e

-- ---- a lease with other parts

with_name : (lease : Lease6Content) (name : Name) → HasText6 lease → FitsName name → HasText6 (record lease { name = name })
with_name lease name good fits = record {
  fits = record { origin = good.fits.origin; name = fits; t1 = good.fits.t1; t2 = good.fits.t2; ias = good.fits.ias; values = good.fits.values };
  typed = record { origin = good.typed.origin; server = good.typed.server; ias = good.typed.ias; values = good.typed.values };
}

abbrev pub origin_of : Mac → (at : ℕ) → Option Origin
origin_of mac at = Some (record { mac = mac; confirmed = at })

pub with_origin_fits : (lease : Lease6Content) (mac : Mac) (at : ℕ) → HasText6 lease → FitsMac mac → at < MOMENT_LIMIT
    → HasText6 (record lease { origin = origin_of mac at })
with_origin_fits lease mac at good fits early = record {
  fits = record { origin = early; name = good.fits.name; t1 = good.fits.t1; t2 = good.fits.t2; ias = good.fits.ias; values = good.fits.values };
  typed = record { origin = fits; server = good.typed.server; ias = good.typed.ias; values = good.typed.values };
}

with_server : (lease : Lease6Content) (server : List ℕ) → HasText6 lease → IsDuid server → HasText6 (record lease { server = server })
with_server lease server good is = record {
  fits = record { origin = good.fits.origin; name = good.fits.name; t1 = good.fits.t1; t2 = good.fits.t2; ias = good.fits.ias; values = good.fits.values };
  typed = record { origin = good.typed.origin; server = is; ias = good.typed.ias; values = good.typed.values };
}

with_t1 : (lease : Lease6Content) (t1 : Option ℕ) → HasText6 lease → FitsMoment t1 → HasText6 (record lease { t1 = t1 })
with_t1 lease t1 good fits = record {
  fits = record { origin = good.fits.origin; name = good.fits.name; t1 = fits; t2 = good.fits.t2; ias = good.fits.ias; values = good.fits.values };
  typed = record { origin = good.typed.origin; server = good.typed.server; ias = good.typed.ias; values = good.typed.values };
}

with_t2 : (lease : Lease6Content) (t2 : Option ℕ) → HasText6 lease → FitsMoment t2 → HasText6 (record lease { t2 = t2 })
with_t2 lease t2 good fits = record {
  fits = record { origin = good.fits.origin; name = good.fits.name; t1 = good.fits.t1; t2 = fits; ias = good.fits.ias; values = good.fits.values };
  typed = record { origin = good.typed.origin; server = good.typed.server; ias = good.typed.ias; values = good.typed.values };
}

other_ias : (lease : Lease6Content) (ias : List IaLeaseContent) → HasText6 lease → AreIas ias → HasText6 (record lease { ias = ias })
other_ias lease ias good are = record {
  fits = record { origin = good.fits.origin; name = good.fits.name; t1 = good.fits.t1; t2 = good.fits.t2; ias = are.fit; values = good.fits.values };
  typed = record { origin = good.typed.origin; server = good.typed.server; ias = are.typed; values = good.typed.values };
}

ias_are : (lease : Lease6Content) → HasText6 lease → AreIas lease.ias
ias_are lease good = record { fit = good.fits.ias; typed = good.typed.ias }

-- ---- the first item of an IA

abbrev pub new_ia : IaKind → (iaid : ℕ) → Item6 → IaLeaseContent
new_ia kind iaid item = record { kind = kind; iaid = iaid; items = item ∷ [] }

pub first_good : (reading : Reading) (kind : IaKind) (iaid : ℕ) (item : Item6) → HasText6 (lease_in reading) → CanBegin reading.ias (kind, iaid)
    → IsItem kind item
    → HasText6 (lease_in (with_ia reading kind iaid item))
first_good reading kind iaid item good can is =
    other_ias (lease_in reading) (reading.ias ++ new_ia kind iaid item ∷ []) good
    (ia_more reading.ias (new_ia kind iaid item) (ias_are (lease_in reading) good) can (one_item kind iaid item is)
    (record { iaid = can.iaid; items = (is.typed, tt) }))

pub first_lines : (ias : List IaLeaseContent) (kind : IaKind) (iaid : ℕ) (item : Item6)
    → flat_map ia_lines (ias ++ new_ia kind iaid item ∷ []) ≡ (flat_map ia_lines ias ++ ia_line kind iaid ∷ []) ++ item_line kind item ∷ []
first_lines ias kind iaid item =
    flat_map-append ia_lines ias (new_ia kind iaid item ∷ []) ∙ sym (append_assoc (flat_map ia_lines ias) (ia_line kind iaid ∷ []) (item_line kind item ∷ []))

first_taken : (reading : Reading) (kind : IaKind) (iaid : ℕ) (item : Item6) → HasText6 (lease_in reading) → CanBegin reading.ias (kind, iaid)
    → reading.values ≡ []
    → IsItem kind item → Taken (FirstItem kind iaid) (lease_in reading) (item_line kind item) (with_ia reading kind iaid item)
first_taken reading kind iaid item good can none is = record {
  spelled = ap (λ lines. head_lines (lease_in reading) ++ lines) (first_lines reading.ias kind iaid item)
      ∙ behind (lease_in reading) (flat_map ia_lines reading.ias ++ ia_line kind iaid ∷ []) (item_line kind item ∷ []);
  good = first_good reading kind iaid item good can is;
  read = none;
}

-- ---- an item more

last_lines : (ia : IaLeaseContent) (item : Item6) → flat_map ia_lines (ia_with ia item ∷ []) ≡ flat_map ia_lines (ia ∷ []) ++ item_line ia.kind item ∷ []
last_lines ia item =
    append-nil (ia_lines (ia_with ia item))
    ∙ ap (λ lines. ia_line ia.kind ia.iaid ∷ lines) (map-append (item_line ia.kind) ia.items (item ∷ []))
    ∙ ap (λ lines. lines ++ item_line ia.kind item ∷ []) (sym (append-nil (ia_lines ia)))

pub more_lines : (front : List IaLeaseContent) (ia : IaLeaseContent) (item : Item6)
    → flat_map ia_lines (front ++ ia_with ia item ∷ []) ≡ flat_map ia_lines (front ++ ia ∷ []) ++ item_line ia.kind item ∷ []
more_lines front ia item =
    flat_map-append ia_lines front (ia_with ia item ∷ [])
    ∙ ap (λ lines. flat_map ia_lines front ++ lines) (last_lines ia item)
    ∙ sym (append_assoc (flat_map ia_lines front) (flat_map ia_lines (ia ∷ [])) (item_line ia.kind item ∷ []))
    ∙ ap (λ lines. lines ++ item_line ia.kind item ∷ []) (sym (flat_map-append ia_lines front (ia ∷ [])))

abbrev pub with_last : Reading → List IaLeaseContent → IaLeaseContent → Reading
with_last reading front ia = with_ias reading (front ++ ia ∷ [])

item_taken : (reading : Reading) (front : List IaLeaseContent) (ia : IaLeaseContent) (item : Item6) → HasText6 (lease_in (with_last reading front ia))
    → reading.values ≡ []
    → IsItem ia.kind item → CanJoin ia.items item
    → Taken Ias (lease_in (with_last reading front ia)) (item_line ia.kind item) (with_last reading front (ia_with ia item))
item_taken reading front ia item good none is can =
    let old = lease_in (with_last reading front ia) in
    record {
      spelled = ap (λ lines. head_lines old ++ lines) (more_lines front ia item)
          ∙ behind old (flat_map ia_lines (front ++ ia ∷ [])) (item_line ia.kind item ∷ []);
      good = other_ias old (front ++ ia_with ia item ∷ []) good (item_more front ia item (ias_are old good) is can);
      read = none;
    }

last_taken : (reading : Reading) (front : List IaLeaseContent) (ia : IaLeaseContent) (rest : List ℕ) (next : Reading)
    → HasText6 (lease_in (with_last reading front ia))
    → reading.values ≡ [] → option_map (λ new. with_last reading front new) (ia_joined rest ia) ≡ Some next
    → Taken Ias (lease_in (with_last reading front ia)) (item_word ia.kind ++ rest) next
last_taken reading front ia rest next good none e =
    by_reads Ias (lease_in (with_last reading front ia)) rest next (item_word ia.kind) (λ item. with_last reading front (ia_with ia item))
    (guard_reads (may_join ia.items) (item_reads ia.kind))
    (λ item fits. item_taken reading front ia item good none fits.0 (can_join ia.items item fits.1))
    (sym (maps_join (ia_with ia) (with_last reading front) (guarded (may_join ia.items) (item_at ia.kind rest))) ∙ e)

added_taken : (reading : Reading) (line : Line) (rest : List ℕ) (next : Reading) → HasText6 (lease_in reading) → reading.values ≡ []
    → item_rest reading.ias line ≡ Some rest → item_added reading rest ≡ Some next → Taken Ias (lease_in reading) line next
added_taken reading line rest next good none was e =
    let last = last_ia reading.ias line rest was in
    let line_is = strip_sound (item_word last.ia.kind) line rest last.was in
    let changed = sym (added_is reading last.front last.ia rest last.parts) ∙ e in
    subst (λ l. Taken Ias (lease_in reading) l next) (sym line_is)
    (subst (λ ias. HasText6 (lease_in (with_ias reading ias)) → Taken Ias (lease_in (with_ias reading ias)) (item_word last.ia.kind ++ rest) next)
    (sym last.parts)
    (λ fits. last_taken reading last.front last.ia rest next fits none changed) good)

-- ---- values

rising_more : (before : ℕ) (values : List ValueContent) (value : ValueContent) → IsRising before values → last_after before values < value.code
    → IsRising before (values ++ value ∷ [])
rising_more before [] value rising above = (above, tt)
rising_more before (first ∷ values) value rising above = (rising.0, rising_more first.code values value rising.1 above)

with_values : (lease : Lease6Content) (value : ValueContent) → HasText6 lease → IsNext (last_code lease.values) value
    → HasText6 (record lease { values = lease.values ++ value ∷ [] })
with_values lease value good is = record {
  fits = record {
    origin = good.fits.origin;
    name = good.fits.name;
    t1 = good.fits.t1;
    t2 = good.fits.t2;
    ias = good.fits.ias;
    values = record {
      each = all_join FitsValue6 lease.values (value ∷ []) good.fits.values.each (is.good, tt);
      rising = rising_more 0 lease.values value good.fits.values.rising (subst (λ n. n < value.code) (sym (last_is_after lease.values)) is.above);
    };
  };
  typed = record {
    origin = good.typed.origin;
    server = good.typed.server;
    ias = good.typed.ias;
    values = all_join (λ (v : ValueContent). AreBytes v.bytes) lease.values (value ∷ []) good.typed.values (is.octets, tt);
  };
}

value_taken : (reading : Reading) (line : Line) (next : Reading) → HasText6 (lease_in reading) → value_step reading line ≡ Some next
    → Taken Values (lease_in reading) line next
unfolding value_step
value_taken reading line next good e =
    let lease = lease_in reading in
    let lines = flat_map ia_lines reading.ias in
    elim (strip_word option_word line) as
    (λ o. strip_word option_word line ≡ o
    → by_word o (λ rest. option_map (with_value reading) (value6_at (last_code reading.values) rest))
    (option_map (λ _. goes_to Nothing reading) (after_word end_line end_at line))
    ≡ Some next
    → Taken Values lease line next) [
      | Some rest ↦ λ is q. subst (λ l. Taken Values lease l next) (sym (strip_sound option_word line rest is))
          (by_reads Values lease rest next option_word (with_value reading) (value_reads (last_code reading.values))
          (λ value fits. record {
            spelled = ap (λ ls. head_lines lease ++ (lines ++ ls)) (map-append option_line reading.values (value ∷ []))
                ∙ ap (λ ls. head_lines lease ++ ls) (sym (append_assoc lines (map option_line reading.values) (option_line value ∷ [])))
                ∙ behind lease (lines ++ map option_line reading.values) (option_line value ∷ []);
            good = with_values lease value good fits;
            read = tt;
          }) q)
      | None ↦ λ is q. by_reads Values lease line next [] (λ _. goes_to Nothing reading) (word_reads end_line end_reads)
          (λ u fits. record {
            spelled = ap (λ ls. head_lines lease ++ ls) (sym (append_assoc lines (map option_line reading.values) (end_line ∷ [])))
                ∙ behind lease (lines ++ map option_line reading.values) (end_line ∷ []);
            good = good;
            read = tt;
          }) q
    ] refl e

-- where no value was read, the lines before a value are those before an IA
no_values : (reading : Reading) → reading.values ≡ [] → lines_before Values (lease_in reading) ≡ lines_before Ias (lease_in reading)
no_values reading none =
    ap (λ values. head_lines (lease_in reading) ++ (flat_map ia_lines reading.ias ++ map option_line values)) none
    ∙ ap (λ lines. head_lines (lease_in reading) ++ lines) (append-nil (flat_map ia_lines reading.ias))

-- ---- all lines

body_taken : (reading : Reading) (line : Line) (next : Reading) → HasText6 (lease_in reading) → reading.values ≡ [] → step_at Ias reading line ≡ Some next
    → Taken Ias (lease_in reading) line next
unfolding step_at
body_taken reading line next good none e =
    let lease = lease_in reading in
    elim (strip_word ia_word line) as
    (λ o. strip_word ia_word line ≡ o
    → by_word o (begun reading) (by_word (item_rest reading.ias line) (item_added reading) (value_step reading line)) ≡ Some next
    → Taken Ias lease line next) [
      | Some rest ↦ λ is q. subst (λ l. Taken Ias lease l next) (sym (strip_sound ia_word line rest is))
          (by_reads Ias lease rest next ia_word (λ (key : IaKind × ℕ). goes_to (FirstItem key.0 key.1) reading) (guard_reads (may_begin reading.ias) ia_reads)
          (λ key fits.
          record {
            spelled = behind lease (flat_map ia_lines reading.ias) (ia_line key.0 key.1 ∷ []);
            good = good;
            read = (can_begin reading.ias key fits.0 fits.1, none);
          })
          q)
      | None ↦ λ is q.
          elim (item_rest reading.ias line) as
          (λ o. item_rest reading.ias line ≡ o → by_word o (item_added reading) (value_step reading line) ≡ Some next → Taken Ias lease line next) [
            | Some rest ↦ λ was p. added_taken reading line rest next good none was p
            | None ↦ λ was p.
                let t = value_taken reading line next good p in
                record { spelled = t.spelled ∙ ap (λ lines. lines ++ line ∷ []) (no_values reading none); good = t.good; read = t.read }
          ] refl q
    ] refl e

named : (reading : Reading) (version : TextVersion) (name : Name) → HasText6 (lease_in reading)
    → HasRead (Interface version) reading.origin reading.ias reading.values → FitsName name
    → Taken (Interface version) (lease_in reading) (interface_line name) (record reading { next = after_interface version; name = name })
named reading Plain name good read fits =
    record { spelled = ap (λ origin. holder_lines origin name) read.0; good = with_name (lease_in reading) name good fits; read = read.1 }
named reading WithOrigin name good read fits = record { spelled = refl; good = with_name (lease_in reading) name good fits; read = read }

-- the lines before those of IAs are whole
head_taken : (reading : Reading) (t2 : Option ℕ) → HasText6 (lease_in reading) → HasRead Rebinding reading.origin reading.ias reading.values → FitsMoment t2
    → Taken Rebinding (lease_in reading) (rebinding_word ++ moment_text t2) (record reading { next = Ias; t2 = t2 })
head_taken reading t2 good read fits =
    let lease = record (lease_in reading) { t2 = t2 } in
    record {
      spelled = ap (λ ias. head_lines lease ++ flat_map ia_lines ias) read.0 ∙ append-nil (head_lines lease)
          ∙ sym (append_assoc (holder_lines lease.origin lease.name) (take 2 (grant_lines lease)) ((rebinding_word ++ moment_text t2) ∷ []));
      good = with_t2 (lease_in reading) t2 good fits;
      read = read.1;
    }

pub line_taken : (from : NextLine) (reading : Reading) (line : Line) (next : Reading) → HasText6 (lease_in reading)
    → HasRead from reading.origin reading.ias reading.values
    → step_at from reading line ≡ Some next → Taken from (lease_in reading) line next
unfolding step_at
line_taken Version reading line next good read e =
    by_reads Version (lease_in reading) line next [] (λ version. goes_to (Interface version) reading) version_reads
    (λ version fits. record { spelled = refl; good = good; read = read }) e
line_taken (Interface version) reading line next good read e =
    by_field (Interface version) (lease_in reading) line next interface_word (λ name. record reading { next = after_interface version; name = name }) name_is
    (λ name fits. named reading version name good read fits) e
line_taken OriginMac reading line next good read e =
    by_field OriginMac (lease_in reading) line next mac_word (λ mac. goes_to (Confirmed mac) reading) mac_is
    (λ mac fits. record { spelled = refl; good = good; read = (fits, read.1) }) e
line_taken (Confirmed mac) reading line next good read e =
    by_field (Confirmed mac) (lease_in reading) line next confirmed_word (with_origin reading mac) (number_is MOMENT_LIMIT)
    (λ at fits. record { spelled = refl; good = with_origin_fits (lease_in reading) mac at good read.0 fits.below; read = read.1 }) e
line_taken Server reading line next good read e =
    by_field Server (lease_in reading) line next server_word (λ server. record reading { next = Renewal; server = Some server }) server_is
    (λ server fits. record { spelled = refl; good = with_server (lease_in reading) server good fits; read = read }) e
line_taken Renewal reading line next good read e =
    by_field Renewal (lease_in reading) line next renewal_word (λ t1. record reading { next = Rebinding; t1 = t1 }) moment_is
    (λ t1 fits. record {
      spelled = sym (append_assoc (holder_lines reading.origin reading.name) (take 1 (grant_lines (lease_in reading))) ((renewal_word ++ moment_text t1) ∷ []));
      good = with_t1 (lease_in reading) t1 good fits;
      read = read;
    }) e
line_taken Rebinding reading line next good read e =
    by_field Rebinding (lease_in reading) line next rebinding_word (λ t2. record reading { next = Ias; t2 = t2 }) moment_is
    (λ t2 fits. head_taken reading t2 good read fits) e
line_taken (FirstItem kind iaid) reading line next good read e =
    by_reads (FirstItem kind iaid) (lease_in reading) line next [] (with_ia reading kind iaid) (word_reads (item_word kind) (item_reads kind))
    (λ item fits. first_taken reading kind iaid item good read.0 read.1 fits) e
line_taken Ias reading line next good read e = body_taken reading line next good read e
line_taken Values reading line next good read e = value_taken reading line next good e
line_taken Nothing reading line next good read e = absurd (none-some next e)
