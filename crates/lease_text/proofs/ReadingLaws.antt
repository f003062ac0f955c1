-- What the text of a lease owes, so that a reader of its lines finds the first bad one.
use Rattle.std.proofs.Common.{◌≡◌, ℕ, ◌^◌, ◌<◌, ◌≤◌, true, false, cond, List, [], ◌∷◌, ◌++◌, map, take, Option, Some, None, option_map, option_and_then, refl, sym, ap, ◌∙◌, subst, arith, append_assoc, eqb}
use Rattle.std.specs.Prelude.{decimal, replicate, IfSome}
use Rattle.std.specs.List.{AllByRecursion}
use Rattle.std.proofs.lemmas.Bool.{eqb-true}
use Rattle.std.proofs.lemmas.Bool.Decides.{nat_tests}
use Rattle.std.proofs.lemmas.List.{append-nil}
use Rattle.std.proofs.lemmas.Option.{none-some}
use Rattle.net_types.specs.declared.fault.BadText.{BadText}
use Rattle.net_types.specs.declared.interface.Name.{Name}
use Rattle.net_types.specs.AddressText.{FitsIp4, FitsMac, ip4_text, mac_text, net4_text}
use Rattle.net_types.specs.Cutting.{after_word, by_word, end_at, strip_word}
use Rattle.net_types.specs.LineFormats.{Completes, LineLaws, WholeRun}
use Rattle.net_types.specs.LineReading.{run}
use Rattle.net_types.specs.Marks.{AreBytes, Lacks}
use Rattle.net_types.specs.Moments.{IsMoment}
use Rattle.net_types.specs.NameText.{is_name, name_at, name_text, FitsName}
use Rattle.net_types.specs.TextLines.{Line, AreLines, Front}
use Rattle.net_types.proofs.AllLaws.{all_join}
use Rattle.net_types.proofs.ChoiceLaws.{words_apart}
use Rattle.net_types.proofs.HexLaws.{cons_bytes, no_bytes}
use Rattle.net_types.proofs.MarkLaws.{lacks-append}
use Rattle.net_types.proofs.ReadsLaws.{mapped, some_same, strip_sound, strip_whole}
use Rattle.line_grammar.specs.FieldLaws.Fields.{Field, IsField}
use Rattle.line_grammar.proofs.FieldLaws.FieldLaws.{worded_is}
use Rattle.line_grammar.proofs.FieldLaws.KindLaws.{ip4_is, mac_is, name_is, no_field_is}
use Rattle.lease_text.specs.declared.lease.Origin.{Origin}
use Rattle.lease_text.specs.declared.lease.Terms4.{Terms4}
use Rattle.lease_text.specs.declared.lease.TheConstants.{INFINITE_LEASE}
use Rattle.lease_text.specs.declared.reading.LeaseLine.{LeaseLine}
use Rattle.lease_text.specs.declared.reading.LeaseLine.TheVariants.{Version, Interface, Term, Values, Nothing}
use Rattle.lease_text.specs.declared.reading.TermLine.{TermLine}
use Rattle.lease_text.specs.declared.reading.TermLine.TheVariants.{OriginMac, Confirmed, Address, Server, ServerMac, First, LeaseTime, Renewal, Rebinding}
use Rattle.lease_text.specs.Bounds.{FitsTerms, FitsValue, HasText, IsRising}
use Rattle.lease_text.specs.Leases.{ValueContent, LeaseContent, lease_with, terms_of}
use Rattle.lease_text.specs.LeaseLines.{first_version, second_version, end_line, interface_word, mac_word, confirmed_word, address_word, server_word, server_mac_word, first_word, lease_word, renewal_word, rebinding_word, option_word, value_text, option_line, holder_lines, grant_lines, head_lines, lease4_lines, SpellsLease4}
use Rattle.lease_text.specs.LeaseReading.{Reading, lease_in, least_renewal, untold_origin, term_in, after_term, last_code, value_at, with_value, by_version, version_at, of_version, after_interface, goes_to, step_at, step, given, start, first_terms, holder_before, grant_above, lines_before, HasValues, HasOrigin, IsSound, After, AnyCause}
use Rattle.lease_text.proofs.LineReads.{host_small, host_net_is, moment_is, seconds_is, FitsNext, value_is, last_after, last_is_after, last_more, kept_small}
use Rattle.lease_text.proofs.RunLaws.{after_run}

-- ---- a lease of other terms or values

abbrev IsTerms : Name → Terms4 → List ValueContent → Type 0
IsTerms name terms values = HasText (lease_with name terms values)

-- what the types of a lease say of its terms
record AreTyped (terms : Terms4) : Type 0 where
  pub origin : IfSome terms.origin (λ origin. FitsMac origin.mac)
  pub server : FitsIp4 terms.server
  pub server_mac : FitsMac terms.server_mac
  pub time : terms.lease ≤ INFINITE_LEASE

with_terms : (name : Name) (old new : Terms4) (values : List ValueContent) → IsTerms name old values → FitsTerms new → AreTyped new → IsTerms name new values
with_terms name old new values good terms typed = record {
  fits = record { name = good.fits.name; terms = terms; values = good.fits.values };
  typed = record { origin = typed.origin; server = typed.server; server_mac = typed.server_mac; time = typed.time; values = good.typed.values };
}

endless_least : (lease t1 : ℕ) → least_renewal lease ≤ t1 → t1 ≤ lease → lease ≡ INFINITE_LEASE → t1 ≡ INFINITE_LEASE
endless_least lease t1 above below endless = grind (arith, nat_tests)

least_fits : (lease t1 : ℕ) → (lease ≡ INFINITE_LEASE → t1 ≡ INFINITE_LEASE) → least_renewal lease ≤ t1
least_fits lease t1 endless =
    elim (eqb lease INFINITE_LEASE) as (λ b. eqb lease INFINITE_LEASE ≡ b → cond b INFINITE_LEASE 0 ≤ t1) [
      | true ↦ λ t. let same = endless (eqb-true lease INFINITE_LEASE t) in omega arith
      | false ↦ λ t. omega arith
    ] refl

-- ---- one line is taken

-- the lines before the next one are one more, and what was read is sound
record Follows (reading : Reading) (line : Line) (next : Reading) : Type 0 where
  pub lines : lines_before next.next (lease_in next) ≡ lines_before reading.next (lease_in reading) ++ line ∷ []
  pub sound : IsSound next

record Takes (reading : Reading) (line : Line) (next : Reading) : Type 0 where
  pub follows : Follows reading line next
  pub free : Lacks 10 line

word_takes : {X : Type 0} {field : Field X} (reading : Reading) (line : Line) (next : Reading) (word : List ℕ) (make : X → Reading) → Lacks 10 word
    → IsField field
    → ((x : X) → field.Fits x → Follows reading (word ++ field.text x) (make x)) → option_map make (after_word word field.at line) ≡ Some next
    → Takes reading line next
word_takes {field = field} reading line next word make free is follows e =
    let m = mapped make (after_word word field.at line) next e in
    let worded = worded_is word free is in
    let r = worded.reads.sound line m.value m.was in
    subst (λ t. Takes reading line t) m.gives
    (subst (λ l. Takes reading l (make m.value)) (sym r.0) (record { follows = follows m.value r.1; free = worded.no_feed m.value r.1 }))

maps_join : {A B C : Type 0} (f : A → B) (g : B → C) (o : Option A) → option_map g (option_map f o) ≡ option_map (λ x. g (f x)) o
maps_join f g None = refl
maps_join f g (Some x) = refl

abbrev at_line : LeaseLine → Name → Terms4 → Reading
at_line next name terms = record { next = next; name = name; terms = terms; values = [] }

-- a term is told by a field after a word
term_told : {X : Type 0} {field : Field X} (term : TermLine) (name : Name) (terms : Terms4) (line : Line) (next : Reading) (word : List ℕ) (told : X → Terms4)
    → Lacks 10 word → IsField field
    → ((x : X) → field.Fits x → Follows (at_line (Term term) name terms) (word ++ field.text x) (at_line (after_term term) name (told x)))
    → option_map (at_line (after_term term) name) (option_map told (after_word word field.at line)) ≡ Some next
    → Takes (at_line (Term term) name terms) line next
term_told {field = field} term name terms line next word told free is follows e =
    word_takes (at_line (Term term) name terms) line next word (λ x. at_line (after_term term) name (told x)) free is follows
    (sym (maps_join told (at_line (after_term term) name) (after_word word field.at line)) ∙ e)

-- the lines of the grant so far, one more, behind those of the holder
one_grant_line : (holder taken : List Line) (line : Line) → holder ++ (taken ++ line ∷ []) ≡ (holder ++ taken) ++ line ∷ []
one_grant_line holder taken line = sym (append_assoc holder taken (line ∷ []))

abbrev with_origin : Terms4 → Option Origin → Terms4
with_origin terms origin = record terms { origin = origin }

origin_fits : (name : Name) (terms : Terms4) (values : List ValueContent) (origin : Option Origin) → IfSome origin (λ o. IsMoment o.confirmed)
    → IfSome origin (λ o. FitsMac o.mac)
    → IsTerms name terms values → IsTerms name (with_origin terms origin) values
origin_fits name terms values origin moment mac good =
    let t = good.fits.terms in
    with_terms name terms (with_origin terms origin) values good
    (record {
      address = t.address;
      len = t.len;
      confirmed = moment;
      first = t.first;
      lease = t.lease;
      renews = t.renews;
      rebinds = t.rebinds;
      endless = t.endless;
    })
    (record { origin = mac; server = good.typed.server; server_mac = good.typed.server_mac; time = good.typed.time })

abbrev OriginTakes : TermLine → Name → Terms4 → Line → Reading → Option Origin → Type 0
OriginTakes term name terms line next origin =
    IsTerms name (with_origin terms origin) [] → HasOrigin (Term term) origin
    → option_map (at_line (after_term term) name) (term_in term (with_origin terms origin) line) ≡ Some next
    → Takes (at_line (Term term) name (with_origin terms origin)) line next

mac_takes : (name : Name) (terms : Terms4) (line : Line) (next : Reading) (origin : Option Origin) → OriginTakes OriginMac name terms line next origin
unfolding term_in
mac_takes name terms line next None good some e = absurd (let never : false ≡ true = some in cc)
mac_takes name terms line next (Some origin) good some e =
    term_told OriginMac name (with_origin terms (Some origin)) line next mac_word (λ mac. with_origin terms (Some (record origin { mac = mac }))) refl mac_is
    (λ mac fits. record {
      lines = refl;
      sound = record {
        good = origin_fits name (with_origin terms (Some origin)) [] (Some (record origin { mac = mac })) good.fits.terms.confirmed fits good;
        values = refl;
        origin = refl;
      };
    }) e

confirmed_takes : (name : Name) (terms : Terms4) (line : Line) (next : Reading) (origin : Option Origin) → OriginTakes Confirmed name terms line next origin
unfolding term_in
confirmed_takes name terms line next None good some e = absurd (let never : false ≡ true = some in cc)
confirmed_takes name terms line next (Some origin) good some e =
    term_told Confirmed name (with_origin terms (Some origin)) line next confirmed_word
    (λ at. with_origin terms (Some (record origin { confirmed = at }))) refl moment_is
    (λ at fits. record {
      lines = refl;
      sound = record {
        good = origin_fits name (with_origin terms (Some origin)) [] (Some (record origin { confirmed = at })) fits good.typed.origin good;
        values = refl;
        origin = tt;
      };
    }) e

term_takes : (term : TermLine) (name : Name) (terms : Terms4) (line : Line) (next : Reading) → IsTerms name terms [] → HasOrigin (Term term) terms.origin
    → option_map (at_line (after_term term) name) (term_in term terms line) ≡ Some next → Takes (at_line (Term term) name terms) line next
unfolding term_in
term_takes OriginMac name terms line next good some e = mac_takes name terms line next terms.origin good some e
term_takes Confirmed name terms line next good some e = confirmed_takes name terms line next terms.origin good some e
term_takes Address name terms line next good some e =
    let t = good.fits.terms in
    term_told Address name terms line next address_word (λ net. record terms { net = net }) refl host_net_is
    (λ net fits. record {
      lines = one_grant_line (holder_lines (lease_with name terms [])) (take 0 (grant_lines (lease_with name terms []))) (address_word ++ net4_text net);
      sound = record {
        good = with_terms name terms (record terms { net = net }) [] good
            (record {
              address = fits.host;
              len = fits.address.prefix;
              confirmed = t.confirmed;
              first = t.first;
              lease = t.lease;
              renews = t.renews;
              rebinds = t.rebinds;
              endless = t.endless;
            })
            (record { origin = good.typed.origin; server = good.typed.server; server_mac = good.typed.server_mac; time = good.typed.time });
        values = refl;
        origin = tt;
      };
    }) e
term_takes Server name terms line next good some e =
    let t = good.fits.terms in
    term_told Server name terms line next server_word (λ server. record terms { server = server }) refl ip4_is
    (λ server fits. record {
      lines = one_grant_line (holder_lines (lease_with name terms [])) (take 1 (grant_lines (lease_with name terms []))) (server_word ++ ip4_text server);
      sound = record {
        good = with_terms name terms (record terms { server = server }) [] good
            (record {
              address = t.address;
              len = t.len;
              confirmed = t.confirmed;
              first = t.first;
              lease = t.lease;
              renews = t.renews;
              rebinds = t.rebinds;
              endless = t.endless;
            })
            (record { origin = good.typed.origin; server = fits; server_mac = good.typed.server_mac; time = good.typed.time });
        values = refl;
        origin = tt;
      };
    }) e
term_takes ServerMac name terms line next good some e =
    let t = good.fits.terms in
    term_told ServerMac name terms line next server_mac_word (λ mac. record terms { server_mac = mac }) refl mac_is
    (λ mac fits. record {
      lines = one_grant_line (holder_lines (lease_with name terms [])) (take 2 (grant_lines (lease_with name terms []))) (server_mac_word ++ mac_text mac);
      sound = record {
        good = with_terms name terms (record terms { server_mac = mac }) [] good
            (record {
              address = t.address;
              len = t.len;
              confirmed = t.confirmed;
              first = t.first;
              lease = t.lease;
              renews = t.renews;
              rebinds = t.rebinds;
              endless = t.endless;
            })
            (record { origin = good.typed.origin; server = good.typed.server; server_mac = fits; time = good.typed.time });
        values = refl;
        origin = tt;
      };
    }) e
term_takes First name terms line next good some e =
    let t = good.fits.terms in
    term_told First name terms line next first_word (λ first. record terms { first = first }) refl moment_is
    (λ first fits. record {
      lines = one_grant_line (holder_lines (lease_with name terms [])) (take 3 (grant_lines (lease_with name terms []))) (first_word ++ decimal first);
      sound = record {
        good = with_terms name terms (record terms { first = first }) [] good
            (record {
              address = t.address;
              len = t.len;
              confirmed = t.confirmed;
              first = fits;
              lease = t.lease;
              renews = t.renews;
              rebinds = t.rebinds;
              endless = t.endless;
            })
            (record { origin = good.typed.origin; server = good.typed.server; server_mac = good.typed.server_mac; time = good.typed.time });
        values = refl;
        origin = tt;
      };
    }) e
term_takes LeaseTime name terms line next good some e =
    let t = good.fits.terms in
    term_told LeaseTime name terms line next lease_word (λ lease. record terms { lease = lease; t1 = lease; t2 = lease }) refl
    (seconds_is 1 INFINITE_LEASE (omega arith))
    (λ lease fits. record {
      lines = one_grant_line (holder_lines (lease_with name terms [])) (take 4 (grant_lines (lease_with name terms []))) (lease_word ++ decimal lease);
      sound = record {
        good = with_terms name terms (record terms { lease = lease; t1 = lease; t2 = lease }) [] good
            (record {
              address = t.address;
              len = t.len;
              confirmed = t.confirmed;
              first = t.first;
              lease = fits.0;
              renews = omega arith;
              rebinds = omega arith;
              endless = λ e. e;
            })
            (record { origin = good.typed.origin; server = good.typed.server; server_mac = good.typed.server_mac; time = fits.1 });
        values = refl;
        origin = tt;
      };
    }) e
term_takes Renewal name terms line next good some e =
    let t = good.fits.terms in
    let below : terms.lease < 2 ^ 32 = let up = good.typed.time in omega arith in
    term_told Renewal name terms line next renewal_word (λ t1. record terms { t1 = t1; t2 = terms.lease }) refl
    (seconds_is (least_renewal terms.lease) terms.lease below)
    (λ t1 fits. record {
      lines = one_grant_line (holder_lines (lease_with name terms [])) (take 5 (grant_lines (lease_with name terms []))) (renewal_word ++ decimal t1);
      sound = record {
        good = with_terms name terms (record terms { t1 = t1; t2 = terms.lease }) [] good
            (record {
              address = t.address;
              len = t.len;
              confirmed = t.confirmed;
              first = t.first;
              lease = t.lease;
              renews = fits.1;
              rebinds = omega arith;
              endless = endless_least terms.lease t1 fits.0 fits.1;
            })
            (record { origin = good.typed.origin; server = good.typed.server; server_mac = good.typed.server_mac; time = good.typed.time });
        values = refl;
        origin = tt;
      };
    }) e
term_takes Rebinding name terms line next good some e =
    let t = good.fits.terms in
    let below : terms.lease < 2 ^ 32 = let up = good.typed.time in omega arith in
    term_told Rebinding name terms line next rebinding_word (λ t2. record terms { t2 = t2 }) refl (seconds_is terms.t1 terms.lease below)
    (λ t2 fits. record {
      lines =
          append-nil (head_lines (lease_with name (record terms { t2 = t2 }) []))
          ∙ one_grant_line (holder_lines (lease_with name terms [])) (take 6 (grant_lines (lease_with name terms []))) (rebinding_word ++ decimal t2);
      sound = record {
        good = with_terms name terms (record terms { t2 = t2 }) [] good
            (record {
              address = t.address;
              len = t.len;
              confirmed = t.confirmed;
              first = t.first;
              lease = t.lease;
              renews = fits.0;
              rebinds = fits.1;
              endless = t.endless;
            })
            (record { origin = good.typed.origin; server = good.typed.server; server_mac = good.typed.server_mac; time = good.typed.time });
        values = tt;
        origin = tt;
      };
    }) e

-- ---- values

rising_more : (before : ℕ) (values : List ValueContent) (value : ValueContent) → IsRising before values → last_after before values < value.code
    → IsRising before (values ++ value ∷ [])
rising_more before [] value rising above = (above, tt)
rising_more before (first ∷ values) value rising above = (rising.0, rising_more first.code values value rising.1 above)

lines_more : (values : List ValueContent) (value : ValueContent) → map option_line (values ++ value ∷ []) ≡ map option_line values ++ option_line value ∷ []
lines_more [] value = refl
lines_more (first ∷ values) value = ap (λ lines. option_line first ∷ lines) (lines_more values value)

more_values : (name : Name) (terms : Terms4) (values : List ValueContent) (value : ValueContent) → IsTerms name terms values → FitsNext (last_code values) value
    → IsTerms name terms (values ++ value ∷ [])
more_values name terms values value good fits = record {
  fits = record {
    name = good.fits.name;
    terms = good.fits.terms;
    values = record {
      each = all_join FitsValue values (value ∷ []) good.fits.values.each (fits.good, tt);
      rising = rising_more 0 values value good.fits.values.rising (subst (λ n. n < value.code) (sym (last_is_after values)) fits.above);
    };
  };
  typed = record {
    origin = good.typed.origin;
    server = good.typed.server;
    server_mac = good.typed.server_mac;
    time = good.typed.time;
    values = all_join (λ (v : ValueContent). AreBytes v.bytes) values (value ∷ []) good.typed.values (fits.octets, tt);
  };
}

value_takes : (name : Name) (terms : Terms4) (values : List ValueContent) (rest : List ℕ) (next : Reading) → IsTerms name terms values
    → option_map (with_value (record { next = Values; name = name; terms = terms; values = values })) (value_at (last_code values) rest) ≡ Some next
    → Takes (record { next = Values; name = name; terms = terms; values = values }) (option_word ++ rest) next
value_takes name terms values rest next good e =
    let reading : Reading = record { next = Values; name = name; terms = terms; values = values } in
    let m = mapped (with_value reading) (value_at (last_code values) rest) next e in
    let is = value_is (last_code values) in
    let r = is.reads.sound rest m.value m.was in
    let heads = head_lines (lease_in reading) in
    subst (λ t. Takes reading (option_word ++ rest) t) m.gives
    (subst (λ w. Takes reading (option_word ++ w) (with_value reading m.value)) (sym r.0)
    (record {
      follows = record {
        lines = ap (λ lines. heads ++ lines) (lines_more values m.value) ∙ sym (append_assoc heads (map option_line values) (option_line m.value ∷ []));
        sound = record { good = more_values name terms values m.value good r.1; values = tt; origin = tt };
      };
      free = lacks-append 10 option_word (value_text m.value) refl (is.no_feed m.value r.1);
    }))

last_line : (name : Name) (terms : Terms4) (values : List ValueContent)
    → lease4_lines (lease_with name terms values) ≡ (head_lines (lease_with name terms values) ++ map option_line values) ++ end_line ∷ []
last_line name terms values = sym (append_assoc (head_lines (lease_with name terms values)) (map option_line values) (end_line ∷ []))

-- ---- the first two lines

zeros : AreBytes (replicate 6 0)
zeros = cons_bytes 0 (replicate 5 0) (omega arith) (cons_bytes 0 (replicate 4 0) (omega arith) (cons_bytes 0 (replicate 3 0) (omega arith)
    (cons_bytes 0 (replicate 2 0) (omega arith) (cons_bytes 0 (replicate 1 0) (omega arith) (cons_bytes 0 [] (omega arith) no_bytes)))))

version_takes : (name : Name) (terms : Terms4) (values : List ValueContent) (line : Line) (origin : Option Origin) → IsTerms name terms values
    → HasValues Version values
    → version_at line ≡ Some origin
    → Takes (record { next = Version; name = name; terms = terms; values = values }) line
    (record { next = Interface; name = name; terms = with_origin terms origin; values = values })
unfolding version_at
version_takes name terms values line origin good none is = by (after_word first_version end_at line) refl is
  where
    reading : Reading
    reading = record { next = Version; name = name; terms = terms; values = values }

    named : Option Origin → Reading
    named told = record { next = Interface; name = name; terms = with_origin terms told; values = values }

    by : (first : Option (Unit {0})) → after_word first_version end_at line ≡ first
        → by_version first (option_map (λ _. Some untold_origin) (after_word second_version end_at line)) ≡ Some origin → Takes reading line (named origin)
    by (Some u) here e =
        word_takes reading line (named origin) first_version (λ _. named None) refl no_field_is
        (λ u fits. record { lines = refl; sound = record { good = origin_fits name terms values None tt tt good; values = none; origin = tt } })
        (ap (option_map (λ _. named None)) here ∙ ap (λ o. Some (named o)) (some_same e))
    by None here e =
        let m = mapped (λ _. Some untold_origin) (after_word second_version end_at line) origin e in
        word_takes reading line (named origin) second_version (λ _. named (Some untold_origin)) refl no_field_is
        (λ u fits. record {
          lines = refl;
          sound =
              record {
                good = origin_fits name terms values (Some untold_origin) (omega arith) (record { six = refl; range = zeros }) good;
                values = none;
                origin = tt;
              };
        })
        (ap (option_map (λ _. named (Some untold_origin))) m.was ∙ ap (λ o. Some (named o)) m.gives)

named_fits : {name new : Name} {terms : Terms4} {values : List ValueContent} → IsTerms name terms values → FitsName new → IsTerms new terms values
named_fits good fits = record {
  fits = record { name = fits; terms = good.fits.terms; values = good.fits.values };
  typed =
      record { origin = good.typed.origin; server = good.typed.server; server_mac = good.typed.server_mac; time = good.typed.time; values = good.typed.values };
}

interface_takes : (name : Name) (terms : Terms4) (values : List ValueContent) (line : Line) (after : Reading) (origin : Option Origin)
    → IsTerms name (with_origin terms origin) values → HasValues Interface values
    → option_map (λ new. record { next = after_interface origin; name = new; terms = with_origin terms origin; values = values })
    (after_word interface_word name_at line)
    ≡ Some after
    → Takes (record { next = Interface; name = name; terms = with_origin terms origin; values = values }) line after
interface_takes name terms values line after None good none e =
    word_takes (record { next = Interface; name = name; terms = with_origin terms None; values = values }) line after interface_word
    (λ new. record { next = Term Address; name = new; terms = with_origin terms None; values = values }) refl name_is
    (λ new fits. record { lines = refl; sound = record { good = named_fits good fits; values = none; origin = tt } }) e
interface_takes name terms values line after (Some origin) good none e =
    word_takes (record { next = Interface; name = name; terms = with_origin terms (Some origin); values = values }) line after interface_word
    (λ new. record { next = Term OriginMac; name = new; terms = with_origin terms (Some origin); values = values }) refl name_is
    (λ new fits. record { lines = refl; sound = record { good = named_fits good fits; values = none; origin = refl } }) e

-- ---- all lines

takes : (next : LeaseLine) (name : Name) (terms : Terms4) (values : List ValueContent) (after : Reading) (line : Line)
    → IsTerms name terms values → HasValues next values → HasOrigin next terms.origin
    → step_at next (record { next = next; name = name; terms = terms; values = values }) line ≡ Some after
    → Takes (record { next = next; name = name; terms = terms; values = values }) line after
unfolding step_at
takes Version name terms values after line good none some e =
    let reading : Reading = record { next = Version; name = name; terms = terms; values = values } in
    let m = mapped (λ origin. of_version origin reading) (version_at line) after e in
    subst (λ t. Takes reading line t) m.gives (version_takes name terms values line m.value good none m.was)
takes Interface name terms values after line good none some e = interface_takes name terms values line after terms.origin good none e
takes (Term term) name terms values after line good none some e =
    let reading : List ValueContent → Reading = λ vs. record { next = Term term; name = name; terms = terms; values = vs } in
    subst (λ vs. IsTerms name terms vs → step_at (Term term) (reading vs) line ≡ Some after → Takes (reading vs) line after) (sym none)
    (λ good e. term_takes term name terms line after good some e) good e
takes Values name terms values after line good none some e =
    let reading : Reading = record { next = Values; name = name; terms = terms; values = values } in
    elim (strip_word option_word line) as
    (λ o. strip_word option_word line ≡ o
    → by_word o (λ rest. option_map (with_value reading) (value_at (last_code values) rest))
    (option_map (λ _. goes_to Nothing reading) (after_word end_line end_at line))
    ≡ Some after
    → Takes reading line after) [
      | Some rest ↦ λ is q. subst (λ w. Takes reading w after) (sym (strip_sound option_word line rest is)) (value_takes name terms values rest after good q)
      | None ↦ λ is q.
          word_takes reading line after end_line (λ _. goes_to Nothing reading) refl no_field_is
          (λ u fits. record { lines = last_line name terms values; sound = record { good = good; values = tt; origin = tt } }) q
    ] refl e
takes Nothing name terms values after line good none some e = absurd (none-some after e)

taken : (reading next : Reading) (lines : List Line) (line : Line) → After reading lines → step reading line ≡ Some next → After next (lines ++ line ∷ [])
taken reading next lines line before e =
    let t = takes reading.next reading.name reading.terms reading.values next line before.sound.good before.sound.values before.sound.origin e in
    record {
      are = all_join (Lacks 10) lines (line ∷ []) before.are (t.free, tt);
      spelled = ap (λ ls. ls ++ line ∷ []) before.spelled ∙ sym t.follows.lines;
      sound = t.follows.sound;
    }

-- ---- the end

-- lines before a point, and those from there on
lines_on : (before taken left last : List Line) (grant : List Line) → grant ≡ taken ++ left → (before ++ grant) ++ last ≡ (before ++ taken) ++ (left ++ last)
lines_on before taken left last grant cut =
    ap (λ lines. (before ++ lines) ++ last) cut ∙ ap (λ lines. lines ++ last) (sym (append_assoc before taken left)) ∙ append_assoc (before ++ taken) left last

-- the lines after those that were read, if no value more comes
record Left (next : LeaseLine) (lease : LeaseContent) : Type 0 where
  pub more : List Line
  pub whole : lease4_lines lease ≡ lines_before next lease ++ more

abbrev last_lines : LeaseContent → List Line
last_lines lease = map option_line lease.values ++ end_line ∷ []

grant_left : (term : TermLine) (lease : LeaseContent) (left : List Line) → holder_before term lease ≡ holder_lines lease
    → grant_lines lease ≡ take (grant_above term) (grant_lines lease) ++ left → Left (Term term) lease
grant_left term lease left all cut = record {
  more = left ++ last_lines lease;
  whole =
      lines_on (holder_lines lease) (take (grant_above term) (grant_lines lease)) left (last_lines lease) (grant_lines lease) cut
      ∙ ap (λ before. (before ++ take (grant_above term) (grant_lines lease)) ++ (left ++ last_lines lease)) (sym all);
}

abbrev with_its : LeaseContent → Option Origin → LeaseContent
with_its lease origin = record lease { origin = origin }

origin_left : (term : TermLine) (lease : LeaseContent) (origin : Option Origin) → HasOrigin (Term term) origin → Left (Term term) (with_its lease origin)
origin_left OriginMac lease None some = absurd (let never : false ≡ true = some in cc)
origin_left OriginMac lease (Some origin) some = record { more = _; whole = refl }
origin_left Confirmed lease None some = absurd (let never : false ≡ true = some in cc)
origin_left Confirmed lease (Some origin) some = record { more = _; whole = refl }
origin_left Address lease origin some = grant_left Address (with_its lease origin) _ refl refl
origin_left Server lease origin some = grant_left Server (with_its lease origin) _ refl refl
origin_left ServerMac lease origin some = grant_left ServerMac (with_its lease origin) _ refl refl
origin_left First lease origin some = grant_left First (with_its lease origin) _ refl refl
origin_left LeaseTime lease origin some = grant_left LeaseTime (with_its lease origin) _ refl refl
origin_left Renewal lease origin some = grant_left Renewal (with_its lease origin) _ refl refl
origin_left Rebinding lease origin some = grant_left Rebinding (with_its lease origin) _ refl refl

lines_left : (next : LeaseLine) (lease : LeaseContent) → HasOrigin next lease.origin → Left next lease
lines_left Version lease some = record { more = lease4_lines lease; whole = refl }
lines_left Interface lease some = record { more = _; whole = refl }
lines_left (Term term) lease some = origin_left term lease lease.origin some
lines_left Values lease some = record { more = end_line ∷ []; whole = sym (append_assoc (head_lines lease) (map option_line lease.values) (end_line ∷ [])) }
lines_left Nothing lease some = record { more = []; whole = sym (append-nil (lease4_lines lease)) }

completed : (reading : Reading) (lines : List Line) → After reading lines → Completes SpellsLease4 lines
completed reading lines before =
    let left = lines_left reading.next (lease_in reading) before.sound.origin in
    record {
      value = lease_in reading;
      more = left.more;
      spells = (ap (λ ls. ls ++ left.more) before.spelled ∙ sym left.whole, before.sound.good);
    }

ended : (next : LeaseLine) (name : Name) (terms : Terms4) (values : List ValueContent) (lines : List Line) (lease : LeaseContent)
    → After (record { next = next; name = name; terms = terms; values = values }) lines
    → given (record { next = next; name = name; terms = terms; values = values }) ≡ Some lease → SpellsLease4 lease lines
ended Version name terms values lines lease before e = absurd (none-some lease e)
ended Interface name terms values lines lease before e = absurd (none-some lease e)
ended (Term term) name terms values lines lease before e = absurd (none-some lease e)
ended Values name terms values lines lease before e = absurd (none-some lease e)
ended Nothing name terms values lines lease before e = subst (λ l. SpellsLease4 l lines) (some_same e) (before.spelled, before.sound.good)

-- ---- a lease's lines are taken

one_more : (reading next : Reading) (line : Line) (rest : List Line) (end : Option Reading) → step reading line ≡ Some next → run step rest next ≡ end
    → run step (line ∷ rest) reading ≡ end
one_more reading next line rest end e later = ap (option_and_then (run step rest)) e ∙ later

word_step : {X : Type 0} {field : Field X} {A : Type 0} (word : List ℕ) (make : X → A) (x : X) → Lacks 10 word → IsField field
    → field.Fits x → option_map make (after_word word field.at (word ++ field.text x)) ≡ Some (make x)
word_step word make x free is fits = ap (option_map make) ((worded_is word free is).reads.whole x fits)

fits_next : (before : ℕ) (value : ValueContent) → before < value.code → FitsValue value → AreBytes value.bytes → FitsNext before value
fits_next before value above good octets = record { above = above; code = kept_small value.code good.kept; good = good; octets = octets }

values_run : (name : Name) (terms : Terms4) (before values : List ValueContent) → IsRising (last_code before) values → AllByRecursion FitsValue values
    → AllByRecursion (λ value. AreBytes value.bytes) values
    → run step (map option_line values ++ end_line ∷ []) (record { next = Values; name = name; terms = terms; values = before })
    ≡ Some (record { next = Nothing; name = name; terms = terms; values = before ++ values })
unfolding step_at
values_run name terms before [] rising good octets =
    let reading : Reading = record { next = Values; name = name; terms = terms; values = before } in
    ap
    (λ o. option_and_then (run step [])
    (by_word o (λ rest. option_map (with_value reading) (value_at (last_code before) rest))
    (option_map (λ _. goes_to Nothing reading) (after_word end_line end_at end_line))))
    (words_apart option_word end_line [] refl)
    ∙ ap (λ o. option_and_then (run step []) o) (word_step end_line (λ _. goes_to Nothing reading) tt refl no_field_is tt)
    ∙ ap (λ vs. Some (record { next = Nothing; name = name; terms = terms; values = vs })) (sym (append-nil before))
values_run name terms before (value ∷ values) rising good octets =
    let reading : Reading = record { next = Values; name = name; terms = terms; values = before } in
    let rest = map option_line values ++ end_line ∷ [] in
    ap
    (λ o. option_and_then (run step rest)
    (by_word o (λ rest. option_map (with_value reading) (value_at (last_code before) rest))
    (option_map (λ _. goes_to Nothing reading) (after_word end_line end_at (option_line value)))))
    (strip_whole option_word (value_text value))
    ∙ ap (λ o. option_and_then (run step rest) (option_map (with_value reading) o))
    ((value_is (last_code before)).reads.whole value (fits_next (last_code before) value rising.0 good.0 octets.0))
    ∙ values_run name terms (before ++ value ∷ []) values (subst (λ n. IsRising n values) (sym (last_more before value)) rising.1) good.1 octets.1
    ∙ ap (λ vs. Some (record { next = Nothing; name = name; terms = terms; values = vs })) (append_assoc before (value ∷ []) values)

term_step : (term : TermLine) (name : Name) (old new : Terms4) (line : Line) (rest : List Line) (end : Option Reading) → term_in term old line ≡ Some new
    → run step rest (at_line (after_term term) name new) ≡ end → run step (line ∷ rest) (at_line (Term term) name old) ≡ end
unfolding step_at
term_step term name old new line rest end e later =
    one_more (at_line (Term term) name old) (at_line (after_term term) name new) line rest end (ap (option_map (at_line (after_term term) name)) e) later

abbrev Runs : LeaseContent → Reading → List Line → Type 0
Runs lease reading lines = run step lines reading ≡ Some (record { next = Nothing; name = lease.name; terms = terms_of lease; values = lease.values })

grant_run : (lease : LeaseContent) (old : Terms4) → old.origin ≡ lease.origin → HasText lease
    → Runs lease (at_line (Term Address) lease.name old) (grant_lines lease ++ last_lines lease)
unfolding term_in
grant_run lease old origin good =
    let fits = good.fits.terms in
    let below : lease.lease < 2 ^ 32 = let up = good.typed.time in omega arith in
    let least = least_fits lease.lease lease.t1 fits.endless in
    let within : lease.t1 ≤ lease.lease = let a = fits.renews in let b = fits.rebinds in omega arith in
    let rest = last_lines lease in
    let last = (rebinding_word ++ decimal lease.t2) ∷ rest in
    let renewals = (renewal_word ++ decimal lease.t1) ∷ last in
    let times = (lease_word ++ decimal lease.lease) ∷ renewals in
    let moments = (first_word ++ decimal lease.first) ∷ times in
    let macs = (server_mac_word ++ mac_text lease.server_mac) ∷ moments in
    let servers = (server_word ++ ip4_text lease.server) ∷ macs in
    let net = record old { net = lease.net } in
    let server = record net { server = lease.server } in
    let mac = record server { server_mac = lease.server_mac } in
    let first = record mac { first = lease.first } in
    let time = record first { lease = lease.lease; t1 = lease.lease; t2 = lease.lease } in
    let renewal = record time { t1 = lease.t1; t2 = lease.lease } in
    let rebinding = record renewal { t2 = lease.t2 } in
    let same : rebinding ≡ terms_of lease = ap (λ (o : Option Origin). record (terms_of lease) { origin = o }) origin in
    let later : Runs lease (at_line Values lease.name rebinding) rest =
    subst (λ terms. Runs lease (at_line Values lease.name terms) rest) (sym same)
    (values_run lease.name (terms_of lease) [] lease.values good.fits.values.rising good.fits.values.each good.typed.values) in
    term_step Address lease.name old net _ servers _
    (word_step address_word (λ net. record old { net = net }) lease.net refl host_net_is
    (record { address = record { address = host_small lease.net.ip fits.address; prefix = fits.len }; host = fits.address }))
    (term_step Server lease.name net server _ macs _ (word_step server_word (λ s. record net { server = s }) lease.server refl ip4_is good.typed.server)
    (term_step ServerMac lease.name server mac _ moments _
    (word_step server_mac_word (λ m. record server { server_mac = m }) lease.server_mac refl mac_is good.typed.server_mac)
    (term_step First lease.name mac first _ times _ (word_step first_word (λ f. record mac { first = f }) lease.first refl moment_is fits.first)
    (term_step LeaseTime lease.name first time _ renewals _
    (word_step lease_word (λ l. record first { lease = l; t1 = l; t2 = l }) lease.lease refl (seconds_is 1 INFINITE_LEASE (omega arith))
    (fits.lease, good.typed.time))
    (term_step Renewal lease.name time renewal _ last _
    (word_step renewal_word (λ t. record time { t1 = t; t2 = lease.lease }) lease.t1 refl (seconds_is (least_renewal lease.lease) lease.lease below)
    (least, within))
    (term_step Rebinding lease.name renewal rebinding _ rest _
    (word_step rebinding_word (λ t. record renewal { t2 = t }) lease.t2 refl (seconds_is lease.t1 lease.lease below) (fits.renews, fits.rebinds)) later))))))

-- ---- its first lines

first_read : version_at first_version ≡ Some None
unfolding version_at
first_read =
    ap (λ o. by_version o (option_map (λ _. Some untold_origin) (after_word second_version end_at first_version)))
    ((worded_is first_version refl no_field_is).reads.whole tt tt)

second_read : version_at second_version ≡ Some (Some untold_origin)
unfolding version_at
second_read =
    ap (λ o. by_version (option_and_then end_at o) (option_map (λ _. Some untold_origin) (after_word second_version end_at second_version)))
    (words_apart first_version second_version [] refl)
    ∙ word_step second_version (λ _. Some untold_origin) tt refl no_field_is tt

holder_run : (lease : LeaseContent) (origin : Option Origin) → HasText (with_its lease origin)
    → Runs (with_its lease origin) start (lease4_lines (with_its lease origin))
unfolding step_at term_in
holder_run lease None good =
    let named : Reading = record start { next = Interface } in
    let rest = grant_lines lease ++ last_lines lease in
    one_more start named first_version ((interface_word ++ name_text lease.name) ∷ rest) _ (ap (option_map (λ origin. of_version origin start)) first_read)
    (one_more named (at_line (Term Address) lease.name first_terms) _ rest _
    (word_step interface_word (λ name. at_line (Term Address) name first_terms) lease.name refl name_is good.fits.name)
    (grant_run (with_its lease None) first_terms refl good))
holder_run lease (Some origin) good =
    let first = with_origin first_terms (Some untold_origin) in
    let of_mac = with_origin first_terms (Some (record untold_origin { mac = origin.mac })) in
    let told = with_origin first_terms (Some origin) in
    let named : Reading = record start { next = Interface; terms = first } in
    let rest = grant_lines lease ++ last_lines lease in
    let confirmed = (confirmed_word ++ decimal origin.confirmed) ∷ rest in
    let macs = (mac_word ++ mac_text origin.mac) ∷ confirmed in
    one_more start named second_version ((interface_word ++ name_text lease.name) ∷ macs) _ (ap (option_map (λ origin. of_version origin start)) second_read)
    (one_more named (at_line (Term OriginMac) lease.name first) _ macs _
    (word_step interface_word (λ name. at_line (Term OriginMac) name first) lease.name refl name_is good.fits.name)
    (term_step OriginMac lease.name first of_mac _ confirmed _
    (word_step mac_word (λ mac. with_origin first_terms (Some (record untold_origin { mac = mac }))) origin.mac refl mac_is good.typed.origin)
    (term_step Confirmed lease.name of_mac told _ rest _
    (word_step confirmed_word
    (λ at. with_origin first_terms (Some (record origin { confirmed = at }))) origin.confirmed refl moment_is good.fits.terms.confirmed)
    (grant_run (with_its lease (Some origin)) told refl good))))

whole : (lease : LeaseContent) (lines : List Line) → SpellsLease4 lease lines → WholeRun step given start lines lease
whole lease lines spells = record {
  state = record { next = Nothing; name = lease.name; terms = terms_of lease; values = lease.values };
  runs = ap (λ ls. run step ls start) spells.0 ∙ holder_run lease lease.origin spells.1;
  gives = refl;
}

-- ---- the laws

start_good : HasText (lease_in start)
unfolding is_name name_text
start_good = record {
  fits = record {
    name = record { spelled = refl; within = omega arith; fifteen = refl; padded = refl };
    terms =
        record {
          address = refl;
          len = omega arith;
          confirmed = tt;
          first = omega arith;
          lease = omega arith;
          renews = omega arith;
          rebinds = omega arith;
          endless = λ e. absurd (omega (arith, e));
        };
    values = record { each = tt; rising = tt };
  };
  typed = record { origin = tt; server = omega arith; server_mac = record { six = refl; range = zeros }; time = omega arith; values = tt };
}

begun : After start []
begun = record { are = tt; spelled = refl; sound = record { good = start_good; values = refl; origin = tt } }

-- lines that are read are lines
are_lines : (lease : LeaseContent) (lines : List Line) → SpellsLease4 lease lines → AreLines lines
are_lines lease lines spells =
    let w = whole lease lines spells in
    (after_run taken [] lines start w.state begun w.runs).are

pub lease_laws : (cause_of : Reading → Front → BadText) → LineLaws SpellsLease4 AnyCause step given cause_of After start
lease_laws cause_of = record {
  begins = begun;
  takes = taken;
  completes = completed;
  ends = λ reading lines lease before e. ended reading.next reading.name reading.terms reading.values lines lease before e;
  whole = whole;
  are = are_lines;
  tells = λ reading lines front before stops. tt;
}
