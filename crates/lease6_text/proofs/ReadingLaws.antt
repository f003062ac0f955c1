-- What the text of a lease owes, so that a reader of its lines finds the first bad one.
use Rattle.std.proofs.Common.{◌≡◌, ℕ, zero, suc, List, [], ◌∷◌, ◌++◌, map, take, drop, replicate, Some, None, refl, sym, ap, ◌∙◌, subst, arith, append_assoc, flat_map}
use Rattle.std.proofs.lemmas.List.{append-nil}
use Rattle.std.proofs.lemmas.Option.{none-some}
use Rattle.net_types.specs.declared.address.Mac.{Mac}
use Rattle.net_types.specs.declared.fault.BadText.{BadText}
use Rattle.net_types.specs.AddressText.{FitsMac}
use Rattle.net_types.specs.LineFormats.{Completes, LineLaws}
use Rattle.net_types.specs.Marks.{AreBytes}
use Rattle.net_types.specs.NameText.{is_name, name_text}
use Rattle.net_types.specs.TextLines.{Line, AreLines, Front}
use Rattle.net_types.proofs.HexLaws.{cons_bytes, no_bytes}
use Rattle.net_types.proofs.ReadsLaws.{mapped}
use Rattle.v6_options.specs.declared.ia.IaKind.{IaKind}
use Rattle.v6_options.specs.declared.ia.IaKind.TheVariants.{Na, Pd}
use Rattle.lease_text.specs.LeaseLines.{end_line, option_line}
use Rattle.lease6_text.specs.declared.lease.Item6.{Item6}
use Rattle.lease6_text.specs.declared.reading.NextLine.{NextLine}
use Rattle.lease6_text.specs.declared.reading.NextLine.TheVariants.{Version, Interface, OriginMac, Confirmed, Server, Renewal, Rebinding, FirstItem, Ias, Values, Nothing}
use Rattle.lease6_text.specs.declared.reading.TextVersion.{TextVersion}
use Rattle.lease6_text.specs.declared.reading.TextVersion.TheVariants.{Plain, WithOrigin}
use Rattle.lease6_text.specs.Bounds.{HasText6}
use Rattle.lease6_text.specs.LeaseLines.{SpellsLease6, origin_line, interface_line, mac_line, confirmed_line, holder_lines, grant_lines, item_line, ia_line, ia_lines, head_lines, lease6_lines}
use Rattle.lease6_text.specs.LeaseReading.{Reading, version_line, with_ia, step, given, given_at, start, lease_with}
use Rattle.lease6_text.specs.LinesRead.{server_in, lease_in, lines_before, HasRead, After, AnyCause}
use Rattle.lease6_text.specs.Leases.{Lease6Content}
use Rattle.lease6_text.proofs.Apart.{pairs_from}
use Rattle.lease6_text.proofs.IaFacts.{UnlikeIas}
use Rattle.lease6_text.proofs.LineFeeds.{are_lines}
use Rattle.lease6_text.proofs.PartReads.{IsItem}
use Rattle.lease6_text.proofs.ReadingSteps.{first_good, first_lines, line_taken, origin_of, with_origin_fits}
use Rattle.lease6_text.proofs.WholeLeases.{holder_then, lines_after, whole}

taken : (reading next : Reading) (lines : List Line) (line : Line) → After reading lines → step reading line ≡ Some next → After next (lines ++ line ∷ [])
taken reading next lines line before e =
    let t = line_taken reading.next reading line next before.good before.read e in
    record { spelled = ap (λ ls. ls ++ line ∷ []) before.spelled ∙ sym t.spelled; good = t.good; read = t.read }

-- ---- the lines that are left

-- an item that an IA of this kind may have
abbrev some_item : IaKind → Item6
some_item Na = record { net = record { ip = record { number = 0 }; len = 128 }; preferred = None; valid = None }
some_item Pd = record { net = record { ip = record { number = 0 }; len = 64 }; preferred = None; valid = None }

is_item : (kind : IaKind) → IsItem kind (some_item kind)
is_item Na = record { good = record { len = refl; network = refl; preferred = tt; valid = tt }; typed = omega arith }
is_item Pd = record { good = record { len = (omega arith, omega arith); network = refl; preferred = tt; valid = tt }; typed = omega arith }

abbrev LeftBy : Lease6Content → List Line → List Line → Type 0
LeftBy lease before more = lease6_lines lease ≡ before ++ more

abbrev value_lines : Reading → List Line
value_lines reading = map option_line reading.values ++ end_line ∷ []

first_left : (reading : Reading) (kind : IaKind) (iaid : ℕ)
    → LeftBy (lease_in (with_ia reading kind iaid (some_item kind))) (lines_before (FirstItem kind iaid) (lease_in reading))
    (item_line kind (some_item kind) ∷ value_lines reading)
first_left reading kind iaid =
    let heads = head_lines (lease_in reading) in
    let before = flat_map ia_lines reading.ias ++ ia_line kind iaid ∷ [] in
    ap (λ lines. heads ++ (lines ++ value_lines reading)) (first_lines reading.ias kind iaid (some_item kind))
    ∙ ap (λ lines. heads ++ lines) (append_assoc before (item_line kind (some_item kind) ∷ []) (value_lines reading))
    ∙ sym (append_assoc heads before (item_line kind (some_item kind) ∷ value_lines reading))

done : (from : NextLine) (reading : Reading) (lines more : List Line) → HasText6 (lease_in reading) → lines ≡ lines_before from (lease_in reading)
    → LeftBy (lease_in reading) (lines_before from (lease_in reading)) more → Completes SpellsLease6 lines
done from reading lines more good is left = record { value = lease_in reading; more = more; spells = (ap (λ ls. ls ++ more) is ∙ sym left, good) }

-- after a part of the lines of by whom it was granted
grant_cut : (from : NextLine) (reading : Reading) (lines taken left : List Line) → HasText6 (lease_in reading) → lines ≡ lines_before from (lease_in reading)
    → lines_before from (lease_in reading) ≡ holder_lines reading.origin reading.name ++ taken → taken ++ left ≡ grant_lines (lease_in reading)
    → Completes SpellsLease6 lines
grant_cut from reading lines taken left good is part whole =
    let lease = lease_in reading in
    let holder = holder_lines reading.origin reading.name in
    let body = flat_map ia_lines reading.ias ++ value_lines reading in
    done from reading lines (left ++ body) good is
    (holder_then lease ∙ ap (λ grant. holder ++ (grant ++ body)) (sym whole) ∙ ap (λ ls. holder ++ ls) (append_assoc taken left body)
    ∙ sym (append_assoc holder taken (left ++ body)) ∙ ap (λ ls. ls ++ (left ++ body)) (sym part))

abbrev some_mac : Mac
some_mac = record { bytes = replicate 6 0 }

some_mac_fits : FitsMac some_mac
some_mac_fits = record { six = refl; range = zeros 6 }
  where
    zeros : (n : ℕ) → AreBytes (replicate n 0)
    zeros zero = no_bytes
    zeros (suc n) = cons_bytes 0 (replicate n 0) (omega arith) (zeros n)

-- a text that tells the origin goes on with any that fits
with_some_origin : (reading : Reading) (mac : Mac) (lines more : List Line) → HasText6 (lease_in reading) → FitsMac mac
    → holder_lines (origin_of mac 0) reading.name ≡ lines ++ more → Completes SpellsLease6 lines
with_some_origin reading mac lines more good fits cut =
    let lease : Lease6Content = record (lease_in reading) { origin = origin_of mac 0 } in
    record {
      value = lease;
      more = more ++ lines_after lease;
      spells = (
        sym (append_assoc lines more (lines_after lease)) ∙ ap (λ front. front ++ lines_after lease) (sym cut) ∙ sym (holder_then lease),
        with_origin_fits (lease_in reading) mac 0 good fits (omega arith),
      );
    }

complete_version : (version : TextVersion) (reading : Reading) (lines : List Line) → HasText6 (lease_in reading) → reading.origin ≡ None
    → lines ≡ version_line version ∷ [] → Completes SpellsLease6 lines
complete_version Plain reading lines good none is =
    let lease = lease_in reading in
    done (Interface Plain) reading lines (interface_line reading.name ∷ lines_after lease) good is
    (holder_then lease ∙ ap (λ origin. holder_lines origin reading.name ++ lines_after lease) none)
complete_version WithOrigin reading lines good none is =
    subst (Completes SpellsLease6) (sym is)
    (with_some_origin reading some_mac (origin_line ∷ []) (interface_line reading.name ∷ mac_line some_mac ∷ confirmed_line 0 ∷ []) good some_mac_fits refl)

complete_at : (from : NextLine) (reading : Reading) (lines : List Line) → HasText6 (lease_in reading) → HasRead from reading.origin reading.ias reading.values
    → lines ≡ lines_before from (lease_in reading) → Completes SpellsLease6 lines
complete_at Version reading lines good read is = done Version reading lines (lease6_lines (lease_in reading)) good is refl
complete_at (Interface version) reading lines good read is = complete_version version reading lines good read.0 is
complete_at OriginMac reading lines good read is =
    subst (Completes SpellsLease6) (sym is)
    (with_some_origin reading some_mac (origin_line ∷ interface_line reading.name ∷ []) (mac_line some_mac ∷ confirmed_line 0 ∷ []) good some_mac_fits refl)
complete_at (Confirmed mac) reading lines good read is =
    subst (Completes SpellsLease6) (sym is)
    (with_some_origin reading mac (origin_line ∷ interface_line reading.name ∷ mac_line mac ∷ []) (confirmed_line 0 ∷ []) good read.0 refl)
complete_at Server reading lines good read is =
    let lease = lease_in reading in
    done Server reading lines (lines_after lease) good is (holder_then lease)
complete_at Renewal reading lines good read is =
    let grant = grant_lines (lease_in reading) in
    grant_cut Renewal reading lines (take 1 grant) (drop 1 grant) good is refl refl
complete_at Rebinding reading lines good read is =
    let grant = grant_lines (lease_in reading) in
    grant_cut Rebinding reading lines (take 2 grant) (drop 2 grant) good is refl refl
complete_at (FirstItem kind iaid) reading lines good read is = record {
  value = lease_in (with_ia reading kind iaid (some_item kind));
  more = item_line kind (some_item kind) ∷ value_lines reading;
  spells = (
    ap (λ ls. ls ++ item_line kind (some_item kind) ∷ value_lines reading) is ∙ sym (first_left reading kind iaid),
    first_good reading kind iaid (some_item kind) good read.0 (is_item kind),
  );
}
complete_at Ias reading lines good read is =
    let lease = lease_in reading in
    done Ias reading lines (value_lines reading) good is (sym (append_assoc (head_lines lease) (flat_map ia_lines reading.ias) (value_lines reading)))
complete_at Values reading lines good read is =
    done Values reading lines (end_line ∷ []) good is
    (ap (λ ls. head_lines (lease_in reading) ++ ls) (sym (append_assoc (flat_map ia_lines reading.ias) (map option_line reading.values) (end_line ∷ [])))
    ∙ sym (append_assoc (head_lines (lease_in reading)) (flat_map ia_lines reading.ias ++ map option_line reading.values) (end_line ∷ [])))
complete_at Nothing reading lines good read is = done Nothing reading lines [] good is (sym (append-nil (lease6_lines (lease_in reading))))

completed : (reading : Reading) (lines : List Line) → After reading lines → Completes SpellsLease6 lines
completed reading lines before = complete_at reading.next reading lines before.good before.read before.spelled

-- ---- the end

ended_at : (next : NextLine) (reading : Reading) (lines : List Line) (lease : Lease6Content) → HasText6 (lease_in reading)
    → lines ≡ lines_before next (lease_in reading)
    → given_at next reading ≡ Some lease → SpellsLease6 lease lines
ended_at Version reading lines lease good is e = absurd (none-some lease e)
ended_at (Interface version) reading lines lease good is e = absurd (none-some lease e)
ended_at OriginMac reading lines lease good is e = absurd (none-some lease e)
ended_at (Confirmed mac) reading lines lease good is e = absurd (none-some lease e)
ended_at Server reading lines lease good is e = absurd (none-some lease e)
ended_at Renewal reading lines lease good is e = absurd (none-some lease e)
ended_at Rebinding reading lines lease good is e = absurd (none-some lease e)
ended_at (FirstItem kind iaid) reading lines lease good is e = absurd (none-some lease e)
ended_at Ias reading lines lease good is e = absurd (none-some lease e)
ended_at Values reading lines lease good is e = absurd (none-some lease e)
ended_at Nothing reading lines lease good is e =
    let m = mapped (lease_with reading) reading.server lease e in
    subst (λ l. SpellsLease6 l lines) (ap (λ server. lease_with reading (server_in server)) m.was ∙ m.gives) (is, good)

-- ---- the laws

no_server : AreBytes (0 ∷ 0 ∷ [])
no_server = cons_bytes 0 (0 ∷ []) (omega arith) (cons_bytes 0 [] (omega arith) no_bytes)

start_good : HasText6 (lease_in start)
unfolding is_name name_text
start_good = record {
  fits = record {
    origin = tt;
    name = record { spelled = refl; within = omega arith; fifteen = refl; padded = refl };
    t1 = tt;
    t2 = tt;
    ias = record { few = omega arith; each = tt; unlike = pairs_from UnlikeIas [] tt };
    values = record { each = tt; rising = tt };
  };
  typed = record { origin = tt; server = record { least = omega arith; most = omega arith; octets = no_server }; ias = tt; values = tt };
}

pub lease6_laws : (cause_of : Reading → Front → BadText) → LineLaws SpellsLease6 AnyCause step given cause_of After start
lease6_laws cause_of = record {
  begins = record { spelled = refl; good = start_good; read = (refl, (refl, refl)) };
  takes = taken;
  completes = completed;
  ends = λ reading lines lease before e. ended_at reading.next reading lines lease before.good before.spelled e;
  whole = whole;
  are = λ lease lines spells. subst AreLines (sym spells.0) (are_lines lease spells.1);
  tells = λ reading lines front before stops. tt;
}
