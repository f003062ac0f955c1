-- What the lines of a life's calls tell is what the calls were.
use Rattle.std.proofs.Common.{◌≡◌, ℕ, Bool, true, false, not, ◌||◌, List, [], ◌∷◌, ◌++◌, map, flat_map, option_and_then, Option, Some, None, refl, sym, ap, ap₂, ◌∙◌, append_assoc, append-nil}
use Rattle.std.specs.List.{list_any}
use Rattle.std.proofs.lemmas.Grind.{flat_map-append}
use Rattle.std.proofs.lemmas.List.Folds.{list_any-append}
use Rattle.world.specs.declared.rows.HostRow.{HostRow}
use Rattle.world.specs.declared.rows.HostRow.TheVariants.{Addr, Route}
use Rattle.world.specs.LinkCalls.{Waited, Offered}
use Rattle.world.specs.HostCalls.{HostCall, Listed, Added, Removed}
use Rattle.world.specs.HookCalls.{Variable, Started, Polled, Abandoned}
use Rattle.world.specs.StoreCalls as store
use Rattle.world.specs.StoreCalls.{Reading, StoreCall}
use Rattle.world.specs.RowOrder.{put_in_order}
use Rattle.script_model.specs.IfaceSets.{is_up}
use Rattle.script_model.specs.Lines.{Line}
use Rattle.script_model.specs.Lines as Model
use Rattle.evidence_words.specs.ClientModel.HostDuid.{host_duid}
use Rattle.evidence_words.specs.ClientModel.KeptLeases.{kept_by}
use Rattle.evidence_words.specs.ClientModel.KeptLeases6.{kept6_by}
use Rattle.evidence_words.specs.DeviceCalls.Calls.{Call, Link, Host, Store, Hook, Dropped, host_call, store_call}
use Rattle.evidence_words.specs.DeviceCalls.CallLines.{lines_of, variable_line}
use Rattle.host_model.specs.HostTable.{is_done}
use Rattle.evidence_words.specs.TurnModel.Loading.{duid_file, lease4_file, lease6_file}
use Rattle.evidence_words.specs.TurnModel.Lives.{OpeningMet, Met, hold_lines, life_after, turn_lines}
use Rattle.evidence_words.specs.ClientModel.Clients.{rows_of}
use Rattle.world.specs.declared.wakes.Event.TheVariants.{Quiet}
use Rattle.evidence_words.specs.TurnModel.Turns.{Life, until}
use Rattle.evidence_words.specs.Entries.{Entry, Offer, entry_of, offer_in, opening_entry, shown_after}
use Rattle.evidence_words.specs.HostDuids.{first_of, read_among, read_in}
use Rattle.transcript_read.specs.TranscriptModel.Told as told
use Rattle.audit_model.specs.Showing.{Shown, entry_told, is_failed, offer_in_line, opening_told, read_in_line, rows_after, rows_with, shown_at_first, shown_next}
use Rattle.audit_model.specs.Showing as showing
use Rattle.audit_model.specs.LivesTold.{LivesAreToldSo, failed_last, has_failed, life_lived, lines_by, only_last, rows_by, rows_by_calls, rows_lived, turn_lived, turns_lived}

-- ---- lines that tell nothing

-- the lines are of no frame, no reading, and no call of the host
pub record Tells (lines : List Line) (offers : List Offer) (reads : List StoreCall) (failed : Bool) (change : List HostRow → List HostRow) : Type 0 where
  pub offers_are : flat_map offer_in_line lines ≡ offers
  pub reads_are : flat_map read_in_line lines ≡ reads
  pub failed_is : list_any is_failed lines ≡ failed
  pub rows_are : (rows : List HostRow) → rows_after rows lines ≡ change rows

abbrev pub TellNothing : List Line → Type 0
TellNothing lines = Tells lines [] [] false (λ rows. rows)

variables_tell : (vars : List Variable) → TellNothing (map variable_line vars)
variables_tell [] = record { offers_are = refl; reads_are = refl; failed_is = refl; rows_are = λ rows. refl }
variables_tell (variable ∷ vars) =
    let t = variables_tell vars in
    record { offers_are = t.offers_are; reads_are = t.reads_are; failed_is = t.failed_is; rows_are = λ rows. t.rows_are rows }

holds_tell : (rows : List HostRow) → TellNothing (hold_lines rows)
holds_tell [] = record { offers_are = refl; reads_are = refl; failed_is = refl; rows_are = λ rows. refl }
holds_tell (Addr iface net ∷ rows) =
    let t = holds_tell rows in
    record { offers_are = t.offers_are; reads_are = t.reads_are; failed_is = t.failed_is; rows_are = λ others. t.rows_are others }
holds_tell (Route iface dest via metric ∷ rows) =
    let t = holds_tell rows in
    record { offers_are = t.offers_are; reads_are = t.reads_are; failed_is = t.failed_is; rows_are = λ others. t.rows_are others }

listed_tell : (listed : List HostRow) → Tells (map Model.Row listed) [] [] false (λ rows. put_in_order rows listed)
listed_tell [] = record { offers_are = refl; reads_are = refl; failed_is = refl; rows_are = λ rows. refl }
listed_tell (row ∷ listed) =
    let t = listed_tell listed in
    record { offers_are = t.offers_are; reads_are = t.reads_are; failed_is = t.failed_is; rows_are = λ rows. t.rows_are (rows_with (Model.Row row) rows) }

-- ---- a call

abbrev pub reads_in : Call → List StoreCall
reads_in call = flat_map read_in_line (lines_of call)

abbrev pub rows_in : Call → List HostRow → List HostRow
rows_in call rows = rows_by_calls rows (host_call call)

abbrev CallTells : Call → Type 0
CallTells call = Tells (lines_of call) (offer_in call) (reads_in call) (has_failed (call ∷ [])) (rows_in call)

or_none : (b : Bool) → b ≡ (b || false)
or_none true = refl
or_none false = refl

call_tells : (call : Call) → CallTells call
call_tells (Link (Waited asked given)) = record { offers_are = refl; reads_are = refl; failed_is = refl; rows_are = λ rows. refl }
call_tells (Link (Offered iface frame taken)) = record { offers_are = refl; reads_are = refl; failed_is = refl; rows_are = λ rows. refl }
call_tells (Host (Listed None)) = record { offers_are = refl; reads_are = refl; failed_is = refl; rows_are = λ rows. refl }
call_tells (Host (Listed (Some listed))) =
    let t = listed_tell listed in
    record { offers_are = t.offers_are; reads_are = refl; failed_is = t.failed_is; rows_are = λ rows. t.rows_are [] }
call_tells (Host (Added row true)) = record { offers_are = refl; reads_are = refl; failed_is = refl; rows_are = λ rows. refl }
call_tells (Host (Added row false)) = record { offers_are = refl; reads_are = refl; failed_is = refl; rows_are = λ rows. refl }
call_tells (Host (Removed row true)) = record { offers_are = refl; reads_are = refl; failed_is = refl; rows_are = λ rows. refl }
call_tells (Host (Removed row false)) = record { offers_are = refl; reads_are = refl; failed_is = refl; rows_are = λ rows. refl }
call_tells (Store (store.ListedAsides None)) = record { offers_are = refl; reads_are = refl; failed_is = refl; rows_are = λ rows. refl }
call_tells (Store (store.ListedAsides (Some names))) = record { offers_are = refl; reads_are = refl; failed_is = refl; rows_are = λ rows. refl }
call_tells (Store (store.ReadFile name reading)) = record { offers_are = refl; reads_are = refl; failed_is = refl; rows_are = λ rows. refl }
call_tells (Store (store.WroteAside name bytes done)) = record { offers_are = refl; reads_are = refl; failed_is = refl; rows_are = λ rows. refl }
call_tells (Store (store.SyncedAside name done)) = record { offers_are = refl; reads_are = refl; failed_is = refl; rows_are = λ rows. refl }
call_tells (Store (store.RenamedAside name done)) = record { offers_are = refl; reads_are = refl; failed_is = refl; rows_are = λ rows. refl }
call_tells (Store (store.RemovedFile name done)) = record { offers_are = refl; reads_are = refl; failed_is = refl; rows_are = λ rows. refl }
call_tells (Store (store.SettledFiles done)) = record { offers_are = refl; reads_are = refl; failed_is = refl; rows_are = λ rows. refl }
call_tells (Hook number (Started job done)) =
    let t = variables_tell job.vars in
    record { offers_are = t.offers_are; reads_are = refl; failed_is = t.failed_is; rows_are = λ rows. t.rows_are rows }
call_tells (Hook number (Polled answer)) = record { offers_are = refl; reads_are = refl; failed_is = refl; rows_are = λ rows. refl }
call_tells (Hook number Abandoned) = record { offers_are = refl; reads_are = refl; failed_is = refl; rows_are = λ rows. refl }
call_tells (Dropped job) = record { offers_are = refl; reads_are = refl; failed_is = refl; rows_are = λ rows. refl }

-- ---- lines one after another

rows_apart : (rows : List HostRow) (front back : List Line) → rows_after rows (front ++ back) ≡ rows_after (rows_after rows front) back
rows_apart rows [] back = refl
rows_apart rows (line ∷ front) back = rows_apart (rows_with line rows) front back

pub calls_apart : (rows : List HostRow) (front back : List HostCall) → rows_by_calls rows (front ++ back) ≡ rows_by_calls (rows_by_calls rows front) back
calls_apart rows [] back = refl
calls_apart rows (call ∷ front) back = calls_apart (rows_by rows call) front back

joined : (front back : List Line) (o p : List Offer) (r s : List StoreCall) (b c : Bool) (f g : List HostRow → List HostRow) → Tells front o r b f
    → Tells back p s c g → Tells (front ++ back) (o ++ p) (r ++ s) (b || c) (λ rows. g (f rows))
joined front back o p r s b c f g one two = record {
  offers_are = flat_map-append offer_in_line front back ∙ ap₂ (λ x y. x ++ y) one.offers_are two.offers_are;
  reads_are = flat_map-append read_in_line front back ∙ ap₂ (λ x y. x ++ y) one.reads_are two.reads_are;
  failed_is = list_any-append is_failed front back ∙ ap₂ (λ x y. x || y) one.failed_is two.failed_is;
  rows_are = λ rows. rows_apart rows front back ∙ two.rows_are (rows_after rows front) ∙ ap g (one.rows_are rows);
}

abbrev pub reads_of : List Call → List StoreCall
reads_of calls = flat_map reads_in calls

calls_tell : (calls : List Call)
    → Tells (flat_map lines_of calls) (flat_map offer_in calls) (reads_of calls) (has_failed calls)
    (λ rows. rows_by_calls rows (flat_map host_call calls))
calls_tell [] = record { offers_are = refl; reads_are = refl; failed_is = refl; rows_are = λ rows. refl }
calls_tell (call ∷ calls) =
    let both = joined (lines_of call) (flat_map lines_of calls) (offer_in call) (flat_map offer_in calls) (reads_in call) (reads_of calls)
    (has_failed (call ∷ [])) (has_failed calls) (rows_in call) (λ rows. rows_by_calls rows (flat_map host_call calls)) (call_tells call) (calls_tell calls) in
    record {
      offers_are = both.offers_are;
      reads_are = both.reads_are;
      failed_is = both.failed_is ∙ failed_apart;
      rows_are = λ rows. both.rows_are rows ∙ sym (calls_apart rows (host_call call) (flat_map host_call calls));
    }
  where
    failed_apart : (has_failed (call ∷ []) || has_failed calls) ≡ has_failed (call ∷ calls)
    failed_apart =
        ap (λ hosts. list_any (λ c. not (is_done c)) hosts || has_failed calls) (append-nil (host_call call))
        ∙ sym (list_any-append (λ c. not (is_done c)) (host_call call) (flat_map host_call calls))

-- the lines of a turn or an opening, and those after the last turn
pub lines_tell : (calls : List Call) (life : Life) (closing : List Line) → TellNothing closing
    → Tells (lines_by calls life ++ closing) (flat_map offer_in calls) (reads_of calls) (has_failed calls)
    (λ rows. rows_by_calls rows (flat_map host_call calls))
lines_tell calls life closing none =
    let waits : TellNothing (Model.Until (until life) ∷ []) = record { offers_are = refl; reads_are = refl; failed_is = refl; rows_are = λ rows. refl } in
    let front = joined (flat_map lines_of calls) (Model.Until (until life) ∷ []) (flat_map offer_in calls) [] (reads_of calls) [] (has_failed calls) false
    (λ rows. rows_by_calls rows (flat_map host_call calls)) (λ rows. rows) (calls_tell calls) waits in
    let all = joined (lines_by calls life) closing (flat_map offer_in calls ++ []) [] (reads_of calls ++ []) [] (has_failed calls || false) false
    (λ rows. rows_by_calls rows (flat_map host_call calls)) (λ rows. rows) front none in
    record {
      offers_are = all.offers_are ∙ append-nil (flat_map offer_in calls ++ []) ∙ append-nil (flat_map offer_in calls);
      reads_are = all.reads_are ∙ append-nil (reads_of calls ++ []) ∙ append-nil (reads_of calls);
      failed_is = all.failed_is ∙ sym (or_none (has_failed calls || false)) ∙ sym (or_none (has_failed calls));
      rows_are = all.rows_are;
    }

pub last_tells : {T : Type 0} (later : List T) (rows : List HostRow) → TellNothing (only_last later (hold_lines rows))
last_tells [] rows = holds_tell rows
last_tells (turn ∷ later) rows = record { offers_are = refl; reads_are = refl; failed_is = refl; rows_are = λ others. refl }

-- ---- what was read

read_apart : (name : List ℕ) (front back : List StoreCall) → read_among name (front ++ back) ≡ first_of (read_among name front) (read_among name back)
read_apart name [] back = refl
read_apart name (call ∷ front) back =
    ap (first_of (read_in name call)) (read_apart name front back) ∙ first_apart (read_in name call) (read_among name front) (read_among name back)
  where
    first_apart : (a b c : Option Reading) → first_of a (first_of b c) ≡ first_of (first_of a b) c
    first_apart (Some a) b c = refl
    first_apart None b c = refl

same_read : (name : List ℕ) (call : Call) → read_among name (reads_in call) ≡ read_among name (store_call call)
same_read name (Link (Waited asked given)) = refl
same_read name (Link (Offered iface frame taken)) = refl
same_read name (Host (Listed None)) = refl
same_read name (Host (Listed (Some listed))) = ap (read_among name) (listed_tell listed).reads_are
same_read name (Host (Added row done)) = refl
same_read name (Host (Removed row done)) = refl
same_read name (Store (store.ListedAsides None)) = refl
same_read name (Store (store.ListedAsides (Some names))) = refl
same_read name (Store (store.ReadFile other reading)) = refl
same_read name (Store (store.WroteAside other bytes done)) = refl
same_read name (Store (store.SyncedAside other done)) = refl
same_read name (Store (store.RenamedAside other done)) = refl
same_read name (Store (store.RemovedFile other done)) = refl
same_read name (Store (store.SettledFiles done)) = refl
same_read name (Hook number (Started job done)) = ap (read_among name) (variables_tell job.vars).reads_are
same_read name (Hook number (Polled answer)) = refl
same_read name (Hook number Abandoned) = refl
same_read name (Dropped job) = refl

same_reads : (name : List ℕ) (calls : List Call) → read_among name (reads_of calls) ≡ read_among name (flat_map store_call calls)
same_reads name [] = refl
same_reads name (call ∷ calls) =
    read_apart name (reads_in call) (reads_of calls)
    ∙ ap₂ first_of (same_read name call) (same_reads name calls)
    ∙ sym (read_apart name (store_call call) (flat_map store_call calls))

-- ---- turns

pub entry_same : (met : Met) (closing : List Line) → TellNothing closing → entry_told (turn_lived met closing) ≡ entry_of met
entry_same met closing none =
    λ i. record {
      moment = met.life.now;
      event = met.wake.event;
      bytes = met.bytes;
      offers = (lines_tell met.calls met.life closing none).offers_are i;
    }

-- all entries, the newest first
abbrev pub entries_of : Shown → List Entry
entries_of shown = shown.entry ∷ shown.past

turns_same : (held : List HostRow) (mets : List Met) (shown : Shown)
    → entries_of (showing.shown_after shown (turns_lived mets (hold_lines held))) ≡ shown_after (entries_of shown) mets
turns_same held [] shown = refl
turns_same held (met ∷ mets) shown =
    turns_same held mets (shown_next shown (turn_lived met (only_last mets (hold_lines held))))
    ∙ ap (λ e. shown_after (e ∷ entries_of shown) mets) (entry_same met (only_last mets (hold_lines held)) (last_tells mets held))

rows_same : (held : List HostRow) (mets : List Met) (shown : Shown)
    → (showing.shown_after shown (turns_lived mets (hold_lines held))).rows ≡ rows_lived shown.rows mets
rows_same held [] shown = refl
rows_same held (met ∷ mets) shown =
    let closing = only_last mets (hold_lines held) in
    rows_same held mets (shown_next shown (turn_lived met closing))
    ∙ ap (λ rows. rows_lived rows mets) ((lines_tell met.calls met.life closing (last_tells mets held)).rows_are shown.rows)

failed_same : (held : List HostRow) (mets : List Met) (shown : Shown) (calls : List Call) → shown.failed ≡ has_failed calls
    → (showing.shown_after shown (turns_lived mets (hold_lines held))).failed ≡ failed_last calls mets
failed_same held [] shown calls e = e
failed_same held (met ∷ mets) shown calls e =
    let closing = only_last mets (hold_lines held) in
    failed_same held mets (shown_next shown (turn_lived met closing)) met.calls (lines_tell met.calls met.life closing (last_tells mets held)).failed_is

-- ---- the lines of a life

lines_same : (closing : List Line) (mets : List Met)
    → only_last mets closing ++ flat_map told.turn_lines (turns_lived mets closing) ≡ flat_map turn_lines mets ++ closing
lines_same closing [] = append-nil closing
lines_same closing (met ∷ mets) =
    append_assoc (turn_lines met) (only_last mets closing) (flat_map told.turn_lines (turns_lived mets closing))
    ∙ ap (λ lines. turn_lines met ++ lines) (lines_same closing mets)
    ∙ sym (append_assoc (turn_lines met) (flat_map turn_lines mets) closing)

pub first_same : (opening : OpeningMet) (mets : List Met) → opening.life.now ≡ opening.begin.at
    → opening_told (life_lived opening mets) ≡ opening_entry opening
first_same opening mets begins =
    let rows : List HostRow = rows_of (life_after opening.life mets).client in
    let tells = lines_tell opening.calls opening.life (only_last mets (hold_lines rows)) (last_tells mets rows) in
    λ i. record { moment = sym begins i; event = Quiet; bytes = []; offers = tells.offers_are i }

reads_same : (opening : OpeningMet) (mets : List Met) (name : List ℕ)
    → read_among name (flat_map read_in_line (life_lived opening mets).opening) ≡ read_among name (flat_map store_call opening.calls)
reads_same opening mets name =
    let rows : List HostRow = rows_of (life_after opening.life mets).client in
    let tells = lines_tell opening.calls opening.life (only_last mets (hold_lines rows)) (last_tells mets rows) in
    ap (read_among name) tells.reads_are ∙ same_reads name opening.calls

life_same : (front held : List Line) (mets : List Met)
    → ((front ++ only_last mets held) ++ flat_map told.turn_lines (turns_lived mets held)) ++ Model.EndOfLife ∷ []
    ≡ front ++ (flat_map turn_lines mets ++ (held ++ Model.EndOfLife ∷ []))
life_same front held mets =
    ap (λ lines. lines ++ Model.EndOfLife ∷ [])
    (append_assoc front (only_last mets held) (flat_map told.turn_lines (turns_lived mets held)) ∙ ap (λ lines. front ++ lines) (lines_same held mets))
    ∙ append_assoc front (flat_map turn_lines mets ++ held) (Model.EndOfLife ∷ [])
    ∙ ap (λ lines. front ++ lines) (append_assoc (flat_map turn_lines mets) held (Model.EndOfLife ∷ []))

pub lives_told_so : LivesAreToldSo
lives_told_so opening mets =
    let rows : List HostRow = rows_of (life_after opening.life mets).client in
    let shown : Shown = shown_at_first (life_lived opening mets) in
    let tells = lines_tell opening.calls opening.life (only_last mets (hold_lines rows)) (last_tells mets rows) in
    record {
      lines = ap (λ lines. Model.Start opening.begin ∷ lines) (life_same (lines_by opening.calls opening.life) (hold_lines rows) mets);
      entries = λ begins. turns_same rows mets shown ∙ ap (λ e. shown_after (e ∷ []) mets) (first_same opening mets begins);
      sites = λ managed own m. λ i. record {
        managed = m;
        duid = host_duid managed (reads_same opening mets duid_file i);
        own = own;
        up = is_up opening.begin.up m.spec.index.number;
        kept4 = option_and_then (kept_by m.spec) (reads_same opening mets (lease4_file m) i);
        kept6 = option_and_then (kept6_by m.spec) (reads_same opening mets (lease6_file m) i);
      };
      rows = rows_same rows mets shown ∙ ap (λ first. rows_lived first mets) (tells.rows_are []);
      failed = failed_same rows mets shown opening.calls tells.failed_is;
    }
