-- What each line of a turn makes of what is kept, said alike for all lines; and so for all lines of a turn.
use Rattle.std.proofs.Common.{◌≡◌, Bool, true, false, ◌||◌, List, [], ◌∷◌, ◌++◌, Some, option_map, flat_map, refl, sym, ap, ◌∙◌, subst, append_assoc, append-nil}
use Rattle.std.specs.Prelude.{filter}
use Rattle.std.specs.List.{list_any}
use Rattle.std.proofs.lemmas.Bool.{false≢true}
use Rattle.world.specs.declared.rows.HostRow.{HostRow}
use Rattle.world.specs.RowOrder.{with_row, without_row}
use Rattle.world.specs.StoreCalls.{StoreCall, ReadFile}
use Rattle.settings.specs.declared.interfaces.Managed.{Managed}
use Rattle.script_model.specs.Lines.{Line}
use Rattle.script_model.specs.Lines as Model
use Rattle.host_model.specs.HostTable.{InRowOrder}
use Rattle.host_model.proofs.HostTableRows.{with_in_order, without_in_order}
use Rattle.evidence_words.specs.Entries.{Entry, Offer}
use Rattle.transcript_read.specs.TranscriptModel.LifeShapes.{Follows, AllFollow}
use Rattle.transcript_read.specs.Bodies.{followed}
use Rattle.audit_model.specs.Showing.{offer_in_line, read_in_line, is_failed, rows_with, rows_after}
use Rattle.audit_model.specs.Auditing.{Judge, Auditing, Living, after, is_judged, offered, put_judged, reads_after, with_line}
use Rattle.audit_model.proofs.JudgedRows.{no_rows_in_order, put_same, taken_same}

-- ---- more of each

abbrev pub judged_among : List Managed → List HostRow → List HostRow
judged_among managed rows = filter (is_judged managed) rows

abbrev pub reads_more : (past : List Entry) → (more reads : List StoreCall) → List StoreCall
reads_more [] more reads = reads ++ more
reads_more (e ∷ past) more reads = reads

abbrev pub offers_more : List Offer → Entry → Entry
offers_more more entry = record entry { offers = entry.offers ++ more }

abbrev pub with_more : List StoreCall → List Offer → Bool → List HostRow → Living → Living
with_more reads offers failed rows w = record w {
  reads = reads_more w.past reads w.reads;
  entry = offers_more offers w.entry;
  failed = w.failed || failed;
  rows = rows;
}

kept : (w : Living) (r s : List StoreCall) (e f : Entry) (b c : Bool) (rows others : List HostRow) → r ≡ s → e ≡ f → b ≡ c → rows ≡ others
    → record w { reads = r; entry = e; failed = b; rows = rows } ≡ record w { reads = s; entry = f; failed = c; rows = others }
kept w r s e f b c rows others reads entry failed same = λ i. record w { reads = reads i; entry = entry i; failed = failed i; rows = same i }

no_reads : (past : List Entry) (reads : List StoreCall) → reads ≡ reads_more past [] reads
no_reads [] reads = sym (append-nil reads)
no_reads (e ∷ past) reads = refl

one_read : (past : List Entry) (call : StoreCall) (reads : List StoreCall) → reads_after past call reads ≡ reads_more past (call ∷ []) reads
one_read [] call reads = refl
one_read (e ∷ past) call reads = refl

no_offers : (entry : Entry) → entry ≡ offers_more [] entry
no_offers entry = λ i. record entry { offers = sym (append-nil entry.offers) i }

not_failed : (b : Bool) → b ≡ (b || false)
not_failed true = refl
not_failed false = refl

has_failed : (b : Bool) → true ≡ (b || true)
has_failed true = refl
has_failed false = refl

-- ---- a line

-- what a line of a turn makes of what is kept, and of the rows that are shown
pub record Steps (line : Line) : Type 0 where
  pub judged : List Managed → List HostRow → List HostRow
  pub living : (w : Living) → with_line line w ≡ with_more (read_in_line line) (offer_in_line line) (is_failed line) (judged w.managed w.rows) w
  pub same : (managed : List Managed) (rows : List HostRow) → InRowOrder rows
      → judged managed (judged_among managed rows) ≡ judged_among managed (rows_with line rows)
  pub order : (rows : List HostRow) → InRowOrder rows → InRowOrder (rows_with line rows)
  pub after_it : (judge : Judge) (state : Auditing) → after judge state line ≡ record state { living = option_map (with_line line) state.living }

-- a line that tells nothing
nothing : (w : Living) → w ≡ with_more [] [] false w.rows w
nothing w = kept w w.reads (reads_more w.past [] w.reads) w.entry (offers_more [] w.entry) w.failed (w.failed || false) w.rows w.rows
    (no_reads w.past w.reads) (no_offers w.entry) (not_failed w.failed) refl

-- a change of the rows alone
rows_alone : (w : Living) (rows : List HostRow) → record w { rows = rows } ≡ with_more [] [] false rows w
rows_alone w rows = kept w w.reads (reads_more w.past [] w.reads) w.entry (offers_more [] w.entry) w.failed (w.failed || false) rows rows
    (no_reads w.past w.reads) (no_offers w.entry) (not_failed w.failed) refl

failure : (w : Living) → record w { failed = true } ≡ with_more [] [] true w.rows w
failure w = kept w w.reads (reads_more w.past [] w.reads) w.entry (offers_more [] w.entry) true (w.failed || true) w.rows w.rows
    (no_reads w.past w.reads) (no_offers w.entry) (has_failed w.failed) refl

offer_alone : (w : Living) (offer : Offer) → record w { entry = offered offer w.entry } ≡ with_more [] (offer ∷ []) false w.rows w
offer_alone w offer = kept w w.reads (reads_more w.past [] w.reads) (offered offer w.entry) (offers_more (offer ∷ []) w.entry) w.failed (w.failed || false)
    w.rows w.rows (no_reads w.past w.reads) refl (not_failed w.failed) refl

read_alone : (w : Living) (call : StoreCall) → record w { reads = reads_after w.past call w.reads } ≡ with_more (call ∷ []) [] false w.rows w
read_alone w call = kept w (reads_after w.past call w.reads) (reads_more w.past (call ∷ []) w.reads) w.entry (offers_more [] w.entry) w.failed
    (w.failed || false) w.rows w.rows (one_read w.past call w.reads) (no_offers w.entry) (not_failed w.failed) refl

put_steps : (managed : List Managed) (row : HostRow) (rows : List HostRow) → InRowOrder rows
    → put_judged managed row (judged_among managed rows) ≡ judged_among managed (with_row row rows)
put_steps managed row rows s = put_same (is_judged managed) row rows s (is_judged managed row) refl

-- what stays as it is
pub record Stays (line : Line) : Type 0 where
  pub living : (w : Living) → with_line line w ≡ w
  pub reads : [] ≡ read_in_line line
  pub offers : [] ≡ offer_in_line line
  pub done : false ≡ is_failed line
  pub rows : (rows : List HostRow) → rows_with line rows ≡ rows
  pub after_it : (judge : Judge) (state : Auditing) → after judge state line ≡ record state { living = option_map (with_line line) state.living }

stays : (line : Line) → Stays line → Steps line
stays line s = record {
  judged = λ managed rows. rows;
  living = λ w. s.living w ∙ nothing w ∙ (λ i. with_more (s.reads i) (s.offers i) (s.done i) w.rows w);
  same = λ managed rows order. ap (judged_among managed) (sym (s.rows rows));
  order = λ rows order. subst InRowOrder (sym (s.rows rows)) order;
  after_it = s.after_it;
}

pub steps : (line : Line) → Follows line → Steps line
steps (Model.Conf text) follows = absurd (false≢true follows)
steps (Model.Notice line word) follows = absurd (false≢true follows)
steps (Model.Interface spec) follows = absurd (false≢true follows)
steps (Model.Life number) follows = absurd (false≢true follows)
steps (Model.Start begin) follows = absurd (false≢true follows)
steps (Model.Turn at salt event bytes) follows = absurd (false≢true follows)
steps Model.Head follows = absurd (false≢true follows)
steps Model.EndOfLife follows = absurd (false≢true follows)
steps (Model.Asides names) follows =
    stays _ (record { living = λ w. refl; reads = refl; offers = refl; done = refl; rows = λ rows. refl; after_it = λ judge state. refl })
steps (Model.Wrote name bytes done) follows =
    stays _ (record { living = λ w. refl; reads = refl; offers = refl; done = refl; rows = λ rows. refl; after_it = λ judge state. refl })
steps (Model.Synced name done) follows =
    stays _ (record { living = λ w. refl; reads = refl; offers = refl; done = refl; rows = λ rows. refl; after_it = λ judge state. refl })
steps (Model.Renamed name done) follows =
    stays _ (record { living = λ w. refl; reads = refl; offers = refl; done = refl; rows = λ rows. refl; after_it = λ judge state. refl })
steps (Model.Removed name done) follows =
    stays _ (record { living = λ w. refl; reads = refl; offers = refl; done = refl; rows = λ rows. refl; after_it = λ judge state. refl })
steps (Model.Settled done) follows =
    stays _ (record { living = λ w. refl; reads = refl; offers = refl; done = refl; rows = λ rows. refl; after_it = λ judge state. refl })
steps (Model.HookPolled number answer) follows =
    stays _ (record { living = λ w. refl; reads = refl; offers = refl; done = refl; rows = λ rows. refl; after_it = λ judge state. refl })
steps (Model.HookAbandoned number) follows =
    stays _ (record { living = λ w. refl; reads = refl; offers = refl; done = refl; rows = λ rows. refl; after_it = λ judge state. refl })
steps (Model.HookDropped number reason name) follows =
    stays _ (record { living = λ w. refl; reads = refl; offers = refl; done = refl; rows = λ rows. refl; after_it = λ judge state. refl })
steps (Model.HookStarted number reason name done) follows =
    stays _ (record { living = λ w. refl; reads = refl; offers = refl; done = refl; rows = λ rows. refl; after_it = λ judge state. refl })
steps (Model.Variable name value) follows =
    stays _ (record { living = λ w. refl; reads = refl; offers = refl; done = refl; rows = λ rows. refl; after_it = λ judge state. refl })
steps (Model.Until moment) follows =
    stays _ (record { living = λ w. refl; reads = refl; offers = refl; done = refl; rows = λ rows. refl; after_it = λ judge state. refl })
steps (Model.Hold iface net) follows =
    stays _ (record { living = λ w. refl; reads = refl; offers = refl; done = refl; rows = λ rows. refl; after_it = λ judge state. refl })
steps Model.AsidesFailed follows =
    stays _ (record { living = λ w. refl; reads = refl; offers = refl; done = refl; rows = λ rows. refl; after_it = λ judge state. refl })
steps (Model.Read name reading) follows = record {
  judged = λ managed rows. rows;
  living = λ w. read_alone w (ReadFile name reading);
  same = λ managed rows order. refl;
  order = λ rows order. order;
  after_it = λ judge state. refl;
}
steps (Model.Send iface bytes taken) follows = record {
  judged = λ managed rows. rows;
  living = λ w. offer_alone w (record { iface = iface.number; bytes = bytes; taken = taken });
  same = λ managed rows order. refl;
  order = λ rows order. order;
  after_it = λ judge state. refl;
}
steps Model.HostListFailed follows = record {
  judged = λ managed rows. rows;
  living = λ w. failure w;
  same = λ managed rows order. refl;
  order = λ rows order. order;
  after_it = λ judge state. refl;
}
steps (Model.HostAdd row false) follows = record {
  judged = λ managed rows. rows;
  living = λ w. failure w;
  same = λ managed rows order. refl;
  order = λ rows order. order;
  after_it = λ judge state. refl;
}
steps (Model.HostDel row false) follows = record {
  judged = λ managed rows. rows;
  living = λ w. failure w;
  same = λ managed rows order. refl;
  order = λ rows order. order;
  after_it = λ judge state. refl;
}
steps (Model.HostListed count) follows = record {
  judged = λ managed rows. [];
  living = λ w. rows_alone w [];
  same = λ managed rows order. refl;
  order = λ rows order. no_rows_in_order;
  after_it = λ judge state. refl;
}
steps (Model.Row row) follows = record {
  judged = λ managed rows. put_judged managed row rows;
  living = λ w. rows_alone w (put_judged w.managed row w.rows);
  same = λ managed rows order. put_steps managed row rows order;
  order = λ rows order. with_in_order row rows order;
  after_it = λ judge state. refl;
}
steps (Model.HostAdd row true) follows = record {
  judged = λ managed rows. put_judged managed row rows;
  living = λ w. rows_alone w (put_judged w.managed row w.rows);
  same = λ managed rows order. put_steps managed row rows order;
  order = λ rows order. with_in_order row rows order;
  after_it = λ judge state. refl;
}
steps (Model.HostDel row true) follows = record {
  judged = λ managed rows. without_row row rows;
  living = λ w. rows_alone w (without_row row w.rows);
  same = λ managed rows order. taken_same (is_judged managed) row rows order;
  order = λ rows order. without_in_order row rows order;
  after_it = λ judge state. refl;
}

-- ---- the lines of a turn

abbrev pub with_lines : List Line → Living → Living
with_lines [] w = w
with_lines (line ∷ lines) w = with_lines lines (with_line line w)

pub walked : (judge : Judge) (lines rest : List Line) (state : Auditing) (w : Living) → AllFollow lines
    → followed (after judge) (record state { living = Some w }) (lines ++ rest)
    ≡ followed (after judge) (record state { living = Some (with_lines lines w) }) rest
walked judge [] rest state w all = refl
walked judge (line ∷ lines) rest state w all =
    ap (λ s. followed (after judge) s (lines ++ rest)) ((steps line all.0).after_it judge (record state { living = Some w }))
    ∙ walked judge lines rest state (with_line line w) all.1

more_reads : (past : List Entry) (a b reads : List StoreCall) → reads_more past b (reads_more past a reads) ≡ reads_more past (a ++ b) reads
more_reads [] a b reads = append_assoc reads a b
more_reads (e ∷ past) a b reads = refl

more_offers : (a b : List Offer) (entry : Entry) → offers_more b (offers_more a entry) ≡ offers_more (a ++ b) entry
more_offers a b entry = λ i. record entry { offers = append_assoc entry.offers a b i }

more_failed : (a b c : Bool) → ((a || b) || c) ≡ (a || (b || c))
more_failed true b c = refl
more_failed false b c = refl

more_more : (r s : List StoreCall) (o p : List Offer) (b c : Bool) (rows others : List HostRow) (w : Living)
    → with_more s p c others (with_more r o b rows w) ≡ with_more (r ++ s) (o ++ p) (b || c) others w
more_more r s o p b c rows others w =
    kept w (reads_more w.past s (reads_more w.past r w.reads)) (reads_more w.past (r ++ s) w.reads) (offers_more p (offers_more o w.entry))
    (offers_more (o ++ p) w.entry) ((w.failed || b) || c) (w.failed || (b || c)) others others (more_reads w.past r s w.reads) (more_offers o p w.entry)
    (more_failed w.failed b c) refl

-- while these rows are shown
abbrev pub with_judged : List HostRow → Living → Living
with_judged rows w = record w { rows = judged_among w.managed rows }

pub in_order_after : (lines : List Line) (rows : List HostRow) → AllFollow lines → InRowOrder rows → InRowOrder (rows_after rows lines)
in_order_after [] rows all order = order
in_order_after (line ∷ lines) rows all order = in_order_after lines (rows_with line rows) all.1 ((steps line all.0).order rows order)

pub gathered : (lines : List Line) (w : Living) (rows : List HostRow) → AllFollow lines → InRowOrder rows
    → with_lines lines (with_judged rows w)
    ≡ with_more (flat_map read_in_line lines) (flat_map offer_in_line lines) (list_any is_failed lines) (judged_among w.managed (rows_after rows lines)) w
gathered [] w rows all order = rows_alone w (judged_among w.managed rows)
gathered (line ∷ lines) w rows all order =
    let s = steps line all.0 in
    let made = s.living (with_judged rows w) in
    let next : Living = with_more (read_in_line line) (offer_in_line line) (is_failed line) (judged_among w.managed (rows_with line rows)) w in
    let same : with_line line (with_judged rows w) ≡ next =
    made ∙ ap (λ r. with_more (read_in_line line) (offer_in_line line) (is_failed line) r w) (s.same w.managed rows order) in
    ap (with_lines lines) same
    ∙ gathered lines next (rows_with line rows) all.1 (s.order rows order)
    ∙ more_more (read_in_line line) (flat_map read_in_line lines) (offer_in_line line) (flat_map offer_in_line lines) (is_failed line)
    (list_any is_failed lines) (judged_among w.managed (rows_with line rows)) (judged_among w.managed (rows_after (rows_with line rows) lines)) w
