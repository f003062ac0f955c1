-- What is held of a life stays so with each line.
use Rattle.std.proofs.Common.{◌≡◌, ℕ, List, [], ◌∷◌, ◌++◌, map, Option, Some, None, option_map, false, refl, sym, ap, subst, ◌∙◌, append-nil}
use Rattle.std.proofs.lemmas.Bool.{false≢true}
use Rattle.std.proofs.lemmas.Grind.{flat_map-append}
use Rattle.std.specs.Global.{Vec}
use Rattle.net_types.specs.declared.interface.IfSpec.{IfSpec}
use Rattle.world.specs.StoreCalls.{StoreCall}
use Rattle.world.specs.declared.rows.HostRow.{HostRow}
use Rattle.world.specs.declared.wakes.Begin.{Begin}
use Rattle.world.specs.declared.wakes.Event.{Event}
use Rattle.world.specs.declared.wakes.Event.TheVariants.{Quiet}
use Rattle.conf_text.specs.Settings.{managed_of}
use Rattle.script_model.specs.Lines.{Line}
use Rattle.script_model.specs.Lines as Model
use Rattle.row_reasons.specs.EvidenceWords.Entries.{Entry}
use Rattle.transcript_model.specs.LifeShapes.{Follows}
use Rattle.row_reasons.specs.AuditModel.Showing.{read_in_line}
use Rattle.row_reasons.specs.AuditModel.Auditing.{Living, begun, first_entry, reads_after, turned, with_line}
use Rattle.row_reasons.proofs.AuditModel.LinesWalked.{reads_more, steps}
use Rattle.row_reasons.specs.AuditSites.Openings.{Opens}
use Rattle.row_reasons.specs.AuditSites.Reads.{reads_of}
use Rattle.row_reasons.specs.AuditSites.declared.opening.Opening.{Opening}
use Rattle.row_reasons.specs.AuditTurns.Goings.{GoesOn, Going, is_read}
use Rattle.row_reasons.specs.AuditWords.Shown.{entry_shown}
use Rattle.row_reasons.specs.TranscriptAudit.AuditFollower.Holding.{IsPastOne, with_read}
use Rattle.transcript_lines.specs.Contents.{line_of}
use Rattle.transcript_lines.specs.declared.lines.ToldLine.{ToldLine}
use Rattle.transcript_lines.specs.declared.lines.ToldLine.TheVariants as told
use Rattle.row_reasons.specs.BasisTurns.declared.shown_turn.ShownTurn.{ShownTurn}
use Rattle.row_reasons.specs.ReasonLines.{LifeJudged, judged_now, life_judged, lines_of, said_of}
use Rattle.row_reasons.specs.LifeHeld.{ClosesOne, Holds, IsLived, rows_judged, unturned}
use Rattle.row_reasons.specs.declared.line.BasisLine.{BasisLine}
use Rattle.row_reasons.specs.declared.lived.Lived.{Lived}
use Rattle.row_reasons.proofs.TurnLaws.{begins_lived}
use Rattle.audit_reasons.specs.Explaining.{Explaining, auditing}
use Rattle.audit_reasons.specs.Holding.{Closes, Courses}
use Rattle.audit_reasons.specs.declared.explainer.Course.{Course}
use Rattle.audit_reasons.specs.declared.explainer.Course.TheVariants as courses

-- ---- what a line leaves as it is

-- all but what a turn shows, and the rows
record Keeps (living next : Living) : Type 0 where
  managed : next.managed ≡ living.managed
  own : next.own ≡ living.own
  begin : next.begin ≡ living.begin
  reads : next.reads ≡ living.reads
  past : next.past ≡ living.past

no_reads : (line : Line) → Follows line → is_read line ≡ false → read_in_line line ≡ []
no_reads Model.Head follows other = refl
no_reads (Model.Conf text) follows other = refl
no_reads (Model.Notice line word) follows other = refl
no_reads (Model.Interface spec) follows other = refl
no_reads (Model.Life number) follows other = refl
no_reads (Model.Start begin) follows other = refl
no_reads (Model.Turn at salt event bytes) follows other = refl
no_reads Model.EndOfLife follows other = refl
no_reads (Model.Asides names) follows other = refl
no_reads Model.AsidesFailed follows other = refl
no_reads (Model.Wrote name bytes done) follows other = refl
no_reads (Model.Synced name done) follows other = refl
no_reads (Model.Renamed name done) follows other = refl
no_reads (Model.Removed name done) follows other = refl
no_reads (Model.Settled done) follows other = refl
no_reads (Model.Read name reading) follows other = absurd (false≢true (sym other))
no_reads (Model.HookPolled number answer) follows other = refl
no_reads (Model.HookAbandoned number) follows other = refl
no_reads (Model.HookDropped number reason name) follows other = refl
no_reads (Model.HookStarted number reason name done) follows other = refl
no_reads (Model.Variable name value) follows other = refl
no_reads (Model.Send iface bytes taken) follows other = refl
no_reads (Model.HostListed count) follows other = refl
no_reads (Model.Row row) follows other = refl
no_reads Model.HostListFailed follows other = refl
no_reads (Model.HostDel row done) follows other = refl
no_reads (Model.HostAdd row done) follows other = refl
no_reads (Model.Until moment) follows other = refl
no_reads (Model.Hold iface net) follows other = refl

same_reads : (past : List Entry) (reads : List StoreCall) → reads_more past [] reads ≡ reads
same_reads [] reads = append-nil reads
same_reads (e ∷ past) reads = refl

keeps : (line : Line) → Follows line → is_read line ≡ false → (w : Living) → Keeps w (with_line line w)
keeps line follows other w =
    let made = (steps line follows).living w in
    record {
      managed = ap (λ (l : Living). l.managed) made;
      own = ap (λ (l : Living). l.own) made;
      begin = ap (λ (l : Living). l.begin) made;
      reads = ap (λ (l : Living). l.reads) made
          ∙ ap (λ (reads : List StoreCall). reads_more w.past reads w.reads) (no_reads line follows other) ∙ same_reads w.past w.reads;
      past = ap (λ (l : Living). l.past) made;
    }

opens_kept : (opening : Opening) (w next : Living) → Keeps w next → Opens opening w → Opens opening next
opens_kept opening w next k is = record {
  managed = is.managed ∙ sym k.managed;
  own = is.own ∙ sym k.own;
  begin = is.begin ∙ sym k.begin;
  reads = is.reads ∙ sym k.reads;
  first = k.past ∙ is.first;
}

unturned_kept : (w next : Living) → Keeps w next → Keeps (unturned w) (unturned next)
unturned_kept w next k = record { managed = k.managed; own = k.own; begin = k.begin; reads = k.reads; past = refl }

lived_kept : (lived : Lived) (w next : Living) (judged : Option Living) → Keeps w next → IsLived lived w judged → IsLived lived next judged
lived_kept lived w next judged k is = record {
  past_one = subst IsPastOne (sym k.past) is.past_one;
  holds = record {
    opens = opens_kept lived.opening (unturned w) (unturned next) (unturned_kept w next k) is.holds.opens;
    turns = is.holds.turns ∙ sym k.past;
    last = is.holds.last;
  };
}

living_kept : (course : Course) (w next : Living) (judged : Option Living) → Keeps w next → Courses course (Some w) judged
    → Courses course (Some next) judged
living_kept courses.Between w next None k is = absurd is
living_kept courses.Between w next (Some last) k is = absurd is
living_kept (courses.Opening opening) w next None k is = opens_kept opening w next k is
living_kept (courses.Opening opening) w next (Some last) k is = absurd is
living_kept (courses.Within lived) w next None k is = lived_kept lived w next None k is
living_kept (courses.Within lived) w next (Some last) k is = lived_kept lived w next (Some last) k is

pub course_told : (course : Course) (line : Line) (living judged : Option Living) → Follows line → is_read line ≡ false
    → Courses course living judged → Courses course (option_map (with_line line) living) judged
course_told course line None judged follows other is = is
course_told course line (Some w) judged follows other is = living_kept course w (with_line line w) judged (keeps line follows other w) is

-- ---- files that are read

pub opening_read : (before after : Opening) (call : StoreCall) (living judged : Option Living)
    → after.managed ≡ before.managed → after.own.items ≡ before.own.items → after.begin ≡ before.begin
    → reads_of after.reads.items ≡ reads_of before.reads.items ++ call ∷ []
    → Courses (courses.Opening before) living judged
    → Courses (courses.Opening after) (option_map (with_read call) living) judged
opening_read before after call None None managed own begin reads is = absurd is
opening_read before after call None (Some last) managed own begin reads is = absurd is
opening_read before after call (Some w) (Some last) managed own begin reads is = absurd is
opening_read before after call (Some w) None managed own begin reads is = record {
  managed = managed ∙ is.managed;
  own = own ∙ is.own;
  begin = begin ∙ is.begin;
  reads = reads ∙ ap (λ (all : List StoreCall). all ++ call ∷ []) is.reads ∙ ap (λ (past : List Entry). reads_after past call w.reads) (sym is.first);
  first = is.first;
}

past_reads : (past : List Entry) (call : StoreCall) (reads : List StoreCall) → IsPastOne past → reads_after past call reads ≡ reads
past_reads [] call reads one = absurd one
past_reads (e ∷ past) call reads one = refl

read_kept : (call : StoreCall) (w : Living) → IsPastOne w.past → Keeps w (with_read call w)
read_kept call w one =
    record { managed = refl; own = refl; begin = refl; reads = past_reads w.past call w.reads one; past = refl }

pub within_read : (lived : Lived) (call : StoreCall) (living judged : Option Living) → Courses (courses.Within lived) living judged
    → Courses (courses.Within lived) (option_map (with_read call) living) judged
within_read lived call None None is = absurd is
within_read lived call None (Some last) is = absurd is
within_read lived call (Some w) None is = lived_kept lived w (with_read call w) None (read_kept call w is.past_one) is
within_read lived call (Some w) (Some last) is = lived_kept lived w (with_read call w) (Some last) (read_kept call w is.past_one) is

pub between_read : (call : StoreCall) (living judged : Option Living) → Courses courses.Between living judged
    → Courses courses.Between (option_map (with_read call) living) judged
between_read call None None is = tt
between_read call None (Some last) is = absurd is
between_read call (Some w) None is = absurd is
between_read call (Some w) (Some last) is = absurd is

-- ---- a turn that is over

pub between_closed : (living judged : Option Living) (at : ℕ) (event : Event) (bytes : List ℕ) → Courses courses.Between living judged
    → Courses courses.Between (option_map (turned at event bytes) living) (judged_now living judged)
between_closed None None at event bytes is = tt
between_closed None (Some last) at event bytes is = absurd is
between_closed (Some w) None at event bytes is = absurd is
between_closed (Some w) (Some last) at event bytes is = absurd is

-- what a life is with a turn more
abbrev Lengthens : ShownTurn → Option (Vec HostRow) → Lived → Lived → Type 0
Lengthens turn rows lived next = (w : Living) (judged : Option Living) (at : ℕ) (event : Event) (bytes : List ℕ) → ClosesOne turn rows w
    → Holds lived w judged → IsLived next (turned at event bytes w) (judged_now (Some w) judged)

-- such a life goes on after its opening
within_next : (next : Lived) (w : Living) (judged : Option Living) → IsLived next w judged → Courses (courses.Within next) (Some w) judged
within_next next w None is = is
within_next next w (Some last) is = is

pub opening_closed : (opening : Opening) (fresh next : Lived) (turn : ShownTurn) (rows : Option (Vec HostRow)) → fresh.opening ≡ opening
    → fresh.turns.items ≡ [] → fresh.judged ≡ None → Lengthens turn rows fresh next
    → (living judged : Option Living) (at : ℕ) (event : Event) (bytes : List ℕ) → Closes turn rows living
    → Courses (courses.Opening opening) living judged
    → Courses (courses.Within next) (option_map (turned at event bytes) living) (judged_now living judged)
opening_closed opening fresh next turn rows same none unjudged longer None None at event bytes closes is = absurd is
opening_closed opening fresh next turn rows same none unjudged longer None (Some last) at event bytes closes is = absurd is
opening_closed opening fresh next turn rows same none unjudged longer (Some w) (Some last) at event bytes closes is = absurd is
opening_closed opening fresh next turn rows same none unjudged longer (Some w) None at event bytes closes is =
    within_next next (turned at event bytes w) (judged_now (Some w) None)
    (longer w None at event bytes closes (begins_lived fresh opening w same none unjudged is))

pub within_closed : (lived next : Lived) (turn : ShownTurn) (rows : Option (Vec HostRow)) → Lengthens turn rows lived next
    → (living judged : Option Living) (at : ℕ) (event : Event) (bytes : List ℕ) → Closes turn rows living
    → Courses (courses.Within lived) living judged
    → Courses (courses.Within next) (option_map (turned at event bytes) living) (judged_now living judged)
within_closed lived next turn rows longer None None at event bytes closes is = absurd is
within_closed lived next turn rows longer None (Some last) at event bytes closes is = absurd is
within_closed lived next turn rows longer (Some w) None at event bytes closes is =
    within_next next (turned at event bytes w) (judged_now (Some w) None) (longer w None at event bytes closes is.holds)
within_closed lived next turn rows longer (Some w) (Some last) at event bytes closes is =
    within_next next (turned at event bytes w) (judged_now (Some w) (Some last)) (longer w (Some last) at event bytes closes is.holds)

-- ---- a life that ends

pub within_said : (lived : Lived) (life : ℕ) (lines : List BasisLine)
    → ((w : Living) (judged : Option Living) → Holds lived w judged → lines ≡ said_of (life_judged life judged))
    → (living judged : Option Living) → Courses (courses.Within lived) living judged → lines ≡ said_of (life_judged life judged)
within_said lived life lines law None None is = absurd is
within_said lived life lines law None (Some last) is = absurd is
within_said lived life lines law (Some w) None is = law w None is.holds
within_said lived life lines law (Some w) (Some last) is = law w (Some last) is.holds

pub all_said : (ended more : List LifeJudged) (lines own all : List BasisLine) → lines ≡ said_of ended → own ≡ said_of more → all ≡ lines ++ own
    → all ≡ said_of (ended ++ more)
all_said ended more lines own all are said is = is ∙ (λ i. are i ++ said i) ∙ sym (flat_map-append lines_of ended more)

-- ---- the turn that goes on

pub closes_so : (turn : ShownTurn) (rows : Option (Vec HostRow)) (going : Going) (living : Option Living) → GoesOn living going
    → entry_shown turn.entry ≡ going.entry → option_map (λ (all : Vec HostRow). all.items) rows ≡ rows_judged going → Closes turn rows living
closes_so turn rows going None goes entry are = tt
closes_so turn rows going (Some w) goes entry are =
    record { entry = entry ∙ ap (λ (g : Going). g.entry) goes; are = are ∙ ap rows_judged goes }

pub next_goes_on : (living : Option Living) (going next : Going) (at : ℕ) (event : Event) (bytes : List ℕ) → GoesOn living going
    → next ≡ record going { entry = record { moment = at; event = event; bytes = bytes; offers = [] }; failed = false }
    → GoesOn (option_map (turned at event bytes) living) next
next_goes_on None going next at event bytes goes is = tt
next_goes_on (Some w) going next at event bytes goes is =
    is ∙ ap (λ (g : Going). record g { entry = record { moment = at; event = event; bytes = bytes; offers = [] }; failed = false }) goes

pub begun_goes_on : (state : Explaining) (begin : Begin) (going : Going) (numbers : List ℕ)
    → going ≡ record { entry = record { moment = begin.at; event = Quiet; bytes = []; offers = [] }; failed = false; numbers = numbers; rows = [] }
    → numbers ≡ map (λ m. m.spec.index.number) (managed_of state.configuration state.ifaces)
    → GoesOn (Some (begun (auditing state) begin)) going
begun_goes_on state begin going numbers is numbers_are =
    is ∙ ap (λ (all : List ℕ). record { entry = first_entry begin; failed = false; numbers = all; rows = [] }) numbers_are

-- ---- which lines follow

-- a line that isn't of these kinds stands within a turn
pub others_follow : (line : ToldLine) → ((spec : IfSpec) → line ≡ told.Interface spec → ⊥) → ((number : ℕ) → line ≡ told.Life number → ⊥)
    → ((begin : Begin) → line ≡ told.Start begin → ⊥)
    → ((at salt : ℕ) (event : Event) (bytes : _) → line ≡ told.Turn at salt event bytes → ⊥)
    → (line ≡ told.EndOfLife → ⊥) → Follows (line_of line)
others_follow (told.Interface spec) spec_not life_not start_not turn_not end_not = absurd (spec_not spec refl)
others_follow (told.Life number) spec_not life_not start_not turn_not end_not = absurd (life_not number refl)
others_follow (told.Start begin) spec_not life_not start_not turn_not end_not = absurd (start_not begin refl)
others_follow (told.Turn at salt event bytes) spec_not life_not start_not turn_not end_not = absurd (turn_not at salt event bytes refl)
others_follow told.EndOfLife spec_not life_not start_not turn_not end_not = absurd (end_not refl)
others_follow (told.Asides names) spec_not life_not start_not turn_not end_not = refl
others_follow told.AsidesFailed spec_not life_not start_not turn_not end_not = refl
others_follow (told.Wrote name bytes done) spec_not life_not start_not turn_not end_not = refl
others_follow (told.Synced name done) spec_not life_not start_not turn_not end_not = refl
others_follow (told.Renamed name done) spec_not life_not start_not turn_not end_not = refl
others_follow (told.Removed name done) spec_not life_not start_not turn_not end_not = refl
others_follow (told.Settled done) spec_not life_not start_not turn_not end_not = refl
others_follow (told.Read name reading) spec_not life_not start_not turn_not end_not = refl
others_follow (told.HookPolled number answer) spec_not life_not start_not turn_not end_not = refl
others_follow (told.HookAbandoned number) spec_not life_not start_not turn_not end_not = refl
others_follow (told.HookDropped number reason name) spec_not life_not start_not turn_not end_not = refl
others_follow (told.HookStarted number reason name done) spec_not life_not start_not turn_not end_not = refl
others_follow (told.Variable name value) spec_not life_not start_not turn_not end_not = refl
others_follow (told.Send iface bytes taken) spec_not life_not start_not turn_not end_not = refl
others_follow (told.HostListed count) spec_not life_not start_not turn_not end_not = refl
others_follow (told.Row row) spec_not life_not start_not turn_not end_not = refl
others_follow told.HostListFailed spec_not life_not start_not turn_not end_not = refl
others_follow (told.HostDel row done) spec_not life_not start_not turn_not end_not = refl
others_follow (told.HostAdd row done) spec_not life_not start_not turn_not end_not = refl
others_follow (told.Until moment) spec_not life_not start_not turn_not end_not = refl
others_follow (told.Hold iface net) spec_not life_not start_not turn_not end_not = refl
