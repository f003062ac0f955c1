-- A line that neither begins nor ends a life or a turn changes the life alone that goes on.
use Rattle.std.proofs.Common.{◌≡◌, ℕ, option_map, refl}
use Rattle.net_types.specs.declared.interface.IfSpec.{IfSpec}
use Rattle.world.specs.declared.wakes.Begin.{Begin}
use Rattle.world.specs.declared.wakes.Event.{Event}
use Rattle.transcript_lines.specs.declared.lines.ToldLine.{ToldLine}
use Rattle.transcript_lines.specs.declared.lines.ToldLine.TheVariants as told
use Rattle.transcript_lines.specs.Contents.{line_of}
use Rattle.audit_turns.specs.AuditModel.Auditing.{Auditing, Judge, after, with_line}

pub other_line : (judge : Judge) (kept : Auditing) (line : ToldLine)
    → ((spec : IfSpec) → line ≡ told.Interface spec → ⊥) → ((number : ℕ) → line ≡ told.Life number → ⊥)
    → ((begin : Begin) → line ≡ told.Start begin → ⊥)
    → ((at salt : ℕ) (event : Event) (bytes : _) → line ≡ told.Turn at salt event bytes → ⊥) → (line ≡ told.EndOfLife → ⊥)
    → record kept { living = option_map (with_line (line_of line)) kept.living } ≡ after judge kept (line_of line)
other_line judge kept (told.Interface spec) spec_not life_not start_not turn_not end_not = absurd (spec_not spec refl)
other_line judge kept (told.Life number) spec_not life_not start_not turn_not end_not = absurd (life_not number refl)
other_line judge kept (told.Start begin) spec_not life_not start_not turn_not end_not = absurd (start_not begin refl)
other_line judge kept (told.Asides names) spec_not life_not start_not turn_not end_not = refl
other_line judge kept told.AsidesFailed spec_not life_not start_not turn_not end_not = refl
other_line judge kept (told.Wrote name bytes done) spec_not life_not start_not turn_not end_not = refl
other_line judge kept (told.Synced name done) spec_not life_not start_not turn_not end_not = refl
other_line judge kept (told.Renamed name done) spec_not life_not start_not turn_not end_not = refl
other_line judge kept (told.Removed name done) spec_not life_not start_not turn_not end_not = refl
other_line judge kept (told.Settled done) spec_not life_not start_not turn_not end_not = refl
other_line judge kept (told.Read name reading) spec_not life_not start_not turn_not end_not = refl
other_line judge kept (told.Turn at salt event bytes) spec_not life_not start_not turn_not end_not = absurd (turn_not at salt event bytes refl)
other_line judge kept (told.HookPolled number answer) spec_not life_not start_not turn_not end_not = refl
other_line judge kept (told.HookAbandoned number) spec_not life_not start_not turn_not end_not = refl
other_line judge kept (told.HookDropped number reason name) spec_not life_not start_not turn_not end_not = refl
other_line judge kept (told.HookStarted number reason name done) spec_not life_not start_not turn_not end_not = refl
other_line judge kept (told.Variable name value) spec_not life_not start_not turn_not end_not = refl
other_line judge kept (told.Send iface bytes taken) spec_not life_not start_not turn_not end_not = refl
other_line judge kept (told.HostListed count) spec_not life_not start_not turn_not end_not = refl
other_line judge kept (told.Row row) spec_not life_not start_not turn_not end_not = refl
other_line judge kept told.HostListFailed spec_not life_not start_not turn_not end_not = refl
other_line judge kept (told.HostDel row done) spec_not life_not start_not turn_not end_not = refl
other_line judge kept (told.HostAdd row done) spec_not life_not start_not turn_not end_not = refl
other_line judge kept (told.Until moment) spec_not life_not start_not turn_not end_not = refl
other_line judge kept (told.Hold iface net) spec_not life_not start_not turn_not end_not = refl
other_line judge kept told.EndOfLife spec_not life_not start_not turn_not end_not = absurd (end_not refl)
