-- What goes on of a life changes with each line as the life does.
use Rattle.std.proofs.Common.{Bool, true, false, ◌||◌, ℕ, List, [], ◌∷◌, ◌≡◌, Option, Some, None, refl, sym, ap, ◌∙◌, map, option_map}
use Rattle.std.specs.Prelude.{◌==◌, if◌then◌else◌}
use Rattle.std.specs.List.{list_any}
use Rattle.world.specs.declared.rows.HostRow.{HostRow}
use Rattle.world.specs.declared.rows.HostRow.TheVariants.{Addr, Route}
use Rattle.world.specs.RowOrder.{with_row}
use Rattle.audit_words.specs.IfaceSettings.declared.interfaces.Managed.{Managed}
use Rattle.script_model.specs.Lines.{Line}
use Rattle.script_model.specs.Lines as lines
use Rattle.audit_model.specs.Auditing.{Living, is_judged, with_line}
use Rattle.audit_turns.specs.Goings.{Going, GoesOn, going_in, going_told, is_among, is_read}

any_mapped : {X Y : Type 0} (test : Y → Bool) (view : X → Y) (xs : List X) → list_any test (map view xs) ≡ list_any (λ x. test (view x)) xs
any_mapped test view [] = refl
any_mapped test view (x ∷ xs) = ap (λ (b : Bool). test (view x) || b) (any_mapped test view xs)

judged_among : (managed : List Managed) (row : HostRow) → is_judged managed row ≡ is_among (map (λ m. m.spec.index.number) managed) row
judged_among managed (Addr index net) = sym (any_mapped (λ number. number == index.number) (λ (m : Managed). m.spec.index.number) managed)
judged_among managed (Route iface dest via metric) = refl

-- with a row that is shown
row_put : (living : Living) (row : HostRow)
    → going_in (with_line (lines.Row row) living) ≡ going_told (lines.Row row) (going_in living)
row_put living row =
    ap (λ (b : Bool). record (going_in living) { rows = if b then with_row row living.rows else living.rows }) (judged_among living.managed row)

pub line_goes : (line : Line) (living : Living) → going_in (with_line line living) ≡ going_told line (going_in living)
line_goes lines.Head living = refl
line_goes (lines.Conf text) living = refl
line_goes (lines.Notice line word) living = refl
line_goes (lines.Interface spec) living = refl
line_goes (lines.Life number) living = refl
line_goes (lines.Start begin) living = refl
line_goes (lines.Asides names) living = refl
line_goes lines.AsidesFailed living = refl
line_goes (lines.Wrote name bytes done) living = refl
line_goes (lines.Synced name done) living = refl
line_goes (lines.Renamed name done) living = refl
line_goes (lines.Removed name done) living = refl
line_goes (lines.Settled done) living = refl
line_goes (lines.Read name reading) living = refl
line_goes (lines.Turn at salt event bytes) living = refl
line_goes (lines.HookPolled number answer) living = refl
line_goes (lines.HookAbandoned number) living = refl
line_goes (lines.HookDropped number reason name) living = refl
line_goes (lines.HookStarted number reason name done) living = refl
line_goes (lines.Variable name value) living = refl
line_goes (lines.Send iface bytes taken) living = refl
line_goes (lines.HostListed count) living = refl
line_goes (lines.Row row) living = row_put living row
line_goes lines.HostListFailed living = refl
line_goes (lines.HostDel row true) living = refl
line_goes (lines.HostDel row false) living = refl
line_goes (lines.HostAdd row true) living = row_put living row
line_goes (lines.HostAdd row false) living = refl
line_goes (lines.Until moment) living = refl
line_goes (lines.Hold iface net) living = refl
line_goes lines.EndOfLife living = refl

-- so of the life that goes on, where there is one
pub line_goes_on : (line : Line) (living : Option Living) (going next : Going)
    → GoesOn living going → next ≡ going_told line going → GoesOn (option_map (with_line line) living) next
line_goes_on line None going next goes is = tt
line_goes_on line (Some living) going next goes is = is ∙ ap (going_told line) goes ∙ sym (line_goes line living)
