-- Interfaces in a run go on, each with its rows.
use Rattle.std.proofs.Common.{ℕ, zero, suc, ◌≡◌, ◌+◌, ◌<◌, List, [], ◌∷◌, ◌++◌, get_or, length, map, set, take, drop, refl, sym, ap, subst, ◌∙◌, arith}
use Rattle.std.proofs.lemmas.List.{length-map, map-append, take_more}
use Rattle.std.proofs.lemmas.List.Folds.{flat_map-map}
use Rattle.net_types.specs.declared.address.Mac.{Mac}
use Rattle.world.specs.declared.rows.HostRow.{HostRow}
use Rattle.settings.specs.Fitting.{FitsManaged}
use Rattle.host_model.specs.Precedence.{unique_rows, wanted_of}
use Rattle.client_model.specs.declared.interfaces.Iface.{Iface}
use Rattle.client_model.specs.IfaceTurns.{Turn, iface_turned}
use Rattle.client_model.proofs.SameInterfaces.{turned_same}
use Rattle.client_model.specs.Fitting.{FitsIface, AreIfaces}
use Rattle.client_model.specs.WantedRows.{iface_rows, wanted_rows}
use Rattle.iface_core.proofs.Staying.{turn_stays, stays_fit}
use Rattle.client_core.specs.declared.kept.Kept.{Kept}
use Rattle.client_core.specs.Running.{IsRunning}

-- an interface after its turn
abbrev pub turned : List Mac → Turn → Iface → Iface
turned own turn iface = (iface_turned own turn iface).iface

pub turned_fit : (own : List Mac) (turn : Turn) (ifaces : List Iface) → AreIfaces ifaces → AreIfaces (map (turned own turn) ifaces)
turned_fit own turn [] fit = tt
turned_fit own turn (iface ∷ ifaces) fit = (stays_fit iface (turned own turn iface) (turn_stays own turn iface) fit.0, turned_fit own turn ifaces fit.1)

-- some after their turn, and the others before it
pub part_fits : (own : List Mac) (turn : Turn) (ifaces : List Iface) (i : ℕ) → AreIfaces ifaces
    → AreIfaces (map (turned own turn) (take i ifaces) ++ drop i ifaces)
part_fits own turn [] zero fit = tt
part_fits own turn [] (suc i) fit = tt
part_fits own turn (iface ∷ ifaces) zero fit = fit
part_fits own turn (iface ∷ ifaces) (suc i) fit = (stays_fit iface (turned own turn iface) (turn_stays own turn iface) fit.0, part_fits own turn ifaces i fit.1)

pub managed_fits : (own : List Mac) (turn : Turn) (old new : Iface) → FitsIface old → new ≡ turned own turn old → FitsManaged new.managed
managed_fits own turn old new fit goes = subst FitsManaged (sym (ap (λ (iface : Iface). iface.managed) goes ∙ turned_same own turn old)) fit.managed

-- the rows that all want
pub wanted_same : (ifaces : List Iface) → wanted_of (map iface_rows ifaces) ≡ wanted_rows ifaces
wanted_same ifaces = ap unique_rows (flat_map-map (λ (rows : List HostRow). rows) iface_rows ifaces)

pub wanted_here : (ifaces : List Iface) (kept : Kept) → IsRunning ifaces kept → wanted_of kept.tables ≡ wanted_rows ifaces
wanted_here ifaces kept running = ap wanted_of running.brings ∙ wanted_same ifaces

-- ---- one of them in its place

pub map_at : {X Y : Type 0} (f : X → Y) (xs : List X) (i : ℕ) (d : X) (e : Y) → i < length xs → get_or (map f xs) i e ≡ f (get_or xs i d)
map_at f [] i d e lt = absurd (omega arith)
map_at f (x ∷ xs) zero d e lt = refl
map_at f (x ∷ xs) (suc i) d e lt = map_at f xs i d e (omega arith)

map_set : {X Y : Type 0} (f : X → Y) (xs : List X) (i : ℕ) (x : X) → map f (set xs i x) ≡ set (map f xs) i (f x)
map_set f [] i x = refl
map_set f (y ∷ xs) zero x = refl
map_set f (y ∷ xs) (suc i) x = ap (λ zs. f y ∷ zs) (map_set f xs i x)

-- the rows at a place are those of the interface there
pub rows_at : (ifaces : List Iface) (tables : List (List HostRow)) (place : ℕ) (d : Iface) → tables ≡ map iface_rows ifaces → place < length ifaces
    → get_or tables place [] ≡ iface_rows (get_or ifaces place d)
rows_at ifaces tables place d brings lt = ap (λ (all : List (List HostRow)). get_or all place []) brings ∙ map_at iface_rows ifaces place d [] lt

pub as_many : (ifaces : List Iface) (tables : List (List HostRow)) → tables ≡ map iface_rows ifaces → length tables ≡ length ifaces
as_many ifaces tables brings = ap length brings ∙ length-map ifaces iface_rows

pub brings_more : (ifaces : List Iface) (tables more : List (List HostRow)) (place : ℕ) (new : Iface) → tables ≡ map iface_rows ifaces
    → more ≡ set tables place (iface_rows new) → more ≡ map iface_rows (set ifaces place new)
brings_more ifaces tables more place new brings changes =
    changes ∙ ap (λ (all : List (List HostRow)). set all place (iface_rows new)) brings ∙ sym (map_set iface_rows ifaces place new)

-- a further place
pub place_more : (ifaces : List Iface) (i : ℕ) (d : Iface) (tables more : List (List HostRow)) (rows : List HostRow) → i < length ifaces
    → tables ≡ map iface_rows (take i ifaces) → more ≡ tables ++ rows ∷ [] → rows ≡ iface_rows (get_or ifaces i d) → more ≡ map iface_rows (take (i + 1) ifaces)
place_more ifaces i d tables more rows lt so_far grows brings =
    grows ∙ ap (λ (all : List (List HostRow)). all ++ rows ∷ []) so_far ∙ ap (λ (r : List HostRow). map iface_rows (take i ifaces) ++ r ∷ []) brings
    ∙ sym (map-append iface_rows (take i ifaces) (get_or ifaces i d ∷ [])) ∙ ap (map iface_rows) (sym (take_more ifaces i d lt))
