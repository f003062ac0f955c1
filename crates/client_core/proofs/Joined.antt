-- The steps of all interfaces make the client's.
use Rattle.std.proofs.Common.{ℕ, ◌≡◌, ◌≤◌, ◌*◌, ◌++◌, List, [], ◌∷◌, map, length, refl, sym, ap, subst, ◌∙◌}
use Rattle.std.specs.Prelude.{flat_map}
use Rattle.std.specs.List.{AllByRecursion}
use Rattle.std.specs.Global.{Vec}
use Rattle.std.specs.Vec.{with_items}
use Rattle.std.proofs.lemmas.List.{with_items_is, length-map, map-append}
use Rattle.std.proofs.lemmas.List.Folds.{flat_map-map}
use Rattle.std.proofs.lemmas.Simd.{map-map}
use Rattle.net_types.specs.declared.address.Mac.{Mac}
use Rattle.client_model.specs.declared.interfaces.Iface.{Iface}
use Rattle.client_model.specs.IfaceSteps.{Report, IfaceStep, news_of}
use Rattle.client_model.specs.IfaceTurns.{Turn, iface_turned}
use Rattle.client_model.specs.Jobs.{jobs_along}
use Rattle.world.specs.HookCalls.{Job}
use Rattle.client_model.specs.Clients.{Client, Sending, sends_of, joined, client_turned}
use Rattle.client_model.specs.Fitting.{AreIfaces}
use Rattle.client_model.specs.WantedRows.{wanted_rows}
use Rattle.host_tables.specs.declared.union.Diff.{Diff}
use Rattle.iface_core.specs.Outcomes.{Asked}
use Rattle.client_core.specs.declared.effects.Touched.{Touched}
use Rattle.client_core.specs.Leading.{Leads}
use Rattle.client_core.specs.Resting.{busy_in}
use Rattle.client_core.specs.Stepping.{GoAll, Steps, IsOnInterface}
use Rattle.client_core.specs.Touched.{KeepsUntouched}
use Rattle.client_core.proofs.Fit.{steps_on}

abbrev nothing : Asked
nothing = record { sends = []; news = []; told = [] }

news_apart : (steps : List IfaceStep) → map (λ (report : Report). report.news) (flat_map (λ (step : IfaceStep). step.reports) steps) ≡ flat_map news_of steps
news_apart [] = refl
news_apart (step ∷ steps) =
    map-append (λ (report : Report). report.news) step.reports (flat_map (λ (s : IfaceStep). s.reports) steps)
    ∙ ap (λ more. news_of step ++ more) (news_apart steps)

pub joined_steps : {X : Type 0} (step : X → IfaceStep) (xs : List X) (own : List Mac) (old ifaces : List Iface) (before after : Asked)
    → before ≡ nothing → GoAll step xs ifaces before after → Steps (joined own old (map step xs)) (record { own = own; ifaces = ifaces }) after
joined_steps step xs own old ifaces before after none all = record {
  goes_on = ap (λ (is : List Iface). record { own = own; ifaces = is }) (all.go_on ∙ sym (map-map (λ (s : IfaceStep). s.iface) step xs));
  offers = all.offer ∙ ap (λ (a : Asked). a.sends ++ flat_map (λ x. sends_of (step x)) xs) none ∙ sym (flat_map-map sends_of step xs);
  tells =
      all.tell ∙ ap (λ (a : Asked). a.news ++ flat_map (λ x. news_of (step x)) xs) none ∙ sym (flat_map-map news_of step xs) ∙ sym (news_apart (map step xs));
}

pub joined_on : {X : Type 0} (step : X → IfaceStep) (xs : List X) (ifaces : List Iface) (before after : Asked)
    → before ≡ nothing → GoAll step xs ifaces before after → AreIfaces ifaces → AllByRecursion IsOnInterface after.sends
joined_on step xs ifaces before after none all fit =
    subst (λ (sends : List Sending). AllByRecursion IsOnInterface sends)
    (sym (all.offer ∙ ap (λ (a : Asked). a.sends ++ flat_map (λ x. sends_of (step x)) xs) none))
    (steps_on step xs (subst AreIfaces all.go_on fit))

-- the interfaces once each has gone on in its place
pub placed : (own : List Mac) (turn : Turn) (before : Vec Iface) (old new : List Iface) (asked asking : Asked)
    → GoAll (iface_turned own turn) old new asked asking → old ≡ before.items → (with_items before new).items ≡ new
placed own turn before old new asked asking all same =
    with_items_is before new
    (ap length all.go_on ∙ length-map old (λ iface. (iface_turned own turn iface).iface) ∙ ap length same ∙ sym before.ok.0)

pub in_place : (own : List Mac) (turn : Turn) (before : Vec Iface) (old new : List Iface) (asked asking : Asked)
    → GoAll (iface_turned own turn) old new asked asking → old ≡ before.items
    → GoAll (iface_turned own turn) before.items (with_items before new).items asked asking
in_place own turn before old new asked asking all same =
    subst (λ (ys : List Iface). GoAll (iface_turned own turn) before.items ys asked asking) (sym (placed own turn before old new asked asking all same))
    (subst (λ (xs : List Iface). GoAll (iface_turned own turn) xs new asked asking) same all)

pub untouched_in_place : (core : Client) (own : List Mac) (turn : Turn) (touched : Touched) (before : Vec Iface) (old new : List Iface) (asked asking : Asked)
    → before.items ≡ core.ifaces → GoAll (iface_turned own turn) old new asked asking → old ≡ before.items
    → KeepsUntouched touched old new → KeepsUntouched touched core.ifaces (with_items before new).items
untouched_in_place core own turn touched before old new asked asking view all same kept =
    subst (λ (ys : List Iface). KeepsUntouched touched core.ifaces ys) (sym (placed own turn before old new asked asking all same))
    (subst (λ (xs : List Iface). KeepsUntouched touched xs new) (same ∙ view) kept)

pub leads_in_place : (core : Client) (own : List Mac) (turn : Turn) (rows : Diff) (before : Vec Iface) (old new : List Iface) (asked asking : Asked)
    → before.items ≡ core.ifaces → GoAll (iface_turned own turn) old new asked asking → old ≡ before.items
    → Leads rows (wanted_rows old) (wanted_rows new) → Leads rows (wanted_rows core.ifaces) (wanted_rows (with_items before new).items)
leads_in_place core own turn rows before old new asked asking view all same leads =
    subst (λ (ys : List Iface). Leads rows (wanted_rows core.ifaces) (wanted_rows ys)) (sym (placed own turn before old new asked asking all same))
    (subst (λ (xs : List Iface). Leads rows (wanted_rows xs) (wanted_rows new)) (same ∙ view) leads)

-- six questions of each that has something to do
pub looks_in_place : (core : Client) (turn : Turn) (before : Vec Iface) (old : List Iface) (turns looks : ℕ) → before.items ≡ core.ifaces
    → old ≡ before.items → (length old ≤ 64 → looks ≡ 6 * turns) → (length old ≤ 64 → turns ≡ busy_in turn old)
    → length core.ifaces ≤ 64 → looks ≡ 6 * busy_in turn core.ifaces
looks_in_place core turn before old turns looks view same six had few =
    let there : length old ≤ 64 = subst (λ (xs : List Iface). length xs ≤ 64) (sym (same ∙ view)) few in
    six there ∙ ap (λ (n : ℕ). 6 * n) (had there ∙ ap (busy_in turn) (same ∙ view))

-- the jobs of a turn are those of its interfaces
pub turned_jobs : (core : Client) (own : List Mac) (turn : Turn) (ifaces : List Iface) (jobs before : List Job) → record { own = own; ifaces = ifaces } ≡ core
    → before ≡ [] → jobs ≡ before ++ jobs_along [] ifaces (map (iface_turned own turn) ifaces) → jobs ≡ (client_turned turn core).jobs
turned_jobs core own turn ifaces jobs before view none made =
    made ∙ ap (λ (first : List Job). first ++ jobs_along [] ifaces (map (iface_turned own turn) ifaces)) none
    ∙ ap (λ (client : Client). (client_turned turn client).jobs) view

pub turned_steps : (core : Client) (own : List Mac) (turn : Turn) (old new : List Iface) (before after : Asked) → record { own = own; ifaces = old } ≡ core
    → before ≡ nothing → GoAll (iface_turned own turn) old new before after → Steps (client_turned turn core) (record { own = own; ifaces = new }) after
turned_steps core own turn old new before after view none all =
    subst (λ (client : Client). Steps (client_turned turn client) (record { own = own; ifaces = new }) after) view
    (joined_steps (iface_turned own turn) old own old new before after none all)
