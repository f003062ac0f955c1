-- A walk over interfaces in which those that have something to do have their turn.
use Rattle.std.proofs.Common.{ℕ, zero, suc, ◌≡◌, ◌+◌, ◌-◌, ◌<◌, ◌≤◌, false, List, [], ◌∷◌, ◌++◌, get_or, length, map, set, take, drop, refl, sym, ap, subst, ◌∙◌, arith}
use Rattle.std.specs.Prelude.{flat_map}
use Rattle.std.specs.List.{AllByRecursion}
use Rattle.std.proofs.lemmas.List.{append-nil, get_or-take, length-map, map-set, set-get_or, take_all}
use Rattle.net_types.specs.declared.address.Mac.{Mac}
use Rattle.world.specs.HookCalls.{Job}
use Rattle.world.specs.declared.rows.HostRow.{HostRow}
use Rattle.world.specs.RowOrder.{rows_beyond}
use Rattle.settings.specs.Fitting.{FitsManaged}
use Rattle.client_model.specs.declared.machines.TimedMachine.{TimedMachine}
use Rattle.client_core.specs.declared.named.Named.{Named}
use Rattle.client_core.specs.declared.places.Places.{Places}
use Rattle.client_core.specs.Due.{MachineDues, dues_of, never}
use Rattle.timer_queue.specs.Moments.{has_come}
use Rattle.client_core.specs.Names.{AreNamed}
use Rattle.client_core.specs.Places.{has}
use Rattle.client_core.proofs.Waiting.{Waits, waits_first, waits_last, waits_put, waits_skip}
use Rattle.resolver_text.specs.Parts.{PartContent, parts_content}
use Rattle.host_tables.specs.declared.union.Diff.{Diff}
use Rattle.host_tables.specs.Unions.{Differ, Sums}
use Rattle.client_model.specs.declared.interfaces.Iface.{Iface}
use Rattle.client_model.specs.declared.steps.News.{News}
use Rattle.client_model.specs.Clients.{Sending, sends_of}
use Rattle.client_model.specs.Fitting.{AreIfaces, FitsIface}
use Rattle.client_model.specs.IfaceSteps.{IfaceStep, index_of, news_of, silent}
use Rattle.client_model.specs.IfaceTurns.{Turn, iface_turned}
use Rattle.client_model.specs.Jobs.{jobs_along, jobs_among, told_in}
use Rattle.client_model.specs.Jobs as jobs
use Rattle.client_model.specs.WantedRows.{iface_rows, wanted_rows}
use Rattle.client_model.proofs.SameInterfaces.{turned_same}
use Rattle.iface_core.specs.Outcomes.{Asked, Goes}
use Rattle.client_core.specs.declared.effects.Changes.{Changes}
use Rattle.client_core.specs.declared.effects.Resolver.{Resolver}
use Rattle.client_core.specs.declared.effects.Resolver.TheVariants.{Same}
use Rattle.client_core.specs.declared.kept.Kept.{Kept}
use Rattle.client_core.specs.declared.kept.Renewed.{Renewed}
use Rattle.client_core.specs.declared.turning.Walk.{Walk}
use Rattle.client_core.specs.Leading.{Alters, Leads, LeadsOn}
use Rattle.client_core.specs.Renewing.{HasPlace, IsAt, Renews, Takes}
use Rattle.client_core.specs.Running.{IsRunning}
use Rattle.client_core.specs.Stepping.{GoAll}
use Rattle.client_core.specs.ToldParts.{all_told}
use Rattle.client_core.specs.Touched.{Compares, KeepsShown, KeepsUntouched, LeavesBut, either, may_keep, may_show, noted}
use Rattle.client_core.proofs.AtRest.{IsIdle, at_rest}
use Rattle.client_core.proofs.Going.{turned, turned_fit, part_fits, managed_fits, map_at, as_many, brings_more, rows_at, wanted_same}
use Rattle.client_core.proofs.InPlace.{Gone, as_long, each_of, gone_all, next_of, go_on_more, add_more, set_at}
use Rattle.client_core.proofs.JobsAlong.{jobs_left, jobs_next, jobs_done}
use Rattle.client_core.proofs.ToldLaws.{compares_more, told_before, told_more, told_same, two_a_place}
use Rattle.client_core.proofs.Untouched.{Keeps, leases_stay, shown_stays, untouched_more, untouched_all}

one_of : (zs : List Iface) (n : ℕ) → n < length zs → Iface
one_of [] n lt = absurd (omega arith)
one_of (z ∷ zs) n lt = z

module _ (own : List Mac) (turn : Turn) (xs : List Iface) where
  abbrev step : Iface → IfaceStep
  step = iface_turned own turn

  abbrev go : Iface → Iface
  go = turned own turn

  -- the interfaces before a place have had their turn
  pub record Walked (place : ℕ) (ys : List Iface) (kept : Kept) (walk : Walk) (first asked : Asked) (made all : List Job) : Type 0 where
    pub within : place ≤ length xs
    pub go_on : ys ≡ map (turned own turn) (take place xs) ++ drop place xs
    pub brings : kept.tables ≡ map iface_rows ys
    pub tells : parts_content kept.parts.items ≡ all_told ys
    pub due : Waits place turn.at (map dues_of ys) kept.dues
    pub named : AreNamed (map index_of xs) kept.named
    pub compares : Compares walk.touched.resolver (all_told xs) (all_told ys)
    pub leads : Sums (map iface_rows xs) (map iface_rows ys) walk.rows
    pub offer : asked.sends ≡ first.sends ++ flat_map (λ iface. sends_of (iface_turned own turn iface)) (take place xs)
    pub tell : asked.news ≡ first.news ++ flat_map (λ iface. news_of (iface_turned own turn iface)) (take place xs)
    pub untouched : AllByRecursion (Keeps (turned own turn) walk.touched.ifaces.items) (take place xs)
    pub untold : asked.told ≡ []
    pub jobs : made ++ jobs_left (iface_turned own turn) xs place ≡ all

  abbrev offers : Iface → List Sending
  offers = λ iface. sends_of (iface_turned own turn iface)

  abbrev news : Iface → List News
  news = λ iface. news_of (iface_turned own turn iface)

  -- ---- interfaces that have nothing to do

  module _ (ys : List Iface) (kept : Kept) (walk : Walk) (first asked : Asked) (made all : List Job) where
    abbrev At : ℕ → Type 0
    At place = Walked place ys kept walk first asked made all

    skip_one : (place : ℕ) (d : Iface) → place < length xs → place < 64 → IsIdle turn (get_or xs place d) → At place → At (place + 1)
    skip_one place d lt near idle walked =
        let gone : Gone go xs ys place = record { at = lt; so_far = walked.go_on } in
        let old : Iface = get_or ys place d in
        let next : old ≡ get_or xs place d = next_of go xs ys place d gone in
        let long : length ys ≡ length xs = as_long go xs ys place walked.go_on in
        let there : place < length ys = subst (λ (n : ℕ). place < n) (sym long) lt in
        let rests : step old ≡ silent old =
        subst (λ (one : Iface). step one ≡ silent one) (sym next) (at_rest own turn (get_or xs place d) idle.rests) in
        let is : old ≡ go old = sym (ap (λ (one : IfaceStep). one.iface) rests) in
        record {
          within = omega arith;
          go_on = sym (set-get_or ys place d) ∙ go_on_more go xs ys place d old gone is;
          brings = walked.brings;
          tells = walked.tells;
          due = waits_skip turn.at place (map dues_of ys) kept.dues
              (λ (machine : TimedMachine).
              ap (λ (dues : MachineDues). has_come (dues machine) turn.at)
              (get_or-take 64 (map dues_of ys) place never near ∙ map_at dues_of ys place d never there ∙ ap dues_of next)
              ∙ idle.due machine)
              walked.due;
          named = walked.named;
          compares = walked.compares;
          leads = walked.leads;
          offer = add_more go offers xs ys place d first.sends asked.sends asked.sends gone walked.offer
              (sym (append-nil asked.sends) ∙ ap (λ (one : IfaceStep). asked.sends ++ sends_of one) (sym rests));
          tell = add_more go news xs ys place d first.news asked.news asked.news gone walked.tell
              (sym (append-nil asked.news) ∙ ap (λ (one : IfaceStep). asked.news ++ news_of one) (sym rests));
          untouched =
              untouched_more go
              (λ (iface : Iface). turned_same own turn iface) xs ys place d old false walk.touched.ifaces.items walk.touched.ifaces.items gone is
              (sym (append-nil walk.touched.ifaces.items)) (λ (no : _). record { kept4 = refl; kept6 = refl }) walked.untouched;
          untold = walked.untold;
          jobs = jobs_next step xs place d made made all lt walked.jobs
              (sym (append-nil made)
              ∙ ap (λ (one : IfaceStep). made ++ flat_map (jobs_among (map go (take (place + 1) xs) ++ drop (place + 1) xs)) (told_in one))
              (sym rests ∙ ap step next));
        }

    module _ (places : Places) (near : (place : ℕ) → has places place ≡ false → place < 64)
        (idle : (place : ℕ) (d : Iface) → place < length xs → has places place ≡ false → IsIdle turn (get_or xs place d)) where
      skip_many : (n place : ℕ) → place + n ≤ length xs → ((other : ℕ) → place ≤ other → other < place + n → has places other ≡ false)
          → At place → At (place + n)
      skip_many zero place le none walked = subst At (omega arith) walked
      skip_many (suc n) place le none walked =
          let out : has places place ≡ false = none place (omega arith) (omega arith) in
          let lt : place < length xs = omega arith in
          let d : Iface = one_of xs place lt in
          let same : (place + 1) + n ≡ place + suc n = omega arith in
          subst At same
          (skip_many n (place + 1) (omega arith)
          (λ (other : ℕ) (ge : place + 1 ≤ other) (less : other < (place + 1) + n). none other (omega arith) (omega arith))
          (skip_one place d lt (near place out) (idle place d lt out) walked))

      -- up to the next one that has something to do
      pub skipped : (from to : ℕ) → from ≤ to → to ≤ length xs → ((other : ℕ) → from ≤ other → other < to → has places other ≡ false) → At from → At to
      skipped from to ge le none walked =
          let same : from + (to - from) ≡ to = omega arith in
          subst At same
          (skip_many (to - from) from (subst (λ (n : ℕ). n ≤ length xs) (sym same) le)
          (λ (other : ℕ) (above : from ≤ other) (less : other < from + (to - from)). none other above (subst (λ (n : ℕ). other < n) same less)) walked)

  -- ---- the walk begins

  pub begun : (kept taken : Kept) (places : Places) (walk : Walk) (first : Asked) (made : List Job) → IsRunning xs kept → Takes turn places kept taken
      → walk.touched.ifaces.items ≡ [] → walk.touched.resolver ≡ Same → ((rows : List (List HostRow)) → Sums rows rows walk.rows) → first.told ≡ []
      → Walked 0 xs taken walk first first made (made ++ jobs_along [] xs (map step xs))
  begun kept taken places walk first made running takes none same stays untold = record {
    within = omega arith;
    go_on = refl;
    brings = takes.rows ∙ running.brings;
    tells = takes.told ∙ running.tells;
    due = waits_first turn.at (map dues_of xs) kept.dues taken.dues running.due takes.left;
    named = subst (λ (named : Named). AreNamed (map index_of xs) named) (sym takes.named) running.named;
    compares = subst (λ (r : Resolver). Compares r (all_told xs) (all_told xs)) (sym same) refl;
    leads = stays (map iface_rows xs);
    offer = sym (append-nil first.sends);
    tell = sym (append-nil first.news);
    untouched = tt;
    untold = untold;
    jobs = refl;
  }

  -- ---- one that has its turn

  module _ {place : ℕ} {ys : List Iface} {kept : Kept} {walk : Walk} {first asked : Asked} {made all : List Job}
      (in_place : place < length ys) (walked : Walked place ys kept walk first asked made all) where
    lt : place < length xs
    lt = subst (λ (n : ℕ). place < n) (as_long go xs ys place walked.go_on) in_place

    gone : Gone go xs ys place
    gone = record { at = lt; so_far = walked.go_on }

    pub has_place : HasPlace place kept
    has_place = record {
      rows = subst (λ (n : ℕ). place < n) (sym (as_many ys kept.tables walked.brings)) in_place;
      told = two_a_place ys kept.parts.items place walked.tells in_place;
    }

    pub put_there : (d new : Iface) → get_or (set ys place new) place d ≡ new
    put_there d new = set_at go xs ys place d new gone

    pub fits_before : (d : Iface) → AreIfaces xs → FitsIface (get_or ys place d)
    fits_before d fit = subst FitsIface (sym (next_of go xs ys place d gone)) (each_of FitsIface xs place d lt fit)

    module _ {amid : Asked} (changes : Changes) (d : Iface) {new : Iface} (goes : Goes (step (get_or ys place d)) new asked amid)
        (leaves : LeavesBut changes (get_or ys place d) new) where
      abbrev old : Iface
      old = get_or ys place d

      further : set ys place new ≡ map go (take (place + 1) xs) ++ drop (place + 1) xs
      further = go_on_more go xs ys place d new gone goes.goes_on

      pub fits_after : AreIfaces xs → FitsManaged new.managed
      fits_after fit = managed_fits own turn old new (fits_before d fit) goes.goes_on

      pub all_fit : AreIfaces xs → AreIfaces (set ys place new)
      all_fit fit = subst AreIfaces (sym further) (part_fits own turn xs (place + 1) fit)

      pub is_there : may_show changes ≡ false → IsAt place new kept
      is_there few =
          let shown : KeepsShown old new = shown_stays changes old new leaves few in
          record {
            rows = rows_at ys kept.tables place d walked.brings in_place ∙ sym shown.rows;
            told = told_same ys (parts_content kept.parts.items) place new d walked.tells shown.told;
          }

      pub one_more : {after : Asked} {more : List Job} {renewed : Renewed} {now : Kept} (longer : Walk) → Renews place new renewed kept now
          → longer.touched.ifaces.items ≡ walk.touched.ifaces.items ++ noted (may_keep changes) new.managed.spec.index
          → longer.touched.resolver ≡ either walk.touched.resolver renewed.resolver
          → LeadsOn renewed.rows walk.rows longer.rows
          → more ≡ made ++ flat_map (jobs_among (set ys place new)) amid.told
          → after ≡ record amid { told = [] }
          → Walked (place + 1) (set ys place new) now longer first after more all
      one_more {after} {more} {renewed} {now} longer renews notes compares leads makes untold =
          let tells_now : parts_content now.parts.items ≡ all_told (set ys place new) =
          renews.told ∙ told_more ys (parts_content kept.parts.items) place new walked.tells in
          let brings_now : now.tables ≡ map iface_rows (set ys place new) = brings_more ys kept.tables now.tables place new walked.brings renews.rows in
          let told : amid.told ≡ told_in (step (get_or xs place d)) =
          goes.hooks ∙ ap (λ (before : List jobs.Told). before ++ told_in (step old)) walked.untold
          ∙ ap (λ (one : Iface). told_in (step one)) (next_of go xs ys place d gone) in
          record {
            within = omega (arith, lt);
            go_on = further;
            brings = brings_now;
            tells = tells_now;
            due = subst (λ (dues : List MachineDues). Waits (place + 1) turn.at dues now.dues) (sym (map-set dues_of ys place new))
                (waits_put turn.at place (map dues_of ys) (dues_of new) kept.dues now.dues
                (subst (λ (n : ℕ). place < n) (sym (length-map ys dues_of)) in_place) renews.due walked.due);
            named = subst (λ (named : Named). AreNamed (map index_of xs) named) (sym renews.named) walked.named;
            compares = subst (λ (r : Resolver). Compares r (all_told xs) (all_told (set ys place new))) (sym compares)
                (compares_more walk.touched.resolver renewed.resolver (all_told xs) (all_told ys) (all_told (set ys place new)) walked.compares
                (subst (λ (last : List PartContent). Compares renewed.resolver (all_told ys) last) tells_now
                (subst (λ (before : List PartContent). Compares renewed.resolver before (parts_content now.parts.items)) walked.tells renews.compares))
                (λ same. ap all_told walked.go_on ∙ told_before go xs place (ap all_told (sym further) ∙ same)));
            leads = leads (map iface_rows xs) (map iface_rows ys) (map iface_rows (set ys place new)) walked.leads
                (subst (λ (last : List (List HostRow)). Alters renewed.rows (map iface_rows ys) last) brings_now
                (subst (λ (before : List (List HostRow)). Alters renewed.rows before now.tables) walked.brings renews.alters));
            offer = ap (λ (asked : Asked). asked.sends) untold
                ∙ add_more go offers xs ys place d first.sends asked.sends amid.sends gone walked.offer goes.offers;
            tell = ap (λ (asked : Asked). asked.news) untold
                ∙ add_more go news xs ys place d first.news asked.news amid.news gone walked.tell goes.tells;
            untouched = untouched_more go (λ (iface : Iface). turned_same own turn iface) xs ys place d new (may_keep changes)
                walk.touched.ifaces.items longer.touched.ifaces.items gone goes.goes_on notes
                (λ (no : _). leases_stay changes old new leaves no) walked.untouched;
            untold = ap (λ (asked : Asked). asked.told) untold;
            jobs = jobs_next step xs place d made more all lt walked.jobs
                (makes ∙ ap (λ (all : List jobs.Told). made ++ flat_map (jobs_among (set ys place new)) all) told
                ∙ ap (λ (ifaces : List Iface). made ++ flat_map (jobs_among ifaces) (told_in (step (get_or xs place d)))) further);
          }

  -- ---- the walk is over

  same_indices : (zs : List Iface) → map index_of (map go zs) ≡ map index_of zs
  same_indices [] = refl
  same_indices (z ∷ zs) = λ i. (turned_same own turn z i).spec.index.number ∷ same_indices zs i

  module _ {place : ℕ} {ys : List Iface} {kept : Kept} {walk : Walk} {first asked : Asked} {made all : List Job} (past : length ys ≤ place)
      (walked : Walked place ys kept walk first asked made all) where
    pub over : length xs ≤ place
    over = subst (λ (n : ℕ). n ≤ place) (as_long go xs ys place walked.go_on) past

    seen : take place xs ≡ xs
    seen = take_all place xs over

    all_gone : ys ≡ map go xs
    all_gone = gone_all go xs ys place over walked.go_on

    pub done_goes : GoAll step xs ys first asked
    done_goes = record {
      go_on = all_gone;
      offer = walked.offer ∙ ap (λ (some : List Iface). first.sends ++ flat_map offers some) seen;
      tell = walked.tell ∙ ap (λ (some : List Iface). first.news ++ flat_map news some) seen;
    }

    pub done_running : AreIfaces xs → IsRunning ys kept
    done_running fit = record {
      fit = subst AreIfaces (sym all_gone) (turned_fit own turn xs fit);
      brings = walked.brings;
      tells = walked.tells;
      due = waits_last turn.at place (map dues_of ys) kept.dues (subst (λ (n : ℕ). n ≤ place) (sym (length-map ys dues_of)) past) walked.due;
      named = subst (λ (indices : List ℕ). AreNamed indices kept.named) (sym (ap (map index_of) all_gone ∙ same_indices xs)) walked.named;
    }

    pub done_untouched : KeepsUntouched walk.touched xs ys
    done_untouched =
        subst (λ (new : List Iface). KeepsUntouched walk.touched xs new) (sym all_gone)
        (untouched_all go (λ (iface : Iface). turned_same own turn iface) walk.touched xs
        (subst (λ (some : List Iface). AllByRecursion (Keeps go walk.touched.ifaces.items) some) seen walked.untouched)
        (subst (λ (new : List Iface). Compares walk.touched.resolver (all_told xs) (all_told new)) all_gone walked.compares))

    pub done_jobs : made ≡ all
    done_jobs = jobs_done step xs place made all over walked.jobs

    pub done_leads : (diff : Diff) → ((before after : List (List HostRow)) → Sums before after walk.rows → Differ before after diff)
        → Leads diff (wanted_rows xs) (wanted_rows ys)
    done_leads diff all =
        let differ : Differ (map iface_rows xs) (map iface_rows ys) diff = all (map iface_rows xs) (map iface_rows ys) walked.leads in
        record {
          gone = differ.gone ∙ (λ i. rows_beyond (wanted_same ys i) (wanted_same xs i));
          come = differ.come ∙ (λ i. rows_beyond (wanted_same xs i) (wanted_same ys i));
        }
