-- After the opening of a life and after each of its turns, what the lines show is justified.
use Rattle.std.proofs.Common.{◌≡◌, ◌<◌, ◌^◌, ℕ, Bool, true, false, ◌||◌, if◌then◌else◌, List, [], ◌∷◌, ◌++◌, map, flat_map, Some, None, refl, sym, ap, subst, ◌∙◌, append_assoc, arith}
use Rattle.std.specs.List.{AllByRecursion}
use Rattle.net_types.specs.Marks.{AreBytes}
use Rattle.net_types.specs.declared.address.Mac.{Mac}
use Rattle.net_types.specs.declared.address.Net.{Net}
use Rattle.net_types.specs.declared.interface.IfIndex.{IfIndex}
use Rattle.net_types.specs.declared.interface.IfSpec.{IfSpec}
use Rattle.machine.specs.Moment.{moment_of}
use Rattle.world.specs.declared.rows.HostRow.{HostRow}
use Rattle.world.specs.declared.rows.HostRow.TheVariants.{Addr}
use Rattle.world.specs.LinkCalls.{Given}
use Rattle.world.specs.RowOrder.{has_row}
use Rattle.settings.specs.declared.interfaces.Managed.{Managed}
use Rattle.settings.specs.Fitting.{AreManaged}
use Rattle.settings.specs.ManagedRows.{SharesAreManaged}
use Rattle.script_model.specs.Lines.{Line}
use Rattle.host_model.specs.HostTable.{InRowOrder, NoneFails}
use Rattle.client_model.specs.Clients.{rows_of}
use Rattle.device_calls.specs.Worlds.{Ran, World}
use Rattle.turn_model.specs.FilesInLife.{AreNamedApart}
use Rattle.turn_model.specs.Foretold.{met_of, opening_of, ran_opening, ran_turn, told_bytes, told_turns, told_wake, woken}
use Rattle.turn_model.specs.HostInLife.{Running, life_run, running_after, running_opened, running_turned, table_of}
use Rattle.turn_model.specs.Lives.{Met, OpeningMet, hold_lines, life_after}
use Rattle.turn_model.specs.Opening.{opening_asks, opening_step}
use Rattle.turn_model.specs.Turns.{Life, is_end, is_over, step_of, turn_asks, until}
use Rattle.turn_model.proofs.Acting.{opening_acts, ran_loading, turn_acts}
use Rattle.turn_model.proofs.HostInLifeTurns.{Sound, lived_sound}
use Rattle.evidence.specs.HeldAddresses.{RestOnEvidence, mets_of}
use Rattle.evidence.specs.Laws.{AreNumbered, AreSharedWithOthers, site_of}
use Rattle.evidence.proofs.HostRests.{is_opening, opening_rests, turns_rest}
use Rattle.evidence.proofs.Items.{items_have_basis}
use Rattle.evidence.proofs.Leasing.{leases_based}
use Rattle.lease6_judge.proofs.LeaseEvidence.Joining.{LeaseRelation}
use Rattle.evidence_words.specs.Entries.{Entry, entry_of, shown_after, shown_of}
use Rattle.evidence_words.specs.Inputs.{Site}
use Rattle.evidence_words.proofs.Made.{opening_shows}
use Rattle.transcript_model.specs.Told.{TurnTold}
use Rattle.audit_model.specs.Showing as showing
use Rattle.audit_model.specs.Showing.{Shown, read_in_line, shown_at_first, shown_next, site_by}
use Rattle.audit_model.specs.Verdicts.{IsJust, IsShown}
use Rattle.audit_model.specs.LivesTold.{has_failed, life_lived, only_last, turn_lived, turns_lived}
use Rattle.audit_model.proofs.CallsTold.{TellNothing, entries_of, entry_same, first_same, last_tells, lines_tell, lives_told_so}
use Rattle.life_audit.specs.Laws.{HeldBasis, LinesRestOnEvidence, ShowsJustly, meets_all, meets_told}
use Rattle.life_audit.proofs.HostShown.{HostShows, shows_host}

one_more : (managed : List Managed) (turns : List Given) (running : Running) (given : Given)
    → running_after managed (turns ++ given ∷ []) running ≡ running_turned managed (running_after managed turns running) given
one_more managed [] running given = refl
one_more managed (first ∷ turns) running given = one_more managed turns (running_turned managed running first) given

mets_more : (managed : List Managed) (turns : List Given) (running : Running) (given : Given)
    → mets_of managed running (turns ++ given ∷ [])
    ≡ mets_of managed running turns
    ++ met_of given (ran_turn managed (running_after managed turns running).life (running_after managed turns running).world given) ∷ []
mets_more managed [] running given = refl
mets_more managed (first ∷ turns) running given =
    ap (λ mets. met_of first (ran_turn managed running.life running.world first) ∷ mets)
    (mets_more managed turns (running_turned managed running first) given)

shown_more : (past : List Entry) (mets : List Met) (met : Met) → shown_after past (mets ++ met ∷ []) ≡ entry_of met ∷ shown_after past mets
shown_more past [] met = refl
shown_more past (first ∷ mets) met = shown_more (entry_of first ∷ past) mets met

bytes_front : (front back : List Given) → AllByRecursion (λ (g : Given). AreBytes g.bytes) (front ++ back)
    → AllByRecursion (λ (g : Given). AreBytes g.bytes) front
bytes_front [] back all = tt
bytes_front (given ∷ front) back all = (all.0, bytes_front front back all.1)

begins_so : (at now : ℕ) → at < 10 ^ 15 → now ≡ moment_of at → now ≡ at
begins_so at now early is = omega (arith, early, is)

no_turns : {X : Type 0} {x : X} {xs : List X} → [] ≡ x ∷ xs → ⊥
no_turns e = cc

same_head : {X : Type 0} {a b : X} {more others : List X} → a ∷ more ≡ b ∷ others → a ≡ b
same_head e = cc

same_tail : {X : Type 0} {a b : X} {more others : List X} → a ∷ more ≡ b ∷ others → more ≡ others
same_tail e = cc

none_known : (rows others shown : List HostRow) → None ≡ Some rows → others ≡ shown
none_known rows others shown e = absurd cc

module _ (managed : List Managed) (specs : List IfSpec) (world : World) (fit : AreManaged managed) (shares : SharesAreManaged managed)
    (others : AreSharedWithOthers managed) (numbered : AreNumbered managed) (named : AreNamedApart managed) (order : InRowOrder world.host.told.rows)
    (sites : Managed → Site) (same_sites : site_of managed specs (opening_of managed specs world) ≡ sites) where
  abbrev opening : OpeningMet
  opening = opening_of managed specs world

  abbrev began : Running
  began = running_opened managed specs world

  abbrev lived : List Given → Running
  lived turns = life_run managed specs world turns

  abbrev entries_then : List Given → List Entry
  entries_then turns = shown_of opening (mets_of managed began turns)

  abbrev Justly : Shown → Type 0
  Justly shown = IsJust HeldBasis managed sites shown

  -- what is known after some turns of what their lines show
  record At (turns : List Given) (running : Running) (shown : Shown) : Type 0 where
    entries : entries_of shown ≡ entries_then turns
    known : (rows : List HostRow) → running.life.known ≡ Some rows → shown.rows ≡ running.world.host.told.rows
    just : Justly shown

  -- what rests on evidence is justified
  justified : (turns : List Given) (rows : List HostRow) (shown : Shown) → entries_of shown ≡ entries_then turns
      → RestOnEvidence managed specs opening (mets_of managed began turns) rows → shown.rows ≡ rows
      → (index : IfIndex) (net : Net) → IsShown managed shown (Addr index net) → HeldBasis managed sites (entries_of shown) index net
  justified turns rows shown entries rest same index net is =
      let has : has_row rows (Addr index net) ≡ true = subst (λ rs. has_row rs (Addr index net) ≡ true) same is.has in
      subst (λ past. HeldBasis managed sites past index net) (sym entries)
      (subst (λ (known : Managed → Site). HeldBasis managed known (entries_then turns) index net) same_sites (rest index net is.managed_row has))

  -- ---- a turn more

  turn_more : (turns : List Given) (given : Given) (shown : Shown) (closing : List Line) → TellNothing closing
      → AllByRecursion (λ (g : Given). AreBytes g.bytes) (turns ++ given ∷ []) → At turns (lived turns) shown
      → At (turns ++ given ∷ []) (running_turned managed (lived turns) given)
      (shown_next shown (turn_lived (met_of given (ran_turn managed (lived turns).life (lived turns).world given)) closing))
  turn_more turns given shown closing nothing octets at =
      let running : Running = lived turns in
      let ran : Ran Life = ran_turn managed running.life running.world given in
      let met : Met = met_of given ran in
      let tells = lines_tell met.calls met.life closing nothing in
      let sound : Sound managed world.host.failing running = lived_sound managed specs world shares order turns in
      let waking : World = woken (until running.life) (told_wake given) (told_bytes given) running.world in
      let host : HostShows managed running.life.known running.world.host shown.rows ran =
      shows_host managed running.life.known (step_of running.life (told_wake given) (told_bytes given)).client
      (turn_asks managed running.life (told_wake given) (told_bytes given)) waking shown.rows sound.table.in_order
      (turn_acts managed running.life (told_wake given) (told_bytes given) waking) at.known in
      let entries : entries_of (shown_next shown (turn_lived met closing)) ≡ entries_then (turns ++ given ∷ []) =
      ap (λ e. e ∷ entries_of shown) (entry_same met closing nothing) ∙ ap (λ past. entry_of met ∷ past) at.entries
      ∙ sym (ap (λ mets. shown_of opening mets) (mets_more managed turns began given) ∙ shown_more (shown_of opening []) (mets_of managed began turns) met) in
      let rows = tells.rows_are shown.rows in
      record {
        entries = entries;
        known = λ known found. rows ∙ host.while_known known found;
        just = λ judged.
            let done : has_failed ran.calls ≡ false = sym tells.failed_is ∙ judged in
            justified (turns ++ given ∷ []) ran.world.host.told.rows (shown_next shown (turn_lived met closing)) entries
            (turns_rest LeaseRelation leases_based items_have_basis managed specs world turns given fit shares others numbered named octets order
            (subst (λ (failing : List ℕ). NoneFails managed failing (rows_of ran.result.client) (table_of running)) sound.fails (host.none_fails done)))
            (rows ∙ host.unless_failed done);
      }

  -- ---- the opening

  at_first : (coming : List Given) → world.link.told.begin.at < 10 ^ 15
      → At [] began (shown_at_first (life_lived opening (mets_of managed began coming)))
  at_first coming early =
      let begin = world.link.told.begin in
      let mets : List Met = mets_of managed began coming in
      let held : List HostRow = rows_of (life_after opening.life mets).client in
      let tells = lines_tell opening.calls opening.life (only_last mets (hold_lines held)) (last_tells mets held) in
      let host : HostShows managed None world.host [] (ran_opening managed specs world) =
      shows_host managed None (opening_step managed (ran_loading managed specs begin world).result specs begin).client
      (opening_asks managed specs begin) world [] order (opening_acts managed specs begin world) (λ rows e. none_known rows [] world.host.told.rows e) in
      let begins : opening.life.now ≡ opening.begin.at =
      begins_so begin.at opening.life.now early (opening_shows managed specs begin opening.calls opening.life (is_opening managed specs world)).shown.now in
      let entries : entries_of (shown_at_first (life_lived opening mets)) ≡ entries_then [] = ap (λ e. e ∷ []) (first_same opening mets begins) in
      let rows = tells.rows_are [] in
      record {
        entries = entries;
        known = λ known found. rows ∙ host.while_known known found;
        just = λ judged.
            let done : has_failed opening.calls ≡ false = sym tells.failed_is ∙ judged in
            justified [] began.world.host.told.rows (shown_at_first (life_lived opening mets)) entries
            (opening_rests LeaseRelation leases_based items_have_basis managed specs world fit shares others numbered named order (host.none_fails done))
            (rows ∙ host.unless_failed done);
      }

  -- ---- all turns

  fronts_just : (held : List HostRow) (coming turns : List Given) (shown : Shown) → At turns (lived turns) shown
      → AllByRecursion (λ (g : Given). AreBytes g.bytes) (turns ++ coming) → (front rest : List TurnTold)
      → turns_lived (mets_of managed (lived turns) coming) (hold_lines held) ≡ front ++ rest → Justly (showing.shown_after shown front)
  fronts_just held coming turns shown at octets [] rest split = at.just
  fronts_just held [] turns shown at octets (turn ∷ front) rest split = absurd (no_turns split)
  fronts_just held (given ∷ coming) turns shown at octets (turn ∷ front) rest split =
      let more : List Given = turns ++ given ∷ [] in
      let running : Running = lived turns in
      let met : Met = met_of given (ran_turn managed running.life running.world given) in
      let later : List Met = mets_of managed (running_turned managed running given) coming in
      let closing : List Line = only_last later (hold_lines held) in
      let all : AllByRecursion (λ (g : Given). AreBytes g.bytes) (more ++ coming) =
      subst (λ gs. AllByRecursion (λ (g : Given). AreBytes g.bytes) gs) (sym (append_assoc turns (given ∷ []) coming)) octets in
      let next : At more (lived more) (shown_next shown (turn_lived met closing)) =
      subst (λ r. At more r (shown_next shown (turn_lived met closing))) (sym (one_more managed turns began given))
      (turn_more turns given shown closing (last_tells later held) (bytes_front more coming all) at) in
      subst (λ t. Justly (showing.shown_after (shown_next shown t) front)) (same_head split)
      (fronts_just held coming more (shown_next shown (turn_lived met closing)) next all front rest
      (ap (λ r. turns_lived (mets_of managed r coming) (hold_lines held)) (one_more managed turns began given) ∙ same_tail split))

pub lines_rest : LinesRestOnEvidence HeldBasis meets_all
lines_rest managed specs world coming fit shares others numbered named octets order early front rest split =
    let opening : OpeningMet = opening_of managed specs world in
    let mets : List Met = mets_of managed (running_opened managed specs world) coming in
    let own : List Mac = map (λ (spec : IfSpec). spec.mac) specs in
    let told = lives_told_so opening mets in
    let sites : Managed → Site = λ m. site_by managed own opening.begin.up (flat_map read_in_line (life_lived opening mets).opening) m in
    let same : site_of managed specs opening ≡ sites = λ i. λ m. sym (told.sites managed own m) i in
    fronts_just managed specs world fit shares others numbered named order sites same (rows_of (life_after opening.life mets).client) coming []
    (shown_at_first (life_lived opening mets)) (at_first managed specs world fit shares others numbered named order sites same coming early) octets front rest
    split

-- ---- up to the end of the life

-- the turns that a life handles
abbrev handled : List Managed → Running → List Given → List Given
handled managed running [] = []
handled managed running (given ∷ coming) =
    if is_over running.life || is_end given.wake.event then [] else given ∷ handled managed (running_turned managed running given) coming

handled_met : (managed : List Managed) (running : Running) (coming : List Given)
    → told_turns managed running.life running.world coming ≡ mets_of managed running (handled managed running coming)
handled_met managed running [] = refl
handled_met managed running (given ∷ coming) =
    which (is_over running.life || is_end given.wake.event) (handled_met managed (running_turned managed running given) coming)
  where
    which : (ends : Bool) → told_turns managed (running_turned managed running given).life (running_turned managed running given).world coming
        ≡ mets_of managed (running_turned managed running given) (handled managed (running_turned managed running given) coming)
        → (if ends then [] else met_of given (ran_turn managed running.life running.world given)
        ∷ told_turns managed (running_turned managed running given).life (running_turned managed running given).world coming)
        ≡ mets_of managed running (if ends then [] else given ∷ handled managed (running_turned managed running given) coming)
    which true same = refl
    which false same = ap (λ mets. met_of given (ran_turn managed running.life running.world given) ∷ mets) same

handled_bytes : (managed : List Managed) (running : Running) (coming : List Given) → AllByRecursion (λ (g : Given). AreBytes g.bytes) coming
    → AllByRecursion (λ (g : Given). AreBytes g.bytes) (handled managed running coming)
handled_bytes managed running [] all = tt
handled_bytes managed running (given ∷ coming) all =
    which (is_over running.life || is_end given.wake.event) (handled_bytes managed (running_turned managed running given) coming all.1)
  where
    which : (ends : Bool) → AllByRecursion (λ (g : Given). AreBytes g.bytes) (handled managed (running_turned managed running given) coming)
        → AllByRecursion (λ (g : Given). AreBytes g.bytes) (if ends then [] else given ∷ handled managed (running_turned managed running given) coming)
    which true later = tt
    which false later = (all.0, later)

pub told_lines_rest : LinesRestOnEvidence HeldBasis meets_told
told_lines_rest managed specs world coming fit shares others numbered named octets order early =
    let began : Running = running_opened managed specs world in
    subst (λ mets. ShowsJustly HeldBasis managed specs (opening_of managed specs world) mets) (sym (handled_met managed began coming))
    (lines_rest managed specs world (handled managed began coming) fit shares others numbered named (handled_bytes managed began coming octets) order early)
