-- The host's addresses are wanted ones, and what is wanted has its basis.
use Rattle.std.proofs.Common.{◌≡◌, ℕ, zero, suc, Bool, true, false, ◌&&◌, List, [], ◌∷◌, ◌++◌, take, refl, sym, ap, subst, ◌∙◌, lit<}
use Rattle.std.specs.List.{AllByRecursion}
use Rattle.net_types.specs.Marks.{AreBytes}
use Rattle.net_types.specs.declared.interface.IfSpec.{IfSpec}
use Rattle.world.specs.declared.rows.HostRow.TheVariants.{Addr}
use Rattle.world.specs.LinkCalls.{Given, frame_len}
use Rattle.world.specs.RowOrder.{has_row}
use Rattle.settings.specs.declared.interfaces.Managed.{Managed}
use Rattle.settings.specs.Fitting.{AreManaged}
use Rattle.settings.specs.ManagedRows.{is_managed}
use Rattle.host_model.specs.HostTable.{managed_rows}
use Rattle.host_model.proofs.HostTableRows.{has_filter}
use Rattle.client_model.specs.Clients.{rows_of}
use Rattle.device_calls.specs.Worlds.{World}
use Rattle.device_calls.proofs.Running.{run_makes}
use Rattle.evidence_words.specs.TurnModel.FilesInLife.{AreNamedApart}
use Rattle.evidence_words.specs.TurnModel.Turns.{Life, until, turn_asks}
use Rattle.evidence_words.specs.TurnModel.Opening.{opening_asks}
use Rattle.evidence_words.specs.TurnModel.Lives.{IsOpening, life_after}
use Rattle.evidence_words.specs.TurnModel.Foretold.{told_wake, told_bytes, woken, opening_of}
use Rattle.evidence_words.specs.TurnModel.HostInLife.{Running, running_opened, running_turned, running_after, life_run}
use Rattle.evidence_words.proofs.TurnModel.HostInLifeTurns.{opening_holds, turn_in_life}
use Rattle.evidence.specs.Laws.{AreOctets, AreNumbered, AreMade, AreSharedWithOthers}
use Rattle.evidence.specs.HeldAddresses.{mets_of, RestOnEvidence, OpeningRests, TurnsRest}
use Rattle.evidence.proofs.Based.{AreBased, ItemsAreBased, have_basis}
use Rattle.evidence_words.proofs.Carrying.{Relation}

cut_octets : (len : ℕ) (bytes : List ℕ) → AreBytes bytes → AreBytes (take len bytes)
cut_octets zero bytes octets i = lit< tt
cut_octets (suc len) [] octets i = octets i
cut_octets (suc len) (byte ∷ bytes) octets zero = octets zero
cut_octets (suc len) (byte ∷ bytes) octets (suc i) = cut_octets len bytes (λ k. octets (suc k)) i

module _ (managed : List Managed) where
  pub are_made : (turns : List Given) (running : Running) → AreMade managed running.life (mets_of managed running turns)
  are_made [] running = tt
  are_made (given ∷ coming) running = (
    run_makes (turn_asks managed running.life (told_wake given) (told_bytes given))
        (woken (until running.life) (told_wake given) (told_bytes given) running.world),
    are_made coming (running_turned managed running given),
  )

  pub is_opening : (specs : List IfSpec) (world : World) → IsOpening managed specs (opening_of managed specs world)
  is_opening specs world = run_makes (opening_asks managed specs world.link.told.begin) world

  life_met : (turns : List Given) (running : Running)
      → (running_after managed turns running).life ≡ life_after running.life (mets_of managed running turns)
  life_met [] running = refl
  life_met (given ∷ coming) running = life_met coming (running_turned managed running given)

  one_more : (turns : List Given) (running : Running) (given : Given)
      → running_after managed (turns ++ given ∷ []) running ≡ running_turned managed (running_after managed turns running) given
  one_more [] running given = refl
  one_more (first ∷ turns) running given = one_more turns (running_turned managed running first) given

  -- a frame that is cut has octets too
  mets_octets : (turns : List Given) (running : Running) → AllByRecursion (λ (g : Given). AreBytes g.bytes) turns → AreOctets (mets_of managed running turns)
  mets_octets [] running octets = tt
  mets_octets (given ∷ coming) running octets =
      (cut_octets (frame_len (told_wake given).event) given.bytes octets.0, mets_octets coming (running_turned managed running given) octets.1)

-- ---- the host's rows

module _ (Carries : Relation) (leases : AreBased Carries) (items : ItemsAreBased) (managed : List Managed) where
  both : (a b : Bool) → a ≡ true → b ≡ true → (a && b) ≡ true
  both true b p q = q
  both false b p q = cc

  rest : (specs : List IfSpec) (world : World) (turns : List Given) (after : Running) → AreManaged managed → AreSharedWithOthers managed → AreNumbered managed
      → AreNamedApart managed
      → AllByRecursion (λ (g : Given). AreBytes g.bytes) turns
      → running_after managed turns (running_opened managed specs world) ≡ after
      → managed_rows managed after.world.host.told.rows ≡ rows_of after.life.client
      → RestOnEvidence managed specs (opening_of managed specs world) (mets_of managed (running_opened managed specs world) turns) after.world.host.told.rows
  rest specs world turns after fit others numbered named octets reached as_wanted index net on_managed has =
      let first : Running = running_opened managed specs world in
      let held : has_row (managed_rows managed after.world.host.told.rows) (Addr index net) ≡ true =
      has_filter (is_managed managed) after.world.host.told.rows (Addr index net) ∙ both _ _ on_managed has in
      let wanted : has_row (rows_of after.life.client) (Addr index net) ≡ true =
      subst (λ rows. has_row rows (Addr index net) ≡ true) as_wanted held in
      let same : after.life ≡ life_after first.life (mets_of managed first turns) =
      sym (ap (λ (running : Running). running.life) reached) ∙ life_met managed turns first in
      have_basis Carries leases items managed specs (opening_of managed specs world) (mets_of managed first turns)
      (record { numbered = numbered; named = named; opens = is_opening managed specs world; turns = are_made managed turns first }) fit others
      (mets_octets managed turns first octets) index net
      (subst (λ (life : Life). has_row (rows_of life.client) (Addr index net) ≡ true) same wanted)

pub opening_rests : (Carries : Relation) → AreBased Carries → ItemsAreBased → OpeningRests
opening_rests Carries leases items managed specs world fit shares others numbered named in_order none =
    rest Carries leases items managed specs world [] (running_opened managed specs world) fit others numbered named tt refl
    (opening_holds managed specs world shares in_order none).as_wanted

pub turns_rest : (Carries : Relation) → AreBased Carries → ItemsAreBased → TurnsRest
turns_rest Carries leases items managed specs world earlier given fit shares others numbered named octets in_order none =
    rest Carries leases items managed specs world (earlier ++ given ∷ [])
    (running_turned managed (life_run managed specs world earlier) given) fit others numbered named octets
    (one_more managed earlier (running_opened managed specs world) given)
    (turn_in_life managed specs world shares in_order earlier given none).as_wanted
