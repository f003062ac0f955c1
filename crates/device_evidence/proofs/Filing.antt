-- A store over a whole life.
use Rattle.std.proofs.Common.{◌≡◌, ℕ, true, List, [], ◌∷◌, ◌++◌, Option, None, refl, sym, ap, subst, ◌∙◌}
use Rattle.std.specs.List.{AllByRecursion}
use Rattle.net_types.specs.declared.interface.IfSpec.{IfSpec}
use Rattle.machine.specs.Moment.{moment_of}
use Rattle.world.specs.declared.wakes.Begin.{Begin}
use Rattle.world.specs.declared.wakes.Wake.{Wake}
use Rattle.world.specs.FileLists.{StoreFile, file_name}
use Rattle.world.specs.NamedLists.{InNameOrder}
use Rattle.world.specs.StoreCalls.{StoreCall, StoreTold}
use Rattle.world.specs.StoreFails.{StoreFails}
use Rattle.file_choices.specs.StoreWalks.{Goes}
use Rattle.settings.specs.declared.interfaces.Managed.{Managed}
use Rattle.client_model.specs.Clients.{Client, ClientStep, rows_of}
use Rattle.device_calls.specs.Calls.{Call, store_call}
use Rattle.device_calls.specs.Programs.{Makes}
use Rattle.device_calls.proofs.Programs.{makes_both}
use Rattle.turn_model.specs.FilesInLife.{AreNamedApart, filed_by, all_done}
use Rattle.turn_model.specs.Hooking.{hooking, polling}
use Rattle.turn_model.specs.KeptFiles.{KeptFile}
use Rattle.turn_model.specs.Lives.{OpeningMet, IsOpening, Met, AreTurns, life_after, turn_calls, turns_calls}
use Rattle.turn_model.specs.Loading.{loading_files, duid_with, files_of}
use Rattle.turn_model.specs.Opening.{outlook_from, opening_step, opening_asks}
use Rattle.turn_model.specs.Turns.{Life, Outlook, offering, hosting, turn_moment, stop_after, step_of, outlook_with, turn_asks}
use Rattle.turn_model.proofs.Asking.{LinkAsks, HostAsks, HookAsks, offering_only, hosting_only, hooking_only, polling_only}
use Rattle.turn_model.proofs.Bringing.{done_parts}
use Rattle.turn_model.proofs.FileNames.{AreApart, are_apart}
use Rattle.turn_model.proofs.Keeping.{all_filed, AreKnown, IsKept}
use Rattle.device_evidence.specs.Stretches.{all_calls, at_opening, at_turn}
use Rattle.device_evidence.specs.FilesHeld.{StoreWent, FilesHeld, FilesHeldInLife, StoresHold}
use Rattle.device_evidence.proofs.Parts.{parts_of, Quiet, none_made, first_quiet, StepMade, step_made, turn_parts, opened_step, opening_parts}
use Rattle.device_evidence.proofs.LifeParts.{turns_first, turns_later, at_turn_calls}
use Rattle.device_evidence.proofs.FilesGoing.{FilesGo, files_go, files_split, goes_split, goes_more, all_in_order}
use Rattle.device_evidence.proofs.Bringing.{store_part, AllKept, all_kept}
use Rattle.device_evidence.proofs.FileReading.{FilesRead, files_read}

-- ---- questions that aren't for the store

quiet_link : LinkAsks (Quiet store_call)
quiet_link = record { offer = λ iface frame answer. refl }

quiet_host : HostAsks (Quiet store_call)
quiet_host = record { list = λ answer. refl; change = λ change answer. refl }

quiet_hooks : HookAsks (Quiet store_call)
quiet_hooks = record {
  start = λ job answer. refl;
  poll = λ number answer. refl;
  abandon = λ number answer. refl;
  drop = λ job answer. refl;
}

-- ---- a step

-- the files of a life, as they stand in a store
pub record Stands (managed : List Managed) (files : List KeptFile) (store : List StoreFile) : Type 0 where
  pub order : InNameOrder file_name store
  pub duid : List ℕ
  pub filed : all_filed files ≡ filed_by duid managed
  pub known : AreKnown store files

pub record StepKept (managed : List Managed) (life : Life) (calls : List Call) (new : List StoreFile) : Type 0 where
  pub stands : Stands managed life.files new
  pub kept : all_done calls ≡ true → AllByRecursion (IsKept life.client.ifaces new) life.files

-- calls before these
more_before : (managed : List Managed) (life : Life) (a b : List Call) (new : List StoreFile) → StepKept managed life b new
    → StepKept managed life (a ++ b) new
more_before managed life a b new it = record { stands = it.stands; kept = λ e. it.kept (done_parts a b e).1 }

module _ (managed : List Managed) (apart : AreNamedApart managed) where
  module _ (outlook : Outlook) (step : ClientStep) (calls : List Call) (life : Life) (it : StepMade managed outlook step calls life) where
    own_calls : store_part calls ≡ store_part it.store
    own_calls =
        first_quiet store_call calls it.sends (it.host ++ (it.hooks ++ it.store)) it.calls_are
        (none_made store_call (offering step.sends 0) (offering_only (Quiet store_call) quiet_link step.sends 0) it.sends it.unsent it.makes_sends)
        ∙ first_quiet store_call (it.host ++ (it.hooks ++ it.store)) it.host (it.hooks ++ it.store) refl
        (none_made store_call (hosting managed (rows_of step.client) outlook.known)
        (hosting_only (Quiet store_call) quiet_host managed (rows_of step.client) outlook.known) it.host life.known it.makes_host)
        ∙ first_quiet store_call (it.hooks ++ it.store) it.hooks it.store refl
        (none_made store_call (hooking it.moment step.jobs outlook.hooks) (hooking_only (Quiet store_call) quiet_hooks it.moment step.jobs outlook.hooks)
        it.hooks it.supervision it.makes_hooks)

    step_kept : (old new : List StoreFile) → Stands managed outlook.files old → FilesGo (store_part calls) old new → StepKept managed life calls new
    step_kept old new before goes =
        let kept : AllKept step.client.ifaces outlook.files old new life.files it.store =
        all_kept step.client.ifaces outlook.files it.store life.files old new (subst AreApart (sym before.filed) (are_apart before.duid managed apart))
        before.order before.known it.makes_store (subst (λ (cs : List StoreCall). FilesGo cs old new) own_calls goes) in
        record {
          stands = record { order = kept.order; duid = before.duid; filed = kept.filed ∙ before.filed; known = kept.known };
          kept = λ e.
              let later : all_done (it.hooks ++ it.store) ≡ true =
              (done_parts it.host (it.hooks ++ it.store)
              (done_parts it.sends (it.host ++ (it.hooks ++ it.store)) (ap all_done (sym it.calls_are) ∙ e)).1).1 in
              subst (λ (c : Client). AllByRecursion (IsKept c.ifaces new) life.files) (sym it.client_is)
              (kept.kept (done_parts it.hooks it.store later).1);
        }

  -- ---- a turn, and an opening

  turn_kept : (from : Life) (wake : Wake) (bytes : List ℕ) (calls : List Call) (life : Life) (old new : List StoreFile)
      → Makes (turn_asks managed from wake bytes) calls life → Stands managed from.files old → FilesGo (store_part calls) old new
      → StepKept managed life calls new
  turn_kept from wake bytes calls life old new makes before goes =
      let parts = turn_parts managed from wake bytes calls life makes in
      let own : store_part calls ≡ store_part parts.later =
      first_quiet store_call calls parts.first parts.later parts.calls_are
      (none_made store_call (polling (turn_moment from wake) from.hooks)
      (polling_only (Quiet store_call) quiet_hooks (turn_moment from wake) from.hooks) parts.first parts.between parts.makes_first) in
      subst (λ (cs : List Call). StepKept managed life cs new) (sym parts.calls_are)
      (more_before managed life parts.first parts.later new
      (step_kept (outlook_with from parts.between) (step_of from wake bytes) parts.later life
      (step_made managed (outlook_with from parts.between) (step_of from wake bytes) (turn_moment from wake)
      (stop_after from.stop wake.event (turn_moment from wake)) parts.later life parts.makes_later) old new before
      (subst (λ (cs : List StoreCall). FilesGo cs old new) own goes)))

  opening_kept : (specs : List IfSpec) (begin : Begin) (calls : List Call) (life : Life) (old new : List StoreFile)
      → Makes (opening_asks managed specs begin) calls life → InNameOrder file_name old → FilesGo (store_part calls) old new
      → StepKept managed life calls new
  opening_kept specs begin calls life old new makes order goes =
      let cleared = opening_parts managed specs begin calls life makes in
      let read = makes_both (loading_files managed) (λ files. opened_step managed specs begin files) cleared.later life cleared.makes_later in
      let first = files_split (store_part cleared.first) (store_part cleared.later) old new
      (subst (λ (cs : List StoreCall). FilesGo cs old new) (ap store_part cleared.calls_are ∙ parts_of store_call cleared.first cleared.later) goes) in
      let then_read = files_split (store_part read.first) (store_part read.later) first.mid new
      (subst (λ (cs : List StoreCall). FilesGo cs first.mid new) (ap store_part read.calls_are ∙ parts_of store_call read.first read.later) first.later) in
      let files : FilesRead (filed_by (duid_with managed read.between) managed) first.mid (files_of managed read.between) then_read.mid =
      files_read managed read.first read.between first.mid then_read.mid read.makes_first then_read.first in
      let before : Stands managed (files_of managed read.between) then_read.mid = record {
        order = subst (InNameOrder file_name) (sym files.same) (all_in_order (store_part cleared.first) old first.mid first.first order);
        duid = duid_with managed read.between;
        filed = files.filed;
        known = subst (λ (s : List StoreFile). AreKnown s (files_of managed read.between)) (sym files.same) files.known;
      } in
      subst (λ (cs : List Call). StepKept managed life cs new) (sym cleared.calls_are)
      (more_before managed life cleared.first cleared.later new
      (subst (λ (cs : List Call). StepKept managed life cs new) (sym read.calls_are)
      (more_before managed life read.first read.later new
      (step_kept (outlook_from managed read.between) (opening_step managed read.between specs begin) read.later life
      (step_made managed (outlook_from managed read.between) (opening_step managed read.between specs begin) (moment_of begin.at) None read.later life
      read.makes_later) then_read.mid new before then_read.later))))

  -- ---- a life

  module _ (failing : Option StoreFails) where
    -- what the store told between some calls and more
    record WentBoth (a b : List Call) (old new : StoreTold) : Type 0 where
      mid : StoreTold
      first : StoreWent failing a old mid
      later : StoreWent failing b mid new

    went_both : (a b : List Call) (old new : StoreTold) → StoreWent failing (a ++ b) old new → WentBoth a b old new
    went_both a b old new goes =
        let parts = goes_split failing (store_part a) (store_part b) old new
        (subst (λ (cs : List StoreCall). Goes failing cs old new) (parts_of store_call a b) goes) in
        record { mid = parts.mid; first = parts.first; later = parts.later }

    went_more : (a b : List Call) (old mid new : StoreTold) → StoreWent failing a old mid → StoreWent failing b mid new → StoreWent failing (a ++ b) old new
    went_more a b old mid new p q =
        subst (λ (cs : List StoreCall). Goes failing cs old new) (sym (parts_of store_call a b))
        (goes_more failing (store_part a) (store_part b) old mid new p q)

    files_went : (calls : List Call) (old new : StoreTold) → StoreWent failing calls old new → FilesGo (store_part calls) old.files new.files
    files_went calls old new goes = files_go failing (store_part calls) old new goes

    turns_stand : (from : Life) (mets : List Met) (old new : StoreTold) → AreTurns managed from mets → Stands managed from.files old.files
        → StoreWent failing (turns_calls from mets) old new → Stands managed (life_after from mets).files new.files
    turns_stand from [] old new turns stands goes = subst (λ (told : StoreTold). Stands managed from.files told.files) (sym goes) stands
    turns_stand from (met ∷ mets) old new turns stands goes =
        let parts = went_both (turn_calls from met) (turns_calls met.life mets) old new goes in
        let here = turn_kept from met.wake met.bytes met.calls met.life old.files parts.mid.files turns.0.makes stands
        (files_went met.calls old parts.mid parts.first) in
        turns_stand met.life mets parts.mid new turns.1 here.stands parts.later

    module _ (specs : List IfSpec) (opening : OpeningMet) (mets : List Met) (end : List Call) (first last : StoreTold)
        (opens : IsOpening managed specs opening) (turns : AreTurns managed opening.life mets) (order : InNameOrder file_name first.files)
        (goes : StoreWent failing (all_calls opening mets end) first last) where
      begun : WentBoth opening.calls (turns_calls opening.life mets ++ end) first last
      begun = went_both opening.calls (turns_calls opening.life mets ++ end) first last goes

      opened : StepKept managed opening.life opening.calls begun.mid.files
      opened =
          opening_kept specs opening.begin opening.calls opening.life first.files begun.mid.files opens order
          (files_went opening.calls first begun.mid begun.first)

      held_opened : FilesHeld managed failing opening.life (at_opening opening mets end) first last
      held_opened = record {
        told = begun.mid;
        went = begun.first;
        goes_on = begun.later;
        duid = opened.stands.duid;
        filed = opened.stands.filed;
        known = opened.stands.known;
        kept = opened.kept;
      }

      module _ (earlier : List Met) (met : Met) (later : List Met) (split : mets ≡ earlier ++ met ∷ later) where
        all_turns : AreTurns managed opening.life (earlier ++ met ∷ later)
        all_turns = subst (AreTurns managed opening.life) split turns

        own_turns : AreTurns managed (life_after opening.life earlier) (met ∷ later)
        own_turns = turns_later managed opening.life earlier (met ∷ later) all_turns

        before : WentBoth (turns_calls opening.life earlier) (turn_calls (life_after opening.life earlier) met ++ (turns_calls met.life later ++ end))
            begun.mid last
        before =
            went_both (turns_calls opening.life earlier) (turn_calls (life_after opening.life earlier) met ++ (turns_calls met.life later ++ end)) begun.mid
            last
            (subst (λ (cs : List Call). StoreWent failing cs begun.mid last) (at_turn_calls opening.life mets earlier met later end split) begun.later)

        own : WentBoth (turn_calls (life_after opening.life earlier) met) (turns_calls met.life later ++ end) before.mid last
        own = went_both (turn_calls (life_after opening.life earlier) met) (turns_calls met.life later ++ end) before.mid last before.later

        stood : Stands managed (life_after opening.life earlier).files before.mid.files
        stood =
            turns_stand opening.life earlier begun.mid before.mid (turns_first managed opening.life earlier (met ∷ later) all_turns) opened.stands
            before.first

        turned : StepKept managed met.life met.calls own.mid.files
        turned =
            turn_kept (life_after opening.life earlier) met.wake met.bytes met.calls met.life before.mid.files own.mid.files own_turns.0.makes stood
            (files_went met.calls before.mid own.mid own.first)

        held_turned : FilesHeld managed failing met.life (at_turn opening earlier met later end) first last
        held_turned = record {
          told = own.mid;
          went =
              went_more (opening.calls ++ turns_calls opening.life earlier) (turn_calls (life_after opening.life earlier) met) first before.mid own.mid
              (went_more opening.calls (turns_calls opening.life earlier) first begun.mid before.mid begun.first before.first) own.first;
          goes_on = own.later;
          duid = turned.stands.duid;
          filed = turned.stands.filed;
          known = turned.stands.known;
          kept = turned.kept;
        }

      pub held : FilesHeldInLife managed failing opening mets end first last
      held = record { opened = held_opened; turned = held_turned }

pub stores_hold : StoresHold
stores_hold managed specs failing opening mets end first last apart opens turns order goes =
    held managed apart failing specs opening mets end first last opens turns order goes
