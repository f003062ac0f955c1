-- What a host and a store that tell what they hold, held in a life with a configuration over these interfaces.
use Rattle.std.specs.Prelude.{flat_map}
use Rattle.std.proofs.Common.{◌≡◌, ℕ, List, [], ◌++◌, Option, Some, None, Ok, sym, subst, append-nil}
use Rattle.net_types.specs.declared.interface.IfSpec.{IfSpec}
use Rattle.world.specs.HostCalls.{HostTold}
use Rattle.world.specs.StoreCalls.{StoreTold}
use Rattle.world.specs.StoreFails.{StoreFails}
use Rattle.settings.specs.declared.interfaces.Managed.{Managed}
use Rattle.script_model.specs.Scripts.{FitInterfaces}
use Rattle.file_choices.specs.StoreWalks.{Answered}
use Rattle.device_calls.specs.Calls.{Call, host_call, store_call}
use Rattle.device_calls.specs.HostWalks.{HostAnswered}
use Rattle.device_calls.specs.Worlds.{Device, Seen}
use Rattle.turn_model.specs.Lives.{OpeningMet, IsOpening, Met, AreTurns}
use Rattle.conf_text.specs.Configurations.{Configuration, IsConfOf}
use Rattle.conf_text.specs.Settings.{managed_of}
use Rattle.daemon.specs.declared.serving.ServeEnd.{ServeEnd}
use Rattle.daemon.specs.Cuts.{CutOpening, CutLife, cut_turns}
use Rattle.daemon.specs.Served.{Begun, Served}
use Rattle.device_calls.specs.Telling.{Tells}
use Rattle.device_evidence.proofs.LifeParts.{turns_first}
use Rattle.device_evidence.specs.Stretches.{all_calls}
use Rattle.device_evidence.proofs.Filing.{stores_hold}
use Rattle.device_evidence.proofs.Holding.{hosts_hold}
use Rattle.replayed_lives.proofs.FilesRightly.{apart}
use Rattle.replayed_lives.proofs.TextWorks.ManagedApart.{managed_numbered}
use Rattle.replayed_lives.proofs.TextWorks.Refusals.{in_force}
use Rattle.replayed_lives.proofs.TextWorks.SharesApart.{shared_with_others}
use Rattle.dhcpcd.specs.HeldThrough.{HostHeldThrough, FilesHeldThrough, HeldInCut, HeldUntilCut}

module _ (text : List ℕ) (conf : Configuration) (is : IsConfOf text (Ok conf)) (specs : List IfSpec) (fits : FitInterfaces specs) where
  abbrev managed : List Managed
  managed = managed_of conf specs

  host_so : (opening : OpeningMet) (mets : List Met) (end : List Call) (old new : Option HostTold) → IsOpening managed specs opening
      → AreTurns managed opening.life mets → HostAnswered (flat_map host_call (all_calls opening mets end)) old new
      → HostHeldThrough managed specs opening mets end old new
  host_so opening mets end None new opens turns answered = answered
  host_so opening mets end (Some first) new opens turns (last, ends, goes) =
      let all = in_force text conf is specs fits in
      λ sorted. (
        last,
        ends,
        hosts_hold managed specs opening mets end first last all.fit all.shares (shared_with_others conf specs fits.counted)
            (managed_numbered conf specs fits.counted) (apart text conf is specs fits) opens turns sorted goes,
      )

  files_so : (opening : OpeningMet) (mets : List Met) (end : List Call) (failing : Option StoreFails) (old new : Option StoreTold)
      → IsOpening managed specs opening → AreTurns managed opening.life mets → Answered failing (flat_map store_call (all_calls opening mets end)) old new
      → FilesHeldThrough managed opening mets end failing old new
  files_so opening mets end failing None new opens turns answered = answered
  files_so opening mets end failing (Some first) new opens turns (last, ends, goes) =
      λ sorted. (last, ends, stores_hold managed specs failing opening mets end first last (apart text conf is specs fits) opens turns sorted goes)

  -- what the devices told when the life was begun is what they told before
  module _ (old new : Seen) (begun : Begun old) (opening : OpeningMet) (mets : List Met) (end : List Call) (opens : IsOpening managed specs opening)
      (turns : AreTurns managed opening.life mets) (tells : Tells begun.seen new (all_calls opening mets end)) where
    host_through : HostHeldThrough managed specs opening mets end old.host.told new.host.told
    host_through =
        host_so opening mets end old.host.told new.host.told opens turns
        (subst (λ (h : Device HostTold (List ℕ)). HostAnswered (flat_map host_call (all_calls opening mets end)) h.told new.host.told)
        begun.begins.only.host tells.table)

    files_through : FilesHeldThrough managed opening mets end old.store.failing old.store.told new.store.told
    files_through =
        files_so opening mets end old.store.failing old.store.told new.store.told opens turns
        (subst (λ (s : Device StoreTold StoreFails). Answered s.failing (flat_map store_call (all_calls opening mets end)) s.told new.store.told)
        begun.begins.only.store tells.answers)

    held_through : HeldInCut managed specs old new opening mets end
    held_through = record { host = host_through; kept = files_through }

  module _ (allowed : ℕ) (old new : Seen) (out_from out_to : Option (List ℕ)) where
    pub host_held : (served : Served allowed managed specs old new out_from out_to)
        → HostHeldThrough managed specs served.opening served.mets served.last old.host.told new.host.told
    host_held served = host_through old new served.begun served.opening served.mets served.last served.opens served.turns served.tells

    pub files_held : (served : Served allowed managed specs old new out_from out_to)
        → FilesHeldThrough managed served.opening served.mets served.last old.store.failing old.store.told new.store.told
    files_held served = files_through old new served.begun served.opening served.mets served.last served.opens served.turns served.tells

    in_opening : (end : ServeEnd) (cut : CutOpening end managed specs old new out_from out_to)
        → HeldInCut managed specs old new cut.opening [] []
    in_opening end cut =
        held_through old new cut.begun cut.opening [] [] cut.opens tt
        (subst (λ (calls : List Call). Tells cut.begun.seen new calls) (sym (append-nil cut.opening.calls)) cut.tells)

    in_life : (end : ServeEnd) (cut : CutLife end allowed managed specs old new out_from out_to)
        → HeldInCut managed specs old new cut.opening cut.mets cut.calls
    in_life end cut =
        held_through old new cut.begun cut.opening cut.mets cut.calls cut.opens
        (turns_first managed cut.opening.life cut.mets (cut_turns cut.at) cut.turns) cut.tells

    pub held_until_cut : (end : ServeEnd) → HeldUntilCut end allowed managed specs old new out_from out_to
    held_until_cut end = record { in_opening = in_opening end; in_life = in_life end }
