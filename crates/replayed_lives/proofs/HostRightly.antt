-- The host holds what it shall, in one life and in those of a script.
use Rattle.net_types.specs.declared.interface.IfSpec.{IfSpec}
use Rattle.std.proofs.Common.{ℕ, suc, Ok, ◌≡◌, ◌+◌, ◌<◌, List, [], ◌∷◌, ◌++◌, length, take, refl, sym, ap, subst, ◌∙◌, arith}
use Rattle.std.specs.List.{AllByRecursion}
use Rattle.std.proofs.lemmas.List.Elements.{recursion_from_All}
use Rattle.net_types.proofs.AllLaws.{all_map}
use Rattle.net_types.specs.Marks.{AreBytes}
use Rattle.world.specs.declared.wakes.Event.{Event}
use Rattle.world.specs.declared.wakes.Event.TheVariants.{Frame, Carrier, Duplicate, Release, Rebind, Stop, Quiet, End}
use Rattle.settings.specs.Fitting.{AreManaged}
use Rattle.settings.specs.ManagedRows.{SharesAreManaged}
use Rattle.std.proofs.Math.Seq.{take-append_seam}
use Rattle.std.proofs.lemmas.List.{length-append}
use Rattle.world.specs.LinkCalls.{Given}
use Rattle.settings.specs.declared.interfaces.Managed.{Managed}
use Rattle.script_model.specs.ScriptTexts.{ScriptLines, LifeScript}
use Rattle.script_model.specs.Scripts.{FitInterfaces, FitsScript, FitsBytes, FitsGiven, FitsLife}
use Rattle.turn_model.specs.Lives.{Met}
use Rattle.device_calls.specs.Worlds.{World}
use Rattle.device_calls.proofs.Running.{run_coming, run_makes}
use Rattle.turn_model.specs.Opening.{opening_asks}
use Rattle.turn_model.specs.Foretold.{opening_of, foretold_life, told_turns}
use Rattle.turn_model.specs.HostInLife.{Running, running_opened, running_turned, running_after}
use Rattle.host_model.specs.HostTable.{InRowOrder}
use Rattle.host_model.proofs.HostTableRows.{in_order_sorted}
use Rattle.turn_model.proofs.HostInLifeTurns.{opening_holds, turn_in_life}
use Rattle.conf_text.specs.Configurations.{Configuration, IsConfOf}
use Rattle.conf_text.specs.Settings.{managed_of}
use Rattle.text_works.specs.Evidence.Laws.{AreNumbered, AreSharedWithOthers}
use Rattle.text_works.specs.Evidence.HeldAddresses.{mets_of, RestOnEvidence}
use Rattle.text_works.proofs.LeaseEvidence.Joining.{LeaseRelation}
use Rattle.text_works.proofs.Evidence.Items.{items_have_basis}
use Rattle.text_works.proofs.Evidence.Leasing.{leases_based}
use Rattle.text_works.proofs.Evidence.HostRests.{opening_rests, turns_rest}
use Rattle.text_works.proofs.Evidence.Starts.{opening_starts, plain_opening_starts}
use Rattle.text_works.proofs.Evidence.Foretold.{foretold}
use Rattle.text_works.specs.SpelledScripts.{IsScript, configuration_text, managed_in}
use Rattle.replayed_lives.specs.Replays.{failing_in, at_first, Failing, Between, world_in, after_life}
use Rattle.turn_model.specs.FilesInLife.{AreNamedApart}
use Rattle.replayed_lives.proofs.FilesRightly.{apart}
use Rattle.replayed_lives.proofs.LifeLeft.{left_in_order}
use Rattle.text_works.proofs.ManagedApart.{managed_numbered}
use Rattle.text_works.proofs.SharesApart.{shared_with_others}
use Rattle.text_works.proofs.Refusals.{spelled_fits, in_force, ifaces_fit}
use Rattle.replayed_lives.specs.Sound.{BringsBytes}
use Rattle.replayed_lives.specs.HostHeld.{lived_on, IsTurn, HoldsRightly, AllHoldRightly}

-- ---- what came in is octets

no_bytes : AreBytes []
no_bytes i = omega arith

none_came : (bytes : List ℕ) → bytes ≡ [] → AreBytes bytes
none_came bytes none = subst AreBytes (sym none) no_bytes

came_octets : (event : Event) (bytes : List ℕ) → FitsBytes event bytes → AreBytes bytes
came_octets (Frame iface len) bytes fits = fits.octets
came_octets (Carrier iface up) bytes none = none_came bytes none
came_octets (Duplicate iface addr) bytes none = none_came bytes none
came_octets (Release iface) bytes none = none_came bytes none
came_octets (Rebind iface) bytes none = none_came bytes none
came_octets Stop bytes none = none_came bytes none
came_octets Quiet bytes none = none_came bytes none
came_octets End bytes none = none_came bytes none

given_octets : (count : ℕ) (given : Given) → FitsGiven count given → BringsBytes given
given_octets count given fits = came_octets given.wake.event given.bytes fits.bytes

-- of a turn and those before it
up_to : (earlier : List Given) (given : Given) (coming : List Given) → AllByRecursion BringsBytes (earlier ++ given ∷ coming)
    → AllByRecursion BringsBytes (earlier ++ given ∷ [])
up_to [] given coming h = (h.0, tt)
up_to (g ∷ earlier) given coming h = (h.0, up_to earlier given coming h.1)

pub life_octets : (count : ℕ) (life : LifeScript) → FitsLife count life → AllByRecursion BringsBytes life.turns
life_octets count life fits =
    all_map (FitsGiven count) BringsBytes (given_octets count) life.turns (recursion_from_All (FitsGiven count) life.turns fits.turns)

-- ---- a life with a configuration over these interfaces

module _ (text : List ℕ) (conf : Configuration) (is : IsConfOf text (Ok conf)) (specs : List IfSpec) (fits : FitInterfaces specs) where
  abbrev managed : List Managed
  managed = managed_of conf specs

  numbered : AreNumbered managed
  numbered = managed_numbered conf specs fits.counted

  others : AreSharedWithOthers managed
  others = shared_with_others conf specs fits.counted

  fit : AreManaged managed
  fit = let all = in_force text conf is specs fits in all.fit

  -- their files have unlike names
  named : AreNamedApart managed
  named = apart text conf is specs fits

  pub shares : SharesAreManaged managed
  shares = let all = in_force text conf is specs fits in all.shares

  module _ (world : World) (sorted : InRowOrder world.host.told.rows) (octets : AllByRecursion BringsBytes world.link.told.coming) where
    abbrev begun : Running
    begun = running_opened managed specs world

    abbrev all_mets : List Met
    all_mets = (foretold_life managed specs world).mets

    -- ---- the turns that the evidence speaks of are those of the transcript

    mets_length : (running : Running) (turns : List Given) → length (mets_of managed running turns) ≡ length turns
    mets_length running [] = refl
    mets_length running (given ∷ turns) = ap (λ (n : ℕ). suc n) (mets_length (running_turned managed running given) turns)

    handled_mets : (earlier : List Given) (given : Given) (coming : List Given) → IsTurn managed specs world earlier given coming
        → mets_of managed begun (earlier ++ given ∷ []) ≡ take (length earlier + 1) all_mets
    handled_mets earlier given coming turn =
        let met : List Met = mets_of managed begun (earlier ++ given ∷ []) in
        let after : Running = running_after managed (earlier ++ given ∷ []) begun in
        let later : List Met = told_turns managed after.life after.world coming in
        let comes : begun.world.link.told.coming ≡ world.link.told.coming = run_coming (opening_asks managed specs world.link.told.begin) world in
        let all : all_mets ≡ told_turns managed begun.life begun.world (earlier ++ given ∷ coming) =
        ap (told_turns managed begun.life begun.world) (comes ∙ turn.stands) in
        let parts : all_mets ≡ met ++ later =
        all ∙ foretold managed begun earlier given coming (subst (λ (ms : List Met). length earlier < length ms) all turn.handled) in
        let count : length met ≡ length earlier + 1 = mets_length begun (earlier ++ given ∷ []) ∙ length-append earlier (given ∷ []) in
        sym (take-append_seam met later) ∙ ap (λ (n : ℕ). take n (met ++ later)) count ∙ ap (take (length earlier + 1)) (sym parts)

    pub life_holds : HoldsRightly managed specs world
    life_holds = record {
      opening_holds = opening_holds managed specs world shares sorted;
      turns_hold = λ earlier given. turn_in_life managed specs world shares sorted earlier given;
      opening_starts =
          opening_starts managed specs (opening_of managed specs world)
          (run_makes (opening_asks managed specs world.link.told.begin) world) fit others numbered named;
      plain_starts =
          λ plain. plain_opening_starts managed specs (opening_of managed specs world)
          (run_makes (opening_asks managed specs world.link.told.begin) world) plain;
      opening_rests = λ well. opening_rests LeaseRelation leases_based items_have_basis managed specs world fit shares others numbered named sorted well;
      turns_rest = λ earlier given coming turn well.
          subst
          (λ (ms : List Met). RestOnEvidence managed specs (opening_of managed specs world) ms
          (lived_on managed specs world earlier given).world.host.told.rows)
          (handled_mets earlier given coming turn)
          (turns_rest LeaseRelation leases_based items_have_basis managed specs world earlier given fit shares others numbered named
          (up_to earlier given coming (subst (AllByRecursion BringsBytes) turn.stands octets)) sorted well);
    }

-- ---- the lives of a script

module _ (bytes : List ℕ) (script : ScriptLines) (conf : Configuration) (is : IsScript bytes script conf) where
  abbrev in_script : List Managed
  in_script = managed_in script conf

  ifaces : FitInterfaces script.ifaces
  ifaces = ifaces_fit bytes script conf is

  -- in each life, whatever those before it left
  holds_on : (failing : Failing) (between : Between) → InRowOrder between.host.rows → (lives : List LifeScript)
      → AllByRecursion (FitsLife (length script.ifaces)) lives
      → AllHoldRightly in_script script.ifaces failing between lives
  holds_on failing between sorted [] fits = tt
  holds_on failing between sorted (life ∷ lives) fits = (
    life_holds (configuration_text script) conf is.configured script.ifaces ifaces (world_in failing between life) sorted
        (life_octets (length script.ifaces) life fits.0),
    holds_on failing (after_life in_script script.ifaces failing between life)
        (left_in_order in_script script.ifaces (world_in failing between life)
        (shares (configuration_text script) conf is.configured script.ifaces ifaces) sorted)
        lives fits.1,
  )

  pub holds_rightly : AllHoldRightly in_script script.ifaces (failing_in script.fails) (at_first script.rows script.files script.polls) script.lives
  holds_rightly =
      let fits : FitsScript script = spelled_fits bytes script is.spelled in
      holds_on (failing_in script.fails) (at_first script.rows script.files script.polls) (in_order_sorted script.rows) script.lives
      (recursion_from_All (FitsLife (length script.ifaces)) script.lives fits.lives)
