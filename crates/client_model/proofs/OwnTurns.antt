-- An interface runs by its own inputs and its own failed sends alone.
use Rattle.std.proofs.Common.{ℕ, ◌≡◌, ◌≢◌, Bool, true, false, List, [], ◌∷◌, refl, sym, ap, ap₂, subst, ◌∙◌, arith, if◌then◌else◌}
use Rattle.std.proofs.lemmas.Bool.Decides.{nat_tests}
use Rattle.std.specs.Prelude.{◌==◌}
use Rattle.net_types.specs.declared.address.Mac.{Mac}
use Rattle.world.specs.declared.wakes.Event.{Event}
use Rattle.world.specs.declared.wakes.Event.TheVariants.{Frame, Carrier, Duplicate, Release, Rebind, Stop, Quiet, End}
use Rattle.settings.specs.declared.interfaces.Managed.{Managed}
use Rattle.script_model.specs.IfaceSets.{is_in}
use Rattle.client_model.specs.declared.interfaces.Iface.{Iface}
use Rattle.client_model.specs.IfaceSteps.{IfaceStep, index_of, then_step}
use Rattle.client_model.specs.Interfaces.{restarted, ticked}
use Rattle.client_model.specs.IfaceTurns.{Turn, input_step, iface_turned}
use Rattle.client_model.specs.Clients.{Sending, sends_of}
use Rattle.client_model.specs.Runs.{iface_run, NamesOther}
use Rattle.client_model.specs.OwnInputs.{is_for, own_turn, IsOne, RunAlike, OwnInputsCount}
use Rattle.client_model.proofs.Elsewhere.{elsewhere}
use Rattle.client_model.proofs.SameInterfaces.{run_same}

apart : (a b : ℕ) → (a == b) ≡ false → a ≢ b
apart a b h = grind (arith, nat_tests)

names_other : (index : ℕ) (event : Event) → is_for index event ≡ false → NamesOther index event
names_other index (Frame other len) h = apart index other h
names_other index (Carrier other up) h = apart index other h
names_other index (Duplicate other addr) h = apart index other h
names_other index (Release other) h = apart index other h
names_other index (Rebind other) h = apart index other h
names_other index Stop h = cc
names_other index Quiet h = cc
names_other index End h = cc

module _ (own : List Mac) (iface : Iface) where
  -- a turn by what of it counts
  abbrev by_parts : (at salt : ℕ) → (failed : Bool) → Event → List ℕ → IfaceStep
  by_parts at salt failed event bytes =
      then_step (ticked at salt (if failed then restarted at salt iface else iface)) (input_step own at salt event bytes)

  abbrev own_parts : Turn → Turn → IfaceStep
  own_parts turn counts = by_parts turn.at turn.salt (is_in turn.unsent (index_of iface)) counts.event counts.bytes

  by_input : (turn : Turn) (mine : Bool) → is_for (index_of iface) turn.event ≡ mine
      → iface_turned own turn iface ≡ own_parts turn (if mine then turn else record turn { event = Quiet; bytes = [] })
  by_input turn true h = refl
  by_input turn false h = elsewhere own turn iface (names_other (index_of iface) turn.event h)

  by_own : (turn : Turn) → iface_turned own turn iface ≡ own_parts turn (own_turn (index_of iface) turn)
  by_own turn = by_input turn (is_for (index_of iface) turn.event) refl

  one_step : (a b : Turn) → IsOne (index_of iface) a b → iface_turned own a iface ≡ iface_turned own b iface
  one_step a b one =
      by_own a ∙ (λ i. by_parts (one.at i) (one.salt i) (one.unsent i) (one.event i) (one.bytes i)) ∙ sym (by_own b)

pub alike : OwnInputsCount
alike own iface [] [] one = record { state = refl; frames = refl }
alike own iface [] (b ∷ others) one = absurd one
alike own iface (a ∷ turns) [] one = absurd one
alike own iface (a ∷ turns) (b ∷ others) one =
    let before : RunAlike own iface turns others = alike own iface turns others one.1 in
    let at : Iface = iface_run own iface turns in
    let here : index_of iface ≡ index_of at = sym (ap (λ (m : Managed). m.spec.index.number) (run_same own iface turns)) in
    let step : iface_turned own a at ≡ iface_turned own b (iface_run own iface others) =
    one_step own at a b (subst (λ (index : ℕ). IsOne index a b) here one.0) ∙ ap (iface_turned own b) before.state in
    record {
      state = ap (λ (s : IfaceStep). s.iface) step;
      frames = ap₂ (λ (f : List Sending) (fs : List (List Sending)). f ∷ fs) (ap sends_of step) before.frames;
    }
