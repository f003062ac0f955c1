-- The laws on clients are laws on interfaces.
use Rattle.std.proofs.Common.{◌≡◌, ℕ, ◌+◌, ◌<◌, ◌≤◌, min, max, true, List, [], ◌∷◌, ◌++◌, Option, Some, None, refl, sym, ap, subst, ◌∙◌, arith}
use Rattle.net_types.specs.declared.address.Mac.{Mac}
use Rattle.v6_client.specs.Calls as lease6
use Rattle.v6_client.specs.Clients.{ClientContent, held_of}
use Rattle.v4_client.specs.Moments.{earlier}
use Rattle.client_model.specs.declared.interfaces.Iface.{Iface}
use Rattle.client_model.specs.ClientSettings6.{settings6_of}
use Rattle.client_model.specs.IfaceTurns.{Turn}
use Rattle.client_model.specs.Interfaces.{iface_due}
use Rattle.client_model.specs.KeptLeases.{Beginning}
use Rattle.client_model.specs.Runs.{iface_run}
use Rattle.lease6_progress.specs.Acquiring.{HeldBy, longest_choice, longest_delay}
use Rattle.lease6_progress.specs.ClientTurns.{ClientTurn, Start, client_run, now_in}
use Rattle.lease6_progress.specs.GoingWell.{Answered, EachQuestion, Fair, NotAfter, Prompt}
use Rattle.lease6_progress.specs.InterfaceHolds.{ClientsRun, HeldByTurns, HoldsByTurns, InterfaceAcquires, InterfaceHolds, InterfaceStaysHeld}
use Rattle.lease6_progress.specs.InterfaceTurns.{PromptTurns, RunsDhcp6, begun, moment_of_turns, start_for, turn_for, turns_for}
use Rattle.lease6_progress.specs.Staying.{HoldsItem, has_valid}
use Rattle.lease6_progress.proofs.Holding.{holds_from_then_on}
use Rattle.lease6_progress.proofs.Interface.{Stands, opened_stands, turned_stands}
use Rattle.lease6_progress.proofs.Retaining.{stays_held}
use Rattle.lease6_progress.proofs.Turning.{acquires}

-- ---- turns

module _ (own : List Mac) (b : Beginning) (up at salt : ℕ) (r : RunsDhcp6 up b) where
  abbrev s : Start
  s = start_for at salt b

  abbrev iface : Iface
  iface = begun up at salt b

  abbrev own_turns : List Turn → List ClientTurn
  own_turns turns = turns_for b.managed turns

  pub stands : (answered : Answered) (wait : ℕ) (turns : List Turn) → Fair s answered wait (own_turns turns)
      → Stands b.managed (client_run s (own_turns turns)) (iface_run own iface turns)
  stands answered wait [] fair = opened_stands b up at salt r
  stands answered wait (turn ∷ past) fair =
      turned_stands b.managed r.runs own turn (client_run s (own_turns past)) (iface_run own iface past) (stands answered wait past fair.1) fair.0.stays

  pub client_is : (answered : Answered) (wait : ℕ) (turns : List Turn) → Fair s answered wait (own_turns turns)
      → (iface_run own iface turns).dhcp6 ≡ client_run s (own_turns turns)
  client_is answered wait turns fair = ap (λ (i : Iface). i.dhcp6) (stands answered wait turns fair).is

  moments : (turns : List Turn) → now_in s (own_turns turns) ≡ moment_of_turns at turns
  moments [] = refl
  moments (turn ∷ past) = refl

  -- the interface asks for no later moment than its client
  sooner : (first second : Option ℕ) (last now : ℕ) → NotAfter (earlier first second) last now → NotAfter second last now
  sooner None second last now h = h
  sooner (Some a) None last now h = tt
  sooner (Some a) (Some d) last now h = nearer a d last now h
    where
      nearer : (a d last now : ℕ) → now ≤ max (min a d) last → now ≤ max d last
      nearer a d last now h = grind arith

  asked_so : (c : ClientContent) (i : Iface) (last now : ℕ) → Stands b.managed c i → NotAfter (iface_due i) last now → NotAfter (lease6.due_of c) last now
  asked_so c i last now st h =
      sooner _ (lease6.due_of c) last now (subst (λ (j : Iface). NotAfter (iface_due j) last now) st.is h)

  prompt_so : (answered : Answered) (wait : ℕ) (turns : List Turn) → Fair s answered wait (own_turns turns) → PromptTurns own iface at turns
      → Prompt s (own_turns turns)
  prompt_so answered wait [] fair prompt = tt
  prompt_so answered wait (turn ∷ past) fair prompt = (
    record {
      onward = subst (λ (last : ℕ). last ≤ turn.at) (sym (moments past)) prompt.0.onward;
      in_time = subst (λ (last : ℕ). NotAfter (lease6.due_of (client_run s (own_turns past))) last turn.at) (sym (moments past))
          (asked_so (client_run s (own_turns past)) (iface_run own iface past) (moment_of_turns at past) turn.at
          (stands answered wait past fair.1) prompt.0.in_time);
    },
    prompt_so answered wait past fair.1 prompt.1,
  )

  -- ---- the turns of an interface by those of its client

  record IsCut (turns : List Turn) (before : List ClientTurn) : Type 0 where
    pub later : List Turn
    pub earlier : List Turn
    pub cut : turns ≡ later ++ earlier
    pub same : own_turns earlier ≡ before

  abbrev rest : List ClientTurn → List ClientTurn
  rest [] = []
  rest (turn ∷ past) = past

  cut_back : (turns : List Turn) (later before : List ClientTurn) → own_turns turns ≡ later ++ before → IsCut turns before
  cut_back turns [] before e = record { later = []; earlier = turns; cut = refl; same = e }
  cut_back [] (turn ∷ later) before e = absurd cc
  cut_back (own_turn ∷ past) (turn ∷ later) before e =
      let c : IsCut past before = cut_back past later before (ap rest e) in
      record { later = own_turn ∷ c.later; earlier = c.earlier; cut = ap (λ (turns : List Turn). own_turn ∷ turns) c.cut; same = c.same }

  fair_before : (answered : Answered) (wait : ℕ) (later before : List ClientTurn) → Fair s answered wait (later ++ before) → Fair s answered wait before
  fair_before answered wait [] before fair = fair
  fair_before answered wait (turn ∷ later) before fair = fair_before answered wait later before fair.1

  held_so : (wait : ℕ) (turns : List Turn) (end : ℕ) → Fair s EachQuestion wait (own_turns turns) → HeldBy s (own_turns turns) end
      → HeldByTurns own iface at turns end
  held_so wait turns end fair h =
      let c : IsCut turns h.earlier = cut_back turns h.later h.earlier h.cut in
      let so : Fair s EachQuestion wait (own_turns c.earlier) =
      subst (λ (past : List ClientTurn). Fair s EachQuestion wait past) (sym c.same)
      (fair_before EachQuestion wait h.later h.earlier (subst (λ (all : List ClientTurn). Fair s EachQuestion wait all) h.cut fair)) in
      record {
        later = c.later;
        earlier = c.earlier;
        cut = c.cut;
        in_time = subst (λ (moment : ℕ). moment ≤ end) (moments c.earlier)
            (subst (λ (past : List ClientTurn). now_in s past ≤ end) (sym c.same) h.in_time);
        lease = h.lease;
        held = ap held_of (client_is EachQuestion wait c.earlier so)
            ∙ subst (λ (past : List ClientTurn). held_of (client_run s past) ≡ Some h.lease) (sym c.same) h.held;
        some_item = h.some_item;
      }

  joins : (later earlier : List Turn) → own_turns (later ++ earlier) ≡ own_turns later ++ own_turns earlier
  joins [] earlier = refl
  joins (turn ∷ later) earlier = ap (λ (past : List ClientTurn). turn_for b.managed turn ∷ past) (joins later earlier)

  holds_so : (answered : Answered) (wait : ℕ) (turns : List Turn) → Fair s answered wait (own_turns turns) → HoldsItem s (own_turns turns)
      → HoldsByTurns own b iface at turns
  holds_so answered wait turns fair h = record {
    lease = h.lease;
    held = ap held_of (client_is answered wait turns fair) ∙ h.held;
    valid = subst (λ (moment : ℕ). has_valid s.settings.asks moment h.lease.ias ≡ true) (moments turns) h.valid;
  }

-- ---- the laws

pub clients_run : ClientsRun
clients_run own b up at salt answered wait turns r fair = client_is own b up at salt r answered wait turns fair

pub interface_acquires : InterfaceAcquires
interface_acquires own b up at salt wait turns short r anew prompt fair past =
    held_so own b up at salt r wait turns _ fair
    (acquires (start_for at salt b) wait (turns_for b.managed turns) short anew (prompt_so own b up at salt r EachQuestion wait turns fair prompt) fair
    (subst (λ (moment : ℕ). at + longest_delay (settings6_of b.duid b.managed) + longest_choice + wait < moment) (sym (moments own b up at salt r turns)) past))

pub interface_stays_held : InterfaceStaysHeld
interface_stays_held own b up at salt answered wait later earlier r prompt holds fair lasting =
    let s : Start = start_for at salt b in
    let same = joins own b up at salt r later earlier in
    holds_so own b up at salt r answered wait (later ++ earlier) fair
    (subst (λ (turns : List ClientTurn). HoldsItem s turns) (sym same)
    (stays_held s answered wait (turns_for b.managed later) (turns_for b.managed earlier) holds
    (subst (λ (turns : List ClientTurn). Prompt s turns) same (prompt_so own b up at salt r answered wait (later ++ earlier) fair prompt))
    (subst (λ (turns : List ClientTurn). Fair s answered wait turns) same fair) lasting))

pub interface_holds : InterfaceHolds
interface_holds own b up at salt wait turns short r anew prompt fair lasting past =
    holds_so own b up at salt r EachQuestion wait turns fair
    (holds_from_then_on (start_for at salt b) wait (turns_for b.managed turns) short anew
    (prompt_so own b up at salt r EachQuestion wait turns fair prompt) fair lasting
    (subst (λ (moment : ℕ). at + longest_delay (settings6_of b.duid b.managed) + longest_choice + wait < moment) (sym (moments own b up at salt r turns)) past))
