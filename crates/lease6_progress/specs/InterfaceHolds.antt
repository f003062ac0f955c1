-- That an interface holds an item of DHCPv6 in time, and from then on. Moments are in milliseconds.
use Rattle.std.specs.Prelude.{◌≡◌, ℕ, ◌+◌, ◌<◌, ◌≤◌, true, List, ◌∷◌, ◌++◌, map, option_to_list, Some}
use Rattle.net_types.specs.declared.address.Mac.{Mac}
use Rattle.v6_retrans.specs.declared.parameters.TheConstants.{SOLICIT}
use Rattle.lease6_text.specs.Leases.{Lease6Content}
use Rattle.v6_client.specs.Clients.{held_of}
use Rattle.client_model.specs.declared.interfaces.Iface.{Iface}
use Rattle.client_model.specs.ClientSettings6.{settings6_of}
use Rattle.client_model.specs.IfaceTurns.{Turn, iface_turned}
use Rattle.client_model.specs.KeptLeases.{Beginning}
use Rattle.client_model.specs.Runs.{iface_run}
use Rattle.lease6_progress.specs.Acquiring.{BeginsAnew, has_item, longest_choice, longest_delay}
use Rattle.lease6_progress.specs.ClientTurns.{acts_in, client_run, takes_in}
use Rattle.lease6_progress.specs.GoingWell.{Answered, EachQuestion, Fair}
use Rattle.lease6_progress.specs.InterfaceTurns.{PromptTurns, RunsDhcp6, begun, messages6, moment_of_turns, sent_from, start_for, turn_for, turns_for}
use Rattle.lease6_progress.specs.Staying.{AlwaysLasting, HoldsLasting, Lasting, has_valid}

-- Whatever else the interface does, its DHCPv6 client goes through its own turns, while these go as they should.
abbrev pub ClientsRun : Type 0
ClientsRun = (own : List Mac) (b : Beginning) (up at salt : ℕ) (answered : Answered) (wait : ℕ) (turns : List Turn)
    → RunsDhcp6 up b
    → Fair (start_for at salt b) answered wait (turns_for b.managed turns)
    → (iface_run own (begun up at salt b) turns).dhcp6 ≡ client_run (start_for at salt b) (turns_for b.managed turns)

-- What the interface says of DHCPv6 in a turn is what its client says: first as its moment has come, then to what comes
-- in.
abbrev pub ClientsSpeak : Type 0
ClientsSpeak = (own : List Mac) (b : Beginning) (up at salt : ℕ) (answered : Answered) (wait : ℕ) (turn : Turn)
    (past : List Turn) → RunsDhcp6 up b
    → Fair (start_for at salt b) answered wait (turns_for b.managed (turn ∷ past))
    → let c = client_run (start_for at salt b) (turns_for b.managed past) in
    messages6 (iface_turned own turn (iface_run own (begun up at salt b) past)).said
    ≡ map (sent_from b.managed b.duid) (option_to_list (acts_in (turn_for b.managed turn) c).out.say)
    ++ map (sent_from b.managed b.duid) (option_to_list (takes_in (turn_for b.managed turn) c).out.say)

-- After the opening, or some turn that came by the moment `end`, an item is held.
pub record HeldByTurns (own : List Mac) (iface : Iface) (start : ℕ) (turns : List Turn) (end : ℕ) : Type 0 where
  pub later : List Turn
  pub earlier : List Turn
  pub cut : turns ≡ later ++ earlier
  pub in_time : moment_of_turns start earlier ≤ end
  pub lease : Lease6Content
  pub held : held_of (iface_run own iface earlier).dhcp6 ≡ Some lease
  pub some_item : has_item lease ≡ true

-- by SOLICIT, Advertise, REQUEST and Reply
abbrev pub InterfaceAcquires : Type 0
InterfaceAcquires = (own : List Mac) (b : Beginning) (up at salt wait : ℕ) (turns : List Turn) → wait ≤ SOLICIT.irt
    → RunsDhcp6 up b
    → BeginsAnew (start_for at salt b) → PromptTurns own (begun up at salt b) at turns
    → Fair (start_for at salt b) EachQuestion wait (turns_for b.managed turns)
    → at + longest_delay (settings6_of b.duid b.managed) + longest_choice + wait < moment_of_turns at turns
    → HeldByTurns own (begun up at salt b) at turns
    (at + longest_delay (settings6_of b.duid b.managed) + longest_choice + wait)

-- an item is held that is valid
pub record HoldsByTurns (own : List Mac) (b : Beginning) (iface : Iface) (start : ℕ) (turns : List Turn) : Type 0 where
  pub lease : Lease6Content
  pub held : held_of (iface_run own iface turns).dhcp6 ≡ Some lease
  pub valid : has_valid (settings6_of b.duid b.managed).asks (moment_of_turns start turns) lease.ias ≡ true

-- After each later turn a valid item is held.
abbrev pub InterfaceStaysHeld : Type 0
InterfaceStaysHeld = (own : List Mac) (b : Beginning) (up at salt : ℕ) (answered : Answered) (wait : ℕ)
    (later earlier : List Turn)
    → RunsDhcp6 up b → PromptTurns own (begun up at salt b) at (later ++ earlier)
    → HoldsLasting (start_for at salt b) answered wait (turns_for b.managed earlier)
    → Fair (start_for at salt b) answered wait (turns_for b.managed (later ++ earlier))
    → Lasting (start_for at salt b) answered wait (turns_for b.managed later) (turns_for b.managed earlier)
    → HoldsByTurns own b (begun up at salt b) at (later ++ earlier)

-- So it holds one from a moment on, by which it acquired it.
abbrev pub InterfaceHolds : Type 0
InterfaceHolds = (own : List Mac) (b : Beginning) (up at salt wait : ℕ) (turns : List Turn) → wait ≤ SOLICIT.irt
    → RunsDhcp6 up b
    → BeginsAnew (start_for at salt b) → PromptTurns own (begun up at salt b) at turns
    → Fair (start_for at salt b) EachQuestion wait (turns_for b.managed turns)
    → AlwaysLasting (start_for at salt b) EachQuestion wait (turns_for b.managed turns)
    → at + longest_delay (settings6_of b.duid b.managed) + longest_choice + wait < moment_of_turns at turns
    → HoldsByTurns own b (begun up at salt b) at turns
