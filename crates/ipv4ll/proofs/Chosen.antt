use Rattle.std.proofs.Common.{ℕ, ◌+◌, ◌%◌, ◌≤◌, List, [], ◌∷◌, nat_lt, sym, subst, arith}
use Rattle.std.specs.Prelude.{IfSome}
use Rattle.machine.specs.Draw.{draw_of}
use Rattle.machine.specs.Moment.{is_due}
use Rattle.net_types.specs.declared.address.Mac.{Mac}
use Rattle.net_types.specs.declared.interface.IfIndex.{IfIndex}
use Rattle.arp_acd.specs.declared.detection.Acd.{Acd}
use Rattle.arp_acd.specs.declared.detection.AcdSays.{AcdSays}
use Rattle.arp_acd.specs.declared.detection.AcdSays.TheVariants.{Quiet, SayProbe, SayAnnounce, Passed, Conflict, GivenUp}
use Rattle.arp_acd.specs.Table as detection
use Rattle.arp_acd.proofs.Addresses.{addr-tick, addr-hears}
use Rattle.ipv4ll.specs.declared.link_local.LlNews.TheVariants.{Nothing}
use Rattle.ipv4ll.specs.declared.link_local.State.{State}
use Rattle.ipv4ll.specs.declared.link_local.State.TheVariants.{Off, Armed, Chosen, Waiting}
use Rattle.ipv4ll.specs.Choice.{choice_of, IsChoice}
use Rattle.ipv4ll.specs.Table.{chooses, moves, tells, choosing, after_conflict, one_more, said_row, tick_row, due_of}
use Rattle.ipv4ll.specs.History.{LlEvent, Arm, Tick, Heard, Unsent, Drop, ll_step, ll_after}
use Rattle.ipv4ll.specs.Laws.{chosen_address, StepChooses, ChoosesInRange}
use Rattle.net_types.proofs.CaseLaws.{gated}

-- Every chosen address is in range.

above : (x : ℕ) → 0xa9fe_0100 ≤ 0xa9fe_0100 + x % 65024
above x = omega arith

below : (x : ℕ) → 0xa9fe_0100 + x % 65024 ≤ 0xa9fe_feff
below x = omega arith

pub choice_in_range : (iface : IfIndex) (conflicts salt : ℕ) → IsChoice (choice_of iface conflicts salt)
choice_in_range iface conflicts salt = record {
  at_least = above (draw_of salt iface 65024 + conflicts);
  at_most = below (draw_of salt iface 65024 + conflicts);
}

abbrev pub InState : State → Type 0
InState state = IfSome (chosen_address state) IsChoice

after_in : (iface : IfIndex) (conflicts at salt : ℕ) → InState (after_conflict iface conflicts at salt)
after_in iface conflicts at salt =
    gated InState (nat_lt conflicts 10) (choosing iface conflicts at salt) (Waiting conflicts (at + 60000))
    (choice_in_range iface conflicts salt) tt

said_in : (iface : IfIndex) (conflicts : ℕ) (acd : Acd) (at salt : ℕ) (says : AcdSays) → IsChoice acd.addr
    → StepChooses (said_row iface conflicts acd at salt says)
said_in iface conflicts acd at salt Quiet h = record { chosen = h; said = tt }
said_in iface conflicts acd at salt SayProbe h = record { chosen = h; said = h }
said_in iface conflicts acd at salt SayAnnounce h = record { chosen = h; said = h }
said_in iface conflicts acd at salt Passed h = record { chosen = h; said = h }
said_in iface conflicts acd at salt Conflict h = record { chosen = after_in iface (one_more conflicts) at salt; said = tt }
said_in iface conflicts acd at salt GivenUp h = record { chosen = after_in iface (one_more conflicts) at salt; said = tt }

row_in : (iface : IfIndex) (state : State) (at salt : ℕ) → InState state → StepChooses (tick_row iface state at salt)
row_in iface Off at salt h = record { chosen = tt; said = tt }
row_in iface (Armed due waits fallback) at salt h = record {
  chosen = gated InState (chooses fallback) (choosing iface 0 at salt) Off (choice_in_range iface 0 salt) tt;
  said = tt;
}
row_in iface (Chosen conflicts acd) at salt h =
    said_in iface conflicts (detection.acd_tick acd at salt).acd at salt (detection.acd_tick acd at salt).says
    (subst IsChoice (sym (addr-tick acd at salt)) h)
row_in iface (Waiting conflicts due) at salt h = record { chosen = choice_in_range iface conflicts salt; said = tt }

pub step_in : (own : List Mac) (iface : IfIndex) (state : State) (event : LlEvent) → InState state
    → StepChooses (ll_step own (record { iface = iface; state = state }) event)
step_in own iface Off (Arm at due waits fallback) h = record { chosen = tt; said = tt }
step_in own iface (Armed due' before other) (Arm at due waits fallback) h = record { chosen = tt; said = tt }
step_in own iface (Chosen conflicts acd) (Arm at due waits fallback) h = record { chosen = h; said = tt }
step_in own iface (Waiting conflicts due') (Arm at due waits fallback) h = record { chosen = tt; said = tt }
step_in own iface state (Tick at salt) h =
    gated StepChooses (is_due (due_of state) at) (tick_row iface state at salt) (moves iface state (tells Nothing))
    (row_in iface state at salt h) (record { chosen = h; said = tt })
step_in own iface Off (Heard arp at salt) h = record { chosen = tt; said = tt }
step_in own iface (Armed due waits fallback) (Heard arp at salt) h = record { chosen = tt; said = tt }
step_in own iface (Chosen conflicts acd) (Heard arp at salt) h =
    said_in iface conflicts (detection.acd_hears own acd arp at).acd at salt (detection.acd_hears own acd arp at).says
    (subst IsChoice (sym (addr-hears own acd arp at)) h)
step_in own iface (Waiting conflicts due) (Heard arp at salt) h = record { chosen = tt; said = tt }
step_in own iface Off (Unsent at salt) h = record { chosen = tt; said = tt }
step_in own iface (Armed due waits fallback) (Unsent at salt) h = record { chosen = tt; said = tt }
step_in own iface (Chosen conflicts acd) (Unsent at salt) h = record { chosen = h; said = tt }
step_in own iface (Waiting conflicts due) (Unsent at salt) h = record { chosen = tt; said = tt }
step_in own iface state (Drop at) h = record { chosen = tt; said = tt }

pub in_range : (own : List Mac) (iface : IfIndex) (past : List LlEvent) → InState (ll_after own iface past).state
in_range own iface [] = tt
in_range own iface (event ∷ past) =
    (step_in own (ll_after own iface past).iface (ll_after own iface past).state event (in_range own iface past)).chosen

pub chooses_in_range_lem : ChoosesInRange
chooses_in_range_lem own iface past event =
    step_in own (ll_after own iface past).iface (ll_after own iface past).state event (in_range own iface past)
