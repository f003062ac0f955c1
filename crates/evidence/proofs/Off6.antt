-- A DHCPv6 client that is off stays off, unless the carrier comes or it is told to begin.
use Rattle.std.proofs.Common.{◌≡◌, ℕ, Bool, true, false, None, Some, refl, sym, ap, subst}
use Rattle.std.specs.Prelude.{if◌then◌else◌}
use Rattle.machine.specs.Moment.{is_due}
use Rattle.net_types.proofs.CaseLaws.{gated}
use Rattle.net_types.specs.declared.address.Ip6.{Ip6}
use Rattle.lease6_text.specs.Leases.{Lease6Content}
use Rattle.v6_message.specs.declared.kind.ServerKind6.{ServerKind6}
use Rattle.v6_message.specs.declared.kind.ServerKind6.TheVariants.{Advertise, Reply}
use Rattle.v6_message.specs.Replies.{Content6}
use Rattle.v6_client.specs.declared.states.Carrier6.TheVariants.{Down}
use Rattle.v6_client.specs.V6Items.declared.scope.Cause6.TheVariants.{Lapse, Duplicate}
use Rattle.v6_client.specs.declared.states.State6.{State6}
use Rattle.v6_client.specs.declared.states.State6.TheVariants.{Off, Waiting, Soliciting, Requesting, Bound, Renewing, Rebinding, Restarting, Declining}
use Rattle.v6_client.specs.declared.states.Tell6.{Tell6}
use Rattle.v6_client.specs.declared.states.Tell6.TheVariants.{Server, Nobody}
use Rattle.v6_client.specs.declared.turn.Turn6.{Turn6}
use Rattle.v6_client.specs.Answers.{advertise_answer, counts, learnt}
use Rattle.v6_client.specs.Calls.{answer_in, dates_in, due_of}
use Rattle.v6_client.specs.Clients.{ClientContent, held_of, holds, turn_of}
use Rattle.v6_client.specs.Hearing.{heard_row}
use Rattle.v6_client.specs.Inputs.{duplicate_row, release_row, released}
use Rattle.v6_client.specs.Moves.{parting_at}
use Rattle.v6_client.specs.Runs.{Turned6, answered, carrier_turned, contested_turned, hears_turned, release_turned, tick_turned}
use Rattle.v6_client.specs.Ticks.{tick_row}

abbrev pub IsOff : Turned6 → Type 0
IsOff turned = turned.client.state ≡ Off

released_off : (turn : Turn6) (tell : Tell6) (held : Bool) → (released turn tell held).state ≡ Off
released_off turn Server true = refl
released_off turn Server false = refl
released_off turn Nobody true = refl
released_off turn Nobody false = refl

release_row_off : (turn : Turn6) (tell : Tell6) (held : Bool) (state : State6) → (release_row turn tell held state).state ≡ Off
release_row_off turn tell held Off = refl
release_row_off turn tell held (Waiting due) = refl
release_row_off turn tell held (Soliciting exchange offer) = refl
release_row_off turn tell held (Requesting exchange) = refl
release_row_off turn tell held Bound = released_off turn tell held
release_row_off turn tell held (Renewing exchange) = released_off turn tell held
release_row_off turn tell held (Rebinding exchange) = released_off turn tell held
release_row_off turn tell held (Restarting exchange end since true) = released_off turn tell held
release_row_off turn tell held (Restarting exchange end since false) = refl
release_row_off turn tell held (Declining exchange) = released_off turn tell held

module _ (at salt : ℕ) (c : ClientContent) where
  abbrev turn : Turn6
  turn = turn_of at salt c

  pub drop_off : IsOff (carrier_turned Down at salt c)
  unfolding carrier_turned
  drop_off = refl

  pub release_off : (tell : Tell6) → IsOff (release_turned tell at salt c)
  unfolding release_turned
  release_off tell = release_row_off turn tell _ c.state

  pub tick_off : c.state ≡ Off → IsOff (tick_turned at salt c)
  unfolding tick_turned
  tick_off off =
      gated IsOff (is_due (due_of c) at) _ _
      (subst (λ (s : State6). (tick_row turn (dates_in c) (parting_at (Lapse at) c) s).state ≡ Off) (sym off) refl) off

  answered_off : (message : Content6) (kind : ServerKind6) (d : ClientContent) → d.state ≡ Off → IsOff (answered at salt message kind d)
  answered_off message Advertise d off =
      subst (λ (s : State6). (heard_row (turn_of at salt d) (advertise_answer d message) s).state ≡ Off) (sym off) refl
  answered_off message Reply d off =
      subst (λ (s : State6). (heard_row (turn_of at salt d) (answer_in at d message) s).state ≡ Off) (sym off) refl

  pub hears_off : (message : Content6) → c.state ≡ Off → IsOff (hears_turned at salt message c)
  unfolding hears_turned
  hears_off message off =
      gated IsOff (counts c message) _ _ (answered_off message message.kind (learnt message.sol_max c) off) off

  pub contested_off : (address : Ip6) → c.state ≡ Off → IsOff (contested_turned address at salt c)
  unfolding contested_turned
  contested_off address off =
      subst (λ (s : State6). (duplicate_row turn (parting_at (Duplicate address) c) s).state ≡ Off) (sym off) refl

-- a client that is off holds no lease
pub off_holds6 : (c : ClientContent) (lease : Lease6Content) → c.state ≡ Off → held_of c ≡ Some lease → ⊥
off_holds6 c lease off held =
    let none : held_of c ≡ None = ap (λ (state : State6). if holds state then c.kept else None) off in
    cc
