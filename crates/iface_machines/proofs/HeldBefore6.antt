-- The lease that a DHCPv6 client hands out as the one that was held before is the one that was held, where the news is of it.
use Rattle.std.proofs.Common.{◌≡◌, ℕ, Bool, true, false, cond, not, ◌&&◌, Option, Some, None, refl, sym, ap, ◌∙◌}
use Rattle.machine.specs.Moment.{is_due}
use Rattle.net_types.proofs.CaseLaws.{gated, split}
use Rattle.net_types.specs.declared.address.Ip6.{Ip6}
use Rattle.v6_message.specs.declared.kind.ServerKind6.{ServerKind6}
use Rattle.v6_message.specs.declared.kind.ServerKind6.TheVariants.{Advertise, Reply}
use Rattle.v6_message.specs.Replies.{Content6}
use Rattle.v6_retrans.specs.declared.parameters.TheConstants.{REQUEST, DECLINE}
use Rattle.lease6_text.specs.Leases.{Lease6Content}
use Rattle.v6_client.specs.declared.states.Carrier6.{Carrier6}
use Rattle.v6_client.specs.declared.states.Carrier6.TheVariants.{Up, Down}
use Rattle.v6_items.specs.declared.scope.Cause6.TheVariants.{Lapse, Duplicate}
use Rattle.v6_items.specs.declared.scope.Dates6.{Dates6}
use Rattle.v6_client.specs.declared.states.News6.{News6}
use Rattle.v6_items.specs.declared.scope.Parting6.{Parting6}
use Rattle.v6_client.specs.declared.states.State6.{State6}
use Rattle.v6_client.specs.declared.states.State6.TheVariants.{Off, Waiting, Soliciting, Requesting, Bound, Renewing, Rebinding, Restarting, Declining}
use Rattle.v6_client.specs.declared.states.Step6.{Step6}
use Rattle.v6_client.specs.declared.states.Tell6.{Tell6}
use Rattle.v6_client.specs.declared.turn.Turn6.{Turn6}
use Rattle.v6_client.specs.Answers.{advertise_answer, counts, learnt}
use Rattle.v6_client.specs.Calls.{carrier_step, dates_in, due_of, parting_begun, stands_at}
use Rattle.v6_client.specs.Clients.{ClientContent, holds, is_at_end, is_restarting, turn_of}
use Rattle.v6_client.specs.Exchanges.{is_again_due, is_used_up}
use Rattle.v6_client.specs.Hearing.{heard_row, is_kept_offer}
use Rattle.v6_client.specs.Inputs.{begin_row, duplicate_row}
use Rattle.v6_client.specs.Moves.{given_up, is_of_held, lapsed, old_of, parting_at}
use Rattle.v6_client.specs.Runs.{Turned6, answered, carrier_turned, contested_turned, hears_turned, rebind_turned, release_turned, tick_turned}
use Rattle.v6_client.specs.Steps.{news_or_changed, restarts, to_waiting}
use Rattle.v6_client.specs.Ticks.{tick_row}

abbrev pub HandsOutHeld : ClientContent → Turned6 → Type 0
HandsOutHeld c does = does.out.old ≡ old_of does.out.news (holds c.state) c.kept

-- news that isn't of a held lease has none
none_told : (news : News6) (one other : Bool) (kept changed : Option Lease6Content) → is_of_held news ≡ false
    → old_of news one kept ≡ old_of news other changed
none_told news one other kept changed apart =
    ap (λ (b : Bool). cond (b && one) kept None) apart ∙ sym (ap (λ (b : Bool). cond (b && other) changed None) apart)

-- ---- ticks

abbrev Partly : Parting6
Partly = record { goes = true; stays = true }

abbrev NotOfHeld : Step6 → Type 0
NotOfHeld step = is_of_held step.news ≡ false

abbrev ChangesAlone : Step6 → Type 0
ChangesAlone step = is_of_held (news_or_changed step.news) ≡ false

-- where some items go and others stay, and no restart is at its end, that is the news
partly_told : (turn : Turn6) (dates : Dates6) (state : State6) → is_at_end turn.at state ≡ false → NotOfHeld (tick_row turn dates Partly state)
partly_told turn dates Off on = refl
partly_told turn dates (Waiting due) on = refl
partly_told turn dates (Soliciting exchange None) on = refl
partly_told turn dates (Soliciting exchange (Some preference)) on = refl
partly_told turn dates (Requesting exchange) on = gated NotOfHeld (is_used_up REQUEST exchange) _ _ refl refl
partly_told turn dates Bound on =
    gated ChangesAlone (is_due dates.t2 turn.at) _ _ refl (gated ChangesAlone (is_due dates.t1 turn.at) _ _ refl refl)
partly_told turn dates (Renewing exchange) on =
    gated ChangesAlone (is_due dates.t2 turn.at) _ _ refl (gated ChangesAlone (is_again_due turn exchange) _ _ refl refl)
partly_told turn dates (Rebinding exchange) on = gated ChangesAlone (is_again_due turn exchange) _ _ refl refl
partly_told turn dates (Restarting exchange end since true) on = rw on (gated ChangesAlone (is_again_due turn exchange) _ _ refl refl)
partly_told turn dates (Restarting exchange end since false) on = rw on (gated NotOfHeld (is_again_due turn exchange) _ _ refl refl)
partly_told turn dates (Declining exchange) on =
    gated ChangesAlone (is_again_due turn exchange) _ _ (gated ChangesAlone (is_used_up DECLINE exchange) _ _ refl refl) refl

-- of the client whose items went, as of the client before
abbrev SameHeld : News6 → (c d : ClientContent) → Type 0
SameHeld news c d = old_of news (holds d.state) d.kept ≡ old_of news (holds c.state) c.kept

other_arm : {A : Type 0} (P : A → Type 0) (b more : Bool) (one other : A) → P other → P (cond (b && false && more) one other)
other_arm P true more one other h = h
other_arm P false more one other h = h

last_arm : {A : Type 0} (P : A → Type 0) (b : Bool) (one other : A) → P other → P (cond (b && true && false) one other)
last_arm P true one other h = h
last_arm P false one other h = h

-- Where no item stays, or a restart is at its end, the kept lease is as it was.
lapsed_told : (turn : Turn6) (dates : Dates6) (c : ClientContent) (goes stays : Bool)
    → SameHeld (tick_row turn dates (record { goes = goes; stays = stays }) c.state).news c (lapsed turn.at (record { goes = goes; stays = stays }) c)
lapsed_told turn dates c true true =
    split (is_at_end turn.at c.state)
    (λ over. rw over (last_arm (SameHeld (tick_row turn dates Partly c.state).news c) (holds c.state) _ _ refl))
    (λ on. gated (SameHeld (tick_row turn dates Partly c.state).news c) (holds c.state && true && not (is_at_end turn.at c.state)) _ _
    (none_told (tick_row turn dates Partly c.state).news _ _ _ _ (partly_told turn dates c.state on)) refl)
lapsed_told turn dates c true false =
    gated (SameHeld (tick_row turn dates (record { goes = true; stays = false }) c.state).news c) (holds c.state && true && not (is_at_end turn.at c.state)) _ _
    refl refl
lapsed_told turn dates c false stays =
    other_arm (SameHeld (tick_row turn dates (record { goes = false; stays = stays }) c.state).news c) (holds c.state)
    (not (is_at_end turn.at c.state)) _ _ refl

-- a client that begins stands on what it asks for
begins_told : (turn : Turn6) (stands : Bool) (parting : Parting6) (state : State6) → NotOfHeld (begin_row turn stands parting state)
begins_told turn true parting Off =
    gated (λ (step : Step6). NotOfHeld (record step { spends = true })) parting.stays (restarts turn true) (to_waiting turn) refl refl
begins_told turn false parting Off =
    gated (λ (step : Step6). NotOfHeld (record step { spends = true })) parting.stays (restarts turn false) (to_waiting turn) refl refl
begins_told turn stands parting (Waiting due) = refl
begins_told turn stands parting (Soliciting exchange offer) = refl
begins_told turn stands parting (Requesting exchange) = refl
begins_told turn stands parting Bound = refl
begins_told turn stands parting (Renewing exchange) = refl
begins_told turn stands parting (Rebinding exchange) = refl
begins_told turn stands parting (Restarting exchange end since stood) = refl
begins_told turn stands parting (Declining exchange) = refl

module _ (c : ClientContent) (at salt : ℕ) where
  pub ticks_held : HandsOutHeld c (tick_turned at salt c)
  unfolding tick_turned
  ticks_held =
      gated (HandsOutHeld c) (is_due (due_of c) at) _ _
      (lapsed_told (turn_of at salt c) (dates_in c) c (parting_at (Lapse at) c).goes (parting_at (Lapse at) c).stays) refl

  -- ---- the other calls

  pub carrier_held : (carrier : Carrier6) → HandsOutHeld c (carrier_turned carrier at salt c)
  unfolding carrier_turned
  carrier_held Up =
      none_told (carrier_step Up at salt c).news _ _ _ _ (begins_told (turn_of at salt c) (stands_at at c) (parting_begun at c) c.state)
  carrier_held Down = refl

  pub release_held : (tell : Tell6) → HandsOutHeld c (release_turned tell at salt c)
  unfolding release_turned
  release_held tell = refl

  pub rebind_held : HandsOutHeld c (rebind_turned at salt c)
  unfolding rebind_turned
  rebind_held = refl

  answers_held : (kind : ServerKind6) (d : ClientContent) (message : Content6) → HandsOutHeld d (answered at salt message kind d)
  answers_held Advertise d message =
      gated (SameHeld (heard_row (turn_of at salt d) (advertise_answer d message) d.state).news d)
      (is_kept_offer (advertise_answer d message) d.state) _ _ refl refl
  answers_held Reply d message = refl

  pub hears_held : (message : Content6) → HandsOutHeld c (hears_turned at salt message c)
  unfolding hears_turned
  hears_held message =
      gated (HandsOutHeld c) (counts c message) _ _ (answers_held message.kind (learnt message.sol_max c) message) refl

-- An address that another host uses changes what is held. Where the last one of a restart goes, the lease that was held is told.
contested_partly : (turn : Turn6) (state : State6) → NotOfHeld (duplicate_row turn Partly state)
contested_partly turn Off = refl
contested_partly turn (Waiting due) = refl
contested_partly turn (Soliciting exchange offer) = refl
contested_partly turn (Requesting exchange) = refl
contested_partly turn Bound = refl
contested_partly turn (Renewing exchange) = refl
contested_partly turn (Rebinding exchange) = refl
contested_partly turn (Restarting exchange end since true) = refl
contested_partly turn (Restarting exchange end since false) = refl
contested_partly turn (Declining exchange) = refl

abbrev Wholly : Parting6
Wholly = record { goes = true; stays = false }

contested_wholly : (turn : Turn6) (state : State6) → is_restarting state ≡ false → NotOfHeld (duplicate_row turn Wholly state)
contested_wholly turn Off other = refl
contested_wholly turn (Waiting due) other = refl
contested_wholly turn (Soliciting exchange offer) other = refl
contested_wholly turn (Requesting exchange) other = refl
contested_wholly turn Bound other = refl
contested_wholly turn (Renewing exchange) other = refl
contested_wholly turn (Rebinding exchange) other = refl
contested_wholly turn (Restarting exchange end since stands) other = cc
contested_wholly turn (Declining exchange) other = refl

none_arm : {A : Type 0} (P : A → Type 0) (b : Bool) (one other : A) → P other → P (cond (b && false) one other)
none_arm P true one other h = h
none_arm P false one other h = h

contested_told : (turn : Turn6) (address : Ip6) (c : ClientContent) (goes stays : Bool)
    → SameHeld (duplicate_row turn (record { goes = goes; stays = stays }) c.state).news c (given_up address (record { goes = goes; stays = stays }) c)
contested_told turn address c true true = none_told (duplicate_row turn Partly c.state).news _ _ _ _ (contested_partly turn c.state)
contested_told turn address c true false =
    split (is_restarting c.state)
    (λ restarts. rw restarts (gated (SameHeld (duplicate_row turn Wholly c.state).news c) (holds c.state && true) _ _ refl refl))
    (λ other. none_told (duplicate_row turn Wholly c.state).news _ _ _ _ (contested_wholly turn c.state other))
contested_told turn address c false stays =
    none_arm (SameHeld (duplicate_row turn (record { goes = false; stays = stays }) c.state).news c) (holds c.state) _ _ refl

pub contested_held : (c : ClientContent) (at salt : ℕ) (address : Ip6) → HandsOutHeld c (contested_turned address at salt c)
unfolding contested_turned
contested_held c at salt address =
    contested_told (turn_of at salt c) address c (parting_at (Duplicate address) c).goes (parting_at (Duplicate address) c).stays
