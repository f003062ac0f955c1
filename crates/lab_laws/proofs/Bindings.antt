-- After each line of a lab whose text ends with `xids unlike`: each lease ends no later than its binding, and no address is held twice.
use Rattle.std.proofs.Common.{◌≡◌, ℕ, suc, ◌+◌, Bool, true, false, List, [], ◌∷◌, ◌++◌, map, length, Option, Some, None, IfSome, refl, sym, ap, subst, ◌∙◌, arith}
use Rattle.std.specs.Prelude.{AllPairs}
use Rattle.std.specs.List.{AllByRecursion, Contains}
use Rattle.std.proofs.lemmas.List.Elements.{All-contains_itself, recursion_from_All}
use Rattle.net_types.proofs.AllLaws.{all_map}
use Rattle.net_types.specs.declared.address.Ip4.{Ip4}
use Rattle.lease_text.specs.Leases.{LeaseContent}
use Rattle.v4_client.specs.Clients.{held_of}
use Rattle.settings.specs.declared.interfaces.Managed.{Managed}
use Rattle.client_model.specs.declared.interfaces.Iface.{Iface}
use Rattle.client_model.specs.Clients.{Client, Sending}
use Rattle.client_model.specs.IfaceTurns.{Turn}
use Rattle.lab_peer.specs.Bindings.{lease_end}
use Rattle.lab_peer.specs.Granting.{IsBoundUntil}
use Rattle.lab_schedule.specs.declared.event.LabEvent.{LabEvent}
use Rattle.lab_schedule.specs.declared.event.LabEvent.TheVariants.{Tick, Carrier, Release, Give, Hear}
use Rattle.lab_schedule.specs.Schedules.{FitsPool, Schedule}
use Rattle.lab_model.specs.Exchanges.{xids_unlike}
use Rattle.lab_model.specs.LabLines.{LabLine, XidsUnlike, XidsRepeat, client_lines, held_line, last_line, lease_lines, lines_from, lines_of, peer_lines}
use Rattle.lab_model.specs.Labs.{Lab, LabStep, lab_after, lab_opened, lab_step, no_lab, numbered, raised}
use Rattle.lab_laws.specs.HeldInLabs.{ApartFrom, EachEndsWithBinding, EndAfterTurn, EndAfterTurns, EndsUnlike, EndsWithBinding, LeasesEndWithBindings, NoAddressTwice}
use Rattle.lab_laws.specs.LabClients.{AreApart, AreClients}
use Rattle.lab_laws.specs.Lives.{turn_of, turns_onto, with_turn}
use Rattle.lab_laws.specs.Messages.{Start, messages_after, step_after}
use Rattle.lab_laws.proofs.Apart.{same_after, heard_so}
use Rattle.lab_laws.proofs.Bounds.{one_binding}
use Rattle.lab_laws.proofs.FollowedTurns.{messages_follow}
use Rattle.lab_laws.proofs.FramesSaid.{start}
use Rattle.lab_laws.proofs.Grants.{lease_bound}
use Rattle.lab_laws.proofs.LabFacts.{LabSo, begin, first_so, line_so, lines_so}
use Rattle.lab_laws.proofs.OpenExchanges.{moment_in}
use Rattle.lab_laws.proofs.SaidRead.{unlike_each}
use Rattle.lab_laws.proofs.Timed.{GoWell, well_before}

-- ---- the last line of a text

abbrev last_of : (first : LabLine) → List LabLine → LabLine
last_of first [] = first
last_of first (line ∷ lines) = last_of line lines

last_behind : (first : LabLine) (front lines : List LabLine) → last_of first (front ++ lines) ≡ last_of (last_of first front) lines
last_behind first [] lines = refl
last_behind first (line ∷ front) lines = last_behind line front lines

last_from : (first : LabLine) (events : List LabEvent) (lab : Lab) → last_of first (lines_from events lab) ≡ last_line (xids_unlike (lab_after events lab).sent)
last_from first [] lab = refl
last_from first (event ∷ events) lab =
    last_behind first (lines_of lab (lab_step event lab)) (lines_from events (lab_step event lab).lab)
    ∙ last_from (last_of first (lines_of lab (lab_step event lab))) events (lab_step event lab).lab

is_unlike : (unlike : Bool) → last_line unlike ≡ XidsUnlike → unlike ≡ true
is_unlike true is = refl
is_unlike false is = absurd cc

ends_unlike : (managed : List Managed) (schedule : Schedule) → EndsUnlike managed schedule
    → xids_unlike (lab_after schedule.events (lab_opened managed schedule).lab).sent ≡ true
ends_unlike managed schedule ends =
    let first : Lab = (lab_opened managed schedule).lab in
    let opening : List LabLine = lines_of (no_lab schedule.pool) (lab_opened managed schedule) in
    is_unlike (xids_unlike (lab_after schedule.events first).sent)
    (sym (last_behind XidsRepeat opening (lines_from schedule.events first) ∙ last_from (last_of XidsRepeat opening) schedule.events first)
    ∙ ap (last_of XidsRepeat) ends.is ∙ last_behind XidsRepeat ends.front (XidsUnlike ∷ []))

-- ---- lines that aren't of leases

-- lines that don't look back at the leases before them
abbrev Begins : List LabLine → Type 0
Begins lines = (held : List Ip4) → ApartFrom held lines

last_begins : (unlike : Bool) → Begins (last_line unlike ∷ [])
last_begins true held = tt
last_begins false held = tt

behind_clients : (before : ℕ) (sends : List Sending) (rest more : List LabLine) → ApartFrom [] (rest ++ more)
    → ApartFrom [] ((client_lines before sends ++ rest) ++ more)
behind_clients before [] rest more h = h
behind_clients before (sending ∷ sends) rest more h = behind_clients (before + 1) sends rest more h

behind_peer : (before : ℕ) (makes : Option (List ℕ)) (rest more : List LabLine) → ApartFrom [] (rest ++ more)
    → ApartFrom [] ((peer_lines before makes ++ rest) ++ more)
behind_peer before None rest more h = h
behind_peer before (Some bytes) rest more h = h

-- the leases of some interfaces, in front of such lines
abbrev HoldApart : List Ip4 → List Iface → Type 0
HoldApart held ifaces = (more : List LabLine) → Begins more → ApartFrom held (lease_lines ifaces ++ more)

step_begins : (before : Lab) (step : LabStep) (more : List LabLine) → HoldApart [] step.lab.client.ifaces → Begins more → Begins (lines_of before step ++ more)
step_begins before step more apart begins held =
    behind_clients (length before.sent) step.sends (peer_lines (length before.made) step.makes ++ lease_lines step.lab.client.ifaces) more
    (behind_peer (length before.made) step.makes (lease_lines step.lab.client.ifaces) more (apart more begins))

-- ---- clients that are apart

-- each client is apart from those that come after it
abbrev EachApart : List Managed → Type 0
EachApart [] = Unit {0}
EachApart (one ∷ others) = AllByRecursion (AreApart one) others × EachApart others

each_apart : (some : List Managed) → AllPairs AreApart some → EachApart some
each_apart [] pairs = tt
each_apart (one ∷ others) pairs = (
  recursion_from_All (AreApart one) others (λ j d within. pairs 0 (suc j) d (omega (arith)) (omega (arith, within))),
  each_apart others (λ i j d lt within. pairs (suc i) (suc j) d (omega (arith, lt)) (omega (arith, within))),
)

module _ (managed : List Managed) (schedule : Schedule) (are : AreClients managed) where
  abbrev life : Managed → Start
  life one = start managed schedule one

  abbrev iface : List Turn → Managed → Iface
  iface turns one = (step_after (life one) turns).iface

  -- the messages of each client go well
  abbrev AllWell : List Turn → Type 0
  AllWell turns = (one : Managed) → Contains managed one → GoWell (messages_after (life one) turns)

  well_with : (turn : Option Turn) (turns : List Turn) → AllWell (with_turn turn turns) → AllWell turns
  well_with None turns well = well
  well_with (Some turn) turns well = λ one among. well_before (step_after (life one) (turn ∷ turns)).said (messages_after (life one) turns) (well one among)

  wells_before : (events : List LabEvent) (lab : Lab) (turns : List Turn) → AllWell (turns_onto events lab turns) → AllWell turns
  wells_before [] lab turns well = well
  wells_before (event ∷ events) lab turns well =
      well_with (turn_of event lab) turns (wells_before events (lab_step event lab).lab (with_turn (turn_of event lab) turns) well)

  all_well : FitsPool schedule.pool → xids_unlike (lab_after schedule.events (lab_opened managed schedule).lab).sent ≡ true
      → AllWell (turns_onto schedule.events (lab_opened managed schedule).lab [])
  all_well pool unlike one among =
      let first : Lab = (lab_opened managed schedule).lab in
      let so = lines_so managed schedule are pool schedule.events first [] (first_so managed schedule are pool) in
      record {
        follow = messages_follow (life one) (turns_onto schedule.events first []);
        unlike = unlike_each managed schedule schedule.events are so.fit unlike one among;
      }

  -- ---- right after a turn

  module _ (lab : Lab) (turns : List Turn) (so : LabSo managed schedule lab turns) (clock : lab.clock ≡ moment_in (begin managed schedule) turns)
      (well : AllWell turns) where
    one_ends : (one : Managed) → Contains managed one → EndsWithBinding lab (iface turns one)
    one_ends one among = by (held_of (iface turns one).dhcp4) refl
      where
        by : (held : Option LeaseContent) → held_of (iface turns one).dhcp4 ≡ held
            → IfSome held (λ lease. IsBoundUntil lease.net.ip (iface turns one).managed.spec.mac (lease_end lease.lease lease.first) lab.peer)
        by None is = tt
        by (Some lease) is =
            subst (λ (m : Managed). IsBoundUntil lease.net.ip m.spec.mac (lease_end lease.lease lease.first) lab.peer)
            (sym (same_after (life one) turns).managed)
            (lease_bound managed schedule are lab one among turns so clock (well one among) lease is)

    some_end : (some : List Managed) → AllByRecursion (Contains managed) some → AllByRecursion (EndsWithBinding lab) (map (iface turns) some)
    some_end [] among = tt
    some_end (one ∷ some) among = (one_ends one among.0, some_end some among.1)

    all_among : AllByRecursion (Contains managed) managed
    all_among = recursion_from_All (Contains managed) managed (All-contains_itself managed)

    each_ends : EachEndsWithBinding lab
    each_ends = subst (λ (c : Client). AllByRecursion (EndsWithBinding lab) c.ifaces) (sym so.client) (some_end managed all_among)

    -- an address is bound to a client that isn't among these
    record IsTaken (some : List Managed) (addr : Ip4) : Type 0 where
      end : Option ℕ
      holder : Managed
      bound : IsBoundUntil addr holder.spec.mac end lab.peer
      others : AllByRecursion (AreApart holder) some

    fewer : (one : Managed) (some : List Managed) (addr : Ip4) → IsTaken (one ∷ some) addr → IsTaken some addr
    fewer one some addr taken = record { end = taken.end; holder = taken.holder; bound = taken.bound; others = taken.others.1 }

    some_apart : (some : List Managed) (held : List Ip4) → AllByRecursion (Contains managed) some → EachApart some → AllByRecursion (IsTaken some) held
        → HoldApart held (map (iface turns) some)
    some_apart [] held among apart taken more begins = begins held
    some_apart (one ∷ some) held among apart taken more begins =
        by (λ addrs those. some_apart some addrs among.1 apart.1 those more begins) (held_of (iface turns one).dhcp4) refl
      where
        taken_still : AllByRecursion (IsTaken some) held
        taken_still = all_map (IsTaken (one ∷ some)) (IsTaken some) (fewer one some) held taken

        by : ((addrs : List Ip4) → AllByRecursion (IsTaken some) addrs → ApartFrom addrs (lease_lines (map (iface turns) some) ++ more))
            → (lease : Option LeaseContent) → held_of (iface turns one).dhcp4 ≡ lease
            → ApartFrom held ((held_line (iface turns one).managed.spec.index lease ++ lease_lines (map (iface turns) some)) ++ more)
        by rest None is = rest held taken_still
        by rest (Some lease) is =
            let bound : IsBoundUntil lease.net.ip one.spec.mac (lease_end lease.lease lease.first) lab.peer =
            lease_bound managed schedule are lab one among.0 turns so clock (well one among.0) lease is in (
              all_map (IsTaken (one ∷ some)) (λ (other : Ip4). lease.net.ip ≡ other → ⊥)
                  (λ other t same. t.others.0.macs (one_binding other t.holder.spec.mac one.spec.mac t.end (lease_end lease.lease lease.first) lab.peer t.bound
                  (subst (λ (addr : Ip4). IsBoundUntil addr one.spec.mac (lease_end lease.lease lease.first) lab.peer) same bound)))
                  held taken,
              rest (lease.net.ip ∷ held) (record { end = lease_end lease.lease lease.first; holder = one; bound = bound; others = apart.0 }, taken_still),
            )

    all_apart : HoldApart [] lab.client.ifaces
    all_apart = subst (λ (c : Client). HoldApart [] c.ifaces) (sym so.client) (some_apart managed [] all_among (each_apart managed are.apart) tt)

  -- ---- after each line

  module _ (pool : FitsPool schedule.pool) where
    abbrev next : LabEvent → Lab → Lab
    next event lab = (lab_step event lab).lab

    abbrev SoNext : LabEvent → Lab → List Turn → Type 0
    SoNext event lab turns = LabSo managed schedule (next event lab) (with_turn (turn_of event lab) turns)

    line_ends : (event : LabEvent) (lab : Lab) (turns : List Turn) → SoNext event lab turns → AllWell (with_turn (turn_of event lab) turns)
        → EndAfterTurn event (next event lab)
    line_ends (Tick at salt) lab turns so well = each_ends (next (Tick at salt) lab) (with_turn (turn_of (Tick at salt) lab) turns) so refl well
    line_ends (Carrier at salt iface up) lab turns so well =
        each_ends (next (Carrier at salt iface up) lab) (with_turn (turn_of (Carrier at salt iface up) lab) turns) so refl well
    line_ends (Release at salt iface) lab turns so well =
        each_ends (next (Release at salt iface) lab) (with_turn (turn_of (Release at salt iface) lab) turns) so refl well
    line_ends (Give at salt iface frame) lab turns so well =
        each_ends (next (Give at salt iface frame) lab) (with_turn (turn_of (Give at salt iface frame) lab) turns) so refl well
    line_ends (Hear at frame) lab turns so well = tt

    all_end : (events : List LabEvent) (lab : Lab) (turns : List Turn) → LabSo managed schedule lab turns → AllWell (turns_onto events lab turns)
        → EndAfterTurns events lab
    all_end [] lab turns so well = tt
    all_end (event ∷ events) lab turns so well =
        let later : SoNext event lab turns = line_so managed schedule are pool event lab turns so in (
          line_ends event lab turns later (wells_before events (next event lab) (with_turn (turn_of event lab) turns) well),
          all_end events (next event lab) (with_turn (turn_of event lab) turns) later well,
        )

    line_apart : (event : LabEvent) (lab : Lab) (turns : List Turn) → SoNext event lab turns → AllWell (with_turn (turn_of event lab) turns)
        → HoldApart [] lab.client.ifaces → HoldApart [] (next event lab).client.ifaces
    line_apart (Tick at salt) lab turns so well before = all_apart (next (Tick at salt) lab) (with_turn (turn_of (Tick at salt) lab) turns) so refl well
    line_apart (Carrier at salt iface up) lab turns so well before =
        all_apart (next (Carrier at salt iface up) lab) (with_turn (turn_of (Carrier at salt iface up) lab) turns) so refl well
    line_apart (Release at salt iface) lab turns so well before =
        all_apart (next (Release at salt iface) lab) (with_turn (turn_of (Release at salt iface) lab) turns) so refl well
    line_apart (Give at salt iface frame) lab turns so well before =
        all_apart (next (Give at salt iface frame) lab) (with_turn (turn_of (Give at salt iface frame) lab) turns) so refl well
    line_apart (Hear at frame) lab turns so well before =
        subst (λ (c : Client). HoldApart [] c.ifaces) (sym (heard_so managed schedule (raised at lab) (numbered frame lab.sent) lab)) before

    lines_begin : (events : List LabEvent) (lab : Lab) (turns : List Turn) → LabSo managed schedule lab turns → AllWell (turns_onto events lab turns)
        → HoldApart [] lab.client.ifaces → Begins (lines_from events lab)
    lines_begin [] lab turns so well before = last_begins (xids_unlike lab.sent)
    lines_begin (event ∷ events) lab turns so well before =
        let later : SoNext event lab turns = line_so managed schedule are pool event lab turns so in
        let apart : HoldApart [] (next event lab).client.ifaces =
        line_apart event lab turns later (wells_before events (next event lab) (with_turn (turn_of event lab) turns) well) before in
        step_begins lab (lab_step event lab) (lines_from events (next event lab)) apart
        (lines_begin events (next event lab) (with_turn (turn_of event lab) turns) later well apart)

pub leases_end_with_bindings : LeasesEndWithBindings
leases_end_with_bindings managed schedule are fits ends =
    let first : Lab = (lab_opened managed schedule).lab in
    let so : LabSo managed schedule first [] = first_so managed schedule are fits.pool in
    let well = all_well managed schedule are fits.pool (ends_unlike managed schedule ends) in (
      each_ends managed schedule are first [] so refl (wells_before managed schedule are schedule.events first [] well),
      all_end managed schedule are fits.pool schedule.events first [] so well,
    )

pub no_address_twice : NoAddressTwice
no_address_twice managed schedule are fits ends =
    let first : Lab = (lab_opened managed schedule).lab in
    let so : LabSo managed schedule first [] = first_so managed schedule are fits.pool in
    let well = all_well managed schedule are fits.pool (ends_unlike managed schedule ends) in
    let apart : HoldApart [] first.client.ifaces =
    all_apart managed schedule are first [] so refl (wells_before managed schedule are schedule.events first [] well) in
    step_begins (no_lab schedule.pool) (lab_opened managed schedule) (lines_from schedule.events first) apart
    (lines_begin managed schedule are fits.pool schedule.events first [] so well apart) []
