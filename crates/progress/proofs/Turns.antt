use Rattle.std.proofs.Common.{◌≡◌, ℕ, ◌+◌, ◌==◌, ◌<◌, ◌≤◌, max, List, [], ◌∷◌, Option, Some, None, inl, inr, refl, sym, ap, subst, ◌∙◌, arith}
use Rattle.std.specs.Prelude.{◌⊎◌}
use Rattle.net_types.proofs.CaseLaws.{split}
use Rattle.net_types.specs.declared.address.Ip4.{Ip4}
use Rattle.net_types.specs.declared.address.Mac.{Mac}
use Rattle.frame_link.specs.declared.arp.ArpView.{ArpView}
use Rattle.ipv4ll.specs.declared.link_local.LinkLocal.{LinkLocal}
use Rattle.ipv4ll.specs.declared.link_local.Fallback.TheVariants.{Choose}
use Rattle.ipv4ll.specs.declared.link_local.Waits.TheVariants.{ForNothing}
use Rattle.ipv4ll.specs.Table.{due_of, held_in, ll_tick}
use Rattle.ipv4ll.specs.History.{LlEvent, Arm, Tick, Heard, moment, ll_step}
use Rattle.world.specs.declared.wakes.Event.{Event}
use Rattle.world.specs.declared.wakes.Event.TheVariants.{Frame, Carrier, Duplicate, Release, Rebind, Stop, Quiet, End}
use Rattle.settings.specs.declared.interfaces.Managed.{Managed}
use Rattle.client_model.specs.declared.interfaces.Iface.{Iface}
use Rattle.client_model.specs.IfaceTurns.{Turn}
use Rattle.client_model.specs.Runs.{iface_run}
use Rattle.progress.specs.GoingWell.{NotAfter, NobodyContests, IsUncontested, LinkTakes, CarrierStays}
use Rattle.progress.specs.InterfaceHeld.{begun, HeldByTurns, InterfaceHoldsInTime}
use Rattle.progress.specs.TurnsGoingWell.{moment_of_turns, packet_for, IsPromptTurn, IsFairTurn, PromptTurns, FairTurns}
use Rattle.progress.proofs.Gaining.{Pending, After, step_goes, none_left, same}
use Rattle.progress.proofs.Interface.{Stands, Chooses, hearing, rearmed, machine_after, turned, opened_stands, asked}
use Rattle.progress.proofs.Staying.{step_stays}

-- Over all turns: the address is pending, or it is held since some turn that came in time.

-- what is asked for once a turn has come is at that moment or later, or at once
at_once : (asked : Option ℕ) (at : ℕ) → NotAfter asked at at
at_once None at = tt
at_once (Some due) at = within due at
  where
    within : (due at : ℕ) → at ≤ max due at
    within due at = grind arith

-- a further event at the moment of the turn
again : (own : List Mac) (ll : LinkLocal) (end : ℕ) (event : LlEvent) → LinkTakes event → CarrierStays event
    → NobodyContests own ll.state event → After end (moment event) ll.state → After end (moment event) (ll_step own ll event).ll.state
again own ll end event taken up alone (inl pending) =
    step_goes own ll.iface ll.state end (moment event) event pending (at_once (due_of ll.state) (moment event)) taken up alone
again own ll end event taken up alone (inr g) =
    inr (record { addr = g.addr; held = step_stays own ll.iface ll.state event g.addr g.held taken up alone; in_time = g.in_time })

heard_after : (own : List Mac) (ll : LinkLocal) (end at salt : ℕ) (packet : Option ArpView)
    → ((arp : ArpView) → packet ≡ Some arp → IsUncontested own ll.state arp)
    → After end at ll.state → After end at (hearing own at salt packet ll).state
heard_after own ll end at salt None alone h = h
heard_after own ll end at salt (Some arp) alone h = again own ll end (Heard arp at salt) tt tt (alone arp refl) h

rearmed_after : (own : List Mac) (ll : LinkLocal) (end at index : ℕ) (event : Event) → After end at ll.state → After end at (rearmed index at event ll).state
rearmed_after own ll end at index (Rebind other) h =
    split (index == other) (λ mine. rw mine (again own ll end (Arm at at ForNothing Choose) tt tt tt h)) (λ alien. rw alien h)
rearmed_after own ll end at index (Frame other len) h = h
rearmed_after own ll end at index (Carrier other up) h = h
rearmed_after own ll end at index (Duplicate other addr) h = h
rearmed_after own ll end at index (Release other) h = h
rearmed_after own ll end at index Stop h = h
rearmed_after own ll end at index Quiet h = h
rearmed_after own ll end at index End h = h

inputs_after : (own : List Mac) (index : ℕ) (turn : Turn) (ll : LinkLocal) (end : ℕ)
    → ((arp : ArpView) → packet_for index turn.event turn.bytes ≡ Some arp → IsUncontested own (ll_tick ll turn.at turn.salt).ll.state arp)
    → After end turn.at (ll_tick ll turn.at turn.salt).ll.state → After end turn.at (machine_after own index turn ll).state
inputs_after own index turn ll end alone h =
    rearmed_after own (hearing own turn.at turn.salt (packet_for index turn.event turn.bytes) (ll_tick ll turn.at turn.salt).ll) end turn.at index turn.event
    (heard_after own (ll_tick ll turn.at turn.salt).ll end turn.at turn.salt (packet_for index turn.event turn.bytes) alone h)

-- a held address stays so
stays_after : (own : List Mac) (index : ℕ) (turn : Turn) (ll : LinkLocal) (addr : Ip4)
    → ((arp : ArpView) → packet_for index turn.event turn.bytes ≡ Some arp → IsUncontested own (ll_tick ll turn.at turn.salt).ll.state arp)
    → held_in ll.state ≡ Some addr → held_in (machine_after own index turn ll).state ≡ Some addr
stays_after own index turn ll addr alone h =
    rearmed_stays (hearing own turn.at turn.salt (packet_for index turn.event turn.bytes) (ll_tick ll turn.at turn.salt).ll) turn.event
    (heard_stays (ll_tick ll turn.at turn.salt).ll (packet_for index turn.event turn.bytes) alone
    (step_stays own ll.iface ll.state (Tick turn.at turn.salt) addr h tt tt tt))
  where
    heard_stays : (ll : LinkLocal) (packet : Option ArpView)
        → ((arp : ArpView) → packet ≡ Some arp → IsUncontested own ll.state arp)
        → held_in ll.state ≡ Some addr → held_in (hearing own turn.at turn.salt packet ll).state ≡ Some addr
    heard_stays ll None alone h = h
    heard_stays ll (Some arp) alone h = step_stays own ll.iface ll.state (Heard arp turn.at turn.salt) addr h tt tt (alone arp refl)

    rearmed_stays : (ll : LinkLocal) (event : Event) → held_in ll.state ≡ Some addr → held_in (rearmed index turn.at event ll).state ≡ Some addr
    rearmed_stays ll (Rebind other) h =
        split (index == other)
        (λ mine. rw mine (step_stays own ll.iface ll.state (Arm turn.at turn.at ForNothing Choose) addr h tt tt tt))
        (λ alien. rw alien h)
    rearmed_stays ll (Frame other len) h = h
    rearmed_stays ll (Carrier other up) h = h
    rearmed_stays ll (Duplicate other addr) h = h
    rearmed_stays ll (Release other) h = h
    rearmed_stays ll Stop h = h
    rearmed_stays ll Quiet h = h
    rearmed_stays ll End h = h

-- ---- the run

record Goes (own : List Mac) (managed : Managed) (iface : Iface) (start : ℕ) (turns : List Turn) (end : ℕ) : Type 0 where
  pub ll : LinkLocal
  pub stands : Stands managed ll (iface_run own iface turns)
  pub so : Pending end (moment_of_turns start turns) ll.state ⊎ HeldByTurns own iface start turns end

machine_is : (managed : Managed) (ll : LinkLocal) (iface : Iface) → Stands managed ll iface → iface.local ≡ ll
machine_is managed ll iface s = ap (λ (i : Iface). i.local) s.is

index_is : (managed : Managed) (ll : LinkLocal) (iface : Iface) → Stands managed ll iface → iface.managed.spec.index.number ≡ managed.spec.index.number
index_is managed ll iface s = ap (λ (i : Iface). i.managed.spec.index.number) s.is

-- the premise of a turn, of the machine that stands so
record IsFairHere (own : List Mac) (index : ℕ) (ll : LinkLocal) (turn : Turn) : Type 0 where
  pub alone : (arp : ArpView) → packet_for index turn.event turn.bytes ≡ Some arp
      → IsUncontested own (ll_tick ll turn.at turn.salt).ll.state arp

fair_here : (own : List Mac) (managed : Managed) (ll : LinkLocal) (iface : Iface) (turn : Turn) → Stands managed ll iface
    → IsFairTurn own iface turn → IsFairHere own managed.spec.index.number ll turn
fair_here own managed ll iface turn s fair =
    record { alone = (subst (λ i. IsFairTurn own i turn) s.is fair).alone }

module _ (own : List Mac) (managed : Managed) (choosing : Chooses managed) (iface : Iface) (start end : ℕ) (turn : Turn) (turns : List Turn) where
  run : Iface
  run = iface_run own iface turns

  now_held : (ll : LinkLocal) → Stands managed ll (iface_run own iface (turn ∷ turns)) → After end turn.at ll.state
      → Pending end turn.at ll.state ⊎ HeldByTurns own iface start (turn ∷ turns) end
  now_held ll s (inl pending) = inl pending
  now_held ll s (inr g) = inr (record {
    later = [];
    earlier = turn ∷ turns;
    cut = refl;
    in_time = g.in_time;
    addr = g.addr;
    gained = ap (λ (l : LinkLocal). held_in l.state) (machine_is managed ll (iface_run own iface (turn ∷ turns)) s) ∙ g.held;
    kept = ap (λ (l : LinkLocal). held_in l.state) (machine_is managed ll (iface_run own iface (turn ∷ turns)) s) ∙ g.held;
  })

  still_held : (ll : LinkLocal) → Stands managed ll (iface_run own iface turns)
      → Stands managed (machine_after own managed.spec.index.number turn ll) (iface_run own iface (turn ∷ turns))
      → IsFairHere own managed.spec.index.number ll turn → HeldByTurns own iface start turns end → HeldByTurns own iface start (turn ∷ turns) end
  still_held ll s anew fair h = record {
    later = turn ∷ h.later;
    earlier = h.earlier;
    cut = ap (λ (ts : List Turn). turn ∷ ts) h.cut;
    in_time = h.in_time;
    addr = h.addr;
    gained = h.gained;
    kept = ap (λ (l : LinkLocal). held_in l.state) (machine_is managed _ (iface_run own iface (turn ∷ turns)) anew)
        ∙ stays_after own managed.spec.index.number turn ll h.addr fair.alone
        (ap (λ (l : LinkLocal). held_in l.state) (sym (machine_is managed ll (iface_run own iface turns) s)) ∙ h.kept);
  }

  so_after : (ll : LinkLocal) → Stands managed ll (iface_run own iface turns)
      → Stands managed (machine_after own managed.spec.index.number turn ll) (iface_run own iface (turn ∷ turns))
      → IsPromptTurn (iface_run own iface turns) (moment_of_turns start turns) turn → IsFairHere own managed.spec.index.number ll turn
      → Pending end (moment_of_turns start turns) ll.state ⊎ HeldByTurns own iface start turns end
      → Pending end turn.at (machine_after own managed.spec.index.number turn ll).state ⊎ HeldByTurns own iface start (turn ∷ turns) end
  so_after ll s anew prompt fair (inl pending) =
      now_held (machine_after own managed.spec.index.number turn ll) anew
      (inputs_after own managed.spec.index.number turn ll end fair.alone
      (step_goes own ll.iface ll.state end (moment_of_turns start turns) (Tick turn.at turn.salt) pending
      (asked managed ll (iface_run own iface turns) (moment_of_turns start turns) turn.at s prompt.in_time) tt tt tt))
  so_after ll s anew prompt fair (inr h) = inr (still_held ll s anew fair h)

  goes_on : Goes own managed iface start turns end → IsPromptTurn (iface_run own iface turns) (moment_of_turns start turns) turn
      → IsFairTurn own (iface_run own iface turns) turn → Goes own managed iface start (turn ∷ turns) end
  goes_on g prompt fair =
      let here : IsFairTurn own (iface_run own iface turns) turn = fair in
      let anew : Stands managed (machine_after own managed.spec.index.number turn g.ll) (iface_run own iface (turn ∷ turns)) =
      turned managed choosing own turn g.ll (iface_run own iface turns) g.stands
      (subst (λ i. IsFairTurn own i turn) g.stands.is fair).taken (subst (λ i. IsFairTurn own i turn) g.stands.is fair).goes_on in
      record {
        ll = machine_after own managed.spec.index.number turn g.ll;
        stands = anew;
        so = so_after g.ll g.stands anew prompt (fair_here own managed g.ll (iface_run own iface turns) turn g.stands fair) g.so;
      }

all_go : (own : List Mac) (managed : Managed) → Chooses managed → (iface : Iface) (start end : ℕ) (turns : List Turn)
    → Goes own managed iface start [] end → PromptTurns own iface start turns → FairTurns own iface turns → Goes own managed iface start turns end
all_go own managed choosing iface start end [] first prompt fair = first
all_go own managed choosing iface start end (turn ∷ turns) first prompt fair =
    goes_on own managed choosing iface start end turn turns (all_go own managed choosing iface start end turns first prompt.1 fair.1) prompt.0 fair.0

ended : (own : List Mac) (managed : Managed) (iface : Iface) (start : ℕ) (turns : List Turn) (end : ℕ) (ll : LinkLocal) → end < moment_of_turns start turns
    → Pending end (moment_of_turns start turns) ll.state ⊎ HeldByTurns own iface start turns end → HeldByTurns own iface start turns end
ended own managed iface start turns end ll late (inl pending) = absurd (none_left end (moment_of_turns start turns) ll.state late pending)
ended own managed iface start turns end ll late (inr h) = h

pub interface_holds_in_time : InterfaceHoldsInTime
interface_holds_in_time own b up at salt turns c prompt fair late =
    let g : Goes own b.managed (begun up at salt b) at turns (at + 7000) =
    all_go own b.managed (record { no_dhcp4 = c.no_dhcp4; chooses = c.chooses }) (begun up at salt b) at (at + 7000) turns
    (record {
      ll = _;
      stands = opened_stands b up at salt c;
      so = inl (refl, same at, same (at + 7000));
    }) prompt fair in
    ended own b.managed (begun up at salt b) at turns (at + 7000) g.ll late g.so
