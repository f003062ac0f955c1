-- What was begun of the frames, of the host's changes and of hooks, as the code asks them.
use Rattle.std.proofs.Common.{ℕ, ◌≡◌, ◌+◌, ◌<◌, Bool, List, ◌∷◌, length, get_or, drop, Option, Some, None, refl, sym, subst, ◌∙◌}
use Rattle.std.specs.Prelude.{map, option_map}
use Rattle.net_types.proofs.ReadsLaws.{some_same}
use Rattle.world.specs.declared.rows.HostRow.{HostRow}
use Rattle.world.specs.declared.hooking.Poll as said
use Rattle.world.specs.HookCalls.{Job}
use Rattle.host_tables.specs.declared.union.Diff.{Diff}
use Rattle.hook_child.specs.declared.child.Child.{Child}
use Rattle.hook_child.specs.Supervision.{Supervision, Order, Start, Abandon, poll_order, after_poll, next_order, after_next}
use Rattle.settings.specs.declared.interfaces.Managed.{Managed}
use Rattle.client_core.specs.IfaceMachines.declared.outs.Sending.{Sending}
use Rattle.client_core.specs.IfaceMachines.Outcomes.{sending_of}
use Rattle.host_model.specs.declared.changes.HostChange.{HostChange}
use Rattle.host_model.specs.HostTable.{InRowOrder}
use Rattle.host_model.specs.HostTurn.{changes}
use Rattle.device_calls.specs.Calls.{Offer, ListRows, Change}
use Rattle.device_calls.specs.Calls as asks
use Rattle.device_calls.specs.Programs.{Done, Then}
use Rattle.device_calls.specs.Worlds.{Seen}
use Rattle.device_calls.specs.Does.{Does}
use Rattle.device_calls.specs.Fronts.{HasBegun}
use Rattle.device_calls.proofs.Begun.{begun_ask, begun_next}
use Rattle.turn_model.specs.Turns.{marked, offering, known_with, changing, rows_on, hosting_listed, hosting}
use Rattle.turn_model.specs.Hooking.{heard, letting_go, polling_child, polling, started, starting}
use Rattle.life_asks.specs.declared.tables.Pending.{Pending}
use Rattle.life_asks.specs.declared.tables.Pending.TheVariants as pending
use Rattle.life_asks.specs.Tables.{changes_by, BeginsChanges, BeginsUpdate, BeginsHosts}
use Rattle.life_devices.proofs.Begins.{one_dropped}
use Rattle.life_asks.proofs.HostSteps.{changes_led}

-- ---- frames

pub offering_begun : (sends later : List Sending) (first : Sending) (unsent : ℕ) (old new : Seen) → sends ≡ first ∷ later
    → HasBegun (Then (Offer first.iface.number first.bytes.items) Done) old new → HasBegun (offering (map sending_of sends) unsent) old new
offering_begun sends later first unsent old new same begun =
    subst (λ (all : List Sending). HasBegun (offering (map sending_of all) unsent) old new) (sym same)
    (begun_ask (Offer first.iface.number first.bytes.items) (λ ok. offering (map sending_of later) (marked unsent first.iface.number ok)) old new begun)

pub offering_later : (sends later : List Sending) (first : Sending) (unsent : ℕ) (taken : Bool) (old mid new : Seen) (t u : List ℕ) → sends ≡ first ∷ later
    → Does (Then (Offer first.iface.number first.bytes.items) Done) taken old mid t u
    → HasBegun (offering (map sending_of later) (marked unsent first.iface.number taken)) mid new
    → HasBegun (offering (map sending_of sends) unsent) old new
offering_later sends later first unsent taken old mid new t u same one begun =
    subst (λ (all : List Sending). HasBegun (offering (map sending_of all) unsent) old new) (sym same)
    (begun_next (Offer first.iface.number first.bytes.items)
    (λ ok. offering (map sending_of later) (marked unsent first.iface.number ok)) taken old mid new t u one begun)

-- ---- the host

pub changing_begun : (made : List HostChange) (i : ℕ) (d : HostChange) (known : Option (List HostRow)) (old new : Seen) → i < length made
    → HasBegun (Then (Change (get_or made i d)) Done) old new → HasBegun (changing (drop i made) known) old new
changing_begun made i d known old new lt begun =
    subst (λ (cs : List HostChange). HasBegun (changing cs known) old new) (sym (one_dropped made i d lt))
    (begun_ask (Change (get_or made i d)) (λ done. changing (drop (i + 1) made) (known_with done (get_or made i d) known)) old new begun)

pub changing_later : (made : List HostChange) (i : ℕ) (d : HostChange) (done : Bool) (known next : Option (List HostRow)) (old mid new : Seen) (t u : List ℕ)
    → i < length made
    → Does (Then (Change (get_or made i d)) Done) done old mid t u → next ≡ known_with done (get_or made i d) known
    → HasBegun (changing (drop (i + 1) made) next) mid new → HasBegun (changing (drop i made) known) old new
changing_later made i d done known next old mid new t u lt one next_is begun =
    subst (λ (cs : List HostChange). HasBegun (changing cs known) old new) (sym (one_dropped made i d lt))
    (begun_next (Change (get_or made i d)) (λ done. changing (drop (i + 1) made) (known_with done (get_or made i d) known)) done old mid new t u one
    (subst (λ (k : Option (List HostRow)). HasBegun (changing (drop (i + 1) made) k) mid new) next_is begun))

pub update_begun : (diff : Diff) (made : List HostChange) (old new : Seen) → made ≡ changes_by diff → BeginsChanges made old new → BeginsUpdate diff old new
update_begun diff made old new made_is begins known wanted in_order wanted_in_order leads =
    subst (λ (cs : List HostChange). HasBegun (changing cs (Some known)) old new) (made_is ∙ changes_led diff known wanted leads) (begins known)

pub listed_later : (managed : List Managed) (wanted rows mine : List HostRow) (listed : Option (List HostRow)) (old mid new : Seen) (t u : List ℕ)
    → listed ≡ Some rows → mine ≡ rows_on managed rows
    → Does (Then ListRows Done) listed old mid t u → HasBegun (changing (changes mine wanted) (Some mine)) mid new
    → HasBegun (hosting managed wanted None) old new
listed_later managed wanted rows mine listed old mid new t u rows_are mine_is did begun =
    begun_next ListRows (hosting_listed managed wanted) (Some rows) old mid new t u
    (subst (λ (r : Option (List HostRow)). Does (Then ListRows Done) r old mid t u) rows_are did)
    (subst (λ (m : List HostRow). HasBegun (changing (changes m wanted) (Some m)) mid new) mine_is begun)

known_begun : (managed : List Managed) (diff : Diff) (wanted : List HostRow) (old new : Seen) → InRowOrder wanted → BeginsUpdate diff old new
    → BeginsHosts managed (pending.Changes diff) wanted old new
known_begun managed diff wanted old new in_order begins None knew = absurd knew
known_begun managed diff wanted old new in_order begins (Some known) knew = begins known wanted knew.0 in_order knew.1

pub changes_begun : (managed : List Managed) (due : Pending) (diff : Diff) (wanted : List HostRow) (old new : Seen) → due ≡ pending.Changes diff
    → InRowOrder wanted
    → BeginsUpdate diff old new → BeginsHosts managed due wanted old new
changes_begun managed due diff wanted old new is in_order begins =
    subst (λ (p : Pending). BeginsHosts managed p wanted old new) (sym is) (known_begun managed diff wanted old new in_order begins)

pub unknown_begun : (managed : List Managed) (due : Pending) (wanted : List HostRow) (old new : Seen) → due ≡ pending.Unknown
    → HasBegun (hosting managed wanted None) old new → BeginsHosts managed due wanted old new
unknown_begun managed due wanted old new is begun =
    subst (λ (p : Pending). BeginsHosts managed p wanted old new) (sym is)
    (λ known none. subst (λ (k : Option (List HostRow)). HasBegun (hosting managed wanted k) old new) (sym none) begun)

-- ---- hooks

module _ (hooks : Supervision) (number at : ℕ) (runs : Some number ≡ option_map (λ (child : Child). child.number) hooks.child) where
  polls_as : (old new : Seen)
      → HasBegun (Then (asks.Poll number) (λ answer. letting_go number (poll_order (heard answer) at hooks.child) (after_poll (heard answer) at hooks))) old new
      → HasBegun (polling at hooks) old new
  polls_as old new begun = go hooks.child refl runs
    where
      go : (child : Option Child) → hooks.child ≡ child → Some number ≡ option_map (λ (c : Child). c.number) child → HasBegun (polling at hooks) old new
      go None is n = absurd cc
      go (Some child) is n =
          let same : number ≡ child.number = some_same n in
          subst (λ (c : Option Child). HasBegun (polling_child at hooks c) old new) (sym is)
          (subst
          (λ (k : ℕ). HasBegun
          (Then (asks.Poll k) (λ answer. letting_go k (poll_order (heard answer) at hooks.child) (after_poll (heard answer) at hooks))) old new)
          same begun)

  pub polls_begun : (old new : Seen) → HasBegun (Then (asks.Poll number) Done) old new → HasBegun (polling at hooks) old new
  polls_begun old new begun =
      polls_as old new
      (begun_ask (asks.Poll number)
      (λ answer. letting_go number (poll_order (heard answer) at hooks.child) (after_poll (heard answer) at hooks)) old new begun)

  pub abandons_begun : (answer : Option said.Poll) (order : Order) (old mid new : Seen) (t u : List ℕ) → Does (Then (asks.Poll number) Done) answer old mid t u
      → order ≡ poll_order (heard answer) at hooks.child → order ≡ Abandon → HasBegun (Then (asks.Abandon number) Done) mid new
      → HasBegun (polling at hooks) old new
  abandons_begun answer order old mid new t u polls order_is abandons begun =
      let line : Supervision = after_poll (heard answer) at hooks in
      polls_as old new
      (begun_next (asks.Poll number) (λ a. letting_go number (poll_order (heard a) at hooks.child) (after_poll (heard a) at hooks)) answer old mid new t u polls
      (subst (λ (o : Order). HasBegun (letting_go number o line) mid new) (sym abandons ∙ order_is)
      (begun_ask (asks.Abandon number) (λ _. Done line) mid new begun)))

pub starts_begun : (hooks : Supervision) (at : ℕ) (job : Job) (order : Order) (old new : Seen) → order ≡ next_order hooks → order ≡ Start job
    → HasBegun (Then (asks.Start job) Done) old new → HasBegun (starting (next_order hooks) (after_next at hooks)) old new
starts_begun hooks at job order old new order_is starts begun =
    subst (λ (o : Order). HasBegun (starting o (after_next at hooks)) old new) (sym starts ∙ order_is)
    (begun_ask (asks.Start job) (λ done. Done (started done (after_next at hooks))) old new begun)
