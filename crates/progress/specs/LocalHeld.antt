-- That a link-local address is held in time, and stays (RFC 3927). Moments are in milliseconds.
use Rattle.std.specs.Prelude.{◌≡◌, ℕ, ◌+◌, ◌-◌, ◌*◌, ◌<◌, ◌≤◌, true, List, ◌∷◌, ◌++◌, Some}
use Rattle.net_types.specs.declared.address.Ip4.{Ip4}
use Rattle.net_types.specs.declared.address.Mac.{Mac}
use Rattle.net_types.specs.declared.interface.IfIndex.{IfIndex}
use Rattle.arp_acd.specs.declared.timing.TheConstants.{PROBE_WAIT, PROBE_NUM, PROBE_MAX, ANNOUNCE_WAIT}
use Rattle.ipv4ll.specs.declared.link_local.Fallback.TheVariants.{Choose}
use Rattle.ipv4ll.specs.declared.link_local.Waits.{Waits}
use Rattle.ipv4ll.specs.Table.{held_in}
use Rattle.ipv4ll.specs.History.{LlEvent, Arm, ll_after, arms_at}
use Rattle.progress.specs.GoingWell.{moment_in, Prompt, Fair}

-- The longest that probing takes (RFC 3927, sections 2.2.1 and 9): the wait before the first probe, the gaps from each
-- to the next, and the quiet after the last.
abbrev pub longest_probing : ℕ
longest_probing = PROBE_WAIT + (PROBE_NUM - 1) * PROBE_MAX + ANNOUNCE_WAIT

-- After some event that came by the moment `end` an address is held, and it still is after the last one.
pub record HeldSince (own : List Mac) (iface : IfIndex) (past : List LlEvent) (end : ℕ) : Type 0 where
  pub later : List LlEvent
  pub earlier : List LlEvent
  pub cut : past ≡ later ++ earlier
  pub in_time : moment_in earlier ≤ end
  pub addr : Ip4
  pub gained : held_in (ll_after own iface earlier).state ≡ Some addr
  pub kept : held_in (ll_after own iface past).state ≡ Some addr

-- A machine that was off is armed for a moment that isn't over, to choose an address then. By the longest probing after
-- that moment an address is held, and from then on.
abbrev pub HeldInTime : Type 0
HeldInTime = (own : List Mac) (iface : IfIndex) (later earlier : List LlEvent) (at due : ℕ) (waits : Waits)
    → let armed : List LlEvent = Arm at due waits Choose ∷ earlier in
    arms_at (ll_after own iface earlier).state (Arm at due waits Choose) ≡ true → at ≤ due
    → Prompt own iface later armed → Fair own iface later armed
    → due + longest_probing < moment_in (later ++ armed)
    → HeldSince own iface (later ++ armed) (due + longest_probing)

-- An address that is held stays held, however late the events come.
abbrev pub StaysHeld : Type 0
StaysHeld = (own : List Mac) (iface : IfIndex) (later earlier : List LlEvent) (addr : Ip4)
    → held_in (ll_after own iface earlier).state ≡ Some addr → Fair own iface later earlier
    → held_in (ll_after own iface (later ++ earlier)).state ≡ Some addr
