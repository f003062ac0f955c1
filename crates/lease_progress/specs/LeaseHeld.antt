-- That an interface acquires a lease in time (RFC 2131, sections 3.1, 3.2 and 4.4). Moments are in milliseconds.
use Rattle.std.specs.Prelude.{◌≡◌, ℕ, ◌+◌, ◌-◌, ◌*◌, ◌<◌, ◌≤◌, ◌==◌, ◌&&◌, Bool, true, false, not, if◌then◌else◌, List, ◌++◌, Option, Some, None}
use Rattle.net_types.specs.declared.address.Mac.{Mac}
use Rattle.lease_text.specs.Leases.{LeaseContent}
use Rattle.v4_client.specs.declared.moments.Backoff.TheVariants.{Four, Eight, Sixteen, ThirtyTwo, SixtyFour}
use Rattle.v4_client.specs.declared.moments.TheConstants.{SECOND, LEAST_DELAY, DELAY_SPREAD}
use Rattle.v4_client.specs.Answers.{is_unexpired}
use Rattle.v4_client.specs.Clients.{held_of, is_bound}
use Rattle.v4_client.specs.Moments.{seconds}
use Rattle.settings.specs.declared.interfaces.IfConf.{IfConf}
use Rattle.client_model.specs.KeptLeases.{Beginning}
use Rattle.evidence_words.specs.IfaceLives.{Opening, Met, shown, iface_after, now_in}
use Rattle.lease_progress.specs.FairTurns.{GoesWell, probing}
use Rattle.lease_progress.specs.Serving.{Answered}

-- After the opening, or some turn that came by the moment `end`, a lease is held that was granted in this life.
pub record HeldBy (own : List Mac) (b : Beginning) (o : Opening) (mets : List Met) (end : ℕ) : Type 0 where
  pub later : List Met
  pub earlier : List Met
  pub cut : mets ≡ later ++ earlier
  pub in_time : now_in (shown o earlier) ≤ end
  pub granted : is_bound (iface_after own b o earlier).dhcp4.state ≡ true
  pub lease : LeaseContent
  pub held : held_of (iface_after own b o earlier).dhcp4 ≡ Some lease

-- ---- how long it takes

-- the longest wait before the first DISCOVER (section 4.4.1)
abbrev pub first_wait : IfConf → ℕ
first_wait conf = if conf.flags.nodelay then 1 else LEAST_DELAY + (DELAY_SPREAD - 1)

-- an OFFER, an ACK, and the probing
abbrev pub acquiring : IfConf → (wait : ℕ) → ℕ
acquiring conf wait = first_wait conf + (wait + (wait + probing conf))

-- an ACK, and the probing
abbrev pub reacquiring : IfConf → (wait : ℕ) → ℕ
reacquiring conf wait = wait + probing conf

-- How long an ACK is waited for at the least before another offer is looked for: after each of five REQUESTs a second
-- less than its wait (section 4.1).
abbrev pub least_asking : ℕ
least_asking =
    SECOND * ((seconds Four - 1) + (seconds Eight - 1) + (seconds Sixteen - 1) + (seconds ThirtyTwo - 1)
    + (seconds SixtyFour - 1))

-- ---- the laws

-- Whether the interface begins by asking for its kept lease again: there is one that isn't over, and time to ask
-- (section 4.4.2).
abbrev pub asks_again : IfConf → (at : ℕ) → Option LeaseContent → Bool
asks_again conf at None = false
asks_again conf at (Some lease) = is_unexpired lease.first lease.lease at && not (conf.times.reboot == 0)

-- Where it doesn't, it holds a lease in time.
abbrev pub Acquires : Type 0
Acquires = (own : List Mac) (b : Beginning) (o : Opening) (mets : List Met) (answered : Answered) (wait : ℕ)
    → GoesWell own b o mets answered wait → wait < least_asking → asks_again b.managed.conf o.at b.kept4 ≡ false
    → o.at + acquiring b.managed.conf wait < now_in (shown o mets)
    → HeldBy own b o mets (o.at + acquiring b.managed.conf wait)

-- Where it kept one that isn't over before the answer comes, and asks for it longer than servers take, that is sooner.
abbrev pub Reacquires : Type 0
Reacquires = (own : List Mac) (b : Beginning) (o : Opening) (mets : List Met) (answered : Answered) (wait : ℕ)
    (lease : LeaseContent) → GoesWell own b o mets answered wait → b.kept4 ≡ Some lease
    → is_unexpired lease.first lease.lease (o.at + wait) ≡ true
    → wait < SECOND * b.managed.conf.times.reboot
    → o.at + reacquiring b.managed.conf wait < now_in (shown o mets)
    → HeldBy own b o mets (o.at + reacquiring b.managed.conf wait)
