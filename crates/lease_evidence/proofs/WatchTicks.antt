-- A tick keeps what a client carries of the observer.
use Rattle.std.proofs.Common.{◌≡◌, ℕ, ◌+◌, ◌*◌, ◌≤◌, IfSome, if◌then◌else◌, Bool, true, false, Option, Some, None, refl, nat_le, eqb, arith}
use Rattle.std.proofs.lemmas.Bool.Decides.{nat_tests}
use Rattle.machine.specs.Moment.{is_due}
use Rattle.net_types.proofs.CaseLaws.{split, gated}
use Rattle.arp_acd.specs.declared.detection.Acd.{Acd}
use Rattle.arp_acd.specs.declared.detection.AcdSays.{AcdSays}
use Rattle.arp_acd.specs.declared.detection.AcdSays.TheVariants.{Quiet, SayProbe, SayAnnounce, Passed, Conflict, GivenUp}
use Rattle.arp_acd.specs.Table as detection
use Rattle.lease_text.specs.declared.lease.TheConstants.{INFINITE_LEASE}
use Rattle.lease_text.specs.declared.lease.Terms4.{Terms4}
use Rattle.lease_text.specs.Bounds.{FitsTerms}
use Rattle.v4_client.specs.declared.moments.TheConstants.{SECOND}
use Rattle.v4_client.specs.declared.moments.Backoff.{Backoff}
use Rattle.v4_client.specs.declared.moments.Backoff.TheVariants.{Four, Eight, Sixteen, ThirtyTwo, SixtyFour}
use Rattle.v4_client.specs.declared.states.Exchange4.{Exchange4}
use Rattle.v4_client.specs.declared.states.Origin4.{Origin4}
use Rattle.v4_client.specs.declared.states.State4.{State4}
use Rattle.v4_client.specs.declared.states.State4.TheVariants.{Off, Init, Selecting, Requesting, Rebooting, Checking, Waiting, Bound, Renewing, Rebinding}
use Rattle.v4_client.specs.declared.states.Step4.{Step4}
use Rattle.v4_client.specs.declared.states.Turn4.{Turn4}
use Rattle.v4_client.specs.Detection.{checked, defended, with_acd}
use Rattle.v4_client.specs.Due.{acd_due, due_of}
use Rattle.v4_client.specs.Moments.{earlier, expiry, renewal_at, rebinding_at, standing_until, doubled}
use Rattle.v4_client.specs.Saying.{sent_of, request, renewing_request, rebinding_request}
use Rattle.v4_client.specs.Sound.{FitsState}
use Rattle.v4_client.specs.Steps.{to_init, expires, discovers, requesting, rebooting, new_exchange, renewing, rebinding}
use Rattle.v4_client.specs.Ticks.{detects, tick_row}
use Rattle.v4_client.proofs.Expiring.{renewing_by}
use Rattle.lease_evidence.specs.Exchanges.{Numbered}
use Rattle.lease_evidence.proofs.Observer.{Grant, Kept}
use Rattle.lease_evidence.proofs.Watching.{seen, LastXid, Asks, IsAnswered, Holds, On, Lasts, AnyTerms, WatchedAfter, with_terms, asks_anew, asks_again, asked_xid, fresh}

-- ---- before the moment of a state has come its lease isn't over

not_come : (end due at : ℕ) → due ≤ end → nat_le due at ≡ false → nat_le end at ≡ false
not_come end due at before h = grind (arith, nat_tests)

-- the earlier of two moments
first_not : (due at : ℕ) (other : Option ℕ) → is_due (earlier (Some due) other) at ≡ false → nat_le due at ≡ false
first_not due at None h = h
first_not due at (Some other) h = grind (arith, nat_tests)

second_not : (first : Option ℕ) (due at : ℕ) → is_due (earlier first (Some due)) at ≡ false → nat_le due at ≡ false
second_not None due at h = h
second_not (Some first) due at h = grind (arith, nat_tests)

ends_later : (end : Option ℕ) (due at : ℕ) (other : Option ℕ) → IfSome end (λ last. due ≤ last) → is_due (earlier (Some due) other) at ≡ false
    → is_due end at ≡ false
ends_later None due at other wakes h = refl
ends_later (Some end) due at other wakes h = not_come end due at wakes (first_not due at other h)

checked_later : (first end : Option ℕ) (at : ℕ) → is_due (earlier first end) at ≡ false → is_due end at ≡ false
checked_later first None at h = refl
checked_later first (Some end) at h = second_not first end at h

-- a kept lease on which the client stands isn't over
pub stands_later : (stands : Option Terms4) (at : ℕ) → is_due (standing_until stands) at ≡ false → IfSome stands (Lasts at)
stands_later None at h = tt
stands_later (Some terms) at h = h

bound_by : (endless : Bool) (renews ends at : ℕ) (other : Option ℕ) → renews ≤ ends
    → is_due (earlier (if endless then None else Some renews) other) at ≡ false → is_due (if endless then None else Some ends) at ≡ false
bound_by true renews ends at other before h = refl
bound_by false renews ends at other before h = not_come ends renews at before (first_not renews at other h)

bound_later : (terms : Terms4) (at : ℕ) (other : Option ℕ) → FitsTerms terms → is_due (earlier (renewal_at terms) other) at ≡ false
    → is_due (expiry terms) at ≡ false
bound_later terms at other fits h =
    let renews : terms.t1 ≤ terms.t2 = fits.renews in
    let rebinds : terms.t2 ≤ terms.lease = fits.rebinds in
    bound_by (eqb terms.lease INFINITE_LEASE) (terms.first + SECOND * terms.t1) (terms.first + SECOND * terms.lease) at other (omega arith) h

-- nothing is due: each lease that is held or checked lasts
pub not_due : (state : State4) (at : ℕ) (current : Option Numbered) (answered : ℕ) (grant : Option Grant) → FitsState state
    → is_due (due_of state) at ≡ false → On AnyTerms state current answered grant → On (Lasts at) state current answered grant
not_due Off at current answered grant fits h on = on
not_due (Init due) at current answered grant fits h on = on
not_due (Selecting xid began secs backoff due) at current answered grant fits h on = on
not_due (Requesting exchange secs backoff due) at current answered grant fits h on = on
not_due (Rebooting exchange backoff end due stands) at current answered grant fits h on =
    (on.0, stands_later stands at (checked_later (Some due) (standing_until stands) at h))
not_due (Checking xid terms origin acd stands) at current answered grant fits h on =
    (on.0, on.1, stands_later stands at (checked_later (earlier (detection.due_of acd.phase) (expiry terms)) (standing_until stands) at h))
not_due (Waiting due) at current answered grant fits h on = on
not_due (Bound xid terms acd) at current answered grant fits h on =
    (on.0, with_terms AnyTerms (Lasts at) terms grant (bound_later terms at (acd_due acd) fits h) on.1)
not_due (Renewing exchange terms acd due) at current answered grant fits h on =
    let ends : IfSome (expiry terms) (λ last. due ≤ last) = renewing_by terms due fits.renewal.holds fits.wakes in
    (on.0, with_terms AnyTerms (Lasts at) terms grant (ends_later (expiry terms) due at (acd_due acd) ends h) on.1)
not_due (Rebinding exchange terms acd due) at current answered grant fits h on =
    (on.0, with_terms AnyTerms (Lasts at) terms grant (ends_later (expiry terms) due at (acd_due acd) fits.wakes h) on.1)

-- ---- the rows

module _ (turn : Turn4) (count : ℕ) (current : Option Numbered) (k : Kept) (within : k.answered ≤ count) (last : LastXid turn.last current) where
  abbrev pub After : Step4 → Type 0
  After step = WatchedAfter (Lasts turn.at) turn.at (seen count current) k step

  discovered : After (discovers turn)
  discovered = record { xid = tt; on = refl }

  pub freed : After (to_init turn)
  freed = record { xid = last; on = tt }

  ended : After (expires turn)
  ended = record { xid = last; on = tt }

  pub defends : (xid : ℕ) (terms : Terms4) (state : State4) (says : AcdSays) → On (Lasts turn.at) state current k.answered k.grant
      → After (defended turn xid terms state says)
  defends xid terms state Quiet on = record { xid = last; on = on }
  defends xid terms state SayProbe on = record { xid = last; on = on }
  defends xid terms state SayAnnounce on = record { xid = last; on = on }
  defends xid terms state Passed on = record { xid = last; on = on }
  defends xid terms state Conflict on = record { xid = last; on = on }
  defends xid terms state GivenUp on = record { xid = tt; on = tt }

  detecting : (xid : ℕ) (terms : Terms4) (state : State4) (acd : Option Acd)
      → ((acd : Acd) → On (Lasts turn.at) (with_acd state acd) current k.answered k.grant)
      → On (Lasts turn.at) state current k.answered k.grant → After (detects turn xid terms state acd)
  detecting xid terms state None with_on on = record { xid = last; on = on }
  detecting xid terms state (Some acd) with_on on =
      defends xid terms (with_acd state (detection.acd_tick acd turn.at turn.salt).acd) (detection.acd_tick acd turn.at turn.salt).says
      (with_on (detection.acd_tick acd turn.at turn.salt).acd)

  -- an address passes where its lease isn't over
  pub checks : (xid : ℕ) (terms : Terms4) (origin : Origin4) (acd : Acd) (stands : Option Terms4) (says : AcdSays)
      → On (Lasts turn.at) (Checking xid terms origin acd stands) current k.answered k.grant → (says ≡ Passed → Lasts turn.at terms)
      → After (checked turn xid terms origin acd stands says)
  checks xid terms origin acd stands Quiet on passes = record { xid = last; on = on }
  checks xid terms origin acd stands SayProbe on passes = record { xid = last; on = on }
  checks xid terms origin acd stands SayAnnounce on passes = record { xid = last; on = on }
  checks xid terms origin acd stands Passed on passes = record { xid = last; on = (on.0, with_terms AnyTerms (Lasts turn.at) terms k.grant (passes refl) on.1) }
  checks xid terms origin acd stands Conflict on passes = record { xid = tt; on = tt }
  checks xid terms origin acd stands GivenUp on passes = record { xid = last; on = on }

  renews : (terms : Terms4) (acd : Option Acd) → Holds (Lasts turn.at) terms k.grant → After (renewing turn (new_exchange turn terms.net.ip) terms acd)
  renews terms acd holds =
      asks_anew (Lasts turn.at) turn.at (sent_of (renewing_request turn.site terms (new_exchange turn terms.net.ip).xid)).said (new_exchange turn terms.net.ip)
      (renewing turn (new_exchange turn terms.net.ip) terms acd).state count current k within (fresh turn current last) refl (λ x asks. (asks, holds))

  pub rebinds : (terms : Terms4) (acd : Option Acd) → Holds (Lasts turn.at) terms k.grant → After (rebinding turn (new_exchange turn terms.net.ip) terms acd)
  rebinds terms acd holds =
      asks_anew (Lasts turn.at) turn.at (sent_of (rebinding_request turn.site terms (new_exchange turn terms.net.ip).xid)).said (new_exchange turn terms.net.ip)
      (rebinding turn (new_exchange turn terms.net.ip) terms acd).state count current k within (fresh turn current last) refl (λ x asks. (asks, holds))

  renews_again : (exchange : Exchange4) (terms : Terms4) (acd : Option Acd) → Asks exchange k.answered current → Holds (Lasts turn.at) terms k.grant
      → After (renewing turn exchange terms acd)
  renews_again exchange terms acd asks holds =
      asks_again (Lasts turn.at) turn.at (sent_of (renewing_request turn.site terms exchange.xid)).said exchange (renewing turn exchange terms acd).state
      count current k refl (asked_xid exchange k.answered current asks) asks (asks, holds)

  rebinds_again : (exchange : Exchange4) (terms : Terms4) (acd : Option Acd) → Asks exchange k.answered current → Holds (Lasts turn.at) terms k.grant
      → After (rebinding turn exchange terms acd)
  rebinds_again exchange terms acd asks holds =
      asks_again (Lasts turn.at) turn.at (sent_of (rebinding_request turn.site terms exchange.xid)).said exchange (rebinding turn exchange terms acd).state
      count current k refl (asked_xid exchange k.answered current asks) asks (asks, holds)

  requests_again : (exchange : Exchange4) (secs : ℕ) (backoff : Backoff) → Asks exchange k.answered current → After (requesting turn exchange secs backoff)
  requests_again exchange secs backoff asks =
      asks_again (Lasts turn.at) turn.at (sent_of (request turn.site exchange secs)).said exchange (requesting turn exchange secs backoff).state
      count current k refl (asked_xid exchange k.answered current asks) asks asks

  reboots_again : (exchange : Exchange4) (backoff : Backoff) (end : ℕ) (stands : Option Terms4) → Asks exchange k.answered current
      → IfSome stands (Lasts turn.at)
      → After (rebooting turn exchange backoff end stands)
  reboots_again exchange backoff end stands asks lasts =
      asks_again (Lasts turn.at) turn.at (sent_of (request turn.site exchange 0)).said exchange (rebooting turn exchange backoff end stands).state
      count current k refl (asked_xid exchange k.answered current asks) asks (asks, lasts)

  pub tick_watched : (state : State4) → On AnyTerms state current k.answered k.grant → After (tick_row turn state)
  tick_watched Off on = record { xid = last; on = tt }
  tick_watched (Init due) on = discovered
  tick_watched (Waiting due) on = discovered
  tick_watched (Selecting xid began secs backoff due) on = record { xid = tt; on = refl }
  tick_watched (Requesting exchange secs Four due) on = requests_again exchange secs (doubled Four) on
  tick_watched (Requesting exchange secs Eight due) on = requests_again exchange secs (doubled Eight) on
  tick_watched (Requesting exchange secs Sixteen due) on = requests_again exchange secs (doubled Sixteen) on
  tick_watched (Requesting exchange secs ThirtyTwo due) on = requests_again exchange secs (doubled ThirtyTwo) on
  tick_watched (Requesting exchange secs SixtyFour due) on = freed
  tick_watched (Rebooting exchange backoff end due stands) on =
      split (is_due (standing_until stands) turn.at) (λ over. rw over ended)
      (λ lasts. rw lasts (gated After (nat_le end turn.at) _ _ (record { xid = tt; on = refl })
      (reboots_again exchange (doubled backoff) end stands on.0 (stands_later stands turn.at lasts))))
  tick_watched (Checking xid terms origin acd stands) on =
      split (is_due (standing_until stands) turn.at) (λ over. rw over (record { xid = last; on = (on.0, on.1, tt) }))
      (λ stood. rw stood (split (is_due (expiry terms) turn.at) (λ over. rw over (record { xid = last; on = tt }))
      (λ lasts. rw lasts (checks xid terms origin (detection.acd_tick acd turn.at turn.salt).acd stands (detection.acd_tick acd turn.at turn.salt).says
      (on.0, on.1, stands_later stands turn.at stood) (λ passed. lasts)))))
  tick_watched (Bound xid terms acd) on =
      split (is_due (expiry terms) turn.at) (λ over. rw over ended)
      (λ lasts.
      let holds : Holds (Lasts turn.at) terms k.grant = with_terms AnyTerms (Lasts turn.at) terms k.grant lasts on.1 in
      rw lasts (gated After (is_due (rebinding_at terms) turn.at) _ _ (rebinds terms acd holds)
      (gated After (is_due (renewal_at terms) turn.at) _ _ (renews terms acd holds)
      (detecting xid terms (Bound xid terms acd) acd (λ next. (on.0, holds)) (on.0, holds)))))
  tick_watched (Renewing exchange terms acd due) on =
      split (is_due (expiry terms) turn.at) (λ over. rw over ended)
      (λ lasts.
      let holds : Holds (Lasts turn.at) terms k.grant = with_terms AnyTerms (Lasts turn.at) terms k.grant lasts on.1 in
      rw lasts (gated After (is_due (rebinding_at terms) turn.at) _ _ (rebinds terms acd holds)
      (gated After (nat_le due turn.at) _ _ (renews_again exchange terms acd on.0 holds)
      (detecting exchange.xid terms (Renewing exchange terms acd due) acd (λ next. (on.0, holds)) (on.0, holds)))))
  tick_watched (Rebinding exchange terms acd due) on =
      split (is_due (expiry terms) turn.at) (λ over. rw over ended)
      (λ lasts.
      let holds : Holds (Lasts turn.at) terms k.grant = with_terms AnyTerms (Lasts turn.at) terms k.grant lasts on.1 in
      rw lasts (gated After (nat_le due turn.at) _ _ (rebinds_again exchange terms acd on.0 holds)
      (detecting exchange.xid terms (Rebinding exchange terms acd due) acd (λ next. (on.0, holds)) (on.0, holds))))
