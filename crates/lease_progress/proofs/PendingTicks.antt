-- A tick keeps what is pending.
use Rattle.std.proofs.Common.{◌≡◌, ℕ, ◌+◌, ◌<◌, ◌≤◌, ◌==◌, ◌%◌, max, min, Bool, true, false, nat_le, nat_lt, nat_eq, List, [], ◌∷◌, Option, Some, None, refl, arith, if◌then◌else◌}
use Rattle.std.proofs.lemmas.Bool.Decides.{nat_tests}
use Rattle.std.specs.List.{list_any}
use Rattle.machine.specs.Draw.{draw_of}
use Rattle.machine.specs.Moment.{is_due}
use Rattle.net_types.specs.declared.address.Ip4.{Ip4}
use Rattle.net_types.specs.declared.interface.IfIndex.{IfIndex}
use Rattle.net_types.specs.declared.interface.Name.{Name}
use Rattle.arp_acd.specs.declared.detection.Acd.{Acd}
use Rattle.arp_acd.specs.declared.detection.Phase.{Phase}
use Rattle.arp_acd.specs.declared.detection.Phase.TheVariants.{Probing, Announcing, Held, Over}
use Rattle.arp_acd.specs.declared.detection.AcdSays.TheVariants.{Passed, SayProbe}
use Rattle.arp_acd.specs.Table as detection
use Rattle.arp_acd.specs.Table.{AcdStep}
use Rattle.lease_text.specs.declared.lease.Terms4.{Terms4}
use Rattle.lease_text.specs.Leases.{LeaseContent, ValueContent}
use Rattle.v4_frames.specs.declared.sent.Sent4.{Sent4}
use Rattle.v4_client.specs.declared.moments.Backoff.{Backoff}
use Rattle.v4_client.specs.declared.moments.Backoff.TheVariants.{Four, Eight, Sixteen, ThirtyTwo, SixtyFour}
use Rattle.v4_client.specs.declared.moments.TheConstants.{WAIT_SPREAD}
use Rattle.v4_client.specs.declared.setup.Site4.{Site4}
use Rattle.v4_client.specs.declared.states.Exchange4.{Exchange4}
use Rattle.v4_client.specs.declared.states.Origin4.{Origin4}
use Rattle.v4_client.specs.declared.states.Say4.{Say4}
use Rattle.v4_client.specs.declared.states.State4.{State4}
use Rattle.v4_client.specs.declared.states.State4.TheVariants.{Off, Init, Selecting, Requesting, Rebooting, Checking, Waiting, Bound, Renewing, Rebinding}
use Rattle.v4_client.specs.declared.states.Step4.{Step4}
use Rattle.v4_client.specs.declared.states.Turn4.{Turn4}
use Rattle.v4_client.specs.Detection.{checked}
use Rattle.v4_client.specs.Due.{due_of}
use Rattle.v4_client.specs.Moments.{doubled, earlier, expiry, standing_until}
use Rattle.v4_client.specs.Moves.{kept_after}
use Rattle.v4_client.specs.Saying.{sent_of}
use Rattle.v4_client.specs.Steps.{discovers, expires, new_xid, rebooting, rests, selecting}
use Rattle.v4_client.specs.Ticks.{checking_tick, rebooting_tick, requesting_tick, tick_row}
use Rattle.evidence_words.specs.Entries.{Entry}
use Rattle.evidence_words.specs.Inputs.{Site}
use Rattle.lease_evidence.specs.Exchanges.{messages_at}
use Rattle.lease_progress.specs.FairTurns.{probing}
use Rattle.lease_progress.specs.LeaseHeld.{least_asking}
use Rattle.lease_progress.specs.Prompt.{NotAfter}
use Rattle.lease_progress.specs.Serving.{Answered, Serves, seeks}
use Rattle.lease_progress.proofs.Pending.{Again, AgainNow, Amid, Asked, AskedNow, Checks, Pending, Sought, Waits, asks_longer, asks_on, left_after, left_in, seeks_on}

-- ---- moments

-- what leaves so much time still does once a turn came that isn't later than was asked for
nearer : (at due now left end : ℕ) → at ≤ max due now → due + left ≤ end → now + left ≤ end → at + left ≤ end
nearer at due now left end h a b = grind arith

pub sooner : (first second : Option ℕ) (last at : ℕ) → NotAfter (earlier first second) last at → NotAfter first last at
sooner None second last at h = tt
sooner (Some a) None last at h = h
sooner (Some a) (Some b) last at h = both a b last at h
  where
    both : (a b last at : ℕ) → at ≤ max (min a b) last → at ≤ max a last
    both a b last at h = grind arith

pub not_due_before : (due : Option ℕ) (at later : ℕ) → at ≤ later → is_due due later ≡ false → is_due due at ≡ false
not_due_before None at later le h = refl
not_due_before (Some due) at later le h = before due at later le h
  where
    before : (due at later : ℕ) → at ≤ later → nat_le due later ≡ false → nat_le due at ≡ false
    before due at later le h = grind (arith, nat_tests)

equal_number : (n : ℕ) → (n == n) ≡ true
equal_number n = grind (arith, nat_tests)

has_come : (due at : ℕ) → nat_le due at ≡ true → due ≤ at
has_come due at h = grind (arith, nat_tests)

not_over : (stop limit at : ℕ) → at < limit → limit ≤ stop → nat_le stop at ≡ false
not_over stop limit at a b = grind (arith, nat_tests)

otherwise : (P : Step4 → Type 0) (b : Bool) (x y : Step4) → b ≡ false → P y → P (if b then x else y)
otherwise P true x y e h = absurd cc
otherwise P false x y e h = h

pub choose : {A : Type 0} (P : A → Type 0) (b : Bool) (x y : A) → (b ≡ true → P x) → (b ≡ false → P y) → P (if b then x else y)
choose P true x y p q = p refl
choose P false x y p q = q refl

module _ (site : Site) (answered : Answered) (wait end : ℕ) (f : Entry) (past : List Entry) (now : ℕ)
    (served : Serves site answered wait (f ∷ past)) (site4 : Site4) (last : Option ℕ) (salt : ℕ)
    (name : Name) (fresh : List ValueContent) (kept : Option LeaseContent) where
  abbrev turn : Turn4
  turn = record { site = site4; last = last; at = f.moment; salt = salt }

  -- the messages of a step are shown
  abbrev Says : Step4 → Type 0
  Says step = (says : Option Sent4 → Bool) (say : Say4) → step.say ≡ Some say → says (Some (sent_of say)) ≡ true → list_any says (messages_at site f) ≡ true

  abbrev After : Step4 → Type 0
  After step = Says step → Amid site answered wait end f past (kept_after step.keep name fresh kept) step.state

  init_tick : (due : ℕ) → Waits site answered wait end now due → NotAfter (Some due) now f.moment → (b : Bool)
      → After (if b then discovers turn else rests turn (Init due))
  init_tick due w soon true says =
      let left : f.moment + (wait + (wait + probing site.managed.conf)) ≤ end = nearer f.moment due now
      (wait + (wait + probing site.managed.conf)) end soon w.soon w.now_soon in (
        w.asks_long,
        record {
          early = omega (arith, left);
          unanswered = λ none. record {
            later = [];
            e = f;
            earlier = past;
            cut = refl;
            early = left;
            said = says (seeks (new_xid turn)) _ refl (equal_number (new_xid turn));
            none = refl;
          };
        },
      )
  init_tick due w soon false says = record {
    asks_long = w.asks_long;
    soon = w.soon;
    now_soon = nearer f.moment due now (wait + (wait + probing site.managed.conf)) end soon w.soon w.now_soon;
  }

  selecting_tick : (xid began secs : ℕ) (backoff : Backoff) (due : ℕ) → (wait < least_asking) × Sought site answered wait end xid past
      → (b : Bool) → After (if b then selecting turn xid began (doubled backoff) else rests turn (Selecting xid began secs backoff due))
  selecting_tick xid began secs backoff due h true says = (h.0, seeks_on site answered wait end f past served xid h.1)
  selecting_tick xid began secs backoff due h false says = (h.0, seeks_on site answered wait end f past served xid h.1)

  abbrev drawn : ℕ
  drawn = draw_of salt site4.iface.index WAIT_SPREAD

  requested : (exchange : Exchange4) (secs : ℕ) (backoff : Backoff) (due : ℕ) → AskedNow site answered wait end f past exchange (due + left_after backoff)
      → due ≤ f.moment → After (requesting_tick turn exchange secs backoff)
  requested exchange secs Four due n come says = asks_longer site answered wait end f past exchange (due + 116000) _ (longer due f.moment drawn come) n
    where
      longer : (due at d : ℕ) → due ≤ at → due + 116000 ≤ (at + (7000 + d)) + 109000
      longer due at d le = omega (arith, le)
  requested exchange secs Eight due n come says = asks_longer site answered wait end f past exchange (due + 109000) _ (longer due f.moment drawn come) n
    where
      longer : (due at d : ℕ) → due ≤ at → due + 109000 ≤ (at + (15000 + d)) + 94000
      longer due at d le = omega (arith, le)
  requested exchange secs Sixteen due n come says = asks_longer site answered wait end f past exchange (due + 94000) _ (longer due f.moment drawn come) n
    where
      longer : (due at d : ℕ) → due ≤ at → due + 94000 ≤ (at + (31000 + d)) + 63000
      longer due at d le = omega (arith, le)
  requested exchange secs ThirtyTwo due n come says = asks_longer site answered wait end f past exchange (due + 63000) _ (longer due f.moment drawn come) n
    where
      longer : (due at d : ℕ) → due ≤ at → due + 63000 ≤ (at + (63000 + d)) + 0
      longer due at d le = omega (arith, le)
  requested exchange secs SixtyFour due n come says = absurd (over due f.moment come n.before)
    where
      over : (due at : ℕ) → due ≤ at → at < due + 0 → ⊥
      over due at le less = omega (arith, le, less)

  requesting_after : (exchange : Exchange4) (secs : ℕ) (backoff : Backoff) (due : ℕ) → Asked site answered wait end exchange (due + left_after backoff) past
      → (b : Bool) → nat_le due f.moment ≡ b
      → After (if b then requesting_tick turn exchange secs backoff else rests turn (Requesting exchange secs backoff due))
  requesting_after exchange secs backoff due a true is says =
      requested exchange secs backoff due (asks_on site answered wait end f past served exchange (due + left_after backoff) a) (has_come due f.moment is) says
  requesting_after exchange secs backoff due a false is says = asks_on site answered wait end f past served exchange (due + left_after backoff) a

  module _ (exchange : Exchange4) (backoff : Backoff) (stop due : ℕ) (stands : Option Terms4) (a : Again site answered wait end exchange stop stands past) where
    now_asked : AskedNow site answered wait end f past exchange a.limit
    now_asked = asks_on site answered wait end f past served exchange a.limit a.asked

    again : AgainNow site answered wait end f past exchange stop stands
    again = record {
      early = now_asked.early;
      unanswered = λ none. record { limit = a.limit; asked = now_asked.unanswered none; ends = a.ends; stays = a.stays };
    }

    rebooting_after : (b : Bool)
        → After (if b then rebooting_tick turn exchange backoff stop stands else rests turn (Rebooting exchange backoff stop due stands))
    rebooting_after true says =
        otherwise After (is_due (standing_until stands) f.moment) (expires turn) _ (a.stays f.moment now_asked.before)
        (otherwise After (nat_le stop f.moment) _ (rebooting turn exchange (doubled backoff) stop stands)
        (not_over stop a.limit f.moment now_asked.before a.ends)
        (λ more. again)) says
    rebooting_after false says = again

  module _ (xid : ℕ) (terms : Terms4) (origin : Origin4) (stands : Option Terms4) where
    abbrev still : Acd → Type 0
    still acd = Checks site answered wait end f.moment terms acd

    module _ (iface : IfIndex) (addr : Ip4) (sent due : ℕ) where
      abbrev machine : Acd
      machine = record { iface = iface; addr = addr; phase = Probing sent due }

      -- at the latest it is probed in time
      record Early : Type 0 where
        limit : ℕ
        within : limit ≤ end
        few : sent ≤ 3
        next : due + left_in sent ≤ limit
        here : f.moment + left_in sent ≤ limit
        lasts : is_due (expiry terms) limit ≡ false
        same : addr ≡ terms.net.ip

      early_so : Checks site answered wait end now terms machine → NotAfter (Some due) now f.moment → Early
      early_so c soon = record {
        limit = c.limit;
        within = c.within;
        few = c.phase.0;
        next = c.phase.1;
        here = nearer f.moment due now (left_in sent) c.limit soon c.phase.1 c.phase.2;
        lasts = c.lasts;
        same = c.same;
      }

      rested : Early → still machine
      rested e = record { limit = e.limit; within = e.within; phase = (e.few, e.next, e.here); lasts = e.lasts; same = e.same }

      gap : (last : Bool) (d : ℕ) → (if last then f.moment + 2000 else f.moment + 1000 + d % 1001) ≤ f.moment + 2000
      gap true d = omega arith
      gap false d = let small : d % 1001 < 1001 = below d in omega (arith, small)
        where
          below : (n : ℕ) → n % 1001 < 1001
          below n = omega arith

      further : (n at next limit : ℕ) → n < 3 → next ≤ at + 2000 → at + left_in n ≤ limit → next + left_in (n + 1) ≤ limit
      further n at next limit few soon here = omega (arith, few, soon, here)

      fewer_left : (n at limit : ℕ) → at + left_in n ≤ limit → at + left_in (n + 1) ≤ limit
      fewer_left n at limit here = omega (arith, here)

      one_more : (n : ℕ) → n < 3 → n + 1 ≤ 3
      one_more n few = omega (arith, few)

      abbrev judged : AcdStep → Step4
      judged step = checked turn xid terms origin step.acd stands step.says

      probes_on : Early → sent < 3 → After (judged (detection.moves machine (Probing (sent + 1) (detection.due_after iface (sent + 1) f.moment salt)) SayProbe))
      probes_on e few says = record {
        limit = e.limit;
        within = e.within;
        phase = (
          one_more sent few,
          further sent f.moment _ e.limit few (gap (nat_eq (sent + 1) 3) (salt % 4294967296 + iface.number)) e.here,
          fewer_left sent f.moment e.limit e.here,
        );
        lasts = e.lasts;
        same = e.same;
      }

      passes : Early → After (judged (detection.moves machine (Announcing (f.moment + 2000) None) Passed))
      passes e says = record {
        in_time = let here : f.moment + left_in sent ≤ e.limit = e.here in omega (arith, here, e.within);
        machine = record machine { phase = Announcing (f.moment + 2000) None };
        is = refl;
        due = f.moment + 2000;
        announces = refl;
        keeps = refl;
      }

      probed : Early → After (judged (detection.acd_tick machine f.moment salt))
      probed e =
          choose (λ step. After (judged step)) (nat_le due f.moment) (detection.tick_row machine (Probing sent due) f.moment salt) (detection.stays machine)
          (λ come. choose (λ step. After (judged step)) (nat_lt sent 3)
          (detection.moves machine (Probing (sent + 1) (detection.due_after iface (sent + 1) f.moment salt)) SayProbe)
          (detection.moves machine (Announcing (f.moment + 2000) None) Passed)
          (λ few. probes_on e (less sent 3 few)) (λ enough. passes e))
          (λ not_yet says. rested e)
        where
          less : (a b : ℕ) → nat_lt a b ≡ true → a < b
          less a b h = grind (arith, nat_tests)

      checking_after : Early → (b : Bool)
          → After (if b then checking_tick turn xid terms origin machine stands else rests turn (Checking xid terms origin machine stands))
      checking_after e true says =
          choose After (is_due (standing_until stands) f.moment) _ _
          (λ over more. rested e)
          (λ goes_on. otherwise After (is_due (expiry terms) f.moment) _ _ (not_due_before (expiry terms) f.moment e.limit (soon e.here) e.lasts)
          (probed e)) says
        where
          soon : f.moment + left_in sent ≤ e.limit → f.moment ≤ e.limit
          soon h = omega (arith, h)
      checking_after e false says = rested e

    checking_by : (iface : IfIndex) (addr : Ip4) (phase : Phase)
        → Checks site answered wait end now terms (record { iface = iface; addr = addr; phase = phase })
        → NotAfter (detection.due_of phase) now f.moment
        → (b : Bool) → After (if b then checking_tick turn xid terms origin (record { iface = iface; addr = addr; phase = phase }) stands
        else rests turn (Checking xid terms origin (record { iface = iface; addr = addr; phase = phase }) stands))
    checking_by iface addr (Probing sent due) c soon = checking_after iface addr sent due (early_so iface addr sent due c soon)
    checking_by iface addr (Announcing due last) c soon = absurd c.phase
    checking_by iface addr (Held last) c soon = absurd c.phase
    checking_by iface addr Over c soon = absurd c.phase

  abbrev pub tick_at : State4 → Step4
  tick_at state = if is_due (due_of state) f.moment then tick_row turn state else rests turn state

  pub tick_pending : (state : State4) → Pending site answered wait end now past state → NotAfter (due_of state) now f.moment
      → Says (tick_at state) → Amid site answered wait end f past (kept_after (tick_at state).keep name fresh kept) (tick_at state).state
  tick_pending Off p soon = absurd p
  tick_pending (Init due) p soon = init_tick due p soon (nat_le due f.moment)
  tick_pending (Selecting xid began secs backoff due) p soon = selecting_tick xid began secs backoff due p (nat_le due f.moment)
  tick_pending (Requesting exchange secs backoff due) p soon = requesting_after exchange secs backoff due p (nat_le due f.moment) refl
  tick_pending (Rebooting exchange backoff stop due stands) p soon =
      rebooting_after exchange backoff stop due stands p (is_due (due_of (Rebooting exchange backoff stop due stands)) f.moment)
  tick_pending (Checking xid terms origin acd stands) p soon =
      checking_by xid terms origin stands acd.iface acd.addr acd.phase p
      (sooner (detection.due_of acd.phase) (expiry terms) now f.moment
      (sooner (earlier (detection.due_of acd.phase) (expiry terms)) (standing_until stands) now f.moment soon))
      (is_due (due_of (Checking xid terms origin acd stands)) f.moment)
  tick_pending (Waiting due) p soon = absurd p
  tick_pending (Bound xid terms acd) p soon = absurd p
  tick_pending (Renewing exchange terms acd due) p soon = absurd p
  tick_pending (Rebinding exchange terms acd due) p soon = absurd p
