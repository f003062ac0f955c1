-- What holds of a lab after each line: what its clients sent was said, and what its peer made is its reply.
use Rattle.std.proofs.Common.{◌≡◌, ℕ, zero, suc, ◌≤◌, ◌<◌, ◌^◌, List, [], ◌∷◌, length, lit<, Option, Some, None, IfSome, inr, refl, sym, ap, subst, ◌∙◌, arith}
use Rattle.std.specs.Prelude.{flat_map, option_map, option_to_list}
use Rattle.std.specs.List.{AllByRecursion, Contains, slice_get}
use Rattle.machine.specs.Moment.{moment_of}
use Rattle.machine.specs.Since.{Always}
use Rattle.net_types.proofs.AllLaws.{all_join, all_map}
use Rattle.net_types.specs.declared.interface.IfIndex.{IfIndex}
use Rattle.net_types.specs.declared.address.Ip4.{Ip4}
use Rattle.net_types.specs.declared.address.Mac.{Mac}
use Rattle.net_types.specs.Marks.{AreBytes}
use Rattle.v4_message.specs.declared.writing.Kind4.TheVariants.{Request}
use Rattle.v4_message.specs.declared.writing.Said4.{Said4}
use Rattle.world.specs.declared.wakes.Event.{Event}
use Rattle.world.specs.declared.wakes.Event.TheVariants as wakes
use Rattle.settings.specs.declared.interfaces.Managed.{Managed}
use Rattle.settings.specs.Fitting.{FitsManaged}
use Rattle.client_model.specs.Clients.{Sending, client_turned, sends_of}
use Rattle.client_model.specs.IfaceTurns.{Turn}
use Rattle.server_data.specs.declared.reply.ReplyKind.TheVariants.{Ack}
use Rattle.server_data.specs.declared.reply.Reply.{Reply}
use Rattle.server_data.specs.ReadBack.{FitsReply}
use Rattle.server_data.specs.ServerFrames.{server_frame}
use Rattle.lab_peer.specs.Bindings.{lease_end}
use Rattle.lab_peer.specs.Granting.{IsAnswer}
use Rattle.lab_peer.specs.Hearing.{Response, hears, made}
use Rattle.lab_peer.proofs.Bound.{acks_bind, answers_its_client, keeps_its_pool}
use Rattle.lab_schedule.specs.declared.event.LabEvent.{LabEvent}
use Rattle.lab_schedule.specs.declared.event.LabEvent.TheVariants.{Tick, Carrier, Release, Give, Hear}
use Rattle.lab_schedule.specs.Schedules.{FitsPool, Schedule}
use Rattle.lab_model.specs.Labs.{Lab, clients_turned, lab_after, lab_opened, lab_step, numbered, peer_goes, peer_heard, raised, turn_given, turn_with}
use Rattle.lab_laws.specs.LabClients.{AreClients, FitsTurn}
use Rattle.lab_laws.specs.Lives.{turn_of, turns_onto, with_turn}
use Rattle.lab_laws.specs.Messages.{step_after}
use Rattle.lab_laws.proofs.Apart.{opening_steps, turn_sends, clients, gone, opens_so}
use Rattle.lab_laws.proofs.Bounds.{Goes, Stands, goes, stands_on}
use Rattle.lab_laws.proofs.FramesSaid.{IsIn, IsSaidBy, WasSaid, all_said, later_said, start, still_in, still_said}
use Rattle.lab_laws.proofs.HeardBack.{replies_fit}
use Rattle.lab_laws.proofs.Lived.{one_of}
use Rattle.lab_laws.proofs.OpenExchanges.{Rising, moment_in}
use Rattle.lab_laws.proofs.ServerOctets.{frames_are_octets}
use Rattle.lab_laws.proofs.Timed.{timed_after}

-- the frame of a number is one of those that there are
module _ {X : Type 0} (P : X → Type 0) where
  one_is : (a b : X) → Some a ≡ Some b → a ≡ b
  one_is a b e = cc

  one_at : (k : ℕ) (xs : List X) (x : X) → AllByRecursion P xs → slice_get xs k ≡ Some x → P x
  one_at k [] x all is = absurd cc
  one_at zero (y ∷ xs) x all is = subst P (one_is y x is) all.0
  one_at (suc k) (y ∷ xs) x all is = one_at k xs x all.1 is

  pub one_numbered : (number : ℕ) (xs : List X) (x : X) → AllByRecursion P xs → numbered number xs ≡ Some x → P x
  one_numbered zero xs x all is = absurd cc
  one_numbered (suc before) xs x all is = one_at before xs x all is

module _ (managed : List Managed) (schedule : Schedule) where
  abbrev pub begin : ℕ
  begin = moment_of schedule.begin.at

  -- ---- the peer's frames

  -- a client had said a REQUEST with this number by then
  pub record IsAsked (turns : List Turn) (heard : ℕ) (reply : Reply) : Type 0 where
    pub one : Managed
    pub among : Contains managed one
    pub to : reply.chaddr ≡ one.spec.mac
    pub at : ℕ
    pub said : Said4
    pub was : IsIn (record { at = at; said = said }) (timed_after (start managed schedule one) turns)
    pub request : said.kind ≡ Request
    pub same_xid : said.xid ≡ reply.xid
    pub before : at ≤ heard

  -- a reply of the peer; an ACK answers a REQUEST, and its address stays bound until its lease is over
  pub record IsReply (lab : Lab) (turns : List Turn) (bytes : List ℕ) : Type 0 where
    pub reply : Reply
    pub frame : bytes ≡ server_frame reply
    pub fits : FitsReply reply
    pub lease : reply.lease < 2 ^ 32
    pub octets : AreBytes bytes
    pub heard : ℕ
    pub asked : reply.kind ≡ Ack → IsAsked turns heard reply
    pub stands : reply.kind ≡ Ack → Stands reply.yiaddr reply.chaddr (lease_end reply.lease heard) lab

  abbrev IfFrame : Event → Type 0 → Type 0
  IfFrame (wakes.Frame index len) A = A
  IfFrame (wakes.Carrier index up) A = Unit {0}
  IfFrame (wakes.Duplicate index addr) A = Unit {0}
  IfFrame (wakes.Release index) A = Unit {0}
  IfFrame (wakes.Rebind index) A = Unit {0}
  IfFrame wakes.Stop A = Unit {0}
  IfFrame wakes.Quiet A = Unit {0}
  IfFrame wakes.End A = Unit {0}

  -- a frame that comes in is the peer's
  abbrev pub IsGiven : Lab → Turn → List Turn → Type 0
  IsGiven lab turn before = IfFrame turn.event (IsReply lab before turn.bytes)

  -- ---- all that is known of a lab after some turns

  pub record LabSo (lab : Lab) (turns : List Turn) : Type 0 where
    pub client : lab.client ≡ clients managed schedule turns
    pub pool : lab.peer.pool ≡ schedule.pool
    pub clock : lab.clock < 10 ^ 15
    pub now : moment_in begin turns ≤ lab.clock
    pub fit : AllByRecursion FitsTurn turns
    pub rising : Rising begin turns
    pub sent : AllByRecursion (WasSaid managed schedule turns lab.clock) lab.sent
    pub made : AllByRecursion (IsReply lab turns) lab.made
    pub given : Always (IsGiven lab) turns

  -- ---- from a line to the next

  abbrev Onward : (before after : Lab) → Type 0
  Onward before after = (addr : Ip4) (mac : Mac) (end : Option ℕ) → Goes addr mac end before after

  still_asked : (turn : Turn) (turns : List Turn) (heard : ℕ) (reply : Reply) → IsAsked turns heard reply → IsAsked (turn ∷ turns) heard reply
  still_asked turn turns heard reply a = record {
    one = a.one;
    among = a.among;
    to = a.to;
    at = a.at;
    said = a.said;
    was = still_in turn.at (step_after (start managed schedule a.one) (turn ∷ turns)).said (record { at = a.at; said = a.said })
        (timed_after (start managed schedule a.one) turns) a.was;
    request = a.request;
    same_xid = a.same_xid;
    before = a.before;
  }

  goes_reply : (before after : Lab) → Onward before after → (turns : List Turn) (bytes : List ℕ) → IsReply before turns bytes → IsReply after turns bytes
  goes_reply before after onward turns bytes r = record {
    reply = r.reply;
    frame = r.frame;
    fits = r.fits;
    lease = r.lease;
    octets = r.octets;
    heard = r.heard;
    asked = r.asked;
    stands = λ ack.
        let end : Option ℕ = lease_end r.reply.lease r.heard in
        stands_on r.reply.yiaddr r.reply.chaddr end before after (onward r.reply.yiaddr r.reply.chaddr end) (r.stands ack);
  }

  turned_reply : (lab : Lab) (turn : Turn) (turns : List Turn) (bytes : List ℕ) → IsReply lab turns bytes → IsReply lab (turn ∷ turns) bytes
  turned_reply lab turn turns bytes r = record {
    reply = r.reply;
    frame = r.frame;
    fits = r.fits;
    lease = r.lease;
    octets = r.octets;
    heard = r.heard;
    asked = λ ack. still_asked turn turns r.heard r.reply (r.asked ack);
    stands = r.stands;
  }

  goes_given : (before after : Lab) → Onward before after → (turns : List Turn) → Always (IsGiven before) turns → Always (IsGiven after) turns
  goes_given before after onward [] given = tt
  goes_given before after onward (turn ∷ turns) given = (by turn.event given.0, goes_given before after onward turns given.1)
    where
      by : (event : Event) → IfFrame event (IsReply before turns turn.bytes) → IfFrame event (IsReply after turns turn.bytes)
      by (wakes.Frame index len) r = goes_reply before after onward turns turn.bytes r
      by (wakes.Carrier index up) r = tt
      by (wakes.Duplicate index addr) r = tt
      by (wakes.Release index) r = tt
      by (wakes.Rebind index) r = tt
      by wakes.Stop r = tt
      by wakes.Quiet r = tt
      by wakes.End r = tt

  -- ---- a turn of the clients

  module _ (are : AreClients managed) (turn : Turn) (turns : List Turn) (lab : Lab) (fits : FitsTurn turn) (le : lab.clock ≤ turn.at) (so : LabSo lab turns)
      (onward : Onward lab (clients_turned turn lab).lab) (given : IsGiven lab turn turns) where
    abbrev after : Lab
    after = (clients_turned turn lab).lab

    sent_after : AllByRecursion (WasSaid managed schedule (turn ∷ turns) turn.at) after.sent
    sent_after =
        all_join (WasSaid managed schedule (turn ∷ turns) turn.at) lab.sent (client_turned turn lab.client).sends
        (all_map (WasSaid managed schedule turns lab.clock) (WasSaid managed schedule (turn ∷ turns) turn.at)
        (λ sending was. still_said managed schedule turn turns lab.clock sending le was) lab.sent so.sent)
        (subst (AllByRecursion (WasSaid managed schedule (turn ∷ turns) turn.at)) (sym (turn_sends managed schedule turn turns lab.client so.client))
        (all_said managed schedule are (turn ∷ turns) (fits, so.fit)))

    pub turned_so : LabSo after (turn ∷ turns)
    turned_so = record {
      client = gone managed schedule turn turns lab.client so.client;
      pool = so.pool;
      clock = fits.at;
      now = omega arith;
      fit = (fits, so.fit);
      rising = (omega (arith, so.now, le), so.rising);
      sent = sent_after;
      made = all_map (IsReply lab turns) (IsReply after (turn ∷ turns))
          (λ bytes r. turned_reply after turn turns bytes (goes_reply lab after onward turns bytes r)) lab.made so.made;
      given = goes_given lab after onward (turn ∷ turns) (given, so.given);
    }

  -- ---- the peer hears

  module _ (turns : List Turn) (lab after : Lab) (so : LabSo lab turns) (onward : Onward lab after) where
    later_sent : lab.clock ≤ after.clock → AllByRecursion (WasSaid managed schedule turns after.clock) lab.sent
    later_sent le =
        all_map (WasSaid managed schedule turns lab.clock) (WasSaid managed schedule turns after.clock)
        (λ sending was. later_said managed schedule turns lab.clock after.clock sending le was) lab.sent so.sent

    later_made : AllByRecursion (IsReply after turns) lab.made
    later_made = all_map (IsReply lab turns) (IsReply after turns) (λ bytes r. goes_reply lab after onward turns bytes r) lab.made so.made

  module _ (are : AreClients managed) (pool : FitsPool schedule.pool) (turns : List Turn) (lab : Lab) (so : LabSo lab turns) (now : ℕ) (le : lab.clock ≤ now)
      (sending : Sending) (was : WasSaid managed schedule turns lab.clock sending) where
    abbrev response : Response
    response = hears now sending.bytes lab.peer

    abbrev heard_lab : Lab
    heard_lab = (peer_goes now response lab).lab

    -- what it says is its reply
    says_reply : (reply : Reply) → response.says ≡ Some reply → IsReply heard_lab turns (server_frame reply)
    says_reply reply says =
        let answer : IsAnswer sending.bytes lab.peer reply = answers_its_client now sending.bytes lab.peer reply says in
        let by : IsSaidBy managed schedule turns lab.clock answer.sent = was answer.sent answer.heard in
        let fit = replies_fit now sending.bytes lab.peer answer.sent reply (subst FitsPool (sym so.pool) pool) answer.heard by.fits says in
        let to : reply.chaddr ≡ by.one.spec.mac = answer.to_client ∙ by.from in
        let octets : AreBytes reply.chaddr.bytes =
        subst (λ (mac : Mac). AreBytes mac.bytes) (sym to) (one_of FitsManaged managed by.one are.fit by.among).mac.range in
        record {
          reply = reply;
          frame = refl;
          fits = fit.0;
          lease = fit.1;
          octets = frames_are_octets reply octets;
          heard = now;
          asked = λ ack. record {
            one = by.one;
            among = by.among;
            to = to;
            at = by.at;
            said = answer.sent.said;
            was = by.was;
            request = answer.to_request ack;
            same_xid = sym answer.same_xid;
            before = omega (arith, by.before, le);
          };
          stands = λ ack. subst (λ (lease : ℕ). Stands reply.yiaddr reply.chaddr (lease_end lease now) heard_lab) (sym answer.for_lease)
              (inr (acks_bind now sending.bytes lab.peer reply says ack));
        }

    says_made : (says : Option Reply) → response.says ≡ says → AllByRecursion (IsReply heard_lab turns) (option_to_list (option_map server_frame says))
    says_made None is = tt
    says_made (Some reply) is = (says_reply reply is, tt)

    pub heard_so : Onward lab heard_lab → now < 10 ^ 15 → LabSo heard_lab turns
    heard_so onward short = record {
      client = so.client;
      pool = keeps_its_pool now sending.bytes lab.peer ∙ so.pool;
      clock = short;
      now = omega (arith, so.now, le);
      fit = so.fit;
      rising = so.rising;
      sent = later_sent turns lab heard_lab so onward le;
      made = all_join (IsReply heard_lab turns) lab.made (option_to_list (made response)) (later_made turns lab heard_lab so onward)
          (says_made response.says refl);
      given = goes_given lab heard_lab onward turns so.given;
    }

  -- ---- the start, and each line

  moments_end : (at : ℕ) → moment_of at < 10 ^ 15
  moments_end at = grind arith

  module _ (are : AreClients managed) (pool : FitsPool schedule.pool) where
    pub first_so : LabSo (lab_opened managed schedule).lab []
    first_so = record {
      client = opens_so managed schedule;
      pool = refl;
      clock = moments_end schedule.begin.at;
      now = omega arith;
      fit = tt;
      rising = tt;
      sent = subst (AllByRecursion (WasSaid managed schedule [] begin)) (sym (ap (flat_map sends_of) (opening_steps managed schedule)))
          (all_said managed schedule are [] tt);
      made = tt;
      given = tt;
    }

    raised_short : (at : ℕ) (lab : Lab) → lab.clock < 10 ^ 15 → raised at lab < 10 ^ 15
    raised_short at lab short = grind (arith, short)

    rises : (at : ℕ) (lab : Lab) → lab.clock ≤ raised at lab
    rises at lab = grind arith

    no_bytes : AreBytes []
    no_bytes i = lit< tt

    -- a turn in which no frame comes
    plain : (at salt : ℕ) (event : Event) (lab : Lab) (turns : List Turn) → LabSo lab turns → FitsTurn (turn_with (raised at lab) salt event [])
    plain at salt event lab turns so = record { at = raised_short at lab so.clock; sent = refl; octets = no_bytes }

    given_so : (at salt : ℕ) (iface : IfIndex) (lab : Lab) (turns : List Turn) → LabSo lab turns → (given : Option (List ℕ)) → IfSome given (IsReply lab turns)
        → Onward lab (clients_turned (turn_given (raised at lab) salt iface given) lab).lab
        → LabSo (clients_turned (turn_given (raised at lab) salt iface given) lab).lab (turn_given (raised at lab) salt iface given ∷ turns)
    given_so at salt iface lab turns so None r onward =
        turned_so are (turn_with (raised at lab) salt wakes.Quiet []) turns lab (plain at salt wakes.Quiet lab turns so) (rises at lab) so onward tt
    given_so at salt iface lab turns so (Some bytes) r onward =
        turned_so are (turn_with (raised at lab) salt (wakes.Frame iface.number (length bytes)) bytes) turns lab
        (record { at = raised_short at lab so.clock; sent = refl; octets = r.octets }) (rises at lab) so onward r

    heard_line : (at : ℕ) (lab : Lab) (turns : List Turn) → LabSo lab turns → (frame : Option Sending) → IfSome frame (WasSaid managed schedule turns lab.clock)
        → Onward lab (peer_heard (raised at lab) frame lab).lab → LabSo (peer_heard (raised at lab) frame lab).lab turns
    heard_line at lab turns so None was onward =
        let after : Lab = (peer_heard (raised at lab) None lab).lab in
        record {
          client = so.client;
          pool = so.pool;
          clock = raised_short at lab so.clock;
          now = below (moment_in begin turns) lab.clock (raised at lab) so.now (rises at lab);
          fit = so.fit;
          rising = so.rising;
          sent = later_sent turns lab after so onward (rises at lab);
          made = later_made turns lab after so onward;
          given = goes_given lab after onward turns so.given;
        }
      where
        below : (a b c : ℕ) → a ≤ b → b ≤ c → a ≤ c
        below a b c h k = omega (arith, h, k)
    heard_line at lab turns so (Some sending) was onward =
        heard_so are pool turns lab so (raised at lab) (rises at lab) sending was onward (raised_short at lab so.clock)

    found : {X : Type 0} (P : X → Type 0) (number : ℕ) (xs : List X) → AllByRecursion P xs → IfSome (numbered number xs) P
    found P number xs all = by (numbered number xs) refl
      where
        by : (x : Option _) → numbered number xs ≡ x → IfSome x P
        by None is = tt
        by (Some x) is = one_numbered P number xs x all is

    pub line_so : (event : LabEvent) (lab : Lab) (turns : List Turn) → LabSo lab turns → LabSo (lab_step event lab).lab (with_turn (turn_of event lab) turns)
    line_so (Tick at salt) lab turns so =
        turned_so are (turn_with (raised at lab) salt wakes.Quiet []) turns lab (plain at salt wakes.Quiet lab turns so) (rises at lab) so
        (λ addr mac end. goes addr mac end (Tick at salt) lab) tt
    line_so (Carrier at salt iface up) lab turns so =
        turned_so are (turn_with (raised at lab) salt (wakes.Carrier iface.number up) []) turns lab
        (plain at salt (wakes.Carrier iface.number up) lab turns so) (rises at lab) so
        (λ addr mac end. goes addr mac end (Carrier at salt iface up) lab) tt
    line_so (Release at salt iface) lab turns so =
        turned_so are (turn_with (raised at lab) salt (wakes.Release iface.number) []) turns lab (plain at salt (wakes.Release iface.number) lab turns so)
        (rises at lab) so
        (λ addr mac end. goes addr mac end (Release at salt iface) lab) tt
    line_so (Give at salt iface frame) lab turns so =
        given_so at salt iface lab turns so (numbered frame lab.made) (found (IsReply lab turns) frame lab.made so.made)
        (λ addr mac end. goes addr mac end (Give at salt iface frame) lab)
    line_so (Hear at frame) lab turns so =
        heard_line at lab turns so (numbered frame lab.sent) (found (WasSaid managed schedule turns lab.clock) frame lab.sent so.sent)
        (λ addr mac end. goes addr mac end (Hear at frame) lab)

    pub lines_so : (events : List LabEvent) (lab : Lab) (turns : List Turn) → LabSo lab turns → LabSo (lab_after events lab) (turns_onto events lab turns)
    lines_so [] lab turns so = so
    lines_so (event ∷ events) lab turns so = lines_so events (lab_step event lab).lab (with_turn (turn_of event lab) turns) (line_so event lab turns so)
