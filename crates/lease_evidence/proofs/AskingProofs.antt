-- The laws on the REQUESTs that a lease rests on.
use Rattle.std.proofs.Common.{◌≡◌, ◌≢◌, ℕ, zero, suc, ◌+◌, ◌≤◌, ◌<◌, true, List, [], ◌∷◌, ◌++◌, length, get_or, map, Option, Some, None, refl, sym, ap, subst, ◌∙◌, arith}
use Rattle.std.specs.List.{Contains}
use Rattle.std.specs.Prelude.{◌==◌}
use Rattle.machine.specs.Since.{Always}
use Rattle.net_types.proofs.CaseLaws.{split}
use Rattle.net_types.specs.declared.address.Net.{Net}
use Rattle.net_types.specs.declared.address.Net.TheVariants.{V4}
use Rattle.net_types.specs.declared.address.Net4.{Net4}
use Rattle.lease_text.specs.declared.lease.TheConstants.{INFINITE_LEASE}
use Rattle.v4_message.specs.declared.writing.Kind4.{Kind4}
use Rattle.v4_message.specs.declared.writing.Kind4.TheVariants.{Discover, Request, Decline, Release}
use Rattle.v4_message.specs.declared.writing.Said4.{Said4}
use Rattle.v4_frames.specs.declared.sent.Sent4.{Sent4}
use Rattle.world.specs.declared.wakes.Event.TheVariants.{Frame}
use Rattle.v4_client.specs.declared.states.Exchange4.{Exchange4}
use Rattle.evidence_words.specs.Entries.{Entry, Offer}
use Rattle.evidence_words.specs.Inputs.{Site, index_at, offers_at}
use Rattle.evidence_words.specs.Probed.{EachAfter}
use Rattle.lease_evidence.specs.AskedFirst.{AsksFor, NeedsRequest, LastsFromRequest, NeedsNewRequest, NeedsFrameHere}
use Rattle.lease_evidence.specs.Endings.{Says}
use Rattle.lease_evidence.specs.Exchanges.{Numbered, Seen, message_of, exchange_of, requests, says, shows, show, seen_in}
use Rattle.lease_evidence.specs.Laws.{Grants}
use Rattle.lease_evidence.specs.LeaseBasis.{FirstAck, CalmFor, ends_lease}
use Rattle.lease_evidence.proofs.Cutting.{behind, in_front, silent_says}
use Rattle.lease_evidence.proofs.EndingProofs.{ack_frame, ends_so}
use Rattle.lease_evidence.proofs.LawProofs.{grants, lasts_not, never}

-- ---- the open exchange is that of a REQUEST

module _ (site : Site) (P : Exchange4 → Type 0) where
  abbrev OpenIs : Option Numbered → Type 0
  OpenIs current = (x : Numbered) → current ≡ Some x → P x.exchange

  -- each REQUEST among some frames opens such an exchange
  abbrev OpenSo : ℕ → List Offer → Type 0
  OpenSo at offers = (offer : Offer) → Contains offers offer → (sent : Sent4) → message_of site offer ≡ Some sent → sent.said.kind ≡ Request
      → P (exchange_of at sent.said)

  opened_is : (number : ℕ) (exchange : Exchange4) → P exchange → OpenIs (Some (record { number = number; exchange = exchange }))
  opened_is number exchange p x is = subst P (one_exchange (record { number = number; exchange = exchange }) x is) p
    where
      one_exchange : (a b : Numbered) → Some a ≡ Some b → a.exchange ≡ b.exchange
      one_exchange a b h = cc

  none_open : OpenIs None
  none_open x is = absurd cc

  requested_is : (at : ℕ) (said : Said4) (seen : Seen) (current : Option Numbered) → P (exchange_of at said) → OpenIs seen.current
      → OpenIs (requests at said seen current).current
  requested_is at said seen None p open_so = opened_is (seen.count + 1) (exchange_of at said) p
  requested_is at said seen (Some x) p open_so =
      split (said.xid == x.exchange.xid) (λ e. rw e open_so) (λ e. rw e (opened_is (seen.count + 1) (exchange_of at said) p))

  said_is : (at : ℕ) (said : Said4) (seen : Seen) (sort : Kind4) → (sort ≡ Request → P (exchange_of at said)) → OpenIs seen.current
      → OpenIs (says at said seen sort).current
  said_is at said seen Request p open_so = requested_is at said seen seen.current (p refl) open_so
  said_is at said seen Discover p open_so = none_open
  said_is at said seen Decline p open_so = none_open
  said_is at said seen Release p open_so = none_open

  shown_is : (at : ℕ) (message : Option Sent4) (seen : Seen) → ((sent : Sent4) → message ≡ Some sent → sent.said.kind ≡ Request → P (exchange_of at sent.said))
      → OpenIs seen.current → OpenIs (shows at message seen).current
  shown_is at None seen p open_so = open_so
  shown_is at (Some sent) seen p open_so = said_is at sent.said seen sent.said.kind (p sent refl) open_so

  all_shown : (at : ℕ) (offers : List Offer) (seen : Seen) → OpenSo at offers → OpenIs seen.current
      → OpenIs (show at (map (message_of site) offers) seen).current
  all_shown at [] seen p open_so = open_so
  all_shown at (o ∷ offers) seen p open_so =
      all_shown at offers (shows at (message_of site o) seen)
      (λ offer among sent spells is_kind. p offer (behind o offers offer among) sent spells is_kind)
      (shown_is at (message_of site o) seen (λ sent spells is_kind. p o (in_front o offers) sent spells is_kind) open_so)

  abbrev RequestsSo : Entry → List Entry → Type 0
  RequestsSo e past = (request : Says Request site e past) → P (exchange_of e.moment request.sent.said)

  pub open_is : (past : List Entry) → Always RequestsSo past → OpenIs (seen_in site past).current
  open_is [] so = none_open
  open_is (e ∷ past) so =
      all_shown e.moment (offers_at site e) (seen_in site past)
      (λ offer among sent spells is_kind. so.0 (record { offer = offer; among = among; sent = sent; spells = spells; is_kind = is_kind }))
      (open_is past so.1)

  pub always_open : (past : List Entry) → Always RequestsSo past → Always (λ e earlier. OpenIs (seen_in site (e ∷ earlier)).current) past
  always_open [] so = tt
  always_open (e ∷ past) so = (open_is (e ∷ past) so, always_open past so.1)

always_all : (P Q : Entry → List Entry → Type 0) → ((e : Entry) (past : List Entry) → P e past → Q e past) → (past : List Entry) → Always P past → Always Q past
always_all P Q f [] h = h
always_all P Q f (e ∷ past) h = (f e past h.0, always_all P Q f past h.1)

always_both : (P Q : Entry → List Entry → Type 0) (past : List Entry) → Always P past → Always Q past → Always (λ e earlier. P e earlier × Q e earlier) past
always_both P Q [] one two = tt
always_both P Q (e ∷ past) one two = ((one.0, two.0), always_both P Q past one.1 two.1)

-- ---- the laws

pub needs_request : NeedsRequest
needs_request site addr now past none basis =
    let NotFor : Exchange4 → Type 0 = λ (x : Exchange4). x.address ≡ addr.ip → ⊥ in
    let open_so : Always (λ e earlier. OpenIs site NotFor (seen_in site (e ∷ earlier)).current) past =
    always_open site NotFor past
    (always_all (λ e earlier. AsksFor addr.ip site e earlier → ⊥) (RequestsSo site NotFor)
    (λ e earlier not_asked request asks. not_asked (record { request = request; asks = asks })) past none)
    in
    never (CalmFor site basis.opened) (FirstAck site basis.opened basis.terms) (λ e earlier. OpenIs site NotFor (seen_in site (e ∷ earlier)).current)
    (λ e earlier n f.
    let g : Grants site (V4 addr) e earlier = grants site basis.opened basis.terms e earlier f.good (V4 addr) basis.gives in
    n basis.opened f.good.is_open (sym g.asked ∙ ap (λ (net : Net4). net.ip) (sym (one_net addr basis.terms.net basis.gives)))) past open_so basis.granted
  where
    one_net : (a b : Net4) → V4 a ≡ V4 b → a ≡ b
    one_net a b h = cc

pub lasts_from_request : LastsFromRequest
lasts_from_request site addr now asked secs past early short over basis =
    let IsEarly : Exchange4 → Type 0 = λ (x : Exchange4). x.address ≡ addr.ip → x.first ≤ asked in
    let Short : Entry → List Entry → Type 0 = λ (e : Entry) (earlier : List Entry).
    (g : Grants site (V4 addr) e earlier) → (g.terms.lease ≢ INFINITE_LEASE) × (g.terms.lease ≤ secs) in
    let open_so : Always (λ e earlier. OpenIs site IsEarly (seen_in site (e ∷ earlier)).current) past =
    always_open site IsEarly past
    (always_all (λ e earlier. AsksFor addr.ip site e earlier → e.moment ≤ asked) (RequestsSo site IsEarly)
    (λ e earlier so request asks. so (record { request = request; asks = asks })) past early)
    in
    never (CalmFor site basis.opened) (FirstAck site basis.opened basis.terms)
    (λ e earlier. OpenIs site IsEarly (seen_in site (e ∷ earlier)).current × Short e earlier)
    (λ e earlier n f.
    let g : Grants site (V4 addr) e earlier = grants site basis.opened basis.terms e earlier f.good (V4 addr) basis.gives in
    let began : basis.opened.exchange.first ≤ asked =
    n.0 basis.opened f.good.is_open (sym g.asked ∙ ap (λ (net : Net4). net.ip) (sym (one_net addr basis.terms.net basis.gives))) in
    let lease : (basis.terms.lease ≢ INFINITE_LEASE) × (basis.terms.lease ≤ secs) = n.1 g in
    let most : basis.terms.lease ≤ secs = lease.1 in
    lasts_not basis.opened.exchange.first basis.terms.lease now lease.0 (omega (arith, began, most, over)) basis.unexpired) past
    (always_both (λ e earlier. OpenIs site IsEarly (seen_in site (e ∷ earlier)).current) Short past open_so short) basis.granted
  where
    one_net : (a b : Net4) → V4 a ≡ V4 b → a ≡ b
    one_net a b h = cc

-- ---- what a message closed stays closed without a REQUEST

module _ (site : Site) (at : ℕ) where
  abbrev NoRequest : List Offer → Type 0
  NoRequest offers = (offer : Offer) → Contains offers offer → (sent : Sent4) → message_of site offer ≡ Some sent → sent.said.kind ≡ Request → ⊥

  says_closed : (said : Said4) (seen : Seen) (sort : Kind4) → (sort ≡ Request → ⊥) → (says at said seen sort).current ≡ None
  says_closed said seen Request lacks = absurd (lacks refl)
  says_closed said seen Discover lacks = refl
  says_closed said seen Decline lacks = refl
  says_closed said seen Release lacks = refl

  stays_closed : (message : Option Sent4) (seen : Seen) → ((sent : Sent4) → message ≡ Some sent → sent.said.kind ≡ Request → ⊥) → seen.current ≡ None
      → (shows at message seen).current ≡ None
  stays_closed None seen lacks closed = closed
  stays_closed (Some sent) seen lacks closed = says_closed sent.said seen sent.said.kind (lacks sent refl)

  rest_of : (o : Offer) (offers : List Offer) → NoRequest (o ∷ offers) → NoRequest offers
  rest_of o offers lacks offer among sent spells is_kind = lacks offer (behind o offers offer among) sent spells is_kind

  all_closed : (offers : List Offer) (seen : Seen) → NoRequest offers → seen.current ≡ None → (show at (map (message_of site) offers) seen).current ≡ None
  all_closed [] seen lacks closed = closed
  all_closed (o ∷ offers) seen lacks closed =
      all_closed offers (shows at (message_of site o) seen) (rest_of o offers lacks)
      (stays_closed (message_of site o) seen (λ sent spells is_kind. lacks o (in_front o offers) sent spells is_kind) closed)

  among_closed : (offers : List Offer) (seen : Seen) → NoRequest offers → (offer : Offer) (sent : Sent4) → message_of site offer ≡ Some sent
      → (k : ℕ) → k < length offers → get_or offers k offer ≡ offer → (show at (map (message_of site) offers) seen).current ≡ None
  among_closed [] seen lacks offer sent spells k less is = absurd (omega (arith, less))
  among_closed (o ∷ offers) seen lacks offer sent spells zero less is =
      all_closed offers (shows at (message_of site o) seen) (rest_of o offers lacks)
      (closes (message_of site o) seen sent (ap (message_of site) is ∙ spells) (λ other told is_kind. lacks o (in_front o offers) other told is_kind))
    where
      closes : (message : Option Sent4) (seen : Seen) (sent : Sent4) → message ≡ Some sent
          → ((other : Sent4) → message ≡ Some other → other.said.kind ≡ Request → ⊥) → (shows at message seen).current ≡ None
      closes None seen sent told lacks = absurd cc
      closes (Some other) seen sent told lacks = says_closed other.said seen other.said.kind (lacks other refl)
  among_closed (o ∷ offers) seen lacks offer sent spells (suc k) less is =
      among_closed offers (shows at (message_of site o) seen) (rest_of o offers lacks) offer sent spells k (omega (arith, less)) is

abbrev NoneOpen : Site → Entry → List Entry → Type 0
NoneOpen site e past = (seen_in site (e ∷ past)).current ≡ None

no_request_at : (site : Site) (e : Entry) (past : List Entry) → (Says Request site e past → ⊥) → NoRequest site e.moment (offers_at site e)
no_request_at site e past lacks offer among sent spells is_kind =
    lacks (record { offer = offer; among = among; sent = sent; spells = spells; is_kind = is_kind })

closed_each : (site : Site) (rest : List Entry) → (seen_in site rest).current ≡ None → (later : List Entry)
    → EachAfter (λ e past. Says Request site e past → ⊥) later rest
    → ((seen_in site (later ++ rest)).current ≡ None) × EachAfter (NoneOpen site) later rest
closed_each site rest closed [] lacks = (closed, tt)
closed_each site rest closed (e ∷ later) lacks =
    let before = closed_each site rest closed later lacks.1 in
    let here : NoneOpen site e (later ++ rest) =
    all_closed site e.moment (offers_at site e) (seen_in site (later ++ rest)) (no_request_at site e (later ++ rest) lacks.0) before.0 in
    (here, (here, before.1))

each_map : (P Q : Entry → List Entry → Type 0) → ((e : Entry) (past : List Entry) → P e past → Q e past) → (turns earlier : List Entry)
    → EachAfter P turns earlier → EachAfter Q turns earlier
each_map P Q f [] earlier h = tt
each_map P Q f (e ∷ turns) earlier h = (f e (turns ++ earlier) h.0, each_map P Q f turns earlier h.1)

none_granted : (site : Site) (net : Net) (e : Entry) (past : List Entry) → NoneOpen site e past → Grants site net e past → ⊥
none_granted site net e past closed g = unlike g.opened (sym closed ∙ g.good.is_open)
  where
    unlike : (x : Numbered) → None ≡ Some x → ⊥
    unlike x h = cc

pub needs_new_request : (sort : Kind4) → ends_lease sort ≡ true → NeedsNewRequest sort
needs_new_request sort ends site net now later e earlier said no_request no_more =
    let closed : NoneOpen site e earlier =
    among_closed site e.moment (offers_at site e) (seen_in site earlier) (no_request_at site e earlier no_request) said.offer said.sent said.spells
    said.among.0 said.among.1 said.among.2 in
    let after = closed_each site (e ∷ earlier) closed later no_more in
    ends_so site net now later e earlier (λ calm. silent_says site e earlier sort ends calm.silent said) (none_granted site net e earlier closed)
    (each_map (NoneOpen site) (λ x past. Grants site net x past → ⊥) (none_granted site net) later (e ∷ earlier) after.1)

pub needs_frame_here : NeedsFrameHere
needs_frame_here site net now past none basis =
    never (CalmFor site basis.opened) (FirstAck site basis.opened basis.terms) (λ e earlier. (len : ℕ) → e.event ≢ Frame (index_at site) len)
    (λ e earlier n f. let frame = ack_frame site basis.opened basis.terms e earlier f.good in n frame.0 frame.1) past none basis.granted
