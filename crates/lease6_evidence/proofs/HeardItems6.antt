-- A message keeps the basis of the items that a client holds, and gives one to each item that it brings.
use Rattle.std.proofs.Common.{◌≡◌, ℕ, Bool, true, false, ◌&&◌, List, ◌∷◌, Option, Some, None, IfSome, refl, sym, ◌∙◌, subst}
use Rattle.std.proofs.lemmas.Bool.{both_ways, and_parts}
use Rattle.std.specs.List.{AllByRecursion}
use Rattle.std.specs.Option.{option_and_then}
use Rattle.std.specs.Prelude.{if◌then◌else◌}
use Rattle.net_types.proofs.CaseLaws.{gated}
use Rattle.v6_message.specs.declared.kind.ServerKind6.{ServerKind6}
use Rattle.v6_message.specs.declared.kind.ServerKind6.TheVariants.{Advertise, Reply}
use Rattle.v6_message.specs.Replies.{Content6}
use Rattle.lease6_text.specs.Bounds.{FitsIa, FitsLease6}
use Rattle.lease6_text.specs.Leases.{IaLeaseContent, Lease6Content}
use Rattle.v6_client.specs.declared.exchange.Exchange6.{Exchange6}
use Rattle.v6_client.specs.declared.states.Answer6.TheVariants as answer
use Rattle.v6_client.specs.declared.states.State6.{State6}
use Rattle.v6_client.specs.declared.states.State6.TheVariants.{Off, Waiting, Soliciting, Requesting, Bound, Renewing, Rebinding, Restarting, Declining}
use Rattle.v6_client.specs.declared.states.Step6.{Step6}
use Rattle.v6_client.specs.declared.turn.Turn6.{Turn6}
use Rattle.v6_client.specs.Answers.{counts, granted, is_taken, learnt, meeting_of, reply_answer, server_of, sol_max_with, takes_replies}
use Rattle.v6_client.specs.Calls.{fresh_in}
use Rattle.v6_client.specs.Clients.{ClientContent, PleaContent, holds, met_scope}
use Rattle.v6_client.specs.Hearing.{heard_row, is_better, is_taken_at_once, solicited}
use Rattle.v6_client.specs.V6Items.Items.{ias_of, is_nonempty}
use Rattle.v6_client.specs.V6Items.Reading.{serves}
use Rattle.v6_client.specs.Runs.{Turned6, answered, hears_turned, rested, stepped}
use Rattle.v6_client.specs.Saying.{lease_server, plea_server}
use Rattle.v6_client.specs.V6Items.Taking.{ias_granted}
use Rattle.lease_evidence.specs.ClientModel.ClientSettings6.{site6_of}
use Rattle.lease_evidence.specs.EvidenceWords.Entries.{Entry}
use Rattle.lease_evidence.specs.EvidenceWords.Inputs.{Site}
use Rattle.lease6_evidence.specs.Exchanges6.{Seen6, seen6_in, shows6}
use Rattle.lease6_evidence.specs.Replies6.{asks_at, message6_at}
use Rattle.lease6_evidence.proofs.Basis6.{HeldIas}
use Rattle.lease6_evidence.proofs.ExchangeStates.{IsFirst, On6, Takes6, client_with, stood}
use Rattle.lease6_evidence.proofs.FirstReplies6.{first_taken, taken_first}
use Rattle.lease6_evidence.proofs.Granted6.{HeldBefore, all_contained, all_granted}
use Rattle.lease6_evidence.proofs.ItemCalls6.{Holds6, NoFirst, ias_stay}
use Rattle.lease6_evidence.proofs.Steps6.{message_in}
use Rattle.lease6_evidence.proofs.Turns6.{Goes6}

module _ (site : Site) (e : Entry) (past : List Entry) (message : Content6) (came : message6_at site e ≡ Some message)
    (goes : Goes6 site e past)
    (unspent : Bool) (last : Option ℕ) (sol_max : ℕ) (kept : Option Lease6Content) (plea : Option PleaContent) (seen : Seen6)
    (fits : IfSome kept FitsLease6) (salt : ℕ) where
  abbrev here : State6 → ClientContent
  here state = client_with site unspent last sol_max state kept plea

  abbrev turn : Turn6
  turn = record { site = site6_of site.managed; last = last; sol_max = sol_max; at = e.moment; salt = salt }

  abbrev OnSeen : State6 → Type 0
  OnSeen state = On6 site state (lease_server kept) (plea_server plea) seen.current past

  -- no message was said with the input
  abbrev IsSeen : Type 0
  IsSeen = seen6_in site (e ∷ past) ≡ seen

  abbrev HeldBy : (by : Bool) → List IaLeaseContent → Type 0
  HeldBy by ias = HeldIas site by e.moment (e ∷ past) ias

  -- what a Reply gave
  abbrev HeldNow : List IaLeaseContent → Type 0
  HeldNow ias = HeldBy false ias

  abbrev HeldThen : State6 → Type 0
  HeldThen state = HeldIas site (stood state) e.moment past (ias_of kept)

  -- what is held after the turn
  abbrev After : Turned6 → Type 0
  After turned =
      seen6_in site (e ∷ past) ≡ shows6 (message_in site.managed.spec.mac site.duid turned.out) seen
      → holds turned.client.state ≡ true → HeldBy (stood turned.client.state) (ias_of turned.client.kept)

  same_message : (other : Content6) → message6_at site e ≡ Some other → other ≡ message
  same_message other is = one_is other message (sym is ∙ came)
    where
      one_is : (x y : Content6) → Some x ≡ Some y → x ≡ y
      one_is x y h = cc

  -- a first Reply would be taken
  pub no_first : (state : State6) → holds state ≡ true → OnSeen state → IsSeen → (Takes6 (here state) message → ⊥)
      → NoFirst site e past
  no_first state holding on same never opened other first =
      never (subst (λ (m : Content6). Takes6 (here state) m) (same_message other first.good.came)
      (first_taken site e past unspent last sol_max kept plea seen same state opened other holding on first))

  -- the client holds what it held
  stays_held : (state : State6) → holds state ≡ true → OnSeen state → HeldThen state → (Takes6 (here state) message → ⊥) → IsSeen
      → HeldBy (stood state) (ias_of kept)
  stays_held state holding on held never same =
      ias_stay site e past (stood state) goes (no_first state holding on same never) (ias_of kept) held

  untaking : (state : State6) → takes_replies (message.rapid && site.managed.conf.dhcp6.rapid) state ≡ false
      → Takes6 (here state) message → ⊥
  untaking state not t =
      both_ways (takes_replies (message.rapid && site.managed.conf.dhcp6.rapid) state) not
      (and_parts (takes_replies (message.rapid && site.managed.conf.dhcp6.rapid) state) (serves (asks_at site) message)
      t.taken).0

  pub untaken : (state : State6) → is_taken (here state) message ≡ false → Takes6 (here state) message → ⊥
  untaken state not t = both_ways (is_taken (here state) message) not t.taken

  -- ---- the lease that it grants

  kept_ias : (k : Option Lease6Content) → IfSome k FitsLease6 → AllByRecursion FitsIa (ias_of k)
  kept_ias None fits = tt
  kept_ias (Some lease) fits = fits.ias.each

  from_server : (state : State6) (server : Option (List ℕ))
      → HeldNow (ias_granted (meeting_of e.moment (here state) message) (asks_at site))
      → HeldNow (ias_of (option_and_then (granted e.moment (here state) message) server))
  from_server state None held = tt
  from_server state (Some server) held =
      gated (λ (lease : Option Lease6Content). HeldNow (ias_of lease))
      (is_nonempty (ias_granted (meeting_of e.moment (here state) message) (asks_at site))) _ _ held tt

  fresh_held : (state : State6) → IsFirst site message e past → HeldBefore site e.moment past (met_scope state) (ias_of kept)
      → HeldNow (ias_of (fresh_in e.moment (here state) message))
  fresh_held state first held =
      gated (λ (lease : Option Lease6Content). HeldNow (ias_of lease)) (is_taken (here state) message) _ _
      (from_server state (server_of message)
      (all_granted site e past message first goes (meeting_of e.moment (here state) message) refl refl (kept_ias kept fits)
      held (asks_at site) (all_contained (asks_at site)))) tt

  -- where the Reply is taken, each item of its lease has its basis
  abbrev Given : State6 → (taken : Bool) → Option Lease6Content → Type 0
  Given state taken fresh = taken ≡ true → IsSeen → HeldNow (ias_of fresh)

  given : (state : State6) → OnSeen state → counts (here state) message ≡ true → message.kind ≡ Reply
      → HeldBefore site e.moment past (met_scope state) (ias_of kept) → Given state (is_taken (here state) message)
      (fresh_in e.moment (here state) message)
  given state on counted kind held taken same =
      fresh_held state (taken_first site e past unspent last sol_max kept plea seen same message came state on
      (record { counted = counted; kind = kind; taken = taken })) held

  -- ---- a Reply

  abbrev Replied : State6 → (declining taken : Bool) → (held fresh : Option Lease6Content) → Type 0
  Replied state declining taken held fresh = After (stepped (heard_row turn (reply_answer declining taken held fresh) state)
      fresh (here state))

  soliciting_holds : (exchange : Exchange6) (offer : Option ℕ) (taken : Bool) (fresh : Option Lease6Content)
      → Given (Soliciting exchange offer) taken fresh
      → Replied (Soliciting exchange offer) false taken kept fresh
  soliciting_holds exchange offer true None gives same h = absurd cc
  soliciting_holds exchange offer true (Some lease) gives same h = gives refl same
  soliciting_holds exchange offer false fresh gives same h = absurd cc

  requesting_holds : (exchange : Exchange6) (taken : Bool) (fresh : Option Lease6Content)
      → Given (Requesting exchange) taken fresh
      → Replied (Requesting exchange) false taken kept fresh
  requesting_holds exchange true None gives same h = absurd cc
  requesting_holds exchange true (Some lease) gives same h = gives refl same
  requesting_holds exchange false fresh gives same h = absurd cc

  restarting_holds : (exchange : Exchange6) (end since : ℕ) (stands : Bool) → OnSeen (Restarting exchange end since stands)
      → (holds (Restarting exchange end since stands) ≡ true → HeldThen (Restarting exchange end since stands)) → (taken : Bool)
      → is_taken (here (Restarting exchange end since stands)) message ≡ taken
      → (fresh : Option Lease6Content) → Given (Restarting exchange end since stands) taken fresh
      → Replied (Restarting exchange end since stands) false taken kept fresh
  restarting_holds exchange end since true on held true is None gives same h = absurd cc
  restarting_holds exchange end since false on held true is None gives same h = absurd cc
  restarting_holds exchange end since stands on held true is (Some lease) gives same h = gives refl same
  restarting_holds exchange end since stands on held false is fresh gives same h =
      stays_held (Restarting exchange end since stands) h on (held h) (untaken (Restarting exchange end since stands) is) same

  renewing_holds : (exchange : Exchange6) → OnSeen (Renewing exchange) → HeldThen (Renewing exchange) → (taken : Bool)
      → is_taken (here (Renewing exchange)) message ≡ taken
      → (fresh : Option Lease6Content) → Given (Renewing exchange) taken fresh → Replied (Renewing exchange) false taken kept
      fresh
  renewing_holds exchange on held true is None gives same h = absurd cc
  renewing_holds exchange on held true is (Some lease) gives same h = gives refl same
  renewing_holds exchange on held false is fresh gives same h = stays_held (Renewing exchange) refl on held
      (untaken (Renewing exchange) is) same

  rebinding_holds : (exchange : Exchange6) → OnSeen (Rebinding exchange) → HeldThen (Rebinding exchange) → (taken : Bool)
      → is_taken (here (Rebinding exchange)) message ≡ taken
      → (fresh : Option Lease6Content) → Given (Rebinding exchange) taken fresh → Replied (Rebinding exchange) false taken kept
      fresh
  rebinding_holds exchange on held true is None gives same h = absurd cc
  rebinding_holds exchange on held true is (Some lease) gives same h = gives refl same
  rebinding_holds exchange on held false is fresh gives same h = stays_held (Rebinding exchange) refl on held
      (untaken (Rebinding exchange) is) same

  declining_holds : (exchange : Exchange6) → OnSeen (Declining exchange) → HeldThen (Declining exchange)
      → (taken : Bool) (fresh held : Option Lease6Content)
      → Replied (Declining exchange) true taken held fresh
  declining_holds exchange on before taken fresh None same h = absurd cc
  declining_holds exchange on before taken fresh (Some lease) same h =
      stays_held (Declining exchange) refl on before (untaking (Declining exchange) refl) same

  reply_holds : (state : State6) → OnSeen state → (holds state ≡ true → HeldThen state) → counts (here state) message ≡ true
      → message.kind ≡ Reply
      → After (answered e.moment salt message Reply (here state))
  reply_holds Off on held counted kind same h = absurd cc
  reply_holds (Waiting due) on held counted kind same h = absurd cc
  reply_holds (Soliciting exchange offer) on held counted kind same h =
      soliciting_holds exchange offer _ _ (given (Soliciting exchange offer) on counted kind tt) same h
  reply_holds (Requesting exchange) on held counted kind same h = requesting_holds exchange _ _
      (given (Requesting exchange) on counted kind tt) same h
  reply_holds Bound on held counted kind same h = stays_held Bound refl on (held refl) (untaking Bound refl) same
  reply_holds (Renewing exchange) on held counted kind same h =
      renewing_holds exchange on (held refl) _ refl _ (given (Renewing exchange) on counted kind (held refl)) same h
  reply_holds (Rebinding exchange) on held counted kind same h =
      rebinding_holds exchange on (held refl) _ refl _ (given (Rebinding exchange) on counted kind (held refl)) same h
  reply_holds (Restarting exchange end since stands) on held counted kind same h =
      restarting_holds exchange end since stands on held _ refl _ (given (Restarting exchange end since stands) on counted kind tt)
      same h
  reply_holds (Declining exchange) on held counted kind same h =
      declining_holds exchange on (held refl) (is_taken (here (Declining exchange)) message)
      (fresh_in e.moment (here (Declining exchange)) message) kept same h

  -- ---- an Advertise

  pub untaken_kind : (state : State6) → message.kind ≡ Advertise → Takes6 (here state) message → ⊥
  untaken_kind state is t = unlike message.kind is t.kind
    where
      unlike : (k : ServerKind6) → k ≡ Advertise → k ≡ Reply → ⊥
      unlike k a r = cc

  not_holding : (exchange : Exchange6) (offer : Option ℕ) (serving : Bool) (preference : ℕ)
      → holds (solicited turn exchange offer (if serving then answer.Offer preference else answer.Nothing)).state ≡ true → ⊥
  not_holding exchange offer true preference h =
      gated (λ (step : Step6). holds step.state ≡ true → ⊥) (is_taken_at_once exchange preference) _ _ (λ h. cc)
      (gated (λ (step : Step6). holds step.state ≡ true → ⊥) (is_better offer preference) _ _ (λ h. cc) (λ h. cc)) h
  not_holding exchange offer false preference h = cc

  advertise_holds : (state : State6) → OnSeen state → (holds state ≡ true → HeldThen state) → message.kind ≡ Advertise
      → After (answered e.moment salt message Advertise (here state))
  advertise_holds Off on held kind same h = absurd cc
  advertise_holds (Waiting due) on held kind same h = absurd cc
  advertise_holds (Soliciting exchange offer) on held kind same h =
      absurd (not_holding exchange offer (serves (asks_at site) message) message.preference h)
  advertise_holds (Requesting exchange) on held kind same h = absurd cc
  advertise_holds Bound on held kind same h = stays_held Bound refl on (held refl) (untaken_kind Bound kind) same
  advertise_holds (Renewing exchange) on held kind same h = stays_held (Renewing exchange) refl on (held refl)
      (untaken_kind (Renewing exchange) kind) same
  advertise_holds (Rebinding exchange) on held kind same h = stays_held (Rebinding exchange) refl on (held refl)
      (untaken_kind (Rebinding exchange) kind) same
  advertise_holds (Restarting exchange end since stands) on held kind same h =
      stays_held (Restarting exchange end since stands) h on (held h) (untaken_kind (Restarting exchange end since stands) kind)
      same
  advertise_holds (Declining exchange) on held kind same h = stays_held (Declining exchange) refl on (held refl)
      (untaken_kind (Declining exchange) kind) same

  -- ---- any message

  ignored_holds : (state : State6) → OnSeen state → (holds state ≡ true → HeldThen state) → counts (here state) message ≡ false
      → After (rested (here state))
  ignored_holds state on held not same h = stays_held state h on (held h) (λ t. both_ways (counts (here state) message) not
      t.counted) same

pub hears_holds : (site : Site) (e : Entry) (past : List Entry) (message : Content6) → message6_at site e ≡ Some message
    → Goes6 site e past
    → (unspent : Bool) (last : Option ℕ) (sol_max : ℕ) (state : State6) (kept : Option Lease6Content) (plea : Option PleaContent) (seen : Seen6)
    → IfSome kept FitsLease6 → (salt : ℕ)
    → On6 site state (lease_server kept) (plea_server plea) seen.current past
    → Holds6 site e.moment past (client_with site unspent last sol_max state kept plea)
    → seen6_in site (e ∷ past) ≡ shows6 (message_in site.managed.spec.mac site.duid
    (hears_turned e.moment salt message (client_with site unspent last sol_max state kept plea)).out) seen
    → Holds6 site e.moment (e ∷ past)
    (hears_turned e.moment salt message (client_with site unspent last sol_max state kept plea)).client
unfolding hears_turned
hears_holds site e past message came goes unspent last sol_max state kept plea seen fits salt on held =
    by_count (counts (client_with site unspent last sol_max state kept plea) message) refl
  where
    by_kind : (kind : ServerKind6) → message.kind ≡ kind → counts (client_with site unspent last sol_max state kept plea) message ≡ true
        → After site e past message came goes unspent last sol_max kept plea seen fits salt
        (answered e.moment salt message kind (learnt message.sol_max (client_with site unspent last sol_max state kept plea)))
    by_kind Advertise kind counted = advertise_holds site e past message came goes unspent last (sol_max_with message.sol_max sol_max)
        kept plea seen fits salt state on held kind
    by_kind Reply kind counted = reply_holds site e past message came goes unspent last (sol_max_with message.sol_max sol_max) kept
        plea seen fits salt state on held counted kind

    by_count : (counting : Bool) → counts (client_with site unspent last sol_max state kept plea) message ≡ counting
        → After site e past message came goes unspent last sol_max kept plea seen fits salt
        (if counting then answered e.moment salt message message.kind
        (learnt message.sol_max (client_with site unspent last sol_max state kept plea)) else rested
        (client_with site unspent last sol_max state kept plea))
    by_count true is = by_kind message.kind refl is
    by_count false is = ignored_holds site e past message came goes unspent last sol_max kept plea seen fits salt state on held is
