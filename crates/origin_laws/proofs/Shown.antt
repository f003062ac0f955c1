-- The Reply that granted a kept DHCPv6 lease is the first good one of an exchange that the interface's frames show.
use Rattle.std.proofs.Common.{◌≡◌, ◌⊎◌, inl, inr, ℕ, Bool, true, false, List, [], ◌∷◌, Option, Some, None, IfSome, refl, sym, ap, subst, ◌∙◌}
use Rattle.std.specs.Option.{option_map}
use Rattle.std.specs.Prelude.{◌==◌}
use Rattle.machine.specs.Since.{Since}
use Rattle.net_types.proofs.AllLaws.{all_map}
use Rattle.net_types.proofs.CaseLaws.{gated}
use Rattle.net_types.specs.Marks.{AreBytes}
use Rattle.net_types.specs.declared.address.Mac.{Mac}
use Rattle.v6_message.specs.declared.kind.ServerKind6.{ServerKind6}
use Rattle.v6_message.specs.declared.kind.ServerKind6.TheVariants.{Reply}
use Rattle.v6_message.specs.Replies.{Content6}
use Rattle.v6_frames.specs.Heard.{HeardMessage6}
use Rattle.v6_frames.specs.Spelled.{Sent6}
use Rattle.lease6_text.specs.Leases.{Lease6Content}
use Rattle.v6_client.specs.declared.states.State6.{State6}
use Rattle.v6_client.specs.declared.states.State6.TheVariants.{Off, Waiting, Soliciting, Requesting, Bound, Renewing, Rebinding, Restarting, Declining}
use Rattle.v6_client.specs.declared.turn.Turn6.{Turn6}
use Rattle.v6_client.specs.Answers.{counts, is_taken, learnt, reply_answer}
use Rattle.v6_client.specs.Calls.{fresh_in}
use Rattle.v6_client.specs.Clients.{ClientContent, is_declining, turn_of}
use Rattle.v6_client.specs.Hearing.{heard_row}
use Rattle.v6_client.specs.Laws.{IsGranting}
use Rattle.v6_client.specs.Runs.{Turned6, answered, hears_turned, tick_turned}
use Rattle.world.specs.declared.wakes.Event.{Event}
use Rattle.world.specs.declared.wakes.Event.TheVariants.{Frame, Carrier, Duplicate, Release, Rebind, Stop, Quiet, End}
use Rattle.client_model.specs.declared.interfaces.Iface.{Iface}
use Rattle.client_model.specs.Fitting.{FitsBeginning}
use Rattle.client_model.specs.IfaceTurns.{iface_turned}
use Rattle.client_model.specs.KeptLeases.{Beginning}
use Rattle.client_model.specs.Messages.{Said, Arp, Dhcp4, Dhcp6}
use Rattle.evidence_words.specs.Entries.{Entry}
use Rattle.evidence_words.specs.IfaceLives.{IsLived, Met, Opening, entry_of, iface_after, now_in, opens, shown, site_of}
use Rattle.evidence_words.specs.Inputs.{Site, index_at}
use Rattle.lease_evidence.specs.HeldLeases.{KeepsTyped}
use Rattle.lease_evidence.proofs.HeldRuns.{opening_said_fits, turn_said_fits}
use Rattle.lease_evidence.proofs.Spoken.{FitsSaid}
use Rattle.lease6_evidence.specs.Exchanges6.{Seen6, seen6_in, shows6}
use Rattle.lease6_evidence.specs.Replies6.{message6_at, message6_on}
use Rattle.lease6_evidence.proofs.Bytes6.{HasBytes, heard_typed}
use Rattle.lease6_evidence.proofs.Calls6.{by_parts}
use Rattle.lease6_evidence.proofs.ClientTurns6.{Carries6, FitsSite, call_result, tick_carries, tick_result}
use Rattle.lease6_evidence.proofs.ExchangeStates.{IsFirst, Takes6, Watched6}
use Rattle.lease6_evidence.proofs.Fields6.{confs_fit}
use Rattle.lease6_evidence.proofs.FirstReplies6.{taken_first}
use Rattle.lease6_evidence.proofs.HeldRuns6.{FoursFit, lives}
use Rattle.lease6_evidence.proofs.Life6.{Faced6}
use Rattle.lease6_evidence.proofs.Spoken6.{FitsFour, seen_after}
use Rattle.lease6_evidence.proofs.Steps6.{message_in}
use Rattle.lease6_evidence.proofs.Turns6.{Hears}
use Rattle.origin_laws.specs.Granted6.{WasKept, IsGrantedIn, client_at}
use Rattle.origin_laws.specs.Origins6.{Confirms6, KeptLeasesTellOrigins6}
use Rattle.origin_laws.proofs.Calls.{granted_server}
use Rattle.origin_laws.proofs.Turns.{Granted, GrantsIn, KeptOrGrantedSo, kept_or_granted}

-- ---- a Reply is answered with nothing

reply_silent : (turn : Turn6) (taken : Bool) (kept fresh : Option Lease6Content) (state : State6)
    → (heard_row turn (reply_answer (is_declining state) taken kept fresh) state).say ≡ None
reply_silent turn taken kept fresh Off = refl
reply_silent turn taken kept fresh (Waiting due) = refl
reply_silent turn false kept fresh (Soliciting exchange offer) = refl
reply_silent turn true kept None (Soliciting exchange offer) = refl
reply_silent turn true kept (Some lease) (Soliciting exchange offer) = refl
reply_silent turn false kept fresh (Requesting exchange) = refl
reply_silent turn true kept None (Requesting exchange) = refl
reply_silent turn true kept (Some lease) (Requesting exchange) = refl
reply_silent turn taken kept fresh Bound = refl
reply_silent turn false kept fresh (Renewing exchange) = refl
reply_silent turn true kept None (Renewing exchange) = refl
reply_silent turn true kept (Some lease) (Renewing exchange) = refl
reply_silent turn false kept fresh (Rebinding exchange) = refl
reply_silent turn true kept None (Rebinding exchange) = refl
reply_silent turn true kept (Some lease) (Rebinding exchange) = refl
reply_silent turn false kept fresh (Restarting exchange end since stands) = refl
reply_silent turn true kept None (Restarting exchange end since true) = refl
reply_silent turn true kept None (Restarting exchange end since false) = refl
reply_silent turn true kept (Some lease) (Restarting exchange end since stands) = refl
reply_silent turn taken None fresh (Declining exchange) = refl
reply_silent turn taken (Some lease) fresh (Declining exchange) = refl

module _ (site : Site) where
  abbrev said : Turned6 → Option Sent6
  said turned = message_in site.managed.spec.mac site.duid turned.out

  nothing_said : (at salt : ℕ) (message : Content6) (c : ClientContent) → message.kind ≡ Reply → said (hears_turned at salt message c) ≡ None
  unfolding hears_turned
  nothing_said at salt message c kind =
      gated (λ (turned : Turned6). said turned ≡ None) (counts c message) _ _
      (subst (λ (k : ServerKind6). said (answered at salt message k (learnt message.sol_max c)) ≡ None) (sym kind)
      (none_spoken _ _ _ (reply_silent (turn_of at salt (learnt message.sol_max c)) (is_taken c message) c.kept
      (fresh_in at (learnt message.sol_max c) message) c.state))) refl
    where
      none_spoken : {X Y Z : Type 0} (f : Y → Z) (g : X → Y) (say : Option X) → say ≡ None → option_map f (option_map g say) ≡ None
      none_spoken f g say none = rw none refl

  -- ---- what came is bytes

  shown_bytes : (heard : Option HeardMessage6) → IfSome heard (λ h. AreBytes h.message.options)
      → IfSome (option_map (λ h. h.message) heard) HasBytes
  shown_bytes None h = tt
  shown_bytes (Some heard) h = h

  on_bytes : (event : Event) (bytes : List ℕ) → AreBytes bytes → IfSome (message6_on site event bytes) (λ h. AreBytes h.message.options)
  on_bytes (Frame index len) bytes octets =
      gated (λ (o : Option HeardMessage6). IfSome o (λ h. AreBytes h.message.options)) (index_at site == index) _ None
      (heard_typed site.managed.spec.mac bytes octets) tt
  on_bytes (Carrier index up) bytes octets = tt
  on_bytes (Duplicate index address) bytes octets = tt
  on_bytes (Release index) bytes octets = tt
  on_bytes (Rebind index) bytes octets = tt
  on_bytes Stop bytes octets = tt
  on_bytes Quiet bytes octets = tt
  on_bytes End bytes octets = tt

  came_bytes : (e : Entry) (message : Content6) → AreBytes e.bytes → message6_at site e ≡ Some message → AreBytes message.options
  came_bytes e message octets came =
      subst (λ (o : Option Content6). IfSome o HasBytes) came (shown_bytes (message6_on site e.event e.bytes) (on_bytes e.event e.bytes octets))

  -- ---- the Reply that a client takes

  takes : (at : ℕ) (message : Content6) (c : ClientContent) (lease : Lease6Content) → IsGranting at message c lease → Takes6 c message
  takes at message c lease grants = record { counted = grants.counted; kind = grants.reply; taken = grants.taken }

  first_reply : (e : Entry) (past : List Entry) (message : Content6) → message6_at site e ≡ Some message → (c : ClientContent) (seen : Seen6)
      → seen6_in site (e ∷ past) ≡ seen → Watched6 site c seen past → Takes6 c message → IsFirst site message e past
  first_reply e past message came c seen same w =
      by_parts site (λ (d : ClientContent). Takes6 d message → IsFirst site message e past) c w.settings
      (λ t. taken_first site e past c.fresh c.last c.sol_max c.kept c.plea seen same message came c.state w.follows.on t)

-- ---- lives

ends_fit : (say : Said) → FitsSaid say → FitsFour say
ends_fit (Dhcp4 say) fits = record { from = fits.from_mac; to = fits.to_mac }
ends_fit (Arp say) fits = tt
ends_fit (Dhcp6 sent) fits = tt

module _ (own : List Mac) (beginning : Beginning) (opening : Opening) (fits : FitsBeginning beginning) (typed : KeepsTyped beginning) where
  abbrev life : Site
  life = site_of own beginning opening

  abbrev iface : List Met → Iface
  iface mets = iface_after own beginning opening mets

  fours_fit : FoursFit own beginning fits opening
  fours_fit = record {
    opening_fits = λ lived.
        all_map FitsSaid FitsFour ends_fit (opens beginning opening).said (opening_said_fits own beginning opening fits typed lived);
    turns_fit = λ met mets lived.
        all_map FitsSaid FitsFour ends_fit (iface_turned own met.turn (iface mets)).said
        (turn_said_fits own beginning opening met mets fits typed lived);
  }

  fits_life : FitsSite life
  fits_life = record {
    mac = fits.managed.mac.six;
    duid = fits.duid.most;
    asks = confs_fit beginning.managed.conf.dhcp6.ias fits.managed.dhcp6.each;
  }

  module _ (met : Met) (mets : List Met) (lived : IsLived own beginning opening (met ∷ mets)) where
    abbrev past : List Entry
    past = shown opening mets

    abbrev e : Entry
    e = entry_of met

    faced : Faced6 life (now_in past) past (iface mets)
    faced = lives own beginning fits opening fours_fit mets lived.4

    abbrev c0 : ClientContent
    c0 = (iface mets).dhcp6

    abbrev c1 : ClientContent
    c1 = client_at met (iface mets)

    ticked : Carries6 life met.turn.at (shows6 (said life (tick_turned met.turn.at met.turn.salt c0)) (seen6_in life past)) past c1
    ticked = tick_carries life fits_life (now_in past) met.turn.at met.turn.salt (seen6_in life past) past c0 faced.client

    -- what the frames of the turn show of exchanges, where a Reply came in
    seen_in_turn : (lease : Lease6Content) (g : GrantsIn life lease met (iface mets))
        → seen6_in life (e ∷ past) ≡ shows6 (said life (tick_turned met.turn.at met.turn.salt c0)) (seen6_in life past)
    seen_in_turn lease g =
        let message : Content6 = g.granted.message in
        let first = tick_result life fits_life met.turn.at met.turn.salt c0 faced.client.watched.settings faced.client.fields in
        let then_said = call_result life fits_life (Hears message) met.turn.at met.turn.salt c1 (came_bytes life e message lived.1 g.granted.came)
        ticked.watched.settings ticked.sound ticked.fields in
        seen_after life fits_life.mac e past (iface_turned own met.turn (iface mets)) (said life (tick_turned met.turn.at met.turn.salt c0))
        (said life (hears_turned met.turn.at met.turn.salt message c1)) lived.3 g.hears.says_are (fours_fit.turns_fit met mets lived)
        first.says then_said.says
        ∙ ap (λ (m : Option Sent6). shows6 m (shows6 (said life (tick_turned met.turn.at met.turn.salt c0)) (seen6_in life past)))
        (nothing_said life met.turn.at met.turn.salt message c1 g.granted.grants.reply)

    confirmed : (lease : Lease6Content) → GrantsIn life lease met (iface mets) → Confirms6 life lease e past
    confirmed lease g =
        let was : IsGrantedIn life lease met (iface mets) = g.granted in
        let first : IsFirst life was.message e past =
        first_reply life e past was.message was.came c1 _ (seen_in_turn lease g) ticked.watched
        (takes life met.turn.at was.message c1 was.given was.grants) in
        record {
          opened = first.opened;
          message = was.message;
          reply = first.first;
          server = granted_server met.turn.at was.message c1 was.given was.grants ∙ ap (λ (l : Lease6Content). Some l.server) (sym was.left.rest);
          origin = was.origin;
        }

  all_confirmed : (lease : Lease6Content) (mets : List Met) → IsLived own beginning opening mets → Granted own beginning opening lease mets
      → Since (λ e past. Unit {0}) (Confirms6 life lease) (shown opening mets)
  all_confirmed lease [] lived since = absurd since
  all_confirmed lease (met ∷ mets) lived (inl g) = inl (confirmed met mets lived lease g)
  all_confirmed lease (met ∷ mets) lived (inr since) = inr (tt, all_confirmed lease mets lived.4 since.1)

pub kept_leases_tell_origins : KeptLeasesTellOrigins6
kept_leases_tell_origins own beginning opening mets lease fits typed lived kept = by (kept_or_granted own beginning opening mets lease kept)
  where
    by : KeptOrGrantedSo own beginning opening lease mets
        → WasKept beginning.kept6 lease ⊎ Since (λ e past. Unit {0}) (Confirms6 (site_of own beginning opening) lease) (shown opening mets)
    by (inl was) = inl was.0
    by (inr since) = inr (all_confirmed own beginning opening fits typed lease mets lived since)
