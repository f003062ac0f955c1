-- Each item that an interface holds has its basis in its life.
use Rattle.std.proofs.Common.{◌≡◌, ◌≢◌, ℕ, ◌^◌, ◌<◌, inl, inr, Bool, true, false, List, [], ◌∷◌, length, map, Option, Some, None, IfSome, refl, sym, ◌∙◌, subst, arith, lit≤}
use Rattle.std.proofs.lemmas.Bool.{both_ways}
use Rattle.std.specs.List.{AllByRecursion, Contains}
use Rattle.std.specs.Prelude.{if◌then◌else◌, option_to_list}
use Rattle.machine.specs.Since.{Since}
use Rattle.net_types.proofs.AllLaws.{all_both}
use Rattle.net_types.specs.declared.address.Net6.{Net6}
use Rattle.net_types.specs.AddressText.{FitsIp6}
use Rattle.net_types.specs.declared.address.Mac.{Mac}
use Rattle.v6_options.specs.declared.ia.IaKind.{IaKind}
use Rattle.v6_options.specs.declared.ia.IaKind.TheVariants.{Na, Pd}
use Rattle.v6_message.specs.ReadBack.{FitsNet}
use Rattle.lease6_text.specs.declared.lease.Item6.{Item6}
use Rattle.lease6_text.specs.Bounds.{FitsIa, FitsItem, FitsLease6, HasText6, IsTypedIa}
use Rattle.lease6_text.specs.Leases.{IaLeaseContent, Lease6Content}
use Rattle.lease6_text.proofs.Apart.{Apart, apart_from, pairs_from}
use Rattle.settings.specs.declared.dhcp6_conf.IaConf.{IaConf}
use Rattle.settings.specs.Dhcp6Settings.{conf_key}
use Rattle.v6_client.specs.V6Items.declared.asks.IaAsk.{IaAsk}
use Rattle.v6_client.specs.declared.states.State6.{State6}
use Rattle.v6_client.specs.declared.states.State6.TheVariants.{Off, Waiting, Soliciting, Requesting, Bound, Renewing, Rebinding, Restarting, Declining}
use Rattle.v6_client.specs.Calls.{has_origin}
use Rattle.v6_client.specs.V6Items.Bounds.{FitsAsks, ask_key}
use Rattle.v6_client.specs.Clients.{ClientContent, client_made, held_of, holds}
use Rattle.v6_client.specs.V6Items.Items.{ias_of}
use Rattle.world.specs.declared.wakes.Event.TheVariants.{Quiet}
use Rattle.script_model.specs.IfaceSets.{is_up}
use Rattle.net_types.specs.declared.address.Ip6.{Ip6}
use Rattle.lease_evidence.specs.ClientModel.declared.interfaces.Iface.{Iface}
use Rattle.lease_evidence.specs.ClientModel.ClientSettings6.{ask_for, runs_dhcp6, settings6_of}
use Rattle.lease_evidence.specs.ClientModel.Fitting.{FitsBeginning}
use Rattle.lease_evidence.specs.ClientModel.IfaceSteps.{IfaceStep, silent}
use Rattle.lease_evidence.specs.ClientModel.IfaceTurns.{iface_turned}
use Rattle.lease_evidence.specs.ClientModel.Interfaces.{begins, carrier_at_opening, resting}
use Rattle.lease_evidence.specs.ClientModel.KeptLeases.{Beginning}
use Rattle.lease_evidence.specs.EvidenceWords.Entries.{Entry}
use Rattle.lease_evidence.specs.EvidenceWords.IfaceLives.{IsLived, IsSaid, Met, Opening, entry_of, iface_after, now_in, opening_entry, opens, shown, site_of}
use Rattle.lease_evidence.specs.EvidenceWords.Inputs.{Site, index_at}
use Rattle.lease_evidence.specs.HeldLeases.{KeepsTyped}
use Rattle.lease6_evidence.specs.HeldItems.{BeginsWithKeptItems, HeldItemsHaveBasis, ItemHasBasis, ItemRests}
use Rattle.lease6_evidence.specs.ItemBasis.{NotContested}
use Rattle.lease6_evidence.specs.Exchanges6.{seen6_in}
use Rattle.lease6_evidence.specs.KeptBasis6.{KeptBasis6, RebindsAlone, StartsAsking}
use Rattle.lease6_evidence.specs.Laws6.{Names}
use Rattle.lease6_evidence.specs.Replies6.{asks_at}
use Rattle.lease6_evidence.proofs.Basis6.{AskedBy, HeldIa, HeldIas, HeldItem, IsKeptItem, item_basis}
use Rattle.lease6_evidence.proofs.ClientTurns6.{Carries6, FitsSite, call_carries, call_result}
use Rattle.lease6_evidence.proofs.FieldRuns6.{BytesFor}
use Rattle.lease6_evidence.proofs.Fields6.{FitsKept, FitsNets, confs_fit, mapped_len, net_fits}
use Rattle.lease6_evidence.proofs.Granted6.{of_contained}
use Rattle.lease6_evidence.proofs.ExchangeStates.{stood}
use Rattle.lease6_evidence.proofs.LawProofs.{needs_reply}
use Rattle.lease6_evidence.proofs.Life6.{Faced6, turned_faced}
use Rattle.lease6_evidence.proofs.Spoken6.{FitsFour, seen_after, talk_of}
use Rattle.lease6_evidence.proofs.Standing6.{Standing6, Stands, StandsIn, Started}
use Rattle.lease6_evidence.proofs.StandingCalls6.{call_standing}
use Rattle.lease6_evidence.proofs.Steps6.{message_in, sixes}
use Rattle.lease6_evidence.proofs.Turns6.{Call6, Begins, FitsCall6, Goes6, Ignores, Rests, Runs, begins_or_rests, begins_run, rests_run, run6}

-- ---- the client before its opening

kept_fits : (kept : Option Lease6Content) → IfSome kept HasText6 → IfSome kept FitsLease6
kept_fits None h = tt
kept_fits (Some lease) h = h.fits

typed_nets : (ia : IaLeaseContent) → FitsIa ia → IsTypedIa ia → FitsNets ia
typed_nets ia fits typed =
    all_both (FitsItem ia.kind) (λ (item : Item6). FitsIp6 item.net.ip) (λ item. FitsNet ia.kind item.net)
    (λ item fit ip. net_fits ia.kind item.net fit.len ip) ia.items fits.each
    typed.items

kept_typed : (kept : Option Lease6Content) → IfSome kept HasText6 → IfSome kept FitsKept
kept_typed None h = tt
kept_typed (Some lease) h = record {
  server = h.typed.server.most;
  nets = all_both FitsIa IsTypedIa FitsNets typed_nets lease.ias h.fits.ias.each h.typed.ias;
}

abbrev ConfsUnlike : IaConf → IaConf → Type 0
ConfsUnlike one other = conf_key one ≢ conf_key other

each_mapped : (ia : IaConf) (ias : List IaConf) → AllByRecursion (ConfsUnlike ia) ias
    → AllByRecursion (λ other. ask_key (ask_for ia) ≢ ask_key other) (map ask_for ias)
each_mapped ia [] all = tt
each_mapped ia (other ∷ ias) all = (all.0, each_mapped ia ias all.1)

apart_mapped : (ias : List IaConf) → Apart ConfsUnlike ias → Apart (λ one other. ask_key one ≢ ask_key other) (map ask_for ias)
apart_mapped [] apart = tt
apart_mapped (ia ∷ ias) apart = (each_mapped ia ias apart.0, apart_mapped ias apart.1)

module _ (own : List Mac) (beginning : Beginning) (fits : FitsBeginning beginning) (opening : Opening) where
  abbrev site : Site
  site = site_of own beginning opening

  fits_site : FitsSite site
  fits_site = record {
    mac = fits.managed.mac.six;
    duid = fits.duid.most;
    asks = confs_fit beginning.managed.conf.dhcp6.ias fits.managed.dhcp6.each;
  }

  abbrev made : ClientContent
  made = client_made (settings6_of beginning.duid beginning.managed) beginning.kept6

  asks_fit : FitsAsks (map ask_for beginning.managed.conf.dhcp6.ias)
  asks_fit =
      let same : length (map ask_for beginning.managed.conf.dhcp6.ias) ≡ length beginning.managed.conf.dhcp6.ias = mapped_len
      ask_for beginning.managed.conf.dhcp6.ias in
      record {
        few = omega (arith, same, fits.managed.dhcp6.few);
        unlike = pairs_from (λ one other. ask_key one ≢ ask_key other) (map ask_for beginning.managed.conf.dhcp6.ias)
            (apart_mapped beginning.managed.conf.dhcp6.ias (apart_from ConfsUnlike beginning.managed.conf.dhcp6.ias
            fits.managed.dhcp6.unlike));
      }

  made_carries : (now : ℕ) → Carries6 site now (seen6_in site []) [] made
  made_carries now = record {
    watched = record {
      settings = refl;
      follows = record { counted = record { latest = tt; above = λ n less. tt }; last_is = tt; on = tt };
    };
    sound = record { name = fits.managed.name; asks = asks_fit; day = lit≤ tt; kept = kept_fits beginning.kept6 fits.kept6 };
    fields = record { state = tt; plea = tt; asked = tt; kept = kept_typed beginning.kept6 fits.kept6 };
    holds = λ h. absurd cc;
  }

  made_standing : (now : ℕ) → Standing6 site now None [] made
  made_standing now = record {
    may = λ fresh. record { off = refl; same = refl; stays = tt; silent = tt; nothing = refl };
    stands = tt;
  }

  -- ---- the opening

  abbrev e : Entry
  e = opening_entry opening

  abbrev up : Bool
  up = is_up opening.up beginning.managed.spec.index.number

  quiet_goes : Goes6 site e []
  quiet_goes = record { stays = tt; own = no_one }
    where
      no_one : (kind : IaKind) (ip : Ip6) → NotContested (index_at site) kind ip Quiet
      no_one Na ip = tt
      no_one Pd ip = tt

  opened_by : (early : opening.at < 10 ^ 15) (call : Call6) → FitsCall6 site e [] call → BytesFor call → (call ≡ Ignores → ⊥)
      → (g : Iface) → g.managed ≡ beginning.managed
      → g.stopped ≡ false → g.up ≡ up → g.dhcp6 ≡ made → (step : IfaceStep) → Runs g (run6 call opening.at opening.salt made)
      step → IsSaid site e step → AllByRecursion FitsFour step.said
      → Faced6 site opening.at (e ∷ []) step.iface
  opened_by early call fit octets not_ignored g managed stopped up_is client_is step does is four =
      let result = call_result site fits_site call opening.at opening.salt made octets refl (made_carries opening.at).sound
      (made_carries opening.at).fields in
      let said = message_in site.managed.spec.mac site.duid (run6 call opening.at opening.salt made).out in
      let says : sixes step.said ≡ option_to_list said =
      does.says_are ∙ (λ i. option_to_list (message_in (managed i).spec.mac (client_is i).settings.duid
      (run6 call opening.at opening.salt made).out)) in
      let carries : Carries6 site opening.at (seen6_in site (e ∷ [])) (e ∷ []) (run6 call opening.at opening.salt made).client =
      call_carries site fits_site e early [] opening.salt (seen6_in site []) made (made_carries opening.at) call fit octets
      (λ ignored. absurd (not_ignored ignored)) (λ fresh. refl)
      (seen_after site fits_site.mac e [] step None said is says four tt result.says) in
      let standing : Standing6 site opening.at None (e ∷ []) (run6 call opening.at opening.salt made).client =
      call_standing site e [] opening.salt None call fit (seen6_in site []) made (made_carries opening.at).watched
      (made_carries opening.at).sound (λ ignored. absurd (not_ignored ignored)) (made_standing opening.at)
      (seen_after site fits_site.mac e [] step None said is says four tt result.says)
      (talk_of site fits_site.mac e step None said is says four tt result.says) in
      record {
        managed = does.managed ∙ managed;
        stopped = does.stopped ∙ stopped;
        carrier = λ k. does.up ∙ up_is;
        off = λ k. absurd (both_ways step.iface.stopped (does.stopped ∙ stopped) k);
        client = subst (λ (d : ClientContent). Carries6 site opening.at (seen6_in site (e ∷ [])) (e ∷ []) d)
            (sym does.client_is) carries;
        standing = subst (λ (d : ClientContent). Standing6 site opening.at None (e ∷ []) d) (sym does.client_is) standing;
      }

  begun : (early : opening.at < 10 ^ 15) (runs : Bool) (comes : up ≡ true) (g : Iface) → g.managed ≡ beginning.managed → g.stopped ≡ false
      → g.up ≡ up → g.dhcp6 ≡ made → (step : IfaceStep)
      → Runs g (begins_or_rests opening.at opening.salt runs made) step → IsSaid site e step
      → AllByRecursion FitsFour step.said → Faced6 site opening.at (e ∷ []) step.iface
  begun early true comes g managed stopped up_is client_is step does is four =
      opened_by early Begins (quiet_goes, refl, comes) tt (λ h. cc) g managed stopped up_is client_is step does is four
  begun early false comes g managed stopped up_is client_is step does is four =
      opened_by early Rests (quiet_goes, refl) tt (λ h. cc) g managed stopped up_is client_is step does is four

  abbrev opened_when : Bool → IfaceStep
  opened_when u = carrier_at_opening u opening.at opening.salt (resting beginning)

  opened_faced : opening.at < 10 ^ 15 → (u : Bool) → up ≡ u → IsSaid site e (opened_when u)
      → AllByRecursion FitsFour (opened_when u).said
      → Faced6 site opening.at (e ∷ []) (opened_when u).iface
  opened_faced early true is said four =
      let g : Iface = record (resting beginning) { up = true } in
      let does : Runs g (begins_or_rests opening.at opening.salt (runs_dhcp6 beginning.managed.conf) made)
      (begins opening.at opening.salt g) = begins_run opening.at opening.salt g in
      let faced : Faced6 site opening.at (e ∷ []) (begins opening.at opening.salt g).iface =
      begun early (runs_dhcp6 beginning.managed.conf) is g refl refl (sym is) refl (begins opening.at opening.salt g) does
      said four in
      faced
  opened_faced early false is said four =
      opened_by early Rests (quiet_goes, refl) tt (λ h. cc) (resting beginning) refl refl (sym is) refl
      (silent (resting beginning)) (rests_run opening.at opening.salt (resting beginning)) said four

  -- ---- the turns

  -- each message of DHCPv4 goes between hardware addresses of six bytes
  pub record FoursFit : Type 0 where
    pub opening_fits : IsLived own beginning opening [] → AllByRecursion FitsFour (opens beginning opening).said
    pub turns_fit : (met : Met) (mets : List Met) → IsLived own beginning opening (met ∷ mets)
        → AllByRecursion FitsFour (iface_turned own met.turn (iface_after own beginning opening mets)).said

  pub lives : FoursFit → (mets : List Met) → IsLived own beginning opening mets
      → Faced6 site (now_in (shown opening mets)) (shown opening mets) (iface_after own beginning opening mets)
  lives four [] lived = opened_faced lived.0 up refl lived.1 (four.opening_fits lived)
  lives four (met ∷ mets) lived =
      turned_faced site fits_site (now_in (shown opening mets)) (shown opening mets) (entry_of met) lived.0 lived.1
      met.turn.salt (iface_after own beginning opening mets)
      (lives four mets lived.4) met.turn.unsent lived.3 (four.turns_fit met mets lived)

-- ---- what is held

held_ias : (site : Site) (now : ℕ) (past : List Entry) (c : ClientContent) (lease : Lease6Content)
    → (holds c.state ≡ true → HeldIas site (stood c.state) now past (ias_of c.kept))
    → held_of c ≡ Some lease → HeldIas site (stood c.state) now past lease.ias
held_ias site now past c lease held is = by_state (holds c.state) refl is
  where
    by_state : (b : Bool) → holds c.state ≡ b → (if b then c.kept else None) ≡ Some lease
        → HeldIas site (stood c.state) now past lease.ias
    by_state true h e = subst (λ (kept : Option Lease6Content). HeldIas site (stood c.state) now past (ias_of kept)) e (held h)
    by_state false h e = absurd cc

since_asking : (site : Site) (xid end now : ℕ) (past : List Entry) → now < end
    → Since (RebindsAlone site xid) (Started site xid end) past
    → Since (RebindsAlone site xid) (StartsAsking site xid now) past
since_asking here xid end now [] early h = h
since_asking here xid end now (e ∷ past) early (inl starts) =
    inl (record {
      speaks = starts.speaks;
      alone = starts.alone;
      first = starts.first;
      soon = subst (λ (until : ℕ). now < until) starts.ends early;
    })
since_asking here xid end now (e ∷ past) early (inr on) = inr (on.0, since_asking here xid end now past early on.1)

-- an item of the kept lease that is held, of a client that stands on it
kept_basis : (site : Site) (now : ℕ) (past : List Entry) (kind : IaKind) (iaid : ℕ) (item : Item6) (ask : IaAsk)
    → kind ≡ ask.kind → iaid ≡ ask.iaid
    → (xid end : ℕ) → Stands site xid end now None past → HeldItem site true kind iaid now past item
    → KeptBasis6 site ask item.net now past
kept_basis site now past kind iaid item ask same_kind same_iaid xid end stands held =
    let rests : IsKeptItem site kind iaid item = held.rests in
    record {
      persistent = stands.persistent;
      lease = rests.lease;
      kept = rests.kept;
      told = subst (λ (kept : Option Lease6Content). has_origin kept ≡ true) rests.kept stands.told;
      item = record {
        ia = rests.ia;
        among = rests.among;
        kind = rests.kind_is ∙ same_kind;
        iaid = rests.iaid_is ∙ same_iaid;
        item = item;
        of_ia = rests.of_ia;
        is_item = refl;
        live = held.live;
      };
      up = stands.up;
      stays = stands.stays;
      asking = record {
        xid = xid;
        since = since_asking site xid end now past stands.early stands.asking;
        unanswered = stands.unanswered;
      };
    }

item_rests : (site : Site) (now : ℕ) (past : List Entry) (kind : IaKind) (iaid : ℕ) (item : Item6)
    (by : AskedBy (asks_at site) kind iaid) (state : State6) → StandsIn site now None past state
    → HeldItem site (stood state) kind iaid now past item → ItemRests site by.ask item.net now past
item_rests site now past kind iaid item by Off stands held = inl (item_basis site kind iaid now past item by held)
item_rests site now past kind iaid item by (Waiting due) stands held = inl (item_basis site kind iaid now past item by held)
item_rests site now past kind iaid item by (Soliciting exchange offer) stands held =
    inl (item_basis site kind iaid now past item by held)
item_rests site now past kind iaid item by (Requesting exchange) stands held = inl (item_basis site kind iaid now past item by held)
item_rests site now past kind iaid item by Bound stands held = inl (item_basis site kind iaid now past item by held)
item_rests site now past kind iaid item by (Renewing exchange) stands held = inl (item_basis site kind iaid now past item by held)
item_rests site now past kind iaid item by (Rebinding exchange) stands held = inl (item_basis site kind iaid now past item by held)
item_rests site now past kind iaid item by (Restarting exchange end since true) stands held =
    inr (kept_basis site now past kind iaid item by.ask by.kind_is by.iaid_is exchange.xid end stands held)
item_rests site now past kind iaid item by (Restarting exchange end since false) stands held =
    inl (item_basis site kind iaid now past item by held)
item_rests site now past kind iaid item by (Declining exchange) stands held = inl (item_basis site kind iaid now past item by held)

has_basis : (site : Site) (past : List Entry) (state : State6) → StandsIn site (now_in past) None past state
    → (ia : IaLeaseContent) (item : Item6) → HeldIa site (stood state) (now_in past) past ia
    → Contains ia.items item → ItemHasBasis site ia item past
has_basis site past state stands ia item held among = record {
  ask = held.asked.ask;
  asked = held.asked.among;
  kind = held.asked.kind_is;
  iaid = held.asked.iaid_is;
  basis = item_rests site (now_in past) past ia.kind ia.iaid item held.asked state stands
      (of_contained (HeldItem site (stood state) ia.kind ia.iaid (now_in past) past) ia.items held.items item among);
}

pub items_have_basis : ((own : List Mac) (beginning : Beginning) (fits : FitsBeginning beginning) (typed : KeepsTyped beginning)
    (opening : Opening) → FoursFit own beginning fits opening) → HeldItemsHaveBasis
items_have_basis four own beginning opening mets lease ia item fits typed lived held among_ias among_items =
    let faced = lives own beginning fits opening (four own beginning fits typed opening) mets lived in
    let site : Site = site_of own beginning opening in
    let past : List Entry = shown opening mets in
    let c : ClientContent = (iface_after own beginning opening mets).dhcp6 in
    has_basis site past c.state faced.standing.stands ia item
    (of_contained (HeldIa site (stood c.state) (now_in past) past) lease.ias
    (held_ias site (now_in past) past c lease faced.client.holds held) ia
    among_ias) among_items

-- ---- at first

-- no message comes in the opening
no_reply : (site : Site) (opening : Opening) (ask : IaAsk) (net : Net6)
    → Names site ask net (opening_entry opening) [] → ⊥
no_reply site opening ask net names = absurd (never names.good.came)
  where
    never : {A : Type 0} {x : A} → None ≡ Some x → ⊥
    never h = cc

pub begin_with_kept_items : HeldItemsHaveBasis → BeginsWithKeptItems
begin_with_kept_items have own beginning opening lease ia item fits typed lived held among_ias among_items =
    let site : Site = site_of own beginning opening in
    let has : ItemHasBasis site ia item (shown opening []) = have own beginning opening [] lease ia item fits typed lived held
    among_ias
    among_items in
    record {
      ask = has.ask;
      asked = has.asked;
      kind = has.kind;
      iaid = has.iaid;
      basis = elim has.basis [
        | inl given ↦
            absurd (needs_reply site has.ask item.net (now_in (shown opening [])) (shown opening [])
            (no_reply site opening has.ask item.net, tt) given)
        | inr kept ↦ kept
      ];
    }
