-- Shares of kept prefixes are told by the judge of kept leases.
use Rattle.std.proofs.Common.{◌≡◌, ℕ, ◌<◌, Bool, true, ◌&&◌, List, [], ◌∷◌, length, get_or, zero, suc, Option, Some, None, map, refl, sym, ap, subst, ◌∙◌, arith}
use Rattle.std.proofs.lemmas.Bool.{and_parts, and_from, eqb-true, eq-eqb}
use Rattle.std.specs.Prelude.{◌==◌, is_some}
use Rattle.std.specs.List.{Contains, list_any}
use Rattle.net_types.specs.declared.address.Net.{Net}
use Rattle.net_types.specs.declared.address.Net6.{Net6}
use Rattle.net_types.specs.declared.interface.IfIndex.{IfIndex}
use Rattle.v6_options.specs.declared.ia.IaKind.TheVariants.{Pd}
use Rattle.lease6_text.specs.Leases.{IaLeaseContent, Lease6Content}
use Rattle.lease6_text.specs.LineParts.{is_same_kind}
use Rattle.settings.specs.declared.dhcp6_conf.IaConf.{IaConf}
use Rattle.settings.specs.declared.interfaces.Managed.{Managed}
use Rattle.v6_client.specs.V6Items.declared.asks.IaAsk.{IaAsk}
use Rattle.v6_client.specs.V6Items.Items.{is_live}
use Rattle.v6_client_laws.proofs.FirstItems.{behind_in, front_in}
use Rattle.v6_client_laws.proofs.Given.{met}
use Rattle.evidence.specs.ClientModel.ClientSettings6.{ask_for}
use Rattle.audit_words.specs.EvidenceWords.Entries.{Entry}
use Rattle.audit_words.specs.EvidenceWords.IfaceLives.{now_in}
use Rattle.audit_words.specs.EvidenceWords.Inputs.{Site}
use Rattle.evidence.specs.Lease6Evidence.KeptBasis6.{KeptBasis6}
use Rattle.evidence.specs.ShareBasis.{ShareBasisOf}
use Rattle.kept_judge.specs.declared.standing.Kept6.{Kept6}
use Rattle.kept_judge.specs.Asking6.{Tells6, is_asking6, kept6_in}
use Rattle.kept_judge.proofs.Judged6.{asks_by, asks_so, is_kind, kind_is}
use Rattle.kept_judge.proofs.Lists.{has_any}
use Rattle.kept_judge.proofs.AskingTold6.{stands, up_is}
use Rattle.share_judge.specs.KeptShares.{ia_shares, is_asked, is_asked_by, is_kept_share, item_shares, lease_shares, prefix_of}
use Rattle.share_judge.specs.Laws.{IsGiven, KeptSharesAreTold}
use Rattle.share_judge.specs.Sharing.{shares_out}
use Rattle.share_judge.proofs.Told.{based, given}

pub share_so : (upstream : Site) (index : IfIndex) (net : Net) (now : ℕ) (past : List Entry) (kept : Kept6) → Tells6 kept upstream past
    → (upstream.managed.conf.flags.persistent && lease_shares upstream.managed index net now kept upstream.kept6)
    ≡ is_kept_share upstream index net now past
share_so upstream index net now past kept t =
    ap (λ (k : Kept6). upstream.managed.conf.flags.persistent && lease_shares upstream.managed index net now k upstream.kept6) t

-- ---- IAs that are asked for

record Asked (ias : List IaConf) (iaid : ℕ) : Type 0 where
  pub ia : IaConf
  pub among : Contains ias ia
  pub kind : ia.kind ≡ Pd
  pub same : ia.iaid ≡ iaid

asked_by : (ias : List IaConf) (iaid : ℕ) → is_asked ias iaid ≡ true → Asked ias iaid
asked_by ias iaid h =
    let one = met (is_asked_by iaid) ias h in
    let parts = and_parts (is_same_kind one.x.kind Pd) (one.x.iaid == iaid) one.passes in
    record { ia = one.x; among = one.among; kind = kind_is one.x.kind Pd parts.0; same = eqb-true one.x.iaid iaid parts.1 }

-- what is among a list is among it as it is mapped,
pub record Before {X Y : Type 0} (f : X → Y) (xs : List X) (y : Y) : Type 0 where
  pub x : X
  pub among : Contains xs x
  pub is : f x ≡ y

mapped : {X Y : Type 0} (f : X → Y) (xs : List X) (x : X) (k : ℕ) → (k < length xs) × (get_or xs k x ≡ x) → Contains (map f xs) (f x)
mapped f [] x k at = absurd (let less = at.0 in omega (arith, less))
mapped f (y ∷ ys) x zero at = subst (λ z. Contains (map f (y ∷ ys)) z) (ap f at.1) (front_in (f y) (map f ys))
mapped f (y ∷ ys) x (suc k) at =
    let less = at.0 in behind_in (f y) (map f ys) (f x) (mapped f ys x k (omega (arith, less), at.1))

-- and the other way
before_map : {X Y : Type 0} (f : X → Y) (xs : List X) (y : Y) (k : ℕ) → (k < length (map f xs)) × (get_or (map f xs) k y ≡ y) → Before f xs y
before_map f [] y k at = absurd (let less = at.0 in omega (arith, less))
before_map f (x ∷ xs) y zero at = record { x = x; among = front_in x xs; is = at.1 }
before_map f (x ∷ xs) y (suc k) at =
    let less = at.0 in further (before_map f xs y k (omega (arith, less), at.1))
  where
    further : Before f xs y → Before f (x ∷ xs) y
    further b = record { x = b.x; among = behind_in x xs b.x b.among; is = b.is }

-- ---- a kept prefix that is shared

module _ (upstream : Site) (index : IfIndex) (net : Net) (past : List Entry) where
  abbrev now : ℕ
  now = now_in past

  abbrev managed : Managed
  managed = upstream.managed

  abbrev kept : Kept6
  kept = kept6_in upstream past

  abbrev shares_it : IaLeaseContent → Bool
  shares_it ia = ia_shares managed index net now ia

  abbrev asked_pd : IaLeaseContent → Bool
  asked_pd ia = is_same_kind ia.kind Pd && is_asked managed.conf.dhcp6.ias ia.iaid

  abbrev has_shares : Lease6Content → Bool
  has_shares lease = list_any shares_it lease.ias

  given_by : managed.conf.flags.persistent ≡ true → (lease : Lease6Content) → upstream.kept6 ≡ Some lease
      → lease_shares managed index net now kept (Some lease) ≡ true → IsGiven KeptBasis6 upstream index net past
  given_by flag lease is h =
      let last = and_parts (is_some lease.origin && has_shares lease && kept.up) (is_asking6 now kept.asked) h in
      let ups = and_parts (is_some lease.origin && has_shares lease) kept.up last.0 in
      let first = and_parts (is_some lease.origin) (has_shares lease) ups.0 in
      let ia = met shares_it lease.ias first.1 in
      let parts = and_parts (asked_pd ia.x) (list_any (item_shares managed index net now ia.x.iaid) ia.x.items) ia.passes in
      let both = and_parts (is_same_kind ia.x.kind Pd) (is_asked managed.conf.dhcp6.ias ia.x.iaid) parts.0 in
      let item = met (item_shares managed index net now ia.x.iaid) ia.x.items parts.1 in
      let live = and_parts (is_live now item.x) (shares_out managed index net (prefix_of ia.x.iaid item.x)) item.passes in
      let asked = asked_by managed.conf.dhcp6.ias ia.x.iaid both.1 in
      let turns = asks_by upstream now past kept.asked (stands upstream past) last.1 in
      record {
        one = prefix_of ia.x.iaid item.x;
        held = record {
          ask = ask_for asked.ia;
          asked = mapped ask_for managed.conf.dhcp6.ias asked.ia asked.among.0 (asked.among.1, asked.among.2);
          is_prefix = asked.kind;
          iaid = sym asked.same;
          basis = record {
            persistent = flag;
            lease = lease;
            kept = is;
            told = first.0;
            item = record {
              ia = ia.x;
              among = ia.among;
              kind = kind_is ia.x.kind Pd both.0 ∙ sym asked.kind;
              iaid = sym asked.same;
              item = item.x;
              of_ia = item.among;
              is_item = refl;
              live = live.0;
            };
            up = sym (up_is upstream past) ∙ ups.1;
            stays = turns.stays;
            asking = turns.asking;
          };
        };
        shares = live.1;
      }

  given_in : managed.conf.flags.persistent ≡ true → (lease : Option Lease6Content) → upstream.kept6 ≡ lease
      → lease_shares managed index net now kept lease ≡ true → IsGiven KeptBasis6 upstream index net past
  given_in flag None is h = absurd cc
  given_in flag (Some lease) is h = given_by flag lease is h

  share_told : is_kept_share upstream index net now past ≡ true → ShareBasisOf KeptBasis6 upstream index net past
  share_told h =
      let parts = and_parts managed.conf.flags.persistent (lease_shares managed index net now kept upstream.kept6) h in
      based KeptBasis6 upstream index net past (given_in parts.0 upstream.kept6 refl parts.1)

  same_prefix : (a b : ℕ) (n m : Net6) → a ≡ b → n ≡ m → shares_out managed index net (record { iaid = a; net = n }) ≡ true
      → shares_out managed index net (record { iaid = b; net = m }) ≡ true
  same_prefix a b n m k l h =
      sym (ap (λ (i : ℕ). shares_out managed index net (record { iaid = i; net = n })) k
      ∙ ap (λ (p : Net6). shares_out managed index net (record { iaid = b; net = p })) l) ∙ h

  by_given : (g : IsGiven KeptBasis6 upstream index net past) → is_kept_share upstream index net now past ≡ true
  by_given g =
      let b = g.held.basis in
      let conf = before_map ask_for managed.conf.dhcp6.ias g.held.ask g.held.asked.0 (g.held.asked.1, g.held.asked.2) in
      let item = b.item in
      let kind : item.ia.kind ≡ Pd = item.kind ∙ g.held.is_prefix in
      let conf_kind : conf.x.kind ≡ Pd = ap (λ (ask : IaAsk). ask.kind) conf.is ∙ g.held.is_prefix in
      let conf_iaid : conf.x.iaid ≡ item.ia.iaid = ap (λ (ask : IaAsk). ask.iaid) conf.is ∙ sym item.iaid in
      let shared : shares_out managed index net (prefix_of item.ia.iaid item.item) ≡ true =
      same_prefix g.one.iaid item.ia.iaid g.one.net item.item.net (g.held.iaid ∙ sym item.iaid) (sym item.is_item) g.shares in
      let asked : is_asked managed.conf.dhcp6.ias item.ia.iaid ≡ true =
      has_any (is_asked_by item.ia.iaid) managed.conf.dhcp6.ias conf.x conf.among
      (and_from (is_same_kind conf.x.kind Pd) (conf.x.iaid == item.ia.iaid) (is_kind conf.x.kind Pd conf_kind)
      (eq-eqb conf.x.iaid item.ia.iaid conf_iaid)) in
      let of_ia : list_any (item_shares managed index net now item.ia.iaid) item.ia.items ≡ true =
      has_any (item_shares managed index net now item.ia.iaid) item.ia.items item.item item.of_ia
      (and_from (is_live now item.item) (shares_out managed index net (prefix_of item.ia.iaid item.item)) item.live shared) in
      let of_lease : has_shares b.lease ≡ true =
      has_any shares_it b.lease.ias item.ia item.among
      (and_from (asked_pd item.ia) (list_any (item_shares managed index net now item.ia.iaid) item.ia.items)
      (and_from (is_same_kind item.ia.kind Pd) (is_asked managed.conf.dhcp6.ias item.ia.iaid) (is_kind item.ia.kind Pd kind) asked) of_ia) in
      and_from managed.conf.flags.persistent (lease_shares managed index net now kept upstream.kept6) b.persistent
      (ap (λ (lease : Option Lease6Content). lease_shares managed index net now kept lease) b.kept
      ∙ and_from (is_some b.lease.origin && has_shares b.lease && kept.up) (is_asking6 now kept.asked)
      (and_from (is_some b.lease.origin && has_shares b.lease) kept.up
      (and_from (is_some b.lease.origin) (has_shares b.lease) b.told of_lease) (up_is upstream past ∙ b.up))
      (asks_so upstream now past (record { stays = b.stays; asking = b.asking })))

  share_tells : ShareBasisOf KeptBasis6 upstream index net past → is_kept_share upstream index net now past ≡ true
  share_tells b = by_given (given KeptBasis6 upstream index net past b)

pub kept_shares_told : KeptSharesAreTold
kept_shares_told upstream index net past = (share_told upstream index net past, share_tells upstream index net past)
