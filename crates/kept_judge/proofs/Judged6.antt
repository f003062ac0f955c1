-- The laws of the judge of kept leases of DHCPv6.
use Rattle.std.proofs.Common.{◌≡◌, ℕ, ◌+◌, ◌<◌, Bool, true, false, ◌&&◌, List, Option, Some, None, refl, sym, ap, subst, ◌∙◌, arith}
use Rattle.std.proofs.lemmas.Bool.{and_parts, and_from, eqb-true, eq-eqb}
use Rattle.std.proofs.lemmas.Bool.Decides.{nat_tests}
use Rattle.std.specs.Prelude.{◌==◌, is_some, nat_lt}
use Rattle.std.specs.List.{Contains, list_any}
use Rattle.net_types.specs.declared.address.Net.{Net}
use Rattle.net_types.specs.declared.address.Net.TheVariants.{V4, V6}
use Rattle.net_types.specs.declared.address.Net6.{Net6}
use Rattle.v6_options.specs.declared.ia.IaKind.{IaKind}
use Rattle.v6_options.specs.declared.ia.IaKind.TheVariants.{Na, Pd}
use Rattle.lease6_text.specs.declared.lease.Item6.{Item6}
use Rattle.lease6_text.specs.Leases.{IaLeaseContent, Lease6Content}
use Rattle.lease6_text.specs.LineParts.{is_ia, is_same_kind}
use Rattle.v6_items.specs.declared.asks.IaAsk.{IaAsk}
use Rattle.v6_client.specs.declared.times.TheConstants.{RESTART_TIME}
use Rattle.v6_items.specs.Items.{is_live}
use Rattle.lease6_evidence.proofs.V6ClientLaws.Given.{met}
use Rattle.audit_words.specs.EvidenceWords.Entries.{Entry}
use Rattle.machine.specs.Since.{Always}
use Rattle.audit_words.specs.EvidenceWords.Inputs.{Site, StaysOn}
use Rattle.lease6_evidence.specs.KeptBasis6.{HasLiveItem, IsAskingAgain, KeptAddress6, KeptBasis6}
use Rattle.kept_judge.specs.Staying.{is_same_net}
use Rattle.kept_judge.specs.declared.standing.Asked6.{Asked6}
use Rattle.kept_judge.specs.declared.standing.Asked6.TheVariants.{Nothing, Again, Over}
use Rattle.kept_judge.specs.Asking6.{gives6, has_live_item, is_asking6, is_kept6, is_kept_address6, is_live_item, is_na, kept6_in}
use Rattle.kept_judge.specs.Laws.{AddressesAreKept6, ItemsAreKept6}
use Rattle.kept_judge.proofs.AskingTold6.{Stands, asking_is, stands, up_is}
use Rattle.kept_judge.proofs.Lists.{has_any}

-- ---- nets and IAs

abbrev net_with : (number len : ℕ) → Net6
net_with number len = record { ip = record { number = number }; len = len }

net_of : (a b k l : ℕ) → a ≡ b → k ≡ l → net_with a k ≡ net_with b l
net_of a b k l n m = ap (λ (x : ℕ). net_with x k) n ∙ ap (λ (x : ℕ). net_with b x) m

net_is : (one other : Net6) → is_same_net one other ≡ true → one ≡ other
net_is one other h =
    let parts = and_parts (one.ip.number == other.ip.number) (one.len == other.len) h in
    net_of one.ip.number other.ip.number one.len other.len (eqb-true one.ip.number other.ip.number parts.0)
    (eqb-true one.len other.len parts.1)

is_net : (one other : Net6) → one ≡ other → is_same_net one other ≡ true
is_net one other is =
    and_from (one.ip.number == other.ip.number) (one.len == other.len)
    (eq-eqb one.ip.number other.ip.number (ap (λ (n : Net6). n.ip.number) is)) (eq-eqb one.len other.len (ap (λ (n : Net6). n.len) is))

pub kind_is : (a b : IaKind) → is_same_kind a b ≡ true → a ≡ b
kind_is Na Na h = refl
kind_is Pd Pd h = refl
kind_is Na Pd h = absurd cc
kind_is Pd Na h = absurd cc

pub is_kind : (a b : IaKind) → a ≡ b → is_same_kind a b ≡ true
is_kind a b is = subst (λ (k : IaKind). is_same_kind a k ≡ true) is (itself a)
  where
    itself : (k : IaKind) → is_same_kind k k ≡ true
    itself Na = refl
    itself Pd = refl

-- ---- an item of the lease

module _ (test : IaLeaseContent → Bool) (net : Net6) (now : ℕ) (lease : Lease6Content) where
  pub record Found : Type 0 where
    pub ia : IaLeaseContent
    pub among : Contains lease.ias ia
    pub passes : test ia ≡ true
    pub item : Item6
    pub of_ia : Contains ia.items item
    pub is_item : item.net ≡ net
    pub live : is_live now item ≡ true

  abbrev has_it : IaLeaseContent → Bool
  has_it ia = test ia && list_any (is_live_item net now) ia.items

  found : has_live_item test net now lease.ias ≡ true → Found
  found h =
      let one = met has_it lease.ias h in
      let parts = and_parts (test one.x) (list_any (is_live_item net now) one.x.items) one.passes in
      let item = met (is_live_item net now) one.x.items parts.1 in
      let both = and_parts (is_same_net item.x.net net) (is_live now item.x) item.passes in
      record {
        ia = one.x;
        among = one.among;
        passes = parts.0;
        item = item.x;
        of_ia = item.among;
        is_item = net_is item.x.net net both.0;
        live = both.1;
      }

  found_so : Found → has_live_item test net now lease.ias ≡ true
  found_so f =
      has_any has_it lease.ias f.ia f.among
      (and_from (test f.ia) (list_any (is_live_item net now) f.ia.items) f.passes
      (has_any (is_live_item net now) f.ia.items f.item f.of_ia
      (and_from (is_same_net f.item.net net) (is_live now f.item) (is_net f.item.net net f.is_item) f.live)))

  -- ---- the lease, asked for again

  record Given (site : Site) (past : List Entry) : Type 0 where
    pub told : is_some lease.origin ≡ true
    pub item : Found
    pub up : (kept6_in site past).up ≡ true
    pub asking : is_asking6 now (kept6_in site past).asked ≡ true

  abbrev all_but_asking : Site → List Entry → Bool
  all_but_asking site past = is_some lease.origin && has_live_item test net now lease.ias && (kept6_in site past).up

  given : (site : Site) (past : List Entry) → gives6 test net now (kept6_in site past) (Some lease) ≡ true → Given site past
  given site past h =
      let last = and_parts (all_but_asking site past) (is_asking6 now (kept6_in site past).asked) h in
      let ups = and_parts (is_some lease.origin && has_live_item test net now lease.ias) (kept6_in site past).up last.0 in
      let first = and_parts (is_some lease.origin) (has_live_item test net now lease.ias) ups.0 in
      record { told = first.0; item = found first.1; up = ups.1; asking = last.1 }

  given_so : (site : Site) (past : List Entry) → Given site past → gives6 test net now (kept6_in site past) (Some lease) ≡ true
  given_so site past g =
      and_from (all_but_asking site past) (is_asking6 now (kept6_in site past).asked)
      (and_from (is_some lease.origin && has_live_item test net now lease.ias) (kept6_in site past).up
      (and_from (is_some lease.origin) (has_live_item test net now lease.ias) g.told (found_so g.item)) g.up)
      g.asking

before_is : (now end : ℕ) → nat_lt now end ≡ true → now < end
before_is now end h = grind (arith, nat_tests)

is_before : (now end : ℕ) → now < end → nat_lt now end ≡ true
is_before now end h = grind (arith, nat_tests)

-- ---- the turns

module _ (site : Site) (now : ℕ) (past : List Entry) where
  -- what the basis says of them
  pub record Asks : Type 0 where
    pub stays : Always (StaysOn site) past
    pub asking : IsAskingAgain site now past

  pub asks_by : (asked : Asked6) → Stands site asked past → is_asking6 now asked ≡ true → Asks
  asks_by Nothing was h = absurd cc
  asks_by (Again xid since) was h = record {
    stays = was.stays;
    asking = record { xid = xid; since = was.began now (before_is now (since + RESTART_TIME) h); unanswered = was.unanswered };
  }
  asks_by Over was h = absurd cc

  pub asks_so : Asks → is_asking6 now (kept6_in site past).asked ≡ true
  asks_so a =
      let again = asking_is site a.asking.xid now past a.stays a.asking.since a.asking.unanswered in
      ap (is_asking6 now) again.is ∙ is_before now (again.since + RESTART_TIME) again.soon

  abbrev persistent : Bool
  persistent = site.managed.conf.flags.persistent

  -- ---- an item of an IA

  module _ (ask : IaAsk) (net : Net6) where
    abbrev of_ask : IaLeaseContent → Bool
    of_ask = is_ia (ask.kind, ask.iaid)

    live_by : (lease : Lease6Content) → Found of_ask net now lease → HasLiveItem lease ask net now
    live_by lease f =
        let parts = and_parts (is_same_kind f.ia.kind ask.kind) (f.ia.iaid == ask.iaid) f.passes in
        record {
          ia = f.ia;
          among = f.among;
          kind = kind_is f.ia.kind ask.kind parts.0;
          iaid = eqb-true f.ia.iaid ask.iaid parts.1;
          item = f.item;
          of_ia = f.of_ia;
          is_item = f.is_item;
          live = f.live;
        }

    found_by : (lease : Lease6Content) → HasLiveItem lease ask net now → Found of_ask net now lease
    found_by lease l = record {
      ia = l.ia;
      among = l.among;
      passes =
          and_from (is_same_kind l.ia.kind ask.kind) (l.ia.iaid == ask.iaid) (is_kind l.ia.kind ask.kind l.kind)
          (eq-eqb l.ia.iaid ask.iaid l.iaid);
      item = l.item;
      of_ia = l.of_ia;
      is_item = l.is_item;
      live = l.live;
    }

    basis_by : persistent ≡ true → (kept : Option Lease6Content) → site.kept6 ≡ kept → gives6 of_ask net now (kept6_in site past) kept ≡ true
        → KeptBasis6 site ask net now past
    basis_by flag None is h = absurd cc
    basis_by flag (Some lease) is h =
        let g = given of_ask net now lease site past h in
        let turns = asks_by (kept6_in site past).asked (stands site past) g.asking in
        record {
          persistent = flag;
          lease = lease;
          kept = is;
          told = g.told;
          item = live_by lease g.item;
          up = sym (up_is site past) ∙ g.up;
          stays = turns.stays;
          asking = turns.asking;
        }

    based : is_kept6 site ask net now past ≡ true → KeptBasis6 site ask net now past
    based h =
        let parts = and_parts persistent (gives6 of_ask net now (kept6_in site past) site.kept6) h in
        basis_by parts.0 site.kept6 refl parts.1

    held : KeptBasis6 site ask net now past → is_kept6 site ask net now past ≡ true
    held b =
        and_from persistent (gives6 of_ask net now (kept6_in site past) site.kept6) b.persistent
        (ap (λ (kept : Option Lease6Content). gives6 of_ask net now (kept6_in site past) kept) b.kept
        ∙ given_so of_ask net now b.lease site past (record {
          told = b.told;
          item = found_by b.lease b.item;
          up = up_is site past ∙ b.up;
          asking = asks_so (record { stays = b.stays; asking = b.asking });
        }))

  -- ---- an address

  abbrev na_ask : (iaid : ℕ) → IaAsk
  na_ask iaid = record { kind = Na; iaid = iaid; hint = 0 }

  address_by : persistent ≡ true → (item : Net6) → (kept : Option Lease6Content) → site.kept6 ≡ kept
      → gives6 is_na item now (kept6_in site past) kept ≡ true → KeptAddress6 site (V6 item) now past
  address_by flag item None is h = absurd cc
  address_by flag item (Some lease) is h =
      let g = given is_na item now lease site past h in
      let turns = asks_by (kept6_in site past).asked (stands site past) g.asking in
      record {
        ask = na_ask g.item.ia.iaid;
        is_address = refl;
        item = item;
        is_item = refl;
        basis = record {
          persistent = flag;
          lease = lease;
          kept = is;
          told = g.told;
          item = record {
            ia = g.item.ia;
            among = g.item.among;
            kind = kind_is g.item.ia.kind Na g.item.passes;
            iaid = refl;
            item = g.item.item;
            of_ia = g.item.of_ia;
            is_item = g.item.is_item;
            live = g.item.live;
          };
          up = sym (up_is site past) ∙ g.up;
          stays = turns.stays;
          asking = turns.asking;
        };
      }

  address_based : (net : Net) → is_kept_address6 site net now past ≡ true → KeptAddress6 site net now past
  address_based (V4 net) h = absurd (untrue (and_parts persistent false h).1)
    where
      untrue : false ≡ true → ⊥
      untrue e = cc
  address_based (V6 item) h =
      let parts = and_parts persistent (gives6 is_na item now (kept6_in site past) site.kept6) h in
      address_by parts.0 item site.kept6 refl parts.1

  item_held : (ask : IaAsk) (item : Net6) → ask.kind ≡ Na → KeptBasis6 site ask item now past
      → is_kept_address6 site (V6 item) now past ≡ true
  item_held ask item kind b =
      and_from persistent (gives6 is_na item now (kept6_in site past) site.kept6) b.persistent
      (ap (λ (kept : Option Lease6Content). gives6 is_na item now (kept6_in site past) kept) b.kept
      ∙ given_so is_na item now b.lease site past (record {
        told = b.told;
        item = record {
          ia = b.item.ia;
          among = b.item.among;
          passes = is_kind b.item.ia.kind Na (b.item.kind ∙ kind);
          item = b.item.item;
          of_ia = b.item.of_ia;
          is_item = b.item.is_item;
          live = b.item.live;
        };
        up = up_is site past ∙ b.up;
        asking = asks_so (record { stays = b.stays; asking = b.asking });
      }))

  address_held : (net : Net) → KeptAddress6 site net now past → is_kept_address6 site net now past ≡ true
  address_held net b =
      subst (λ (n : Net). is_kept_address6 site n now past ≡ true) (sym b.is_item) (item_held b.ask b.item b.is_address b.basis)

pub items_judged6 : ItemsAreKept6
items_judged6 site ask net now past = (based site now past ask net, held site now past ask net)

pub addresses_judged6 : AddressesAreKept6
addresses_judged6 site net now past = (address_based site now past net, address_held site now past net)
