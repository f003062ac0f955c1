-- The law of the judge of kept leases of DHCPv4.
use Rattle.std.proofs.Common.{◌≡◌, ℕ, Bool, true, false, ◌&&◌, List, Option, Some, None, refl, sym, ap, ◌∙◌}
use Rattle.std.proofs.lemmas.Bool.{and_parts, and_from, eqb-true, eq-eqb}
use Rattle.std.specs.Prelude.{◌==◌, is_some}
use Rattle.std.specs.List.{list_any}
use Rattle.machine.specs.Since.{Always}
use Rattle.net_types.specs.declared.address.Ip4.{Ip4}
use Rattle.net_types.specs.declared.address.Net.{Net}
use Rattle.net_types.specs.declared.address.Net.TheVariants.{V4, V6}
use Rattle.net_types.specs.declared.address.Net4.{Net4}
use Rattle.lease_text.specs.Leases.{LeaseContent}
use Rattle.v4_client.specs.Answers.{is_unexpired}
use Rattle.audit_words.specs.EvidenceWords.Entries.{Entry}
use Rattle.audit_words.specs.EvidenceWords.Inputs.{Site, StaysOn}
use Rattle.lease6_evidence.specs.LeaseEvidence.KeptBasis4.{IsUnrefused, KeptBasis4, speaks}
use Rattle.kept_judge.specs.declared.standing.Asked4.{Asked4}
use Rattle.kept_judge.specs.declared.standing.Kept4.{Kept4}
use Rattle.kept_judge.specs.declared.standing.Asked4.TheVariants.{Nothing, Again, Over}
use Rattle.kept_judge.specs.Asking4.{gives4, is_asking4, is_kept4, is_net4, kept4_in, some_gives4}
use Rattle.kept_judge.specs.Laws.{AddressesAreKept4}
use Rattle.kept_judge.proofs.AskingTold4.{Asks, IsFine, Stands, fine, stands, up_is}

-- ---- nets

abbrev net_with : (number len : ℕ) → Net
net_with number len = V4 (record { ip = record { number = number }; len = len })

net_of : (a b k l : ℕ) → a ≡ b → k ≡ l → net_with a k ≡ net_with b l
net_of a b k l n m = ap (λ (x : ℕ). net_with x k) n ∙ ap (λ (x : ℕ). net_with b x) m

net_is : (net : Net) (other : Net4) → is_net4 net other ≡ true → net ≡ V4 other
net_is (V4 net) other h =
    let parts = and_parts (net.ip.number == other.ip.number) (net.len == other.len) h in
    net_of net.ip.number other.ip.number net.len other.len (eqb-true net.ip.number other.ip.number parts.0)
    (eqb-true net.len other.len parts.1)
net_is (V6 net) other h = absurd cc

is_net : (net : Net) (other : Net4) → net ≡ V4 other → is_net4 net other ≡ true
is_net net other is =
    ap (λ (n : Net). is_net4 n other) is
    ∙ and_from (other.ip.number == other.ip.number) (other.len == other.len) (eq-eqb other.ip.number other.ip.number refl)
    (eq-eqb other.len other.len refl)

-- ---- the turns

module _ (site : Site) (past : List Entry) where
  -- what the basis says of them
  pub record Turns (address : Ip4) : Type 0 where
    pub stays : Always (StaysOn site) past
    pub xid : ℕ
    pub asks : Asks site address xid past
    pub asked : list_any (speaks site) past ≡ true
    pub unrefused : Always (IsUnrefused site) past

  turns_by : (address : Ip4) (asked : Asked4) → Stands site address asked past → is_asking4 asked ≡ true → Turns address
  turns_by address Nothing was h = absurd cc
  turns_by address (Again xid confirmed) was h =
      record { stays = was.stays; xid = xid; asks = was.asks; asked = was.asked; unrefused = was.unrefused }
  turns_by address Over was h = absurd cc

  opposite : (b : Bool) → b ≡ true → b ≡ false → ⊥
  opposite true t f = cc
  opposite false t f = cc

  asking_by : (address : Ip4) (xid : ℕ) (asked : Asked4) → Stands site address asked past → IsFine site address xid asked
      → list_any (speaks site) past ≡ true → is_asking4 asked ≡ true
  asking_by address xid Nothing was fine some = absurd (opposite (list_any (speaks site) past) some was.silent)
  asking_by address xid (Again known confirmed) was fine some = refl
  asking_by address xid Over was fine some = absurd fine

  turns_so : (address : Ip4) → Turns address → is_asking4 (kept4_in site address past).asked ≡ true
  turns_so address t =
      asking_by address t.xid (kept4_in site address past).asked (stands site address past)
      (fine site address t.xid past t.stays t.asks t.unrefused) t.asked

  -- ---- the lease

  module _ (net : Net) (now : ℕ) where
    abbrev persistent : Bool
    persistent = site.managed.conf.flags.persistent

    module _ (lease : LeaseContent) where
      abbrev first_two : Bool
      first_two = is_some lease.origin && is_net4 net lease.net

      abbrev first_three : Bool
      first_three = first_two && is_unexpired lease.first lease.lease now

      abbrev kept : Kept4
      kept = kept4_in site lease.net.ip past

      basis_by : persistent ≡ true → site.kept4 ≡ Some lease → gives4 net now lease kept ≡ true → KeptBasis4 site net now past
      basis_by flag is h =
          let last = and_parts (first_three && kept.up) (is_asking4 kept.asked) h in
          let ups = and_parts first_three kept.up last.0 in
          let three = and_parts first_two (is_unexpired lease.first lease.lease now) ups.0 in
          let two = and_parts (is_some lease.origin) (is_net4 net lease.net) three.0 in
          let turns = turns_by lease.net.ip kept.asked (stands site lease.net.ip past) last.1 in
          record {
            persistent = flag;
            lease = lease;
            kept = is;
            told = two.0;
            gives = net_is net lease.net two.1;
            unexpired = three.1;
            up = sym (up_is site lease.net.ip past) ∙ ups.1;
            stays = turns.stays;
            xid = turns.xid;
            asks = turns.asks;
            asked = turns.asked;
            unrefused = turns.unrefused;
          }

    abbrev kept_at : Ip4 → Kept4
    kept_at address = kept4_in site address past

    by_kept : persistent ≡ true → (kept : Option LeaseContent) → site.kept4 ≡ kept → some_gives4 net now kept kept_at ≡ true
        → KeptBasis4 site net now past
    by_kept flag None is h = absurd cc
    by_kept flag (Some lease) is h = basis_by lease flag is h

    based : is_kept4 site net now past ≡ true → KeptBasis4 site net now past
    based h =
        let parts = and_parts persistent (some_gives4 net now site.kept4 kept_at) h in
        by_kept parts.0 site.kept4 refl parts.1

    held : KeptBasis4 site net now past → is_kept4 site net now past ≡ true
    held b =
        and_from persistent (some_gives4 net now site.kept4 kept_at) b.persistent
        (ap (λ (lease : Option LeaseContent). some_gives4 net now lease kept_at) b.kept
        ∙ and_from (first_three b.lease && (kept b.lease).up) (is_asking4 (kept b.lease).asked)
        (and_from (first_three b.lease) (kept b.lease).up
        (and_from (first_two b.lease) (is_unexpired b.lease.first b.lease.lease now)
        (and_from (is_some b.lease.origin) (is_net4 net b.lease.net) b.told (is_net net b.lease.net b.gives)) b.unexpired)
        (up_is site b.lease.net.ip past ∙ b.up))
        (turns_so b.lease.net.ip
        (record { stays = b.stays; xid = b.xid; asks = b.asks; asked = b.asked; unrefused = b.unrefused })))

pub addresses_judged4 : AddressesAreKept4
addresses_judged4 site net now past = (based site past net now, held site past net now)
