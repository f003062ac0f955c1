-- What conflict detection carries of the turns shown, phase by phase.
use Rattle.std.proofs.Common.{◌≡◌, ℕ, ◌+◌, ◌≤◌, true, false, List, [], ◌∷◌, ◌++◌, Option, Some, None, inl, inr, ◌⊎◌, refl, sym, ap, subst, ◌∙◌, arith, append_assoc}
use Rattle.std.specs.Prelude.{MatchOption}
use Rattle.std.specs.List.{AllByRecursion}
use Rattle.net_types.proofs.AllLaws.{all_map, all_join}
use Rattle.net_types.specs.declared.address.Ip4.{Ip4}
use Rattle.net_types.specs.AddressText.{FitsIp4}
use Rattle.arp_acd.specs.declared.detection.Phase.{Phase}
use Rattle.arp_acd.specs.declared.detection.Phase.TheVariants.{Probing, Announcing, Held, Over}
use Rattle.ipv4ll.specs.Choice.{IsChoice}
use Rattle.evidence_words.specs.Entries.{Entry}
use Rattle.evidence_words.specs.ClientModel.Messages.{Said}
use Rattle.evidence_words.specs.ClientModel.ClientSettings.{ask_of}
use Rattle.evidence_words.specs.Inputs.{Site, offers_at, uses, contests}
use Rattle.evidence_words.specs.Probed.{TurnWord, Probes, Probed}
use Rattle.local_evidence.specs.LinkLocalBasis.{IsAlone, UsesApart}
use Rattle.evidence_words.proofs.Offers.{Offered}
use Rattle.local_evidence.proofs.Announced.{AnnouncesNone, AnnouncesOnly, none_only, alone}
use Rattle.evidence_words.proofs.Probing.{ProbesOf}

module _ (C : TurnWord) (site : Site) (addr : Ip4) where
  -- no use by another host comes after this moment
  abbrev UsedUntil : Option ℕ → List Entry → Type 0
  UsedUntil last turns = AllByRecursion (λ e. uses site addr e ≡ true → MatchOption last ⊥ (λ moment. e.moment ≤ moment)) turns

  -- held since a fourth turn; the last use by another host came at `last`
  pub record HeldSince (last : Option ℕ) (past : List Entry) : Type 0 where
    pub probed : Probed C C site addr past
    pub alone : AllByRecursion (IsAlone site addr) (probed.later ++ probed.fourth ∷ [])
    pub apart : UsesApart site addr (probed.later ++ probed.fourth ∷ [])
    pub last_use : UsedUntil last (probed.later ++ probed.fourth ∷ [])

  -- what a phase carries after a turn: of the probes only where no send of the last turn failed
  abbrev pub Carries : (clean : Type 0) → Phase → List Entry → Type 0
  Carries clean (Probing n due) past = (n ≤ 3) × (clean → ProbesOf C site addr n due past)
  Carries clean (Announcing due last) past = HeldSince last past
  Carries clean (Held last) past = HeldSince last past
  Carries clean Over past = Unit {0}

  -- held before a turn, or about to be held from this turn on
  abbrev HeldBefore : Option ℕ → Entry → List Entry → Type 0
  HeldBefore last e past = HeldSince last past ⊎ ((last ≡ None) × Probes C C site addr 3 2000 e.moment past)

  -- what a phase carries within a turn, after its tick: what was said is known, and what the input does isn't yet
  abbrev pub Amid : (clean : Type 0) → Entry → List Said → List Entry → Phase → Type 0
  Amid clean e said past (Probing n due) =
      (n ≤ 3) × ((more : List Said) → Offered site.managed.spec (ask_of site.duid site.managed) clean (said ++ more) (offers_at site e) → clean → C e past
      → contests site addr e ≡ false → ProbesOf C site addr n due (e ∷ past))
  Amid clean e said past (Announcing due last) = AllByRecursion (AnnouncesOnly site.managed.spec.mac addr) said × HeldBefore last e past
  Amid clean e said past (Held last) = AllByRecursion (AnnouncesOnly site.managed.spec.mac addr) said × HeldBefore last e past
  Amid clean e said past Over = Unit {0}

  -- what holds before the turns since the fourth one
  past_cut : (later : List Entry) (fourth : Entry) (earlier past : List Entry) (e : Entry) → past ≡ later ++ fourth ∷ earlier → C e past
      → C e ((later ++ fourth ∷ []) ++ earlier)
  past_cut later fourth earlier past e cut h =
      subst (λ turns. C e turns) (cut ∙ sym (append_assoc later (fourth ∷ []) earlier)) h

  -- ---- turns of a held address

  pub unused : (last : Option ℕ) (e : Entry) (past : List Entry) → HeldBefore last e past → C e past → IsAlone site addr e
      → uses site addr e ≡ false → HeldSince last (e ∷ past)
  unused last e past (inl h) stays alone none = record {
    probed = record {
      later = e ∷ h.probed.later;
      fourth = h.probed.fourth;
      earlier = h.probed.earlier;
      cut = ap (λ turns. e ∷ turns) h.probed.cut;
      probes = h.probed.probes;
      since = (past_cut h.probed.later h.probed.fourth h.probed.earlier past e h.probed.cut stays, h.probed.since);
    };
    alone = (alone, h.alone);
    apart = ((λ used. cc), h.apart);
    last_use = ((λ used. cc), h.last_use);
  }
  unused last e past (inr h) stays alone none = record {
    probed = record { later = []; fourth = e; earlier = past; cut = refl; probes = h.1; since = (stays, tt) };
    alone = (alone, tt);
    apart = ((λ used. tt), tt);
    last_use = ((λ used. cc), tt);
  }

  abbrev IsLate : Option ℕ → ℕ → Type 0
  IsLate last at = MatchOption last (Unit {0}) (λ before. before + 10000 ≤ at)

  late : (last : Option ℕ) (at moment : ℕ) → IsLate last at → MatchOption last ⊥ (λ before. moment ≤ before) → moment + 10000 ≤ at
  late None at moment l h = absurd h
  late (Some before) at moment l h = omega arith

  reached : (last : Option ℕ) (at moment : ℕ) → IsLate last at → MatchOption last ⊥ (λ before. moment ≤ before) → moment ≤ at
  reached last at moment l h = let far : moment + 10000 ≤ at = late last at moment l h in omega arith

  itself : (n : ℕ) → n ≤ n
  itself n = omega arith

  pub used : (last : Option ℕ) (e : Entry) (past : List Entry) → HeldBefore last e past → C e past → IsAlone site addr e
      → IsLate last e.moment → HeldSince (Some e.moment) (e ∷ past)
  used last e past (inl h) stays alone far = record {
    probed = record {
      later = e ∷ h.probed.later;
      fourth = h.probed.fourth;
      earlier = h.probed.earlier;
      cut = ap (λ turns. e ∷ turns) h.probed.cut;
      probes = h.probed.probes;
      since = (past_cut h.probed.later h.probed.fourth h.probed.earlier past e h.probed.cut stays, h.probed.since);
    };
    alone = (alone, h.alone);
    apart = ((λ used. all_map _ _ (λ before u b. late last e.moment before.moment far (u b)) _ h.last_use), h.apart);
    last_use = ((λ used. itself e.moment), all_map _ _ (λ before u b. reached last e.moment before.moment far (u b)) _ h.last_use);
  }
  used last e past (inr h) stays alone far = record {
    probed = record { later = []; fourth = e; earlier = past; cut = refl; probes = h.1; since = (stays, tt) };
    alone = (alone, tt);
    apart = ((λ used. tt), tt);
    last_use = ((λ used. itself e.moment), tt);
  }

  -- ---- what a turn without a packet over the address leaves

  choice_fits : IsChoice addr → FitsIp4 addr
  choice_fits c = let most : addr.number ≤ 0xa9fe_feff = c.at_most in omega arith

  pub is_alone : (clean : Type 0) (e : Entry) (said : List Said) → IsChoice addr → AllByRecursion (AnnouncesOnly site.managed.spec.mac addr) said
      → Offered site.managed.spec (ask_of site.duid site.managed) clean said (offers_at site e) → IsAlone site addr e
  is_alone clean e said c all h = alone site addr (choice_fits c) clean said (offers_at site e) all h

  pub quiet : (clean : Type 0) (e : Entry) (said : List Said) (past : List Entry) (phase : Phase) → IsChoice addr
      → Amid clean e said past phase → C e past → contests site addr e ≡ false → uses site addr e ≡ false
      → Offered site.managed.spec (ask_of site.duid site.managed) clean (said ++ []) (offers_at site e) → Carries clean phase (e ∷ past)
  quiet clean e said past (Probing n due) c m stays calm none h = (m.0, λ k. m.1 [] h k stays calm)
  quiet clean e said past (Announcing due last) c m stays calm none h =
      unused last e past m.1 stays (is_alone clean e (said ++ []) c (all_join _ said [] m.0 tt) h) none
  quiet clean e said past (Held last) c m stays calm none h =
      unused last e past m.1 stays (is_alone clean e (said ++ []) c (all_join _ said [] m.0 tt) h) none
  quiet clean e said past Over c m stays calm none h = tt

  -- ---- more that is said, which announces nothing

  pub only_so : (said : List Said) → AllByRecursion (AnnouncesNone site.managed.spec.mac) said → AllByRecursion (AnnouncesOnly site.managed.spec.mac addr) said
  only_so said none = none_only site.managed.spec.mac addr said none

  pub amid_more : (clean : Type 0) (e : Entry) (said more : List Said) (past : List Entry) (phase : Phase)
      → AllByRecursion (AnnouncesNone site.managed.spec.mac) more → Amid clean e said past phase → Amid clean e (said ++ more) past phase
  amid_more clean e said more past (Probing n due) none m = (
    m.0,
    λ rest h k stays calm.
        m.1 (more ++ rest)
        (subst (λ (all : List Said). Offered site.managed.spec (ask_of site.duid site.managed) clean all (offers_at site e))
        (append_assoc said more rest) h)
        k stays calm,
  )
  amid_more clean e said more past (Announcing due last) none m = (all_join _ said more m.0 (only_so more none), m.1)
  amid_more clean e said more past (Held last) none m = (all_join _ said more m.0 (only_so more none), m.1)
  amid_more clean e said more past Over none m = tt
