-- What a link-local machine carries of the turns shown, and what its tick and a heard packet make of it.
use Rattle.std.proofs.Common.{◌≡◌, ℕ, ◌+◌, ◌-◌, ◌≤◌, true, false, List, [], ◌∷◌, ◌++◌, Option, Some, None, nat_le, nat_lt, inl, inr, refl, ◌∙◌, ap, arith, lit≤, zero, suc}
use Rattle.std.proofs.lemmas.Bool.Decides.{nat_tests}
use Rattle.std.specs.Prelude.{option_to_list, map}
use Rattle.std.specs.List.{AllByRecursion}
use Rattle.net_types.proofs.AllLaws.{all_join}
use Rattle.net_types.proofs.CaseLaws.{split, gated}
use Rattle.net_types.specs.declared.address.Ip4.{Ip4}
use Rattle.net_types.specs.declared.interface.IfIndex.{IfIndex}
use Rattle.frame_link.specs.declared.arp.ArpView.{ArpView}
use Rattle.arp_acd.specs.declared.detection.ArpSay.TheVariants.{Announce}
use Rattle.arp_acd.specs.declared.detection.Phase.{Phase}
use Rattle.arp_acd.specs.declared.detection.Phase.TheVariants.{Probing, Announcing, Held, Over}
use Rattle.arp_acd.specs.Conflict.{is_used, is_contested}
use Rattle.arp_acd.specs.Table as detection
use Rattle.arp_acd.proofs.Standing.{mk, test-le, test-lt}
use Rattle.ipv4ll.specs.declared.link_local.LinkLocal.{LinkLocal}
use Rattle.ipv4ll.specs.declared.link_local.State.{State}
use Rattle.ipv4ll.specs.declared.link_local.State.TheVariants.{Off, Armed, Chosen, Waiting}
use Rattle.ipv4ll.specs.declared.link_local.LlNews.TheVariants.{Nothing}
use Rattle.ipv4ll.specs.Choice.{IsChoice}
use Rattle.ipv4ll.specs.Table.{chooses, LlStep, moves, tells, choosing, after_conflict, one_more, said_row, tick_row, ll_tick, ll_hears, ll_restarts}
use Rattle.ipv4ll.proofs.Chosen.{choice_in_range}
use Rattle.evidence_words.specs.ClientModel.ClientSettings.{ask_of}
use Rattle.evidence_words.specs.ClientModel.Messages.{Said, Arp}
use Rattle.evidence_words.specs.Entries.{Entry}
use Rattle.evidence_words.specs.Probed.{TurnWord}
use Rattle.evidence_words.specs.Inputs.{Site, index_at, offers_at, arp_on, tells_use, tells_contest}
use Rattle.evidence_words.proofs.Offers.{Offered}
use Rattle.evidence_words.proofs.Probing.{probe_among, probe_said, probes-on, three_said}
use Rattle.local_evidence.proofs.Announced.{AnnouncesNone, AnnouncesOnly}
use Rattle.local_evidence.proofs.Phases.{HeldSince, Carries, Amid, unused, used, is_alone, quiet, only_so, amid_more}

-- after a turn
abbrev pub Bears : TurnWord → Site → (clean : Type 0) → State → List Entry → Type 0
Bears C site clean Off past = Unit {0}
Bears C site clean (Armed due waits fallback) past = Unit {0}
Bears C site clean (Chosen conflicts acd) past = IsChoice acd.addr × Carries C site acd.addr clean acd.phase past
Bears C site clean (Waiting conflicts due) past = Unit {0}

-- within a turn, after the tick
abbrev pub BearsAmid : TurnWord → Site → (clean : Type 0) → Entry → List Said → List Entry → State → Type 0
BearsAmid C site clean e said past Off = Unit {0}
BearsAmid C site clean e said past (Armed due waits fallback) = Unit {0}
BearsAmid C site clean e said past (Chosen conflicts acd) = IsChoice acd.addr × Amid C site acd.addr clean e said past acd.phase
BearsAmid C site clean e said past (Waiting conflicts due) = Unit {0}

abbrev pub at_state : IfIndex → State → LinkLocal
at_state iface state = record { iface = iface; state = state }

-- what was said before its tick announces nothing, where an address is chosen
abbrev pub Unsaid : Site → State → List Said → Type 0
Unsaid site Off said = Unit {0}
Unsaid site (Armed due waits fallback) said = Unit {0}
Unsaid site (Chosen conflicts acd) said = AllByRecursion (AnnouncesNone site.managed.spec.mac) said
Unsaid site (Waiting conflicts due) said = Unit {0}

-- ---- the tick, after what DHCPv4 said

module _ (C : TurnWord) (site : Site) (clean : Type 0) (e : Entry) (past : List Entry) (salt : ℕ) (front : List Said) where
  abbrev AfterTick : LlStep → Type 0
  AfterTick step = BearsAmid C site clean e (front ++ map Arp (option_to_list step.out.arp)) past step.ll.state

  abbrev Silent : Type 0
  Silent = AllByRecursion (AnnouncesNone site.managed.spec.mac) front

  one_more_probe : (n : ℕ) → nat_lt n 3 ≡ true → n + 1 ≤ 3
  one_more_probe n h = grind (arith, nat_tests)

  three : (n : ℕ) → n ≤ 3 → nat_lt n 3 ≡ false → n ≡ 3
  three n le h = grind (arith, nat_tests)

  choosing_amid : (iface : IfIndex) (conflicts : ℕ) → BearsAmid C site clean e (front ++ []) past (choosing iface conflicts e.moment salt)
  choosing_amid iface conflicts = (choice_in_range iface conflicts salt, (lit≤ tt, λ more h k stays calm. tt))

  only_front : (addr : Ip4) → Silent → AllByRecursion (AnnouncesOnly site.managed.spec.mac addr) (front ++ [])
  only_front addr none = all_join _ front [] (only_so C site addr front none) tt

  and_itself : (addr : Ip4) → Silent → AllByRecursion (AnnouncesOnly site.managed.spec.mac addr) (front ++ Arp (Announce addr) ∷ [])
  and_itself addr none = all_join _ front (Arp (Announce addr) ∷ []) (only_so C site addr front none) (refl, tt)

  tick_chosen : (iface i : IfIndex) (conflicts : ℕ) (addr : Ip4) (phase : Phase) → IsChoice addr → Silent → Carries C site addr (Unit {0}) phase past
      → AfterTick (ll_tick (at_state iface (Chosen conflicts (mk i addr phase))) e.moment salt)
  tick_chosen iface i conflicts addr (Probing n due) r none c =
      split (nat_le due e.moment)
      (λ come. rw come (split (nat_lt n 3)
      (λ few. rw few (
        r,
        (
          one_more_probe n few,
          λ more h k stays calm.
              probe_said C site addr i n due salt e past (test-lt n 3 few) (test-le due e.moment come) (c.1 tt) stays calm
              (probe_among C site addr clean front more (offers_at site e) h k),
        ),
      ))
      (λ all. rw all (r, (and_itself addr none, inr (refl, three_said C site addr n due e past (three n c.0 all) (test-le due e.moment come) (c.1 tt)))))))
      (λ early. rw early (r, (c.0, λ more h k stays calm. probes-on C site addr n _ due e past stays calm (c.1 tt))))
  tick_chosen iface i conflicts addr (Announcing due last) r none c =
      split (nat_le due e.moment)
      (λ come. rw come (r, (and_itself addr none, inl c)))
      (λ early. rw early (r, (only_front addr none, inl c)))
  tick_chosen iface i conflicts addr (Held last) r none c = (r, (only_front addr none, inl c))
  tick_chosen iface i conflicts addr Over r none c = (r, tt)

  pub tick_amid : (iface : IfIndex) (state : State) → Unsaid site state front → Bears C site (Unit {0}) state past
      → AfterTick (ll_tick (at_state iface state) e.moment salt)
  tick_amid iface Off none b = tt
  tick_amid iface (Armed due waits fallback) none b =
      gated AfterTick (nat_le due e.moment) (tick_row iface (Armed due waits fallback) e.moment salt)
      (moves iface (Armed due waits fallback) (tells Nothing))
      (gated (BearsAmid C site clean e (front ++ []) past) (chooses fallback) (choosing iface 0 e.moment salt) Off (choosing_amid iface 0) tt)
      tt
  tick_amid iface (Chosen conflicts acd) none b = tick_chosen iface acd.iface conflicts acd.addr acd.phase b.0 none b.1
  tick_amid iface (Waiting conflicts due) none b =
      gated AfterTick (nat_le due e.moment) (tick_row iface (Waiting conflicts due) e.moment salt)
      (moves iface (Waiting conflicts due) (tells Nothing)) (choosing_amid iface conflicts) tt

module _ (C : TurnWord) (site : Site) (clean : Type 0) (e : Entry) (past : List Entry) (salt : ℕ) where
  -- DHCPv4 says more amid the turn
  pub more_amid : (said more : List Said) (state : State) → Unsaid site state more → BearsAmid C site clean e said past state
      → BearsAmid C site clean e (said ++ more) past state
  more_amid said more Off none b = tt
  more_amid said more (Armed due waits fallback) none b = tt
  more_amid said more (Chosen conflicts acd) none b = (b.0, amid_more C site acd.addr clean e said more past acd.phase none b.1)
  more_amid said more (Waiting conflicts due) none b = tt

  -- ---- the input

  after_bears : (iface : IfIndex) (conflicts : ℕ) → Bears C site clean (after_conflict iface conflicts e.moment salt) (e ∷ past)
  after_bears iface conflicts =
      gated (λ s. Bears C site clean s (e ∷ past)) (nat_lt conflicts 10) (choosing iface conflicts e.moment salt) (Waiting conflicts (e.moment + 60000))
      (choice_in_range iface conflicts salt, (lit≤ tt, λ k. tt)) tt

  abbrev AfterInput : List Said → LlStep → Type 0
  AfterInput said step =
      Offered site.managed.spec (ask_of site.duid site.managed) clean (said ++ map Arp (option_to_list step.out.arp)) (offers_at site e)
      → Bears C site clean step.ll.state (e ∷ past)

  -- a packet that uses the held address
  used_bears : (iface i : IfIndex) (conflicts : ℕ) (addr : Ip4) (phase : Phase) (said : List Said) (last : Option ℕ) (defended : Phase)
      → IsChoice addr → Amid C site addr clean e said past (Held last) → C e past
      → (HeldSince C site addr (Some e.moment) (e ∷ past) → Carries C site addr clean defended (e ∷ past))
      → AfterInput said (said_row iface conflicts (detection.contested_row (mk i addr phase) last e.moment defended).acd e.moment salt
      (detection.contested_row (mk i addr phase) last e.moment defended).says)
  used_bears iface i conflicts addr phase said None defended r m stays f =
      λ h. (
        r,
        f
            (used C site addr None e past m.1 stays
            (is_alone C site addr clean e (said ++ Arp (Announce addr) ∷ []) r (all_join _ said _ m.0 (refl, tt)) h) tt),
      )
  used_bears iface i conflicts addr phase said (Some last) defended r m stays f =
      split (nat_le 10000 (e.moment - last))
      (λ late. rw late (λ h. (
        r,
        f (used C site addr (Some last) e past m.1 stays
            (is_alone C site addr clean e (said ++ Arp (Announce addr) ∷ []) r (all_join _ said _ m.0 (refl, tt)) h) (apart last e.moment late)),
      )))
      (λ soon. rw soon (λ h. after_bears iface (one_more conflicts)))
    where
      apart : (last at : ℕ) → nat_le 10000 (at - last) ≡ true → last + 10000 ≤ at
      apart last at h = grind (arith, nat_tests)

  held_hears : (addr : Ip4) (said : List Said) (last : Option ℕ) (arp : ArpView) → IsChoice addr
      → Amid C site addr clean e said past (Held last) → C e past → arp_on (index_at site) e.event e.bytes ≡ Some arp
      → is_used site.own addr arp ≡ false → Offered site.managed.spec (ask_of site.duid site.managed) clean (said ++ []) (offers_at site e)
      → HeldSince C site addr last (e ∷ past)
  held_hears addr said last arp r m stays heard none h =
      unused C site addr last e past m.1 stays (is_alone C site addr clean e (said ++ []) r (all_join _ said [] m.0 tt) h)
      (ap (tells_use site.own addr) heard ∙ none)

  heard_chosen : (iface i : IfIndex) (conflicts : ℕ) (addr : Ip4) (phase : Phase) (said : List Said) (arp : ArpView) → IsChoice addr
      → Amid C site addr clean e said past phase → C e past → arp_on (index_at site) e.event e.bytes ≡ Some arp
      → AfterInput said (ll_hears site.own (at_state iface (Chosen conflicts (mk i addr phase))) arp e.moment salt)
  heard_chosen iface i conflicts addr (Probing n due) said arp r m stays heard =
      split (is_contested site.own addr arp)
      (λ taken. rw taken (λ h. after_bears iface (one_more conflicts)))
      (λ calm. rw calm (λ h. (r, (m.0, λ k. m.1 [] h k stays (ap (tells_contest site.own addr) heard ∙ calm)))))
  heard_chosen iface i conflicts addr (Announcing due last) said arp r m stays heard =
      split (is_used site.own addr arp)
      (λ in_use. rw in_use (used_bears iface i conflicts addr (Announcing due last) said last (Announcing due (Some e.moment)) r m stays (λ h. h)))
      (λ none. rw none (λ h. (r, held_hears addr said last arp r m stays heard none h)))
  heard_chosen iface i conflicts addr (Held last) said arp r m stays heard =
      split (is_used site.own addr arp)
      (λ in_use. rw in_use (used_bears iface i conflicts addr (Held last) said last (Held (Some e.moment)) r m stays (λ h. h)))
      (λ none. rw none (λ h. (r, held_hears addr said last arp r m stays heard none h)))
  heard_chosen iface i conflicts addr Over said arp r m stays heard = λ h. (r, tt)

  pub heard_bears : (iface : IfIndex) (state : State) (said : List Said) (arp : ArpView) → BearsAmid C site clean e said past state
      → C e past → arp_on (index_at site) e.event e.bytes ≡ Some arp
      → AfterInput said (ll_hears site.own (at_state iface state) arp e.moment salt)
  heard_bears iface Off said arp b stays heard = λ h. tt
  heard_bears iface (Armed due waits fallback) said arp b stays heard = λ h. tt
  heard_bears iface (Chosen conflicts acd) said arp b stays heard =
      heard_chosen iface acd.iface conflicts acd.addr acd.phase said arp b.0 b.1 stays heard
  heard_bears iface (Waiting conflicts due) said arp b stays heard = λ h. tt

  -- nothing is heard
  pub quiet_bears : (state : State) (said : List Said) → BearsAmid C site clean e said past state
      → C e past → arp_on (index_at site) e.event e.bytes ≡ None
      → Offered site.managed.spec (ask_of site.duid site.managed) clean (said ++ []) (offers_at site e) → Bears C site clean state (e ∷ past)
  quiet_bears Off said b stays none h = tt
  quiet_bears (Armed due waits fallback) said b stays none h = tt
  quiet_bears (Chosen conflicts acd) said b stays none h = (
    b.0,
    quiet C site acd.addr clean e said past acd.phase b.0 b.1 stays (ap (tells_contest site.own acd.addr) none) (ap (tells_use site.own acd.addr) none) h,
  )
  quiet_bears (Waiting conflicts due) said b stays none h = tt

-- ---- a failed send of the turn before

module _ (C : TurnWord) (site : Site) (clean : Type 0) (past : List Entry) where
  restarted_chosen : (i : IfIndex) (addr : Ip4) (phase : Phase) (at salt : ℕ) → Carries C site addr clean phase past
      → Carries C site addr (Unit {0}) (detection.acd_restarts (mk i addr phase) at salt).phase past
  restarted_chosen i addr (Probing n due) at salt c =
      split (nat_lt 0 n) (λ some. rw some (lit≤ tt, λ k. tt)) (λ none. rw none (none_sent n none))
    where
      none_sent : (n : ℕ) → nat_lt 0 n ≡ false → Carries C site addr (Unit {0}) (Probing n due) past
      none_sent zero h = (lit≤ tt, λ k. tt)
      none_sent (suc n) h = grind (arith, nat_tests)
  restarted_chosen i addr (Announcing due last) at salt c = c
  restarted_chosen i addr (Held last) at salt c = c
  restarted_chosen i addr Over at salt c = tt

  pub restarted_bears : (iface : IfIndex) (state : State) (at salt : ℕ) → Bears C site clean state past
      → Bears C site (Unit {0}) (ll_restarts (at_state iface state) at salt).state past
  restarted_bears iface Off at salt b = tt
  restarted_bears iface (Armed due waits fallback) at salt b = tt
  restarted_bears iface (Chosen conflicts acd) at salt b = (b.0, restarted_chosen acd.iface acd.addr acd.phase at salt b.1)
  restarted_bears iface (Waiting conflicts due) at salt b = tt

  clean_phase : (addr : Ip4) (phase : Phase) → clean → Carries C site addr clean phase past → Carries C site addr (Unit {0}) phase past
  clean_phase addr (Probing n due) k c = (c.0, λ _. c.1 k)
  clean_phase addr (Announcing due last) k c = c
  clean_phase addr (Held last) k c = c
  clean_phase addr Over k c = tt

  pub clean_bears : (state : State) → clean → Bears C site clean state past → Bears C site (Unit {0}) state past
  clean_bears Off k b = tt
  clean_bears (Armed due waits fallback) k b = tt
  clean_bears (Chosen conflicts acd) k b = (b.0, clean_phase acd.addr acd.phase k b.1)
  clean_bears (Waiting conflicts due) k b = tt
