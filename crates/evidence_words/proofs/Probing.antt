-- What conflict detection carries of the turns shown while it probes.
use Rattle.std.proofs.Common.{◌≡◌, ℕ, zero, suc, ◌+◌, ◌<◌, ◌≤◌, Bool, true, false, ◌&&◌, ◌||◌, List, [], ◌∷◌, ◌++◌, inl, inr, refl, sym, subst, add-one, arith}
use Rattle.std.proofs.lemmas.Slice.Eq.{bytes_eq-Decides}
use Rattle.std.specs.Prelude.{bytes_eq}
use Rattle.turn_model.proofs.Machine.Entries.{since-map}
use Rattle.net_types.specs.declared.address.Ip4.{Ip4}
use Rattle.net_types.specs.declared.interface.IfIndex.{IfIndex}
use Rattle.turn_model.specs.FrameLink.Packets.{probe_text}
use Rattle.turn_model.specs.ArpAcd.declared.detection.ArpSay.TheVariants.{Probe}
use Rattle.turn_model.specs.ArpAcd.Table as detection
use Rattle.turn_model.proofs.ArpAcd.Standing.{wait_after, waits, one_second}
use Rattle.evidence_words.specs.Entries.{Entry, Offer}
use Rattle.turn_model.specs.ClientModel.ClientSettings.{ask_of}
use Rattle.turn_model.specs.ClientModel.Messages.{Said, Arp}
use Rattle.evidence_words.specs.Inputs.{Site, offers_at, contests}
use Rattle.evidence_words.specs.Probed.{TurnWord, AsProbe, probe_taken, Probes}
use Rattle.evidence_words.proofs.Offers.{Offered}

module _ (C : TurnWord) (site : Site) (addr : Ip4) where
  abbrev pub ProbesOf : (n before : ℕ) → List Entry → Type 0
  ProbesOf n before past = Probes C C site addr n (wait_after n) before past

  pub probes-on : (n w b : ℕ) (e : Entry) (past : List Entry) → C e past → contests site addr e ≡ false
      → Probes C C site addr n w b past → Probes C C site addr n w b (e ∷ past)
  probes-on zero w b e past stays calm h = tt
  probes-on (suc n) w b e past stays calm h = inr ((stays, calm), h)

  as_probe : (n : ℕ) (e : Entry) (past : List Entry) → C e past → AsProbe C C n e past
  as_probe zero e past h = h
  as_probe (suc n) e past h = h

  probes-later : (n w b later : ℕ) (past : List Entry) → b ≤ later
      → Probes C C site addr n w b past → Probes C C site addr n w later past
  probes-later zero w b later past le h = tt
  probes-later (suc n) w b later past le h =
      since-map _ _ _ (λ e earlier q. (q.0, q.1, q.2, bound e.moment w b later q.3 le, q.4)) past h
    where
      bound : (m w b later : ℕ) → m + w ≤ b → b ≤ later → m + w ≤ later
      bound m w b later h le = omega arith

  pub probe_offered : (clean : Type 0) (more : List Said) (offers : List Offer)
      → Offered site.managed.spec (ask_of site.duid site.managed) clean (Arp (Probe addr) ∷ more) offers → clean → probe_taken site addr offers ≡ true
  probe_offered clean more [] h k = absurd h
  probe_offered clean more (o ∷ offers) h k =
      let same : bytes_eq o.bytes (probe_text site.managed.spec.mac addr) ≡ true = (bytes_eq-Decides o.bytes (probe_text site.managed.spec.mac addr)).1 h.0 in
      rw (h.1 k) (rw same refl)

  -- a probe after other messages
  pub probe_among : (clean : Type 0) (front more : List Said) (offers : List Offer)
      → Offered site.managed.spec (ask_of site.duid site.managed) clean ((front ++ Arp (Probe addr) ∷ []) ++ more) offers → clean
      → probe_taken site addr offers ≡ true
  probe_among clean [] more offers h k = probe_offered clean more offers h k
  probe_among clean (say ∷ front) more [] h k = absurd h
  probe_among clean (say ∷ front) more (o ∷ offers) h k =
      rw (probe_among clean front more offers h.2 k) (or_true (o.taken && bytes_eq o.bytes (probe_text site.managed.spec.mac addr)))
    where
      or_true : (b : Bool) → (b || true) ≡ true
      or_true true = refl
      or_true false = refl

  pub probe_said : (iface : IfIndex) (n due salt : ℕ) (e : Entry) (past : List Entry) → n < 3 → due ≤ e.moment → ProbesOf n due past
      → C e past → contests site addr e ≡ false → probe_taken site addr (offers_at site e) ≡ true
      → ProbesOf (n + 1) (detection.due_after iface (n + 1) e.moment salt) (e ∷ past)
  probe_said iface n due salt e past few le h stays calm taken =
      subst (λ k. ProbesOf k (detection.due_after iface k e.moment salt) (e ∷ past)) (sym (add-one n))
      (inl (
        as_probe n e past stays,
        calm,
        taken,
        waits iface (suc n) e.moment salt,
        probes-later n 1000 due e.moment past le (subst (λ w. Probes C C site addr n w due past) (one_second n few) h),
      ))

  pub three_said : (n due : ℕ) (e : Entry) (past : List Entry) → n ≡ 3 → due ≤ e.moment → ProbesOf n due past
      → Probes C C site addr 3 2000 e.moment past
  three_said n due e past three le h = probes-later 3 2000 due e.moment past le (subst (λ k. ProbesOf k due past) three h)
