-- The stronger facts on link-local addresses give the weaker ones.
use Rattle.std.proofs.Common.{ℕ, zero, suc, List, [], ◌∷◌, ◌++◌, inl, inr, Bool, true, refl}
use Rattle.machine.specs.Since.{Since}
use Rattle.net_types.specs.declared.address.Ip4.{Ip4}
use Rattle.net_types.specs.declared.address.Net.{Net}
use Rattle.world.specs.declared.wakes.Event.{Event}
use Rattle.world.specs.declared.wakes.Event.TheVariants.{Frame, Carrier, Duplicate, Release, Rebind, Stop, Quiet, End}
use Rattle.evidence_words.specs.Entries.{Entry}
use Rattle.evidence_words.specs.Inputs.{Site, index_at, has_carrier, GoesOn, StaysOn}
use Rattle.evidence_words.specs.Probed.{TurnWord, AsProbe, Probes, EachAfter, Probed}
use Rattle.local_evidence.specs.LinkLocalBasis.{Anything, LinkLocalBasis, Undisturbed, StrongBasis}

-- weaker facts of each entry, and of the one that began
since_both : {A : Type 0} (P P2 Q Q2 : A → List A → Type 0) → ((e : A) (earlier : List A) → P e earlier → P2 e earlier)
    → ((e : A) (earlier : List A) → Q e earlier → Q2 e earlier) → (past : List A) → Since P Q past → Since P2 Q2 past
since_both P P2 Q Q2 f g [] h = h
since_both P P2 Q Q2 f g (e ∷ past) h =
    elim h [ inl q ↦ inl (g e past q) | inr later ↦ inr (f e past later.0, since_both P P2 Q Q2 f g past later.1) ]

module _ (C D First Other : TurnWord) (f : (e : Entry) (past : List Entry) → C e past → D e past)
    (g : (e : Entry) (past : List Entry) → First e past → Other e past) (site : Site) (addr : Ip4) where
  as_probe : (n : ℕ) (e : Entry) (past : List Entry) → AsProbe C First n e past → AsProbe D Other n e past
  as_probe zero e past h = g e past h
  as_probe (suc n) e past h = f e past h

  probes : (n w b : ℕ) (past : List Entry) → Probes C First site addr n w b past → Probes D Other site addr n w b past
  probes zero w b past h = h
  probes (suc n) w b past h =
      since_both _ _ _ _ (λ e earlier p. (f e earlier p.0, p.1))
      (λ e earlier q. (as_probe n e earlier q.0, q.1, q.2, q.3, probes n 1000 e.moment earlier q.4)) past h

  each_after : (turns earlier : List Entry) → EachAfter C turns earlier → EachAfter D turns earlier
  each_after [] earlier h = h
  each_after (e ∷ turns) earlier h = (f e (turns ++ earlier) h.0, each_after turns earlier h.1)

  abbrev probed : (past : List Entry) → Probed C First site addr past → Probed D Other site addr past
  probed past h = record {
    later = h.later;
    fourth = h.fourth;
    earlier = h.earlier;
    cut = h.cut;
    probes = probes 3 2000 h.fourth.moment h.earlier h.probes;
    since = each_after (h.later ++ h.fourth ∷ []) h.earlier h.since;
  }

by_event : (up : Bool) (index : ℕ) (event : Event) → GoesOn true index event → GoesOn up index event
by_event up index (Frame other len) h = tt
by_event up index (Carrier other now) h = λ same was. h same refl
by_event up index (Duplicate other addr) h = tt
by_event up index (Release other) h = h
by_event up index (Rebind other) h = tt
by_event up index Stop h = absurd h
by_event up index Quiet h = tt
by_event up index End h = tt

stays : (site : Site) (e : Entry) (past : List Entry) → Undisturbed site e past → StaysOn site e past
stays site e past h = by_event (has_carrier site past) (index_at site) e.event h

pub local_weaker : (site : Site) (net : Net) (past : List Entry) → StrongBasis site net past → LinkLocalBasis site net past
local_weaker site net past h = record {
  addr = h.addr;
  gives = h.gives;
  in_range = h.in_range;
  probed = probed (Undisturbed site) (StaysOn site) (Undisturbed site) Anything (stays site) (λ e earlier k. tt) site h.addr past h.probed;
  alone = h.alone;
  apart = h.apart;
}
