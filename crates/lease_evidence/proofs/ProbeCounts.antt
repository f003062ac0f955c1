-- The laws on probes.
use Rattle.std.proofs.Common.{◌≡◌, ℕ, zero, suc, ◌+◌, ◌*◌, ◌≤◌, ◌<◌, ◌⊎◌, cond, Bool, true, false, List, [], ◌∷◌, ◌++◌, inl, inr, refl, sym, subst, ap, ◌∙◌, append_assoc, arith}
use Rattle.std.proofs.lemmas.List.Sums.{sum_by-append}
use Rattle.machine.specs.Since.{Since, Always}
use Rattle.net_types.specs.declared.address.Ip4.{Ip4}
use Rattle.net_types.specs.declared.address.Net4.{Net4}
use Rattle.net_types.specs.declared.address.Net.TheVariants.{V4}
use Rattle.v4_message.specs.declared.writing.Kind4.TheVariants.{Discover, Decline, Release}
use Rattle.evidence_words.specs.Entries.{Entry}
use Rattle.evidence_words.specs.Inputs.{Site, offers_at, contests}
use Rattle.evidence_words.specs.Probed.{TurnWord, probe_taken, Probes, EachAfter, Probed, probes_taken}
use Rattle.lease_evidence.specs.LeaseBasis.{Calm, LeaseBasis}
use Rattle.lease_evidence.specs.ProbedFirst.{NeedsThreeProbes, Disturbs, ProbesBeginAnew, ContestsPartProbes, ProbesTakeFourSeconds}
use Rattle.lease_evidence.proofs.Cutting.{silent_says}
use Rattle.lease_evidence.proofs.EndingProofs.{lost_goes, given_goes, stop_goes}

module _ (C First : TurnWord) (site : Site) (addr : Ip4) where
  abbrev once : Entry → ℕ
  once e = cond (probe_taken site addr (offers_at site e)) 1 0

  abbrev taken : List Entry → ℕ
  taken past = probes_taken site addr past

  one_more : (e : Entry) (past : List Entry) → taken (e ∷ past) ≡ once e + taken past
  one_more e past = let h : taken ((e ∷ []) ++ past) ≡ (0 + once e) + taken past = sum_by-append once (e ∷ []) past in omega arith

  later_on : (n : ℕ) (e : Entry) (past : List Entry) → n ≤ taken past → n ≤ taken (e ∷ past)
  later_on n e past h = let more = one_more e past in omega arith

  took_one : (n : ℕ) (e : Entry) (past : List Entry) → probe_taken site addr (offers_at site e) ≡ true → n ≤ taken past → suc n ≤ taken (e ∷ past)
  took_one n e past q h =
      let more : taken (e ∷ past) ≡ 1 + taken past = one_more e past ∙ ap (λ t. cond t 1 0 + taken past) q in
      omega arith

  -- ---- how many were taken

  counted : (n w b : ℕ) (past : List Entry) → Probes C First site addr n w b past → n ≤ taken past
  counted zero w b past h = omega arith
  counted (suc n) w b [] h = absurd h
  counted (suc n) w b (e ∷ past) h = elim h [
    | inl q ↦ took_one n e past q.2 (counted n 1000 e.moment past q.4)
    | inr on ↦ later_on (suc n) e past (counted (suc n) w b past on.1)
  ]

  -- from a turn on that isn't as C says
  counted_since : (n w b : ℕ) (later : List Entry) (e : Entry) (earlier : List Entry) → (C e earlier → ⊥)
      → Probes C First site addr n w b (later ++ e ∷ earlier) → n ≤ taken (later ++ e ∷ [])
  counted_since zero w b later e earlier bad h = omega arith
  counted_since (suc zero) w b [] e earlier bad h = elim h [
    | inl q ↦ took_one 0 e [] q.2 (omega arith)
    | inr on ↦ absurd (bad on.0.0)
  ]
  counted_since (suc (suc n)) w b [] e earlier bad h = elim h [
    | inl q ↦ absurd (bad q.0)
    | inr on ↦ absurd (bad on.0.0)
  ]
  counted_since (suc n) w b (x ∷ later) e earlier bad h = elim h [
    | inl q ↦ took_one n x (later ++ e ∷ []) q.2 (counted_since n 1000 x.moment later e earlier bad q.4)
    | inr on ↦ later_on (suc n) x (later ++ e ∷ []) (counted_since (suc n) w b later e earlier bad on.1)
  ]

  -- after a turn in which the address was contested
  counted_after : (n w b : ℕ) (later : List Entry) (e : Entry) (earlier : List Entry) → contests site addr e ≡ true
      → Probes C First site addr n w b (later ++ e ∷ earlier) → n ≤ taken later
  counted_after zero w b later e earlier bad h = omega arith
  counted_after (suc n) w b [] e earlier bad h = elim h [
    | inl q ↦ absurd (differ (contests site addr e) bad q.1)
    | inr on ↦ absurd (differ (contests site addr e) bad on.0.1)
  ]
    where
      differ : (b : Bool) → b ≡ true → b ≡ false → ⊥
      differ true t f = absurd cc
      differ false t f = absurd cc
  counted_after (suc n) w b (x ∷ later) e earlier bad h = elim h [
    | inl q ↦ took_one n x later q.2 (counted_after n 1000 x.moment later e earlier bad q.4)
    | inr on ↦ later_on (suc n) x later (counted_after (suc n) w b later e earlier bad on.1)
  ]

  -- ---- how long they took

  abbrev ProbesFrom : ℕ → TurnWord
  ProbesFrom first e past = probe_taken site addr (offers_at site e) ≡ true → first ≤ e.moment

  timed : (n w b first : ℕ) (past : List Entry) → Always (ProbesFrom first) past → Probes C First site addr (suc n) w b past → first + n * 1000 + w ≤ b
  timed n w b first [] from h = absurd h
  timed zero w b first (e ∷ past) from h = elim h [
    | inl q ↦ (let least : first ≤ e.moment = from.0 q.2 in omega (arith, least, q.3))
    | inr on ↦ timed zero w b first past from.1 on.1
  ]
  timed (suc n) w b first (e ∷ past) from h = elim h [
    | inl q ↦ (let least : first + n * 1000 + 1000 ≤ e.moment = timed n 1000 e.moment first past from.1 q.4 in omega (arith, least, q.3))
    | inr on ↦ timed (suc n) w b first past from.1 on.1
  ]

  -- ---- the fourth turn

  abbrev Fourth : TurnWord
  Fourth e past = C e past × Probes C First site addr 3 2000 e.moment past

  each_since : (later : List Entry) (fourth : Entry) (earlier : List Entry) → EachAfter C (later ++ fourth ∷ []) earlier
      → Probes C First site addr 3 2000 fourth.moment earlier → Since C Fourth (later ++ fourth ∷ earlier)
  each_since [] fourth earlier each h = inl (each.0, h)
  each_since (e ∷ later) fourth earlier each h =
      inr (subst (λ (past : List Entry). C e past) (append_assoc later (fourth ∷ []) earlier) each.0, each_since later fourth earlier each.1 h)

  pub fourth_since : (past : List Entry) → Probed C First site addr past → Since C Fourth past
  fourth_since past p = subst (λ (turns : List Entry). Since C Fourth turns) (sym p.cut) (each_since p.later p.fourth p.earlier p.since p.probes)

  pub three_in : (past : List Entry) → Since C Fourth past → 3 ≤ taken past
  three_in [] h = absurd h
  three_in (e ∷ past) h = elim h [
    | inl q ↦ later_on 3 e past (counted 3 2000 e.moment past q.1)
    | inr on ↦ later_on 3 e past (three_in past on.1)
  ]

  pub three_since : (later : List Entry) (e : Entry) (earlier : List Entry) → (C e earlier → ⊥) → Since C Fourth (later ++ e ∷ earlier)
      → 3 ≤ taken (later ++ e ∷ [])
  three_since [] e earlier bad h = elim h [ inl q ↦ absurd (bad q.0) | inr on ↦ absurd (bad on.0) ]
  three_since (x ∷ later) e earlier bad h = elim h [
    | inl q ↦ later_on 3 x (later ++ e ∷ []) (counted_since 3 2000 x.moment later e earlier bad q.1)
    | inr on ↦ later_on 3 x (later ++ e ∷ []) (three_since later e earlier bad on.1)
  ]

  pub three_apart : (later : List Entry) (e : Entry) (earlier : List Entry) → contests site addr e ≡ true → Since C Fourth (later ++ e ∷ earlier)
      → (3 ≤ taken later) ⊎ (3 ≤ taken earlier)
  three_apart [] e earlier bad h = elim h [
    | inl q ↦ inr (counted 3 2000 e.moment earlier q.1)
    | inr on ↦ inr (three_in earlier on.1)
  ]
  three_apart (x ∷ later) e earlier bad h = elim h [
    | inl q ↦ inl (later_on 3 x later (counted_after 3 2000 x.moment later e earlier bad q.1))
    | inr on ↦ elim (three_apart later e earlier bad on.1) [ inl more ↦ inl (later_on 3 x later more) | inr before ↦ inr before ]
  ]

  pub four_seconds : (first : ℕ) (past : List Entry) → Always (ProbesFrom first) past → Always (λ e earlier. e.moment < first + 4000) past
      → Since C Fourth past → ⊥
  four_seconds first [] from within h = h
  four_seconds first (e ∷ past) from within h = elim h [
    | inl q ↦ (let least : first + 2 * 1000 + 2000 ≤ e.moment = timed 2 2000 e.moment first past from.1 q.1 in
        let most : e.moment < first + 4000 = within.0 in omega (arith, least, most))
    | inr on ↦ four_seconds first past from.1 within.1 on.1
  ]

abbrev AnyTurn : TurnWord
AnyTurn e past = Unit {0}

-- the address that a basis is of was probed
probed_of : (site : Site) (addr : Net4) (now : ℕ) (past : List Entry) → site.managed.conf.flags.noarp ≡ false → LeaseBasis site (V4 addr) now past
    → Since (Calm site) (Fourth (Calm site) AnyTurn site addr.ip) past
probed_of site addr now past probes basis =
    let same : addr ≡ basis.terms.net = one_net addr basis.terms.net basis.gives in
    fourth_since (Calm site) AnyTurn site addr.ip past
    (subst (λ (n : Net4). Probed (Calm site) AnyTurn site n.ip past) (sym same) (basis.probed probes))
  where
    one_net : (a b : Net4) → V4 a ≡ V4 b → a ≡ b
    one_net a b h = cc

not_calm : (site : Site) (e : Entry) (earlier : List Entry) → Disturbs site e earlier → Calm site e earlier → ⊥
not_calm site e earlier disturbs calm = elim disturbs [
  | inl lost ↦ lost_goes site e earlier lost calm.stays
  | inr other ↦ elim other [
    | inl given ↦ given_goes site e earlier given calm.stays
    | inr said ↦ elim said [
      | inl stop ↦ stop_goes site e earlier stop calm.stays
      | inr message ↦ elim message [
        | inl discover ↦ silent_says site e earlier Discover refl calm.silent discover
        | inr parts ↦ elim parts [
          | inl decline ↦ silent_says site e earlier Decline refl calm.silent decline
          | inr release ↦ silent_says site e earlier Release refl calm.silent release
        ]
      ]
    ]
  ]
]

pub needs_three_probes : NeedsThreeProbes
needs_three_probes site addr now past probes few basis =
    let most = three_in (Calm site) AnyTurn site addr.ip past (probed_of site addr now past probes basis) in omega arith

pub probes_begin_anew : ProbesBeginAnew
probes_begin_anew site addr now later e earlier probes disturbs few basis =
    let most =
    three_since (Calm site) AnyTurn site addr.ip later e earlier (not_calm site e earlier disturbs)
    (probed_of site addr now (later ++ e ∷ earlier) probes basis) in
    omega arith

pub contests_part_probes : ContestsPartProbes
contests_part_probes site addr now later e earlier probes contested few_later few_earlier basis =
    elim (three_apart (Calm site) AnyTurn site addr.ip later e earlier contested (probed_of site addr now (later ++ e ∷ earlier) probes basis)) [
      | inl after ↦ omega (arith, after, few_later)
      | inr before ↦ omega (arith, before, few_earlier)
    ]

pub probes_take_four_seconds : ProbesTakeFourSeconds
probes_take_four_seconds site addr now first past probes from within basis =
    four_seconds (Calm site) AnyTurn site addr.ip first past from within (probed_of site addr now past probes basis)
