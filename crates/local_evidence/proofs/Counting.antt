-- How many probes were taken.
use Rattle.std.proofs.Common.{◌≡◌, ℕ, zero, suc, ◌+◌, ◌≤◌, cond, List, [], ◌∷◌, ◌++◌, inl, inr, sym, subst, ap, ◌∙◌, arith}
use Rattle.std.proofs.lemmas.List.Sums.{sum_by-append}
use Rattle.net_types.specs.declared.address.Ip4.{Ip4}
use Rattle.world.specs.RowOrder.{net_number}
use Rattle.evidence_words.specs.Entries.{Entry}
use Rattle.evidence_words.specs.Inputs.{Site, offers_at, StaysOn}
use Rattle.evidence_words.specs.Probed.{TurnWord, probe_taken, Probes, probes_taken}
use Rattle.local_evidence.specs.LinkLocalBasis.{Anything, NeedsThreeProbes}

module _ (C First : TurnWord) (site : Site) (addr : Ip4) where
  abbrev once : Entry → ℕ
  once e = cond (probe_taken site addr (offers_at site e)) 1 0

  one_more : (e : Entry) (past : List Entry) → probes_taken site addr (e ∷ past) ≡ once e + probes_taken site addr past
  one_more e past =
      let h : probes_taken site addr ((e ∷ []) ++ past) ≡ (0 + once e) + probes_taken site addr past = sum_by-append once (e ∷ []) past in omega arith

  later_on : (n : ℕ) (e : Entry) (past : List Entry) → n ≤ probes_taken site addr past → n ≤ probes_taken site addr (e ∷ past)
  later_on n e past h = let more = one_more e past in omega arith

  counted : (n w b : ℕ) (past : List Entry) → Probes C First site addr n w b past → n ≤ probes_taken site addr past
  counted zero w b past h = omega arith
  counted (suc n) w b [] h = absurd h
  counted (suc n) w b (e ∷ past) h = elim h [
    | inl q ↦ (
        let more : probes_taken site addr (e ∷ past) ≡ 1 + probes_taken site addr past =
        one_more e past ∙ ap (λ t. cond t 1 0 + probes_taken site addr past) q.2 in
        let before : n ≤ probes_taken site addr past = counted n 1000 e.moment past q.4 in
        omega arith)
    | inr later ↦ later_on (suc n) e past (counted (suc n) w b past later.1)
  ]

  counted_on : (n : ℕ) (later : List Entry) (fourth : Entry) (earlier : List Entry) → n ≤ probes_taken site addr earlier
      → n ≤ probes_taken site addr (later ++ fourth ∷ earlier)
  counted_on n [] fourth earlier h = later_on n fourth earlier h
  counted_on n (e ∷ later) fourth earlier h = later_on n e (later ++ fourth ∷ earlier) (counted_on n later fourth earlier h)

pub needs_three : NeedsThreeProbes
needs_three site addr past few basis =
    let same : addr ≡ basis.addr = ap (λ net. record { number = net_number net }) basis.gives in
    let p = basis.probed in
    let least : 3 ≤ probes_taken site basis.addr past =
    subst (λ turns. 3 ≤ probes_taken site basis.addr turns) (sym p.cut)
    (counted_on (StaysOn site) Anything site basis.addr 3 p.later p.fourth p.earlier
    (counted (StaysOn site) Anything site basis.addr 3 2000 p.fourth.moment p.earlier p.probes))
    in
    let least_here : 3 ≤ probes_taken site addr past = subst (λ a. 3 ≤ probes_taken site a past) (sym same) least in
    omega arith
