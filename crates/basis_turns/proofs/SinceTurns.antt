-- What came in a turn of a number came in some turn.
use Rattle.std.proofs.Common.{◌≡◌, ℕ, ◌+◌, ◌<◌, ◌≤◌, true, false, inl, inr, List, [], ◌∷◌, ◌++◌, length, get_or, take, refl, sym, subst, ap, ◌∙◌, arith}
use Rattle.std.proofs.lemmas.List.{length-take-le, take_more}
use Rattle.machine.specs.Since.{Since}
use Rattle.net_types.specs.declared.address.Ip4.{Ip4}
use Rattle.evidence_words.specs.Entries.{Entry}
use Rattle.evidence_words.specs.Inputs.{Site, contests, offers_at}
use Rattle.evidence_words.specs.Probed.{TurnWord, AsProbe, Probes, Probed, probe_taken}
use Rattle.audit_words.specs.Shown.{entry_shown}
use Rattle.basis_turns.specs.ProbedIn.{ProbesIn, ProbedIn, three_of}
use Rattle.basis_turns.specs.Turns.{SinceTurn, shown_after}
use Rattle.basis_turns.specs.declared.probes.ProbedTurns.{ProbedTurns}
use Rattle.basis_turns.specs.declared.shown_turn.ShownTurn.{ShownTurn}

pub since_of : (n : ℕ) (P Q R : TurnWord) → ((e : Entry) (past : List Entry) → Q e past → R e past) → (past : List Entry)
    → SinceTurn n P Q past → Since P R past
since_of n P Q R f [] h = absurd h
since_of n P Q R f (e ∷ past) h = elim h [
  | inl here ↦ inl (f e past here.1)
  | inr before ↦ inr (before.0, since_of n P Q R f past before.1)
]

module _ (C First : TurnWord) (site : Site) (addr : Ip4) where
  abbrev Quiet : TurnWord
  Quiet e past = C e past × (contests site addr e ≡ false)

  abbrev Taken : (turns : List ℕ) → (wait before : ℕ) → TurnWord
  Taken turns wait before e past =
      AsProbe C First (length turns) e past × (contests site addr e ≡ false) × (probe_taken site addr (offers_at site e) ≡ true)
      × (e.moment + wait ≤ before) × ProbesIn C First site addr turns 1000 e.moment past

  abbrev Counted : (count wait before : ℕ) → TurnWord
  Counted count wait before e past =
      AsProbe C First count e past × (contests site addr e ≡ false) × (probe_taken site addr (offers_at site e) ≡ true)
      × (e.moment + wait ≤ before) × Probes C First site addr count 1000 e.moment past

  pub to_probes : (turns : List ℕ) (wait before : ℕ) (past : List Entry) → ProbesIn C First site addr turns wait before past
      → Probes C First site addr (length turns) wait before past
  to_probes [] wait before past h = tt
  to_probes (n ∷ turns) wait before past h =
      since_of n Quiet (Taken turns wait before) (Counted (length turns) wait before)
      (λ e earlier q. (q.0, q.1, q.2, q.3, to_probes turns 1000 e.moment earlier q.4)) past h

appended : (later : List Entry) (fourth : Entry) (earlier : List Entry) → (later ++ fourth ∷ []) ++ earlier ≡ later ++ fourth ∷ earlier
appended [] fourth earlier = refl
appended (e ∷ later) fourth earlier = ap (λ (turns : List Entry). e ∷ turns) (appended later fourth earlier)

module _ (C First : TurnWord) (site : Site) (addr : Ip4) (turns : ProbedTurns) where
  gone_on : (e : Entry) (past : List Entry) → C e past → Probed C First site addr past → Probed C First site addr (e ∷ past)
  gone_on e past calmly p = record {
    later = e ∷ p.later;
    fourth = p.fourth;
    earlier = p.earlier;
    cut = ap (λ (all : List Entry). e ∷ all) p.cut;
    probes = p.probes;
    since = (subst (λ (all : List Entry). C e all) (p.cut ∙ sym (appended p.later p.fourth p.earlier)) calmly, p.since);
  }

  pub to_probed : (past : List Entry) → ProbedIn C First site addr turns past → Probed C First site addr past
  to_probed [] h = absurd h
  to_probed (e ∷ past) h = elim h [
    | inl here ↦ record {
      later = [];
      fourth = e;
      earlier = past;
      cut = refl;
      probes = to_probes C First site addr (three_of turns) 2000 e.moment past here.1.1;
      since = (here.1.0, tt);
    }
    | inr before ↦ gone_on e past before.0 (to_probed past before.1)
  ]

-- ---- the turns that are kept

shown_more : (past : List Entry) (turns : List ShownTurn) (turn : ShownTurn)
    → shown_after past (turns ++ turn ∷ []) ≡ entry_shown turn.entry ∷ shown_after past turns
shown_more past [] turn = refl
shown_more past (first ∷ turns) turn = shown_more (entry_shown first.entry ∷ past) turns turn

-- with one turn more
pub shown_next : (turns : List ShownTurn) (i : ℕ) (d : ShownTurn) → i < length turns
    → shown_after [] (take (i + 1) turns) ≡ entry_shown (get_or turns i d).entry ∷ shown_after [] (take i turns)
shown_next turns i d within = ap (shown_after []) (take_more turns i d within) ∙ shown_more [] (take i turns) (get_or turns i d)

count_from : (past : List Entry) (turns : List ShownTurn) → length (shown_after past turns) ≡ length past + length turns
count_from past [] = omega arith
count_from past (turn ∷ turns) =
    let now : List Entry = entry_shown turn.entry ∷ past in
    let more : length (shown_after now turns) ≡ length now + length turns = count_from now turns in
    let longer : length now ≡ length past + 1 = omega arith in
    omega (arith, more, longer)

counted : (turns : List ShownTurn) (i : ℕ) → i < length turns → i ≡ length (shown_after [] (take i turns))
counted turns i within =
    let all : length (shown_after [] (take i turns)) ≡ 0 + length (take i turns) = count_from [] (take i turns) in
    let front : length (take i turns) ≡ i = length-take-le i turns (omega (arith, within)) in
    omega (arith, all, front)

-- what holds after some turns, and goes on with each, holds after one more
pub one_more : {W : Type 0} (T : List Entry → W → Type 0) (turns : List ShownTurn) (i : ℕ) (turn : ShownTurn) (walk next : W) → i < length turns
    → turn ≡ get_or turns i turn → T (shown_after [] (take i turns)) walk
    → ((past : List Entry) → i ≡ length past → T past walk → T (entry_shown turn.entry ∷ past) next)
    → T (shown_after [] (take (i + 1) turns)) next
one_more T turns i turn walk next within is so_far step =
    subst (λ (past : List Entry). T past next)
    (sym
    (shown_next turns i turn within
    ∙ ap (λ (t : ShownTurn). entry_shown t.entry ∷ shown_after [] (take i turns)) (sym is)))
    (step (shown_after [] (take i turns)) (counted turns i within) so_far)
