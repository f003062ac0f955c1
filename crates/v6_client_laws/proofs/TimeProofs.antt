-- A lease gets the times that a Reply tells.
use Rattle.std.proofs.Common.{◌≡◌, ℕ, ◌+◌, ◌≤◌, ◌⊎◌, inl, inr, true, ◌&&◌, List, [], ◌∷◌, fold, max, min, Option, Some, None, option_map, refl, sym, ap, ◌∙◌, subst, arith, eqb}
use Rattle.std.specs.List.{Contains}
use Rattle.std.specs.Option.{option_and_then}
use Rattle.std.proofs.lemmas.Bool.{and_parts, eqb-false, eqb-true}
use Rattle.net_types.proofs.CaseLaws.{gated, split}
use Rattle.v6_options.specs.Ias.{IaContent}
use Rattle.v6_client.specs.V6Message.Replies.{Content6}
use Rattle.lease6_text.specs.Leases.{Lease6Content}
use Rattle.v6_items.specs.declared.renewing.Spans6.{Spans6}
use Rattle.v6_items.specs.declared.asks.IaAsk.{IaAsk}
use Rattle.v6_items.specs.declared.times.TheConstants.{FOREVER, LEAST_TIME, T1_PART, T2_PART}
use Rattle.v6_client.specs.Answers.{granted, is_taken, meeting_of, server_of, takes_replies}
use Rattle.v6_client.specs.Calls.{fresh_in}
use Rattle.v6_client.specs.Clients.{ClientContent}
use Rattle.v6_items.specs.Items.{is_nonempty}
use Rattle.v6_items.specs.Reading.{ia_for, saids_of, serves}
use Rattle.v6_items.specs.Renewing.{joined, raised, span, spans_of}
use Rattle.v6_items.specs.Taking.{Meeting, ia_spans, ias_granted, spans_granted, t1_granted, t2_granted, taken_by}
use Rattle.v6_items.specs.Times.{earlier}
use Rattle.v6_client_laws.specs.GivenLaws.{IsGranted, LeasesAreGranted, TakesItems, TimesAreTold}
use Rattle.v6_client_laws.specs.GivenTimes.{AreTimes, Brings, BringsSome, ComesAfter, IsTime, TellsT1, TellsT2, least_time, met}
use Rattle.v6_client_laws.specs.Least.{IsLeast, LeastOf}
use Rattle.v6_client_laws.specs.TakenItems.{IsPreferredFor}
use Rattle.v6_client_laws.proofs.FirstIas.{first_found, found_first}
use Rattle.v6_client_laws.proofs.FirstItems.{behind_in, front_in, none_in}
use Rattle.v6_client_laws.proofs.Given.{messages_serve, servers_are_named}
use Rattle.v6_client_laws.proofs.Leasts.{earlier_least, in_cases, one_least, to_least}
use Rattle.v6_client_laws.proofs.TakenProofs.{items_are_taken}

-- ---- one time

span_least : (said shortest part : ℕ) → LeastOf (IsTime said shortest part) (span said shortest part)
span_least said shortest part =
    split (eqb said 0)
    (λ none. rw none (split (eqb shortest FOREVER)
    (λ lasts. rw lasts (λ time is. elim is [
      | inl left ↦ left.ends (eqb-true shortest FOREVER lasts)
      | inr told ↦ told.some (eqb-true said 0 none)
    ]))
    (λ ends. rw ends (record {
      is = inl (record { none = eqb-true said 0 none; ends = eqb-false shortest FOREVER ends; is = refl });
      least = λ time is. elim is [
        | inl left ↦ (let same = left.is in omega (arith, same))
        | inr told ↦ absurd (told.some (eqb-true said 0 none))
      ];
    }))))
    (λ some. rw some (split (eqb said FOREVER)
    (λ lasts. rw lasts (λ time is. elim is [
      | inl left ↦ eqb-false said 0 some left.none
      | inr told ↦ told.ends (eqb-true said FOREVER lasts)
    ]))
    (λ ends. rw ends (record {
      is = inr (record { some = eqb-false said 0 some; ends = eqb-false said FOREVER ends; is = refl });
      least = λ time is. elim is [
        | inl left ↦ absurd (eqb-false said 0 some left.none)
        | inr told ↦ (let same = told.is in omega (arith, same))
      ];
    }))))

-- ---- the times of some IAs

-- the least of each, where some IA brings items; without one there is none
abbrev AreSpans : (B : Type 0) → (P Q : ℕ → Type 0) → Option Spans6 → Type 0
AreSpans B P Q None = (B → ⊥) × (LeastOf P None × LeastOf Q None)
AreSpans B P Q (Some spans) = B × (LeastOf P spans.t1 × LeastOf Q spans.t2)

record Alike (P Q : ℕ → Type 0) : Type 0 where
  there : (n : ℕ) → P n → Q n
  back : (n : ℕ) → Q n → P n

alike : (P Q : ℕ → Type 0) (o : Option ℕ) → Alike P Q → LeastOf P o → LeastOf Q o
alike P Q o a = to_least P Q o a.there a.back

spans_alike : (B C : Type 0) (P Q R S : ℕ → Type 0) (spans : Option Spans6) → (B → C) → (C → B) → Alike P R → Alike Q S
    → AreSpans B P Q spans → AreSpans C R S spans
spans_alike B C P Q R S None f g p q are = (λ c. are.0 (g c), (alike P R None p are.1.0, alike Q S None q are.1.1))
spans_alike B C P Q R S (Some spans) f g p q are = (f are.0, (alike P R spans.t1 p are.1.0, alike Q S spans.t2 q are.1.1))

join_spans : (B C : Type 0) (P Q R S : ℕ → Type 0) (one other : Option Spans6) → AreSpans B P Q one → AreSpans C R S other
    → AreSpans (B ⊎ C) (λ n. P n ⊎ R n) (λ n. Q n ⊎ S n) (joined one other)
join_spans B C P Q R S None None a b = (
  λ e. elim e [ inl x ↦ a.0 x | inr y ↦ b.0 y ],
  (earlier_least P R None None a.1.0 b.1.0, earlier_least Q S None None a.1.1 b.1.1),
)
join_spans B C P Q R S None (Some other) a b =
    (inr b.0, (earlier_least P R None other.t1 a.1.0 b.1.0, earlier_least Q S None other.t2 a.1.1 b.1.1))
join_spans B C P Q R S (Some one) None a b =
    (inl a.0, (later_none P R one.t1 a.1.0 b.1.0, later_none Q S one.t2 a.1.1 b.1.1))
  where
    later_none : (P R : ℕ → Type 0) (o : Option ℕ) → LeastOf P o → LeastOf R None → LeastOf (λ n. P n ⊎ R n) o
    later_none P R None a b = earlier_least P R None None a b
    later_none P R (Some n) a b = earlier_least P R (Some n) None a b
join_spans B C P Q R S (Some one) (Some other) a b =
    (inl a.0, (earlier_least P R one.t1 other.t1 a.1.0 b.1.0, earlier_least Q S one.t2 other.t2 a.1.1 b.1.1))

-- ---- one IA

module _ (m : Meeting) where
  record BringsBy (ask : IaAsk) : Type 0 where
    ia : IaContent
    shortest : ℕ
    brings : Brings m ask ia shortest

  record T1By (ask : IaAsk) (time : ℕ) : Type 0 where
    by : BringsBy ask
    is : IsTime by.ia.t1 by.shortest T1_PART time

  record T2By (ask : IaAsk) (time : ℕ) : Type 0 where
    by : BringsBy ask
    is : IsTime by.ia.t2 by.shortest T2_PART time

  taken : (ask : IaAsk) → TakesItems m.at (met m ask) (saids_of (ia_for ask m.ias))
  taken ask = items_are_taken m.at (met m ask) (saids_of (ia_for ask m.ias))

  -- the shortest of what is taken
  shortest_is : (ask : IaAsk) (by : BringsBy ask) → (taken_by m ask).shortest ≡ Some by.shortest
  shortest_is ask by =
      let is = (taken ask).whole by.brings.held by.brings.set by.brings.takes in
      one_least (IsPreferredFor by.brings.set) (taken_by m ask).shortest (Some by.shortest) is.shortest by.brings.is_shortest

  ia_is : (ask : IaAsk) (by : BringsBy ask) → ia_for ask m.ias ≡ Some by.ia
  ia_is ask by = found_first ask m.ias by.ia by.brings.first

  some_same : {X : Type 0} (x y : X) (o : Option X) → o ≡ Some x → o ≡ Some y → x ≡ y
  some_same x y (Some z) a b = cc
  some_same x y None a b = cc

  none_some : {X : Type 0} (x : X) (o : Option X) → o ≡ None → o ≡ Some x → ⊥
  none_some x (Some z) a b = cc
  none_some x None a b = cc

  own_shortest : (ask : IaAsk) (shortest : ℕ) → (taken_by m ask).shortest ≡ Some shortest
      → IsLeast (IsPreferredFor (taken ask).set) shortest
  own_shortest ask shortest is =
      let least : LeastOf (IsPreferredFor (taken ask).set) (taken_by m ask).shortest =
      ((taken ask).whole (taken_by m ask).items (taken ask).set (taken ask).takes).shortest in
      subst (λ (o : Option ℕ). LeastOf (IsPreferredFor (taken ask).set) o) is least

  abbrev one_brings : (ask : IaAsk) (ia : IaContent) (shortest : ℕ) → ia_for ask m.ias ≡ Some ia → (taken_by m ask).shortest ≡ Some shortest
      → BringsBy ask
  one_brings ask ia shortest found is = record {
    ia = ia;
    shortest = shortest;
    brings = record {
      first = first_found ask m.ias ia found;
      held = (taken_by m ask).items;
      set = (taken ask).set;
      takes = (taken ask).takes;
      is_shortest = own_shortest ask shortest is;
    };
  }

  no_spans : (ask : IaAsk) → (BringsBy ask → ⊥) → AreSpans (BringsBy ask) (T1By ask) (T2By ask) None
  no_spans ask never = (never, (λ time t. never t.by, λ time t. never t.by))

  one_spans_by : (ask : IaAsk) (found : Option IaContent) (shortest : Option ℕ) → ia_for ask m.ias ≡ found
      → (taken_by m ask).shortest ≡ shortest → AreSpans (BringsBy ask) (T1By ask) (T2By ask) (spans_of found shortest)
  one_spans_by ask None shortest found is = no_spans ask (λ by. none_some by.ia (ia_for ask m.ias) found (ia_is ask by))
  one_spans_by ask (Some ia) None found is =
      no_spans ask (λ by. none_some by.shortest (taken_by m ask).shortest is (shortest_is ask by))
  one_spans_by ask (Some ia) (Some shortest) found is = (
    own,
    (
      alike (IsTime ia.t1 shortest T1_PART) (T1By ask) (span ia.t1 shortest T1_PART)
          (record { there = λ n t. record { by = own; is = t }; back = λ n t. same_t1 n t }) (span_least ia.t1 shortest T1_PART),
      alike (IsTime ia.t2 shortest T2_PART) (T2By ask) (span ia.t2 shortest T2_PART)
          (record { there = λ n t. record { by = own; is = t }; back = λ n t. same_t2 n t }) (span_least ia.t2 shortest T2_PART),
    ),
  )
    where
      own : BringsBy ask
      own = one_brings ask ia shortest found is

      same_ia : (by : BringsBy ask) → by.ia ≡ ia
      same_ia by = some_same by.ia ia (ia_for ask m.ias) (ia_is ask by) found

      same_shortest : (by : BringsBy ask) → by.shortest ≡ shortest
      same_shortest by = some_same by.shortest shortest (taken_by m ask).shortest (shortest_is ask by) is

      same_t1 : (n : ℕ) → T1By ask n → IsTime ia.t1 shortest T1_PART n
      same_t1 n t =
          subst (λ (i : IaContent). IsTime i.t1 shortest T1_PART n) (same_ia t.by)
          (subst (λ s. IsTime t.by.ia.t1 s T1_PART n) (same_shortest t.by) t.is)

      same_t2 : (n : ℕ) → T2By ask n → IsTime ia.t2 shortest T2_PART n
      same_t2 n t =
          subst (λ (i : IaContent). IsTime i.t2 shortest T2_PART n) (same_ia t.by)
          (subst (λ s. IsTime t.by.ia.t2 s T2_PART n) (same_shortest t.by) t.is)

  one_spans : (ask : IaAsk) → AreSpans (BringsBy ask) (T1By ask) (T2By ask) (ia_spans m ask)
  one_spans ask = one_spans_by ask (ia_for ask m.ias) (taken_by m ask).shortest refl refl

  -- ---- all IAs

  abbrev of_one : (ask : IaAsk) (asks : List IaAsk) → BringsBy ask → BringsSome m (ask ∷ asks)
  of_one ask asks by = record { ask = ask; asked = front_in ask asks; ia = by.ia; shortest = by.shortest; brings = by.brings }

  abbrev of_more : (ask : IaAsk) (asks : List IaAsk) → BringsSome m asks → BringsSome m (ask ∷ asks)
  of_more ask asks some =
      record { ask = some.ask; asked = behind_in ask asks some.ask some.asked; ia = some.ia; shortest = some.shortest; brings = some.brings }

  abbrev by_same : (ask : IaAsk) (asks : List IaAsk) (some : BringsSome m asks) → ask ≡ some.ask → BringsBy ask
  by_same ask asks some same = record {
    ia = some.ia;
    shortest = some.shortest;
    brings = subst (λ (a : IaAsk). Brings m a some.ia some.shortest) (sym same) some.brings;
  }

  abbrev by_more : (asks more : List IaAsk) (some : BringsSome m more) → Contains asks some.ask → BringsSome m asks
  by_more asks more some asked =
      record { ask = some.ask; asked = asked; ia = some.ia; shortest = some.shortest; brings = some.brings }

  part : (ask : IaAsk) (asks : List IaAsk) → BringsSome m (ask ∷ asks) → BringsBy ask ⊎ BringsSome m asks
  part ask asks some = elim (in_cases ask asks some.ask some.asked) [
    | inl same ↦ inl (by_same ask (ask ∷ asks) some same)
    | inr later ↦ inr (by_more asks (ask ∷ asks) some later)
  ]

  t1_parts : (ask : IaAsk) (asks : List IaAsk) → Alike (λ n. T1By ask n ⊎ TellsT1 m asks n) (TellsT1 m (ask ∷ asks))
  t1_parts ask asks = record {
    there = λ n e. elim e [
      | inl t ↦ record { some = of_one ask asks t.by; is = t.is }
      | inr t ↦ record { some = of_more ask asks t.some; is = t.is }
    ];
    back = λ n t. elim (in_cases ask asks t.some.ask t.some.asked) [
      | inl same ↦ inl (record { by = by_same ask (ask ∷ asks) t.some same; is = t.is })
      | inr later ↦ inr (record { some = by_more asks (ask ∷ asks) t.some later; is = t.is })
    ];
  }

  t2_parts : (ask : IaAsk) (asks : List IaAsk) → Alike (λ n. T2By ask n ⊎ TellsT2 m asks n) (TellsT2 m (ask ∷ asks))
  t2_parts ask asks = record {
    there = λ n e. elim e [
      | inl t ↦ record { some = of_one ask asks t.by; is = t.is }
      | inr t ↦ record { some = of_more ask asks t.some; is = t.is }
    ];
    back = λ n t. elim (in_cases ask asks t.some.ask t.some.asked) [
      | inl same ↦ inl (record { by = by_same ask (ask ∷ asks) t.some same; is = t.is })
      | inr later ↦ inr (record { some = by_more asks (ask ∷ asks) t.some later; is = t.is })
    ];
  }

  -- one of three, by the first two
  regrouped : (P Q R S : ℕ → Type 0) → Alike (λ n. Q n ⊎ R n) S → Alike (λ n. (P n ⊎ Q n) ⊎ R n) (λ n. P n ⊎ S n)
  regrouped P Q R S a = record {
    there = λ n e. elim e [
      | inl front ↦ elim front [ inl p ↦ inl p | inr q ↦ inr (a.there n (inl q)) ]
      | inr r ↦ inr (a.there n (inr r))
    ];
    back = λ n e. elim e [
      | inl p ↦ inl (inl p)
      | inr s ↦ elim (a.back n s) [ inl q ↦ inl (inr q) | inr r ↦ inr r ]
    ];
  }

  brought : (B : Type 0) (ask : IaAsk) (asks : List IaAsk) → ((B ⊎ BringsBy ask) ⊎ BringsSome m asks) → (B ⊎ BringsSome m (ask ∷ asks))
  brought B ask asks (inl (inl b)) = inl b
  brought B ask asks (inl (inr by)) = inr (of_one ask asks by)
  brought B ask asks (inr some) = inr (of_more ask asks some)

  brought_by : (B : Type 0) (ask : IaAsk) (asks : List IaAsk) → (B ⊎ BringsSome m (ask ∷ asks)) → ((B ⊎ BringsBy ask) ⊎ BringsSome m asks)
  brought_by B ask asks (inl b) = inl (inl b)
  brought_by B ask asks (inr some) = elim (part ask asks some) [ inl by ↦ inl (inr by) | inr more ↦ inr more ]

  none_brings : BringsSome m [] → ⊥
  none_brings some = none_in some.ask some.asked

  none_here : (P R : ℕ → Type 0) → ((n : ℕ) → R n → ⊥) → Alike P (λ n. P n ⊎ R n)
  none_here P R never = record {
    there = λ n p. inl p;
    back = λ n e. elim e [ inl p ↦ p | inr r ↦ absurd (never n r) ];
  }

  fold_spans : (asks : List IaAsk) (B : Type 0) (P Q : ℕ → Type 0) (acc : Option Spans6) → AreSpans B P Q acc
      → AreSpans (B ⊎ BringsSome m asks) (λ n. P n ⊎ TellsT1 m asks n) (λ n. Q n ⊎ TellsT2 m asks n)
      (fold (λ spans ask. joined spans (ia_spans m ask)) acc asks)
  fold_spans [] B P Q acc are =
      spans_alike B (B ⊎ BringsSome m []) P Q (λ n. P n ⊎ TellsT1 m [] n) (λ n. Q n ⊎ TellsT2 m [] n) acc (λ b. inl b)
      (λ e. elim e [ inl b ↦ b | inr some ↦ absurd (none_brings some) ]) (none_here P (TellsT1 m []) (λ n t. none_brings t.some))
      (none_here Q (TellsT2 m []) (λ n t. none_brings t.some)) are
  fold_spans (ask ∷ asks) B P Q acc are =
      spans_alike ((B ⊎ BringsBy ask) ⊎ BringsSome m asks) (B ⊎ BringsSome m (ask ∷ asks))
      (λ n. (P n ⊎ T1By ask n) ⊎ TellsT1 m asks n) (λ n. (Q n ⊎ T2By ask n) ⊎ TellsT2 m asks n)
      (λ n. P n ⊎ TellsT1 m (ask ∷ asks) n) (λ n. Q n ⊎ TellsT2 m (ask ∷ asks) n)
      (fold (λ spans ask. joined spans (ia_spans m ask)) (joined acc (ia_spans m ask)) asks) (brought B ask asks) (brought_by B ask asks)
      (regrouped P (T1By ask) (TellsT1 m asks) (TellsT1 m (ask ∷ asks)) (t1_parts ask asks))
      (regrouped Q (T2By ask) (TellsT2 m asks) (TellsT2 m (ask ∷ asks)) (t2_parts ask asks))
      (fold_spans asks (B ⊎ BringsBy ask) (λ n. P n ⊎ T1By ask n) (λ n. Q n ⊎ T2By ask n) (joined acc (ia_spans m ask))
      (join_spans B (BringsBy ask) P Q (T1By ask) (T2By ask) acc (ia_spans m ask) are (one_spans ask)))

  all_spans : (asks : List IaAsk) → AreSpans (BringsSome m asks) (TellsT1 m asks) (TellsT2 m asks) (spans_granted m asks)
  all_spans asks =
      spans_alike (⊥ ⊎ BringsSome m asks) (BringsSome m asks) (λ n. ⊥ ⊎ TellsT1 m asks n) (λ n. ⊥ ⊎ TellsT2 m asks n) (TellsT1 m asks)
      (TellsT2 m asks) (spans_granted m asks) (λ e. elim e [ inl never ↦ absurd never | inr some ↦ some ]) (λ some. inr some)
      (from_none (TellsT1 m asks)) (from_none (TellsT2 m asks))
      (fold_spans asks ⊥ (λ n. ⊥) (λ n. ⊥) None (λ never. never, (λ n never. never, λ n never. never)))
    where
      from_none : (P : ℕ → Type 0) → Alike (λ n. ⊥ ⊎ P n) P
      from_none P = record { there = λ n e. elim e [ inl never ↦ absurd never | inr p ↦ p ]; back = λ n p. inr p }

-- ---- the moments

raised_after : (at : ℕ) (P : ℕ → Type 0) (o : Option ℕ) → LeastOf P o → ComesAfter at P (option_map (λ time. at + time) (raised o))
raised_after at P None none = none
raised_after at P (Some time) least = record { time = time; least = least; is = refl }

raised_both : (one other : Option ℕ) → earlier (raised one) (raised other) ≡ raised (earlier one other)
raised_both None other = refl
raised_both (Some one) None = refl
raised_both (Some one) (Some other) = ap Some (least_of one other)
  where
    least_of : (a b : ℕ) → min (max a LEAST_TIME) (max b LEAST_TIME) ≡ max (min a b) LEAST_TIME
    least_of a b = omega arith

one_after : (at : ℕ) (P : ℕ → Type 0) (a b : Option ℕ) → ComesAfter at P a → ComesAfter at P b → a ≡ b
one_after at P None None one other = refl
one_after at P None (Some b) one other = absurd (one other.time other.least.is)
one_after at P (Some a) None one other = absurd (other one.time one.least.is)
one_after at P (Some a) (Some b) one other =
    let below : one.time ≤ other.time = one.least.least other.time other.least.is in
    let above : other.time ≤ one.time = other.least.least one.time one.least.is in
    let same : one.time ≡ other.time = omega (arith, below, above) in
    ap Some (one.is ∙ ap (λ time. at + max time least_time) same ∙ sym other.is)

module _ (m : Meeting) (asks : List IaAsk) where
  abbrev Both : ℕ → Type 0
  Both time = TellsT1 m asks time ⊎ TellsT2 m asks time

  are_times : (spans : Option Spans6) → AreSpans (BringsSome m asks) (TellsT1 m asks) (TellsT2 m asks) spans
      → AreTimes m asks (t1_granted m spans) (t2_granted m spans)
  are_times None are = record {
    stay = λ none. (refl, refl);
    t1_comes = λ some. absurd (are.0 some);
    t2_comes = λ some. absurd (are.0 some);
  }
  are_times (Some spans) are = record {
    stay = λ none. absurd (none are.0);
    t1_comes = λ some.
        subst (λ (o : Option ℕ). ComesAfter m.at Both (option_map (λ time. m.at + time) o)) (sym (raised_both spans.t1 spans.t2))
        (raised_after m.at Both (earlier spans.t1 spans.t2)
        (earlier_least (TellsT1 m asks) (TellsT2 m asks) spans.t1 spans.t2 are.1.0 are.1.1));
    t2_comes = λ some. raised_after m.at (TellsT2 m asks) spans.t2 are.1.1;
  }

  only_times : (spans : Option Spans6) → AreSpans (BringsSome m asks) (TellsT1 m asks) (TellsT2 m asks) spans → (t1 t2 : Option ℕ)
      → AreTimes m asks t1 t2 → (t1 ≡ t1_granted m spans) × (t2 ≡ t2_granted m spans)
  only_times None are t1 t2 times = times.stay are.0
  only_times (Some spans) are t1 t2 times =
      let own : AreTimes m asks (t1_granted m (Some spans)) (t2_granted m (Some spans)) = are_times (Some spans) are in (
        one_after m.at Both t1 (t1_granted m (Some spans)) (times.t1_comes are.0) (own.t1_comes are.0),
        one_after m.at (TellsT2 m asks) t2 (t2_granted m (Some spans)) (times.t2_comes are.0) (own.t2_comes are.0),
      )

pub times_are_told : TimesAreTold
times_are_told m asks = record {
  sound = are_times m asks (spans_granted m asks) (all_spans m asks);
  whole = only_times m asks (spans_granted m asks) (all_spans m asks);
}

-- ---- the lease

module _ (at : ℕ) (c : ClientContent) (message : Content6) (lease : Lease6Content) where
  abbrev spans : Option Spans6
  spans = spans_granted (meeting_of at c message) c.settings.asks

  is_lease : (l : Lease6Content) → Some l ≡ Some lease → l ≡ lease
  is_lease l e = cc

  of_lease : (server : List ℕ) → server_of message ≡ Some server → serves c.settings.asks message ≡ true → (l : Lease6Content)
      → Some l ≡ Some lease → l.server ≡ server → l.t1 ≡ t1_granted (meeting_of at c message) spans
      → l.t2 ≡ t2_granted (meeting_of at c message) spans → IsGranted at c message lease
  of_lease server is served l same server_is t1_is t2_is =
      let times : AreTimes (meeting_of at c message) c.settings.asks l.t1 l.t2 =
      subst (λ (t1 : Option ℕ). AreTimes (meeting_of at c message) c.settings.asks t1 l.t2) (sym t1_is)
      (subst (λ (t2 : Option ℕ). AreTimes (meeting_of at c message) c.settings.asks (t1_granted (meeting_of at c message) spans) t2)
      (sym t2_is) (times_are_told (meeting_of at c message) c.settings.asks).sound) in
      subst (λ (l : Lease6Content). IsGranted at c message l) (is_lease l same) (record {
        serves = (messages_serve c.settings.asks message).0 served;
        server = (servers_are_named message l.server).sound (is ∙ ap Some (sym server_is));
        times = times;
      })

  of_server : (told : Option (List ℕ)) → server_of message ≡ told → serves c.settings.asks message ≡ true
      → option_and_then (granted at c message) told ≡ Some lease → IsGranted at c message lease
  of_server None is served e = absurd cc
  of_server (Some server) is served e =
      gated (λ (o : Option Lease6Content). o ≡ Some lease → IsGranted at c message lease)
      (is_nonempty (ias_granted (meeting_of at c message) c.settings.asks)) _ None
      (λ same. of_lease server is served _ same refl refl refl) (λ none. absurd cc) e

  pub is_granted : fresh_in at c message ≡ Some lease → IsGranted at c message lease
  is_granted e =
      let step : fresh_in at c message ≡ Some lease → IsGranted at c message lease =
      split (is_taken c message)
      (λ t. rw t (of_server (server_of message) refl
      (and_parts (takes_replies (message.rapid && c.settings.site.rapid) c.state) (serves c.settings.asks message) t).1))
      (λ f. rw f (λ none. absurd cc)) in
      step e

pub leases_are_granted : LeasesAreGranted
leases_are_granted at c message lease e = is_granted at c message lease e
