-- What is kept of an item is told by what a turn says of it.
use Rattle.std.proofs.Common.{◌≡◌, ℕ, zero, suc, ◌+◌, ◌*◌, ◌<◌, ◌⊎◌, inl, inr, Bool, true, false, not, ◌&&◌, ◌||◌, List, [], ◌∷◌, length, get_or, refl, sym, ap, subst, ◌∙◌, nat_lt, arith}
use Rattle.std.specs.Prelude.{◌==◌, max, if◌then◌else◌}
use Rattle.std.specs.List.{Contains, list_any}
use Rattle.std.proofs.lemmas.Bool.{and_parts, and_from, eqb-true, eq-eqb, or_cases, or_left, or_right}
use Rattle.std.proofs.lemmas.Bool.Decides.{nat_tests}
use Rattle.net_types.specs.declared.address.Ip6.{Ip6}
use Rattle.net_types.specs.declared.address.Net6.{Net6}
use Rattle.v6_options.specs.declared.ia.IaKind.{IaKind}
use Rattle.v6_options.specs.declared.ia.IaKind.TheVariants.{Na, Pd}
use Rattle.v6_options.specs.declared.ia.ItemSaid.{ItemSaid}
use Rattle.v6_options.specs.Ias.{ias_in}
use Rattle.v6_message.specs.Replies.{Content6}
use Rattle.v6_client.specs.V6Items.declared.asks.IaAsk.{IaAsk}
use Rattle.v6_client.specs.V6Items.declared.times.TheConstants.{FOREVER, SECOND}
use Rattle.v6_client.specs.V6Items.Reading.{ia_for, is_unbound}
use Rattle.v6_client_laws.proofs.FirstItems.{behind_in, front_in}
use Rattle.v6_client_laws.proofs.Given.{bindings_are_known, items_are_given, met}
use Rattle.world.specs.declared.wakes.Event.{Event}
use Rattle.world.specs.declared.wakes.Event.TheVariants.{Frame, Carrier, Duplicate, Release, Rebind, Stop, Quiet, End}
use Rattle.lease6_evidence.specs.EvidenceWords.Inputs.{GoesOn}
use Rattle.lease6_evidence.specs.Ends6.{said_for}
use Rattle.lease6_evidence.specs.ItemBasis.{IsValid, Mentions, NotContested, Revises}
use Rattle.lease6_judge.specs.Terms.{Term, not_held, held_until, held_forever, gives, is_alone, is_held, is_same_net, longer, names, revises, stays, term_in_saids, term_of}

-- ---- values

same : (a b : ℕ) → (a == b) ≡ true → a ≡ b
same a b h = eqb-true a b h

alike : (a b : ℕ) → a ≡ b → (a == b) ≡ true
alike a b h = eq-eqb a b h

abbrev net_with : (number len : ℕ) → Net6
net_with number len = record { ip = record { number = number }; len = len }

net_of : (a b : ℕ) (k l : ℕ) → a ≡ b → k ≡ l → net_with a k ≡ net_with b l
net_of a b k l n m = ap (λ (x : ℕ). net_with x k) n ∙ ap (λ (x : ℕ). net_with b x) m

same_net : (one other : Net6) → is_same_net one other ≡ true → one ≡ other
same_net one other h =
    let parts = and_parts (one.ip.number == other.ip.number) (one.len == other.len) h in
    net_of one.ip.number other.ip.number one.len other.len (same one.ip.number other.ip.number parts.0) (same one.len other.len parts.1)

net_alike : (one other : Net6) → one ≡ other → is_same_net one other ≡ true
net_alike one other is =
    and_from (one.ip.number == other.ip.number) (one.len == other.len)
    (alike one.ip.number other.ip.number (ap (λ (n : Net6). n.ip.number) is)) (alike one.len other.len (ap (λ (n : Net6). n.len) is))

is_some : (n : ℕ) → nat_lt 0 n ≡ true → 0 < n
is_some n h = grind (arith, nat_tests)

some_is : (n : ℕ) → 0 < n → nat_lt 0 n ≡ true
some_is n h = grind (arith, nat_tests)

any_in : {X : Type 0} (test : X → Bool) (xs : List X) (x : X) (k : ℕ) → k < length xs → get_or xs k x ≡ x → test x ≡ true
    → list_any test xs ≡ true
any_in test [] x k less is t = absurd (omega (arith, less))
any_in test (y ∷ ys) x zero less is t = or_left (test y) (list_any test ys) (subst (λ z. test z ≡ true) (sym is) t)
any_in test (y ∷ ys) x (suc k) less is t =
    or_right (test y) (list_any test ys) (any_in test ys x k (omega (arith, less)) is t)

-- ---- terms

above_max : (a b now : ℕ) → nat_lt now (max a b) ≡ (nat_lt now a || nat_lt now b)
above_max a b now = grind (arith, nat_tests)

or_true : (b : Bool) → true ≡ (b || true)
or_true true = refl
or_true false = refl

or_false : (b : Bool) → b ≡ (b || false)
or_false true = refl
or_false false = refl

pub held_longer : (now : ℕ) (one other : Term) → is_held now (longer one other) ≡ (is_held now one || is_held now other)
held_longer now not_held other = refl
held_longer now held_forever other = refl
held_longer now (held_until end) not_held = or_false (nat_lt now end)
held_longer now (held_until end) held_forever = or_true (nat_lt now end)
held_longer now (held_until end) (held_until other) = above_max end other now

before_is : (now end : ℕ) → nat_lt now end ≡ true → now < end
before_is now end h = grind (arith, nat_tests)

is_before : (now end : ℕ) → now < end → nat_lt now end ≡ true
is_before now end h = grind (arith, nat_tests)

valid_by : (came valid now : ℕ) (b : Bool) → (valid == FOREVER) ≡ b
    → is_held now (if b then held_forever else held_until (came + SECOND * valid)) ≡ true → IsValid came valid now
valid_by came valid now true is h = inl (same valid FOREVER is)
valid_by came valid now false is h = inr (before_is now (came + SECOND * valid) h)

held_valid : (came valid now : ℕ) → is_held now (term_of came valid) ≡ true → IsValid came valid now
held_valid came valid now h = valid_by came valid now (valid == FOREVER) refl h

either_way : (b : Bool) (now end : ℕ) → nat_lt now end ≡ true → is_held now (if b then held_forever else held_until end) ≡ true
either_way true now end h = refl
either_way false now end h = h

valid_held : (came valid now : ℕ) → IsValid came valid now → is_held now (term_of came valid) ≡ true
valid_held came valid now (inl ever) =
    ap (λ (b : Bool). is_held now (if b then held_forever else held_until (came + SECOND * valid))) (alike valid FOREVER ever)
valid_held came valid now (inr less) =
    either_way (valid == FOREVER) now (came + SECOND * valid) (is_before now (came + SECOND * valid) less)

-- ---- what a Reply gives

pub record GivenIn (came : ℕ) (net : Net6) (now : ℕ) (saids : List ItemSaid) : Type 0 where
  pub said : ItemSaid
  pub among : Contains saids said
  pub item : said.net ≡ net
  pub some : 0 < said.valid
  pub valid : IsValid came said.valid now

module _ (came : ℕ) (net : Net6) (now : ℕ) where
  also : (said : ItemSaid) (saids : List ItemSaid) → GivenIn came net now saids → GivenIn came net now (said ∷ saids)
  also said saids g = record {
    said = g.said;
    among = behind_in said saids g.said g.among;
    item = g.item;
    some = g.some;
    valid = g.valid;
  }

  here : (said : ItemSaid) (saids : List ItemSaid) → gives net said ≡ true → is_held now (term_of came said.valid) ≡ true
      → GivenIn came net now (said ∷ saids)
  here said saids g h =
      let parts = and_parts (is_same_net said.net net) (nat_lt 0 said.valid) g in
      record {
        said = said;
        among = front_in said saids;
        item = same_net said.net net parts.0;
        some = is_some said.valid parts.1;
        valid = held_valid came said.valid now h;
      }

  pub given_in : (saids : List ItemSaid) → is_held now (term_in_saids came net saids) ≡ true → GivenIn came net now saids
  given_in [] h = absurd cc
  given_in (said ∷ saids) h = by (gives net said) refl (given_in saids) h
    where
      by : (b : Bool) → gives net said ≡ b → (is_held now (term_in_saids came net saids) ≡ true → GivenIn came net now saids)
          → is_held now (if b then longer (term_of came said.valid) (term_in_saids came net saids) else term_in_saids came net saids) ≡ true
          → GivenIn came net now (said ∷ saids)
      by false g more k = also said saids (more k)
      by true g more k =
          let either : (is_held now (term_of came said.valid) ≡ true) ⊎ (is_held now (term_in_saids came net saids) ≡ true) =
          or_cases (is_held now (term_of came said.valid)) (is_held now (term_in_saids came net saids))
          (sym (held_longer now (term_of came said.valid) (term_in_saids came net saids)) ∙ k) in
          elim either [
            | inl now_given ↦ here said saids g now_given
            | inr later ↦ also said saids (more later)
          ]

  with_more : (b : Bool) (one other : Term) → is_held now other ≡ true → is_held now (if b then longer one other else other) ≡ true
  with_more true one other h = held_longer now one other ∙ or_right (is_held now one) (is_held now other) h
  with_more false one other h = h

  held_in : (saids : List ItemSaid) (said : ItemSaid) (k : ℕ) → k < length saids → get_or saids k said ≡ said
      → gives net said ≡ true → is_held now (term_of came said.valid) ≡ true → is_held now (term_in_saids came net saids) ≡ true
  held_in [] said k less is g h = absurd (omega (arith, less))
  held_in (s ∷ saids) said zero less is g h =
      ap (λ (b : Bool). is_held now (if b then longer (term_of came s.valid) (term_in_saids came net saids) else term_in_saids came net saids))
      (subst (λ (x : ItemSaid). gives net x ≡ true) (sym is) g)
      ∙ held_longer now (term_of came s.valid) (term_in_saids came net saids)
      ∙ or_left (is_held now (term_of came s.valid)) (is_held now (term_in_saids came net saids))
      (subst (λ (x : ItemSaid). is_held now (term_of came x.valid) ≡ true) (sym is) h)
  held_in (s ∷ saids) said (suc k) less is g h =
      with_more (gives net s) (term_of came s.valid) (term_in_saids came net saids)
      (held_in saids said k (omega (arith, less)) is g h)

  pub in_given : (saids : List ItemSaid) → GivenIn came net now saids → is_held now (term_in_saids came net saids) ≡ true
  in_given saids g =
      held_in saids g.said g.among.0 g.among.1 g.among.2
      (and_from (is_same_net g.said.net net) (nat_lt 0 g.said.valid) (net_alike g.said.net net g.item) (some_is g.said.valid g.some))
      (valid_held came g.said.valid now g.valid)

-- ---- what revises an item

module _ (ask : IaAsk) (net : Net6) (message : Content6) where
  named_by : names net (said_for ask message) ≡ true → Mentions ask net message
  named_by h =
      let one = met (λ (said : ItemSaid). is_same_net said.net net) (said_for ask message) h in
      record {
        said = one.x;
        gives = (items_are_given ask (ias_in message.options) one.x).sound one.among;
        item = same_net one.x.net net one.passes;
      }

  pub said_among : (m : Mentions ask net message) → Contains (said_for ask message) m.said
  said_among m = (items_are_given ask (ias_in message.options) m.said).whole m.gives

  names_it : Mentions ask net message → names net (said_for ask message) ≡ true
  names_it m =
      let among = said_among m in
      any_in (λ (said : ItemSaid). is_same_net said.net net) (said_for ask message) m.said among.0 among.1 among.2
      (net_alike m.said.net net m.item)

  pub revised : revises ask net message ≡ true → Revises ask net message
  revised h = elim (or_cases (names net (said_for ask message)) (is_unbound (ia_for ask (ias_in message.options))) h) [
    | inl named ↦ inl (named_by named)
    | inr unbound ↦ inr ((bindings_are_known ask (ias_in message.options)).0 unbound)
  ]

  pub does_revise : Revises ask net message → revises ask net message ≡ true
  does_revise (inl m) = or_left (names net (said_for ask message)) (is_unbound (ia_for ask (ias_in message.options))) (names_it m)
  does_revise (inr none) =
      or_right (names net (said_for ask message)) (is_unbound (ia_for ask (ias_in message.options)))
      ((bindings_are_known ask (ias_in message.options)).1 none)

-- ---- inputs

not_lost : (here up now : Bool) → (not (here && up) || now) ≡ true → here ≡ true → up ≡ true → now ≡ true
not_lost true true now h is was = h
not_lost true false now h is was = absurd cc
not_lost false up now h is was = absurd cc

is_not_lost : (here up now : Bool) → (here ≡ true → up ≡ true → now ≡ true) → (not (here && up) || now) ≡ true
is_not_lost true true now h = h refl refl
is_not_lost true false now h = refl
is_not_lost false up now h = refl

isnt : (b : Bool) → not b ≡ true → b ≡ true → ⊥
isnt true h is = cc
isnt false h is = cc

is_not : (b : Bool) → (b ≡ true → ⊥) → not b ≡ true
is_not true h = absurd (h refl)
is_not false h = refl

pub goes : (up : Bool) (index : ℕ) (event : Event) → stays up index event ≡ true → GoesOn up index event
goes up index (Frame other len) h = tt
goes up index (Carrier other now) h = λ here was. not_lost (index == other) up now h (alike index other here) was
goes up index (Duplicate other addr) h = tt
goes up index (Release other) h = λ here. isnt (index == other) h (alike index other here)
goes up index (Rebind other) h = tt
goes up index Stop h = absurd cc
goes up index Quiet h = tt
goes up index End h = tt

pub does_go : (up : Bool) (index : ℕ) (event : Event) → GoesOn up index event → stays up index event ≡ true
does_go up index (Frame other len) h = refl
does_go up index (Carrier other now) h = is_not_lost (index == other) up now (λ here was. h (same index other here) was)
does_go up index (Duplicate other addr) h = refl
does_go up index (Release other) h = is_not (index == other) (λ here. h (same index other here))
does_go up index (Rebind other) h = refl
does_go up index Stop h = absurd h
does_go up index Quiet h = refl
does_go up index End h = refl

abbrev address : ℕ → Ip6
address number = record { number = number }

address_of : (a b : ℕ) → a ≡ b → address a ≡ address b
address_of a b e = ap (λ (x : ℕ). address x) e

both_are : (index other : ℕ) (addr ip : Ip6) → index ≡ other → addr ≡ ip → (index == other && addr.number == ip.number) ≡ true
both_are index other addr ip here is =
    and_from (index == other) (addr.number == ip.number) (alike index other here)
    (alike addr.number ip.number (ap (λ (x : Ip6). x.number) is))

are_both : (index other : ℕ) (addr ip : Ip6) → (index ≡ other → addr ≡ ip → ⊥) → (index == other && addr.number == ip.number) ≡ true → ⊥
are_both index other addr ip none h =
    let parts = and_parts (index == other) (addr.number == ip.number) h in
    none (same index other parts.0) (address_of addr.number ip.number (same addr.number ip.number parts.1))

pub alone : (index : ℕ) (kind : IaKind) (ip : Ip6) (event : Event) → is_alone index kind ip event ≡ true → NotContested index kind ip event
alone index Pd ip event h = tt
alone index Na ip (Frame other len) h = tt
alone index Na ip (Carrier other now) h = tt
alone index Na ip (Duplicate other addr) h =
    λ here is. isnt (index == other && addr.number == ip.number) h (both_are index other addr ip here is)
alone index Na ip (Release other) h = tt
alone index Na ip (Rebind other) h = tt
alone index Na ip Stop h = tt
alone index Na ip Quiet h = tt
alone index Na ip End h = tt

pub does_alone : (index : ℕ) (kind : IaKind) (ip : Ip6) (event : Event) → NotContested index kind ip event → is_alone index kind ip event ≡ true
does_alone index Pd ip event h = refl
does_alone index Na ip (Frame other len) h = refl
does_alone index Na ip (Carrier other now) h = refl
does_alone index Na ip (Duplicate other addr) h =
    is_not (index == other && addr.number == ip.number) (are_both index other addr ip (λ here is. h here is))
does_alone index Na ip (Release other) h = refl
does_alone index Na ip (Rebind other) h = refl
does_alone index Na ip Stop h = refl
does_alone index Na ip Quiet h = refl
does_alone index Na ip End h = refl
