-- A REQUEST that was said and isn't answered yet: servers that answer in time leave it so for less than that time.
use Rattle.std.proofs.Common.{◌≡◌, ℕ, ◌+◌, ◌<◌, ◌≤◌, Bool, true, false, ◌&&◌, ◌||◌, List, [], ◌∷◌, ◌++◌, Some, nat_le, refl, sym, ap, subst, ◌∙◌, arith}
use Rattle.std.proofs.lemmas.Bool.Decides.{nat_tests}
use Rattle.std.specs.List.{list_any}
use Rattle.net_types.proofs.CaseLaws.{split}
use Rattle.v4_client.specs.declared.states.Exchange4.{Exchange4}
use Rattle.evidence_words.specs.Entries.{Entry}
use Rattle.evidence_words.specs.Inputs.{Site}
use Rattle.lease_evidence.specs.Exchanges.{Numbered, messages_at, seen_in}
use Rattle.lease_progress.specs.Serving.{Answered, Serves, asks, grants}

-- In some turn such a REQUEST opened the exchange, and no acceptable ACK came in it since then.
pub record AskedIn (site : Site) (answered : Answered) (exchange : Exchange4) (past : List Entry) : Type 0 where
  pub later : List Entry
  pub e : Entry
  pub earlier : List Entry
  pub cut : past ≡ later ++ e ∷ earlier
  pub opened : Numbered
  pub open_so : (seen_in site (e ∷ earlier)).current ≡ Some opened
  pub same : opened.exchange ≡ exchange
  pub said : list_any (asks answered opened.exchange.xid) (messages_at site e) ≡ true
  pub when : e.moment ≡ exchange.first
  pub unanswered : list_any (grants site opened.exchange) later ≡ false

none_in_time : (end : ℕ) (good : Entry → Bool) (turns : List Entry) → list_any good turns ≡ false
    → list_any (λ e. nat_le e.moment end && good e) turns ≡ false
none_in_time end good [] none = refl
none_in_time end good (e ∷ turns) none =
    both (nat_le e.moment end) (good e) (list_any good turns) (list_any (λ e. nat_le e.moment end && good e) turns) none (none_in_time end good turns)
  where
    both : (early here more soon : Bool) → (here || more) ≡ false → (more ≡ false → soon ≡ false) → ((early && here) || soon) ≡ false
    both early true more soon h rest = absurd cc
    both true false more soon h rest = rest h
    both false false more soon h rest = rest h

first_of : (a b : Bool) → b ≡ false → (a || b) ≡ true → a ≡ true
first_of true b none h = refl
first_of false b none h = absurd (let bad : false ≡ true = sym none ∙ h in cc)

left_of : (a b : Bool) → (a && b) ≡ true → a ≡ true
left_of true b h = refl
left_of false b h = absurd cc

right_of : (a b : Bool) → (a && b) ≡ true → b ≡ true
right_of true b h = h
right_of false b h = absurd cc

within : (at end : ℕ) → nat_le at end ≡ true → at ≤ end
within at end h = grind (arith, nat_tests)

not_le : (at end : ℕ) → nat_le end at ≡ false → at < end
not_le at end h = grind (arith, nat_tests)

is_le : (end at : ℕ) → nat_le end at ≡ true → end ≤ at
is_le end at h = grind (arith, nat_tests)

module _ (site : Site) (answered : Answered) (wait : ℕ) (exchange : Exchange4) (past : List Entry) (asked : AskedIn site answered exchange past) (f : Entry)
    (served : Serves site answered wait (f ∷ past)) where
  -- once the time has come this turn is the answer
  answered_now : exchange.first + wait ≤ f.moment → (nat_le f.moment (exchange.first + wait) && grants site exchange f) ≡ true
  answered_now late =
      let come : asked.e.moment + wait ≤ f.moment = subst (λ (at : ℕ). at + wait ≤ f.moment) (sym asked.when) late in
      let so : (nat_le f.moment (asked.e.moment + wait) && grants site asked.opened.exchange f) ≡ true =
      first_of _ _ (none_in_time (asked.e.moment + wait) (grants site asked.opened.exchange) asked.later asked.unanswered)
      (served.granted (f ∷ asked.later) asked.e asked.earlier asked.opened (ap (λ (turns : List Entry). f ∷ turns) asked.cut) come asked.open_so asked.said) in
      subst (λ (x : Exchange4). (nat_le f.moment (exchange.first + wait) && grants site x f) ≡ true) asked.same
      (subst (λ (at : ℕ). (nat_le f.moment (at + wait) && grants site asked.opened.exchange f) ≡ true) asked.when so)

  -- a turn comes by then
  pub by_then : f.moment ≤ exchange.first + wait
  by_then =
      split (nat_le (exchange.first + wait) f.moment)
      (λ late. within f.moment (exchange.first + wait) (left_of _ _ (answered_now (is_le (exchange.first + wait) f.moment late))))
      (λ early. soon f.moment (exchange.first + wait) (not_le f.moment (exchange.first + wait) early))
    where
      soon : (a b : ℕ) → a < b → a ≤ b
      soon a b h = omega (arith, h)

  -- one that is no answer leaves it as it is
  pub still_asked : grants site exchange f ≡ false → AskedIn site answered exchange (f ∷ past)
  still_asked none = record {
    later = f ∷ asked.later;
    e = asked.e;
    earlier = asked.earlier;
    cut = ap (λ (turns : List Entry). f ∷ turns) asked.cut;
    opened = asked.opened;
    open_so = asked.open_so;
    same = asked.same;
    said = asked.said;
    when = asked.when;
    unanswered = subst (λ (here : Bool). (here || list_any (grants site asked.opened.exchange) asked.later) ≡ false)
        (sym (ap (λ (x : Exchange4). grants site x f) asked.same ∙ none)) asked.unanswered;
  }
