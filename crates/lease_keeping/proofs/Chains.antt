-- Servers that answer in the very next turn.
use Rattle.std.proofs.Common.{◌≡◌, ℕ, ◌+◌, ◌<◌, ◌≤◌, ◌&&◌, ◌||◌, Bool, true, false, List, [], ◌∷◌, ◌++◌, Some, nat_le, refl, sym, ap, subst, ◌∙◌, arith}
use Rattle.std.specs.List.{list_any}
use Rattle.lease_text.specs.declared.lease.Terms4.{Terms4}
use Rattle.v4_client.specs.declared.states.Answer4.{Answer4}
use Rattle.v4_client.specs.declared.states.Answer4.TheVariants as answer
use Rattle.evidence_words.specs.Entries.{Entry}
use Rattle.evidence_words.specs.IfaceLives.{now_in}
use Rattle.evidence_words.specs.Inputs.{Site}
use Rattle.lease_evidence.specs.Exchanges.{Numbered, messages_at, seen_in}
use Rattle.lease_evidence.specs.LeaseBasis.{GoodAck, GoodNak}
use Rattle.lease_evidence.specs.Replies.{reply_at}
use Rattle.lease_progress.specs.Serving.{Answered, AnsweredBy, Serves, asks, grants, offers, seeks}

module _ (site : Site) (answered : Answered) (wait : ℕ) where
  -- what a turn asks the next one answers
  pub record IsNext (f e : Entry) (earlier : List Entry) : Type 0 where
    pub offered : (xid : ℕ) → list_any (seeks xid) (messages_at site e) ≡ true → (nat_le f.moment (e.moment + wait) && offers site xid f) ≡ true
    pub granted : (opened : Numbered) → (seen_in site (e ∷ earlier)).current ≡ Some opened
        → list_any (asks answered opened.exchange.xid) (messages_at site e) ≡ true
        → (nat_le f.moment (e.moment + wait) && grants site opened.exchange f) ≡ true

  abbrev pub Chain : Entry → List Entry → Type 0
  Chain f [] = Unit {0}
  Chain f (e ∷ earlier) = IsNext f e earlier × Chain e earlier

  or_left : (a b : Bool) → a ≡ true → (a || b) ≡ true
  or_left true b h = refl
  or_left false b h = absurd cc

  or_right : (a b : Bool) → b ≡ true → (a || b) ≡ true
  or_right true b h = refl
  or_right false b h = h

  abbrev head_of : Entry → List Entry → Entry
  head_of other [] = other
  head_of other (x ∷ xs) = x

  abbrev tail_of : List Entry → List Entry
  tail_of [] = []
  tail_of (x ∷ xs) = xs

  no_end : (later : List Entry) (e : Entry) (earlier : List Entry) → [] ≡ later ++ e ∷ earlier → ⊥
  no_end [] e earlier h = cc
  no_end (l ∷ later) e earlier h = cc

  -- the turn after it answers, whatever came then
  found : (f : Entry) (past : List Entry) → Chain f past → (g : Entry) (later : List Entry) (e : Entry) (earlier : List Entry)
      → f ∷ past ≡ (g ∷ later) ++ e ∷ earlier → (good : Entry → Bool) → ((h : Entry) → IsNext h e earlier → good h ≡ true)
      → list_any good (g ∷ later) ≡ true
  found f [] chain g later e earlier cut good next = absurd (no_end later e earlier (ap tail_of cut))
  found f (p ∷ ps) chain g [] e earlier cut good next =
      let first : f ≡ g = ap (head_of f) cut in
      let second : p ≡ e = ap (λ xs. head_of p (tail_of xs)) cut in
      let rest : ps ≡ earlier = ap (λ xs. tail_of (tail_of xs)) cut in
      or_left (good g) false (next g (subst (λ (x : Entry). IsNext x e earlier) first
      (subst (λ (x : Entry). IsNext f x earlier) second (subst (λ (xs : List Entry). IsNext f p xs) rest chain.0))))
  found f (p ∷ ps) chain g (l ∷ ls) e earlier cut good next =
      or_right (good g) (list_any good (l ∷ ls)) (found p ps chain.1 l ls e earlier (ap tail_of cut) good next)

  too_early : (at : ℕ) → 0 < wait → at + wait ≤ at → ⊥
  too_early at some h = absurd (omega (arith, some, h))

  pub chain_serves : 0 < wait → (f : Entry) (past : List Entry) → Chain f past → Serves site answered wait (f ∷ past)
  chain_serves some f past chain = record { offered = offered_so; granted = granted_so }
    where
      newest : (e : Entry) (earlier : List Entry) → f ∷ past ≡ e ∷ earlier → e.moment + wait ≤ f.moment → ⊥
      newest e earlier cut late =
          too_early e.moment some (subst (λ (x : Entry). e.moment + wait ≤ x.moment) (ap (head_of f) cut) late)

      offered_so : (later : List Entry) (e : Entry) (earlier : List Entry) (xid : ℕ) → f ∷ past ≡ later ++ e ∷ earlier → e.moment + wait ≤ now_in (f ∷ past)
          → list_any (seeks xid) (messages_at site e) ≡ true → AnsweredBy (e.moment + wait) (offers site xid) later
      offered_so [] e earlier xid cut late said = absurd (newest e earlier cut late)
      offered_so (g ∷ later) e earlier xid cut late said =
          found f past chain g later e earlier cut (λ x. nat_le x.moment (e.moment + wait) && offers site xid x) (λ h n. n.offered xid said)

      granted_so : (later : List Entry) (e : Entry) (earlier : List Entry) (opened : Numbered) → f ∷ past ≡ later ++ e ∷ earlier
          → e.moment + wait ≤ now_in (f ∷ past) → (seen_in site (e ∷ earlier)).current ≡ Some opened
          → list_any (asks answered opened.exchange.xid) (messages_at site e) ≡ true → AnsweredBy (e.moment + wait) (grants site opened.exchange) later
      granted_so [] e earlier opened cut late is said = absurd (newest e earlier cut late)
      granted_so (g ∷ later) e earlier opened cut late is said =
          found f past chain g later e earlier cut (λ x. nat_le x.moment (e.moment + wait) && grants site opened.exchange x) (λ h n. n.granted opened is said)

-- ---- what is said in the open exchange

module _ (site : Site) (e : Entry) (past : List Entry) (x : Numbered) (open_so : (seen_in site (e ∷ past)).current ≡ Some x) where
  same_open : (y : Numbered) → (seen_in site (e ∷ past)).current ≡ Some y → x ≡ y
  same_open y is = one_of x y (sym open_so ∙ is)
    where
      one_of : (a b : Numbered) → Some a ≡ Some b → a ≡ b
      one_of a b h = cc

  reply_of : (reply : Answer4) → reply_at site x.exchange e ≡ reply → (y : Numbered) → (seen_in site (e ∷ past)).current ≡ Some y
      → reply_at site y.exchange e ≡ reply
  reply_of reply is y open_y = subst (λ (z : Numbered). reply_at site z.exchange e ≡ reply) (same_open y open_y) is

  pub no_nak : (reply : Answer4) → reply_at site x.exchange e ≡ reply → (reply ≡ answer.Nak → ⊥) → (y : Numbered) → GoodNak site y e past → ⊥
  no_nak reply is unlike y nak = unlike (sym (reply_of reply is y nak.is_open) ∙ nak.refuses)

  pub each_ack : (P : Terms4 → Type 0) (reply : Answer4) → reply_at site x.exchange e ≡ reply → ((terms : Terms4) → reply ≡ answer.Ack terms → P terms)
      → (y : Numbered) (terms : Terms4) → GoodAck site y terms e past → P terms
  each_ack P reply is f y terms good = f terms (sym (reply_of reply is y good.is_open) ∙ good.grants)

  -- an ACK gives these terms alone
  pub one_ack : (P : Terms4 → Type 0) (granted : Terms4) → reply_at site x.exchange e ≡ answer.Ack granted → P granted
      → (y : Numbered) (terms : Terms4) → GoodAck site y terms e past → P terms
  one_ack P granted is h y terms good = each_ack P (answer.Ack granted) is (λ t same. subst P (one_of granted t same) h) y terms good
    where
      one_of : (a b : Terms4) → answer.Ack a ≡ answer.Ack b → a ≡ b
      one_of a b e = cc
