-- The exchanges of one interface among those of all.
use Rattle.std.proofs.Common.{◌≡◌, ℕ, Bool, true, false, not, ◌&&◌, ◌||◌, List, [], ◌∷◌, refl, sym, ap, ap₂, subst, ◌∙◌, arith, if◌then◌else◌}
use Rattle.std.specs.Prelude.{◌==◌}
use Rattle.std.specs.List.{list_any}
use Rattle.std.proofs.lemmas.Bool.Decides.{nat_tests}
use Rattle.v4_message.specs.declared.writing.Said4.{Said4}
use Rattle.lab_model.specs.declared.exchange.Exchange.{Exchange}
use Rattle.lab_model.specs.Exchanges.{Message, begins, exchange_of, exchanges, goes_on_by, is_number, is_release, is_same, all_unlike, open_number}
use Rattle.lab_laws.specs.Numbers.{begins_one, numbers, has_number, are_unlike, open_after}

-- the messages of one interface
abbrev pub messages_on : (iface : ℕ) → List Message → List Said4
messages_on iface [] = []
messages_on iface (message ∷ past) = if message.iface == iface then message.said ∷ messages_on iface past else messages_on iface past

-- the numbers of its exchanges
abbrev pub numbers_on : (iface : ℕ) → List Exchange → List ℕ
numbers_on iface [] = []
numbers_on iface (exchange ∷ others) = if exchange.iface == iface then exchange.xid ∷ numbers_on iface others else numbers_on iface others

same : (a b : ℕ) → (a == b) ≡ true → a ≡ b
same a b e = grind (arith, nat_tests)

equal : (a b : ℕ) → a ≡ b → (b == a) ≡ true
equal a b e = grind (arith, nat_tests)

-- ---- what is said

module _ (iface : ℕ) where
  open_is : (past : List Message) → open_number iface past ≡ open_after (messages_on iface past)
  open_is [] = refl
  open_is (message ∷ past) = by (message.iface == iface) (open_is past)
    where
      by : (on : Bool) → open_number iface past ≡ open_after (messages_on iface past)
          → (if on then goes_on_by message.said else open_number iface past) ≡ open_after
          (if on then message.said ∷ messages_on iface past else messages_on iface past)
      by true e = refl
      by false e = e

  begins_is : (message : Message) (past : List Message) → message.iface ≡ iface → begins message past ≡ begins_one message.said (messages_on iface past)
  begins_is message past on =
      ap (λ number. is_release message.said.kind || not (is_number message.said.xid number)) (ap (λ (i : ℕ). open_number i past) on ∙ open_is past)

  -- one more, in each case
  more_number : (message : Message) (others : List Exchange) (begun : Bool)
      → numbers_on iface (if begun then exchange_of message ∷ others else others)
      ≡ (if begun then (if message.iface == iface then message.said.xid ∷ numbers_on iface others else numbers_on iface others) else numbers_on iface others)
  more_number message others true = refl
  more_number message others false = refl

  more_said : (said : Said4) (past : List Said4) (on : Bool)
      → numbers (if on then said ∷ past else past) ≡ (if on then (if begins_one said past then said.xid ∷ numbers past else numbers past) else numbers past)
  more_said said past true = refl
  more_said said past false = refl

  one_way : (xid : ℕ) (on begun one : Bool) (others mine : List ℕ) → (on ≡ true → begun ≡ one) → others ≡ mine
      → (if begun then (if on then xid ∷ others else others) else others) ≡ (if on then (if one then xid ∷ mine else mine) else mine)
  one_way xid true begun one others mine as_one e = ap₂ (λ (b : Bool) (xids : List ℕ). if b then xid ∷ xids else xids) (as_one refl) e
  one_way xid false true one others mine as_one e = e
  one_way xid false false one others mine as_one e = e

  pub numbers_are : (past : List Message) → numbers_on iface (exchanges past) ≡ numbers (messages_on iface past)
  numbers_are [] = refl
  numbers_are (message ∷ past) =
      more_number message (exchanges past) (begins message past)
      ∙ one_way message.said.xid (message.iface == iface) (begins message past) (begins_one message.said (messages_on iface past))
      (numbers_on iface (exchanges past))
      (numbers (messages_on iface past)) (λ on. begins_is message past (same message.iface iface on)) (numbers_are past)
      ∙ sym (more_said message.said (messages_on iface past) (message.iface == iface))

-- ---- unlike numbers

either : (a b : Bool) → (a || b) ≡ false → (a ≡ false) × (b ≡ false)
either true b h = absurd cc
either false b h = (refl, h)

both : (a b : Bool) → (not a && b) ≡ true → (a ≡ false) × (b ≡ true)
both true b h = absurd cc
both false b h = (refl, h)

and_both : (a b : Bool) → a ≡ false → b ≡ true → (not a && b) ≡ true
and_both a b none more = rw (none, more) refl

second : (a b : Bool) → a ≡ true → (a && b) ≡ false → b ≡ false
second true b is h = h
second false b is h = absurd cc

or_none : (a b : Bool) → a ≡ false → b ≡ false → (a || b) ≡ false
or_none a b none more = rw (none, more) refl

module _ (iface : ℕ) where
  lacks : (xid : ℕ) (others : List Exchange) → list_any (is_same (record { iface = iface; xid = xid })) others ≡ false
      → has_number xid (numbers_on iface others) ≡ false
  lacks xid [] h = refl
  lacks xid (other ∷ others) h =
      let parts = either (is_same (record { iface = iface; xid = xid }) other) (list_any (is_same (record { iface = iface; xid = xid })) others) h in
      by (other.iface == iface) refl parts.0 (lacks xid others parts.1)
    where
      by : (on : Bool) → (other.iface == iface) ≡ on → is_same (record { iface = iface; xid = xid }) other ≡ false
          → has_number xid (numbers_on iface others) ≡ false
          → has_number xid (if on then other.xid ∷ numbers_on iface others else numbers_on iface others) ≡ false
      by true is unlike rest =
          or_none (xid == other.xid) (has_number xid (numbers_on iface others))
          (second (iface == other.iface) (xid == other.xid) (equal other.iface iface (same other.iface iface is)) unlike) rest
      by false is unlike rest = rest

  pub unlike_on : (those : List Exchange) → all_unlike those ≡ true → are_unlike (numbers_on iface those) ≡ true
  unlike_on [] h = refl
  unlike_on (exchange ∷ others) h =
      let parts = both (list_any (is_same exchange) others) (all_unlike others) h in
      by (exchange.iface == iface) refl parts.0 (unlike_on others parts.1)
    where
      by : (on : Bool) → (exchange.iface == iface) ≡ on → list_any (is_same exchange) others ≡ false → are_unlike (numbers_on iface others) ≡ true
          → are_unlike (if on then exchange.xid ∷ numbers_on iface others else numbers_on iface others) ≡ true
      by true is none rest =
          and_both (has_number exchange.xid (numbers_on iface others)) (are_unlike (numbers_on iface others))
          (lacks exchange.xid others
          (subst (λ (i : ℕ). list_any (is_same (record { iface = i; xid = exchange.xid })) others ≡ false) (same exchange.iface iface is) none)) rest
      by false is none rest = rest

-- the messages of an interface have unlike numbers where all exchanges have
pub each_unlike : (iface : ℕ) (past : List Message) → all_unlike (exchanges past) ≡ true → are_unlike (numbers (messages_on iface past)) ≡ true
each_unlike iface past h =
    subst (λ (xids : List ℕ). are_unlike xids ≡ true) (numbers_are iface past) (unlike_on iface (exchanges past) h)
