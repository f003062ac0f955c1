-- Exchanges that were seen, one after another.
use Rattle.std.proofs.Common.{◌≡◌, ℕ, zero, suc, Bool, true, false, cond, not, ◌&&◌, ◌||◌, eqb, List, [], ◌∷◌, replicate, get_or, refl, sym, ap, ◌∙◌}
use Rattle.std.specs.List.{list_any}
use Rattle.std.proofs.lemmas.Bool.{eqb-true, eqb-false}
use Rattle.std.specs.declared.cmp.Ordering.{Ordering}
use Rattle.std.specs.BTreeMap.{is_at}
use Rattle.std.specs.BTreeSet.{contains}
use Rattle.lab_model.specs.declared.exchange.Exchange.{Exchange}
use Rattle.lab_model.specs.Exchanges.{all_unlike, is_same}
use Rattle.lab_text.specs.declared.exchanges.Seen.{Seen}
use Rattle.lab_text.specs.Noting.{Sees, are_unlike}

pub none_at : {X : Type 0} (none : X) (count i : ℕ) → get_or (replicate count none) i none ≡ none
none_at none zero i = refl
none_at none (suc count) zero = refl
none_at none (suc count) (suc i) = none_at none count i

eqb_symm : (a b : ℕ) → eqb a b ≡ eqb b a
eqb_symm a b = by (eqb a b) refl (eqb b a) refl
  where
    by : (p : Bool) → eqb a b ≡ p → (q : Bool) → eqb b a ≡ q → eqb a b ≡ eqb b a
    by true e true f = e ∙ sym f
    by false e false f = e ∙ sym f
    by true e false f = absurd (eqb-false b a f (sym (eqb-true a b e)))
    by false e true f = absurd (eqb-false a b e (sym (eqb-true b a f)))

same_symm : (a b : Exchange) → is_same a b ≡ is_same b a
same_symm a b = ap (λ x. x && eqb a.xid b.xid) (eqb_symm a.iface b.iface) ∙ ap (λ x. eqb b.iface a.iface && x) (eqb_symm a.xid b.xid)

either : (a b : Bool) → cond a true b ≡ (a || b)
either true b = refl
either false b = refl

fresh : (a b : Bool) → a ≡ false → (not a && b) ≡ b
fresh true b e = cc
fresh false b e = refl

-- the order of the set tells exchanges apart as they are
abbrev pub TellsApart : (Exchange → Exchange → Ordering) → Type 0
TellsApart cmp = (a b : Exchange) → is_at (cmp a) b ≡ is_same a b

has_same : (cmp : Exchange → Exchange → Ordering) → TellsApart cmp → (keys : List Exchange) (q : Exchange)
    → list_any (is_at (cmp q)) keys ≡ list_any (is_same q) keys
has_same cmp tells [] q = refl
has_same cmp tells (key ∷ keys) q = ap (λ b. b || list_any (is_at (cmp q)) keys) (tells q key) ∙ ap (λ b. is_same q key || b) (has_same cmp tells keys q)

pub sees_new : (cmp : Exchange → Exchange → Ordering) → TellsApart cmp → (old new : Seen) (exchange : Exchange) → contains cmp old.keys exchange ≡ false
    → ((q : Exchange) → contains cmp new.keys q ≡ cond (is_at (cmp exchange) q) true (contains cmp old.keys q)) → new.xids ≡ old.xids → Sees exchange old new
sees_new cmp tells old new exchange lacks updates same = λ those saw. record {
  has = λ q.
      sym (has_same cmp tells new.keys.keys q) ∙ updates q ∙ either (is_at (cmp exchange) q) (contains cmp old.keys q)
      ∙ ap (λ b. b || contains cmp old.keys q) (tells exchange q ∙ same_symm exchange q)
      ∙ ap (λ b. is_same q exchange || b) (has_same cmp tells old.keys.keys q ∙ saw.has q);
  unlike =
      ap are_unlike same ∙ saw.unlike
      ∙ sym (fresh (list_any (is_same exchange) those) (all_unlike those) (sym (saw.has exchange) ∙ sym (has_same cmp tells old.keys.keys exchange) ∙ lacks));
}
