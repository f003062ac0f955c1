-- Causes after calls that were done.
use Rattle.std.proofs.Common.{ℕ, ◌≡◌, ◌≤◌, Result, Ok, Err, IfErr, sym, ap, subst, arith}
use Rattle.std.specs.Prelude.{IsErrAnd}
use Rattle.daemon.specs.declared.serving.ServeEnd.{ServeEnd}
use Rattle.daemon.specs.declared.serving.ServeEnd.TheVariants as ends
use Rattle.daemon.specs.Serving.{HasServeCause, HasLifeCause}

pub cause_after : (end : ServeEnd) (a b d p q r : ℕ) → a ≤ b → p ≤ q → HasServeCause end b d q r → HasLifeCause end a d p r
cause_after ends.End a b d p q r ab pq h = absurd h
cause_after ends.TurnsOver a b d p q r ab pq h = absurd h
cause_after ends.LinkFault a b d p q r ab pq h = (omega (arith, h.0), omega (arith, h.1))
cause_after ends.WriteFault a b d p q r ab pq h = (omega (arith, h.0), omega (arith, h.1))
cause_after ends.NoMemory a b d p q r ab pq h = (omega (arith, h.0), omega (arith, h.1))

pub life_cause_after : (end : ServeEnd) (a b d p q r : ℕ) → a ≤ b → p ≤ q → HasLifeCause end b d q r → HasLifeCause end a d p r
life_cause_after ends.End a b d p q r ab pq h = absurd h
life_cause_after ends.TurnsOver a b d p q r ab pq h = (omega (arith, h.0), omega (arith, h.1))
life_cause_after ends.LinkFault a b d p q r ab pq h = (omega (arith, h.0), omega (arith, h.1))
life_cause_after ends.WriteFault a b d p q r ab pq h = (omega (arith, h.0), omega (arith, h.1))
life_cause_after ends.NoMemory a b d p q r ab pq h = (omega (arith, h.0), omega (arith, h.1))

pub not_turns_over : (end : ServeEnd) (a b p q : ℕ) → HasServeCause end a b p q → end ≡ ends.TurnsOver → ⊥
not_turns_over ends.End a b p q h e = h
not_turns_over ends.TurnsOver a b p q h e = h
not_turns_over ends.LinkFault a b p q h e = absurd cc
not_turns_over ends.WriteFault a b p q h e = absurd cc
not_turns_over ends.NoMemory a b p q h e = absurd cc

-- what holds of the error that `?` hands on
pub error_is : {A E : Type 0} (r : Result A E) (error : E) (P : E → Type 0) → IsErrAnd r (λ e. e ≡ error) → P error → IfErr r P
error_is (Ok a) error P is p = tt
error_is (Err e) error P is p = subst P (sym is) p

abbrev pub failed : {B E : Type 0} → E → Result B E
failed e = Err e

-- the error that `?` handed on is the one that came
pub error_was : {A B E : Type 0} (r : Result A E) (error other : E) → IsErrAnd r (λ e. e ≡ error) → r ≡ Err other
    → failed {B = B} {E = E} error ≡ failed {B = B} {E = E} other
error_was {A} {B} {E} r error other is same = ap (λ (e : E). failed {B = B} {E = E} e) (sym (subst (λ (x : Result A E). IsErrAnd x (λ e. e ≡ error)) same is))

-- writing failed, or memory was wanted, after waits that didn't fail
pub cause_beside : (end : ServeEnd) (a b p q : ℕ) → p ≤ q → HasServeCause end a b 0 0 → HasServeCause end a b p q
cause_beside ends.End a b p q pq h = absurd h
cause_beside ends.TurnsOver a b p q pq h = absurd h
cause_beside ends.LinkFault a b p q pq h = absurd (omega (arith, h.1))
cause_beside ends.WriteFault a b p q pq h = (h.0, pq)
cause_beside ends.NoMemory a b p q pq h = (h.0, pq)
