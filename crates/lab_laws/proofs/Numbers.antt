-- Where no number of a client comes again, a REQUEST that opens an exchange is the first one with its number.
use Rattle.std.proofs.Common.{◌≡◌, ℕ, inl, inr, Bool, true, false, not, ◌&&◌, ◌||◌, List, [], ◌∷◌, Some, None, refl, sym, subst, ◌∙◌, arith, if◌then◌else◌}
use Rattle.std.specs.Prelude.{◌==◌}
use Rattle.std.proofs.lemmas.Bool.Decides.{nat_tests}
use Rattle.v4_message.specs.declared.writing.Kind4.{Kind4}
use Rattle.v4_message.specs.declared.writing.Kind4.TheVariants.{Discover, Request}
use Rattle.v4_message.specs.declared.writing.Said4.{Said4}
use Rattle.lab_model.specs.Exchanges.{is_release, is_number}
use Rattle.lab_laws.specs.Messages.{MayCome, MayFollow, FollowEach}
use Rattle.lab_laws.specs.Numbers.{begins_one, numbers, has_number, are_unlike, NoRequest, IsFirst, RequestsAreFirst}

equal : (a b : ℕ) → a ≡ b → (a == b) ≡ true
equal a b e = grind (arith, nat_tests)

same : (a b : ℕ) → (a == b) ≡ true → a ≡ b
same a b e = grind (arith, nat_tests)

both : (a b : Bool) → (not a && b) ≡ true → (a ≡ false) × (b ≡ true)
both false b h = (refl, h)
both true b h = absurd cc

or_first : (a b : Bool) → (a || b) ≡ false → (a ≡ false) × (b ≡ false)
or_first false b h = (refl, h)
or_first true b h = absurd cc

pub unlike_rest : (said : Said4) (past : List Said4) → are_unlike (numbers (said ∷ past)) ≡ true → are_unlike (numbers past) ≡ true
unlike_rest said past h = by (begins_one said past) h
  where
    by : (b : Bool) → are_unlike (if b then said.xid ∷ numbers past else numbers past) ≡ true → are_unlike (numbers past) ≡ true
    by true h = (both (has_number said.xid (numbers past)) (are_unlike (numbers past)) h).1
    by false h = h

-- no message with a number is among these
abbrev pub NoneWith : ℕ → List Said4 → Type 0
NoneWith xid [] = Unit {0}
NoneWith xid (said ∷ past) = (said.xid ≡ xid → ⊥) × NoneWith xid past

no_request : (xid : ℕ) (past : List Said4) → NoneWith xid past → NoRequest xid past
no_request xid [] h = tt
no_request xid (said ∷ past) h = (λ k e. h.0 e, no_request xid past h.1)

-- it goes on with the exchange of the message before
abbrev LastSame : Said4 → List Said4 → Type 0
LastSame said [] = ⊥
LastSame said (last ∷ past) = last.xid ≡ said.xid

last_same : (said : Said4) (past : List Said4) → begins_one said past ≡ false → LastSame said past
last_same said [] h = absurd (never (is_release said.kind) h)
  where
    never : (b : Bool) → (b || true) ≡ false → ⊥
    never true h = cc
    never false h = cc
last_same said (last ∷ past) h = by (is_release said.kind) (is_release last.kind) h
  where
    number_is : (b : Bool) → not b ≡ false → b ≡ true
    number_is true h = refl
    number_is false h = absurd cc

    by : (mine theirs : Bool) → (mine || not (is_number said.xid (if theirs then None else Some last.xid))) ≡ false → last.xid ≡ said.xid
    by true theirs h = absurd cc
    by false true h = absurd cc
    by false false h = same last.xid said.xid (number_is (last.xid == said.xid) h)

goes_on : (xid : ℕ) (said : Said4) (past : List Said4) → LastSame said past → NoneWith xid past → said.xid ≡ xid → ⊥
goes_on xid said [] last none e = last
goes_on xid said (m ∷ past) last none e = none.0 (last ∙ e)

-- a number that no exchange has is that of no message
pub none_with : (xid : ℕ) (past : List Said4) → has_number xid (numbers past) ≡ false → NoneWith xid past
none_with xid [] h = tt
none_with xid (said ∷ past) h = by (none_with xid past) (begins_one said past) refl h
  where
    other : (a b : ℕ) → (a == b) ≡ false → b ≡ a → ⊥
    other a b n e = grind (arith, nat_tests)

    by : (has_number xid (numbers past) ≡ false → NoneWith xid past) → (b : Bool) → begins_one said past ≡ b
        → has_number xid (if b then said.xid ∷ numbers past else numbers past) ≡ false → NoneWith xid (said ∷ past)
    by rest true is h =
        let parts = or_first (xid == said.xid) (has_number xid (numbers past)) h in
        (other xid said.xid parts.0, rest parts.1)
    by rest false is h = (goes_on xid said past (last_same said past is) (rest h), rest h)

-- ---- a DISCOVER with the number of the message before follows DISCOVERs alone

abbrev StartsClean : List Said4 → Type 0
StartsClean [] = Unit {0}
StartsClean (said ∷ past) = said.kind ≡ Discover → NoRequest said.xid past

after_discover : (said : Said4) (past : List Said4) → said.kind ≡ Discover → MayFollow said past → LastSame said past → StartsClean past
    → NoRequest said.xid past
after_discover said [] k may last clean = tt
after_discover said (m ∷ past) k may last clean =
    let is : m.kind ≡ Discover = subst (λ (kind : Kind4). MayCome kind m.kind) k (may last) in
    (λ request e. unlike_kinds (sym is ∙ request), subst (λ (xid : ℕ). NoRequest xid past) last (clean is))
  where
    unlike_kinds : Discover ≡ Request → ⊥
    unlike_kinds e = cc

fresh_number : (said : Said4) (past : List Said4) → are_unlike (said.xid ∷ numbers past) ≡ true → NoneWith said.xid past
fresh_number said past h = none_with said.xid past (both (has_number said.xid (numbers past)) (are_unlike (numbers past)) h).0

pub starts_clean : (past : List Said4) → FollowEach past → are_unlike (numbers past) ≡ true → StartsClean past
starts_clean [] each unlike = tt
starts_clean (said ∷ past) each unlike = by (starts_clean past each.1 (unlike_rest said past unlike)) (begins_one said past) refl unlike
  where
    by : StartsClean past → (b : Bool) → begins_one said past ≡ b → are_unlike (if b then said.xid ∷ numbers past else numbers past) ≡ true
        → said.kind ≡ Discover → NoRequest said.xid past
    by clean true is h k = no_request said.xid past (fresh_number said past h)
    by clean false is h k = after_discover said past k each.0 (last_same said past is) clean

-- ---- a REQUEST that goes on with no other REQUEST

after_last : (said : Said4) (past : List Said4) → said.kind ≡ Request → MayFollow said past → LastSame said past → IsFirst said past → StartsClean past
    → NoRequest said.xid past
after_last said [] k may last first clean = tt
after_last said (m ∷ past) k may last first clean =
    elim (subst (λ (kind : Kind4). MayCome kind m.kind) k (may last)) [
      | inl is ↦ (λ request e. unlike_kinds (sym is ∙ request), subst (λ (xid : ℕ). NoRequest xid past) last (clean is))
      | inr is ↦ absurd (first is last)
    ]
  where
    unlike_kinds : Discover ≡ Request → ⊥
    unlike_kinds e = cc

pub first_request : RequestsAreFirst
first_request said past k each unlike first = by (begins_one said past) refl unlike
  where
    by : (b : Bool) → begins_one said past ≡ b → are_unlike (if b then said.xid ∷ numbers past else numbers past) ≡ true → NoRequest said.xid past
    by true is h = no_request said.xid past (fresh_number said past h)
    by false is h = after_last said past k each.0 (last_same said past is) first (starts_clean past each.1 (unlike_rest said past unlike))
