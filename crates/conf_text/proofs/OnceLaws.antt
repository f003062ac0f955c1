-- Identity associations of which each stands once.
use Rattle.std.proofs.Common.{◌≡◌, ◌≢◌, ℕ, Bool, true, false, not, ◌&&◌, ◌||◌, ◌==◌, cond, List, [], ◌∷◌, ◌++◌, refl, sym, ap, ◌∙◌}
use Rattle.std.specs.List.{filter, list_any}
use Rattle.std.proofs.lemmas.Bool.{true≢false, eqb-true, and_parts}
use Rattle.std.proofs.lemmas.List.{append-nil}
use Rattle.std.proofs.lemmas.List.Elements.{filter-append}
use Rattle.v6_options.specs.declared.ia.IaKind.{IaKind}
use Rattle.v6_options.specs.declared.ia.IaKind.TheVariants.{Na, Pd}
use Rattle.settings.specs.declared.dhcp6_conf.IaConf.{IaConf}
use Rattle.settings.specs.Dhcp6Settings.{conf_key}
use Rattle.conf_text.specs.Associations.{Association, associations, each_once, is_same_ia}
use Rattle.conf_scopes.specs.Limits.{is_same_kind}
use Rattle.conf_text.specs.AssociationSteps.{once_more}

-- ---- those that are the same

kinds_same : (one other : IaKind) → is_same_kind one other ≡ true → one ≡ other
kinds_same Na Na e = refl
kinds_same Na Pd e = absurd (true≢false (sym e))
kinds_same Pd Na e = absurd (true≢false (sym e))
kinds_same Pd Pd e = refl

-- which others one is the same as is told by its kind and its IAID
pub by_key : (first one other : IaConf) → conf_key one ≡ conf_key other → is_same_ia first one ≡ is_same_ia first other
by_key first one other e = ap (λ (key : IaKind × ℕ). is_same_kind first.kind key.0 && first.iaid == key.1) e

keys_same : (one other : IaConf) → is_same_ia one other ≡ true → conf_key one ≡ conf_key other
keys_same one other e =
    let parts = and_parts (is_same_kind one.kind other.kind) _ e in
    ap (λ (kind : IaKind). (kind, one.iaid)) (kinds_same one.kind other.kind parts.0)
    ∙ ap (λ (iaid : ℕ). (other.kind, iaid)) (eqb-true one.iaid other.iaid parts.1)

abbrev pub ia_in : Association → IaConf
ia_in one = one.ia

-- ---- one more

-- one that isn't the same as the first is the same as another exactly if it is so as one of those that differ from the first
still_among : (first last : Association) → is_same_ia first.ia last.ia ≡ false → (ias : List Association)
    → list_any (λ one. is_same_ia one.ia last.ia) (filter (λ other. not (is_same_ia first.ia other.ia)) ias) ≡ list_any (λ one. is_same_ia one.ia last.ia) ias
still_among first last apart [] = refl
still_among first last apart (ia ∷ ias) = by (is_same_ia first.ia ia.ia) refl (still_among first last apart ias)
  where
    later : List Association
    later = filter (λ other. not (is_same_ia first.ia other.ia)) ias

    unlike : (b : Bool) → is_same_ia ia.ia last.ia ≡ b → is_same_ia first.ia ia.ia ≡ true → is_same_ia ia.ia last.ia ≡ false
    unlike true same e = absurd (true≢false (sym e ∙ by_key first.ia ia.ia last.ia (keys_same ia.ia last.ia same) ∙ apart))
    unlike false same e = same

    by : (b : Bool) → is_same_ia first.ia ia.ia ≡ b → list_any (λ one. is_same_ia one.ia last.ia) later ≡ list_any (λ one. is_same_ia one.ia last.ia) ias
        → list_any (λ one. is_same_ia one.ia last.ia) (cond (not b) (ia ∷ later) later)
        ≡ (is_same_ia ia.ia last.ia || list_any (λ one. is_same_ia one.ia last.ia) ias)
    by true e same = same ∙ sym (ap (λ b. b || list_any (λ one. is_same_ia one.ia last.ia) ias) (unlike (is_same_ia ia.ia last.ia) refl e))
    by false e same = ap (λ b. is_same_ia ia.ia last.ia || b) same

pub each_once_more : (ias : List Association) (last : Association) → each_once (ias ++ last ∷ []) ≡ once_more (each_once ias) last
each_once_more [] last = refl
each_once_more (ia ∷ ias) last =
    ap (λ (all : List Association). ia ∷ filter (λ other. not (is_same_ia ia.ia other.ia)) all) (each_once_more ias last)
    ∙ by (is_same_ia ia.ia last.ia) refl (list_any (λ one. is_same_ia one.ia last.ia) (each_once ias)) refl
  where
    once : List Association
    once = each_once ias

    kept : List Association
    kept = filter (λ other. not (is_same_ia ia.ia other.ia)) once

    last_goes : (b : Bool) → is_same_ia ia.ia last.ia ≡ b → filter (λ other. not (is_same_ia ia.ia other.ia)) (last ∷ []) ≡ cond (not b) (last ∷ []) []
    last_goes b e = ap (λ c. cond (not c) (last ∷ []) []) e

    pushed : (b : Bool) → is_same_ia ia.ia last.ia ≡ b
        → filter (λ other. not (is_same_ia ia.ia other.ia)) (once ++ last ∷ []) ≡ kept ++ cond (not b) (last ∷ []) []
    pushed b e = filter-append (λ other. not (is_same_ia ia.ia other.ia)) once (last ∷ []) ∙ ap (λ (ls : List Association). kept ++ ls) (last_goes b e)

    by : (b : Bool) → is_same_ia ia.ia last.ia ≡ b → (c : Bool) → list_any (λ one. is_same_ia one.ia last.ia) once ≡ c
        → ia ∷ filter (λ other. not (is_same_ia ia.ia other.ia)) (cond c once (once ++ last ∷ []))
        ≡ cond (is_same_ia ia.ia last.ia || list_any (λ one. is_same_ia one.ia last.ia) kept) (ia ∷ kept) (ia ∷ kept ++ last ∷ [])
    by true e true f = sym (ap (λ b. cond (b || list_any (λ one. is_same_ia one.ia last.ia) kept) (ia ∷ kept) (ia ∷ kept ++ last ∷ [])) e)
    by true e false f =
        ap (λ (ls : List Association). ia ∷ ls) (pushed true e ∙ append-nil kept)
        ∙ sym (ap (λ b. cond (b || list_any (λ one. is_same_ia one.ia last.ia) kept) (ia ∷ kept) (ia ∷ kept ++ last ∷ [])) e)
    by false e true f =
        sym (ap (λ b. cond (b || list_any (λ one. is_same_ia one.ia last.ia) kept) (ia ∷ kept) (ia ∷ kept ++ last ∷ [])) e
        ∙ ap (λ b. cond b (ia ∷ kept) (ia ∷ kept ++ last ∷ [])) (still_among ia last e once ∙ f))
    by false e false f =
        ap (λ (ls : List Association). ia ∷ ls) (pushed false e)
        ∙ sym (ap (λ b. cond (b || list_any (λ one. is_same_ia one.ia last.ia) kept) (ia ∷ kept) (ia ∷ kept ++ last ∷ [])) e
        ∙ ap (λ b. cond b (ia ∷ kept) (ia ∷ kept ++ last ∷ [])) (still_among ia last e once ∙ f))
