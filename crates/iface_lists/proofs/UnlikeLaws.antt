-- The test for unlike interfaces says what it is for.
use Rattle.std.proofs.Common.{◌≡◌, ℕ, suc, ◌+◌, true, false, not, List, [], ◌∷◌, refl, sym, ap, ◌∙◌, arith, bytes_eq}
use Rattle.std.specs.List.{All, AllByRecursion, AllPairs, list_all}
use Rattle.std.proofs.lemmas.Bool.{and_parts, and_from, not-true}
use Rattle.std.proofs.lemmas.List.Elements.{All-from_recursion}
use Rattle.std.proofs.lemmas.List.Kept.{AllPairs-cons}
use Rattle.std.proofs.lemmas.Slice.Eq.{bytes_eq-Decides}
use Rattle.net_types.specs.declared.interface.IfSpec.{IfSpec}
use Rattle.net_types.specs.declared.address.Mac.{Mac}
use Rattle.net_types.specs.NameText.{name_text, FitsName}
use Rattle.net_types.proofs.ReadsLaws.{texts_apart}
use Rattle.net_types.proofs.NameLaws.{name_reads}
use Rattle.script_model.specs.Scripts.{CountsFrom, Unlike}
use Rattle.iface_lists.specs.UnlikeIfaces.{is_unlike, all_unlike}

unlike_sound : (a b : IfSpec) → is_unlike a b ≡ true → Unlike a b
unlike_sound a b e =
    let parts = and_parts (not (bytes_eq (name_text a.name) (name_text b.name))) (not (bytes_eq a.mac.bytes b.mac.bytes)) e in (
      (λ same. apart (name_text a.name) (name_text b.name) parts.0 (ap name_text same)),
      (λ same. apart a.mac.bytes b.mac.bytes parts.1 (ap (λ (m : Mac). m.bytes) same)),
    )
  where
    apart : (xs ys : List ℕ) → not (bytes_eq xs ys) ≡ true → xs ≡ ys → ⊥
    apart xs ys e same =
        let t : bytes_eq xs ys ≡ true = (bytes_eq-Decides xs ys).1 same in let f : bytes_eq xs ys ≡ false = not-true _ e in let never : true ≡ false = sym t
        ∙ f in cc

differ_texts : (xs ys : List ℕ) → (xs ≡ ys → ⊥) → not (bytes_eq xs ys) ≡ true
differ_texts xs ys other =
    elim (bytes_eq xs ys) as (λ b. bytes_eq xs ys ≡ b → not b ≡ true) [
      | true ↦ λ t. absurd (other ((bytes_eq-Decides xs ys).0 t))
      | false ↦ λ t. refl
    ] refl

unlike_whole : (a b : IfSpec) → FitsName a.name → FitsName b.name → Unlike a b → is_unlike a b ≡ true
unlike_whole a b fa fb other =
    and_from _ _
    (differ_texts (name_text a.name) (name_text b.name) (λ same. other.0 (texts_apart name_reads a.name b.name fa fb same)))
    (differ_texts a.mac.bytes b.mac.bytes (λ same. other.1 (ap (λ m. record { bytes = m }) same)))

all_others : (spec : IfSpec) (specs : List IfSpec) → list_all (is_unlike spec) specs ≡ true → AllByRecursion (Unlike spec) specs
all_others spec [] e = tt
all_others spec (other ∷ specs) e = let parts = and_parts (is_unlike spec other) _ e in (unlike_sound spec other parts.0, all_others spec specs parts.1)

pub pairs_sound : (specs : List IfSpec) → all_unlike specs ≡ true → AllPairs Unlike specs
pairs_sound [] e = λ i j d below within. absurd (omega arith)
pairs_sound (spec ∷ specs) e =
    let parts = and_parts (list_all (is_unlike spec) specs) _ e in
    AllPairs-cons Unlike spec specs (All-from_recursion (Unlike spec) specs (all_others spec specs parts.0)) (pairs_sound specs parts.1)

others_whole : (number : ℕ) (spec : IfSpec) (specs : List IfSpec) → FitsName spec.name → CountsFrom number specs → AllByRecursion (Unlike spec) specs
    → list_all (is_unlike spec) specs ≡ true
others_whole number spec [] fit counts unlike = refl
others_whole number spec (other ∷ specs) fit counts unlike =
    and_from _ _ (unlike_whole spec other fit counts.1 unlike.0) (others_whole (number + 1) spec specs fit counts.3 unlike.1)

-- what holds of each element, by its place, holds of each by recursion
pub by_recursion : {X : Type 0} (P : X → Type 0) (xs : List X) → All P xs → AllByRecursion P xs
by_recursion P [] all = tt
by_recursion P (x ∷ xs) all = (all 0 x (omega arith), by_recursion P xs (λ k d within. all (suc k) d (omega arith)))

pub pairs_whole : (number : ℕ) (specs : List IfSpec) → CountsFrom number specs → AllPairs Unlike specs → all_unlike specs ≡ true
pairs_whole number [] counts pairs = refl
pairs_whole number (spec ∷ specs) counts pairs =
    let first : AllByRecursion (Unlike spec) specs = by_recursion (Unlike spec) specs (λ k d within. pairs 0 (suc k) d (omega arith) (omega arith)) in
    and_from _ _ (others_whole (number + 1) spec specs counts.1 counts.3 first)
    (pairs_whole (number + 1) specs counts.3 (λ i j d below within. pairs (suc i) (suc j) d (omega arith) (omega arith)))
