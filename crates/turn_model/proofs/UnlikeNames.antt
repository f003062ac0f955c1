-- Unlike interfaces have unlike names.
use Rattle.std.proofs.Common.{◌≡◌, suc, Bool, true, false, bytes_eq, List, [], ◌∷◌, map, refl, arith}
use Rattle.std.specs.List.{AllByRecursion, AllPairs, IsDistinct}
use Rattle.std.proofs.lemmas.List.Elements.{recursion_from_All}
use Rattle.std.proofs.lemmas.Slice.Eq.{bytes_eq-Decides}
use Rattle.net_types.specs.declared.interface.IfSpec.{IfSpec}
use Rattle.net_types.specs.NameText.{name_text}
use Rattle.net_types.proofs.ReadsLaws.{texts_apart}
use Rattle.net_types.proofs.NameLaws.{name_reads}
use Rattle.client_model.specs.IfaceSettings.Fitting.{FitsManaged, AreManaged}
use Rattle.client_model.specs.IfaceSettings.declared.interfaces.Managed.{Managed}
use Rattle.client_model.specs.ScriptModel.Scripts.{Unlike}
use Rattle.turn_model.specs.FilesInLife.{UnlikeAreNamedApart}

abbrev specs_of : List Managed → List IfSpec
specs_of managed = map (λ (m : Managed). m.spec) managed

-- each is unlike all after it
first_unlike : (spec : IfSpec) (specs : List IfSpec) → AllPairs Unlike (spec ∷ specs) → AllByRecursion (Unlike spec) specs
first_unlike spec specs pairs = recursion_from_All (Unlike spec) specs (λ k d within. pairs 0 (suc k) d (omega arith) (omega (arith, within)))

others_unlike : (spec : IfSpec) (specs : List IfSpec) → AllPairs Unlike (spec ∷ specs) → AllPairs Unlike specs
others_unlike spec specs pairs = λ i j d below within. pairs (suc i) (suc j) d (omega (arith, below)) (omega (arith, within))

module _ (a b : Managed) (fa : FitsManaged a) (fb : FitsManaged b) (unlike : Unlike a.spec b.spec) where
  texts_differ : bytes_eq (name_text a.spec.name) (name_text b.spec.name) ≡ false
  texts_differ = by (bytes_eq (name_text a.spec.name) (name_text b.spec.name)) refl
    where
      by : (same : Bool) → bytes_eq (name_text a.spec.name) (name_text b.spec.name) ≡ same → same ≡ false
      by true e =
          absurd
          (unlike.0
          (texts_apart name_reads a.spec.name b.spec.name fa.name fb.name ((bytes_eq-Decides (name_text a.spec.name) (name_text b.spec.name)).0 e)))
      by false e = refl

each_differs : (a : Managed) → FitsManaged a → (others : List Managed) → AreManaged others → AllByRecursion (Unlike a.spec) (specs_of others)
    → AllByRecursion (λ name. bytes_eq (name_text a.spec.name) name ≡ false) (map (λ (m : Managed). name_text m.spec.name) others)
each_differs a fa [] fit unlike = tt
each_differs a fa (b ∷ others) fit unlike = (texts_differ a b fa fit.0 unlike.0, each_differs a fa others fit.1 unlike.1)

pub named_apart : UnlikeAreNamedApart
unfolding IsDistinct
named_apart [] fit pairs = tt
named_apart (m ∷ managed) fit pairs = (
  each_differs m fit.0 managed fit.1 (first_unlike m.spec (specs_of managed) pairs),
  named_apart managed fit.1 (others_unlike m.spec (specs_of managed) pairs),
)
