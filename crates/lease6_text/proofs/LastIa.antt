-- The last IA of a list, and an item that it gets.
use Rattle.std.proofs.Common.{◌≡◌, ℕ, zero, suc, ◌+◌, ◌-◌, List, [], ◌∷◌, ◌++◌, length, Option, Some, None, option_map, refl, sym, ap, ◌∙◌, arith}
use Rattle.std.specs.List.{slice_get}
use Rattle.std.proofs.lemmas.List.{map-append}
use Rattle.std.proofs.lemmas.Option.{none-some}
use Rattle.net_types.specs.declared.text_lines.LineFault.{LineFault}
use Rattle.net_types.specs.declared.text_lines.LineFault.TheVariants.{Bad, NoMemory}
use Rattle.net_types.specs.Cutting.{strip_word}
use Rattle.net_types.specs.LineReading.{Refuses}
use Rattle.net_types.specs.TextLines.{Line}
use Rattle.net_types.proofs.ReadsLaws.{some_same}
use Rattle.lease6_text.specs.declared.lease.IaLease.{IaLease}
use Rattle.lease6_text.specs.declared.reading.NextLine.TheVariants.{Ias}
use Rattle.lease6_text.specs.LeaseLines.{item_word}
use Rattle.lease6_text.specs.LeaseReading.{Reading, ia_joined, item_added, item_rest, last_changed}
use Rattle.lease6_text.specs.Leases.{IaLeaseContent, ia_content, ias_content}

-- ---- where it stands

rest_at : (ias : List IaLease) (i : ℕ) (ia : IaLease) (line : Line) → length ias ≡ i + 1 → slice_get ias i ≡ Some ia
    → strip_word (item_word ia.kind) line ≡ item_rest (ias_content ias) line
rest_at [] i ia line long e = absurd (omega (arith, long))
rest_at (x ∷ []) zero ia line long e = ap (λ (a : IaLease). strip_word (item_word a.kind) line) (sym (some_same e))
rest_at (x ∷ []) (suc i) ia line long e = absurd (omega (arith, long))
rest_at (x ∷ y ∷ ys) zero ia line long e = absurd (omega (arith, long))
rest_at (x ∷ y ∷ ys) (suc i) ia line long e = rest_at (y ∷ ys) i ia line (omega (arith, long)) e

pub last_rest : (ias : List IaLease) (ia : IaLease) (line : Line) → slice_get ias (length ias - 1) ≡ Some ia
    → strip_word (item_word ia.kind) line ≡ item_rest (ias_content ias) line
last_rest [] ia line e = cc
last_rest (x ∷ xs) ia line e = rest_at (x ∷ xs) (length (x ∷ xs) - 1) ia line (omega arith) e

pub rest_is : (front : List IaLeaseContent) (ia : IaLeaseContent) (line : Line) → item_rest (front ++ ia ∷ []) line ≡ strip_word (item_word ia.kind) line
rest_is [] ia line = refl
rest_is (first ∷ []) ia line = refl
rest_is (first ∷ second ∷ front) ia line = rest_is (second ∷ front) ia line

pub record LastIa (ias : List IaLeaseContent) (line : Line) (rest : List ℕ) : Type 0 where
  pub front : List IaLeaseContent
  pub ia : IaLeaseContent
  pub parts : ias ≡ front ++ ia ∷ []
  pub was : strip_word (item_word ia.kind) line ≡ Some rest

pub last_ia : (ias : List IaLeaseContent) (line : Line) (rest : List ℕ) → item_rest ias line ≡ Some rest → LastIa ias line rest
last_ia [] line rest e = absurd (none-some rest e)
last_ia (ia ∷ []) line rest e = record { front = []; ia = ia; parts = refl; was = e }
last_ia (ia ∷ other ∷ ias) line rest e =
    let last = last_ia (other ∷ ias) line rest e in
    record { front = ia ∷ last.front; ia = last.ia; parts = ap (λ others. ia ∷ others) last.parts; was = last.was }

-- ---- what it becomes

pub maps_join : {A B C : Type 0} (f : A → B) (g : B → C) (o : Option A) → option_map g (option_map f o) ≡ option_map (λ x. g (f x)) o
maps_join f g None = refl
maps_join f g (Some x) = refl

changed_is : (change : IaLeaseContent → Option IaLeaseContent) (front : List IaLeaseContent) (ia : IaLeaseContent)
    → last_changed change (front ++ ia ∷ []) ≡ option_map (λ new. front ++ new ∷ []) (change ia)
changed_is change [] ia = refl
changed_is change (first ∷ []) ia = maps_join (λ new. new ∷ []) (λ others. first ∷ others) (change ia)
changed_is change (first ∷ second ∷ front) ia =
    ap (option_map (λ others. first ∷ others)) (changed_is change (second ∷ front) ia)
    ∙ maps_join (λ new. (second ∷ front) ++ new ∷ []) (λ others. first ∷ others) (change ia)

abbrev pub with_ias : Reading → List IaLeaseContent → Reading
with_ias reading ias = record reading { next = Ias; ias = ias }

pub added_is : (reading : Reading) (front : List IaLeaseContent) (ia : IaLeaseContent) (rest : List ℕ) → reading.ias ≡ front ++ ia ∷ []
    → item_added reading rest ≡ option_map (λ new. with_ias reading (front ++ new ∷ [])) (ia_joined rest ia)
added_is reading front ia rest parts =
    ap (λ ias. option_map (with_ias reading) (last_changed (ia_joined rest) ias)) parts
    ∙ ap (option_map (with_ias reading)) (changed_is (ia_joined rest) front ia)
    ∙ maps_join (λ new. front ++ new ∷ []) (with_ias reading) (ia_joined rest ia)

refused_too : {A B C : Type 0} (make : A → B) (o : Option A) (other : Option B) (cause : C) (fault : LineFault C) → other ≡ option_map make o
    → Refuses o cause fault → Refuses other cause fault
refused_too make o other cause (Bad why) same refused = (same ∙ ap (option_map make) refused.0, refused.1)
refused_too make o other cause NoMemory same refused = tt

-- what the code does to the last IA in memory: it was taken off, and stands there again with the item
pub added_last : (reading : Reading) (items front pushed : List IaLease) (ia joined : IaLease) (rest : List ℕ) → items ≡ front ++ ia ∷ []
    → pushed ≡ front ++ joined ∷ []
    → reading.ias ≡ ias_content items → ia_joined rest (ia_content ia) ≡ Some (ia_content joined)
    → item_added reading rest ≡ Some (with_ias reading (ias_content pushed))
added_last reading items front pushed ia joined rest was now same joins =
    added_is reading (ias_content front) (ia_content ia) rest (same ∙ ap ias_content was ∙ map-append ia_content front (ia ∷ []))
    ∙ ap (option_map (λ new. with_ias reading (ias_content front ++ new ∷ []))) joins
    ∙ ap (λ ias. Some (with_ias reading ias)) (sym (ap ias_content now ∙ map-append ia_content front (joined ∷ [])))

pub refused_last : {C : Type 0} (reading : Reading) (items front : List IaLease) (ia : IaLease) (rest : List ℕ) (cause : C) (fault : LineFault C)
    → items ≡ front ++ ia ∷ []
    → reading.ias ≡ ias_content items → Refuses (ia_joined rest (ia_content ia)) cause fault → Refuses (item_added reading rest) cause fault
refused_last reading items front ia rest cause fault was same refused =
    refused_too (λ new. with_ias reading (ias_content front ++ new ∷ [])) (ia_joined rest (ia_content ia)) (item_added reading rest) cause fault
    (added_is reading (ias_content front) (ia_content ia) rest (same ∙ ap ias_content was ∙ map-append ia_content front (ia ∷ []))) refused
