-- Texts that begin with parts.
use Rattle.std.proofs.Common.{◌≡◌, ℕ, List, [], ◌∷◌, ◌++◌, Option, Some, None, refl, sym, ap, ◌∙◌, subst}
use Rattle.std.proofs.lemmas.Option.{none-some}
use Rattle.net_types.proofs.ReadsLaws.{some_same}
use Rattle.conf_words.specs.Parts.{Leads}

pub leads_more : {X : Type 0} (Begins : List ℕ → X → List ℕ → Type 0) (parts : List X) (part : X) (text middle rest : List ℕ) → Leads Begins parts text middle
    → Begins middle part rest → Leads Begins (parts ++ part ∷ []) text rest
leads_more Begins [] part text middle rest leads begins = (rest, subst (λ t. Begins t part rest) (sym leads) begins, refl)
leads_more Begins (first ∷ parts) part text middle rest leads begins = (leads.0, leads.1, leads_more Begins parts part leads.0 middle rest leads.2 begins)

-- a part and what follows it are one where a reader finds them
pub record OnePart {X : Type 0} (Begins : List ℕ → X → List ℕ → Type 0) : Type 0 where
  pub at : List ℕ → Option (X × List ℕ)
  pub finds : (text : List ℕ) (part : X) (rest : List ℕ) → Begins text part rest → at text ≡ Some (part, rest)

pub one_part : {X : Type 0} {Begins : List ℕ → X → List ℕ → Type 0} → OnePart Begins → (text : List ℕ) (one other : X) (after behind : List ℕ)
    → Begins text one after → Begins text other behind → (one ≡ other) × (after ≡ behind)
one_part {X} law text one other after behind first second =
    let pair : X × List ℕ = (one, after) in
    let twin : X × List ℕ = (other, behind) in
    let same : pair ≡ twin = some_same (sym (law.finds text one after first) ∙ law.finds text other behind second) in
    (ap (λ p. p.0) same, ap (λ p. p.1) same)

pub no_part : {X : Type 0} {Begins : List ℕ → X → List ℕ → Type 0} (law : OnePart Begins) → (text : List ℕ) (part : X) (rest : List ℕ) → law.at text ≡ None
    → Begins text part rest → ⊥
no_part law text part rest none begins = none-some _ (sym none ∙ law.finds text part rest begins)

-- and so the parts up to where none is found
pub one_list : {X : Type 0} {Begins : List ℕ → X → List ℕ → Type 0} (law : OnePart Begins) → (one other : List X) (text end stop : List ℕ)
    → Leads Begins one text end → Leads Begins other text stop → law.at end ≡ None → law.at stop ≡ None → one ≡ other
one_list law [] [] text end stop first second none nothing = refl
one_list law [] (y ∷ ys) text end stop first second none nothing = absurd (no_part law text y second.0 (ap law.at first ∙ none) second.1)
one_list law (x ∷ xs) [] text end stop first second none nothing = absurd (no_part law text x first.0 (ap law.at second ∙ nothing) first.1)
one_list {Begins = Begins} law (x ∷ xs) (y ∷ ys) text end stop first second none nothing =
    let same = one_part law text x y first.0 second.0 first.1 second.1 in
    let rest : xs ≡ ys = one_list law xs ys first.0 end stop first.2 (subst (λ t. Leads Begins ys t stop) (sym same.1) second.2) none nothing in
    ap (λ z. z ∷ xs) same.0 ∙ ap (λ zs. y ∷ zs) rest
