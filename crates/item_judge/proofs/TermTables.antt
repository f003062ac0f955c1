-- Tables of terms after an item is put or taken out.
use Rattle.std.proofs.Common.{◌≡◌, ℕ, Bool, true, false, cond, ◌&&◌, List, [], ◌∷◌, Option, Some, None, refl, sym, ap, ◌∙◌}
use Rattle.std.specs.Prelude.{◌==◌, if◌then◌else◌}
use Rattle.std.specs.declared.cmp.Ordering.{Ordering}
use Rattle.std.specs.BTreeMap.{BTreeMap, get, is_at}
use Rattle.std.specs.Map.{lookup}
use Rattle.std.proofs.lemmas.Bool.{and_parts, eqb-true}
use Rattle.net_types.specs.declared.address.Net6.{Net6}
use Rattle.lease6_judge.specs.Terms as judge
use Rattle.lease6_judge.specs.Terms.{is_same_net, longer}
use Rattle.item_judge.specs.declared.terms.Place.{Place}
use Rattle.item_judge.specs.declared.terms.Term.{Term}
use Rattle.item_judge.specs.declared.terms.Terms.{Terms}
use Rattle.item_judge.specs.Tables.{extended_at, is_place, place_of, term_at, term_content}

-- the order of the table tells places apart as they are
abbrev pub TellsApart : (Place → Place → Ordering) → Type 0
TellsApart cmp = (a b : Place) → is_at (cmp a) b ≡ ((a.number == b.number) && (a.len == b.len))

same_lookup : (test other : Place → Bool) → ((p : Place) → test p ≡ other p) → (entries : List (Place × Term))
    → lookup test entries ≡ lookup other entries
same_lookup test other same [] = refl
same_lookup test other same (entry ∷ entries) =
    ap (λ (b : Bool). cond b (Some entry.1) (lookup test entries)) (same entry.0)
    ∙ ap (λ (o : Option Term). cond (other entry.0) (Some entry.1) o) (same_lookup test other same entries)

module _ (cmp : Place → Place → Ordering) (tells : TellsApart cmp) where
  pub found : (table : BTreeMap Place Term) (net : Net6) → get cmp table (place_of net) ≡ lookup (is_place net) table.entries
  found table net = same_lookup (is_at (cmp (place_of net))) (is_place net) (λ p. tells (place_of net) p) table.entries

  module _ (old new : BTreeMap Place Term) (net : Net6) (put : Option Term)
      (updates : (q : Place) → get cmp new q ≡ cond (is_at (cmp (place_of net)) q) put (get cmp old q)) where
    updated : (other : Net6) → lookup (is_place other) new.entries ≡ cond (is_same_net net other) put (lookup (is_place other) old.entries)
    updated other =
        sym (found new other) ∙ updates (place_of other)
        ∙ ap (λ (b : Bool). cond b put (get cmp old (place_of other))) (tells (place_of net) (place_of other))
        ∙ ap (λ (o : Option Term). cond (is_same_net net other) put o) (found old other)

    by : (b : Bool) (o : Option Term) → term_content (cond b put o) ≡ (if b then term_content put else term_content o)
    by true o = refl
    by false o = refl

    pub put_at : (other : Net6) → term_content (lookup (is_place other) new.entries)
        ≡ (if is_same_net net other then term_content put else term_content (lookup (is_place other) old.entries))
    put_at other = ap term_content (updated other) ∙ by (is_same_net net other) (lookup (is_place other) old.entries)

-- ---- what is put is a term beside the one that stood

same_number : (a b : ℕ) → (a == b) ≡ true → a ≡ b
same_number a b h = eqb-true a b h

same_net : (one other : Net6) → is_same_net one other ≡ true → one ≡ other
same_net one other h =
    let parts = and_parts (one.ip.number == other.ip.number) (one.len == other.len) h in
    ap (λ (n : ℕ). record { ip = record { number = n }; len = one.len }) (same_number one.ip.number other.ip.number parts.0)
    ∙ ap (λ (l : ℕ). record { ip = record { number = other.ip.number }; len = l }) (same_number one.len other.len parts.1)

pub longer_at : (old : Terms) (net other : Net6) (term longest : Term)
    → term_content (Some longest) ≡ longer (term_content (Some term)) (term_at old net)
    → (if is_same_net net other then term_content (Some longest) else term_at old other)
    ≡ extended_at net (term_content (Some term)) other (term_at old other)
longer_at old net other term longest is = by_same (is_same_net net other) refl
  where
    by_same : (b : Bool) → is_same_net net other ≡ b
        → (if b then term_content (Some longest) else term_at old other)
        ≡ (if b then longer (term_content (Some term)) (term_at old other) else term_at old other)
    by_same true h = is ∙ ap (λ (n : Net6). longer (term_content (Some term)) (term_at old n)) (same_net net other h)
    by_same false h = refl
