-- Blocks by the names of their interfaces: what a key finds in the map is what the list of blocks has.
use Rattle.std.proofs.Common.{◌≡◌, ℕ, zero, suc, Bool, true, false, cond, List, [], ◌∷◌, ◌++◌, map, find, Option, Some, None, option_map, refl, sym, ap, ◌∙◌, subst}
use Rattle.std.specs.Prelude.{slice_get, IfSome}
use Rattle.std.specs.List.{position}
use Rattle.std.specs.Map.{keys_of, values_of, lookup}
use Rattle.std.proofs.lemmas.Option.{none-some, same_Some}
use Rattle.indexmap.specs.IndexMap.{insert_entry, set_value_at}
use Rattle.net_types.specs.declared.interface.Name.{Name}
use Rattle.conf_directives.specs.Contents.{DirectiveContent}
use Rattle.conf_text.specs.declared.block_name.BlockName.{BlockName}
use Rattle.conf_scopes.specs.declared.scope.Scope.{Scope}
use Rattle.conf_text.specs.Configurations.{BlockContent}
use Rattle.conf_scopes.specs.ScopeContents.{scope_content}
use Rattle.conf_text.specs.Contents.{block_content}
use Rattle.conf_text.specs.Places.{is_named}
use Rattle.conf_scopes.specs.Scopes.{ScopeContent}
use Rattle.conf_scopes.specs.ScopeSteps.{FitsWords, scope_with}
use Rattle.conf_text.specs.Steps.{block_with, first_place, say_at, set_to}
use Rattle.conf_text.proofs.ListLaws.{first_place_map, position_is}

abbrev pub Entries : Type 0
Entries = List (BlockName × Scope)

-- ---- lookups

pub key_place : (name : Name) (entries : Entries)
    → position (λ (key : BlockName). is_named name key.name) (keys_of entries) ≡ first_place (λ block. is_named name block.name) (map block_content entries)
key_place name entries =
    let of_key : BlockName → Bool = (λ key. is_named name key.name) in
    let of_block : BlockContent → Bool = (λ block. is_named name block.name) in
    position_is of_key (keys_of entries) ∙ first_place_map of_key (λ entry. entry.0) entries ∙ sym (first_place_map of_block block_content entries)

cond_scope : (b : Bool) (entry : BlockName × Scope) (one : Option Scope) (other : Option BlockContent)
    → option_map scope_content one ≡ option_map (λ block. block.scope) other
    → option_map scope_content (cond b (Some entry.1) one) ≡ option_map (λ block. block.scope) (cond b (Some (block_content entry)) other)
cond_scope true entry one other same = refl
cond_scope false entry one other same = same

pub key_scope : (name : Name) (entries : Entries)
    → option_map scope_content (lookup (λ (key : BlockName). is_named name key.name) entries)
    ≡ option_map (λ block. block.scope) (find (λ block. is_named name block.name) (map block_content entries))
key_scope name [] = refl
key_scope name (entry ∷ entries) =
    cond_scope (is_named name entry.0.name) entry (lookup (λ (key : BlockName). is_named name key.name) entries)
    (find (λ block. is_named name block.name) (map block_content entries)) (key_scope name entries)

-- ---- changes

none_later : (o : Option ℕ) → option_map suc o ≡ None → o ≡ None
none_later None e = refl
none_later (Some k) e = absurd (none-some (suc k) (sym e))

pub begun_last : (name : Name) (scope : Scope) (entries : Entries) → first_place (λ block. is_named name block.name) (map block_content entries) ≡ None
    → map block_content (insert_entry (λ (one other : BlockName). is_named one.name other.name) entries (record { name = name }) scope)
    ≡ map block_content entries ++ record { name = name; scope = scope_content scope } ∷ []
begun_last name scope [] none = refl
begun_last name scope (entry ∷ entries) none = by (is_named name entry.0.name) none (begun_last name scope entries)
  where
    by : (b : Bool) → cond b (Some 0) (option_map suc (first_place (λ block. is_named name block.name) (map block_content entries))) ≡ None
        →
        (first_place (λ block. is_named name block.name) (map block_content entries) ≡ None
        → map block_content (insert_entry (λ (one other : BlockName). is_named one.name other.name) entries (record { name = name }) scope)
        ≡ map block_content entries ++ record { name = name; scope = scope_content scope } ∷ [])
        → map block_content
        (cond b ((entry.0, scope) ∷ entries)
        (entry ∷ insert_entry (λ (one other : BlockName). is_named one.name other.name) entries (record { name = name }) scope))
        ≡ map block_content (entry ∷ entries) ++ record { name = name; scope = scope_content scope } ∷ []
    by true e rest = absurd (none-some 0 (sym e))
    by false e rest =
        ap (λ blocks. block_content entry ∷ blocks) (rest (none_later (first_place (λ block. is_named name block.name) (map block_content entries)) e))

set_later : (block : BlockContent) (blocks : List BlockContent) (place : ℕ) (o : Option BlockContent)
    → set_to (block ∷ blocks) (suc place) o ≡ block ∷ set_to blocks place o
set_later block blocks place None = refl
set_later block blocks place (Some other) = refl

-- what is asked of the block at a place is asked of the scope that stands there
pub fits_there : (said : DirectiveContent) (entries : Entries) (place : ℕ) (scope : Scope) → slice_get (values_of entries) place ≡ Some scope
    → IfSome (slice_get (map block_content entries) place) (λ block. FitsWords block.scope said) → FitsWords (scope_content scope) said
fits_there said [] place scope at fits = absurd (none-some scope at)
fits_there said (entry ∷ entries) zero scope at fits = subst (λ (there : Scope). FitsWords (scope_content there) said) (same_Some entry.1 scope at) fits
fits_there said (entry ∷ entries) (suc place) scope at fits = fits_there said entries place scope at fits

pub said_within : (said : DirectiveContent) (entries : Entries) (place : ℕ) (old new : Scope) → slice_get (values_of entries) place ≡ Some old
    → scope_content new ≡ scope_with (scope_content old) said
    → map block_content (set_value_at entries place new) ≡ say_at place said (map block_content entries)
said_within said [] place old new at changed = absurd (none-some old at)
said_within said (entry ∷ entries) zero old new at changed =
    ap (λ (scope : ScopeContent). record { name = entry.0.name; scope = scope } ∷ map block_content entries)
    (changed ∙ ap (λ scope. scope_with (scope_content scope) said) (sym (same_Some entry.1 old at)))
said_within said (entry ∷ entries) (suc place) old new at changed =
    ap (λ blocks. block_content entry ∷ blocks) (said_within said entries place old new at changed)
    ∙ sym (set_later (block_content entry) (map block_content entries) place (option_map (block_with said) (slice_get (map block_content entries) place)))
