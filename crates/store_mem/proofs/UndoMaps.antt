-- What undoing makes of files, by their names, as a list in order.
use Rattle.std.proofs.Common.{◌≡◌, ℕ, Bool, true, false, cond, List, [], ◌∷◌, ◌++◌, Option, Some, None, refl, sym, ap, ◌∙◌}
use Rattle.std.specs.Prelude.{String, filter, Result, Ok, Err, IfOk}
use Rattle.std.proofs.lemmas.List.{map-append}
use Rattle.std.specs.Global.{Global}
use Rattle.std.specs.String.{string_bytes, string_cmp}
use Rattle.std.specs.declared.cmp.Ordering.{Ordering}
use Rattle.std.specs.declared.cmp.Ordering.TheVariants.{Less, Equal, Greater}
use Rattle.std.specs.Ordering.{match_ordering}
use Rattle.std.specs.BTreeMap.{insert_entry, is_at}
use Rattle.std.specs.Map.{remove_entry, lookup}
use Rattle.std.proofs.lemmas.Map.Lookups.{exact_bytes}
use Rattle.world.specs.FileNames.{name_cmp, is_name}
use Rattle.world.specs.FileLists.{StoreFile}
use Rattle.world.specs.NamedLists.{drop_named}
use Rattle.world.specs.Undoing.{UndoneFile, undone_name, content_of, is_emptied, undone_at, put_undo, undo_settled, undone, set_file}
use Rattle.store_mem.specs.declared.undoing.Undone.{Undone}
use Rattle.store_mem.specs.CrashRecord.{undo_of, entry_undo, undos_of}

abbrev Entry : Type 0
Entry = String Global × Undone

put_at : (name : String Global) (u : Undone) (e : Entry) (es fs : List Entry) (r : Ordering) → name_cmp (string_bytes name) (string_bytes e.0) ≡ r
    → undos_of fs ≡ put_undo (string_bytes name) (undo_of u) (undos_of es)
    → undos_of (match_ordering r ((name, u) ∷ e ∷ es) ((e.0, u) ∷ es) (e ∷ fs))
    ≡ match_ordering r ((record { name = string_bytes name; undo = undo_of u }) ∷ entry_undo e ∷ undos_of es)
    ((record { name = string_bytes name; undo = undo_of u }) ∷ undos_of es) (entry_undo e ∷ put_undo (string_bytes name) (undo_of u) (undos_of es))
put_at name u e es fs Less is h = refl
put_at name u e es fs Equal is h =
    let same : string_bytes e.0 ≡ string_bytes name = sym (exact_bytes (string_bytes name) (string_bytes e.0) is) in
    λ i. (record { name = same i; undo = undo_of u }) ∷ undos_of es
put_at name u e es fs Greater is h = ap (λ xs. entry_undo e ∷ xs) h

pub undo_put : (name : String Global) (u : Undone) (es : List Entry)
    → undos_of (insert_entry string_cmp es name u) ≡ put_undo (string_bytes name) (undo_of u) (undos_of es)
undo_put name u [] = refl
undo_put name u (e ∷ es) = put_at name u e es (insert_entry string_cmp es name u) (name_cmp (string_bytes name) (string_bytes e.0)) refl (undo_put name u es)

undos_cond : (b : Bool) (xs ys : List Entry) → undos_of (cond b xs ys) ≡ cond b (undos_of xs) (undos_of ys)
undos_cond true xs ys = refl
undos_cond false xs ys = refl

pub undo_drop : (name : List ℕ) (es : List Entry)
    → undos_of (remove_entry (is_at (λ k. name_cmp name (string_bytes k))) es) ≡ drop_named undone_name name (undos_of es)
undo_drop name [] = refl
undo_drop name (e ∷ es) =
    undos_cond (is_name name (string_bytes e.0)) es (e ∷ remove_entry (is_at (λ k. name_cmp name (string_bytes k))) es)
    ∙ ap (λ xs. cond (is_name name (string_bytes e.0)) (undos_of es) (entry_undo e ∷ xs)) (undo_drop name es)

-- the content that undoing gives, by what is found under the name
abbrev pub content_or : Option Undone → Option (List ℕ) → Option (List ℕ)
content_or None reads = reads
content_or (Some u) reads = content_of (undo_of u)

content_cond : (b : Bool) (u : Undone) (o : Option Undone) (reads : Option (List ℕ))
    → content_or (cond b (Some u) o) reads ≡ cond b (content_of (undo_of u)) (content_or o reads)
content_cond true u o reads = refl
content_cond false u o reads = refl

pub undo_find : (name : List ℕ) (reads : Option (List ℕ)) (es : List Entry)
    → content_or (lookup (is_at (λ k. name_cmp name (string_bytes k))) es) reads ≡ undone_at name reads (undos_of es)
undo_find name reads [] = refl
undo_find name reads (e ∷ es) =
    content_cond (is_name name (string_bytes e.0)) e.1 (lookup (is_at (λ k. name_cmp name (string_bytes k))) es) reads
    ∙ ap (λ o. cond (is_name name (string_bytes e.0)) (content_of (undo_of e.1)) o) (undo_find name reads es)

-- the last one is undone first
pub undo_last : (undos : List UndoneFile) (last : UndoneFile) (files : List StoreFile)
    → undone (undos ++ last ∷ []) files ≡ undone undos (set_file last.name (content_of last.undo) files)
undo_last [] last files = refl
undo_last (u ∷ undos) last files = ap (λ fs. set_file u.name (content_of u.undo) fs) (undo_last undos last files)

filter_by : (b : Bool) (e : Entry) (es : List Entry) (us : List UndoneFile) → undos_of es ≡ us → undos_of (cond b (e ∷ es) es) ≡ cond b (entry_undo e ∷ us) us
filter_by true e es us h = ap (λ xs. entry_undo e ∷ xs) h
filter_by false e es us h = h

pub undo_filter : (es : List Entry) → undos_of (filter (λ (e : Entry). is_emptied (undo_of e.1)) es) ≡ undo_settled (undos_of es)
undo_filter [] = refl
undo_filter (e ∷ es) =
    filter_by (is_emptied (undo_of e.1)) e (filter (λ (e : Entry). is_emptied (undo_of e.1)) es) (undo_settled (undos_of es)) (undo_filter es)

pub undo_step : (all left : List Entry) (last : Entry) (files : List StoreFile) → all ≡ left ++ last ∷ []
    → undone (undos_of all) files ≡ undone (undos_of left) (set_file (string_bytes last.0) (content_of (undo_of last.1)) files)
undo_step all left last files is =
    ap (λ es. undone (undos_of es) files) is ∙ ap (λ us. undone us files) (map-append entry_undo left (last ∷ []))
    ∙ undo_last (undos_of left) (entry_undo last) files

pub if_ok_same : {A B E : Type 0} (f : A → B) (r : Result A E) (a b : B) → IfOk r (λ x. f x ≡ a) → a ≡ b → IfOk r (λ x. f x ≡ b)
if_ok_same f (Ok x) a b e same = e ∙ same
if_ok_same f (Err e) a b h same = tt
