-- The files by their names as a list in order.
use Rattle.std.proofs.Common.{◌≡◌, ℕ, Bool, true, false, cond, List, [], ◌∷◌, Option, Some, map, refl, sym, ap, ◌∙◌}
use Rattle.std.specs.Prelude.{String, option_map}
use Rattle.std.specs.Global.{Global, Vec}
use Rattle.std.specs.String.{string_bytes, string_cmp}
use Rattle.std.specs.declared.cmp.Ordering.{Ordering}
use Rattle.std.specs.declared.cmp.Ordering.TheVariants.{Less, Equal, Greater}
use Rattle.std.specs.Ordering.{match_ordering}
use Rattle.std.specs.BTreeMap.{insert_entry, is_at}
use Rattle.std.specs.Map.{remove_entry, lookup}
use Rattle.std.proofs.lemmas.Map.Lookups.{exact_bytes}
use Rattle.world.specs.FileNames.{name_cmp, is_name}
use Rattle.world.specs.FileLists.{put_file, drop_file, file_at}
use Rattle.store_mem.specs.StoreRecord.{entry_file}

abbrev Entry : Type 0
Entry = String Global × Vec ℕ

put_at : (name : String Global) (bytes : Vec ℕ) (e : Entry) (es fs : List Entry) (r : Ordering) → name_cmp (string_bytes name) (string_bytes e.0) ≡ r
    → map entry_file fs ≡ put_file (record { name = string_bytes name; bytes = bytes.items }) (map entry_file es)
    → map entry_file (match_ordering r ((name, bytes) ∷ e ∷ es) ((e.0, bytes) ∷ es) (e ∷ fs))
    ≡ match_ordering r ((record { name = string_bytes name; bytes = bytes.items }) ∷ entry_file e ∷ map entry_file es)
    ((record { name = string_bytes name; bytes = bytes.items }) ∷ map entry_file es)
    (entry_file e ∷ put_file (record { name = string_bytes name; bytes = bytes.items }) (map entry_file es))
put_at name bytes e es fs Less is h = refl
put_at name bytes e es fs Equal is h =
    let same : string_bytes e.0 ≡ string_bytes name = sym (exact_bytes (string_bytes name) (string_bytes e.0) is) in
    λ i. (record { name = same i; bytes = bytes.items }) ∷ map entry_file es
put_at name bytes e es fs Greater is h = ap (λ xs. entry_file e ∷ xs) h

pub map_put : (name : String Global) (bytes : Vec ℕ) (es : List Entry)
    → map entry_file (insert_entry string_cmp es name bytes) ≡ put_file (record { name = string_bytes name; bytes = bytes.items }) (map entry_file es)
map_put name bytes [] = refl
map_put name bytes (e ∷ es) =
    put_at name bytes e es (insert_entry string_cmp es name bytes) (name_cmp (string_bytes name) (string_bytes e.0)) refl (map_put name bytes es)

map_cond : (b : Bool) (xs ys : List Entry) → map entry_file (cond b xs ys) ≡ cond b (map entry_file xs) (map entry_file ys)
map_cond true xs ys = refl
map_cond false xs ys = refl

pub map_drop : (name : List ℕ) (es : List Entry)
    → map entry_file (remove_entry (is_at (λ k. name_cmp name (string_bytes k))) es) ≡ drop_file name (map entry_file es)
map_drop name [] = refl
map_drop name (e ∷ es) =
    map_cond (is_name name (string_bytes e.0)) es (e ∷ remove_entry (is_at (λ k. name_cmp name (string_bytes k))) es)
    ∙ ap (λ xs. cond (is_name name (string_bytes e.0)) (map entry_file es) (entry_file e ∷ xs)) (map_drop name es)

bytes_cond : (b : Bool) (v : Vec ℕ) (o : Option (Vec ℕ))
    → option_map (λ (w : Vec ℕ). w.items) (cond b (Some v) o) ≡ cond b (Some v.items) (option_map (λ (w : Vec ℕ). w.items) o)
bytes_cond true v o = refl
bytes_cond false v o = refl

pub map_find : (name : List ℕ) (es : List Entry)
    → option_map (λ (w : Vec ℕ). w.items) (lookup (is_at (λ k. name_cmp name (string_bytes k))) es) ≡ file_at name (map entry_file es)
map_find name [] = refl
map_find name (e ∷ es) =
    bytes_cond (is_name name (string_bytes e.0)) e.1 (lookup (is_at (λ k. name_cmp name (string_bytes k))) es)
    ∙ ap (λ o. cond (is_name name (string_bytes e.0)) (Some e.1.items) o) (map_find name es)
