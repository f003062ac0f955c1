use Rattle.std.proofs.Common.{rules, ◌≡◌, ℕ, List, Option, Some, None, option_map, ap, ◌∙◌}
use Rattle.std.specs.String.{string_bytes}
use Rattle.std.specs.BTreeMap.{is_at}
use Rattle.std.specs.Map.{lookup}
use Rattle.world.specs.FileNames.{name_cmp}
use Rattle.store_mem.specs.declared.undoing.Undone.{Undone}
use Rattle.store_mem.specs.declared.undoing.Undone.TheVariants.{Empties, Restores}
use Rattle.store_mem.proofs.UndoMaps.{content_or, undo_find, if_ok_same}
use Rattle.store_mem.proofs.undoing.content_at.Goals as goal

pub returns-in-Some-Empties : goal.returns-in-Some-Empties
returns-in-Some-Empties c =
    let reads = option_map (λ b. b.now) c.args.reads in
    let found : Some Empties ≡ lookup (is_at (λ k. name_cmp c.args.name.now (string_bytes k))) c.args.undos.now.entries = search rules in
    ap Some c.new.ensures.items ∙ ap (λ (o : Option Undone). content_or o reads) found ∙ undo_find c.args.name.now reads c.args.undos.now.entries

pub returns-in_ok-copy_bytes-in-Some-Restores-Some : goal.returns-in_ok-copy_bytes-in-Some-Restores-Some
returns-in_ok-copy_bytes-in-Some-Restores-Some c =
    let reads = option_map (λ b. b.now) c.args.reads in
    let found : Some (Restores (Some c.in-Some-Restores-Some.bytes))
    ≡ lookup (is_at (λ k. name_cmp c.args.name.now (string_bytes k))) c.args.undos.now.entries =
    search rules in
    let copied : c.in_ok-copy_bytes-in-Some-Restores-Some.field-0.items ≡ c.in-Some-Restores-Some.bytes.items = search rules in
    ap (λ (b : List ℕ). Some b) copied ∙ ap (λ (o : Option Undone). content_or o reads) found ∙ undo_find c.args.name.now reads c.args.undos.now.entries

pub returns-in-Some-Restores-None : goal.returns-in-Some-Restores-None
returns-in-Some-Restores-None c =
    let reads = option_map (λ b. b.now) c.args.reads in
    let found : Some (Restores None) ≡ lookup (is_at (λ k. name_cmp c.args.name.now (string_bytes k))) c.args.undos.now.entries = search rules in
    ap (λ (o : Option Undone). content_or o reads) found ∙ undo_find c.args.name.now reads c.args.undos.now.entries

pub returns-in-None : goal.returns-in-None
returns-in-None c =
    let reads = option_map (λ b. b.now) c.args.reads in
    let found : None ≡ lookup (is_at (λ k. name_cmp c.args.name.now (string_bytes k))) c.args.undos.now.entries = search rules in
    if_ok_same _ c.copy_content.result _ _ c.copy_content.ensures
    (ap (λ (o : Option Undone). content_or o reads) found ∙ undo_find c.args.name.now reads c.args.undos.now.entries)
