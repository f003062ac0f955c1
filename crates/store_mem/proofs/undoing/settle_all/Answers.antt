use Rattle.std.proofs.Common.{rules, ◌∙◌, ap}
use Rattle.std.proofs.lemmas.Map.Made.{filter_same_pairs}
use Rattle.world.specs.Undoing.{is_emptied}
use Rattle.store_mem.specs.CrashRecord.{undo_of, undos_of}
use Rattle.store_mem.proofs.UndoMaps.{undo_filter}
use Rattle.store_mem.proofs.undoing.settle_all.Goals as goal

pub returns : goal.returns
returns c =
    ap undos_of (filter_same_pairs _ (λ e. is_emptied (undo_of e.1)) _ (λ k v b w f' called. search rules) _ _ c.retain.ensures.filtered)
    ∙ undo_filter c.args.undos.now.entries
