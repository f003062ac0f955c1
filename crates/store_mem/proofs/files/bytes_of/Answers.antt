use Rattle.std.proofs.Common.{◌∙◌, ap, Some, List, ℕ}
use Rattle.std.specs.Prelude.{option_map}
use Rattle.std.specs.Global.{Vec}
use Rattle.store_mem.proofs.FileMaps.{map_find}
use Rattle.store_mem.proofs.files.bytes_of.Goals as goal

pub returns-in-Some : goal.returns-in-Some
returns-in-Some c =
    ap (λ (bytes : List ℕ). Some bytes) c.as_slice.ensures.value ∙ ap (option_map (λ (w : Vec ℕ). w.items)) c.in-Some.ensures.value
    ∙ map_find c.args.name.now c.args.files.now.entries

pub returns-in-None : goal.returns-in-None
returns-in-None c = ap (option_map (λ (w : Vec ℕ). w.items)) c.in-None.ensures.value ∙ map_find c.args.name.now c.args.files.now.entries
