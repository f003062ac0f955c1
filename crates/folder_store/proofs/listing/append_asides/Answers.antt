use Rattle.std.proofs.Common.{map, ap, ◌∙◌}
use Rattle.std.proofs.lemmas.List.{map-append}
use Rattle.std.specs.String.{string_bytes}
use Rattle.folder_store.proofs.NameSorts.{asides_appended}
use Rattle.folder_store.proofs.listing.append_asides.Goals as goal

pub returns-in-Ok-append-clause-asides : goal.returns-in-Ok-append-clause-asides
returns-in-Ok-append-clause-asides g c =
    asides_appended _ c.in-Ok.found.items c.sort.new.self.items _ _
    (ap (map string_bytes) c.in-Ok-append.ensures.items ∙ map-append string_bytes _ _)
    c.in-Ok.ensures.asides c.in-Ok-sort.ensures.permutation c.in-Ok-sort.ensures.sorted
