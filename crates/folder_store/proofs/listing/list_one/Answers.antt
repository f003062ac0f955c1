use Rattle.std.specs.String.{string_bytes}
use Rattle.folder_store.proofs.ReadSteps.{name_listed}
use Rattle.folder_store.proofs.listing.list_one.Goals as goal

pub returns-in_ok-keep_aside-in-Ok-Some-clause-one : goal.returns-in_ok-keep_aside-in-Ok-Some-clause-one
returns-in_ok-keep_aside-in-Ok-Some-clause-one g c =
    name_listed _ _ (string_bytes c.in-Ok-Some.name) _ _ c.in_ok-keep_aside-in-Ok-Some.ensures.kept (rw c.in-Ok-Some.field-0-is at c.in-Ok-Some.ensures.held)
