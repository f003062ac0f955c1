use Rattle.folder_store.proofs.ReadSteps.{asides_found}
use Rattle.folder_store.proofs.listing.found_asides.Goals as goal

pub returns-clause-asides : goal.returns-clause-asides
returns-clause-asides g c =
    asides_found _ _ _ _ c.in-Ok.ensures.held (rw c.new-names.ensures.items at c.in_ok-list_on-in-Ok.ensures.rest)
