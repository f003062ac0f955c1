use Rattle.domain_names.proofs.Names.{name_is_text, name_forward}
use Rattle.domain_names.proofs.search.name_at.Goals as goal

pub ascii_text-requires : goal.ascii_text-requires
ascii_text-requires c = rw c.as_slice.ensures.value (name_is_text _ _ _ _ c.in-Some.ensures)

pub returns-clause-forward : goal.returns-clause-forward
returns-clause-forward c = name_forward _ _ _ _ c.in-Some.ensures
