-- What `dump` writes and answers: the variables of a lease file.
use Rattle.std.specs.Prelude.{ℕ, ◌≡◌, List, Option}
use Rattle.world.specs.HookCalls.{Variable}
use Rattle.lease_dump.specs.Dumps.{IsBadAs, IsDumped, is_of_dhcp6, variables_text}
use Rattle.text_works.specs.declared.status.Status.{Status}
use Rattle.text_works.specs.declared.status.Status.TheVariants as status
use Rattle.text_works.specs.Works.{Work, IsWorked, NothingFound}

-- the bytes are a lease, and the text has a line for each of its variables
pub record IsDumpOf (bytes text : List ℕ) : Type 0 where
  pub vars : List Variable
  pub dumped : IsDumped bytes vars
  pub says : text ≡ variables_text vars

-- the line is the first bad one
abbrev pub RefusesLease : List ℕ → Status → Type 0
RefusesLease bytes (status.Lease line) = IsBadAs (is_of_dhcp6 bytes) bytes line
RefusesLease bytes other = ⊥

abbrev pub dumping : Work
dumping = record { Gives = IsDumpOf; Finds = NothingFound; Refuses = RefusesLease }

-- what dump answers, by the input and by what is written before and after
abbrev pub IsDumpAnswer : Status → (input old new : Option (List ℕ)) → Type 0
IsDumpAnswer answer input old new = IsWorked dumping answer input old new
