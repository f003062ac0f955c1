-- How the program ends where its words can't be had.
use Rattle.std.specs.declared.io.ErrorKind.{ErrorKind}
use Rattle.std.specs.declared.io.ErrorKind.TheVariants as kind
use Rattle.dhcpcd.specs.TextWorks.declared.status.Status.{Status}
use Rattle.dhcpcd.specs.TextWorks.declared.status.Status.TheVariants as status

-- A word that isn't text is of no form; all else is want of memory.
abbrev pub unread : ErrorKind → Status
unread kind.InvalidData = status.Usage
unread failure = status.NoMemory
