-- The files that an opening read, as an auditor holds them.
use Rattle.std.specs.Prelude.{ℕ, List, map, Option, Some, None}
use Rattle.world.specs.StoreCalls.{StoreCall, ReadFile, Reading, Found, Missing, Unread}
use Rattle.transcript_lines.specs.Contents.{reading_of}
use Rattle.audit_sites.specs.declared.reads.FileRead.{FileRead}

abbrev pub read_of : FileRead → StoreCall
read_of read = ReadFile read.name.items (reading_of read.reading)

abbrev pub reads_of : List FileRead → List StoreCall
reads_of reads = map read_of reads

-- the bytes of a file, where it was read
abbrev pub text_read : Reading → Option (List ℕ)
text_read (Found bytes) = Some bytes
text_read Missing = None
text_read Unread = None
