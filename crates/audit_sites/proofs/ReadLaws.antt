-- The first reading of a file among those that are left.
use Rattle.std.proofs.Common.{ℕ, ◌+◌, ◌<◌, Bool, true, false, cond, List, [], ◌∷◌, ◌≡◌, Option, Some, None, sym, ap, ◌∙◌, bytes_eq, length, drop, get_or}
use Rattle.world.specs.StoreCalls.{Reading}
use Rattle.transcript_lines.specs.Contents.{reading_of}
use Rattle.audit_words.specs.EvidenceWords.HostDuids.{first_of, read_among}
use Rattle.audit_sites.specs.declared.reads.FileRead.{FileRead}
use Rattle.audit_sites.specs.Reads.{reads_of}
use Rattle.audit_seats.proofs.LoopLaws.{left_of}

next_read : (name : List ℕ) (reads : List FileRead) (i : ℕ) (r : FileRead) (b : Bool) → r ≡ get_or reads i r → i < length reads
    → bytes_eq name r.name.items ≡ b
    → read_among name (reads_of (drop i reads)) ≡ first_of (cond b (Some (reading_of r.reading)) None) (read_among name (reads_of (drop (i + 1) reads)))
next_read name reads i r b is lt named =
    ap (λ (all : List FileRead). read_among name (reads_of all)) (left_of reads i r is lt)
    ∙ ap (λ (here : Bool). first_of (cond here (Some (reading_of r.reading)) None) (read_among name (reads_of (drop (i + 1) reads)))) named

pub read_here : (name : List ℕ) (reads : List FileRead) (i : ℕ) (r : FileRead) → r ≡ get_or reads i r → i < length reads
    → bytes_eq name r.name.items ≡ true → read_among name (reads_of (drop i reads)) ≡ Some (reading_of r.reading)
read_here name reads i r is lt named = next_read name reads i r true is lt named

pub read_later : (name : List ℕ) (reads : List FileRead) (i : ℕ) (r : FileRead) → r ≡ get_or reads i r → i < length reads
    → bytes_eq name r.name.items ≡ false → read_among name (reads_of (drop i reads)) ≡ read_among name (reads_of (drop (i + 1) reads))
read_later name reads i r is lt named = next_read name reads i r false is lt named
