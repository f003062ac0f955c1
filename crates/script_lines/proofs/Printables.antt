-- Texts of printable bytes.
use Rattle.std.proofs.Common.{ℕ, ◌≤◌, List, ◌∷◌, ◌++◌, codes, decimal, refl, arith}
use Rattle.net_types.specs.declared.interface.IfIndex.{IfIndex}
use Rattle.net_types.specs.Marks.{Lacks, IsPrintable, is_printable}
use Rattle.net_types.proofs.MarkLaws.{only-append, lacks_from, decimal_printable}

pub joined_printable : (a b : List ℕ) → IsPrintable a → IsPrintable b → IsPrintable (a ++ 32 ∷ b)
joined_printable a b one other = only-append is_printable a (32 ∷ b) one (only-append is_printable (codes " ") b refl other)

pub iface_printable : (iface : IfIndex) → (1 ≤ iface.number) × (iface.number ≤ 64) → IsPrintable (decimal iface.number)
iface_printable iface fits = let last : iface.number ≤ 64 = fits.1 in decimal_printable iface.number (omega arith)

pub no_feed_in : (text : List ℕ) → IsPrintable text → Lacks 10 text
no_feed_in text only = lacks_from is_printable 10 text refl only
