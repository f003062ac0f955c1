-- What an auditor holds of what is kept line by line.
use Rattle.std.specs.Prelude.{◌≡◌, ℕ, ◌-◌, ◌^◌, Bool, true, false, min, List, [], ◌∷◌, map, length, Option, Some, None}
use Rattle.world.specs.StoreCalls.{StoreCall}
use Rattle.audit_turns.specs.EvidenceWords.Entries.{Entry}
use Rattle.audit_turns.specs.AuditModel.Auditing.{Auditing, Living, Unjust, reads_after, site_in}
use Rattle.audit_follower.specs.declared.auditor.Auditor.{Auditor}
use Rattle.audit_follower.specs.declared.course.Course.{Course}
use Rattle.audit_follower.specs.declared.course.Course.TheVariants as courses
use Rattle.audit_follower.specs.declared.unjust.Unjust as code
use Rattle.audit_sites.specs.declared.opening.Opening.{Opening}
use Rattle.audit_sites.specs.Openings.{Opens}
use Rattle.audit_follower.specs.declared.seated.Seated.{Seated}
use Rattle.audit_seats.specs.Seats.{AllTell, Telling, sites_of}
use Rattle.audit_turns.specs.Goings.{GoesOn, going_of}

-- a count that stays at the greatest number of its type
abbrev pub counted : ℕ → ℕ
counted n = min n (2 ^ 64 - 1)

-- The interfaces of the life are seated, and their judges are after the turns that are over.
pub record IsSeated {J : Type 0} (Tells : Telling J) (seated : Seated J) (living : Living) : Type 0 where
  pub sites : sites_of seated.watched.items ≡ map (site_in living) living.managed
  pub tell : AllTell Tells living.past seated.watched.items
  pub count : seated.count ≡ counted (length living.past)

-- with a file that was read, which counts in the opening alone
abbrev pub with_read : StoreCall → Living → Living
with_read call living = record living { reads = reads_after living.past call living.reads }

-- some turn is over
abbrev pub IsPastOne : List Entry → Type 0
IsPastOne [] = ⊥
IsPastOne (e ∷ past) = Unit {0}

-- the life goes on after its opening
pub record GoesOnIn {J : Type 0} (Tells : Telling J) (seated : Seated J) (living : Living) : Type 0 where
  pub past_one : IsPastOne living.past
  pub is_seated : IsSeated Tells seated living

-- what was found
pub record IsFound (found : code.Unjust) (unjust : Unjust) : Type 0 where
  pub life : found.life ≡ unjust.life
  pub turn : found.turn ≡ counted unjust.turn
  pub row : found.row ≡ unjust.row

-- so where something was found at all
abbrev pub Finds : Option code.Unjust → Option Unjust → Type 0
Finds None None = Unit {0}
Finds (Some found) (Some unjust) = IsFound found unjust
Finds found unjust = ⊥

abbrev pub is_found : {J : Type 0} → Course J → Bool
is_found (courses.Found found) = true
is_found course = false

-- Nothing is kept of a life once an address without basis was found.
abbrev pub Courses : {J : Type 0} → Telling J → Course J → Option Living → Option Unjust → Type 0
Courses Tells (courses.Found found) living (Some unjust) = IsFound found unjust
Courses Tells courses.Between None None = Unit {0}
Courses Tells (courses.Opening opening) (Some living) None = Opens opening living
Courses Tells (courses.Within seated) (Some living) None = GoesOnIn Tells seated living
Courses Tells course living unjust = ⊥

pub record Audits {J : Type 0} (Tells : Telling J) (auditor : Auditor J) (kept : Auditing) : Type 0 where
  pub configuration : auditor.known.configuration ≡ kept.configuration
  pub ifaces : auditor.known.ifaces ≡ kept.ifaces
  pub lives : auditor.lives ≡ kept.lives
  pub turns : auditor.turns ≡ counted kept.turns
  pub going : GoesOn kept.living (going_of auditor.going)
  pub course : Courses Tells auditor.course kept.living kept.unjust
