-- The interfaces that are judged, each with its judge.
use Rattle.std.specs.Prelude.{◌≡◌, ℕ, List, ◌∷◌, get_or, map, set}
use Rattle.std.specs.List.{AllByRecursion}
use Rattle.audit_words.specs.EvidenceWords.Entries.{Entry}
use Rattle.audit_words.specs.EvidenceWords.Inputs.{Site}
use Rattle.audit_words.specs.Shown.{site_shown}
use Rattle.audit_seats.specs.declared.seats.Watched.{Watched}

-- what a judge holds after some turns
abbrev pub Telling : Type 0 → Type 1
Telling J = J → Site → List Entry → Type 0

abbrev pub sites_of : {J : Type 0} → List (Watched J) → List Site
sites_of watched = map (λ w. site_shown w.seat) watched

-- each judge is after these turns
abbrev pub AllTell : {J : Type 0} → Telling J → List Entry → List (Watched J) → Type 0
AllTell Tells past watched = AllByRecursion (λ w. Tells w.judge (site_shown w.seat) past) watched

-- One of them, which stands at a place, is after a turn more, and the others are as they were.
pub record IsTurnedAt {J : Type 0} (Tells : Telling J) (e : Entry) (place : ℕ) (old new : List (Watched J))
    : Type 0 where
  pub one : Watched J
  pub next : Watched J
  pub stood : one ≡ get_or old place one
  pub is : new ≡ set old place next
  pub seat : next.seat ≡ one.seat
  pub tells : (past : List Entry) → Tells one.judge (site_shown one.seat) past
      → Tells next.judge (site_shown next.seat) (e ∷ past)
