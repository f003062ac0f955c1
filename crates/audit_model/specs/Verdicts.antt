-- Whether all addresses that a transcript shows on managed interfaces have their basis, and which is the first that has
-- none.
use Rattle.std.specs.Prelude.{◌≡◌, ◌≢◌, ℕ, ◌+◌, true, false, List, [], ◌∷◌, ◌++◌, sum_by, length}
use Rattle.std.specs.List.{AllByRecursion}
use Rattle.std.specs.Ordering.{is_lt}
use Rattle.net_types.specs.declared.address.Net.{Net}
use Rattle.net_types.specs.declared.interface.IfIndex.{IfIndex}
use Rattle.net_types.specs.FirstBadLine.{IsSpelled}
use Rattle.world.specs.declared.rows.HostRow.{HostRow}
use Rattle.world.specs.declared.rows.HostRow.TheVariants.{Addr}
use Rattle.world.specs.RowOrder.{has_row, row_cmp}
use Rattle.settings.specs.declared.interfaces.Managed.{Managed}
use Rattle.settings.specs.ManagedRows.{is_managed}
use Rattle.evidence_words.specs.Entries.{Entry}
use Rattle.evidence_words.specs.Inputs.{Site}
use Rattle.transcript_read.specs.TranscriptModel.Told.{Told, LifeTold, TurnTold}
use Rattle.transcript_read.specs.TranscriptModel.Transcripts.{SpellsTold}
use Rattle.audit_model.specs.Showing.{Shown, managed_told, shown_after, shown_at_first, site_told}

-- What it is to be that an address on an interface rests on what was shown, given the managed interfaces and what is
-- known of each.
abbrev pub BasisWord : Type 1
BasisWord = List Managed → (Managed → Site) → List Entry → IfIndex → Net → Type 0

-- ---- a turn

-- a row that is shown of a managed interface
pub record IsShown (managed : List Managed) (shown : Shown) (row : HostRow) : Type 0 where
  pub managed_row : is_managed managed row ≡ true
  pub has : has_row shown.rows row ≡ true

abbrev pub RestsThen : BasisWord → List Managed → (Managed → Site) → Shown → IfIndex → Net → Type 0
RestsThen Rests managed sites shown index net = Rests managed sites (shown.entry ∷ shown.past) index net

-- Each address that is shown of a managed interface has its basis, unless a call of the host failed in the turn.
abbrev pub IsJust : BasisWord → List Managed → (Managed → Site) → Shown → Type 0
IsJust Rests managed sites shown = shown.failed ≡ false → (index : IfIndex) (net : Net)
    → IsShown managed shown (Addr index net) → RestsThen Rests managed sites shown index net

-- No call of the host failed in the turn, and the row is the first in row order of the addresses that are shown of
-- managed interfaces and have no basis.
pub record IsUnjust (Rests : BasisWord) (managed : List Managed) (sites : Managed → Site) (shown : Shown)
    (row : HostRow) : Type 0 where
  pub judged : shown.failed ≡ false
  pub index : IfIndex
  pub net : Net
  pub is_address : row ≡ Addr index net
  pub is_shown : IsShown managed shown row
  pub lacks : RestsThen Rests managed sites shown index net → ⊥
  pub before : (other : IfIndex) (address : Net) → IsShown managed shown (Addr other address)
      → is_lt (row_cmp (Addr other address) row) ≡ true → RestsThen Rests managed sites shown other address

-- ---- a life

abbrev pub JustAfter : BasisWord → Told → LifeTold → List TurnTold → Type 0
JustAfter Rests told life front =
    IsJust Rests (managed_told told) (site_told told life) (shown_after (shown_at_first life) front)

-- so after the opening and after each turn
abbrev pub LifeIsJust : BasisWord → Told → LifeTold → Type 0
LifeIsJust Rests told life = (front rest : List TurnTold) → life.turns ≡ front ++ rest → JustAfter Rests told life front

-- ---- a transcript

abbrev pub Justified : BasisWord → Told → Type 0
Justified Rests told = AllByRecursion (LifeIsJust Rests told) told.body.lives

-- The row is the first without basis, after this turn of this life: lives are counted from 1 and turns too, and the
-- opening is turn 0.
pub record FirstUnjust (Rests : BasisWord) (told : Told) (number turn : ℕ) (row : HostRow) : Type 0 where
  pub earlier : List LifeTold
  pub life : LifeTold
  pub later : List LifeTold
  pub lives : told.body.lives ≡ earlier ++ life ∷ later
  pub numbered : number ≡ length earlier + 1
  pub earlier_just : AllByRecursion (LifeIsJust Rests told) earlier
  pub front : List TurnTold
  pub rest : List TurnTold
  pub turns : life.turns ≡ front ++ rest
  pub counted : turn ≡ length front
  pub front_just : (shorter more : List TurnTold) → front ≡ shorter ++ more → more ≢ []
      → JustAfter Rests told life shorter
  pub unjust : IsUnjust Rests (managed_told told) (site_told told life) (shown_after (shown_at_first life) front) row

abbrev pub turns_told : Told → ℕ
turns_told told = sum_by (λ life. length life.turns) told.body.lives

-- ---- a text

-- The text is a transcript, of so many lives and of so many turns in all of them, and each address that it shows has
-- its basis.
pub record IsYes (Rests : BasisWord) (text : List ℕ) (lives turns : ℕ) : Type 0 where
  pub told : Told
  pub spelled : IsSpelled SpellsTold text told
  pub just : Justified Rests told
  pub lives_are : lives ≡ length told.body.lives
  pub turns_are : turns ≡ turns_told told

-- The text is a transcript, and this is the first address that it shows without basis.
pub record IsNo (Rests : BasisWord) (text : List ℕ) (life turn : ℕ) (row : HostRow) : Type 0 where
  pub told : Told
  pub spelled : IsSpelled SpellsTold text told
  pub first : FirstUnjust Rests told life turn row
