-- What is kept of an interface is taken for a turn, and brought up to date after it.
use Rattle.std.specs.Prelude.{◌≡◌, ◌<◌, ℕ, ◌+◌, ◌*◌, ◌||◌, [], length, slice_index_or, slice_set}
use Rattle.resolver_text.specs.Parts.{parts_content}
use Rattle.client_core.specs.Due.{PutsMoments, dues_of, is_taken}
use Rattle.timer_queue.specs.Moments.{due_after}
use Rattle.client_core.specs.declared.places.Places.{Places}
use Rattle.client_model.specs.declared.interfaces.Iface.{Iface}
use Rattle.client_model.specs.IfaceTurns.{Turn}
use Rattle.client_model.specs.WantedRows.{iface_rows}
use Rattle.client_core.specs.declared.kept.Kept.{Kept}
use Rattle.client_core.specs.declared.kept.Renewed.{Renewed}
use Rattle.client_core.specs.Leading.{Alters}
use Rattle.client_core.specs.Resting.{Finds, is_called}
use Rattle.client_core.specs.ToldParts.{told_with}
use Rattle.client_core.specs.Touched.{Compares}

-- there is such a place
pub record HasPlace (place : ℕ) (kept : Kept) : Type 0 where
  pub rows : place < length kept.tables
  pub told : 2 * place + 1 < length kept.parts.items

-- what is kept at a place is that of this interface
pub record IsAt (place : ℕ) (iface : Iface) (kept : Kept) : Type 0 where
  pub rows : slice_index_or kept.tables place [] ≡ iface_rows iface
  pub told : told_with place iface (parts_content kept.parts.items) ≡ parts_content kept.parts.items

-- the interfaces that are due or called are at these places, and no others, and what is due is taken out
pub record Takes (turn : Turn) (places : Places) (old new : Kept) : Type 0 where
  pub busy : Finds (λ place index. is_taken turn.at old.dues place || is_called index turn) old.named places
  pub rows : new.tables ≡ old.tables
  pub told : parts_content new.parts.items ≡ parts_content old.parts.items
  pub left : new.dues ≡ due_after turn.at old.dues
  pub named : new.named ≡ old.named

-- what is kept at a place has become that of this interface
pub record Renews (place : ℕ) (iface : Iface) (renewed : Renewed) (old new : Kept) : Type 0 where
  pub rows : new.tables ≡ slice_set old.tables place (iface_rows iface)
  pub told : parts_content new.parts.items ≡ told_with place iface (parts_content old.parts.items)
  pub due : PutsMoments place (dues_of iface) old.dues new.dues
  pub named : new.named ≡ old.named
  pub compares : Compares renewed.resolver (parts_content old.parts.items) (parts_content new.parts.items)
  pub alters : Alters renewed.rows old.tables new.tables
