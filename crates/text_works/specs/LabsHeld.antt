-- That no two clients of a lab hold one leased address at one moment (RFC 2131, section 2.2), told of the text that
-- `lab` writes.
use Rattle.std.specs.Prelude.{ℕ, ◌≡◌, List, [], ◌++◌, Option, codes}
use Rattle.net_types.specs.TextLines.{Line, ended}
use Rattle.settings.specs.declared.interfaces.Managed.{Managed}
use Rattle.conf_text.specs.Settings.{managed_of}
use Rattle.daemon.specs.Streams.{WritesBytes}
use Rattle.lab_schedule.specs.Schedules.{Schedule}
use Rattle.lab_laws.specs.LabModel.LabLines.{lab_lines}
use Rattle.lab_laws.specs.LabModel.Labs.{lab_opened}
use Rattle.lab_laws.specs.HeldInLabs.{ApartFrom, EachEndsWithBinding, EndAfterTurns}
use Rattle.text_works.specs.Input.{IsInput}
use Rattle.text_works.specs.Labs.{IsLabOf}

-- the last line of a text
pub record EndsWith (line : Line) (text : List ℕ) : Type 0 where
  pub front : List ℕ
  pub is : text ≡ front ++ ended line

-- The `lease` lines below each `at` line have unlike addresses. No lease that is held at the start, or after a turn of
-- the clients, outlasts the server's binding.
pub record HoldsApart (managed : List Managed) (schedule : Schedule) : Type 0 where
  pub apart : ApartFrom [] (lab_lines managed schedule)
  pub start_ends : EachEndsWithBinding (lab_opened managed schedule).lab
  pub turns_end : EndAfterTurns schedule.events (lab_opened managed schedule).lab

-- so in a lab with this text, where that ends with `xids unlike`
abbrev pub HoldsApartIn : {bytes text : List ℕ} → IsLabOf bytes text → Type 0
HoldsApartIn {text = text} lab =
    EndsWith (codes "xids unlike") text → HoldsApart (managed_of lab.conf lab.schedule.ifaces) lab.schedule

abbrev pub LabsHoldApart : Type 0
LabsHoldApart = (bytes text : List ℕ) (lab : IsLabOf bytes text) → HoldsApartIn lab

-- the input is a lab, and its text was written
pub record IsHeldApart (input old new : Option (List ℕ)) : Type 0 where
  pub bytes : List ℕ
  pub text : List ℕ
  pub read : IsInput input bytes
  pub lab : IsLabOf bytes text
  pub written : WritesBytes old new text
  pub apart : HoldsApartIn lab
