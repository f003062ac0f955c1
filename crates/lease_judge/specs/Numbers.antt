-- By which number an exchange is known.
use Rattle.std.specs.Prelude.{ℕ, Option}
use Rattle.std.specs.Option.{option_map}
use Rattle.own_frames4.specs.LeaseEvidence.Exchanges.{Numbered, Seen}
use Rattle.lease_judge.specs.Judge.{Granted}

abbrev pub number_of : Numbered → ℕ
number_of opened = opened.number

-- that of the exchange that is open
abbrev pub open_number : Seen → Option ℕ
open_number seen = option_map number_of seen.current

-- that of the exchange whose grant stands
abbrev pub granted_number : Option Granted → Option ℕ
granted_number granted = option_map (λ g. g.opened.number) granted
