-- The rules on the shares of a line: one length, each within the prefix that is asked for, and no two with one SLA id.
use Rattle.std.specs.Prelude.{◌≡◌, ◌+◌, Bool, true, IsTrue, ◌==◌, ◌&&◌, not, List, [], ◌∷◌, ◌++◌, length, Option, Some, None, if◌then◌else◌}
use Rattle.std.specs.List.{list_all, list_any}
use Rattle.prefix_share.specs.declared.share.Share.{Share}
use Rattle.prefix_share.specs.declared.rules.ShareCause.{ShareCause}
use Rattle.prefix_share.specs.declared.rules.ShareCause.TheVariants.{SameSla, TooLarge, MixedLength}
use Rattle.prefix_share.specs.declared.rules.ShareFault.{ShareFault}
use Rattle.prefix_share.specs.Subnets.{has_room}

-- whether two shares can stand in one line
abbrev pub go_together : Share → Share → Bool
go_together one other = (one.len == other.len) && not (one.sla == other.sla)

-- whether shares obey the rules
abbrev pub is_plan : List Share → Bool
is_plan [] = true
is_plan (share ∷ shares) = has_room share.hint share && list_all (go_together share) shares && is_plan shares

-- whether an earlier share has another length
abbrev pub mixes_lengths : List Share → Share → Bool
mixes_lengths earlier share = list_any (λ other. not (other.len == share.len)) earlier

-- whether an earlier share has the same SLA id
abbrev pub repeats_sla : List Share → Share → Bool
repeats_sla earlier share = list_any (λ other. other.sla == share.sla) earlier

-- the first rule that a share breaks with those before it
abbrev pub broken_by : List Share → Share → Option ShareCause
broken_by earlier share =
    if mixes_lengths earlier share then Some MixedLength
    else (if not (has_room share.hint share) then Some TooLarge
    else (if repeats_sla earlier share then Some SameSla else None))

-- the shares before it obey the rules, and it breaks this one first; it is counted from 1
pub record IsFirstFault (shares : List Share) (fault : ShareFault) : Type 0 where
  pub before : List Share
  pub share : Share
  pub after : List Share
  pub parts : shares ≡ before ++ share ∷ after
  pub obeyed : IsTrue (is_plan before)
  pub broken : broken_by before share ≡ Some fault.cause
  pub place : fault.share ≡ length before + 1
