-- What a hook is told of, by its reason.
use Rattle.std.specs.Prelude.{ℕ, Bool, true, false, List, codes}
use Rattle.world.specs.declared.reasons.Reason.{Reason}
use Rattle.world.specs.declared.reasons.Reason.TheVariants.{Preinit, Carrier, NoCarrier, StaticLine, Bound, Reboot, Renew, Rebind, Nak, Expire, Timeout, Ipv4ll, Stop, Stop6, Stopped, Bound6, Reboot6, Renew6, Rebind6, Expire6, Delegated6}
use Rattle.hook_env.specs.declared.situation.Stage.{Stage}
use Rattle.hook_env.specs.declared.situation.Stage.TheVariants.{Before, Now}

-- the names of the variables of what was held before, and of what is held now, begin so
abbrev pub prefix : Stage → List ℕ
prefix Before = codes "old_"
prefix Now = codes "new_"

-- what was held is told where it is kept, changed or lost
abbrev pub tells_before : Reason → Bool
tells_before Preinit = false
tells_before Carrier = false
tells_before NoCarrier = false
tells_before StaticLine = false
tells_before Bound = false
tells_before Reboot = false
tells_before Renew = true
tells_before Rebind = true
tells_before Nak = true
tells_before Expire = true
tells_before Timeout = false
tells_before Ipv4ll = false
tells_before Stop = true
tells_before Stop6 = true
tells_before Stopped = false
tells_before Bound6 = false
tells_before Reboot6 = false
tells_before Renew6 = true
tells_before Rebind6 = true
tells_before Expire6 = true
tells_before Delegated6 = false

-- what is held is told where it was acquired or kept
abbrev pub tells_now : Reason → Bool
tells_now Preinit = false
tells_now Carrier = false
tells_now NoCarrier = false
tells_now StaticLine = true
tells_now Bound = true
tells_now Reboot = true
tells_now Renew = true
tells_now Rebind = true
tells_now Nak = false
tells_now Expire = false
tells_now Timeout = false
tells_now Ipv4ll = true
tells_now Stop = false
tells_now Stop6 = false
tells_now Stopped = false
tells_now Bound6 = true
tells_now Reboot6 = true
tells_now Renew6 = true
tells_now Rebind6 = true
tells_now Expire6 = false
tells_now Delegated6 = true
