-- The words of the reasons for which a hook runs, as in dhcpcd-run-hooks(8).
use Rattle.std.specs.Prelude.{ℕ, List, codes}
use Rattle.world.specs.declared.reasons.Reason.{Reason}
use Rattle.world.specs.declared.reasons.Reason.TheVariants.{Preinit, Carrier, NoCarrier, StaticLine, Bound, Reboot, Renew, Rebind, Nak, Expire, Timeout, Ipv4ll, Stop, Stop6, Stopped, Bound6, Reboot6, Renew6, Rebind6, Expire6, Delegated6}

abbrev pub reason_word : Reason → List ℕ
reason_word Preinit = codes "PREINIT"
reason_word Carrier = codes "CARRIER"
reason_word NoCarrier = codes "NOCARRIER"
reason_word StaticLine = codes "STATIC"
reason_word Bound = codes "BOUND"
reason_word Reboot = codes "REBOOT"
reason_word Renew = codes "RENEW"
reason_word Rebind = codes "REBIND"
reason_word Nak = codes "NAK"
reason_word Expire = codes "EXPIRE"
reason_word Timeout = codes "TIMEOUT"
reason_word Ipv4ll = codes "IPV4LL"
reason_word Stop = codes "STOP"
reason_word Stop6 = codes "STOP6"
reason_word Stopped = codes "STOPPED"
reason_word Bound6 = codes "BOUND6"
reason_word Reboot6 = codes "REBOOT6"
reason_word Renew6 = codes "RENEW6"
reason_word Rebind6 = codes "REBIND6"
reason_word Expire6 = codes "EXPIRE6"
reason_word Delegated6 = codes "DELEGATED6"
