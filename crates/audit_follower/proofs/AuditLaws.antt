-- What an auditor holds of all that is kept, after each kind of line.
use Rattle.std.proofs.Common.{ℕ, ◌+◌, Bool, true, false, List, [], ◌∷◌, ◌++◌, ◌≡◌, Option, Some, None, refl, sym, ap, subst, ◌∙◌, map, option_map, min, arith}
use Rattle.net_types.specs.declared.interface.IfSpec.{IfSpec}
use Rattle.world.specs.declared.wakes.Begin.{Begin}
use Rattle.world.specs.declared.wakes.Event.{Event}
use Rattle.world.specs.declared.wakes.Event.TheVariants.{Quiet}
use Rattle.settings.specs.declared.interfaces.Managed.{Managed}
use Rattle.conf_text.specs.Configurations.{Configuration}
use Rattle.conf_text.specs.Settings.{managed_of}
use Rattle.audit_turns.specs.AuditModel.Auditing.{Auditing, Living, begun, first_entry, turned}
use Rattle.audit_sites.specs.declared.opening.Opening.{Opening}
use Rattle.audit_turns.specs.Goings.{Going, GoesOn, going_in}
use Rattle.audit_follower.specs.Holding.{counted}
use Rattle.audit_sites.specs.Openings.{Opens}
use Rattle.audit_sites.specs.Reads.{reads_of}

-- a turn more
pub turn_more : (n m next : ℕ) → n ≡ counted m → next ≡ min (n + 1) 18446744073709551615 → next ≡ counted (m + 1)
turn_more n m next is more = omega (arith, is, more)

-- at the beginning of a turn
pub next_goes_on : (living : Option Living) (going next : Going) (at : ℕ) (event : Event) (bytes : List ℕ) → GoesOn living going
    → next ≡ record going { entry = record { moment = at; event = event; bytes = bytes; offers = [] }; failed = false }
    → GoesOn (option_map (turned at event bytes) living) next
next_goes_on None going next at event bytes goes is = tt
next_goes_on (Some living) going next at event bytes goes is =
    is ∙ ap (λ (g : Going). record g { entry = record { moment = at; event = event; bytes = bytes; offers = [] }; failed = false }) goes

-- at the beginning of a life
pub begun_goes_on : (kept : Auditing) (begin : Begin) (going : Going) (numbers : List ℕ)
    → going ≡ record { entry = record { moment = begin.at; event = Quiet; bytes = []; offers = [] }; failed = false; numbers = numbers; rows = [] }
    → numbers ≡ map (λ m. m.spec.index.number) (managed_of kept.configuration kept.ifaces)
    → GoesOn (Some (begun kept begin)) going
begun_goes_on kept begin going numbers is numbers_are =
    is ∙ ap (λ (all : List ℕ). record { entry = first_entry begin; failed = false; numbers = all; rows = [] }) numbers_are

pub begun_opens : (kept : Auditing) (begin : Begin) (opening : Opening) → opening.managed ≡ managed_of kept.configuration kept.ifaces
    → opening.own.items ≡ map (λ spec. spec.mac) kept.ifaces → opening.begin ≡ begin → reads_of opening.reads.items ≡ []
    → Opens opening (begun kept begin)
begun_opens kept begin opening managed own begin_is reads = record { managed = managed; own = own; begin = begin_is; reads = reads; first = refl }
