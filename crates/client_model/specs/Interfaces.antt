-- One interface: its carrier, its machines, and the steps that it makes.
use Rattle.std.specs.Prelude.{ℕ, Bool, true, false, if◌then◌else◌, [], ◌∷◌, Option}
use Rattle.ipv4ll.specs.Table as local
use Rattle.ipv4ll.specs.Table.{ll_restarts, off}
use Rattle.v4_client.specs.declared.states.Tell.{Tell}
use Rattle.v4_client.specs.declared.states.Tell.TheVariants.{Server, Nobody}
use Rattle.v4_client.specs.Calls.{unsent_step}
use Rattle.v4_client.specs.Clients.{client_made}
use Rattle.v6_client.specs.Calls as lease6
use Rattle.v6_client.specs.Clients as client6
use Rattle.v4_client.specs.Due as lease
use Rattle.v4_client.specs.Moments.{earlier}
use Rattle.settings.specs.declared.interfaces.IfConf.{IfConf}
use Rattle.script_model.specs.IfaceSets.{is_in, is_up}
use Rattle.client_model.specs.declared.interfaces.Iface.{Iface}
use Rattle.client_model.specs.declared.steps.News.TheVariants.{Opened, CarrierCame, CarrierWent, Released, Stopped}
use Rattle.client_model.specs.declared.steps.News.{News}
use Rattle.client_model.specs.declared.machines.TimedMachine.{TimedMachine}
use Rattle.client_model.specs.declared.machines.TimedMachine.TheVariants.{Dhcp4, LinkLocal, Dhcp6}
use Rattle.client_model.specs.ClientSettings.{settings_of}
use Rattle.client_model.specs.ClientSettings6.{settings6_of}
use Rattle.client_model.specs.Dhcp4Steps.{arms, begin_dhcp4, begin_local, rebind_dhcp4, drop_dhcp4, stop_dhcp4, tick_dhcp4}
use Rattle.client_model.specs.Dhcp6Steps.{begin_dhcp6, rebind_dhcp6, drop_dhcp6, stop_dhcp6, tick_dhcp6}
use Rattle.client_model.specs.IfaceSteps.{IfaceStep, index_of, silent, then_step, with_news}
use Rattle.client_model.specs.KeptLeases.{Beginning}
use Rattle.client_model.specs.LocalSteps.{local_off, tick_local}

-- machines that are off begin
abbrev pub begins : (at salt : ℕ) → Iface → IfaceStep
begins at salt iface = then_step (then_step (begin_dhcp4 at salt iface) (begin_local at)) (begin_dhcp6 at salt)

-- the machines are off, and nobody is told
abbrev pub machines_drop : (at salt : ℕ) → Iface → IfaceStep
machines_drop at salt iface = then_step (then_step (drop_dhcp4 at salt iface) local_off) (drop_dhcp6 at salt)

-- the machines stop
abbrev pub machines_stop : Tell → (at salt : ℕ) → Iface → IfaceStep
machines_stop tell at salt iface =
    then_step (then_step (stop_dhcp4 tell at salt iface) local_off) (stop_dhcp6 tell at salt)

-- ---- the opening

-- an interface before its opening
abbrev pub resting : Beginning → Iface
resting beginning = record {
  managed = beginning.managed;
  up = false;
  stopped = false;
  dhcp4 = client_made (settings_of beginning.duid beginning.managed) beginning.kept4;
  local = off beginning.managed.spec.index;
  dhcp6 = client6.client_made (settings6_of beginning.duid beginning.managed) beginning.kept6;
}

abbrev pub carrier_comes : (at salt : ℕ) → Iface → IfaceStep
carrier_comes at salt iface = with_news CarrierCame iface (begins at salt (record iface { up = true }))

-- the opening is told with the carrier that there is
abbrev pub opening_told : (up : Bool) → Iface → IfaceStep
opening_told up iface = record {
  iface = iface;
  said = [];
  reports = record { before = iface; news = Opened; after = record iface { up = up } } ∷ [];
}

abbrev pub carrier_at_opening : (up : Bool) → (at salt : ℕ) → Iface → IfaceStep
carrier_at_opening true at salt iface = carrier_comes at salt iface
carrier_at_opening false at salt iface = silent iface

-- Where it has carrier at the opening, this is a carrier that comes. No machine ticks.
abbrev pub opened : (up at salt : ℕ) → Beginning → IfaceStep
opened up at salt beginning =
    let has = is_up up beginning.managed.spec.index.number in
    then_step (opening_told has (resting beginning)) (carrier_at_opening has at salt)

-- ---- ticks

-- a frame of the interface couldn't be sent in the turn before
abbrev pub restarted : (at salt : ℕ) → Iface → Iface
restarted at salt iface =
    record iface { dhcp4 = unsent_step at salt iface.dhcp4; local = ll_restarts iface.local at salt }

abbrev pub unsent_in : (set at salt : ℕ) → Iface → Iface
unsent_in set at salt iface = if is_in set (index_of iface) then restarted at salt iface else iface

abbrev pub machine_due : TimedMachine → Iface → Option ℕ
machine_due Dhcp4 iface = lease.due_of iface.dhcp4.state
machine_due LinkLocal iface = local.due_of iface.local.state
machine_due Dhcp6 iface = lease6.due_of iface.dhcp6

abbrev pub machine_ticked : TimedMachine → (at salt : ℕ) → Iface → IfaceStep
machine_ticked Dhcp4 at salt iface = tick_dhcp4 at salt iface
machine_ticked LinkLocal at salt iface = tick_local at salt iface
machine_ticked Dhcp6 at salt iface = tick_dhcp6 at salt iface

-- all machines tick in order, due or not
abbrev pub ticked : (at salt : ℕ) → Iface → IfaceStep
ticked at salt iface =
    then_step (then_step (machine_ticked Dhcp4 at salt iface) (machine_ticked LinkLocal at salt))
    (machine_ticked Dhcp6 at salt)

-- the earliest moment at which a machine of the interface is due
abbrev pub iface_due : Iface → Option ℕ
iface_due iface = earlier (earlier (machine_due Dhcp4 iface) (machine_due LinkLocal iface)) (machine_due Dhcp6 iface)

-- ---- inputs

abbrev pub carrier_goes : (at salt : ℕ) → Iface → IfaceStep
carrier_goes at salt iface = with_news CarrierWent iface (machines_drop at salt (record iface { up = false }))

-- The carrier comes or goes. One that is as before changes nothing.
abbrev pub carried : (at salt : ℕ) → (up : Bool) → Iface → IfaceStep
carried at salt true iface = if iface.up then silent iface else carrier_comes at salt iface
carried at salt false iface = if iface.up then carrier_goes at salt iface else silent iface

-- what is held is given back, and its server is told
abbrev pub released : (at salt : ℕ) → Iface → IfaceStep
released at salt iface = with_news Released iface (machines_stop Server at salt iface)

-- a lease that is held is confirmed anew, and machines that are off begin
abbrev pub machines_rebind : (at salt : ℕ) → Iface → IfaceStep
machines_rebind at salt iface = then_step (then_step (rebind_dhcp4 at salt iface) (arms at)) (rebind_dhcp6 at salt)

-- so where there is carrier
abbrev pub rebound : (at salt : ℕ) → Iface → IfaceStep
rebound at salt iface = if iface.up then machines_rebind at salt iface else silent iface

-- whether the server of a held lease is told at a stop
abbrev pub told_at_stop : IfConf → Tell
told_at_stop conf = if conf.flags.release then Server else Nobody

-- something new that changes nothing more
abbrev pub tells : News → Iface → IfaceStep
tells news iface = with_news news iface (silent iface)

-- nothing is in force after a stop, which is told last
abbrev pub halted : (at salt : ℕ) → Iface → IfaceStep
halted at salt iface =
    then_step (machines_stop (told_at_stop iface.managed.conf) at salt (record iface { stopped = true }))
    (tells Stopped)
