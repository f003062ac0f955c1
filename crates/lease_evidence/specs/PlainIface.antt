-- The interface of the examples.
use Rattle.std.specs.Prelude.{false, [], ◌∷◌, None}
use Rattle.net_types.specs.declared.address.Mac.{Mac}
use Rattle.settings.specs.declared.interfaces.Managed.{Managed}
use Rattle.settings.specs.Dhcp4Settings.{Hardware}
use Rattle.settings.specs.Flags.{no_flags}
use Rattle.settings.specs.HookSettings.{Nothing}
use Rattle.settings.specs.Times.{usual_times}

abbrev pub client_mac : Mac
client_mac = record { bytes = 2 ∷ 0 ∷ 0 ∷ 0 ∷ 0 ∷ 1 ∷ [] }

-- eth0, of which nothing is configured
abbrev pub plain_eth0 : Managed
plain_eth0 = record {
  spec = record {
    index = record { number = 1 };
    name = record { bytes = 101 ∷ 116 ∷ 104 ∷ 48 ∷ 0 ∷ 0 ∷ 0 ∷ 0 ∷ 0 ∷ 0 ∷ 0 ∷ 0 ∷ 0 ∷ 0 ∷ 0 ∷ []; len = 4 };
    mac = client_mac;
  };
  conf = record {
    flags = no_flags;
    times = usual_times;
    metric = None;
    address = None;
    address6 = None;
    router = None;
    dhcp4 =
        record {
          host = [];
          vendor = [];
          identifier = Hardware;
          asked = [];
          refused = [];
          required = [];
          blacklist = [];
        };
    dhcp6 = record { rapid = false; ias = []; shares = [] };
    resolver = record { servers = []; search = []; domain = [] };
    hooks = record { script = Nothing; env = [] };
  };
}
