-- Directives of one word: none of them, and those of two scopes together.
use Rattle.std.specs.Prelude.{false, ◌||◌}
use Rattle.settings.specs.declared.flags.Flags.{Flags}

abbrev pub no_flags : Flags
no_flags = record {
  ipv4only = false;
  ipv6only = false;
  nodhcp = false;
  nodhcp6 = false;
  noipv4ll = false;
  noarp = false;
  nodelay = false;
  broadcast = false;
  release = false;
  persistent = false;
}

-- on in either
abbrev pub either : Flags → Flags → Flags
either one other = record {
  ipv4only = one.ipv4only || other.ipv4only;
  ipv6only = one.ipv6only || other.ipv6only;
  nodhcp = one.nodhcp || other.nodhcp;
  nodhcp6 = one.nodhcp6 || other.nodhcp6;
  noipv4ll = one.noipv4ll || other.noipv4ll;
  noarp = one.noarp || other.noarp;
  nodelay = one.nodelay || other.nodelay;
  broadcast = one.broadcast || other.broadcast;
  release = one.release || other.release;
  persistent = one.persistent || other.persistent;
}
