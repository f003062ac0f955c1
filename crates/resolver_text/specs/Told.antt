-- Servers that were told: where one is met again, at whatever interface, its text is there already.
use Rattle.std.specs.Prelude.{◌≡◌, ℕ, Bool, true, not, List, All, bytes_eq}
use Rattle.std.specs.List.{list_any}
use Rattle.net_types.specs.declared.interface.Name.{Name}
use Rattle.resolver_text.specs.declared.part.Server.{Server}
use Rattle.resolver_text.specs.declared.part.Server.TheVariants.{V4, V6}
use Rattle.resolver_text.specs.Texts.{is_link_local, server_text}

-- whether a server's text is the same at each interface
abbrev pub needs_no_zone : Server → Bool
needs_no_zone (V4 ip) = true
needs_no_zone (V6 ip) = not (is_link_local ip)

-- the text of each of the servers is among the texts, whatever the interface's name
abbrev pub AreTold : List Server → List (List ℕ) → Type 0
AreTold told texts =
    All (λ server. (name : Name) → list_any (λ other. bytes_eq other (server_text name server)) texts ≡ true) told
