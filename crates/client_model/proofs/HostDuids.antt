-- The DUID of the host is one, whatever its file says.
use Rattle.std.proofs.Common.{ℕ, ◌≡◌, List, ◌∷◌, length, Option, Some, None, option_and_then, refl, arith}
use Rattle.std.specs.Prelude.{unwrap_or}
use Rattle.std.proofs.lemmas.Option.{none-some}
use Rattle.net_types.specs.declared.address.Mac.{Mac}
use Rattle.net_types.specs.AddressText.{FitsMac}
use Rattle.net_types.specs.Marks.{AreBytes}
use Rattle.net_types.proofs.HexLaws.{cons_bytes}
use Rattle.duid_text.specs.DuidTexts.{duid_spelled, link_layer_duid}
use Rattle.duid_text.proofs.DuidLaws.{spells_one}
use Rattle.v6_client.specs.Lease6Text.Bounds.{IsDuid}
use Rattle.world.specs.StoreCalls.{Reading, Found, Missing, Unread}
use Rattle.client_model.specs.Fitting.{HostDuidFits}
use Rattle.client_model.specs.HostDuid.{duid_by, made_duid}

link_layer_fits : (mac : Mac) → FitsMac mac → IsDuid (link_layer_duid mac)
link_layer_fits mac fits =
    let six : length mac.bytes ≡ 6 = fits.six in
    let of_ethernet : AreBytes (1 ∷ mac.bytes) = cons_bytes 1 mac.bytes (omega arith) fits.range in
    let numbered : AreBytes (0 ∷ 1 ∷ mac.bytes) = cons_bytes 0 (1 ∷ mac.bytes) (omega arith) of_ethernet in
    record {
      least = omega arith;
      most = omega arith;
      octets = cons_bytes 0 (3 ∷ 0 ∷ 1 ∷ mac.bytes) (omega arith) (cons_bytes 3 (0 ∷ 1 ∷ mac.bytes) (omega arith) numbered);
    }

-- each value that was found
abbrev AreDuids : Option (List ℕ) → Type 0
AreDuids found = (bytes : List ℕ) → found ≡ Some bytes → IsDuid bytes

spelled_fits : (text : List ℕ) → AreDuids (duid_spelled text)
spelled_fits text bytes e =
    let spelled = spells_one text bytes e in
    record { least = spelled.1.least; most = spelled.1.most; octets = spelled.1.range }

read_fits : (reading : Reading) → AreDuids (duid_by reading)
read_fits (Found text) bytes e = spelled_fits text bytes e
read_fits Missing bytes e = absurd (none-some bytes e)
read_fits Unread bytes e = absurd (none-some bytes e)

some_read_fits : (read : Option Reading) → AreDuids (option_and_then duid_by read)
some_read_fits None bytes e = absurd (none-some bytes e)
some_read_fits (Some reading) bytes e = read_fits reading bytes e

else_made : (found : Option (List ℕ)) (made : List ℕ) → AreDuids found → IsDuid made → IsDuid (unwrap_or found made)
else_made None made are is = is
else_made (Some bytes) made are is = are bytes refl

pub host_duid_fits : HostDuidFits
host_duid_fits managed others read fits =
    else_made (option_and_then duid_by read) (made_duid (managed ∷ others)) (some_read_fits read) (link_layer_fits managed.spec.mac fits)
