-- What a client says of itself fits its options.
use Rattle.std.proofs.Common.{ℕ, ◌≡◌, ◌<◌, ◌≤◌, List, length, take, refl, arith}
use Rattle.std.specs.Int.{w32, to_be_bytes}
use Rattle.std.proofs.lemmas.List.{length-append, length-take}
use Rattle.net_types.specs.declared.interface.IfSpec.{IfSpec}
use Rattle.v6_client.specs.Lease6Text.Bounds.{IsDuid}
use Rattle.v4_client.specs.V4Message.Requests.{AskFits}
use Rattle.settings.specs.declared.interfaces.Managed.{Managed}
use Rattle.settings.specs.Dhcp4Settings.{IdentifierContent, Hardware, Bytes, Duid, FitsIdentifier}
use Rattle.settings.specs.Fitting.{FitsManaged}
use Rattle.client_model.specs.ClientSettings.{ask_of, codes_of, identifier_by}

few : (codes : List ℕ) → length (take 64 codes) < 256
few codes = omega (arith, length-take 64 codes)

iaid_len : (iaid : ℕ) → length (to_be_bytes w32 iaid) ≡ 4
iaid_len iaid = refl

identifier_fits : (identifier : IdentifierContent) (duid : List ℕ) (spec : IfSpec) → length spec.mac.bytes ≡ 6 → length duid ≤ 130
    → FitsIdentifier identifier → length (identifier_by duid spec identifier) < 256
identifier_fits Hardware duid spec six most fits = omega arith
identifier_fits (Bytes bytes) duid spec six most fits = fits
identifier_fits Duid duid spec six most fits =
    let parts = length-append (to_be_bytes w32 spec.index.number) duid in
    let four = iaid_len spec.index.number in
    omega (arith, parts, four)

pub ask_fits : (duid : List ℕ) (managed : Managed) → IsDuid duid → FitsManaged managed → AskFits (ask_of duid managed)
unfolding codes_of
ask_fits duid managed is fits = record {
  client_id = identifier_fits managed.conf.dhcp4.identifier duid managed.spec fits.mac.six is.most fits.dhcp4.identifier;
  vendor = fits.dhcp4.vendor;
  host = fits.dhcp4.host;
  list = few _;
}
