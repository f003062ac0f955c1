-- Each value of an ACK is read back.
use Rattle.std.proofs.Common.{◌≡◌, ℕ, [], ap, ◌∙◌}
use Rattle.std.specs.Option.{option_and_then}
use Rattle.v4_options.specs.Numbers.{u16_in, u32_in, addr_in, addrs_in}
use Rattle.v4_options.specs.Routes.{routes_in}
use Rattle.v4_client.specs.Granting.{mask_taken, times_of, times_taken}
use Rattle.granted_values.specs.AckValues.{AckValues}
use Rattle.granted_values.specs.ValueTexts.{ack_options}
use Rattle.granted_values.specs.ReadBack.{AreRead, FitsAck}
use Rattle.granted_values.proofs.Spelled.{only_value, value_found}
use Rattle.granted_values.proofs.NumbersRead.{number16_back, number_back, address_back, addresses_back}
use Rattle.granted_values.proofs.RoutesRead.{routes_back}

pub values_read : (values : AckValues) → FitsAck values → AreRead (ack_options values) values
values_read values fits = record {
  mask = ap (option_and_then addr_in) (value_found 1 values ∙ only_value _) ∙ address_back values.mask fits.mask;
  routers = ap (option_and_then addrs_in) (value_found 3 values ∙ only_value _) ∙ addresses_back values.routers fits.routers.each;
  dns = ap (option_and_then addrs_in) (value_found 6 values ∙ only_value _) ∙ addresses_back values.dns fits.dns.each;
  mtu = ap (option_and_then u16_in) (value_found 26 values ∙ only_value _) ∙ number16_back values.mtu fits.mtu;
  broadcast = ap (option_and_then addr_in) (value_found 28 values ∙ only_value _) ∙ address_back values.broadcast fits.broadcast;
  ntp = ap (option_and_then addrs_in) (value_found 42 values ∙ only_value _) ∙ addresses_back values.ntp fits.ntp.each;
  t1 = ap (option_and_then u32_in) (value_found 58 values ∙ only_value _) ∙ number_back values.t1 fits.t1;
  t2 = ap (option_and_then u32_in) (value_found 59 values ∙ only_value _) ∙ number_back values.t2 fits.t2;
  search = value_found 119 values ∙ only_value values.search;
  routes = ap (option_and_then routes_in) (value_found 121 values ∙ only_value _) ∙ routes_back values.routes fits.routes;
}

pub mask_read : (values : AckValues) → FitsAck values → mask_taken [] (ack_options values) ≡ values.mask
mask_read values fits = (values_read values fits).mask

pub times_read : (values : AckValues) → FitsAck values → (lease : ℕ) → times_taken [] (ack_options values) lease ≡ times_of lease values.t1 values.t2
times_read values fits lease = λ i. times_of lease ((values_read values fits).t1 i) ((values_read values fits).t2 i)
