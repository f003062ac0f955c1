-- What a client reads of the options of an ACK.
use Rattle.std.specs.Prelude.{ℕ, ◌≡◌, ◌<◌, ◌≤◌, ◌-◌, ◌^◌, List, [], ◌∷◌, ◌++◌, length, map, replicate, Option, Some, None, IfSome}
use Rattle.std.specs.Int.{w32, from_be_bytes}
use Rattle.std.specs.List.{AllByRecursion}
use Rattle.std.specs.Option.{option_and_then}
use Rattle.net_types.specs.declared.address.Ip4.{Ip4}
use Rattle.net_types.specs.Networks.{network_of}
use Rattle.v4_options.specs.declared.code.TheConstants.{SUBNET_MASK, ROUTERS, DOMAIN_NAME_SERVERS, INTERFACE_MTU, BROADCAST_ADDRESS, NTP_SERVERS, RENEWAL_TIME, REBINDING_TIME, DOMAIN_SEARCH, CLASSLESS_ROUTES}
use Rattle.v4_options.specs.declared.routes.ClasslessRoute.{ClasslessRoute}
use Rattle.v4_options.specs.OptionArea.{Instance}
use Rattle.v4_options.specs.OptionValue.{value_of}
use Rattle.v4_options.specs.Numbers.{u16_in, addrs_in, number_at, address_at}
use Rattle.v4_options.specs.Routes.{routes_in}
use Rattle.granted_values.specs.AckValues.{SentRoute, AckValues}
use Rattle.granted_values.specs.ValueTexts.{addresses_text, octets_of, routes_text}

-- a list, where it has an element
abbrev pub if_any : {A : Type 0} → List A → Option (List A)
if_any [] = None
if_any (first ∷ others) = Some (first ∷ others)

-- the bytes of a destination that aren't sent are 0, and no bit past its width counts
abbrev pub route_given : SentRoute → ClasslessRoute
route_given route = record {
  dest =
      network_of
      (record {
        ip = record { number = from_be_bytes w32 (route.sent ++ replicate (4 - length route.sent) 0) };
        len = route.width;
      });
  via = route.via;
}

pub record AreRead (instances : List Instance) (values : AckValues) : Type 0 where
  pub mask : address_at SUBNET_MASK instances ≡ values.mask
  pub routers : option_and_then addrs_in (value_of ROUTERS instances) ≡ if_any values.routers
  pub dns : option_and_then addrs_in (value_of DOMAIN_NAME_SERVERS instances) ≡ if_any values.dns
  pub mtu : option_and_then u16_in (value_of INTERFACE_MTU instances) ≡ values.mtu
  pub broadcast : address_at BROADCAST_ADDRESS instances ≡ values.broadcast
  pub ntp : option_and_then addrs_in (value_of NTP_SERVERS instances) ≡ if_any values.ntp
  pub t1 : number_at RENEWAL_TIME instances ≡ values.t1
  pub t2 : number_at REBINDING_TIME instances ≡ values.t2
  pub search : value_of DOMAIN_SEARCH instances ≡ values.search
  pub routes : option_and_then routes_in (value_of CLASSLESS_ROUTES instances) ≡ if_any (map route_given values.routes)

-- ---- in range: each number has its width, and each value a length that one byte holds

abbrev pub FitsValue : List ℕ → Type 0
FitsValue value = length value < 256

abbrev pub FitsAddress : Ip4 → Type 0
FitsAddress ip = ip.number < 2 ^ 32

pub record FitsRoute (route : SentRoute) : Type 0 where
  pub width : route.width ≤ 32
  pub sent : length route.sent ≡ octets_of route.width
  pub via : FitsAddress route.via

pub record FitAddresses (addresses : List Ip4) : Type 0 where
  pub each : AllByRecursion FitsAddress addresses
  pub size : FitsValue (addresses_text addresses)

pub record FitsAck (values : AckValues) : Type 0 where
  pub mask : IfSome values.mask FitsAddress
  pub routers : FitAddresses values.routers
  pub dns : FitAddresses values.dns
  pub mtu : IfSome values.mtu (λ n. n < 2 ^ 16)
  pub broadcast : IfSome values.broadcast FitsAddress
  pub ntp : FitAddresses values.ntp
  pub t1 : IfSome values.t1 (λ n. n < 2 ^ 32)
  pub t2 : IfSome values.t2 (λ n. n < 2 ^ 32)
  pub search : IfSome values.search FitsValue
  pub routes : AllByRecursion FitsRoute values.routes
  pub routes_size : FitsValue (routes_text values.routes)
