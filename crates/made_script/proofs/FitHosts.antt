-- The interfaces of the host are those of a script.
use Rattle.std.specs.Prelude.{AllPairs}
use Rattle.std.proofs.Common.{◌≡◌, ℕ, zero, suc, ◌+◌, ◌<◌, ◌≤◌, map, get_or, refl, ap, subst, arith}
use Rattle.std.proofs.lemmas.List.Elements.{All-from_recursion}
use Rattle.std.proofs.lemmas.List.Kept.{AllPairs-cons}
use Rattle.net_types.specs.declared.address.Mac.{Mac}
use Rattle.net_types.specs.AddressText.{FitsMac}
use Rattle.udp_frame.proofs.Cells.{all_bytes}
use Rattle.script_model.specs.Lines.{numbers_from}
use Rattle.script_model.specs.Scripts.{CountsFrom, Unlike, FitInterfaces}
use Rattle.replay_text.proofs.Grown.{pairs_none}
use Rattle.made_script.specs.MadeHosts.{own_mac, iface_of, made_ifaces}
use Rattle.made_script.proofs.OwnNames.{own_fits, own_alone}
use Rattle.made_script.proofs.Numbers.{mapped_all}

own_mac_fits : (index : ℕ) → index < 256 → FitsMac (own_mac index)
own_mac_fits index small = record {
  six = refl;
  range = all_bytes (own_mac index).bytes (omega arith, (omega arith, (omega arith, (omega arith, (omega arith, (small, tt))))));
}

counted : (first n : ℕ) → first + n ≤ 256 → CountsFrom first (map iface_of (numbers_from first n))
counted first zero small = tt
counted first (suc n) small =
    let here : first < 256 = omega arith in
    let on : suc first ≡ first + 1 = omega arith in (
      refl,
      own_fits first here,
      own_mac_fits first here,
      subst (λ (m : ℕ). CountsFrom m (map iface_of (numbers_from (suc first) n))) on (counted (suc first) n (omega arith)),
    )

last_byte : Mac → ℕ
last_byte mac = get_or mac.bytes 5 0

unlike : (i j : ℕ) → i < j → j < 256 → Unlike (iface_of i) (iface_of j)
unfolding last_byte
unlike i j above small = (
  λ same. (let e : i ≡ j = own_alone i j (omega arith) small same in omega arith),
  λ same. (let e : i ≡ j = ap last_byte same in omega arith),
)

pairs_unlike : (first n : ℕ) → first + n ≤ 256 → AllPairs Unlike (map iface_of (numbers_from first n))
pairs_unlike first zero small = pairs_none Unlike
pairs_unlike first (suc n) small =
    let later = map iface_of (numbers_from (suc first) n) in
    AllPairs-cons Unlike (iface_of first) later
    (All-from_recursion (Unlike (iface_of first)) later
    (mapped_all (Unlike (iface_of first)) iface_of (suc first) n (λ j from below. unlike first j (omega arith) (omega arith))))
    (pairs_unlike (suc first) n (omega arith))

pub ifaces_fit : FitInterfaces made_ifaces
unfolding made_ifaces
ifaces_fit = record {
  few = omega arith;
  counted = counted 1 64 (omega arith);
  unlike = pairs_unlike 1 64 (omega arith);
}
