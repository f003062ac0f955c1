-- The client's interfaces run as each would alone.
use Rattle.std.proofs.Common.{◌≡◌, List, [], ◌∷◌, refl, sym, ap, ◌∙◌}
use Rattle.std.specs.Prelude.{map, flat_map}
use Rattle.std.proofs.lemmas.Simd.{map-map}
use Rattle.std.proofs.lemmas.List.Folds.{flat_map-map}
use Rattle.net_types.specs.declared.address.Mac.{Mac}
use Rattle.client_model.specs.declared.interfaces.Iface.{Iface}
use Rattle.client_model.specs.IfaceSteps.{IfaceStep}
use Rattle.client_model.specs.IfaceTurns.{Turn, iface_turned}
use Rattle.client_model.specs.Clients.{Client, steps_of, sends_of}
use Rattle.client_model.specs.Runs.{iface_run, client_run, RunsApart}

own_stays : (client : Client) (before : List Turn) → (client_run client before).own ≡ client.own
own_stays client [] = refl
own_stays client (turn ∷ before) = own_stays client before

each_itself : (ifaces : List Iface) → map (λ (iface : Iface). iface) ifaces ≡ ifaces
each_itself [] = refl
each_itself (iface ∷ ifaces) = ap (λ (more : List Iface). iface ∷ more) (each_itself ifaces)

abbrev step_alone : List Mac → Turn → List Turn → Iface → IfaceStep
step_alone own turn before iface = iface_turned own turn (iface_run own iface before)

steps_from : (own : List Mac) (turn : Turn) (before : List Turn) (client : Client) (ifaces : List Iface)
    → client.own ≡ own → client.ifaces ≡ map (λ (iface : Iface). iface_run own iface before) ifaces
    → steps_of turn client ≡ map (step_alone own turn before) ifaces
steps_from own turn before client ifaces same run =
    ap (λ (o : List Mac). map (iface_turned o turn) client.ifaces) same
    ∙ ap (map (iface_turned own turn)) run
    ∙ map-map (iface_turned own turn) (λ (iface : Iface). iface_run own iface before) ifaces

ifaces_apart : (client : Client) (before : List Turn)
    → (client_run client before).ifaces ≡ map (λ (iface : Iface). iface_run client.own iface before) client.ifaces
ifaces_apart client [] = sym (each_itself client.ifaces)
ifaces_apart client (turn ∷ before) =
    ap (map (λ (step : IfaceStep). step.iface))
    (steps_from client.own turn before (client_run client before) client.ifaces (own_stays client before) (ifaces_apart client before))
    ∙ map-map (λ (step : IfaceStep). step.iface) (step_alone client.own turn before) client.ifaces

pub apart : (client : Client) (turn : Turn) (before : List Turn) → RunsApart client turn before
apart client turn before = record {
  ifaces = ifaces_apart client before;
  sends =
      ap (flat_map sends_of) (steps_from client.own turn before (client_run client before) client.ifaces (own_stays client before) (ifaces_apart client before))
      ∙ flat_map-map sends_of (step_alone client.own turn before) client.ifaces;
}
