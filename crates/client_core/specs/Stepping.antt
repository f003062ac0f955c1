-- A turn of the client, and of its interfaces one after another.
use Rattle.std.specs.Prelude.{◌≡◌, List, ◌++◌, map, flat_map}
use Rattle.world.specs.Rows.{IsInterface}
use Rattle.client_model.specs.declared.interfaces.Iface.{Iface}
use Rattle.client_model.specs.IfaceSteps.{IfaceStep, news_of}
use Rattle.client_model.specs.Clients.{Client, ClientStep, Sending, sends_of}
use Rattle.iface_core.specs.Outcomes.{Asked}

-- the client goes on as in this step, these are the frames to offer, and this is new
pub record Steps (step : ClientStep) (client : Client) (asked : Asked) : Type 0 where
  pub goes_on : client ≡ step.client
  pub offers : asked.sends ≡ step.sends
  pub tells : asked.news ≡ map (λ report. report.news) step.reports

abbrev pub IsOnInterface : Sending → Type 0
IsOnInterface sending = IsInterface sending.iface.number

-- The interfaces are as these steps leave them, and the steps' frames and news come after those before.
pub record GoAll {X : Type 0} (step : X → IfaceStep) (xs : List X) (ifaces : List Iface)
    (before after : Asked) : Type 0 where
  pub go_on : ifaces ≡ map (λ x. (step x).iface) xs
  pub offer : after.sends ≡ before.sends ++ flat_map (λ x. sends_of (step x)) xs
  pub tell : after.news ≡ before.news ++ flat_map (λ x. news_of (step x)) xs
