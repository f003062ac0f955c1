-- How many IAs a message names.
use Rattle.std.proofs.Common.{◌≡◌, ℕ, ◌≤◌, List, [], ◌∷◌, length, map, Option, ap, arith, length-append}
use Rattle.std.specs.List.{flat_map}
use Rattle.std.proofs.lemmas.List.{length-map}
use Rattle.net_types.specs.declared.address.Net6.{Net6}
use Rattle.v6_options.specs.declared.ia.IaKind.{IaKind}
use Rattle.v6_message.specs.declared.kind.Kind6.{Kind6}
use Rattle.v6_message.specs.declared.kind.Kind6.TheVariants as kind
use Rattle.v6_message.specs.declared.said.IaAsked.{IaAsked}
use Rattle.v6_message.specs.Requests.{AskedContent, asked_content}
use Rattle.lease6_text.specs.Leases.{Lease6Content}
use Rattle.v6_items.specs.declared.asks.IaAsk.{IaAsk}
use Rattle.v6_items.specs.declared.scope.Scope6.{Scope6}
use Rattle.v6_items.specs.declared.scope.Scope6.TheVariants as scope
use Rattle.v6_items.specs.Asking.{ia_asked, ia_declined, ia_released, ia_solicited, named_with, nets_gone, nets_in}
use Rattle.v6_items.specs.Items.{asked_at, ias_of, items_at}
use Rattle.v6_client.specs.Saying.{ias_said}

named_few : (kind : IaKind) (iaid : ℕ) (nets : List Net6) → length (named_with kind iaid nets) ≤ 1
named_few kind iaid [] = omega arith
named_few kind iaid (net ∷ nets) = omega arith

pieces_few : {X Y : Type 0} (f : X → List Y) → ((x : X) → length (f x) ≤ 1) → (xs : List X) → length (flat_map f xs) ≤ length xs
pieces_few f one [] = omega arith
pieces_few f one (x ∷ xs) =
    let rest : length (flat_map f xs) ≤ length xs = pieces_few f one xs in
    omega (arith, length-append (f x) (flat_map f xs), rest, one x)

said_few : (k : Kind6) (mine : Scope6) (asks : List IaAsk) (kept : Option Lease6Content) (stood : List AskedContent)
    → length asks ≤ 6 → length stood ≤ 6 → length (ias_said k mine asks kept stood) ≤ 6
said_few kind.Solicit mine asks kept stood few stand = omega (arith, length-map asks ia_solicited, few)
said_few kind.Request mine asks kept stood few stand = stand
said_few kind.Renew mine asks kept stood few stand = omega (arith, length-map asks (ia_asked mine (ias_of kept)), few)
said_few kind.Rebind mine asks kept stood few stand = omega (arith, length-map asks (ia_asked mine (ias_of kept)), few)
said_few kind.Release mine asks kept stood few stand =
    omega (arith, pieces_few (ia_released (ias_of kept)) (λ ask. named_few ask.kind ask.iaid (nets_in scope.All (asked_at ask (ias_of kept)))) asks, few)
said_few kind.Decline mine asks kept stood few stand =
    omega (
      arith,
      pieces_few (ia_declined (ias_of kept))
          (λ ia. named_few ia.kind ia.iaid (nets_gone (items_at ia.kind ia.iaid (ias_of kept)) ia.items)) stood,
      stand,
    )

-- what is said is said of as many IAs in memory
pub few_in_memory : (ias : List IaAsked) (k : Kind6) (mine : Scope6) (asks : List IaAsk) (kept : Option Lease6Content) (stood : List IaAsked)
    → map asked_content ias ≡ ias_said k mine asks kept (map asked_content stood) → length asks ≤ 6 → length stood ≤ 6
    → length ias ≤ 6
few_in_memory ias k mine asks kept stood same few stand =
    let all : length (map asked_content ias) ≡ length (ias_said k mine asks kept (map asked_content stood)) = ap length same in
    let most : length (ias_said k mine asks kept (map asked_content stood)) ≤ 6 =
    said_few k mine asks kept (map asked_content stood) few (omega (arith, length-map stood asked_content, stand)) in
    omega (arith, length-map ias asked_content, all, most)
