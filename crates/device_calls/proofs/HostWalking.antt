-- What a host tells after some calls, and then after more.
use Rattle.std.proofs.Common.{◌≡◌, List, [], ◌∷◌, ◌++◌, Option, Some, None, refl, sym, subst, ◌∙◌}
use Rattle.world.specs.HostCalls.{HostCall, HostTold, host_answered}
use Rattle.device_calls.specs.HostWalks.{HostGoes, HostAnswered}

pub host_answered_none : (told : Option HostTold) → HostAnswered [] told told
host_answered_none None = refl
host_answered_none (Some told) = (told, refl, refl)

pub host_goes_more : (a b : List HostCall) (old mid new : HostTold) → HostGoes a old mid → HostGoes b mid new → HostGoes (a ++ b) old new
host_goes_more [] b old mid new p q = subst (λ (m : HostTold). HostGoes b m new) p q
host_goes_more (call ∷ a) b old mid new (rows, leaves, p) q = (rows, leaves, host_goes_more a b (host_answered call rows old) mid new p q)

pub host_answered_more : (a b : List HostCall) (old mid new : Option HostTold) → HostAnswered a old mid → HostAnswered b mid new → HostAnswered (a ++ b) old new
host_answered_more a b None mid new p q = subst (λ (m : Option HostTold). HostAnswered b m new) p q
host_answered_more a b (Some old) mid new (told, is, p) q =
    let (last, ends, r) = subst (λ (m : Option HostTold). HostAnswered b m new) is q in (last, ends, host_goes_more a b old told last p r)

-- what it told in between
pub record HostSplit (a b : List HostCall) (old new : HostTold) : Type 0 where
  pub mid : HostTold
  pub first : HostGoes a old mid
  pub then : HostGoes b mid new

pub host_goes_split : (a b : List HostCall) (old new : HostTold) → HostGoes (a ++ b) old new → HostSplit a b old new
host_goes_split [] b old new h = record { mid = old; first = refl; then = h }
host_goes_split (call ∷ a) b old new (rows, leaves, h) =
    let rest = host_goes_split a b (host_answered call rows old) new h in
    record { mid = rest.mid; first = (rows, leaves, rest.first); then = rest.then }
