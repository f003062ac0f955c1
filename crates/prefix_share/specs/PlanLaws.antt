-- Laws on shares that are planned.
use Rattle.std.specs.Prelude.{◌≡◌, ◌≢◌, ◌≤◌, ◌↔◌, IsTrue, IfSome, IsSome, List, All, AllPairs}
use Rattle.net_types.specs.declared.address.Ip6.{Ip6}
use Rattle.net_types.specs.declared.address.Net6.{Net6}
use Rattle.prefix_share.specs.declared.share.Share.{Share}
use Rattle.prefix_share.specs.declared.rules.ShareFault.{ShareFault}
use Rattle.prefix_share.specs.Subnets.{has_room, is_within, subnet_in}
use Rattle.prefix_share.specs.Rules.{is_plan, IsFirstFault}

-- one length, each within what is asked for, and no two with one SLA id
pub record ObeyRules (shares : List Share) : Type 0 where
  pub one_length : AllPairs (λ one other. one.len ≡ other.len) shares
  pub unlike : AllPairs (λ one other. one.sla ≢ other.sla) shares
  pub room : All (λ share. IsTrue (has_room share.hint share)) shares

abbrev pub PlansObey : Type 0
PlansObey = (shares : List Share) → IsTrue (is_plan shares) ↔ ObeyRules shares

-- no address is in both subnets of a prefix
abbrev pub HaveNoneInCommon : Net6 → Share → Share → Type 0
HaveNoneInCommon prefix one other =
    IfSome (subnet_in prefix one) (λ first. IfSome (subnet_in prefix other) (λ second.
    (ip : Ip6) → IsTrue (is_within ip first) → ¬ IsTrue (is_within ip second)))

abbrev pub AreApart : Type 0
AreApart = (prefix : Net6) (shares : List Share) → IsTrue (is_plan shares) → AllPairs (HaveNoneInCommon prefix) shares

-- a prefix that is as long as was asked for, or shorter, has each subnet
abbrev pub FitThePrefix : Type 0
FitThePrefix = (prefix : Net6) (shares : List Share) → IsTrue (is_plan shares)
    → All (λ share. prefix.len ≤ share.hint → IsSome (subnet_in prefix share)) shares

-- shares have one first fault at most
abbrev pub OneFault : Type 0
OneFault =
    (shares : List Share) (one other : ShareFault) → IsFirstFault shares one → IsFirstFault shares other → one ≡ other
