-- An input that names another interface is as good as none.
use Rattle.std.proofs.Common.{ℕ, ◌≡◌, ◌≢◌, Bool, true, false, cond, List, [], ◌++◌, refl, sym, ap, subst, ◌∙◌, nat_eq}
use Rattle.std.proofs.lemmas.Bool.{ne_eqb}
use Rattle.net_types.specs.declared.address.Mac.{Mac}
use Rattle.world.specs.declared.wakes.Event.{Event}
use Rattle.world.specs.declared.wakes.Event.TheVariants.{Frame, Carrier, Duplicate, Release, Rebind, Stop, Quiet, End}
use Rattle.script_model.specs.IfaceSets.{is_in}
use Rattle.client_model.specs.declared.interfaces.Iface.{Iface}
use Rattle.client_model.specs.IfaceSteps.{IfaceStep, index_of, silent, then_step}
use Rattle.client_model.specs.Interfaces.{restarted, unsent_in, ticked}
use Rattle.client_model.specs.IfaceTurns.{taken, input_step}
use Rattle.client_model.specs.Runs.{NamesOther, IsQuietElsewhere}

if_other : (a b : ℕ) (mine silent : IfaceStep) → a ≢ b → cond (nat_eq a b) mine silent ≡ silent
if_other a b mine silent apart = ap (λ (e : Bool). cond e mine silent) (ne_eqb a b apart)

module _ (own : List Mac) (at salt : ℕ) (bytes : List ℕ) where
  taken_elsewhere : (event : Event) (iface : Iface) → NamesOther (index_of iface) event → taken own at salt event bytes iface ≡ silent iface
  taken_elsewhere (Frame index len) iface names = if_other (index_of iface) index _ (silent iface) names
  taken_elsewhere (Carrier index up) iface names = if_other (index_of iface) index _ (silent iface) names
  taken_elsewhere (Duplicate index addr) iface names = if_other (index_of iface) index _ (silent iface) names
  taken_elsewhere (Release index) iface names = if_other (index_of iface) index _ (silent iface) names
  taken_elsewhere (Rebind index) iface names = if_other (index_of iface) index _ (silent iface) names
  taken_elsewhere Stop iface names = absurd names
  taken_elsewhere Quiet iface names = absurd names
  taken_elsewhere End iface names = absurd names

  after_stop : (stopped : Bool) (step : IfaceStep) (iface : Iface) → step ≡ silent iface → cond stopped (silent iface) step ≡ silent iface
  after_stop true step iface e = refl
  after_stop false step iface e = e

  input_elsewhere : (event : Event) (iface : Iface) → NamesOther (index_of iface) event → input_step own at salt event bytes iface ≡ silent iface
  input_elsewhere event iface names = after_stop iface.stopped (taken own at salt event bytes iface) iface (taken_elsewhere event iface names)

  quiet_input : (iface : Iface) → input_step own at salt Quiet [] iface ≡ silent iface
  quiet_input iface = after_stop iface.stopped (silent iface) iface refl

kept_index : (b : Bool) (a c : Iface) → index_of a ≡ index_of c → index_of (cond b a c) ≡ index_of c
kept_index true a c e = e
kept_index false a c e = refl

then_same : (first : IfaceStep) (next other : Iface → IfaceStep) → next first.iface ≡ other first.iface → then_step first next ≡ then_step first other
then_same first next other e =
    ap (λ (step : IfaceStep). record { iface = step.iface; said = first.said ++ step.said; reports = first.reports ++ step.reports }) e

pub elsewhere : IsQuietElsewhere
elsewhere own turn iface names =
    let first : IfaceStep = ticked turn.at turn.salt (unsent_in turn.unsent turn.at turn.salt iface) in
    let here : index_of first.iface ≡ index_of iface = kept_index (is_in turn.unsent (index_of iface)) (restarted turn.at turn.salt iface) iface refl in
    then_same first (input_step own turn.at turn.salt turn.event turn.bytes) (input_step own turn.at turn.salt Quiet [])
    (input_elsewhere own turn.at turn.salt turn.bytes turn.event first.iface (subst (λ (index : ℕ). NamesOther index turn.event) (sym here) names)
    ∙ sym (quiet_input own turn.at turn.salt turn.bytes first.iface))
