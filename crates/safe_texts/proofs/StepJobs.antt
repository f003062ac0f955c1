-- The jobs of a step of the client are safe.
use Rattle.std.proofs.Common.{◌≡◌, ℕ, Bool, true, false, List, [], ◌∷◌, ◌++◌, drop, find, flat_map, map, Option, Some, None, refl}
use Rattle.std.specs.Prelude.{IfSome, option_to_list, ◌==◌}
use Rattle.std.specs.List.{AllByRecursion, Contains}
use Rattle.std.proofs.lemmas.List.Elements.{All-contains_itself, recursion_from_All}
use Rattle.net_types.proofs.AllLaws.{all_both, all_join, all_mapped}
use Rattle.net_types.proofs.CaseLaws.{gated}
use Rattle.net_types.specs.declared.address.Mac.{Mac}
use Rattle.net_types.specs.declared.address.Net4.{Net4}
use Rattle.net_types.specs.declared.address.Net6.{Net6}
use Rattle.net_types.specs.NameText.{FitsName}
use Rattle.ipv4ll.specs.Table.{held_in}
use Rattle.machine.specs.Moment.{moment_of}
use Rattle.prefix_share.specs.Subnets.{subnet_in}
use Rattle.lease6_text.specs.declared.lease.Item6.{Item6}
use Rattle.lease6_text.specs.Leases.{IaLeaseContent, Lease6Content}
use Rattle.v4_client.specs.Clients.{held_of}
use Rattle.v4_frames.specs.Heard.{HeardMessage, heard4_in}
use Rattle.v6_client.specs.Clients as dhcp6
use Rattle.v6_client.specs.declared.states.News6.{News6}
use Rattle.v6_client.specs.declared.states.News6.TheVariants as news6
use Rattle.v6_frames.specs.Heard.{HeardMessage6, heard6_in}
use Rattle.v6_options.specs.declared.ia.IaKind.{IaKind}
use Rattle.v6_options.specs.declared.ia.IaKind.TheVariants.{Na, Pd}
use Rattle.world.specs.HookCalls.{Job}
use Rattle.world.specs.declared.reasons.Reason.{Reason}
use Rattle.world.specs.declared.reasons.Reason.TheVariants as reason
use Rattle.hook_env.specs.Jobs.{job_of_situation, made_variables}
use Rattle.hook_env.specs.Situations.{HeldContent, Nothing, Address4, Delegated}
use Rattle.settings.specs.declared.dhcp6_conf.ShareConf.{ShareConf}
use Rattle.settings.specs.declared.interfaces.Managed.{Managed}
use Rattle.settings.specs.Fitting.{AreManaged, FitsManaged}
use Rattle.client_model.specs.declared.interfaces.Iface.{Iface}
use Rattle.client_model.specs.declared.steps.News.{News}
use Rattle.client_model.specs.declared.steps.News.TheVariants.{Opened, CarrierCame, CarrierWent, Released, Stopped, Lease4, Lease6, Timeout, LocalGained, LocalLost}
use Rattle.client_model.specs.IfaceSteps.{IfaceStep, Report, index_of}
use Rattle.client_model.specs.IfaceTurns.{Turn, iface_turned}
use Rattle.client_model.specs.Interfaces.{opened, resting}
use Rattle.client_model.specs.Jobs.{Own, Shared, Told, ia_told, item_told, jobs_along, jobs_among, jobs_of, leased4, leased6, local_held, own, own_if, reason4, reason6, script_path, shared_address, shared_jobs, shares_at, shares_told, situation_of, static_told, told_by, told_in, told_of}
use Rattle.client_model.specs.KeptLeases.{Beginning}
use Rattle.client_model.specs.WantedRows.{local_net, shares_of}
use Rattle.safe_texts.specs.SafeJobs.{AreSafeJobs, IsSafeJob, OpeningJobsAreSafe, TurnJobsAreSafe, begun, managed_by}
use Rattle.safe_texts.proofs.KeptThrough.{BringsGood, IsKept, StepHas, all_opened_have, all_turned_have, steps_have}
use Rattle.safe_texts.proofs.MadeOfEvents.{made_variables_are_safe}

-- ---- messages of which nothing is asked

abbrev pub Any4 : HeardMessage → Type 0
Any4 heard = Unit {0}

abbrev pub Any6 : HeardMessage6 → Type 0
Any6 heard = Unit {0}

any_some : {A : Type 0} (found : Option A) → IfSome found (λ (x : A). Unit {0})
any_some None = tt
any_some (Some x) = tt

pub any_good : (bytes : List ℕ) → BringsGood Any4 Any6 bytes
any_good bytes = record { heard4 = λ mac. any_some (heard4_in mac bytes); heard6 = λ mac. any_some (heard6_in mac bytes) }

module _ (managed : List Managed) where
  -- an interface that is managed, and has a name
  pub record IsHolder (m : Managed) : Type 0 where
    pub among : Contains managed m
    pub name : FitsName m.spec.name

  abbrev pub OfHolder : Iface → Type 0
  OfHolder f = IsHolder f.managed

  pub holder_kept : IsKept OfHolder Any4 Any6
  holder_kept = record {
    carrier = λ up f q. q;
    stopped = λ f q. q;
    local = λ local f q. q;
    step4 = λ step f q. q;
    unsent4 = λ at salt f q. q;
    brings4 = λ at heard good f q. q;
    tick6 = λ at salt f q. q;
    carrier6 = λ carrier at salt f q. q;
    contested6 = λ address at salt f q. q;
    release6 = λ tell at salt f q. q;
    rebind6 = λ at salt f q. q;
    hears6 = λ at salt heard good f q. q;
  }

  -- ---- the job of an event

  abbrev Safe : Job → Type 0
  Safe job = IsSafeJob managed job

  pub jobs_safe : (why : Reason) (m : Managed) → IsHolder m → (up : Bool) (held_before held_now : HeldContent)
      → AreSafeJobs managed (jobs_of why m up held_before held_now)
  jobs_safe why m holder up held_before held_now = by_script (script_path m.conf.hooks.script) refl
    where
      by_script : (found : Option (List ℕ)) → script_path m.conf.hooks.script ≡ found
          → AreSafeJobs managed (map (λ script. job_of_situation (situation_of why m up held_before held_now script)) (option_to_list found))
      by_script None is = tt
      by_script (Some script) is = (
        record {
          holder = m;
          among = holder.among;
          iface = refl;
          named = refl;
          script = is;
          made = made_variables (situation_of why m up held_before held_now script);
          vars = refl;
          safe = made_variables_are_safe (situation_of why m up held_before held_now script) holder.name;
        },
        tt,
      )

  -- ---- what an interface tells

  abbrev SafeTold : Told → Type 0
  SafeTold (Own job) = Safe job
  SafeTold (Shared iface net) = Unit {0}

  abbrev AllTold : List Told → Type 0
  AllTold told = AllByRecursion SafeTold told

  owned : (jobs : List Job) → AreSafeJobs managed jobs → AllTold (map Own jobs)
  owned [] safe = tt
  owned (job ∷ jobs) safe = (safe.0, owned jobs safe.1)

  own_safe : (why : Reason) (m : Managed) → IsHolder m → (up : Bool) (held_before held_now : HeldContent) → AllTold (own why m up held_before held_now)
  own_safe why m holder up held_before held_now = owned (jobs_of why m up held_before held_now) (jobs_safe why m holder up held_before held_now)

  if_safe : (why : Option Reason) (m : Managed) → IsHolder m → (up : Bool) (held_before held_now : HeldContent) → AllTold (own_if why m up held_before held_now)
  if_safe None m holder up held_before held_now = tt
  if_safe (Some why) m holder up held_before held_now = own_safe why m holder up held_before held_now

  told_flat : {A : Type 0} (f : A → List Told) → ((x : A) → AllTold (f x)) → (xs : List A) → AllTold (flat_map f xs)
  told_flat f each [] = tt
  told_flat f each (x ∷ xs) = all_join SafeTold (f x) (flat_map f xs) (each x) (told_flat f each xs)

  address_safe : (share : ShareConf) (subnet : Option Net6) → AllTold (shared_address share subnet)
  address_safe share None = tt
  address_safe share (Some subnet) = (tt, tt)

  item_safe : (shares : List ShareConf) (kind : IaKind) (item : Item6) → AllTold (item_told shares kind item)
  item_safe shares Na item = tt
  item_safe shares Pd item =
      told_flat (λ share. shared_address share (subnet_in item.net share.share)) (λ share. address_safe share (subnet_in item.net share.share)) shares

  ia_safe : (shares : List ShareConf) (ia : IaLeaseContent) → AllTold (ia_told shares ia)
  ia_safe shares ia = told_flat (item_told (shares_of ia.iaid shares) ia.kind) (item_safe (shares_of ia.iaid shares) ia.kind) ia.items

  shares_safe : (shares : List ShareConf) (lease : Option Lease6Content) → AllTold (shares_told shares lease)
  shares_safe shares None = tt
  shares_safe shares (Some lease) = told_flat (ia_told shares) (ia_safe shares) lease.ias

  shares_safe_at : (news : News6) (shares : List ShareConf) (lease : Option Lease6Content) → AllTold (shares_at news shares lease)
  shares_safe_at news6.Bound shares lease = shares_safe shares lease
  shares_safe_at news6.Reboot shares lease = shares_safe shares lease
  shares_safe_at news6.Renew shares lease = shares_safe shares lease
  shares_safe_at news6.Rebind shares lease = shares_safe shares lease
  shares_safe_at news6.Expire shares lease = tt
  shares_safe_at news6.Stop shares lease = tt
  shares_safe_at news6.Changed shares lease = tt
  shares_safe_at news6.Nothing shares lease = tt

  static_safe : (m : Managed) → IsHolder m → (up : Bool) (net : Option Net4) → AllTold (static_told m up net)
  static_safe m holder up None = tt
  static_safe m holder up (Some net) = own_safe reason.StaticLine m holder up Nothing (Address4 net)

  news_safe : (news : News) (before after : Iface) → OfHolder after → AllTold (told_of news before after)
  news_safe Opened before after holder = own_safe reason.Preinit after.managed holder after.up Nothing Nothing
  news_safe CarrierCame before after holder =
      all_join SafeTold (own reason.Carrier after.managed true Nothing Nothing) (static_told after.managed true after.managed.conf.address)
      (own_safe reason.Carrier after.managed holder true Nothing Nothing) (static_safe after.managed holder true after.managed.conf.address)
  news_safe CarrierWent before after holder = own_safe reason.NoCarrier after.managed holder false Nothing Nothing
  news_safe Released before after holder = tt
  news_safe Stopped before after holder = own_safe reason.Stopped after.managed holder after.up Nothing Nothing
  news_safe (Lease4 news) before after holder =
      if_safe (reason4 news) after.managed holder after.up (leased4 (held_of before.dhcp4)) (leased4 (held_of after.dhcp4))
  news_safe (Lease6 news) before after holder =
      all_join SafeTold (own_if (reason6 news) after.managed after.up (leased6 (dhcp6.held_of before.dhcp6)) (leased6 (dhcp6.held_of after.dhcp6)))
      (shares_at news after.managed.conf.dhcp6.shares (dhcp6.held_of after.dhcp6))
      (if_safe (reason6 news) after.managed holder after.up (leased6 (dhcp6.held_of before.dhcp6)) (leased6 (dhcp6.held_of after.dhcp6)))
      (shares_safe_at news after.managed.conf.dhcp6.shares (dhcp6.held_of after.dhcp6))
  news_safe Timeout before after holder = own_safe reason.Timeout after.managed holder after.up Nothing Nothing
  news_safe LocalGained before after holder = own_safe reason.Ipv4ll after.managed holder after.up Nothing (local_held (held_in after.local.state))
  news_safe (LocalLost ip) before after holder = own_safe reason.Expire after.managed holder after.up (Address4 (local_net ip)) Nothing

  reports_safe : (reports : List Report) → AllByRecursion (λ (r : Report). OfHolder r.after) reports → AllTold (flat_map told_by reports)
  reports_safe [] all = tt
  reports_safe (r ∷ reports) all =
      all_join SafeTold (told_by r) (flat_map told_by reports) (news_safe r.news r.before r.after all.0) (reports_safe reports all.1)

  -- ---- the jobs of interfaces, one after another

  abbrev AllHold : List Iface → Type 0
  AllHold ifaces = AllByRecursion OfHolder ifaces

  found_holds : (test : Iface → Bool) (ifaces : List Iface) → AllHold ifaces → IfSome (find test ifaces) OfHolder
  found_holds test [] all = tt
  found_holds test (f ∷ ifaces) all = gated (λ (o : Option Iface). IfSome o OfHolder) (test f) (Some f) (find test ifaces) all.0 (found_holds test ifaces all.1)

  shared_safe : (net : Net6) (found : Option Iface) → IfSome found OfHolder → AreSafeJobs managed (shared_jobs net found)
  shared_safe net None holder = tt
  shared_safe net (Some f) holder = jobs_safe reason.Delegated6 f.managed holder f.up Nothing (Delegated net)

  among_safe : (ifaces : List Iface) → AllHold ifaces → (told : Told) → SafeTold told → AreSafeJobs managed (jobs_among ifaces told)
  among_safe ifaces all (Own job) safe = (safe, tt)
  among_safe ifaces all (Shared number net) safe =
      shared_safe net (find (λ iface. index_of iface == number) ifaces) (found_holds (λ iface. index_of iface == number) ifaces all)

  all_among : (ifaces : List Iface) → AllHold ifaces → (told : List Told) → AllTold told → AreSafeJobs managed (flat_map (jobs_among ifaces) told)
  all_among ifaces all [] safe = tt
  all_among ifaces all (one ∷ told) safe =
      all_join Safe (jobs_among ifaces one) (flat_map (jobs_among ifaces) told) (among_safe ifaces all one safe.0) (all_among ifaces all told safe.1)

  rest_holds : (coming : List Iface) → AllHold coming → AllHold (drop 1 coming)
  rest_holds [] all = tt
  rest_holds (f ∷ coming) all = all.1

  pub along_safe : (gone coming : List Iface) (steps : List IfaceStep) → AllHold gone → AllHold coming → AllByRecursion (StepHas OfHolder) steps
      → AreSafeJobs managed (jobs_along gone coming steps)
  along_safe gone coming [] before after all = tt
  along_safe gone coming (step ∷ steps) before after all =
      let later : AllHold (drop 1 coming) = rest_holds coming after in
      all_join Safe (flat_map (jobs_among (gone ++ step.iface ∷ drop 1 coming)) (told_in step)) (jobs_along (gone ++ step.iface ∷ []) (drop 1 coming) steps)
      (all_among (gone ++ step.iface ∷ drop 1 coming) (all_join OfHolder gone (step.iface ∷ drop 1 coming) before (all.0.iface, later)) (told_in step)
      (reports_safe step.reports all.0.reports))
      (along_safe (gone ++ step.iface ∷ []) (drop 1 coming) steps (all_join OfHolder gone (step.iface ∷ []) before (all.0.iface, tt)) later all.1)

  pub turn_safe : (own_macs : List Mac) (turn : Turn) (ifaces : List Iface) → AllHold ifaces
      → AreSafeJobs managed (jobs_along [] ifaces (map (iface_turned own_macs turn) ifaces))
  turn_safe own_macs turn ifaces all =
      along_safe [] ifaces (map (iface_turned own_macs turn) ifaces) tt all
      (all_turned_have OfHolder Any4 Any6 holder_kept own_macs turn (any_good turn.bytes) ifaces all)

  pub turned_hold : (own_macs : List Mac) (turn : Turn) (ifaces : List Iface) → AllHold ifaces
      → AllHold (map (λ (step : IfaceStep). step.iface) (map (iface_turned own_macs turn) ifaces))
  turned_hold own_macs turn ifaces all =
      steps_have OfHolder (map (iface_turned own_macs turn) ifaces)
      (all_turned_have OfHolder Any4 Any6 holder_kept own_macs turn (any_good turn.bytes) ifaces all)

  abbrev pub AllBegin : List Beginning → Type 0
  AllBegin beginnings = AllByRecursion (λ (b : Beginning). OfHolder (resting b)) beginnings

  pub opening_safe : (up at salt : ℕ) (beginnings : List Beginning) → AllBegin beginnings
      → AreSafeJobs managed (jobs_along [] [] (map (opened up at salt) beginnings))
  opening_safe up at salt beginnings all =
      along_safe [] [] (map (opened up at salt) beginnings) tt tt (all_opened_have OfHolder Any4 Any6 holder_kept up at salt beginnings all)

  pub opened_hold : (up at salt : ℕ) (beginnings : List Beginning) → AllBegin beginnings
      → AllHold (map (λ (step : IfaceStep). step.iface) (map (opened up at salt) beginnings))
  opened_hold up at salt beginnings all =
      steps_have OfHolder (map (opened up at salt) beginnings) (all_opened_have OfHolder Any4 Any6 holder_kept up at salt beginnings all)

-- each managed interface is one of them
pub all_holders : (managed : List Managed) → AreManaged managed → AllByRecursion (IsHolder managed) managed
all_holders managed fit =
    all_both FitsManaged (Contains managed) (IsHolder managed) (λ m fits among. record { among = among; name = fits.name }) managed fit
    (recursion_from_All (Contains managed) managed (All-contains_itself managed))

pub opening_jobs_are_safe : OpeningJobsAreSafe
opening_jobs_are_safe beginnings specs begin fit =
    opening_safe (begun beginnings) begin.up (moment_of begin.at) begin.salt beginnings
    (all_mapped (IsHolder (begun beginnings)) (λ (b : Beginning). b.managed) beginnings (all_holders (begun beginnings) fit))

pub turn_jobs_are_safe : TurnJobsAreSafe
turn_jobs_are_safe client turn fit =
    turn_safe (managed_by client) client.own turn client.ifaces
    (all_mapped (IsHolder (managed_by client)) (λ (f : Iface). f.managed) client.ifaces (all_holders (managed_by client) fit))
