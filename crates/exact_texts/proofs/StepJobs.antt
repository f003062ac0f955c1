-- The jobs of a step of the client have exact variables.
use Rattle.std.proofs.Common.{◌≡◌, ℕ, ◌+◌, ◌*◌, ◌-◌, ◌^◌, ◌<◌, ◌≤◌, Bool, true, false, List, [], ◌∷◌, ◌++◌, drop, find, flat_map, map, Option, Some, None, IfSome, refl, arith, unwrap_or}
use Rattle.std.proofs.Math.Nat.{mul-le-mul_right, pow-le-pow_right}
use Rattle.std.specs.List.{AllByRecursion}
use Rattle.std.specs.Prelude.{◌==◌, option_to_list}
use Rattle.net_types.proofs.AllLaws.{all_join}
use Rattle.net_types.proofs.CaseLaws.{gated}
use Rattle.net_types.specs.AddressText.{FitsIp6, FitsNet4, FitsNet6}
use Rattle.net_types.specs.declared.address.Net4.{Net4}
use Rattle.net_types.specs.declared.address.Net6.{Net6}
use Rattle.ipv4ll.specs.Table.{held_in}
use Rattle.prefix_share.proofs.SubnetBits.{Room, room_of, where_room}
use Rattle.prefix_share.proofs.SubnetNumbers.{counts, sum_fits, two_pos}
use Rattle.prefix_share.specs.Subnets.{FitsShare, has_room, subnet_in, subnet_of}
use Rattle.prefix_share.specs.declared.share.Share.{Share}
use Rattle.lease6_text.specs.Bounds.{HasText6, IsTypedIa}
use Rattle.lease6_text.specs.Leases.{IaLeaseContent, Lease6Content}
use Rattle.lease6_text.specs.declared.lease.Item6.{Item6}
use Rattle.v4_client.specs.Clients.{held_of}
use Rattle.v6_client.specs.Clients as dhcp6
use Rattle.v6_client.specs.declared.states.News6.{News6}
use Rattle.v6_client.specs.declared.states.News6.TheVariants as news6
use Rattle.v6_options.specs.declared.ia.IaKind.{IaKind}
use Rattle.v6_options.specs.declared.ia.IaKind.TheVariants.{Na, Pd}
use Rattle.world.specs.HookCalls.{Job}
use Rattle.world.specs.declared.reasons.Reason.{Reason}
use Rattle.world.specs.declared.reasons.Reason.TheVariants as reason
use Rattle.hook_env.specs.Jobs.{job_of_situation, made_variables}
use Rattle.hook_env.specs.Situations.{HeldContent, Nothing, Address4, Delegated}
use Rattle.settings.specs.Dhcp6Settings.{FitsShareConf}
use Rattle.settings.specs.declared.dhcp6_conf.ShareConf.{ShareConf}
use Rattle.settings.specs.declared.interfaces.Managed.{Managed}
use Rattle.client_model.specs.IfaceSteps.{IfaceStep, Report, index_of}
use Rattle.client_model.specs.Jobs.{Own, Shared, Told, ia_told, item_told, jobs_along, jobs_among, jobs_of, leased4, leased6, local_held, own, own_if, reason4, reason6, script_path, shared_address, shared_jobs, shares_at, shares_told, situation_of, static_told, told_by, told_in, told_of}
use Rattle.client_model.specs.WantedRows.{first_address, local_net, shares_of}
use Rattle.client_model.specs.declared.interfaces.Iface.{Iface}
use Rattle.client_model.specs.declared.steps.News.{News}
use Rattle.client_model.specs.declared.steps.News.TheVariants.{Opened, CarrierCame, CarrierWent, Released, Stopped, Lease4, Lease6, Timeout, LocalGained, LocalLost}
use Rattle.safe_texts.proofs.MadeExactly.{made_variables_are_exact}
use Rattle.safe_texts.specs.ExactVariables.{FitsHeld, FitsSituation}
use Rattle.exact_texts.proofs.Clients4.{held4}
use Rattle.exact_texts.proofs.Clients6.{text6}
use Rattle.exact_texts.proofs.ExactSteps.{FitsNews, IsExactIface, IsExactReport, IsExactStep}
use Rattle.exact_texts.proofs.LocalAddresses.{choice_fits, local_fits}
use Rattle.exact_texts.proofs.TypedLeases6.{all_filter, all_flat}
use Rattle.exact_texts.specs.ExactJobs.{AreExactJobs, IsExactJob}

-- ---- an address out of a prefix

-- a subnet of two addresses or more has room for its first one beside that of its routers
first_fits : (prefix : Net6) (share : Share) → FitsIp6 prefix.ip → FitsShare share → Room prefix.len share → FitsNet6 (first_address (subnet_of prefix share))
first_fits prefix share fits bounds room =
    let most : share.len ≤ 127 = bounds.most in
    let longer : prefix.len ≤ share.len = room.longer in
    let short : prefix.len ≤ 128 = omega (arith, longer, most) in
    let one : 1 ≤ 128 - share.len = omega (arith, most) in
    let two : 2 ^ 1 ≤ 2 ^ (128 - share.len) = pow-le-pow_right two_pos one in
    let small : share.sla < 2 ^ (share.len - prefix.len) = room.small in
    let whole : (share.sla + 1) * 2 ^ (128 - share.len) ≤ 2 ^ (share.len - prefix.len) * 2 ^ (128 - share.len) = mul-le-mul_right _ (omega (arith, small)) in
    let all : 2 ^ (128 - prefix.len) ≡ 2 ^ (share.len - prefix.len) * 2 ^ (128 - share.len) = counts prefix.len share.len longer (omega (arith, most)) in
    let within : share.sla * 2 ^ (128 - share.len) + 1 < 2 ^ (128 - prefix.len) = omega (arith, two, whole, all) in
    let sum = sum_fits prefix.ip.number (share.sla * 2 ^ (128 - share.len) + 1) prefix.len fits short within in
    record { address = omega (arith, sum); prefix = omega (arith, most) }

subnet_fits : (prefix : Net6) (share : Share) → FitsIp6 prefix.ip → FitsShare share
    → IfSome (subnet_in prefix share) (λ (net : Net6). FitsNet6 (first_address net))
subnet_fits prefix share fits bounds =
    where_room (has_room prefix.len share) (subnet_of prefix share) (λ (net : Net6). FitsNet6 (first_address net))
    (λ room. first_fits prefix share fits bounds (room_of prefix.len share room))

-- ---- what is held of IPv6

held_text : (kept : Option Lease6Content) → IfSome kept HasText6 → FitsHeld (leased6 kept)
held_text None has = tt
held_text (Some lease) has = has

held_typed : (kept : Option Lease6Content) → IfSome kept HasText6 → IfSome kept (λ (lease : Lease6Content). AllByRecursion IsTypedIa lease.ias)
held_typed None has = tt
held_typed (Some lease) has = has.typed.ias

-- ---- metrics

metric_fits : (metric : Option ℕ) (number : ℕ) → IfSome metric (λ metric. metric < 2 ^ 32) → number ≤ 64 → unwrap_or metric (1000 + number) < 2 ^ 32
metric_fits None number fits few = omega (arith, few)
metric_fits (Some metric) number fits few = fits

module _ (managed : List Managed) where
  abbrev Q : Iface → Type 0
  Q f = IsExactIface managed f

  abbrev Exact : Job → Type 0
  Exact job = IsExactJob managed job

  -- ---- what an interface holds

  held_four : (f : Iface) → Q f → FitsHeld (leased4 (held_of f.dhcp4))
  held_four f q = held4 f.dhcp4 q.four q.values.kept4

  text_six : (f : Iface) → Q f → IfSome (dhcp6.held_of f.dhcp6) HasText6
  text_six f q =
      gated (λ (held : Option Lease6Content). IfSome held HasText6) (dhcp6.holds f.dhcp6.state) f.dhcp6.kept None (text6 f.dhcp6 q.six q.values.kept6) tt

  held_six : (f : Iface) → Q f → FitsHeld (leased6 (dhcp6.held_of f.dhcp6))
  held_six f q = held_text (dhcp6.held_of f.dhcp6) (text_six f q)

  -- ---- the job of an event

  jobs_exact : (why : Reason) (f : Iface) → Q f → (up : Bool) (before now : HeldContent) → FitsHeld before → FitsHeld now
      → AreExactJobs managed (jobs_of why f.managed up before now)
  jobs_exact why f q up before now was is = by_script (script_path f.managed.conf.hooks.script) refl
    where
      fits : (script : List ℕ) → FitsSituation (situation_of why f.managed up before now script)
      fits script = record {
        name = q.fits.name;
        metric = metric_fits f.managed.conf.metric f.managed.spec.index.number q.fits.metric q.fits.index.1;
        held_before = was;
        held_now = is;
      }

      by_script : (found : Option (List ℕ)) → script_path f.managed.conf.hooks.script ≡ found
          → AreExactJobs managed (map (λ script. job_of_situation (situation_of why f.managed up before now script)) (option_to_list found))
      by_script None e = tt
      by_script (Some script) e = (
        record {
          holder = f.managed;
          among = q.among;
          iface = refl;
          named = refl;
          script = e;
          made = made_variables (situation_of why f.managed up before now script);
          vars = refl;
          exact = made_variables_are_exact (situation_of why f.managed up before now script) (fits script);
        },
        tt,
      )

  -- ---- what an interface tells

  abbrev ExactTold : Told → Type 0
  ExactTold (Own job) = Exact job
  ExactTold (Shared iface net) = FitsNet6 net

  abbrev AllTold : List Told → Type 0
  AllTold told = AllByRecursion ExactTold told

  owned : (jobs : List Job) → AreExactJobs managed jobs → AllTold (map Own jobs)
  owned [] exact = tt
  owned (job ∷ jobs) exact = (exact.0, owned jobs exact.1)

  own_exact : (why : Reason) (f : Iface) → Q f → (up : Bool) (before now : HeldContent) → FitsHeld before → FitsHeld now
      → AllTold (own why f.managed up before now)
  own_exact why f q up before now was is = owned (jobs_of why f.managed up before now) (jobs_exact why f q up before now was is)

  if_exact : (why : Option Reason) (f : Iface) → Q f → (up : Bool) (before now : HeldContent) → FitsHeld before → FitsHeld now
      → AllTold (own_if why f.managed up before now)
  if_exact None f q up before now was is = tt
  if_exact (Some why) f q up before now was is = own_exact why f q up before now was is

  address_exact : (share : ShareConf) (subnet : Option Net6) → IfSome subnet (λ (net : Net6). FitsNet6 (first_address net))
      → AllTold (shared_address share subnet)
  address_exact share None fits = tt
  address_exact share (Some subnet) fits = (fits, tt)

  item_exact : (shares : List ShareConf) → AllByRecursion FitsShareConf shares → (kind : IaKind) (item : Item6) → FitsIp6 item.net.ip
      → AllTold (item_told shares kind item)
  item_exact shares bounds Na item fits = tt
  item_exact shares bounds Pd item fits =
      all_flat FitsShareConf ExactTold (λ share. shared_address share (subnet_in item.net share.share))
      (λ share bound. address_exact share (subnet_in item.net share.share) (subnet_fits item.net share.share fits bound.share)) shares bounds

  ia_exact : (shares : List ShareConf) → AllByRecursion FitsShareConf shares → (ia : IaLeaseContent) → IsTypedIa ia → AllTold (ia_told shares ia)
  ia_exact shares bounds ia typed =
      all_flat (λ (item : Item6). FitsIp6 item.net.ip) ExactTold (item_told (shares_of ia.iaid shares) ia.kind)
      (item_exact (shares_of ia.iaid shares) (all_filter FitsShareConf (λ share. share.iaid == ia.iaid) shares bounds) ia.kind) ia.items typed.items

  shares_exact : (shares : List ShareConf) → AllByRecursion FitsShareConf shares → (lease : Option Lease6Content)
      → IfSome lease (λ (l : Lease6Content). AllByRecursion IsTypedIa l.ias) → AllTold (shares_told shares lease)
  shares_exact shares bounds None typed = tt
  shares_exact shares bounds (Some lease) typed = all_flat IsTypedIa ExactTold (ia_told shares) (ia_exact shares bounds) lease.ias typed

  at_exact : (told : News6) (shares : List ShareConf) → AllByRecursion FitsShareConf shares → (lease : Option Lease6Content)
      → IfSome lease (λ (l : Lease6Content). AllByRecursion IsTypedIa l.ias) → AllTold (shares_at told shares lease)
  at_exact news6.Bound shares bounds lease typed = shares_exact shares bounds lease typed
  at_exact news6.Reboot shares bounds lease typed = shares_exact shares bounds lease typed
  at_exact news6.Renew shares bounds lease typed = shares_exact shares bounds lease typed
  at_exact news6.Rebind shares bounds lease typed = shares_exact shares bounds lease typed
  at_exact news6.Expire shares bounds lease typed = tt
  at_exact news6.Stop shares bounds lease typed = tt
  at_exact news6.Changed shares bounds lease typed = tt
  at_exact news6.Nothing shares bounds lease typed = tt

  static_exact : (f : Iface) → Q f → (up : Bool) (net : Option Net4) → IfSome net FitsNet4 → AllTold (static_told f.managed up net)
  static_exact f q up None fits = tt
  static_exact f q up (Some net) fits = own_exact reason.StaticLine f q up Nothing (Address4 net) tt fits

  news_told : (news : News) → FitsNews news → (before after : Iface) → Q before → Q after → AllTold (told_of news before after)
  news_told Opened fits before after p q = own_exact reason.Preinit after q after.up Nothing Nothing tt tt
  news_told CarrierCame fits before after p q =
      all_join ExactTold (own reason.Carrier after.managed true Nothing Nothing) (static_told after.managed true after.managed.conf.address)
      (own_exact reason.Carrier after q true Nothing Nothing tt tt) (static_exact after q true after.managed.conf.address q.fits.address)
  news_told CarrierWent fits before after p q = own_exact reason.NoCarrier after q false Nothing Nothing tt tt
  news_told Released fits before after p q = tt
  news_told Stopped fits before after p q = own_exact reason.Stopped after q after.up Nothing Nothing tt tt
  news_told (Lease4 told) fits before after p q =
      if_exact (reason4 told) after q after.up (leased4 (held_of before.dhcp4)) (leased4 (held_of after.dhcp4)) (held_four before p) (held_four after q)
  news_told (Lease6 told) fits before after p q =
      all_join ExactTold (own_if (reason6 told) after.managed after.up (leased6 (dhcp6.held_of before.dhcp6)) (leased6 (dhcp6.held_of after.dhcp6)))
      (shares_at told after.managed.conf.dhcp6.shares (dhcp6.held_of after.dhcp6))
      (if_exact (reason6 told) after q after.up (leased6 (dhcp6.held_of before.dhcp6)) (leased6 (dhcp6.held_of after.dhcp6)) (held_six before p)
      (held_six after q))
      (at_exact told after.managed.conf.dhcp6.shares q.fits.dhcp6.shares (dhcp6.held_of after.dhcp6)
      (held_typed (dhcp6.held_of after.dhcp6) (text_six after q)))
  news_told Timeout fits before after p q = own_exact reason.Timeout after q after.up Nothing Nothing tt tt
  news_told LocalGained fits before after p q =
      own_exact reason.Ipv4ll after q after.up Nothing (local_held (held_in after.local.state)) tt (local_fits after.local q.range)
  news_told (LocalLost ip) fits before after p q =
      own_exact reason.Expire after q after.up (Address4 (local_net ip)) Nothing (choice_fits ip fits) tt

  reports_told : (reports : List Report) → AllByRecursion (IsExactReport managed) reports → AllTold (flat_map told_by reports)
  reports_told reports all =
      all_flat (IsExactReport managed) ExactTold told_by (λ r exact. news_told r.news exact.news r.before r.after exact.before exact.after) reports all

  -- ---- the jobs of interfaces, one after another

  abbrev AllExact : List Iface → Type 0
  AllExact ifaces = AllByRecursion Q ifaces

  found_exact : (test : Iface → Bool) (ifaces : List Iface) → AllExact ifaces → IfSome (find test ifaces) Q
  found_exact test [] all = tt
  found_exact test (f ∷ ifaces) all = gated (λ (o : Option Iface). IfSome o Q) (test f) (Some f) (find test ifaces) all.0 (found_exact test ifaces all.1)

  shared_exact : (net : Net6) → FitsNet6 net → (found : Option Iface) → IfSome found Q → AreExactJobs managed (shared_jobs net found)
  shared_exact net fits None q = tt
  shared_exact net fits (Some f) q = jobs_exact reason.Delegated6 f q f.up Nothing (Delegated net) tt fits

  among_exact : (ifaces : List Iface) → AllExact ifaces → (told : Told) → ExactTold told → AreExactJobs managed (jobs_among ifaces told)
  among_exact ifaces all (Own job) exact = (exact, tt)
  among_exact ifaces all (Shared number net) fits =
      shared_exact net fits (find (λ iface. index_of iface == number) ifaces) (found_exact (λ iface. index_of iface == number) ifaces all)

  all_among : (ifaces : List Iface) → AllExact ifaces → (told : List Told) → AllTold told → AreExactJobs managed (flat_map (jobs_among ifaces) told)
  all_among ifaces all told exact = all_flat ExactTold Exact (jobs_among ifaces) (among_exact ifaces all) told exact

  rest_exact : (coming : List Iface) → AllExact coming → AllExact (drop 1 coming)
  rest_exact [] all = tt
  rest_exact (f ∷ coming) all = all.1

  pub along_exact : (gone coming : List Iface) (steps : List IfaceStep) → AllExact gone → AllExact coming → AllByRecursion (IsExactStep managed) steps
      → AreExactJobs managed (jobs_along gone coming steps)
  along_exact gone coming [] before after all = tt
  along_exact gone coming (step ∷ steps) before after all =
      let later : AllExact (drop 1 coming) = rest_exact coming after in
      all_join Exact (flat_map (jobs_among (gone ++ step.iface ∷ drop 1 coming)) (told_in step)) (jobs_along (gone ++ step.iface ∷ []) (drop 1 coming) steps)
      (all_among (gone ++ step.iface ∷ drop 1 coming) (all_join Q gone (step.iface ∷ drop 1 coming) before (all.0.iface, later)) (told_in step)
      (reports_told step.reports all.0.reports))
      (along_exact (gone ++ step.iface ∷ []) (drop 1 coming) steps (all_join Q gone (step.iface ∷ []) before (all.0.iface, tt)) later all.1)
