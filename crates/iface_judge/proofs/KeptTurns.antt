-- What the judges of kept leases ask for is what the other judges hand out, and nothing is told where none was kept.
use Rattle.std.proofs.Common.{◌≡◌, ℕ, Bool, true, false, ◌&&◌, List, Option, Some, None, IfSome, refl, sym, ap, ◌∙◌}
use Rattle.std.specs.Option.{is_none, is_some, option_map}
use Rattle.net_types.specs.declared.address.Net.{Net}
use Rattle.net_types.specs.declared.address.Net.TheVariants.{V4, V6}
use Rattle.net_types.specs.declared.interface.IfIndex.{IfIndex}
use Rattle.v4_client.specs.declared.states.Answer4.{Answer4}
use Rattle.v6_message.specs.Replies.{Content6}
use Rattle.lease_text.specs.Leases.{lease_content}
use Rattle.lease6_text.specs.Leases.{Lease6Content, lease6_content}
use Rattle.evidence_words.specs.Entries.{Entry}
use Rattle.evidence_words.specs.Inputs as told_of
use Rattle.share_judge.specs.LeaseEvidence.Exchanges.{Numbered}
use Rattle.item_judge.specs.Lease6Evidence.Exchanges6.{Numbered6}
use Rattle.audit_words.specs.Shown.{site_shown}
use Rattle.audit_words.specs.declared.shown.Site.{Site}
use Rattle.lease_judge.specs.Answers as of_lease
use Rattle.item_judge.specs.Replying.{has_good}
use Rattle.share_judge.specs.KeptJudge.Asking4 as asking4
use Rattle.share_judge.specs.KeptJudge.Asking4.{Tells4, kept4_in}
use Rattle.share_judge.specs.KeptJudge.Asking6.{Tells6, gives_address6, is_good_in, is_kept_address6, kept6_in}
use Rattle.share_judge.specs.KeptJudge.declared.standing.Kept4.{Kept4}
use Rattle.share_judge.specs.KeptJudge.declared.standing.Kept6.{Kept6}
use Rattle.share_judge.specs.KeptShares.{is_kept_share, lease_shares}
use Rattle.iface_judge.specs.Telling.{TellsKept6}

-- ---- what a server says in the exchange that is open

pub answer_same : (site : told_of.Site) (e : Entry) (current : Option Numbered)
    → of_lease.answer_in site e current ≡ asking4.answer_in site e current
answer_same site e None = refl
answer_same site e (Some opened) = refl

pub reply_same : (site : told_of.Site) (current : Option Numbered6) (came : Option Content6)
    → has_good site current came ≡ is_good_in site current came
reply_same site None came = refl
reply_same site (Some opened) None = refl
reply_same site (Some opened) (Some message) = refl

-- ---- whether a lease was kept

none_by : {X Y : Type 0} (f : X → Y) (o : Option X) (P : Y → Type 0) → is_none o ≡ true → IfSome (option_map f o) P
none_by f None P none = tt
none_by f (Some x) P none = absurd cc

one_by : {X Y : Type 0} (f : X → Y) (o : Option X) (T : Type 0) → is_none o ≡ false → IfSome (option_map f o) (λ _. T) → T
one_by f None T some told = absurd cc
one_by f (Some x) T some told = told

any_by : {X Y : Type 0} (f : X → Y) (o : Option X) (T : Type 0) → T → IfSome (option_map f o) (λ _. T)
any_by f None T told = tt
any_by f (Some x) T told = told

-- of such a lease something holds only by what is told of it
kept_by : {X Y : Type 0} (f : X → Y) (o : Option X) (T : Type 0) (result word : Bool) → (option_map f o ≡ None → word ≡ false)
    → IfSome (option_map f o) (λ _. T) → (T → result ≡ word) → (is_some o && result) ≡ word
kept_by f None T result word none told so = sym (none refl)
kept_by f (Some x) T result word none told so = so told

no_part : (a b : Bool) → b ≡ false → (a && b) ≡ false
no_part true b h = h
no_part false b h = refl

module _ (site : Site) (past : List Entry) where
  pub none_turned4 : (kept : Kept4) → is_none site.kept4 ≡ true → Tells4 kept (site_shown site) past
  none_turned4 kept none = none_by lease_content site.kept4 (λ lease. kept ≡ kept4_in (site_shown site) lease.net.ip past) none

  pub none_told6 : (kept : Kept6) → is_none site.kept6 ≡ true → TellsKept6 kept (site_shown site) past
  none_told6 kept none = none_by lease6_content site.kept6 (λ lease. Tells6 kept (site_shown site) past) none

  pub one_told6 : (kept : Kept6) → is_none site.kept6 ≡ false → TellsKept6 kept (site_shown site) past → Tells6 kept (site_shown site) past
  one_told6 kept some told = one_by lease6_content site.kept6 (Tells6 kept (site_shown site) past) some told

  pub any_told6 : (kept : Kept6) → Tells6 kept (site_shown site) past → TellsKept6 kept (site_shown site) past
  any_told6 kept told = any_by lease6_content site.kept6 (Tells6 kept (site_shown site) past) told

none_given : (net : Net) (moment : ℕ) (kept : Kept6) → gives_address6 net moment kept None ≡ false
none_given (V4 net) moment kept = refl
none_given (V6 net) moment kept = refl

module _ (site : Site) (past : List Entry) (kept : Kept6) (net : Net) (moment : ℕ) (result : Bool) where
  abbrev shown : told_of.Site
  shown = site_shown site

  no_address : shown.kept6 ≡ None → is_kept_address6 shown net moment past ≡ false
  no_address none =
      ap (λ (lease : Option Lease6Content). shown.managed.conf.flags.persistent && gives_address6 net moment (kept6_in shown past) lease) none
      ∙ no_part shown.managed.conf.flags.persistent _ (none_given net moment (kept6_in shown past))

  pub gives_so : TellsKept6 kept shown past → (Tells6 kept shown past → result ≡ is_kept_address6 shown net moment past)
      → (is_some site.kept6 && result) ≡ is_kept_address6 shown net moment past
  gives_so told so =
      kept_by lease6_content site.kept6 (Tells6 kept shown past) result (is_kept_address6 shown net moment past) no_address told so

  no_share : (index : IfIndex) → shown.kept6 ≡ None → is_kept_share shown index net moment past ≡ false
  no_share index none =
      ap (λ (lease : Option Lease6Content). shown.managed.conf.flags.persistent && lease_shares shown.managed index net moment (kept6_in shown past) lease) none
      ∙ no_part shown.managed.conf.flags.persistent false refl

  pub shares_so : (index : IfIndex) → TellsKept6 kept shown past → (Tells6 kept shown past → result ≡ is_kept_share shown index net moment past)
      → (is_some site.kept6 && result) ≡ is_kept_share shown index net moment past
  shares_so index told so =
      kept_by lease6_content site.kept6 (Tells6 kept shown past) result (is_kept_share shown index net moment past) (no_share index) told so
