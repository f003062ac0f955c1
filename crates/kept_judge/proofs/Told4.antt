-- What is kept of an interface with a kept lease of DHCPv4, and of one without.
use Rattle.std.proofs.Common.{◌≡◌, ℕ, Bool, true, false, ◌&&◌, List, [], ◌∷◌, Option, Some, None, IfSome, refl, sym, ap, subst, ◌∙◌}
use Rattle.net_types.specs.declared.address.Ip4.{Ip4}
use Rattle.net_types.specs.declared.address.Net.{Net}
use Rattle.lease_text.specs.Leases.{LeaseContent}
use Rattle.v4_frames.specs.declared.sent.Sent4.{Sent4}
use Rattle.v4_client.specs.declared.states.Answer4.{Answer4}
use Rattle.audit_words.specs.EvidenceWords.Entries.{Entry}
use Rattle.audit_words.specs.EvidenceWords.Inputs.{Site, carrier_after, index_at}
use Rattle.lease6_evidence.specs.LeaseEvidence.Exchanges.{messages_at}
use Rattle.kept_judge.specs.declared.standing.Asked4.{Asked4}
use Rattle.kept_judge.specs.declared.standing.Asked4.TheVariants.{Nothing, Again, Over}
use Rattle.kept_judge.specs.declared.standing.Kept4.{Kept4}
use Rattle.kept_judge.specs.Asking4.{Tells4, answer_at, answered, gives4, if_stays, is_kept4, is_over4, kept4_in, said_all, some_gives4, turned4}
use Rattle.kept_judge.specs.Staying.{stays}
use Rattle.kept_judge.proofs.AskingTold4.{over_all}

abbrev kept_with : Bool → Asked4 → Kept4
kept_with up asked = record { up = up; asked = asked }

module _ (site : Site) where
  abbrev kept4_first : Kept4
  kept4_first = record { up = site.up; asked = Nothing }

  none_told : (kept : Option LeaseContent) → kept ≡ None → (P : LeaseContent → Type 0) → IfSome kept P
  none_told kept is P = subst (λ (o : Option LeaseContent). IfSome o P) (sym is) tt

  each_told : (kept : Kept4) → kept ≡ kept4_first → (o : Option LeaseContent) → IfSome o (λ lease. kept ≡ kept4_in site lease.net.ip [])
  each_told kept is None = tt
  each_told kept is (Some lease) = is

  -- before all turns
  pub first_tells : (kept : Kept4) → kept ≡ kept4_first → Tells4 kept site []
  first_tells kept is = each_told kept is site.kept4

  -- where none was kept nothing is told
  pub nothing_tells : (e : Entry) (past : List Entry) (after : Kept4) → site.kept4 ≡ None → Tells4 after site (e ∷ past)
  nothing_tells e past after is = none_told site.kept4 is (λ lease. after ≡ kept4_in site lease.net.ip (e ∷ past))

  one_told : (lease : LeaseContent) (before : Kept4) (past : List Entry) → site.kept4 ≡ Some lease → Tells4 before site past
      → before ≡ kept4_in site lease.net.ip past
  one_told lease before past is t =
      subst (λ (o : Option LeaseContent). IfSome o (λ one. before ≡ kept4_in site one.net.ip past)) is t

  -- a turn of an interface with one
  pub turned_tells4 : (e : Entry) (past : List Entry) (lease : LeaseContent) (index : ℕ) (messages : List (Option Sent4)) (said : Answer4)
      (before after : Kept4) → site.kept4 ≡ Some lease → index ≡ index_at site
      → after ≡ turned4 index e.event lease.net.ip messages said before
      → messages ≡ messages_at site e → said ≡ answer_at site e past → Tells4 before site past → Tells4 after site (e ∷ past)
  turned_tells4 e past lease index messages said before after is i a m s t =
      subst (λ (o : Option LeaseContent). IfSome o (λ one. after ≡ kept4_in site one.net.ip (e ∷ past))) (sym is)
      (a
      ∙ ap (λ (n : ℕ). turned4 n e.event lease.net.ip messages said before) i
      ∙ ap (λ (all : List (Option Sent4)). turned4 (index_at site) e.event lease.net.ip all said before) m
      ∙ ap (λ (one : Answer4). turned4 (index_at site) e.event lease.net.ip (messages_at site e) one before) s
      ∙ ap (turned4 (index_at site) e.event lease.net.ip (messages_at site e) (answer_at site e past)) (one_told lease before past is t))

  -- a turn in which it is over
  over_is : (asked : Asked4) → is_over4 asked ≡ true → asked ≡ Over
  over_is Nothing h = absurd cc
  over_is (Again xid confirmed) h = absurd cc
  over_is Over h = refl

  abbrev kept_over : Bool → Kept4
  kept_over up = record { up = up; asked = Over }

  stays_over : (goes_on : Bool) (address : Ip4) (messages : List (Option Sent4)) (said : Answer4)
      → answered (said_all address messages (if_stays goes_on Over)) said ≡ Over
  stays_over true address messages said = ap (λ (asked : Asked4). answered asked said) (over_all address messages)
  stays_over false address messages said = ap (λ (asked : Asked4). answered asked said) (over_all address messages)

  over_turned : (e : Entry) (past : List Entry) (address : Ip4) (up : Bool) → kept_over up ≡ kept4_in site address past
      → kept_over (carrier_after (index_at site) e.event up) ≡ kept4_in site address (e ∷ past)
  over_turned e past address up is =
      ap (λ (asked : Asked4). kept_with (carrier_after (index_at site) e.event up) asked)
      (sym (stays_over (stays up (index_at site) e.event) address (messages_at site e) (answer_at site e past)))
      ∙ ap (turned4 (index_at site) e.event address (messages_at site e) (answer_at site e past)) is

  rests_each : (e : Entry) (past : List Entry) (before after : Kept4) → before.asked ≡ Over
      → after ≡ kept_over (carrier_after (index_at site) e.event before.up)
      → (o : Option LeaseContent) → IfSome o (λ lease. before ≡ kept4_in site lease.net.ip past)
      → IfSome o (λ lease. after ≡ kept4_in site lease.net.ip (e ∷ past))
  rests_each e past before after over is None told = tt
  rests_each e past before after over is (Some lease) told =
      is ∙ over_turned e past lease.net.ip before.up (sym (ap (λ (asked : Asked4). kept_with before.up asked) over) ∙ told)

  pub rests_tells4 : (e : Entry) (past : List Entry) (index : ℕ) (before after : Kept4) → is_over4 before.asked ≡ true → index ≡ index_at site
      → after ≡ kept_over (carrier_after index e.event before.up) → Tells4 before site past → Tells4 after site (e ∷ past)
  rests_tells4 e past index before after over i is told =
      rests_each e past before after (over_is before.asked over)
      (is ∙ ap (λ (n : ℕ). kept_over (carrier_after n e.event before.up)) i) site.kept4 told

  -- what may be held
  pub none_held : (net : Net) (now : ℕ) (past : List Entry) (persistent : Bool) → persistent ≡ site.managed.conf.flags.persistent → site.kept4 ≡ None
      → (persistent && false) ≡ is_kept4 site net now past
  none_held net now past persistent p is =
      ap (λ (b : Bool). b && false) p
      ∙ ap (λ (o : Option LeaseContent). site.managed.conf.flags.persistent && some_gives4 net now o (λ address. kept4_in site address past)) (sym is)

  pub one_held : (net : Net) (now : ℕ) (past : List Entry) (lease : LeaseContent) (kept : Kept4) → site.kept4 ≡ Some lease → Tells4 kept site past
      → (site.managed.conf.flags.persistent && gives4 net now lease kept) ≡ is_kept4 site net now past
  one_held net now past lease kept is t =
      ap (λ (k : Kept4). site.managed.conf.flags.persistent && gives4 net now lease k) (one_told lease kept past is t)
      ∙ ap (λ (o : Option LeaseContent). site.managed.conf.flags.persistent && some_gives4 net now o (λ address. kept4_in site address past)) (sym is)
