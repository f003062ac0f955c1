-- That a DHCPv6 client holds an item in time (RFC 8415, sections 18.2.1 and 18.2.2). Moments are in milliseconds.
use Rattle.std.specs.Prelude.{◌≡◌, ℕ, ◌+◌, ◌*◌, ◌/◌, ◌<◌, ◌≤◌, Bool, true, false, List, [], ◌∷◌, ◌++◌, Some, None, if◌then◌else◌}
use Rattle.std.specs.List.{list_any}
use Rattle.v6_message.specs.declared.kind.ServerKind6.TheVariants.{Reply}
use Rattle.v6_retrans.specs.declared.parameters.TheConstants.{SOLICIT}
use Rattle.lease6_text.specs.Leases.{Lease6Content}
use Rattle.v6_client.specs.declared.states.State6.TheVariants.{Bound}
use Rattle.v6_client.specs.Calls.{parting_begun}
use Rattle.v6_client.specs.Clients.{client_made, held_of}
use Rattle.v6_client.specs.V6Items.Items.{is_nonempty}
use Rattle.v6_client.specs.Settings.{SettingsContent}
use Rattle.lease6_progress.specs.ClientTurns.{ClientTurn, Input6, Hears, Start, client_run, now_in}
use Rattle.lease6_progress.specs.GoingWell.{EachQuestion, Fair, Prompt}
use Rattle.lease6_progress.specs.Questions.{question_in}

-- no item of the lease that was kept before is valid any more
abbrev pub BeginsAnew : Start → Type 0
BeginsAnew s = (parting_begun s.at (client_made s.settings s.kept)).stays ≡ false

-- an address or a prefix
abbrev pub has_item : Lease6Content → Bool
has_item lease = list_any (λ ia. is_nonempty ia.items) lease.ias

-- After the begin, or some turn that came by the moment `end`, an item is held, and nothing is asked.
pub record HeldBy (s : Start) (turns : List ClientTurn) (end : ℕ) : Type 0 where
  pub later : List ClientTurn
  pub earlier : List ClientTurn
  pub cut : turns ≡ later ++ earlier
  pub in_time : now_in s earlier ≤ end
  pub lease : Lease6Content
  pub bound : (client_run s earlier).state ≡ Bound
  pub held : held_of (client_run s earlier) ≡ Some lease
  pub some_item : has_item lease ≡ true
  pub settled : question_in s earlier ≡ None

-- the longest delay of the first SOLICIT: a second, SOL_MAX_DELAY, or a millisecond (sections 7.6 and 18.2.1)
abbrev pub longest_delay : SettingsContent → ℕ
longest_delay settings = if settings.site.flags.nodelay then 1 else 1000

-- the longest time for which offers are collected: the first SOLICIT's, and a tenth of it (sections 15 and 18.2.1)
abbrev pub longest_choice : ℕ
longest_choice = SOLICIT.irt * 11 / 10

-- By SOLICIT, Advertise, REQUEST and Reply, where servers take no longer than the first SOLICIT's shortest time.
abbrev pub Acquires : Type 0
Acquires = (s : Start) (wait : ℕ) (turns : List ClientTurn) → wait ≤ SOLICIT.irt → BeginsAnew s → Prompt s turns
    → Fair s EachQuestion wait turns
    → s.at + longest_delay s.settings + longest_choice + wait < now_in s turns
    → HeldBy s turns (s.at + longest_delay s.settings + longest_choice + wait)

-- each message that comes is a Reply
abbrev pub IsReply : Input6 → Type 0
IsReply (Hears message) = message.kind ≡ Reply
IsReply _ = Unit {0}

abbrev pub RepliesAlone : List ClientTurn → Type 0
RepliesAlone [] = Unit {0}
RepliesAlone (turn ∷ past) = IsReply turn.input × RepliesAlone past

-- By SOLICIT and Reply, where servers commit to a SOLICIT at once.
abbrev pub AcquiresAtOnce : Type 0
AcquiresAtOnce = (s : Start) (wait : ℕ) (turns : List ClientTurn) → wait ≤ SOLICIT.irt → BeginsAnew s → Prompt s turns
    → Fair s EachQuestion wait turns → RepliesAlone turns → s.at + longest_delay s.settings + wait < now_in s turns
    → HeldBy s turns (s.at + longest_delay s.settings + wait)
