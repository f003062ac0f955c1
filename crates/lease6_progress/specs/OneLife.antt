-- Lives of a DHCPv6 client for which all goes well, written out. Moments are in milliseconds.
use Rattle.std.specs.Prelude.{ℕ, ◌+◌, ◌<◌, true, false, List, [], ◌∷◌, ◌++◌, None, Some}
use Rattle.v6_options.specs.declared.ia.IaKind.TheVariants.{Na, Pd}
use Rattle.v6_message.specs.declared.kind.ServerKind6.{ServerKind6}
use Rattle.v6_message.specs.declared.kind.ServerKind6.TheVariants.{Advertise, Reply}
use Rattle.v6_message.specs.Replies.{Content6}
use Rattle.v6_client.specs.Settings.{SettingsContent}
use Rattle.settings.specs.Flags.{no_flags}
use Rattle.lease6_progress.specs.Acquiring.{BeginsAnew, RepliesAlone, longest_choice, longest_delay}
use Rattle.lease6_progress.specs.ClientTurns.{ClientTurn, Quiet, Hears, Start, now_in}
use Rattle.lease6_progress.specs.GoingWell.{Answered, EachQuestion, RebindsAlone, Fair, Prompt}
use Rattle.lease6_progress.specs.Staying.{HoldsLasting, Lasting}

abbrev pub client_duid : List ℕ
client_duid = 0 ∷ 3 ∷ 0 ∷ 1 ∷ 2 ∷ 0 ∷ 0 ∷ 0 ∷ 0 ∷ 1 ∷ []

abbrev pub server_duid : List ℕ
server_duid = 0 ∷ 3 ∷ 0 ∷ 1 ∷ 2 ∷ 0 ∷ 0 ∷ 0 ∷ 0 ∷ 9 ∷ []

-- eth0, with an IA_NA and an IA_PD, and `nodelay`
abbrev pub settings : SettingsContent
settings = record {
  site = record {
    iface = record {
      index = record { number = 1 };
      name = record { bytes = 101 ∷ 116 ∷ 104 ∷ 48 ∷ 0 ∷ 0 ∷ 0 ∷ 0 ∷ 0 ∷ 0 ∷ 0 ∷ 0 ∷ 0 ∷ 0 ∷ 0 ∷ []; len = 4 };
      mac = record { bytes = 2 ∷ 0 ∷ 0 ∷ 0 ∷ 0 ∷ 1 ∷ [] };
    };
    flags = record no_flags { nodelay = true };
    rapid = false;
  };
  duid = client_duid;
  asks = record { kind = Na; iaid = 1; hint = 0 } ∷ record { kind = Pd; iaid = 2; hint = 0 } ∷ [];
}

-- its carrier comes at the moment 5000
abbrev pub start : Start
start = record { settings = settings; kept = None; at = 5000; salt = 0 }

-- 2001:db8::7 in the IA_NA and 2001:db8:0:100::/56 in the IA_PD, preferred for 20 seconds and valid for 30; T1 is 10
-- seconds, and T2 16
abbrev pub ias_given : List ℕ
ias_given =
    (0 ∷ 3 ∷ 0 ∷ 40 ∷ 0 ∷ 0 ∷ 0 ∷ 1 ∷ 0 ∷ 0 ∷ 0 ∷ 10 ∷ 0 ∷ 0 ∷ 0 ∷ 16 ∷ [])
    ++ (0 ∷ 5 ∷ 0 ∷ 24 ∷ 0x20 ∷ 1 ∷ 0x0d ∷ 0xb8 ∷ 0 ∷ 0 ∷ 0 ∷ 0 ∷ 0 ∷ 0 ∷ 0 ∷ 0 ∷ 0 ∷ 0 ∷ 0 ∷ 7 ∷ 0 ∷ 0 ∷ 0 ∷ 20 ∷ 0 ∷ 0
    ∷ 0 ∷ 30 ∷ [])
    ++ (0 ∷ 25 ∷ 0 ∷ 41 ∷ 0 ∷ 0 ∷ 0 ∷ 2 ∷ 0 ∷ 0 ∷ 0 ∷ 10 ∷ 0 ∷ 0 ∷ 0 ∷ 16 ∷ [])
    ++ (0 ∷ 26 ∷ 0 ∷ 25 ∷ 0 ∷ 0 ∷ 0 ∷ 20 ∷ 0 ∷ 0 ∷ 0 ∷ 30 ∷ 56 ∷ 0x20 ∷ 1 ∷ 0x0d ∷ 0xb8 ∷ 0 ∷ 0 ∷ 1 ∷ 0 ∷ 0 ∷ 0 ∷ 0 ∷ 0
    ∷ 0 ∷ 0 ∷ 0 ∷ 0 ∷ [])

abbrev pub message_of : ServerKind6 → (xid preference : ℕ) → Content6
message_of k xid preference = record {
  kind = k;
  xid = xid;
  client = Some client_duid;
  server = Some server_duid;
  status = 0;
  preference = preference;
  rapid = false;
  sol_max = None;
  dns = [];
  search = [];
  options = ias_given;
}

abbrev pub quiet_at : (at : ℕ) → ClientTurn
quiet_at at = record { at = at; salt = 0; input = Quiet }

abbrev pub hears_at : (at : ℕ) → Content6 → ClientTurn
hears_at at message = record { at = at; salt = 0; input = Hears message }

-- SOLICIT at 5001, offers at 5400 and 5500, REQUEST at 6003 and again at 6904, and the Reply at 7000
abbrev pub until_held : List ClientTurn
until_held =
    hears_at 7000 (message_of Reply 2 0) ∷ quiet_at 6904 ∷ quiet_at 6003 ∷ hears_at 5500 (message_of Advertise 1 3)
    ∷ hears_at 5400 (message_of Advertise 1 0) ∷ quiet_at 5001 ∷ []

-- and nothing at 8000
abbrev pub one_life : List ClientTurn
one_life = quiet_at 8000 ∷ until_held

pub record GoesWell (s : Start) (wait : ℕ) (turns : List ClientTurn) : Type 0 where
  pub anew : BeginsAnew s
  pub prompt : Prompt s turns
  pub fair : Fair s EachQuestion wait turns
  pub past_end : s.at + longest_delay s.settings + longest_choice + wait < now_in s turns

abbrev pub OneLifeGoesWell : Type 0
OneLifeGoesWell = GoesWell start 1000 one_life

-- ---- with Rapid Commit

abbrev pub rapid_start : Start
rapid_start = record start { settings = record settings { site = record settings.site { rapid = true } } }

abbrev pub committed : Content6
committed = record (message_of Reply 1 0) { rapid = true }

-- SOLICIT at 5001, and the Reply at 5400
abbrev pub rapid_life : List ClientTurn
rapid_life = quiet_at 7000 ∷ hears_at 5400 committed ∷ quiet_at 5001 ∷ []

pub record GoesAtOnce (s : Start) (wait : ℕ) (turns : List ClientTurn) : Type 0 where
  pub anew : BeginsAnew s
  pub prompt : Prompt s turns
  pub fair : Fair s EachQuestion wait turns
  pub replies : RepliesAlone turns
  pub past_end : s.at + longest_delay s.settings + wait < now_in s turns

abbrev pub RapidLifeGoesWell : Type 0
RapidLifeGoesWell = GoesAtOnce rapid_start 1000 rapid_life

-- ---- what is held stays so

pub record KeepsWell (s : Start) (answered : Answered) (wait : ℕ) (later earlier : List ClientTurn) : Type 0 where
  pub holds : HoldsLasting s answered wait earlier
  pub prompt : Prompt s (later ++ earlier)
  pub fair : Fair s answered wait (later ++ earlier)
  pub lasting : Lasting s answered wait later earlier

-- RENEW at 17000, a Reply at 17400, and nothing at 20000
abbrev pub renewed_life : List ClientTurn
renewed_life = quiet_at 20000 ∷ hears_at 17400 (message_of Reply 1 0) ∷ quiet_at 17000 ∷ []

abbrev pub RenewedLifeGoesWell : Type 0
RenewedLifeGoesWell = KeepsWell start EachQuestion 1000 renewed_life until_held

-- what another server says
abbrev pub of_other : Content6
of_other = record (message_of Reply 2 0) { server = Some (0 ∷ 3 ∷ 0 ∷ 1 ∷ 2 ∷ 0 ∷ 0 ∷ 0 ∷ 0 ∷ 8 ∷ []) }

-- RENEW at 17000, which isn't answered; REBIND at 23000; its Reply at 23400, and nothing at 24000
abbrev pub rebound_life : List ClientTurn
rebound_life = quiet_at 24000 ∷ hears_at 23400 of_other ∷ quiet_at 23000 ∷ quiet_at 17000 ∷ []

abbrev pub ReboundLifeGoesWell : Type 0
ReboundLifeGoesWell = KeepsWell start RebindsAlone 1000 rebound_life until_held
