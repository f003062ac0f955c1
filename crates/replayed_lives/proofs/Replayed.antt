-- A script that was replayed.
use Rattle.std.proofs.Common.{ℕ, ◌≤◌, List, length, Option}
use Rattle.replay_text.specs.ScriptContent.{script_of}
use Rattle.conf_text.specs.Contents.{configuration}
use Rattle.daemon.specs.Streams.{WritesLines}
use Rattle.text_works.specs.declared.settling.Settled.{Settled}
use Rattle.text_works.specs.Input.{limit, IsInput}
use Rattle.replayed_lives.specs.Replays.{transcript}
use Rattle.text_works.specs.Settling.{IsSettled}
use Rattle.replayed_lives.specs.Replaying.{IsReplayed}
use Rattle.replayed_lives.proofs.HostRightly.{holds_rightly}
use Rattle.replayed_lives.proofs.FilesRightly.{keeps_rightly}
use Rattle.replayed_lives.proofs.FilesWhole.{stay_whole_in}
use Rattle.replayed_lives.proofs.SafelyTold.{tells_safely}

-- its transcript was written, and in its lives the host and the store hold what they shall
pub replayed : (input old new : Option (List ℕ)) (bytes : List ℕ) (s : Settled) → IsInput input bytes → length bytes ≤ limit → IsSettled bytes s
    → WritesLines old new (transcript (script_of s.script) (configuration s.conf)) → IsReplayed input old new
replayed input old new bytes s read within is written = record {
  bytes = bytes;
  script = script_of s.script;
  conf = configuration s.conf;
  read = read;
  in_limit = within;
  is_script = is.is_script;
  written = written;
  host = holds_rightly bytes (script_of s.script) (configuration s.conf) is.is_script;
  files = keeps_rightly bytes (script_of s.script) (configuration s.conf) is.is_script;
  whole = stay_whole_in (script_of s.script) (configuration s.conf);
  safe = tells_safely bytes (script_of s.script) (configuration s.conf) is.is_script;
}
