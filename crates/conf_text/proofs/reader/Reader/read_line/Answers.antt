use Rattle.std.proofs.Common.{◌≡◌, Some, Ok, ap}
use Rattle.conf_words.specs.Directives.{shown_line}
use Rattle.conf_directives.specs.declared.names.HeadingName.TheVariants.{Profile, Ssid}
use Rattle.conf_directives.specs.Names.{heading_at}
use Rattle.conf_text.specs.Steps.{ReadSoFar, read_so_far}
use Rattle.conf_text.proofs.TakeLaws.{takes_profile, takes_ssid}
use Rattle.conf_text.proofs.reader.Reader.read_line.Goals as goal

pub returns-in_ok-skip-in-Some-Profile-clause-ok : goal.returns-in_ok-skip-in-Some-Profile-clause-ok
returns-in_ok-skip-in-Some-Profile-clause-ok c =
    let heading : heading_at c.args.line.now.directive.now ≡ Some Profile = (cc) in
    takes_profile (read_so_far c.args.self.now) (shown_line c.args.line.now) (Ok (read_so_far c.skip.new.self)) heading
    (ap (λ (s : ReadSoFar). Ok s) c.in_ok-skip-in-Some-Profile.ensures)

pub returns-in_ok-skip-in-Some-Ssid-clause-ok : goal.returns-in_ok-skip-in-Some-Ssid-clause-ok
returns-in_ok-skip-in-Some-Ssid-clause-ok c =
    let heading : heading_at c.args.line.now.directive.now ≡ Some Ssid = (cc) in
    takes_ssid (read_so_far c.args.self.now) (shown_line c.args.line.now) (Ok (read_so_far c.skip-in-Some-Ssid.new.self)) heading
    (ap (λ (s : ReadSoFar). Ok s) c.in_ok-skip-in-Some-Ssid.ensures)
