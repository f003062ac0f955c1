-- The files that a life keeps: what is known of each, what it is to hold, and what is asked to bring that about.
use Rattle.std.specs.Prelude.{ℕ, ◌+◌, bytes_eq, Bool, true, false, if◌then◌else◌, List, [], ◌∷◌, Option, Some, None, is_none, option_map}
use Rattle.std.specs.List.{list_any}
use Rattle.client_model.specs.LeaseText.LeaseLines.{lease4_text}
use Rattle.client_model.specs.Lease6Text.LeaseLines.{lease6_text}
use Rattle.client_model.specs.DuidText.DuidTexts.{duid_text}
use Rattle.client_model.specs.declared.interfaces.Iface.{Iface}
use Rattle.client_model.specs.Clients.{kept_lease, kept_lease6}
use Rattle.client_model.specs.ResolverParts.{resolver_wanted}
use Rattle.device_calls.specs.Calls.{WriteAside, SyncAside, RenameAside, RemoveFile, Settle}
use Rattle.device_calls.specs.Programs.{Asks, Done, Then, after}

-- what is known of a file
pub data Known : Type 0 where
  -- its bytes; nothing stands for no such file
  Holds : (content : Option (List ℕ)) → Known
  -- a call that was to change it failed
  Unknown : Known
  -- the opening couldn't read it, and nothing was to be kept in it since
  Unread : Known

-- what a file keeps: the DUID of the host, a lease of the interface of a number, or what the resolver is told
pub data Keeps : Type 0 where
  Duid : (bytes : List ℕ) → Keeps
  Lease4 : (iface : ℕ) → Keeps
  Lease6 : (iface : ℕ) → Keeps
  Resolver : Keeps

pub record KeptFile : Type 0 where
  pub keeps : Keeps
  pub name : List ℕ
  pub known : Known

-- ---- what a file is to hold

-- the text of what it keeps; where no lease is kept, or the resolver is told nothing, there is to be no file
abbrev pub wanted_in : List Iface → Keeps → Option (List ℕ)
wanted_in ifaces (Duid bytes) = Some (duid_text bytes)
wanted_in ifaces (Lease4 iface) = option_map lease4_text (kept_lease iface ifaces)
wanted_in ifaces (Lease6 iface) = option_map lease6_text (kept_lease6 iface ifaces)
wanted_in ifaces Resolver = resolver_wanted ifaces

abbrev pub same_content : Option (List ℕ) → Option (List ℕ) → Bool
same_content None None = true
same_content None (Some b) = false
same_content (Some a) None = false
same_content (Some a) (Some b) = bytes_eq a b

-- A file that couldn't be read is left alone: that of a lease until one is kept, that of the DUID for good. That of the
-- resolver isn't.
abbrev pub is_left : Keeps → (wanted : Option (List ℕ)) → Bool
is_left (Duid bytes) wanted = true
is_left (Lease4 iface) wanted = is_none wanted
is_left (Lease6 iface) wanted = is_none wanted
is_left Resolver wanted = false

-- whether nothing is to be done
abbrev pub is_settled : Keeps → Known → (wanted : Option (List ℕ)) → Bool
is_settled keeps (Holds content) wanted = same_content content wanted
is_settled keeps Unknown wanted = false
is_settled keeps Unread wanted = is_left keeps wanted

-- ---- what is asked

-- a call that wasn't done ends it
abbrev pub if_done : Bool → Asks Bool → Asks Bool
if_done true more = more
if_done false more = Done false

-- a file is written aside, synced, put in place, and that is settled; or it is removed, and that is settled; whether
-- all was done
abbrev pub bringing : (name : List ℕ) → (wanted : Option (List ℕ)) → Asks Bool
bringing name (Some bytes) =
    Then (WriteAside name bytes) (λ written. if_done written
    (Then (SyncAside name) (λ synced. if_done synced
    (Then (RenameAside name) (λ renamed. if_done renamed
    (Then Settle (λ settled. Done settled)))))))
bringing name None = Then (RemoveFile name) (λ removed. if_done removed (Then Settle (λ settled. Done settled)))

abbrev pub known_after : (wanted : Option (List ℕ)) → (done : Bool) → Known
known_after wanted true = Holds wanted
known_after wanted false = Unknown

abbrev pub keeping_one : (wanted : Option (List ℕ)) → KeptFile → Asks KeptFile
keeping_one wanted file =
    if is_settled file.keeps file.known wanted then Done file
    else after (bringing file.name wanted) (λ done. Done (record file { known = known_after wanted done }))

-- one file after another; a failure stops none
abbrev pub keeping : List Iface → List KeptFile → Asks (List KeptFile)
keeping ifaces [] = Done []
keeping ifaces (file ∷ files) =
    after (keeping_one (wanted_in ifaces file.keeps) file) (λ first.
    after (keeping ifaces files) (λ rest. Done (first ∷ rest)))

-- ---- when it is tried again

abbrev pub is_unknown : Known → Bool
is_unknown (Holds content) = false
is_unknown Unknown = true
is_unknown Unread = false

-- an unknown file is tried again after a second
abbrev pub file_retry_at : List KeptFile → ℕ → Option ℕ
file_retry_at files now = if list_any (λ file. is_unknown file.known) files then Some (now + 1000) else None
