-- The files that the opening reads, and what they give.
use Rattle.std.specs.Prelude.{ℕ, ◌≡◌, List, ◌++◌, map, flat_map, Option, option_to_list}
use Rattle.world.specs.StoreCalls.{Reading}
use Rattle.settings.specs.declared.interfaces.Managed.{Managed}
use Rattle.client_model.specs.ClientSettings6.{some_need_duid}
use Rattle.client_model.specs.HostDuid.{host_duid}
use Rattle.client_model.specs.KeptLeases.{Beginning}
use Rattle.device_calls.specs.Programs.{Asks, after}
use Rattle.device_calls.specs.Worlds.{Seen}
use Rattle.device_calls.specs.Does.{Does}
use Rattle.client_core.specs.IfaceMachines.Beginnings as code
use Rattle.turn_model.specs.KeptFiles.{KeptFile, Duid}
use Rattle.turn_model.specs.Loading as model
use Rattle.turn_model.specs.Loading.{FilesLoaded, duid_file, reading_if, loading_one, loading, loading_files, file_with, files_by, files_of, beginning_of, beginnings_of}
use Rattle.life_files.specs.declared.files.Loaded.{Loaded}

-- the files of one interface's leases were read, where its protocols run
pub record LoadsOne (managed : Managed) (duid : List ℕ) (one : Loaded) (old new : Seen)
    (text_old text_new : List ℕ) : Type 0 where
  pub loaded : model.Loaded
  pub does : Does (loading_one managed) loaded old new text_old text_new
  pub beginning_is : code.beginning_of one.beginning ≡ beginning_of duid loaded
  pub files_are : option_to_list one.file4 ++ option_to_list one.file6 ≡ files_by loaded

-- those of all interfaces were read, after other files
pub record LoadsLeases (managed : List Managed) (duid : List ℕ) (before : List KeptFile) (beginnings : List Beginning)
    (files : List KeptFile) (old new : Seen) (text_old text_new : List ℕ) : Type 0 where
  pub loaded : List model.Loaded
  pub does : Does (loading managed) loaded old new text_old text_new
  pub beginnings_are : beginnings ≡ map (beginning_of duid) loaded
  pub files_are : files ≡ before ++ flat_map files_by loaded

-- the DUID, where some interface needs it, and the files of leases
abbrev pub loading_own : List Managed → Asks (List model.Loaded)
loading_own managed = after (reading_if (some_need_duid managed) duid_file) (λ duid. loading managed)

-- the DUID was read, where some interface needs it, and the files of leases
pub record LoadsOwn (managed : List Managed) (beginnings : List Beginning) (files : List KeptFile) (old new : Seen)
    (text_old text_new : List ℕ) : Type 0 where
  pub duid : Option Reading
  pub leases : List model.Loaded
  pub mid : Seen
  pub text_mid : List ℕ
  pub reads_duid : Does (reading_if (some_need_duid managed) duid_file) duid old mid text_old text_mid
  pub reads_leases : Does (loading managed) leases mid new text_mid text_new
  pub beginnings_are : beginnings ≡ map (beginning_of (host_duid managed duid)) leases
  pub files_are : files ≡ file_with (Duid (host_duid managed duid)) duid_file duid ++ flat_map files_by leases

-- all files that a life keeps were read
pub record LoadsAll (managed : List Managed) (beginnings : List Beginning) (files : List KeptFile) (old new : Seen)
    (text_old text_new : List ℕ) : Type 0 where
  pub loaded : FilesLoaded
  pub does : Does (loading_files managed) loaded old new text_old text_new
  pub beginnings_are : beginnings ≡ beginnings_of managed loaded
  pub files_are : files ≡ files_of managed loaded
