-- Texts that are taken as they are: printable ASCII of so many bytes at most, and names of domains.
use Rattle.std.specs.Prelude.{ℕ, Bool, not, ◌&&◌, nat_le, ◌==◌, List, length, Option, Some, None, if◌then◌else◌}
use Rattle.std.specs.List.{list_all}
use Rattle.std.specs.String.{string_bytes}
use Rattle.net_types.specs.Cutting.{◌>>=◌, split_at_byte}
use Rattle.net_types.specs.Marks.{is_printable}
use Rattle.domain_names.specs.NameText.{is_name}
use Rattle.conf_values.specs.declared.texts.TheConstants.{TEXT_LIMIT}
use Rattle.conf_values.specs.Words.{is_some_text}
use Rattle.conf_values.specs.declared.texts.Env.{Env}

abbrev pub is_printed : (limit : ℕ) → List ℕ → Bool
is_printed limit text = nat_le (length text) limit && list_all is_printable text

abbrev pub printed : (limit : ℕ) → List ℕ → Option (List ℕ)
printed limit text = if is_printed limit text then Some text else None

abbrev pub domain_name : List ℕ → Option (List ℕ)
domain_name text = if is_name text then Some text else None

-- one name or more
abbrev pub are_names : List (List ℕ) → Bool
are_names texts = not (length texts == 0) && list_all is_name texts

abbrev pub domain_names : List (List ℕ) → Option (List (List ℕ))
domain_names texts = if are_names texts then Some texts else None

-- ---- variables of hooks

pub record EnvContent : Type 0 where
  pub name : List ℕ
  pub value : List ℕ

abbrev pub env_content : Env → EnvContent
env_content env = record { name = string_bytes env.name; value = string_bytes env.value }

abbrev pub equals_sign : ℕ
equals_sign = 61

abbrev pub variable_of : List ℕ × List ℕ → EnvContent
variable_of parts = record { name = parts.0; value = parts.1 }

abbrev pub variable_by : List ℕ × List ℕ → Option EnvContent
variable_by parts = if is_some_text parts.0 then Some (variable_of parts) else None

-- NAME=VALUE, up to the first equals sign
abbrev pub variable : List ℕ → Option EnvContent
variable text = do
  whole ← printed TEXT_LIMIT text
  parts ← split_at_byte equals_sign whole
  variable_by parts
