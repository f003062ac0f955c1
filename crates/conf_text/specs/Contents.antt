-- What a configuration and its parts say, without where they lie in memory.
use Rattle.std.specs.Prelude.{map, option_map, string_bytes}
use Rattle.conf_scopes.specs.declared.scope.Scope.{Scope}
use Rattle.conf_text.specs.declared.conf.Notice.{Notice}
use Rattle.conf_text.specs.declared.block_name.BlockName.{BlockName}
use Rattle.conf_text.specs.declared.conf.Conf.{Conf}
use Rattle.conf_scopes.specs.ScopeContents.{scope_content}
use Rattle.conf_text.specs.Configurations.{NoticeContent, BlockContent, Configuration}

abbrev pub notice_content : Notice → NoticeContent
notice_content notice = record { line = notice.line; word = string_bytes notice.word }

-- an entry of the blocks
abbrev pub block_content : BlockName × Scope → BlockContent
block_content block = record { name = block.0.name; scope = scope_content block.1 }

abbrev pub configuration : Conf → Configuration
configuration conf = record {
  global = scope_content conf.global;
  blocks = map block_content conf.blocks.entries;
  allowed = conf.allowed.items;
  denied = conf.denied.items;
  script = option_map string_bytes conf.script;
  notices = map notice_content conf.notices.items;
}
