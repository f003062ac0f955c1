-- How the logic stores a command.
use Rattle.std.specs.Coded.{Coded}
use Rattle.std.specs.Global.{Global}
use Rattle.std.specs.declared.process.command.Command.{Command}
use Rattle.std.specs.contracts.process.command.Command as command
use Rattle.std.specs.contracts.alloc.Global as heap
use Rattle.std.below.std_heap.specs.contracts.GlobalAllocator.TheImpl.{ghosts}

abbrev pub command_code : Coded (Command Global)
command_code = (command.the_row heap.the_row ghosts).coded
