-- The calls of hooks with one more that they note.
use Rattle.std.specs.Prelude.{List, []}
use Rattle.world.specs.HookCalls.{HookCall}
use Rattle.child_devices.specs.HookTellings.{hook_noted}
use Rattle.child_devices.specs.declared.processes.HookNote.{HookNote}

abbrev pub hooks_with : HookNote → List HookCall → List HookCall
hooks_with note calls = (hook_noted note (record { polls = []; calls = calls })).calls
