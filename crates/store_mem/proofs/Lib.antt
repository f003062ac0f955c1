mod FileMaps
mod UndoMaps
mod CrashSteps
mod StoreSteps
