-- The statuses of the program.
use Rattle.std.specs.Prelude.{ℕ}
use Rattle.script_replay.specs.declared.error.ReplayError.{ReplayError}
use Rattle.script_replay.specs.declared.error.ReplayError.TheVariants as replay
use Rattle.broker_core.specs.declared.session.SessionError.{SessionError}
use Rattle.broker_core.specs.declared.session.SessionError.TheVariants as session
use Rattle.subcommands.specs.declared.error.TableError.{TableError}
use Rattle.subcommands.specs.declared.error.TableError.TheVariants.{Batch, Read, Write, OutOfMemory}
use Rattle.subcommands.specs.declared.error.ImagesError.{ImagesError}
use Rattle.subcommands.specs.declared.error.ImagesError.TheVariants as images
use Rattle.subcommands.specs.declared.error.SessionFault.{SessionFault}
use Rattle.subcommands.specs.declared.error.SessionFault.TheVariants.{EndsInside, Stopped}

-- 1 a batch is refused, 3 out of memory, 4 a read or a write failed
abbrev pub table_status : TableError → ℕ
table_status (Batch index why) = 1
table_status OutOfMemory = 3
table_status Read = 4
table_status Write = 4

-- 1 a frame is refused, 3 out of memory, 4 a read or a write failed
abbrev pub stop_status : SessionError → ℕ
stop_status (session.Frame index why) = 1
stop_status session.OutOfMemory = 3
stop_status session.Read = 4
stop_status session.Write = 4

-- 1 also where the input ends inside a frame
abbrev pub session_status : SessionFault → ℕ
session_status EndsInside = 1
session_status (Stopped why) = stop_status why

-- 1 the images are refused, 3 out of memory, 4 a read or a write failed
abbrev pub images_status : ImagesError → ℕ
images_status (images.Images why) = 1
images_status images.OutOfMemory = 3
images_status images.Read = 4
images_status images.Write = 4

-- 1 a line is bad, 3 out of memory, 4 a read or a write failed
abbrev pub replay_status : ReplayError → ℕ
replay_status (replay.BadLine line) = 1
replay_status replay.OutOfMemory = 3
replay_status replay.Read = 4
replay_status replay.Write = 4
