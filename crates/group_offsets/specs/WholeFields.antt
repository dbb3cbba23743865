-- Fields that are all of some bytes. Kafka's documentation, "Protocol Guide", section "Protocol Primitive Types".
use Rattle.std.specs.Prelude.{◌==◌, length, Option, Some, None, Ok, Err, if◌then◌else◌}
use Rattle.frame_fields.specs.Reading.{At}

-- what was read, where nothing is left behind it
abbrev pub all_of : {X : Type 0} → At X → Option X
all_of (Ok x) = if length x.1 == 0 then Some x.0 else None
all_of (Err e) = None
