-- Names of topics. Kafka's documentation, "Operations", section "Adding and removing topics", has their length; which
-- bytes they may have is the rule of Kafka's own broker.
use Rattle.std.specs.Prelude.{ℕ, ◌==◌, ◌||◌, ◌&&◌, not, Bool, List, length, codes}
use Rattle.std.specs.List.{list_all}
use Rattle.std.specs.Str.{bytes_eq}
use Rattle.std.specs.Int.{is_in_range}
use Rattle.frame_fields.specs.declared.names.TheConstants.{MAX_TOPIC_NAME}

-- an ASCII letter or digit, or `.`, `_` or `-`
abbrev pub is_name_byte : ℕ → Bool
is_name_byte b =
    is_in_range 65 90 b || is_in_range 97 122 b || is_in_range 48 57 b || b == 46 || b == 95 || b == 45

-- 1 to 249 such bytes, and neither `.` nor `..`
abbrev pub is_topic_name : List ℕ → Bool
is_topic_name name =
    is_in_range 1 MAX_TOPIC_NAME (length name) && list_all is_name_byte name
    && not (bytes_eq name (codes ".") || bytes_eq name (codes ".."))
