-- Metadata, version 1: its fields, and what it says. Kafka's documentation, "Protocol Guide", section "The Messages".
use Rattle.std.specs.Prelude.{ℕ, List, map, Option}
use Rattle.std.specs.Option.{option_map}
use Rattle.request_frames.specs.declared.metadata.request.MetadataRequest.{MetadataRequest}
use Rattle.frame_fields.specs.Fields.{Fields, end, array_or_null, Value}
use Rattle.frame_fields.specs.Types.{string, ◌⨾◌}
use Rattle.frame_fields.specs.Arrays.{values}

-- ---- its fields

-- the names of topics, or null
abbrev pub metadata_fields : Fields
metadata_fields = array_or_null (string ⨾ end) end

-- ---- from the fields' values, which are nested pairs

abbrev pub metadata_request : Value metadata_fields → Option (List (List ℕ))
metadata_request v = option_map (map (λ name. name.0)) v.0

-- ---- apart from where its bytes lie

abbrev pub metadata_view : MetadataRequest → Option (List (List ℕ))
metadata_view r = option_map (λ names. map (λ name. name.0) (values (string ⨾ end) names)) r.names
