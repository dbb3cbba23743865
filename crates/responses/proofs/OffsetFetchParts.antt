-- The parts of an OffsetFetch response, one after the other, are the encoding of its fields.
use Rattle.std.proofs.Common.{◌≡◌, ℕ, ℤ, List, [], ◌++◌, length, refl, ◌∙◌, append-nil, Bor}
use Rattle.std.specs.Prelude.{Option, None, Some}
use Rattle.std.specs.List.{flat_map}
use Rattle.std.specs.Option.{option_map, unwrap_or}
use Rattle.frame_fields.specs.Fields.{size16, size32, size64, be, encoded}
use Rattle.frame_fields.specs.Types.{TopicOf, or_empty}
use Rattle.responses.specs.Responses.{topic_bytes, length_or_null}
use Rattle.responses.specs.OffsetFetch.{FetchedOffset, offset_fetch_response, offset_fetch_value, offset_fetch_head, fetched_offset_fields, fetched_offset_value, fetched_offset_bytes}
use Rattle.responses.proofs.ResponseParts.{topics_are}

pub offset_fetch_parts : (ts : List (TopicOf FetchedOffset)) → encoded offset_fetch_response (offset_fetch_value ts) ≡ offset_fetch_head (length ts) ++ flat_map (topic_bytes fetched_offset_bytes) ts
unfolding encoded
offset_fetch_parts ts = append-nil _ ∙ topics_are fetched_offset_fields fetched_offset_value fetched_offset_bytes (λ p. refl) ts

-- ---- a partition around its metadata

pub text_or_empty : (metadata : Option (Bor (List ℕ))) (empty : Bor (List ℕ)) → empty.now ≡ [] → (unwrap_or metadata empty).now ≡ or_empty (option_map (λ text. text.now) metadata)
text_or_empty None empty is = is
text_or_empty (Some text) empty is = refl

around : (index offset code : ℤ) (metadata : Option (List ℕ))
    → (be size32 index ++ (be size64 offset ++ be size16 (length_or_null metadata))) ++ (or_empty metadata ++ be size16 code)
    ≡ fetched_offset_bytes (record { partition = index; offset = offset; metadata = metadata; code = code })
unfolding encoded
around index offset code None = refl
around index offset code (Some text) = refl

-- the numbers are passed on by value before they are written
pub around_metadata : (before text after : List ℕ) (index offset code sent_index sent_offset sent_code : ℤ) (metadata : Option (List ℕ)) → sent_index ≡ index → sent_offset ≡ offset → sent_code ≡ code
    → before ≡ be size32 sent_index ++ (be size64 sent_offset ++ be size16 (length_or_null metadata)) → text ≡ or_empty metadata → after ≡ be size16 sent_code
    → before ++ (text ++ after) ≡ fetched_offset_bytes (record { partition = index; offset = offset; metadata = metadata; code = code })
around_metadata before text after index offset code sent_index sent_offset sent_code metadata same_index same_offset same_code first middle last =
    (λ i. first i ++ (middle i ++ last i))
    ∙ (λ i. (be size32 (same_index i) ++ (be size64 (same_offset i) ++ be size16 (length_or_null metadata))) ++ (or_empty metadata ++ be size16 (same_code i)))
    ∙ around index offset code metadata
