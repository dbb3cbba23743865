-- A request that is read from a frame of bytes is within the logs, where it brings no image, and only batches and deltas that
-- are of them: its byte strings are of bytes, and its numbers and names are those that its fields can hold.
use Rattle.std.proofs.Common.{◌≡◌, inl, inr, ℕ, pos, List, [], ◌∷◌, ◌++◌, length, drop, Option, Some, None, refl, sym, subst, ◌∙◌, arith}
use Rattle.std.specs.Prelude.{map}
use Rattle.std.specs.List.{flat_map, AllByRecursion}
use Rattle.std.proofs.lemmas.List.{take_at, append-nil}
use Rattle.std.proofs.lemmas.List.Concat.{flat_map-cons}
use Rattle.frame_fields.specs.Fields.{size16, size32, number, sized, sized_or_null, Field, Fields, end, one, array, array_or_null, FieldValue, Value, be, field, elements, elements_or_null, FitsLength, Fits, encoded}
use Rattle.frame_fields.specs.Types.{nullable_string, nullable_bytes, topic, topic_request, or_empty}
use Rattle.frame_fields.specs.Frames.{IsBytes}
use Rattle.frame_fields.proofs.Numbers.{IsBytes-drop, IsBytes-take, IsBytes-second}
use Rattle.request_frames.specs.declared.api.Api.{Api}
use Rattle.request_frames.specs.declared.api.Api.TheVariants.{Produce, Fetch, ListOffsets, Metadata, OffsetCommit, OffsetFetch, FindCoordinator, ApiVersions, InitProducerId, Deliver, Clean, CleanPart, Export, ExportDelta, Import, ImportDelta, Get, Cover, ForgetGroup, Trim}
use Rattle.request_frames.specs.Requests.{fields_of, body_value, RequestValue, body_fields, IsRequest}
use Rattle.request_frames.specs.Produce.{produce_partition, produce_partition_value, produce_fields, produce_request}
use Rattle.request_frames.specs.OffsetCommit.{offset_commit_partition, offset_commit_partition_value, offset_commit_fields, offset_commit_request}
use Rattle.group_offsets.specs.Keys.{IsName}
use Rattle.group_offsets.proofs.KeyEncodings.{metadata_from}
use Rattle.broker_state.specs.State.{State}
use Rattle.cleaning_laws.specs.Logs.{Logs}
use Rattle.cleaning_laws.specs.Settled.{EachEntry, CommitFits, IsFromLogs, IsWithin}

-- ---- values whose encoding is of bytes

abbrev FieldBytes : (f : Field) → FieldValue f → Type 0
FieldBytes (number s) z = Unit {0}
FieldBytes (sized s) b = IsBytes b
FieldBytes (sized_or_null s) None = Unit {0}
FieldBytes (sized_or_null s) (Some b) = IsBytes b

abbrev OrNull : {X : Type 0} → (X → Type 0) → Option (List X) → Type 0
OrNull P None = Unit {0}
OrNull P (Some xs) = AllByRecursion P xs

-- each byte string of the values is of bytes
abbrev HasBytes : (d : Fields) → Value d → Type 0
HasBytes end v = Unit {0}
HasBytes (one f d) v = FieldBytes f v.0 × HasBytes d v.1
HasBytes (array x d) v = AllByRecursion (HasBytes x) v.0 × HasBytes d v.1
HasBytes (array_or_null x d) v = OrNull (HasBytes x) v.0 × HasBytes d v.1

bytes_first : (front rest : List ℕ) → IsBytes (front ++ rest) → IsBytes front
bytes_first front rest all = subst IsBytes (take_at front rest (length front) refl) (IsBytes-take (length front) (front ++ rest) all)

field_bytes : (f : Field) (v : FieldValue f) → IsBytes (field f v) → FieldBytes f v
field_bytes (number s) z all = tt
field_bytes (sized s) b all = IsBytes-second (be s (pos (length b))) b all
field_bytes (sized_or_null s) None all = tt
field_bytes (sized_or_null s) (Some b) all = IsBytes-second (be s (pos (length b))) b all

all_bytes : {X : Type 0} (enc : X → List ℕ) (P : X → Type 0) → ((x : X) → IsBytes (enc x) → P x) → (xs : List X) → IsBytes (flat_map enc xs) → AllByRecursion P xs
all_bytes enc P each [] all = tt
all_bytes enc P each (x ∷ xs) all =
    let parts : IsBytes (enc x ++ flat_map enc xs) = subst IsBytes (flat_map-cons enc x xs) all in
    (each x (bytes_first (enc x) (flat_map enc xs) parts), all_bytes enc P each xs (IsBytes-second (enc x) (flat_map enc xs) parts))

elements_bytes : {X : Type 0} (enc : X → List ℕ) (P : X → Type 0) → ((x : X) → IsBytes (enc x) → P x) → (xs : List X) → IsBytes (elements enc xs) → AllByRecursion P xs
elements_bytes enc P each xs all = all_bytes enc P each xs (IsBytes-second (be size32 (pos (length xs))) (flat_map enc xs) all)

or_null_bytes : {X : Type 0} (enc : X → List ℕ) (P : X → Type 0) → ((x : X) → IsBytes (enc x) → P x) → (o : Option (List X)) → IsBytes (elements_or_null enc o) → OrNull P o
or_null_bytes enc P each None all = tt
or_null_bytes enc P each (Some xs) all = elements_bytes enc P each xs all

has_bytes : (d : Fields) (v : Value d) → IsBytes (encoded d v) → HasBytes d v
unfolding encoded
has_bytes end v all = tt
has_bytes (one f d) v all = (field_bytes f v.0 (bytes_first (field f v.0) (encoded d v.1) all), has_bytes d v.1 (IsBytes-second (field f v.0) (encoded d v.1) all))
has_bytes (array x d) v all =
    (elements_bytes (encoded x) (HasBytes x) (has_bytes x) v.0 (bytes_first (elements (encoded x) v.0) (encoded d v.1) all), has_bytes d v.1 (IsBytes-second (elements (encoded x) v.0) (encoded d v.1) all))
has_bytes (array_or_null x d) v all =
    (or_null_bytes (encoded x) (HasBytes x) (has_bytes x) v.0 (bytes_first (elements_or_null (encoded x) v.0) (encoded d v.1) all), has_bytes d v.1 (IsBytes-second (elements_or_null (encoded x) v.0) (encoded d v.1) all))

-- ---- what requests say

all_mapped : {X Y : Type 0} (f : X → Y) (P : Y → Type 0) (Q : X → Type 0) → ((x : X) → Q x → P (f x)) → (xs : List X) → AllByRecursion Q xs → AllByRecursion P (map f xs)
all_mapped f P Q each [] all = tt
all_mapped f P Q each (x ∷ xs) all = (each x all.0, all_mapped f P Q each xs all.1)

-- null counts as no bytes
bytes_or_none : (o : Option (List ℕ)) → FieldBytes nullable_bytes o → IsBytes (or_empty o)
bytes_or_none None all = λ i. omega arith
bytes_or_none (Some b) all = all

produce_within : (v : Value produce_fields) → HasBytes produce_fields v → EachEntry (λ name e. IsBytes e.records) (produce_request v).topics
produce_within v all =
    all_mapped (topic_request produce_partition produce_partition_value) (λ t. AllByRecursion (λ e. IsBytes e.records) t.entries) (HasBytes (topic produce_partition))
    (λ t said. all_mapped produce_partition_value (λ e. IsBytes e.records) (HasBytes produce_partition) (λ e one. bytes_or_none e.1.0 one.1.0) t.1.0 said.1.0)
    v.1.1.1.0 all.1.1.1.0

is_name : (text : List ℕ) → FitsLength size16 (length text) → IsName text
is_name text fits = let most = fits.sfits in omega (arith, most)

commit_within : (v : Value offset_commit_fields) → Fits offset_commit_fields v → EachEntry (CommitFits v.0) (offset_commit_request v).topics
unfolding Fits
commit_within v fits =
    all_mapped (topic_request offset_commit_partition offset_commit_partition_value) (λ t. AllByRecursion (CommitFits v.0 t.name) t.entries) (Fits (topic offset_commit_partition))
    (λ t said. all_mapped offset_commit_partition_value (CommitFits v.0 t.0) (Fits offset_commit_partition)
    (λ e one. (record { group = is_name v.0 fits.0; topic = is_name t.0 said.0; partition = one.0 }, record { offset = one.1.0; metadata = metadata_from e.1.1.0 one.1.1.0 }))
    t.1.0 said.1.0.1)
    v.1.1.1.1.0 fits.1.1.1.1.0.1

said_within : (s : State) (logs : Logs) (api : Api) (v : Value (fields_of api)) → Fits (fields_of api) v → HasBytes (fields_of api) v → IsFromLogs s logs (body_value api v) → IsWithin s logs (body_value api v)
said_within s logs Produce v fits all from = (produce_within v all, from)
said_within s logs Fetch v fits all from = (tt, from)
said_within s logs ListOffsets v fits all from = (tt, from)
said_within s logs Metadata v fits all from = (tt, from)
said_within s logs OffsetCommit v fits all from = (commit_within v fits, from)
said_within s logs OffsetFetch v fits all from = (tt, from)
said_within s logs FindCoordinator v fits all from = (tt, from)
said_within s logs ApiVersions v fits all from = (tt, from)
said_within s logs InitProducerId v fits all from = (tt, from)
said_within s logs Deliver v fits all from = (all.1.1.0, from)
said_within s logs Clean v fits all from = (tt, from)
said_within s logs CleanPart v fits all from = (tt, from)
said_within s logs Export v fits all from = (tt, from)
said_within s logs ExportDelta v fits all from = (tt, from)
said_within s logs Import v fits all from = (tt, from)
said_within s logs ImportDelta v fits all from = (all.1.1.0, from)
said_within s logs Get v fits all from = (tt, from)
said_within s logs Cover v fits all from = (tt, from)
said_within s logs ForgetGroup v fits all from = (tt, from)
said_within s logs Trim v fits all from = (tt, from)

later_fits : (f : Field) (d : Fields) (v : Value (one f d)) → Fits (one f d) v → Fits d v.1
unfolding Fits
later_fits f d v fits = fits.1

pub request_within : (s : State) (logs : Logs) (frame : List ℕ) (q : RequestValue) → IsBytes frame → IsRequest frame q → IsFromLogs s logs q.body → IsWithin s logs q.body
request_within s logs frame q bytes (inr (asks, says)) from = subst (λ (x : RequestValue). IsWithin s logs x.body) (sym says) (tt, tt)
request_within s logs frame q bytes (inl (api, is, v, encodes, says)) from =
    let whole : drop 8 frame ≡ encoded (body_fields api) v = encodes.parts ∙ append-nil (encoded (body_fields api) v) in
    let all : HasBytes (body_fields api) v = has_bytes (body_fields api) v (subst IsBytes whole (IsBytes-drop 8 frame bytes)) in
    subst (λ (x : RequestValue). IsWithin s logs x.body) (sym says)
    (said_within s logs api v.1 (later_fits nullable_string (fields_of api) v encodes.fits) all.1 (subst (λ (x : RequestValue). IsFromLogs s logs x.body) says from))
