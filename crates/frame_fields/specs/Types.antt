-- The types of fields, by the names of Kafka's documentation, "Protocol Guide", section "Protocol Primitive Types".
use Rattle.std.specs.Prelude.{ℕ, Bool, true, false, ℤ, pos, List, [], map, Option, Some, None}
use Rattle.frame_fields.specs.Fields.{Field, number, sized, sized_or_null, Fields, end, one, array, Value, size8, size16, size32, size64}

abbrev pub int8 : Field
int8 = number size8

abbrev pub int16 : Field
int16 = number size16

abbrev pub int32 : Field
int32 = number size32

abbrev pub int64 : Field
int64 = number size64

abbrev pub boolean : Field
boolean = number size8

abbrev pub string : Field
string = sized size16

abbrev pub nullable_string : Field
nullable_string = sized_or_null size16

abbrev pub bytes : Field
bytes = sized size32

abbrev pub nullable_bytes : Field
nullable_bytes = sized_or_null size32

-- the value of a BOOLEAN
abbrev pub flag : Bool → ℤ
flag true = pos 1
flag false = pos 0

-- a field and the fields that follow it: `int32 ⨾ int16 ⨾ end`
infixr 5 ◌⨾◌
abbrev pub ◌⨾◌ : Field → Fields → Fields
f ⨾ d = one f d

-- a topic: its name, and an array of entries for its partitions
abbrev pub topic : (partition : Fields) → Fields
topic partition = string ⨾ array partition end

-- an array of topics, and the fields that follow it
abbrev pub topics_of : (partition rest : Fields) → Fields
topics_of partition rest = array (topic partition) rest

-- what is said of a topic: its name, and an entry for each partition
pub record TopicOf (Entry : Type 0) : Type 0 where
  pub name : List ℕ
  pub entries : List Entry

-- what the fields' values say of a topic
abbrev pub topic_request : {X : Type 0} → (partition : Fields) → (Value partition → X) → Value (topic partition) → TopicOf X
topic_request partition f t = record { name = t.0; entries = map f t.1.0 }

-- null counts as no bytes
abbrev pub or_empty : Option (List ℕ) → List ℕ
or_empty None = []
or_empty (Some bytes) = bytes
