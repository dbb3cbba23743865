-- What a reader may rely on, of one key of one partition on its leader. Kafka's documentation, "Design", section "Log
-- Compaction", "What guarantees does log compaction provide?": "Any consumer progressing from the start of the log will see at
-- least the final state of all records in the order they were written. Additionally, all delete markers for deleted records
-- will be seen, provided the consumer reaches the head of the log in a time period less than the topic's delete.retention.ms
-- setting". Here the time runs for each record that a reader was shown.
use Rattle.std.specs.Prelude.{◌≡◌, ◌⊎◌, ⊤, ℕ, ℤ, pos, ◌+◌, ◌<◌, ◌≤◌, ◌≤ℤ◌, ◌<ℤ◌, int_lt, int_le, Bool, ◌&&◌, ◌||◌, not, List, [], ◌∷◌}
use Rattle.std.specs.List.{filter, list_any}

-- a record of the key, or a deletion of it
pub record KeyRecord : Type 0 where
  pub offset : ℤ
  pub is_deletion : Bool

-- What happens: a record of the key is appended, which may be a deletion; the partition is cleaned; a reader is shown the
-- record of the key that has an offset.
pub data Act : Type 0 where
  Appended : (time : ℕ) → KeyRecord → Act
  Cleaned : (time : ℕ) → (upto tomb_before : ℤ) → Act
  Shown : (time : ℕ) → (offset : ℤ) → Act

-- A list of acts has the latest first.

-- when it happens
abbrev pub time_of : Act → ℕ
time_of (Appended t x) = t
time_of (Cleaned t upto tomb_before) = t
time_of (Shown t o) = t

-- it is one of these
abbrev pub IsAmong : {X : Type 0} → X → List X → Type 0
IsAmong x [] = ⊥
IsAmong x (y ∷ ys) = (y ≡ x) ⊎ IsAmong x ys

-- Whether a cleaning leaves a record of those that are there: it lies behind; or no later one that is cleaned has the key, and
-- it is no deletion that may go.
abbrev pub is_left : (upto tomb_before : ℤ) → List KeyRecord → KeyRecord → Bool
is_left upto tomb_before xs x =
    int_le upto x.offset
    || (not (list_any (λ y. int_lt x.offset y.offset && int_lt y.offset upto) xs) && not (x.is_deletion && int_lt x.offset tomb_before))

-- the records of the key that are there behind some acts
abbrev pub there_behind : List Act → List KeyRecord
there_behind [] = []
there_behind (Appended t x ∷ before) = x ∷ there_behind before
there_behind (Cleaned t upto tomb_before ∷ before) = filter (is_left upto tomb_before (there_behind before)) (there_behind before)
there_behind (Shown t o ∷ before) = there_behind before

-- What may come behind some acts. A record lies behind all that came before it, and behind all up to where was cleaned; a
-- cleaning takes no deletion, or those below an offset up to which one cleaned so long before; a reader is shown what is there.
abbrev pub MayFollow : (keep : ℕ) → List Act → Act → Type 0
MayFollow keep before (Appended t x) =
    (pos 0 ≤ℤ x.offset)
    × ((u : ℕ) (y : KeyRecord) → IsAmong (Appended u y) before → y.offset <ℤ x.offset)
    × ((u : ℕ) (far took : ℤ) → IsAmong (Cleaned u far took) before → far ≤ℤ x.offset)
MayFollow keep before (Cleaned t upto tomb_before) =
    (tomb_before ≤ℤ pos 0)
    ⊎ ((u : ℕ) × (far : ℤ) × (took : ℤ) × IsAmong (Cleaned u far took) before × (tomb_before ≤ℤ far) × (u + keep ≤ t))
MayFollow keep before (Shown t o) = (x : KeyRecord) × (x.offset ≡ o) × IsAmong x (there_behind before)

-- what can happen on a leader that is cleaned by frames within their bounds, at rising times
abbrev pub IsCourse : (keep : ℕ) → List Act → Type 0
IsCourse keep [] = ⊤
IsCourse keep (a ∷ before) =
    MayFollow keep before a × ((b : Act) → IsAmong b before → time_of b ≤ time_of a) × IsCourse keep before

-- Whoever was shown a record of the key less than so long ago finds each later one of those that came, though it be a
-- deletion, or one behind that: so it finds the last one.
abbrev pub LearnsInTime : (keep now : ℕ) → List Act → Type 0
LearnsInTime keep now acts =
    (t u : ℕ) (o : ℤ) (x : KeyRecord) → IsAmong (Shown t o) acts → IsAmong (Appended u x) acts → o <ℤ x.offset → now < t + keep
    → (y : KeyRecord) × IsAmong y (there_behind acts) × (x.offset ≤ℤ y.offset)
