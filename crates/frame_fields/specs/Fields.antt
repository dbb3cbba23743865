-- The fields that requests and responses are made of, their encoding, and their faults. Kafka's documentation,
-- "Protocol Guide", sections "Protocol Primitive Types" and "The Messages".
use Rattle.std.specs.Prelude.{◌≡◌, ◌⊎◌, ℕ, ◌-◌, ◌<◌, ◌≤◌, ℤ, pos, negsuc, List, [], ◌++◌, length, take, Option, Some, None, FitsSigned, ◌<ℤ◌}
use Rattle.std.specs.List.{flat_map, AllByRecursion}
use Rattle.std.specs.Int.{Width, w8, w16, w32, w64, byte_len, to_be_bytes, from_be_bytes, cast_signed, cast_unsigned}
use Rattle.frame_fields.specs.declared.error.FieldFault.{FieldFault}
use Rattle.frame_fields.specs.declared.error.FieldFault.TheVariants.{ShortBody, Malformed}

-- ---- descriptions

pub data Size : Type 0 where
  size8 : Size
  size16 : Size
  size32 : Size
  size64 : Size

abbrev pub width : Size → Width
width size8 = w8
width size16 = w16
width size32 = w32
width size64 = w64

-- A signed number; bytes behind their length; the same, with length -1 for null.
pub data Field : Type 0 where
  number : Size → Field
  sized : Size → Field
  sized_or_null : Size → Field

-- Fields in a row. An array has elements of the first fields, and the other fields follow it.
pub data Fields : Type 0 where
  end : Fields
  one : Field → Fields → Fields
  array : Fields → Fields → Fields
  array_or_null : Fields → Fields → Fields

-- ---- values

abbrev pub FieldValue : Field → Type 0
FieldValue (number s) = ℤ
FieldValue (sized s) = List ℕ
FieldValue (sized_or_null s) = Option (List ℕ)

abbrev pub Value : Fields → Type 0
Value end = Unit {0}
Value (one f d) = FieldValue f × Value d
Value (array x d) = List (Value x) × Value d
Value (array_or_null x d) = Option (List (Value x)) × Value d

-- ---- encodings

-- a number, big-endian
abbrev pub be : Size → ℤ → List ℕ
be s z = to_be_bytes (width s) (cast_unsigned (width s) z)

-- the number that the first bytes are
abbrev pub number_at : Size → List ℕ → ℤ
number_at s bytes = cast_signed (width s) (from_be_bytes (width s) (take (byte_len (width s)) bytes))

-- bytes behind a number: how many they are, or how many elements they hold
abbrev pub counted : Size → ℕ → List ℕ → List ℕ
counted s n bytes = be s (pos n) ++ bytes

abbrev pub field : (f : Field) → FieldValue f → List ℕ
field (number s) z = be s z
field (sized s) b = counted s (length b) b
field (sized_or_null s) None = be s (negsuc 0)
field (sized_or_null s) (Some b) = counted s (length b) b

abbrev pub elements : {X : Type 0} → (X → List ℕ) → List X → List ℕ
elements f xs = counted size32 (length xs) (flat_map f xs)

abbrev pub elements_or_null : {X : Type 0} → (X → List ℕ) → Option (List X) → List ℕ
elements_or_null f None = be size32 (negsuc 0)
elements_or_null f (Some xs) = elements f xs

-- the fields' encodings, one after the other
unfoldable pub encoded : (d : Fields) → Value d → List ℕ
encoded end v = []
encoded (one f d) v = field f v.0 ++ encoded d v.1
encoded (array x d) v = elements (encoded x) v.0 ++ encoded d v.1
encoded (array_or_null x d) v = elements_or_null (encoded x) v.0 ++ encoded d v.1

-- ---- which values have an encoding

-- a length or a count that the number can hold
abbrev pub FitsLength : Size → ℕ → Type 0
FitsLength s n = FitsSigned (width s) (pos n)

abbrev pub FieldFits : (f : Field) → FieldValue f → Type 0
FieldFits (number s) z = FitsSigned (width s) z
FieldFits (sized s) b = FitsLength s (length b)
FieldFits (sized_or_null s) None = Unit {0}
FieldFits (sized_or_null s) (Some b) = FitsLength s (length b)

abbrev pub ElementsFit : {X : Type 0} → (X → Type 0) → List X → Type 0
ElementsFit fits xs = FitsLength size32 (length xs) × AllByRecursion fits xs

abbrev pub ElementsOrNullFit : {X : Type 0} → (X → Type 0) → Option (List X) → Type 0
ElementsOrNullFit fits None = Unit {0}
ElementsOrNullFit fits (Some xs) = ElementsFit fits xs

unfoldable pub Fits : (d : Fields) → Value d → Type 0
Fits end v = Unit {0}
Fits (one f d) v = FieldFits f v.0 × Fits d v.1
Fits (array x d) v = ElementsFit (Fits x) v.0 × Fits d v.1
Fits (array_or_null x d) v = ElementsOrNullFit (Fits x) v.0 × Fits d v.1

-- the bytes are the encoding of the fields, and a rest
pub record Encodes (d : Fields) (v : Value d) (bytes rest : List ℕ) : Type 0 where
  pub fits : Fits d v
  pub parts : bytes ≡ encoded d v ++ rest

-- ---- faults

-- fewer bytes than the number has
abbrev pub IsCut : Size → List ℕ → Type 0
IsCut s bytes = length bytes < byte_len (width s)

-- fewer bytes follow the length than it says
abbrev pub IsShorter : Size → List ℕ → Type 0
IsShorter s bytes = (byte_len (width s) ≤ length bytes) × (pos (length bytes - byte_len (width s)) <ℤ number_at s bytes)

-- the number is there, and below the least that is allowed
abbrev pub IsBelow : ℤ → Size → List ℕ → Type 0
IsBelow least s bytes = (byte_len (width s) ≤ length bytes) × (number_at s bytes <ℤ least)

-- the fault of one field
abbrev pub FieldBreaks : Field → FieldFault → List ℕ → Type 0
FieldBreaks (number s) ShortBody bytes = IsCut s bytes
FieldBreaks (number s) Malformed bytes = ⊥
FieldBreaks (sized s) ShortBody bytes = IsCut s bytes ⊎ IsShorter s bytes
FieldBreaks (sized s) Malformed bytes = IsBelow (pos 0) s bytes
FieldBreaks (sized_or_null s) ShortBody bytes = IsCut s bytes ⊎ IsShorter s bytes
FieldBreaks (sized_or_null s) Malformed bytes = IsBelow (negsuc 0) s bytes

-- the fault of an array's count
abbrev pub CountBreaks : ℤ → FieldFault → List ℕ → Type 0
CountBreaks least ShortBody bytes = IsCut size32 bytes
CountBreaks least Malformed bytes = IsBelow least size32 bytes

-- the first part has the fault, or it is encoded and what follows has the fault
abbrev pub FirstOrLater : {X : Type 0} → (X → List ℕ) → (X → Type 0) → (first later : FieldFault → List ℕ → Type 0)
    → FieldFault → List ℕ → Type 0
FirstOrLater {X = X} enc fits first later e bytes =
    first e bytes ⊎ (v : X) × (tail : List ℕ) × fits v × (bytes ≡ enc v ++ tail) × later e tail

-- some elements are encoded, fewer than the count, and the next one has the fault
abbrev pub AnElementBreaks : {X : Type 0} → (X → List ℕ) → (X → Type 0) → (FieldFault → List ℕ → Type 0)
    → FieldFault → List ℕ → Type 0
AnElementBreaks {X = X} enc fits breaks e bytes =
    (count : ℕ) × (before : List X) × (tail : List ℕ) × FitsLength size32 count × AllByRecursion fits before
    × (length before < count) × (bytes ≡ counted size32 count (flat_map enc before) ++ tail) × breaks e tail

-- an array's count has the fault, or one of its elements
abbrev pub ElementsBreak : {X : Type 0} → ℤ → (X → List ℕ) → (X → Type 0) → (FieldFault → List ℕ → Type 0)
    → FieldFault → List ℕ → Type 0
ElementsBreak least enc fits breaks e bytes = CountBreaks least e bytes ⊎ AnElementBreaks enc fits breaks e bytes

-- some first fields are encoded, and the next one has the fault
unfoldable pub Breaks : Fields → FieldFault → List ℕ → Type 0
Breaks end e bytes = ⊥
Breaks (one f d) e bytes = FirstOrLater (field f) (FieldFits f) (FieldBreaks f) (Breaks d) e bytes
Breaks (array x d) e bytes =
    FirstOrLater (elements (encoded x)) (ElementsFit (Fits x)) (ElementsBreak (pos 0) (encoded x) (Fits x) (Breaks x))
    (Breaks d) e bytes
Breaks (array_or_null x d) e bytes =
    FirstOrLater (elements_or_null (encoded x)) (ElementsOrNullFit (Fits x))
    (ElementsBreak (negsuc 0) (encoded x) (Fits x) (Breaks x)) (Breaks d) e bytes
