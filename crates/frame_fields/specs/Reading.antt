-- Fields read from left to right, as the code goes; `Fields` says what comes of it.
use Rattle.std.specs.Prelude.{◌≡◌, ℕ, zero, suc, ℤ, pos, negsuc, List, [], ◌∷◌, length, take, drop, nat_lt, if◌then◌else◌, Option, Some, None, Result, Ok, Err}
use Rattle.std.specs.Int.{byte_len}
use Rattle.frame_fields.specs.declared.error.FieldFault.{FieldFault}
use Rattle.frame_fields.specs.declared.error.FieldFault.TheVariants.{ShortBody, Malformed}
use Rattle.frame_fields.specs.Fields.{Size, size32, width, Field, number, sized, sized_or_null, Fields, end, one, array, array_or_null, FieldValue, Value, number_at}

-- what was read and the bytes after it, or the first fault
abbrev pub At : Type 0 → Type 0
At T = Result (T × List ℕ) FieldFault

-- what a function answered, seen by `view`, is what reading gives
abbrev pub Gives : {X Y : Type 0} → (X → Y) → Result X FieldFault → Result Y FieldFault → Type 0
Gives view (Ok x) read = read ≡ Ok (view x)
Gives view (Err e) read = read ≡ Err e

infixl 10 ◌>>=◌
abbrev pub ◌>>=◌ : {A B : Type 0} → Result A FieldFault → (A → Result B FieldFault) → Result B FieldFault
(Ok x) >>= f = f x
(Err e) >>= f = Err e

abbrev pub map_read : {A B : Type 0} → (A → B) → At A → At B
map_read f (Ok x) = Ok (f x.0, x.1)
map_read f (Err e) = Err e

-- one after the other
abbrev pub then_read : {A B : Type 0} → At A → (List ℕ → At B) → At (A × B)
then_read (Ok x) next = map_read (λ y. (x.0, y)) (next x.1)
then_read (Err e) next = Err e

unfoldable pub read_number : Size → List ℕ → At ℤ
read_number s bytes =
    if nat_lt (length bytes) (byte_len (width s)) then Err ShortBody else Ok (number_at s bytes, drop (byte_len (width s)) bytes)

abbrev pub read_text : ℤ → List ℕ → At (List ℕ)
read_text (pos n) bytes = if nat_lt (length bytes) n then Err ShortBody else Ok (take n bytes, drop n bytes)
read_text (negsuc n) bytes = Err Malformed

abbrev pub read_text_or_null : ℤ → List ℕ → At (Option (List ℕ))
read_text_or_null (pos n) bytes = map_read Some (read_text (pos n) bytes)
read_text_or_null (negsuc zero) bytes = Ok (None, bytes)
read_text_or_null (negsuc (suc n)) bytes = Err Malformed

unfoldable pub read_field : (f : Field) → List ℕ → At (FieldValue f)
read_field (number s) bytes = read_number s bytes
read_field (sized s) bytes = do
  n ← read_number s bytes
  read_text n.0 n.1
read_field (sized_or_null s) bytes = do
  n ← read_number s bytes
  read_text_or_null n.0 n.1

-- that many elements
unfoldable pub read_times : {X : Type 0} → (List ℕ → At X) → ℕ → List ℕ → At (List X)
read_times read zero bytes = Ok ([], bytes)
read_times read (suc n) bytes = map_read (λ p. p.0 ∷ p.1) (then_read (read bytes) (read_times read n))

abbrev pub read_count : {X : Type 0} → (List ℕ → At X) → ℤ → List ℕ → At (List X)
read_count read (pos n) bytes = read_times read n bytes
read_count read (negsuc n) bytes = Err Malformed

abbrev pub read_count_or_null : {X : Type 0} → (List ℕ → At X) → ℤ → List ℕ → At (Option (List X))
read_count_or_null read (pos n) bytes = map_read Some (read_times read n bytes)
read_count_or_null read (negsuc zero) bytes = Ok (None, bytes)
read_count_or_null read (negsuc (suc n)) bytes = Err Malformed

unfoldable pub read_array : {X : Type 0} → (List ℕ → At X) → List ℕ → At (List X)
read_array read bytes = do
  n ← read_field (number size32) bytes
  read_count read n.0 n.1

unfoldable pub read_array_or_null : {X : Type 0} → (List ℕ → At X) → List ℕ → At (Option (List X))
read_array_or_null read bytes = do
  n ← read_field (number size32) bytes
  read_count_or_null read n.0 n.1

pub nothing : Unit {0}
nothing = tt

unfoldable pub read_fields : (d : Fields) → List ℕ → At (Value d)
read_fields end bytes = Ok (nothing, bytes)
read_fields (one f d) bytes = then_read (read_field f bytes) (read_fields d)
read_fields (array x d) bytes = then_read (read_array (read_fields x) bytes) (read_fields d)
read_fields (array_or_null x d) bytes = then_read (read_array_or_null (read_fields x) bytes) (read_fields d)

abbrev pub map_ok : {A B : Type 0} → (A → B) → Result A FieldFault → Result B FieldFault
map_ok f (Ok x) = Ok (f x)
map_ok f (Err e) = Err e
