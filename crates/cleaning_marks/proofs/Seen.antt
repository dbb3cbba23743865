-- A group that stands in a journal, seen by its first bytes.
use Rattle.std.proofs.Common.{◌≡◌, ℕ, ◌+◌, ◌-◌, ◌≤◌, ◌<◌, ℤ, List, [], ◌++◌, length, Bool, true, Option, Some, None, nat_eq, refl, sym, ap, ◌∙◌, arith, append_assoc}
use Rattle.std.specs.Prelude.{pos, ◌^◌, min, int_lt, FitsSigned, if◌then◌else◌}
use Rattle.std.specs.Int.{w32, w64, cast_signed, cast_unsigned, to_be_bytes}
use Rattle.std.specs.Ordering.{int_eq}
use Rattle.std.proofs.lemmas.Int.{ints, of_z-to_z}
use Rattle.std.proofs.Math.Facts.{sfits_to_z}
use Rattle.checksum.specs.Crc.{crc_of}
use Rattle.checksum.proofs.CrcShifts.{crc_of-lt}
use Rattle.frame_fields.specs.Fields.{Value, Fits, Encodes, be, number, size32, size64, encoded}
use Rattle.frame_fields.specs.Reading.{nothing, read_field, read_fields, read_number}
use Rattle.frame_fields.proofs.FieldLaws.{encodes_read}
use Rattle.frame_fields.proofs.Numbers.{read_number_again}
use Rattle.journal.proofs.Groups.{length-group}
use Rattle.journal.specs.Files.{Group, StartsWithGroup, before_bytes, before_crc, bytes_with, front_bytes, group_body, group_bytes, group_end, head_body, head_bytes, with_crc}
use Rattle.journal.specs.declared.head.Before.{Before}
use Rattle.journal.specs.declared.head.Head.{Head}
use Rattle.journal.specs.declared.layout.TheConstants.{FRAMES_AT}
use Rattle.cleaning_marks.specs.Files.{as_int64, from_int64}
use Rattle.cleaning_marks.specs.Groups.{group_fields, is_group_at, seen_group, seen_head}

signed_back : (n : ℕ) → n < 2 ^ 32 → cast_unsigned w32 (cast_signed w32 n) ≡ n
signed_back n f = of_z-to_z w32 n f

-- the number of bytes of frames, as an int32
count_back : (n : ℕ) → n ≤ 16777216 → cast_unsigned w32 (pos n) ≡ n
count_back n f = omega (arith, f)

-- the bytes of a group are those of its fields, and its frames
parts : (key : ℤ) (crc at synced count : ℕ) (frames more : List ℕ)
    → (to_be_bytes w32 crc ++ (be size64 key ++ (to_be_bytes w64 at ++ (to_be_bytes w64 synced ++ (to_be_bytes w32 count ++ frames))))) ++ more
    ≡ (to_be_bytes w32 crc ++ (be size64 key ++ (to_be_bytes w64 at ++ (to_be_bytes w64 synced ++ (to_be_bytes w32 count ++ []))))) ++ (frames ++ more)
parts key crc at synced count frames more = refl

module _ (key : ℤ) (at : ℕ) (g : Group) (bytes more : List ℕ) (fits : FitsSigned w64 key) (h : StartsWithGroup (be size64 key) at g bytes more) (low : group_end (be size64 key) at g < 2 ^ 64) where
  abbrev crc : ℕ
  crc = crc_of (group_body (be size64 key) at g)

  abbrev said : Value group_fields
  said = (cast_signed w32 crc, (key, (as_int64 at, (as_int64 g.synced, (pos (length g.frames), nothing)))))

  ends : group_end (be size64 key) at g ≡ at + (32 + length g.frames)
  ends =
      let eight : length (be size64 key) ≡ 8 = refl in
      let all : length (group_bytes (be size64 key) at g) ≡ 32 + length g.frames = omega (arith, length-group (be size64 key) at g, eight) in
      ap (λ (n : ℕ). at + n) all

  few : length g.frames ≤ 16777216
  few = h.valid.most

  at_low : at < 2 ^ 64
  at_low = omega (arith, low, ends)

  synced_low : g.synced < 2 ^ 64
  synced_low = omega (arith, at_low, h.valid.synced)

  at_back : from_int64 (as_int64 at) ≡ at
  at_back = of_z-to_z w64 at at_low

  crc_low : crc < 2 ^ 32
  crc_low = crc_of-lt (group_body (be size64 key) at g)

  encodes : Encodes group_fields said bytes (g.frames ++ more)
  unfolding encoded Fits group_bytes with_crc group_body
  encodes = record {
    fits = (
      sfits_to_z (record { fits = crc_low }),
      (
        fits,
        (
          sfits_to_z (record { fits = at_low }),
          (
            sfits_to_z (record { fits = synced_low }),
            (record { sfits = omega (arith, few) }, tt),
          ),
        ),
      ),
    );
    parts = h.parts ∙ parts key crc at g.synced (length g.frames) g.frames more
        ∙ (λ i. (to_be_bytes w32 (sym (signed_back crc crc_low) i) ++ (be size64 key ++ (to_be_bytes w64 (sym at_back i)
        ++ (to_be_bytes w64 (sym (of_z-to_z w64 g.synced synced_low) i) ++ (to_be_bytes w32 (sym (count_back (length g.frames) few) i) ++ []))))) ++ (g.frames ++ more));
  }

  is_there : is_group_at key at said ≡ true
  is_there =
      let own : nat_eq (from_int64 (as_int64 at)) at ≡ true = grind (arith, at_back) in
      let some : int_lt (pos 0) (pos (length g.frames)) ≡ true = grind (arith, ints, h.valid.some) in
      let same : int_eq key key ≡ true = grind (arith, ints) in
      grind (arith, own, some, same)

  pub group_is_seen : seen_group key at (read_fields group_fields bytes) ≡ Some (record { at = at; end = group_end (be size64 key) at g; crc = crc_of (group_body (be size64 key) at g) })
  group_is_seen =
      let small : min (at + (FRAMES_AT + length g.frames)) (2 ^ 64 - 1) ≡ group_end (be size64 key) at g = omega (arith, low, ends) in
      ap (seen_group key at) (encodes_read group_fields said bytes (g.frames ++ more) encodes)
      ∙ ap (λ (b : Bool). if b then Some (record { at = at; end = min (at + (FRAMES_AT + length g.frames)) (2 ^ 64 - 1); crc = cast_unsigned w32 (cast_signed w32 crc) }) else None) is_there
      ∙ (λ i. Some (record { at = at; end = small i; crc = signed_back crc crc_low i }))

-- the head begins with its crc
crc_first : (h : Head) (more : List ℕ) → (rest : List ℕ) × (head_bytes h ++ more ≡ to_be_bytes w32 (crc_of (head_body h)) ++ rest)
unfolding with_crc before_crc
crc_first h more = by h.before where
  by : (b : Option Before) → (rest : List ℕ) × (bytes_with (front_bytes h) b ++ more ≡ to_be_bytes w32 (crc_of (head_body h)) ++ rest)
  by None = (head_body h ++ more, append_assoc (to_be_bytes w32 (crc_of (head_body h))) (head_body h) more)
  by (Some b) = (((head_body h ++ before_bytes b) ++ to_be_bytes w32 (crc_of (front_bytes h ++ before_bytes b))) ++ more, refl)

pub head_is_seen : (start : ℕ) (h : Head) (more : List ℕ) → seen_head start (read_field (number size32) (head_bytes h ++ more)) ≡ Some (record { at = 0; end = start; crc = crc_of (head_body h) })
unfolding read_field
head_is_seen start h more =
    let first = crc_first h more in
    let crc = crc_of (head_body h) in
    let low : crc < 2 ^ 32 = crc_of-lt (head_body h) in
    let back : cast_unsigned w32 (cast_signed w32 crc) ≡ crc = signed_back crc low in
    ap (λ (x : List ℕ). seen_head start (read_number size32 x)) (first.1 ∙ ap (λ (n : ℕ). to_be_bytes w32 n ++ first.0) (sym back))
    ∙ ap (seen_head start) (read_number_again size32 (cast_signed w32 crc) first.0 (sfits_to_z (record { fits = low })))
    ∙ (λ i. Some (record { at = 0; end = start; crc = back i }))
