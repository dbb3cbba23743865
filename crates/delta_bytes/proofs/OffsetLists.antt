-- Lists of offsets in bytes: what is read where they were written, and the other way round.
use Rattle.std.proofs.Common.{◌≡◌, ℕ, zero, suc, ◌+◌, ◌-◌, ◌*◌, ◌≤◌, ◌<◌, ℤ, pos, List, [], ◌∷◌, ◌++◌, length, take, drop, refl, sym, ap, subst, ◌∙◌, append_assoc, append-nil, arith}
use Rattle.std.specs.Prelude.{◌/◌, ◌<ℤ◌, FitsSigned}
use Rattle.std.specs.List.{AllByRecursion, flat_map}
use Rattle.std.specs.Int.{w32, w64, cast_signed, cast_unsigned}
use Rattle.std.specs.Simd.{first_chunks}
use Rattle.std.proofs.lemmas.Int.{ints, to_z-of_z}
use Rattle.std.proofs.lemmas.List.{length-append, length-take, length-drop, length-map, take-append-drop, take_at, drop_at, drop-drop}
use Rattle.batch_codec.specs.Grammar.{Field, fields, signed}
use Rattle.batch_codec.specs.Fields.{unsigned_at, signed_at}
use Rattle.batch_codec.proofs.Steps.{IsBytes-drop, IsBytes-take}
use Rattle.batch_codec.proofs.Fixed.{wide32, wide64, fields_at, fields_back, fields_again}
use Rattle.copy_images.specs.declared.layout.TheConstants.{MAX_COUNT}
use Rattle.copy_images.proofs.Parts.{IsBytes, signed_field, signed_fits}
use Rattle.copy_images.proofs.PartsAgain.{number_in, fits_field, signed_again}
use Rattle.deltas.specs.Entries.{OffsetsRise}
use Rattle.delta_bytes.specs.EntryBytes.{offset_encoding, list_encoding}
use Rattle.delta_bytes.specs.Judging.{offset_at, offsets_of, IsListAt, IsNextList}

-- ---- from bytes

offset_front : (bytes : List ℕ) → length bytes ≡ 8 → signed_at w64 0 bytes ≡ offset_at bytes
offset_front bytes len =
    let all : take 8 bytes ≡ bytes = ap (λ (x : List ℕ). take 8 x) (sym (append-nil bytes)) ∙ take_at bytes [] 8 len in
    ap offset_at all

empty : (xs : List ℕ) → length xs ≡ 0 → xs ≡ []
empty [] e = refl
empty (x ∷ xs) e = absurd (omega arith)

offset_back : (bytes : List ℕ) → IsBytes bytes → length bytes ≡ 8 → offset_encoding (offset_at bytes) ≡ bytes
unfolding offset_encoding
offset_back bytes fits len =
    let back : bytes ≡ fields ((w64, unsigned_at w64 0 bytes) ∷ []) ++ drop 8 bytes = fields_back (w64 ∷ []) 0 bytes (wide64, tt) fits (omega (arith, len)) in
    let none : drop 8 bytes ≡ [] = empty (drop 8 bytes) (omega (arith, length-drop 8 bytes, len)) in
    let first = signed_field w64 wide64 0 bytes (offset_at bytes) fits (offset_front bytes len) in
    sym (back ∙ (λ i. fields ((w64, first i) ∷ []) ++ none i) ∙ append-nil (fields (signed w64 (offset_at bytes) ∷ [])))

pub chunks_back : (n : ℕ) (bytes : List ℕ) → IsBytes bytes → length bytes ≡ 8 * n → flat_map offset_encoding (offsets_of (first_chunks 8 n bytes)) ≡ bytes
chunks_back zero [] fits len = refl
chunks_back zero (b ∷ bytes) fits len = absurd (omega arith)
chunks_back (suc n) bytes fits len =
    let front : length (take 8 bytes) ≡ 8 = omega (arith, length-take 8 bytes) in
    let rest : length (drop 8 bytes) ≡ 8 * n = omega (arith, length-drop 8 bytes) in
    let one = offset_back (take 8 bytes) (IsBytes-take 8 bytes fits) front in
    let others = chunks_back n (drop 8 bytes) (IsBytes-drop 8 bytes fits) rest in
    (λ i. one i ++ others i) ∙ take-append-drop 8 bytes

chunks_fit : (n : ℕ) (bytes : List ℕ) → IsBytes bytes → length bytes ≡ 8 * n → AllByRecursion (FitsSigned w64) (offsets_of (first_chunks 8 n bytes))
chunks_fit zero bytes fits len = tt
chunks_fit (suc n) bytes fits len =
    let front : length (take 8 bytes) ≡ 8 = omega (arith, length-take 8 bytes) in
    let rest : length (drop 8 bytes) ≡ 8 * n = omega (arith, length-drop 8 bytes) in
    let here = signed_fits w64 wide64 0 (take 8 bytes) (IsBytes-take 8 bytes fits) in
    (subst (FitsSigned w64) (offset_front (take 8 bytes) front) here, chunks_fit n (drop 8 bytes) (IsBytes-drop 8 bytes fits) rest)

length-chunks : (n : ℕ) (bytes : List ℕ) → length (first_chunks 8 n bytes) ≡ n
length-chunks zero bytes = refl
length-chunks (suc n) bytes = ap suc (length-chunks n (drop 8 bytes))

-- a count, so many offsets behind the base
pub list_back : (bytes : List ℕ) (base : ℤ) (n : ℕ) (parts : List (List ℕ)) → IsBytes bytes → signed_at w32 8 bytes ≡ pos n → n ≤ MAX_COUNT → 12 + 8 * n ≤ length bytes
    → parts ≡ first_chunks 8 n (take (8 * n) (drop 12 bytes)) → base ≡ signed_at w64 0 bytes → IsListAt base (offsets_of parts) bytes
unfolding list_encoding
list_back bytes base n parts fits counted small long chunks base_is =
    let here = take (8 * n) (drop 12 bytes) in
    let here_fits : IsBytes here = IsBytes-take (8 * n) (drop 12 bytes) (IsBytes-drop 12 bytes fits) in
    let here_len : length here ≡ 8 * n = omega (arith, length-take (8 * n) (drop 12 bytes), length-drop 12 bytes) in
    let offsets = offsets_of parts in
    let len : length offsets ≡ n = length-map parts offset_at ∙ ap length chunks ∙ length-chunks n here in
    let read : bytes ≡ fields ((w64, unsigned_at w64 0 bytes) ∷ (w32, unsigned_at w32 8 bytes) ∷ []) ++ drop 12 bytes = fields_back (w64 ∷ w32 ∷ []) 0 bytes (wide64, (wide32, tt)) fits (omega arith) in
    let first = signed_field w64 wide64 0 bytes base fits (sym base_is) in
    let number = signed_field w32 wide32 8 bytes (pos (length offsets)) fits (counted ∙ ap pos (sym len)) in
    let head : bytes ≡ fields (signed w64 base ∷ signed w32 (pos (length offsets)) ∷ []) ++ drop 12 bytes = read ∙ (λ i. fields ((w64, first i) ∷ (w32, number i) ∷ []) ++ drop 12 bytes) in
    let are : flat_map offset_encoding offsets ≡ here = ap (λ (x : List (List ℕ)). flat_map offset_encoding (offsets_of x)) chunks ∙ chunks_back n here here_fits here_len in
    let tail : drop 12 bytes ≡ flat_map offset_encoding offsets ++ drop (8 * n) (drop 12 bytes) = sym (take-append-drop (8 * n) (drop 12 bytes)) ∙ ap (λ (x : List ℕ). x ++ drop (8 * n) (drop 12 bytes)) (sym are) in
    record {
      listable = record {
        base_fits = subst (FitsSigned w64) (sym base_is) (signed_fits w64 wide64 0 bytes fits);
        offsets_fit = subst (λ (x : List (List ℕ)). AllByRecursion (FitsSigned w64) (offsets_of x)) (sym chunks) (chunks_fit n here here_fits here_len);
        counted = omega (arith, len, small);
      };
      rest = drop (8 * n) (drop 12 bytes);
      encoded = head ∙ ap (λ (x : List ℕ). fields (signed w64 base ∷ signed w32 (pos (length offsets)) ∷ []) ++ x) tail
          ∙ sym (append_assoc (fields (signed w64 base ∷ signed w32 (pos (length offsets)) ∷ [])) (flat_map offset_encoding offsets) (drop (8 * n) (drop 12 bytes)));
    }

-- ---- and back

offset_again : (o : ℤ) (rest : List ℕ) → FitsSigned w64 o → (offset_at (take 8 (offset_encoding o ++ rest)) ≡ o) × (drop 8 (offset_encoding o ++ rest) ≡ rest)
unfolding offset_encoding number_in
offset_again o rest fits =
    let fs = signed w64 o ∷ [] in
    let again : fields_at (w64 ∷ []) 0 (fields fs ++ rest) ≡ fs = fields_again fs [] rest 0 (wide64, tt) (fits_field w64 o fits, tt) refl in
    let value : signed_at w64 0 (fields fs ++ rest) ≡ o = signed_again w64 o (unsigned_at w64 0 (fields fs ++ rest)) fits (ap (λ (x : List Field). number_in x 0) again) in
    (value, drop_at (fields fs) rest 8 refl)

pub offsets_again : (os : List ℤ) (rest : List ℕ) → AllByRecursion (FitsSigned w64) os
    → (offsets_of (first_chunks 8 (length os) (flat_map offset_encoding os ++ rest)) ≡ os) × (drop (8 * length os) (flat_map offset_encoding os ++ rest) ≡ rest)
offsets_again [] rest fits = (refl, refl)
offsets_again (o ∷ os) rest fits =
    let others = flat_map offset_encoding os ++ rest in
    let parts : flat_map offset_encoding (o ∷ os) ++ rest ≡ offset_encoding o ++ others = append_assoc (offset_encoding o) (flat_map offset_encoding os) rest in
    let here = offset_again o others fits.0 in
    let ih = offsets_again os rest fits.1 in
    let size : 8 * suc (length os) ≡ 8 + 8 * length os = omega arith in (
      ap (λ (x : List ℕ). offsets_of (first_chunks 8 (suc (length os)) x)) parts
          ∙ (λ i. here.0 i ∷ offsets_of (first_chunks 8 (length os) (here.1 i)))
          ∙ ap (λ (x : List ℤ). o ∷ x) ih.0,
      (λ i. drop (size i) (parts i)) ∙ sym (drop-drop (8 * length os) 8 (offset_encoding o ++ others)) ∙ ap (drop (8 * length os)) here.1 ∙ ih.1,
    )

length-offsets : (os : List ℤ) → length (flat_map offset_encoding os) ≡ 8 * length os
unfolding offset_encoding
length-offsets [] = refl
length-offsets (o ∷ os) =
    let fs = signed w64 o ∷ [] in
    let ih = length-offsets os in
    let here : length (fields fs) ≡ 8 = refl in
    omega (arith, length-append (fields fs) (flat_map offset_encoding os), ih, here)

pub length-list : (base : ℤ) (os : List ℤ) → length (list_encoding base os) ≡ 12 + 8 * length os
unfolding list_encoding
length-list base os =
    let fs = signed w64 base ∷ signed w32 (pos (length os)) ∷ [] in
    let here : length (fields fs) ≡ 12 = refl in
    omega (arith, here, length-append (fields fs) (flat_map offset_encoding os), length-offsets os)

-- each part of a list as it is read
pub record IsReadAs (base : ℤ) (os : List ℤ) (bytes rest : List ℕ) : Type 0 where
  pub base_is : base ≡ signed_at w64 0 bytes
  pub counted : signed_at w32 8 bytes ≡ pos (length os)
  pub long : 12 + 8 * length os ≤ length bytes
  pub offsets_are : os ≡ offsets_of (first_chunks 8 (length os) (drop 12 bytes))
  pub rest_is : rest ≡ drop (8 * length os) (drop 12 bytes)

fits_count : (n : ℕ) → n ≤ MAX_COUNT → FitsSigned w32 (pos n)
fits_count n le = record { sfits = omega arith }

pub list_again : (base : ℤ) (os : List ℤ) (bytes : List ℕ) → (at : IsListAt base os bytes) → IsReadAs base os bytes at.rest
unfolding list_encoding number_in
list_again base os bytes at =
    let fs = signed w64 base ∷ signed w32 (pos (length os)) ∷ [] in
    let middle = flat_map offset_encoding os in
    let small : FitsSigned w32 (pos (length os)) = fits_count (length os) at.listable.counted in
    let parts : bytes ≡ fields fs ++ (middle ++ at.rest) = at.encoded ∙ append_assoc (fields fs) middle at.rest in
    let again : fields_at (w64 ∷ w32 ∷ []) 0 (fields fs ++ (middle ++ at.rest)) ≡ fs =
    fields_again fs [] (middle ++ at.rest) 0 (wide64, (wide32, tt)) (fits_field w64 base at.listable.base_fits, (fits_field w32 (pos (length os)) small, tt)) refl in
    let number = λ (i : ℕ). ap (λ (x : List Field). number_in x i) again in
    let first : signed_at w64 0 bytes ≡ base = ap (signed_at w64 0) parts ∙ signed_again w64 base _ at.listable.base_fits (number 0) in
    let second : signed_at w32 8 bytes ≡ pos (length os) = ap (signed_at w32 8) parts ∙ signed_again w32 (pos (length os)) _ small (number 1) in
    let head : length (fields fs) ≡ 12 = refl in
    let behind : drop 12 bytes ≡ middle ++ at.rest = ap (drop 12) parts ∙ drop_at (fields fs) (middle ++ at.rest) 12 refl in
    let read = offsets_again os at.rest at.listable.offsets_fit in
    record {
      base_is = sym first;
      counted = second;
      long = omega (arith, ap length parts, length-append (fields fs) (middle ++ at.rest), length-append middle at.rest, head, length-offsets os);
      offsets_are = sym (ap (λ (x : List ℕ). offsets_of (first_chunks 8 (length os) x)) behind ∙ read.0);
      rest_is = sym (ap (drop (8 * length os)) behind ∙ read.1);
    }

pos_same : (m n : ℕ) → pos m ≡ pos n → m ≡ n
pos_same m n e = cc

-- one list stands at the front of bytes
pub record AreSameList (base base' : ℤ) (os os' : List ℤ) (rest rest' : List ℕ) : Type 0 where
  pub base_same : base ≡ base'
  pub offsets_same : os ≡ os'
  pub rest_same : rest ≡ rest'

pub list_once : (base base' : ℤ) (os os' : List ℤ) (bytes : List ℕ) → (at : IsListAt base os bytes) → (other : IsListAt base' os' bytes) → AreSameList base base' os os' at.rest other.rest
list_once base base' os os' bytes at other =
    let a : IsReadAs base os bytes at.rest = list_again base os bytes at in
    let b : IsReadAs base' os' bytes other.rest = list_again base' os' bytes other in
    let number : length os ≡ length os' = pos_same (length os) (length os') (sym a.counted ∙ b.counted) in
    record {
      base_same = a.base_is ∙ sym b.base_is;
      offsets_same = a.offsets_are ∙ ap (λ (n : ℕ). offsets_of (first_chunks 8 n (drop 12 bytes))) number ∙ sym b.offsets_are;
      rest_same = a.rest_is ∙ ap (λ (n : ℕ). drop (8 * n) (drop 12 bytes)) number ∙ sym b.rest_is;
    }

-- ---- as code has it

pub short_list : (bytes : List ℕ) → length bytes < 12 → (base : ℤ) (os : List ℤ) → IsListAt base os bytes → ⊥
short_list bytes short base os at = omega (arith, short, (list_again base os bytes at).long)

pub negative_list : (bytes : List ℕ) (field : ℤ) → field ≡ signed_at w32 8 bytes → field <ℤ pos 0 → (base : ℤ) (os : List ℤ) → IsListAt base os bytes → ⊥
negative_list bytes field is less base os at =
    let e : field ≡ pos (length os) = is ∙ (list_again base os bytes at).counted in
    omega (arith, ints, e, less)

pub cut_list : (bytes : List ℕ) (field : ℤ) (n : ℕ) → field ≡ signed_at w32 8 bytes → field ≡ pos n → length bytes < 12 + 8 * n → (base : ℤ) (os : List ℤ) → IsListAt base os bytes → ⊥
cut_list bytes field n is count short base os at =
    let read = list_again base os bytes at in
    let same : n ≡ length os = pos_same n (length os) (sym count ∙ is ∙ read.counted) in
    omega (arith, same, short, read.long)

chunks_are : (bytes : List ℕ) (n : ℕ) (parts : List (List ℕ)) → 12 + 8 * n ≤ length bytes
    → parts ≡ first_chunks 8 (length (take ((12 + 8 * n) - 12) (drop 12 bytes)) / 8) (take ((12 + 8 * n) - 12) (drop 12 bytes))
    → parts ≡ first_chunks 8 n (take (8 * n) (drop 12 bytes))
chunks_are bytes n parts long is =
    let m = (12 + 8 * n) - 12 in
    let size : m ≡ 8 * n = omega arith in
    let len : length (take m (drop 12 bytes)) ≡ 8 * n = omega (arith, length-take m (drop 12 bytes), length-drop 12 bytes) in
    let count : length (take m (drop 12 bytes)) / 8 ≡ n = omega (arith, len) in
    is ∙ (λ i. first_chunks 8 (count i) (take (size i) (drop 12 bytes)))

pub list_found : (bytes : List ℕ) (base field : ℤ) (n : ℕ) (parts : List (List ℕ)) → IsBytes bytes → field ≡ signed_at w32 8 bytes → (field ≡ pos n) × (n ≤ MAX_COUNT) → 12 + 8 * n ≤ length bytes
    → parts ≡ first_chunks 8 (length (take ((12 + 8 * n) - 12) (drop 12 bytes)) / 8) (take ((12 + 8 * n) - 12) (drop 12 bytes)) → base ≡ signed_at w64 0 bytes → FitsSigned w64 base
    → IsListAt (cast_signed w64 (cast_unsigned w64 base)) (offsets_of parts) bytes
list_found bytes base field n parts fits is count long chunks base_is base_fits =
    list_back bytes (cast_signed w64 (cast_unsigned w64 base)) n parts fits (sym is ∙ count.0) count.1 long (chunks_are bytes n parts long chunks) (to_z-of_z w64 base base_fits ∙ base_is)

-- ---- the list that may stand next

pub low_base : (low base : ℤ) (os : List ℤ) (bytes : List ℕ) → IsListAt base os bytes → base <ℤ low → (base' : ℤ) (os' : List ℤ) → IsNextList low base' os' bytes → ⊥
low_base low base os bytes at less base' os' next =
    let same = (list_once base base' os os' bytes at next.list).base_same in
    let from = next.from_low in
    omega (arith, ints, less, same, from)

pub falling : (low base : ℤ) (os : List ℤ) (bytes : List ℕ) → IsListAt base os bytes → (OffsetsRise base os → ⊥) → (base' : ℤ) (os' : List ℤ) → IsNextList low base' os' bytes → ⊥
falling low base os bytes at falls base' os' next =
    let once = list_once base base' os os' bytes at next.list in
    falls (subst (λ (x : ℤ). OffsetsRise x os) (sym once.base_same) (subst (OffsetsRise base') (sym once.offsets_same) next.rise))
