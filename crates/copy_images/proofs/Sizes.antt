-- How many bytes an image has, counted up to the greatest number that there is.
use Rattle.std.proofs.Common.{◌≡◌, ℕ, ◌+◌, ◌*◌, ◌-◌, ◌<◌, ◌≤◌, pos, List, [], ◌∷◌, ◌++◌, length, take, drop, refl, sym, ap, ◌∙◌, arith, take-append-drop}
use Rattle.std.specs.Prelude.{min}
use Rattle.std.specs.List.{flat_map}
use Rattle.std.specs.Int.{w16, w32, w64}
use Rattle.std.proofs.lemmas.List.{length-append, drop-drop}
use Rattle.std.proofs.lemmas.List.Concat.{flat_map-append}
use Rattle.std.proofs.Math.ListN.{drop_of_length-le}
use Rattle.checksum.specs.Crc.{crc_of}
use Rattle.batch_codec.specs.Values.{BatchValue}
use Rattle.batch_codec.specs.Grammar.{fields, signed, batch_encoding}
use Rattle.content.specs.Content.{Content}
use Rattle.copy_images.specs.declared.layout.TheConstants.{MARK, VERSION}
use Rattle.copy_images.specs.Images.{head_of, range_encoding, front_of, with_crc, image_of}
use Rattle.copy_images.proofs.PartsAgain.{length-ranges}

abbrev most : ℕ
most = 18446744073709551615

abbrev pub batch_bytes : List BatchValue → ℕ
batch_bytes bs = length (flat_map batch_encoding bs)

image_length : (c : Content) → length (image_of c) ≡ 26 + 16 * length c.cover + batch_bytes c.kept
unfolding head_of front_of with_crc
image_length c =
    let head = fields ((w32, MARK) ∷ signed w16 VERSION ∷ signed w64 c.start ∷ []) in
    let number = fields (signed w32 (pos (length c.cover)) ∷ []) in
    let last = fields (signed w32 (pos (length c.kept)) ∷ []) in
    let ranges = flat_map range_encoding c.cover in
    let batches = flat_map batch_encoding c.kept in
    let head_len : length head ≡ 14 = refl in
    let number_len : length number ≡ 4 = refl in
    let last_len : length last ≡ 4 = refl in
    let front = number ++ (ranges ++ last) in
    let body = head ++ (front ++ batches) in
    let crc = fields ((w32, crc_of body) ∷ []) in
    let crc_len : length crc ≡ 4 = refl in
    omega (arith, length-append body crc, length-append head (front ++ batches), length-append front batches, length-append number (ranges ++ last), length-append ranges last, head_len, number_len, last_len, crc_len, length-ranges c.cover)

-- the size so far, and that of the batches from an index on
abbrev pub Counts : ℕ → ℕ → List BatchValue → ℕ → Type 0
Counts size i bs total = (size ≤ most) × (min (size + batch_bytes (drop i bs)) most ≡ min total most)

pub size_begins : (c : Content) (size ranges : ℕ) → ranges ≡ length c.cover → size ≡ min (26 + 16 * ranges) most
    → Counts size 0 c.kept (26 + 16 * length c.cover + batch_bytes c.kept)
size_begins c size ranges same is = (omega (arith, is), omega (arith, same, is))

-- the bytes of a piece, and of what stands behind it
piece_and_rest : (bs : List BatchValue) (i j : ℕ) → i ≤ j → batch_bytes (drop i bs) ≡ batch_bytes (take (j - i) (drop i bs)) + batch_bytes (drop j bs)
piece_and_rest bs i j low =
    let piece = take (j - i) (drop i bs) in
    let at : i + (j - i) ≡ j = omega (arith, low) in
    let rest : drop (j - i) (drop i bs) ≡ drop j bs = drop-drop (j - i) i bs ∙ ap (λ (n : ℕ). drop n bs) at in
    let both : drop i bs ≡ piece ++ drop j bs = sym (take-append-drop (j - i) (drop i bs)) ∙ ap (λ (xs : List BatchValue). piece ++ xs) rest in
    ap batch_bytes both ∙ ap length (flat_map-append batch_encoding piece (drop j bs)) ∙ length-append (flat_map batch_encoding piece) (flat_map batch_encoding (drop j bs))

pub size_more : (size new total : ℕ) (bs : List BatchValue) (i j : ℕ) (bytes : List ℕ) → i < j → bytes ≡ flat_map batch_encoding (take (j - i) (drop i bs)) → new ≡ min (size + length bytes) most
    → Counts size i bs total → Counts new j bs total
size_more size new total bs i j bytes low same is before =
    let both = piece_and_rest bs i j (omega (arith, low)) in
    let len : length bytes ≡ batch_bytes (take (j - i) (drop i bs)) = ap length same in
    (omega (arith, is), omega (arith, is, both, len, before.0, before.1))

pub size_whole : (c : Content) (size i : ℕ) → length c.kept ≤ i → Counts size i c.kept (26 + 16 * length c.cover + batch_bytes c.kept) → size ≡ min (length (image_of c)) most
size_whole c size i all counts =
    let bytes : batch_bytes (drop i c.kept) ≡ 0 = ap batch_bytes (drop_of_length-le c.kept all) in
    omega (arith, bytes, counts.0, counts.1, image_length c)
