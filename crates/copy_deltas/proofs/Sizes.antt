-- How many bytes a delta has, counted up to the greatest number that there is.
use Rattle.std.proofs.Common.{◌≡◌, ℕ, ◌+◌, ◌*◌, ◌≤◌, ℤ, pos, Bool, true, false, List, [], ◌∷◌, ◌++◌, length, map, refl, sym, ap, ◌∙◌, arith}
use Rattle.std.specs.Prelude.{min, if◌then◌else◌}
use Rattle.std.specs.List.{flat_map}
use Rattle.std.specs.Int.{w16, w32, w64}
use Rattle.std.proofs.lemmas.List.{length-append, length-map}
use Rattle.checksum.specs.Crc.{crc_of}
use Rattle.batch_codec.specs.Values.{BatchValue}
use Rattle.batch_codec.specs.Grammar.{fields, signed, batch_encoding}
use Rattle.batch_codec.specs.Offsets.{first_offset}
use Rattle.cover_ranges.specs.Runs.{Runs}
use Rattle.content.specs.Content.{Content}
use Rattle.copy_images.specs.Images.{range_encoding, with_crc}
use Rattle.copy_images.proofs.PartsAgain.{length-ranges}
use Rattle.deltas.specs.Entries.Entry.{Listed, Sent}
use Rattle.deltas.specs.Deltas.{offsets_of, is_asked, entry_for, delta_of}
use Rattle.delta_bytes.specs.EntryBytes.{offset_encoding, list_encoding, entry_bytes}
use Rattle.delta_bytes.specs.RangeLists.{ranges_encoding}
use Rattle.copy_images.specs.declared.layout.TheConstants.{VERSION}
use Rattle.delta_bytes.specs.declared.layout.TheConstants.{MARK}
use Rattle.delta_bytes.specs.Deltas.{front_of, entries_encoding, delta_encoding}
use Rattle.copy_deltas.proofs.Entries.{most, said_bytes, said_all}

-- ---- an entry

offsets_length : (os : List ℤ) → length (flat_map offset_encoding os) ≡ 8 * length os
unfolding offset_encoding
offsets_length [] = refl
offsets_length (o ∷ os) =
    let here : length (fields (signed w64 o ∷ [])) ≡ 8 = refl in
    omega (arith, length-append (fields (signed w64 o ∷ [])) (flat_map offset_encoding os), here, offsets_length os)

list_length : (base : ℤ) (os : List ℤ) → length (entry_bytes (Listed base os)) ≡ 13 + 8 * length os
unfolding list_encoding
list_length base os =
    let front = fields (signed w64 base ∷ signed w32 (pos (length os)) ∷ []) in
    let here : length front ≡ 12 = refl in
    omega (arith, length-append front (flat_map offset_encoding os), here, offsets_length os)

pub listed_size : (asked : Runs) (b : BatchValue) (says : Bool) (count size : ℕ) → says ≡ is_asked asked b → says ≡ true → count ≡ min (length b.recs) most → size ≡ min (13 + 8 * count) most
    → size ≡ min (length (entry_bytes (entry_for asked b))) most
listed_size asked b says count size is holds counts sized = by (is_asked asked b) (sym is ∙ holds)
  where
    by : (t : Bool) → t ≡ true → size ≡ min (length (entry_bytes (if t then Listed (first_offset b) (offsets_of b) else Sent b))) most
    by true e = let len : length (offsets_of b) ≡ length b.recs = length-map b.recs _ in omega (arith, list_length (first_offset b) (offsets_of b), len, counts, sized)
    by false e = absurd cc

pub sent_size : (asked : Runs) (b : BatchValue) (says : Bool) (bytes : List ℕ) (size : ℕ) → says ≡ is_asked asked b → says ≡ false → bytes ≡ batch_encoding b → size ≡ min (1 + length bytes) most
    → size ≡ min (length (entry_bytes (entry_for asked b))) most
sent_size asked b says bytes size is fails same sized = by (is_asked asked b) (sym is ∙ fails)
  where
    by : (t : Bool) → t ≡ false → size ≡ min (length (entry_bytes (if t then Listed (first_offset b) (offsets_of b) else Sent b))) most
    by true e = absurd cc
    by false e = omega (arith, ap length same, sized)

-- ---- all entries

abbrev pub said_length : Runs → List BatchValue → ℕ
said_length asked bs = length (flat_map (said_bytes asked) bs)

abbrev pub parts_length : Content → Runs → ℕ
parts_length c asked = 30 + 16 * length c.cover + 16 * length asked

-- the size so far, and that of the entries for the batches that are left
abbrev pub Counts : Content → Runs → ℕ → List BatchValue → Type 0
Counts c asked size left = (size ≤ most) × (min (size + said_length asked left) most ≡ min (parts_length c asked + said_length asked c.kept) most)

pub size_begins : (c : Content) (asked : Runs) (size : ℕ) (left : List BatchValue) → size ≡ min (parts_length c asked) most → left ≡ c.kept → Counts c asked size left
size_begins c asked size left is all =
    let same : said_length asked left ≡ said_length asked c.kept = ap (said_length asked) all in
    (omega (arith, is), omega (arith, is, same))

pub size_more : (c : Content) (asked : Runs) (size new more : ℕ) (left rest : List BatchValue) (b : BatchValue) → left ≡ b ∷ rest → more ≡ min (length (said_bytes asked b)) most → new ≡ min (size + more) most
    → Counts c asked size left → Counts c asked new rest
size_more c asked size new more left rest b next counts is before =
    let one : said_length asked left ≡ length (said_bytes asked b) + said_length asked rest =
    ap (said_length asked) next ∙ length-append (said_bytes asked b) (flat_map (said_bytes asked) rest) in
    (omega (arith, is), omega (arith, counts, is, one, before.0, before.1))

-- ---- the whole

ranges_length : (runs : Runs) → length (ranges_encoding runs) ≡ 4 + 16 * length runs
unfolding ranges_encoding
ranges_length runs =
    let number = fields (signed w32 (pos (length runs)) ∷ []) in
    let here : length number ≡ 4 = refl in
    omega (arith, length-append number (flat_map range_encoding runs), here, length-ranges runs)

entries_length : (asked : Runs) (bs : List BatchValue) → length (entries_encoding (map (entry_for asked) bs)) ≡ 4 + said_length asked bs
entries_length asked bs =
    let number = fields (signed w32 (pos (length (map (entry_for asked) bs))) ∷ []) in
    let here : length number ≡ 4 = refl in
    omega (arith, length-append number (flat_map entry_bytes (map (entry_for asked) bs)), here, ap length (said_all asked bs))

delta_length : (c : Content) (asked : Runs) → length (delta_encoding (delta_of c asked)) ≡ parts_length c asked + said_length asked c.kept
unfolding front_of with_crc
delta_length c asked =
    let head = fields ((w32, MARK) ∷ signed w16 VERSION ∷ signed w64 c.start ∷ []) in
    let head_len : length head ≡ 14 = refl in
    let entries = entries_encoding (map (entry_for asked) c.kept) in
    let others = ranges_encoding asked ++ entries in
    let body = head ++ (ranges_encoding c.cover ++ others) in
    let crc = fields ((w32, crc_of body) ∷ []) in
    let crc_len : length crc ≡ 4 = refl in
    omega (arith, length-append body crc, length-append head (ranges_encoding c.cover ++ others), length-append (ranges_encoding c.cover) others, length-append (ranges_encoding asked) entries, head_len, crc_len, ranges_length c.cover, ranges_length asked, entries_length asked c.kept)

pub size_whole : (c : Content) (asked : Runs) (size : ℕ) (left : List BatchValue) → left ≡ [] → Counts c asked size left → size ≡ min (length (delta_encoding (delta_of c asked))) most
size_whole c asked size left none counts =
    let same : said_length asked left ≡ 0 = ap (said_length asked) none in
    omega (arith, same, counts.0, counts.1, delta_length c asked)
