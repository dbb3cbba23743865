-- A delta written part by part.
use Rattle.std.proofs.Common.{◌≡◌, ℕ, ◌≤◌, ℤ, pos, List, [], ◌∷◌, ◌++◌, length, map, sym, ap, ◌∙◌, append_assoc}
use Rattle.std.specs.Prelude.{FitsSigned, Result, Ok, Err, OnOk, is_ok, if◌then◌else◌}
use Rattle.std.specs.List.{flat_map}
use Rattle.std.specs.Int.{w16, w32, w64, cast_signed, cast_unsigned}
use Rattle.std.proofs.lemmas.Int.{to_z-of_z}
use Rattle.std.proofs.lemmas.List.{length-map}
use Rattle.batch_codec.specs.Values.{BatchValue}
use Rattle.batch_codec.specs.Grammar.{fields, signed}
use Rattle.cover_ranges.specs.Runs.{Runs}
use Rattle.content.specs.Content.{Content}
use Rattle.copy_images.specs.declared.layout.TheConstants.{MAX_COUNT}
use Rattle.copy_images.specs.Images.{range_encoding, with_crc}
use Rattle.copy_images.proofs.Written.{count_passed}
use Rattle.deltas.specs.Deltas.{entry_for, delta_of}
use Rattle.delta_bytes.specs.EntryBytes.{entry_bytes}
use Rattle.delta_bytes.specs.RangeLists.{count_encoding, ranges_encoding}
use Rattle.copy_images.specs.declared.layout.TheConstants.{VERSION}
use Rattle.delta_bytes.specs.declared.layout.TheConstants.{MARK}
use Rattle.delta_bytes.specs.Deltas.{front_of, entries_encoding, delta_encoding}

-- the head, as code writes it
pub head_put : {T E : Type 0} (r : Result T E) (old a b new mark version number : List ℕ) (start : ℤ) → FitsSigned w64 start
    → mark ≡ fields ((w32, MARK) ∷ []) → version ≡ fields (signed w16 VERSION ∷ []) → number ≡ fields (signed w64 (cast_signed w64 (cast_unsigned w64 start)) ∷ [])
    → a ≡ old ++ mark → b ≡ a ++ version → new ≡ (if is_ok r then b ++ number else b) → OnOk r (new ≡ old ++ front_of start)
unfolding front_of
head_put (Err e) old a b new mark version number start f one two three p q n = tt
head_put (Ok x) old a b new mark version number start f one two three p q n =
    let same = to_z-of_z w64 start f in
    n ∙ ap (λ (y : List ℕ). y ++ number) (q ∙ ap (λ (y : List ℕ). y ++ version) p) ∙ append_assoc (old ++ mark) version number ∙ append_assoc old mark (version ++ number)
    ∙ (λ i. old ++ (one i ++ (two i ++ (three ∙ ap (λ (z : ℤ). fields (signed w64 z ∷ [])) same) i)))

-- a count and what it counts, as code writes them
counted_put : {T E : Type 0} (r : Result T E) (old mid new first body : List ℕ) (n m : ℕ) (field : ℤ) → field ≡ pos n → n ≤ MAX_COUNT → n ≡ m
    → first ≡ fields (signed w32 (cast_signed w32 (cast_unsigned w32 field)) ∷ []) → mid ≡ old ++ first → OnOk r (new ≡ mid ++ body) → OnOk r (new ≡ old ++ (count_encoding (pos m) ++ body))
counted_put (Err e) old mid new first body n m field is few same one p q = tt
counted_put (Ok x) old mid new first body n m field is few same one p q =
    let counted : first ≡ count_encoding (pos m) = one ∙ ap count_encoding (count_passed field n m is few same) in
    q ∙ ap (λ (y : List ℕ). y ++ body) p ∙ append_assoc old first body ∙ (λ i. old ++ (counted i ++ body))

pub ranges_put : {T E : Type 0} (r : Result T E) (old mid new first : List ℕ) (ranges : Runs) (n : ℕ) (field : ℤ) → field ≡ pos n → n ≤ MAX_COUNT → n ≡ length ranges
    → first ≡ fields (signed w32 (cast_signed w32 (cast_unsigned w32 field)) ∷ []) → mid ≡ old ++ first → OnOk r (new ≡ mid ++ flat_map range_encoding ranges) → OnOk r (new ≡ old ++ ranges_encoding ranges)
unfolding ranges_encoding
ranges_put r old mid new first ranges n field is few same one p q = counted_put r old mid new first (flat_map range_encoding ranges) n (length ranges) field is few same one p q

pub entries_put : {T E : Type 0} (r : Result T E) (old mid new first : List ℕ) (asked : Runs) (bs : List BatchValue) (n : ℕ) (field : ℤ) → field ≡ pos n → n ≤ MAX_COUNT → n ≡ length bs
    → first ≡ fields (signed w32 (cast_signed w32 (cast_unsigned w32 field)) ∷ []) → mid ≡ old ++ first → OnOk r (new ≡ mid ++ flat_map entry_bytes (map (entry_for asked) bs)) → OnOk r (new ≡ old ++ entries_encoding (map (entry_for asked) bs))
entries_put r old mid new first asked bs n field is few same one p q =
    counted_put r old mid new first (flat_map entry_bytes (map (entry_for asked) bs)) n (length (map (entry_for asked) bs)) field is few (same ∙ sym (length-map bs (entry_for asked))) one p q

-- the whole, as code writes it
pub delta_put : {T E : Type 0} (r : Result T E) (old a b d f new : List ℕ) (c : Content) (asked : Runs) (start : ℤ) (ranges others : Runs) → FitsSigned w64 start → old ≡ [] → start ≡ c.start → ranges ≡ c.cover → others ≡ asked
    → a ≡ old ++ front_of (cast_signed w64 (cast_unsigned w64 start)) → b ≡ a ++ ranges_encoding ranges → d ≡ b ++ ranges_encoding others → f ≡ d ++ entries_encoding (map (entry_for asked) c.kept)
    → OnOk r (new ≡ with_crc f) → OnOk r (new ≡ delta_encoding (delta_of c asked))
delta_put (Err e) old a b d f new c asked start ranges others fits none starts runs same p q s t n = tt
delta_put (Ok x) old a b d f new c asked start ranges others fits none starts runs same p q s t n =
    let entries : List ℕ = entries_encoding (map (entry_for asked) c.kept) in
    let started : cast_signed w64 (cast_unsigned w64 start) ≡ c.start = to_z-of_z w64 start fits ∙ starts in
    let head : a ≡ front_of c.start = p ∙ (λ i. none i ++ front_of (started i)) in
    let seen : b ≡ front_of c.start ++ ranges_encoding c.cover = q ∙ (λ i. head i ++ ranges_encoding (runs i)) in
    let both : d ≡ (front_of c.start ++ ranges_encoding c.cover) ++ ranges_encoding asked = s ∙ (λ i. seen i ++ ranges_encoding (same i)) in
    n ∙ ap with_crc (t ∙ ap (λ (y : List ℕ). y ++ entries) both ∙ append_assoc (front_of c.start ++ ranges_encoding c.cover) (ranges_encoding asked) entries
    ∙ append_assoc (front_of c.start) (ranges_encoding c.cover) (ranges_encoding asked ++ entries))
