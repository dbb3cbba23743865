-- Entries written one after the other.
use Rattle.std.proofs.Common.{◌≡◌, ℕ, ◌+◌, ◌≤◌, ℤ, pos, ◌+ℤ◌, List, [], ◌∷◌, ◌++◌, length, map, refl, sym, ap, subst, ◌∙◌, append_assoc, append-nil, arith}
use Rattle.std.specs.Prelude.{FitsSigned, ◌≤ℤ◌, Result, Ok, Err, OnOk, is_ok, min, if◌then◌else◌}
use Rattle.std.specs.List.{AllByRecursion, flat_map}
use Rattle.std.specs.Int.{w32, w64, cast_signed, cast_unsigned}
use Rattle.std.proofs.lemmas.Int.{ints, to_z-of_z}
use Rattle.std.proofs.lemmas.List.{length-map}
use Rattle.batch_codec.specs.Values.{RecordValue, BatchValue}
use Rattle.batch_codec.specs.Grammar.{fields, signed}
use Rattle.batch_codec.specs.Offsets.{first_offset, last_offset, offset_of}
use Rattle.cover_ranges.specs.Runs.{Runs, IsCanonical, CoversAll}
use Rattle.content.specs.Records.{IsKeepable}
use Rattle.content.specs.Content.{Content, IsContent, IsInRange}
use Rattle.content_laws.proofs.ByOffset.{all_from_at}
use Rattle.content_laws.proofs.Slots.{bases_rise}
use Rattle.deltas.proofs.Validity.{covered_within}
use Rattle.copy_images.specs.declared.layout.TheConstants.{MAX_COUNT}
use Rattle.copy_images.proofs.Written.{count_passed}
use Rattle.deltas.specs.Entries.Entry.{Listed}
use Rattle.deltas.specs.Deltas.{offsets_of, entry_for}
use Rattle.delta_bytes.specs.declared.layout.TheConstants.{LISTED}
use Rattle.delta_bytes.specs.EntryBytes.{offset_encoding, list_encoding, entry_bytes}

abbrev pub most : ℕ
most = 18446744073709551615

abbrev pub offset_bytes : BatchValue → List RecordValue → List ℕ
offset_bytes b rs = flat_map offset_encoding (map (offset_of b) rs)

-- ---- offsets

-- one offset, as code writes it
pub offset_put : {T E : Type 0} (r : Result T E) (old new bytes : List ℕ) (b : BatchValue) (rec : RecordValue) (base delta sum : ℤ) → FitsSigned w64 base → FitsSigned w64 delta → FitsSigned w64 sum
    → base ≡ first_offset b → delta ≡ rec.delta → sum ≡ (cast_signed w64 (cast_unsigned w64 base) +ℤ cast_signed w64 (cast_unsigned w64 delta))
    → bytes ≡ fields (signed w64 (cast_signed w64 (cast_unsigned w64 sum)) ∷ []) → new ≡ (if is_ok r then old ++ bytes else old) → OnOk r (new ≡ old ++ offset_encoding (offset_of b rec))
unfolding offset_encoding
offset_put (Err e) old new bytes b rec base delta sum f g h is more adds one n = tt
offset_put (Ok x) old new bytes b rec base delta sum f g h is more adds one n =
    let total : cast_signed w64 (cast_unsigned w64 sum) ≡ offset_of b rec = to_z-of_z w64 sum h ∙ adds ∙ (λ i. to_z-of_z w64 base f i +ℤ to_z-of_z w64 delta g i) ∙ (λ i. is i +ℤ more i) in
    n ∙ ap (λ (y : List ℕ). old ++ y) (one ∙ ap (λ (z : ℤ). fields (signed w64 z ∷ [])) total)

-- one more offset, and those of the records that are left
pub offsets_more : (b : BatchValue) (out new : List ℕ) (left next : List RecordValue) (rec : RecordValue) → left ≡ rec ∷ next → new ≡ out ++ offset_encoding (offset_of b rec)
    → new ++ offset_bytes b next ≡ out ++ offset_bytes b left
offsets_more b out new left next rec taken e =
    let here = offset_encoding (offset_of b rec) in
    let rest = offset_bytes b next in
    ap (λ (y : List ℕ). y ++ rest) e ∙ append_assoc out here rest ∙ ap (λ (rs : List RecordValue). out ++ offset_bytes b rs) (sym taken)

pub offsets_all : (b : BatchValue) (out : List ℕ) (left : List RecordValue) → left ≡ [] → out ≡ out ++ offset_bytes b left
offsets_all b out left none = sym (append-nil out) ∙ ap (λ (rs : List RecordValue). out ++ offset_bytes b rs) (sym none)

-- ---- the count of records

pub one_counted : (count new : ℕ) (left next all : List RecordValue) (rec : RecordValue) → left ≡ rec ∷ next → new ≡ min (count + 1) most
    → min (count + length left) most ≡ min (length all) most → min (new + length next) most ≡ min (length all) most
one_counted count new left next all rec taken is before =
    let len : length left ≡ length next + 1 = ap length taken ∙ omega arith in
    omega (arith, len, is, before)

pub all_counted : (count : ℕ) (left all : List RecordValue) → left ≡ [] → count ≤ most → min (count + length left) most ≡ min (length all) most → count ≡ min (length all) most
all_counted count left all none few before = let len : length left ≡ 0 = ap length none in omega (arith, len, few, before)

-- ---- one entry

pub list_put : {T E : Type 0} (r : Result T E) (old a b d new first second : List ℕ) (x : BatchValue) (base : ℤ) (n : ℕ) (field : ℤ) → FitsSigned w64 base → base ≡ first_offset x
    → n ≡ min (length x.recs) most → field ≡ pos n → n ≤ MAX_COUNT
    → a ≡ old ++ LISTED ∷ [] → first ≡ fields (signed w64 (cast_signed w64 (cast_unsigned w64 base)) ∷ []) → b ≡ a ++ first
    → second ≡ fields (signed w32 (cast_signed w32 (cast_unsigned w32 field)) ∷ []) → d ≡ b ++ second
    → OnOk r (new ≡ d ++ offset_bytes x x.recs) → OnOk r (new ≡ old ++ entry_bytes (Listed (first_offset x) (offsets_of x)))
unfolding list_encoding
list_put (Err t) old a b d new first second x base n field f is counted says few p one q two s e = tt
list_put (Ok t) old a b d new first second x base n field f is counted says few p one q two s e =
    let body : List ℕ = offset_bytes x x.recs in
    let len : length (offsets_of x) ≡ length x.recs = length-map x.recs (offset_of x) in
    let same : n ≡ length (offsets_of x) = omega (arith, len, counted, few) in
    let based : first ≡ fields (signed w64 (first_offset x) ∷ []) = one ∙ ap (λ (z : ℤ). fields (signed w64 z ∷ [])) (to_z-of_z w64 base f ∙ is) in
    let number : second ≡ fields (signed w32 (pos (length (offsets_of x))) ∷ []) = two ∙ ap (λ (z : ℤ). fields (signed w32 z ∷ [])) (count_passed field n (length (offsets_of x)) says few same) in
    e ∙ ap (λ (y : List ℕ). y ++ body) (s ∙ ap (λ (y : List ℕ). y ++ second) (q ∙ ap (λ (y : List ℕ). y ++ first) p))
    ∙ append_assoc ((old ++ LISTED ∷ []) ++ first) second body ∙ append_assoc (old ++ LISTED ∷ []) first (second ++ body) ∙ append_assoc old (LISTED ∷ []) (first ++ (second ++ body))
    ∙ (λ i. old ++ (LISTED ∷ (based i ++ (number i ++ body))))

-- ---- all entries

-- what a delta says of a batch
abbrev pub said_bytes : Runs → BatchValue → List ℕ
said_bytes asked b = entry_bytes (entry_for asked b)

pub said_all : (asked : Runs) (bs : List BatchValue) → flat_map (said_bytes asked) bs ≡ flat_map entry_bytes (map (entry_for asked) bs)
said_all asked [] = refl
said_all asked (b ∷ bs) = ap (λ (y : List ℕ). said_bytes asked b ++ y) (said_all asked bs)

-- ---- the batches of a copy

-- where a kept batch lies
pub record IsPlaced (b : BatchValue) : Type 0 where
  pub in_range : IsInRange b
  pub some : first_offset b ≤ℤ last_offset b

placed_each : (runs : Runs) (bs : List BatchValue) → IsCanonical runs → AllByRecursion IsKeepable bs → AllByRecursion (λ b. CoversAll runs (first_offset b) (last_offset b)) bs → AllByRecursion IsPlaced bs
placed_each runs [] canonical keepable seen = tt
placed_each runs (b ∷ bs) canonical keepable seen =
    let delta : pos 0 ≤ℤ b.head.last_delta = keepable.0.0.valid.last_delta in
    let span : first_offset b ≤ℤ last_offset b = omega (arith, ints, delta) in
    let low = (covered_within runs (first_offset b) canonical (seen.0 (first_offset b) (omega (arith, ints)) span)).0 in
    let high = (covered_within runs (last_offset b) canonical (seen.0 (last_offset b) span (omega (arith, ints)))).1 in
    (record { in_range = (low, high); some = span }, placed_each runs bs canonical keepable.1 seen.1)

pub placed_all : (c : Content) (bs : List BatchValue) → IsContent c → bs ≡ c.kept → AllByRecursion IsPlaced bs
placed_all c bs is all =
    subst (AllByRecursion IsPlaced) (sym all) (placed_each c.cover c.kept is.canonical is.keepable
    (all_from_at first_offset (λ b. CoversAll c.cover (first_offset b) (last_offset b)) c.start c.kept (bases_rise c is) (λ y e o from to. is.inside (first_offset y) o y e from to)))

pub placed_next : (left rest : List BatchValue) (b : BatchValue) → left ≡ b ∷ rest → AllByRecursion IsPlaced left → IsPlaced b × AllByRecursion IsPlaced rest
placed_next left rest b next all = subst (AllByRecursion IsPlaced) next all
