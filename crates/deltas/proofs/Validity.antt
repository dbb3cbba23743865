-- The delta of a content is valid: its lists and its batches rise as the kept batches do, and tell of
-- offsets that the content has seen.
use Rattle.std.proofs.Common.{◌≡◌, ◌^◌, ◌≤◌, ◌<◌, ℤ, pos, negsuc, ◌+ℤ◌, Bool, true, false, ◌&&◌, ◌||◌, List, [], ◌∷◌, map, length, refl, arith}
use Rattle.std.specs.Prelude.{◌≤ℤ◌, ◌<ℤ◌, int_le, FitsSigned, if◌then◌else◌}
use Rattle.std.specs.List.{AllByRecursion}
use Rattle.std.specs.Int.{w64}
use Rattle.std.proofs.lemmas.Int.{ints}
use Rattle.std.proofs.lemmas.List.{length-map}
use Rattle.batch_codec.specs.declared.layout.TheConstants.{MAX_BATCH_BYTES}
use Rattle.batch_codec.specs.Values.{BatchValue}
use Rattle.batch_codec.specs.Offsets.{first_offset, last_offset, offset_of, SpansRise}
use Rattle.batch_codec.specs.Grammar.{batch_encoding}
use Rattle.batch_codec.proofs.Encoded.{sizes, records_len}
use Rattle.cover_ranges.specs.Runs.{Runs, covers, is_within, IsCanonical, CoversAll}
use Rattle.cover_ranges.proofs.RunsFrom.{RunsFrom, canonical_from}
use Rattle.content.specs.Records.{IsKeepable}
use Rattle.content.specs.Content.{Content, IsContent}
use Rattle.content_laws.proofs.ByOffset.{rises-lower, all_from_at}
use Rattle.content_laws.proofs.Slots.{bases_rise}
use Rattle.content_laws.proofs.Windows.{each_weaker}
use Rattle.deltas.specs.declared.TheConstants.{MAX_LISTED}
use Rattle.deltas.specs.Entries.{OffsetsRise, AreCovered, IsList, last_listed, AreEntries}
use Rattle.deltas.specs.Entries.Entry.{Listed, Sent}
use Rattle.deltas.specs.declared.TheConstants.{LEAST_BASE}
use Rattle.deltas.specs.Deltas.{IsDelta, offsets_of, covers_any, is_asked, entry_for, delta_of}
use Rattle.deltas.proofs.Entries.{Batches, entries_lower}
use Rattle.deltas.proofs.Offsets.{offsets_rise, offsets_end}

-- ---- what is covered lies among the offsets

run_within : (o first last low : ℤ) → low ≤ℤ first → last <ℤ pos (2 ^ 62) → (int_le first o && int_le o last) ≡ true → (low ≤ℤ o) × (o <ℤ pos (2 ^ 62))
run_within o first last low least most e =
    let from : first ≤ℤ o = grind (arith, ints, e) in
    let to : o ≤ℤ last = grind (arith, ints, e) in
    (omega (arith, ints, from, least), omega (arith, ints, to, most))

covers_within : (low o : ℤ) (runs : Runs) → RunsFrom low runs → covers runs o ≡ true → (low ≤ℤ o) × (o <ℤ pos (2 ^ 62))
covers_within low o [] are e = absurd cc
covers_within low o (r ∷ rs) are e = by (is_within o r) refl e (covers_within (r.1 +ℤ pos 2) o rs are.3)
  where
    by : (t : Bool) → is_within o r ≡ t → (t || covers rs o) ≡ true → (covers rs o ≡ true → ((r.1 +ℤ pos 2) ≤ℤ o) × (o <ℤ pos (2 ^ 62))) → (low ≤ℤ o) × (o <ℤ pos (2 ^ 62))
    by true t f ih = run_within o r.0 r.1 low are.0 are.2 t
    by false t f ih =
        let rest = ih f in
        let past : (r.1 +ℤ pos 2) ≤ℤ o = rest.0 in
        let first : low ≤ℤ r.0 = are.0 in
        let run : r.0 ≤ℤ r.1 = are.1 in
        (omega (arith, ints, past, first, run), rest.1)

pub covered_within : (runs : Runs) (o : ℤ) → IsCanonical runs → covers runs o ≡ true → (pos 0 ≤ℤ o) × (o <ℤ pos (2 ^ 62))
covered_within runs o canonical e = covers_within (pos 0) o runs (canonical_from runs canonical) e

small_fits : (o : ℤ) → pos 0 ≤ℤ o → o <ℤ pos (2 ^ 62) → FitsSigned w64 o
small_fits (pos n) least most = let small : n < 2 ^ 62 = omega (arith, ints, most) in record { sfits = omega (arith, small) }
small_fits (negsuc n) least most = absurd (omega (arith, ints, least))

-- ---- a list of a batch's offsets

covered_each : (runs : Runs) (low high : ℤ) (offsets : List ℤ) → OffsetsRise low offsets → AllByRecursion (λ o. o ≤ℤ high) offsets → CoversAll runs low high → AreCovered runs offsets
covered_each runs low high [] rise ends all = tt
covered_each runs low high (o ∷ offsets) rise ends all =
    let least : low ≤ℤ o = rise.0 in
    (all o least ends.0, covered_each runs low high offsets (rises-lower (λ (k : ℤ). k) low (o +ℤ pos 1) offsets rise.1 (omega (arith, ints, least))) ends.1 all)

listed_most : (base high : ℤ) (offsets : List ℤ) → base ≤ℤ high → AllByRecursion (λ o. o ≤ℤ high) offsets → last_listed base offsets ≤ℤ high
listed_most base high [] least ends = least
listed_most base high (o ∷ offsets) least ends = listed_most o high offsets ends.0 ends.1

-- a record takes a byte at least
few_records : (b : BatchValue) → IsKeepable b → length (offsets_of b) ≤ MAX_LISTED
few_records b keepable =
    let size = sizes b in
    let most : length (batch_encoding b) ≤ MAX_BATCH_BYTES = keepable.0.size in
    let same : length (offsets_of b) ≡ length b.recs = length-map b.recs (offset_of b) in
    omega (arith, size.whole, size.checked, most, same, records_len b.recs)

abbrev IsSeen : Runs → BatchValue → Type 0
IsSeen runs b = CoversAll runs (first_offset b) (last_offset b)

offsets_covered : (runs : Runs) (b : BatchValue) → IsKeepable b → IsSeen runs b → AreCovered runs (offsets_of b)
offsets_covered runs b keepable all = covered_each runs (first_offset b) (last_offset b) (offsets_of b) (offsets_rise b keepable) (offsets_end b keepable) all

is_list : (runs : Runs) (b : BatchValue) → IsCanonical runs → IsKeepable b → IsSeen runs b → IsList (first_offset b) (offsets_of b)
is_list runs b canonical keepable all = record {
  rise = offsets_rise b keepable;
  base_fits = keepable.0.valid.fits.base;
  offsets_fit = each_weaker (λ (o : ℤ). covers runs o ≡ true) (FitsSigned w64) (offsets_of b) (λ o e. let range = covered_within runs o canonical e in small_fits o range.0 range.1) (offsets_covered runs b keepable all);
  counted = few_records b keepable;
}

-- ---- a batch that isn't asked

not_met : (runs : Runs) (first last o : ℤ) → covers_any runs first last ≡ false → first ≤ℤ o → o ≤ℤ last → covers runs o ≡ true → ⊥
not_met [] first last o none from to e = cc
not_met (r ∷ rs) first last o none from to e = by (is_within o r) refl e (not_met rs first last o (rest (int_le r.0 last && int_le first r.1) (covers_any rs first last) none) from to)
  where
    rest : (s t : Bool) → (s || t) ≡ false → t ≡ false
    rest s t f = grind arith

    here : (a z : ℤ) → (int_le a o && int_le o z) ≡ true → (int_le a last && int_le first z) ≡ true
    here a z f = grind (arith, ints, f, from, to)

    clash : (s t : Bool) → s ≡ true → (s || t) ≡ false → ⊥
    clash s t f g = grind arith

    by : (t : Bool) → is_within o r ≡ t → (t || covers rs o) ≡ true → (covers rs o ≡ true → ⊥) → ⊥
    by true t f ih = clash (int_le r.0 last && int_le first r.1) (covers_any rs first last) (here r.0 r.1 t) none
    by false t f ih = ih f

-- ---- the entries for a content's batches

entries_are : (runs asked : Runs) (low : ℤ) (bs : Batches) → IsCanonical runs → SpansRise low bs → AllByRecursion IsKeepable bs → AllByRecursion (IsSeen runs) bs → AreEntries runs asked low (map (entry_for asked) bs)
entries_are runs asked low [] canonical spans keepable seen = tt
entries_are runs asked low (b ∷ bs) canonical spans keepable seen = by (is_asked asked b) refl (entries_are runs asked (last_offset b +ℤ pos 1) bs canonical spans.1 keepable.1 seen.1)
  where
    delta : pos 0 ≤ℤ b.head.last_delta
    delta = keepable.0.0.valid.last_delta

    span : first_offset b ≤ℤ last_offset b
    span = let d = delta in omega (arith, ints, d)

    first_seen : covers runs (first_offset b) ≡ true
    first_seen = let s = span in seen.0 (first_offset b) (omega (arith, ints)) s

    last_seen : covers runs (last_offset b) ≡ true
    last_seen = let s = span in seen.0 (last_offset b) s (omega (arith, ints))

    by : (t : Bool) → is_asked asked b ≡ t → AreEntries runs asked (last_offset b +ℤ pos 1) (map (entry_for asked) bs) → AreEntries runs asked low ((if t then Listed (first_offset b) (offsets_of b) else Sent b) ∷ map (entry_for asked) bs)
    by true t rest =
        let most : last_listed (first_offset b) (offsets_of b) ≤ℤ last_offset b = listed_most (first_offset b) (last_offset b) (offsets_of b) span (offsets_end b keepable.0) in (
          (spans.0, is_list runs b canonical keepable.0 seen.0),
          (first_seen, offsets_covered runs b keepable.0 seen.0),
          entries_lower runs asked (last_listed (first_offset b) (offsets_of b) +ℤ pos 1) (last_offset b +ℤ pos 1) (map (entry_for asked) bs) (omega (arith, ints, most)) rest,
        )
    by false t rest = (
      (spans.0, keepable.0, ((covered_within runs (first_offset b) canonical first_seen).0, (covered_within runs (last_offset b) canonical last_seen).1)),
      (seen.0, λ met. not_met asked (first_offset b) (last_offset b) met.0 t met.1 met.2 met.3),
      rest,
    )

pub delta_is : (x : Content) (asked : Runs) → IsContent x → IsCanonical asked → IsDelta (delta_of x asked)
delta_is x asked is canonical =
    let least = is.in_range.0 in
    record {
      in_range = is.in_range;
      canonical = is.canonical;
      above = is.above;
      asked = canonical;
      entries = entries_lower x.cover asked LEAST_BASE x.start (map (entry_for asked) x.kept) (omega (arith, ints, least))
          (entries_are x.cover asked x.start x.kept is.canonical is.disjoint is.keepable
          (all_from_at first_offset (IsSeen x.cover) x.start x.kept (bases_rise x is) (λ b e o from to. is.inside (first_offset b) o b e from to)));
    }
