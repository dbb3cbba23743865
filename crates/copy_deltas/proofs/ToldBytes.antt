-- The entries and the ranges of a delta, as they are told: one entry after another, and the ranges from an offset on.
use Rattle.std.proofs.Common.{◌≡◌, ℕ, ◌-◌, ℤ, pos, List, take, drop, length, refl, sym, ap, subst, ◌∙◌, arith}
use Rattle.std.specs.Prelude.{◌≤ℤ◌, Result, Ok, Err, OnOk, IfErr}
use Rattle.std.specs.List.{AllByRecursion, flat_map}
use Rattle.std.proofs.lemmas.Int.{ints}
use Rattle.std.proofs.lemmas.List.{take_rest, drop_at}
use Rattle.cover_ranges.specs.Runs.{Runs, covers, IsCanonical}
use Rattle.cover_ranges.proofs.RunsFrom.{canonical_from, from_canonical}
use Rattle.content_laws.proofs.Windows.{each_weaker}
use Rattle.copy_images.specs.Judging.{ranges_of, ending_from}
use Rattle.copy_images.proofs.Judged.{skipped}
use Rattle.deltas.specs.declared.TheConstants.{LEAST_BASE}
use Rattle.deltas.specs.Entries.{Entry, AreEntries}
use Rattle.deltas.specs.Deltas.{Delta}
use Rattle.deltas.proofs.Entries.{IsEntry, each_entry}
use Rattle.delta_bytes.specs.declared.delta.DeltaBytes.{DeltaBytes}
use Rattle.delta_bytes.specs.EntryBytes.{entry_bytes}
use Rattle.delta_bytes.specs.RangeLists.{count_encoding}
use Rattle.delta_bytes.specs.EntryViews.{IsValidEntry, AreEncoded}
use Rattle.delta_bytes.proofs.Covered.{ending_same}
use Rattle.side_by_side.specs.Telling.{IsTold}
use Rattle.copy_deltas.specs.DeltaParts.{AreParts, AreFrom}

abbrev pub Entries : Type 0
Entries = List Entry

-- ---- the entries behind their count

each_valid : (runs asked : Runs) (low : ℤ) (es : Entries) → AreEntries runs asked low es → AllByRecursion IsValidEntry es
each_valid runs asked low es are = each_weaker (IsEntry runs asked) IsValidEntry es (λ x both. both.0) (each_entry runs asked low es are)

pub entries_behind : (parts : DeltaBytes) (e : Delta) → AreParts parts e → AreEncoded e.entries (take (length parts.entries.now - 4) (drop 4 parts.entries.now))
entries_behind parts e are = record {
  encoded = take_rest parts.entries.now 4 ∙ ap (drop 4) are.entries_are ∙ drop_at (count_encoding (pos (length e.entries))) (flat_map entry_bytes e.entries) 4 refl;
  valid = each_valid e.cover e.asked LEAST_BASE e.entries are.valid.entries;
}

-- ---- the sender's ranges from an offset on

left_canonical : (o : ℤ) (runs : Runs) → IsCanonical runs → IsCanonical (ending_from o runs)
left_canonical o runs canonical = from_canonical (pos 0) (ending_from o runs) zero_least (skipped (pos 0) o runs (canonical_from runs canonical))
  where
    zero_least : pos 0 ≤ℤ pos 0
    zero_least = omega (arith, ints)

pub ranges_passed : (low offset : ℤ) (runs left later : Runs) → later ≡ ending_from offset left → low ≤ℤ offset → AreFrom low runs left → AreFrom offset runs later
ranges_passed low offset runs left later is le from = subst (AreFrom offset runs) (sym is) (record {
  canonical = left_canonical offset left from.canonical;
  same = λ o at. from.same o (omega (arith, ints, le, at)) ∙ ending_same offset left o at;
})

-- ---- what is told, by the parts of a delta

pub parts_told : (parts : DeltaBytes) (e : Delta) (start : ℤ) (bytes : List ℕ) → AreParts parts e → start ≡ parts.start → AreEncoded e.entries bytes → IsTold start (λ (es : Entries). AreEncoded es bytes) (λ (runs : Runs). AreFrom (pos 0) runs (ranges_of parts.ranges.now)) e
parts_told parts e start bytes are same encoded = record {
  valid = are.valid;
  start_is = same ∙ are.start_is;
  entries = encoded;
  cover = record {
    canonical = subst IsCanonical (sym are.cover_is) are.valid.canonical;
    same = λ o le. ap (λ (runs : Runs). covers runs o) (sym are.cover_is);
  };
}

pub on_ok_each : {T E : Type 0} (r : Result T E) (Is Are Holds : Delta → Type 0) → ((e : Delta) → Are e → Is e) → OnOk r ((e : Delta) → Is e → Holds e) → OnOk r ((e : Delta) → Are e → Holds e)
on_ok_each (Ok v) Is Are Holds told holds = λ e are. holds e (told e are)
on_ok_each (Err v) Is Are Holds told holds = tt

pub on_err_each : {T E : Type 0} (r : Result T E) (Is Are : Delta → Type 0) (Holds : Delta → E → Type 0) → ((e : Delta) → Are e → Is e) → IfErr r (λ x. (e : Delta) → Is e → Holds e x) → IfErr r (λ x. (e : Delta) → Are e → Holds e x)
on_err_each (Ok v) Is Are Holds told holds = tt
on_err_each (Err x) Is Are Holds told holds = λ e are. holds e (told e are)
