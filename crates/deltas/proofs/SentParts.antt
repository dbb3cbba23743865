-- What is sent in a delta is a content of its own, and none of its records was asked.
use Rattle.std.proofs.Common.{◌≡◌, ℤ, Bool, true, false, refl, arith}
use Rattle.std.specs.Prelude.{◌≤ℤ◌, Some}
use Rattle.std.proofs.lemmas.Int.{ints}
use Rattle.batch_codec.specs.Values.{RecordValue, BatchValue}
use Rattle.batch_codec.specs.Offsets.{first_offset}
use Rattle.cover_ranges.specs.Runs.{covers}
use Rattle.content.specs.ByOffset.{Rises}
use Rattle.content.specs.Records.{record_at, IsKeepable}
use Rattle.content.specs.Content.{IsContent}
use Rattle.content_laws.proofs.ByOffset.{look_up-offset, rises-raise, all_from_at}
use Rattle.content_laws.proofs.Batches.{AreApart, spans_from, HasRecord, record_from}
use Rattle.deltas.specs.Entries.{sent}
use Rattle.deltas.specs.Entries.Entry.{Sent}
use Rattle.deltas.specs.declared.TheConstants.{LEAST_BASE}
use Rattle.deltas.specs.Deltas.{Delta, IsDelta}
use Rattle.deltas.specs.Accepting.{sent_part}
use Rattle.deltas.proofs.Entries.{sent_rises, sent_entry, entries_apart}
use Rattle.deltas.proofs.Sayings.{rises_all, entry_above}
use Rattle.deltas.proofs.PatchContents.{IsSent, sent_is_entry}

sent_there : (e : Delta) (o : ℤ) (z : BatchValue) → IsDelta e → IsSent e o z → e.start ≤ℤ o
sent_there e o z is f = entry_above e o (Sent z) is (sent_entry LEAST_BASE o e.entries z (rises_all e is) f)

sent_bases : (e : Delta) → IsDelta e → Rises first_offset e.start (sent e.entries)
sent_bases e is =
    let old : Rises first_offset LEAST_BASE (sent e.entries) = sent_rises LEAST_BASE e.entries (rises_all e is) in
    rises-raise first_offset LEAST_BASE e.start (sent e.entries) old
    (all_from_at first_offset (λ (z : BatchValue). e.start ≤ℤ first_offset z) LEAST_BASE (sent e.entries) old (λ z f. sent_there e (first_offset z) z is f))

sent_apart : (e : Delta) → IsDelta e → AreApart (sent e.entries)
sent_apart e is i j x y f g less = entries_apart e.cover e.asked LEAST_BASE i j e.entries (Sent x) (Sent y) is.entries
    (sent_entry LEAST_BASE i e.entries x (rises_all e is) f) (sent_entry LEAST_BASE j e.entries y (rises_all e is) g) less

pub sent_content : (e : Delta) → IsDelta e → IsContent (sent_part e)
sent_content e is = record {
  in_range = is.in_range;
  canonical = is.canonical;
  above = is.above;
  disjoint = spans_from e.start (sent e.entries) (sent_bases e is) (sent_apart e is);
  keepable = all_from_at first_offset IsKeepable e.start (sent e.entries) (sent_bases e is) (λ z f. (sent_is_entry e (first_offset z) z is f).0.1);
  inside = λ base o z f from to.
      let same : first_offset z ≡ base = look_up-offset first_offset base (sent e.entries) z f in
      (sent_is_entry e base z is f).1.0 o (omega (arith, ints, same, from)) to;
}

pub sent_unasked : (e : Delta) (o : ℤ) (r : RecordValue) → IsDelta e → record_at (sent e.entries) o ≡ Some r → covers e.asked o ≡ false
sent_unasked e o r is f =
    let content : IsContent (sent_part e) = sent_content e is in
    let of : HasRecord (sent e.entries) o r = record_from e.start o (sent e.entries) r content.disjoint content.keepable f in
    let none = (sent_is_entry e (first_offset of.batch) of.batch is of.there).1.1 in
    by (covers e.asked o) (λ covered. none (o, of.from, of.to, covered))
  where
    by : (t : Bool) → (t ≡ true → ⊥) → t ≡ false
    by true never = absurd (never refl)
    by false never = refl
