-- A copy that agrees with the sender and knows what was asked may take the sender's delta: what is sent
-- are some of the sender's batches, and each list is of a batch that the copy has seen.
use Rattle.std.proofs.Common.{◌≡◌, ℤ, ◌+ℤ◌, Bool, true, false, Option, Some, None, List, map, refl, sym, ap, subst, ◌∙◌, arith}
use Rattle.std.specs.Prelude.{◌≤ℤ◌, ◌<ℤ◌, if◌then◌else◌}
use Rattle.std.specs.List.{AllByRecursion}
use Rattle.std.specs.Option.{option_map, option_and_then}
use Rattle.std.proofs.lemmas.Int.{ints, clamps}
use Rattle.batch_codec.specs.declared.head.BatchHead.{BatchHead}
use Rattle.batch_codec.specs.Values.{BatchValue}
use Rattle.batch_codec.specs.Offsets.{first_offset, last_offset}
use Rattle.cover_ranges.specs.Runs.{Runs, covers, IsCanonical}
use Rattle.content.specs.ByOffset.{look_up}
use Rattle.content.specs.Content.{Content, IsContent}
use Rattle.content.specs.Joins.{Slot, slot_at, greater_start, AgreeAt, Agree}
use Rattle.content.specs.Joins.Slot.{Unknown, Kept, Gone, Below}
use Rattle.content_laws.proofs.Windows.{each_weaker}
use Rattle.content_laws.proofs.Slots.{bases_rise, kept_keepable, kept_covered}
use Rattle.deltas.specs.Entries.{batch_sent, sent}
use Rattle.deltas.specs.Entries.Entry.{Listed, Sent}
use Rattle.deltas.specs.Deltas.{offsets_of, is_asked, entry_for, delta_of}
use Rattle.deltas.specs.Patches.Said.{Says, Lists}
use Rattle.deltas.specs.Accepting.{sent_part, IsFor, ListFitsAt, Accepts}
use Rattle.deltas.proofs.Entries.{entry_at, entries_for_rise, sent_at}
use Rattle.deltas.proofs.Offsets.{offsets_end}
use Rattle.deltas.proofs.Asking.{asked_seen}
use Rattle.deltas.proofs.DeltaMerges.{said_of, delta_said, slot_keeps}

-- ---- what is sent

sent_option : (asked : Runs) (z : Option BatchValue) (b : BatchValue) → option_and_then batch_sent (option_map (entry_for asked) z) ≡ Some b → z ≡ Some b
sent_option asked None b e = absurd cc
sent_option asked (Some x) b e = by (is_asked asked x) e
  where
    by : (t : Bool) → batch_sent (if t then Listed (first_offset x) (offsets_of x) else Sent x) ≡ Some b → Some x ≡ Some b
    by true f = absurd cc
    by false f = f

-- a batch that is sent is the sender's
pub sent_kept : (x : Content) (asked : Runs) (o : ℤ) (b : BatchValue) → IsContent x → look_up first_offset o (sent (map (entry_for asked) x.kept)) ≡ Some b → look_up first_offset o x.kept ≡ Some b
sent_kept x asked o b is e =
    sent_option asked (look_up first_offset o x.kept) b
    (sym (sent_at x.start o (map (entry_for asked) x.kept) (entries_for_rise asked x.start x.kept (bases_rise x is)) ∙ ap (option_and_then batch_sent) (entry_at asked o x.kept)) ∙ e)

pub sent_agrees : (x y : Content) (asked : Runs) → IsContent x → Agree y x → Agree y (sent_part (delta_of x asked))
sent_agrees x y asked is agree o =
    let both = agree o in (
      both.0,
      λ b e. both.1 b (sent_kept x asked o b is e),
      λ left right from e f. both.2 left right from e (sent_kept x asked o right is f),
    )

-- ---- what is listed

-- the batch of which a delta lists the offsets
record IsListOf (asked : Runs) (u : Slot) (offsets : List ℤ) : Type 0 where
  pub batch : BatchValue
  pub kept : u ≡ Kept batch
  pub was_asked : is_asked asked batch ≡ true
  pub listed : offsets ≡ offsets_of batch

list_of : (asked : Runs) (u : Slot) (offsets : List ℤ) → said_of asked u ≡ Lists offsets → IsListOf asked u offsets
list_of asked Unknown offsets e = absurd cc
list_of asked Gone offsets e = absurd cc
list_of asked Below offsets e = absurd cc
list_of asked (Kept b) offsets e = by (is_asked asked b) refl e
  where
    by : (t : Bool) → is_asked asked b ≡ t → (if t then Lists (offsets_of b) else Says (Kept b)) ≡ Lists offsets → IsListOf asked (Kept b) offsets
    by true t f = let same : offsets_of b ≡ offsets = cc in record { batch = b; kept = refl; was_asked = t; listed = sym same }
    by false t f = absurd cc

list_taken : (x y : Content) (asked : Runs) (o : ℤ) → IsContent x → IsCanonical asked → IsFor y asked → AgreeAt y x o → ListFitsAt y (delta_of x asked) o
list_taken x y asked o is canonical knows agree offsets e = (below, above)
  where
    of : IsListOf asked (slot_at x o) offsets
    of = list_of asked (slot_at x o) offsets (sym (delta_said x asked o) ∙ e)

    there : look_up first_offset o x.kept ≡ Some of.batch
    there = slot_keeps x o of.batch of.kept

    least : x.start ≤ℤ o
    least = is.above o (kept_covered x o of.batch is there)

    ends : AllByRecursion (λ k. k ≤ℤ last_offset of.batch) offsets
    ends = subst (AllByRecursion (λ k. k ≤ℤ last_offset of.batch)) (sym of.listed) (offsets_end of.batch (kept_keepable x o of.batch is there))

    below : o <ℤ y.start → AllByRecursion (λ k. k <ℤ y.start) offsets
    below less =
        let end : last_offset of.batch <ℤ greater_start y x = (agree.1 of.batch there).0 (omega (arith, ints, clamps, less)) in
        let under : last_offset of.batch <ℤ y.start = omega (arith, ints, clamps, end, less, least) in
        each_weaker (λ (k : ℤ). k ≤ℤ last_offset of.batch) (λ (k : ℤ). k <ℤ y.start) offsets (λ k le. omega (arith, ints, le, under)) ends

    above : y.start ≤ℤ o → (covers y.cover o ≡ true) × ((b : BatchValue) → look_up first_offset o y.kept ≡ Some b → AllByRecursion (λ k. k ≤ℤ last_offset b) offsets)
    above from = (
      asked_seen x y asked o of.batch is canonical knows agree.1 there of.was_asked from,
      λ b f.
          let head : b.head ≡ of.batch.head = (agree.2 b of.batch (omega (arith, ints, clamps, from, least)) f there).0 in
          subst (λ (h : BatchHead). AllByRecursion (λ k. k ≤ℤ (h.base +ℤ h.last_delta)) offsets) (sym head) ends,
    )

pub delta_accepted : (x y : Content) (asked : Runs) → IsContent x → IsCanonical asked → IsFor y asked → Agree y x → Accepts y (delta_of x asked)
delta_accepted x y asked is canonical knows agree o = (sent_agrees x y asked is agree o, list_taken x y asked o is canonical knows (agree o))
