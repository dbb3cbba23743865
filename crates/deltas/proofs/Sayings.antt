-- What a valid delta says of each base offset: whether a batch is sent, whether the offset was seen, and
-- whether it is below the start.
use Rattle.std.proofs.Common.{◌≡◌, ℤ, Bool, true, false, Option, Some, None, refl, ap, subst, ◌∙◌, arith}
use Rattle.std.specs.Prelude.{◌≤ℤ◌, ◌<ℤ◌, int_lt, if◌then◌else◌}
use Rattle.std.specs.Option.{option_and_then}
use Rattle.std.proofs.lemmas.Int.{ints}
use Rattle.batch_codec.specs.Values.{BatchValue}
use Rattle.batch_codec.specs.Offsets.{first_offset, last_offset}
use Rattle.cover_ranges.specs.Runs.{covers}
use Rattle.content.specs.ByOffset.{look_up, Rises}
use Rattle.content.specs.Joins.{batch_of_slot}
use Rattle.content.specs.Joins.Slot.{Gone, Below}
use Rattle.content_laws.proofs.ByOffset.{look_up-offset}
use Rattle.content_laws.proofs.Slots.{is_seen, is_below}
use Rattle.deltas.specs.Entries.{Entry, entry_base, batch_sent, sent}
use Rattle.deltas.specs.Entries.Entry.{Listed, Sent}
use Rattle.deltas.specs.declared.TheConstants.{LEAST_BASE}
use Rattle.deltas.specs.Deltas.{Delta, IsDelta}
use Rattle.deltas.specs.Patches.{Said, said_by, said_at}
use Rattle.deltas.specs.Patches.Said.{Says, Lists}
use Rattle.deltas.proofs.Entries.{IsEntry, entries_rise, entry_holds, entries_apart, entry_end, sent_at, sent_entry}

abbrev pub said_batch : Said → Option BatchValue
said_batch (Says u) = batch_of_slot u
said_batch (Lists offsets) = None

abbrev pub said_seen : Said → Bool
said_seen (Says u) = is_seen u
said_seen (Lists offsets) = true

abbrev pub said_below : Said → Bool
said_below (Says u) = is_below u
said_below (Lists offsets) = false

-- ---- an entry's base was seen, so it isn't below the start

pub rises_all : (e : Delta) → IsDelta e → Rises entry_base LEAST_BASE e.entries
rises_all e is = entries_rise e.cover e.asked LEAST_BASE e.entries is.entries

pub is_entry : (e : Delta) (o : ℤ) (x : Entry) → IsDelta e → look_up entry_base o e.entries ≡ Some x → IsEntry e.cover e.asked x
is_entry e o x is f = entry_holds e.cover e.asked LEAST_BASE o e.entries x is.entries f

pub entry_covered : (e : Delta) (o : ℤ) (x : Entry) → IsDelta e → look_up entry_base o e.entries ≡ Some x → covers e.cover o ≡ true
entry_covered e o x is f = by x (look_up-offset entry_base o e.entries x f) (is_entry e o x is f)
  where
    by : (x : Entry) → entry_base x ≡ o → IsEntry e.cover e.asked x → covers e.cover o ≡ true
    by (Listed base offsets) same holds = subst (λ (k : ℤ). covers e.cover k ≡ true) same holds.1.0
    by (Sent b) same holds =
        let least : first_offset b ≤ℤ last_offset b = entry_end (first_offset b) (Sent b) holds.0 in
        holds.1.0 o (omega (arith, ints, same)) (omega (arith, ints, same, least))

pub entry_above : (e : Delta) (o : ℤ) (x : Entry) → IsDelta e → look_up entry_base o e.entries ≡ Some x → e.start ≤ℤ o
entry_above e o x is f = is.above o (entry_covered e o x is f)

below_none : (e : Delta) (o : ℤ) → IsDelta e → int_lt o e.start ≡ true → look_up entry_base o e.entries ≡ None
below_none e o is below = by (look_up entry_base o e.entries) refl
  where
    by : (z : Option Entry) → look_up entry_base o e.entries ≡ z → look_up entry_base o e.entries ≡ None
    by None f = f
    by (Some x) f = let from : e.start ≤ℤ o = entry_above e o x is f in absurd (grind (arith, ints, from, below))

below_unseen : (e : Delta) (o : ℤ) → IsDelta e → int_lt o e.start ≡ true → covers e.cover o ≡ false
below_unseen e o is below = by (covers e.cover o) refl
  where
    by : (b : Bool) → covers e.cover o ≡ b → covers e.cover o ≡ false
    by true f = let from : e.start ≤ℤ o = is.above o f in absurd (grind (arith, ints, from, below))
    by false f = f

-- ---- the three questions

pub reads_batch : (e : Delta) (o : ℤ) → IsDelta e → look_up first_offset o (sent e.entries) ≡ said_batch (said_at e o)
reads_batch e o is = sent_at LEAST_BASE o e.entries (rises_all e is) ∙ by (int_lt o e.start) (look_up entry_base o e.entries) (covers e.cover o) (below_none e o is)
  where
    by : (t : Bool) (z : Option Entry) (s : Bool) → (t ≡ true → z ≡ None) → option_and_then batch_sent z ≡ said_batch (if t then Says Below else said_by z s)
    by true z s low = ap (option_and_then batch_sent) (low refl)
    by false None true low = refl
    by false None false low = refl
    by false (Some (Listed base offsets)) s low = refl
    by false (Some (Sent b)) s low = refl

pub reads_seen : (e : Delta) (o : ℤ) → IsDelta e → covers e.cover o ≡ said_seen (said_at e o)
reads_seen e o is = by (int_lt o e.start) (look_up entry_base o e.entries) (covers e.cover o) (below_unseen e o is) (λ x. entry_covered e o x is)
  where
    by : (t : Bool) (z : Option Entry) (s : Bool) → (t ≡ true → s ≡ false) → ((x : Entry) → z ≡ Some x → s ≡ true) → s ≡ said_seen (if t then Says Below else said_by z s)
    by true z s low kept = low refl
    by false None true low kept = refl
    by false None false low kept = refl
    by false (Some (Listed base offsets)) s low kept = kept (Listed base offsets) refl
    by false (Some (Sent b)) s low kept = kept (Sent b) refl

pub reads_below : (e : Delta) (o : ℤ) → int_lt o e.start ≡ said_below (said_at e o)
reads_below e o = by (int_lt o e.start) (look_up entry_base o e.entries) (covers e.cover o)
  where
    by : (t : Bool) (z : Option Entry) (s : Bool) → t ≡ said_below (if t then Says Below else said_by z s)
    by true z s = refl
    by false None true = refl
    by false None false = refl
    by false (Some (Listed base offsets)) s = refl
    by false (Some (Sent b)) s = refl

-- the offsets behind a sent batch's base are seen, and no entry begins there
pub sent_gone : (e : Delta) (o i : ℤ) (b : BatchValue) → IsDelta e → look_up first_offset o (sent e.entries) ≡ Some b → o <ℤ i → i ≤ℤ last_offset b → said_at e i ≡ Says Gone
sent_gone e o i b is f less within = by (int_lt i e.start) (look_up entry_base i e.entries) (covers e.cover i) refl (λ x g. entries_apart e.cover e.asked LEAST_BASE o i e.entries (Sent b) x is.entries entry g less) seen
  where
    entry : look_up entry_base o e.entries ≡ Some (Sent b)
    entry = sent_entry LEAST_BASE o e.entries b (rises_all e is) f

    base : first_offset b ≡ o
    base = look_up-offset entry_base o e.entries (Sent b) entry

    seen : covers e.cover i ≡ true
    seen = (is_entry e o (Sent b) is entry).1.0 i (omega (arith, ints, base, less)) within

    by : (t : Bool) (z : Option Entry) (s : Bool) → int_lt i e.start ≡ t → ((x : Entry) → z ≡ Some x → last_offset b <ℤ i) → s ≡ true → (if t then Says Below else said_by z s) ≡ Says Gone
    by true z s t apart all = let from : e.start ≤ℤ i = is.above i seen in absurd (grind (arith, ints, from, t))
    by false (Some x) s t apart all = let clash : last_offset b <ℤ i = apart x refl in absurd (omega (arith, ints, clash, within))
    by false None true t apart all = refl
    by false None false t apart all = absurd cc
