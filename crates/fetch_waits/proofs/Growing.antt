-- A Fetch that waits, waits on where its partitions are cleaned, and grow by less than is missing, and no limit leaves out a batch.
use Rattle.std.proofs.Common.{◌≡◌, ℕ, ℤ, ◌+◌, ◌-◌, ◌<◌, ◌≤◌, ◌≤ℤ◌, ◌⊎◌, inl, inr, arith, suc, min, not, Bool, true, false, List, [], ◌∷◌, ◌++◌, length, drop, take, Option, Some, None, is_some, sym, ap, subst, refl, ◌∙◌, append-nil}
use Rattle.std.specs.Prelude.{◌&&◌, ⊤, nat_lt, nat_eq, int_lt, int_le, if◌then◌else◌, pos}
use Rattle.std.specs.Option.{option_and_then}
use Rattle.std.specs.List.{flat_map}
use Rattle.std.specs.Ordering.{int_eq}
use Rattle.std.proofs.lemmas.Bool.{false≢true}
use Rattle.std.proofs.lemmas.Grind.{flat_map-append}
use Rattle.std.proofs.lemmas.Int.{ints}
use Rattle.std.proofs.lemmas.List.{length-append, take_all}
use Rattle.std.proofs.lemmas.Option.{same_Some}
use Rattle.batch_codec.specs.Values.{BatchValue}
use Rattle.batch_codec.specs.Grammar.{batch_encoding}
use Rattle.batch_codec.specs.Offsets.{last_offset}
use Rattle.content.specs.Content.{Content, end}
use Rattle.frame_fields.specs.Types.{TopicOf}
use Rattle.segment.specs.BatchLists.{first_from}
use Rattle.partition_log.specs.Lookups.{fetched}
use Rattle.request_frames.specs.Fetch.{FetchValue, FetchPartitionValue}
use Rattle.answering.specs.declared.codes.ErrorCode.{ErrorCode}
use Rattle.answering.specs.declared.codes.ErrorCode.TheVariants.{OffsetOutOfRange, UnknownTopicOrPartition}
use Rattle.answering.specs.Lists.{first_some, fault_if}
use Rattle.answering.specs.Codes.{no_error, code_number}
use Rattle.answering.specs.Work.{answer_after}
use Rattle.broker_state.specs.State.{ConfigValue, State, content_at, is_known}
use Rattle.broker_state.specs.Checks.{unknown, not_leader, role_code}
use Rattle.log_requests.specs.Fetch.{fetch_limit, fetch_work, is_out_of_range}
use Rattle.log_requests.proofs.FetchRuns.{bytes_of}
use Rattle.fetch_waits.specs.Waiting.{awaited_bytes, bytes_from, fetch_waits, lacks_bytes, asks_for_some}
use Rattle.fetch_waits.specs.Waiting.Entries.{left_behind, left_by_entry, left_by_entries, left_by_topics, room_of}
use Rattle.fetch_waits.specs.Sleeping.{AreBehind, GrowsBy, Growths}
use Rattle.fetch_waits.proofs.Entry.{is_fault}
use Rattle.fetch_waits.proofs.Lacking.{lacks_is}
use Rattle.fetch_waits.proofs.Left.{GivesAll, from_here, from_later, from_left, from_nowhere, from_offset, left_bytes, left_given}
use Rattle.fetch_waits.proofs.Limits.{all_fetched}
use Rattle.fetch_waits.proofs.Runs.{some_of}

-- ---- batches at the end of a log

all_behind : (offset : ℤ) (bs : List BatchValue) → AreBehind offset bs → from_offset offset bs ≡ bs
all_behind offset [] behind = from_nowhere offset
all_behind offset (b ∷ bs) behind =
    let is : int_le offset (last_offset b) ≡ true = grind (arith, ints, behind.0) in
    from_here offset b bs is

from_before : (low high : ℤ) (bs : List BatchValue) → low ≤ℤ high → AreBehind high bs → AreBehind low bs
from_before low high [] less behind = tt
from_before low high (b ∷ bs) less behind = (omega (arith, ints, less, behind.0), from_before low high bs less behind.1)

dropped_more : (offset : ℤ) (xs bs : List BatchValue) → AreBehind offset bs → from_offset offset (xs ++ bs) ≡ from_offset offset xs ++ bs
dropped_more offset [] bs behind = all_behind offset bs behind ∙ sym (ap (λ (ys : List BatchValue). ys ++ bs) (from_nowhere offset))
dropped_more offset (x ∷ xs) bs behind = by (int_le offset (last_offset x)) refl (dropped_more offset xs bs behind) where
  by : (t : Bool) → int_le offset (last_offset x) ≡ t → from_offset offset (xs ++ bs) ≡ from_offset offset xs ++ bs → from_offset offset (x ∷ (xs ++ bs)) ≡ from_offset offset (x ∷ xs) ++ bs
  by true is rest = from_here offset x (xs ++ bs) is ∙ sym (ap (λ (ys : List BatchValue). ys ++ bs) (from_here offset x xs is))
  by false is rest = from_later offset x (xs ++ bs) is ∙ rest ∙ sym (ap (λ (ys : List BatchValue). ys ++ bs) (from_later offset x xs is))

-- the batches that a copy keeps from an offset on
abbrev from : Content → ℤ → List BatchValue
from c offset = from_offset offset c.kept

from_grown : (c d : Content) (n : ℕ) (offset : ℤ) (grows : GrowsBy c d n) → offset ≤ℤ end c → from d offset ≡ from_offset offset grows.left ++ grows.batches
from_grown c d n offset grows within =
    ap (from_offset offset) grows.kept ∙ dropped_more offset grows.left grows.batches (from_before offset (end c) grows.batches within grows.behind)

parts_grown : (c d : Content) (n : ℕ) (offset : ℤ) (grows : GrowsBy c d n) → offset ≤ℤ end c → length (bytes_from d offset) ≡ bytes_of (from_offset offset grows.left) + bytes_of grows.batches
parts_grown c d n offset grows within =
    ap bytes_of (from_grown c d n offset grows within) ∙ ap length (flat_map-append batch_encoding (from_offset offset grows.left) grows.batches)
    ∙ length-append (flat_map batch_encoding (from_offset offset grows.left)) (flat_map batch_encoding grows.batches)

pub bytes_grown : (c d : Content) (n : ℕ) (offset : ℤ) → GrowsBy c d n → offset ≤ℤ end c → length (bytes_from d offset) ≤ length (bytes_from c offset) + n
bytes_grown c d n offset grows within =
    let parts = parts_grown c d n offset grows within in
    let fewer = left_bytes (from_offset offset grows.left) (from c offset) (from_left offset grows.left c.kept grows.are_left) in
    omega (arith, parts, fewer, grows.bytes)

-- it grew by no more than is there from its former end on
pub grown_behind : (c d : Content) (n : ℕ) → GrowsBy c d n → GrowsBy c d (length (bytes_from d (end c)))
grown_behind c d n grows =
    let parts = parts_grown c d n (end c) grows (omega (arith, ints)) in
    record { left = grows.left; batches = grows.batches; start = grows.start; are_left = grows.are_left; kept = grows.kept; behind = grows.behind; ends = grows.ends; bytes = omega (arith, parts) }

none_came : (bs : List BatchValue) → bytes_of bs ≤ 0 → bs ≡ []
none_came [] none = refl
none_came (b ∷ bs) none = absurd (omega (arith, none, some_of (b ∷ bs) (omega arith)))

left_kept : (c d : Content) (grows : GrowsBy c d 0) → d.kept ≡ grows.left
left_kept c d grows = grows.kept ∙ ap (λ (bs : List BatchValue). grows.left ++ bs) (none_came grows.batches grows.bytes) ∙ append-nil grows.left

-- ---- an entry

three : (a b : Option ErrorCode) (x : Bool) (code : ErrorCode) → first_some (a ∷ b ∷ fault_if x code ∷ []) ≡ None → (a ≡ None) × (b ≡ None) × (x ≡ false)
three None None false code is = (refl, refl, refl)
three None None true code is = absurd (false≢true (ap is_some (sym is)))
three None (Some b) x code is = absurd (false≢true (ap is_some (sym is)))
three (Some a) b x code is = absurd (false≢true (ap is_some (sym is)))

module _ (name : List ℕ) (e : FetchPartitionValue) where
  abbrev held : State → Content
  held s = content_at s name e.partition

  abbrev pub there : State → ℕ
  there s = length (bytes_from (held s) e.offset)

  abbrev fault : State → Option ErrorCode
  fault s = first_some (unknown s name e.partition ∷ not_leader s ∷ fault_if (is_out_of_range (held s) e.offset) OffsetOutOfRange ∷ [])

  -- the batches that are given
  abbrev run : State → (awaited missing : ℕ) → List BatchValue
  run s awaited missing = take (fetched (not (nat_lt missing awaited)) (min (fetch_limit e.max_bytes) missing) (from (held s) e.offset)) (from (held s) e.offset)

  -- an entry for which the Fetch waits
  pub record Lacks (s : State) (awaited missing left : ℕ) : Type 0 where
    pub fine : fault s ≡ None
    pub whole : bytes_of (run s awaited missing) ≡ there s
    pub less : there s < missing
    pub rest : left ≡ missing - there s

  left_if : State → (awaited missing : ℕ) → Option ErrorCode → Option ℕ
  left_if s awaited missing x =
      let r = (answer_after x (fetch_work s (room_of awaited missing) name e) (room_of awaited missing)).0 in
      left_behind (int_eq r.partition.code no_error) (length r.records) (there s) missing

  given_left : (given all missing left : ℕ) (t : Bool) → (nat_eq given all && nat_lt given missing) ≡ t → (if t then Some (missing - given) else None) ≡ Some left → (given ≡ all) × (all < missing) × (left ≡ missing - all)
  given_left given all missing left true is some =
      let same : given ≡ all = grind (arith, is) in
      let less : given < missing = grind (arith, is) in
      let left_is : missing - given ≡ left = same_Some (missing - given) left some in
      (same, omega (arith, same, less), omega (arith, same, left_is))
  given_left given all missing left false is some = absurd (false≢true (ap is_some some))

  pub lacks_entry : (s : State) (awaited missing left : ℕ) → left_by_entry s name awaited missing e ≡ Some left → Lacks s awaited missing left
  lacks_entry s awaited missing left is = by (fault s) refl is where
    by : (x : Option ErrorCode) → fault s ≡ x
        → (let r = (answer_after x (fetch_work s (room_of awaited missing) name e) (room_of awaited missing)).0 in left_behind (int_eq r.partition.code no_error) (length r.records) (there s) missing) ≡ Some left
        → Lacks s awaited missing left
    by (Some code) x is =
        let none : left_behind (int_eq (code_number code) no_error) 0 (there s) missing ≡ None = ap (λ (b : Bool). left_behind b 0 (there s) missing) (is_fault code) in
        absurd (false≢true (ap is_some (sym none ∙ is)))
    by None x is =
        let parts = given_left (bytes_of (run s awaited missing)) (there s) missing left (nat_eq (bytes_of (run s awaited missing)) (there s) && nat_lt (bytes_of (run s awaited missing)) missing) refl is in
        record { fine = x; whole = parts.0; less = parts.1; rest = parts.2 }

  lacking_entry : (s : State) (awaited missing : ℕ) → fault s ≡ None → bytes_of (run s awaited missing) ≡ there s → there s < missing → left_by_entry s name awaited missing e ≡ Some (missing - there s)
  lacking_entry s awaited missing fine whole less =
      let test : (nat_eq (bytes_of (run s awaited missing)) (there s) && nat_lt (bytes_of (run s awaited missing)) missing) ≡ true = grind (arith, whole, less) in
      ap (λ (x : Option ErrorCode). let r = (answer_after x (fetch_work s (room_of awaited missing) name e) (room_of awaited missing)).0 in left_behind (int_eq r.partition.code no_error) (length r.records) (there s) missing) fine
      ∙ ap (λ (b : Bool). if b then Some (missing - bytes_of (run s awaited missing)) else None) test
      ∙ ap (λ (n : ℕ). Some (missing - n)) whole

  module _ (s t : State) (config : t.config ≡ s.config) (known : is_known t name e.partition ≡ is_known s name e.partition) (n : ℕ) (grows : GrowsBy (held s) (held t) n) (fine : fault s ≡ None) where
    in_range : is_out_of_range (held s) e.offset ≡ false
    in_range = (three (unknown s name e.partition) (not_leader s) (is_out_of_range (held s) e.offset) OffsetOutOfRange fine).2

    within : e.offset ≤ℤ end (held s)
    within = grind (arith, ints, in_range)

    still_fine : fault t ≡ None
    still_fine =
        let parts = three (unknown s name e.partition) (not_leader s) (is_out_of_range (held s) e.offset) OffsetOutOfRange fine in
        let exists : unknown t name e.partition ≡ None = ap (λ (b : Bool). fault_if (not b) UnknownTopicOrPartition) known ∙ parts.0 in
        let leads : not_leader t ≡ None = ap (λ (c : ConfigValue). role_code c.role) config ∙ parts.1 in
        let range : is_out_of_range (held t) e.offset ≡ false = grind (arith, ints, parts.2, grows.start, grows.ends) in
        λ i. first_some (exists i ∷ leads i ∷ fault_if (range i) OffsetOutOfRange ∷ [])

    there_grown : there t ≤ there s + n
    there_grown = bytes_grown (held s) (held t) n e.offset grows within

    -- a limit that allows all that is there
    whole_within : (awaited missing : ℕ) → there t ≤ fetch_limit e.max_bytes → there t < missing → bytes_of (run t awaited missing) ≡ there t
    whole_within awaited missing allows less =
        let bs = from (held t) e.offset in
        let fits : bytes_of bs ≤ min (fetch_limit e.max_bytes) missing = grind (arith, allows, less) in
        ap (λ (k : ℕ). bytes_of (take k bs)) (all_fetched (not (nat_lt missing awaited)) (min (fetch_limit e.max_bytes) missing) bs fits) ∙ ap bytes_of (take_all (length bs) bs (omega arith))

  -- where nothing came there, and no less is missing
  whole_still : (s t : State) (awaited missing now : ℕ) → missing ≤ now → now ≤ awaited → GrowsBy (held s) (held t) 0 → bytes_of (run s awaited missing) ≡ there s → bytes_of (run t awaited now) ≡ there t
  whole_still s t awaited missing now more most grows whole =
      let left = from_left e.offset grows.left (held s).kept grows.are_left in
      let forced : not (nat_lt missing awaited) ≡ true → not (nat_lt now awaited) ≡ true = λ is. grind (arith, is, more, most) in
      let less : min (fetch_limit e.max_bytes) missing ≤ min (fetch_limit e.max_bytes) now = grind (arith, more) in
      let given = left_given (not (nat_lt missing awaited)) (not (nat_lt now awaited)) (min (fetch_limit e.max_bytes) missing) (min (fetch_limit e.max_bytes) now) (from_offset e.offset grows.left) (from (held s) e.offset) forced less left whole in
      subst (λ (kept : List BatchValue). GivesAll (not (nat_lt now awaited)) (min (fetch_limit e.max_bytes) now) (from_offset e.offset kept)) (sym (left_kept (held s) (held t) grows)) given

  -- it stands a growth by so much, where so much was missing before, and at least so much is now
  abbrev pub StandsOne : State → (n missing low : ℕ) → Type 0
  StandsOne s n missing low = ((n ≡ 0) × (missing ≤ low)) ⊎ (there s + n ≤ fetch_limit e.max_bytes)

  entry_grown : (s t : State) (awaited missing low now left n : ℕ) → t.config ≡ s.config → is_known t name e.partition ≡ is_known s name e.partition → GrowsBy (held s) (held t) n
      → Lacks s awaited missing left → StandsOne s n missing low → low ≤ now → now ≤ awaited → there s + n < low → left_by_entry t name awaited now e ≡ Some (now - there t)
  entry_grown s t awaited missing low now left n config known grows lacks stands more most less =
      let grown = there_grown s t config known n grows lacks.fine in
      lacking_entry t awaited now (still_fine s t config known n grows lacks.fine) (by stands) (omega (arith, grown, less, more))
    where
      by : StandsOne s n missing low → bytes_of (run t awaited now) ≡ there t
      by (inr allows) =
          let grown = there_grown s t config known n grows lacks.fine in
          whole_within s t config known n grows lacks.fine awaited now (omega (arith, grown, allows)) (omega (arith, grown, less, more))
      by (inl calm) = whole_still s t awaited missing now (omega (arith, calm.1, more)) most (subst (GrowsBy (held s) (held t)) calm.0 grows) lacks.whole

-- ---- some entries

pub and_then_some : {X Y : Type 0} (f : X → Option Y) (o : Option X) (y : Y) → option_and_then f o ≡ Some y → (x : X) × (o ≡ Some x) × (f x ≡ Some y)
and_then_some f None y is = absurd (false≢true (ap is_some is))
and_then_some f (Some x) y is = (x, refl, is)

-- how many bytes are there for some entries, and came
abbrev pub total : State → List ℕ → Growths → List FetchPartitionValue → ℕ
total s name by [] = 0
total s name by (e ∷ es) = (there name e s + by name e.partition) + total s name by es

-- how many are there
abbrev pub there_for : State → List ℕ → List FetchPartitionValue → ℕ
there_for s name [] = 0
there_for s name (e ∷ es) = there name e s + there_for s name es

-- nothing of their partitions changed but that they grew
abbrev pub GrowFor : State → State → List ℕ → Growths → List FetchPartitionValue → Type 0
GrowFor s t name by [] = ⊤
GrowFor s t name by (e ∷ es) = GrowsBy (content_at s name e.partition) (content_at t name e.partition) (by name e.partition) × GrowFor s t name by es

-- each of them stands it
abbrev pub StandFor : State → List ℕ → Growths → List FetchPartitionValue → (missing low : ℕ) → Type 0
StandFor s name by [] missing low = ⊤
StandFor s name by (e ∷ es) missing low =
    StandsOne name e s (by name e.partition) missing low × StandFor s name by es (missing - there name e s) (low - (there name e s + by name e.partition))

-- so many bytes are missing behind some entries: no fewer than these, and no more than before
pub record IsMissing (x : Option ℕ) (low now : ℕ) : Type 0 where
  pub rest : ℕ
  pub is : x ≡ Some rest
  pub least : low ≤ rest
  pub most : rest ≤ now

pub entries_grown : (s t : State) (name : List ℕ) (by : Growths) (awaited : ℕ) (config : t.config ≡ s.config) (known : (p : ℤ) → is_known t name p ≡ is_known s name p)
    (es : List FetchPartitionValue) (missing low now left : ℕ) → GrowFor s t name by es → StandFor s name by es missing low → left_by_entries s name awaited missing es ≡ Some left → total s name by es < low → low ≤ now → now ≤ awaited
    → IsMissing (left_by_entries t name awaited now es) (low - total s name by es) now × (left ≡ missing - there_for s name es)
entries_grown s t name by awaited config known [] missing low now left grow stand is less more most =
    let rest : left ≡ missing - 0 = omega (arith, same_Some missing left is) in
    (record { rest = now; is = refl; least = omega (arith, more); most = omega arith }, rest)
entries_grown s t name by awaited config known (e ∷ es) missing low now left grow stand is less more most =
    let parts = and_then_some (λ l. left_by_entries s name awaited l es) (left_by_entry s name awaited missing e) left is in
    let lacks = lacks_entry name e s awaited missing parts.0 parts.1 in
    let n = by name e.partition in
    let b = there name e s in
    let grown = there_grown name e s t config (known e.partition) n grow.0 lacks.fine in
    let first = entry_grown name e s t awaited missing low now parts.0 n config (known e.partition) grow.0 lacks stand.0 more most (omega (arith, less)) in
    let was : left_by_entries s name awaited (missing - b) es ≡ Some left = subst (λ (l : ℕ). left_by_entries s name awaited l es ≡ Some left) lacks.rest parts.2 in
    let rest = entries_grown s t name by awaited config known es (missing - b) (low - (b + n)) (now - there name e t) left grow.1 stand.1 was (omega (arith, less)) (omega (arith, grown, more)) (omega (arith, most)) in
    let sum' : missing - b - there_for s name es ≡ missing - (b + there_for s name es) = omega arith in (
      record {
        rest = rest.0.rest;
        is = ap (option_and_then (λ l. left_by_entries t name awaited l es)) first ∙ rest.0.is;
        least = let least = rest.0.least in omega (arith, least);
        most = let most = rest.0.most in omega (arith, most);
      },
      rest.1 ∙ sum',
    )

-- ---- the topics

abbrev pub total_in : State → Growths → List (TopicOf FetchPartitionValue) → ℕ
total_in s by [] = 0
total_in s by (t ∷ ts) = total s t.name by t.entries + total_in s by ts

abbrev pub GrowIn : State → State → Growths → List (TopicOf FetchPartitionValue) → Type 0
GrowIn s t by [] = ⊤
GrowIn s t by (x ∷ xs) = GrowFor s t x.name by x.entries × GrowIn s t by xs

abbrev pub StandIn : State → Growths → List (TopicOf FetchPartitionValue) → (missing low : ℕ) → Type 0
StandIn s by [] missing low = ⊤
StandIn s by (x ∷ xs) missing low =
    StandFor s x.name by x.entries missing low × StandIn s by xs (missing - there_for s x.name x.entries) (low - total s x.name by x.entries)

topics_grown : (s t : State) (by : Growths) (awaited : ℕ) (config : t.config ≡ s.config) (known : (name : List ℕ) (p : ℤ) → is_known t name p ≡ is_known s name p)
    (ts : List (TopicOf FetchPartitionValue)) (missing low now left : ℕ) → GrowIn s t by ts → StandIn s by ts missing low → left_by_topics s awaited missing ts ≡ Some left → total_in s by ts < low → low ≤ now → now ≤ awaited
    → IsMissing (left_by_topics t awaited now ts) (low - total_in s by ts) now
topics_grown s t by awaited config known [] missing low now left grow stand is less more most = record { rest = now; is = refl; least = omega (arith, more); most = omega arith }
topics_grown s t by awaited config known (x ∷ xs) missing low now left grow stand is less more most =
    let parts = and_then_some (λ l. left_by_topics s awaited l xs) (left_by_entries s x.name awaited missing x.entries) left is in
    let n = total s x.name by x.entries in
    let first = entries_grown s t x.name by awaited config (known x.name) x.entries missing low now parts.0 grow.0 stand.0 parts.1 (omega (arith, less)) more most in
    let here = first.0 in
    let was : left_by_topics s awaited (missing - there_for s x.name x.entries) xs ≡ Some left = subst (λ (l : ℕ). left_by_topics s awaited l xs ≡ Some left) first.1 parts.2 in
    let rest = topics_grown s t by awaited config known xs (missing - there_for s x.name x.entries) (low - n) here.rest left grow.1 stand.1 was (omega (arith, less)) here.least (omega (arith, here.most, most)) in
    record {
      rest = rest.rest;
      is = ap (option_and_then (λ l. left_by_topics t awaited l xs)) here.is ∙ rest.is;
      least = omega (arith, rest.least);
      most = omega (arith, rest.most, here.most);
    }

-- ---- a Fetch

both_true : (a b c : Bool) → (a && (b && c)) ≡ true → (a ≡ true) × (b ≡ true) × (c ≡ true)
both_true true true true is = (refl, refl, refl)
both_true true true false is = absurd (false≢true is)
both_true true false c is = absurd (false≢true is)
both_true false b c is = absurd (false≢true is)

pub waits_parts : (s : State) (q : FetchValue) → fetch_waits s q ≡ true → (int_lt (pos 0) q.max_wait_ms ≡ true) × (asks_for_some q ≡ true) × (lacks_bytes s q ≡ true)
unfolding fetch_waits
waits_parts s q is = both_true (int_lt (pos 0) q.max_wait_ms) (asks_for_some q) (lacks_bytes s q) is

waits_by : (s : State) (q : FetchValue) → int_lt (pos 0) q.max_wait_ms ≡ true → asks_for_some q ≡ true → lacks_bytes s q ≡ true → fetch_waits s q ≡ true
unfolding fetch_waits
waits_by s q time some lacks = λ i. time i && (some i && lacks i)

pub some_is : {X : Type 0} (o : Option X) → is_some o ≡ true → (x : X) × (o ≡ Some x)
some_is None is = absurd (false≢true is)
some_is (Some x) is = (x, refl)

pub waits_on : (s t : State) (q : FetchValue) (by : Growths) → t.config ≡ s.config → ((name : List ℕ) (p : ℤ) → is_known t name p ≡ is_known s name p) → GrowIn s t by q.topics
    → StandIn s by q.topics (awaited_bytes q) (awaited_bytes q) → total_in s by q.topics < awaited_bytes q → fetch_waits s q ≡ true → fetch_waits t q ≡ true
waits_on s t q by config known grow stand less waits =
    let awaited = awaited_bytes q in
    let parts = waits_parts s q waits in
    let some : 0 < awaited = omega (arith, less) in
    let left = some_is (left_by_topics s awaited awaited q.topics) (lacks_is s q (left_by_topics s awaited awaited q.topics) some refl ∙ parts.2) in
    let now = topics_grown s t by awaited config known q.topics awaited awaited awaited left.0 grow stand left.1 less (omega arith) (omega arith) in
    let lacks = sym (lacks_is t q (left_by_topics t awaited awaited q.topics) some refl) ∙ ap is_some now.is in
    waits_by t q parts.0 parts.1 lacks
