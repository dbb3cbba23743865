-- What is left of a copy that is cleaned, all of it or a part: no batch has more bytes. So no Fetch is due by it that waited before.
use Rattle.std.proofs.Common.{◌≡◌, ◌⊎◌, inl, inr, ℕ, zero, suc, ℤ, ◌+◌, ◌-◌, ◌<◌, ◌≤◌, Bool, true, false, List, [], ◌∷◌, length, Option, Some, None, is_some, refl, sym, ap, subst, ◌∙◌, append-nil, arith}
use Rattle.std.specs.Prelude.{◌≤ℤ◌, ◌<ℤ◌, nat_lt}
use Rattle.std.specs.List.{filter_map, cons_option, AllByRecursion}
use Rattle.std.specs.Option.{option_and_then, unwrap_or}
use Rattle.std.proofs.lemmas.Bool.{false≢true}
use Rattle.std.proofs.lemmas.Int.{ints}
use Rattle.std.proofs.lemmas.Option.{same_Some}
use Rattle.batch_codec.specs.declared.head.BatchHead.{BatchHead}
use Rattle.batch_codec.specs.Values.{BatchValue}
use Rattle.batch_codec.specs.Offsets.{first_offset}
use Rattle.content.specs.Content.{Content, empty, end}
use Rattle.content_laws.proofs.BatchParts.{IsPartOf, part_head, part_size}
use Rattle.frame_fields.specs.Types.{TopicOf}
use Rattle.request_frames.specs.Fetch.{FetchValue, FetchPartitionValue}
use Rattle.broker_state.specs.State.{State, content_at, is_known, with_content}
use Rattle.fetch_waits.specs.Waiting.{awaited_bytes, fetch_waits, lacks_bytes}
use Rattle.fetch_waits.specs.Waiting.Entries.{left_by_entry, left_by_entries, left_by_topics}
use Rattle.fetch_waits.specs.Sleeping.{AreLeftOf, GrowsBy}
use Rattle.fetch_waits.proofs.Appending.{Ends, Grown, grown_twice}
use Rattle.fetch_waits.proofs.Growing.{GrowFor, GrowIn, StandFor, StandIn, and_then_some, lacks_entry, some_is, there, there_for, total, total_in, waits_on, waits_parts}
use Rattle.fetch_waits.proofs.Lacking.{lacks_is, lacks_none}
use Rattle.fetch_waits.proofs.Left.{left_behind_one}
use Rattle.fetch_waits.proofs.OneChange.{same_known, same_or_changed}
use Rattle.fetch_waits.proofs.Sleeping.{grows_nothing, nothing}

-- ---- one content

module _ (f : BatchValue → Option BatchValue) (parts : (b z : BatchValue) → f b ≡ Some z → IsPartOf z b) where
  pub thinned_left : (bs : List BatchValue) → AreLeftOf (filter_map f bs) bs
  thinned_left [] = tt
  thinned_left (b ∷ bs) = by (f b) refl (thinned_left bs)
    where
      by : (o : Option BatchValue) → f b ≡ o → AreLeftOf (filter_map f bs) bs → AreLeftOf (cons_option (f b) (filter_map f bs)) (b ∷ bs)
      by None e rest = subst (λ (o : Option BatchValue). AreLeftOf (cons_option o (filter_map f bs)) (b ∷ bs)) (sym e) (left_behind_one (filter_map f bs) b bs rest)
      by (Some z) e rest =
          let part = parts b z e in
          subst (λ (o : Option BatchValue). AreLeftOf (cons_option o (filter_map f bs)) (b ∷ bs)) (sym e) (inl (record { head = part_head z b part; bytes = part_size z b part }, rest))

  thinned_below : (o : ℤ) (bs : List BatchValue) → AllByRecursion (λ b. first_offset b <ℤ o) bs → AllByRecursion (λ b. first_offset b <ℤ o) (filter_map f bs)
  thinned_below o [] below = tt
  thinned_below o (b ∷ bs) below = by (f b) refl (thinned_below o bs below.1)
    where
      by : (z : Option BatchValue) → f b ≡ z → AllByRecursion (λ x. first_offset x <ℤ o) (filter_map f bs) → AllByRecursion (λ x. first_offset x <ℤ o) (cons_option (f b) (filter_map f bs))
      by None e rest = subst (λ (z : Option BatchValue). AllByRecursion (λ x. first_offset x <ℤ o) (cons_option z (filter_map f bs))) (sym e) rest
      by (Some z) e rest =
          let head = ap (λ (h : BatchHead). h.base) (part_head z b (parts b z e)) in
          subst (λ (z : Option BatchValue). AllByRecursion (λ x. first_offset x <ℤ o) (cons_option z (filter_map f bs))) (sym e) (omega (arith, ints, head, below.0), rest)

  -- a copy of which this is left has grown by nothing
  pub thinned_grows : (c : Content) → GrowsBy c (record c { kept = filter_map f c.kept }) 0
  thinned_grows c = record {
    left = filter_map f c.kept;
    batches = [];
    start = refl;
    are_left = thinned_left c.kept;
    kept = sym (append-nil (filter_map f c.kept));
    behind = tt;
    ends = omega (arith, ints);
    bytes = omega arith;
  }

  pub grown_thinned : (a c : Content) → Grown a c → Grown a (record c { kept = filter_map f c.kept })
  grown_thinned a c grown = grown_twice a c (record c { kept = filter_map f c.kept }) grown (record {
    more = 0;
    grows = thinned_grows c;
    ends = record { runs = grown.ends.runs; kept = thinned_below (end c) c.kept grown.ends.kept };
  })

-- ---- a Fetch that waits has all that is there, and less than is awaited

entries_less : (s : State) (name : List ℕ) (awaited missing left : ℕ) (es : List FetchPartitionValue) → 0 < missing → left_by_entries s name awaited missing es ≡ Some left
    → (total s name nothing es < missing) × (left ≡ missing - total s name nothing es)
entries_less s name awaited missing left [] some is = (omega (arith, some), omega (arith, same_Some missing left is))
entries_less s name awaited missing left (e ∷ es) some is =
    let parts = and_then_some (λ l. left_by_entries s name awaited l es) (left_by_entry s name awaited missing e) left is in
    let lacks = lacks_entry name e s awaited missing parts.0 parts.1 in
    let rest = entries_less s name awaited parts.0 left es (omega (arith, lacks.rest, lacks.less)) parts.2 in
    (omega (arith, lacks.rest, lacks.less, rest.0), omega (arith, lacks.rest, rest.1))

topics_less : (s : State) (awaited missing left : ℕ) (ts : List (TopicOf FetchPartitionValue)) → 0 < missing → left_by_topics s awaited missing ts ≡ Some left → total_in s nothing ts < missing
topics_less s awaited missing left [] some is = omega (arith, some)
topics_less s awaited missing left (t ∷ ts) some is =
    let parts = and_then_some (λ l. left_by_topics s awaited l ts) (left_by_entries s t.name awaited missing t.entries) left is in
    let first = entries_less s t.name awaited missing parts.0 t.entries some parts.1 in
    let rest = topics_less s awaited parts.0 left ts (omega (arith, first.0, first.1)) parts.2 in
    omega (arith, first.0, first.1, rest)

waits_less : (s : State) (q : FetchValue) → fetch_waits s q ≡ true → total_in s nothing q.topics < awaited_bytes q
waits_less s q waits = by (awaited_bytes q) refl
  where
    lacks : lacks_bytes s q ≡ true
    lacks = (waits_parts s q waits).2

    by : (n : ℕ) → awaited_bytes q ≡ n → total_in s nothing q.topics < awaited_bytes q
    by zero none = absurd (false≢true (lacks_none s q none ∙ lacks))
    by (suc n) some =
        let awaited = awaited_bytes q in
        let more : 0 < awaited = omega (arith, some) in
        let left = some_is (left_by_topics s awaited awaited q.topics) (lacks_is s q (left_by_topics s awaited awaited q.topics) more refl ∙ lacks) in
        topics_less s awaited awaited left.0 q.topics more left.1

-- ---- each entry stands it where nothing came

stands_nothing : (s : State) (name : List ℕ) (es : List FetchPartitionValue) (missing low : ℕ) → missing ≤ low → StandFor s name nothing es missing low
stands_nothing s name [] missing low most = tt
stands_nothing s name (e ∷ es) missing low most = (inl (refl, most), stands_nothing s name es (missing - there name e s) (low - (there name e s + 0)) (omega (arith, most)))

sums_are : (s : State) (name : List ℕ) (es : List FetchPartitionValue) → total s name nothing es ≡ there_for s name es
sums_are s name [] = refl
sums_are s name (e ∷ es) = let rest = sums_are s name es in omega (arith, rest)

stand_nothing : (s : State) (ts : List (TopicOf FetchPartitionValue)) (missing low : ℕ) → missing ≤ low → StandIn s nothing ts missing low
stand_nothing s [] missing low most = tt
stand_nothing s (t ∷ ts) missing low most = (
  stands_nothing s t.name t.entries missing low most,
  stand_nothing s ts (missing - there_for s t.name t.entries) (low - total s t.name nothing t.entries) (let same = sums_are s t.name t.entries in omega (arith, same, most)),
)

-- ---- all partitions

grow_for : (s t : State) (name : List ℕ) (es : List FetchPartitionValue) → ((p : ℤ) → GrowsBy (content_at s name p) (content_at t name p) 0) → GrowFor s t name nothing es
grow_for s t name [] each = tt
grow_for s t name (e ∷ es) each = (each e.partition, grow_for s t name es each)

grow_in : (s t : State) (ts : List (TopicOf FetchPartitionValue)) → ((name : List ℕ) (p : ℤ) → GrowsBy (content_at s name p) (content_at t name p) 0) → GrowIn s t nothing ts
grow_in s t [] each = tt
grow_in s t (x ∷ xs) each = (grow_for s t x.name x.entries (each x.name), grow_in s t xs each)

-- Where nothing came to any partition, a Fetch that waits waits on.
pub waits_still : (s t : State) (q : FetchValue) → t.config ≡ s.config → ((name : List ℕ) (p : ℤ) → is_known t name p ≡ is_known s name p)
    → ((name : List ℕ) (p : ℤ) → GrowsBy (content_at s name p) (content_at t name p) 0) → fetch_waits s q ≡ true → fetch_waits t q ≡ true
waits_still s t q config known each waits =
    waits_on s t q nothing config known (grow_in s t q.topics each) (stand_nothing s q.topics (awaited_bytes q) (awaited_bytes q) (omega arith)) (waits_less s q waits) waits

-- ---- one partition

module _ (s : State) (topic : List ℕ) (index : ℤ) (c : Content) (grows : GrowsBy (content_at s topic index) c 0) where
  each_still : (name : List ℕ) (p : ℤ) → GrowsBy (content_at s name p) (content_at (with_content s topic index c) name p) 0
  each_still name p = elim (same_or_changed s topic index c name p) [
    | inl same ↦ grows_nothing (content_at s name p) (content_at (with_content s topic index c) name p) (ap (λ (o : Option Content). unwrap_or o empty) same)
    | inr changed ↦
        subst (λ (o : Option Content). GrowsBy (content_at s name p) (unwrap_or o empty) 0) (sym changed.new)
        (subst (λ (o : Option Content). GrowsBy (unwrap_or o empty) c 0) changed.old grows)
  ]

  pub waits_with : (q : FetchValue) → fetch_waits s q ≡ true → fetch_waits (with_content s topic index c) q ≡ true
  waits_with q waits = waits_still s (with_content s topic index c) q refl (λ name p. same_known s topic index c name p) each_still waits
