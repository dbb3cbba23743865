-- What a delivery to a copy comes to, by the tests of a reply.
use Rattle.std.proofs.Common.{◌≡◌, inl, inr, ℕ, ℤ, Bool, true, false, List, [], ◌∷◌, Option, Some, None, Result, Ok, Err, refl, sym, ap, ◌∙◌, arith}
use Rattle.std.specs.Prelude.{◌≤ℤ◌, ◌&&◌, ◌↔◌, not, int_le, IfOk, IfErr, OnOk, OnErr}
use Rattle.std.specs.Option.{option_map}
use Rattle.std.specs.Int.{int_max}
use Rattle.std.proofs.lemmas.Int.{ints, clamps}
use Rattle.batch_codec.specs.Values.{BatchValue}
use Rattle.batch_codec.specs.Offsets.{first_offset, last_offset}
use Rattle.batch_codec.specs.Reading.{batch_of}
use Rattle.cover_ranges.specs.Runs.{covers}
use Rattle.cover_ranges.proofs.RunEnds.{has_all_covers}
use Rattle.content.specs.Content.{Content, IsContent, IsInRange, IsLogBatch, has_seen_all, HasSeenNone, add}
use Rattle.content.specs.Deliveries.{IsAccepted, Refuses}
use Rattle.content.specs.declared.delivery.Delivered.{Delivered}
use Rattle.content.specs.declared.delivery.Delivered.TheVariants.{Added, Repeat}
use Rattle.content.specs.declared.delivery.DeliverError.{DeliverError}
use Rattle.content.specs.declared.delivery.DeliverError.TheVariants.{NotWhole, NoKey, BadOffset, Overlap, OutOfMemory}
use Rattle.copy_deltas.specs.Below.{has_any}
use Rattle.copy_deltas.proofs.Below.{none_covered, covered_none}
use Rattle.answering.specs.declared.memory.Refused.{Refused}
use Rattle.answering.specs.Lists.{first_some, fault_if}
use Rattle.broker_state.specs.State.{State, content_at, with_content}
use Rattle.broker_state.specs.Batches.{has_keys, batch_checks}
use Rattle.broker_state.specs.Changes.{ChangesAt}
use Rattle.broker_state.proofs.AppendFaults.{whole, not_whole, keyed, not_keyed}
use Rattle.broker_state.proofs.OwnContent.{unchanged_at}
use Rattle.copy_requests.specs.Codes.{deliver_code, deliver_refused}
use Rattle.copy_requests.specs.Deliver.{is_in_range, has_seen_none, deliver_fault}
use Rattle.copy_requests.specs.Deliver.Entries.{bytes_checks, DeliversBytesAt}
use Rattle.copy_requests.specs.Outcomes.{IsDeliverFault, Delivers}
use Rattle.answering.proofs.Checks.{last_check, not_true}

-- ---- each test

in_range : (b : BatchValue) → IsInRange b → is_in_range b ≡ true
in_range b is = let low = is.0 in let high = is.1 in grind (arith, ints, low, high)

range_back : (b : BatchValue) → is_in_range b ≡ true → IsInRange b
range_back b e = (grind (arith, ints, e), grind (arith, ints, e))

not_in_range : (b : BatchValue) → ¬ IsInRange b → is_in_range b ≡ false
not_in_range b no_one = not_true (is_in_range b) (λ e. no_one (range_back b e))

none_back : (c : Content) (b : BatchValue) → has_seen_none c b ≡ true → HasSeenNone c b
none_back c b e o from to = by (int_le c.start (first_offset b)) refl (has_any c.cover (first_offset b) (last_offset b)) refl e
  where
    least : int_le c.start (first_offset b) ≡ true → c.start ≤ℤ o
    least t = grind (arith, ints, t, from)

    by : (t : Bool) → int_le c.start (first_offset b) ≡ t → (u : Bool) → has_any c.cover (first_offset b) (last_offset b) ≡ u → (t && not u) ≡ true → (c.start ≤ℤ o) × (covers c.cover o ≡ false)
    by true te false ue h = (least te, none_covered c.cover (first_offset b) (last_offset b) o ue from to)
    by true te true ue h = absurd cc
    by false te u ue h = absurd cc

seen_none : (c : Content) (b : BatchValue) → IsContent c → IsLogBatch b → HasSeenNone c b → has_seen_none c b ≡ true
seen_none c b is log none =
    let delta = log.writable.valid.last_delta in
    let ends : first_offset b ≤ℤ last_offset b = omega (arith, ints, delta) in
    let first = (none (first_offset b) (omega (arith, ints)) ends).0 in
    let unseen : has_any c.cover (first_offset b) (last_offset b) ≡ false =
    covered_none c.cover (first_offset b) (last_offset b) is.canonical.are_runs ends (λ o from to. (none o from to).1) in
    grind (arith, ints, first, unseen)

-- ---- the first fault

abbrev chain : (w k r o : Bool) → Option DeliverError
chain w k r o = first_some (fault_if (not w) NotWhole ∷ fault_if (not k) NoKey ∷ fault_if (not r) BadOffset ∷ fault_if o Overlap ∷ [])

abbrev overlaps : Content → BatchValue → Bool
overlaps c b = not (has_seen_all c b) && not (has_seen_none c b)

logged : (c : Content) (b : BatchValue) → IsLogBatch b → deliver_fault c b ≡ chain true true true (overlaps c b)
logged c b is = λ i. chain (whole b is.whole i) (keyed b is.keys i) (in_range b is.in_range i) (overlaps c b)

all_seen_fits : (c : Content) (b : BatchValue) → has_seen_all c b ≡ true → overlaps c b ≡ false
all_seen_fits c b e = ap (λ (t : Bool). not t && not (has_seen_none c b)) e

none_seen_fits : (c : Content) (b : BatchValue) → has_seen_none c b ≡ true → overlaps c b ≡ false
none_seen_fits c b e = ap (λ (t : Bool). not (has_seen_all c b) && not t) e ∙ by (not (has_seen_all c b))
  where
    by : (t : Bool) → (t && false) ≡ false
    by true = refl
    by false = refl

pub accepted_has_no_fault : (c : Content) (b : BatchValue) → IsContent c → IsAccepted c b → deliver_fault c b ≡ None
accepted_has_no_fault c b is (log, inl all) = logged c b log ∙ ap (chain true true true) (all_seen_fits c b all)
accepted_has_no_fault c b is (log, inr none) = logged c b log ∙ ap (chain true true true) (none_seen_fits c b (seen_none c b is log none))

pub refusal_is_fault : (c : Content) (b : BatchValue) (e : DeliverError) → IsContent c → Refuses c b e → IsDeliverFault e (deliver_fault c b)
refusal_is_fault c b NotWhole is r = λ i. chain (not_whole b r i) (has_keys b) (is_in_range b) (overlaps c b)
refusal_is_fault c b NoKey is r = λ i. chain (whole b r.0 i) (not_keyed b r.1 i) (is_in_range b) (overlaps c b)
refusal_is_fault c b BadOffset is r = λ i. chain (whole b r.0 i) (keyed b r.1 i) (not_in_range b r.2 i) (overlaps c b)
refusal_is_fault c b Overlap is r =
    let none : has_seen_none c b ≡ false = not_true (has_seen_none c b) (λ e. r.2 (none_back c b e)) in
    logged c b r.0 ∙ (λ i. chain true true true (not (r.1 i) && not (none i)))
refusal_is_fault c b OutOfMemory is r = logged c b r.0 ∙ ap (chain true true true) (none_seen_fits c b (seen_none c b is r.0 r.1))

-- none of the offsets of a log batch was seen, so not all were
seen_all_covers : (c : Content) (b : BatchValue) → first_offset b ≤ℤ last_offset b → c.start ≤ℤ first_offset b → covers c.cover (first_offset b) ≡ false → has_seen_all c b ≡ true → ⊥
seen_all_covers c b ends least unseen all =
    let from : int_max c.start (first_offset b) ≡ first_offset b = omega (arith, ints, clamps, least) in
    let here : covers c.cover (first_offset b) ≡ true = has_all_covers c.cover (int_max c.start (first_offset b)) (last_offset b) all (first_offset b) (omega (arith, ints, from)) ends in
    absurd (grind (arith, unseen, here))

none_is_not_all : (c : Content) (b : BatchValue) → IsLogBatch b → HasSeenNone c b → has_seen_all c b ≡ false
none_is_not_all c b log none = not_true (has_seen_all c b) (λ all. clash all)
  where
    ends : first_offset b ≤ℤ last_offset b
    ends = let delta = log.writable.valid.last_delta in omega (arith, ints, delta)

    first : (c.start ≤ℤ first_offset b) × (covers c.cover (first_offset b) ≡ false)
    first = none (first_offset b) (omega (arith, ints)) ends

    clash : has_seen_all c b ≡ true → ⊥
    clash all = absurd (seen_all_covers c b ends first.0 first.1 all)

-- ---- what the copy's own contract says

pub delivers : (c after : Content) (b : BatchValue) (r : Result Delivered DeliverError) → IsContent c → IfOk r (λ d. after ≡ add c b) → OnOk r (IsAccepted c b)
    → IfOk r (λ d. (d ≡ Repeat) ↔ (has_seen_all c b ≡ true)) → IfErr r (Refuses c b) → OnErr r (after ≡ c) → Delivers b r c after
delivers c after b (Ok Added) is adds accepts tells refuses same =
    (accepted_has_no_fault c b is accepts, sym (not_true (has_seen_all c b) (λ e. added_is_no_repeat (tells.1 e))), adds)
  where
    added_is_no_repeat : Added ≡ Repeat → ⊥
    added_is_no_repeat e = absurd cc
delivers c after b (Ok Repeat) is adds accepts tells refuses same = (accepted_has_no_fault c b is accepts, sym (tells.0 refl), adds)
delivers c after b (Err e) is adds accepts tells refuses same =
    (refusal_is_fault c b e is refuses, (λ lacks. lacking c b e refuses lacks), same)
  where
    lacking : (c : Content) (b : BatchValue) (e : DeliverError) → Refuses c b e → e ≡ OutOfMemory → has_seen_all c b ≡ false
    lacking c b OutOfMemory r same = none_is_not_all c b r.0 r.1
    lacking c b NotWhole r same = absurd cc
    lacking c b NoKey r same = absurd cc
    lacking c b BadOffset r same = absurd cc
    lacking c b Overlap r same = absurd cc

-- ---- the bytes that are sent

module _ (s after : State) (name : List ℕ) (p : ℤ) (bytes : List ℕ) (b : BatchValue) (passed : first_some (batch_checks bytes) ≡ None) (is : b ≡ batch_of bytes) where
  abbrev here : Content
  here = content_at s name p

  checks_are : first_some (bytes_checks here bytes) ≡ option_map deliver_code (deliver_fault here b)
  checks_are =
      last_check (batch_checks bytes) (option_map deliver_code (deliver_fault here (batch_of bytes))) passed
      ∙ ap (λ x. option_map deliver_code (deliver_fault here x)) (sym is)

  pub is_taken : (d : Delivered) → ChangesAt (Delivers b (Ok d)) s name p after → DeliversBytesAt s name p bytes (Ok d) after
  is_taken d h =
      (checks_are ∙ ap (option_map deliver_code) h.1.0, h.1.1 ∙ ap (has_seen_all here) is, h.2 ∙ ap (with_content s name p) (h.1.2 ∙ ap (add here) is))

  fails : (e : DeliverError) → deliver_fault here b ≡ Some e → first_some (bytes_checks here bytes) ≡ Some (deliver_code e)
  fails e fault = checks_are ∙ ap (option_map deliver_code) fault

  refusal : (e : DeliverError) → IsDeliverFault e (deliver_fault here b) → (e ≡ OutOfMemory → has_seen_all here b ≡ false) → after ≡ s
      → DeliversBytesAt s name p bytes (Err (deliver_refused e)) after
  refusal NotWhole fault new same = (fails NotWhole fault, same)
  refusal NoKey fault new same = (fails NoKey fault, same)
  refusal BadOffset fault new same = (fails BadOffset fault, same)
  refusal Overlap fault new same = (fails Overlap fault, same)
  refusal OutOfMemory fault new same = (checks_are ∙ ap (option_map deliver_code) fault, ap (has_seen_all here) (sym is) ∙ new refl, same)

  pub is_not_taken : (e : DeliverError) (refused : Refused) → refused ≡ deliver_refused e → ChangesAt (Delivers b (Err e)) s name p after → DeliversBytesAt s name p bytes (Err refused) after
  is_not_taken e refused same h =
      rw same (refusal e h.1.0 h.1.1 (unchanged_at s after name p h.0 h.1.2 h.2))
