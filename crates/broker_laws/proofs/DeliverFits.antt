-- The response to Deliver fits its fields, and the state stays sound: a batch that passes the checks is one that the copy accepts.
use Rattle.std.proofs.Common.{◌≡◌, ◌⊎◌, inl, inr, ℕ, ◌≤◌, ℤ, pos, ◌+ℤ◌, Bool, true, false, List, [], ◌∷◌, length, Option, None, refl, arith}
use Rattle.std.specs.Prelude.{◌&&◌, not, is_some, int_le, FitsSigned, IsSome}
use Rattle.std.specs.List.{list_all, AllByRecursion}
use Rattle.std.specs.Option.{option_map}
use Rattle.std.specs.Ordering.{int_eq}
use Rattle.std.specs.Int.{w16, w32}
use Rattle.std.proofs.lemmas.Int.{ints}
use Rattle.batch_codec.specs.Values.{RecordValue, BatchValue}
use Rattle.batch_codec.specs.Grammar.{Writable}
use Rattle.batch_codec.specs.Offsets.{first_offset, last_offset}
use Rattle.batch_codec.specs.Reading.{batch_of}
use Rattle.content.specs.Content.{Content, IsInRange, has_seen_all, HasSeenNone, add}
use Rattle.content.specs.Deliveries.{IsAccepted}
use Rattle.content.specs.declared.delivery.DeliverError.{DeliverError}
use Rattle.content.specs.declared.delivery.DeliverError.TheVariants.{NotWhole, NoKey, BadOffset, Overlap}
use Rattle.content_laws.proofs.ContentSteps.{content_add}
use Rattle.copy_merge.specs.Agreeing.{has_any}
use Rattle.copy_merge.proofs.Deciding.{none_covered}
use Rattle.frame_fields.specs.Fields.{Value, Fits, encoded, end}
use Rattle.frame_fields.specs.Frames.{IsBytes}
use Rattle.request_frames.specs.Deliver.{DeliverValue, deliver_fields, deliver_request}
use Rattle.responses.specs.Deliver.{deliver_response, deliver_value}
use Rattle.answering.specs.Codes.{no_error, code_number}
use Rattle.answering.specs.Lists.{fault_if, first_some}
use Rattle.answering.specs.Work.{MayAnswer}
use Rattle.answering.specs.Once.{RepliesOnce}
use Rattle.broker_state.specs.State.{State, content_at}
use Rattle.broker_state.specs.Checks.{unknown, not_follower}
use Rattle.broker_state.specs.Batches.{is_whole, has_keys, batch_checks}
use Rattle.broker_state.specs.Sound.{IsSound}
use Rattle.broker_state.proofs.SoundStates.{content_valid, sound_with}
use Rattle.broker_state.proofs.Passed.{none_first, none_both, no_fault}
use Rattle.copy_requests.specs.Codes.{deliver_code}
use Rattle.copy_requests.specs.Deliver.{is_in_range, has_seen_none, deliver_fault, deliver_checks, deliver_work, deliver_sent}
use Rattle.broker_laws.proofs.Said.{IsPart, later}
use Rattle.broker_laws.proofs.Works.{unmapped, no_error_fits, code_fits, flag_fits}
use Rattle.broker_laws.proofs.FittingResponses.{IsKept, frame_limit}
use Rattle.broker_laws.proofs.SentBatches.{batch_writable}
use Rattle.broker_laws.proofs.OnceFits.{FitsOnce, once_fits, bytes_said}

-- ---- each test that passes

passed : (b : Bool) (e : DeliverError) → fault_if (not b) e ≡ None → b ≡ true
passed true e none = refl
passed false e none = absurd cc

first_true : (a b : Bool) → (a && b) ≡ true → (a ≡ true) × (b ≡ true)
first_true true b e = (refl, e)
first_true false b e = absurd (grind (arith, e))

keys_all : (rs : List RecordValue) → list_all (λ r. is_some r.key) rs ≡ true → AllByRecursion (λ r. IsSome r.key) rs
keys_all [] e = tt
keys_all (r ∷ rs) e =
    let both = first_true (is_some r.key) (list_all (λ r. is_some r.key) rs) e in
    (both.0, keys_all rs both.1)

in_range : (b : BatchValue) → is_in_range b ≡ true → IsInRange b
in_range b e = (grind (arith, ints, e), grind (arith, ints, e))

none_seen : (c : Content) (b : BatchValue) → has_seen_none c b ≡ true → HasSeenNone c b
none_seen c b e o from to =
    let parts = first_true (int_le c.start (first_offset b)) (not (has_any c.cover (first_offset b) (last_offset b))) e in
    let least = parts.0 in
    (grind (arith, ints, least, from), none_covered c.cover (first_offset b) (last_offset b) o (not_any (has_any c.cover (first_offset b) (last_offset b)) parts.1) from to)
  where
    not_any : (t : Bool) → not t ≡ true → t ≡ false
    not_any true e = absurd cc
    not_any false e = refl

all_or_none : (c : Content) (b : BatchValue) → (not (has_seen_all c b) && not (has_seen_none c b)) ≡ false → (has_seen_all c b ≡ true) ⊎ HasSeenNone c b
all_or_none c b = by (has_seen_all c b) refl (has_seen_none c b) refl
  where
    by : (t : Bool) → has_seen_all c b ≡ t → (u : Bool) → has_seen_none c b ≡ u → (not t && not u) ≡ false → (has_seen_all c b ≡ true) ⊎ HasSeenNone c b
    by true e u f h = inl e
    by false e true f h = inr (none_seen c b f)
    by false e false f h = absurd cc

-- ---- all of them

accepted : (c : Content) (b : BatchValue) → Writable b → deliver_fault c b ≡ None → IsAccepted c b
accepted c b writable none =
    let whole = none_first (fault_if (not (is_whole b)) NotWhole) _ none in
    let keys = none_first (fault_if (not (has_keys b)) NoKey) _ whole.1 in
    let range = none_first (fault_if (not (is_in_range b)) BadOffset) _ keys.1 in
    let seen = none_first (fault_if (not (has_seen_all c b) && not (has_seen_none c b)) Overlap) None range.1 in
    let counted : int_eq (pos (length b.recs)) (b.head.last_delta +ℤ pos 1) ≡ true = passed (is_whole b) NotWhole whole.0 in (
      record {
        writable = writable;
        whole = grind (arith, ints, counted);
        keys = keys_all b.recs (passed (has_keys b) NoKey keys.0);
        in_range = in_range b (passed (is_in_range b) BadOffset range.0);
      },
      all_or_none c b (no_fault _ Overlap seen.0),
    )

sent : (s : State) (q : DeliverValue) → IsBytes q.batch → first_some (deliver_checks s q) ≡ None → IsAccepted (content_at s q.topic q.partition) (batch_of q.batch)
sent s q are none =
    let c = content_at s q.topic q.partition in
    let known = none_first (unknown s q.topic q.partition) _ none in
    let follows = none_first (not_follower s) _ known.1 in
    let batch = none_both (batch_checks q.batch) (option_map deliver_code (deliver_fault c (batch_of q.batch)) ∷ []) follows.1 in
    accepted c (batch_of q.batch) (batch_writable q.batch are batch.0)
    (unmapped deliver_code (deliver_fault c (batch_of q.batch)) (none_first (option_map deliver_code (deliver_fault c (batch_of q.batch))) None batch.1).0)

-- ---- a request

answered : (code : ℤ) (repeat : Bool) → FitsSigned w16 code → FitsOnce deliver_response (deliver_value (record { code = code; repeat = repeat }))
unfolding Fits encoded
answered code repeat c = record { fits = (c, (flag_fits repeat, tt)); size = omega arith }

pub deliver_fits : (n : ℕ) (s : State) (correlation : ℤ) (v : Value deliver_fields) (out : Option (List ℕ)) (after : State) → n ≤ frame_limit → IsSound s → FitsSigned w32 correlation → IsPart n deliver_fields v
    → RepliesOnce (λ R S w. MayAnswer w) (deliver_sent correlation) (deliver_work s (deliver_request v)) s out after → IsKept correlation deliver_response out after
deliver_fits n s correlation v out after low sound number part h =
    let q = deliver_request v in
    let c = content_at s q.topic q.partition in
    let b = batch_of q.batch in
    once_fits correlation deliver_response deliver_value (deliver_work s q) s out after number sound
    (λ code. answered (code_number code) false (code_fits code))
    (λ none.
    let accepts = sent s q (bytes_said end v.1.1 (later (later part)).said) (none_both (deliver_checks s q) [] none).0 in
    (answered no_error (has_seen_all c b) no_error_fits, sound_with s q.topic q.partition (add c b) (content_add c b (content_valid s q.topic q.partition sound) accepts.0 accepts.1) sound))
    h
