-- Import in version 1: two brokers that are alike answer it alike. On a leader it is refused; on a follower the delta is that of
-- a copy of the log, for offsets that both know, or neither, and both agree with its sender.
use Rattle.std.proofs.Common.{◌≡◌, ℕ, ℤ, Bool, true, false, List, [], ◌∷◌, Option, Some, None, refl, sym, ap, subst, ◌∙◌}
use Rattle.std.specs.Prelude.{not, is_none}
use Rattle.std.specs.Int.{int_max}
use Rattle.std.specs.Option.{unwrap_or}
use Rattle.batch_codec.specs.Values.{BatchValue}
use Rattle.cover_ranges.specs.Runs.{union_of, cut_below}
use Rattle.content.specs.Content.{Content, empty}
use Rattle.content.specs.Joins.{join, Agree}
use Rattle.content_laws.proofs.ContentSteps.{content_join}
use Rattle.content_laws.proofs.CopyJoin.{copies_agree, copy_of_join}
use Rattle.deltas.specs.Deltas.{Delta, IsDelta, delta_of}
use Rattle.deltas.specs.Patches.{patch}
use Rattle.deltas.specs.Accepting.{is_for, IsFor, Accepts}
use Rattle.deltas.proofs.AskedRuns.{for_by_runs}
use Rattle.deltas.proofs.DeltaMerges.{patch_is_join_agree}
use Rattle.deltas.proofs.Accepted.{delta_accepted}
use Rattle.delta_bytes.specs.Deltas.{IsDeltaOf}
use Rattle.delta_bytes.specs.Reading.{delta_at}
use Rattle.delta_bytes.proofs.ReadBack.{delta_read}
use Rattle.copy_deltas.specs.Deciding.{accepts}
use Rattle.copy_deltas.proofs.Decided.{acceptance_decided}
use Rattle.frame_fields.specs.Frames.{IsBytes}
use Rattle.request_frames.specs.Requests.BodyValue.{import_delta}
use Rattle.request_frames.specs.ImportDelta.{ImportDeltaValue}
use Rattle.answering.specs.declared.codes.ErrorCode.{ErrorCode}
use Rattle.answering.specs.declared.codes.ErrorCode.TheVariants.{UnknownTopicOrPartition, CorruptMessage, InvalidRequest}
use Rattle.answering.specs.Lists.{fault_if, first_some}
use Rattle.answering.specs.Work.{answer}
use Rattle.broker_state.specs.declared.config.Role.{Role}
use Rattle.broker_state.specs.declared.config.Role.TheVariants.{Leader, Follower}
use Rattle.broker_state.specs.State.{State, is_known, content_at, with_content}
use Rattle.broker_state.specs.Checks.{follower_code}
use Rattle.copy_requests.specs.Import.{import_sent}
use Rattle.copy_requests.specs.ImportDelta.{given_delta, import_delta_work}
use Rattle.cleaning_laws.specs.Logs.{Logs, IsPartitionOf}
use Rattle.cleaning_laws.specs.Alike.{Seen, seen_of, AreAlike}
use Rattle.cleaning_laws.specs.Settled.{IsFromCopy, IsDeltaOfLog}
use Rattle.cleaning_laws.proofs.Seen.{both_with}
use Rattle.cleaning_laws.proofs.Stated.{state_with}
use Rattle.cleaning_laws.proofs.GrownLogs.{stay}
use Rattle.cleaning_laws.proofs.TopicsAlike.{Same}
use Rattle.cleaning_laws.proofs.WorksAlike.{same_by}
use Rattle.cleaning_laws.proofs.BothAppend.{seen_same, known_same, role_same}
use Rattle.cleaning_laws.proofs.OnlyRead.{BodyAlike}

-- ---- a follower's partition, and a delta of another copy of its log

-- a valid delta of a copy of the log
record Comes (log : List BatchValue) (e : Delta) : Type 0 where
  valid : IsDelta e
  from : IsFromCopy log e

-- the delta that bytes are
comes : (log : List BatchValue) (bytes : List ℕ) → IsBytes bytes → ((e : Delta) → delta_at bytes ≡ Some e → IsFromCopy log e) → is_none (delta_at bytes) ≡ false → Comes log (given_delta bytes)
comes log bytes are from there = by (delta_at bytes) refl there
  where
    by : (o : Option Delta) → delta_at bytes ≡ o → is_none o ≡ false → Comes log (unwrap_or o (delta_of empty []))
    by None e some = absurd cc
    by (Some d) e some = let read : IsDeltaOf bytes d = delta_read bytes d are e in record { valid = read.valid; from = from d e }

module _ (c : Content) (log : List BatchValue) (e : Delta) (is : IsPartitionOf Follower c log) (came : Comes log e) (known : IsFor c e.asked) where
  abbrev x : Content
  x = came.from.sender

  agrees : Agree c x
  agrees = copies_agree c x log is.content came.from.content is.plain is.copy.0 (came.from.copy is.plain)

  takes : accepts c e ≡ true
  takes = (acceptance_decided c e is.content came.valid).1
      (subst (Accepts c) (sym came.from.delta) (delta_accepted x c e.asked came.from.content came.valid.asked known agrees))

  merges : patch c e ≡ join c x
  merges = ap (patch c) came.from.delta ∙ patch_is_join_agree x c e.asked came.from.content came.valid.asked known agrees

  patched_partition : IsPartitionOf Follower (patch c e) log
  patched_partition = subst (λ (y : Content). IsPartitionOf Follower y log) (sym merges) (record {
    content = content_join c x is.content came.from.content;
    plain = is.plain;
    copy = (copy_of_join c x log is.content came.from.content is.plain is.copy.0 (came.from.copy is.plain), is.copy.1);
  })

patched_seen : (c d : Content) (e : Delta) → seen_of c ≡ seen_of d → seen_of (patch c e) ≡ seen_of (patch d e)
unfolding patch
patched_seen c d e same = λ i. record {
  start = int_max (same i).start e.start;
  cover = cut_below (int_max (same i).start e.start) (union_of (same i).cover e.cover);
}

-- ---- the checks

-- what they read of a partition, but for whether it accepts
abbrev as_content : Seen → Content
as_content x = record { start = x.start; cover = x.cover; kept = [] }

abbrev fault_of : (known : Bool) (role : Role) (none is_known accepted : Bool) → Option ErrorCode
fault_of known role none is_known accepted = first_some (
    fault_if (not known) UnknownTopicOrPartition
    ∷ follower_code role
    ∷ fault_if none CorruptMessage
    ∷ fault_if (not is_known) InvalidRequest
    ∷ fault_if (not accepted) InvalidRequest
    ∷ [])

-- whether it accepts is read only where all before it passes
same_fault : (known : Bool) (role : Role) (none is_known accepted other : Bool) → (known ≡ true → role ≡ Follower → none ≡ false → is_known ≡ true → accepted ≡ other)
    → fault_of known role none is_known accepted ≡ fault_of known role none is_known other
same_fault false role none is_known accepted other same = refl
same_fault true Leader none is_known accepted other same = refl
same_fault true Follower true is_known accepted other same = refl
same_fault true Follower false false accepted other same = refl
same_fault true Follower false true accepted other same = ap (fault_of true Follower false true) (same refl refl refl refl)

-- without a fault all pass
record Passes (known : Bool) (role : Role) (none is_known : Bool) : Type 0 where
  there : known ≡ true
  follows : role ≡ Follower
  is_delta : none ≡ false
  knows : is_known ≡ true

passes : (known : Bool) (role : Role) (none is_known accepted : Bool) → fault_of known role none is_known accepted ≡ None → Passes known role none is_known
passes false role none is_known accepted e = absurd cc
passes true Leader none is_known accepted e = absurd cc
passes true Follower true is_known accepted e = absurd cc
passes true Follower false false accepted e = absurd cc
passes true Follower false true accepted e = record { there = refl; follows = refl; is_delta = refl; knows = refl }

-- ---- a request

module _ (logs : Logs) (q : ImportDeltaValue) (bytes : IsBytes q.delta) where
  abbrev given : Delta
  given = given_delta q.delta

  abbrev at_partition : State → Content
  at_partition s = content_at s q.topic q.partition

  abbrev log : List BatchValue
  log = logs q.topic q.partition

  -- what the partition is, and that it knows what was asked
  record HasPlace (s : State) : Type 0 where
    partition : IsPartitionOf Follower (at_partition s) log
    knows : IsFor (at_partition s) given.asked

  has_place : (s : State) → s.config.role ≡ Follower → (is_known s q.topic q.partition ≡ true → IsPartitionOf s.config.role (at_partition s) log) → is_known s q.topic q.partition ≡ true
      → is_for (at_partition s) given.asked ≡ true → HasPlace s
  has_place s role is there knows =
      let here : IsPartitionOf Follower (at_partition s) log = subst (λ (r : Role). IsPartitionOf r (at_partition s) log) role (is there) in
      record { partition = here; knows = (for_by_runs (at_partition s) given.asked here.content).0 knows }

  patched : (s : State) → s.config.role ≡ Follower → Comes log given → HasPlace s → IsPartitionOf s.config.role (patch (at_partition s) given) log
  patched s role came place = subst (λ (r : Role). IsPartitionOf r (patch (at_partition s) given) log) (sym role) (patched_partition (at_partition s) log given place.partition came place.knows)

  module _ (s z : State) (alike : AreAlike logs s z) (of_log : IsDeltaOfLog s logs q) where
    known : is_known s q.topic q.partition ≡ is_known z q.topic q.partition
    known = known_same logs s z q.topic q.partition alike

    seen : seen_of (at_partition s) ≡ seen_of (at_partition z)
    seen = seen_same logs s z q.topic q.partition alike

    knows : is_for (at_partition s) given.asked ≡ is_for (at_partition z) given.asked
    knows i = is_for (as_content (seen i)) given.asked

    other_role : s.config.role ≡ Follower → z.config.role ≡ Follower
    other_role role = sym (role_same logs s z q.topic q.partition alike) ∙ role

    came : is_known s q.topic q.partition ≡ true → s.config.role ≡ Follower → is_none (delta_at q.delta) ≡ false → Comes log given
    came there role is_delta = comes log q.delta bytes (of_log (record { follows = role; known = there })) is_delta

    one_place : is_known s q.topic q.partition ≡ true → s.config.role ≡ Follower → is_for (at_partition s) given.asked ≡ true → HasPlace s
    one_place there role is = has_place s role (alike.one q.topic q.partition) there is

    other_place : is_known s q.topic q.partition ≡ true → s.config.role ≡ Follower → is_for (at_partition s) given.asked ≡ true → HasPlace z
    other_place there role is = has_place z (other_role role) (alike.other q.topic q.partition) (sym known ∙ there) (sym knows ∙ is)

    both_accept : is_known s q.topic q.partition ≡ true → s.config.role ≡ Follower → is_none (delta_at q.delta) ≡ false → is_for (at_partition s) given.asked ≡ true
        → accepts (at_partition s) given ≡ accepts (at_partition z) given
    both_accept there role is_delta is =
        let one = one_place there role is in
        let other = other_place there role is in
        takes (at_partition s) log given one.partition (came there role is_delta) one.knows ∙ sym (takes (at_partition z) log given other.partition (came there role is_delta) other.knows)

    faults : fault_of (is_known s q.topic q.partition) s.config.role (is_none (delta_at q.delta)) (is_for (at_partition s) given.asked) (accepts (at_partition s) given)
        ≡ fault_of (is_known z q.topic q.partition) z.config.role (is_none (delta_at q.delta)) (is_for (at_partition z) given.asked) (accepts (at_partition z) given)
    faults =
        same_fault (is_known s q.topic q.partition) s.config.role (is_none (delta_at q.delta)) (is_for (at_partition s) given.asked) (accepts (at_partition s) given) (accepts (at_partition z) given) both_accept
        ∙ (λ i. fault_of (known i) (alike.config i).role (is_none (delta_at q.delta)) (knows i) (accepts (at_partition z) given))

    both_patch : Passes (is_known s q.topic q.partition) s.config.role (is_none (delta_at q.delta)) (is_for (at_partition s) given.asked)
        → AreAlike logs (with_content s q.topic q.partition (patch (at_partition s) given)) (with_content z q.topic q.partition (patch (at_partition z) given))
    both_patch pass =
        let d = came pass.there pass.follows pass.is_delta in record {
          one = state_with logs logs s q.topic q.partition (patch (at_partition s) given) alike.one (λ n q e. refl) (λ n q e. refl) (λ there. patched s pass.follows d (one_place there pass.follows pass.knows));
          other = state_with logs logs z q.topic q.partition (patch (at_partition z) given) alike.other (λ n q e. refl) (λ n q e. refl) (λ there. patched z (other_role pass.follows) d (other_place pass.there pass.follows pass.knows));
          config = alike.config;
          seen = both_with s z q.topic q.partition (patch (at_partition s) given) (patch (at_partition z) given) alike.seen (patched_seen (at_partition s) (at_partition z) given seen);
          next_producer = alike.next_producer;
        }

-- both answer alike, and both stay of the same logs
pub import_delta_keeps : (logs : Logs) (s z : State) (q : ImportDeltaValue) → IsBytes q.delta → IsDeltaOfLog s logs q → AreAlike logs s z → Same (AreAlike logs) (answer (import_delta_work s q) s) (answer (import_delta_work z q) z)
import_delta_keeps logs s z q bytes of_log alike =
    same_by (AreAlike logs) s z (import_delta_work s q) (import_delta_work z q) alike (faults logs q bytes s z alike of_log) (λ code. refl) (λ none. (
      refl,
      both_patch logs q bytes s z alike of_log (passes (is_known s q.topic q.partition) s.config.role (is_none (delta_at q.delta)) (is_for (content_at s q.topic q.partition) (given_delta q.delta).asked) (accepts (content_at s q.topic q.partition) (given_delta q.delta)) none),
    ))

pub import_delta_alike : (logs : Logs) (s z : State) (n : ℤ) (q : ImportDeltaValue) → IsBytes q.delta → IsDeltaOfLog s logs q → AreAlike logs s z → BodyAlike logs s z n (import_delta q)
import_delta_alike logs s z n q bytes of_log alike =
    let both = import_delta_keeps logs s z q bytes of_log alike in
    record { states = stay logs (answer (import_delta_work s q) s).1 (answer (import_delta_work z q) z).1 both.1; replies = λ settled. ap (λ r. Some (import_sent n r)) both.0 }
