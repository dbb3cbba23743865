-- Trim: two brokers that are alike answer it alike, where both may start at its offset, or where it is outside of both.
use Rattle.std.proofs.Common.{◌≡◌, ℕ, ℤ, Bool, true, false, not, List, [], ◌∷◌, ◌++◌, Option, Some, None, refl, sym, ap, ◌∙◌}
use Rattle.std.specs.Prelude.{◌||◌, int_lt}
use Rattle.batch_codec.specs.Values.{BatchValue}
use Rattle.cover_ranges.specs.Runs.{cut_below}
use Rattle.content.specs.Content.{Content, IsAcceptedStart, cut}
use Rattle.content_laws.proofs.ContentSteps.{content_cut}
use Rattle.content_laws.proofs.CopyCut.{copy_of_cut}
use Rattle.content_laws.proofs.CopyStarts.{accepted_boundary}
use Rattle.content_laws.proofs.LeaderCopies.{leader_cut}
use Rattle.partition_log.proofs.Trimmed.{accepted_most}
use Rattle.request_frames.specs.Requests.BodyValue.{trim}
use Rattle.request_frames.specs.Trim.{TrimValue}
use Rattle.answering.specs.declared.codes.ErrorCode.{ErrorCode}
use Rattle.answering.specs.declared.codes.ErrorCode.TheVariants.{UnknownTopicOrPartition, OffsetOutOfRange, InvalidRequest}
use Rattle.answering.specs.Lists.{fault_if, first_some}
use Rattle.answering.specs.Work.{answer}
use Rattle.broker_state.specs.declared.config.Role.{Role}
use Rattle.broker_state.specs.declared.config.Role.TheVariants.{Leader, Follower}
use Rattle.broker_state.specs.State.{State, is_known, content_at, with_content}
use Rattle.broker_state.specs.Checks.{unknown}
use Rattle.broker_state.proofs.Passed.{none_first, none_both}
use Rattle.copy_requests.specs.Trim.{is_outside, is_boundary, trim_faults, trim_work, trim_sent}
use Rattle.copy_requests.proofs.Trims.{passes_accepted}
use Rattle.cleaning_laws.specs.Logs.{Logs, IsPartitionOf}
use Rattle.cleaning_laws.specs.Alike.{seen_of, AreAlike}
use Rattle.cleaning_laws.specs.Settled.{MayTrim}
use Rattle.cleaning_laws.proofs.Seen.{both_with, seen_made, same_start, same_cover, same_end}
use Rattle.cleaning_laws.proofs.Stated.{state_with}
use Rattle.cleaning_laws.proofs.GrownLogs.{stay}
use Rattle.cleaning_laws.proofs.TopicsAlike.{Same}
use Rattle.cleaning_laws.proofs.WorksAlike.{same_by}
use Rattle.cleaning_laws.proofs.BothAppend.{seen_same, known_same}
use Rattle.cleaning_laws.proofs.OnlyRead.{BodyAlike}

-- ---- a partition whose start moves

trimmed_partition : (role : Role) (c : Content) (start : ℤ) (log : List BatchValue) → IsPartitionOf role c log → IsAcceptedStart c start → IsPartitionOf role (cut start c) log
trimmed_partition Leader c start log is accepted = record {
  content = content_cut c start is.content accepted.from_start (accepted_most c start is.content accepted);
  plain = is.plain;
  copy = leader_cut c start log is.content is.plain is.copy accepted;
}
trimmed_partition Follower c start log is accepted =
    let valid = content_cut c start is.content accepted.from_start (accepted_most c start is.content accepted) in
    record {
      content = valid;
      plain = is.plain;
      copy = (copy_of_cut c start log is.content is.plain is.copy.0 (accepted_boundary c log is.content is.plain is.copy.0 start accepted) accepted.from_start valid, is.copy.1);
    }

-- ---- the checks

-- what is outside of one is outside of the other
same_outside : (c d : Content) (start : ℤ) → seen_of c ≡ seen_of d → is_outside c start ≡ is_outside d start
same_outside c d start same = λ i. int_lt start (same_start c d same i) || int_lt (same_end c d same i) start

abbrev fault_of : Bool → Bool → Bool → Option ErrorCode
fault_of known outside boundary =
    first_some ((fault_if (not known) UnknownTopicOrPartition ∷ fault_if outside OffsetOutOfRange ∷ fault_if (not boundary) InvalidRequest ∷ []) ++ [])

same_fault : (known outside boundary other : Bool) → (outside ≡ false → boundary ≡ true) → (outside ≡ false → other ≡ true) → fault_of known outside boundary ≡ fault_of known outside other
same_fault known true boundary other one two = by known
  where
    by : (k : Bool) → fault_of k true boundary ≡ fault_of k true other
    by true = refl
    by false = refl
same_fault known false boundary other one two = ap (fault_of known false) (one refl ∙ sym (two refl))

-- ---- a request

-- without a fault the start is accepted
accepted_in : (s : State) (q : TrimValue) → first_some ((trim_work s q).early ++ []) ≡ None → IsAcceptedStart (content_at s q.topic q.partition) q.start
accepted_in s q none =
    passes_accepted (content_at s q.topic q.partition) q.start (none_first (unknown s q.topic q.partition) (first_some (trim_faults (content_at s q.topic q.partition) q.start)) (none_both (trim_work s q).early [] none).0).1

both_cut : (logs : Logs) (s z : State) (name : List ℕ) (p start : ℤ) → AreAlike logs s z → IsAcceptedStart (content_at s name p) start → IsAcceptedStart (content_at z name p) start
    → AreAlike logs (with_content s name p (cut start (content_at s name p))) (with_content z name p (cut start (content_at z name p)))
both_cut logs s z name p start alike one other =
    let c = content_at s name p in
    let d = content_at z name p in
    record {
      one = state_with logs logs s name p (cut start c) alike.one (λ n q e. refl) (λ n q e. refl) (λ known. trimmed_partition s.config.role c start (logs name p) (alike.one name p known) one);
      other = state_with logs logs z name p (cut start d) alike.other (λ n q e. refl) (λ n q e. refl) (λ known. trimmed_partition z.config.role d start (logs name p) (alike.other name p known) other);
      config = alike.config;
      seen = both_with s z name p (cut start c) (cut start d) alike.seen (seen_made (cut start c) (cut start d) refl (ap (cut_below start) (same_cover c d (seen_same logs s z name p alike))));
      next_producer = alike.next_producer;
    }

-- both answer alike, and both stay of the same logs
pub trim_keeps : (logs : Logs) (s z : State) (q : TrimValue) → MayTrim s (trim q) → MayTrim z (trim q) → AreAlike logs s z → Same (AreAlike logs) (answer (trim_work s q) s) (answer (trim_work z q) z)
trim_keeps logs s z q may other_may alike =
    let c = content_at s q.topic q.partition in
    let d = content_at z q.topic q.partition in
    let known : is_known s q.topic q.partition ≡ is_known z q.topic q.partition = known_same logs s z q.topic q.partition alike in
    let outside : is_outside c q.start ≡ is_outside d q.start = same_outside c d q.start (seen_same logs s z q.topic q.partition alike) in
    let faults : fault_of (is_known s q.topic q.partition) (is_outside c q.start) (is_boundary c q.start) ≡ fault_of (is_known z q.topic q.partition) (is_outside d q.start) (is_boundary d q.start) =
    same_fault (is_known s q.topic q.partition) (is_outside c q.start) (is_boundary c q.start) (is_boundary d q.start) may (λ e. other_may (sym outside ∙ e)) ∙ (λ i. fault_of (known i) (outside i) (is_boundary d q.start)) in
    same_by (AreAlike logs) s z (trim_work s q) (trim_work z q) alike faults (λ code. refl)
    (λ none. (refl, both_cut logs s z q.topic q.partition q.start alike (accepted_in s q none) (accepted_in z q (sym faults ∙ none))))

pub trim_alike : (logs : Logs) (s z : State) (n : ℤ) (q : TrimValue) → MayTrim s (trim q) → MayTrim z (trim q) → AreAlike logs s z → BodyAlike logs s z n (trim q)
trim_alike logs s z n q may other_may alike =
    let both = trim_keeps logs s z q may other_may alike in
    record { states = stay logs (answer (trim_work s q) s).1 (answer (trim_work z q) z).1 both.1; replies = λ settled. ap (λ r. Some (trim_sent n r)) both.0 }
