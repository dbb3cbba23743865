-- Two brokers that are alike answer a request within the logs alike, and stay alike.
use Rattle.std.proofs.Common.{◌≡◌, ℤ, Bool, true, false, not, List, ◌++◌, Option, Some, refl, sym, ap, ◌∙◌}
use Rattle.std.specs.Prelude.{drop}
use Rattle.std.specs.Option.{option_or}
use Rattle.request_frames.specs.Requests.BodyValue.{produce, fetch, list_offsets, metadata, offset_commit, offset_fetch, find_coordinator, api_versions, init_producer_id, deliver, clean, clean_part, export, export_delta, import, import_delta, get, cover, forget_group, trim}
use Rattle.request_frames.specs.Requests.{BodyValue, RequestValue}
use Rattle.request_frames.specs.Import.{ImportValue}
use Rattle.answering.specs.declared.codes.ErrorCode.{ErrorCode}
use Rattle.answering.specs.declared.codes.ErrorCode.TheVariants.{UnknownTopicOrPartition}
use Rattle.answering.specs.Lists.{fault_if, first_some}
use Rattle.answering.specs.Work.{answer_after, answer}
use Rattle.broker_state.specs.State.{State, is_known}
use Rattle.copy_requests.specs.Import.{import_work, import_sent}
use Rattle.broker_node.specs.Replies.{reply_to}
use Rattle.cleaning_laws.specs.Logs.{Logs}
use Rattle.cleaning_laws.specs.Alike.{AreAlike, StayAlike}
use Rattle.cleaning_laws.specs.Settled.{IsWithin, MayTrim, AnswerAlike}
use Rattle.cleaning_laws.specs.Cleans.{is_clean, is_no_clean}
use Rattle.cleaning_laws.proofs.TopicsAlike.{Same}
use Rattle.cleaning_laws.proofs.ProduceAlike.{produce_alike}
use Rattle.cleaning_laws.proofs.OffsetCommitAlike.{offset_commit_alike}
use Rattle.cleaning_laws.proofs.ForgetGroupAlike.{forget_group_alike}
use Rattle.cleaning_laws.proofs.GrownLogs.{stay}
use Rattle.cleaning_laws.proofs.BothAppend.{known_same}
use Rattle.cleaning_laws.proofs.OnlyRead.{BodyAlike, unchanged, get_alike, cover_alike, export_alike, export_delta_alike, fetch_alike, offset_fetch_alike, list_offsets_alike}
use Rattle.cleaning_laws.proofs.MetadataAlike.{metadata_alike}
use Rattle.cleaning_laws.proofs.ClientsAlike.{find_coordinator_alike, api_versions_alike, init_producer_id_alike}
use Rattle.cleaning_laws.proofs.DeliverAlike.{deliver_alike}
use Rattle.cleaning_laws.proofs.ImportDeltaAlike.{import_delta_alike}
use Rattle.cleaning_laws.proofs.TrimAlike.{trim_alike}

-- a reply that is the same in any case
always : (logs : Logs) (s z : State) (n : ℤ) (body : BodyValue) → Same (StayAlike logs) (reply_to s n body) (reply_to z n body) → BodyAlike logs s z n body
always logs s z n body same = record { states = same.1; replies = λ settled. same.0 }

-- what is checked of an image behind its partition
abbrev import_checks : State → ImportValue → List (Option ErrorCode)
import_checks s q = drop 1 ((import_work s q).early ++ (import_work s q).late)

-- an image for a partition that isn't there is refused
refused : (s : State) (q : ImportValue) → is_known s q.topic q.partition ≡ false
    → answer (import_work s q) s ≡ ((import_work s q).failed UnknownTopicOrPartition, s)
refused s q none =
    ap (λ (known : Bool). answer_after (option_or (fault_if (not known) UnknownTopicOrPartition) (first_some (import_checks s q))) (import_work s q) s) none

-- and changes nothing
pub not_imported : (s : State) (q : ImportValue) → is_known s q.topic q.partition ≡ false → (answer (import_work s q) s).1 ≡ s
not_imported s q none = ap (λ x. x.1) (refused s q none)

unknown_alike : (logs : Logs) (s z : State) (n : ℤ) (q : ImportValue) → is_known s q.topic q.partition ≡ false → AreAlike logs s z → BodyAlike logs s z n (import q)
unknown_alike logs s z n q none alike =
    let other_none = sym (known_same logs s z q.topic q.partition alike) ∙ none in
    record {
      states = unchanged logs s z (answer (import_work s q) s).1 (answer (import_work z q) z).1 (stay logs s z alike) (not_imported s q none) (not_imported z q other_none);
      replies = λ settled. ap (λ x. Some (import_sent n x.0)) (refused s q none) ∙ sym (ap (λ x. Some (import_sent n x.0)) (refused z q other_none));
    }

body_alike : (logs : Logs) (s z : State) (n : ℤ) (body : BodyValue) → AreAlike logs s z → IsWithin s logs body → MayTrim s body → MayTrim z body → is_clean body ≡ false → BodyAlike logs s z n body
body_alike logs s z n (produce q) alike within may other_may no_clean = always logs s z n (produce q) (produce_alike q logs s z n within.0 alike)
body_alike logs s z n (fetch q) alike within may other_may no_clean = fetch_alike logs s z n q alike
body_alike logs s z n (list_offsets ts) alike within may other_may no_clean = list_offsets_alike logs s z n ts alike
body_alike logs s z n (metadata names) alike within may other_may no_clean = metadata_alike logs s z n names alike
body_alike logs s z n (offset_commit q) alike within may other_may no_clean = always logs s z n (offset_commit q) (offset_commit_alike q logs s z n within.0 alike)
body_alike logs s z n (offset_fetch q) alike within may other_may no_clean = offset_fetch_alike logs s z n q alike
body_alike logs s z n (find_coordinator group) alike within may other_may no_clean = find_coordinator_alike logs s z n group alike
body_alike logs s z n (api_versions version) alike within may other_may no_clean = api_versions_alike logs s z n version alike
body_alike logs s z n (init_producer_id id) alike within may other_may no_clean = init_producer_id_alike logs s z n id alike
body_alike logs s z n (deliver q) alike within may other_may no_clean = deliver_alike logs s z n q within.0 within.1 alike
body_alike logs s z n (clean q) alike within may other_may no_clean = absurd cc
body_alike logs s z n (clean_part q) alike within may other_may no_clean = absurd cc
body_alike logs s z n (export q) alike within may other_may no_clean = export_alike logs s z n q alike
body_alike logs s z n (export_delta q) alike within may other_may no_clean = export_delta_alike logs s z n q alike
body_alike logs s z n (import q) alike within may other_may no_clean = unknown_alike logs s z n q within.1 alike
body_alike logs s z n (import_delta q) alike within may other_may no_clean = import_delta_alike logs s z n q within.0 within.1 alike
body_alike logs s z n (get q) alike within may other_may no_clean = get_alike logs s z n q alike
body_alike logs s z n (cover q) alike within may other_may no_clean = cover_alike logs s z n q alike
body_alike logs s z n (forget_group group) alike within may other_may no_clean = always logs s z n (forget_group group) (forget_group_alike logs s z group alike n)
body_alike logs s z n (trim q) alike within may other_may no_clean = trim_alike logs s z n q may other_may alike

pub not_false : (b : Bool) → not b ≡ true → b ≡ false
not_false true e = absurd cc
not_false false e = refl

pub answer_alike : (logs : Logs) (s z : State) (q : RequestValue) → AreAlike logs s z → IsWithin s logs q.body → MayTrim s q.body → MayTrim z q.body → is_no_clean q ≡ true → AnswerAlike logs s z q
answer_alike logs s z q alike within may other_may no_clean =
    let both = body_alike logs s z q.correlation q.body alike within may other_may (not_false (is_clean q.body) no_clean) in
    record { states = both.states; replies = both.replies }
