use Rattle.std.proofs.Common.{◌≡◌, ℕ, pos, Bool, true, not, cond, List, [], ◌∷◌, codes, Option, Some, None, Result, Ok, Err, refl, ◌∙◌}
use Rattle.std.specs.Prelude.{◌&&◌}
use Rattle.varint.specs.Encoding.{encoding, digits}
use Rattle.batch_codec.specs.Grammar.{record_body, batch_encoding}
use Rattle.cover_ranges.specs.Runs.{with_range}
use Rattle.content.specs.ByOffset.{put}
use Rattle.content.specs.Records.{log_records}
use Rattle.content.specs.Verdicts.{verdict}
use Rattle.content_laws.proofs.Tables.{latest_value, get_table}
use Rattle.frame_fields.specs.Fields.{encoded}
use Rattle.frame_fields.specs.Reading.{read_number, read_field, read_fields}
use Rattle.group_offsets.specs.declared.error.GroupError.{GroupError}
use Rattle.group_offsets.specs.declared.error.GroupError.TheVariants.{NameTooLong}
use Rattle.group_offsets.specs.Keys.{group_key_bytes, group_key_at}
use Rattle.group_offsets.specs.CommittedValues.{CommittedValue, committed_bytes, committed_at}
use Rattle.group_offsets.specs.Batches.{commit_batch, null_records, forget_batch}
use Rattle.group_offsets.specs.Groups.{shown_records, group_keys}
use Rattle.group_offsets.specs.Lookups.{is_name, shown_value, lookup_in}
use Rattle.responses.specs.Responses.{response}
use Rattle.responses.specs.OffsetFetch.{offset_fetch_response, offset_fetch_value}
use Rattle.broker_state.specs.State.{State, is_known}
use Rattle.answering.specs.declared.codes.ErrorCode.TheVariants.{UnknownTopicOrPartition}
use Rattle.answering.specs.Work.{answer}
use Rattle.answering.specs.Lists.{fault_if}
use Rattle.answering.specs.Codes.{code_number}
use Rattle.group_requests.specs.GroupPartition.{group_content}
use Rattle.group_requests.specs.OffsetFetch.{offset_fetch_fault, offset_fetch_none, offset_fetch_result}
use Rattle.broker_node.specs.Replies.{reply}
use Rattle.broker_laws.specs.Examples.{topic_t, one_topic, group_g, committed_twice, forgotten, found_for, offset_fetch_request}
use Rattle.broker_laws.proofs.examples.committed_offsets.Goals as goal

-- what is found, by the latest record of the key
found : (s : State) (group : List ℕ) (value : Option (List ℕ)) → is_name group ≡ true
    → latest_value (group_key_bytes (record { group = group; topic = topic_t; partition = pos 0 })) (log_records (group_content s).kept) ≡ value → found_for s group ≡ shown_value value
unfolding lookup_in
found s group value named e =
    let key = group_key_bytes (record { group = group; topic = topic_t; partition = pos 0 }) in
    let shown = get_table (log_records (group_content s).kept) key ∙ e in
    λ i. cond (named i && true) (shown_value (shown i)) (Err NameTooLong)

latest : found_for committed_twice group_g ≡ Ok (Some (record { offset = pos 21; metadata = Some (codes "m") }))
unfolding encoding digits record_body batch_encoding with_range put verdict encoded read_number read_field read_fields committed_at commit_batch
latest = found committed_twice group_g (Some (committed_bytes (record { offset = pos 21; metadata = Some (codes "m") }))) refl refl

partition_known : is_known committed_twice topic_t (pos 0) ≡ true
unfolding commit_batch verdict with_range
partition_known = refl

pub returns-clause-latest_is_found : goal.returns-clause-latest_is_found
returns-clause-latest_is_found c = latest

pub returns-clause-not_by_another_group : goal.returns-clause-not_by_another_group
unfolding encoding digits record_body batch_encoding with_range put verdict encoded commit_batch
returns-clause-not_by_another_group c = found committed_twice (codes "h") None refl refl

-- what is sent, by whether the partition is known and what is found
abbrev sent_for : State → Bool → Result (Option CommittedValue) GroupError → Option (List ℕ)
sent_for s known found = Some (response (pos 6) offset_fetch_response (offset_fetch_value (one_topic topic_t (answer (record {
  early = None ∷ None ∷ fault_if (not known) UnknownTopicOrPartition ∷ [];
  takes_memory = true;
  late = offset_fetch_fault found ∷ [];
  done = (offset_fetch_result (pos 0) found, s);
  failed = λ code. offset_fetch_none (pos 0) (code_number code);
}) s).0)))

fetched : (s : State) (value : Result (Option CommittedValue) GroupError) → is_known s topic_t (pos 0) ≡ true → found_for s group_g ≡ value → (reply s (offset_fetch_request (pos 6))).0 ≡ sent_for s true value
fetched s value known e = λ i. sent_for s (known i) (e i)

pub returns-clause-fetch : goal.returns-clause-fetch
unfolding encoded
returns-clause-fetch c = fetched committed_twice (Ok (Some (record { offset = pos 21; metadata = Some (codes "m") }))) partition_known latest

pub returns-clause-not_found_once_forgotten : goal.returns-clause-not_found_once_forgotten
unfolding encoding digits record_body batch_encoding with_range put verdict encoded read_number read_field read_fields group_key_at commit_batch null_records forget_batch shown_records group_keys
returns-clause-not_found_once_forgotten c = found forgotten group_g None refl refl
