use Rattle.std.proofs.Common.{◌++◌, FitsSigned, subst, ◌∙◌, rules}
use Rattle.std.specs.Int.{w16, w32, w64}
use Rattle.std.proofs.lemmas.Int.{to_z-of_z}
use Rattle.responses.specs.OffsetFetch.{fetched_offset_bytes}
use Rattle.group_offsets.specs.CommittedValues.{text_of}
use Rattle.answering.specs.Work.{MayAnswer}
use Rattle.answering.proofs.Begun.{begins_same, on_ok, on_err}
use Rattle.group_requests.specs.OffsetFetch.{offset_fetch_work}
use Rattle.group_requests.specs.OffsetFetch.Entries.{fetched_offset}
use Rattle.group_requests.proofs.offset_fetch.FetchingAnswersOffsetFetchPartitionUnit.put.Goals as goal

pub returns-clause-writes : goal.returns-clause-writes
returns-clause-writes g c =
    let asked = c.args.self.now in
    let found = c.fetch-found.result in
    let p : FitsSigned w32 c.args.entry.partition = search rules in
    let o : FitsSigned w64 c.fetch-found.result.offset = search rules in
    let k : FitsSigned w16 c.fetch-found.result.code = search rules in
    on_ok c.put_fetched_offset.result (λ e. record {
      result = fetched_offset c.args.entry.partition found;
      answers = λ walked. subst (λ n. MayAnswer (offset_fetch_work asked.state.now asked.group.now asked.too_many c.args.topic.now (record { partition = n })) asked.state.now (fetched_offset n found) asked.state.now) (to_z-of_z w32 c.args.entry.partition p) (c.fetch-found.ensures walked);
      appends = e ∙ (λ i. c.args.out.now.items ++ fetched_offset_bytes (record { partition = to_z-of_z w32 c.args.entry.partition p i; offset = to_z-of_z w64 found.offset o i; metadata = text_of found.metadata; code = to_z-of_z w16 found.code k i }));
    }) c.put_fetched_offset.ensures.appends

pub returns-clause-begins : goal.returns-clause-begins
returns-clause-begins g c = on_err c.put_fetched_offset.result (λ same. begins_same c.args.out.now.items c.put_fetched_offset.new.out.items same) c.put_fetched_offset.ensures.unchanged_on_error
