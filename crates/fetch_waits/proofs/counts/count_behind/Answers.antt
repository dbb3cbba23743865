use Rattle.std.proofs.Common.{◌≡◌, FitsSigned, length, refl, get_or, slice_get, Some, sym, w64, rules}
use Rattle.std.proofs.lemmas.Int.{to_z-of_z}
use Rattle.std.proofs.lemmas.Option.{get_or_from_slice_get, slice_get_read}
use Rattle.fetch_waits.proofs.Placed.{behind_here, ends_here, past_all}
use Rattle.fetch_waits.proofs.counts.count_behind.Goals as goal

pub returns-clause-end : goal.returns-clause-end
returns-clause-end g c =
    let fits : FitsSigned w64 c.end.result = search rules in
    let t = c.in_ok-topic.topic.now in
    let at : slice_get c.topics.result.now c.args.place.topic ≡ Some t = slice_get_read c.topics.result.now (length c.topics.result.now) c.args.place.topic t refl c.in_ok-topic.ensures.lookup.3.0 c.in_ok-topic.ensures.lookup.1 in
    let is : t ≡ get_or c.topics.result.now c.args.place.topic t = sym (get_or_from_slice_get c.topics.result.now c.args.place.topic t t at) in
    ends_here c.args.state.now c.topics.result.now c.args.place t c.partition_copy-copy.result.now c.topics.ensures.topics is c.partition_copy-copy.ensures c.end.result _ (to_z-of_z w64 c.end.result fits) c.end.ensures.end

pub returns-clause-bytes : goal.returns-clause-bytes
returns-clause-bytes g c =
    let fits : FitsSigned w64 c.args.offset = search rules in
    let t = c.in_ok-topic.topic.now in
    let at : slice_get c.topics.result.now c.args.place.topic ≡ Some t = slice_get_read c.topics.result.now (length c.topics.result.now) c.args.place.topic t refl c.in_ok-topic.ensures.lookup.3.0 c.in_ok-topic.ensures.lookup.1 in
    let is : t ≡ get_or c.topics.result.now c.args.place.topic t = sym (get_or_from_slice_get c.topics.result.now c.args.place.topic t t at) in
    behind_here c.count_from.result c.args.state.now c.topics.result.now c.args.place t c.partition_copy-copy.result.now c.topics.ensures.topics is c.partition_copy-copy.ensures _ c.args.offset (to_z-of_z w64 c.args.offset fits) c.count_from.ensures

pub returns-then-place-partition_count-clause-unknown : goal.returns-then-place-partition_count-clause-unknown
returns-then-place-partition_count-clause-unknown g c =
    let t = c.in_ok-topic.topic.now in
    let at : slice_get c.topics.result.now c.args.place.topic ≡ Some t = slice_get_read c.topics.result.now (length c.topics.result.now) c.args.place.topic t refl c.in_ok-topic.ensures.lookup.3.0 c.in_ok-topic.ensures.lookup.1 in
    let is : t ≡ get_or c.topics.result.now c.args.place.topic t = sym (get_or_from_slice_get c.topics.result.now c.args.place.topic t t at) in
    past_all c.args.state.now c.topics.result.now c.args.place t c.partition_count.result c.topics.ensures.topics is c.partition_count.ensures c.if-place-partition_count.true
