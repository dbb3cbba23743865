use Rattle.std.proofs.Common.{◌≡◌, Some, length, refl, sym, ◌∙◌, rules}
use Rattle.std.specs.Prelude.{slice_get}
use Rattle.std.proofs.lemmas.Option.{slice_get_read}
use Rattle.kept_rotations.proofs.CopiesThere.{by_topic, no_partition}
use Rattle.kept_rotations.proofs.whole.copy_at.Goals as goal

pub returns-then-place-partition_count : goal.returns-then-place-partition_count
returns-then-place-partition_count g c =
    let topics = c.topics.result.now in
    let there : slice_get topics c.args.place.topic ≡ Some c.in_ok-topic.topic.now = slice_get_read topics (length topics) c.args.place.topic c.in_ok-topic.topic.now refl c.in_ok-topic.ensures.lookup.3.0 c.in_ok-topic.ensures.lookup.1 in
    sym (by_topic c.args.state.now topics c.args.place (Some c.in_ok-topic.topic.now) c.topics.ensures.topics there ∙ c.partition_copy.ensures)

pub returns : goal.returns
returns g c =
    let topics = c.topics.result.now in
    let there : slice_get topics c.args.place.topic ≡ Some c.in_ok-topic.topic.now = slice_get_read topics (length topics) c.args.place.topic c.in_ok-topic.topic.now refl c.in_ok-topic.ensures.lookup.3.0 c.in_ok-topic.ensures.lookup.1 in
    sym (by_topic c.args.state.now topics c.args.place (Some c.in_ok-topic.topic.now) c.topics.ensures.topics there ∙ no_partition c.in_ok-topic.topic.now c.args.place (search rules))
