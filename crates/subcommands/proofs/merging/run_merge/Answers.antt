use Rattle.std.proofs.Common.{refl}
use Rattle.subcommands.proofs.RunLemmas.{merge_done, merge_failed}
use Rattle.subcommands.proofs.merging.run_merge.Goals as goal

pub returns-in-Ok-clause-runs : goal.returns-in-Ok-clause-runs
returns-in-Ok-clause-runs g c =
    merge_done c.args.source.now c.merge_stream.new.source c.args.sink.now c.merge_stream.new.sink 0 refl c.in-Ok.ensures.prints_the_merge c.in-Ok.ensures.fails_nothing

pub returns-in-Err-clause-runs : goal.returns-in-Err-clause-runs
returns-in-Err-clause-runs g c =
    merge_failed c.args.source.now c.merge_stream.new.source c.args.sink.now c.merge_stream.new.sink c.in-Err.why c.images_status.result c.in-Err.ensures.fails c.images_status.ensures
