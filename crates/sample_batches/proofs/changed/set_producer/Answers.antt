use Rattle.std.proofs.Common.{rules}
use Rattle.sample_batches.proofs.changed.set_producer.Goals as goal

pub slice_bounds-copy_from_slice-end-5 : goal.slice_bounds-copy_from_slice-end-5
slice_bounds-copy_from_slice-end-5 c = search rules
