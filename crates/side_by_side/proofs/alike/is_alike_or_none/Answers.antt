use Rattle.std.proofs.Common.{ap}
use Rattle.std.specs.Option.{option_map}
use Rattle.batch_codec.specs.Views.{record_value}
use Rattle.side_by_side.proofs.CommonRecords.{is_alike_some}
use Rattle.side_by_side.proofs.alike.is_alike_or_none.Goals as goal

pub returns-in-Some : goal.returns-in-Some
returns-in-Some c = is_alike_some (record_value c.args.rec) (record_value c.in-Some.other) (option_map record_value c.args.other) c.are_equal_records.result (ap (option_map record_value) c.in-Some.is) c.are_equal_records.ensures
