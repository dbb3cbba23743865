use Rattle.cover_ranges.proofs.Law.{equal_lists}
use Rattle.cover_ranges.proofs.laws.equal_members_make_equal_lists.Goals as goal

pub returns : goal.returns
returns c = equal_lists
