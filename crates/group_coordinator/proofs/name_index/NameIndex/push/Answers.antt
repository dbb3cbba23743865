use Rattle.std.proofs.Common.{rules}
use Rattle.group_coordinator.proofs.Finding.{finds_more}
use Rattle.group_coordinator.proofs.name_index.NameIndex.push.Goals as goal

pub returns-clause-finds : goal.returns-clause-finds
returns-clause-finds g c = λ names f.
    finds_more c.args.self.now _ _ names c.args.name.now c.bucket_of-bucket.result c.len-2.result c.index.result.now c.self.view_is c.requires.room (search rules) (search rules) (search rules) (search rules) (search rules) (search rules) (search rules) f
