use Rattle.table_lines.proofs.LineFeeds as feeds
use Rattle.table_lines.proofs.lines.line_ends_once.Goals as goal

pub returns : goal.returns
returns c = record { ends_once = feeds.line_ends_once c.args.key.now c.args.value.now }
