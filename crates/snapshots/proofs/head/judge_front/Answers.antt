use Rattle.std.proofs.Common.{rules}
use Rattle.snapshots.proofs.Judging.{front_with_key, front_without_key}
use Rattle.snapshots.proofs.head.judge_front.Goals as goal

pub returns-then-start-eq-OLD_VERSION-clause-has_front : goal.returns-then-start-eq-OLD_VERSION-clause-has_front
returns-then-start-eq-OLD_VERSION-clause-has_front c =
    front_without_key c.in-Ok.start.crc c.in-Ok.start.mark c.in-Ok.start.version c.args.bytes.now c.in-Ok.behind.now (search rules) (search rules) (search rules) (search rules)

pub returns-in-Ok-key_at-clause-has_front : goal.returns-in-Ok-key_at-clause-has_front
returns-in-Ok-key_at-clause-has_front c =
    front_with_key c.in-Ok.start.crc c.in-Ok.start.mark c.in-Ok.start.version c.in-Ok-key_at.key c.args.bytes.now c.in-Ok.behind.now c.in-Ok-key_at.rest.now
    (search rules) (search rules) (search rules) (search rules) (search rules)
