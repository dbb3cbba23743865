use Rattle.std.proofs.Common.{rules}
use Rattle.std.specs.Str.{bytes_eq}
use Rattle.group_coordinator.proofs.Telling.{some_of, none_of}
use Rattle.group_coordinator.proofs.protocols.metadata.Goals as goal

pub returns-in-Some : goal.returns-in-Some
returns-in-Some g c = some_of (λ p. p.metadata) (λ p. bytes_eq p.name c.args.name.now) c.args.protocols.now c.in-Some.index c.index-protocols-index.result _ (search rules) (search rules) (search rules)

pub returns-in-None : goal.returns-in-None
returns-in-None g c = none_of (λ p. p.metadata) (λ p. bytes_eq p.name c.args.name.now) c.args.protocols.now (search rules)
