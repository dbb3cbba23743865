use Rattle.std.proofs.Common.{◌≡◌, [], ap, rules}
use Rattle.std.specs.Prelude.{nat_eq}
use Rattle.std.specs.Map.{lookup}
use Rattle.sessions.specs.Orders.{World}
use Rattle.sessions.proofs.Watched.{none_told, watched_new}
use Rattle.sessions.proofs.sessions.Sessions.new.Goals as goal

pub invariant_of-result : goal.invariant_of-result
invariant_of-result g c =
    let none : c.new.result.entries ≡ [] = search rules in
    let world : World = record { state = c.args.node; sessions = c.new.result.entries; next = 0 } in (
      search rules,
      watched_new world c.new-2.result (λ k. ap (lookup (nat_eq k)) none) c.new-2.ensures.waits c.new-2.ensures.stands,
    )

pub returns-clause-none_sleeps : goal.returns-clause-none_sleeps
returns-clause-none_sleeps g c = λ k.
    let world : World = record { state = c.args.node; sessions = c.new.result.entries; next = 0 } in
    none_told world c.new-2.result.waits k (c.new-2.ensures.waits k)
