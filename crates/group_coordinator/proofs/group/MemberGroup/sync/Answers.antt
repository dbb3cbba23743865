use Rattle.std.proofs.Common.{ap, List, subst, sym, ◌∙◌, ℕ}
use Rattle.group_coordinator.specs.Groups.{Group}
use Rattle.group_coordinator.specs.Giving.{Asks, parts_by}
use Rattle.group_coordinator.proofs.Syncing.{does_plain, does_give}
use Rattle.group_coordinator.proofs.group.MemberGroup.sync.Goals as goal

pub returns-in-Some-clause-syncs : goal.returns-in-Some-clause-syncs
returns-in-Some-clause-syncs g c = λ q same is.
    does_give c.args.now c.args.session q c.args.self.now c.args.ledger.now c.ask_part.new.ledger c.ask_part.new.self c.give_parts.new.self c.in-Some.parts (sym c.in-Some.is ∙ is ∙ (λ i. parts_by (sym same i) q.parts c.args.self.now))
    (subst (λ (id : List ℕ). Asks c.args.now c.args.session id c.args.ledger.now c.ask_part.new.ledger c.args.self.now c.ask_part.new.self) (sym same) c.ask_part.ensures) c.give_parts.ensures.gives

pub returns-in-None-clause-syncs : goal.returns-in-None-clause-syncs
returns-in-None-clause-syncs g c = λ q same is.
    does_plain c.args.now c.args.session q c.args.self.now c.args.ledger.now c.ask_part.new.ledger c.ask_part.new.self (sym c.in-None.is ∙ is ∙ (λ i. parts_by (sym same i) q.parts c.args.self.now))
    (subst (λ (id : List ℕ). Asks c.args.now c.args.session id c.args.ledger.now c.ask_part.new.ledger c.args.self.now c.ask_part.new.self) (sym same) c.ask_part.ensures)

pub returns-in-Some-clause-name : goal.returns-in-Some-clause-name
returns-in-Some-clause-name g c = c.give_parts.ensures.name ∙ ap (λ (x : Group). x.name) c.ask_part.ensures.group
