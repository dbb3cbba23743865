use Rattle.std.proofs.Common.{◌<◌, ◌≤◌, ◌∙◌, arith, get_or, rules, subst}
use Rattle.group_coordinator.specs.declared.values.TheConstants.{MOST_BYTES, MOST_IDS}
use Rattle.group_coordinator.specs.Coordinators.{Groups}
use Rattle.group_coordinator.specs.Keeping.{AreApart, ArePeopled}
use Rattle.group_coordinator.proofs.Again.{rejoin_refused, rejoin_taken}
use Rattle.group_coordinator.proofs.coordinator.Coordinator.rejoin_at.Goals as goal

pub returns-then-bytes-gt-MOST_BYTES-clause-replies : goal.returns-then-bytes-gt-MOST_BYTES-clause-replies
returns-then-bytes-gt-MOST_BYTES-clause-replies g c = λ e.
    let apart = subst (λ (v : Groups). AreApart v.groups) c.self.view_is c.self.invariant.1.0 in
    let some = subst (λ (v : Groups). ArePeopled v.groups) c.self.view_is c.self.invariant.1.1 in
    let at = c.group.ensures ∙ (λ j. get_or (c.self.view_is j).groups c.args.index c.group.result.now) in
    let over : MOST_BYTES < c.rejoined_bytes-bytes.result = grind (arith, c.if-bytes-gt-MOST_BYTES.true) in
    rejoin_refused c.args.session c.args.request c.args.self.now c.args.index c.group.result.now apart some e at c.rejoined_bytes-bytes.result (c.rejoined_bytes-bytes.ensures c.args.session c.group.result.now at) over

pub returns-clause-replies : goal.returns-clause-replies
returns-clause-replies g c = λ e.
    let apart = subst (λ (v : Groups). AreApart v.groups) c.self.view_is c.self.invariant.1.0 in
    let some = subst (λ (v : Groups). ArePeopled v.groups) c.self.view_is c.self.invariant.1.1 in
    let at = c.group.ensures ∙ (λ j. get_or (c.self.view_is j).groups c.args.index c.group.result.now) in
    let fits : c.rejoined_bytes-bytes.result ≤ MOST_BYTES = grind (arith, c.if-bytes-gt-MOST_BYTES.false) in
    let ids : c.self.inside.ids ≤ MOST_IDS = search rules in
    rejoin_taken c.args.session c.args.request c.args.self.now c.args.index c.group.result.now apart some e at c.rejoined_bytes-bytes.result c.join_again.new.self
    (c.rejoined_bytes-bytes.ensures c.args.session c.group.result.now at) fits (subst (λ (v : Groups). v.ids ≤ MOST_IDS) c.self.view_is ids) (c.in_ok-join_again.ensures.joins e)
