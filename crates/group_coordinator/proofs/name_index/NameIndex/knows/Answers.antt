use Rattle.std.proofs.Common.{◌≡◌, ◌-◌, ◌<◌, suc, arith, length, rules}
use Rattle.std.proofs.lemmas.List.{length-map}
use Rattle.group_coordinator.specs.Finding.{protocol_names}
use Rattle.group_coordinator.specs.Members.{Protocol}
use Rattle.group_coordinator.proofs.Finding.{found_known, not_known, protocol_name_at, reach_first, reach_next, reach_smaller}
use Rattle.group_coordinator.proofs.name_index.NameIndex.knows.Goals as goal

pub loop-place-init : goal.loop-place-init
loop-place-init g c =
    let buckets : c.len.result ≡ length c.args.self.now.last = search rules in
    reach_first c.args.self.now (protocol_names c.args.protocols.now) c.args.name.now c.bucket_of.result c.index-place.result.now c.requires.finds (search rules) (search rules) (search rules)

pub returns-then-is_named : goal.returns-then-is_named
returns-then-is_named g c =
    let low : c.loop-place.place - 1 < length c.args.protocols.now = omega (arith, c.loop-place-test.true, c.loop-place.invariant.within, length-map c.args.protocols.now (λ (x : Protocol). x.name)) in
    found_known c.args.name.now c.args.protocols.now (c.loop-place.place - 1) c.index-protocols-place.result low (search rules) (search rules)

pub loop-place-smaller : goal.loop-place-smaller
loop-place-smaller g c =
    let is : c.loop-place.place ≡ suc (c.loop-place.place - 1) = omega (arith, c.loop-place-test.true) in
    reach_smaller c.args.self.now (protocol_names c.args.protocols.now) c.args.name.now (c.loop-place.place - 1) c.loop-place.place c.index-place-in-loop-place.result.now is c.requires.finds (search rules) c.loop-place.invariant

pub loop-place-preserved : goal.loop-place-preserved
loop-place-preserved g c =
    let is : c.loop-place.place ≡ suc (c.loop-place.place - 1) = omega (arith, c.loop-place-test.true) in
    let low : c.loop-place.place - 1 < length c.args.protocols.now = omega (arith, c.loop-place-test.true, c.loop-place.invariant.within, length-map c.args.protocols.now (λ (x : Protocol). x.name)) in
    let at = protocol_name_at c.args.protocols.now (c.loop-place.place - 1) c.index-protocols-place.result low (search rules) in
    reach_next c.args.self.now (protocol_names c.args.protocols.now) c.args.name.now c.index-protocols-place.result.name (c.loop-place.place - 1) c.loop-place.place c.index-place-in-loop-place.result.now is c.requires.finds at (search rules) (search rules) c.loop-place.invariant

pub returns : goal.returns
returns g c = not_known (length c.args.self.now.last) c.loop-place.place c.args.protocols.now c.args.name.now (omega (arith, c.loop-place-test.false)) c.loop-place.invariant
