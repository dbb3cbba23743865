use Rattle.std.proofs.Common.{◌≡◌, ◌+◌, ℤ, pos, List, [], ◌∷◌, refl, sym, ap, subst, ◌∙◌, FitsSigned, w64, rules}
use Rattle.std.specs.Prelude.{map, IfErr}
use Rattle.std.proofs.lemmas.Int.{to_z-of_z}
use Rattle.frame_fields.specs.Fields.{Value}
use Rattle.frame_fields.specs.Arrays.{ArrayBytes}
use Rattle.broker_state.specs.State.{State}
use Rattle.snapshots.specs.Heads.{partition_fields, partition_size}
use Rattle.state_snapshots.specs.Restoring.{Announced, numbered}
use Rattle.state_snapshots.specs.RestoredParts.{sizes_in}
use Rattle.state_snapshots.specs.Faults.{SizeFault, StopsFor}
use Rattle.state_snapshots.proofs.Restored.{none_restored, more_restored, one_restored}
use Rattle.state_snapshots.proofs.Stopped.{err_is, bad_size, no_copy, not_put, stops_here}
use Rattle.state_snapshots.proofs.restoring.restore_topic.Goals as goal

pub loop-partition-init : goal.loop-partition-init
loop-partition-init g c =
    let name = c.args.topic.name.now in
    none_restored (g.D.Disk.seen c.args.disk.now) (numbered name 0 (sizes_in c.args.topic.partitions)) (numbered name 0 (sizes_in c.into_iter-partition-iterator.result)) c.args.at c.args.state.now
    (ap (λ (a : ArrayBytes). numbered name 0 (sizes_in a)) c.into_iter-partition-iterator.ensures.into_iter_gives)

pub loop-partition-preserved : goal.loop-partition-preserved
loop-partition-preserved g c =
    let seen = g.D.Disk.seen c.args.disk.now in
    let name = c.args.topic.name.now in
    let index = c.loop-partition.index in
    let behind = c.loop-partition.behind in
    let count = c.in_ok-count.count in
    let size = c.in-Some.partition.size in
    let fits : FitsSigned w64 size = search rules in
    let one = one_restored seen name index behind count (behind + count) size c.in_ok-copy.copy c.loop-partition.state c.put_copy.new.state (sym (to_z-of_z w64 size fits) ∙ c.in_ok-count.ensures.sized) refl c.in_ok-copy.ensures.reads c.in_ok-put_copy.ensures.accepts c.in_ok-put_copy.ensures.puts in
    more_restored seen (numbered name 0 (sizes_in c.args.topic.partitions)) (record { topic = name; partition = pos index; size = size } ∷ []) [] (numbered name index (sizes_in c.loop-partition.partition-iterator)) (numbered name (index + 1) (sizes_in c.next.new.self))
    c.args.at behind (behind + count) c.args.state.now c.loop-partition.state c.put_copy.new.state
    (ap (λ (es : List (Value partition_fields)). numbered name index (map partition_size es)) c.in-Some.ensures.steps) c.loop-partition.invariant one

pub returns-in_err-count-clause-stops : goal.returns-in_err-count-clause-stops
returns-in_err-count-clause-stops g c =
    let seen = g.D.Disk.seen c.args.disk.now in
    let may_fail = g.D.Disk.may_fail c.args.disk.now in
    let name = c.args.topic.name.now in
    let at = c.loop-partition in
    let size = c.in-Some.partition.size in
    let fits : FitsSigned w64 size = search rules in
    let all = numbered name 0 (sizes_in c.args.topic.partitions) in
    let next : Announced = record { topic = name; partition = pos at.index; size = size } in
    let e = c.in_err-count.field-0.0 in
    err_is c.from_residual.result (StopsFor seen may_fail all c.args.at c.args.state.now at.state) e c.from_residual.ensures.1
    (stops_here seen may_fail all (numbered name at.index (sizes_in at.partition-iterator)) (numbered name (at.index + 1) (sizes_in c.next.new.self)) next c.args.at at.behind c.args.end c.args.state.now at.state e
    (ap (λ (es : List (Value partition_fields)). numbered name at.index (map partition_size es)) c.in-Some.ensures.steps) c.requires at.invariant
    (bad_size seen may_fail c.args.end next at.behind at.state e (subst (λ (z : ℤ). SizeFault z at.behind c.args.end e) (to_z-of_z w64 size fits) c.in_err-count.ensures.refuses)))

pub returns-in_err-copy-clause-stops : goal.returns-in_err-copy-clause-stops
returns-in_err-copy-clause-stops g c =
    let seen = g.D.Disk.seen c.args.disk.now in
    let may_fail = g.D.Disk.may_fail c.args.disk.now in
    let name = c.args.topic.name.now in
    let at = c.loop-partition in
    let size = c.in-Some.partition.size in
    let fits : FitsSigned w64 size = search rules in
    let all = numbered name 0 (sizes_in c.args.topic.partitions) in
    let next : Announced = record { topic = name; partition = pos at.index; size = size } in
    let e = c.in_err-copy.field-0.0 in
    err_is c.from_residual-in_err-copy.result (StopsFor seen may_fail all c.args.at c.args.state.now at.state) e c.from_residual-in_err-copy.ensures.1
    (stops_here seen may_fail all (numbered name at.index (sizes_in at.partition-iterator)) (numbered name (at.index + 1) (sizes_in c.next.new.self)) next c.args.at at.behind c.args.end c.args.state.now at.state e
    (ap (λ (es : List (Value partition_fields)). numbered name at.index (map partition_size es)) c.in-Some.ensures.steps) c.requires at.invariant
    (no_copy seen may_fail c.args.end next at.behind at.state c.in_ok-count.count e (sym (to_z-of_z w64 size fits) ∙ c.in_ok-count.ensures.sized) c.in_ok-count.ensures.within c.requires c.in_err-copy.ensures.refuses))

pub returns-in_err-put_copy-clause-stops : goal.returns-in_err-put_copy-clause-stops
returns-in_err-put_copy-clause-stops g c =
    let seen = g.D.Disk.seen c.args.disk.now in
    let may_fail = g.D.Disk.may_fail c.args.disk.now in
    let name = c.args.topic.name.now in
    let at = c.loop-partition in
    let size = c.in-Some.partition.size in
    let fits : FitsSigned w64 size = search rules in
    let sized = sym (to_z-of_z w64 size fits) ∙ c.in_ok-count.ensures.sized in
    let all = numbered name 0 (sizes_in c.args.topic.partitions) in
    let next : Announced = record { topic = name; partition = pos at.index; size = size } in
    let e = c.in_err-put_copy.field-0.0 in
    let same : at.state ≡ c.put_copy.new.state = sym {a = c.put_copy.new.state} c.in_err-put_copy.ensures.unchanged_on_error in
    subst (λ (now : State). IfErr c.from_residual-in_err-put_copy.result (StopsFor seen may_fail all c.args.at c.args.state.now now)) same
    (err_is c.from_residual-in_err-put_copy.result (StopsFor seen may_fail all c.args.at c.args.state.now at.state) e c.from_residual-in_err-put_copy.ensures.1
    (stops_here seen may_fail all (numbered name at.index (sizes_in at.partition-iterator)) (numbered name (at.index + 1) (sizes_in c.next.new.self)) next c.args.at at.behind c.args.end c.args.state.now at.state e
    (ap (λ (es : List (Value partition_fields)). numbered name at.index (map partition_size es)) c.in-Some.ensures.steps) c.requires at.invariant
    (not_put seen may_fail c.args.end next at.behind at.state name at.index c.in_ok-count.count c.in_ok-copy.copy e (λ i. record { topic = name; partition = pos at.index; size = sized i }) c.in_ok-copy.ensures.reads c.in_err-put_copy.ensures.refuses)))
