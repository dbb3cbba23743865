use Rattle.std.proofs.Common.{rules, arith, subst, sym}
use Rattle.std.specs.Prelude.{ℤ, ◌<ℤ◌, FitsSigned}
use Rattle.std.specs.Int.{w64}
use Rattle.std.proofs.lemmas.Int.{ints, to_z-of_z}
use Rattle.deltas.specs.Entries.{OffsetsRise}
use Rattle.delta_bytes.specs.Judging.{offsets_of}
use Rattle.delta_bytes.proofs.OffsetLists.{low_base, falling}
use Rattle.delta_bytes.proofs.lists.next_list.Goals as goal

pub returns-in_default : goal.returns-in_default
returns-in_default c base offsets next = c.in_default.ensures base offsets next.list

pub returns-then-list-low : goal.returns-then-list-low
returns-then-list-low c =
    let list = c.in-Some.list in
    let less : list.base <ℤ c.args.low = grind (arith, ints, c.if-list-low.true) in
    low_base c.args.low list.base (offsets_of list.offsets.now) c.args.bytes.now c.in-Some.ensures less

pub returns-in_default-last_from : goal.returns-in_default-last_from
returns-in_default-last_from c =
    let list = c.in-Some.list in
    let fits : FitsSigned w64 list.base = search rules in
    falling c.args.low list.base (offsets_of list.offsets.now) c.args.bytes.now c.in-Some.ensures
    (λ rise. c.in_default-last_from.ensures (subst (λ (z : ℤ). OffsetsRise z (offsets_of list.offsets.now)) (sym (to_z-of_z w64 list.base fits)) rise))
