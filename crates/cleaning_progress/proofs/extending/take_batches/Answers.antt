use Rattle.std.proofs.Common.{◌≡◌, ◌+ℤ◌, ℤ, pos, false, true≢false, List, length, sym, ap, subst, ◌∙◌, rules, FitsSigned, to_z, of_z, arith}
use Rattle.std.specs.Prelude.{◌≤ℤ◌, int_lt}
use Rattle.std.specs.Int.{w64, int_max}
use Rattle.std.proofs.lemmas.Int.{ints, to_z-of_z}
use Rattle.batch_codec.specs.Values.{BatchValue}
use Rattle.batch_codec.specs.Offsets.{last_offset}
use Rattle.key_index.proofs.ChangedBatches.{first_within}
use Rattle.newest_keys.specs.Shards.{newest_in}
use Rattle.cleaning_progress.specs.Extending.{TakesDirty}
use Rattle.cleaning_progress.proofs.Walks.{walk_starts, walk_goes_on, walk_stops, walk_ends, next_in_range, none_below, all_none, reaches_bound}
use Rattle.cleaning_progress.proofs.extending.take_batches.Goals as goal

pub cursor-cursor-requires : goal.cursor-cursor-requires
cursor-cursor-requires g c = first_within _ _ c.first_from.result c.first_from.ensures.index

pub loop-cursor-init : goal.loop-cursor-init
loop-cursor-init g c =
    (c.cursor-cursor.ensures.stands, walk_starts _ (newest_in c.args.newest.now) _ _ c.first_from.result c.first_from.ensures.batch_list c.first_from.ensures.index c.cursor-cursor.ensures.left)

pub next-requires : goal.next-requires
next-requires g c = c.loop-cursor.invariant.0

pub returns-in_default : goal.returns-in_default
returns-in_default g c =
    let fits : FitsSigned w64 c.max.result = search rules in
    let all : List BatchValue = g.S.BatchStore.batches c.args.batches.now in
    let last = to_z-of_z w64 c.max.result fits ∙ c.max.ensures.value ∙ ap (int_max (to_z w64 c.loop-cursor.end-bits)) (to_z-of_z w64 c.args.bound c.ranges.bound) in
    record {
      reaches = λ room. reaches_bound (to_z w64 (of_z w64 c.max.result)) (to_z w64 c.loop-cursor.end-bits) c.args.bound last;
      takes = subst (λ (f : ℤ). TakesDirty f (to_z w64 (of_z w64 c.max.result)) (newest_in c.args.newest.now) (newest_in c.loop-cursor.newest) all) (to_z-of_z w64 c.args.from c.ranges.from)
          (walk_ends _ (to_z w64 c.loop-cursor.end-bits) c.args.bound _ _ _ _ _ last (all_none _ _ c.in_default.ensures.gives.0) c.loop-cursor.invariant.1);
    }

pub ends_below-requires : goal.ends_below-requires
ends_below-requires g c = (next_in_range _ _ _ _ _ _ _ c.in-Some.batch c.in-Some.ensures.gives c.loop-cursor.invariant.1).1

pub returns-then-not-ends_below : goal.returns-then-not-ends_below
returns-then-not-ends_below g c =
    let fits : FitsSigned w64 c.max-then-not-ends_below.result = search rules in
    let bound = to_z-of_z w64 c.args.bound c.ranges.bound in
    let not : int_lt (last_offset c.in-Some.batch) c.args.bound ≡ false = ap (int_lt (last_offset c.in-Some.batch)) (sym bound) ∙ sym c.ends_below.ensures ∙ c.if-not-ends_below.true in
    let far : c.args.bound ≤ℤ last_offset c.in-Some.batch = grind (arith, ints, not) in
    let all : List BatchValue = g.S.BatchStore.batches c.args.batches.now in
    let last = to_z-of_z w64 c.max-then-not-ends_below.result fits ∙ c.max-then-not-ends_below.ensures.value ∙ ap (int_max (to_z w64 c.loop-cursor.end-bits)) bound in
    record {
      reaches = λ room. reaches_bound (to_z w64 (of_z w64 c.max-then-not-ends_below.result)) (to_z w64 c.loop-cursor.end-bits) c.args.bound last;
      takes = subst (λ (f : ℤ). TakesDirty f (to_z w64 (of_z w64 c.max-then-not-ends_below.result)) (newest_in c.args.newest.now) (newest_in c.loop-cursor.newest) all) (to_z-of_z w64 c.args.from c.ranges.from)
          (walk_ends _ (to_z w64 c.loop-cursor.end-bits) c.args.bound _ _ _ _ _ last (none_below _ _ c.args.bound _ _ _ _ _ c.in-Some.batch c.in-Some.ensures.gives far c.loop-cursor.invariant.1) c.loop-cursor.invariant.1);
    }

pub put_batch-requires : goal.put_batch-requires
put_batch-requires g c = next_in_range _ _ _ _ _ _ _ c.in-Some.batch c.in-Some.ensures.gives c.loop-cursor.invariant.1

pub last_offset-end-requires : goal.last_offset-end-requires
last_offset-end-requires g c = (next_in_range _ _ _ _ _ _ _ c.in-Some.batch c.in-Some.ensures.gives c.loop-cursor.invariant.1).1

pub loop-cursor-smaller : goal.loop-cursor-smaller
loop-cursor-smaller g c = omega (arith, ap length c.in-Some.ensures.gives)

pub loop-cursor-preserved : goal.loop-cursor-preserved
loop-cursor-preserved g c =
    let last : FitsSigned w64 c.last_offset-end.result = search rules in
    let next : FitsSigned w64 (to_z w64 (of_z w64 c.last_offset-end.result) +ℤ pos 1) = search rules in (
      c.in-Some.ensures.stands,
      walk_goes_on _ _ _ _ _ _ _ _ _ c.in-Some.batch c.in-Some.ensures.gives
          (to_z-of_z w64 (to_z w64 (of_z w64 c.last_offset-end.result) +ℤ pos 1) next ∙ ap (λ (o : ℤ). o +ℤ pos 1) (to_z-of_z w64 c.last_offset-end.result last ∙ c.last_offset-end.ensures)) c.in_ok-taken.ensures.puts c.loop-cursor.invariant.1,
    )

pub returns : goal.returns
returns g c =
    let all : List BatchValue = g.S.BatchStore.batches c.args.batches.now in
    record {
      reaches = λ room. absurd (true≢false (sym room ∙ sym c.has_room.ensures ∙ c.loop-cursor-test.false));
      takes = subst (λ (f : ℤ). TakesDirty f (to_z w64 c.loop-cursor.end-bits) (newest_in c.args.newest.now) (newest_in c.loop-cursor.newest) all) (to_z-of_z w64 c.args.from c.ranges.from) (walk_stops _ (to_z w64 c.loop-cursor.end-bits) _ _ _ _ c.loop-cursor.invariant.1);
    }
