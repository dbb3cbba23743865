use Rattle.std.proofs.Common.{sym, subst, ◌<◌, ◌+◌, ◌∙◌, ◌⊎◌, inl, inr, take, length}
use Rattle.std.specs.Prelude.{pos}
use Rattle.cover_ranges.specs.Runs.{covers, IsCanonical}
use Rattle.cover_ranges.proofs.Runs.{united_next, or_turn, second_there, one_within, fewer_first, fewer_second, both_le}
use Rattle.cover_ranges.proofs.RunSets.{union_at_ends}
use Rattle.cover_ranges.proofs.set.Cover.union.Goals.{then-i-mine, else-i-mine+then-j-theirs}
use Rattle.cover_ranges.proofs.set.Cover.union.Goals as goal

pub insert_from-requires-clause-is_there : goal.insert_from-requires-clause-is_there
insert_from-requires-clause-is_there g c = c.if-comes_next.ensures

pub insert_from-requires-clause-canonical : goal.insert_from-requires-clause-canonical
insert_from-requires-clause-canonical g c = subst IsCanonical (sym c.ranges-mine.ensures.lists_runs) c.ranges-mine.ensures.canonical

pub loop-i-preserved-then-comes_next : goal.loop-i-preserved-then-comes_next
loop-i-preserved-then-comes_next g c = record {
  mine = one_within c.loop-i.i (length c.ranges-mine.result.now) c.if-comes_next.ensures;
  theirs = c.loop-i.invariant.theirs;
  both =
      united_next c.ranges-mine.result.now c.loop-i.i (pos 0, pos 0) c.loop-i.both.runs c.insert_from.new.self.runs (λ o. covers (take c.loop-i.j c.ranges-theirs.result.now) o) c.if-comes_next.ensures
      c.loop-i.invariant.both c.in_ok-insert_from.ensures.adds_offsets;
  canonical = c.in_ok-insert_from.ensures.canonical;
}

pub loop-i-smaller-then-comes_next : goal.loop-i-smaller-then-comes_next
loop-i-smaller-then-comes_next g c = fewer_first c.loop-i.i (length c.ranges-mine.result.now) c.loop-i.j (length c.ranges-theirs.result.now) c.if-comes_next.ensures

pub insert_from-requires-else-comes_next-clause-is_there : goal.insert_from-requires-else-comes_next-clause-is_there
insert_from-requires-else-comes_next-clause-is_there g c =
    let some : (c.loop-i.i < length c.ranges-mine.result.now) ⊎ (c.loop-i.j < length c.ranges-theirs.result.now) = elim c.if-i-mine.branch [ then-i-mine w ↦ inl w.if-i-mine.true | else-i-mine+then-j-theirs w ↦ inr w.if-j-theirs.true ] in
    second_there c.loop-i.i (length c.ranges-mine.result.now) c.loop-i.j (length c.ranges-theirs.result.now) c.if-comes_next.ensures some

pub insert_from-requires-else-comes_next-clause-canonical : goal.insert_from-requires-else-comes_next-clause-canonical
insert_from-requires-else-comes_next-clause-canonical g c = subst IsCanonical (sym c.ranges-theirs.ensures.lists_runs) c.ranges-theirs.ensures.canonical

pub loop-i-smaller : goal.loop-i-smaller
loop-i-smaller g c =
    let some : (c.loop-i.i < length c.ranges-mine.result.now) ⊎ (c.loop-i.j < length c.ranges-theirs.result.now) = elim c.if-i-mine.branch [ then-i-mine w ↦ inl w.if-i-mine.true | else-i-mine+then-j-theirs w ↦ inr w.if-j-theirs.true ] in
    fewer_second c.loop-i.i (length c.ranges-mine.result.now) c.loop-i.j (length c.ranges-theirs.result.now) (second_there c.loop-i.i (length c.ranges-mine.result.now) c.loop-i.j (length c.ranges-theirs.result.now) c.if-comes_next.ensures some)

pub loop-i-preserved : goal.loop-i-preserved
loop-i-preserved g c =
    let some : (c.loop-i.i < length c.ranges-mine.result.now) ⊎ (c.loop-i.j < length c.ranges-theirs.result.now) = elim c.if-i-mine.branch [ then-i-mine w ↦ inl w.if-i-mine.true | else-i-mine+then-j-theirs w ↦ inr w.if-j-theirs.true ] in
    let there = second_there c.loop-i.i (length c.ranges-mine.result.now) c.loop-i.j (length c.ranges-theirs.result.now) c.if-comes_next.ensures some in
    record {
      mine = c.loop-i.invariant.mine;
      theirs = one_within c.loop-i.j (length c.ranges-theirs.result.now) there;
      both = λ o.
          united_next c.ranges-theirs.result.now c.loop-i.j (pos 0, pos 0) c.loop-i.both.runs c.insert_from-else-comes_next.new.self.runs (λ x. covers (take c.loop-i.i c.ranges-mine.result.now) x) there
          (λ x. c.loop-i.invariant.both x ∙ or_turn (covers (take c.loop-i.i c.ranges-mine.result.now) x) (covers (take c.loop-i.j c.ranges-theirs.result.now) x)) c.in_ok-insert_from-2.ensures.adds_offsets o
          ∙ or_turn (covers (take (c.loop-i.j + 1) c.ranges-theirs.result.now) o) (covers (take c.loop-i.i c.ranges-mine.result.now) o);
      canonical = c.in_ok-insert_from-2.ensures.canonical;
    }

pub returns-clause-unites_runs : goal.returns-clause-unites_runs
returns-clause-unites_runs g c =
    union_at_ends c.args.self.now.runs c.args.other.now.runs c.ranges-mine.result.now c.ranges-theirs.result.now c.loop-i.both.runs c.loop-i.i c.loop-i.j
    c.ranges-mine.ensures.lists_runs c.ranges-theirs.ensures.lists_runs (both_le c.loop-i.i _ c.loop-i.invariant.mine c.if-i-mine.false) (both_le c.loop-i.j _ c.loop-i.invariant.theirs c.if-j-theirs.false) c.ranges-mine.ensures.canonical c.ranges-theirs.ensures.canonical c.loop-i.invariant.canonical c.loop-i.invariant.both
