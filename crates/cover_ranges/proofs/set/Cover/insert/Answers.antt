use Rattle.std.proofs.Common.{w64, ap}
use Rattle.std.specs.Prelude.{is_ok}
use Rattle.std.proofs.lemmas.Int.{to_z-of_z}
use mir.Val.{SFits}
use Rattle.cover_ranges.specs.CoverValue.{CoverValue}
use Rattle.cover_ranges.specs.Insertion.{Reaches}
use Rattle.cover_ranges.proofs.Splice.{inserted_canonical, inserted_added}
use Rattle.cover_ranges.proofs.RunSets.{range_only_ok}
use Rattle.cover_ranges.proofs.set.Cover.insert.Goals as goal

pub invariant_of-self : goal.invariant_of-self
invariant_of-self g c =
    let splice = c.splice_of-splice.result in
    inserted_canonical (is_ok c.replace.result) c.deref.result.now c.self.inside.ranges.items c.replace.new.ranges.items splice.start splice.end _ _ splice.range c.deref.ensures.value c.self.invariant
    c.splice_of-splice.ensures c.replace.ensures.items

pub returns-clause-canonical : goal.returns-clause-canonical
returns-clause-canonical g c =
    let splice = c.splice_of-splice.result in
    inserted_canonical (is_ok c.replace.result) c.deref.result.now c.self.inside.ranges.items c.replace.new.ranges.items splice.start splice.end _ _ splice.range c.deref.ensures.value c.self.invariant
    c.splice_of-splice.ensures c.replace.ensures.items

pub returns-clause-adds_offsets : goal.returns-clause-adds_offsets
returns-clause-adds_offsets g c =
    let fits_first : SFits w64 c.args.first = c.ranges.first in
    let fits_last : SFits w64 c.args.last = c.ranges.last in
    let splice = c.splice_of-splice.result in
    let reached : Reaches c.deref.result.now splice.start splice.end c.args.first c.args.last splice.range = simp to_z-of_z at c.splice_of-splice.ensures in
    inserted_added c.replace.result c.deref.result.now c.self.inside.ranges.items c.args.self.now.runs c.replace.new.ranges.items splice.start splice.end c.args.first c.args.last splice.range c.deref.ensures.value
    (ap (λ (h : CoverValue). h.runs) c.self.view_is) reached c.replace.ensures.items

pub returns-clause-adds_range : goal.returns-clause-adds_range
returns-clause-adds_range g c =
    range_only_ok c.replace.result c.args.first c.args.last c.self.inside.ranges.items c.args.self.now.runs c.replace.new.ranges.items (ap (λ (h : CoverValue). h.runs) c.self.view_is)
    c.requires.not_negative c.requires.not_empty c.requires.in_bounds c.self.invariant (returns-clause-canonical g c) (returns-clause-adds_offsets g c)
