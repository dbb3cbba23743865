use Rattle.std.proofs.Common.{w64, ap}
use Rattle.std.proofs.lemmas.Int.{to_z-of_z}
use Rattle.cover_ranges.specs.CoverValue.{CoverValue}
use Rattle.cover_ranges.proofs.Cutting.{left_canonical, left_covers}
use Rattle.cover_ranges.proofs.set.Cover.cut_below.Goals as goal

pub invariant_of-self : goal.invariant_of-self
invariant_of-self g c = left_canonical _ c.self.inside.ranges.items c.cut_below.new.ranges.items c.self.invariant c.cut_below.ensures.items

pub returns-clause-canonical : goal.returns-clause-canonical
returns-clause-canonical g c = left_canonical _ c.self.inside.ranges.items c.cut_below.new.ranges.items c.self.invariant c.cut_below.ensures.items

pub returns-clause-keeps_later_offsets : goal.returns-clause-keeps_later_offsets
returns-clause-keeps_later_offsets g c =
    left_covers c.args.start _ c.args.self.now.runs c.self.inside.ranges.items c.cut_below.new.ranges.items (ap (λ (h : CoverValue). h.runs) c.self.view_is) (to_z-of_z w64 c.args.start c.ranges.start) c.cut_below.ensures.items
