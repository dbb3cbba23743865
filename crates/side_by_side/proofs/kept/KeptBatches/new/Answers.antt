use Rattle.std.proofs.Common.{◌≡◌, ◌++◌, sym, subst, ◌∙◌}
use Rattle.std.specs.List.{AllByRecursion}
use Rattle.std.specs.Option.{option_to_list}
use Rattle.content.specs.Records.{IsKeepable}
use Rattle.side_by_side.specs.Steps.{HasSpan}
use Rattle.side_by_side.proofs.KeptRange.{shown, none_behind, all_have_spans}
use Rattle.side_by_side.proofs.kept.KeptBatches.new.Goals as goal

pub invariant_of-result : goal.invariant_of-result
invariant_of-result g c =
    let all : c.args.copy.now.kept ≡ option_to_list c.next-first.result ++ c.next-first.new.self = sym (shown c.next-first.result c.walk-walk.result c.next-first.new.self c.next-first.ensures.gives ∙ c.walk-walk.ensures.walks) in (
      none_behind c.next-first.result c.walk-walk.result c.next-first.new.self c.next-first.ensures.gives,
      subst (AllByRecursion HasSpan) all (all_have_spans c.args.copy.now c.walk-walk.ensures.is_content),
      subst (AllByRecursion IsKeepable) all c.walk-walk.ensures.is_content.keepable,
    )
