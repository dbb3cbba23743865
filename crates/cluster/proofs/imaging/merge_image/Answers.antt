use Rattle.std.proofs.Common.{◌≡◌, ℤ, subst}
use Rattle.content.specs.Content.{Content}
use Rattle.content.specs.Joins.{Agree}
use Rattle.copy_merge.specs.Merges.{RefusesMerge}
use Rattle.copy_merge.specs.declared.error.MergeError.{MergeError}
use Rattle.copy_merge.specs.declared.error.MergeError.TheVariants.{Disagree}
use Rattle.cluster.proofs.imaging.merge_image.Goals as goal

never : (a b : Content) (base : ℤ) (e : MergeError) → e ≡ Disagree base → Agree a b → RefusesMerge a b e → ⊥
never a b base e is agree refuses = (subst (RefusesMerge a b) is refuses).0 (agree base)

pub unreachable-requires : goal.unreachable-requires
unreachable-requires g c =
    never c.args.copy.now c.in-Ok.sent c.in-Err-Disagree.field-0-0 c.in-Err-Disagree.field-0 c.in-Err-Disagree.field-0-is (c.requires c.in-Ok.sent c.in-Ok.ensures.accepts_an_image) c.in-Err-Disagree.ensures.refuses
