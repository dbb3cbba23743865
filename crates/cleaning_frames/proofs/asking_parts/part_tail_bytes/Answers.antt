use Rattle.std.proofs.Common.{◌∷◌, [], ℕ, List, ◌++◌, ap₂, ◌∙◌}
use borrow.Rule.Slice.PartMut.{put_mid}
use Rattle.frame_fields.specs.Fields.{encoded}
use Rattle.cleaning_frames.proofs.AskedParts.{front_sent, offsets_sent}
use Rattle.cleaning_frames.proofs.asking_parts.part_tail_bytes.Goals as goal

pub returns : goal.returns
unfolding encoded
returns c =
    ap₂ (λ (x y : List ℕ). put_mid 20 16 (x ++ 0 ∷ 0 ∷ 0 ∷ 0 ∷ 0 ∷ 0 ∷ 0 ∷ 0 ∷ 0 ∷ 0 ∷ 0 ∷ 0 ∷ 0 ∷ 0 ∷ 0 ∷ 0 ∷ []) y)
    (c.copy_from_slice.ensures.after ∙ front_sent c.args.partition c.args.from c.args.to c.tail_bytes.result c.ranges.partition c.ranges.from c.ranges.to c.tail_bytes.ensures)
    (c.copy_from_slice-2.ensures.after ∙ offsets_sent c.args.upto c.args.tomb_before c.offset_bytes.result c.ranges.upto c.ranges.tomb_before c.offset_bytes.ensures)
