use Rattle.std.proofs.Common.{◌≡◌, None, length, rules, ap, ◌∙◌, w32}
use Rattle.std.specs.Prelude.{pos}
use Rattle.std.specs.Int.{cast_signed}
use Rattle.std.proofs.lemmas.Int.{to_z-of_z}
use Rattle.checksum.specs.Crc.{crc_of}
use Rattle.frame_fields.specs.Fields.{size16, size32, be}
use Rattle.snapshots.specs.declared.layout.TheConstants.{MARK, OLD_VERSION}
use Rattle.snapshots.specs.Heads.{covered}
use Rattle.snapshots.proofs.Judging.{crc_is}
use Rattle.snapshots.proofs.head.crc_of_old_head.Goals as goal

pub returns : goal.returns
returns c =
    let fields = c.args.fields.now in
    let value : c.value.result ≡ crc_of (covered None fields) = crc_is c.value.result (be size32 MARK) (be size16 OLD_VERSION) (be size32 (pos (length fields))) fields (search rules) in
    to_z-of_z w32 c.cast_signed.result (search rules) ∙ (c.cast_signed.ensures ∙ ap (cast_signed w32) value)
