use Rattle.std.proofs.Common.{◌≡◌, rules, ap, ◌∙◌, w32}
use Rattle.std.specs.Int.{cast_signed}
use Rattle.std.proofs.lemmas.Int.{to_z-of_z}
use Rattle.checksum.specs.Crc.{crc_of}
use Rattle.frame_fields.specs.Fields.{size16, size32, be}
use Rattle.cleaning_marks.specs.declared.layout.TheConstants.{MARK, VERSION}
use Rattle.cleaning_marks.specs.Files.{covered}
use Rattle.cleaning_marks.proofs.Judging.{crc_is}
use Rattle.cleaning_marks.proofs.reading.crc_of_fields.Goals as goal

pub returns : goal.returns
returns c =
    let fields = c.args.fields.now in
    let value : c.value.result ≡ crc_of (covered fields) = crc_is c.value.result (be size32 MARK) (be size16 VERSION) fields (search rules) in
    to_z-of_z w32 c.cast_signed.result (search rules) ∙ (c.cast_signed.ensures ∙ ap (cast_signed w32) value)
