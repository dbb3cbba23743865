use Rattle.std.proofs.Common.{refl, ◌∙◌, ◌+ℤ◌, ℤ, rules}
use Rattle.std.specs.Prelude.{FitsSigned}
use Rattle.std.specs.Int.{w32, w64, cast_signed, cast_unsigned}
use Rattle.std.proofs.lemmas.Int.{to_z-of_z}
use Rattle.batch_codec.specs.Views.{record_value}
use Rattle.copy_deltas.proofs.Entries.{offset_put}
use Rattle.copy_deltas.proofs.write.put_offset.Goals as goal

pub returns : goal.returns
returns g c =
    let sum : ℤ = cast_signed w64 (cast_unsigned w64 c.base.result) +ℤ cast_signed w64 (cast_unsigned w64 c.from.result) in
    let base : FitsSigned w64 c.base.result = search rules in
    let delta : FitsSigned w64 c.from.result = search rules in
    let narrow : FitsSigned w32 c.args.rec.now.delta = search rules in
    let fits : FitsSigned w64 (cast_signed w64 (cast_unsigned w64 c.base.result) +ℤ cast_signed w64 (cast_unsigned w64 c.from.result)) = search rules in
    offset_put c.extend_from_slice.result c.args.out.now.items c.extend_from_slice.new.self.items c.to_be_bytes.result c.args.batch.now (record_value c.args.rec.now) c.base.result c.from.result sum base delta fits
    c.base.ensures (c.from.ensures ∙ to_z-of_z w32 c.args.rec.now.delta narrow) refl c.to_be_bytes.ensures c.extend_from_slice.ensures.items
