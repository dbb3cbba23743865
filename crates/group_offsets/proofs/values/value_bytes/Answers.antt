use Rattle.std.proofs.Common.{◌≡◌, rules}
use Rattle.frame_fields.specs.Fields.{size16, size64, be}
use Rattle.group_offsets.specs.declared.layout.TheConstants.{VALUE_VERSION}
use Rattle.group_offsets.specs.CommittedValues.{text_of}
use Rattle.group_offsets.proofs.PartsWritten.{value_parts}
use Rattle.group_offsets.proofs.values.value_bytes.Goals as goal

pub returns : goal.returns
returns g c =
    let version : c.to_be_bytes.result ≡ be size16 VALUE_VERSION = search rules in
    let offset : c.to_be_bytes-2.result ≡ be size64 c.args.offset = search rules in
    value_parts (record { offset = c.args.offset; metadata = text_of c.args.metadata }) c.in_ok-value.value.items c.extend_from_slice.new.self.items c.extend_from_slice-2.new.self.items c.put_metadata.new.out.items
    c.to_be_bytes.result c.to_be_bytes-2.result c.in_ok-value.ensures.items version offset
    c.in_ok-extend_from_slice.ensures.items c.in_ok-extend_from_slice-2.ensures.items c.in_ok-put_metadata.ensures
