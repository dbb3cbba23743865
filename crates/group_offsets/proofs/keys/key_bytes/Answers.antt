use Rattle.std.proofs.Common.{◌≡◌, rules}
use Rattle.frame_fields.specs.Fields.{size16, size32, be}
use Rattle.group_offsets.specs.declared.layout.TheConstants.{KEY_VERSION}
use Rattle.group_offsets.proofs.PartsWritten.{key_parts}
use Rattle.group_offsets.proofs.keys.key_bytes.Goals as goal

pub returns : goal.returns
returns g c =
    let version : c.to_be_bytes.result ≡ be size16 KEY_VERSION = search rules in
    let partition : c.to_be_bytes-2.result ≡ be size32 c.args.partition = search rules in
    key_parts (record { group = c.args.group.now; topic = c.args.topic.now; partition = c.args.partition }) c.in_ok-key.key.items c.extend_from_slice.new.self.items c.put_text.new.out.items c.put_text-2.new.out.items c.extend_from_slice-2.new.self.items
    c.to_be_bytes.result c.to_be_bytes-2.result c.in_ok-key.ensures.items version partition
    c.in_ok-extend_from_slice.ensures.items c.in_ok-put_text.ensures c.in_ok-put_text-2.ensures c.in_ok-extend_from_slice-2.ensures.items
