use Rattle.std.proofs.Common.{◌≡◌, ◌+◌, length, rules}
use Rattle.snapshot_drafts.proofs.Slices.{put_back}
use Rattle.snapshot_drafts.proofs.memory.put_at.Goals as goal

pub returns : goal.returns
returns g c =
    let end : c.in_ok-end.end ≡ c.args.at + length c.args.bytes.now = search rules in
    let long : c.lengthen.new.file.len ≡ length c.lengthen.new.file.items = search rules in
    put_back c.args.at c.in_ok-end.end c.lengthen.new.file.len c.args.bytes.now c.args.file.now.items c.lengthen.new.file.items c.deref_mut.result.now c.overwrite.new.file
    end c.in_ok-lengthen.ensures c.deref_mut.ensures.value c.overwrite.ensures.puts c.overwrite.ensures.keeps c.overwrite.auto.file long
