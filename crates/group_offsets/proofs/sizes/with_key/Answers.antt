use Rattle.std.proofs.Common.{◌≡◌, ◌+◌, pos, length, ap, ◌∙◌, rules}
use Rattle.varint.specs.Encoding.{encoding}
use Rattle.batch_codec.specs.Writing.{within}
use Rattle.group_offsets.proofs.BatchSizes.{key_over, counted}
use Rattle.group_offsets.proofs.sizes.with_key.Goals as goal

pub returns-then-key-gt-MAX_BATCH_BYTES : goal.returns-then-key-gt-MAX_BATCH_BYTES
returns-then-key-gt-MAX_BATCH_BYTES c = key_over c.args.size c.args.delta c.args.key.now c.if-key-gt-MAX_BATCH_BYTES.true

pub returns : goal.returns
returns c =
    let a = c.len_i64.result in
    let b = c.len_i64-2.result in
    let n = length c.args.key.now in
    let delta : a ≡ length (encoding (pos c.args.delta)) = search rules in
    let key : b ≡ length (encoding (pos n)) = search rules in
    let body : c.len_i64-3.result ≡ length (encoding (pos (4 + a + b + n))) = search rules in
    c.within.ensures ∙ ap within (counted c.args.size c.args.delta c.args.key.now a b c.len_i64-3.result delta key body)
