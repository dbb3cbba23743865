use Rattle.std.proofs.Common.{rules}
use Rattle.script_words.proofs.Texts.{says_all, says_none, says_more}
use Rattle.script_words.proofs.escapes.unescape.Goals as goal

pub loop-rest-init : goal.loop-rest-init
loop-rest-init g c = says_none c.args.text.now c.in_ok-bytes.bytes.items c.in_ok-bytes.ensures.items

pub loop-rest-preserved : goal.loop-rest-preserved
loop-rest-preserved g c = says_more c.args.text.now c.loop-rest.rest.now c.loop-rest.bytes.items c.push.new.self.items c.next_byte-byte.result.0 c.next_byte-byte.result.1
    c.next_byte-byte.ensures.says c.in_ok-push.ensures.items c.loop-rest.invariant

pub returns : goal.returns
returns g c = says_all _ c.loop-rest.rest.now _ (search rules) c.loop-rest.invariant
