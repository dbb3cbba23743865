use Rattle.std.proofs.Common.{rules}
use Rattle.answering.proofs.Begun.{size_is_there}
use Rattle.answering.proofs.once.respond_with.Goals as goal

pub finish_response-requires : goal.finish_response-requires
finish_response-requires g c =
    size_is_there c.args.out.now.items c.put_response.new.out.items _ _ _ _ c.in-Ok.ensures.appends (search rules) (search rules)
