use Rattle.std.proofs.Common.{rules, ◌≡◌, ◌∙◌, length, drop}
use Rattle.std.proofs.lemmas.List.{take_at}
use Rattle.responses.proofs.ResponseParts.{finished}
use Rattle.responses.proofs.parts.finish_response.Goals as goal

pub returns-clause-finishes : goal.returns-clause-finishes
returns-clause-finishes g c front fields correlation is at =
    let back : length c.set_size.new.bytes ≡ c.args.out.now.len = search rules in
    take_at c.set_size.new.bytes (drop (length c.set_size.new.bytes) c.args.out.now.items) c.args.out.now.len back
    ∙ finished c.deref_mut.result.now c.set_size.new.bytes c.args.start c.set_size.ensures front fields correlation (c.deref_mut.ensures.value ∙ is) at
