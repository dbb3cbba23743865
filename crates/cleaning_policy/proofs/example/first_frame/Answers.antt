use Rattle.std.proofs.Common.{[], ◌∷◌, ap, ◌∙◌}
use Rattle.cleaning_policy.specs.Policies.{told, with_partition}
use Rattle.cleaning_policy.specs.Histories.Call.{Add, Tell}
use Rattle.cleaning_policy.proofs.Bounding.{for_caller}
use Rattle.cleaning_policy.proofs.example.first_frame.Goals as goal

pub returns : goal.returns
returns g c = record {
  bounded =
      for_caller c.args.settings (Tell c.args.told 0 c.args.extent ∷ (Add c.args.told ∷ [])) c.args.now c.tell.new.self c.next-frame.result
      (c.in_ok-tell.ensures.tells ∙ ap (told c.args.told 0 c.args.extent) (c.in_ok-add.ensures.adds ∙ ap (with_partition c.args.told) c.new-policy.ensures))
      c.next-frame.ensures.bounded;
}
