use Rattle.std.proofs.Common.{refl, sym, ap, ◌∙◌}
use Rattle.std.specs.Int.{w64, int_max}
use Rattle.std.specs.Option.{option_copied_mut, is_some}
use Rattle.std.proofs.lemmas.Int.{to_z-of_z}
use Rattle.newest_keys.proofs.Maps.{seen, raise_one}
use Rattle.newest_keys.proofs.keys.put_there.Goals as goal

pub returns-in-Some-clause-raises : goal.returns-in-Some-clause-raises
returns-in-Some-clause-raises g c = λ yes.
    let at = sym c.get_mut.ensures.value ∙ ap option_copied_mut c.in-Some.is in
    let written = (c.get_mut.follows.holds _).3 (ap is_some at) in
    raise_one (λ k. k.items) _ (λ x y. refl) c.args.key.now c.in-Some.there.now c.raise.new.there c.args.offset c.args.shard.now.entries _ at
    (c.raise.ensures ∙ ap (int_max c.in-Some.there.now) (to_z-of_z w64 c.args.offset c.ranges.offset)) written.1 written.3

pub returns-in-Some-clause-there : goal.returns-in-Some-clause-there
returns-in-Some-clause-there g c = sym (ap is_some (seen (λ k. k.items) c.args.key.now c.args.shard.now.entries ∙ sym c.get_mut.ensures.value ∙ ap option_copied_mut c.in-Some.is))

pub returns-in-None-clause-there : goal.returns-in-None-clause-there
returns-in-None-clause-there g c = sym (ap is_some (seen (λ k. k.items) c.args.key.now c.args.shard.now.entries ∙ sym c.get_mut.ensures.value ∙ ap option_copied_mut c.in-None.is))
