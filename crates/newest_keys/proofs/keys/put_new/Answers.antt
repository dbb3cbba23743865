use Rattle.std.proofs.Common.{refl, ap, ◌∙◌, Some}
use Rattle.std.specs.Prelude.{ℤ}
use Rattle.std.specs.Int.{w64}
use Rattle.std.proofs.lemmas.Int.{to_z-of_z}
use Rattle.newest_keys.proofs.Maps.{put_one}
use Rattle.newest_keys.proofs.keys.put_new.Goals as goal

pub returns : goal.returns
returns g c =
    let updates = c.in_ok-insert.ensures.updates in
    record {
      unchanged_on_error = tt;
      puts = put_one (λ k. k.items) _ (λ x y. refl) c.args.key.items c.args.offset c.args.shard.now.entries c.insert.new.self.entries
          (updates.1 ∙ ap (λ (o : ℤ). Some o) (to_z-of_z w64 c.args.offset c.ranges.offset)) updates.3;
    }
