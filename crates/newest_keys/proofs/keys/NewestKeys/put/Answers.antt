use Rattle.std.proofs.Common.{map, sym, ap, ◌∙◌, rules}
use Rattle.std.specs.Prelude.{is_none}
use Rattle.std.specs.Int.{w64}
use Rattle.std.proofs.lemmas.Int.{to_z-of_z}
use Rattle.newest_keys.specs.Shards.{entries_of}
use Rattle.newest_keys.proofs.Maps.{put_in_one, at_shard, kept_one, on_ok, on_err, if_ok}
use Rattle.newest_keys.proofs.keys.NewestKeys.put.Goals as goal

pub returns : goal.returns
returns g c = record {
  puts = on_ok c.put_in.result (λ puts k.
      put_in_one entries_of c.self.inside.shards.items c.args.self.now c.len.result c.shard_of-shard.result c.index_mut.result.now c.put_in.new.shard _ c.args.key.now k _ c.args.offset c.self.view_is (c.len.ensures ∙ search rules) c.shard_of-shard.ensures.within c.shard_of-shard.ensures.shard
      c.index_mut.ensures.value (to_z-of_z w64 c.args.offset c.ranges.offset) puts) c.put_in.ensures.puts;
  says_new = if_ok c.put_in.result (λ new says.
      says ∙ ap is_none (sym (at_shard entries_of c.self.inside.shards.items c.args.self.now c.len.result c.shard_of-shard.result c.index_mut.result.now _ c.args.key.now c.self.view_is (c.len.ensures ∙ search rules) c.shard_of-shard.ensures.within c.shard_of-shard.ensures.shard
      c.index_mut.ensures.value))) c.put_in.ensures.says_new;
  unchanged_on_error = on_err c.put_in.result (λ same.
      kept_one entries_of c.self.inside.shards.items c.args.self.now c.len.result c.shard_of-shard.result c.index_mut.result.now c.put_in.new.shard _ c.self.view_is (c.len.ensures ∙ search rules) c.shard_of-shard.ensures.within c.index_mut.ensures.value
      (ap (map (λ e. (e.0.items, e.1))) same)) c.put_in.ensures.unchanged_on_error;
}
