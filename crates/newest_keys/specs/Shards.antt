-- Maps that share the keys: each has those whose hash tells of it. Words of the model, and of private clauses.
use Rattle.std.specs.Prelude.{ℕ, ℤ, ◌/◌, ◌%◌, bytes_eq, List, [], map, length, slice_index_or}
use Rattle.std.specs.declared.vec.Vec.{Vec}
use Rattle.std.specs.Hash.FoldHasher.{initial, write, finish}
use Rattle.std.specs.Map.{lookup}
use Rattle.indexmap.specs.IndexMap as index
use Rattle.newest_keys.specs.Newest.{Newest}

-- the hash of a key's bytes; any function of them would serve
unfoldable pub hash_of : List ℕ → ℕ
hash_of key = finish (write initial key)

-- which of so many maps has a key
abbrev pub shard_of : ℕ → List ℕ → ℕ
shard_of count key = hash_of key / 4294967296 % count

-- the entries of a map
abbrev pub entries_of : {A S : Type 0} → index.IndexMap (Vec ℕ A) ℤ S → List (List ℕ × ℤ)
entries_of m = map (λ e. (e.0.items, e.1)) m.entries

-- the entries of each map
abbrev pub Shards : Type 0
Shards = List (List (List ℕ × ℤ))

-- what the maps have at each key
abbrev pub newest_in : Shards → Newest
newest_in shards key = lookup (bytes_eq key) (slice_index_or shards (shard_of (length shards) key) [])
