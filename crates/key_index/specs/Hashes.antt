-- The hash by which a key is found. Any function of the key's bytes would serve.
use Rattle.std.specs.Prelude.{ℕ, List}
use Rattle.std.specs.Hash.FoldHasher.{initial, write, finish}

-- the hash of a key's bytes
unfoldable pub hash_of : List ℕ → ℕ
hash_of key = finish (write initial key)
