-- How a group, or a protocol, is found by its name: names lie in buckets, and each leads to the one before it in its bucket.
use Rattle.std.specs.Prelude.{◌≡◌, ◌≤◌, ◌<◌, ℕ, zero, suc, ◌/◌, ◌%◌, ◌==◌, Bool, List, [], map, length, get_or, if◌then◌else◌}
use Rattle.std.specs.Hash.FoldHasher.{initial, write, finish}
use Rattle.group_coordinator.specs.Members.{Protocol}
use Rattle.group_coordinator.specs.Groups.{Group}

-- the hash of a name; any function of it would serve
unfoldable pub hash_of : List ℕ → ℕ
hash_of name = finish (write initial name)

-- which of so many buckets a name lies in
abbrev pub bucket_of : (count : ℕ) → List ℕ → ℕ
bucket_of count name = hash_of name / 4294967296 % count

abbrev pub is_in_bucket : (count bucket : ℕ) → List ℕ → Bool
is_in_bucket count bucket name = bucket_of count name == bucket

-- one more than the last index below a bound at which a test holds; 0 where it holds at none
abbrev pub last_below : (List ℕ → Bool) → List (List ℕ) → ℕ → ℕ
last_below t names zero = 0
last_below t names (suc k) = if t (get_or names k []) then suc k else last_below t names k

-- For each bucket, one more than the index of its last name, or 0; for each name, the same of those before it in its bucket; and
-- for how many names there is room.
pub record Chains : Type 0 where
  pub last : List ℕ
  pub before : List ℕ
  pub capacity : ℕ

-- Chains of so many buckets lead to each of these names.
pub record Leads (buckets : ℕ) (last before : List ℕ) (names : List (List ℕ)) : Type 0 where
  pub ends : (b : ℕ) → b < buckets → get_or last b 0 ≡ last_below (is_in_bucket buckets b) names (length names)
  pub links : (i : ℕ) → i < length names → get_or before i 0 ≡ last_below (is_in_bucket buckets (bucket_of buckets (get_or names i []))) names i

-- These chains are those of these names.
pub record Finds (c : Chains) (names : List (List ℕ)) : Type 0 where
  pub leads : Leads (length c.last) c.last c.before names
  pub count : length c.before ≡ length names
  pub wide : length names ≤ length c.last
  pub room : length names ≤ c.capacity

-- there is room for one name more
abbrev pub HasPlace : Chains → Type 0
HasPlace c = (length c.before < length c.last) × (length c.before < c.capacity)

abbrev pub names_of : List Group → List (List ℕ)
names_of gs = map (λ g. g.name) gs

abbrev pub protocol_names : List Protocol → List (List ℕ)
protocol_names ps = map (λ p. p.name) ps
