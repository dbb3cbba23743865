-- What the connections of each address make together. How that is kept is this project's own.
use Rattle.std.specs.Prelude.{ℕ, Bool, ◌+◌, ◌-◌, ◌^◌, min, nat_le, List, Option, Some, None, if◌then◌else◌}
use Rattle.std.specs.Map.{lookup}
use Rattle.listeners.specs.declared.addresses.Share.{Share}

-- what an address has, if it has a connection; addresses are the same by `eq`
abbrev pub share_at : {K : Type 0} → (eq : K → K → Bool) → List (K × Share) → K → Option Share
share_at eq shares k = lookup (eq k) shares

-- how many connections that are, and how many bytes
abbrev pub count_of : Option Share → ℕ
count_of None = 0
count_of (Some share) = share.count

abbrev pub kept_of : Option Share → ℕ
kept_of None = 0
kept_of (Some share) = share.kept

-- with one connection more, for which nothing is kept; there are at most 2^32 - 1
abbrev pub with_one : Option Share → Share
with_one None = record { count = 1; kept = 0 }
with_one (Some share) = record share { count = min (share.count + 1) (2 ^ 32 - 1) }

-- with one connection less, for which so many bytes were kept: none, where it was the last one
abbrev pub without_one : (kept : ℕ) → Share → Option Share
without_one kept share = if nat_le share.count 1 then None else Some (record { count = share.count - 1; kept = share.kept - kept })

-- with so many bytes in the place of so many
abbrev pub with_kept : (before now : ℕ) → Share → Share
with_kept before now share = record share { kept = min (share.kept - before + now) (2 ^ 64 - 1) }
