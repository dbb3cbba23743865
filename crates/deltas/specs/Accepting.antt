-- Which deltas a copy may take.
use Rattle.std.specs.Prelude.{◌≡◌, ◌⊎◌, ℤ, ◌≤ℤ◌, ◌<ℤ◌, Bool, true, List, Some}
use Rattle.std.specs.List.{AllByRecursion, list_any, list_all}
use Rattle.std.specs.Int.{int_max}
use Rattle.std.specs.Ordering.{int_eq}
use Rattle.batch_codec.specs.Values.{BatchValue}
use Rattle.batch_codec.specs.Offsets.{first_offset, last_offset}
use Rattle.cover_ranges.specs.Runs.{Runs, covers, has_all}
use Rattle.content.specs.ByOffset.{look_up}
use Rattle.content.specs.Content.{Content}
use Rattle.content.specs.Joins.{AgreeAt}
use Rattle.deltas.specs.Entries.{sent}
use Rattle.deltas.specs.Deltas.{Delta}
use Rattle.deltas.specs.Patches.{said_at}
use Rattle.deltas.specs.Patches.Said.{Lists}

-- the sender without what is only listed
abbrev pub sent_part : Delta → Content
sent_part e = record { start = e.start; cover = e.cover; kept = sent e.entries }

-- seen, or below the start
abbrev pub IsKnown : Content → ℤ → Type 0
IsKnown c o = (o <ℤ c.start) ⊎ (covers c.cover o ≡ true)

-- the copy knows all that was asked
abbrev pub IsFor : Content → Runs → Type 0
IsFor c asked = (o : ℤ) → covers asked o ≡ true → IsKnown c o

-- an offset was asked that the copy doesn't know
abbrev pub HasUnknown : Content → Runs → Type 0
HasUnknown c asked = (o : ℤ) × (covers asked o ≡ true) × ¬ IsKnown c o

-- whether it knows all, as a test: whether one run has all of each asked range, from the start on
abbrev pub has_seen_range : Content → ℤ × ℤ → Bool
has_seen_range c range = has_all c.cover (int_max c.start range.0) range.1

abbrev pub is_for : Content → Runs → Bool
is_for c asked = list_all (has_seen_range c) asked

-- A list at a base below the start lists nothing from the start on. At any other base it is of a batch
-- that the copy has seen, and where that is kept, it ends in its span.
abbrev pub ListFitsAt : Content → Delta → ℤ → Type 0
ListFitsAt c e base = (offsets : List ℤ) → said_at e base ≡ Lists offsets →
    (base <ℤ c.start → AllByRecursion (λ o. o <ℤ c.start) offsets)
    × (c.start ≤ℤ base → (covers c.cover base ≡ true)
    × ((b : BatchValue) → look_up first_offset base c.kept ≡ Some b →
    AllByRecursion (λ o. o ≤ℤ last_offset b) offsets))

-- what is sent may be merged, and what is listed fits
abbrev pub AcceptsAt : Content → Delta → ℤ → Type 0
AcceptsAt c e base = AgreeAt c (sent_part e) base × ListFitsAt c e base

-- the copy may take the delta
abbrev pub Accepts : Content → Delta → Type 0
Accepts c e = (base : ℤ) → AcceptsAt c e base

-- the least base at which the copy may not take it
abbrev pub IsFirstFault : Content → Delta → ℤ → Type 0
IsFirstFault c e base = ¬ AcceptsAt c e base × ((before : ℤ) → before <ℤ base → AcceptsAt c e before)

-- the delta lists the offset
abbrev pub HasListed : Delta → ℤ → Type 0
HasListed e o = (base : ℤ) × (offsets : List ℤ) × (said_at e base ≡ Lists offsets)
    × (list_any (λ q. int_eq q o) offsets ≡ true)
