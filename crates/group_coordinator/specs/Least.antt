-- The least of some times, one after the other.
use Rattle.std.specs.Prelude.{ℕ, not, min, List, map, Option, Some, None}
use Rattle.std.specs.List.{filter, fold}
use Rattle.group_coordinator.specs.Members.{Member}
use Rattle.group_coordinator.specs.Times.{is_waiting}

abbrev pub earlier : Option ℕ → ℕ → ℕ
earlier None t = t
earlier (Some a) t = min a t

-- the least of these, and of the one before
abbrev pub earliest : Option ℕ → List ℕ → Option ℕ
earliest before ts = fold (λ a t. Some (earlier a t)) before ts

-- until when those are thought alive that don't wait
abbrev pub member_times : List Member → List ℕ
member_times ms = map (λ m. m.until) (filter (λ m. not (is_waiting m)) ms)
