-- Deliveries of batches to a copy, in any order and with repeats. Kafka's design documentation,
-- "Replication": a copy takes the leader's batches; that it takes them in any order, and the order of
-- the checks, are this project's own.
use Rattle.std.specs.Prelude.{◌≡◌, ◌⊎◌, true, false, List, [], ◌∷◌}
use Rattle.std.specs.List.{fold}
use Rattle.batch_codec.specs.Values.{BatchValue}
use Rattle.batch_codec.specs.Offsets.{IsWhole, HasKeys}
use Rattle.content.specs.declared.delivery.DeliverError.{DeliverError}
use Rattle.content.specs.declared.delivery.DeliverError.TheVariants.{NotWhole, NoKey, BadOffset, Overlap, OutOfMemory}
use Rattle.content.specs.Content.{Content, IsInRange, IsLogBatch, has_seen_all, HasSeenNone, add}

-- a log batch of whose offsets the copy has seen all, or none
abbrev pub IsAccepted : Content → BatchValue → Type 0
IsAccepted c b = IsLogBatch b × ((has_seen_all c b ≡ true) ⊎ HasSeenNone c b)

-- the copy after some batches were delivered to it
abbrev pub delivered : Content → List BatchValue → Content
delivered c bs = fold add c bs

-- batches of which each is accepted by the copy that those before it were delivered to
abbrev pub AreAccepted : Content → List BatchValue → Type 0
AreAccepted c [] = Unit {0}
AreAccepted c (b ∷ bs) = IsAccepted c b × AreAccepted (add c b) bs

-- The first fault in the order of the checks. A batch without a fault is refused only for lack of
-- memory.
abbrev pub Refuses : Content → BatchValue → DeliverError → Type 0
Refuses c b NotWhole = ¬ IsWhole b
Refuses c b NoKey = IsWhole b × ¬ HasKeys b
Refuses c b BadOffset = IsWhole b × HasKeys b × ¬ IsInRange b
Refuses c b Overlap = IsLogBatch b × (has_seen_all c b ≡ false) × ¬ HasSeenNone c b
Refuses c b OutOfMemory = IsLogBatch b × HasSeenNone c b
