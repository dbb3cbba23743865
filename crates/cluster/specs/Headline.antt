-- What holds of the copies of one partition, whatever happened to them: each shows the log's own table over the offsets
-- that it has seen, so it answers look-ups of group offsets as that table does, and any two can be merged in any order.
use Rattle.std.specs.Prelude.{ℕ, ℤ, pos, ◌≡◌, ◌⊎◌, ◌≤ℤ◌, ◌∷◌, List, take, drop, Some, Result, slice_get}
use Rattle.std.specs.List.{AllByRecursion}
use Rattle.batch_codec.specs.Values.{BatchValue}
use Rattle.cover_ranges.specs.Runs.{covers}
use Rattle.content.specs.Records.{log_records}
use Rattle.content.specs.Table.{table_within}
use Rattle.content.specs.Windows.{heads, heads_from, window}
use Rattle.content.specs.Content.{Content, IsContent, shown_table}
use Rattle.content.specs.Joins.{join, Agree}
use Rattle.content.specs.Logs.{IsPlainLog}
use Rattle.content.specs.Copies.{IsCopy}
use Rattle.content.specs.LegalLogs.{IsLeaderCopy}
use Rattle.copy_images.specs.Images.{IsImage}
use Rattle.group_offsets.specs.Keys.{GroupKeyValue}
use Rattle.group_offsets.specs.Lookups.{lookup_in}
use Rattle.cluster.specs.declared.event.Event.{Event}
use Rattle.cluster.specs.declared.event.Outcome.{Outcome}
use Rattle.cluster.specs.declared.event.EventError.{EventError}
use Rattle.cluster.specs.Worlds.{World, copy_at}
use Rattle.cluster.specs.Events.{Runs}

abbrev pub IsCopyOf : List BatchValue → Content → Type 0
IsCopyOf log c = IsContent c × IsCopy c log

-- bytes that are the image of a copy of the log
abbrev pub IsImageOfCopy : List BatchValue → List ℕ → Type 0
IsImageOfCopy log bytes = (c : Content) × IsImage bytes c × IsCopyOf log c

-- The log is one as its leader appends it, the leader's copy has seen exactly its offsets from the copy's start on and took
-- each numbered batch as new; every copy is a copy of the log, and every image is an image of one.
pub record IsConsistent (w : World) : Type 0 where
  pub plain : IsPlainLog w.log
  pub leads : IsLeaderCopy w.leader w.log
  pub copies : AllByRecursion (IsCopyOf w.log) (w.leader ∷ w.followers)
  pub images : AllByRecursion (IsImageOfCopy w.log) w.images

-- one of the copies, or what an image holds
abbrev pub IsHeld : World → Content → Type 0
IsHeld w c =
    ((copy : ℕ) × (copy_at w copy ≡ Some c))
    ⊎ ((image : ℕ) × (bytes : List ℕ) × (slice_get w.images image ≡ Some bytes) × IsImage bytes c)

-- a copy's table is the pass over the log's records at the offsets that it has seen
abbrev pub ShowsLog : List BatchValue → Content → Type 0
ShowsLog log c = shown_table c ≡ table_within (covers c.cover) (log_records log)

-- what a look-up of a group's offset answers from a copy's table, it answers from that pass over the log
abbrev pub LooksUpLog : List BatchValue → Content → Type 0
LooksUpLog log c =
    (k : GroupKeyValue)
    → lookup_in (shown_table c) k ≡ lookup_in (table_within (covers c.cover) (log_records log)) k

-- two copies can be merged, in either order; if they have seen the same offsets they show the same table, and so answer
-- each look-up of a group's offset alike
pub record MergeAlike (a b : Content) : Type 0 where
  pub agree : Agree a b
  pub commute : join a b ≡ join b a
  pub same_table : a.cover ≡ b.cover → shown_table a ≡ shown_table b
  pub same_look_ups : a.cover ≡ b.cover → (k : GroupKeyValue) → lookup_in (shown_table a) k ≡ lookup_in (shown_table b) k

pub record Headline (w : World) : Type 0 where
  pub consistent : IsConsistent w
  -- the leader's windows are those of the log from its start on
  pub windows : (p : ℤ) → pos 0 ≤ℤ p → window (heads w.leader.kept) p ≡ window (heads_from w.leader.start (heads w.log)) p
  -- whatever is held is a copy of the log, and shows the log's own table over what it has seen
  pub copies : (c : Content) → IsHeld w c → IsCopyOf w.log c
  pub tables : (c : Content) → IsHeld w c → ShowsLog w.log c
  -- so it answers each look-up of a group's offset as that table of the log does
  pub look_ups : (c : Content) → IsHeld w c → LooksUpLog w.log c
  -- merging
  pub idempotent : (a : Content) → IsHeld w a → join a a ≡ a
  pub alike : (a b : Content) → IsHeld w a → IsHeld w b → MergeAlike a b
  -- and what is merged is a copy of the log, so that a third can be merged with it
  pub merged : (a b : Content) → IsHeld w a → IsHeld w b → IsCopyOf w.log (join a b)
  pub accepted : (a b c : Content) → IsHeld w a → IsHeld w b → IsHeld w c
      → Agree (join a b) c × Agree a (join b c)
  pub associative : (a b c : Content) → IsHeld w a → IsHeld w b → IsHeld w c
      → join (join a b) c ≡ join a (join b c)

-- After each front of the events there is a world to which they lead with the same front of the answers, and from which the
-- rest leads on; the headline holds of it.
abbrev pub HoldsOnTheWay : {A : Type 0} → World → List (Event A) → List (Result Outcome EventError) → World → Type 0
HoldsOnTheWay w events results after =
    (count : ℕ) → (between : World) × Runs w (take count events) (take count results) between
    × Headline between × Runs between (drop count events) (drop count results) after
