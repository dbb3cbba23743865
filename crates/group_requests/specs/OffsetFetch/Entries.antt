-- A look-up in the group partition, as the code goes. Words of private clauses.
use Rattle.std.specs.Prelude.{◌≡◌, ◌⊎◌, ℕ, ℤ, List, Option, Some, Result, Ok, Err, IfOk}
use Rattle.std.specs.Option.{option_map}
use Rattle.std.specs.FinMap as finite
use Rattle.content.specs.Content.{shown_table}
use Rattle.responses.specs.OffsetFetch.{FetchedOffset}
use Rattle.group_offsets.specs.declared.values.Committed.{Committed}
use Rattle.group_offsets.specs.CommittedValues.{committed_value, text_of}
use Rattle.group_offsets.specs.Keys.{group_key_bytes}
use Rattle.group_offsets.specs.Refusals.{AreNames}
use Rattle.group_offsets.specs.Lookups.{shown_value}
use Rattle.answering.specs.declared.codes.ErrorCode.{ErrorCode}
use Rattle.answering.specs.declared.codes.ErrorCode.TheVariants.{StorageError}
use Rattle.broker_state.specs.State.{State}
use Rattle.group_requests.specs.GroupPartition.{group_content}
use Rattle.group_requests.specs.OffsetFetch.{offset_fetch_lookup, offset_fetch_fault}
use Rattle.group_requests.specs.OffsetFetch.Walks.{Knows}
use Rattle.group_requests.specs.declared.offset_fetch.entry.Fetched.{Fetched}
use Rattle.group_requests.specs.declared.offset_fetch.entry.Fetching.{Fetching}

-- the walk, if there was memory for it, is one over the broker's group partition
pub record HasWalked {S A C : Type 0} (f : Fetching S A C) : Type 0 where
  pub knows : IfOk f.walk (Knows (shown_table (group_content f.state.now)))

-- the value that the group partition shows of a partition's key, which has an encoding
abbrev pub ShowsAt : State → (group name : List ℕ) → (p : ℤ) → Option (List ℕ) → Type 0
ShowsAt s group name p value = AreNames group name
    × (value ≡ finite.get (shown_table (group_content s)) (group_key_bytes (record { group = group; topic = name; partition = p })))

-- what was read of a shown value is what it is; or it can't be read
abbrev pub ReadsAs : Option (List ℕ) → Result (Option Committed) ErrorCode → Type 0
ReadsAs value (Ok found) = shown_value value ≡ Ok (option_map committed_value found)
ReadsAs value (Err code) = offset_fetch_fault (shown_value value) ≡ Some code

-- what was found is what the group topic shows; or that can't be read, or memory lacks
abbrev pub LooksUpAt : State → (group name : List ℕ) → (p : ℤ) → Result (Option Committed) ErrorCode → Type 0
LooksUpAt s group name p (Ok found) = offset_fetch_lookup s group name p ≡ Ok (option_map committed_value found)
LooksUpAt s group name p (Err code) =
    (offset_fetch_fault (offset_fetch_lookup s group name p) ≡ Some code) ⊎ (code ≡ StorageError)

-- what is answered of a partition, apart from where its bytes lie
abbrev pub fetched_offset : (partition : ℤ) → Fetched → FetchedOffset
fetched_offset partition f =
    record { partition = partition; offset = f.offset; metadata = text_of f.metadata; code = f.code }
