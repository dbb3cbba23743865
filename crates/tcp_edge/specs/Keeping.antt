-- What `kbroker start` keeps on disk: in which directory, and when it is synced.
use Rattle.std.specs.Prelude.{◌≡◌, ◌≢◌, ◌≤◌, ℕ, Bool, true, false, List, Option, Some, None, codes}
use Rattle.std.specs.Str.Parse.{IsNumeral, digits_value}
use Rattle.std.specs.String.{string_bytes}
use Rattle.clap.specs.Words.{Row, Text, first_of}
use Rattle.listeners.specs.declared.options.KeptOptions.{KeptOptions}
use Rattle.listeners.specs.declared.options.SyncWay.{SyncWay}
use Rattle.listeners.specs.declared.options.SyncWay.TheVariants.{Always, Every, Never}
use Rattle.tcp_edge.specs.CommandLine.{folds}

-- a number from 1 to 60,000 in decimal digits
abbrev pub IsMilliseconds : Text → ℕ → Type 0
IsMilliseconds word n = IsNumeral 10 word × (n ≡ digits_value 10 word) × (1 ≤ n) × (n ≤ 60000)

-- what may stand behind `--sync`: `always`, a number of milliseconds, or `never`
abbrev pub IsSyncWay : Text → SyncWay → Type 0
IsSyncWay word Always = word ≡ codes "always"
IsSyncWay word (Every n) = IsMilliseconds word n
IsSyncWay word Never = word ≡ codes "never"

-- when what is kept is synced: as `--sync` says, and always where it isn't given
abbrev pub SyncsBy : Option Text → SyncWay → Type 0
SyncsBy None way = way ≡ Always
SyncsBy (Some word) way = IsSyncWay word way

-- where it is kept, when it is synced, and whether a snapshot is all that is wanted, by what `--data`, `--sync` and `--fold` say: nowhere without
-- `--data`, beside which alone the others may stand
abbrev pub IsKeptBy : (directory sync : Option Text) (is_folded : Bool) → Option KeptOptions → Type 0
IsKeptBy None None false kept = kept ≡ None
IsKeptBy None None true kept = ⊥
IsKeptBy None (Some word) is_folded kept = ⊥
IsKeptBy (Some directory) sync is_folded None = ⊥
IsKeptBy (Some directory) sync is_folded (Some kept) =
    (string_bytes kept.directory ≡ directory) × SyncsBy sync kept.sync × (kept.is_folded ≡ is_folded)

abbrev pub IsKept : List Row → Option KeptOptions → Type 0
IsKept rows kept = IsKeptBy (first_of (codes "data") rows) (first_of (codes "sync") rows) (folds rows) kept

-- `--sync` is given, and `--data` isn't
abbrev pub HasSyncAlone : List Row → Type 0
HasSyncAlone rows = (first_of (codes "sync") rows ≢ None) × (first_of (codes "data") rows ≡ None)

-- `--fold` is given, and neither `--data` nor `--sync` is
abbrev pub HasFoldAlone : List Row → Type 0
HasFoldAlone rows = (folds rows ≡ true) × (first_of (codes "sync") rows ≡ None) × (first_of (codes "data") rows ≡ None)

-- `--data` is given, and `--sync` says no way to sync
abbrev pub HasNoSyncWay : List Row → Type 0
HasNoSyncWay rows = (first_of (codes "data") rows ≢ None) × ((way : SyncWay) → ¬ SyncsBy (first_of (codes "sync") rows) way)
