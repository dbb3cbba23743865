-- When the broker of `kbroker start` cleans by itself. Kafka's documentation, "Topic Configs": min.cleanable.dirty.ratio,
-- min.compaction.lag.ms, max.compaction.lag.ms and delete.retention.ms, for which these options stand.
use Rattle.std.specs.Prelude.{◌≡◌, ◌≢◌, ◌≤◌, ◌<◌, ◌*◌, ℕ, List, Option, Some, None, codes, unwrap_or}
use Rattle.std.specs.Str.Parse.{IsNumeral, digits_value}
use Rattle.clap.specs.Words.{Row, Text, first_of, one_of}
use Rattle.cleaning_policy.specs.declared.values.Settings.{Settings}
use Rattle.tcp_edge.specs.declared.cleaning.CleanAt.{CleanAt}
use Rattle.tcp_edge.specs.declared.cleaning.CleanAt.TheVariants.{Percent, Never}
use Rattle.tcp_edge.specs.declared.cleaning.CleaningFault.{CleaningFault}
use Rattle.tcp_edge.specs.declared.cleaning.CleaningFault.TheVariants.{At, Lag, Within, KeepDeletes, Short}
use Rattle.tcp_edge.specs.declared.cleaning.GivenSeconds.{GivenSeconds}
use Rattle.tcp_edge.specs.CommandLine.{IsGivenNumber}

-- ---- at which percent

-- a number from 1 to 99 in decimal digits
abbrev pub IsPercent : Text → ℕ → Type 0
IsPercent word n = IsNumeral 10 word × (n ≡ digits_value 10 word) × (1 ≤ n) × (n ≤ 99)

-- what may stand behind `--clean-at`: such a number, or `never`
abbrev pub IsCleanAt : Text → CleanAt → Type 0
IsCleanAt word (Percent n) = IsPercent word n
IsCleanAt word Never = word ≡ codes "never"

-- when a partition is cleaned: as `--clean-at` says, and never where it isn't given
abbrev pub CleansAt : Option Text → CleanAt → Type 0
CleansAt None way = way ≡ Never
CleansAt (Some word) way = IsCleanAt word way

-- ---- the seconds of the other options

-- so many seconds are given, or none
pub record AreSeconds (rows : List Row) (given : GivenSeconds) : Type 0 where
  pub lag : IsGivenNumber 32 (one_of (codes "clean-lag") rows) given.lag
  pub within : IsGivenNumber 32 (one_of (codes "clean-within") rows) given.within
  pub keep_deletes : IsGivenNumber 32 (one_of (codes "keep-deletes") rows) given.keep_deletes

abbrev pub AreNone : GivenSeconds → Type 0
AreNone given = (given.lag ≡ None) × (given.within ≡ None) × (given.keep_deletes ≡ None)

-- where they aren't given: 10 seconds, a day and a day
abbrev pub lag_of : GivenSeconds → ℕ
lag_of given = unwrap_or given.lag 10

abbrev pub within_of : GivenSeconds → ℕ
within_of given = unwrap_or given.within 86400

abbrev pub keep_deletes_of : GivenSeconds → ℕ
keep_deletes_of given = unwrap_or given.keep_deletes 86400

-- ---- what is cleaned

-- in milliseconds; what stays whole for the lag may not be due before
pub record AreSettings (percent : ℕ) (given : GivenSeconds) (settings : Settings) : Type 0 where
  pub percent_is : settings.percent ≡ percent
  pub lag_is : settings.lag ≡ 1000 * lag_of given
  pub within_is : settings.within ≡ 1000 * within_of given
  pub keep_deletes_is : settings.keep_deletes ≡ 1000 * keep_deletes_of given
  pub fit : lag_of given ≤ within_of given

-- nothing is cleaned, and the other options aren't given; or it is, by settings
abbrev pub CleansBy : CleanAt → GivenSeconds → Option Settings → Type 0
CleansBy Never given cleaning = AreNone given × (cleaning ≡ None)
CleansBy (Percent n) given None = ⊥
CleansBy (Percent n) given (Some settings) = AreSettings n given settings

pub record IsCleaning (rows : List Row) (cleaning : Option Settings) : Type 0 where
  pub way : CleanAt
  pub is_way : CleansAt (first_of (codes "clean-at") rows) way
  pub given : GivenSeconds
  pub are_given : AreSeconds rows given
  pub cleans : CleansBy way given cleaning

-- ---- faults

-- what is said of when to clean is nothing that may stand there
abbrev pub HasNoCleanAt : List Row → Type 0
HasNoCleanAt rows = (way : CleanAt) → ¬ CleansAt (first_of (codes "clean-at") rows) way

-- an option of cleanings is given where nothing is cleaned
abbrev pub IsGivenAlone : Text → List Row → Type 0
IsGivenAlone name rows = CleansAt (first_of (codes "clean-at") rows) Never × (one_of name rows ≢ None)

-- a partition would be due before the lag is over
pub record HasShortWithin (rows : List Row) : Type 0 where
  pub percent : ℕ
  pub is_way : CleansAt (first_of (codes "clean-at") rows) (Percent percent)
  pub given : GivenSeconds
  pub are_given : AreSeconds rows given
  pub short : within_of given < lag_of given

-- what is wrong
abbrev pub IsCleaningFault : List Row → CleaningFault → Type 0
IsCleaningFault rows At = HasNoCleanAt rows
IsCleaningFault rows Lag = IsGivenAlone (codes "clean-lag") rows
IsCleaningFault rows Within = IsGivenAlone (codes "clean-within") rows
IsCleaningFault rows KeepDeletes = IsGivenAlone (codes "keep-deletes") rows
IsCleaningFault rows Short = HasShortWithin rows

-- something is
abbrev pub HasCleaningFault : List Row → Type 0
HasCleaningFault rows = (why : CleaningFault) × IsCleaningFault rows why

-- the seconds to which a fault belongs are given
abbrev pub AreGiven : GivenSeconds → CleaningFault → Type 0
AreGiven given Lag = given.lag ≢ None
AreGiven given Within = given.within ≢ None
AreGiven given KeepDeletes = given.keep_deletes ≢ None
AreGiven given At = ⊥
AreGiven given Short = ⊥
