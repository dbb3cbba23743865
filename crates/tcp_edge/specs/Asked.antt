-- What a parse of the command line gives, by the subcommand that clap found and its values.
use Rattle.std.specs.Prelude.{◌≡◌, ◌≢◌, ◌⊎◌, ℕ, Bool, true, false, List, codes, ⊤, Option, Some, None, Result, IfOk, IsErrAnd, MatchResult, String, string_bytes}
use Rattle.clap.specs.Words.{HasKind, Kinds, Row, Text, kind_of, one_of}
use Rattle.clap.specs.declared.error.kind.ErrorKind.TheVariants as kind
use Rattle.broker_state.specs.ConfigValues.{config_value}
use Rattle.broker_state.specs.State.{ConfigValue}
use Rattle.tcp_edge.specs.declared.asked.Asked.{Asked}
use Rattle.tcp_edge.specs.declared.asked.Asked.TheVariants.{Table, Session, Serve, Start, Check, Replay, Merge}
use Rattle.listeners.specs.declared.options.ServeOptions.{ServeOptions}
use Rattle.listeners.specs.declared.options.StartOptions.{StartOptions}
use Rattle.listeners.specs.declared.options.KeptOptions.{KeptOptions}
use Rattle.tcp_edge.specs.declared.addresses.AddressFault.{AddressFault}
use Rattle.tcp_edge.specs.declared.addresses.AddressFault.TheVariants.{Listen, Advertise, Unspecified}
use Rattle.tcp_edge.specs.declared.keeping.KeptFault.{KeptFault}
use Rattle.tcp_edge.specs.declared.keeping.KeptFault.TheVariants.{Alone, Fold, Sync}
use Rattle.tcp_edge.specs.declared.asked.ArgumentsFault.{ArgumentsFault}
use Rattle.std.specs.declared.net.socket_addr.SocketAddr.{SocketAddr}
use Rattle.std.specs.declared.alloc.Global.{Global}
use Rattle.tcp_edge.specs.declared.asked.ArgumentsFault.TheVariants.{Clap, Address, Kept, Cleaning, Topic}
use Rattle.tcp_edge.specs.Addresses.{Advertises, HasNoAdvertised, HasNoListen, IsListen}
use Rattle.cleaning_policy.specs.declared.values.Settings.{Settings}
use Rattle.tcp_edge.specs.Cleaning.{IsCleaning, IsCleaningFault}
use Rattle.tcp_edge.specs.Keeping.{HasFoldAlone, HasNoSyncWay, HasSyncAlone, IsKept}
use Rattle.tcp_edge.specs.CommandLine.{HasTopics, IsConfigAt, IsConfigOf, IsGivenNumber, IsNumberOf, IsPort, IsConnections, Finds, Names, Stops, directory_word, topic_words}

-- a broker that listens: at first its configuration has the port that was asked for
pub record IsListener (rows : List Row) (options : ServeOptions) : Type 0 where
  pub port : ℕ
  pub is_port : IsPort rows port
  pub config : IsConfigOf rows port (config_value options.config)
  pub connections : IsConnections rows options.connections

-- a broker that listens for many connections: each option as it is given, or its default
pub record IsStarter (rows : List Row) (options : StartOptions) : Type 0 where
  pub listen : IsListen rows options.listen
  pub host : Text
  pub port : ℕ
  pub advertises : Advertises rows options.listen host port
  pub config : IsConfigAt rows host port (config_value options.config)
  pub most_connections : IsNumberOf 32 (one_of (codes "most-connections") rows) options.most_connections
  pub most_per_address : IsGivenNumber 32 (one_of (codes "most-per-address") rows) options.most_per_address
  pub most_held : IsNumberOf 64 (one_of (codes "most-held") rows) options.most_held
  pub idle : IsNumberOf 64 (one_of (codes "idle") rows) options.idle
  pub snapshot_after : IsNumberOf 64 (one_of (codes "snapshot-after") rows) options.snapshot_after
  pub cleaning : IsCleaning rows options.cleaning
  pub kept : IsKept rows options.kept

-- the directory to look at, as it is given
abbrev pub IsDirectory : List Row → String Global → Type 0
IsDirectory rows directory = string_bytes directory ≡ directory_word rows

abbrev pub IsAsked : Text → List Row → Asked → Type 0
IsAsked name rows Table = (name ≢ codes "session") × (name ≢ codes "serve") × (name ≢ codes "start") × (name ≢ codes "replay")
    × (name ≢ codes "merge") × (name ≢ codes "check")
IsAsked name rows (Session g) = (name ≡ codes "session") × IsConfigOf rows 9092 (config_value g)
IsAsked name rows (Serve options) = (name ≡ codes "serve") × IsListener rows options
IsAsked name rows (Start options) = (name ≡ codes "start") × IsStarter rows options
IsAsked name rows (Check directory) = (name ≡ codes "check") × IsDirectory rows directory
IsAsked name rows Replay = name ≡ codes "replay"
IsAsked name rows Merge = name ≡ codes "merge"

-- a fact of the subcommand's name, where it is not the table's and none that is left to a call of its own
abbrev pub IfNamed : Asked → (Text → Type 0) → Type 0
IfNamed Table P = ⊤
IfNamed (Session g) P = P (codes "session")
IfNamed (Serve options) P = ⊤
IfNamed (Start options) P = ⊤
IfNamed (Check directory) P = ⊤
IfNamed Replay P = P (codes "replay")
IfNamed Merge P = P (codes "merge")

-- a fact, where the table is asked for
abbrev pub IfTable : Asked → Type 0 → Type 0
IfTable Table P = P
IfTable asked P = ⊤

-- a fact of the configuration, where a session is
abbrev pub IfSession : Asked → (ConfigValue → Type 0) → Type 0
IfSession (Session g) P = P (config_value g)
IfSession asked P = ⊤

-- a fact, where a script's outcome is
abbrev pub IfReplay : Asked → Type 0 → Type 0
IfReplay Replay P = P
IfReplay asked P = ⊤

-- a fact, where a merge is
abbrev pub IfMerge : Asked → Type 0 → Type 0
IfMerge Merge P = P
IfMerge asked P = ⊤

-- a fact, where what is asked for is left to a call of its own: a broker that listens, or a look at a directory
abbrev pub IfLeft : Asked → Type 0 → Type 0
IfLeft (Serve options) P = P
IfLeft (Start options) P = P
IfLeft (Check directory) P = P
IfLeft asked P = ⊤

-- there was no memory to look at the arguments
abbrev pub IsOutOfMemory : ArgumentsFault → Type 0
IsOutOfMemory (Clap error) = kind_of error ≡ kind.OutOfMemory
IsOutOfMemory (Address why) = ⊥
IsOutOfMemory (Kept why) = ⊥
IsOutOfMemory (Cleaning why) = ⊥
IsOutOfMemory (Topic why) = ⊥

-- what clap stopped with: memory ran out, or its error is of one of these kinds
abbrev pub IsStop : Kinds → ArgumentsFault → Type 0
IsStop kinds (Clap error) = HasKind kinds error
IsStop kinds (Address why) = ⊥
IsStop kinds (Kept why) = ⊥
IsStop kinds (Cleaning why) = ⊥
IsStop kinds (Topic why) = ⊥

-- neither help nor the version was asked for
abbrev pub IsMistake : ArgumentsFault → Type 0
IsMistake (Clap error) = (kind_of error ≢ kind.DisplayHelp) × (kind_of error ≢ kind.DisplayVersion)
IsMistake (Address why) = ⊤
IsMistake (Kept why) = ⊤
IsMistake (Cleaning why) = ⊤
IsMistake (Topic why) = ⊤

-- help was asked for, or the version
abbrev pub IsHelp : ArgumentsFault → Type 0
IsHelp (Clap error) = (kind_of error ≡ kind.DisplayHelp) ⊎ (kind_of error ≡ kind.DisplayVersion)
IsHelp (Address why) = ⊥
IsHelp (Kept why) = ⊥
IsHelp (Cleaning why) = ⊥
IsHelp (Topic why) = ⊥

-- an address, `--sync`, an option of cleanings or a topic is not what may stand there
abbrev pub IsBadValue : ArgumentsFault → Type 0
IsBadValue (Clap error) = ⊥
IsBadValue (Address why) = ⊤
IsBadValue (Kept why) = ⊤
IsBadValue (Cleaning why) = ⊤
IsBadValue (Topic why) = ⊤

-- memory ran out, or one of the words in the place of topics is none
abbrev pub IsConfigFault : List Text → ArgumentsFault → Type 0
IsConfigFault words (Clap error) = kind_of error ≡ kind.OutOfMemory
IsConfigFault words (Address why) = ⊥
IsConfigFault words (Kept why) = ⊥
IsConfigFault words (Cleaning why) = ⊥
IsConfigFault words (Topic why) = ¬ HasTopics words

-- what is wrong with the addresses: that to listen at comes first
abbrev pub IsAddressFault : List Row → AddressFault → Type 0
IsAddressFault rows Listen = HasNoListen rows
IsAddressFault rows Advertise = HasNoAdvertised rows
IsAddressFault rows Unspecified = HasNoAdvertised rows

-- memory ran out, or an address to advertise is none for this reason
abbrev pub IsMemoryOr : Type 0 → ArgumentsFault → Type 0
IsMemoryOr P (Clap error) = kind_of error ≡ kind.OutOfMemory
IsMemoryOr P (Address Listen) = ⊥
IsMemoryOr P (Address Advertise) = P
IsMemoryOr P (Address Unspecified) = P
IsMemoryOr P (Kept why) = ⊥
IsMemoryOr P (Cleaning why) = ⊥
IsMemoryOr P (Topic why) = ⊥

-- both addresses are right
abbrev pub HasAddresses : List Row → Type 0
HasAddresses rows = (listen : SocketAddr) × (host : Text) × (port : ℕ) × IsListen rows listen × Advertises rows listen host port

-- what is wrong with `--sync`
abbrev pub IsKeptFault : List Row → KeptFault → Type 0
IsKeptFault rows Alone = HasSyncAlone rows
IsKeptFault rows Fold = HasFoldAlone rows
IsKeptFault rows Sync = HasNoSyncWay rows

-- memory ran out, or this is wrong with `--sync`
abbrev pub IsMemoryOrKept : List Row → ArgumentsFault → Type 0
IsMemoryOrKept rows (Clap error) = kind_of error ≡ kind.OutOfMemory
IsMemoryOrKept rows (Address why) = ⊥
IsMemoryOrKept rows (Kept why) = IsKeptFault rows why
IsMemoryOrKept rows (Cleaning why) = ⊥
IsMemoryOrKept rows (Topic why) = ⊥

-- this is wrong with what is said of cleanings
abbrev pub IsCleaningRefusal : List Row → ArgumentsFault → Type 0
IsCleaningRefusal rows (Clap error) = ⊥
IsCleaningRefusal rows (Address why) = ⊥
IsCleaningRefusal rows (Kept why) = ⊥
IsCleaningRefusal rows (Cleaning why) = IsCleaningFault rows why
IsCleaningRefusal rows (Topic why) = ⊥

-- Memory ran out, or this is the first fault of what `start` is given: what is kept is looked at where the addresses are right, cleanings
-- where both are, and the topics where all three are.
abbrev pub IsStartFault : List Row → ArgumentsFault → Type 0
IsStartFault rows (Clap error) = kind_of error ≡ kind.OutOfMemory
IsStartFault rows (Address why) = IsAddressFault rows why
IsStartFault rows (Kept why) = HasAddresses rows × IsKeptFault rows why
IsStartFault rows (Cleaning why) = (HasAddresses rows × (kept : Option KeptOptions) × IsKept rows kept) × IsCleaningFault rows why
IsStartFault rows (Topic why) =
    (HasAddresses rows × (kept : Option KeptOptions) × IsKept rows kept × (cleaning : Option Settings) × IsCleaning rows cleaning)
    × ¬ HasTopics (topic_words rows)

-- no fault of clap's: memory ran out, or an address, `--sync`, an option of cleanings or a topic is not what may stand there
abbrev pub IsFaulty : Text → List Row → ArgumentsFault → Type 0
IsFaulty name rows (Clap error) = kind_of error ≡ kind.OutOfMemory
IsFaulty name rows (Address why) = (name ≡ codes "start") × IsAddressFault rows why
IsFaulty name rows (Kept why) = (name ≡ codes "start") × IsKeptFault rows why
IsFaulty name rows (Cleaning why) = (name ≡ codes "start") × IsCleaningFault rows why
IsFaulty name rows (Topic why) =
    (name ≢ codes "table") × (name ≢ codes "merge") × (name ≢ codes "replay") × (name ≢ codes "check") × ¬ HasTopics (topic_words rows)

-- the broker that listens for one connection after the other, where it is asked for
abbrev pub IsServeOptionsOf : Asked → Option ServeOptions → Type 0
IsServeOptionsOf (Serve asked) options = options ≡ Some asked
IsServeOptionsOf asked options = options ≡ None

abbrev pub IsServePortOf : Asked → Option ℕ → Type 0
IsServePortOf (Serve asked) port = port ≡ Some asked.config.port
IsServePortOf asked port = port ≡ None

-- the broker that listens for many, where it is
abbrev pub IsStartOptionsOf : Asked → Option StartOptions → Type 0
IsStartOptionsOf (Start asked) options = options ≡ Some asked
IsStartOptionsOf asked options = options ≡ None

-- whether it is
abbrev pub IsStartSaid : Asked → Bool → Type 0
IsStartSaid (Start asked) said = said ≡ true
IsStartSaid asked said = said ≡ false

-- the directory that is looked at, where one is
abbrev pub IsDirectoryOf : Asked → Option (String Global) → Type 0
IsDirectoryOf (Check asked) directory = directory ≡ Some asked
IsDirectoryOf asked directory = directory ≡ None

-- whether it is
abbrev pub IsCheckSaid : Asked → Bool → Type 0
IsCheckSaid (Check directory) said = said ≡ true
IsCheckSaid asked said = said ≡ false

-- what a parse of the arguments gives
pub record IsParsed (arguments : List Text) (parsed : Result Asked ArgumentsFault) : Type 0 where
  pub asked : (name : Text) (rows : List Row) → Finds arguments name rows → MatchResult parsed (IsAsked name rows) (IsFaulty name rows)
  pub named : IfOk parsed (λ asked. IfNamed asked (λ name. Names arguments name))
  pub stopped : (kinds : Kinds) → Stops arguments kinds → IsErrAnd parsed (IsStop kinds)

-- the arguments ask for something else than this subcommand, or clap stops at them
abbrev pub AsksForOtherThan : Text → List Text → Type 0
AsksForOtherThan wanted arguments = ((name : Text) × (rows : List Row) × Finds arguments name rows × (name ≢ wanted))
    ⊎ ((kinds : Kinds) × Stops arguments kinds)

-- the arguments ask for something else than a broker that listens for one connection after the other, or clap stops at them
abbrev pub AsksForOther : List Text → Type 0
AsksForOther arguments = AsksForOtherThan (codes "serve") arguments
