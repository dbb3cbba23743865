-- What the program can be asked for on its command line, in the words of clap.
use Rattle.std.specs.Prelude.{◌≡◌, ◌≢◌, ◌⊎◌, ℕ, ℤ, ◌<◌, ◌^◌, pos, FitsSigned, Bool, true, false, if◌then◌else◌, List, [], ◌∷◌, ◌++◌, Option, Some, None, codes, map, bytes_eq, unwrap_or, ⊤}
use Rattle.std.specs.Borrow.{Bor}
use Rattle.std.specs.Option.{option_map_or}
use Rattle.std.specs.Int.{w64}
use Rattle.std.specs.Str.Parse.{IsNumeral, digits_value, signed_digits_value, without_leading_plus, without_leading_sign}
use Rattle.broker_state.specs.State.{ConfigValue, TopicConfig}
use Rattle.broker_state.specs.declared.config.Role.{Role}
use Rattle.broker_state.specs.declared.config.Role.TheVariants.{Leader, Follower}
use Rattle.clap.specs.Lexer.{usize_max}
use Rattle.clap.specs.Words.{App, IsAmong, Kinds, Row, Rule, Shape, Text, AddsSubcommand, app_of, new_app, new_rule, with_rule, with_subcommand, first_of, one_of, all_of, fault_of, subcommand_of}
use Rattle.clap.specs.declared.builder.action.ArgAction.TheVariants.{SetTrue}
use Rattle.clap.specs.declared.builder.command.Command.{Command}
use Rattle.clap.specs.declared.builder.value_parser.ValueParser.{ValueParser}
use Rattle.clap.specs.declared.builder.value_parser.ValueParser.TheVariants as parsers
use Rattle.clap.specs.declared.error.kind.ErrorKind.TheVariants as kind

-- ---- arguments

-- `--NAME VALUE`, any text
abbrev pub text_rule : Text → Rule
text_rule name = record (new_rule name) { long = Some name; value_names = 1 }

-- `--NAME VALUE`
abbrev pub option_rule : Text → ValueParser → Rule
option_rule name parser = record (text_rule name) { parser = Some parser }

-- the words of a role, however they lie in memory
abbrev pub Roles : Type 0
Roles = Bor (List (Bor Text))

-- `--role ROLE`, one of these words; a leader where it isn't given
abbrev pub role_rule : Roles → Rule
role_rule roles = record (option_rule (codes "role") (parsers.Names roles)) { defaults = codes "leader" ∷ [] }

-- `--first-producer N`, from 0 to the greatest number of `i64`; 0 where it isn't given
abbrev pub first_producer_rule : Rule
first_producer_rule = record (option_rule (codes "first-producer") (parsers.Signed (pos 0) (pos 9223372036854775807))) {
  defaults = codes "0" ∷ [];
}

abbrev pub port_rule : Rule
port_rule = record (option_rule (codes "port") (parsers.Signed (pos 0) (pos 65535))) { required = true }

abbrev pub connections_rule : Rule
connections_rule = record (option_rule (codes "connections") (parsers.Signed (pos 0) (pos 4294967295))) { required = true }

-- `--listen ADDRESS:PORT`; 127.0.0.1:9092 where it isn't given
abbrev pub listen_rule : Rule
listen_rule = record (text_rule (codes "listen")) { defaults = codes "127.0.0.1:9092" ∷ [] }

-- `--advertise HOST:PORT`
abbrev pub advertise_rule : Rule
advertise_rule = text_rule (codes "advertise")

-- `--most-connections N`, from 1 to the greatest number of `u32`; 10,000 where it isn't given
abbrev pub most_connections_rule : Rule
most_connections_rule = record (option_rule (codes "most-connections") (parsers.Signed (pos 1) (pos 4294967295))) {
  defaults = codes "10000" ∷ [];
}

-- `--most-per-address N`, from 1 to the greatest number of `u32`
abbrev pub most_per_address_rule : Rule
most_per_address_rule = option_rule (codes "most-per-address") (parsers.Signed (pos 1) (pos 4294967295))

-- `--most-held BYTES`, from 1 to the greatest number of `i64`; 1 GiB where it isn't given
abbrev pub most_held_rule : Rule
most_held_rule = record (option_rule (codes "most-held") (parsers.Signed (pos 1) (pos 9223372036854775807))) {
  defaults = codes "1073741824" ∷ [];
}

-- `--idle SECONDS`, from 1 to the greatest number of `u32`; 600 where it isn't given
abbrev pub idle_rule : Rule
idle_rule = record (option_rule (codes "idle") (parsers.Signed (pos 1) (pos 4294967295))) { defaults = codes "600" ∷ [] }

-- `--data DIR`, any text but the empty one
abbrev pub data_rule : Rule
data_rule = option_rule (codes "data") parsers.NonEmptyString

-- `--sync WHEN`
abbrev pub sync_rule : Rule
sync_rule = text_rule (codes "sync")

-- `--snapshot-after BYTES`, from 1 to the greatest number of `i64`; 64 MiB where it isn't given
abbrev pub snapshot_after_rule : Rule
snapshot_after_rule = record (option_rule (codes "snapshot-after") (parsers.Signed (pos 1) (pos 9223372036854775807))) {
  defaults = codes "67108864" ∷ [];
}

-- `--fold`
abbrev pub fold_rule : Rule
fold_rule = record (new_rule (codes "fold")) { long = Some (codes "fold"); action = Some SetTrue }

-- `--clean-at PERCENT`
abbrev pub clean_at_rule : Rule
clean_at_rule = text_rule (codes "clean-at")

-- `--clean-lag SECONDS`, a year at the most
abbrev pub clean_lag_rule : Rule
clean_lag_rule = option_rule (codes "clean-lag") (parsers.Signed (pos 0) (pos 31536000))

-- `--clean-within SECONDS`, from 1 to a year
abbrev pub clean_within_rule : Rule
clean_within_rule = option_rule (codes "clean-within") (parsers.Signed (pos 1) (pos 31536000))

-- `--keep-deletes SECONDS`, ten years at the most
abbrev pub keep_deletes_rule : Rule
keep_deletes_rule = option_rule (codes "keep-deletes") (parsers.Signed (pos 0) (pos 315360000))

-- `DIR`, any text but the empty one
abbrev pub directory_rule : Rule
directory_rule = record (new_rule (codes "directory")) { value_names = 1; required = true; parser = Some parsers.NonEmptyString }

-- the topics, at least one
abbrev pub topics_rule : Rule
topics_rule = record (new_rule (codes "topics")) {
  range = Some (record { start_inclusive = 1; end_inclusive = usize_max });
  value_names = 1;
  required = true;
}

-- ---- commands

abbrev pub session_app : Roles → App
session_app roles = with_rule (with_rule (with_rule (new_app (codes "session"))
    (role_rule roles)) first_producer_rule) topics_rule

abbrev pub serve_app : Roles → App
serve_app roles = with_rule (with_rule (with_rule (with_rule (with_rule (new_app (codes "serve"))
    port_rule) (role_rule roles)) first_producer_rule) connections_rule) topics_rule

abbrev pub start_app : Roles → App
start_app roles = with_rule (with_rule (with_rule (with_rule (with_rule (with_rule (with_rule (with_rule (with_rule (with_rule (with_rule (with_rule (with_rule (with_rule (with_rule (with_rule (with_rule
    (new_app (codes "start")) listen_rule) advertise_rule) (role_rule roles)) first_producer_rule) most_connections_rule) most_per_address_rule)
    most_held_rule) idle_rule) data_rule) sync_rule) snapshot_after_rule) fold_rule) clean_at_rule) clean_lag_rule)
    clean_within_rule) keep_deletes_rule) topics_rule

abbrev pub check_app : App
check_app = with_rule (new_app (codes "check")) directory_rule

-- added to a command, it is a subcommand with these rules
abbrev pub IsSubcommand : App → Command → Type 0
IsSubcommand app command = (old new : Command) → AddsSubcommand old command new
    → app_of new ≡ with_subcommand (app_of old) app.top

-- the settings of `kbroker` itself: it has a version, and a subcommand has to be named
abbrev pub top : Shape
top = record (new_app (codes "kbroker")).top { has_version = true; subcommand_required = true }

-- the command `kbroker`, with its subcommands
abbrev pub kbroker : Roles → App
kbroker roles = with_subcommand (with_subcommand (with_subcommand (with_subcommand (with_subcommand (with_subcommand (with_subcommand
    (record { top = top; subs = [] })
    (new_app (codes "table")).top) (session_app roles).top) (serve_app roles).top) (start_app roles).top)
    check_app.top) (new_app (codes "replay")).top) (new_app (codes "merge")).top

-- the two words that clap takes for a role
abbrev pub IsRoles : Roles → Type 0
IsRoles roles = map (λ word. word.now) roles.now ≡ codes "leader" ∷ codes "follower" ∷ []

-- ---- what is asked for

-- clap finds no fault in the arguments, and finds in them this subcommand with these values
pub record Finds (arguments : List Text) (name : Text) (rows : List Row) : Type 0 where
  pub no_fault : (roles : Roles) → IsRoles roles → fault_of (kbroker roles) arguments ≡ []
  pub found : (roles : Roles) → IsRoles roles → subcommand_of (kbroker roles) arguments ≡ Some (name, rows)

-- clap stops at the arguments, with an error of one of these kinds
pub record Stops (arguments : List Text) (kinds : Kinds) : Type 0 where
  pub some : kinds ≢ []
  pub fault : (roles : Roles) → IsRoles roles → fault_of (kbroker roles) arguments ≡ kinds

-- clap finds a mistake in the arguments: what it stops with is neither help nor the version
pub record HasMistake (arguments : List Text) : Type 0 where
  pub kinds : Kinds
  pub stops : Stops arguments kinds
  pub no_help : ¬ IsAmong kind.DisplayHelp kinds
  pub no_version : ¬ IsAmong kind.DisplayVersion kinds

-- the arguments ask for help, or for the version
abbrev pub AsksForHelp : List Text → Type 0
AsksForHelp arguments = Stops arguments (kind.DisplayHelp ∷ []) ⊎ Stops arguments (kind.DisplayVersion ∷ [])

-- the program's name, whatever it is, and `table`
abbrev pub AsksForTable : List Text → Type 0
AsksForTable arguments = (name : Text) × (arguments ≡ name ∷ codes "table" ∷ [])

-- the program's name, whatever it is, and `merge`
abbrev pub AsksForMerge : List Text → Type 0
AsksForMerge arguments = (name : Text) × (arguments ≡ name ∷ codes "merge" ∷ [])

-- a follower where it is asked for, and else a leader
abbrev pub role_of : List Row → Role
role_of rows = if option_map_or (λ word. bytes_eq word (codes "follower")) (first_of (codes "role") rows) false then Follower else Leader

-- `--fold` is given
abbrev pub folds : List Row → Bool
folds rows = option_map_or (λ word. bytes_eq word (codes "true")) (first_of (codes "fold") rows) false

-- the argument in the place of a directory, if there is one, and else nothing
abbrev pub directory_word : List Row → Text
directory_word rows = unwrap_or (first_of (codes "directory") rows) []

-- the arguments in the place of topics
abbrev pub topic_words : List Row → List Text
topic_words rows = unwrap_or (all_of (codes "topics") rows) []

-- Some text, `:`, and a number in decimal digits, no more than so many bits hold. The last `:` is meant, since no digit is one.
pub record IsTextAndNumber (bits : ℕ) (word text : Text) (n : ℕ) : Type 0 where
  pub digits : Text
  pub parts : word ≡ text ++ codes ":" ++ digits
  pub are_digits : IsNumeral 10 digits
  pub number : n ≡ digits_value 10 digits
  pub fits : digits_value 10 digits < 2 ^ bits

-- a topic's name, `:`, and the number of its partitions
abbrev pub IsTopic : Text → TopicConfig → Type 0
IsTopic word t = IsTextAndNumber 32 word t.name t.partitions

-- one more topic, the one that the word says
abbrev pub AddsTopic : Text → (topics topics' : List TopicConfig) → Type 0
AddsTopic word topics topics' = (t : TopicConfig) × IsTopic word t × (topics' ≡ topics ++ t ∷ [])

abbrev pub AreTopics : List Text → List TopicConfig → Type 0
AreTopics [] [] = ⊤
AreTopics [] (t ∷ ts) = ⊥
AreTopics (word ∷ words) [] = ⊥
AreTopics (word ∷ words) (t ∷ ts) = IsTopic word t × AreTopics words ts

-- each of the words says a topic
abbrev pub HasTopics : List Text → Type 0
HasTopics words = (ts : List TopicConfig) × AreTopics words ts

-- decimal digits, behind a `+` or not, of a number of so many bits
abbrev pub SaysNumber : ℕ → Text → Type 0
SaysNumber bits word = IsNumeral 10 (without_leading_plus word) × (digits_value 10 (without_leading_plus word) < 2 ^ bits)

-- the number that the value of an argument says, if there is one and it says one, and else 0
abbrev pub IsNumberOf : ℕ → Option Text → ℕ → Type 0
IsNumberOf bits None n = n ≡ 0
IsNumberOf bits (Some word) n =
    (SaysNumber bits word × (n ≡ digits_value 10 (without_leading_plus word))) ⊎ (¬ SaysNumber bits word × (n ≡ 0))

-- the number that the value of an argument says, if there is one and it says one, and else none
abbrev pub IsGivenNumber : ℕ → Option Text → Option ℕ → Type 0
IsGivenNumber bits None n = n ≡ None
IsGivenNumber bits (Some word) None = ¬ SaysNumber bits word
IsGivenNumber bits (Some word) (Some n) = SaysNumber bits word × (n ≡ digits_value 10 (without_leading_plus word))

-- the port to listen at, and how many connections to serve
abbrev pub IsPort : List Row → ℕ → Type 0
IsPort rows port = IsNumberOf 16 (one_of (codes "port") rows) port

abbrev pub IsConnections : List Row → ℕ → Type 0
IsConnections rows count = IsNumberOf 32 (one_of (codes "connections") rows) count

-- decimal digits, behind a sign or not, of a number of `i64`
abbrev pub SaysSigned : Text → Type 0
SaysSigned word = IsNumeral 10 (without_leading_sign word) × FitsSigned w64 (signed_digits_value 10 word)

-- the number of `i64` that the value of an argument says, if there is one and it says one, and else 0
abbrev pub IsSignedOf : Option Text → ℤ → Type 0
IsSignedOf None z = z ≡ pos 0
IsSignedOf (Some word) z = (SaysSigned word × (z ≡ signed_digits_value 10 word)) ⊎ (¬ SaysSigned word × (z ≡ pos 0))

-- the producer id that the broker gives out first
abbrev pub IsFirstProducer : List Row → ℤ → Type 0
IsFirstProducer rows id = IsSignedOf (one_of (codes "first-producer") rows) id

-- the program's broker, which clients reach at a host and a port
pub record IsConfigAt (rows : List Row) (host : Text) (port : ℕ) (g : ConfigValue) : Type 0 where
  pub role : g.role ≡ role_of rows
  pub node_id : g.node_id ≡ pos 1
  pub host_is : g.host ≡ host
  pub port_is : g.port ≡ port
  pub topics : AreTopics (topic_words rows) g.topics
  pub first_producer : IsFirstProducer rows g.first_producer

-- the program's broker, at a port
abbrev pub IsConfigOf : List Row → ℕ → ConfigValue → Type 0
IsConfigOf rows port g = IsConfigAt rows (codes "127.0.0.1") port g

-- Clap finds no fault in the arguments, and finds the subcommand of this name in them, where the words of roles lie somewhere
-- in memory.
pub record Names (arguments : List Text) (name : Text) : Type 0 where
  pub roles : Roles
  pub are_roles : IsRoles roles
  pub no_fault : fault_of (kbroker roles) arguments ≡ []
  pub rows : List Row
  pub found : subcommand_of (kbroker roles) arguments ≡ Some (name, rows)

abbrev pub NamesSession : List Text → Type 0
NamesSession arguments = Names arguments (codes "session")

abbrev pub NamesReplay : List Text → Type 0
NamesReplay arguments = Names arguments (codes "replay")
