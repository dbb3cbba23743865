-- Lemmas on the program's arguments.
use Rattle.std.proofs.Common.{◌≡◌, ◌≢◌, ◌≤◌, arith, Bool, true, List, [], ◌∷◌, map, ap, refl, sym, subst, inl, inr, false, bytes_eq, ◌∙◌, codes, Option, Some, None}
use Rattle.std.specs.Prelude.{ℕ, ℤ, pos, ◌⊎◌, option_map, unwrap_or, MatchOption, Result, Ok, Err, String}
use Rattle.std.specs.Int.{w64}
use Rattle.std.specs.Str.Parse.{ParsesUnsigned, ParsesSigned}
use Rattle.std.specs.Borrow.{Bor}
use Rattle.std.proofs.lemmas.Option.{none-some, same_Some}
use Rattle.clap.specs.Words.{App, IsAmong, Kinds, Row, Text, first_value, first_of, all_of, raw_values, matched_of, rows_of, fault_of, subcommand_of, subcommand_rows_of, subcommand_name_of, is_simple, is_simple_and_free, kind_of, HasKind, HasMatchesOf, ReadsOne}
use Rattle.clap.specs.declared.error.Error.{Error}
use Rattle.clap.specs.declared.error.kind.ErrorKind.TheVariants.{OutOfMemory, DisplayHelp, DisplayVersion}
use Rattle.clap.specs.declared.error.kind.ErrorKind.{ErrorKind}
use Rattle.broker_state.specs.ConfigValues.{config_value}
use Rattle.broker_state.specs.State.{ConfigValue}
use Rattle.tcp_edge.specs.declared.asked.ArgumentsFault.{ArgumentsFault}
use Rattle.tcp_edge.specs.declared.asked.ArgumentsFault.TheVariants.{Clap, Address, Kept, Cleaning, Topic}
use Rattle.tcp_edge.specs.declared.asked.Asked.{Asked}
use Rattle.tcp_edge.specs.declared.asked.Asked.TheVariants.{Table, Session, Serve, Start, Check, Replay, Merge}
use Rattle.tcp_edge.specs.declared.addresses.AddressFault.{AddressFault}
use Rattle.tcp_edge.specs.declared.addresses.AddressFault.TheVariants.{Listen, Advertise, Unspecified}
use Rattle.tcp_edge.specs.declared.keeping.KeptFault.{KeptFault}
use Rattle.tcp_edge.specs.declared.keeping.KeptFault.TheVariants.{Alone, Fold, Sync}
use Rattle.tcp_edge.specs.Addresses.{IsAddressOf, IsUnfit}
use Rattle.tcp_edge.specs.Asked.{IsAsked, IsAddressFault, IsCheckSaid, IsConfigFault, IsDirectory, IsDirectoryOf, IsFaulty, IsKeptFault, IsHelp, IsMistake, IsOutOfMemory, IsParsed, IsListener, IsServeOptionsOf, IsServePortOf, IsStarter, IsStartFault, IsStartOptionsOf, IsStartSaid, IsStop, IfLeft, IfMerge, IfNamed, IfReplay, IfSession, IfTable, IsBadValue, AsksForOther, AsksForOtherThan}
use Rattle.listeners.specs.declared.options.ServeOptions.{ServeOptions}
use Rattle.listeners.specs.declared.options.StartOptions.{StartOptions}
use Rattle.std.specs.declared.net.socket_addr.SocketAddr.{SocketAddr}
use Rattle.std.specs.declared.alloc.Global.{Global}
use Rattle.std.specs.Net.Grammar.{IsSocketText, Parses}
use Rattle.clap.specs.declared.parser.matches.Found.{Found}
use Rattle.clap.specs.declared.parser.matches.ArgMatches.{ArgMatches}
use Rattle.clap.proofs.OnLiterals.{clap_on_literals}
use Rattle.clap.proofs.WalkLemmas.{first_value-rows, raw_values-rows}
use Rattle.tcp_edge.specs.CommandLine.{kbroker, AsksForHelp, AsksForTable, AsksForMerge, Finds, HasMistake, Names, NamesReplay, NamesSession, Roles, Stops, IsConfigOf, IsRoles, HasTopics, IsGivenNumber, IsNumberOf, IsSignedOf, IsPort, topic_words}

-- ---- the table

no_fault_of_table : (roles : Roles) (name : Text) → fault_of (kbroker roles) (name ∷ codes "table" ∷ []) ≡ []
unfolding clap_on_literals
no_fault_of_table roles name = refl

table_found : (roles : Roles) (name : Text) → subcommand_of (kbroker roles) (name ∷ codes "table" ∷ []) ≡ Some (codes "table", [])
unfolding clap_on_literals
table_found roles name = refl

-- arguments that ask for the table are found to do so
pub finds_table : (arguments : List Text) → AsksForTable arguments → Finds arguments (codes "table") []
finds_table arguments asks = record {
  no_fault = λ roles _. subst (λ (t : List Text). fault_of (kbroker roles) t ≡ []) (sym asks.1) (no_fault_of_table roles asks.0);
  found = λ roles _. subst (λ (t : List Text). subcommand_of (kbroker roles) t ≡ Some (codes "table", [])) (sym asks.1) (table_found roles asks.0);
}

-- ---- a merge

no_fault_of_merge : (roles : Roles) (name : Text) → fault_of (kbroker roles) (name ∷ codes "merge" ∷ []) ≡ []
unfolding clap_on_literals
no_fault_of_merge roles name = refl

merge_found : (roles : Roles) (name : Text) → subcommand_of (kbroker roles) (name ∷ codes "merge" ∷ []) ≡ Some (codes "merge", [])
unfolding clap_on_literals
merge_found roles name = refl

-- arguments that ask for a merge are found to do so
pub finds_merge : (arguments : List Text) → AsksForMerge arguments → Finds arguments (codes "merge") []
finds_merge arguments asks = record {
  no_fault = λ roles _. subst (λ (t : List Text). fault_of (kbroker roles) t ≡ []) (sym asks.1) (no_fault_of_merge roles asks.0);
  found = λ roles _. subst (λ (t : List Text). subcommand_of (kbroker roles) t ≡ Some (codes "merge", [])) (sym asks.1) (merge_found roles asks.0);
}

-- ---- the command is one of which clap's words give the matches

pub is_simple_kbroker : (app : App) (roles : Roles) → app ≡ kbroker roles → is_simple app ≡ true
is_simple_kbroker app roles is = ap is_simple is

pub is_free_kbroker : (app : App) (roles : Roles) → app ≡ kbroker roles → is_simple_and_free app ≡ true
is_free_kbroker app roles is = ap is_simple_and_free is

-- ---- what is read of the matches

pub first_row : (f : Found) (id : Text) → first_value f id ≡ first_of id (rows_of f)
first_row f id = first_value-rows f id

pub all_rows : (f : Found) (id : Text) → option_map raw_values (matched_of f id) ≡ all_of id (rows_of f)
all_rows f id = raw_values-rows f id

firsts : {X A B : Type 0} (f : X → A) (g : X → B) (x : Option X) → option_map (λ (p : A × B). p.0) (option_map (λ b. (f b, g b)) x) ≡ option_map f x
firsts f g None = refl
firsts f g (Some b) = refl

-- the name under which a subcommand was found
pub name_found : (m : ArgMatches) (name : Text) (rows : List Row) → subcommand_rows_of m ≡ Some (name, rows) → subcommand_name_of m ≡ Some name
name_found m name rows is = sym (firsts _ _ _) ∙ ap (option_map (λ (p : Text × List Row). p.0)) is

-- so that what is true of the values that were found under a name is true of the subcommand's
pub with_rows : (m : ArgMatches) (name given : Text) (found rows : List Row) (P : List Row → Type 0) → subcommand_name_of m ≡ Some name
    → option_map (λ (p : Text × List Row). p.1) (subcommand_rows_of m) ≡ Some found → P found → subcommand_rows_of m ≡ Some (given, rows)
    → (given ≡ name) × P rows
with_rows m name given found rows P named has is there = (
  same_Some given name (sym (name_found m given rows there) ∙ named),
  subst P (same_Some found rows (sym has ∙ ap (option_map (λ (p : Text × List Row). p.1)) there)) is,
)

-- a subcommand that was found under a name has its values
rows_by_name : (o : Option (Text × List Row)) (name : Text) → option_map (λ (p : Text × List Row). p.0) o ≡ Some name
    → (rows : List Row) × (o ≡ Some (name, rows))
rows_by_name None name is = absurd (none-some name is)
rows_by_name (Some p) name is = (p.1, ap (λ (t : Text). Some (t, p.1)) (same_Some p.0 name is))

-- what is found in the arguments is in the matches
pub found_rows : (app : App) (roles : Roles) (arguments : List Text) (m : ArgMatches) (name : Text) (rows : List Row) → IsRoles roles
    → app ≡ kbroker roles → Finds arguments name rows → HasMatchesOf app arguments m → subcommand_rows_of m ≡ Some (name, rows)
found_rows app roles arguments m name rows are is finds matches =
    (matches (is_simple_kbroker app roles is)).1 ∙ (ap (λ (a : App). subcommand_of a arguments) is ∙ finds.found roles are)

-- where a subcommand was found, it is named
pub subcommand_named : (app : App) (roles : Roles) (arguments : List Text) (m : ArgMatches) → IsRoles roles → app ≡ kbroker roles
    → HasMatchesOf app arguments m → (is_simple_and_free app ≡ true → fault_of app arguments ≡ [])
    → (name : Text) → subcommand_name_of m ≡ Some name → Names arguments name
subcommand_named app roles arguments m are is matches fine name named =
    let by_name : (rows : List Row) × (subcommand_rows_of m ≡ Some (name, rows)) = rows_by_name (subcommand_rows_of m) name (firsts _ _ _ ∙ named) in
    record {
      roles = roles;
      are_roles = are;
      no_fault = sym (ap (λ (a : App). fault_of a arguments) is) ∙ fine (is_free_kbroker app roles is);
      rows = by_name.0;
      found = sym (ap (λ (a : App). subcommand_of a arguments) is) ∙ (sym (matches (is_simple_kbroker app roles is)).1 ∙ by_name.1);
    }

pub if_subcommand_named : (asked : Asked) (P Q : Text → Type 0) → IfNamed asked P → ((name : Text) → P name → Q name) → IfNamed asked Q
if_subcommand_named Table P Q is leads = tt
if_subcommand_named (Session g) P Q is leads = leads (codes "session") is
if_subcommand_named (Serve options) P Q is leads = tt
if_subcommand_named (Start options) P Q is leads = tt
if_subcommand_named (Check directory) P Q is leads = tt
if_subcommand_named Replay P Q is leads = leads (codes "replay") is
if_subcommand_named Merge P Q is leads = leads (codes "merge") is

-- the values that were found, or none
pub words_found : (o : Option (Bor (List (Bor Text)))) (none : Bor (List (Bor Text))) (e : Option (List Text))
    → option_map (λ (s : Bor (List (Bor Text))). map (λ (w : Bor Text). w.now) s.now) o ≡ e → none.now ≡ []
    → map (λ (w : Bor Text). w.now) (unwrap_or o none).now ≡ unwrap_or e []
words_found None none e is empty = rw (← is, empty) refl
words_found (Some s) none e is empty = rw (← is) refl

-- a number is read as clap hands its text to the type
pub number_read : (E : Type 0) (G : List ℕ → Result ℕ E → Type 0) (bits : ℕ) (o : Option Text) (r : Option ℕ)
    → ((word : Text) (x : Result ℕ E) → G word x → ParsesUnsigned bits 10 word x)
    → (o ≡ None → r ≡ None) → ((word : Text) → o ≡ Some word → ReadsOne G word r) → IsNumberOf bits o (unwrap_or r 0)
number_read E G bits None r parses none value = ap (λ (n : Option ℕ). unwrap_or n 0) (none refl)
number_read E G bits (Some word) None parses none value = let read = value word refl in inr (parses word (Err read.0) read.1, refl)
number_read E G bits (Some word) (Some n) parses none value = inl (parses word (Ok n) (value word refl))

-- and so is one that needn't be given
pub given_number_read : (E : Type 0) (G : List ℕ → Result ℕ E → Type 0) (bits : ℕ) (o : Option Text) (r : Option ℕ)
    → ((word : Text) (x : Result ℕ E) → G word x → ParsesUnsigned bits 10 word x)
    → (o ≡ None → r ≡ None) → ((word : Text) → o ≡ Some word → ReadsOne G word r) → IsGivenNumber bits o r
given_number_read E G bits None r parses none value = none refl
given_number_read E G bits (Some word) None parses none value = let read = value word refl in parses word (Err read.0) read.1
given_number_read E G bits (Some word) (Some n) parses none value = parses word (Ok n) (value word refl)

-- and so is a number that may have a sign
pub signed_read : (E : Type 0) (G : List ℕ → Result ℤ E → Type 0) (o : Option Text) (r : Option ℤ)
    → ((word : Text) (x : Result ℤ E) → G word x → ParsesSigned w64 10 word x)
    → (o ≡ None → r ≡ None) → ((word : Text) → o ≡ Some word → ReadsOne G word r) → IsSignedOf o (unwrap_or r (pos 0))
signed_read E G None r parses none value = ap (λ (z : Option ℤ). unwrap_or z (pos 0)) (none refl)
signed_read E G (Some word) None parses none value = let read = value word refl in inr (parses word (Err read.0) read.1, refl)
signed_read E G (Some word) (Some z) parses none value = inl (parses word (Ok z) (value word refl))

-- and so is an address
pub address_read : (E : Type 0) (G : List ℕ → Result SocketAddr E → Type 0) (o : Option Text) (r : Option SocketAddr)
    → ((word : Text) (x : Result SocketAddr E) → G word x → Parses IsSocketText word x)
    → (o ≡ None → r ≡ None) → ((word : Text) → o ≡ Some word → ReadsOne G word r)
    → MatchOption r ((a : SocketAddr) → ¬ IsAddressOf o a) (IsAddressOf o)
address_read E G None None parses none value = λ a is. is
address_read E G None (Some a) parses none value = absurd (none-some a (sym (none refl)))
address_read E G (Some word) None parses none value = let read = value word refl in parses word (Err read.0) read.1
address_read E G (Some word) (Some a) parses none value = parses word (Ok a) (value word refl)

-- ---- faults

-- where clap finds no fault, only memory can be short
pub only_memory : (app : App) (roles : Roles) (arguments : List Text) (error : Error) (name : Text) (rows : List Row)
    → IsRoles roles → app ≡ kbroker roles → Finds arguments name rows
    → (is_simple_and_free app ≡ true → HasKind (fault_of app arguments) error) → kind_of error ≡ OutOfMemory
only_memory app roles arguments error name rows are is finds kinds =
    let none : fault_of app arguments ≡ [] = ap (λ (a : App). fault_of a arguments) is ∙ finds.no_fault roles are in
    let has : HasKind [] error = subst (λ (ks : List _). HasKind ks error) none (kinds (is_free_kbroker app roles is)) in
    elim has [ inl h ↦ h | inr bad ↦ absurd bad ]

-- where clap stops at the arguments, it finds no subcommand
pub no_stop : (app : App) (roles : Roles) (arguments : List Text) (kinds : Kinds) → IsRoles roles → app ≡ kbroker roles → Stops arguments kinds
    → (is_simple_and_free app ≡ true → fault_of app arguments ≡ []) → ⊥
no_stop app roles arguments kinds are is stops none =
    stops.some (sym (ap (λ (a : App). fault_of a arguments) is ∙ stops.fault roles are) ∙ none (is_free_kbroker app roles is))

-- and its error is one of those that it may stop with
pub stop_said : (app : App) (roles : Roles) (arguments : List Text) (kinds : Kinds) (error : Error) → IsRoles roles → app ≡ kbroker roles
    → Stops arguments kinds → (is_simple_and_free app ≡ true → HasKind (fault_of app arguments) error) → HasKind kinds error
stop_said app roles arguments kinds error are is stops said =
    subst (λ (ks : Kinds). HasKind ks error) (ap (λ (a : App). fault_of a arguments) is ∙ stops.fault roles are) (said (is_free_kbroker app roles is))

-- or memory ran out
pub memory_stops : (kinds : Kinds) (fault : ArgumentsFault) → IsOutOfMemory fault → IsStop kinds fault
memory_stops kinds (Clap error) is = inl is
memory_stops kinds (Address why) is = is
memory_stops kinds (Kept why) is = is
memory_stops kinds (Cleaning why) is = is
memory_stops kinds (Topic why) is = is

-- what clap stops with is no help where none was asked for
no_memory_help : (e : Error) → kind_of e ≡ OutOfMemory → (kind_of e ≢ DisplayHelp) × (kind_of e ≢ DisplayVersion)
no_memory_help e memory = (
  λ help. let bad : OutOfMemory ≡ DisplayHelp = sym memory ∙ help in cc,
  λ version. let bad : OutOfMemory ≡ DisplayVersion = sym memory ∙ version in cc,
)

no_help_among : (kinds : Kinds) (k : ErrorKind) → ¬ IsAmong DisplayHelp kinds → ¬ IsAmong DisplayVersion kinds → IsAmong k kinds
    → (k ≢ DisplayHelp) × (k ≢ DisplayVersion)
no_help_among kinds k help version among = (
  λ is. help (subst (λ (x : ErrorKind). IsAmong x kinds) is among),
  λ is. version (subst (λ (x : ErrorKind). IsAmong x kinds) is among),
)

pub mistake_stops : (arguments : List Text) (fault : ArgumentsFault) → HasMistake arguments
    → ((kinds : Kinds) → Stops arguments kinds → IsStop kinds fault) → IsMistake fault
mistake_stops arguments (Clap error) has stops =
    elim (stops has.kinds has.stops) [ inl memory ↦ no_memory_help error memory | inr among ↦ no_help_among has.kinds _ has.no_help has.no_version among ]
mistake_stops arguments (Address why) has stops = tt
mistake_stops arguments (Kept why) has stops = tt
mistake_stops arguments (Cleaning why) has stops = tt
mistake_stops arguments (Topic why) has stops = tt

-- where help is asked for, it is help, or memory ran out
one_kind : (k : ErrorKind) (e : Error) → HasKind (k ∷ []) e → (kind_of e ≡ OutOfMemory) ⊎ (kind_of e ≡ k)
one_kind k e (inl memory) = inl memory
one_kind k e (inr (inl is)) = inr is
one_kind k e (inr (inr bad)) = absurd bad

pub help_stops : (arguments : List Text) (fault : ArgumentsFault) → AsksForHelp arguments
    → ((kinds : Kinds) → Stops arguments kinds → IsStop kinds fault) → IsOutOfMemory fault ⊎ IsHelp fault
help_stops arguments (Clap error) (inl help) stops =
    elim (one_kind DisplayHelp error (stops _ help)) [ inl memory ↦ inl memory | inr is ↦ inr (inl is) ]
help_stops arguments (Clap error) (inr version) stops =
    elim (one_kind DisplayVersion error (stops _ version)) [ inl memory ↦ inl memory | inr is ↦ inr (inr is) ]
help_stops arguments (Address why) (inl help) stops = absurd (stops _ help)
help_stops arguments (Address why) (inr version) stops = absurd (stops _ version)
help_stops arguments (Kept why) (inl help) stops = absurd (stops _ help)
help_stops arguments (Cleaning why) (inl help) stops = absurd (stops _ help)
help_stops arguments (Kept why) (inr version) stops = absurd (stops _ version)
help_stops arguments (Cleaning why) (inr version) stops = absurd (stops _ version)
help_stops arguments (Topic why) (inl help) stops = absurd (stops _ help)
help_stops arguments (Topic why) (inr version) stops = absurd (stops _ version)

-- so the status is no 2
pub helped : (fault : ArgumentsFault) (status : ℕ) → IsOutOfMemory fault ⊎ IsHelp fault → (IsOutOfMemory fault → status ≡ 3)
    → (IsHelp fault → status ≢ 2) → status ≢ 2
helped fault status (inl memory) three help two = let is : status ≡ 3 = three memory in absurd (omega (arith, is, two))
helped fault status (inr asked) three help two = help asked two

pub no_help : (arguments : List Text) → AsksForHelp arguments → ((kinds : Kinds) → Stops arguments kinds → ⊥) → ⊥
no_help arguments (inl help) stops = stops _ help
no_help arguments (inr version) stops = stops _ version

pub session_fault : (name : Text) (rows : List Row) (fault : ArgumentsFault) → name ≡ codes "session" → IsConfigFault (topic_words rows) fault
    → IsFaulty name rows fault
session_fault name rows (Clap error) is h = h
session_fault name rows (Address why) is h = absurd h
session_fault name rows (Kept why) is h = absurd h
session_fault name rows (Cleaning why) is h = absurd h
session_fault name rows (Topic why) is h = (
  λ table. let bad : true ≡ false = ap (bytes_eq (codes "session")) (sym is ∙ table) in cc,
  λ merge. let bad : true ≡ false = ap (bytes_eq (codes "session")) (sym is ∙ merge) in cc,
  λ replay. let bad : true ≡ false = ap (bytes_eq (codes "session")) (sym is ∙ replay) in cc,
  λ check. let bad : true ≡ false = ap (bytes_eq (codes "session")) (sym is ∙ check) in cc,
  h,
)

pub serve_fault : (name : Text) (rows : List Row) (fault : ArgumentsFault) → name ≡ codes "serve" → IsConfigFault (topic_words rows) fault
    → IsFaulty name rows fault
serve_fault name rows (Clap error) is h = h
serve_fault name rows (Address why) is h = absurd h
serve_fault name rows (Kept why) is h = absurd h
serve_fault name rows (Cleaning why) is h = absurd h
serve_fault name rows (Topic why) is h = (
  λ table. let bad : true ≡ false = ap (bytes_eq (codes "serve")) (sym is ∙ table) in cc,
  λ merge. let bad : true ≡ false = ap (bytes_eq (codes "serve")) (sym is ∙ merge) in cc,
  λ replay. let bad : true ≡ false = ap (bytes_eq (codes "serve")) (sym is ∙ replay) in cc,
  λ check. let bad : true ≡ false = ap (bytes_eq (codes "serve")) (sym is ∙ check) in cc,
  h,
)

pub start_fault : (name : Text) (rows : List Row) (fault : ArgumentsFault) → name ≡ codes "start" → IsStartFault rows fault
    → IsFaulty name rows fault
start_fault name rows (Clap error) is h = h
start_fault name rows (Address why) is h = (is, h)
start_fault name rows (Kept why) is h = (is, h.1)
start_fault name rows (Cleaning why) is h = (is, h.1)
start_fault name rows (Topic why) is h = (
  λ table. let bad : true ≡ false = ap (bytes_eq (codes "start")) (sym is ∙ table) in cc,
  λ merge. let bad : true ≡ false = ap (bytes_eq (codes "start")) (sym is ∙ merge) in cc,
  λ replay. let bad : true ≡ false = ap (bytes_eq (codes "start")) (sym is ∙ replay) in cc,
  λ check. let bad : true ≡ false = ap (bytes_eq (codes "start")) (sym is ∙ check) in cc,
  h.1,
)

pub check_fault : (name : Text) (rows : List Row) (fault : ArgumentsFault) → name ≡ codes "check" → IsOutOfMemory fault → IsFaulty name rows fault
check_fault name rows (Clap error) is h = h
check_fault name rows (Address why) is h = absurd h
check_fault name rows (Kept why) is h = absurd h
check_fault name rows (Cleaning why) is h = absurd h
check_fault name rows (Topic why) is h = absurd h

-- ---- what a parse gives, where the table is asked for

pub if_table : (arguments : List Text) (asked : Asked) (P : Type 0) → AsksForTable arguments
    → ((name : Text) (rows : List Row) → Finds arguments name rows → IsAsked name rows asked) → IfTable asked P → P
if_table arguments Table P asks is fact = fact
if_table arguments (Session g) P asks is fact =
    let bad : true ≡ false = ap (bytes_eq (codes "table")) (is (codes "table") [] (finds_table arguments asks)).0 in cc
if_table arguments (Serve options) P asks is fact =
    let bad : true ≡ false = ap (bytes_eq (codes "table")) (is (codes "table") [] (finds_table arguments asks)).0 in cc
if_table arguments (Start options) P asks is fact =
    let bad : true ≡ false = ap (bytes_eq (codes "table")) (is (codes "table") [] (finds_table arguments asks)).0 in cc
if_table arguments (Check directory) P asks is fact =
    let bad : true ≡ false = ap (bytes_eq (codes "table")) (is (codes "table") [] (finds_table arguments asks)).0 in cc
if_table arguments Replay P asks is fact =
    let bad : true ≡ false = ap (bytes_eq (codes "table")) (is (codes "table") [] (finds_table arguments asks)) in cc
if_table arguments Merge P asks is fact =
    let bad : true ≡ false = ap (bytes_eq (codes "table")) (is (codes "table") [] (finds_table arguments asks)) in cc

pub table_fault : (arguments : List Text) (fault : ArgumentsFault) → AsksForTable arguments
    → ((name : Text) (rows : List Row) → Finds arguments name rows → IsFaulty name rows fault) → IsOutOfMemory fault
table_fault arguments (Clap error) asks is = is (codes "table") [] (finds_table arguments asks)
table_fault arguments (Address why) asks is =
    let bad : true ≡ false = ap (bytes_eq (codes "table")) (is (codes "table") [] (finds_table arguments asks)).0 in cc
table_fault arguments (Kept why) asks is =
    let bad : true ≡ false = ap (bytes_eq (codes "table")) (is (codes "table") [] (finds_table arguments asks)).0 in cc
table_fault arguments (Cleaning why) asks is =
    let bad : true ≡ false = ap (bytes_eq (codes "table")) (is (codes "table") [] (finds_table arguments asks)).0 in cc
table_fault arguments (Topic why) asks is = absurd ((is (codes "table") [] (finds_table arguments asks)).0 refl)

-- ---- and where a merge is

pub if_merge : (arguments : List Text) (asked : Asked) (P : Type 0) → AsksForMerge arguments
    → ((name : Text) (rows : List Row) → Finds arguments name rows → IsAsked name rows asked) → IfMerge asked P → P
if_merge arguments Merge P asks is fact = fact
if_merge arguments Table P asks is fact = absurd ((is (codes "merge") [] (finds_merge arguments asks)).4 refl)
if_merge arguments (Session g) P asks is fact =
    let bad : true ≡ false = ap (bytes_eq (codes "merge")) (is (codes "merge") [] (finds_merge arguments asks)).0 in cc
if_merge arguments (Serve options) P asks is fact =
    let bad : true ≡ false = ap (bytes_eq (codes "merge")) (is (codes "merge") [] (finds_merge arguments asks)).0 in cc
if_merge arguments (Start options) P asks is fact =
    let bad : true ≡ false = ap (bytes_eq (codes "merge")) (is (codes "merge") [] (finds_merge arguments asks)).0 in cc
if_merge arguments (Check directory) P asks is fact =
    let bad : true ≡ false = ap (bytes_eq (codes "merge")) (is (codes "merge") [] (finds_merge arguments asks)).0 in cc
if_merge arguments Replay P asks is fact =
    let bad : true ≡ false = ap (bytes_eq (codes "merge")) (is (codes "merge") [] (finds_merge arguments asks)) in cc

pub merge_fault : (arguments : List Text) (fault : ArgumentsFault) → AsksForMerge arguments
    → ((name : Text) (rows : List Row) → Finds arguments name rows → IsFaulty name rows fault) → IsOutOfMemory fault
merge_fault arguments (Clap error) asks is = is (codes "merge") [] (finds_merge arguments asks)
merge_fault arguments (Address why) asks is =
    let bad : true ≡ false = ap (bytes_eq (codes "merge")) (is (codes "merge") [] (finds_merge arguments asks)).0 in cc
merge_fault arguments (Kept why) asks is =
    let bad : true ≡ false = ap (bytes_eq (codes "merge")) (is (codes "merge") [] (finds_merge arguments asks)).0 in cc
merge_fault arguments (Cleaning why) asks is =
    let bad : true ≡ false = ap (bytes_eq (codes "merge")) (is (codes "merge") [] (finds_merge arguments asks)).0 in cc
merge_fault arguments (Topic why) asks is = absurd ((is (codes "merge") [] (finds_merge arguments asks)).1 refl)

-- ---- and where a session, a script or a broker that listens is: it is asked for

pub if_session : (rows : List Row) (asked : Asked) (P : ConfigValue → Type 0) → IsAsked (codes "session") rows asked
    → IfSession asked P → (g : ConfigValue) × IsConfigOf rows 9092 g × P g
if_session rows Table P is fact = absurd (is.0 refl)
if_session rows (Session g) P is fact = (config_value g, is.1, fact)
if_session rows (Serve options) P is fact = let bad : true ≡ false = ap (bytes_eq (codes "session")) is.0 in cc
if_session rows (Start options) P is fact = let bad : true ≡ false = ap (bytes_eq (codes "session")) is.0 in cc
if_session rows (Check directory) P is fact = let bad : true ≡ false = ap (bytes_eq (codes "session")) is.0 in cc
if_session rows Replay P is fact = let bad : true ≡ false = ap (bytes_eq (codes "session")) is in cc
if_session rows Merge P is fact = let bad : true ≡ false = ap (bytes_eq (codes "session")) is in cc

pub if_replay : (rows : List Row) (asked : Asked) (P : Type 0) → IsAsked (codes "replay") rows asked → IfReplay asked P → P
if_replay rows Table P is fact = absurd (is.3 refl)
if_replay rows (Session g) P is fact = let bad : true ≡ false = ap (bytes_eq (codes "replay")) is.0 in cc
if_replay rows (Serve options) P is fact = let bad : true ≡ false = ap (bytes_eq (codes "replay")) is.0 in cc
if_replay rows (Start options) P is fact = let bad : true ≡ false = ap (bytes_eq (codes "replay")) is.0 in cc
if_replay rows (Check directory) P is fact = let bad : true ≡ false = ap (bytes_eq (codes "replay")) is.0 in cc
if_replay rows Replay P is fact = fact
if_replay rows Merge P is fact = let bad : true ≡ false = ap (bytes_eq (codes "replay")) is in cc

pub if_serve : (rows : List Row) (asked : Asked) (P : Type 0) → IsAsked (codes "serve") rows asked → IfLeft asked P → P
if_serve rows Table P is fact = absurd (is.1 refl)
if_serve rows (Session g) P is fact = let bad : true ≡ false = ap (bytes_eq (codes "serve")) is.0 in cc
if_serve rows (Serve options) P is fact = fact
if_serve rows (Start options) P is fact = let bad : true ≡ false = ap (bytes_eq (codes "serve")) is.0 in cc
if_serve rows (Check directory) P is fact = let bad : true ≡ false = ap (bytes_eq (codes "serve")) is.0 in cc
if_serve rows Replay P is fact = let bad : true ≡ false = ap (bytes_eq (codes "serve")) is in cc
if_serve rows Merge P is fact = let bad : true ≡ false = ap (bytes_eq (codes "serve")) is in cc

pub if_start : (rows : List Row) (asked : Asked) (P : Type 0) → IsAsked (codes "start") rows asked → IfLeft asked P → P
if_start rows Table P is fact = absurd (is.2 refl)
if_start rows (Session g) P is fact = let bad : true ≡ false = ap (bytes_eq (codes "start")) is.0 in cc
if_start rows (Start options) P is fact = fact
if_start rows (Serve options) P is fact = let bad : true ≡ false = ap (bytes_eq (codes "start")) is.0 in cc
if_start rows (Check directory) P is fact = let bad : true ≡ false = ap (bytes_eq (codes "start")) is.0 in cc
if_start rows Replay P is fact = let bad : true ≡ false = ap (bytes_eq (codes "start")) is in cc
if_start rows Merge P is fact = let bad : true ≡ false = ap (bytes_eq (codes "start")) is in cc

pub if_check : (rows : List Row) (asked : Asked) (P : Type 0) → IsAsked (codes "check") rows asked → IfLeft asked P → P
if_check rows Table P is fact = absurd (is.5 refl)
if_check rows (Session g) P is fact = let bad : true ≡ false = ap (bytes_eq (codes "check")) is.0 in cc
if_check rows (Serve options) P is fact = let bad : true ≡ false = ap (bytes_eq (codes "check")) is.0 in cc
if_check rows (Start options) P is fact = let bad : true ≡ false = ap (bytes_eq (codes "check")) is.0 in cc
if_check rows (Check directory) P is fact = fact
if_check rows Replay P is fact = let bad : true ≡ false = ap (bytes_eq (codes "check")) is in cc
if_check rows Merge P is fact = let bad : true ≡ false = ap (bytes_eq (codes "check")) is in cc

-- what was done, by what was asked for
pub done_by : (arguments : List Text) (asked : Asked) (status : ℕ) (Help T M A B : Type 0) → IfTable asked A → (A → status ≡ 0 → T)
    → IfMerge asked B → (B → status ≡ 0 → M) → IfLeft asked (status ≡ 2) → IfNamed asked (λ name. Names arguments name) → status ≡ 0
    → Help ⊎ T ⊎ M ⊎ NamesSession arguments ⊎ NamesReplay arguments
done_by arguments Table status Help T M A B table prints merge prints_merge serve named done = inr (inl (prints table done))
done_by arguments (Session g) status Help T M A B table prints merge prints_merge serve named done = inr (inr (inr (inl named)))
done_by arguments (Serve options) status Help T M A B table prints merge prints_merge serve named done = absurd (omega (arith, serve, done))
done_by arguments (Start options) status Help T M A B table prints merge prints_merge serve named done = absurd (omega (arith, serve, done))
done_by arguments (Check directory) status Help T M A B table prints merge prints_merge serve named done = absurd (omega (arith, serve, done))
done_by arguments Replay status Help T M A B table prints merge prints_merge serve named done = inr (inr (inr (inr named)))
done_by arguments Merge status Help T M A B table prints merge prints_merge serve named done = inr (inr (inl (prints_merge merge done)))

-- only a word in the place of a topic is at fault, or memory is short
pub topic_or_memory : (name : Text) (rows : List Row) (fault : ArgumentsFault) → name ≢ codes "start" → IsFaulty name rows fault
    → IsOutOfMemory fault ⊎ (IsBadValue fault × ¬ HasTopics (topic_words rows))
topic_or_memory name rows (Clap error) other is = inl is
topic_or_memory name rows (Address why) other is = absurd (other is.0)
topic_or_memory name rows (Kept why) other is = absurd (other is.0)
topic_or_memory name rows (Cleaning why) other is = absurd (other is.0)
topic_or_memory name rows (Topic why) other is = inr (tt, is.4)

pub session_is_no_start : codes "session" ≢ codes "start"
session_is_no_start is = let bad : true ≡ false = ap (bytes_eq (codes "session")) is in cc

pub serve_is_no_start : codes "serve" ≢ codes "start"
serve_is_no_start is = let bad : true ≡ false = ap (bytes_eq (codes "serve")) is in cc

-- where many connections are asked for, also an address is
unfit_address : (rows : List Row) (why : AddressFault) → IsAddressFault rows why → IsUnfit rows
unfit_address rows Listen is = inl is
unfit_address rows Advertise is = inr (inl is)
unfit_address rows Unspecified is = inr (inl is)

unfit_kept : (rows : List Row) (why : KeptFault) → IsKeptFault rows why → IsUnfit rows
unfit_kept rows Alone is = inr (inr (inl is))
unfit_kept rows Fold is = inr (inr (inr (inl is)))
unfit_kept rows Sync is = inr (inr (inr (inr (inl is))))

pub unfit_or_memory : (name : Text) (rows : List Row) (fault : ArgumentsFault) → IsFaulty name rows fault
    → IsOutOfMemory fault ⊎ (IsBadValue fault × IsUnfit rows)
unfit_or_memory name rows (Clap error) is = inl is
unfit_or_memory name rows (Address why) is = inr (tt, unfit_address rows why is.1)
unfit_or_memory name rows (Kept why) is = inr (tt, unfit_kept rows why is.1)
unfit_or_memory name rows (Cleaning why) is = inr (tt, inr (inr (inr (inr (inr (inl (why, is.1)))))))
unfit_or_memory name rows (Topic why) is = inr (tt, inr (inr (inr (inr (inr (inr is.4))))))

-- so the status is 3, or it says that a word is none
pub refused_left : (fault : ArgumentsFault) (status : ℕ) (P H : Type 0) → IsOutOfMemory fault ⊎ (IsBadValue fault × H)
    → (IsOutOfMemory fault → status ≡ 3) → (status ≡ 3 → P) → (IsBadValue fault → (2 ≤ status) × (status ≤ 3) × P)
    → (2 ≤ status) × (status ≤ 3) × P
refused_left fault status P H (inl memory) three nothing topic =
    let is : status ≡ 3 = three memory in (omega (arith, is), omega (arith, is), nothing is)
refused_left fault status P H (inr word) three nothing topic = topic word.0

pub refused_topic : (fault : ArgumentsFault) (status : ℕ) (H : Type 0) → IsOutOfMemory fault ⊎ (IsBadValue fault × H)
    → (IsOutOfMemory fault → status ≡ 3) → status ≡ 2 → H
refused_topic fault status H (inl memory) three two = let is : status ≡ 3 = three memory in absurd (omega (arith, is, two))
refused_topic fault status H (inr word) three two = word.1

pub replay_fault : (rows : List Row) (fault : ArgumentsFault) → IsFaulty (codes "replay") rows fault → IsOutOfMemory fault
replay_fault rows (Clap error) is = is
replay_fault rows (Address why) is = let bad : true ≡ false = ap (bytes_eq (codes "replay")) is.0 in cc
replay_fault rows (Kept why) is = let bad : true ≡ false = ap (bytes_eq (codes "replay")) is.0 in cc
replay_fault rows (Cleaning why) is = let bad : true ≡ false = ap (bytes_eq (codes "replay")) is.0 in cc
replay_fault rows (Topic why) is = absurd (is.2 refl)

pub check_memory : (rows : List Row) (fault : ArgumentsFault) → IsFaulty (codes "check") rows fault → IsOutOfMemory fault
check_memory rows (Clap error) is = is
check_memory rows (Address why) is = let bad : true ≡ false = ap (bytes_eq (codes "check")) is.0 in cc
check_memory rows (Kept why) is = let bad : true ≡ false = ap (bytes_eq (codes "check")) is.0 in cc
check_memory rows (Cleaning why) is = let bad : true ≡ false = ap (bytes_eq (codes "check")) is.0 in cc
check_memory rows (Topic why) is = absurd (is.3 refl)

-- ---- and where something else than a broker that listens is

pub no_options : (arguments : List Text) (asked : Asked) (options : Option ServeOptions) → AsksForOther arguments
    → ((name : Text) (rows : List Row) → Finds arguments name rows → IsAsked name rows asked)
    → ((kinds : Kinds) → Stops arguments kinds → ⊥) → IsServeOptionsOf asked options → options ≡ None
no_options arguments Table options asks is stops of = of
no_options arguments (Session g) options asks is stops of = of
no_options arguments (Serve p) options (inl asks) is stops of = absurd (asks.3 (is asks.0 asks.1 asks.2).0)
no_options arguments (Serve p) options (inr stopped) is stops of = absurd (stops stopped.0 stopped.1)
no_options arguments (Start p) options asks is stops of = of
no_options arguments (Check d) options asks is stops of = of
no_options arguments Replay options asks is stops of = of
no_options arguments Merge options asks is stops of = of

pub no_start : (arguments : List Text) (asked : Asked) (options : Option StartOptions) → AsksForOtherThan (codes "start") arguments
    → ((name : Text) (rows : List Row) → Finds arguments name rows → IsAsked name rows asked)
    → ((kinds : Kinds) → Stops arguments kinds → ⊥) → IsStartOptionsOf asked options → options ≡ None
no_start arguments Table options asks is stops of = of
no_start arguments (Session g) options asks is stops of = of
no_start arguments (Serve p) options asks is stops of = of
no_start arguments (Start p) options (inl asks) is stops of = absurd (asks.3 (is asks.0 asks.1 asks.2).0)
no_start arguments (Start p) options (inr stopped) is stops of = absurd (stops stopped.0 stopped.1)
no_start arguments (Check d) options asks is stops of = of
no_start arguments Replay options asks is stops of = of
no_start arguments Merge options asks is stops of = of

-- ---- what a parsed line asks for

pub parsed_ok : (words arguments : List Text) (parsed : Result Asked ArgumentsFault) (asked : Asked) → words ≡ arguments → parsed ≡ Ok asked
    → IsParsed words parsed → IsParsed arguments (Ok asked)
parsed_ok words arguments parsed asked same is of =
    subst (λ (ws : List Text). IsParsed ws (Ok asked)) same (subst (IsParsed words) is of)

pub parsed_err : (words arguments : List Text) (parsed : Result Asked ArgumentsFault) (why : ArgumentsFault) → words ≡ arguments → parsed ≡ Err why
    → IsParsed words parsed → IsParsed arguments (Err why)
parsed_err words arguments parsed why same is of =
    subst (λ (ws : List Text). IsParsed ws (Err why)) same (subst (IsParsed words) is of)

pub not_said : (arguments : List Text) (asked : Asked) (said : Bool) → AsksForOtherThan (codes "start") arguments
    → ((name : Text) (rows : List Row) → Finds arguments name rows → IsAsked name rows asked)
    → ((kinds : Kinds) → Stops arguments kinds → ⊥) → IsStartSaid asked said → said ≡ false
not_said arguments Table said asks is stops of = of
not_said arguments (Session g) said asks is stops of = of
not_said arguments (Serve p) said asks is stops of = of
not_said arguments (Start p) said (inl asks) is stops of = absurd (asks.3 (is asks.0 asks.1 asks.2).0)
not_said arguments (Start p) said (inr stopped) is stops of = absurd (stops stopped.0 stopped.1)
not_said arguments (Check d) said asks is stops of = of
not_said arguments Replay said asks is stops of = of
not_said arguments Merge said asks is stops of = of

-- ---- and where one is

pub options_found : (arguments : List Text) (rows : List Row) (asked : Asked) (options : Option ServeOptions) → Finds arguments (codes "serve") rows
    → ((name : Text) (rows : List Row) → Finds arguments name rows → IsAsked name rows asked) → IsServeOptionsOf asked options
    → MatchOption options (¬ HasTopics (topic_words rows)) (IsListener rows)
options_found arguments rows Table options finds is of = absurd ((is (codes "serve") rows finds).1 refl)
options_found arguments rows (Session g) options finds is of =
    let bad : true ≡ false = ap (bytes_eq (codes "serve")) (is (codes "serve") rows finds).0 in cc
options_found arguments rows (Serve asked) options finds is of =
    subst (λ (p : Option ServeOptions). MatchOption p (¬ HasTopics (topic_words rows)) (IsListener rows)) (sym of) (is (codes "serve") rows finds).1
options_found arguments rows (Start asked) options finds is of =
    let bad : true ≡ false = ap (bytes_eq (codes "serve")) (is (codes "serve") rows finds).0 in cc
options_found arguments rows (Check asked) options finds is of =
    let bad : true ≡ false = ap (bytes_eq (codes "serve")) (is (codes "serve") rows finds).0 in cc
options_found arguments rows Replay options finds is of =
    let bad : true ≡ false = ap (bytes_eq (codes "serve")) (is (codes "serve") rows finds) in cc
options_found arguments rows Merge options finds is of =
    let bad : true ≡ false = ap (bytes_eq (codes "serve")) (is (codes "serve") rows finds) in cc

pub start_found : (arguments : List Text) (rows : List Row) (asked : Asked) (options : Option StartOptions) → Finds arguments (codes "start") rows
    → ((name : Text) (rows : List Row) → Finds arguments name rows → IsAsked name rows asked) → IsStartOptionsOf asked options
    → MatchOption options (IsUnfit rows) (IsStarter rows)
start_found arguments rows Table options finds is of = absurd ((is (codes "start") rows finds).2 refl)
start_found arguments rows (Session g) options finds is of =
    let bad : true ≡ false = ap (bytes_eq (codes "start")) (is (codes "start") rows finds).0 in cc
start_found arguments rows (Serve asked) options finds is of =
    let bad : true ≡ false = ap (bytes_eq (codes "start")) (is (codes "start") rows finds).0 in cc
start_found arguments rows (Start asked) options finds is of =
    subst (λ (p : Option StartOptions). MatchOption p (IsUnfit rows) (IsStarter rows)) (sym of) (is (codes "start") rows finds).1
start_found arguments rows (Check asked) options finds is of =
    let bad : true ≡ false = ap (bytes_eq (codes "start")) (is (codes "start") rows finds).0 in cc
start_found arguments rows Replay options finds is of =
    let bad : true ≡ false = ap (bytes_eq (codes "start")) (is (codes "start") rows finds) in cc
start_found arguments rows Merge options finds is of =
    let bad : true ≡ false = ap (bytes_eq (codes "start")) (is (codes "start") rows finds) in cc

-- where memory isn't short, only a topic is at fault
pub topic_fault : (arguments : List Text) (rows : List Row) (fault : ArgumentsFault) → Finds arguments (codes "serve") rows
    → ((name : Text) (rows : List Row) → Finds arguments name rows → IsFaulty name rows fault) → ¬ IsOutOfMemory fault
    → ¬ HasTopics (topic_words rows)
topic_fault arguments rows fault finds is enough =
    elim (topic_or_memory (codes "serve") rows fault serve_is_no_start (is (codes "serve") rows finds)) [ inl memory ↦ absurd (enough memory) | inr topic ↦ topic.1 ]

-- or an address
pub start_fault_is : (arguments : List Text) (rows : List Row) (fault : ArgumentsFault) → Finds arguments (codes "start") rows
    → ((name : Text) (rows : List Row) → Finds arguments name rows → IsFaulty name rows fault) → ¬ IsOutOfMemory fault → IsUnfit rows
start_fault_is arguments rows fault finds is enough =
    elim (unfit_or_memory (codes "start") rows fault (is (codes "start") rows finds)) [ inl memory ↦ absurd (enough memory) | inr value ↦ value.1 ]

pub no_starter : (arguments : List Text) (rows : List Row) (fault : ArgumentsFault) (options : Option StartOptions)
    → Finds arguments (codes "start") rows → ((name : Text) (rows : List Row) → Finds arguments name rows → IsFaulty name rows fault)
    → (options ≡ None) × ¬ IsOutOfMemory fault → MatchOption options (IsUnfit rows) (IsStarter rows)
no_starter arguments rows fault options finds is none =
    subst (λ (o : Option StartOptions). MatchOption o (IsUnfit rows) (IsStarter rows)) (sym none.0) (start_fault_is arguments rows fault finds is none.1)

pub port_found : (arguments : List Text) (rows : List Row) (asked : Asked) (port : Option ℕ) → Finds arguments (codes "serve") rows
    → ((name : Text) (rows : List Row) → Finds arguments name rows → IsAsked name rows asked) → IsServePortOf asked port
    → MatchOption port (¬ HasTopics (topic_words rows)) (λ port. IsPort rows port × HasTopics (topic_words rows))
port_found arguments rows Table port finds is of = absurd ((is (codes "serve") rows finds).1 refl)
port_found arguments rows (Session g) port finds is of =
    let bad : true ≡ false = ap (bytes_eq (codes "serve")) (is (codes "serve") rows finds).0 in cc
port_found arguments rows (Serve asked) port finds is of =
    let listens = (is (codes "serve") rows finds).1 in
    subst (λ (p : Option ℕ). MatchOption p (¬ HasTopics (topic_words rows)) (λ port. IsPort rows port × HasTopics (topic_words rows))) (sym of)
    (subst (IsPort rows) (sym listens.config.port_is) listens.is_port, (_, listens.config.topics))
port_found arguments rows (Start asked) port finds is of =
    let bad : true ≡ false = ap (bytes_eq (codes "serve")) (is (codes "serve") rows finds).0 in cc
port_found arguments rows (Check asked) port finds is of =
    let bad : true ≡ false = ap (bytes_eq (codes "serve")) (is (codes "serve") rows finds).0 in cc
port_found arguments rows Replay port finds is of =
    let bad : true ≡ false = ap (bytes_eq (codes "serve")) (is (codes "serve") rows finds) in cc
port_found arguments rows Merge port finds is of =
    let bad : true ≡ false = ap (bytes_eq (codes "serve")) (is (codes "serve") rows finds) in cc

pub no_port_asked : (arguments : List Text) (asked : Asked) (port : Option ℕ) → AsksForOther arguments
    → ((name : Text) (rows : List Row) → Finds arguments name rows → IsAsked name rows asked)
    → ((kinds : Kinds) → Stops arguments kinds → ⊥) → IsServePortOf asked port → port ≡ None
no_port_asked arguments Table port asks is stops of = of
no_port_asked arguments (Session g) port asks is stops of = of
no_port_asked arguments (Serve p) port (inl asks) is stops of = absurd (asks.3 (is asks.0 asks.1 asks.2).0)
no_port_asked arguments (Serve p) port (inr stopped) is stops of = absurd (stops stopped.0 stopped.1)
no_port_asked arguments (Start p) port asks is stops of = of
no_port_asked arguments (Check d) port asks is stops of = of
no_port_asked arguments Replay port asks is stops of = of
no_port_asked arguments Merge port asks is stops of = of

-- ---- a look at a directory

pub no_directory : (arguments : List Text) (asked : Asked) (directory : Option (String Global)) → AsksForOtherThan (codes "check") arguments
    → ((name : Text) (rows : List Row) → Finds arguments name rows → IsAsked name rows asked)
    → ((kinds : Kinds) → Stops arguments kinds → ⊥) → IsDirectoryOf asked directory → directory ≡ None
no_directory arguments Table directory asks is stops of = of
no_directory arguments (Session g) directory asks is stops of = of
no_directory arguments (Serve p) directory asks is stops of = of
no_directory arguments (Start p) directory asks is stops of = of
no_directory arguments (Check d) directory (inl asks) is stops of = absurd (asks.3 (is asks.0 asks.1 asks.2).0)
no_directory arguments (Check d) directory (inr stopped) is stops of = absurd (stops stopped.0 stopped.1)
no_directory arguments Replay directory asks is stops of = of
no_directory arguments Merge directory asks is stops of = of

pub no_check_said : (arguments : List Text) (asked : Asked) (said : Bool) → AsksForOtherThan (codes "check") arguments
    → ((name : Text) (rows : List Row) → Finds arguments name rows → IsAsked name rows asked)
    → ((kinds : Kinds) → Stops arguments kinds → ⊥) → IsCheckSaid asked said → said ≡ false
no_check_said arguments Table said asks is stops of = of
no_check_said arguments (Session g) said asks is stops of = of
no_check_said arguments (Serve p) said asks is stops of = of
no_check_said arguments (Start p) said asks is stops of = of
no_check_said arguments (Check d) said (inl asks) is stops of = absurd (asks.3 (is asks.0 asks.1 asks.2).0)
no_check_said arguments (Check d) said (inr stopped) is stops of = absurd (stops stopped.0 stopped.1)
no_check_said arguments Replay said asks is stops of = of
no_check_said arguments Merge said asks is stops of = of

pub directory_found : (arguments : List Text) (rows : List Row) (asked : Asked) (directory : Option (String Global)) → Finds arguments (codes "check") rows
    → ((name : Text) (rows : List Row) → Finds arguments name rows → IsAsked name rows asked) → IsDirectoryOf asked directory
    → MatchOption directory ⊥ (IsDirectory rows)
directory_found arguments rows Table directory finds is of = absurd ((is (codes "check") rows finds).5 refl)
directory_found arguments rows (Session g) directory finds is of =
    let bad : true ≡ false = ap (bytes_eq (codes "check")) (is (codes "check") rows finds).0 in cc
directory_found arguments rows (Serve asked) directory finds is of =
    let bad : true ≡ false = ap (bytes_eq (codes "check")) (is (codes "check") rows finds).0 in cc
directory_found arguments rows (Start asked) directory finds is of =
    let bad : true ≡ false = ap (bytes_eq (codes "check")) (is (codes "check") rows finds).0 in cc
directory_found arguments rows (Check asked) directory finds is of =
    subst (λ (d : Option (String Global)). MatchOption d ⊥ (IsDirectory rows)) (sym of) (is (codes "check") rows finds).1
directory_found arguments rows Replay directory finds is of =
    let bad : true ≡ false = ap (bytes_eq (codes "check")) (is (codes "check") rows finds) in cc
directory_found arguments rows Merge directory finds is of =
    let bad : true ≡ false = ap (bytes_eq (codes "check")) (is (codes "check") rows finds) in cc

-- where none was found there was no memory
pub only_memory_lacks : (arguments : List Text) (rows : List Row) (fault : ArgumentsFault) → Finds arguments (codes "check") rows
    → ((name : Text) (rows : List Row) → Finds arguments name rows → IsFaulty name rows fault) → ¬ IsOutOfMemory fault → ⊥
only_memory_lacks arguments rows fault finds is enough = enough (check_memory rows fault (is (codes "check") rows finds))
