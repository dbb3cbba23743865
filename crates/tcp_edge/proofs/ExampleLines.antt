-- What clap finds in the lines of the examples. Each is computed; only that the word for a role is one of the two is a fact of
-- where these words lie.
use Rattle.std.proofs.Common.{◌≡◌, ◌≢◌, ℕ, rules, arith, inl, inr, true≢false, Bool, true, List, [], ◌∷◌, map, ap, refl, sym, subst, false, ◌∙◌, codes, Some, None}
use Rattle.std.specs.Prelude.{if◌then◌else◌}
use Rattle.std.specs.List.{list_any}
use Rattle.std.specs.Borrow.{Bor}
use Rattle.std.specs.Fmt.{digits}
use Rattle.std.specs.Net.Grammar.{IsDotted}
use Rattle.std.specs.declared.net.socket_addr.SocketAddr.{SocketAddr}
use Rattle.std.specs.declared.net.socket_addr.SocketAddr.TheVariants.{V4}
use Rattle.clap.specs.Words.{Kinds, Row, Text, fault_of, subcommand_of, same_text}
use Rattle.clap.specs.Kinds.{or_else}
use Rattle.clap.specs.declared.builder.value_parser.Reading.{Reading}
use Rattle.clap.specs.declared.builder.value_parser.Reading.TheVariants.{AsWritten, WithoutMinus}
use Rattle.clap.specs.declared.error.kind.ErrorKind.TheVariants.{InvalidValue}
use Rattle.clap.specs.declared.parser.matches.ValueSource.TheVariants.{CommandLine, DefaultValue}
use Rattle.clap.proofs.OnLiterals.{clap_on_literals}
use Rattle.tcp_edge.specs.CommandLine.{kbroker, Finds, Roles, IsRoles, HasTopics, IsTextAndNumber, IsTopic, directory_word, topic_words}
use Rattle.tcp_edge.specs.Addresses.{Advertises, IsInBrackets, IsListen, IsUnfit}
use Rattle.tcp_edge.specs.declared.cleaning.CleanAt.TheVariants.{Percent, Never}
use Rattle.tcp_edge.specs.declared.cleaning.CleaningFault.{CleaningFault}
use Rattle.tcp_edge.specs.declared.cleaning.CleaningFault.TheVariants.{At, Lag, Within, KeepDeletes, Short}
use Rattle.tcp_edge.specs.Cleaning.{IsCleaningFault}
use Rattle.tcp_edge.specs.Examples.{session_line, serve_line, start_line, check_line, replay_line}

-- ---- the word for a role, where none is given

among : (ws : List (Bor Text)) (f : Text → Bool) → list_any (λ w. f w.now) ws ≡ list_any f (map (λ w. w.now) ws)
among [] f = refl
among (w ∷ ws) f = grind (arith, among ws f)

is_role : (roles : Roles) → IsRoles roles → list_any (λ name. same_text false name.now (codes "leader")) roles.now ≡ true
is_role roles is = among roles.now (λ t. same_text false t (codes "leader")) ∙ ap (list_any (λ t. same_text false t (codes "leader"))) is

-- the kinds of error that a line with no other fault has, by whether that word is one for a role
abbrev role_fault : Bool → Kinds
role_fault b = or_else (or_else (or_else (or_else (if b then [] else InvalidValue ∷ []) []) []) []) []

-- ---- values that are found

abbrev given : Text → Text → Reading → Row
given id word reading = record { id = id; values = word ∷ []; count = None; source = Some CommandLine; reading = reading }

abbrev by_default : Text → Text → Reading → Row
by_default id word reading = record { id = id; values = word ∷ []; count = None; source = Some DefaultValue; reading = reading }

abbrev topic_row : Row
topic_row = given (codes "topics") (codes "t:1") AsWritten

abbrev role_row : Row
role_row = by_default (codes "role") (codes "leader") AsWritten

abbrev first_producer_row : Row
first_producer_row = by_default (codes "first-producer") (codes "0") WithoutMinus

abbrev pub session_rows : List Row
session_rows = topic_row ∷ role_row ∷ first_producer_row ∷ []

abbrev pub serve_rows : List Row
serve_rows =
    given (codes "port") (codes "0") WithoutMinus ∷ given (codes "connections") (codes "1") WithoutMinus
    ∷ topic_row ∷ role_row ∷ first_producer_row ∷ []

abbrev pub start_rows : List Row
start_rows =
    given (codes "advertise") (codes "h:1") AsWritten ∷ topic_row ∷ by_default (codes "listen") (codes "127.0.0.1:9092") AsWritten ∷ role_row ∷ first_producer_row
    ∷ by_default (codes "most-connections") (codes "10000") WithoutMinus
    ∷ by_default (codes "most-held") (codes "1073741824") WithoutMinus ∷ by_default (codes "idle") (codes "600") WithoutMinus
    ∷ by_default (codes "snapshot-after") (codes "67108864") WithoutMinus
    ∷ by_default (codes "fold") (codes "false") AsWritten ∷ []

abbrev pub check_rows : List Row
check_rows = given (codes "directory") (codes "data") AsWritten ∷ []

-- ---- what is found

session_fault : (roles : Roles) → IsRoles roles → fault_of (kbroker roles) session_line ≡ []
unfolding clap_on_literals
session_fault roles is = subst (λ (b : Bool). role_fault b ≡ []) (sym (is_role roles is)) refl

session_found : (roles : Roles) → subcommand_of (kbroker roles) session_line ≡ Some (codes "session", session_rows)
unfolding clap_on_literals
session_found roles = refl

serve_fault : (roles : Roles) → IsRoles roles → fault_of (kbroker roles) serve_line ≡ []
unfolding clap_on_literals
serve_fault roles is = subst (λ (b : Bool). role_fault b ≡ []) (sym (is_role roles is)) refl

serve_found : (roles : Roles) → subcommand_of (kbroker roles) serve_line ≡ Some (codes "serve", serve_rows)
unfolding clap_on_literals
serve_found roles = refl

start_fault : (roles : Roles) → IsRoles roles → fault_of (kbroker roles) start_line ≡ []
unfolding clap_on_literals
start_fault roles is = subst (λ (b : Bool). role_fault b ≡ []) (sym (is_role roles is)) refl

start_found : (roles : Roles) → subcommand_of (kbroker roles) start_line ≡ Some (codes "start", start_rows)
unfolding clap_on_literals
start_found roles = refl

check_fault : (roles : Roles) → fault_of (kbroker roles) check_line ≡ []
unfolding clap_on_literals
check_fault roles = refl

check_found : (roles : Roles) → subcommand_of (kbroker roles) check_line ≡ Some (codes "check", check_rows)
unfolding clap_on_literals
check_found roles = refl

replay_fault : (roles : Roles) → fault_of (kbroker roles) replay_line ≡ []
unfolding clap_on_literals
replay_fault roles = refl

replay_found : (roles : Roles) → subcommand_of (kbroker roles) replay_line ≡ Some (codes "replay", [])
unfolding clap_on_literals
replay_found roles = refl

-- ---- the topic

one_topic : IsTopic (codes "t:1") (record { name = codes "t"; partitions = 1 })
one_topic = record { digits = codes "1"; parts = refl; are_digits = search rules; number = refl; fits = omega arith }

one_port : IsTextAndNumber 16 (codes "h:1") (codes "h") 1
one_port = record { digits = codes "1"; parts = refl; are_digits = search rules; number = refl; fits = omega arith }

has_one : (rows : List Row) → topic_words rows ≡ codes "t:1" ∷ [] → HasTopics (topic_words rows)
has_one rows is = subst HasTopics (sym is) (record { name = codes "t"; partitions = 1 } ∷ [], (one_topic, tt))

-- ---- the addresses

abbrev loopback : SocketAddr
loopback = V4 (record { ip = record { octets = 127 ∷ 0 ∷ 0 ∷ 1 ∷ [] }; port = 9092 })

dotted : IsDotted (codes "127.0.0.1") (127 ∷ 0 ∷ 0 ∷ 1 ∷ [])
unfolding digits
dotted = record { a = 127; b = 0; c = 0; d = 1; fit = (omega arith, omega arith, omega arith, omega arith); value = refl; spelled = refl }

listens : IsListen start_rows loopback
unfolding clap_on_literals
listens = (codes "127.0.0.1", codes ":9092", refl, dotted, (codes "9092", refl, (search rules, refl), omega arith))

in_no_brackets : (inner : Text) → ¬ IsInBrackets (codes "h") inner
in_no_brackets inner e = absurd (grind (arith, e))

advertises : (listen : SocketAddr) → Advertises start_rows listen (codes "h") 1
unfolding clap_on_literals
advertises listen = record { front = codes "h"; parts = one_port; some = (λ e. absurd (grind (arith, e)), λ e. absurd (grind (arith, e))); is_host = inr (in_no_brackets, refl) }

never_percent : (n : ℕ) → Percent n ≢ Never
never_percent n is = absurd cc

nothing_wrong : (why : CleaningFault) → ¬ IsCleaningFault start_rows why
unfolding clap_on_literals
nothing_wrong At none = none Never refl
nothing_wrong Lag alone = alone.1 refl
nothing_wrong Within alone = alone.1 refl
nothing_wrong KeepDeletes alone = alone.1 refl
nothing_wrong Short short = never_percent short.percent short.is_way

is_fit : ¬ IsUnfit start_rows
unfolding clap_on_literals
is_fit (inl none) = none loopback listens
is_fit (inr (inl none)) = none.2 (codes "h") 1 (advertises none.0)
is_fit (inr (inr (inl alone))) = alone.0 refl
is_fit (inr (inr (inr (inl alone)))) = true≢false (sym alone.0)
is_fit (inr (inr (inr (inr (inl no_way))))) = no_way.0 refl
is_fit (inr (inr (inr (inr (inr (inl wrong)))))) = nothing_wrong wrong.0 wrong.1
is_fit (inr (inr (inr (inr (inr (inr none)))))) = none (has_one start_rows refl)

-- ---- the examples

pub session_asked : (rows : List Row) × Finds session_line (codes "session") rows × HasTopics (topic_words rows)
unfolding clap_on_literals
session_asked = (session_rows, record { no_fault = session_fault; found = λ roles are. session_found roles }, has_one session_rows refl)

pub serve_asked : (rows : List Row) × Finds serve_line (codes "serve") rows × HasTopics (topic_words rows)
unfolding clap_on_literals
serve_asked = (serve_rows, record { no_fault = serve_fault; found = λ roles are. serve_found roles }, has_one serve_rows refl)

pub start_asked : (rows : List Row) × Finds start_line (codes "start") rows × ¬ IsUnfit rows
start_asked = (start_rows, record { no_fault = start_fault; found = λ roles are. start_found roles }, is_fit)

pub check_asked : (rows : List Row) × Finds check_line (codes "check") rows × (directory_word rows ≡ codes "data")
unfolding clap_on_literals
check_asked = (check_rows, record { no_fault = λ roles are. check_fault roles; found = λ roles are. check_found roles }, refl)

pub replay_asked : Finds replay_line (codes "replay") []
replay_asked = record { no_fault = λ roles are. replay_fault roles; found = λ roles are. replay_found roles }
