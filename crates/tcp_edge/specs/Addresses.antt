-- Where `kbroker start` listens, and where its clients are told to reach it.
use Rattle.std.specs.Prelude.{◌≡◌, ◌≢◌, ◌⊎◌, ℕ, List, [], ◌++◌, Option, Some, None, codes}
use Rattle.std.specs.declared.net.socket_addr.SocketAddr.{SocketAddr}
use Rattle.std.specs.Net.Addr.{MatchIp, IsUnspecifiedV4, IsUnspecifiedV6}
use Rattle.std.specs.Net.Grammar.{IsSocketText}
use Rattle.std.specs.Net.Socket.{socket_ip, socket_port}
use Rattle.std.specs.Net.Text.{ip_text}
use Rattle.clap.specs.Words.{Row, Text, first_of, one_of}
use Rattle.tcp_edge.specs.CommandLine.{HasTopics, IsTextAndNumber, topic_words}
use Rattle.tcp_edge.specs.Cleaning.{HasCleaningFault}
use Rattle.tcp_edge.specs.Keeping.{HasFoldAlone, HasNoSyncWay, HasSyncAlone}

-- the address that the value of an argument says
abbrev pub IsAddressOf : Option Text → SocketAddr → Type 0
IsAddressOf None a = ⊥
IsAddressOf (Some word) a = IsSocketText word a

-- the address to listen at
abbrev pub IsListen : List Row → SocketAddr → Type 0
IsListen rows listen = IsAddressOf (one_of (codes "listen") rows) listen

abbrev pub IsInBrackets : (front host : Text) → Type 0
IsInBrackets front host = front ≡ codes "[" ++ host ++ codes "]"

-- a host as clients are told it: without the brackets in which an IPv6 address stands
abbrev pub IsHost : (front host : Text) → Type 0
IsHost front host = IsInBrackets front host ⊎ (((inner : Text) → ¬ IsInBrackets front inner) × (host ≡ front))

-- `HOST:PORT`: a host that isn't empty, and a port in decimal digits
pub record IsHostAndPort (word host : Text) (port : ℕ) : Type 0 where
  pub front : Text
  pub parts : IsTextAndNumber 16 word front port
  pub some : (front ≢ []) × (front ≢ codes "[]")
  pub is_host : IsHost front host

-- 0.0.0.0 or ::
abbrev pub IsUnspecified : SocketAddr → Type 0
IsUnspecified a = MatchIp (socket_ip a) IsUnspecifiedV4 IsUnspecifiedV6

-- what clients are told: what the argument says, or where there is none the address that the broker listens at
abbrev pub AdvertisesBy : Option Text → SocketAddr → Text → ℕ → Type 0
AdvertisesBy None listen host port =
    (¬ IsUnspecified listen) × (host ≡ ip_text (socket_ip listen)) × (port ≡ socket_port listen)
AdvertisesBy (Some word) listen host port = IsHostAndPort word host port

abbrev pub Advertises : List Row → SocketAddr → Text → ℕ → Type 0
Advertises rows listen host port = AdvertisesBy (first_of (codes "advertise") rows) listen host port

-- there is no address to listen at
abbrev pub HasNoListen : List Row → Type 0
HasNoListen rows = (listen : SocketAddr) → ¬ IsListen rows listen

-- there is nothing that clients could be told
abbrev pub HasNoAdvertised : List Row → Type 0
HasNoAdvertised rows = (listen : SocketAddr) × IsListen rows listen × ((host : Text) (port : ℕ) → ¬ Advertises rows listen host port)

-- why `start` doesn't start: in this order, there is no address to listen at, none to advertise, `--sync` stands without `--data` or
-- says no way to sync, something is wrong with what is said of cleanings, or a word in the place of a topic is none
abbrev pub IsUnfit : List Row → Type 0
IsUnfit rows = HasNoListen rows ⊎ HasNoAdvertised rows ⊎ HasSyncAlone rows ⊎ HasFoldAlone rows ⊎ HasNoSyncWay rows
    ⊎ HasCleaningFault rows ⊎ ¬ HasTopics (topic_words rows)
