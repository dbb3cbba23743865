-- Hosts in brackets, and a host and a port.
use Rattle.std.proofs.Common.{◌≡◌, ℕ, List, [], ◌++◌, drop, ap, refl, subst, sym, inl, inr, ◌∙◌, codes}
use Rattle.std.specs.Prelude.{◌⊎◌, Option, Some, None}
use Rattle.std.specs.Str.Pattern.{FindsTextPrefix, FindsTextSuffix, StripsPrefix, StripsSuffix}
use Rattle.std.specs.declared.net.socket_addr.SocketAddr.{SocketAddr}
use Rattle.clap.specs.Words.{Row, Text, first_of}
use Rattle.tcp_edge.specs.declared.addresses.AddressFault.TheVariants.{Listen, Advertise, Unspecified}
use Rattle.tcp_edge.specs.declared.asked.ArgumentsFault.{ArgumentsFault}
use Rattle.tcp_edge.specs.declared.asked.ArgumentsFault.TheVariants.{Clap, Address, Kept, Cleaning, Topic}
use Rattle.tcp_edge.specs.Addresses.{AdvertisesBy, HasNoAdvertised, IsHost, IsHostAndPort, IsListen, IsUnspecified}
use Rattle.tcp_edge.specs.Asked.{IsMemoryOr, IsStartFault}
use Rattle.tcp_edge.specs.CommandLine.{IsTextAndNumber}
use Rattle.tcp_edge.proofs.TextAndNumber.{one_text}

pub no_bracket : (host : Text) → FindsTextPrefix (codes "[") host None → IsHost host host
no_bracket host lacks = inr (λ inner is. lacks (inner ++ codes "]") is, refl)

pub both_brackets : (host behind inner : Text) → StripsPrefix (FindsTextPrefix (codes "[")) host behind
    → StripsSuffix (FindsTextSuffix (codes "]")) behind inner → IsHost host inner
both_brackets host behind inner front back =
    inl (front.1.1 ∙ ap (λ (l : Text). codes "[" ++ l) (sym front.2 ∙ back.1.1 ∙ ap (λ (l : Text). l ++ codes "]") (sym back.2)))

pub one_bracket : (host behind : Text) → StripsPrefix (FindsTextPrefix (codes "[")) host behind
    → FindsTextSuffix (codes "]") behind None → IsHost host host
one_bracket host behind front lacks =
    inr (λ inner is. lacks inner (front.2 ∙ sym (ap (drop 1) front.1.1) ∙ ap (drop 1) is), refl)

-- what says no text and port says no host and port
pub no_port : (word : Text) → ((text : Text) (n : ℕ) → ¬ IsTextAndNumber 16 word text n) → (host : Text) (port : ℕ) → ¬ IsHostAndPort word host port
no_port word none host port is = none is.front port is.parts

-- nor does what has an empty one
pub no_host : (word front : Text) (n : ℕ) → IsTextAndNumber 16 word front n → (front ≡ []) ⊎ (front ≡ codes "[]")
    → (host : Text) (port : ℕ) → ¬ IsHostAndPort word host port
no_host word front n parts (inl empty) host port is = is.some.0 (one_text 16 word is.front front port n is.parts parts ∙ empty)
no_host word front n parts (inr empty) host port is = is.some.1 (one_text 16 word is.front front port n is.parts parts ∙ empty)

-- ---- faults

none_said : (rows : List Row) (listen : SocketAddr) (word : Text) → first_of (codes "advertise") rows ≡ Some word → IsListen rows listen
    → ((host : Text) (port : ℕ) → ¬ IsHostAndPort word host port) → HasNoAdvertised rows
none_said rows listen word given listens is =
    (listen, listens, λ host port says. is host port (subst (λ (o : Option Text). AdvertisesBy o listen host port) given says))

none_unsaid : (rows : List Row) (listen : SocketAddr) → first_of (codes "advertise") rows ≡ None → IsListen rows listen → IsUnspecified listen
    → HasNoAdvertised rows
none_unsaid rows listen given listens is =
    (listen, listens, λ host port says. (subst (λ (o : Option Text). AdvertisesBy o listen host port) given says).0 is)

-- an argument that says no host and port, where it is given
pub fault_said : (rows : List Row) (listen : SocketAddr) (word : Text) (fault : ArgumentsFault) → first_of (codes "advertise") rows ≡ Some word
    → IsListen rows listen → IsMemoryOr ((host : Text) (port : ℕ) → ¬ IsHostAndPort word host port) fault → IsStartFault rows fault
fault_said rows listen word (Clap error) given listens is = is
fault_said rows listen word (Address Listen) given listens is = absurd is
fault_said rows listen word (Address Advertise) given listens is = none_said rows listen word given listens is
fault_said rows listen word (Address Unspecified) given listens is = none_said rows listen word given listens is
fault_said rows listen word (Kept why) given listens is = absurd is
fault_said rows listen word (Cleaning why) given listens is = absurd is
fault_said rows listen word (Topic why) given listens is = absurd is

-- none is given, and the address to listen at is no particular one
pub fault_unsaid : (rows : List Row) (listen : SocketAddr) (fault : ArgumentsFault) → first_of (codes "advertise") rows ≡ None
    → IsListen rows listen → IsMemoryOr (IsUnspecified listen) fault → IsStartFault rows fault
fault_unsaid rows listen (Clap error) given listens is = is
fault_unsaid rows listen (Address Listen) given listens is = absurd is
fault_unsaid rows listen (Address Advertise) given listens is = none_unsaid rows listen given listens is
fault_unsaid rows listen (Address Unspecified) given listens is = none_unsaid rows listen given listens is
fault_unsaid rows listen (Kept why) given listens is = absurd is
fault_unsaid rows listen (Cleaning why) given listens is = absurd is
fault_unsaid rows listen (Topic why) given listens is = absurd is
