-- The requests that bring something to a follower, or move a start: which one a request is.
use Rattle.std.proofs.Common.{◌≡◌, arith}
use Rattle.request_frames.specs.Requests.BodyValue.{deliver, import, import_delta, trim}
use Rattle.request_frames.specs.Requests.{BodyValue}
use Rattle.request_frames.specs.Deliver.{DeliverValue}
use Rattle.request_frames.specs.Import.{ImportValue}
use Rattle.request_frames.specs.ImportDelta.{ImportDeltaValue}
use Rattle.request_frames.specs.Trim.{TrimValue}

pub data Asked : Type 0 where
  delivers : DeliverValue → Asked
  imports : ImportValue → Asked
  imports_delta : ImportDeltaValue → Asked
  trims : TrimValue → Asked
  other : Asked

abbrev pub asked : BodyValue → Asked
asked (deliver q) = delivers q
asked (import q) = imports q
asked (import_delta q) = imports_delta q
asked (trim q) = trims q
asked _ = other

-- it is this one, or none of them
abbrev pub IsAsked : Asked → BodyValue → Type 0
IsAsked (delivers q) body = body ≡ deliver q
IsAsked (imports q) body = body ≡ import q
IsAsked (imports_delta q) body = body ≡ import_delta q
IsAsked (trims q) body = body ≡ trim q
IsAsked other body = asked body ≡ other

pub is_asked : (body : BodyValue) → IsAsked (asked body) body
is_asked body = grind arith
