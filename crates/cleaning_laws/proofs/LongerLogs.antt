-- Requests within the logs are within longer ones, in any later state of the broker.
use Rattle.std.proofs.Common.{◌≡◌, ℕ, ℤ, List, [], ◌∷◌, ◌++◌, Option, Some, sym, ap, subst, ◌∙◌, append_assoc, arith}
use Rattle.std.specs.Ordering.{int_eq}
use Rattle.std.specs.Option.{option_or}
use Rattle.std.proofs.lemmas.List.{append-nil}
use Rattle.std.proofs.lemmas.List.Folds.{find-append}
use Rattle.batch_codec.specs.Values.{BatchValue}
use Rattle.batch_codec.specs.Reading.{batch_of}
use Rattle.batch_codec.specs.Offsets.{first_offset}
use Rattle.content.specs.ByOffset.{look_up}
use Rattle.content.specs.Content.{Content, IsContent}
use Rattle.content.specs.Logs.{IsPlainLog}
use Rattle.content.specs.Copies.{IsCopy}
use Rattle.content_laws.proofs.CopyGrow.{plain_front, copy_of_longer}
use Rattle.deltas.specs.Deltas.{Delta}
use Rattle.request_frames.specs.Requests.{BodyValue}
use Rattle.request_frames.specs.Deliver.{DeliverValue}
use Rattle.request_frames.specs.ImportDelta.{ImportDeltaValue}
use Rattle.broker_state.specs.State.{ConfigValue, State, is_known}
use Rattle.cleaning_laws.specs.Logs.{Logs, Grows}
use Rattle.cleaning_laws.proofs.Asked.Asked.{delivers, imports, imports_delta, trims, other}
use Rattle.cleaning_laws.proofs.Asked.{Asked, asked, IsAsked, is_asked}
use Rattle.cleaning_laws.specs.Settled.{FollowsAt, IsOfLog, IsFromCopy, IsDeltaOfLog, IsFromLogs, IsWithin}

found_longer : (o : ℤ) (b : BatchValue) (log longer more : List BatchValue) → longer ≡ log ++ more → look_up first_offset o log ≡ Some b → look_up first_offset o longer ≡ Some b
found_longer o b log longer more grows found =
    ap (look_up first_offset o) grows ∙ find-append (λ x. int_eq (first_offset x) o) log more ∙ ap (λ (f : Option BatchValue). option_or f (look_up first_offset o more)) found

-- a later state of the same broker, which has the same role and the same partitions
pub record IsLater (s m : State) : Type 0 where
  pub config : m.config ≡ s.config
  pub known : (name : List ℕ) (p : ℤ) → is_known m name p ≡ is_known s name p

follows_before : (s m : State) (name : List ℕ) (p : ℤ) → IsLater s m → FollowsAt m name p → FollowsAt s name p
follows_before s m name p later at = record {
  follows = ap (λ (g : ConfigValue). g.role) (sym later.config) ∙ at.follows;
  known = sym (later.known name p) ∙ at.known;
}

of_longer : (s m : State) (logs longer : Logs) (q : DeliverValue) → IsLater s m → Grows logs longer → IsOfLog s logs q → IsOfLog m longer q
of_longer s m logs longer q later grows is = λ at encodes valid.
    let more = grows q.topic q.partition in
    found_longer (first_offset (batch_of q.batch)) (batch_of q.batch) (logs q.topic q.partition) (longer q.topic q.partition) more.0 more.1 (is (follows_before s m q.topic q.partition later at) encodes valid)

-- ---- a delta of a copy of the log

copy_grown : (x : Content) (log more : List BatchValue) → IsContent x → (IsPlainLog log → IsCopy x log) → IsPlainLog (log ++ more) → IsCopy x (log ++ more)
copy_grown x log [] content copy plain =
    subst (IsCopy x) (sym (append-nil log)) (copy (subst IsPlainLog (append-nil log) plain))
copy_grown x log (b ∷ more) content copy plain =
    let whole : (log ++ b ∷ []) ++ more ≡ log ++ b ∷ more = append_assoc log (b ∷ []) more in
    subst (IsCopy x) whole
    (copy_grown x (log ++ b ∷ []) more content (λ longer. copy_of_longer x log b content longer (copy (plain_front 0 log b longer))) (subst IsPlainLog (sym whole) plain))

from_copy_grown : (log longer more : List BatchValue) (e : Delta) → longer ≡ log ++ more → IsFromCopy log e → IsFromCopy longer e
from_copy_grown log longer more e grows is = record {
  sender = is.sender;
  content = is.content;
  copy = subst (λ (l : List BatchValue). IsPlainLog l → IsCopy is.sender l) (sym grows) (copy_grown is.sender log more is.content is.copy);
  delta = is.delta;
}

delta_of_longer : (s m : State) (logs longer : Logs) (q : ImportDeltaValue) → IsLater s m → Grows logs longer → IsDeltaOfLog s logs q → IsDeltaOfLog m longer q
delta_of_longer s m logs longer q later grows is = λ at e read.
    let more = grows q.topic q.partition in
    from_copy_grown (logs q.topic q.partition) (longer q.topic q.partition) more.0 e more.1 (is (follows_before s m q.topic q.partition later at) e read)

-- ---- requests

-- all other requests are of any logs
of_any_logs : (s : State) (logs : Logs) (body : BodyValue) → asked body ≡ other → IsFromLogs s logs body
of_any_logs s logs body e = grind (arith, e)

from_longer : (s m : State) (logs longer : Logs) (body : BodyValue) → IsLater s m → Grows logs longer → IsFromLogs s logs body → IsFromLogs m longer body
from_longer s m logs longer body later grows = by (asked body) (is_asked body)
  where
    by : (a : Asked) → IsAsked a body → IsFromLogs s logs body → IsFromLogs m longer body
    by (delivers q) is from = subst (IsFromLogs m longer) (sym is) (of_longer s m logs longer q later grows (subst (IsFromLogs s logs) is from))
    by (imports q) is from = subst (IsFromLogs m longer) (sym is) (later.known q.topic q.partition ∙ subst (IsFromLogs s logs) is from)
    by (imports_delta q) is from = subst (IsFromLogs m longer) (sym is) (delta_of_longer s m logs longer q later grows (subst (IsFromLogs s logs) is from))
    by (trims q) is from = subst (IsFromLogs m longer) (sym is) tt
    by other is from = of_any_logs m longer body is

pub within_longer : (s m : State) (logs longer : Logs) (body : BodyValue) → IsLater s m → Grows logs longer → IsWithin s logs body → IsWithin m longer body
within_longer s m logs longer body later grows is = (is.0, from_longer s m logs longer body later grows is.1)
