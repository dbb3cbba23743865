-- No reply changes a broker's configuration, or which partitions it has.
use Rattle.std.proofs.Common.{◌≡◌, ℕ, ℤ, List}
use Rattle.request_frames.specs.Requests.{RequestValue}
use Rattle.broker_state.specs.State.{State, is_known}
use Rattle.broker_node.specs.Replies.{reply}
use Rattle.broker_node.proofs.PlannedReplies.{reply_may_be}
use Rattle.broker_laws.proofs.ChangedPlaces.{config_kept, known_kept}

pub config_stays : (s : State) (q : RequestValue) → (reply s q).1.config ≡ s.config
config_stays s q = config_kept s (reply s q).1 q (reply s q).0 (reply_may_be s q)

pub known_stays : (s : State) (q : RequestValue) (name : List ℕ) (p : ℤ) → is_known (reply s q).1 name p ≡ is_known s name p
known_stays s q name p = known_kept s (reply s q).1 q (reply s q).0 name p (reply_may_be s q)
