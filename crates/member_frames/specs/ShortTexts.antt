-- What is read fits into a response again: a text of a request is one that the field of a response holds.
use Rattle.std.specs.Prelude.{ℕ, ◌≤◌, List, length}
use Rattle.std.specs.List.{AllByRecursion}
use Rattle.responses.specs.declared.parts.TheConstants.{MAX_STRING_BYTES}
use Rattle.member_frames.specs.MemberRequests.MemberBodyValue.{join_group, sync_group, heartbeat, leave_group}
use Rattle.member_frames.specs.MemberRequests.{MemberBodyValue, MemberRequestValue}

abbrev pub IsShort : List ℕ → Type 0
IsShort text = length text ≤ MAX_STRING_BYTES

abbrev pub HasShortBody : MemberBodyValue → Type 0
HasShortBody (join_group q) =
    IsShort q.group × IsShort q.member × IsShort q.kind × AllByRecursion (λ p. IsShort p.name) q.protocols
HasShortBody (sync_group q) = IsShort q.group × IsShort q.member × AllByRecursion (λ p. IsShort p.id) q.parts
HasShortBody (heartbeat q) = IsShort q.group × IsShort q.member
HasShortBody (leave_group q) = IsShort q.group × IsShort q.member

-- each text of the request is short; metadata and parts may be as long as the frame
pub record IsOfShortTexts (q : MemberRequestValue) : Type 0 where
  pub client : IsShort q.client
  pub body : HasShortBody q.body
