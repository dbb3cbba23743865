-- Where what is ready for a session stands.
use Rattle.std.specs.Prelude.{◌≡◌, ℕ, ◌&&◌, Bool, Option, Some, None, slice_get}
use Rattle.std.specs.List.{list_any}
use Rattle.std.specs.Option.{option_and_then, option_map}
use Rattle.group_coordinator.specs.declared.ready.Ready.{Ready}
use Rattle.group_coordinator.specs.declared.ready.Ready.TheVariants.{Refuses, Tells, Gives}
use Rattle.group_coordinator.specs.declared.values.Wait.{Wait}
use Rattle.group_coordinator.specs.declared.values.Wait.TheVariants.{Told, Assigned}
use Rattle.group_coordinator.specs.Members.{Member, is_in, is_ready}
use Rattle.group_coordinator.specs.Groups.{Group, told}
use Rattle.group_coordinator.specs.Coordinators.{Groups, reply_among}
use Rattle.group_coordinator.specs.Requests.{Reply}
use Rattle.group_coordinator.specs.Requests.Reply.{Refused, Joined, Given}

-- whether the reply to a member is ready for this session
abbrev pub is_ready_for : (session : ℕ) → Member → Bool
is_ready_for k m = is_in k m.wait && is_ready m.wait

abbrev pub has_ready : (session : ℕ) → Group → Bool
has_ready k g = list_any (is_ready_for k) g.members

-- the member at an index of the group at an index
abbrev pub told_at : (group member : ℕ) → Groups → Option Reply
told_at i j v = option_and_then (λ g. option_map (λ m. Joined (told g m)) (slice_get g.members j)) (slice_get v.groups i)

abbrev pub given_at : (group member : ℕ) → Groups → Option Reply
given_at i j v = option_and_then (λ g. option_map (λ m. Given m.part) (slice_get g.members j)) (slice_get v.groups i)

-- the reply that stands there
abbrev pub reply_at : Groups → Ready → Option Reply
reply_at v (Refuses e) = Some (Refused e)
reply_at v (Tells i j) = told_at i j v
reply_at v (Gives i j) = given_at i j v

-- which reply it is, by what the member waits for
abbrev pub ready_as : Wait → (group member : ℕ) → Option Ready
ready_as (Told k) i j = Some (Tells i j)
ready_as (Assigned k) i j = Some (Gives i j)
ready_as w i j = None

-- The reply that is ready for a session in a group, which stands at an index.
abbrev pub IsReadyIn : (session index : ℕ) → Group → Option Ready → Type 0
IsReadyIn k i g r = (v : Groups) → slice_get v.groups i ≡ Some g → option_and_then (reply_at v) r ≡ reply_among k g g.members
