-- What is replied at once.
use Rattle.std.proofs.Common.{◌≡◌, ℕ, ℤ, true, false, List, length, sym, ◌∙◌}
use Rattle.std.specs.Prelude.{Option, Some, None, IfNone, IfSome, ◌==◌}
use Rattle.std.specs.Option.{option_or}
use Rattle.group_coordinator.specs.declared.values.GroupError.{GroupError}
use Rattle.group_coordinator.specs.declared.values.GroupError.TheVariants.{InvalidGroup, NotCoordinator}
use Rattle.group_coordinator.specs.declared.values.Settings.{Settings}
use Rattle.group_coordinator.specs.Coordinators.{Groups, group_named, asked, ask_heartbeat, ask_join, ask_leave, ask_sync, at_once, committed, fault_if, group_fault, join_fault, member_fault, move_one, preparing_fault, release, reply_to, sync_fault, unknown_fault}
use Rattle.group_coordinator.specs.Joining.{leave}
use Rattle.group_coordinator.specs.Giving.{reply_by}
use Rattle.group_coordinator.specs.Requests.{JoinRequest, SyncRequest}
use Rattle.group_coordinator.specs.Requests.Reply.{Refused}
use Rattle.group_coordinator.specs.Requests.Request.{Heartbeat, Join, Leave, Sync}

pub has_no_name : (o : Settings) (name : List ℕ) → (0 == length name) ≡ true → Some InvalidGroup ≡ group_fault o name
has_no_name o name e = λ i. option_or (fault_if (sym e i) InvalidGroup) (fault_if o.follows NotCoordinator)

pub follows_another : (o : Settings) (name : List ℕ) → (0 == length name) ≡ false → o.follows ≡ true → Some NotCoordinator ≡ group_fault o name
follows_another o name e f = λ i. option_or (fault_if (sym e i) InvalidGroup) (fault_if (sym f i) NotCoordinator)

pub serves : (o : Settings) (name : List ℕ) → (0 == length name) ≡ false → o.follows ≡ false → None ≡ group_fault o name
serves o name e f = λ i. option_or (fault_if (sym e i) InvalidGroup) (fault_if (sym f i) NotCoordinator)

-- the first of two faults
pub first_fault : (a b r : Option GroupError) (e : GroupError) → a ≡ Some e → r ≡ Some e → r ≡ option_or a b
first_fault a b r e first is = is ∙ (λ i. option_or (sym first i) b)

pub next_fault : (a b r : Option GroupError) → a ≡ None → r ≡ b → r ≡ option_or a b
next_fault a b r none is = is ∙ (λ i. option_or (sym none i) b)

pub heartbeat_refused : (v : Groups) (name id : List ℕ) (n j : ℤ) (r : Option GroupError) (e : GroupError) → j ≡ n
    → r ≡ option_or (group_fault v.settings name) (member_fault j id (group_named name v)) → r ≡ Some e
    → (k : ℕ) (client : List ℕ) → asked k client (Heartbeat name n id) v ≡ at_once (reply_to (Some e)) v
heartbeat_refused v name id n j r e same fault is k client =
    (λ i. ask_heartbeat name id v (option_or (group_fault v.settings name) (member_fault (sym same i) id (group_named name v)))) ∙ (λ i. ask_heartbeat name id v ((sym fault ∙ is) i))

pub heartbeat_done : (v w : Groups) (name id : List ℕ) (n j : ℤ) (r s : Option GroupError) → j ≡ n
    → r ≡ option_or (group_fault v.settings name) (member_fault j id (group_named name v)) → r ≡ None → s ≡ preparing_fault (group_named name v) → w ≡ committed name id v
    → (k : ℕ) (client : List ℕ) → asked k client (Heartbeat name n id) v ≡ at_once (reply_to s) w
heartbeat_done v w name id n j r s same fault is next made k client =
    (λ i. ask_heartbeat name id v (option_or (group_fault v.settings name) (member_fault (sym same i) id (group_named name v)))) ∙ (λ i. ask_heartbeat name id v ((sym fault ∙ is) i))
    ∙ (λ i. at_once (reply_to (sym next i)) (sym made i))

pub leave_refused : (v : Groups) (name id : List ℕ) (r : Option GroupError) (e : GroupError) → r ≡ option_or (group_fault v.settings name) (unknown_fault id (group_named name v)) → r ≡ Some e
    → (k : ℕ) (client : List ℕ) → asked k client (Leave name id) v ≡ at_once (reply_to (Some e)) v
leave_refused v name id r e fault is k client = λ i. ask_leave name id v ((sym fault ∙ is) i)

pub leave_done : (v w : Groups) (name id : List ℕ) (r : Option GroupError) → r ≡ option_or (group_fault v.settings name) (unknown_fault id (group_named name v)) → r ≡ None
    → w ≡ move_one name (leave v.settings v.now id) v → (k : ℕ) (client : List ℕ) → asked k client (Leave name id) v ≡ at_once (reply_to None) w
leave_done v w name id r fault is made k client = (λ i. ask_leave name id v ((sym fault ∙ is) i)) ∙ (λ i. at_once (reply_to None) (sym made i))

pub sync_refused : (v : Groups) (k : ℕ) (q : SyncRequest) (r : Option GroupError) (e : GroupError) → r ≡ sync_fault v q → r ≡ Some e → (client : List ℕ) → asked k client (Sync q) v ≡ at_once (Refused e) v
sync_refused v k q r e fault is client = λ i. ask_sync k q v ((sym fault ∙ is) i)

-- what was replied, where no fault was found
pub sync_released : (v w : Groups) (k : ℕ) (q : SyncRequest) (r : Option GroupError) → r ≡ sync_fault v q → r ≡ None → (e : Option GroupError) → ask_sync k q v None ≡ reply_by e k w
    → IfNone e ((client : List ℕ) → asked k client (Sync q) v ≡ release k w)
sync_released v w k q r fault is None replied = λ client. (λ i. ask_sync k q v ((sym fault ∙ is) i)) ∙ replied
sync_released v w k q r fault is (Some e) replied = tt

pub sync_full : (v w : Groups) (k : ℕ) (q : SyncRequest) (r : Option GroupError) → r ≡ sync_fault v q → r ≡ None → (e : Option GroupError) → ask_sync k q v None ≡ reply_by e k w
    → IfSome e (λ x. (client : List ℕ) → asked k client (Sync q) v ≡ at_once (Refused x) w)
sync_full v w k q r fault is None replied = tt
sync_full v w k q r fault is (Some e) replied = λ client. (λ i. ask_sync k q v ((sym fault ∙ is) i)) ∙ replied

pub join_refused : (v : Groups) (k : ℕ) (client : List ℕ) (q : JoinRequest) (r : Option GroupError) (e : GroupError) → r ≡ join_fault v q → r ≡ Some e → asked k client (Join q) v ≡ at_once (Refused e) v
join_refused v k client q r e fault is = λ i. ask_join k client q v ((sym fault ∙ is) i)

pub join_released : (v w : Groups) (k : ℕ) (client : List ℕ) (q : JoinRequest) (r : Option GroupError) → r ≡ join_fault v q → r ≡ None → (e : Option GroupError) → ask_join k client q v None ≡ reply_by e k w
    → IfNone e (asked k client (Join q) v ≡ release k w)
join_released v w k client q r fault is None replied = (λ i. ask_join k client q v ((sym fault ∙ is) i)) ∙ replied
join_released v w k client q r fault is (Some e) replied = tt

pub join_full : (v w : Groups) (k : ℕ) (client : List ℕ) (q : JoinRequest) (r : Option GroupError) → r ≡ join_fault v q → r ≡ None → (e : Option GroupError) → ask_join k client q v None ≡ reply_by e k w
    → IfSome e (λ x. asked k client (Join q) v ≡ at_once (Refused x) w)
join_full v w k client q r fault is None replied = tt
join_full v w k client q r fault is (Some e) replied = (λ i. ask_join k client q v ((sym fault ∙ is) i)) ∙ replied
