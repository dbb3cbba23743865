-- Heartbeats and commits: who is told that nothing happens, and whose commits are admitted.
use Rattle.std.proofs.Common.{◌≡◌, ℕ, ℤ, pos, negsuc, ◌==◌, Bool, true, false, not, ◌&&◌, ◌||◌, List, length, refl, sym, ap, subst, ◌∙◌, arith, true≢false, inl, inr}
use Rattle.std.specs.Prelude.{Option, Some, None, if◌then◌else◌}
use Rattle.std.specs.Option.{option_or}
use Rattle.std.specs.Ordering.{int_eq}
use Rattle.std.proofs.lemmas.Int.{ints}
use Rattle.std.proofs.lemmas.Option.{none-some, same_Some}
use Rattle.group_coordinator.specs.declared.values.GroupError.{GroupError}
use Rattle.group_coordinator.specs.declared.values.GroupError.TheVariants.{NotCoordinator, IllegalGeneration, InvalidGroup, UnknownMember, Rebalancing}
use Rattle.group_coordinator.specs.Members.{Member}
use Rattle.group_coordinator.specs.Groups.{Group, is_preparing, is_completing}
use Rattle.group_coordinator.specs.Requests.{Reply}
use Rattle.group_coordinator.specs.Requests.Request.{Heartbeat}
use Rattle.group_coordinator.specs.Requests.Reply.{Refused, Done}
use Rattle.group_coordinator.specs.Coordinators.{Groups, group_named, member_of, fault_if, group_fault, generation_fault, member_fault, preparing_fault, completing_fault, reply_to, ask_heartbeat, asked, is_simple, commit_fault_at, commit_fault}
use Rattle.coordinator_laws.specs.Standing.{IsOneOf, IsServed, IsUndisturbed, IsAdmissible}
use Rattle.coordinator_laws.proofs.Acting.{or_none, no_fault}

none_or : {X : Type 0} (a b : Option X) → a ≡ None → b ≡ None → option_or a b ≡ None
none_or a b e f = (λ i. option_or (e i) b) ∙ f

fault_none : (b : Bool) (e : GroupError) → b ≡ false → fault_if b e ≡ None
fault_none b e f = ap (λ (c : Bool). fault_if c e) f

-- ---- members

both_of : (a b : Bool) → not (a && b) ≡ false → (a ≡ true) × (b ≡ true)
both_of true true e = (refl, refl)
both_of true false e = absurd (true≢false e)
both_of false b e = absurd (true≢false e)

pub one_of : (v : Groups) (name : List ℕ) (n : ℤ) (id : List ℕ) (r : Option Group) → group_named name v ≡ r → member_fault n id r ≡ None → IsOneOf v name n id
one_of v name n id None e none = absurd (none-some UnknownMember (sym none))
one_of v name n id (Some g) e none = by (member_of id g) refl none where
  by : (m : Option Member) → member_of id g ≡ m → generation_fault g n m ≡ None → IsOneOf v name n id
  by None f none = absurd (none-some UnknownMember (sym none))
  by (Some m) f none =
      let two = both_of (int_eq n (pos g.generation)) m.is_told (no_fault (not (int_eq n (pos g.generation) && m.is_told)) IllegalGeneration none) in
      record { group = g; member = m; has_group = e; has_member = f; is_told = two.1; is_its = grind (arith, ints, two.0) }

pub no_member_fault : (v : Groups) (name : List ℕ) (n : ℤ) (id : List ℕ) (o : IsOneOf v name n id) → member_fault n id (group_named name v) ≡ None
no_member_fault v name n id o = (λ i. member_fault n id (o.has_group i)) ∙ (λ i. generation_fault o.group n (o.has_member i))
    ∙ fault_none (not (int_eq n (pos o.group.generation) && o.member.is_told)) IllegalGeneration (grind (arith, ints, o.is_told, o.is_its))

served_fault : (v : Groups) (name : List ℕ) → IsServed v name → group_fault v.settings name ≡ None
served_fault v name s = none_or (fault_if (0 == length name) InvalidGroup) (fault_if v.settings.follows NotCoordinator)
    (fault_none (0 == length name) InvalidGroup s.named) (fault_none v.settings.follows NotCoordinator s.follows_none)

is_served : (v : Groups) (name : List ℕ) → group_fault v.settings name ≡ None → IsServed v name
is_served v name e = let two = or_none (fault_if (0 == length name) InvalidGroup) (fault_if v.settings.follows NotCoordinator) e in
    record { named = no_fault (0 == length name) InvalidGroup two.0; follows_none = no_fault v.settings.follows NotCoordinator two.1 }

-- ---- heartbeats

stands_of : (g : Group) (r : Option Group) → r ≡ Some g → preparing_fault r ≡ None → is_preparing g.phase ≡ false
stands_of g r e none = no_fault (is_preparing g.phase) Rebalancing (subst (λ (x : Option Group). preparing_fault x ≡ None) e none)

done_only : (f : Option GroupError) → Some (reply_to f) ≡ Some Done → f ≡ None
done_only None e = refl
done_only (Some x) e = absurd (true≢false (refused_done (same_Some (Refused x) Done e))) where
  is_done : Reply → Bool
  is_done Done = true
  is_done r = false

  refused_done : Refused x ≡ Done → true ≡ false
  refused_done e = sym (ap is_done e)

pub heartbeat_done : (k : ℕ) (client name : List ℕ) (n : ℤ) (id : List ℕ) (v : Groups) → (asked k client (Heartbeat name n id) v).reply ≡ Some Done
    → IsServed v name × IsUndisturbed v name n id
heartbeat_done k client name n id v e = by (option_or (group_fault v.settings name) (member_fault n id (group_named name v))) refl e where
  by : (f : Option GroupError) → option_or (group_fault v.settings name) (member_fault n id (group_named name v)) ≡ f → (ask_heartbeat name id v f).reply ≡ Some Done
      → IsServed v name × IsUndisturbed v name n id
  by (Some x) f e = absurd (none-some x (sym (done_only (Some x) e)))
  by None f e =
      let two = or_none (group_fault v.settings name) (member_fault n id (group_named name v)) f in
      let one = one_of v name n id (group_named name v) refl two.1 in
      (is_served v name two.0, record { one = one; stands = stands_of one.group (group_named name v) one.has_group (done_only (preparing_fault (group_named name v)) e) })

pub heartbeat_of : (k : ℕ) (client name : List ℕ) (n : ℤ) (id : List ℕ) (v : Groups) → IsServed v name → IsUndisturbed v name n id
    → (asked k client (Heartbeat name n id) v).reply ≡ Some Done
heartbeat_of k client name n id v s u =
    (λ i. (ask_heartbeat name id v (none_or (group_fault v.settings name) (member_fault n id (group_named name v)) (served_fault v name s) (no_member_fault v name n id u.one) i)).reply)
    ∙ (λ i. Some (reply_to (preparing_fault (u.one.has_group i))))
    ∙ (λ i. Some (reply_to (fault_none (is_preparing u.one.group.phase) Rebalancing u.stands i)))

-- ---- commits

admitted_at : (v : Groups) (name : List ℕ) (n : ℤ) (id : List ℕ) (r : Option Group) → group_named name v ≡ r → commit_fault_at n id r ≡ None → IsAdmissible v name n id
admitted_at v name n id None e none = inl (simple (no_fault (not (is_simple n)) IllegalGeneration none), e) where
  simple : not (int_eq n (negsuc 0)) ≡ false → n ≡ negsuc 0
  simple f = grind (arith, ints, f)
admitted_at v name n id (Some g) e none =
    let two = or_none (generation_fault g n (member_of id g)) (completing_fault (Some g)) none in
    let one = one_of v name n id (Some g) e two.0 in
    inr (record { one = one; given = subst (λ (x : Group). is_completing x.phase ≡ false) (same_Some g one.group (sym e ∙ one.has_group)) (no_fault (is_completing g.phase) Rebalancing two.1) })

abbrev commit_faults : Bool → (n : ℤ) (id : List ℕ) → Option Group → Option GroupError
commit_faults b n id r = if b then None else commit_fault_at n id r

pub commit_admitted : (name : List ℕ) (n : ℤ) (id : List ℕ) (v : Groups) → IsServed v name → commit_fault name n id v ≡ None → IsAdmissible v name n id
commit_admitted name n id v s e = admitted_at v name n id (group_named name v) refl (subst (λ (b : Bool). commit_faults b n id (group_named name v) ≡ None) none e) where
  none : (0 == length name || v.settings.follows) ≡ false
  none = grind (arith, s.named, s.follows_none)

admissible : (name : List ℕ) (n : ℤ) (id : List ℕ) (v : Groups) → IsAdmissible v name n id → commit_fault_at n id (group_named name v) ≡ None
admissible name n id v (inl x) = (λ i. commit_fault_at n id (x.1 i)) ∙ fault_none (not (is_simple n)) IllegalGeneration (grind (arith, ints, x.0))
admissible name n id v (inr c) = (λ i. commit_fault_at n id (c.one.has_group i))
    ∙ none_or (generation_fault c.one.group n (member_of id c.one.group)) (completing_fault (Some c.one.group))
    (subst (λ (r : Option Group). member_fault n id r ≡ None) c.one.has_group (no_member_fault v name n id c.one))
    (fault_none (is_completing c.one.group.phase) Rebalancing c.given)

pub commit_of : (name : List ℕ) (n : ℤ) (id : List ℕ) (v : Groups) → IsServed v name → IsAdmissible v name n id → commit_fault name n id v ≡ None
commit_of name n id v s a = subst (λ (b : Bool). commit_faults b n id (group_named name v) ≡ None) (sym none) (admissible name n id v a) where
  none : (0 == length name || v.settings.follows) ≡ false
  none = grind (arith, s.named, s.follows_none)
