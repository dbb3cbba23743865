-- What each move does to the generation of a group.
use Rattle.std.proofs.Common.{◌≡◌, ◌⊎◌, ℕ, ◌+◌, ◌<◌, ◌≤◌, ◌==◌, Bool, true, false, cond, not, ◌&&◌, nat_lt, List, [], ◌∷◌, map, length, refl, sym, ap, subst, ◌∙◌, arith, true≢false, inl, inr}
use Rattle.std.specs.Prelude.{Some, slice_get, if◌then◌else◌}
use Rattle.std.specs.List.{filter, find, list_any}
use Rattle.std.specs.Option.{option_map_or}
use Rattle.std.specs.Str.{bytes_eq}
use Rattle.group_coordinator.specs.declared.values.GroupError.TheVariants.{Rebalancing}
use Rattle.group_coordinator.specs.declared.values.Phase.TheVariants.{Preparing}
use Rattle.group_coordinator.specs.declared.values.Settings.{Settings}
use Rattle.group_coordinator.specs.declared.values.TheConstants.{MOST_GENERATION}
use Rattle.group_coordinator.specs.declared.values.Refusal.{Refusal}
use Rattle.group_coordinator.specs.declared.values.Wait.{Wait}
use Rattle.group_coordinator.specs.declared.values.Wait.TheVariants.{No, Syncs, Told, Assigned}
use Rattle.group_coordinator.specs.Members.{Protocol, Member, has_id, is_joining, is_syncing, is_in, is_ready, beat, refusals_of}
use Rattle.group_coordinator.specs.Groups.{Group, Move, Moved, stays, and_then, goes_on, behind, is_numbered, is_preparing, is_stable, joining_time, unsynced, prepare, drop_those, begin_generation, if_any_left, complete, is_complete, settle}
use Rattle.group_coordinator.specs.Requests.{JoinRequest, SyncRequest}
use Rattle.group_coordinator.specs.Joining.{with_member, plainly, called, call, waits, is_repeat, rejoined, join_anew, rejoin, new_member, with_last, join_new, assigned, is_led_by, part_of, give_parts, sync, heartbeat, leave, unwaited, without_session, end_session}
use Rattle.group_coordinator.specs.Coordinators.{only, is_named}
use Rattle.group_coordinator.specs.Times.{is_silent, expire_group}
use Rattle.coordinator_laws.specs.Soundness.{IsSound}
use Rattle.coordinator_laws.specs.Generations.{BeganAlike, PartsStay, IsGiven}
use Rattle.coordinator_laws.proofs.Lists.{by_test, any_map, all_map, all_mapped}
use Rattle.coordinator_laws.proofs.Settling.{same_protocols_of}
use Rattle.coordinator_laws.proofs.Moving.{KeepsMember, at_id, keeps_at, changed, settled_same}
use Rattle.coordinator_laws.proofs.Asking.{called_keeps, waits_keeps, beat_keeps, assigned_keeps, unwaited_keeps, none_go, is_begun}

-- What a move does to the generation of a group, behind so many: it goes on, or a new one begins.
pub record Follows (n : ℕ) (g : Group) (m : Moved) : Type 0 where
  pub rises : n ≤ m.generations
  pub next : ((m.group.generation ≡ g.generation) × (is_preparing m.group.phase ≡ false → BeganAlike g m.group))
      ⊎ ((n < m.group.generation) × (m.group.generation ≤ m.generations) × (is_stable m.group.phase ≡ false))

-- The members of a generation join anew, or a new one begins.
pub record Renews (n l : ℕ) (m : Moved) : Type 0 where
  pub rises : n ≤ m.generations
  pub next : ((m.group.generation ≡ l) × (is_preparing m.group.phase ≡ true)) ⊎ ((n < m.group.generation) × (m.group.generation ≤ m.generations) × (is_stable m.group.phase ≡ false))

pub follows_of : (n : ℕ) (g : Group) (m : Moved) → Renews n g.generation m → Follows n g m
follows_of n g m r = record { rises = r.rises; next = by r.next } where
  by : ((m.group.generation ≡ g.generation) × (is_preparing m.group.phase ≡ true)) ⊎ ((n < m.group.generation) × (m.group.generation ≤ m.generations) × (is_stable m.group.phase ≡ false))
      → ((m.group.generation ≡ g.generation) × (is_preparing m.group.phase ≡ false → BeganAlike g m.group)) ⊎ ((n < m.group.generation) × (m.group.generation ≤ m.generations) × (is_stable m.group.phase ≡ false))
  by (inl x) = inl (x.0, (λ f. absurd (true≢false (sym x.1 ∙ f))))
  by (inr x) = inr x

pub behind_renews : (n l : ℕ) (rs : List Refusal) (m : Moved) → Renews n l m → Renews n l (behind rs m)
behind_renews n l rs m r = record { rises = r.rises; next = r.next }

-- ---- a group that prepares

begin_renews : (now n : ℕ) (g : Group) → is_preparing g.phase ≡ true → Renews n g.generation (begin_generation now n g)
begin_renews now n g e = by_test (λ (m : Moved). Renews n g.generation m) (nat_lt n MOST_GENERATION) _ (drop_those (λ m. true) n g)
    (λ f. record { rises = omega arith; next = inr (omega arith, omega arith, refl) })
    (λ f. record { rises = omega arith; next = inl (refl, e) })

complete_renews : (now n : ℕ) (g : Group) → is_preparing g.phase ≡ true → Renews n g.generation (complete now n g)
complete_renews now n g e = behind_renews n g.generation (drop_those (λ m. not (is_joining m.wait)) n g).refusals _ (on (drop_those (λ m. not (is_joining m.wait)) n g).group e) where
  on : (h : Group) → is_preparing h.phase ≡ true → Renews n h.generation (if_any_left (begin_generation now) n h)
  on h f = by_test (λ (m : Moved). Renews n h.generation m) (0 == length h.members) (stays n h) (begin_generation now n h)
      (λ _. record { rises = omega arith; next = inl (refl, f) }) (λ _. begin_renews now n h f)

settle_renews : (now n : ℕ) (g : Group) → is_preparing g.phase ≡ true → Renews n g.generation (settle now n g)
settle_renews now n g e = by_test (λ (m : Moved). Renews n g.generation m) (is_complete now g g.phase) (complete now n g) (stays n g)
    (λ _. complete_renews now n g e) (λ _. record { rises = omega arith; next = inl (refl, e) })

pub anew_renews : (o : Settings) (now n : ℕ) (g : Group) → Renews n g.generation (and_then (prepare o now) (settle now) n g)
anew_renews o now n g = by_test (λ (m : Moved). Renews n g.generation (goes_on (settle now) m)) (is_preparing g.phase) (stays n g) _
    (λ e. behind_renews n g.generation [] (settle now n g) (settle_renews now n g e))
    (λ e. behind_renews n g.generation (refusals_of Rebalancing (filter (λ m. is_syncing m.wait) g.members)) _ (settle_renews now n (record g { phase = Preparing (now + joining_time o g); members = map (unsynced now) g.members }) refl))

-- ---- a generation goes on

same_ids_of : (f : Member → Member) → ((m : Member) → (f m).number ≡ m.number) → ((m : Member) → (f m).id ≡ m.id)
    → (n : ℕ) (ms : List Member) → option_map_or (λ m. m.id) (find (is_numbered n) (map f ms)) [] ≡ option_map_or (λ m. m.id) (find (is_numbered n) ms) []
same_ids_of f number id n [] = refl
same_ids_of f number id n (m ∷ ms) = (λ i. option_map_or (λ m. m.id) (cond (number m i == n) (Some (f m)) (find (is_numbered n) (map f ms))) [])
    ∙ by (m.number == n) (same_ids_of f number id n ms) where
      by : (b : Bool) → option_map_or (λ m. m.id) (find (is_numbered n) (map f ms)) [] ≡ option_map_or (λ m. m.id) (find (is_numbered n) ms) []
          → option_map_or (λ m. m.id) (cond b (Some (f m)) (find (is_numbered n) (map f ms))) [] ≡ option_map_or (λ m. m.id) (cond b (Some m) (find (is_numbered n) ms)) []
      by true r = id m
      by false r = r

-- a change leaves members their parts
abbrev pub KeepsPart : (Member → Member) → Type 0
KeepsPart f = (m : Member) → (f m).part ≡ m.part

pub part_at : (id : List ℕ) (f : Member → Member) → KeepsPart f → KeepsPart (at_id id f)
part_at id f k m = by_test (λ (x : Member). x.part ≡ m.part) (has_id id m) (f m) m (λ e. k m) (λ e. refl)

leads_same : (f : Member → Member) → KeepsMember f → (id : List ℕ) (l : ℕ) (ms : List Member)
    → list_any (λ m. has_id id m && is_numbered l m) (map f ms) ≡ list_any (λ m. has_id id m && is_numbered l m) ms
leads_same f k id l ms = any_map (λ m. has_id id m && is_numbered l m) (λ m. has_id id m && is_numbered l m) f (λ m i. bytes_eq (k.id m i) id && (k.number m i == l)) ms

-- members change, but for what they are told of the generation
pub alike_changed : (f : Member → Member) → KeepsMember f → KeepsPart f → (g : Group) → is_preparing g.phase ≡ false → BeganAlike g (changed f g)
alike_changed f k part g e = record {
  stood = e;
  protocol = ap (λ (ps : List Protocol). option_map_or (λ p. p.name) (slice_get ps g.protocol) []) (same_protocols_of f k.number k.protocols g.leader g.members);
  leader = same_ids_of f k.number k.id g.leader g.members;
  leads = λ id. leads_same f k id g.leader g.members;
  given = λ s. inl (record { stable = s; parts = λ ps has. all_map _ _ f (λ m x. part m ∙ x ∙ ap (part_of ps) (sym (k.id m))) g.members has });
}

pub alike_then : (g h x : Group) → BeganAlike g h → BeganAlike h x → BeganAlike g x
alike_then g h x a b = record {
  stood = a.stood;
  protocol = b.protocol ∙ a.protocol;
  leader = b.leader ∙ a.leader;
  leads = λ id. b.leads id ∙ a.leads id;
  given = λ s. by (b.given s);
} where
  before : PartsStay h x → PartsStay g h ⊎ IsGiven g h → PartsStay g x ⊎ IsGiven g x
  before p (inl q) = inl (record { stable = q.stable; parts = λ ps has. p.parts ps (q.parts ps has) })
  before p (inr q) = inr (record { member = q.member; leads = q.leads; parts = q.parts; has = p.parts q.parts q.has })

  by : PartsStay h x ⊎ IsGiven h x → PartsStay g x ⊎ IsGiven g x
  by (inl p) = before p (a.given p.stable)
  by (inr q) = inr (record { member = q.member; leads = sym (a.leads q.member) ∙ q.leads; parts = q.parts; has = q.has })

pub alike_self : (g : Group) → is_preparing g.phase ≡ false → BeganAlike g g
alike_self g e = record { stood = e; protocol = refl; leader = refl; leads = λ id. refl; given = λ s. inl (record { stable = s; parts = λ ps has. has }) }

pub stays_follows : (n : ℕ) (g : Group) → Follows n g (stays n g)
stays_follows n g = record { rises = omega arith; next = inl (refl, (λ e. alike_self g e)) }

settle_follows : (now n : ℕ) (g : Group) → Follows n g (settle now n g)
settle_follows now n g = by (is_preparing g.phase) refl where
  by : (b : Bool) → is_preparing g.phase ≡ b → Follows n g (settle now n g)
  by true e = follows_of n g (settle now n g) (settle_renews now n g e)
  by false e = subst (λ (m : Moved). Follows n g m) (sym (settled_same now n g e)) (stays_follows n g)

pub heartbeat_follows : (now : ℕ) (id : List ℕ) (n : ℕ) (g : Group) → Follows n g (heartbeat now id n g)
heartbeat_follows now id n g = record { rises = omega arith; next = inl (refl, (λ e. alike_changed (at_id id (beat now)) (keeps_at id (beat now) (beat_keeps now)) (part_at id (beat now) (λ m. refl)) g e)) }

pub leave_follows : (o : Settings) (now : ℕ) (id : List ℕ) (n : ℕ) (g : Group) → Follows n g (leave o now id n g)
leave_follows o now id n g = follows_of n g (leave o now id n g) (renewed (anew_renews o now n (drop_those (has_id id) n g).group)) where
  renewed : Renews n g.generation (and_then (prepare o now) (settle now) n (drop_those (has_id id) n g).group) → Renews n g.generation (leave o now id n g)
  renewed r = record { rises = r.rises; next = r.next }

pub rejoin_follows : (o : Settings) (now k : ℕ) (q : JoinRequest) (n : ℕ) (g : Group) → Follows n g (rejoin o now k q n g)
rejoin_follows o now k q n g = by_test (λ (m : Moved). Follows n g m) (is_repeat q g)
    (and_then (call now q.member) (plainly (with_member q.member (waits (Told k)))) n g)
    (and_then (call now q.member) (join_anew o now k q) n g)
    (λ e. record {
      rises = omega arith;
      next = inl (
        refl,
        (λ f. alike_then g (changed (at_id q.member (called now)) g) _
            (alike_changed (at_id q.member (called now)) (keeps_at q.member (called now) (called_keeps now)) (part_at q.member (called now) (λ m. refl)) g f)
            (alike_changed (at_id q.member (waits (Told k))) (keeps_at q.member (waits (Told k)) (waits_keeps (Told k))) (part_at q.member (waits (Told k)) (λ m. refl)) (changed (at_id q.member (called now)) g) f)),
      );
    })
    (λ e. follows_of n g (and_then (call now q.member) (join_anew o now k q) n g)
    (renewed (anew_renews o now n (changed (at_id q.member (rejoined now k q)) (changed (at_id q.member (called now)) g))))) where
      renewed : Renews n g.generation (and_then (prepare o now) (settle now) n (changed (at_id q.member (rejoined now k q)) (changed (at_id q.member (called now)) g)))
          → Renews n g.generation (and_then (call now q.member) (join_anew o now k q) n g)
      renewed r = record { rises = r.rises; next = r.next }

pub join_new_follows : (o : Settings) (now k number : ℕ) (client : List ℕ) (q : JoinRequest) (n : ℕ) (g : Group) → Follows n g (join_new o now k number client q n g)
join_new_follows o now k number client q n g = follows_of n g (join_new o now k number client q n g) (renewed (anew_renews o now n (with_last (new_member o now k number client q) g))) where
  renewed : Renews n g.generation (and_then (prepare o now) (settle now) n (with_last (new_member o now k number client q) g)) → Renews n g.generation (join_new o now k number client q n g)
  renewed r = record { rises = r.rises; next = r.next }

given_follows : (now : ℕ) (q : SyncRequest) (g : Group) → is_preparing g.phase ≡ false → BeganAlike g (give_parts now q g)
given_follows now q g e = by_test (λ (h : Group). BeganAlike g h) (is_led_by q.member g) _ g (λ led. record {
  stood = e;
  protocol = ap (λ (ps : List Protocol). option_map_or (λ p. p.name) (slice_get ps g.protocol) []) (same_protocols_of (assigned now q.parts) (λ m. refl) (λ m. refl) g.leader g.members);
  leader = same_ids_of (assigned now q.parts) (λ m. refl) (λ m. refl) g.leader g.members;
  leads = λ id. leads_same (assigned now q.parts) (assigned_keeps now q.parts) id g.leader g.members;
  given = λ s. inr (record { member = q.member; leads = led; parts = q.parts; has = all_mapped _ (assigned now q.parts) (λ m. refl) g.members });
}) (λ _. alike_self g e)

given_same : (now : ℕ) (q : SyncRequest) (g : Group) → (give_parts now q g).generation ≡ g.generation
given_same now q g = by_test (λ (h : Group). h.generation ≡ g.generation) (is_led_by q.member g) _ g (λ _. refl) (λ _. refl)

pub sync_follows : (now k : ℕ) (q : SyncRequest) (n : ℕ) (g : Group) → is_preparing g.phase ≡ false → Follows n g (sync now k q n g)
sync_follows now k q n g e = by_test (λ (m : Moved). Follows n g m) (is_stable g.phase)
    (and_then (call now q.member) (plainly (with_member q.member (waits (Assigned k)))) n g)
    (and_then (call now q.member) (and_then (plainly (with_member q.member (waits (Syncs k)))) (plainly (give_parts now q))) n g)
    (λ _. record { rises = omega arith; next = inl (refl, (λ f. waited (Assigned k))) })
    (λ _. record {
      rises = omega arith;
      next = inl (
        given_same now q (changed (at_id q.member (waits (Syncs k))) (changed (at_id q.member (called now)) g)),
        (λ f. alike_then g (changed (at_id q.member (waits (Syncs k))) (changed (at_id q.member (called now)) g)) _ (waited (Syncs k))
            (given_follows now q (changed (at_id q.member (waits (Syncs k))) (changed (at_id q.member (called now)) g)) e)),
      );
    }) where
      waited : (w : Wait) → BeganAlike g (changed (at_id q.member (waits w)) (changed (at_id q.member (called now)) g))
      waited w = alike_then g (changed (at_id q.member (called now)) g) _
          (alike_changed (at_id q.member (called now)) (keeps_at q.member (called now) (called_keeps now)) (part_at q.member (called now) (λ m. refl)) g e)
          (alike_changed (at_id q.member (waits w)) (keeps_at q.member (waits w) (waits_keeps w)) (part_at q.member (waits w) (λ m. refl)) (changed (at_id q.member (called now)) g) e)

pub expire_follows : (o : Settings) (now n : ℕ) (g : Group) → Follows n g (expire_group o now n g)
expire_follows o now n g = by_test (λ (m : Moved). Follows n g m) (list_any (is_silent now g) g.members)
    (and_then (drop_those (is_silent now g)) (and_then (prepare o now) (settle now)) n g) (settle now n g)
    (λ _. follows_of n g _ (renewed (anew_renews o now n (drop_those (is_silent now g) n g).group))) (λ _. settle_follows now n g) where
      renewed : Renews n g.generation (and_then (prepare o now) (settle now) n (drop_those (is_silent now g) n g).group)
          → Renews n g.generation (and_then (drop_those (is_silent now g)) (and_then (prepare o now) (settle now)) n g)
      renewed r = record { rises = r.rises; next = r.next }

unwaited_part : (now k : ℕ) → KeepsPart (unwaited now k)
unwaited_part now k m = by_test (λ (x : Member). x.part ≡ m.part) (is_in k m.wait) (record m { wait = No; until = if is_ready m.wait then m.until else now + m.session }) m (λ _. refl) (λ _. refl)

pub end_follows : (now k n : ℕ) (g : Group) → IsSound g → Follows n g (end_session now k n g)
end_follows now k n g s = by_test (λ (m : Moved). Follows n g m) (list_any (λ m. is_in k m.wait) g.members)
    (and_then (plainly (without_session now k)) (settle now) n g) (stays n g)
    (λ _. by (is_preparing g.phase) refl) (λ _. stays_follows n g) where
      alike : is_preparing g.phase ≡ false → BeganAlike g (without_session now k g)
      alike e = subst (λ (ms : List Member). BeganAlike g (record g { members = map (unwaited now k) ms })) (sym (none_go k g.members (is_begun g e s).all_told))
          (alike_changed (unwaited now k) (unwaited_keeps now k) (unwaited_part now k) g e)

      settled : Moved
      settled = settle now n (without_session now k g)

      by : (b : Bool) → is_preparing g.phase ≡ b → Follows n g (and_then (plainly (without_session now k)) (settle now) n g)
      by true e = let r = follows_of n (without_session now k g) settled (settle_renews now n (without_session now k g) e) in
          record { rises = r.rises; next = (settle_next r.next) } where
            settle_next : ((settled.group.generation ≡ g.generation) × (is_preparing settled.group.phase ≡ false → BeganAlike (without_session now k g) settled.group))
                ⊎ ((n < settled.group.generation) × (settled.group.generation ≤ settled.generations) × (is_stable settled.group.phase ≡ false))
                → ((settled.group.generation ≡ g.generation) × (is_preparing settled.group.phase ≡ false → BeganAlike g settled.group))
                ⊎ ((n < settled.group.generation) × (settled.group.generation ≤ settled.generations) × (is_stable settled.group.phase ≡ false))
            settle_next (inl x) = inl (x.0, (λ f. absurd (true≢false (sym e ∙ (x.1 f).stood))))
            settle_next (inr x) = inr x
      by false e = subst (λ (m : Moved). Follows n g (behind [] m)) (sym (settled_same now n (without_session now k g) e))
          (record { rises = omega arith; next = inl (refl, (λ _. alike e)) })

pub only_follows : (name : List ℕ) (a : Move) (n : ℕ) (g : Group) → (is_named name g ≡ true → Follows n g (a n g)) → Follows n g (only name a n g)
only_follows name a n g here = by_test (λ (m : Moved). Follows n g m) (is_named name g) (a n g) (stays n g) here (λ _. stays_follows n g)
