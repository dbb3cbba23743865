-- Each move leaves a sound group sound.
use Rattle.std.proofs.Common.{◌≡◌, ℕ, ◌+◌, ◌<◌, ◌==◌, Bool, true, false, cond, ◌&&◌, nat_lt, List, [], map, length, refl, sym, ap, subst, ◌∙◌, arith}
use Rattle.std.specs.Prelude.{slice_get, if◌then◌else◌}
use Rattle.std.specs.List.{AllByRecursion, list_any}
use Rattle.std.specs.Option.{option_map_or}
use Rattle.std.specs.Str.{bytes_eq}
use Rattle.group_coordinator.specs.declared.values.Phase.{Phase}
use Rattle.group_coordinator.specs.declared.values.Phase.TheVariants.{Preparing, Completing, Stable}
use Rattle.group_coordinator.specs.declared.values.Settings.{Settings}
use Rattle.group_coordinator.specs.declared.values.Wait.TheVariants.{No}
use Rattle.group_coordinator.specs.Members.{Protocol, Member, has_id, is_joining, is_syncing, knows}
use Rattle.group_coordinator.specs.Groups.{Group, Moved, is_numbered, is_preparing, protocols_of, protocol_name, drop_those, settle, prepare, unsynced, joining_time, is_complete, complete, stays, and_then}
use Rattle.group_coordinator.specs.Times.{is_silent, expire_group}
use Rattle.coordinator_laws.specs.Soundness.{AllKnow, AllNamed, NoneSyncs, IsBegun, IsUnsettled, IsSound, IsSoundIn}
use Rattle.coordinator_laws.proofs.Lists.{by_test, all_map, all_mapped, all_filter, any_map, list_all_map, length_map}
use Rattle.coordinator_laws.proofs.Settling.{IsOpen, settle_sound, same_protocols_of}

-- ---- members change

-- What a change leaves of a member: its number, its id, its protocols and that it was told.
pub record KeepsMember (f : Member → Member) : Type 0 where
  pub number : (m : Member) → (f m).number ≡ m.number
  pub id : (m : Member) → (f m).id ≡ m.id
  pub protocols : (m : Member) → (f m).protocols ≡ m.protocols
  pub is_told : (m : Member) → (f m).is_told ≡ m.is_told

-- the members that a change is for
abbrev pub at_id : List ℕ → (Member → Member) → Member → Member
at_id id f m = if has_id id m then f m else m

pub keeps_at : (id : List ℕ) (f : Member → Member) → KeepsMember f → KeepsMember (at_id id f)
keeps_at id f k = record {
  number = λ m. by_test (λ (x : Member). x.number ≡ m.number) (has_id id m) (f m) m (λ e. k.number m) (λ e. refl);
  id = λ m. by_test (λ (x : Member). x.id ≡ m.id) (has_id id m) (f m) m (λ e. k.id m) (λ e. refl);
  protocols = λ m. by_test (λ (x : Member). x.protocols ≡ m.protocols) (has_id id m) (f m) m (λ e. k.protocols m) (λ e. refl);
  is_told = λ m. by_test (λ (x : Member). x.is_told ≡ m.is_told) (has_id id m) (f m) m (λ e. k.is_told m) (λ e. refl);
}

pub keeps_both : (f h : Member → Member) → KeepsMember f → KeepsMember h → KeepsMember (λ m. h (f m))
keeps_both f h k l = record {
  number = λ m. l.number (f m) ∙ k.number m;
  id = λ m. l.id (f m) ∙ k.id m;
  protocols = λ m. l.protocols (f m) ∙ k.protocols m;
  is_told = λ m. l.is_told (f m) ∙ k.is_told m;
}

-- a change of members leaves what all know, and that they have ids
pub keeps_known : (f : Member → Member) → KeepsMember f → (name : List ℕ) (ms : List Member) → AllKnow name ms → AllKnow name (map f ms)
keeps_known f k name ms all = all_map _ _ f (λ m e. subst (λ (ps : List Protocol). knows name ps ≡ true) (sym (k.protocols m)) e) ms all

pub keeps_named : (f : Member → Member) → KeepsMember f → (ms : List Member) → AllNamed ms → AllNamed (map f ms)
keeps_named f k ms all = all_map _ _ f (λ m e. subst (λ (id : List ℕ). bytes_eq id [] ≡ false) (sym (k.id m)) e) ms all

abbrev pub changed : (Member → Member) → Group → Group
changed f g = record g { members = map f g.members }

-- a generation stands through a change by which nobody joins
pub keeps_begun : (f : Member → Member) → KeepsMember f → ((m : Member) → is_joining m.wait ≡ false → is_joining (f m).wait ≡ false)
    → (p : Phase) (g : Group) → IsBegun g → IsBegun (record g { phase = p; members = map f g.members })
keeps_begun f k joins p g b = record {
  numbered = b.numbered;
  all_told = all_map _ _ f (λ m e. k.is_told m ∙ e) g.members b.all_told;
  none_joins = all_map _ _ f joins g.members b.none_joins;
  led = any_map _ _ f (λ m. ap (λ (n : ℕ). n == g.leader) (k.number m)) g.members ∙ b.led;
  chosen = subst (λ (ps : List Protocol). g.protocol < length ps) (sym same) b.chosen;
  all_know = keeps_known f k (protocol_name (record g { phase = p; members = map f g.members })) g.members
      (subst (λ (ps : List Protocol). AllKnow (option_map_or (λ p. p.name) (slice_get ps g.protocol) []) g.members) (sym same) b.all_know);
} where
  same : protocols_of g.leader (map f g.members) ≡ protocols_of g.leader g.members
  same = same_protocols_of f k.number k.protocols g.leader g.members

-- who leads doesn't wait for itself, through a change by which nobody begins to wait
pub keeps_led : (f : Member → Member) → KeepsMember f → ((m : Member) → is_syncing m.wait ≡ false → is_syncing (f m).wait ≡ false)
    → (l : ℕ) (ms : List Member) → AllByRecursion (λ m. (is_numbered l m && is_syncing m.wait) ≡ false) ms
    → AllByRecursion (λ m. (is_numbered l m && is_syncing m.wait) ≡ false) (map f ms)
keeps_led f k syncs l ms all = all_map _ _ f one ms all where
  by : (b d e : Bool) → (b && d) ≡ false → (d ≡ false → e ≡ false) → (b && e) ≡ false
  by true d e q w = w q
  by false d e q w = refl

  one : (m : Member) → (is_numbered l m && is_syncing m.wait) ≡ false → (is_numbered l (f m) && is_syncing (f m).wait) ≡ false
  one m e = subst (λ (n : ℕ). ((n == l) && is_syncing (f m).wait) ≡ false) (sym (k.number m))
      (by (is_numbered l m) (is_syncing m.wait) (is_syncing (f m).wait) e (syncs m))

-- a change in a generation that stands, by which nobody begins to wait
pub stands_in : (f : Member → Member) → KeepsMember f → ((m : Member) → is_joining m.wait ≡ false → is_joining (f m).wait ≡ false)
    → ((m : Member) → is_syncing m.wait ≡ false → is_syncing (f m).wait ≡ false)
    → (g : Group) (p : Phase) → is_preparing p ≡ false → IsSoundIn g p → IsSoundIn (changed f g) p
stands_in f k joins syncs g (Preparing t) e s = absurd (grind (arith, e))
stands_in f k joins syncs g (Completing t) e s = (keeps_begun f k joins g.phase g s.0, keeps_led f k syncs g.leader g.members s.1)
stands_in f k joins syncs g Stable e s = (keeps_begun f k joins g.phase g s.0, all_map _ _ f syncs g.members s.1)

pub stands_sound : (f : Member → Member) → KeepsMember f → ((m : Member) → is_joining m.wait ≡ false → is_joining (f m).wait ≡ false)
    → ((m : Member) → is_syncing m.wait ≡ false → is_syncing (f m).wait ≡ false)
    → (g : Group) → is_preparing g.phase ≡ false → IsSound g → IsSound (changed f g)
stands_sound f k joins syncs g e s = record {
  common = s.common;
  known = keeps_known f k s.common g.members s.known;
  named = keeps_named f k g.members s.named;
  in_phase = stands_in f k joins syncs g g.phase e s.in_phase;
}

-- a change by which nobody begins to wait, or stops joining
pub keeps_in : (f : Member → Member) → KeepsMember f → ((m : Member) → is_joining (f m).wait ≡ is_joining m.wait)
    → ((m : Member) → is_syncing m.wait ≡ false → is_syncing (f m).wait ≡ false)
    → (g : Group) (p : Phase) → IsSoundIn g p → IsSoundIn (changed f g) p
keeps_in f k joins syncs g (Preparing t) s = (all_map _ _ f syncs g.members s.0, unsettled) where
  unsettled : IsUnsettled (changed f g)
  unsettled = (λ i. nat_lt 0 (length_map f g.members i) && (nat_lt 0 g.generation && list_all_map (λ m. is_joining m.wait) (λ m. is_joining m.wait) f joins g.members i)) ∙ s.1
keeps_in f k joins syncs g (Completing t) s = stands_in f k (λ m e. joins m ∙ e) syncs g (Completing t) refl s
keeps_in f k joins syncs g Stable s = stands_in f k (λ m e. joins m ∙ e) syncs g Stable refl s

pub keeps_sound : (f : Member → Member) → KeepsMember f → ((m : Member) → is_joining (f m).wait ≡ is_joining m.wait)
    → ((m : Member) → is_syncing m.wait ≡ false → is_syncing (f m).wait ≡ false)
    → (g : Group) → IsSound g → IsSound (changed f g)
keeps_sound f k joins syncs g s = record {
  common = s.common;
  known = keeps_known f k s.common g.members s.known;
  named = keeps_named f k g.members s.named;
  in_phase = keeps_in f k joins syncs g g.phase s.in_phase;
}

-- ---- members join anew

pub preparing_at : (p : Phase) → is_preparing p ≡ true → (t : ℕ) × (p ≡ Preparing t)
preparing_at (Preparing t) e = (t, refl)
preparing_at (Completing t) e = absurd (grind (arith, e))
preparing_at Stable e = absurd (grind (arith, e))

unsynced_keeps : (now : ℕ) → KeepsMember (unsynced now)
unsynced_keeps now = record {
  number = λ m. by_test (λ (x : Member). x.number ≡ m.number) (is_syncing m.wait) (record m { until = now + m.session; wait = No }) m (λ e. refl) (λ e. refl);
  id = λ m. by_test (λ (x : Member). x.id ≡ m.id) (is_syncing m.wait) (record m { until = now + m.session; wait = No }) m (λ e. refl) (λ e. refl);
  protocols = λ m. by_test (λ (x : Member). x.protocols ≡ m.protocols) (is_syncing m.wait) (record m { until = now + m.session; wait = No }) m (λ e. refl) (λ e. refl);
  is_told = λ m. by_test (λ (x : Member). x.is_told ≡ m.is_told) (is_syncing m.wait) (record m { until = now + m.session; wait = No }) m (λ e. refl) (λ e. refl);
}

unsynced_none : (now : ℕ) (m : Member) → is_syncing (unsynced now m).wait ≡ false
unsynced_none now m = by_test (λ (x : Member). is_syncing x.wait ≡ false) (is_syncing m.wait) (record m { until = now + m.session; wait = No }) m (λ e. refl) (λ e. e)

pub prepare_open : (o : Settings) (now n : ℕ) (g : Group) (name : List ℕ) → AllKnow name g.members → AllNamed g.members
    → (is_preparing g.phase ≡ true → NoneSyncs g.members) → IsOpen (prepare o now n g).group
prepare_open o now n g name known named none =
    by_test (λ (m : Moved). IsOpen m.group) (is_preparing g.phase) (stays n g) _
    (λ e. record { common = name; known = known; named = named; none_syncs = none e; at = (preparing_at g.phase e).0; is_open = (preparing_at g.phase e).1 })
    (λ e. record {
      common = name;
      known = keeps_known (unsynced now) (unsynced_keeps now) name g.members known;
      named = keeps_named (unsynced now) (unsynced_keeps now) g.members named;
      none_syncs = all_mapped _ (unsynced now) (unsynced_none now) g.members;
      at = now + joining_time o g;
      is_open = refl;
    })

pub anew_sound : (o : Settings) (now n : ℕ) (g : Group) (name : List ℕ) → AllKnow name g.members → AllNamed g.members
    → (is_preparing g.phase ≡ true → NoneSyncs g.members) → IsSound (and_then (prepare o now) (settle now) n g).group
anew_sound o now n g name known named none = settle_sound now (prepare o now n g).generations (prepare o now n g).group (prepare_open o now n g name known named none)

-- of a sound group that prepares, none waits for the leader
none_in : (g : Group) (p : Phase) → is_preparing p ≡ true → IsSoundIn g p → NoneSyncs g.members
none_in g (Preparing t) e s = s.0
none_in g (Completing t) e s = absurd (grind (arith, e))
none_in g Stable e s = absurd (grind (arith, e))

pub none_syncs : (g : Group) → IsSound g → is_preparing g.phase ≡ true → NoneSyncs g.members
none_syncs g s e = none_in g g.phase e s.in_phase

pub is_open : (g : Group) → IsSound g → is_preparing g.phase ≡ true → IsOpen g
is_open g s e = record {
  common = s.common;
  known = s.known;
  named = s.named;
  none_syncs = none_syncs g s e;
  at = (preparing_at g.phase e).0;
  is_open = (preparing_at g.phase e).1;
}

not_complete : (now : ℕ) (g : Group) (p : Phase) → is_preparing p ≡ false → is_complete now g p ≡ false
not_complete now g (Preparing t) e = absurd (grind (arith, e))
not_complete now g (Completing t) e = refl
not_complete now g Stable e = refl

-- a group that stands doesn't settle
pub settled_same : (now n : ℕ) (g : Group) → is_preparing g.phase ≡ false → settle now n g ≡ stays n g
settled_same now n g e = ap (λ (b : Bool). cond b (complete now n g) (stays n g)) (not_complete now g g.phase e)

pub settle_keeps : (now n : ℕ) (g : Group) → IsSound g → IsSound (settle now n g).group
settle_keeps now n g s = by (is_preparing g.phase) refl where
  by : (b : Bool) → is_preparing g.phase ≡ b → IsSound (settle now n g).group
  by true e = settle_sound now n g (is_open g s e)
  by false e = subst (λ (m : Moved). IsSound m.group) (sym (settled_same now n g e)) s

-- ---- members go

-- some go, and the others join anew
pub dropped_sound : (o : Settings) (now n : ℕ) (goes : Member → Bool) (g : Group) → IsSound g
    → IsSound (and_then (drop_those goes) (and_then (prepare o now) (settle now)) n g).group
dropped_sound o now n goes g s = anew_sound o now n (drop_those goes n g).group s.common (all_filter _ _ g.members s.known) (all_filter _ _ g.members s.named)
    (λ e. all_filter _ _ g.members (none_syncs g s e))

pub expire_sound : (o : Settings) (now n : ℕ) (g : Group) → IsSound g → IsSound (expire_group o now n g).group
expire_sound o now n g s = by_test (λ (m : Moved). IsSound m.group) (list_any (is_silent now g) g.members) _ (settle now n g)
    (λ e. dropped_sound o now n (is_silent now g) g s) (λ e. settle_keeps now n g s)
