-- What a group that prepares comes to, when it settles, is sound.
use Rattle.std.proofs.Common.{◌≡◌, ℕ, ◌+◌, ◌<◌, ◌==◌, Bool, true, false, cond, not, nat_lt, List, [], ◌∷◌, map, length, refl, sym, subst, ◌∙◌, arith}
use Rattle.std.specs.Prelude.{Some, slice_get}
use Rattle.std.specs.List.{AllByRecursion, find, list_any}
use Rattle.std.specs.Option.{option_map_or}
use Rattle.group_coordinator.specs.declared.values.Phase.{Phase}
use Rattle.group_coordinator.specs.declared.values.Phase.TheVariants.{Preparing, Completing}
use Rattle.group_coordinator.specs.declared.values.TheConstants.{MOST_GENERATION}
use Rattle.group_coordinator.specs.declared.values.Wait.{Wait}
use Rattle.group_coordinator.specs.declared.values.Wait.TheVariants.{No, Joins, Syncs, Told, Assigned}
use Rattle.group_coordinator.specs.Members.{Protocol, Member, is_joining, is_syncing}
use Rattle.group_coordinator.specs.Groups.{Group, Moved, is_numbered, protocols_of, protocol_name, longest, next_leader, common_protocol, begun_wait, begun_member, begin_generation, drop_those, if_any_left, complete, is_complete, settle, stays}
use Rattle.coordinator_laws.specs.Soundness.{AllKnow, AllNamed, NoneSyncs, IsBegun, IsUnsettled, IsSound, IsSoundIn}
use Rattle.coordinator_laws.proofs.Lists.{by_test, all_map, all_mapped, all_filter, all_passes, all_weaker, any_map, filter_all_gone}
use Rattle.coordinator_laws.proofs.Beginning.{leads, chosen_within, chosen_known}

-- the protocols of a numbered member, where members change but for these
pub same_protocols_of : (f : Member → Member) → ((m : Member) → (f m).number ≡ m.number) → ((m : Member) → (f m).protocols ≡ m.protocols)
    → (n : ℕ) (ms : List Member) → protocols_of n (map f ms) ≡ protocols_of n ms
same_protocols_of f number protocols n [] = refl
same_protocols_of f number protocols n (m ∷ ms) = (λ i. option_map_or (λ m. m.protocols) (cond (number m i == n) (Some (f m)) (find (is_numbered n) (map f ms))) [])
    ∙ by (m.number == n) (same_protocols_of f number protocols n ms) where
      by : (b : Bool) → protocols_of n (map f ms) ≡ protocols_of n ms
          → option_map_or (λ m. m.protocols) (cond b (Some (f m)) (find (is_numbered n) (map f ms))) [] ≡ option_map_or (λ m. m.protocols) (cond b (Some m) (find (is_numbered n) ms)) []
      by true r = protocols m
      by false r = r

-- ---- a group that prepares

-- A group of which members may join: it prepares, none waits for the leader, and some protocol is known to all.
pub record IsOpen (g : Group) : Type 0 where
  pub common : List ℕ
  pub known : AllKnow common g.members
  pub named : AllNamed g.members
  pub none_syncs : NoneSyncs g.members
  pub at : ℕ
  pub is_open : g.phase ≡ Preparing at

none_joins_begun : (w : Wait) → is_joining (begun_wait w) ≡ false
none_joins_begun No = refl
none_joins_begun (Joins k) = refl
none_joins_begun (Syncs k) = refl
none_joins_begun (Told k) = refl
none_joins_begun (Assigned k) = refl

pub none_syncs_begun : (w : Wait) → is_joining w ≡ true → is_syncing (begun_wait w) ≡ false
none_syncs_begun No e = refl
none_syncs_begun (Joins k) e = refl
none_syncs_begun (Syncs k) e = absurd (grind (arith, e))
none_syncs_begun (Told k) e = refl
none_syncs_begun (Assigned k) e = refl

-- the generation that begins, where a number is left for it
abbrev begun : (now n : ℕ) → Group → Moved
begun now n g = record {
  group = record g {
    generation = n + 1;
    phase = Completing (now + longest g.members);
    leader = next_leader g.leader g.members;
    protocol = common_protocol (next_leader g.leader g.members) g.members;
    members = map (begun_member now) g.members;
  };
  generations = n + 1;
  refusals = [];
}

-- a generation that begins is sound, where all joined
begun_sound : (now n : ℕ) (g : Group) (name : List ℕ) → AllKnow name g.members → AllNamed g.members → AllByRecursion (λ m. is_joining m.wait ≡ true) g.members
    → nat_lt 0 (length g.members) ≡ true → IsSound (begun now n g).group
begun_sound now n g name all ids joins some = sound where
  l : ℕ
  l = next_leader g.leader g.members

  led : list_any (is_numbered l) g.members ≡ true
  led = leads g.leader g.members some

  same : protocols_of l (map (begun_member now) g.members) ≡ protocols_of l g.members
  same = same_protocols_of (begun_member now) (λ m. refl) (λ m. refl) l g.members

  within : common_protocol l g.members < length (protocols_of l g.members)
  within = chosen_within l g.members name all led

  known_name : AllKnow (protocol_name (begun now n g).group) (map (begun_member now) g.members)
  known_name = all_map _ _ (begun_member now) (λ m k. k) g.members
      (subst (λ (ps : List Protocol). AllKnow (option_map_or (λ p. p.name) (slice_get ps (common_protocol l g.members)) []) g.members) (sym same) (chosen_known l g.members within))

  is_begun : IsBegun (begun now n g).group
  is_begun = record {
    numbered = omega arith;
    all_told = all_mapped _ (begun_member now) (λ m. refl) g.members;
    none_joins = all_mapped _ (begun_member now) (λ m. none_joins_begun m.wait) g.members;
    led = any_map _ _ (begun_member now) (λ m. refl) g.members ∙ led;
    chosen = subst (λ (ps : List Protocol). common_protocol l g.members < length ps) (sym same) within;
    all_know = known_name;
  }

  sound : IsSound (begun now n g).group
  sound = record {
    common = name;
    known = all_map _ _ (begun_member now) (λ m k. k) g.members all;
    named = all_map _ _ (begun_member now) (λ m k. k) g.members ids;
    in_phase = (is_begun, all_map _ _ (begun_member now) (λ m j. grind (arith, none_syncs_begun m.wait j)) g.members joins);
  }

-- an open group without members is sound
none_sound : (g : Group) → IsOpen g → nat_lt 0 (length g.members) ≡ false → IsSound g
none_sound g o e = record {
  common = o.common;
  known = o.known;
  named = o.named;
  in_phase = subst (λ (p : Phase). IsSoundIn g p) (sym o.is_open) (o.none_syncs, grind (arith, e));
}

-- an open group that isn't complete is sound
stays_sound : (now : ℕ) (g : Group) → IsOpen g → is_complete now g g.phase ≡ false → IsSound g
stays_sound now g o e = record {
  common = o.common;
  known = o.known;
  named = o.named;
  in_phase = subst (λ (p : Phase). IsSoundIn g p) (sym o.is_open) (o.none_syncs, unsettled);
} where
  at_phase : is_complete now g (Preparing o.at) ≡ false
  at_phase = subst (λ (p : Phase). is_complete now g p ≡ false) o.is_open e

  unsettled : IsUnsettled g
  unsettled = grind (arith, at_phase)

drop_open : (goes : Member → Bool) (n : ℕ) (g : Group) → IsOpen g → IsOpen (drop_those goes n g).group
drop_open goes n g o = record {
  common = o.common;
  known = all_filter _ _ g.members o.known;
  named = all_filter _ _ g.members o.named;
  none_syncs = all_filter _ _ g.members o.none_syncs;
  at = o.at;
  is_open = o.is_open;
}

if_any_sound : (now n : ℕ) (g : Group) → IsOpen g → AllByRecursion (λ m. is_joining m.wait ≡ true) g.members → IsSound (if_any_left (begin_generation now) n g).group
if_any_sound now n g o joins = by (0 == length g.members) refl where
  all_gone : IsSound (drop_those (λ m. true) n g).group
  all_gone = none_sound (drop_those (λ m. true) n g).group (drop_open (λ m. true) n g o)
      (subst (λ (ms : List Member). nat_lt 0 (length ms) ≡ false) (sym (filter_all_gone (λ m. not true) (λ m. refl) g.members)) refl)

  by : (b : Bool) → (0 == length g.members) ≡ b → IsSound (cond b (stays n g) (begin_generation now n g)).group
  by true e = none_sound g o (grind (arith, e))
  by false e = by_test (λ (m : Moved). IsSound m.group) (nat_lt n MOST_GENERATION) (begun now n g) (drop_those (λ m. true) n g)
      (λ f. begun_sound now n g o.common o.known o.named joins (grind (arith, e))) (λ f. all_gone)

not_not : (b : Bool) → not (not b) ≡ true → b ≡ true
not_not true e = refl
not_not false e = e

pub complete_sound : (now n : ℕ) (g : Group) → IsOpen g → IsSound (complete now n g).group
complete_sound now n g o =
    if_any_sound now n (drop_those (λ m. not (is_joining m.wait)) n g).group (drop_open (λ m. not (is_joining m.wait)) n g o)
    (all_weaker _ _ (λ m e. not_not (is_joining m.wait) e) _ (all_passes (λ m. not (not (is_joining m.wait))) g.members))

pub settle_sound : (now n : ℕ) (g : Group) → IsOpen g → IsSound (settle now n g).group
settle_sound now n g o = by_test (λ (m : Moved). IsSound m.group) (is_complete now g g.phase) (complete now n g) (stays n g)
    (λ e. complete_sound now n g o) (λ e. stays_sound now g o e)
