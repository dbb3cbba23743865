-- What a member is told, where it stands.
use Rattle.std.proofs.Common.{◌≡◌, ℕ, zero, suc, ◌<◌, Bool, true, false, cond, List, [], ◌∷◌, map, length, get_or, refl, sym, ap, subst, ◌∙◌, arith}
use Rattle.std.specs.Prelude.{is_some, Option, Some, None, slice_get, if◌then◌else◌}
use Rattle.std.specs.List.{find, position}
use Rattle.std.specs.Option.{option_and_then, option_map, option_map_or}
use Rattle.group_coordinator.specs.Members.{Member, Protocol, metadata_of}
use Rattle.group_coordinator.specs.Groups.{Group, JoinReply, Listed, is_leader, is_numbered, leader_id, protocol_name, told}
use Rattle.group_coordinator.specs.Coordinators.{Groups}
use Rattle.group_coordinator.specs.Requests.{Reply}
use Rattle.group_coordinator.proofs.Places.{found_at, not_found, same_at}
use Rattle.group_coordinator.proofs.Readiness.{at_slice}

-- ---- something of the first of which a test holds

pub some_of : {X : Type 0} (f : X → List ℕ) (t : X → Bool) (xs : List X) (i : ℕ) (x : X) (r : List ℕ) → position t xs ≡ Some i → x ≡ get_or xs i x → r ≡ f x → r ≡ option_map_or f (find t xs) []
some_of f t xs i x r e at is = is ∙ (λ k. option_map_or f (sym (found_at t xs i x e at) k) [])

pub none_of : {X : Type 0} (f : X → List ℕ) (t : X → Bool) (xs : List X) → position t xs ≡ None → [] ≡ option_map_or f (find t xs) []
none_of f t xs e = λ k. option_map_or f (sym (not_found t xs e) k) []

-- ---- the protocol that a group follows

abbrev name_at : List Protocol → ℕ → List ℕ
name_at ps k = option_map_or (λ p. p.name) (slice_get ps k) []

pub follows_some : (g : Group) (i : ℕ) (m : Member) (ps : List Protocol) (r : List ℕ) → position (is_numbered g.leader) g.members ≡ Some i → m ≡ get_or g.members i m → ps ≡ m.protocols
    → r ≡ option_map_or (λ p. p.name) (slice_get ps g.protocol) [] → r ≡ protocol_name g
follows_some g i m ps r e at same is =
    is ∙ (λ k. name_at (same k) g.protocol) ∙ (λ k. name_at (option_map_or (λ x. x.protocols) (sym (found_at (is_numbered g.leader) g.members i m e at) k) []) g.protocol)

pub follows_none : (g : Group) → position (is_numbered g.leader) g.members ≡ None → [] ≡ protocol_name g
follows_none g e = λ k. name_at (option_map_or (λ (x : Member). x.protocols) (sym (not_found (is_numbered g.leader) g.members e) k) []) g.protocol

-- ---- what is told

abbrev pub entry : List ℕ → Member → Listed
entry p x = record { id = x.id; metadata = metadata_of p x }

entries : (p : List ℕ) (b : Bool) (ms : List Member) → map (entry p) (cond b ms []) ≡ cond b (map (entry p) ms) []
entries p true ms = refl
entries p false ms = refl

pub told_as : (g : Group) (us : List Member) (k : ℕ) (m q : Member) (r : JoinReply) (n : ℕ) (p l i : List ℕ) (xs : List Member)
    → r ≡ record { generation = n; protocol = p; leader = l; member = i; members = map (λ x. record { id = x.id; metadata = metadata_of p x }) xs }
    → n ≡ g.generation → p ≡ protocol_name g → l ≡ leader_id g → us ≡ g.members → k < length g.members → q ≡ get_or us k q → m ≡ get_or g.members k m → i ≡ q.id → xs ≡ (if is_leader g m then g.members else [])
    → r ≡ told g m
told_as g us k m q r n p l i xs made number protocol leader same low here at member listed =
    made ∙ (λ j. record { generation = number j; protocol = protocol j; leader = leader j; member = id j; members = map (entry (protocol j)) (listed j) })
    ∙ (λ j. record { generation = g.generation; protocol = protocol_name g; leader = leader_id g; member = m.id; members = entries (protocol_name g) (is_leader g m) g.members j }) where
      id : i ≡ m.id
      id = member ∙ ap (λ (y : Member). y.id) (same_at g.members k q m low (here ∙ (λ j. get_or (same j) k q)) at)

-- what is told of the member at an index
pub listed_at : (f : Listed → List ℕ) (p : List ℕ) (ms : List Member) (i : ℕ) (x : Listed) (r : List ℕ) → i < length (map (entry p) ms) → ((m : Member) → m ≡ get_or ms i m → r ≡ f (entry p m)) → r ≡ f (get_or (map (entry p) ms) i x)
listed_at f p [] i x r low is = absurd (omega (arith, low))
listed_at f p (m ∷ ms) zero x r low is = is m refl
listed_at f p (m ∷ ms) (suc i) x r low is = listed_at f p ms i x r (omega (arith, low)) is

-- ---- the member at an index of the group at an index

some_low : {X : Type 0} (xs : List X) (i : ℕ) → is_some (slice_get xs i) ≡ true → i < length xs
some_low [] zero e = absurd (grind (arith, e))
some_low [] (suc i) e = absurd (grind (arith, e))
some_low (x ∷ xs) zero e = omega arith
some_low (x ∷ xs) (suc i) e = let rest = some_low xs i e in omega (arith, rest)

first_some : {X Y : Type 0} (f : X → Option Y) (o : Option X) → is_some (option_and_then f o) ≡ true → is_some o ≡ true
first_some f (Some x) e = refl
first_some f None e = e

some_mapped : {X Y : Type 0} (f : X → Y) (o : Option X) → is_some (option_map f o) ≡ true → is_some o ≡ true
some_mapped f (Some x) e = refl
some_mapped f None e = e

there_is : {X : Type 0} (xs : List X) (i : ℕ) → i < length xs → (x : X) × (x ≡ get_or xs i x)
there_is [] i low = absurd (omega (arith, low))
there_is (x ∷ xs) zero low = (x, refl)
there_is (x ∷ xs) (suc i) low = there_is xs i (omega (arith, low))

module _ (f : Group → Member → Reply) where
  pub group_there : (v : Groups) (i j : ℕ) → is_some (option_and_then (λ g. option_map (f g) (slice_get g.members j)) (slice_get v.groups i)) ≡ true → i < length v.groups
  group_there v i j e = some_low v.groups i (first_some (λ g. option_map (f g) (slice_get g.members j)) (slice_get v.groups i) e)

  pub member_there : (v : Groups) (i j : ℕ) (g : Group) → is_some (option_and_then (λ g. option_map (f g) (slice_get g.members j)) (slice_get v.groups i)) ≡ true → g ≡ get_or v.groups i g → j < length g.members
  member_there v i j g e at =
      let there : slice_get v.groups i ≡ Some g = at_slice v.groups i g (group_there v i j e) at in
      some_low g.members j (some_mapped (f g) (slice_get g.members j) (subst (λ (o : Option Group). is_some (option_and_then (λ g. option_map (f g) (slice_get g.members j)) o) ≡ true) there e))

  pub replies_there : (v : Groups) (i j : ℕ) (g : Group) (m : Member) → is_some (option_and_then (λ g. option_map (f g) (slice_get g.members j)) (slice_get v.groups i)) ≡ true → g ≡ get_or v.groups i g → m ≡ get_or g.members j m
      → option_and_then (λ g. option_map (f g) (slice_get g.members j)) (slice_get v.groups i) ≡ Some (f g m)
  replies_there v i j g m e at is =
      (λ k. option_and_then (λ g. option_map (f g) (slice_get g.members j)) (at_slice v.groups i g (group_there v i j e) at k))
      ∙ (λ k. option_map (f g) (at_slice g.members j m (member_there v i j g e at) is k))

  -- the same, of groups that are those of a coordinator
  pub group_low : (v : Groups) (us : List Group) (i j : ℕ) → us ≡ v.groups → is_some (option_and_then (λ g. option_map (f g) (slice_get g.members j)) (slice_get v.groups i)) ≡ true → i < length us
  group_low v us i j same e = subst (λ (xs : List Group). i < length xs) (sym same) (group_there v i j e)

  pub member_low : (v : Groups) (us : List Group) (i j : ℕ) (g : Group) → us ≡ v.groups → is_some (option_and_then (λ g. option_map (f g) (slice_get g.members j)) (slice_get v.groups i)) ≡ true → g ≡ get_or us i g → j < length g.members
  member_low v us i j g same e at = member_there v i j g e (at ∙ (λ k. get_or (same k) i g))

  pub replies_as : (v : Groups) (us : List Group) (i j : ℕ) (g : Group) (r : Reply) → us ≡ v.groups → is_some (option_and_then (λ g. option_map (f g) (slice_get g.members j)) (slice_get v.groups i)) ≡ true → g ≡ get_or us i g
      → ((m : Member) → m ≡ get_or g.members j m → r ≡ f g m) → option_and_then (λ g. option_map (f g) (slice_get g.members j)) (slice_get v.groups i) ≡ Some r
  replies_as v us i j g r same e at is =
      let m = there_is g.members j (member_low v us i j g same e at) in
      replies_there v i j g m.0 e (at ∙ (λ k. get_or (same k) i g)) m.1 ∙ (λ k. Some (sym (is m.0 m.1) k))
