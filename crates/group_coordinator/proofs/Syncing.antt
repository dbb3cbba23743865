-- What a request for a part does to its group.
use Rattle.std.proofs.Common.{true≢false, ◌≡◌, ℕ, ◌+◌, ◌-◌, ◌<◌, ◌≤◌, Bool, true, false, cond, not, nat_lt, List, [], ◌∷◌, ◌++◌, map, length, min, refl, sym, ap, subst, ◌∙◌, arith, append-nil, length-append}
use Rattle.std.specs.Prelude.{Option, Some, None, ◌&&◌, ◌||◌, ◌==◌}
use Rattle.std.specs.List.{filter, list_any, sum_by}
use Rattle.std.specs.Str.{bytes_eq}
use Rattle.std.proofs.lemmas.Int.{clamps}
use Rattle.std.proofs.lemmas.List.{length-map}
use Rattle.std.proofs.lemmas.List.Sums.{sum_by-cons}
use Rattle.std.proofs.lemmas.Option.{none-some, same_Some}
use Rattle.group_coordinator.specs.declared.values.GroupError.TheVariants.{Rebalancing}
use Rattle.group_coordinator.specs.declared.values.Phase.TheVariants.{Stable}
use Rattle.group_coordinator.specs.declared.values.Refusal.{Refusal}
use Rattle.group_coordinator.specs.declared.values.TheConstants.{MOST_BYTES}
use Rattle.group_coordinator.specs.declared.values.Wait.{Wait}
use Rattle.group_coordinator.specs.declared.values.Wait.TheVariants.{No, Joins, Syncs, Told, Assigned}
use Rattle.group_coordinator.specs.Members.{Member, has_id, member_bytes, refusals_of}
use Rattle.group_coordinator.specs.Groups.{Group, Moved, group_bytes, is_stable, is_leader}
use Rattle.group_coordinator.specs.Requests.{Part, SyncRequest}
use Rattle.group_coordinator.specs.Joining.{assigned, called, give_parts, is_led_by, part_of, sync, waits, with_member}
use Rattle.group_coordinator.specs.Doing.{Noted, refusing, pending, pending_of}
use Rattle.group_coordinator.specs.Giving.{Asks, DoesStaying, Planned, bytes_of_parts, gives, part_lengths, parts_by, parts_for, plan_of, sync_wait}
use Rattle.group_coordinator.proofs.Bytes.{bytes_mapped}
use Rattle.group_coordinator.proofs.Refusing.{pending_of_filter, refused_length}

-- ---- how many bytes are counted

abbrev most : ℕ
most = 18446744073709551615

over_same : (all had bytes s p r : ℕ) → s ≡ min all most → p ≡ min had most → had ≤ bytes → bytes ≤ MOST_BYTES → r ≡ min (s + (bytes - p)) most → nat_lt MOST_BYTES r ≡ nat_lt MOST_BYTES (all + (bytes - had))
over_same all had bytes s p r = λ a b c d e. grind (arith, clamps, a, b, c, d, e)

exact : (all had bytes s p r : ℕ) → s ≡ min all most → p ≡ min had most → had ≤ bytes → bytes ≤ MOST_BYTES → r ≡ min (s + (bytes - p)) most → r ≤ MOST_BYTES → r ≡ all + (bytes - had)
exact all had bytes s p r = λ a b c d e f. omega (arith, clamps, a, b, c, d, e, f)

module _ (bytes : ℕ) (ps : List Part) (g : Group) (s p r : ℕ) (given : s ≡ min (sum_by length (parts_for ps g.members)) most) (had : p ≡ min (part_lengths g.members) most)
    (counted : part_lengths g.members ≤ bytes) (bounded : bytes ≤ MOST_BYTES) (made : r ≡ min (s + (bytes - p)) most) where
  abbrev plan : ℕ → Option Planned
  plan n = Some (record { bytes = n; given = Some (parts_for ps g.members) })

  sum_same : nat_lt MOST_BYTES r ≡ nat_lt MOST_BYTES (bytes_of_parts bytes ps g)
  sum_same = over_same (sum_by length (parts_for ps g.members)) (part_lengths g.members) bytes s p r given had counted bounded made

  no_room : nat_lt MOST_BYTES r ≡ true → None ≡ plan_of bytes ps g
  no_room over = λ i. cond ((sym over ∙ sum_same) i) None (plan (bytes_of_parts bytes ps g))

  has_room : nat_lt MOST_BYTES r ≡ false → (ns : List (List ℕ)) → ns ≡ parts_for ps g.members → Some (record { bytes = r; given = Some ns }) ≡ plan_of bytes ps g
  has_room fits ns is =
      let all : r ≡ bytes_of_parts bytes ps g = exact (sum_by length (parts_for ps g.members)) (part_lengths g.members) bytes s p r given had counted bounded made (grind (arith, fits)) in
      (λ i. Some (record { bytes = all i; given = Some (is i) })) ∙ (λ i. cond ((sym fits ∙ sum_same) i) None (plan (bytes_of_parts bytes ps g)))

-- the same of the members as they were read
pub no_room_of : (bytes : ℕ) (ps : List Part) (g : Group) (ms : List Member) (s p r : ℕ) → ms ≡ g.members → s ≡ min (sum_by length (parts_for ps ms)) most → p ≡ min (part_lengths ms) most
    → part_lengths g.members ≤ bytes → bytes ≤ MOST_BYTES → r ≡ min (s + (bytes - p)) most → MOST_BYTES < r → None ≡ plan_of bytes ps g
no_room_of bytes ps g ms s p r is given had counted bounded made over =
    no_room bytes ps g s p r (given ∙ (λ i. min (sum_by length (parts_for ps (is i))) most)) (had ∙ (λ i. min (part_lengths (is i)) most)) counted bounded made (grind (arith, over))

pub has_room_of : (bytes : ℕ) (ps : List Part) (g : Group) (ms : List Member) (s p r : ℕ) → ms ≡ g.members → s ≡ min (sum_by length (parts_for ps ms)) most → p ≡ min (part_lengths ms) most
    → part_lengths g.members ≤ bytes → bytes ≤ MOST_BYTES → r ≡ min (s + (bytes - p)) most → r ≤ MOST_BYTES → (ns : List (List ℕ)) → ns ≡ parts_for ps ms
    → Some (record { bytes = r; given = Some ns }) ≡ plan_of bytes ps g
has_room_of bytes ps g ms s p r is given had counted bounded made fits ns all =
    has_room bytes ps g s p r (given ∙ (λ i. min (sum_by length (parts_for ps (is i))) most)) (had ∙ (λ i. min (part_lengths (is i)) most)) counted bounded made (grind (arith, fits)) ns (all ∙ (λ i. parts_for ps (is i)))

-- ---- its member waits

pub pending_most : (ms : List Member) → pending_of ms ≤ length ms
pending_most [] = omega arith
pending_most (m ∷ ms) = omega (arith, one m.wait, pending_most ms) where
  one : (w : Wait) → pending w ≤ 1
  one No = omega arith
  one (Joins k) = omega arith
  one (Syncs k) = omega arith
  one (Told k) = omega arith
  one (Assigned k) = omega arith

any_same : (t : Member → Bool) (f : Member → Member) → ((m : Member) → t (f m) ≡ t m) → (ms : List Member) → list_any t (map f ms) ≡ list_any t ms
any_same t f same [] = refl
any_same t f same (m ∷ ms) = λ i. same m i || any_same t f same ms i

parts_same : (ps : List Part) (f : Member → Member) → ((m : Member) → (f m).id ≡ m.id) → (ms : List Member) → parts_for ps (map f ms) ≡ parts_for ps ms
parts_same ps f same [] = refl
parts_same ps f same (m ∷ ms) = λ i. part_of ps (same m i) ∷ parts_same ps f same ms i

-- a member that changes under a condition, but for its id and its number
abbrev changes : List ℕ → (Member → Member) → Member → Member
changes id f m = cond (has_id id m) (f m) m

led_member : (id : List ℕ) (g : Group) (b : Bool) (m x : Member) → x.id ≡ m.id → x.number ≡ m.number → (has_id id (cond b x m) && is_leader g (cond b x m)) ≡ (has_id id m && is_leader g m)
led_member id g true m x same number = λ i. bytes_eq (same i) id && (number i == g.leader)
led_member id g false m x same number = refl

id_member : (b : Bool) (m x : Member) → x.id ≡ m.id → (cond b x m).id ≡ m.id
id_member true m x same = same
id_member false m x same = refl

bytes_member : (b : Bool) (m x : Member) → member_bytes x ≡ member_bytes m → member_bytes (cond b x m) ≡ member_bytes m
bytes_member true m x same = same
bytes_member false m x same = refl

length_member : (b : Bool) (m x : Member) → length x.part ≡ length m.part → length (cond b x m).part ≡ length m.part
length_member true m x same = same
length_member false m x same = refl

lengths_mapped : (f : Member → Member) → ((m : Member) → length (f m).part ≡ length m.part) → (ms : List Member) → part_lengths (map f ms) ≡ part_lengths ms
lengths_mapped f same [] = refl
lengths_mapped f same (m ∷ ms) =
    omega (arith, sum_by-cons (λ (x : Member). length x.part) (f m) (map f ms), sum_by-cons (λ (x : Member). length x.part) m ms, same m, lengths_mapped f same ms)

assigned_all : (now : ℕ) (ps : List Part) (ms : List Member) → sum_by member_bytes (map (assigned now ps) ms) + part_lengths ms ≡ sum_by member_bytes ms + sum_by length (parts_for ps ms)
assigned_all now ps [] = refl
assigned_all now ps (m ∷ ms) = omega (
  arith,
  sum_by-cons member_bytes (assigned now ps m) (map (assigned now ps) ms),
  sum_by-cons (λ (x : Member). length x.part) m ms,
  sum_by-cons member_bytes m ms,
  sum_by-cons (length {A = ℕ}) (part_of ps m.id) (parts_for ps ms),
  assigned_all now ps ms,
)

module _ (now k : ℕ) (q : SyncRequest) (g : Group) where
  abbrev refused : List Refusal
  refused = refusals_of Rebalancing (filter (has_id q.member) g.members)

  abbrev asked : Wait → Group
  asked w = with_member q.member (waits w) (with_member q.member (called now) g)

  -- what it comes to
  abbrev comes : ℕ → Group → Moved
  comes n i = record { group = i; generations = n; refusals = refused ++ [] }

  led_same : (w : Wait) → is_led_by q.member (asked w) ≡ is_led_by q.member g
  led_same w =
      any_same (λ m. has_id q.member m && is_leader g m) (changes q.member (waits w)) (λ m. led_member q.member g (has_id q.member m) m (waits w m) refl refl) (map (changes q.member (called now)) g.members)
      ∙ any_same (λ m. has_id q.member m && is_leader g m) (changes q.member (called now)) (λ m. led_member q.member g (has_id q.member m) m (called now m) refl refl) g.members

  parts_left : (w : Wait) (ps : List Part) → parts_for ps (asked w).members ≡ parts_for ps g.members
  parts_left w ps =
      parts_same ps (changes q.member (waits w)) (λ m. id_member (has_id q.member m) m (waits w m) refl) (map (changes q.member (called now)) g.members)
      ∙ parts_same ps (changes q.member (called now)) (λ m. id_member (has_id q.member m) m (called now m) refl) g.members

  length_left : (w : Wait) → length (asked w).members ≡ length g.members
  length_left w = length-map (map (changes q.member (called now)) g.members) (changes q.member (waits w)) ∙ length-map g.members (changes q.member (called now))

  -- the parts that members have already
  has_part : (n : ℕ) → is_stable g.phase ≡ true → sync now k q n g ≡ comes n (asked (sync_wait k g.phase))
  has_part n e = (λ i. cond (e i) (comes n (asked (Assigned k))) (comes n (give_parts now q (asked (Syncs k))))) ∙ (λ i. comes n (asked (cond (sym e i) (Assigned k) (Syncs k))))

  -- those that the leader gives, if it is the leader
  waits_or_gives : (n : ℕ) → is_stable g.phase ≡ false → sync now k q n g ≡ comes n (give_parts now q (asked (Syncs k)))
  waits_or_gives n e = λ i. cond (e i) (comes n (asked (Assigned k))) (comes n (give_parts now q (asked (Syncs k))))

  abbrev given_group : Group
  given_group = record (asked (Syncs k)) { phase = Stable; members = map (assigned now q.parts) (asked (Syncs k)).members }

  gives_if : (b : Bool) → is_led_by q.member g ≡ b → give_parts now q (asked (Syncs k)) ≡ cond b given_group (asked (Syncs k))
  gives_if b e = λ i. cond ((led_same (Syncs k) ∙ e) i) given_group (asked (Syncs k))

  -- nobody gets a part
  pub sync_plain : (n : ℕ) → None ≡ parts_by q.member q.parts g → sync now k q n g ≡ comes n (asked (sync_wait k g.phase))
  sync_plain n none = by (is_stable g.phase) (is_led_by q.member g) refl refl none where
    by : (b c : Bool) → is_stable g.phase ≡ b → is_led_by q.member g ≡ c → None ≡ cond (not b && c) (Some (parts_for q.parts g.members)) None → sync now k q n g ≡ comes n (asked (sync_wait k g.phase))
    by true c e f none = has_part n e
    by false true e f none = absurd (none-some _ none)
    by false false e f none = waits_or_gives n e ∙ ap (comes n) (gives_if false f) ∙ (λ i. comes n (asked (cond (sym e i) (Assigned k) (Syncs k))))

  -- the group once members have these parts
  abbrev got : Group
  got = record (asked (sync_wait k g.phase)) { phase = Stable; members = map (assigned now q.parts) (asked (sync_wait k g.phase)).members }

  -- members get their parts
  pub sync_gives : (n : ℕ) → gives q.member g ≡ true → sync now k q n g ≡ comes n got
  sync_gives n is = by (is_stable g.phase) (is_led_by q.member g) refl refl is where
    by : (b c : Bool) → is_stable g.phase ≡ b → is_led_by q.member g ≡ c → (not b && c) ≡ true → sync now k q n g ≡ comes n got
    by true c e f is = absurd (true≢false (sym is))
    by false false e f is = absurd (true≢false (sym is))
    by false true e f is =
        let wait : sync_wait k g.phase ≡ Syncs k = λ j. cond (e j) (Assigned k) (Syncs k) in
        waits_or_gives n e ∙ ap (comes n) (gives_if true f)
        ∙ (λ j. comes n (record (asked (sym wait j)) { phase = Stable; members = map (assigned now q.parts) (asked (sym wait j)).members }))

  finish : (l j : Noted) (i : Group) → sync now k q l.generations g ≡ comes l.generations i → j ≡ refusing l refused → i.name ≡ g.name → i.generation ≡ g.generation → length i.members ≡ length g.members
      → DoesStaying (sync now k q) l j g i
  finish l j i same noted name generation count = record {
    group = λ p. (sym same p).group;
    noted = noted ∙ (λ p. refusing l (sym (append-nil refused) p)) ∙ (λ p. refusing l (sym same p).refusals);
    generations = λ p. (same p).generations;
    room = subst (λ (m : Moved). length m.refusals + pending_of i.members ≤ pending_of g.members + length g.members) (sym same)
        (omega (
          arith,
          length-append refused [],
          refused_length Rebalancing (filter (has_id q.member) g.members),
          pending_of_filter (has_id q.member) g.members,
          pending_most i.members,
          count,
        ));
    name = name;
    generation = generation;
    count = count;
  }

  pub does_plain : (l j : Noted) (h : Group) → None ≡ parts_by q.member q.parts g → Asks now k q.member l j g h → DoesStaying (sync now k q) l j g h
  does_plain l j h none asks =
      finish l j h (sync_plain l.generations none ∙ ap (comes l.generations) (sym asks.group)) asks.noted (ap (λ (x : Group). x.name) asks.group) (ap (λ (x : Group). x.generation) asks.group)
      (ap (λ (x : Group). length x.members) asks.group ∙ length_left (sync_wait k g.phase))

  pub does_give : (l j : Noted) (h i : Group) (ns : List (List ℕ)) → Some ns ≡ parts_by q.member q.parts g → Asks now k q.member l j g h
      → ((ps : List Part) → ns ≡ parts_for ps h.members → i ≡ record h { phase = Stable; members = map (assigned now ps) h.members }) → DoesStaying (sync now k q) l j g i
  does_give l j h i ns is asks made =
      let a : Group = asked (sync_wait k g.phase) in
      let all : ns ≡ parts_for q.parts h.members = (mine ns is).1 ∙ sym (parts_left (sync_wait k g.phase) q.parts) ∙ (λ p. parts_for q.parts (sym asks.group p).members) in
      let last : i ≡ record a { phase = Stable; members = map (assigned now q.parts) a.members } =
      made q.parts all ∙ (λ p. record (asks.group p) { phase = Stable; members = map (assigned now q.parts) (asks.group p).members }) in
      finish l j i (sync_gives l.generations (mine ns is).0 ∙ ap (comes l.generations) (sym last)) asks.noted (ap (λ (x : Group). x.name) last) (ap (λ (x : Group). x.generation) last)
      (ap (λ (x : Group). length x.members) last ∙ length-map a.members (assigned now q.parts) ∙ length_left (sync_wait k g.phase)) where
        mine : (ns : List (List ℕ)) → Some ns ≡ parts_by q.member q.parts g → (gives q.member g ≡ true) × (ns ≡ parts_for q.parts g.members)
        mine ns is = by (gives q.member g) refl is where
          by : (b : Bool) → gives q.member g ≡ b → Some ns ≡ cond b (Some (parts_for q.parts g.members)) None → (gives q.member g ≡ true) × (ns ≡ parts_for q.parts g.members)
          by true e is = (e, same_Some ns (parts_for q.parts g.members) is)
          by false e is = absurd (none-some ns (sym is))

  -- ---- the bytes that are counted for it

  asked_bytes : (w : Wait) → sum_by member_bytes (asked w).members ≡ sum_by member_bytes g.members
  asked_bytes w =
      bytes_mapped (changes q.member (waits w)) (λ m. bytes_member (has_id q.member m) m (waits w m) refl) (map (changes q.member (called now)) g.members)
      ∙ bytes_mapped (changes q.member (called now)) (λ m. bytes_member (has_id q.member m) m (called now m) refl) g.members

  asked_parts : (w : Wait) → part_lengths (asked w).members ≡ part_lengths g.members
  asked_parts w =
      lengths_mapped (changes q.member (waits w)) (λ m. length_member (has_id q.member m) m (waits w m) refl) (map (changes q.member (called now)) g.members)
      ∙ lengths_mapped (changes q.member (called now)) (λ m. length_member (has_id q.member m) m (called now m) refl) g.members

  not_given : gives q.member g ≡ false → None ≡ parts_by q.member q.parts g
  not_given e = λ i. cond (sym e i) (Some (parts_for q.parts g.members)) None

  -- the bytes of what members had, and of what they get
  pub grown : (n : ℕ) (b : Bool) → gives q.member g ≡ b → group_bytes (sync now k q n g).group + cond b (part_lengths g.members) 0 ≡ group_bytes g + cond b (sum_by length (parts_for q.parts g.members)) 0
  grown n false e =
      let bytes : group_bytes (sync now k q n g).group ≡ group_bytes (asked (sync_wait k g.phase)) = ap (λ (m : Moved). group_bytes m.group) (sync_plain n (not_given e)) in
      omega (arith, bytes, asked_bytes (sync_wait k g.phase))
  grown n true e =
      let w : Wait = sync_wait k g.phase in
      let bytes : group_bytes (sync now k q n g).group ≡ group_bytes got = ap (λ (m : Moved). group_bytes m.group) (sync_gives n e) in
      let parts : sum_by length (parts_for q.parts (asked w).members) ≡ sum_by length (parts_for q.parts g.members) = ap (sum_by length) (parts_left w q.parts) in
      omega (arith, bytes, asked_bytes w, asked_parts w, parts, assigned_all now q.parts (asked w).members)

  -- nobody comes or goes
  pub as_many : (n : ℕ) → length (sync now k q n g).group.members ≡ length g.members
  as_many n = by (gives q.member g) refl where
    by : (b : Bool) → gives q.member g ≡ b → length (sync now k q n g).group.members ≡ length g.members
    by false e = ap (λ (m : Moved). length m.group.members) (sync_plain n (not_given e)) ∙ length_left (sync_wait k g.phase)
    by true e = ap (λ (m : Moved). length m.group.members) (sync_gives n e) ∙ length-map (asked (sync_wait k g.phase)).members (assigned now q.parts) ∙ length_left (sync_wait k g.phase)
