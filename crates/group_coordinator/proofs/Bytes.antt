-- What no move raises: the bytes that are counted for a group, and the number of its generation beyond the last one.
use Rattle.std.proofs.Common.{◌≡◌, ℕ, zero, suc, ◌+◌, ◌<◌, ◌≤◌, ◌==◌, Bool, true, false, cond, not, nat_lt, List, [], ◌∷◌, ◌++◌, map, length, get_or, set, slice_set, refl, sym, ap, subst, ◌∙◌, arith, append-nil, length-set}
use Rattle.std.specs.Prelude.{◌&&◌, ◌-◌}
use Rattle.std.specs.List.{AllByRecursion, filter, list_any, sum_by}
use Rattle.std.proofs.lemmas.List.Sums.{sum_by-cons, sum_by-append, sum_by-set}
use Rattle.group_coordinator.specs.declared.values.Phase.TheVariants.{Preparing, Completing}
use Rattle.group_coordinator.specs.declared.values.Settings.{Settings}
use Rattle.group_coordinator.specs.declared.values.TheConstants.{MOST_BYTES, MOST_GENERATION}
use Rattle.group_coordinator.specs.declared.values.Wait.TheVariants.{No}
use Rattle.group_coordinator.specs.declared.values.GroupError.TheVariants.{Rebalancing}
use Rattle.group_coordinator.specs.Members.{Member, beat, has_id, is_in, is_joining, is_ready, is_syncing, member_bytes, refusals_of}
use Rattle.group_coordinator.specs.Groups.{Group, Move, Moved, stays, and_then, is_preparing, joining_time, unsynced, prepare, drop_those, begun_member, next_leader, common_protocol, longest, begin_generation, if_any_left, complete, is_complete, settle, group_bytes}
use Rattle.group_coordinator.specs.Joining.{plainly, goes_with, unwaited, with_member, without_session, end_session, leave, waits}
use Rattle.group_coordinator.specs.Coordinators.{kept, sent, sent_group}
use Rattle.group_coordinator.specs.Times.{is_silent, expire_group}
use Rattle.group_coordinator.specs.Doing.{Noted, put_back, each, Does, DoesAt, DoesEach}
use Rattle.group_coordinator.specs.Keeping.{AreCounted, AreNumbered}
use Rattle.std.proofs.lemmas.List.{get_or-set_same}
use Rattle.group_coordinator.proofs.Keeping.{at_index}
use Rattle.group_coordinator.proofs.Lifting.{back_of_set}
use Rattle.group_coordinator.proofs.Places.{same_at}

-- A move by which no group gets bytes, or a generation that has too great a number.
pub record StaysWithin (a : Move) : Type 0 where
  pub bytes : (n : ℕ) (g : Group) → group_bytes (a n g).group ≤ group_bytes g
  pub last : (n : ℕ) (g : Group) → n ≤ MOST_GENERATION → (a n g).generations ≤ MOST_GENERATION
  pub number : (n : ℕ) (g : Group) → n ≤ MOST_GENERATION → g.generation ≤ MOST_GENERATION → (a n g).group.generation ≤ MOST_GENERATION

-- ---- members

pub bytes_mapped : (f : Member → Member) → ((m : Member) → member_bytes (f m) ≡ member_bytes m) → (ms : List Member) → sum_by member_bytes (map f ms) ≡ sum_by member_bytes ms
bytes_mapped f same [] = refl
bytes_mapped f same (m ∷ ms) = omega (arith, sum_by-cons member_bytes (f m) (map f ms), sum_by-cons member_bytes m ms, same m, bytes_mapped f same ms)

pub bytes_filtered : {X : Type 0} (f : X → ℕ) (t : X → Bool) (xs : List X) → sum_by f (filter t xs) ≤ sum_by f xs
bytes_filtered f t [] = omega arith
bytes_filtered f t (x ∷ xs) = by (t x) (bytes_filtered f t xs) where
  by : (b : Bool) → sum_by f (filter t xs) ≤ sum_by f xs → sum_by f (cond b (x ∷ filter t xs) (filter t xs)) ≤ sum_by f (x ∷ xs)
  by true r = omega (arith, sum_by-cons f x (filter t xs), sum_by-cons f x xs, r)
  by false r = omega (arith, sum_by-cons f x xs, r)

-- a member that changes under a condition
changed_bytes : (b : Bool) (m x : Member) → member_bytes x ≡ member_bytes m → member_bytes (cond b x m) ≡ member_bytes m
changed_bytes true m x same = same
changed_bytes false m x same = refl

unsynced_bytes : (now : ℕ) (m : Member) → member_bytes (unsynced now m) ≡ member_bytes m
unsynced_bytes now m = changed_bytes (is_syncing m.wait) m (record m { until = now + m.session; wait = No }) refl

unwaited_bytes : (now k : ℕ) (m : Member) → member_bytes (unwaited now k m) ≡ member_bytes m
unwaited_bytes now k m = changed_bytes (is_in k m.wait) m (record m { wait = No; until = cond (is_ready m.wait) m.until (now + m.session) }) refl

sent_bytes : (k : ℕ) (m : Member) → member_bytes (sent k m) ≡ member_bytes m
sent_bytes k m = changed_bytes (is_in k m.wait && is_ready m.wait) m (waits No m) refl

beaten_bytes : (now : ℕ) (id : List ℕ) (m : Member) → member_bytes (cond (has_id id m) (beat now m) m) ≡ member_bytes m
beaten_bytes now id m = changed_bytes (has_id id m) m (beat now m) refl

-- ---- moves

within_stays : StaysWithin stays
within_stays = record { bytes = λ n g. omega arith; last = λ n g low. low; number = λ n g low is. is }

pub within_then : (a b : Move) → StaysWithin a → StaysWithin b → StaysWithin (and_then a b)
within_then a b x y = record {
  bytes = λ n g. omega (arith, x.bytes n g, y.bytes (a n g).generations (a n g).group);
  last = λ n g low. y.last (a n g).generations (a n g).group (x.last n g low);
  number = λ n g low is. y.number (a n g).generations (a n g).group (x.last n g low) (x.number n g low is);
}

either : (P : Moved → Type 0) (b : Bool) (x y : Moved) → P x → P y → P (cond b x y)
either P true x y p q = p
either P false x y p q = q

-- one of two moves
within_either : (t : ℕ → Group → Bool) (a b : Move) → StaysWithin a → StaysWithin b → StaysWithin (λ n g. cond (t n g) (a n g) (b n g))
within_either t a b x y = record {
  bytes = λ n g. either (λ m. group_bytes m.group ≤ group_bytes g) (t n g) (a n g) (b n g) (x.bytes n g) (y.bytes n g);
  last = λ n g low. either (λ m. m.generations ≤ MOST_GENERATION) (t n g) (a n g) (b n g) (x.last n g low) (y.last n g low);
  number = λ n g low is. either (λ m. m.group.generation ≤ MOST_GENERATION) (t n g) (a n g) (b n g) (x.number n g low is) (y.number n g low is);
}

-- members go, whichever are meant of a group
within_drop : (t : Group → Member → Bool) → StaysWithin (λ n g. drop_those (t g) n g)
within_drop t = record {
  bytes = λ n g. omega (arith, bytes_filtered member_bytes (λ m. not (t g m)) g.members);
  last = λ n g low. low;
  number = λ n g low is. is;
}

abbrev anew : Settings → ℕ → Move
anew o now n g = record {
  group = record g { phase = Preparing (now + joining_time o g); members = map (unsynced now) g.members };
  generations = n;
  refusals = refusals_of Rebalancing (filter (λ m. is_syncing m.wait) g.members);
}

within_anew : (o : Settings) (now : ℕ) → StaysWithin (anew o now)
within_anew o now = record {
  bytes = λ n g. omega (arith, bytes_mapped (unsynced now) (unsynced_bytes now) g.members);
  last = λ n g low. low;
  number = λ n g low is. is;
}

pub within_prepare : (o : Settings) (now : ℕ) → StaysWithin (prepare o now)
within_prepare o now = within_either (λ n g. is_preparing g.phase) stays (anew o now) within_stays (within_anew o now)

abbrev begins : ℕ → Move
begins now n g = record {
  group = record g {
    generation = n + 1;
    phase = Completing (now + longest g.members);
    leader = next_leader g.leader g.members;
    protocol = common_protocol (next_leader g.leader g.members) g.members;
    members = map (begun_member now) g.members;
  };
  generations = n + 1;
  refusals = [];
}

within_begin : (now : ℕ) → StaysWithin (begin_generation now)
within_begin now = record {
  bytes = λ n g. either (λ m. group_bytes m.group ≤ group_bytes g) (nat_lt n MOST_GENERATION) (begins now n g) (drop_those (λ m. true) n g)
      (omega (arith, bytes_mapped (begun_member now) (λ m. refl) g.members)) (all.bytes n g);
  last = λ n g low. numbered (λ m. m.generations ≤ MOST_GENERATION) n g (λ e. grind (arith, e)) low;
  number = λ n g low is. numbered (λ m. m.group.generation ≤ MOST_GENERATION) n g (λ e. grind (arith, e)) is;
} where
  all : StaysWithin (λ n g. drop_those (λ m. true) n g)
  all = within_drop (λ g m. true)

  numbered : (P : Moved → Type 0) (n : ℕ) (g : Group) → (nat_lt n MOST_GENERATION ≡ true → P (begins now n g)) → P (drop_those (λ m. true) n g) → P (begin_generation now n g)
  numbered P n g p q = by (nat_lt n MOST_GENERATION) refl where
    by : (b : Bool) → nat_lt n MOST_GENERATION ≡ b → P (cond b (begins now n g) (drop_those (λ m. true) n g))
    by true e = p e
    by false e = q

within_left : (a : Move) → StaysWithin a → StaysWithin (if_any_left a)
within_left a x = within_either (λ n g. 0 == length g.members) stays a within_stays x

within_complete : (now : ℕ) → StaysWithin (complete now)
within_complete now =
    within_then (drop_those (λ m. not (is_joining m.wait))) (if_any_left (begin_generation now)) (within_drop (λ g m. not (is_joining m.wait))) (within_left (begin_generation now) (within_begin now))

pub within_settle : (now : ℕ) → StaysWithin (settle now)
within_settle now = within_either (λ n g. is_complete now g g.phase) (complete now) stays (within_complete now) within_stays

pub within_renew : (o : Settings) (now : ℕ) → StaysWithin (and_then (prepare o now) (settle now))
within_renew o now = within_then (prepare o now) (settle now) (within_prepare o now) (within_settle now)

pub within_leave : (o : Settings) (now : ℕ) (id : List ℕ) → StaysWithin (leave o now id)
within_leave o now id = within_then (drop_those (has_id id)) (and_then (prepare o now) (settle now)) (within_drop (λ g m. has_id id m)) (within_renew o now)

pub within_expire : (o : Settings) (now : ℕ) → StaysWithin (expire_group o now)
within_expire o now =
    within_either (λ n g. list_any (is_silent now g) g.members) (λ n g. and_then (drop_those (is_silent now g)) (and_then (prepare o now) (settle now)) n g) (settle now)
    (within_then (λ n g. drop_those (is_silent now g) n g) (and_then (prepare o now) (settle now)) (within_drop (is_silent now)) (within_renew o now)) (within_settle now)

within_without : (now k : ℕ) → StaysWithin (plainly (without_session now k))
within_without now k = record {
  bytes = λ n g. omega (
    arith,
    bytes_mapped (unwaited now k) (unwaited_bytes now k) (filter (λ m. not (goes_with k m)) g.members),
    bytes_filtered member_bytes (λ m. not (goes_with k m)) g.members,
  );
  last = λ n g low. low;
  number = λ n g low is. is;
}

pub within_end : (now k : ℕ) → StaysWithin (end_session now k)
within_end now k =
    within_either (λ n g. list_any (λ m. is_in k m.wait) g.members) (and_then (plainly (without_session now k)) (settle now)) stays
    (within_then (plainly (without_session now k)) (settle now) (within_without now k) (within_settle now)) within_stays

-- ---- each group

abbrev pub IsNumbered : Group → Type 0
IsNumbered g = g.generation ≤ MOST_GENERATION

each_bytes : (a : Move) → StaysWithin a → (n : ℕ) (gs : List Group) → sum_by group_bytes (each a n gs).groups ≤ sum_by group_bytes gs
each_bytes a x n [] = omega arith
each_bytes a x n (g ∷ gs) = omega (
  arith,
  sum_by-cons group_bytes (a n g).group (each a (a n g).generations gs).groups,
  sum_by-cons group_bytes g gs,
  x.bytes n g,
  each_bytes a x (a n g).generations gs,
)

each_last : (a : Move) → StaysWithin a → (n : ℕ) (gs : List Group) → n ≤ MOST_GENERATION → (each a n gs).generations ≤ MOST_GENERATION
each_last a x n [] low = low
each_last a x n (g ∷ gs) low = each_last a x (a n g).generations gs (x.last n g low)

each_numbered : (a : Move) → StaysWithin a → (n : ℕ) (gs : List Group) → n ≤ MOST_GENERATION → AllByRecursion IsNumbered gs → AllByRecursion IsNumbered (each a n gs).groups
each_numbered a x n [] low all = tt
each_numbered a x n (g ∷ gs) low all = (x.number n g low all.0, each_numbered a x (a n g).generations gs (x.last n g low) all.1)

all_filtered : (t : Group → Bool) (gs : List Group) → AllByRecursion IsNumbered gs → AllByRecursion IsNumbered (filter t gs)
all_filtered t [] all = tt
all_filtered t (g ∷ gs) all = by (t g) (all_filtered t gs all.1) where
  by : (b : Bool) → AllByRecursion IsNumbered (filter t gs) → AllByRecursion IsNumbered (cond b (g ∷ filter t gs) (filter t gs))
  by true r = (all.0, r)
  by false r = r

-- so many bytes are counted behind a move of each
pub bytes_all : (a : Move) (l k : Noted) (gs hs xs : List Group) (bytes : ℕ) → StaysWithin a → DoesEach a l k gs hs → xs ≡ filter (λ g. not (0 == length g.members)) hs → AreCounted bytes gs
    → sum_by group_bytes xs ≤ MOST_BYTES
bytes_all a l k gs hs xs bytes x d made counted =
    let made_bytes : sum_by group_bytes xs ≡ sum_by group_bytes (filter (λ g. not (0 == length g.members)) hs) = ap (sum_by group_bytes) made in
    let done_bytes : sum_by group_bytes hs ≡ sum_by group_bytes (each a l.generations gs).groups = ap (sum_by group_bytes) d.groups in
    omega (arith, made_bytes, bytes_filtered group_bytes (λ g. not (0 == length g.members)) hs, done_bytes, each_bytes a x l.generations gs, counted.0, counted.1)

pub numbered_all : (a : Move) (l k : Noted) (gs hs xs : List Group) → StaysWithin a → DoesEach a l k gs hs → xs ≡ filter (λ g. not (0 == length g.members)) hs → AreNumbered l.generations gs
    → AreNumbered k.generations xs
numbered_all a l k gs hs xs x d made numbered = (
  subst (λ (n : Noted). n.generations ≤ MOST_GENERATION) (sym d.noted) (each_last a x l.generations gs numbered.0),
  subst (AllByRecursion IsNumbered) (sym made)
      (all_filtered (λ g. not (0 == length g.members)) hs (subst (AllByRecursion IsNumbered) (sym d.groups) (each_numbered a x l.generations gs numbered.0 numbered.1))),
)

pub numbered_as : (last new : ℕ) (gs : List Group) → new ≡ last → AreNumbered last gs → AreNumbered new gs
numbered_as last new gs same numbered = (subst (λ (n : ℕ). n ≤ MOST_GENERATION) (sym same) numbered.0, numbered.1)

-- ---- one group

-- so many bytes are counted once one group is another one
pub bytes_back : (gs : List Group) (i : ℕ) (g h : Group) → i < length gs → g ≡ get_or gs i g → sum_by group_bytes (put_back gs i h) + group_bytes g ≡ sum_by group_bytes gs + sum_by group_bytes (kept h)
bytes_back [] i g h low at = absurd (omega (arith, low))
bytes_back (y ∷ ys) zero g h low at =
    let same : group_bytes g ≡ group_bytes y = ap group_bytes at in
    omega (arith, sum_by-append group_bytes (kept h) ys, sum_by-cons group_bytes y ys, same)
bytes_back (y ∷ ys) (suc i) g h low at = omega (arith, sum_by-cons group_bytes y (put_back ys i h), sum_by-cons group_bytes y ys, bytes_back ys i g h (omega (arith, low)) at)

pub bytes_at : (gs : List Group) (i : ℕ) (g : Group) → i < length gs → g ≡ get_or gs i g → group_bytes g ≤ sum_by group_bytes gs
bytes_at [] i g low at = absurd (omega (arith, low))
bytes_at (y ∷ ys) zero g low at =
    let same : group_bytes g ≡ group_bytes y = ap group_bytes at in
    omega (arith, sum_by-cons group_bytes y ys, same)
bytes_at (y ∷ ys) (suc i) g low at = omega (arith, sum_by-cons group_bytes y ys, bytes_at ys i g (omega (arith, low)) at)

kept_bytes : (h : Group) → sum_by group_bytes (kept h) ≤ group_bytes h
kept_bytes h = by (0 == length h.members) where
  by : (b : Bool) → sum_by group_bytes (cond b [] (h ∷ [])) ≤ group_bytes h
  by true = omega arith
  by false = omega (arith, sum_by-cons group_bytes h [])

pub counted_all : (a : Move) (l k : Noted) (gs hs xs : List Group) (old new : ℕ) → StaysWithin a → DoesEach a l k gs hs → xs ≡ filter (λ g. not (0 == length g.members)) hs → AreCounted old gs
    → new ≡ sum_by group_bytes xs → AreCounted new xs
counted_all a l k gs hs xs old new x d made counted is = (is, omega (arith, is, bytes_all a l k gs hs xs old x d made counted))

kept_numbered : (h : Group) (gs : List Group) → IsNumbered h → AllByRecursion IsNumbered gs → AllByRecursion IsNumbered (kept h ++ gs)
kept_numbered h gs one all = by (0 == length h.members) where
  by : (b : Bool) → AllByRecursion IsNumbered (cond b [] (h ∷ []) ++ gs)
  by true = all
  by false = (one, all)

put_numbered : (gs : List Group) (i : ℕ) (h : Group) → IsNumbered h → AllByRecursion IsNumbered gs → AllByRecursion IsNumbered (put_back gs i h)
put_numbered [] i h one all = subst (AllByRecursion IsNumbered) (append-nil (kept h)) (kept_numbered h [] one all)
put_numbered (y ∷ ys) zero h one all = kept_numbered h ys one all.1
put_numbered (y ∷ ys) (suc i) h one all = (all.0, put_numbered ys i h one all.1)

pub numbered_at : (gs : List Group) (i : ℕ) (g : Group) → i < length gs → g ≡ get_or gs i g → AllByRecursion IsNumbered gs → IsNumbered g
numbered_at [] i g low at all = absurd (omega (arith, low))
numbered_at (y ∷ ys) zero g low at all = subst IsNumbered (sym at) all.0
numbered_at (y ∷ ys) (suc i) g low at all = numbered_at ys i g (omega (arith, low)) at all.1

-- the bytes of the group at an index
pub at_most : (gs : List Group) (i : ℕ) (g : Group) (bytes : ℕ) → i < length gs → g ≡ get_or gs i g → AreCounted bytes gs → group_bytes g ≤ MOST_BYTES
at_most gs i g bytes low at counted = omega (arith, bytes_at gs i g low at, counted.0, counted.1)

-- What is so once the group at an index moved.
pub record Within (bytes before behind : ℕ) (gs : List Group) (last : ℕ) : Type 0 where
  pub less : before ≤ bytes
  pub count : AreCounted (bytes - before + behind) gs
  pub numbered : AreNumbered last gs

-- the group at an index behind its move
pub behind_at : (gs hs : List Group) (i : ℕ) (h : Group) → i < length gs → hs ≡ slice_set gs i h → h ≡ get_or hs i h
behind_at gs hs i h low made = sym ((λ j. get_or (made j) i h) ∙ get_or-set_same gs i h h low)

-- what is counted and numbered once the group at an index moved
pub moved_within : (a : Move) (l k : Noted) (vs hs gs : List Group) (i bytes before behind : ℕ) (p q : Group) → StaysWithin a → i < length vs → AreCounted bytes vs → AreNumbered l.generations vs → DoesAt a l k i vs hs
    → ((g : Group) → g ≡ get_or hs i g → gs ≡ put_back hs i g) → p ≡ get_or vs i p → before ≡ group_bytes p → q ≡ get_or hs i q → behind ≡ sum_by group_bytes (kept q)
    → Within bytes before behind gs k.generations
moved_within a l k vs hs gs i bytes before behind p q x low counted numbered does made here was there is = record {
  less = omega (arith, was, counted.0, bytes_at vs i p low here);
  count = count;
  numbered = numbered_behind;
} where
  d : (h : Group) × Does a l k p h × (hs ≡ slice_set vs i h)
  d = does p here

  same : q ≡ d.0
  same = same_at hs i q d.0 (omega (arith, low, ap length d.2, length-set vs i d.0)) there (behind_at vs hs i d.0 low d.2)

  back : gs ≡ put_back vs i d.0
  back = made d.0 (behind_at vs hs i d.0 low d.2) ∙ (λ j. put_back (d.2 j) i d.0) ∙ back_of_set vs i d.0

  smaller : group_bytes d.0 ≤ group_bytes p
  smaller = subst (λ (y : Group). group_bytes y ≤ group_bytes p) (sym d.1.group) (x.bytes l.generations p)

  kept_same : behind ≡ sum_by group_bytes (kept d.0)
  kept_same = is ∙ ap (λ (y : Group). sum_by group_bytes (kept y)) same

  total : sum_by group_bytes gs ≡ sum_by group_bytes (put_back vs i d.0)
  total = ap (sum_by group_bytes) back

  count : AreCounted (bytes - before + behind) gs
  count = (
    omega (arith, was, counted.0, kept_same, total, bytes_back vs i p d.0 low here, bytes_at vs i p low here),
    omega (arith, was, counted.0, counted.1, kept_same, kept_bytes d.0, smaller, bytes_at vs i p low here),
  )

  numbered_behind : AreNumbered k.generations gs
  numbered_behind = (
    subst (λ (n : Noted). n.generations ≤ MOST_GENERATION) (sym d.1.noted) (x.last l.generations p numbered.0),
    subst (AllByRecursion IsNumbered) (sym back)
        (put_numbered vs i d.0 (subst IsNumbered (sym d.1.group) (x.number l.generations p numbered.0 (numbered_at vs i p low here numbered.1))) numbered.1),
  )

-- the bytes of the group at an index, behind its move
pub behind_most : (a : Move) (l k : Noted) (vs hs : List Group) (i bytes : ℕ) (q : Group) → StaysWithin a → i < length vs → AreCounted bytes vs → DoesAt a l k i vs hs → q ≡ get_or hs i q → group_bytes q ≤ MOST_BYTES
behind_most a l k vs hs i bytes q x low counted does there =
    let at = at_index vs i low in
    let d = does at.0 at.1 in
    let same : q ≡ d.0 = same_at hs i q d.0 (omega (arith, low, ap length d.2, length-set vs i d.0)) there (behind_at vs hs i d.0 low d.2) in
    subst (λ (y : Group). group_bytes y ≤ MOST_BYTES) (sym same)
    (subst (λ (y : Group). group_bytes y ≤ MOST_BYTES) (sym d.1.group) (omega (arith, x.bytes l.generations at.0, at_most vs i at.0 bytes low at.1 counted)))

-- ---- moves that nobody counts

pub set_numbered : (gs : List Group) (i : ℕ) (h : Group) → IsNumbered h → AllByRecursion IsNumbered gs → AllByRecursion IsNumbered (set gs i h)
set_numbered [] i h one all = tt
set_numbered (y ∷ ys) zero h one all = (one, all.1)
set_numbered (y ∷ ys) (suc i) h one all = (all.0, set_numbered ys i h one all.1)

-- a group of which a member beats
pub beaten_within : (now : ℕ) (id : List ℕ) (gs hs : List Group) (i bytes last : ℕ) → i < length gs → ((g : Group) → g ≡ get_or gs i g → hs ≡ slice_set gs i (with_member id (beat now) g)) → AreCounted bytes gs → AreNumbered last gs
    → AreCounted bytes hs × AreNumbered last hs
beaten_within now id gs hs i bytes last low made counted numbered =
    let at = at_index gs i low in
    let h : Group = with_member id (beat now) at.0 in
    let same : sum_by member_bytes h.members ≡ sum_by member_bytes at.0.members = bytes_mapped (λ m. cond (has_id id m) (beat now m) m) (beaten_bytes now id) at.0.members in
    let here : group_bytes (get_or gs i at.0) ≡ group_bytes at.0 = ap group_bytes (sym at.1) in
    let total : sum_by group_bytes hs ≡ sum_by group_bytes (set gs i h) = ap (sum_by group_bytes) (made at.0 at.1) in (
      (omega (arith, counted.0, total, sum_by-set group_bytes gs i h at.0 low, same, here), counted.1),
      (numbered.0, subst (AllByRecursion IsNumbered) (sym (made at.0 at.1)) (set_numbered gs i h (numbered_at gs i at.0 low at.1 numbered.1) numbered.1)),
    )

sent_all_bytes : (k : ℕ) (gs : List Group) → sum_by group_bytes (map (sent_group k) gs) ≡ sum_by group_bytes gs
sent_all_bytes k [] = refl
sent_all_bytes k (g ∷ gs) = omega (
  arith,
  sum_by-cons group_bytes (sent_group k g) (map (sent_group k) gs),
  sum_by-cons group_bytes g gs,
  bytes_mapped (sent k) (sent_bytes k) g.members,
  sent_all_bytes k gs,
)

sent_numbered : (k : ℕ) (gs : List Group) → AllByRecursion IsNumbered gs → AllByRecursion IsNumbered (map (sent_group k) gs)
sent_numbered k [] all = tt
sent_numbered k (g ∷ gs) all = (all.0, sent_numbered k gs all.1)

pub sent_within : (k : ℕ) (gs hs : List Group) (bytes last : ℕ) → hs ≡ map (sent_group k) gs → AreCounted bytes gs → AreNumbered last gs → AreCounted bytes hs × AreNumbered last hs
sent_within k gs hs bytes last made counted numbered =
    let total : sum_by group_bytes hs ≡ sum_by group_bytes (map (sent_group k) gs) = ap (sum_by group_bytes) made in (
      (omega (arith, counted.0, total, sent_all_bytes k gs), counted.1),
      (numbered.0, subst (AllByRecursion IsNumbered) (sym made) (sent_numbered k gs numbered.1)),
    )
