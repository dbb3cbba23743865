-- A move of one group among all, and of each group.
use Rattle.std.proofs.Common.{◌≡◌, ℕ, zero, suc, ◌+◌, ◌<◌, ◌≤◌, ◌==◌, Bool, true, false, cond, not, nat_lt, List, [], ◌∷◌, ◌++◌, map, take, drop, length, get_or, set, slice_set, refl, sym, ap, subst, ◌∙◌, arith, append_assoc, append-nil, length-append, length-set, drop_of_length-le}
use Rattle.std.specs.Prelude.{Some, None}
use Rattle.std.specs.List.{AllByRecursion, filter, position, position_or_len}
use Rattle.std.specs.Str.{bytes_eq}
use Rattle.std.proofs.lemmas.List.{get_or-set_same, drop_more, take_more, take_more_set, drop-set-lt, take-append-drop}
use Rattle.std.proofs.lemmas.Option.{none-some, same_Some}
use Rattle.std.proofs.lemmas.Slice.Eq.{bytes_eq-Decides}
use Rattle.group_coordinator.specs.declared.values.Refusal.{Refusal}
use Rattle.group_coordinator.specs.Groups.{Group, Move, stays}
use Rattle.group_coordinator.specs.Coordinators.{Groups, AllMoved, is_for, is_named, kept, move_each, move_all, move_one, only}
use Rattle.group_coordinator.specs.Keeping.{AreApart, ArePeopled}
use Rattle.group_coordinator.specs.Doing.{Noted, refusing, numbering, HasRoom, pending_of, pending_in, put_back, each, Does, DoesAt, DoesEach}
use Rattle.group_coordinator.proofs.Places.{not_found, same_at}
use Rattle.group_coordinator.proofs.Keeping.{at_index, Leaves, all_stay, none_named, kept_some}

-- ---- one group

-- What a move of one group leaves.
pub record LeavesOne (a : Move) (n : ℕ) (name : List ℕ) (gs hs : List Group) (g : Group) : Type 0 where
  pub groups : (move_each (only name a) n gs).groups ≡ hs
  pub generations : (move_each (only name a) n gs).generations ≡ (a n g).generations
  pub refusals : (move_each (only name a) n gs).refusals ≡ (a n g).refusals

-- the group of this name stands first
pub one_first : (name : List ℕ) (a : Move) (n : ℕ) (g : Group) (gs : List Group) → is_named name g ≡ true → AreApart (g ∷ gs) → ArePeopled gs → LeavesOne a n name (g ∷ gs) (kept (a n g).group ++ gs) g
one_first name a n g gs e apart some = record {
  groups = (λ i. kept (moved i).group ++ (move_each (only name a) (moved i).generations gs).groups) ∙ (λ i. kept (a n g).group ++ rest.groups i);
  generations = (λ i. (move_each (only name a) (moved i).generations gs).generations) ∙ rest.generations;
  refusals = (λ i. (moved i).refusals ++ (move_each (only name a) (moved i).generations gs).refusals) ∙ (λ i. (a n g).refusals ++ rest.refusals i) ∙ append-nil (a n g).refusals;
} where
  moved : only name a n g ≡ a n g
  moved = λ i. cond (e i) (a n g) (stays n g)

  others : AllByRecursion (λ h. is_named name h ≡ false) gs
  others = subst (λ (x : List ℕ). AllByRecursion (λ h. is_named x h ≡ false) gs) ((bytes_eq-Decides g.name name).0 e) apart.0

  rest : Leaves (only name a) (a n g).generations gs gs
  rest = all_stay name a (a n g).generations gs others some

-- another one stands in front
pub one_later : (name : List ℕ) (a : Move) (n : ℕ) (h g : Group) (gs hs : List Group) → is_named name h ≡ false → nat_lt 0 (length h.members) ≡ true → LeavesOne a n name gs hs g
    → LeavesOne a n name (h ∷ gs) (h ∷ hs) g
one_later name a n h g gs hs e some r = record {
  groups = (λ i. kept (moved i).group ++ (move_each (only name a) (moved i).generations gs).groups) ∙ (λ i. kept_some h some i ++ r.groups i);
  generations = (λ i. (move_each (only name a) (moved i).generations gs).generations) ∙ r.generations;
  refusals = (λ i. (moved i).refusals ++ (move_each (only name a) (moved i).generations gs).refusals) ∙ r.refusals;
} where
  moved : only name a n h ≡ stays n h
  moved = λ i. cond (e i) (a n h) (stays n h)

pub one_at : (name : List ℕ) (a : Move) (n : ℕ) (gs : List Group) (g : Group) → AreApart gs → ArePeopled gs → nat_lt (position_or_len (is_named name) gs) (length gs) ≡ true
    → g ≡ get_or gs (position_or_len (is_named name) gs) g → LeavesOne a n name gs (put_back gs (position_or_len (is_named name) gs) (a n g).group) g
one_at name a n [] g apart some e is = absurd (grind (arith, e))
one_at name a n (h ∷ gs) g apart some e is = by (is_named name h) refl e is (one_at name a n gs g apart.1 some.1) where
  p : ℕ
  p = position_or_len (is_named name) gs

  by : (b : Bool) → is_named name h ≡ b → nat_lt (cond (not b) (1 + p) 0) (length (h ∷ gs)) ≡ true → g ≡ get_or (h ∷ gs) (cond (not b) (1 + p) 0) g
      → (nat_lt p (length gs) ≡ true → g ≡ get_or gs p g → LeavesOne a n name gs (put_back gs p (a n g).group) g)
      → LeavesOne a n name (h ∷ gs) (put_back (h ∷ gs) (cond (not b) (1 + p) 0) (a n g).group) g
  by true f e is r = subst (λ (x : Group). LeavesOne a n name (h ∷ gs) (kept (a n x).group ++ gs) x) (sym is) (one_first name a n h gs f apart some.1)
  by false f e is r =
      let next : suc p ≡ 1 + p = omega arith in
      subst (λ (k : ℕ). LeavesOne a n name (h ∷ gs) (put_back (h ∷ gs) k (a n g).group) g) next
      (one_later name a n h g gs (put_back gs p (a n g).group) f some.0 (r (grind (arith, e)) (is ∙ (λ j. get_or (h ∷ gs) (sym next j) g))))

-- the group of this name, which stands at an index, moves
pub moved_one : (name : List ℕ) (a : Move) (v : Groups) (l k : Noted) (gs : List Group) (i : ℕ) (g h : Group) → AreApart v.groups → ArePeopled v.groups
    → position (is_named name) v.groups ≡ Some i → g ≡ get_or v.groups i g → l.generations ≡ v.generations → l.refusals ≡ v.refused → Does a l k g h → gs ≡ put_back v.groups i h
    → (record v { groups = gs; generations = k.generations; refused = k.refusals }) ≡ move_one name a v
moved_one name a v l k gs i g h apart some e at numbers refused d made = by (nat_lt (position_or_len (is_named name) v.groups) (length v.groups)) refl e where
  n : ℕ
  n = v.generations

  by : (b : Bool) → nat_lt (position_or_len (is_named name) v.groups) (length v.groups) ≡ b → cond b (Some (position_or_len (is_named name) v.groups)) None ≡ Some i
      → (record v { groups = gs; generations = k.generations; refused = k.refusals }) ≡ move_one name a v
  by false f e = absurd (none-some i e)
  by true f e =
      let place = same_Some (position_or_len (is_named name) v.groups) i e in
      let there : g ≡ get_or v.groups (position_or_len (is_named name) v.groups) g = at ∙ (λ j. get_or v.groups (sym place j) g) in
      let all = one_at name a n v.groups g apart some f there in
      let groups : gs ≡ (move_each (only name a) n v.groups).groups =
      made ∙ (λ j. put_back v.groups (sym place j) (d.group j)) ∙ (λ j. put_back v.groups (position_or_len (is_named name) v.groups) (a (numbers j) g).group) ∙ sym all.groups in
      let generations : k.generations ≡ (move_each (only name a) n v.groups).generations =
      ap (λ (x : Noted). x.generations) d.noted ∙ (λ j. (a (numbers j) g).generations) ∙ sym all.generations in
      let refusals : k.refusals ≡ v.refused ++ (move_each (only name a) n v.groups).refusals =
      ap (λ (x : Noted). x.refusals) d.noted ∙ (λ j. refused j ++ (a (numbers j) g).refusals) ∙ (λ j. v.refused ++ sym all.refusals j) in
      λ j. record v { groups = groups j; generations = generations j; refused = refusals j }

-- no group has this name
pub moved_none : (name : List ℕ) (a : Move) (v : Groups) → ArePeopled v.groups → position (is_named name) v.groups ≡ None → v ≡ move_one name a v
moved_none name a v some e =
    let l = all_stay name a v.generations v.groups (none_named name v.groups (not_found (is_named name) v.groups e)) some in
    λ i. record v {
      groups = sym l.groups i;
      generations = sym l.generations i;
      refused = (sym (append-nil v.refused) ∙ ap (λ (rs : List Refusal). v.refused ++ rs) (sym l.refusals)) i;
    }

-- ---- what is kept stays so

pub all_more : (P : Group → Type 0) (gs hs : List Group) → AllByRecursion P gs → AllByRecursion P hs → AllByRecursion P (gs ++ hs)
all_more P [] hs a b = b
all_more P (g ∷ gs) hs a b = (a.0, all_more P gs hs a.1 b)

all_kept : (P : Group → Type 0) (h : Group) → (nat_lt 0 (length h.members) ≡ true → P h) → AllByRecursion P (kept h)
all_kept P h p = by (0 == length h.members) refl where
  by : (b : Bool) → (0 == length h.members) ≡ b → AllByRecursion P (cond b [] (h ∷ []))
  by true e = tt
  by false e = (p (grind (arith, e)), tt)

all_back : (P : Group → Type 0) (gs : List Group) (i : ℕ) (h : Group) → (nat_lt 0 (length h.members) ≡ true → P h) → AllByRecursion P gs → AllByRecursion P (put_back gs i h)
all_back P [] i h p all = all_kept P h p
all_back P (g ∷ gs) zero h p all = all_more P (kept h) gs (all_kept P h p) all.1
all_back P (g ∷ gs) (suc i) h p all = (all.0, all_back P gs i h p all.1)

pub peopled_back : (gs : List Group) (i : ℕ) (h : Group) → ArePeopled gs → ArePeopled (put_back gs i h)
peopled_back gs i h some = all_back (λ g. nat_lt 0 (length g.members) ≡ true) gs i h (λ e. e) some

apart_kept : (h : Group) (gs : List Group) → AllByRecursion (λ y. is_named h.name y ≡ false) gs → AreApart gs → AreApart (kept h ++ gs)
apart_kept h gs others apart = by (0 == length h.members) where
  by : (b : Bool) → AreApart (cond b [] (h ∷ []) ++ gs)
  by true = apart
  by false = (others, apart)

pub apart_back : (gs : List Group) (i : ℕ) (g h : Group) → i < length gs → g ≡ get_or gs i g → h.name ≡ g.name → AreApart gs → AreApart (put_back gs i h)
apart_back [] i g h low at is apart = absurd (omega (arith, low))
apart_back (y ∷ ys) zero g h low at is apart =
    apart_kept h ys (subst (λ (n : List ℕ). AllByRecursion (λ z. is_named n z ≡ false) ys) (sym (is ∙ ap (λ (z : Group). z.name) at)) apart.0) apart.1
apart_back (y ∷ ys) (suc i) g h low at is apart = (others ys i (omega (arith, low)) at apart.0, apart_back ys i g h (omega (arith, low)) at is apart.1) where
  others : (zs : List Group) (i : ℕ) → i < length zs → g ≡ get_or zs i g → AllByRecursion (λ z. is_named y.name z ≡ false) zs → AllByRecursion (λ z. is_named y.name z ≡ false) (put_back zs i h)
  others zs i low at all = all_back (λ z. is_named y.name z ≡ false) zs i h (λ e. same zs i low at all) all where
    same : (zs : List Group) (i : ℕ) → i < length zs → g ≡ get_or zs i g → AllByRecursion (λ z. is_named y.name z ≡ false) zs → is_named y.name h ≡ false
    same [] i low at all = absurd (omega (arith, low))
    same (z ∷ zs) zero low at all = subst (λ (n : List ℕ). bytes_eq n y.name ≡ false) (sym (is ∙ ap (λ (x : Group). x.name) at)) all.0
    same (z ∷ zs) (suc i) low at all = same zs i (omega (arith, low)) at all.1

pending_more : (gs hs : List Group) → pending_in (gs ++ hs) ≡ pending_in gs + pending_in hs
pending_more [] hs = omega arith
pending_more (g ∷ gs) hs = omega (arith, pending_more gs hs)

pending_kept : (h : Group) → pending_in (kept h) ≤ pending_of h.members
pending_kept h = by (0 == length h.members) where
  by : (b : Bool) → pending_in (cond b [] (h ∷ [])) ≤ pending_of h.members
  by true = omega arith
  by false = omega arith

-- so many wait in all groups but one
pending_parts : (gs : List Group) (i : ℕ) (g : Group) → i < length gs → g ≡ get_or gs i g → pending_in gs ≡ pending_in (take i gs) + (pending_of g.members + pending_in (drop (i + 1) gs))
pending_parts gs i g low at =
    let parts : gs ≡ take i gs ++ (g ∷ drop (i + 1) gs) =
    sym (take-append-drop i gs) ∙ (λ j. take i gs ++ drop_more gs i g low j) ∙ (λ j. take i gs ++ (sym at j ∷ drop (i + 1) gs)) in
    ap pending_in parts ∙ pending_more (take i gs) (g ∷ drop (i + 1) gs)

pending_back : (gs : List Group) (i : ℕ) (g h : Group) → i < length gs → g ≡ get_or gs i g → pending_in (put_back gs i h) + pending_of g.members ≤ pending_in gs + pending_of h.members
pending_back [] i g h low at = absurd (omega (arith, low))
pending_back (y ∷ ys) zero g h low at = omega (arith, pending_more (kept h) ys, pending_kept h, ap (λ (z : Group). pending_of z.members) at)
pending_back (y ∷ ys) (suc i) g h low at = omega (arith, pending_back ys i g h (omega (arith, low)) at)

-- the room for a move of one group
pub room_of_one : (l : Noted) (gs : List Group) (i : ℕ) (g : Group) → i < length gs → g ≡ get_or gs i g → HasRoom l (pending_in gs) → HasRoom l (pending_of (get_or gs i g).members)
room_of_one l gs i g low at room = subst (λ (x : Group). HasRoom l (pending_of x.members)) at (omega (arith, room, pending_parts gs i g low at))

pub room_back : (a : Move) (l k : Noted) (gs : List Group) (i : ℕ) (g h : Group) → i < length gs → g ≡ get_or gs i g → Does a l k g h → HasRoom l (pending_in gs) → HasRoom k (pending_in (put_back gs i h))
room_back a l k gs i g h low at d room =
    subst (λ (n : Noted). HasRoom n (pending_in (put_back gs i h))) (sym d.noted)
    (omega (arith, room, d.room, pending_back gs i g h low at, length-append l.refusals (a l.generations g).refusals))

-- a group that was changed where it stands, and stays if it has members
pub back_of_set : (gs : List Group) (i : ℕ) (h : Group) → put_back (set gs i h) i h ≡ put_back gs i h
back_of_set [] i h = refl
back_of_set (g ∷ gs) zero h = refl
back_of_set (g ∷ gs) (suc i) h = λ j. g ∷ back_of_set gs i h j

pub back_dropped : (gs : List Group) (i : ℕ) (g : Group) → i < length gs → (0 == length g.members) ≡ true → take i gs ++ drop (i + 1) gs ≡ put_back gs i g
back_dropped [] i g low e = absurd (omega (arith, low))
back_dropped (y ∷ ys) zero g low e = λ j. cond (sym e j) [] (g ∷ []) ++ ys
back_dropped (y ∷ ys) (suc i) g low e = (λ j. y ∷ (take i ys ++ drop (more j) (y ∷ ys))) ∙ (λ j. y ∷ back_dropped ys i g (omega (arith, low)) e j) where
  more : suc i + 1 ≡ suc (i + 1)
  more = omega arith

pub back_kept : (gs : List Group) (i : ℕ) (g : Group) → i < length gs → g ≡ get_or gs i g → (0 == length g.members) ≡ false → gs ≡ put_back gs i g
back_kept [] i g low at e = absurd (omega (arith, low))
back_kept (y ∷ ys) zero g low at e = (λ j. sym at j ∷ ys) ∙ (λ j. cond (sym e j) [] (g ∷ []) ++ ys)
back_kept (y ∷ ys) (suc i) g low at e = λ j. y ∷ back_kept ys i g (omega (arith, low)) at e j

-- ---- each group

each_more : (a : Move) (n : ℕ) (gs : List Group) (g : Group) → (each a n (gs ++ g ∷ [])).groups ≡ (each a n gs).groups ++ (a (each a n gs).generations g).group ∷ []
each_more a n [] g = refl
each_more a n (h ∷ gs) g = λ i. (a n h).group ∷ each_more a (a n h).generations gs g i

each_numbers : (a : Move) (n : ℕ) (gs : List Group) (g : Group) → (each a n (gs ++ g ∷ [])).generations ≡ (a (each a n gs).generations g).generations
each_numbers a n [] g = refl
each_numbers a n (h ∷ gs) g = each_numbers a (a n h).generations gs g

each_refusals : (a : Move) (n : ℕ) (gs : List Group) (g : Group) → (each a n (gs ++ g ∷ [])).refusals ≡ (each a n gs).refusals ++ (a (each a n gs).generations g).refusals
each_refusals a n [] g = append-nil (a n g).refusals
each_refusals a n (h ∷ gs) g = (λ i. (a n h).refusals ++ each_refusals a (a n h).generations gs g i) ∙ sym (append_assoc (a n h).refusals _ _)

map_more : {X Y : Type 0} (f : X → Y) (xs ys : List X) → map f (xs ++ ys) ≡ map f xs ++ map f ys
map_more f [] ys = refl
map_more f (x ∷ xs) ys = λ i. f x ∷ map_more f xs ys i

pub each_none : (a : Move) (l : Noted) → DoesEach a l l [] []
each_none a l = record { groups = refl; noted = λ i. record l { refusals = sym (append-nil l.refusals) i }; room = omega arith; names = refl }

-- one group more
each_one : (a : Move) (l k j : Noted) (gs hs : List Group) (g h : Group) → DoesEach a l k gs hs → Does a k j g h → DoesEach a l j (gs ++ g ∷ []) (hs ++ h ∷ [])
each_one a l k j gs hs g h x y = record { groups = groups; noted = noted; room = room; names = names } where
  m : AllMoved
  m = each a l.generations gs

  numbers : k.generations ≡ m.generations
  numbers = ap (λ (n : Noted). n.generations) x.noted

  groups : hs ++ h ∷ [] ≡ (each a l.generations (gs ++ g ∷ [])).groups
  groups = (λ i. x.groups i ++ (y.group i) ∷ []) ∙ (λ i. m.groups ++ (a (numbers i) g).group ∷ []) ∙ sym (each_more a l.generations gs g)

  noted : j ≡ refusing (numbering l (each a l.generations (gs ++ g ∷ [])).generations) (each a l.generations (gs ++ g ∷ [])).refusals
  noted = y.noted ∙ (λ i. refusing (numbering (x.noted i) (a (x.noted i).generations g).generations) (a (x.noted i).generations g).refusals)
      ∙ (λ i. record l { generations = sym (each_numbers a l.generations gs g) i; refusals = (append_assoc l.refusals m.refusals (a m.generations g).refusals ∙ ap (λ rs. l.refusals ++ rs) (sym (each_refusals a l.generations gs g))) i })

  here : length (a m.generations g).refusals + pending_of h.members ≤ pending_of g.members
  here = subst (λ (n : ℕ). length (a n g).refusals + pending_of h.members ≤ pending_of g.members) numbers y.room

  room : length (each a l.generations (gs ++ g ∷ [])).refusals + pending_in (hs ++ h ∷ []) ≤ pending_in (gs ++ g ∷ [])
  room = omega (arith, here, x.room, ap length (each_refusals a l.generations gs g), length-append m.refusals (a m.generations g).refusals, pending_more hs (h ∷ []), pending_more gs (g ∷ []))

  names : map (λ (z : Group). z.name) (hs ++ h ∷ []) ≡ map (λ (z : Group). z.name) (gs ++ g ∷ [])
  names = map_more (λ (z : Group). z.name) hs (h ∷ []) ∙ (λ i. x.names i ++ y.name i ∷ []) ∙ sym (map_more (λ (z : Group). z.name) gs (g ∷ []))

-- What is so at an index: those in front moved, and those behind it stay.
pub record UpTo (a : Move) (l k : Noted) (i : ℕ) (gs hs : List Group) : Type 0 where
  pub front : DoesEach a l k (take i gs) (take i hs)
  pub back : drop i hs ≡ drop i gs
  pub room : HasRoom k (pending_in hs)

pub up_to_first : (a : Move) (l : Noted) (gs : List Group) → HasRoom l (pending_in gs) → UpTo a l l 0 gs gs
up_to_first a l gs room = record { front = each_none a l; back = refl; room = room }

-- the group at the index
pub same_group : (gs hs : List Group) (i : ℕ) (g : Group) → i < length hs → g ≡ get_or hs i g → drop i hs ≡ drop i gs → (i < length gs) × (g ≡ get_or gs i g)
same_group [] [] i g low at e = absurd (omega (arith, low))
same_group [] (y ∷ ys) zero g low at e = absurd (omega (arith, ap length e))
same_group [] (y ∷ ys) (suc i) g low at e = absurd (none_there ys i (omega (arith, low)) e) where
  none_there : (zs : List Group) (i : ℕ) → i < length zs → drop i zs ≡ [] → ⊥
  none_there [] i low e = omega (arith, low)
  none_there (z ∷ zs) zero low e = omega (arith, ap length e)
  none_there (z ∷ zs) (suc i) low e = none_there zs i (omega (arith, low)) e
same_group (x ∷ xs) [] i g low at e = absurd (omega (arith, low))
same_group (x ∷ xs) (y ∷ ys) zero g low at e = (omega arith, at ∙ ap (λ (zs : List Group). get_or zs 0 y) e)
same_group (x ∷ xs) (y ∷ ys) (suc i) g low at e = let r = same_group xs ys i g (omega (arith, low)) at e in (omega (arith, r.0), r.1)

pub up_to_more : (a : Move) (l k j : Noted) (i : ℕ) (gs hs : List Group) (g h : Group) → i < length hs → g ≡ get_or hs i g → UpTo a l k i gs hs → Does a k j (get_or hs i g) h → UpTo a l j (i + 1) gs (set hs i h)
up_to_more a l k j i gs hs g h low at u does = record { front = front; back = back; room = room } where
  d : Does a k j g h
  d = subst (λ (x : Group). Does a k j x h) (sym at) does

  there : (i < length gs) × (g ≡ get_or gs i g)
  there = same_group gs hs i g low at u.back

  first : take (i + 1) gs ≡ take i gs ++ g ∷ []
  first = take_more gs i g there.0 ∙ (λ p. take i gs ++ sym there.1 p ∷ [])

  front : DoesEach a l j (take (i + 1) gs) (take (i + 1) (set hs i h))
  front = subst (λ (xs : List Group). DoesEach a l j xs (take (i + 1) (set hs i h))) (sym first)
      (subst (λ (ys : List Group). DoesEach a l j (take i gs ++ g ∷ []) ys) (sym (take_more_set hs i h low)) (each_one a l k j (take i gs) (take i hs) g h u.front d))

  tail : drop (i + 1) hs ≡ drop (i + 1) gs
  tail = ap (drop 1) (sym (drop_more hs i g low) ∙ u.back ∙ drop_more gs i g there.0)

  back : drop (i + 1) (set hs i h) ≡ drop (i + 1) gs
  back = drop-set-lt (i + 1) hs i h (omega arith) ∙ tail

  parts : pending_in (set hs i h) ≡ pending_in (take i hs) + (pending_of h.members + pending_in (drop (i + 1) hs))
  parts = ap pending_in (sym (take-append-drop (i + 1) (set hs i h)) ∙ (λ p. take_more_set hs i h low p ++ drop-set-lt (i + 1) hs i h (omega arith) p))
      ∙ pending_more (take i hs ++ h ∷ []) (drop (i + 1) hs) ∙ omega (arith, pending_more (take i hs) (h ∷ []))

  room : HasRoom j (pending_in (set hs i h))
  room = subst (λ (n : Noted). HasRoom n (pending_in (set hs i h))) (sym d.noted)
      (omega (arith, parts, u.room, d.room, pending_parts hs i g low at, length-append k.refusals (a k.generations g).refusals))

-- all were moved
pub up_to_last : (a : Move) (l k : Noted) (i : ℕ) (gs hs : List Group) → length hs ≤ i → UpTo a l k i gs hs → DoesEach a l k gs hs
up_to_last a l k i gs hs low u =
    subst (λ (xs : List Group). DoesEach a l k xs hs) all
    (subst (λ (ys : List Group). DoesEach a l k (take i gs) ys) mine u.front) where
      none : drop i hs ≡ []
      none = drop_of_length-le hs low

      mine : take i hs ≡ hs
      mine = sym (append-nil (take i hs)) ∙ (λ p. take i hs ++ sym none p) ∙ take-append-drop i hs

      all : take i gs ≡ gs
      all = sym (append-nil (take i gs)) ∙ (λ p. take i gs ++ sym (sym u.back ∙ none) p) ∙ take-append-drop i gs

-- ---- those without members go

abbrev has_some : Group → Bool
has_some g = not (0 == length g.members)

some_kept : (g : Group) (gs : List Group) → filter has_some (g ∷ gs) ≡ kept g ++ filter has_some gs
some_kept g gs = by (0 == length g.members) where
  by : (b : Bool) → cond (not b) (g ∷ filter has_some gs) (filter has_some gs) ≡ cond b [] (g ∷ []) ++ filter has_some gs
  by true = refl
  by false = refl

each_kept : (a : Move) (n : ℕ) (gs : List Group) → filter has_some (each a n gs).groups ≡ (move_each a n gs).groups
each_kept a n [] = refl
each_kept a n (g ∷ gs) = some_kept (a n g).group (each a (a n g).generations gs).groups ∙ (λ i. kept (a n g).group ++ each_kept a (a n g).generations gs i)

each_same_numbers : (a : Move) (n : ℕ) (gs : List Group) → (each a n gs).generations ≡ (move_each a n gs).generations
each_same_numbers a n [] = refl
each_same_numbers a n (g ∷ gs) = each_same_numbers a (a n g).generations gs

each_same_refusals : (a : Move) (n : ℕ) (gs : List Group) → (each a n gs).refusals ≡ (move_each a n gs).refusals
each_same_refusals a n [] = refl
each_same_refusals a n (g ∷ gs) = λ i. (a n g).refusals ++ each_same_refusals a (a n g).generations gs i

-- each group moved, and those without members went
pub moved_all : (a : Move) (v : Groups) (l k : Noted) (hs gs : List Group) → l.generations ≡ v.generations → l.refusals ≡ v.refused → DoesEach a l k v.groups hs → gs ≡ filter (λ g. not (0 == length g.members)) hs
    → (record v { groups = gs; generations = k.generations; refused = k.refusals }) ≡ move_all a v
moved_all a v l k hs gs numbers refused d made = λ i. record v { groups = groups i; generations = generations i; refused = refusals i } where
  groups : gs ≡ (move_each a v.generations v.groups).groups
  groups = made ∙ (λ i. filter has_some (d.groups i)) ∙ (λ i. filter has_some (each a (numbers i) v.groups).groups) ∙ each_kept a v.generations v.groups

  generations : k.generations ≡ (move_each a v.generations v.groups).generations
  generations = ap (λ (n : Noted). n.generations) d.noted ∙ (λ i. (each a (numbers i) v.groups).generations) ∙ each_same_numbers a v.generations v.groups

  refusals : k.refusals ≡ v.refused ++ (move_each a v.generations v.groups).refusals
  refusals = ap (λ (n : Noted). n.refusals) d.noted ∙ (λ i. refused i ++ (each a (numbers i) v.groups).refusals) ∙ (λ i. v.refused ++ each_same_refusals a v.generations v.groups i)

-- ---- what is kept stays so

all_filter : (P : Group → Type 0) (t : Group → Bool) (gs : List Group) → AllByRecursion P gs → AllByRecursion P (filter t gs)
all_filter P t [] all = tt
all_filter P t (g ∷ gs) all = by (t g) (all_filter P t gs all.1) where
  by : (b : Bool) → AllByRecursion P (filter t gs) → AllByRecursion P (cond b (g ∷ filter t gs) (filter t gs))
  by true r = (all.0, r)
  by false r = r

apart_filter : (t : Group → Bool) (gs : List Group) → AreApart gs → AreApart (filter t gs)
apart_filter t [] apart = tt
apart_filter t (g ∷ gs) apart = by (t g) (apart_filter t gs apart.1) where
  by : (b : Bool) → AreApart (filter t gs) → AreApart (cond b (g ∷ filter t gs) (filter t gs))
  by true r = (all_filter (λ h. is_named g.name h ≡ false) t gs apart.0, r)
  by false r = r

others_named : (x y : List ℕ) (gs hs : List Group) → y ≡ x → map (λ g. g.name) hs ≡ map (λ g. g.name) gs → AllByRecursion (λ h. is_named x h ≡ false) gs → AllByRecursion (λ h. is_named y h ≡ false) hs
others_named x y gs [] same names all = tt
others_named x y [] (h ∷ hs) same names all = absurd (omega (arith, ap length names))
others_named x y (g ∷ gs) (h ∷ hs) same names all =
    ((λ i. bytes_eq (get_or (names i) 0 h.name) (same i)) ∙ all.0, others_named x y gs hs same (ap (drop 1) names) all.1)

pub apart_named : (gs hs : List Group) → map (λ g. g.name) hs ≡ map (λ g. g.name) gs → AreApart gs → AreApart hs
apart_named gs [] names apart = tt
apart_named [] (h ∷ hs) names apart = absurd (omega (arith, ap length names))
apart_named (g ∷ gs) (h ∷ hs) names apart =
    (others_named g.name h.name gs hs (λ i. get_or (names i) 0 h.name) (ap (drop 1) names) apart.0, apart_named gs hs (ap (drop 1) names) apart.1)

pub apart_all : (a : Move) (l k : Noted) (gs hs xs : List Group) → DoesEach a l k gs hs → xs ≡ filter (λ g. not (0 == length g.members)) hs → AreApart gs → AreApart xs
apart_all a l k gs hs xs d made apart = subst AreApart (sym made) (apart_filter has_some hs (apart_named gs hs d.names apart))

some_left : (hs : List Group) → ArePeopled (filter has_some hs)
some_left [] = tt
some_left (h ∷ hs) = by (0 == length h.members) refl (some_left hs) where
  by : (b : Bool) → (0 == length h.members) ≡ b → ArePeopled (filter has_some hs) → ArePeopled (cond (not b) (h ∷ filter has_some hs) (filter has_some hs))
  by true e r = r
  by false e r = (grind (arith, e), r)

pub peopled_all : (hs xs : List Group) → xs ≡ filter (λ g. not (0 == length g.members)) hs → ArePeopled xs
peopled_all hs xs made = subst ArePeopled (sym made) (some_left hs)

pending_left : (hs : List Group) → pending_in (filter has_some hs) ≤ pending_in hs
pending_left [] = omega arith
pending_left (h ∷ hs) = by (has_some h) (pending_left hs) where
  by : (b : Bool) → pending_in (filter has_some hs) ≤ pending_in hs → pending_in (cond b (h ∷ filter has_some hs) (filter has_some hs)) ≤ pending_of h.members + pending_in hs
  by true r = omega (arith, r)
  by false r = omega (arith, r)

pub room_all : (a : Move) (l k : Noted) (gs hs xs : List Group) → DoesEach a l k gs hs → xs ≡ filter (λ g. not (0 == length g.members)) hs → HasRoom l (pending_in gs) → HasRoom k (pending_in xs)
room_all a l k gs hs xs d made room =
    subst (λ (ys : List Group). HasRoom k (pending_in ys)) (sym made)
    (subst (λ (n : Noted). HasRoom n (pending_in (filter has_some hs))) (sym d.noted)
    (omega (arith, room, d.room, pending_left hs, length-append l.refusals (each a l.generations gs).refusals)))

fewer : {X : Type 0} (t : X → Bool) (xs : List X) → length (filter t xs) ≤ length xs
fewer t [] = omega arith
fewer t (x ∷ xs) = by (t x) (fewer t xs) where
  by : (b : Bool) → length (filter t xs) ≤ length xs → length (cond b (x ∷ filter t xs) (filter t xs)) ≤ length (x ∷ xs)
  by true r = omega (arith, r)
  by false r = omega (arith, r)

-- there is as much room, or more, once nothing is ready for a session
pub room_forgot : (l k : Noted) (session : ℕ) (gs : List Group) → k ≡ record l { refusals = filter (λ r. not (is_for session r)) l.refusals } → HasRoom l (pending_in gs) → HasRoom k (pending_in gs)
room_forgot l k session gs made room =
    subst (λ (n : Noted). HasRoom n (pending_in gs)) (sym made) (omega (arith, fewer (λ r. not (is_for session r)) l.refusals, room))

-- ---- the move of the group at an index, whichever it is

pub does_at : (a : Move) (l k : Noted) (us vs : List Group) (i : ℕ) (g h : Group) → us ≡ vs → i < length vs → g ≡ get_or us i g → Does a l k g h → DoesAt a l k i vs (slice_set us i h)
does_at a l k us vs i g h same low at d x there =
    let low_there : i < length us = subst (λ (ys : List Group). i < length ys) (sym same) low in
    let one : g ≡ x = same_at us i g x low_there at (there ∙ (λ j. get_or (sym same j) i x)) in
    (h, subst (λ (y : Group). Does a l k y h) one d, λ j. slice_set (same j) i h)

pub left_by : (name : List ℕ) (a : Move) (v : Groups) (l k : Noted) (hs gs : List Group) (i : ℕ) → i < length v.groups → AreApart v.groups → ArePeopled v.groups
    → position (is_named name) v.groups ≡ Some i → l.generations ≡ v.generations → l.refusals ≡ v.refused → DoesAt a l k i v.groups hs
    → ((g : Group) → g ≡ get_or hs i g → gs ≡ put_back hs i g)
    → (record v { groups = gs; generations = k.generations; refused = k.refusals }) ≡ move_one name a v
left_by name a v l k hs gs i low apart some e numbers refused does made =
    let at = at_index v.groups i low in
    let d = does at.0 at.1 in
    let back : gs ≡ put_back v.groups i d.0 = made d.0 (there v.groups hs i at.0 d.0 low d.2) ∙ (λ j. put_back (d.2 j) i d.0) ∙ back_of_set v.groups i d.0 in
    moved_one name a v l k gs i at.0 d.0 apart some e at.1 numbers refused d.1 back where
      there : (xs ys : List Group) (i : ℕ) (g h : Group) → i < length xs → ys ≡ set xs i h → h ≡ get_or ys i h
      there xs ys i g h low is = sym ((λ j. get_or (is j) i h) ∙ get_or-set_same xs i h h low)

pub kept_by : (a : Move) (l k : Noted) (vs hs gs : List Group) (i : ℕ) → i < length vs → AreApart vs × ArePeopled vs → HasRoom l (pending_in vs) → DoesAt a l k i vs hs
    → ((g : Group) → g ≡ get_or hs i g → gs ≡ put_back hs i g) → (AreApart gs × ArePeopled gs) × HasRoom k (pending_in gs)
kept_by a l k vs hs gs i low both room does made =
    let at = at_index vs i low in
    let d = does at.0 at.1 in
    let there : d.0 ≡ get_or hs i d.0 = sym ((λ j. get_or (d.2 j) i d.0) ∙ get_or-set_same vs i d.0 d.0 low) in
    let back : gs ≡ put_back vs i d.0 = made d.0 there ∙ (λ j. put_back (d.2 j) i d.0) ∙ back_of_set vs i d.0 in (
      (subst AreApart (sym back) (apart_back vs i at.0 d.0 low at.1 d.1.name both.0), subst ArePeopled (sym back) (peopled_back vs i d.0 both.1)),
      subst (λ (xs : List Group). HasRoom k (pending_in xs)) (sym back) (room_back a l k vs i at.0 d.0 low at.1 d.1 room),
    )

-- the room for the move of the group at an index
pub room_at : (l : Noted) (gs : List Group) (i : ℕ) → i < length gs → HasRoom l (pending_in gs) → (g : Group) → g ≡ get_or gs i g → HasRoom l (pending_of g.members)
room_at l gs i low room g at = subst (λ (x : Group). HasRoom l (pending_of x.members)) (sym at) (room_of_one l gs i g low at room)

pub same_long : (a : Move) (l k : Noted) (vs hs : List Group) (i : ℕ) → i < length vs → DoesAt a l k i vs hs → i < length hs
same_long a l k vs hs i low does =
    let at = at_index vs i low in
    let d = does at.0 at.1 in
    omega (arith, low, ap length d.2, length-set vs i d.0)
