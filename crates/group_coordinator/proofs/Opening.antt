-- Groups of which one moves that may have no members before, and moves of one group, one after the other.
use Rattle.std.proofs.Common.{◌≡◌, ℕ, zero, suc, ◌+◌, ◌<◌, ◌==◌, Bool, true, false, cond, not, nat_lt, List, [], ◌∷◌, ◌++◌, length, get_or, set, slice_set, refl, sym, ap, subst, ◌∙◌, true≢false, arith, append_assoc, append-nil, length-set}
use Rattle.std.specs.Prelude.{Option, Some, None}
use Rattle.std.specs.List.{AllByRecursion, position, position_or_len}
use Rattle.std.specs.Option.{is_none}
use Rattle.std.specs.Str.{bytes_eq}
use Rattle.std.proofs.lemmas.List.{get_or-set_same}
use Rattle.std.proofs.lemmas.Option.{none-some, same_Some}
use Rattle.std.proofs.lemmas.Slice.Eq.{bytes_eq-Decides}
use Rattle.group_coordinator.specs.Groups.{Group, Move, and_then, new_group}
use Rattle.group_coordinator.specs.Joining.{plainly}
use Rattle.group_coordinator.specs.Coordinators.{Groups, is_named, group_named, kept, move_each, move_one, only, with_group}
use Rattle.group_coordinator.specs.Keeping.{AreApart, ArePeopled}
use Rattle.group_coordinator.specs.Doing.{put_back}
use Rattle.group_coordinator.specs.Entering.{opened}
use Rattle.group_coordinator.proofs.Keeping.{apart_set, none_named}
use Rattle.group_coordinator.proofs.Lifting.{LeavesOne, all_more, one_first, one_later}
use Rattle.group_coordinator.proofs.Places.{not_found, within}
use Rattle.group_coordinator.proofs.Staying.{set_back}
use Rattle.group_coordinator.proofs.Entering.{last_position, opened_found, opened_none, own_name}

-- all but those of a name have members
abbrev pub PeopledBut : List ℕ → List Group → Type 0
PeopledBut name gs = AllByRecursion (λ g. is_named name g ≡ false → nat_lt 0 (length g.members) ≡ true) gs

pub peopled_but : (name : List ℕ) (gs : List Group) → ArePeopled gs → PeopledBut name gs
peopled_but name [] all = tt
peopled_but name (g ∷ gs) all = ((λ e. all.0), peopled_but name gs all.1)

rest_peopled : (name : List ℕ) (gs : List Group) → AllByRecursion (λ h. is_named name h ≡ false) gs → PeopledBut name gs → ArePeopled gs
rest_peopled name [] others some = tt
rest_peopled name (g ∷ gs) others some = (some.0 others.0, rest_peopled name gs others.1 some.1)

one_there : (name : List ℕ) (a : Move) (n : ℕ) (gs : List Group) (g : Group) → AreApart gs → PeopledBut name gs → nat_lt (position_or_len (is_named name) gs) (length gs) ≡ true
    → g ≡ get_or gs (position_or_len (is_named name) gs) g → LeavesOne a n name gs (put_back gs (position_or_len (is_named name) gs) (a n g).group) g
one_there name a n [] g apart some e is = absurd (grind (arith, e))
one_there name a n (h ∷ gs) g apart some e is = by (is_named name h) refl e is (one_there name a n gs g apart.1 some.1) where
  p : ℕ
  p = position_or_len (is_named name) gs

  others : is_named name h ≡ true → AllByRecursion (λ x. is_named name x ≡ false) gs
  others f = subst (λ (x : List ℕ). AllByRecursion (λ y. is_named x y ≡ false) gs) ((bytes_eq-Decides h.name name).0 f) apart.0

  by : (b : Bool) → is_named name h ≡ b → nat_lt (cond (not b) (1 + p) 0) (length (h ∷ gs)) ≡ true → g ≡ get_or (h ∷ gs) (cond (not b) (1 + p) 0) g
      → (nat_lt p (length gs) ≡ true → g ≡ get_or gs p g → LeavesOne a n name gs (put_back gs p (a n g).group) g)
      → LeavesOne a n name (h ∷ gs) (put_back (h ∷ gs) (cond (not b) (1 + p) 0) (a n g).group) g
  by true f e is r = subst (λ (x : Group). LeavesOne a n name (h ∷ gs) (kept (a n x).group ++ gs) x) (sym is) (one_first name a n h gs f apart (rest_peopled name gs (others f) some.1))
  by false f e is r =
      let next : suc p ≡ 1 + p = omega arith in
      subst (λ (k : ℕ). LeavesOne a n name (h ∷ gs) (put_back (h ∷ gs) k (a n g).group) g) next
      (one_later name a n h g gs (put_back gs p (a n g).group) f (some.0 f) (r (grind (arith, e)) (is ∙ (λ j. get_or (h ∷ gs) (sym next j) g))))

pub leaves_there : (name : List ℕ) (a : Move) (n : ℕ) (gs : List Group) (i : ℕ) (g : Group) → AreApart gs → PeopledBut name gs → position (is_named name) gs ≡ Some i → g ≡ get_or gs i g
    → LeavesOne a n name gs (put_back gs i (a n g).group) g
leaves_there name a n gs i g apart some e at = by (nat_lt (position_or_len (is_named name) gs) (length gs)) refl e where
  by : (b : Bool) → nat_lt (position_or_len (is_named name) gs) (length gs) ≡ b → cond b (Some (position_or_len (is_named name) gs)) None ≡ Some i → LeavesOne a n name gs (put_back gs i (a n g).group) g
  by false f e = absurd (none-some i e)
  by true f e =
      let place = same_Some (position_or_len (is_named name) gs) i e in
      subst (λ (j : ℕ). LeavesOne a n name gs (put_back gs j (a n g).group) g) place (one_there name a n gs g apart some f (at ∙ (λ j. get_or gs (sym place j) g)))

-- what a move of it comes to
abbrev left : (a : Move) (v : Groups) (i : ℕ) (g : Group) → Groups
left a v i g = record v { groups = put_back v.groups i (a v.generations g).group; generations = (a v.generations g).generations; refused = v.refused ++ (a v.generations g).refusals }

pub moves_to : (name : List ℕ) (a : Move) (v : Groups) (i : ℕ) (g : Group) → AreApart v.groups → PeopledBut name v.groups → position (is_named name) v.groups ≡ Some i → g ≡ get_or v.groups i g → move_one name a v ≡ left a v i g
moves_to name a v i g apart some e at =
    let one = leaves_there name a v.generations v.groups i g apart some e at in
    λ j. record v { groups = one.groups j; generations = one.generations j; refused = v.refused ++ one.refusals j }

-- a move that is another one there
pub same_move : (name : List ℕ) (a b : Move) (v : Groups) (i : ℕ) (g : Group) → AreApart v.groups → PeopledBut name v.groups → position (is_named name) v.groups ≡ Some i → g ≡ get_or v.groups i g
    → a v.generations g ≡ b v.generations g → move_one name a v ≡ move_one name b v
same_move name a b v i g apart some e at same =
    moves_to name a v i g apart some e at
    ∙ (λ j. record v { groups = put_back v.groups i (same j).group; generations = (same j).generations; refused = v.refused ++ (same j).refusals })
    ∙ sym (moves_to name b v i g apart some e at)

-- the group only changes, and has members then
pub changes_to : (name : List ℕ) (f : Group → Group) (v : Groups) (gs : List Group) (i : ℕ) (g : Group) → AreApart v.groups → PeopledBut name v.groups → position (is_named name) v.groups ≡ Some i → g ≡ get_or v.groups i g
    → nat_lt 0 (length (f g).members) ≡ true → gs ≡ slice_set v.groups i (f g) → (record v { groups = gs }) ≡ move_one name (plainly f) v
changes_to name f v gs i g apart some e at many made =
    (λ j. record v { groups = (made ∙ sym (set_back v.groups i (f g) (within (is_named name) v.groups i e) many)) j; refused = sym (append-nil v.refused) j }) ∙ sym (moves_to name (plainly f) v i g apart some e at)

-- ---- one move, and another one

same_place : (name : List ℕ) (gs : List Group) (i : ℕ) (g h : Group) → i < length gs → g ≡ get_or gs i g → h.name ≡ g.name → position_or_len (is_named name) (set gs i h) ≡ position_or_len (is_named name) gs
same_place name [] i g h low at named = refl
same_place name (y ∷ ys) zero g h low at named = λ j. cond (not (bytes_eq ((named ∙ ap (λ (x : Group). x.name) at) j) name)) (1 + position_or_len (is_named name) ys) 0
same_place name (y ∷ ys) (suc i) g h low at named = λ j. cond (not (is_named name y)) (1 + same_place name ys i g h (omega (arith, low)) at named j) 0

pub same_position : (name : List ℕ) (gs : List Group) (i : ℕ) (g h : Group) → i < length gs → g ≡ get_or gs i g → h.name ≡ g.name → position (is_named name) (set gs i h) ≡ position (is_named name) gs
same_position name gs i g h low at named =
    λ j. cond (nat_lt (same_place name gs i g h low at named j) (length-set gs i h j)) (Some (same_place name gs i g h low at named j)) None

-- whatever moved has members
pub moved_peopled : (a : Move) (n : ℕ) (gs : List Group) → ArePeopled (move_each a n gs).groups
moved_peopled a n [] = tt
moved_peopled a n (g ∷ gs) = by (0 == length (a n g).group.members) refl (moved_peopled a (a n g).generations gs) where
  rest : List Group
  rest = (move_each a (a n g).generations gs).groups

  by : (b : Bool) → (0 == length (a n g).group.members) ≡ b → ArePeopled rest → ArePeopled (cond b [] ((a n g).group ∷ []) ++ rest)
  by true e r = r
  by false e r = (grind (arith, e), r)

back_twice : (gs : List Group) (i : ℕ) (h x : Group) → put_back (set gs i h) i x ≡ put_back gs i x
back_twice [] i h x = refl
back_twice (y ∷ ys) zero h x = refl
back_twice (y ∷ ys) (suc i) h x = λ j. y ∷ back_twice ys i h x j

-- a move by which the group has members, and another one
pub moves_twice : (name : List ℕ) (a b : Move) (v : Groups) (i : ℕ) (g : Group) → AreApart v.groups → PeopledBut name v.groups → position (is_named name) v.groups ≡ Some i → g ≡ get_or v.groups i g
    → (a v.generations g).group.name ≡ g.name → nat_lt 0 (length (a v.generations g).group.members) ≡ true → move_one name b (move_one name a v) ≡ move_one name (and_then a b) v
moves_twice name a b v i g apart some e at named many =
    ap (move_one name b) first
    ∙ moves_to name b u i h (apart_set v.groups i g h low at named apart) (peopled_but name us peopled) (same_position name v.groups i g h low at named ∙ e) (sym (get_or-set_same v.groups i h h low))
    ∙ (λ j. record v {
      groups = back_twice v.groups i h (b n h).group j;
      generations = (b n h).generations;
      refused = append_assoc v.refused (a v.generations g).refusals (b n h).refusals j;
    })
    ∙ sym (moves_to name (and_then a b) v i g apart some e at) where
      h : Group
      h = (a v.generations g).group

      n : ℕ
      n = (a v.generations g).generations

      us : List Group
      us = set v.groups i h

      u : Groups
      u = record v { groups = us; generations = n; refused = v.refused ++ (a v.generations g).refusals }

      low : i < length v.groups
      low = within (is_named name) v.groups i e

      one : LeavesOne a v.generations name v.groups (put_back v.groups i h) g
      one = leaves_there name a v.generations v.groups i g apart some e at

      first : move_one name a v ≡ u
      first = moves_to name a v i g apart some e at ∙ (λ j. record v { groups = set_back v.groups i h low many j; generations = n; refused = v.refused ++ (a v.generations g).refusals })

      peopled : ArePeopled us
      peopled = subst ArePeopled (one.groups ∙ set_back v.groups i h low many) (moved_peopled (only name a) v.generations v.groups)

-- ---- groups with one of a name

pub with_group_is : (name kind : List ℕ) (v : Groups) → with_group name kind v ≡ record v { groups = opened name kind v.groups }
with_group_is name kind v = by (is_none (group_named name v)) where
  by : (b : Bool) → cond b (record v { groups = v.groups ++ new_group name kind ∷ [] }) v ≡ record v { groups = cond b (v.groups ++ new_group name kind ∷ []) v.groups }
  by true = refl
  by false = refl

flip_false : (x y : List ℕ) → bytes_eq x y ≡ false → bytes_eq y x ≡ false
flip_false x y e = by (bytes_eq y x) refl where
  by : (b : Bool) → bytes_eq y x ≡ b → b ≡ false
  by false f = refl
  by true f = absurd (true≢false (sym ((bytes_eq-Decides x y).1 (sym ((bytes_eq-Decides y x).0 f))) ∙ e))

apart_last : (name kind : List ℕ) (gs : List Group) → AllByRecursion (λ g. is_named name g ≡ false) gs → AreApart gs → AreApart (gs ++ new_group name kind ∷ [])
apart_last name kind [] others apart = (tt, tt)
apart_last name kind (g ∷ gs) others apart =
    (all_more (λ h. is_named g.name h ≡ false) gs (new_group name kind ∷ []) apart.0 (flip_false g.name name others.0, tt), apart_last name kind gs others.1 apart.1)

-- What is so of groups with one of a name.
pub record IsOpened (name kind : List ℕ) (gs : List Group) : Type 0 where
  pub index : ℕ
  pub place : position (is_named name) (opened name kind gs) ≡ Some index
  pub apart : AreApart (opened name kind gs)
  pub some : PeopledBut name (opened name kind gs)

pub is_opened : (name kind : List ℕ) (gs : List Group) → AreApart gs → ArePeopled gs → IsOpened name kind gs
is_opened name kind gs apart some = by (position (is_named name) gs) refl where
  by : (r : Option ℕ) → position (is_named name) gs ≡ r → IsOpened name kind gs
  by (Some i) e =
      let same : opened name kind gs ≡ gs = opened_found name kind gs i e in
      record {
        index = i;
        place = (λ j. position (is_named name) (same j)) ∙ e;
        apart = subst AreApart (sym same) apart;
        some = subst (PeopledBut name) (sym same) (peopled_but name gs some);
      }
  by None e =
      let same : opened name kind gs ≡ gs ++ new_group name kind ∷ [] = opened_none name kind gs e in
      let none = not_found (is_named name) gs e in
      record {
        index = length gs;
        place = (λ j. position (is_named name) (same j)) ∙ last_position name gs (new_group name kind) refl none;
        apart = subst AreApart (sym same) (apart_last name kind gs (none_named name gs none) apart);
        some = subst (PeopledBut name) (sym same)
            (all_more (λ g. is_named name g ≡ false → nat_lt 0 (length g.members) ≡ true) gs (new_group name kind ∷ []) (peopled_but name gs some)
            ((λ f. absurd (true≢false (sym (own_name name) ∙ f))), tt));
      }
