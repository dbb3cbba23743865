-- What is ready for a session, and where it is found.
use Rattle.std.proofs.Common.{ap, ◌≡◌, ℕ, zero, suc, ◌<◌, Bool, true, false, cond, List, [], ◌∷◌, length, get_or, refl, sym, ◌∙◌, arith}
use Rattle.std.specs.Prelude.{is_some, Option, Some, None, ◌==◌, ◌&&◌, ◌||◌, slice_get}
use Rattle.std.specs.List.{find, list_any, position}
use Rattle.std.specs.Option.{option_and_then, option_map, option_or}
use Rattle.group_coordinator.specs.declared.ready.Ready.{Ready}
use Rattle.group_coordinator.specs.declared.values.GroupError.{GroupError}
use Rattle.group_coordinator.specs.declared.values.Refusal.{Refusal}
use Rattle.group_coordinator.specs.declared.values.Wait.{Wait}
use Rattle.group_coordinator.specs.declared.values.Wait.TheVariants.{No, Joins, Syncs, Told, Assigned}
use Rattle.group_coordinator.specs.Members.{Member, is_in, is_ready}
use Rattle.group_coordinator.specs.Groups.{Group, told}
use Rattle.group_coordinator.specs.Coordinators.{Groups, is_for, ready_for, reply_of, reply_among, reply_in}
use Rattle.group_coordinator.specs.Requests.{Reply}
use Rattle.group_coordinator.specs.Requests.Reply.{Refused, Joined, Given}
use Rattle.group_coordinator.specs.Readiness.{is_ready_for, has_ready, reply_at, ready_as, IsReadyIn}
use Rattle.group_coordinator.proofs.Places.{found_at, not_found, within}

-- the reply to a member, where it is ready for this session
abbrev reply_as : Group → Member → Wait → Option Reply
reply_as g m (Told j) = Some (Joined (told g m))
reply_as g m (Assigned j) = Some (Given m.part)
reply_as g m w = None

ready_reply : (k : ℕ) (g : Group) (m : Member) (w : Wait) → (is_in k w && is_ready w) ≡ true → reply_of k g m w ≡ reply_as g m w
ready_reply k g m No e = refl
ready_reply k g m (Joins j) e = refl
ready_reply k g m (Syncs j) e = refl
ready_reply k g m (Told j) e = by (j == k) e where
  by : (b : Bool) → (b && true) ≡ true → cond b (Some (Joined (told g m))) None ≡ Some (Joined (told g m))
  by true e = refl
  by false e = absurd (grind (arith, e))
ready_reply k g m (Assigned j) e = by (j == k) e where
  by : (b : Bool) → (b && true) ≡ true → cond b (Some (Given m.part)) None ≡ Some (Given m.part)
  by true e = refl
  by false e = absurd (grind (arith, e))

unready_reply : (k : ℕ) (g : Group) (m : Member) (w : Wait) → (is_in k w && is_ready w) ≡ false → reply_of k g m w ≡ None
unready_reply k g m No e = refl
unready_reply k g m (Joins j) e = refl
unready_reply k g m (Syncs j) e = refl
unready_reply k g m (Told j) e = by (j == k) e where
  by : (b : Bool) → (b && true) ≡ false → cond b (Some (Joined (told g m))) None ≡ None
  by true e = absurd (grind (arith, e))
  by false e = refl
unready_reply k g m (Assigned j) e = by (j == k) e where
  by : (b : Bool) → (b && true) ≡ false → cond b (Some (Given m.part)) None ≡ None
  by true e = absurd (grind (arith, e))
  by false e = refl

is_some_reply : (k : ℕ) (g : Group) (m : Member) (w : Wait) (r : Option Reply) → (is_in k w && is_ready w) ≡ true → option_or (reply_as g m w) r ≡ reply_as g m w
is_some_reply k g m No r e = absurd (grind (arith, e))
is_some_reply k g m (Joins j) r e = absurd (by (j == k) e) where
  by : (b : Bool) → (b && false) ≡ true → ⊥
  by true e = grind (arith, e)
  by false e = grind (arith, e)
is_some_reply k g m (Syncs j) r e = absurd (by (j == k) e) where
  by : (b : Bool) → (b && false) ≡ true → ⊥
  by true e = grind (arith, e)
  by false e = grind (arith, e)
is_some_reply k g m (Told j) r e = refl
is_some_reply k g m (Assigned j) r e = refl

-- among members: the first that is ready, if there is one
among : (k : ℕ) (g : Group) (ms : List Member) → reply_among k g ms ≡ option_and_then (λ m. reply_as g m m.wait) (find (is_ready_for k) ms)
among k g [] = refl
among k g (m ∷ ms) = by (is_ready_for k m) refl (among k g ms) where
  by : (b : Bool) → is_ready_for k m ≡ b → reply_among k g ms ≡ option_and_then (λ m. reply_as g m m.wait) (find (is_ready_for k) ms)
      → option_or (reply_of k g m m.wait) (reply_among k g ms) ≡ option_and_then (λ m. reply_as g m m.wait) (cond b (Some m) (find (is_ready_for k) ms))
  by true e r = (λ i. option_or (ready_reply k g m m.wait e i) (reply_among k g ms)) ∙ is_some_reply k g m m.wait (reply_among k g ms) e
  by false e r = (λ i. option_or (unready_reply k g m m.wait e i) (reply_among k g ms)) ∙ r

pub at_slice : {X : Type 0} (xs : List X) (i : ℕ) (x : X) → i < length xs → x ≡ get_or xs i x → slice_get xs i ≡ Some x
at_slice [] i x low at = absurd (omega (arith, low))
at_slice (y ∷ ys) zero x low at = λ j. Some (sym at j)
at_slice (y ∷ ys) (suc i) x low at = at_slice ys i x (omega (arith, low)) at

-- the reply at its indexes
stands : (v : Groups) (i j : ℕ) (g : Group) (m : Member) (w : Wait) → slice_get v.groups i ≡ Some g → slice_get g.members j ≡ Some m → option_and_then (reply_at v) (ready_as w i j) ≡ reply_as g m w
stands v i j g m No a b = refl
stands v i j g m (Joins k) a b = refl
stands v i j g m (Syncs k) a b = refl
stands v i j g m (Told k) a b =
    (λ p. option_and_then (λ x. option_map (λ y. Joined (told x y)) (slice_get x.members j)) (a p)) ∙ (λ p. option_map (λ y. Joined (told g y)) (b p))
stands v i j g m (Assigned k) a b =
    (λ p. option_and_then (λ x. option_map (λ y. Given y.part) (slice_get x.members j)) (a p)) ∙ (λ p. option_map (λ (y : Member). Given y.part) (b p))

pub member_ready : (k i j : ℕ) (g : Group) (m : Member) (r : Option Ready) → position (is_ready_for k) g.members ≡ Some j → m ≡ get_or g.members j m → r ≡ ready_as m.wait i j → IsReadyIn k i g r
member_ready k i j g m r e at is v there =
    (λ p. option_and_then (reply_at v) (is p)) ∙ stands v i j g m m.wait there (at_slice g.members j m (within (is_ready_for k) g.members j e) at)
    ∙ (λ p. option_and_then (λ m. reply_as g m m.wait) (sym (found_at (is_ready_for k) g.members j m e at) p)) ∙ sym (among k g g.members)

pub member_unready : (k i : ℕ) (g : Group) → position (is_ready_for k) g.members ≡ None → IsReadyIn k i g None
member_unready k i g e v there = (λ p. option_and_then (λ m. reply_as g m m.wait) (sym (not_found (is_ready_for k) g.members e) p)) ∙ sym (among k g g.members)

kind_is_some : (i j : ℕ) (g : Group) (m : Member) (w : Wait) → is_some (ready_as w i j) ≡ is_some (reply_as g m w)
kind_is_some i j g m No = refl
kind_is_some i j g m (Joins k) = refl
kind_is_some i j g m (Syncs k) = refl
kind_is_some i j g m (Told k) = refl
kind_is_some i j g m (Assigned k) = refl

pub member_is_some : (k i j : ℕ) (g : Group) (m : Member) (r : Option Ready) → position (is_ready_for k) g.members ≡ Some j → m ≡ get_or g.members j m → r ≡ ready_as m.wait i j
    → is_some r ≡ is_some (reply_among k g g.members)
member_is_some k i j g m r e at is =
    ap is_some is ∙ kind_is_some i j g m m.wait
    ∙ (λ p. is_some (option_and_then (λ m. reply_as g m m.wait) (sym (found_at (is_ready_for k) g.members j m e at) p))) ∙ ap is_some (sym (among k g g.members))

pub member_is_none : (k : ℕ) (g : Group) → position (is_ready_for k) g.members ≡ None → false ≡ is_some (reply_among k g g.members)
member_is_none k g e =
    (λ p. is_some (option_and_then (λ m. reply_as g m m.wait) (sym (not_found (is_ready_for k) g.members e) p))) ∙ ap is_some (sym (among k g g.members))

-- ---- among groups

none_any : (k : ℕ) (ms : List Member) → list_any (is_ready_for k) ms ≡ false → find (is_ready_for k) ms ≡ None
none_any k [] e = refl
none_any k (m ∷ ms) e = by (is_ready_for k m) e (none_any k ms) where
  by : (b : Bool) → (b || list_any (is_ready_for k) ms) ≡ false → (list_any (is_ready_for k) ms ≡ false → find (is_ready_for k) ms ≡ None) → cond b (Some m) (find (is_ready_for k) ms) ≡ None
  by true e r = absurd (grind (arith, e))
  by false e r = r e

some_among : (k : ℕ) (g : Group) (ms : List Member) (r : Option Reply) → list_any (is_ready_for k) ms ≡ true → option_or (reply_among k g ms) r ≡ reply_among k g ms
some_among k g [] r e = absurd (grind (arith, e))
some_among k g (m ∷ ms) r e = by (is_ready_for k m) refl e (some_among k g ms r) where
  by : (b : Bool) → is_ready_for k m ≡ b → (b || list_any (is_ready_for k) ms) ≡ true → (list_any (is_ready_for k) ms ≡ true → option_or (reply_among k g ms) r ≡ reply_among k g ms)
      → option_or (option_or (reply_of k g m m.wait) (reply_among k g ms)) r ≡ option_or (reply_of k g m m.wait) (reply_among k g ms)
  by true f e s =
      let here : option_or (reply_of k g m m.wait) (reply_among k g ms) ≡ reply_as g m m.wait = (λ i. option_or (ready_reply k g m m.wait f i) (reply_among k g ms)) ∙ is_some_reply k g m m.wait (reply_among k g ms) f in
      (λ i. option_or (here i) r) ∙ is_some_reply k g m m.wait r f ∙ sym here
  by false f e s =
      let here : option_or (reply_of k g m m.wait) (reply_among k g ms) ≡ reply_among k g ms = λ i. option_or (unready_reply k g m m.wait f i) (reply_among k g ms) in
      (λ i. option_or (here i) r) ∙ s e ∙ sym here

in_groups : (k : ℕ) (gs : List Group) → reply_in k gs ≡ option_and_then (λ g. reply_among k g g.members) (find (has_ready k) gs)
in_groups k [] = refl
in_groups k (g ∷ gs) = by (has_ready k g) refl (in_groups k gs) where
  by : (b : Bool) → has_ready k g ≡ b → reply_in k gs ≡ option_and_then (λ g. reply_among k g g.members) (find (has_ready k) gs)
      → option_or (reply_among k g g.members) (reply_in k gs) ≡ option_and_then (λ g. reply_among k g g.members) (cond b (Some g) (find (has_ready k) gs))
  by true e r = some_among k g g.members (reply_in k gs) e
  by false e r =
      (λ i. option_or ((among k g g.members ∙ (λ p. option_and_then (λ m. reply_as g m m.wait) (none_any k g.members e p))) i) (reply_in k gs)) ∙ r

pub group_ready : (k i : ℕ) (gs : List Group) (g : Group) (r : Option Ready) → position (has_ready k) gs ≡ Some i → g ≡ get_or gs i g → IsReadyIn k i g r
    → (v : Groups) → v.groups ≡ gs → option_and_then (reply_at v) r ≡ reply_in k v.groups
group_ready k i gs g r e at is v same =
    let there : slice_get v.groups i ≡ Some g = (λ p. slice_get (same p) i) ∙ at_slice gs i g (within (has_ready k) gs i e) at in
    is v there ∙ (λ p. option_and_then (λ g. reply_among k g g.members) (sym (found_at (has_ready k) gs i g e at) p)) ∙ sym (in_groups k gs) ∙ (λ p. reply_in k (sym same p))

pub group_unready : (k : ℕ) (gs : List Group) → position (has_ready k) gs ≡ None → (v : Groups) → v.groups ≡ gs → None ≡ reply_in k v.groups
group_unready k gs e v same =
    (λ p. option_and_then (λ g. reply_among k g g.members) (sym (not_found (has_ready k) gs e) p)) ∙ sym (in_groups k gs) ∙ (λ p. reply_in k (sym same p))

pub group_is_some : (k i : ℕ) (gs : List Group) (g : Group) (r : Option Ready) → position (has_ready k) gs ≡ Some i → g ≡ get_or gs i g → is_some r ≡ is_some (reply_among k g g.members)
    → is_some r ≡ is_some (reply_in k gs)
group_is_some k i gs g r e at is =
    is ∙ (λ p. is_some (option_and_then (λ g. reply_among k g g.members) (sym (found_at (has_ready k) gs i g e at) p))) ∙ ap is_some (sym (in_groups k gs))

pub group_is_none : (k : ℕ) (gs : List Group) → position (has_ready k) gs ≡ None → false ≡ is_some (reply_in k gs)
group_is_none k gs e =
    (λ p. is_some (option_and_then (λ g. reply_among k g g.members) (sym (not_found (has_ready k) gs e) p))) ∙ ap is_some (sym (in_groups k gs))

-- ---- refusals

pub refusal_at : (k : ℕ) (rs : List Refusal) (i : ℕ) (r : Refusal) → position (is_for k) rs ≡ Some i → r ≡ get_or rs i r → Some r.error ≡ option_map (λ r. r.error) (find (is_for k) rs)
refusal_at k rs i r e at = λ p. option_map (λ (r : Refusal). r.error) (sym (found_at (is_for k) rs i r e at) p)

pub refusal_none : (k : ℕ) (rs : List Refusal) → position (is_for k) rs ≡ None → None ≡ option_map (λ r. r.error) (find (is_for k) rs)
refusal_none k rs e = λ p. option_map (λ (r : Refusal). r.error) (sym (not_found (is_for k) rs e) p)

by_error : (o : Option Refusal) → option_map (λ r. Refused r.error) o ≡ option_map (λ e. Refused e) (option_map (λ r. r.error) o)
by_error None = refl
by_error (Some r) = refl

pub refusal_ready : (k : ℕ) (v : Groups) (e : GroupError) → Some e ≡ option_map (λ r. r.error) (find (is_for k) v.refused) → Some (Refused e) ≡ ready_for k v
refusal_ready k v e is = sym ((λ p. option_or ((by_error (find (is_for k) v.refused) ∙ (λ q. option_map (λ e. Refused e) (sym is q))) p) (reply_in k v.groups)))

pub reply_ready : (k : ℕ) (v : Groups) (r : Option Reply) → None ≡ option_map (λ r. r.error) (find (is_for k) v.refused) → r ≡ reply_in k v.groups → r ≡ ready_for k v
reply_ready k v r is same =
    same ∙ sym (λ p. option_or ((by_error (find (is_for k) v.refused) ∙ (λ q. option_map (λ e. Refused e) (sym is q))) p) (reply_in k v.groups))
