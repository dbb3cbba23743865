-- A member that joins anew, and stands at an index.
use Rattle.std.proofs.Common.{◌≡◌, ℕ, suc, ◌+◌, ◌-◌, ◌<◌, Bool, true, false, cond, not, nat_lt, List, [], ◌∷◌, map, take, drop, length, get_or, set, refl, sym, ap, ◌∙◌, arith, append-nil, length-append}
use Rattle.std.specs.Prelude.{Option, Some, None, ◌||◌, ◌&&◌}
use Rattle.std.proofs.lemmas.List.{take_rest, length-map}
use Rattle.std.specs.List.{filter, find, list_all, list_any, position, position_or_len}
use Rattle.std.proofs.lemmas.Option.{none-some, same_Some}
use Rattle.group_coordinator.specs.Members.{Member, Protocol, has_id, is_common, refusals_of}
use Rattle.group_coordinator.specs.Groups.{Group, and_then}
use Rattle.group_coordinator.specs.declared.values.GroupError.TheVariants.{Rebalancing}
use Rattle.group_coordinator.specs.declared.values.Refusal.{Refusal}
use Rattle.group_coordinator.specs.Requests.{JoinRequest}
use Rattle.group_coordinator.specs.Joining.{call, called, plainly, rejoined, with_member}
use Rattle.group_coordinator.specs.Doing.{Noted, refusing}
use Rattle.group_coordinator.specs.Giving.{DoesStaying}
use Rattle.group_coordinator.proofs.Refusing.{refused_length, pending_of_filter}
use Rattle.group_coordinator.proofs.Syncing.{pending_most}
use Rattle.std.specs.Str.{bytes_eq}
use Rattle.group_coordinator.specs.Entering.{IsOnly}
use Rattle.group_coordinator.proofs.Places.{not_found, within}

-- whoever isn't meant passes, of all
pub all_but : {X : Type 0} (s t : X → Bool) (xs : List X) → list_all (λ x. s x || t x) xs ≡ list_all t (filter (λ x. not (s x)) xs)
all_but s t [] = refl
all_but s t (x ∷ xs) = by (s x) (all_but s t xs) where
  by : (b : Bool) → list_all (λ x. s x || t x) xs ≡ list_all t (filter (λ x. not (s x)) xs)
      → ((b || t x) && list_all (λ x. s x || t x) xs) ≡ list_all t (cond (not b) (x ∷ filter (λ x. not (s x)) xs) (filter (λ x. not (s x)) xs))
  by true r = r
  by false r = λ i. t x && r i

-- nobody is meant
none_changed : (id : List ℕ) (f : Member → Member) (ms : List Member) → find (has_id id) ms ≡ None → map (λ x. cond (has_id id x) (f x) x) ms ≡ ms
none_changed id f [] e = refl
none_changed id f (m ∷ ms) e = by (has_id id m) e (none_changed id f ms) where
  by : (b : Bool) → cond b (Some m) (find (has_id id) ms) ≡ None → (find (has_id id) ms ≡ None → map (λ x. cond (has_id id x) (f x) x) ms ≡ ms)
      → cond b (f m) m ∷ map (λ x. cond (has_id id x) (f x) x) ms ≡ m ∷ ms
  by true e r = absurd (none-some m (sym e))
  by false e r = λ i. m ∷ r e i

-- the first is meant, and none behind it
first_changed : (id : List ℕ) (f : Member → Member) (ms : List Member) (d : Member) → nat_lt (position_or_len (has_id id) ms) (length ms) ≡ true → find (has_id id) (drop (position_or_len (has_id id) ms + 1) ms) ≡ None
    → map (λ x. cond (has_id id x) (f x) x) ms ≡ set ms (position_or_len (has_id id) ms) (f (get_or ms (position_or_len (has_id id) ms) d))
first_changed id f [] d e none = refl
first_changed id f (m ∷ ms) d e none = by (has_id id m) e none (first_changed id f ms d) where
  p : ℕ
  p = position_or_len (has_id id) ms

  by : (b : Bool) → nat_lt (cond (not b) (1 + p) 0) (length (m ∷ ms)) ≡ true → find (has_id id) (drop (cond (not b) (1 + p) 0 + 1) (m ∷ ms)) ≡ None
      → (nat_lt p (length ms) ≡ true → find (has_id id) (drop (p + 1) ms) ≡ None → map (λ x. cond (has_id id x) (f x) x) ms ≡ set ms p (f (get_or ms p d)))
      → cond b (f m) m ∷ map (λ x. cond (has_id id x) (f x) x) ms ≡ set (m ∷ ms) (cond (not b) (1 + p) 0) (f (get_or (m ∷ ms) (cond (not b) (1 + p) 0) d))
  by true e none r = λ i. f m ∷ none_changed id f ms none i
  by false e none r =
      let next : suc p ≡ 1 + p = omega arith in
      let more : 1 + p + 1 ≡ suc (p + 1) = omega arith in
      (λ i. m ∷ r (grind (arith, e)) ((λ j. find (has_id id) (drop (sym more j) (m ∷ ms))) ∙ none) i) ∙ (λ i. set (m ∷ ms) (next i) (f (get_or (m ∷ ms) (next i) d)))

pub only_one : (id : List ℕ) (ms : List Member) (i : ℕ) → position (has_id id) ms ≡ Some i → position (has_id id) (drop (i + 1) ms) ≡ None → (i < length ms) × IsOnly id i ms
only_one id ms i e none = (within (has_id id) ms i e, λ f m at. by f m at (nat_lt (position_or_len (has_id id) ms) (length ms)) refl e) where
  p : ℕ
  p = position_or_len (has_id id) ms

  by : (f : Member → Member) (m : Member) → m ≡ get_or ms i m → (b : Bool) → nat_lt p (length ms) ≡ b → cond b (Some p) None ≡ Some i → map (λ x. cond (has_id id x) (f x) x) ms ≡ set ms i (f m)
  by f m at false g e = absurd (none-some i e)
  by f m at true g e =
      let place = same_Some p i e in
      let none_there = not_found (has_id id) (drop (i + 1) ms) none in
      first_changed id f ms m g ((λ j. find (has_id id) (drop (place j + 1) ms)) ∙ none_there) ∙ (λ j. set ms (place j) (f (get_or ms (place j) m))) ∙ (λ j. set ms i (f (sym at j)))

pub only_at : (id : List ℕ) (ms us : List Member) (i : ℕ) (r : Option ℕ) → position (has_id id) ms ≡ Some i → us ≡ ms → r ≡ position (has_id id) (take (length us - (i + 1)) (drop (i + 1) us)) → r ≡ None
    → (i < length ms) × IsOnly id i ms
only_at id ms us i r e same is none =
    only_one id ms i e ((λ j. position (has_id id) (sym (take_rest ms (i + 1)) j)) ∙ (λ j. position (has_id id) (take (length (sym same j) - (i + 1)) (drop (i + 1) (sym same j)))) ∙ sym is ∙ none)

-- the only member with an id changes, at its place
pub set_in : (u g : Group) (i : ℕ) (m x : Member) (id : List ℕ) (f : Member → Member) → u ≡ g → IsOnly id i g.members → m ≡ get_or u.members i m → x ≡ f m → (record u { members = set u.members i x }) ≡ with_member id f g
set_in u g i m x id f same only at is =
    (λ k. record u { members = set u.members i (is k) }) ∙ (λ k. record (same k) { members = set (same k).members i (f m) })
    ∙ (λ k. record g { members = sym (only f m (at ∙ (λ j. get_or (same j).members i m))) k })

-- the same of equal members, ids and protocols
pub shares_same : (ms us : List Member) (id x : List ℕ) (ps qs : List Protocol) (r : Bool) → us ≡ ms → x ≡ id → qs ≡ ps → r ≡ list_any (λ p. is_common (filter (λ m. not (has_id x m)) us) p.name) qs
    → r ≡ list_any (λ p. is_common (filter (λ m. not (has_id id m)) ms) p.name) ps
shares_same ms us id x ps qs r members named protocols is = is ∙ (λ i. list_any (λ p. is_common (filter (λ m. not (has_id (named i) m)) (members i)) p.name) (protocols i))

-- ---- a request of its own came

pub twice_changed : (id : List ℕ) (f c : Member → Member) → ((m : Member) → (c m).id ≡ m.id) → ((m : Member) → f (c m) ≡ f m) → (ms : List Member)
    → map (λ x. cond (has_id id x) (f x) x) (map (λ x. cond (has_id id x) (c x) x) ms) ≡ map (λ x. cond (has_id id x) (f x) x) ms
twice_changed id f c named same [] = refl
twice_changed id f c named same (m ∷ ms) = λ i. one (has_id id m) refl i ∷ twice_changed id f c named same ms i where
  changed : Member → Member
  changed x = cond (has_id id x) (f x) x

  one : (b : Bool) → has_id id m ≡ b → changed (cond b (c m) m) ≡ cond b (f m) m
  one true e = (λ i. cond (((λ j. bytes_eq (named m j) id) ∙ e) i) (f (c m)) (c m)) ∙ same m
  one false e = λ i. cond (e i) (f m) m

-- whatever it then waits for, it is one of the same members
pub does_called : (now : ℕ) (id : List ℕ) (f : Member → Member) (l k : Noted) (g h : Group) → k ≡ refusing l (refusals_of Rebalancing (filter (has_id id) g.members)) → h ≡ with_member id f (with_member id (called now) g)
    → DoesStaying (and_then (call now id) (plainly (with_member id f))) l k g h
does_called now id f l k g h noted made = record {
  group = made;
  noted = noted ∙ (λ p. refusing l (sym (append-nil rs) p));
  generations = refl;
  room = omega (arith, length-append rs [], refused_length Rebalancing (filter (has_id id) g.members), pending_of_filter (has_id id) g.members, pending_most h.members, count);
  name = ap (λ (x : Group). x.name) made;
  generation = ap (λ (x : Group). x.generation) made;
  count = count;
} where
  rs : List Refusal
  rs = refusals_of Rebalancing (filter (has_id id) g.members)

  count : length h.members ≡ length g.members
  count = ap (λ (x : Group). length x.members) made ∙ length-map (map (λ x. cond (has_id id x) (called now x) x) g.members) (λ x. cond (has_id id x) (f x) x)
      ∙ length-map g.members (λ x. cond (has_id id x) (called now x) x)

-- it joins anew
pub does_rejoin : (now s : ℕ) (q : JoinRequest) (id : List ℕ) (l k : Noted) (g h : Group) → id ≡ q.member → k ≡ refusing l (refusals_of Rebalancing (filter (has_id id) g.members))
    → h ≡ with_member q.member (rejoined now s q) g → DoesStaying (and_then (call now q.member) (plainly (with_member q.member (rejoined now s q)))) l k g h
does_rejoin now s q id l k g h named noted made =
    does_called now q.member (rejoined now s q) l k g h (noted ∙ (λ i. refusing l (refusals_of Rebalancing (filter (has_id (named i)) g.members))))
    (made ∙ (λ i. record g { members = sym (twice_changed q.member (rejoined now s q) (called now) (λ m. refl) (λ m. refl) g.members) i }))
