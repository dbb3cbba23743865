-- Names, and the chains that lead to them.
use Rattle.std.proofs.Common.{◌≡◌, ℕ, zero, suc, ◌+◌, ◌<◌, ◌≤◌, ◌==◌, Bool, true, false, cond, not, nat_lt, List, [], ◌∷◌, ◌++◌, map, take, drop, length, get_or, set, replicate, refl, sym, ap, subst, ◌∙◌, arith, append-nil, length-append, length-set}
use Rattle.std.specs.Prelude.{◌||◌, Some, None, OnOk, OnErr}
use Rattle.std.specs.declared.result.Result.{Result}
use Rattle.std.specs.declared.result.Result.TheVariants.{Ok, Err}
use Rattle.group_coordinator.specs.Members.{Member, Protocol, knows}
use Rattle.group_coordinator.specs.Joining.{with_last}
use Rattle.std.specs.List.{AllByRecursion, filter, position, position_or_len}
use Rattle.std.specs.Str.{bytes_eq}
use Rattle.std.proofs.lemmas.List.{get_or_append_left, get_or_default, get_or_push, get_or-map, get_or-replicate, get_or-set_same, get_or-set_other, length-map, length-replicate, take_all, drop_all, map-append}
use Rattle.std.proofs.lemmas.Slice.Eq.{bytes_eq-Decides}
use Rattle.group_coordinator.specs.Groups.{Group}
use Rattle.group_coordinator.specs.Coordinators.{is_named, sent_group}
use Rattle.group_coordinator.specs.Finding.{Chains, Finds, HasPlace, Leads, bucket_of, is_in_bucket, last_below, names_of, protocol_names}
use Rattle.group_coordinator.specs.Keeping.{AreApart}
use Rattle.group_coordinator.specs.Doing.{put_back}
use Rattle.group_coordinator.proofs.Places.{same_at}
use Rattle.group_coordinator.proofs.Keeping.{at_index}

-- ---- the last name of which something holds

below_one : (t : List ℕ → Bool) (names : List (List ℕ)) (k : ℕ) → t (get_or names k []) ≡ false → last_below t names (suc k) ≡ last_below t names k
below_one t names k e = λ i. cond (e i) (suc k) (last_below t names k)

-- what holds of few is found among those of which more holds
below_implied : (t u : List ℕ → Bool) → ((x : List ℕ) → t x ≡ true → u x ≡ true) → (names : List (List ℕ)) (k : ℕ) → last_below t names k ≡ last_below t names (last_below u names k)
below_implied t u more names zero = refl
below_implied t u more names (suc k) = by (u (get_or names k [])) refl (below_implied t u more names k) where
  clash : (b : Bool) → t (get_or names k []) ≡ b → u (get_or names k []) ≡ false → b ≡ false
  clash false e f = refl
  clash true e f = sym (more (get_or names k []) e) ∙ f

  by : (b : Bool) → u (get_or names k []) ≡ b → last_below t names k ≡ last_below t names (last_below u names k)
      → last_below t names (suc k) ≡ last_below t names (cond b (suc k) (last_below u names k))
  by true e r = refl
  by false e r = below_one t names k (clash (t (get_or names k [])) refl e) ∙ r

below_most : (t : List ℕ → Bool) (names : List (List ℕ)) (k : ℕ) → last_below t names k ≤ k
below_most t names zero = omega arith
below_most t names (suc k) = by (t (get_or names k [])) (below_most t names k) where
  by : (b : Bool) → last_below t names k ≤ k → cond b (suc k) (last_below t names k) ≤ suc k
  by true r = omega arith
  by false r = omega (arith, r)

-- it holds where it is found
below_found : (t : List ℕ → Bool) (names : List (List ℕ)) (k i : ℕ) → last_below t names k ≡ suc i → (i < k) × (t (get_or names i []) ≡ true)
below_found t names zero i e = absurd (omega (arith, e))
below_found t names (suc k) i e = by (t (get_or names k [])) refl e (below_found t names k i) where
  by : (b : Bool) → t (get_or names k []) ≡ b → cond b (suc k) (last_below t names k) ≡ suc i → (last_below t names k ≡ suc i → (i < k) × (t (get_or names i []) ≡ true))
      → (i < suc k) × (t (get_or names i []) ≡ true)
  by true f e r = let same : k ≡ i = omega (arith, e) in (omega (arith, same), (λ j. t (get_or names (sym same j) [])) ∙ f)
  by false f e r = let there = r e in (omega (arith, there.0), there.1)

-- where it is not found it holds nowhere
below_none : (t : List ℕ → Bool) (names : List (List ℕ)) (k i : ℕ) → last_below t names k ≡ 0 → i < k → t (get_or names i []) ≡ false
below_none t names zero i e low = absurd (omega (arith, low))
below_none t names (suc k) i e low = by (t (get_or names k [])) refl e (below_none t names k i) where
  at : (b : Bool) → (i == k) ≡ b → t (get_or names k []) ≡ false → (i < k → t (get_or names i []) ≡ false) → t (get_or names i []) ≡ false
  at true same f r = let is : i ≡ k = grind (arith, same) in (λ j. t (get_or names (is j) [])) ∙ f
  at false other f r = r (grind (arith, other, low))

  by : (b : Bool) → t (get_or names k []) ≡ b → cond b (suc k) (last_below t names k) ≡ 0 → (last_below t names k ≡ 0 → i < k → t (get_or names i []) ≡ false) → t (get_or names i []) ≡ false
  by true f e r = absurd (omega (arith, e))
  by false f e r = at (i == k) refl f (r e)

below_more : (t : List ℕ → Bool) (names rest : List (List ℕ)) (k : ℕ) → k ≤ length names → last_below t (names ++ rest) k ≡ last_below t names k
below_more t names rest zero low = refl
below_more t names rest (suc k) low =
    (λ i. cond (t (get_or_append_left names rest [] k (omega (arith, low)) i)) (suc k) (last_below t (names ++ rest) k))
    ∙ (λ i. cond (t (get_or names k [])) (suc k) (below_more t names rest k (omega (arith, low)) i))

below_last : (t : List ℕ → Bool) (names : List (List ℕ)) (y : List ℕ) → last_below t (names ++ y ∷ []) (length (names ++ y ∷ [])) ≡ cond (t y) (suc (length names)) (last_below t names (length names))
below_last t names y =
    let long : length (names ++ y ∷ []) ≡ suc (length names) = omega (arith, length-append names (y ∷ [])) in
    (λ i. last_below t (names ++ y ∷ []) (long i))
    ∙ (λ i. cond (t (get_or_push names y [] (length names) refl i)) (suc (length names)) (last_below t (names ++ y ∷ []) (length names)))
    ∙ (λ i. cond (t y) (suc (length names)) (below_more t names (y ∷ []) (length names) (omega arith) i))

-- ---- chains

-- those of no names
leads_none : (m : ℕ) → Leads m (replicate m 0) [] []
leads_none m = record { ends = λ b low. get_or-replicate m b 0 0 low; links = λ i low. absurd (omega (arith, low)) }

pub finds_none : (c d : Chains) → d ≡ record c { last = replicate (length c.last) 0; before = [] } → Finds d []
finds_none c d made = subst (λ (x : Chains). Finds x []) (sym made) (record {
  leads = subst (λ (m : ℕ). Leads m (replicate (length c.last) 0) [] []) (sym (length-replicate (length c.last) 0)) (leads_none (length c.last));
  count = refl;
  wide = omega arith;
  room = omega arith;
})

-- one name more
leads_more : (m : ℕ) (last before : List ℕ) (names : List (List ℕ)) (y : List ℕ) → length last ≡ m → length before ≡ length names → bucket_of m y < m → Leads m last before names
    → Leads m (set last (bucket_of m y) (length before + 1)) (before ++ get_or last (bucket_of m y) 0 ∷ []) (names ++ y ∷ [])
leads_more m last before names y long count within l = record { ends = lasts; links = befores } where
  h : ℕ
  h = bucket_of m y

  low_last : h < length last
  low_last = omega (arith, long, within)

  lasts : (b : ℕ) → b < m → get_or (set last (bucket_of m y) (length before + 1)) b 0 ≡ last_below (is_in_bucket m b) (names ++ y ∷ []) (length (names ++ y ∷ []))
  lasts b low = by (bucket_of m y == b) refl where
    by : (c : Bool) → (bucket_of m y == b) ≡ c → get_or (set last (bucket_of m y) (length before + 1)) b 0 ≡ last_below (is_in_bucket m b) (names ++ y ∷ []) (length (names ++ y ∷ []))
    by true e =
        let same : bucket_of m y ≡ b = grind (arith, e) in
        let next : length before + 1 ≡ suc (length names) = omega (arith, count) in
        (λ i. get_or (set last (bucket_of m y) (length before + 1)) (sym same i) 0) ∙ get_or-set_same last (bucket_of m y) (length before + 1) 0 low_last ∙ next
        ∙ (λ i. cond (sym e i) (suc (length names)) (last_below (is_in_bucket m b) names (length names))) ∙ sym (below_last (is_in_bucket m b) names y)
    by false e =
        get_or-set_other last (bucket_of m y) b (length before + 1) 0 (λ p. grind (arith, e, p)) ∙ l.ends b low
        ∙ (λ i. cond (sym e i) (suc (length names)) (last_below (is_in_bucket m b) names (length names))) ∙ sym (below_last (is_in_bucket m b) names y)

  befores : (i : ℕ) → i < length (names ++ y ∷ [])
      → get_or (before ++ get_or last (bucket_of m y) 0 ∷ []) i 0 ≡ last_below (is_in_bucket m (bucket_of m (get_or (names ++ y ∷ []) i []))) (names ++ y ∷ []) i
  befores i low = by (i == length names) refl where
    by : (c : Bool) → (i == length names) ≡ c
        → get_or (before ++ get_or last (bucket_of m y) 0 ∷ []) i 0 ≡ last_below (is_in_bucket m (bucket_of m (get_or (names ++ y ∷ []) i []))) (names ++ y ∷ []) i
    by true e =
        let at : i ≡ length names = grind (arith, e) in
        get_or_push before (get_or last (bucket_of m y) 0) 0 i (count ∙ sym at) ∙ l.ends (bucket_of m y) within
        ∙ (λ j. last_below (is_in_bucket m (bucket_of m y)) names (sym at j)) ∙ sym (below_more (is_in_bucket m (bucket_of m y)) names (y ∷ []) i (omega (arith, at)))
        ∙ (λ j. last_below (is_in_bucket m (bucket_of m (sym (get_or_push names y [] i (sym at)) j))) (names ++ y ∷ []) i)
    by false e =
        let here : i < length names = grind (arith, e, low, length-append names (y ∷ [])) in
        get_or_append_left before (get_or last (bucket_of m y) 0 ∷ []) 0 i (omega (arith, here, count)) ∙ l.links i here
        ∙ sym (below_more (is_in_bucket m (bucket_of m (get_or names i []))) names (y ∷ []) i (omega (arith, here)))
        ∙ (λ j. last_below (is_in_bucket m (bucket_of m (sym (get_or_append_left names (y ∷ []) [] i here) j))) (names ++ y ∷ []) i)

finds_after : (c d : Chains) (names : List (List ℕ)) (y : List ℕ) → HasPlace c → bucket_of (length c.last) y < length c.last → d.last ≡ set c.last (bucket_of (length c.last) y) (length c.before + 1)
    → d.before ≡ c.before ++ get_or c.last (bucket_of (length c.last) y) 0 ∷ [] → d.capacity ≡ c.capacity → Finds c names → Finds d (names ++ y ∷ [])
finds_after c d names y place within last before capacity f = record {
  leads = subst (λ (xs : List ℕ). Leads (length xs) xs d.before (names ++ y ∷ [])) (sym last)
      (subst (λ (ys : List ℕ). Leads (length (set c.last h (length c.before + 1))) (set c.last h (length c.before + 1)) ys (names ++ y ∷ [])) (sym before)
      (subst (λ (m : ℕ). Leads m (set c.last h (length c.before + 1)) (c.before ++ get_or c.last h 0 ∷ []) (names ++ y ∷ [])) (sym (length-set c.last h (length c.before + 1)))
      (leads_more (length c.last) c.last c.before names y refl f.count within f.leads)));
  count = ap length before ∙ omega (arith, length-append c.before (get_or c.last h 0 ∷ []), length-append names (y ∷ []), f.count);
  wide = omega (arith, ap length last, length-set c.last h (length c.before + 1), length-append names (y ∷ []), place.0, f.count);
  room = omega (arith, capacity, length-append names (y ∷ []), place.1, f.count);
} where
  h : ℕ
  h = bucket_of (length c.last) y

pub finds_more : (c u d : Chains) (names : List (List ℕ)) (y : List ℕ) (b n x : ℕ) → u ≡ c → HasPlace c → b ≡ bucket_of (length u.last) y → b < length u.last → x ≡ get_or u.last b x
    → d.before ≡ u.before ++ x ∷ [] → n ≡ length d.before → d.last ≡ set u.last b n → d.capacity ≡ u.capacity → Finds c names → Finds d (names ++ y ∷ [])
finds_more c u d names y b n x same place is low at before long last capacity f = finds_after u d names y (subst HasPlace (sym same) place) (subst (λ (k : ℕ). k < length u.last) is low)
    (last ∙ (λ j. set u.last (is j) (count j))) (before ∙ (λ j. u.before ++ link j ∷ [])) capacity (subst (λ (v : Chains). Finds v names) (sym same) f) where
      count : n ≡ length u.before + 1
      count = long ∙ ap length before ∙ omega (arith, length-append u.before (x ∷ []))

      link : x ≡ get_or u.last (bucket_of (length u.last) y) 0
      link = at ∙ get_or_default u.last b x 0 low ∙ (λ j. get_or u.last (is j) 0)

-- ---- a name is looked for

-- What is left to look at, below a place: names in one bucket, with the last of this name among them.
pub record Reaches (m : ℕ) (names : List (List ℕ)) (name : List ℕ) (place : ℕ) : Type 0 where
  pub within : place ≤ length names
  pub bucket : (i : ℕ) → place ≡ suc i → is_in_bucket m (bucket_of m name) (get_or names i []) ≡ true
  pub last : last_below (λ x. bytes_eq x name) names (length names) ≡ last_below (λ x. bytes_eq x name) names place

same_bucket : (m : ℕ) (name x : List ℕ) → bytes_eq x name ≡ true → is_in_bucket m (bucket_of m name) x ≡ true
same_bucket m name x e =
    let same : bucket_of m x ≡ bucket_of m name = ap (bucket_of m) ((bytes_eq-Decides x name).0 e) in
    grind (arith, same)

reach : (m : ℕ) (names : List (List ℕ)) (name : List ℕ) (k place : ℕ) → k ≤ length names → place ≡ last_below (is_in_bucket m (bucket_of m name)) names k
    → last_below (λ x. bytes_eq x name) names (length names) ≡ last_below (λ x. bytes_eq x name) names k → Reaches m names name place
reach m names name k place low is last = record {
  within = omega (arith, is, low, below_most (is_in_bucket m (bucket_of m name)) names k);
  bucket = λ i e. (below_found (is_in_bucket m (bucket_of m name)) names k i (sym is ∙ e)).1;
  last = last ∙ below_implied (λ x. bytes_eq x name) (is_in_bucket m (bucket_of m name)) (same_bucket m name) names k ∙ (λ j. last_below (λ x. bytes_eq x name) names (sym is j));
}

-- from the last name in its bucket on
pub reach_first : (c : Chains) (names : List (List ℕ)) (name : List ℕ) (b place : ℕ) → Finds c names → b ≡ bucket_of (length c.last) name → b < length c.last → place ≡ get_or c.last b place → Reaches (length c.last) names name place
reach_first c names name b place f is low at =
    reach (length c.last) names name (length names) place (omega arith)
    (at ∙ get_or_default c.last b place 0 low ∙ f.leads.ends b low ∙ (λ j. last_below (is_in_bucket (length c.last) (is j)) names (length names))) refl

-- to the one before, where the name isn't this one
pub reach_next : (c : Chains) (names : List (List ℕ)) (name x : List ℕ) (i place next : ℕ) → place ≡ suc i → Finds c names → get_or names i [] ≡ x → bytes_eq x name ≡ false → next ≡ get_or c.before i next
    → Reaches (length c.last) names name place → Reaches (length c.last) names name next
reach_next c names name x i place next is f at other to r =
    reach m names name i next (omega (arith, low)) (to ∙ get_or_default c.before i next 0 (omega (arith, low, f.count)) ∙ f.leads.links i low ∙ (λ j. last_below (is_in_bucket m (bucket j)) names i))
    (r.last ∙ (λ j. last_below (λ x. bytes_eq x name) names (is j)) ∙ below_one (λ x. bytes_eq x name) names i ((λ j. bytes_eq (at j) name) ∙ other)) where
      m : ℕ
      m = length c.last

      low : i < length names
      low = omega (arith, r.within, is)

      bucket : bucket_of m (get_or names i []) ≡ bucket_of m name
      bucket = grind (arith, r.bucket i is)

pub reach_smaller : (c : Chains) (names : List (List ℕ)) (name : List ℕ) (i place next : ℕ) → place ≡ suc i → Finds c names → next ≡ get_or c.before i next → Reaches (length c.last) names name place → next < place
reach_smaller c names name i place next is f to r =
    let m = length c.last in
    let low : i < length names = omega (arith, r.within, is) in
    let before : next ≡ last_below (is_in_bucket m (bucket_of m (get_or names i []))) names i = to ∙ get_or_default c.before i next 0 (omega (arith, low, f.count)) ∙ f.leads.links i low in
    omega (arith, is, before, below_most (is_in_bucket m (bucket_of m (get_or names i []))) names i)

pub name_at : (gs : List Group) (i : ℕ) (g : Group) → i < length gs → g ≡ get_or gs i g → get_or (names_of gs) i [] ≡ g.name
name_at gs i g low at = get_or-map (λ (x : Group). x.name) gs i g [] low ∙ ap (λ (x : Group). x.name) (sym at)

-- ---- protocols of a name

pub protocol_name_at : (ps : List Protocol) (i : ℕ) (p : Protocol) → i < length ps → p ≡ get_or ps i p → get_or (protocol_names ps) i [] ≡ p.name
protocol_name_at ps i p low at = get_or-map (λ (x : Protocol). x.name) ps i p [] low ∙ ap (λ (x : Protocol). x.name) (sym at)

or_true : (b : Bool) → (b || true) ≡ true
or_true true = refl
or_true false = refl

known_at : (name : List ℕ) (ps : List Protocol) (i : ℕ) (p : Protocol) → i < length ps → p ≡ get_or ps i p → bytes_eq p.name name ≡ true → knows name ps ≡ true
known_at name [] i p low at e = absurd (omega (arith, low))
known_at name (q ∷ qs) zero p low at e = λ j. ((λ k. bytes_eq (sym at k).name name) ∙ e) j || knows name qs
known_at name (q ∷ qs) (suc i) p low at e = (λ j. bytes_eq q.name name || known_at name qs i p (omega (arith, low)) at e j) ∙ or_true (bytes_eq q.name name)

pub found_known : (name : List ℕ) (ps : List Protocol) (i : ℕ) (p : Protocol) → i < length ps → p ≡ get_or ps i p → bytes_eq p.name name ≡ true → true ≡ knows name ps
found_known name ps i p low at e = sym (known_at name ps i p low at e)

none_known : (name : List ℕ) (ps : List Protocol) → ((i : ℕ) → i < length ps → bytes_eq (get_or (protocol_names ps) i []) name ≡ false) → knows name ps ≡ false
none_known name [] no_one = refl
none_known name (p ∷ ps) no_one = (λ j. no_one 0 (omega arith) j || knows name ps) ∙ none_known name ps (λ i low. no_one (suc i) (omega (arith, low)))

pub not_known : (m place : ℕ) (ps : List Protocol) (name : List ℕ) → place ≡ 0 → Reaches m (protocol_names ps) name place → false ≡ knows name ps
not_known m place ps name none r =
    let nowhere : last_below (λ x. bytes_eq x name) (protocol_names ps) (length (protocol_names ps)) ≡ 0 = r.last ∙ (λ j. last_below (λ x. bytes_eq x name) (protocol_names ps) (none j)) in
    let long : length (protocol_names ps) ≡ length ps = length-map ps (λ (x : Protocol). x.name) in
    sym (none_known name ps (λ i low. below_none (λ x. bytes_eq x name) (protocol_names ps) (length (protocol_names ps)) i nowhere (omega (arith, low, long))))

-- one protocol more
pub known_pushed : (c d : Chains) (ps qs : List Protocol) (p : Protocol) (name : List ℕ) → name ≡ p.name → qs ≡ ps ++ p ∷ [] → Finds c (protocol_names ps)
    → ((names : List (List ℕ)) → Finds c names → Finds d (names ++ name ∷ [])) → Finds d (protocol_names qs)
known_pushed c d ps qs p name is made f more =
    subst (λ (xs : List Protocol). Finds d (protocol_names xs)) (sym made)
    (subst (Finds d) (sym (map-append (λ (x : Protocol). x.name) ps (p ∷ [])))
    (subst (λ (n : List ℕ). Finds d (protocol_names ps ++ n ∷ [])) is (more (protocol_names ps) f)))

-- ---- what is found is the first of that name

all_at : (P : Group → Type 0) (gs : List Group) (i : ℕ) (g : Group) → i < length gs → g ≡ get_or gs i g → AllByRecursion P gs → P g
all_at P [] i g low at all = absurd (omega (arith, low))
all_at P (y ∷ ys) zero g low at all = subst P (sym at) all.0
all_at P (y ∷ ys) (suc i) g low at all = all_at P ys i g (omega (arith, low)) at all.1

first_named : (name : List ℕ) (gs : List Group) (i : ℕ) (g : Group) → i < length gs → g ≡ get_or gs i g → AreApart gs → is_named name g ≡ true → position_or_len (is_named name) gs ≡ i
first_named name [] i g low at apart e = absurd (omega (arith, low))
first_named name (y ∷ ys) zero g low at apart e = λ j. cond (not (((λ k. is_named name (sym at k)) ∙ e) j)) (1 + position_or_len (is_named name) ys) 0
first_named name (y ∷ ys) (suc i) g low at apart e = by (is_named name y) refl (first_named name ys i g (omega (arith, low)) at apart.1 e) where
  clash : is_named name y ≡ true → true ≡ false
  clash f =
      let same : y.name ≡ name = (bytes_eq-Decides y.name name).0 f in
      sym e ∙ (λ j. is_named (sym same j) g) ∙ all_at (λ h. is_named y.name h ≡ false) ys i g (omega (arith, low)) at apart.0

  by : (b : Bool) → is_named name y ≡ b → position_or_len (is_named name) ys ≡ i → cond (not b) (1 + position_or_len (is_named name) ys) 0 ≡ suc i
  by true f r = absurd (grind (arith, clash f))
  by false f r = omega (arith, r)

pub found_named : (name : List ℕ) (gs : List Group) (i : ℕ) (g : Group) → i < length gs → g ≡ get_or gs i g → AreApart gs → is_named name g ≡ true → Some i ≡ position (is_named name) gs
found_named name gs i g low at apart e =
    let place : position_or_len (is_named name) gs ≡ i = first_named name gs i g low at apart e in
    let within : nat_lt (position_or_len (is_named name) gs) (length gs) ≡ true = grind (arith, place, low) in
    (λ j. Some (sym place j)) ∙ (λ j. cond (sym within j) (Some (position_or_len (is_named name) gs)) None)

none_named : (name : List ℕ) (gs : List Group) → ((i : ℕ) → i < length gs → bytes_eq (get_or (names_of gs) i []) name ≡ false) → position_or_len (is_named name) gs ≡ length gs
none_named name [] no_one = refl
none_named name (g ∷ gs) no_one =
    let rest : position_or_len (is_named name) gs ≡ length gs = none_named name gs (λ i low. no_one (suc i) (omega (arith, low))) in
    let first : position_or_len (is_named name) (g ∷ gs) ≡ 1 + position_or_len (is_named name) gs = λ j. cond (not (no_one 0 (omega arith) j)) (1 + position_or_len (is_named name) gs) 0 in
    omega (arith, first, rest)

pub not_named : (m place : ℕ) (gs : List Group) (name : List ℕ) → place ≡ 0 → Reaches m (names_of gs) name place → None ≡ position (is_named name) gs
not_named m place gs name none r =
    let nowhere : last_below (λ x. bytes_eq x name) (names_of gs) (length (names_of gs)) ≡ 0 = r.last ∙ (λ j. last_below (λ x. bytes_eq x name) (names_of gs) (none j)) in
    let long : length (names_of gs) ≡ length gs = length-map gs (λ (x : Group). x.name) in
    let past : position_or_len (is_named name) gs ≡ length gs = none_named name gs (λ i low. below_none (λ x. bytes_eq x name) (names_of gs) (length (names_of gs)) i nowhere (omega (arith, low, long))) in
    let beyond : nat_lt (position_or_len (is_named name) gs) (length gs) ≡ false = grind (arith, past) in
    λ j. cond (sym beyond j) (Some (position_or_len (is_named name) gs)) None

-- ---- groups that keep their names

pub finds_as : (c : Chains) (gs hs : List Group) → names_of hs ≡ names_of gs → Finds c (names_of gs) → Finds c (names_of hs)
finds_as c gs hs same f = subst (Finds c) (sym same) f

names_set : (gs : List Group) (i : ℕ) (g h : Group) → i < length gs → g ≡ get_or gs i g → h.name ≡ g.name → names_of (set gs i h) ≡ names_of gs
names_set [] i g h low at is = refl
names_set (y ∷ ys) zero g h low at is = λ j. (is ∙ ap (λ (x : Group). x.name) at) j ∷ names_of ys
names_set (y ∷ ys) (suc i) g h low at is = λ j. y.name ∷ names_set ys i g h (omega (arith, low)) at is j

-- the group at an index changes, and keeps its name
pub finds_set : (c : Chains) (gs : List Group) (i : ℕ) (g h : Group) → i < length gs → g ≡ get_or gs i g → h.name ≡ g.name → Finds c (names_of gs) → Finds c (names_of (set gs i h))
finds_set c gs i g h low at is f = finds_as c gs (set gs i h) (names_set gs i g h low at is) f

-- one group more
pub finds_pushed : (c d : Chains) (gs hs : List Group) (g : Group) (name : List ℕ) → name ≡ g.name → hs ≡ gs ++ g ∷ [] → Finds c (names_of gs)
    → ((names : List (List ℕ)) → Finds c names → Finds d (names ++ name ∷ [])) → Finds d (names_of hs)
finds_pushed c d gs hs g name is made f more =
    subst (λ (xs : List Group). Finds d (names_of xs)) (sym made)
    (subst (Finds d) (sym (map-append (λ (x : Group). x.name) gs (g ∷ [])))
    (subst (λ (n : List ℕ). Finds d (names_of gs ++ n ∷ [])) is (more (names_of gs) f)))

-- ---- groups that went

-- What is known once some groups went: those of which fewer are left.
abbrev pub Fewer : Chains → List Group → Type 0
Fewer c hs = (names : List (List ℕ)) × Finds c names × (length hs ≤ length names) × (length hs ≡ length names → names_of hs ≡ names)

fewer_left : (t : Group → Bool) (gs : List Group) → length (filter t gs) ≤ length gs
fewer_left t [] = omega arith
fewer_left t (g ∷ gs) = by (t g) (fewer_left t gs) where
  by : (b : Bool) → length (filter t gs) ≤ length gs → length (cond b (g ∷ filter t gs) (filter t gs)) ≤ length (g ∷ gs)
  by true r = omega (arith, r)
  by false r = omega (arith, r)

all_left : (t : Group → Bool) (gs : List Group) → length (filter t gs) ≡ length gs → filter t gs ≡ gs
all_left t [] e = refl
all_left t (g ∷ gs) e = by (t g) e (all_left t gs) where
  by : (b : Bool) → length (cond b (g ∷ filter t gs) (filter t gs)) ≡ length (g ∷ gs) → (length (filter t gs) ≡ length gs → filter t gs ≡ gs) → cond b (g ∷ filter t gs) (filter t gs) ≡ g ∷ gs
  by true e r = λ j. g ∷ r (omega (arith, e)) j
  by false e r = absurd (omega (arith, e, fewer_left t gs))

pub filter_known : (c : Chains) (t : Group → Bool) (gs hs : List Group) → hs ≡ filter t gs → Finds c (names_of gs) → Fewer c hs
filter_known c t gs hs made f =
    let long : length (names_of gs) ≡ length gs = length-map gs (λ (x : Group). x.name) in
    let kept : length hs ≡ length (filter t gs) = ap length made in
    (names_of gs, f, omega (arith, long, kept, fewer_left t gs), λ e. ap names_of (made ∙ all_left t gs (omega (arith, kept, e, long))))

back_most : (gs : List Group) (i : ℕ) (g : Group) → i < length gs → length (put_back gs i g) ≤ length gs
back_most [] i g low = absurd (omega (arith, low))
back_most (y ∷ ys) zero g low = by (0 == length g.members) where
  by : (b : Bool) → length (cond b [] (g ∷ []) ++ ys) ≤ length (y ∷ ys)
  by true = omega arith
  by false = omega arith
back_most (y ∷ ys) (suc i) g low = omega (arith, back_most ys i g (omega (arith, low)))

back_all : (gs : List Group) (i : ℕ) (g : Group) → i < length gs → g ≡ get_or gs i g → length (put_back gs i g) ≡ length gs → names_of (put_back gs i g) ≡ names_of gs
back_all [] i g low at e = absurd (omega (arith, low))
back_all (y ∷ ys) zero g low at e = by (0 == length g.members) e where
  by : (b : Bool) → length (cond b [] (g ∷ []) ++ ys) ≡ length (y ∷ ys) → names_of (cond b [] (g ∷ []) ++ ys) ≡ names_of (y ∷ ys)
  by true e = absurd (omega (arith, e))
  by false e = λ j. ap (λ (x : Group). x.name) at j ∷ names_of ys
back_all (y ∷ ys) (suc i) g low at e = λ j. y.name ∷ back_all ys i g (omega (arith, low)) at (omega (arith, e)) j

pub back_known : (c : Chains) (gs hs : List Group) (i : ℕ) → i < length gs → ((g : Group) → g ≡ get_or gs i g → hs ≡ put_back gs i g) → Finds c (names_of gs) → Fewer c hs
back_known c gs hs i low made f =
    let at = at_index gs i low in
    let long : length (names_of gs) ≡ length gs = length-map gs (λ (x : Group). x.name) in
    let back : hs ≡ put_back gs i at.0 = made at.0 at.1 in
    let kept : length hs ≡ length (put_back gs i at.0) = ap length back in
    (names_of gs, f, omega (arith, long, kept, back_most gs i at.0 low), λ e. ap names_of back ∙ back_all gs i at.0 low at.1 (omega (arith, kept, e, long)))

-- the names of groups of which a reply was sent
sent_names : (k : ℕ) (gs : List Group) → names_of (map (sent_group k) gs) ≡ names_of gs
sent_names k [] = refl
sent_names k (g ∷ gs) = λ i. g.name ∷ sent_names k gs i

-- a slice that was written over a whole list
pub written_all : {X : Type 0} (n : ℕ) (gs hs : List X) → length gs ≡ n → length hs ≡ n → take n (hs ++ drop (length hs) gs) ≡ hs
written_all n gs hs whole same =
    (λ j. take n (hs ++ drop_all (length hs) gs (omega (arith, whole, same)) j)) ∙ (λ j. take n (append-nil hs j)) ∙ take_all n hs (omega (arith, same))

pub finds_sent : (c : Chains) (k n : ℕ) (gs us hs : List Group) → us ≡ gs → length us ≡ n → hs ≡ map (sent_group k) us → Finds c (names_of gs) → Finds c (names_of (take n (hs ++ drop (length hs) gs)))
finds_sent c k n gs us hs same long made f =
    let of_us : length us ≡ length gs = ap length same in
    let of_hs : length hs ≡ length us = ap length made ∙ length-map us (sent_group k) in
    finds_as c gs (take n (hs ++ drop (length hs) gs)) (ap names_of (written_all n gs hs (omega (arith, of_us, long)) (of_hs ∙ long) ∙ made) ∙ sent_names k us ∙ ap names_of same) f

pub back_as : (us vs hs : List Group) (i : ℕ) → us ≡ vs → ((g : Group) → g ≡ get_or us i g → hs ≡ put_back us i g) → (g : Group) → g ≡ get_or vs i g → hs ≡ put_back vs i g
back_as us vs hs i same made g at = made g (at ∙ (λ j. get_or (sym same j) i g)) ∙ (λ j. put_back (same j) i g)

-- the group at an index got a member, or didn't
pub finds_added : {T E : Type 0} (c : Chains) (gs : List Group) (i : ℕ) (g h : Group) (m : Member) (r : Result T E) → i < length gs → g ≡ get_or gs i g → OnOk r (h ≡ with_last m g) → OnErr r (h ≡ g) → Finds c (names_of gs)
    → Finds c (names_of (set gs i h))
finds_added c gs i g h m (Ok x) low at adds same f = finds_set c gs i g h low at (ap (λ (x : Group). x.name) adds) f
finds_added c gs i g h m (Err e) low at adds same f = finds_set c gs i g h low at (ap (λ (x : Group). x.name) same) f

pub adds_at : {T E : Type 0} (us vs : List Group) (i : ℕ) (g h : Group) (m : Member) (r : Result T E) → us ≡ vs → i < length vs → g ≡ get_or us i g → OnOk r (h ≡ with_last m g)
    → OnOk r ((x : Group) → x ≡ get_or vs i x → set us i h ≡ set vs i (with_last m x))
adds_at us vs i g h m (Ok y) same low at adds = λ x there.
    let one : g ≡ x = same_at vs i g x low (at ∙ (λ j. get_or (same j) i g)) there in
    (λ j. set (same j) i (adds j)) ∙ (λ j. set vs i (with_last m (one j)))
adds_at us vs i g h m (Err e) same low at adds = tt

set_same : (us : List Group) (i : ℕ) (g : Group) → g ≡ get_or us i g → set us i g ≡ us
set_same [] i g at = refl
set_same (u ∷ us) zero g at = λ j. at j ∷ us
set_same (u ∷ us) (suc i) g at = λ j. u ∷ set_same us i g at j

pub stays_at : {T E : Type 0} (us vs : List Group) (i : ℕ) (g h : Group) (r : Result T E) → us ≡ vs → g ≡ get_or us i g → OnErr r (h ≡ g) → OnErr r (set us i h ≡ vs)
stays_at us vs i g h (Ok y) same at is = tt
stays_at us vs i g h (Err e) same at is = (λ j. set us i (is j)) ∙ set_same us i g at ∙ same
