-- The parts that a leader gives, and those that members get of them.
use Rattle.std.proofs.Common.{◌≡◌, ℕ, zero, suc, ◌+◌, ◌<◌, ◌≤◌, Bool, true, false, cond, List, [], ◌∷◌, ◌++◌, map, take, drop, length, get_or, set, min, refl, sym, ap, subst, ◌∙◌, arith, append-nil, drop_of_length-le}
use Rattle.std.specs.Prelude.{Option, Some}
use Rattle.std.specs.List.{sum_by, fold}
use Rattle.std.specs.Map.{lookup}
use Rattle.std.specs.Str.{bytes_eq}
use Rattle.std.proofs.lemmas.List.{take_more, take_all, drop_more, map-append}
use Rattle.std.proofs.lemmas.List.Sums.{sum_by_more, sum_by_push}
use Rattle.std.proofs.lemmas.Int.{clamps}
use Rattle.indexmap.specs.IndexMap as index
use Rattle.group_coordinator.specs.Members.{Member}
use Rattle.group_coordinator.specs.Requests.{Part}
use Rattle.group_coordinator.specs.Joining.{assigned, part_of}
use Rattle.group_coordinator.specs.Giving.{Borrowed, borrowed_eq, bytes_of, GivesLast, parts_for, with_part}
use Rattle.group_coordinator.proofs.Places.{changed_more}

part_of_more : (found id : List ℕ) (ps : List Part) (p : Part) → fold (λ (f : List ℕ) (x : Part). cond (bytes_eq x.id id) x.part f) found (ps ++ p ∷ [])
    ≡ cond (bytes_eq p.id id) p.part (fold (λ (f : List ℕ) (x : Part). cond (bytes_eq x.id id) x.part f) found ps)
part_of_more found id [] p = refl
part_of_more found id (x ∷ xs) p = part_of_more (cond (bytes_eq x.id id) x.part found) id xs p

module _ {S : Type 0} where
  pub gives_none : (m : index.IndexMap Borrowed Borrowed S) → index.IsEmpty m → index.IsUnique borrowed_eq m → GivesLast m []
  gives_none m empty unique = record { unique = unique; each = λ q. ap (λ (es : List (Borrowed × Borrowed)). bytes_of (lookup (borrowed_eq q) es)) empty }

  -- one entry more
  pub gives_more : (m n : index.IndexMap Borrowed Borrowed S) (ps : List Part) (p : Part) (k v : Borrowed) → k.now ≡ p.id → v.now ≡ p.part → index.IsUnique borrowed_eq n
      → ((q : Borrowed) → index.get borrowed_eq n q ≡ cond (borrowed_eq k q) (Some v) (index.get borrowed_eq m q)) → GivesLast m ps → GivesLast n (ps ++ p ∷ [])
  gives_more m n ps p k v key part unique updates before = record {
    unique = unique;
    each = λ q.
        ap bytes_of (updates q) ∙ found (borrowed_eq k q) (index.get borrowed_eq m q)
        ∙ (λ i. cond (bytes_eq (key i) q.now) (part i) (before.each q i)) ∙ sym (part_of_more [] q.now ps p);
  } where
    found : (b : Bool) (o : Option Borrowed) → bytes_of (cond b (Some v) o) ≡ cond b v.now (bytes_of o)
    found true o = refl
    found false o = refl

  pub gives_next : (m n : index.IndexMap Borrowed Borrowed S) (ps : List Part) (i : ℕ) (p : Part) → i < length ps → p ≡ get_or ps i p → ((qs : List Part) → GivesLast m qs → GivesLast n (qs ++ p ∷ []))
      → GivesLast m (take i ps) → GivesLast n (take (i + 1) ps)
  gives_next m n ps i p low is step before = subst (GivesLast n) ((λ j. take i ps ++ is j ∷ []) ∙ sym (take_more ps i p low)) (step (take i ps) before)

  pub gives_all : (m : index.IndexMap Borrowed Borrowed S) (ps : List Part) (i : ℕ) → length ps ≤ i → GivesLast m (take i ps) → GivesLast m ps
  gives_all m ps i high before = subst (GivesLast m) (take_all i ps high) before

-- a sum that stops at the greatest number
sum_step : (s x b r most : ℕ) → b ≡ min s most → r ≡ min (x + b) most → r ≡ min (s + x) most
sum_step s x b r most = λ e f. omega (arith, clamps, e, f)

pub lengths_more : (f : Member → ℕ) (ms : List Member) (i : ℕ) (m : Member) (x b r most : ℕ) → i < length ms → m ≡ get_or ms i m → x ≡ f m → b ≡ min (sum_by f (take i ms)) most → r ≡ min (x + b) most
    → r ≡ min (sum_by f (take (i + 1) ms)) most
lengths_more f ms i m x b r most low is one before made =
    let all : sum_by f (take (i + 1) ms) ≡ sum_by f (take i ms) + x = ap (sum_by f) (take_more ms i m low ∙ (λ j. take i ms ++ sym is j ∷ [])) ∙ sum_by_push f (take i ms) m ∙ (λ j. sum_by f (take i ms) + sym one j) in
    sum_step (sum_by f (take i ms)) x b r most before made ∙ (λ j. min (sym all j) most)

sum_of_map : (f : Member → List ℕ) (before : ℕ) (ms : List Member) → fold (λ (a : ℕ) (x : List ℕ). a + length x) before (map f ms) ≡ fold (λ (a : ℕ) (m : Member). a + length (f m)) before ms
sum_of_map f before [] = refl
sum_of_map f before (m ∷ ms) = sum_of_map f (before + length (f m)) ms

pub given_lengths : (ps : List Part) (ms : List Member) → sum_by length (parts_for ps ms) ≡ sum_by (λ (m : Member). length (part_of ps m.id)) ms
given_lengths ps ms = sum_of_map (λ m. part_of ps m.id) 0 ms

-- one member more gets its part
pub parts_more : (ps : List Part) (ms : List Member) (i : ℕ) (m : Member) (xs ys : List (List ℕ)) (x : List ℕ) → i < length ms → m ≡ get_or ms i m → x ≡ part_of ps m.id → ys ≡ xs ++ x ∷ []
    → xs ≡ parts_for ps (take i ms) → ys ≡ parts_for ps (take (i + 1) ms)
parts_more ps ms i m xs ys x low is one made before =
    made ∙ (λ j. before j ++ one j ∷ [])
    ∙ sym (ap (parts_for ps) (take_more ms i m low ∙ (λ j. take i ms ++ sym is j ∷ [])) ∙ map-append (λ (y : Member). part_of ps y.id) (take i ms) (m ∷ []))

-- ---- each member gets its part

abbrev Gets : (now : ℕ) → List Part → (all members : List Member) → (left : List (List ℕ)) → ℕ → Type 0
Gets now ps all ms left i = (ms ≡ map (assigned now ps) (take i all) ++ drop i all) × (left ≡ parts_for ps (drop i all))

there : (f : Member → Member) (xs : List Member) (i : ℕ) (d : Member) → get_or (map f (take i xs) ++ drop i xs) i d ≡ get_or xs i d
there f [] zero d = refl
there f [] (suc i) d = refl
there f (x ∷ xs) zero d = refl
there f (x ∷ xs) (suc i) d = there f xs i d

pub gets_next : (now : ℕ) (ps : List Part) (xs ys : List Member) (i : ℕ) (m n : Member) (before behind : List (List ℕ)) → i < length xs → m ≡ get_or ys i m
    → ((p : List ℕ) (qs : List (List ℕ)) → before ≡ p ∷ qs → n ≡ with_part now p (get_or ys i m)) → ((p : List ℕ) (qs : List (List ℕ)) → before ≡ p ∷ qs → behind ≡ qs)
    → Gets now ps xs ys before i → Gets now ps xs (set ys i n) behind (i + 1)
gets_next now ps xs ys i m n before behind low is one rest so_far =
    let here : m ≡ get_or xs i m = is ∙ (λ j. get_or (so_far.0 j) i m) ∙ there (assigned now ps) xs i m in
    let left : before ≡ part_of ps m.id ∷ parts_for ps (drop (i + 1) xs) = so_far.1 ∙ ap (parts_for ps) (drop_more xs i m low ∙ (λ j. sym here j ∷ drop (i + 1) xs)) in
    let made : n ≡ assigned now ps (get_or ys i m) = one (part_of ps m.id) (parts_for ps (drop (i + 1) xs)) left ∙ (λ j. with_part now (part_of ps (is j).id) (get_or ys i m)) in
    (changed_more (assigned now ps) xs ys i m n low so_far.0 is made, rest (part_of ps m.id) (parts_for ps (drop (i + 1) xs)) left)

pub gets_all : (now : ℕ) (ps : List Part) (xs ys : List Member) (i : ℕ) (left : List (List ℕ)) → length xs ≤ i → Gets now ps xs ys left i → ys ≡ map (assigned now ps) xs
gets_all now ps xs ys i left high so_far =
    so_far.0 ∙ (λ j. map (assigned now ps) (take_all i xs high j) ++ drop_of_length-le xs high j) ∙ append-nil (map (assigned now ps) xs)

-- one member more
pub given_more : (ps : List Part) (ms : List Member) (i : ℕ) (m : Member) (id : List ℕ) (bytes p r : ℕ) → i < length ms → m ≡ get_or ms i m → id ≡ m.id → p ≡ length (part_of ps id)
    → bytes ≡ min (sum_by (λ (x : Member). length (part_of ps x.id)) (take i ms)) 18446744073709551615 → r ≡ min (p + bytes) 18446744073709551615
    → r ≡ min (sum_by (λ (x : Member). length (part_of ps x.id)) (take (i + 1) ms)) 18446744073709551615
given_more ps ms i m id bytes p r low at named own before is =
    let one : p ≡ length (part_of ps (get_or ms i m).id) = own ∙ (λ j. length (part_of ps (named j))) ∙ (λ j. length (part_of ps (at j).id)) in
    let all : sum_by (λ (x : Member). length (part_of ps x.id)) (take (i + 1) ms) ≡ sum_by (λ (x : Member). length (part_of ps x.id)) (take i ms) + p =
    omega (arith, one, sum_by_more (λ (x : Member). length (part_of ps x.id)) ms i m low) in
    capped_more (sum_by (λ (x : Member). length (part_of ps x.id)) (take i ms)) p bytes r before is ∙ (λ j. min (sym all j) 18446744073709551615) where
      capped_more : (a p b r : ℕ) → b ≡ min a 18446744073709551615 → r ≡ min (p + b) 18446744073709551615 → r ≡ min (a + p) 18446744073709551615
      capped_more a p b r before is = omega (arith, clamps, before, is)
