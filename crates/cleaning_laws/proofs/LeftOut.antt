-- Steps that differ only in those that are left out: the results of the others are the same, from any two states that a
-- relation holds of, where each step keeps it, and the ones left out keep it though only one side takes them.
use Rattle.std.proofs.Common.{◌≡◌, Bool, true, false, cond, List, [], ◌∷◌, refl, sym, ap, subst, ◌∙◌, true≢false}
use Rattle.std.specs.List.{filter}
use Rattle.answering.specs.Lists.{map_accum}
use Rattle.cleaning_laws.specs.Cleans.{results_where}

-- equal lists have equal first elements and equal rests
first_of : {X : Type 0} (x y : X) (xs ys : List X) → x ∷ xs ≡ y ∷ ys → x ≡ y
first_of x y xs ys e = cc

rest_of : {X : Type 0} (x y : X) (xs ys : List X) → x ∷ xs ≡ y ∷ ys → xs ≡ ys
rest_of x y xs ys e = cc

none_more : {X : Type 0} (x : X) (xs : List X) → [] ≡ x ∷ xs → ⊥
none_more x xs e = cc

-- each is good in the state that those before it leave
abbrev pub AreGood : {S X Y : Type 0} → (S → X → Y × S) → (S → X → Type 0) → S → List X → Type 0
AreGood step IsGood s [] = Unit {0}
AreGood step IsGood s (x ∷ xs) = IsGood s x × AreGood step IsGood (step s x).1 xs

module _ {S X Y : Type 0} (step : S → X → Y × S) (stays shown : X → Bool) (IsGood : S → X → Type 0) (Alike : S → S → Type 0)
    (shown_stays : (x : X) → shown x ≡ true → stays x ≡ true)
    (both : (s z : S) (x : X) → stays x ≡ true → IsGood s x → IsGood z x → Alike s z → Alike (step s x).1 (step z x).1)
    (results : (s z : S) (x : X) → shown x ≡ true → IsGood s x → IsGood z x → Alike s z → (step s x).0 ≡ (step z x).0)
    (on_one : (s z : S) (x : X) → stays x ≡ false → IsGood s x → Alike s z → Alike (step s x).1 z)
    (on_other : (s z : S) (x : X) → stays x ≡ false → IsGood z x → Alike s z → Alike s (step z x).1) where
  abbrev shown_results : S → List X → List Y
  shown_results s xs = results_where shown xs (map_accum step s xs).0

  abbrev end_of : S → List X → S
  end_of s xs = (map_accum step s xs).1

  -- the results of what is shown are the same, and the states after are alike
  abbrev EndAlike : S → S → List X → List X → Type 0
  EndAlike s z xs ys = (shown_results s xs ≡ shown_results z ys) × Alike (end_of s xs) (end_of z ys)

  -- a step that is left out shows nothing
  hides : (x : X) → stays x ≡ false → shown x ≡ false
  hides x out = by (shown x) refl
    where
      by : (b : Bool) → shown x ≡ b → shown x ≡ false
      by false e = e
      by true e = absurd (true≢false (sym (shown_stays x e) ∙ out))

  passes : (s : S) (x : X) (xs : List X) → stays x ≡ false → shown_results (step s x).1 xs ≡ shown_results s (x ∷ xs)
  passes s x xs out = ap (λ (b : Bool). cond b ((step s x).0 ∷ shown_results (step s x).1 xs) (shown_results (step s x).1 xs)) (sym (hides x out))

  shows : (s z : S) (x : X) (xs ys : List X) → IsGood s x → IsGood z x → Alike s z → shown_results (step s x).1 xs ≡ shown_results (step z x).1 ys → shown_results s (x ∷ xs) ≡ shown_results z (x ∷ ys)
  shows s z x xs ys good goods alike same = by (shown x) refl
    where
      by : (b : Bool) → shown x ≡ b → cond b ((step s x).0 ∷ shown_results (step s x).1 xs) (shown_results (step s x).1 xs) ≡ cond b ((step z x).0 ∷ shown_results (step z x).1 ys) (shown_results (step z x).1 ys)
      by true e = λ i. results s z x e good goods alike i ∷ same i
      by false e = same

  pub same_but_left_out : (s z : S) (xs ys : List X) → filter stays xs ≡ filter stays ys → AreGood step IsGood s xs → AreGood step IsGood z ys → Alike s z → EndAlike s z xs ys
  same_but_left_out s z [] [] same good goods alike = (refl, alike)
  same_but_left_out s z [] (y ∷ ys) same good goods alike = by (stays y) refl same (same_but_left_out s (step z y).1 [] ys)
    where
      by : (b : Bool) → stays y ≡ b → [] ≡ cond b (y ∷ filter stays ys) (filter stays ys)
          → ([] ≡ filter stays ys → AreGood step IsGood s [] → AreGood step IsGood (step z y).1 ys → Alike s (step z y).1 → EndAlike s (step z y).1 [] ys) → EndAlike s z [] (y ∷ ys)
      by true e h rest = absurd (none_more y (filter stays ys) h)
      by false e h rest = let r = rest h good goods.1 (on_other s z y e goods.0 alike) in (r.0 ∙ passes z y ys e, r.1)
  same_but_left_out s z (x ∷ xs) [] same good goods alike = by (stays x) refl same (same_but_left_out (step s x).1 z xs [])
    where
      by : (b : Bool) → stays x ≡ b → cond b (x ∷ filter stays xs) (filter stays xs) ≡ []
          → (filter stays xs ≡ [] → AreGood step IsGood (step s x).1 xs → AreGood step IsGood z [] → Alike (step s x).1 z → EndAlike (step s x).1 z xs []) → EndAlike s z (x ∷ xs) []
      by true e h rest = absurd (none_more x (filter stays xs) (sym h))
      by false e h rest = let r = rest h good.1 goods (on_one s z x e good.0 alike) in (sym (passes s x xs e) ∙ r.0, r.1)
  same_but_left_out s z (x ∷ xs) (y ∷ ys) same good goods alike =
      by (stays x) (stays y) refl refl same (same_but_left_out (step s x).1 z xs (y ∷ ys)) (same_but_left_out s (step z y).1 (x ∷ xs) ys) (same_but_left_out (step s x).1 (step z y).1 xs ys)
    where
      by : (b d : Bool) → stays x ≡ b → stays y ≡ d → cond b (x ∷ filter stays xs) (filter stays xs) ≡ cond d (y ∷ filter stays ys) (filter stays ys)
          → (filter stays xs ≡ filter stays (y ∷ ys) → AreGood step IsGood (step s x).1 xs → AreGood step IsGood z (y ∷ ys) → Alike (step s x).1 z → EndAlike (step s x).1 z xs (y ∷ ys))
          → (filter stays (x ∷ xs) ≡ filter stays ys → AreGood step IsGood s (x ∷ xs) → AreGood step IsGood (step z y).1 ys → Alike s (step z y).1 → EndAlike s (step z y).1 (x ∷ xs) ys)
          → (filter stays xs ≡ filter stays ys → AreGood step IsGood (step s x).1 xs → AreGood step IsGood (step z y).1 ys → Alike (step s x).1 (step z y).1 → EndAlike (step s x).1 (step z y).1 xs ys)
          → EndAlike s z (x ∷ xs) (y ∷ ys)
      by false d e f h first second third =
          let r = first (h ∙ ap (λ (v : Bool). cond v (y ∷ filter stays ys) (filter stays ys)) (sym f)) good.1 goods (on_one s z x e good.0 alike) in
          (sym (passes s x xs e) ∙ r.0, r.1)
      by true false e f h first second third =
          let r = second (ap (λ (v : Bool). cond v (x ∷ filter stays xs) (filter stays xs)) e ∙ h) good goods.1 (on_other s z y f goods.0 alike) in
          (r.0 ∙ passes z y ys f, r.1)
      by true true e f h first second third =
          let one : x ≡ y = first_of x y (filter stays xs) (filter stays ys) h in
          let good_z : IsGood z x = subst (IsGood z) (sym one) goods.0 in
          let after : Alike (step s x).1 (step z y).1 = subst (λ (v : X). Alike (step s x).1 (step z v).1) one (both s z x e good.0 good_z alike) in
          let r = third (rest_of x y (filter stays xs) (filter stays ys) h) good.1 goods.1 after in
          let rs : shown_results (step s x).1 xs ≡ shown_results (step z x).1 ys = r.0 ∙ ap (λ (v : X). shown_results (step z v).1 ys) (sym one) in
          (shows s z x xs ys good.0 good_z alike rs ∙ ap (λ (v : X). shown_results z (v ∷ ys)) one, r.1)
