-- One run in place of those that it meets: the runs stay maximal, and its offsets are in the set.
use Rattle.std.proofs.Common.{◌≡◌, ℕ, zero, suc, ◌+◌, ◌-◌, ◌<◌, ◌≤◌, Bool, true, false, ◌||◌, List, [], ◌∷◌, ◌++◌, length, get_or, take, drop, refl, sym, ap, ◌∙◌, subst, ◌⊎◌, inl, inr, arith}
use Rattle.std.specs.Prelude.{ℤ, pos, ◌+ℤ◌, ◌-ℤ◌, ◌<ℤ◌, ◌≤ℤ◌, cond, Result, Ok, Err, is_ok, OnOk}
use Rattle.std.specs.Int.{int_min, int_max}
use Rattle.std.specs.Cmp.Derive.{one_truth}
use Rattle.std.specs.List.{All, AllPairs, AllWithin, Any}
use Rattle.std.proofs.lemmas.Int.{ints, clamps, by_lt_z}
use Rattle.std.proofs.lemmas.Bool.{cases_lt}
use Rattle.std.proofs.lemmas.List.{get_or_default, get_or-take, get_or-drop, length-take, length-drop, take-append-drop}
use Rattle.std.proofs.lemmas.List.Elements.{All-append, All-cons, All-take, All-drop}
use Rattle.std.proofs.lemmas.List.Kept.{AllPairs-cons}
use Rattle.std.proofs.lemmas.List.Folds.{list_any_at, list_any-append, Any-from_list_any}
use Rattle.cover_ranges.specs.Runs.{Runs, is_within, covers, IsRun, IsApart, IsCanonical}
use Rattle.cover_ranges.specs.Index.{IsIndexOf}
use Rattle.cover_ranges.specs.Insertion.{Reaches}
use Rattle.cover_ranges.proofs.Runs.{in_run, run_bounds, covers_at, earlier}

-- ---- any pairs

AllPairs-tail : {X : Type 0} (R : X → X → Type 0) (x : X) (xs : List X) → AllPairs R (x ∷ xs) → AllPairs R xs
AllPairs-tail R x xs p i j d lt h = p (suc i) (suc j) d (omega arith) (omega arith)

AllPairs-head : {X : Type 0} (R : X → X → Type 0) (x : X) (xs : List X) → AllPairs R (x ∷ xs) → All (R x) xs
AllPairs-head R x xs p k d h = p 0 (suc k) d (omega arith) (omega arith)

pub AllPairs-drop : {X : Type 0} (R : X → X → Type 0) (n : ℕ) (xs : List X) → AllPairs R xs → AllPairs R (drop n xs)
AllPairs-drop R zero xs p = p
AllPairs-drop R (suc n) [] p = p
AllPairs-drop R (suc n) (x ∷ xs) p = AllPairs-drop R n xs (AllPairs-tail R x xs p)

pub AllPairs-splice : {X : Type 0} (R : X → X → Type 0) (s e : ℕ) (xs : List X) (m : X) → s ≤ e → AllPairs R xs → All (λ x. R x m) (take s xs) → All (R m) (drop e xs)
    → AllPairs R (take s xs ++ m ∷ drop e xs)
AllPairs-splice R zero e xs m le p front back = AllPairs-cons R m (drop e xs) back (AllPairs-drop R e xs p)
AllPairs-splice R (suc s) e [] m le p front back = AllPairs-cons R m (drop e []) back (AllPairs-drop R e [] p)
AllPairs-splice R (suc s) zero (x ∷ xs) m le p front back = absurd (omega arith)
AllPairs-splice R (suc s) (suc e) (x ∷ xs) m le p front back =
    AllPairs-cons R x (take s xs ++ m ∷ drop e xs)
    (All-append (R x) (take s xs) (m ∷ drop e xs) (All-take (R x) s xs (AllPairs-head R x xs p))
    (All-cons (R x) m (drop e xs) (front 0 m (omega arith)) (All-drop (R x) e xs (AllPairs-head R x xs p))))
    (AllPairs-splice R s e xs m (omega arith) (AllPairs-tail R x xs p) (λ k d h. front (suc k) d (omega arith)) back)

-- ---- the run that is put in

no_run_between : (r : ℤ × ℤ) (f l : ℤ) → IsRun r → f ≤ℤ l → r.1 <ℤ (f -ℤ pos 1) → (l +ℤ pos 1) <ℤ r.0 → ⊥
no_run_between r f l run fl p q = omega (arith, ints)

before_start : (rs : Runs) (s e : ℕ) (f l : ℤ) (d : ℤ × ℤ) → IsCanonical rs → f ≤ℤ l → IsIndexOf (f -ℤ pos 1) rs s → AllWithin (λ run. (l +ℤ pos 1) <ℤ run.0) rs e (length rs) → e < s → ⊥
before_start rs s e f l d c fl index later lt =
    let w : s ≤ length rs = index.within in
    let h : e < length rs = omega arith in
    no_run_between (get_or rs e d) f l (c.are_runs e d h) fl (index.before e d (omega arith) lt) (later e d (omega arith) h)

pub start_before_end : (rs : Runs) (s e : ℕ) (f l : ℤ) → IsCanonical rs → f ≤ℤ l → IsIndexOf (f -ℤ pos 1) rs s → AllWithin (λ run. (l +ℤ pos 1) <ℤ run.0) rs e (length rs) → s ≤ e
start_before_end rs s e f l c fl index later =
    let d : ℤ × ℤ = (pos 0, pos 0) in
    elim (cases_lt e s) [ inr ge ↦ ge | inl lt ↦ absurd (before_start rs s e f l d c fl index later lt) ]

alone_front : (r : ℤ × ℤ) (f : ℤ) → r.1 <ℤ (f -ℤ pos 1) → (r.1 +ℤ pos 1) <ℤ f
alone_front r f p = omega (arith, ints)

none_past : (o l : ℤ) → l <ℤ o → o ≤ℤ l → ⊥
none_past o l p q = omega (arith, ints)

no_offset : (o f : ℤ) → f ≤ℤ o → o <ℤ f → ⊥
no_offset o f p q = omega (arith, ints)

z_refl : (a : ℤ) → a ≤ℤ a
z_refl a = omega (arith, ints)

-- where it meets no run, it is the new run itself
pub reaches_alone : (rs : Runs) (s e : ℕ) (f l : ℤ) → s ≤ e → e ≤ length rs → IsRun (f, l) → IsIndexOf (f -ℤ pos 1) rs s → AllWithin (λ run. (l +ℤ pos 1) <ℤ run.0) rs e (length rs) → e ≤ s → Reaches rs s e f l (f, l)
reaches_alone rs s e f l ordered within run index later le = record {
  ordered = ordered;
  within = within;
  is_run = run;
  from_first = z_refl f;
  to_last = z_refl l;
  middle = λ k d lo hi. absurd (omega arith);
  front = λ k d h. alone_front (get_or rs k d) f (index.before k d (omega arith) h);
  back = λ k d lo h. later k d lo h;
  left = λ o p q. absurd (no_offset o f p q);
  right = λ o p q. absurd (none_past o l p q);
}

joined_run : (a b m : ℤ × ℤ) (f l : ℤ) → IsRun (f, l) → IsRun a → IsRun b → m.0 ≡ int_min f a.0 → m.1 ≡ int_max l b.1 → IsRun m
joined_run a b m f l new ra rb p q = (omega (arith, ints, clamps), omega (arith, ints, clamps), omega (arith, ints, clamps))

min_first : (m f x : ℤ) → m ≡ int_min f x → (m ≤ℤ f) × (m ≤ℤ x)
min_first m f x p = (omega (arith, ints, clamps), omega (arith, ints, clamps))

max_last : (m l x : ℤ) → m ≡ int_max l x → (l ≤ℤ m) × (x ≤ℤ m)
max_last m l x p = (omega (arith, ints, clamps), omega (arith, ints, clamps))

min_front : (m f x y : ℤ) → m ≡ int_min f x → y <ℤ (f -ℤ pos 1) → (y +ℤ pos 1) <ℤ x → (y +ℤ pos 1) <ℤ m
min_front m f x y p q r = omega (arith, ints, clamps)

max_back : (m l x y : ℤ) → m ≡ int_max l x → (l +ℤ pos 1) <ℤ y → (x +ℤ pos 1) <ℤ y → (m +ℤ pos 1) <ℤ y
max_back m l x y p q r = omega (arith, ints, clamps)

min_left : (m f o : ℤ) (a : ℤ × ℤ) → m ≡ int_min f a.0 → (f -ℤ pos 1) ≤ℤ a.1 → m ≤ℤ o → o <ℤ f → (a.0 ≤ℤ o) × (o ≤ℤ a.1)
min_left m f o a p q r s = (omega (arith, ints, clamps), omega (arith, ints, clamps))

max_right : (m l o : ℤ) (b : ℤ × ℤ) → m ≡ int_max l b.1 → b.0 ≤ℤ (l +ℤ pos 1) → l <ℤ o → o ≤ℤ m → (b.0 ≤ℤ o) × (o ≤ℤ b.1)
max_right m l o b p q r s = (omega (arith, ints, clamps), omega (arith, ints, clamps))

z_trans : (a b c : ℤ) → a ≤ℤ b → b ≤ℤ c → a ≤ℤ c
z_trans a b c p q = omega (arith, ints)

z_weak : (a b : ℤ) → a <ℤ b → a ≤ℤ b
z_weak a b p = omega (arith, ints)

rising : (rs : Runs) (i j : ℕ) (d : ℤ × ℤ) → IsCanonical rs → i ≤ j → j < length rs → ((get_or rs i d).0 ≤ℤ (get_or rs j d).0) × ((get_or rs i d).1 ≤ℤ (get_or rs j d).1)
rising rs i j d c le h =
    elim (cases_lt i j) [
      | inl lt ↦ (z_weak (get_or rs i d).0 (get_or rs j d).0 (earlier rs i j d c lt h).0, z_weak (get_or rs i d).1 (get_or rs j d).1 (earlier rs i j d c lt h).2)
      | inr ge ↦ (let e : i ≡ j = omega arith in let Q : ℕ → Type 0 = λ n. ((get_or rs i d).0 ≤ℤ (get_or rs n d).0) × ((get_or rs i d).1 ≤ℤ (get_or rs n d).1) in subst Q e (z_refl (get_or rs i d).0, z_refl (get_or rs i d).1))
    ]

-- where it meets the runs from s to before e
pub reaches_joined : (rs : Runs) (s e : ℕ) (f l : ℤ) (m d : ℤ × ℤ) → IsCanonical rs → IsRun (f, l) → IsIndexOf (f -ℤ pos 1) rs s → e ≤ length rs → AllWithin (λ run. run.0 ≤ℤ (l +ℤ pos 1)) rs 0 e
    → AllWithin (λ run. (l +ℤ pos 1) <ℤ run.0) rs e (length rs) → s < e → m.0 ≡ int_min f (get_or rs s d).0 → m.1 ≡ int_max l (get_or rs (e - 1) d).1 → Reaches rs s e f l m
reaches_joined rs s e f l m d c new index we started later lt p q =
    let hs : s < length rs = omega arith in
    let he : e - 1 < length rs = omega arith in
    let a : ℤ × ℤ = get_or rs s d in
    let b : ℤ × ℤ = get_or rs (e - 1) d in
    record {
      ordered = omega arith;
      within = we;
      is_run = joined_run a b m f l new (c.are_runs s d hs) (c.are_runs (e - 1) d he) p q;
      from_first = (min_first m.0 f a.0 p).0;
      to_last = (max_last m.1 l b.1 q).0;
      middle = λ k x lo hi. let hk : k < length rs = omega arith in rw (get_or_default rs k x d hk) (
        z_trans m.0 a.0 (get_or rs k d).0 (min_first m.0 f a.0 p).1 (rising rs s k d c lo hk).0,
        z_trans (get_or rs k d).1 b.1 m.1 (rising rs k (e - 1) d c (omega arith) he).1 (max_last m.1 l b.1 q).1,
      );
      front = λ k x h. let hk : k < length rs = omega arith in rw (get_or_default rs k x d hk)
          (min_front m.0 f a.0 (get_or rs k d).1 p (index.before k d (omega arith) h) (earlier rs k s d c h hs).1);
      back = λ k x lo hk. rw (get_or_default rs k x d hk)
          (max_back m.1 l b.1 (get_or rs k d).0 q (later k d lo hk) (earlier rs (e - 1) k d c (omega arith) hk).1);
      left = λ o u v. let w : (a.0 ≤ℤ o) × (o ≤ℤ a.1) = min_left m.0 f o a p (index.reached hs d) u v in covers_at rs s d o hs w.0 w.1;
      right = λ o u v. let w : (b.0 ≤ℤ o) × (o ≤ℤ b.1) = max_right m.1 l o b q (started (e - 1) d (omega arith) (omega arith)) u v in covers_at rs (e - 1) d o he w.0 w.1;
    }

-- ---- the runs then

pub spliced_canonical : (rs : Runs) (s e : ℕ) (f l : ℤ) (m : ℤ × ℤ) → IsCanonical rs → Reaches rs s e f l m → IsCanonical (take s rs ++ m ∷ drop e rs)
spliced_canonical rs s e f l m c r = record {
  are_runs = All-append IsRun (take s rs) (m ∷ drop e rs) (All-take IsRun s rs c.are_runs) (All-cons IsRun m (drop e rs) r.is_run (All-drop IsRun e rs c.are_runs));
  apart = AllPairs-splice IsApart s e rs m r.ordered c.apart
      (λ k d h. let hk : k < s = omega (arith, length-take s rs) in rw (get_or-take s rs k d hk) (r.front k d hk))
      (λ k d h. rw (get_or-drop e rs k d) (r.back (e + k) d (omega arith) (omega (arith, length-drop e rs))));
}

or_cases : (a b : Bool) → (a || b) ≡ true → (a ≡ true) ⊎ (b ≡ true)
or_cases true b h = inl refl
or_cases false b h = inr h

or_first : (a b : Bool) → a ≡ true → (a || b) ≡ true
or_first a b h = grind arith

or_second : (a b : Bool) → b ≡ true → (a || b) ≡ true
or_second true b h = refl
or_second false b h = h

covers_parts : (rs : Runs) (n : ℕ) (o : ℤ) → covers rs o ≡ (covers (take n rs) o || covers (drop n rs) o)
covers_parts rs n o = ap (λ (xs : Runs). covers xs o) (sym (take-append-drop n rs)) ∙ list_any-append (is_within o) (take n rs) (drop n rs)

covers_spliced : (front back : Runs) (m : ℤ × ℤ) (o : ℤ) → covers (front ++ m ∷ back) o ≡ (covers front o || (is_within o m || covers back o))
covers_spliced front back m o = list_any-append (is_within o) front (m ∷ back)

in_joined : (rs : Runs) (s e : ℕ) (f l : ℤ) (m : ℤ × ℤ) (o : ℤ) → Reaches rs s e f l m → is_within o m ≡ true → (covers rs o || is_within o (f, l)) ≡ true
in_joined rs s e f l m o r h =
    by_lt_z o f (λ lt. or_first (covers rs o) (is_within o (f, l)) (r.left o (run_bounds o m h).0 lt))
    (λ ge. by_lt_z l o (λ lt. or_first (covers rs o) (is_within o (f, l)) (r.right o lt (run_bounds o m h).1))
    (λ le. or_second (covers rs o) (is_within o (f, l)) (in_run o (f, l) ge le)))

spliced_to : (rs : Runs) (s e : ℕ) (f l : ℤ) (m : ℤ × ℤ) (o : ℤ) → Reaches rs s e f l m → covers (take s rs ++ m ∷ drop e rs) o ≡ true → (covers rs o || is_within o (f, l)) ≡ true
spliced_to rs s e f l m o r h =
    elim (or_cases (covers (take s rs) o) (is_within o m || covers (drop e rs) o) (sym (covers_spliced (take s rs) (drop e rs) m o) ∙ h)) [
      | inl front ↦ or_first (covers rs o) (is_within o (f, l)) (covers_parts rs s o ∙ or_first (covers (take s rs) o) (covers (drop s rs) o) front)
      | inr rest ↦ (elim (or_cases (is_within o m) (covers (drop e rs) o) rest) [
        | inl mid ↦ in_joined rs s e f l m o r mid
        | inr back ↦ or_first (covers rs o) (is_within o (f, l)) (covers_parts rs e o ∙ or_second (covers (take e rs) o) (covers (drop e rs) o) back)
      ])
    ]

to_spliced : (rs : Runs) (s e : ℕ) (m : ℤ × ℤ) (o : ℤ) → (covers (take s rs) o || (is_within o m || covers (drop e rs) o)) ≡ true → covers (take s rs ++ m ∷ drop e rs) o ≡ true
to_spliced rs s e m o h = covers_spliced (take s rs) (drop e rs) m o ∙ h

within_wider : (o : ℤ) (r m : ℤ × ℤ) → is_within o r ≡ true → m.0 ≤ℤ r.0 → r.1 ≤ℤ m.1 → is_within o m ≡ true
within_wider o r m h p q = grind (arith, ints)

in_front : (rs : Runs) (s k : ℕ) → s ≤ length rs → k < s → k < length (take s rs)
in_front rs s k ws lt = omega (arith, length-take s rs)

in_back : (rs : Runs) (e k : ℕ) → e ≤ k → k < length rs → k - e < length (drop e rs)
in_back rs e k le h = omega (arith, length-drop e rs)

back_at : (rs : Runs) (e k : ℕ) (d : ℤ × ℤ) → e ≤ k → get_or (drop e rs) (k - e) d ≡ get_or rs k d
back_at rs e k d le = get_or-drop e rs (k - e) d ∙ (let same : e + (k - e) ≡ k = omega arith in ap (λ i. get_or rs i d) same)

spliced_old : (rs : Runs) (s e : ℕ) (f l : ℤ) (m : ℤ × ℤ) (o : ℤ) → Reaches rs s e f l m → s ≤ length rs → Any (λ run. is_within o run ≡ true) rs → covers (take s rs ++ m ∷ drop e rs) o ≡ true
spliced_old rs s e f l m o r ws w =
    let k : ℕ = w.0 in
    let d : ℤ × ℤ = w.1 in
    let here : is_within o (get_or rs k d) ≡ true = ap (is_within o) w.3 ∙ w.4 in
    elim (cases_lt k s) [
      | inl lt ↦ to_spliced rs s e m o (or_first (covers (take s rs) o) (is_within o m || covers (drop e rs) o)
          (list_any_at (is_within o) (take s rs) k d (in_front rs s k ws lt) (ap (is_within o) (get_or-take s rs k d lt) ∙ here)))
      | inr ge ↦ (elim (cases_lt k e) [
        | inl lt ↦ to_spliced rs s e m o (or_second (covers (take s rs) o) (is_within o m || covers (drop e rs) o) (or_first (is_within o m) (covers (drop e rs) o)
            (within_wider o (get_or rs k d) m here (r.middle k d ge lt).0 (r.middle k d ge lt).1)))
        | inr ge2 ↦ to_spliced rs s e m o (or_second (covers (take s rs) o) (is_within o m || covers (drop e rs) o) (or_second (is_within o m) (covers (drop e rs) o)
            (list_any_at (is_within o) (drop e rs) (k - e) d (in_back rs e k ge2 w.2) (ap (is_within o) (back_at rs e k d ge2) ∙ here))))
      ])
    ]

spliced_from : (rs : Runs) (s e : ℕ) (f l : ℤ) (m : ℤ × ℤ) (o : ℤ) → Reaches rs s e f l m → s ≤ length rs → (covers rs o || is_within o (f, l)) ≡ true → covers (take s rs ++ m ∷ drop e rs) o ≡ true
spliced_from rs s e f l m o r ws h =
    elim (or_cases (covers rs o) (is_within o (f, l)) h) [
      | inl old ↦ spliced_old rs s e f l m o r ws (Any-from_list_any (is_within o) rs old)
      | inr new ↦ to_spliced rs s e m o (or_second (covers (take s rs) o) (is_within o m || covers (drop e rs) o) (or_first (is_within o m) (covers (drop e rs) o) (within_wider o (f, l) m new r.from_first r.to_last)))
    ]

-- the set then is the set before, and the new run
pub spliced_covers : (rs : Runs) (s e : ℕ) (f l : ℤ) (m : ℤ × ℤ) (o : ℤ) → Reaches rs s e f l m → covers (take s rs ++ m ∷ drop e rs) o ≡ (covers rs o || is_within o (f, l))
spliced_covers rs s e f l m o r =
    let a : s ≤ e = r.ordered in
    let b : e ≤ length rs = r.within in
    let ws : s ≤ length rs = omega arith in
    one_truth (covers (take s rs ++ m ∷ drop e rs) o) (covers rs o || is_within o (f, l)) (spliced_to rs s e f l m o r) (spliced_from rs s e f l m o r ws)

-- the two cases together
pub reaches : (rs : Runs) (s e : ℕ) (f l : ℤ) (m : ℤ × ℤ) → IsCanonical rs → IsRun (f, l) → IsIndexOf (f -ℤ pos 1) rs s → e ≤ length rs → AllWithin (λ run. run.0 ≤ℤ (l +ℤ pos 1)) rs 0 e
    → AllWithin (λ run. (l +ℤ pos 1) <ℤ run.0) rs e (length rs) → (e ≤ s → m ≡ (f, l)) → (s < e → m.0 ≡ int_min f (get_or rs s (pos 0, pos 0)).0) → (s < e → m.1 ≡ int_max l (get_or rs (e - 1) (pos 0, pos 0)).1)
    → Reaches rs s e f l m
reaches rs s e f l m c new index we started later alone first last =
    elim (cases_lt s e) [
      | inl lt ↦ reaches_joined rs s e f l m (pos 0, pos 0) c new index we started later lt (first lt) (last lt)
      | inr ge ↦ (let P : ℤ × ℤ → Type 0 = λ r. Reaches rs s e f l r in
          subst P (sym (alone ge)) (reaches_alone rs s e f l (start_before_end rs s e f l c new.1 index later) we new index later ge))
    ]

pub starts_same : (rs : Runs) (e : ℕ) (a b : ℤ) → a ≡ b → AllWithin (λ run. run.0 ≤ℤ a) rs 0 e → AllWithin (λ run. run.0 ≤ℤ b) rs 0 e
starts_same rs e a b eq h = let P : ℤ → Type 0 = λ o. AllWithin (λ run. run.0 ≤ℤ o) rs 0 e in subst P eq h

pub later_same : (rs : Runs) (e : ℕ) (a b : ℤ) → a ≡ b → AllWithin (λ run. a <ℤ run.0) rs e (length rs) → AllWithin (λ run. b <ℤ run.0) rs e (length rs)
later_same rs e a b eq h = let P : ℤ → Type 0 = λ o. AllWithin (λ run. o <ℤ run.0) rs e (length rs) in subst P eq h

-- ---- an insertion, done or not

pub inserted_canonical : (b : Bool) (rs old ns : Runs) (s e : ℕ) (f l : ℤ) (m : ℤ × ℤ) → rs ≡ old → IsCanonical old → Reaches rs s e f l m → ns ≡ cond b (take s old ++ m ∷ drop e old) old → IsCanonical ns
inserted_canonical true rs old ns s e f l m same c r n =
    let P : Runs → Type 0 = λ xs. Reaches xs s e f l m in
    subst IsCanonical (sym n) (spliced_canonical old s e f l m c (subst P same r))
inserted_canonical false rs old ns s e f l m same c r n = subst IsCanonical (sym n) c

pub inserted_added : {T E : Type 0} (r : Result T E) (rs old held ns : Runs) (s e : ℕ) (f l : ℤ) (m : ℤ × ℤ) → rs ≡ old → old ≡ held → Reaches rs s e f l m
    → ns ≡ cond (is_ok r) (take s old ++ m ∷ drop e old) old → OnOk r ((o : ℤ) → covers ns o ≡ (covers held o || is_within o (f, l)))
inserted_added (Ok x) rs old held ns s e f l m same kept reaches n =
    let P : Runs → Type 0 = λ xs. Reaches xs s e f l m in
    let Q : Runs → Type 0 = λ xs. (o : ℤ) → covers ns o ≡ (covers xs o || is_within o (f, l)) in
    subst Q kept (λ o. ap (λ (xs : Runs). covers xs o) n ∙ spliced_covers old s e f l m o (subst P same reaches))
inserted_added (Err y) rs old held ns s e f l m same kept reaches n = tt
