-- Why a reader learns of a deletion: where the last record of a key goes, a cleaning so long before had left nothing before it.
use Rattle.std.proofs.Common.{◌≡◌, ◌⊎◌, ℕ, ◌+◌, ◌<◌, ◌≤◌, Bool, true, false, cond, ◌&&◌, List, [], ◌∷◌, refl, sym, ap, subst, ◌∙◌, inl, inr, arith}
use Rattle.std.specs.Prelude.{ℤ, pos, ◌≤ℤ◌, ◌<ℤ◌, int_lt}
use Rattle.std.specs.List.{filter, list_any}
use Rattle.std.proofs.lemmas.Int.{ints}
use Rattle.cleaning_policy.specs.Readers.{KeyRecord, Act, time_of, IsAmong, is_left, there_behind, MayFollow, IsCourse, LearnsInTime}
use Rattle.cleaning_policy.specs.Readers.Act.{Appended, Cleaned, Shown}

-- ---- acts of different kinds

abbrev pub kind_of : Act → ℕ
kind_of (Appended t x) = 0
kind_of (Cleaned t u b) = 1
kind_of (Shown t o) = 2

abbrev pub record_of : KeyRecord → Act → KeyRecord
record_of d (Appended t x) = x
record_of d (Cleaned t u b) = d
record_of d (Shown t o) = d

abbrev far_of : Act → ℤ
far_of (Appended t x) = pos 0
far_of (Cleaned t u b) = u
far_of (Shown t o) = pos 0

abbrev shown_of : Act → ℤ
shown_of (Appended t x) = pos 0
shown_of (Cleaned t u b) = pos 0
shown_of (Shown t o) = o

-- an act of another kind than the first stands behind it
among_rest : (a e : Act) (before : List Act) → (kind_of a ≡ kind_of e → ⊥) → IsAmong e (a ∷ before) → IsAmong e before
among_rest a e before other (inl is) = absurd (other (ap kind_of is))
among_rest a e before other (inr i) = i

-- ---- filters

no_test : (b : Bool) → b ≡ false → b ≡ true → ⊥
no_test b f t = absurd (grind (arith, f, t))

filter_first : (p : KeyRecord → Bool) (y x : KeyRecord) (xs : List KeyRecord) (b : Bool) → p x ≡ b → (IsAmong y (filter p xs) → IsAmong y xs × (p y ≡ true))
    → IsAmong y (cond b (x ∷ filter p xs) (filter p xs)) → IsAmong y (x ∷ xs) × (p y ≡ true)
filter_first p y x xs true e rest (inl is) = (inl is, sym (ap p is) ∙ e)
filter_first p y x xs true e rest (inr j) = (inr (rest j).0, (rest j).1)
filter_first p y x xs false e rest j = (inr (rest j).0, (rest j).1)

among_filter : (p : KeyRecord → Bool) (y : KeyRecord) (xs : List KeyRecord) → IsAmong y (filter p xs) → IsAmong y xs × (p y ≡ true)
among_filter p y [] i = absurd i
among_filter p y (x ∷ xs) i = filter_first p y x xs (p x) refl (among_filter p y xs) i

first_filter : (p : KeyRecord → Bool) (y x : KeyRecord) (xs : List KeyRecord) (b : Bool) → p x ≡ b → p y ≡ true → (IsAmong y xs → IsAmong y (filter p xs))
    → IsAmong y (x ∷ xs) → IsAmong y (cond b (x ∷ filter p xs) (filter p xs))
first_filter p y x xs true f e rest (inl is) = inl is
first_filter p y x xs true f e rest (inr j) = inr (rest j)
first_filter p y x xs false f e rest (inl is) = absurd (no_test (p x) f (ap p is ∙ e))
first_filter p y x xs false f e rest (inr j) = rest j

filter_among : (p : KeyRecord → Bool) (y : KeyRecord) (xs : List KeyRecord) → p y ≡ true → IsAmong y xs → IsAmong y (filter p xs)
filter_among p y [] e i = i
filter_among p y (x ∷ xs) e i = first_filter p y x xs (p x) refl e (filter_among p y xs e) i

-- ---- what a cleaning leaves

-- nothing lies behind a record that is the last
none_behind : (z : KeyRecord) (upto : ℤ) (xs : List KeyRecord) → ((y : KeyRecord) → IsAmong y xs → y.offset ≤ℤ z.offset)
    → list_any (λ y. int_lt z.offset y.offset && int_lt y.offset upto) xs ≡ false
none_behind z upto [] last = refl
none_behind z upto (x ∷ xs) last =
    let here : x.offset ≤ℤ z.offset = last x (inl refl) in
    let rest = none_behind z upto xs (λ y i. last y (inr i)) in
    grind (arith, ints, here, rest)

-- the last record goes only as a deletion
last_goes : (z : KeyRecord) (upto tomb_before : ℤ) (xs : List KeyRecord) → ((y : KeyRecord) → IsAmong y xs → y.offset ≤ℤ z.offset)
    → is_left upto tomb_before xs z ≡ false → z.offset <ℤ tomb_before
last_goes z upto tomb_before xs last goes =
    let none = none_behind z upto xs last in
    grind (arith, ints, none, goes)

one_behind : (y z : KeyRecord) (upto : ℤ) (xs : List KeyRecord) → y.offset <ℤ z.offset → z.offset <ℤ upto → IsAmong z xs
    → list_any (λ w. int_lt y.offset w.offset && int_lt w.offset upto) xs ≡ true
one_behind y z upto [] lt le i = absurd i
one_behind y z upto (x ∷ xs) lt le (inl is) =
    let same : x.offset ≡ z.offset = ap (λ (r : KeyRecord). r.offset) is in
    grind (arith, ints, same, lt, le)
one_behind y z upto (x ∷ xs) lt le (inr j) =
    let rest = one_behind y z upto xs lt le j in
    grind (arith, ints, rest)

-- a record goes where a later one is cleaned
before_goes : (y z : KeyRecord) (upto tomb_before : ℤ) (xs : List KeyRecord) → y.offset <ℤ z.offset → z.offset <ℤ upto → IsAmong z xs
    → is_left upto tomb_before xs y ≡ true → ⊥
before_goes y z upto tomb_before xs lt le i left =
    let some = one_behind y z upto xs lt le i in
    let below : y.offset <ℤ upto = omega (arith, ints, lt, le) in
    absurd (grind (arith, ints, some, below, left))

-- ---- what is there came

came : (acts : List Act) (y : KeyRecord) → IsAmong y (there_behind acts) → (u : ℕ) × IsAmong (Appended u y) acts
came [] y i = absurd i
came (Appended t x ∷ before) y (inl is) = (t, inl (ap (Appended t) is))
came (Appended t x ∷ before) y (inr j) =
    let found = came before y j in
    (found.0, inr found.1)
came (Cleaned t upto b ∷ before) y i =
    let found = came before y (among_filter (is_left upto b (there_behind before)) y (there_behind before) i).0 in
    (found.0, inr found.1)
came (Shown t o ∷ before) y i =
    let found = came before y i in
    (found.0, inr found.1)

-- no record came that lies behind this one
abbrev IsLast : KeyRecord → List Act → Type 0
IsLast z acts = (u : ℕ) (y : KeyRecord) → IsAmong (Appended u y) acts → y.offset ≤ℤ z.offset

last_there : (z : KeyRecord) (acts : List Act) → IsLast z acts → (y : KeyRecord) → IsAmong y (there_behind acts) → y.offset ≤ℤ z.offset
last_there z acts last y i =
    let found = came acts y i in
    last found.0 y found.1

-- ---- behind a cleaning that reached further than the last record

-- nothing is there before it, and whoever was shown a record before it was so by then
abbrev HasCleared : KeyRecord → ℕ → List Act → Type 0
HasCleared z u acts =
    ((y : KeyRecord) → IsAmong y (there_behind acts) → y.offset <ℤ z.offset → ⊥)
    × ((t : ℕ) (o : ℤ) → IsAmong (Shown t o) acts → o <ℤ z.offset → t ≤ u)

int_refl : (a : ℤ) → a ≤ℤ a
int_refl a = omega (arith, ints)

clash : (a b : ℤ) → a <ℤ b → b ≤ℤ a → ⊥
clash a b lt le = absurd (omega (arith, ints, lt, le))

shown_case : (keep : ℕ) (z : KeyRecord) (u t s : ℕ) (o p : ℤ) (before : List Act) → MayFollow keep before (Shown t o) → HasCleared z u before
    → IsAmong (Shown s p) (Shown t o ∷ before) → p <ℤ z.offset → s ≤ u
shown_case keep z u t s o p before follows rest (inl is) l =
    let same : o ≡ p = ap shown_of is in
    let low : follows.0.offset <ℤ z.offset = subst (λ (q : ℤ). q <ℤ z.offset) (sym (follows.1 ∙ same)) l in
    absurd (rest.0 follows.0 follows.2 low)
shown_case keep z u t s o p before follows rest (inr i) l = rest.1 s p i l

shown_before : (t s : ℕ) (p upto b : ℤ) (before : List Act) → ((a : Act) → IsAmong a before → time_of a ≤ t) → IsAmong (Shown s p) (Cleaned t upto b ∷ before) → s ≤ t
shown_before t s p upto b before times i =
    times (Shown s p) (among_rest (Cleaned t upto b) (Shown s p) before (λ e. absurd (omega (arith, e))) i)

cleaned_case : (keep : ℕ) (z : KeyRecord) (u t : ℕ) (far took upto b : ℤ) (before : List Act) → IsCourse keep (Cleaned t upto b ∷ before) → IsAmong z (there_behind before)
    → (IsAmong (Cleaned u far took) before → HasCleared z u before) → IsAmong (Cleaned u far took) (Cleaned t upto b ∷ before) → z.offset <ℤ far
    → HasCleared z u (Cleaned t upto b ∷ before)
cleaned_case keep z u t far took upto b before c was rest (inl is) lt =
    let same : upto ≡ far = ap far_of is in
    let when : t ≡ u = ap time_of is in
    let reached : z.offset <ℤ upto = subst (λ (q : ℤ). z.offset <ℤ q) (sym same) lt in (
      λ y i l. before_goes y z upto b (there_behind before) l reached was (among_filter (is_left upto b (there_behind before)) y (there_behind before) i).1,
      λ s p i l. subst (λ (n : ℕ). s ≤ n) when (shown_before t s p upto b before c.1 i),
    )
cleaned_case keep z u t far took upto b before c was rest (inr old) lt =
    let found = rest old in (
      λ y i l. found.0 y (among_filter (is_left upto b (there_behind before)) y (there_behind before) i).0 l,
      λ s p i l. found.1 s p (among_rest (Cleaned t upto b) (Shown s p) before (λ e. absurd (omega (arith, e))) i) l,
    )

cleared : (keep : ℕ) (z : KeyRecord) (u : ℕ) (far took : ℤ) (acts : List Act) → IsCourse keep acts → IsLast z acts → IsAmong z (there_behind acts)
    → IsAmong (Cleaned u far took) acts → z.offset <ℤ far → HasCleared z u acts
cleared keep z u far took [] c last there cl lt = absurd cl
cleared keep z u far took (Appended t x ∷ before) c last there cl lt =
    let old = among_rest (Appended t x) (Cleaned u far took) before (λ e. absurd (omega (arith, e))) cl in
    let low : far ≤ℤ x.offset = c.0.2 u far took old in
    let high : x.offset ≤ℤ z.offset = last t x (inl refl) in
    absurd (omega (arith, ints, low, high, lt))
cleared keep z u far took (Shown t o ∷ before) c last there cl lt =
    let old = among_rest (Shown t o) (Cleaned u far took) before (λ e. absurd (omega (arith, e))) cl in
    let rest = cleared keep z u far took before c.2 (λ v y i. last v y (inr i)) there old lt in
    (rest.0, λ s p i l. shown_case keep z u t s o p before c.0 rest i l)
cleared keep z u far took (Cleaned t upto b ∷ before) c last there cl lt =
    let was = among_filter (is_left upto b (there_behind before)) z (there_behind before) there in
    cleaned_case keep z u t far took upto b before c was.0 (λ old. cleared keep z u far took before c.2 (λ v y i. last v y (inr i)) was.0 old lt) cl lt

-- ---- the last record stays, or all who were shown one before it had their time

-- nothing is there before it, and whoever was shown a record before it was so long before some act
pub record IsLost (keep : ℕ) (z : KeyRecord) (acts : List Act) : Type 0 where
  pub none : (y : KeyRecord) → IsAmong y (there_behind acts) → y.offset <ℤ z.offset → ⊥
  pub act : Act
  pub happened : IsAmong act acts
  pub shown : (t : ℕ) (o : ℤ) → IsAmong (Shown t o) acts → o <ℤ z.offset → t + keep ≤ time_of act

-- of a cleaning that takes the last record
taken : (keep : ℕ) (z : KeyRecord) (t : ℕ) (upto b : ℤ) (before : List Act) → IsCourse keep (Cleaned t upto b ∷ before) → IsLast z before → IsAmong z (there_behind before)
    → pos 0 ≤ℤ z.offset → z.offset <ℤ b → MayFollow keep before (Cleaned t upto b) → IsLost keep z (Cleaned t upto b ∷ before)
taken keep z t upto b before c last there low goes (inl none) = absurd (omega (arith, ints, low, goes, none))
taken keep z t upto b before c last there low goes (inr m) =
    let reached : z.offset <ℤ m.1 = omega (arith, ints, goes, m.4) in
    let found = cleared keep z m.0 m.1 m.2 before c.2 last there m.3 reached in
    record {
      none = λ y i l. found.0 y (among_filter (is_left upto b (there_behind before)) y (there_behind before) i).0 l;
      act = Cleaned t upto b;
      happened = inl refl;
      shown = λ s o i l.
          let early : s ≤ m.0 = found.1 s o (among_rest (Cleaned t upto b) (Shown s o) before (λ e. absurd (omega (arith, e))) i) l in
          omega (arith, early, m.5);
    }

still_lost_cleaned : (keep : ℕ) (z : KeyRecord) (t : ℕ) (upto b : ℤ) (before : List Act) → IsLost keep z before → IsLost keep z (Cleaned t upto b ∷ before)
still_lost_cleaned keep z t upto b before lost = record {
  none = λ y i l. lost.none y (among_filter (is_left upto b (there_behind before)) y (there_behind before) i).0 l;
  act = lost.act;
  happened = inr lost.happened;
  shown = λ s o i l. lost.shown s o (among_rest (Cleaned t upto b) (Shown s o) before (λ e. absurd (omega (arith, e))) i) l;
}

shown_lost : (keep : ℕ) (z : KeyRecord) (t s : ℕ) (o p : ℤ) (before : List Act) → MayFollow keep before (Shown t o) → (lost : IsLost keep z before)
    → IsAmong (Shown s p) (Shown t o ∷ before) → p <ℤ z.offset → s + keep ≤ time_of lost.act
shown_lost keep z t s o p before follows lost (inl is) l =
    let same : o ≡ p = ap shown_of is in
    let low : follows.0.offset <ℤ z.offset = subst (λ (q : ℤ). q <ℤ z.offset) (sym (follows.1 ∙ same)) l in
    absurd (lost.none follows.0 follows.2 low)
shown_lost keep z t s o p before follows lost (inr i) l = lost.shown s p i l

still_lost_shown : (keep : ℕ) (z : KeyRecord) (t : ℕ) (o : ℤ) (before : List Act) → MayFollow keep before (Shown t o) → IsLost keep z before → IsLost keep z (Shown t o ∷ before)
still_lost_shown keep z t o before follows lost = record {
  none = lost.none;
  act = lost.act;
  happened = inr lost.happened;
  shown = λ s p i l. shown_lost keep z t s o p before follows lost i l;
}

by_cleaning : (keep : ℕ) (z : KeyRecord) (t : ℕ) (upto b : ℤ) (before : List Act) → IsCourse keep (Cleaned t upto b ∷ before) → IsLast z before → pos 0 ≤ℤ z.offset
    → (IsAmong z (there_behind before) ⊎ IsLost keep z before) → IsAmong z (there_behind (Cleaned t upto b ∷ before)) ⊎ IsLost keep z (Cleaned t upto b ∷ before)
by_cleaning keep z t upto b before c last low (inr lost) = inr (still_lost_cleaned keep z t upto b before lost)
by_cleaning keep z t upto b before c last low (inl there) = by (is_left upto b (there_behind before) z) refl where
  by : (q : Bool) → is_left upto b (there_behind before) z ≡ q → IsAmong z (there_behind (Cleaned t upto b ∷ before)) ⊎ IsLost keep z (Cleaned t upto b ∷ before)
  by true e = inl (filter_among (is_left upto b (there_behind before)) z (there_behind before) e there)
  by false e = inr (taken keep z t upto b before c last there low (last_goes z upto b (there_behind before) (last_there z before last) e) c.0)

by_showing : (keep : ℕ) (z : KeyRecord) (t : ℕ) (o : ℤ) (before : List Act) → MayFollow keep before (Shown t o)
    → (IsAmong z (there_behind before) ⊎ IsLost keep z before) → IsAmong z (there_behind before) ⊎ IsLost keep z (Shown t o ∷ before)
by_showing keep z t o before follows (inl there) = inl there
by_showing keep z t o before follows (inr lost) = inr (still_lost_shown keep z t o before follows lost)

just_came : (keep : ℕ) (z x : KeyRecord) (t u : ℕ) (before : List Act) → MayFollow keep before (Appended t x) → IsLast z (Appended t x ∷ before)
    → IsAmong (Appended u z) (Appended t x ∷ before) → x ≡ z
just_came keep z x t u before follows last (inl is) = ap (record_of x) is
just_came keep z x t u before follows last (inr i) =
    let low : z.offset <ℤ x.offset = follows.1 u z i in
    absurd (clash z.offset x.offset low (last t x (inl refl)))

stays_or_lost : (keep : ℕ) (z : KeyRecord) (u : ℕ) (acts : List Act) → IsCourse keep acts → IsAmong (Appended u z) acts → IsLast z acts → pos 0 ≤ℤ z.offset
    → IsAmong z (there_behind acts) ⊎ IsLost keep z acts
stays_or_lost keep z u [] c i last low = absurd i
stays_or_lost keep z u (Appended t x ∷ before) c i last low = inl (inl (just_came keep z x t u before c.0 last i))
stays_or_lost keep z u (Cleaned t upto b ∷ before) c i last low =
    let old = among_rest (Cleaned t upto b) (Appended u z) before (λ e. absurd (omega (arith, e))) i in
    by_cleaning keep z t upto b before c (λ v y j. last v y (inr j)) low (stays_or_lost keep z u before c.2 old (λ v y j. last v y (inr j)) low)
stays_or_lost keep z u (Shown t o ∷ before) c i last low =
    let old = among_rest (Shown t o) (Appended u z) before (λ e. absurd (omega (arith, e))) i in
    by_showing keep z t o before c.0 (stays_or_lost keep z u before c.2 old (λ v y j. last v y (inr j)) low)

-- ---- the last record of those that came

record HasLast (x : KeyRecord) (acts : List Act) : Type 0 where
  one : KeyRecord
  time : ℕ
  came : IsAmong (Appended time one) acts
  last : IsLast one acts
  behind : x.offset ≤ℤ one.offset
  low : pos 0 ≤ℤ one.offset

last_now : (keep : ℕ) (t : ℕ) (x : KeyRecord) (before : List Act) → MayFollow keep before (Appended t x) → IsLast x (Appended t x ∷ before)
last_now keep t x before follows v y (inl is) =
    let same : x ≡ y = ap (record_of x) is in
    subst (λ (r : KeyRecord). r.offset ≤ℤ x.offset) same (int_refl x.offset)
last_now keep t x before follows v y (inr i) =
    let low : y.offset <ℤ x.offset = follows.1 v y i in
    omega (arith, ints, low)

has_last : (keep : ℕ) (u : ℕ) (x : KeyRecord) (acts : List Act) → IsCourse keep acts → IsAmong (Appended u x) acts → HasLast x acts
has_last keep u x [] c i = absurd i
has_last keep u x (Appended t y ∷ before) c i = record {
  one = y;
  time = t;
  came = inl refl;
  last = last_now keep t y before c.0;
  behind = last_now keep t y before c.0 u x i;
  low = c.0.0;
}
has_last keep u x (Cleaned t upto b ∷ before) c i =
    let rest = has_last keep u x before c.2 (among_rest (Cleaned t upto b) (Appended u x) before (λ e. absurd (omega (arith, e))) i) in
    record {
      one = rest.one;
      time = rest.time;
      came = inr rest.came;
      behind = rest.behind;
      low = rest.low;
      last = λ v y j. rest.last v y (among_rest (Cleaned t upto b) (Appended v y) before (λ e. absurd (omega (arith, e))) j);
    }
has_last keep u x (Shown t o ∷ before) c i =
    let rest = has_last keep u x before c.2 (among_rest (Shown t o) (Appended u x) before (λ e. absurd (omega (arith, e))) i) in
    record {
      one = rest.one;
      time = rest.time;
      came = inr rest.came;
      behind = rest.behind;
      low = rest.low;
      last = λ v y j. rest.last v y (among_rest (Shown t o) (Appended v y) before (λ e. absurd (omega (arith, e))) j);
    }

finds : (keep now : ℕ) (acts : List Act) (t : ℕ) (o : ℤ) (x : KeyRecord) (z : HasLast x acts) → ((a : Act) → IsAmong a acts → time_of a ≤ now) → IsAmong (Shown t o) acts → o <ℤ x.offset
    → now < t + keep → (IsAmong z.one (there_behind acts) ⊎ IsLost keep z.one acts) → (y : KeyRecord) × IsAmong y (there_behind acts) × (x.offset ≤ℤ y.offset)
finds keep now acts t o x z times shown lt soon (inl there) = (z.one, there, z.behind)
finds keep now acts t o x z times shown lt soon (inr lost) =
    let low : o <ℤ z.one.offset = omega (arith, ints, lt, z.behind) in
    let late : t + keep ≤ time_of lost.act = lost.shown t o shown low in
    let by_now : time_of lost.act ≤ now = times lost.act lost.happened in
    absurd (omega (arith, late, by_now, soon))

pub learns : (keep now : ℕ) (acts : List Act) → IsCourse keep acts → ((a : Act) → IsAmong a acts → time_of a ≤ now) → LearnsInTime keep now acts
learns keep now acts c times t u o x shown appended lt soon =
    let z = has_last keep u x acts c appended in
    finds keep now acts t o x z times shown lt soon (stays_or_lost keep z.one z.time acts c z.came z.last z.low)
