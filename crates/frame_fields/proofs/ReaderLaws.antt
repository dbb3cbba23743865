-- Readers that find exactly the encodings and each fault: one after the other, and many times.
use Rattle.std.proofs.Common.{◌≡◌, ℕ, zero, suc, ◌<◌, List, [], ◌∷◌, ◌++◌, length, Ok, Err, refl, sym, ap, subst, ◌∙◌, append_assoc, arith, ◌⊎◌, inl, inr}
use Rattle.std.specs.List.{flat_map, AllByRecursion}
use Rattle.std.proofs.lemmas.List.Concat.{flat_map-cons}
use Rattle.frame_fields.specs.declared.error.FieldFault.{FieldFault}
use Rattle.frame_fields.specs.Fields.{FirstOrLater}
use Rattle.frame_fields.specs.Reading.{At, map_read, then_read, read_times}
use Rattle.frame_fields.proofs.Numbers.{IsBytes, IsBytes-second}

-- ---- what a step gave

abbrev pub done : {A : Type 0} → A → List ℕ → At A
done x rest = Ok (x, rest)

pub done_is : {A : Type 0} (x y : A) (a b : List ℕ) → done x a ≡ done y b → (x ≡ y) × (a ≡ b)
done_is {A = A} x y a b e =
    let here : A × List ℕ = (x, a) in
    let there : A × List ℕ = (y, b) in
    let p : here ≡ there = cc in
    (ap (λ q. q.0) p, ap (λ q. q.1) p)

pub map_read_ok : {A B : Type 0} (f : A → B) (r : At A) (v : B) (rest : List ℕ) → map_read f r ≡ Ok (v, rest) → (u : A) × (r ≡ Ok (u, rest)) × (f u ≡ v)
map_read_ok f (Ok x) v rest e =
    let p = done_is (f x.0) v x.1 rest e in
    (x.0, ap (λ (t : List ℕ). done x.0 t) p.1, p.0)
map_read_ok f (Err e') v rest e = absurd cc

pub map_read_err : {A B : Type 0} (f : A → B) (r : At A) (e : FieldFault) → map_read f r ≡ Err e → r ≡ Err e
map_read_err f (Ok x) e h = absurd cc
map_read_err f (Err e') e h = cc

pub map_read_same : {A : Type 0} (r : At A) → r ≡ map_read (λ v. v) r
map_read_same (Ok x) = refl
map_read_same (Err e) = refl

pub map_read_twice : {A B C : Type 0} (f : A → B) (g : B → C) (r : At A) → map_read g (map_read f r) ≡ map_read (λ x. g (f x)) r
map_read_twice f g (Ok x) = refl
map_read_twice f g (Err e) = refl

then_ok : {A B : Type 0} (r : At A) (next : List ℕ → At B) (v : A × B) (rest : List ℕ) → then_read r next ≡ Ok (v, rest) → (tail : List ℕ) × (r ≡ Ok (v.0, tail)) × (next tail ≡ Ok (v.1, rest))
then_ok (Ok x) next v rest e =
    let m = map_read_ok (λ y. (x.0, y)) (next x.1) v rest e in
    (x.1, ap (λ q. done q.0 x.1) m.2, m.1 ∙ ap (λ q. done q.1 rest) m.2)
then_ok (Err e') next v rest e = absurd cc

then_err : {A B : Type 0} (r : At A) (next : List ℕ → At B) (e : FieldFault) → then_read r next ≡ Err e → (r ≡ Err e) ⊎ ((x : A) × (tail : List ℕ) × (r ≡ Ok (x, tail)) × (next tail ≡ Err e))
then_err (Ok x) next e h = inr (x.0, x.1, refl, map_read_err (λ y. (x.0, y)) (next x.1) e h)
then_err (Err e') next e h = inl cc

then_done : {A B : Type 0} (r : At A) (next : List ℕ → At B) (x : A) (tail : List ℕ) (y : B) (rest : List ℕ) → r ≡ Ok (x, tail) → next tail ≡ Ok (y, rest) → then_read r next ≡ Ok ((x, y), rest)
then_done r next x tail y rest first later =
    ap (λ q. then_read q next) first ∙ ap (map_read (λ z. (x, z))) later

then_broken : {A B : Type 0} (r : At A) (next : List ℕ → At B) (x : A) (tail : List ℕ) (e : FieldFault) → r ≡ Ok (x, tail) → next tail ≡ Err e → then_read r next ≡ Err e
then_broken r next x tail e first later =
    ap (λ q. then_read q next) first ∙ ap (map_read (λ z. (x, z))) later

-- ---- a reader and its grammar

-- Reading finds exactly the encodings, and each fault.
pub record Reads {X : Type 0} (enc : X → List ℕ) (fits : X → Type 0) (breaks : FieldFault → List ℕ → Type 0) (read : List ℕ → At X) : Type 0 where
  pub again : (v : X) (rest : List ℕ) → fits v → read (enc v ++ rest) ≡ Ok (v, rest)
  pub takes : (bytes : List ℕ) (v : X) (rest : List ℕ) → IsBytes bytes → read bytes ≡ Ok (v, rest) → fits v × (bytes ≡ enc v ++ rest)
  pub broken : (e : FieldFault) (bytes : List ℕ) → breaks e bytes → read bytes ≡ Err e
  pub fault : (e : FieldFault) (bytes : List ℕ) → IsBytes bytes → read bytes ≡ Err e → breaks e bytes

rest_is_bytes : (bytes text rest : List ℕ) → bytes ≡ text ++ rest → IsBytes bytes → IsBytes rest
rest_is_bytes bytes text rest parts h = IsBytes-second text rest (subst IsBytes parts h)

-- the second part begins where the first ends
later_parts : (bytes x tail y rest : List ℕ) → bytes ≡ x ++ tail → tail ≡ y ++ rest → bytes ≡ (x ++ y) ++ rest
later_parts bytes x tail y rest p q = p ∙ ap (λ (t : List ℕ). x ++ t) q ∙ sym (append_assoc x y rest)

-- The same reader: its encodings and faults in other words.
pub same_reads : {X : Type 0} {enc enc' : X → List ℕ} {fits fits' : X → Type 0} {breaks breaks' : FieldFault → List ℕ → Type 0} {read : List ℕ → At X} → Reads enc fits breaks read → ((v : X) → enc' v ≡ enc v) → ((v : X) → fits' v → fits v) → ((v : X) → fits v → fits' v) → ((e : FieldFault) (bytes : List ℕ) → breaks' e bytes → breaks e bytes) → ((e : FieldFault) (bytes : List ℕ) → IsBytes bytes → breaks e bytes → breaks' e bytes) → Reads enc' fits' breaks' read
same_reads {read = read} p same into from broken_into broken_from = record {
  again = λ v rest h. ap (λ (t : List ℕ). read (t ++ rest)) (same v) ∙ p.again v rest (into v h);
  takes = λ bytes v rest h e. let t = p.takes bytes v rest h e in (from v t.0, t.1 ∙ ap (λ (x : List ℕ). x ++ rest) (sym (same v)));
  broken = λ e bytes h. p.broken e bytes (broken_into e bytes h);
  fault = λ e bytes h k. broken_from e bytes h (p.fault e bytes h k);
}

-- ---- one after the other

module _ {X Y : Type 0} {enc : X → List ℕ} {fits : X → Type 0} {breaks : FieldFault → List ℕ → Type 0} {read : List ℕ → At X} {enc' : Y → List ℕ} {fits' : Y → Type 0} {breaks' : FieldFault → List ℕ → Type 0} {read' : List ℕ → At Y} (p : Reads enc fits breaks read) (q : Reads enc' fits' breaks' read') where
  then_again : (v : X × Y) (rest : List ℕ) → fits v.0 × fits' v.1 → then_read (read ((enc v.0 ++ enc' v.1) ++ rest)) read' ≡ Ok (v, rest)
  then_again v rest h =
      let bytes = (enc v.0 ++ enc' v.1) ++ rest in
      let tail = enc' v.1 ++ rest in
      let first : read bytes ≡ Ok (v.0, tail) = ap read (append_assoc (enc v.0) (enc' v.1) rest) ∙ p.again v.0 tail h.0 in
      then_done (read bytes) read' v.0 tail v.1 rest first (q.again v.1 rest h.1)

  then_takes : (bytes : List ℕ) (v : X × Y) (rest : List ℕ) → IsBytes bytes → then_read (read bytes) read' ≡ Ok (v, rest) → (fits v.0 × fits' v.1) × (bytes ≡ (enc v.0 ++ enc' v.1) ++ rest)
  then_takes bytes v rest h e =
      let s = then_ok (read bytes) read' v rest e in
      let first = p.takes bytes v.0 s.0 h s.1 in
      let later = q.takes s.0 v.1 rest (rest_is_bytes bytes (enc v.0) s.0 first.1 h) s.2 in
      ((first.0, later.0), later_parts bytes (enc v.0) s.0 (enc' v.1) rest first.1 later.1)

  either_broken : (e : FieldFault) (bytes : List ℕ) → FirstOrLater enc fits breaks breaks' e bytes → then_read (read bytes) read' ≡ Err e
  either_broken e bytes (inl h) = ap (λ r. then_read r read') (p.broken e bytes h)
  either_broken e bytes (inr h) = then_broken (read bytes) read' h.0 h.1 e (ap read h.3 ∙ p.again h.0 h.1 h.2) (q.broken e h.1 h.4)

  then_fault : (e : FieldFault) (bytes : List ℕ) → IsBytes bytes → then_read (read bytes) read' ≡ Err e → FirstOrLater enc fits breaks breaks' e bytes
  then_fault e bytes h k =
      elim (then_err (read bytes) read' e k) [
        | inl first ↦ inl (p.fault e bytes h first)
        | inr s ↦
            let first = p.takes bytes s.0 s.1 h s.2 in
            inr (s.0, s.1, first.0, first.1, q.fault e s.1 (rest_is_bytes bytes (enc s.0) s.1 first.1 h) s.3)
      ]

  pub then_reads : Reads {X = X × Y} (λ v. enc v.0 ++ enc' v.1) (λ v. fits v.0 × fits' v.1) (FirstOrLater enc fits breaks breaks') (λ bytes. then_read (read bytes) read')
  then_reads = record { again = then_again; takes = then_takes; broken = either_broken; fault = then_fault }

-- ---- that many elements

abbrev front_of : {X : Type 0} → X × List X → List X
front_of p = p.0 ∷ p.1

-- An element and the others, where they begin: the bytes of a list.
list_parts : {X : Type 0} (enc : X → List ℕ) (x : X) (xs : List X) (rest : List ℕ) → flat_map enc (x ∷ xs) ++ rest ≡ enc x ++ (flat_map enc xs ++ rest)
list_parts enc x xs rest = ap (λ (t : List ℕ). t ++ rest) (flat_map-cons enc x xs) ∙ append_assoc (enc x) (flat_map enc xs) rest

-- Some elements are encoded, fewer than n, and the next one has the fault.
abbrev pub TimesBreak : {X : Type 0} → (X → List ℕ) → (X → Type 0) → (FieldFault → List ℕ → Type 0) → ℕ → FieldFault → List ℕ → Type 0
TimesBreak {X = X} enc fits breaks n e bytes =
    (before : List X) × (tail : List ℕ) × AllByRecursion fits before × (length before < n) × (bytes ≡ flat_map enc before ++ tail) × breaks e tail

module _ {X : Type 0} (enc : X → List ℕ) (fits : X → Type 0) (breaks : FieldFault → List ℕ → Type 0) (read : List ℕ → At X) (p : Reads enc fits breaks read) where
  pub times_again : (xs : List X) (rest : List ℕ) → AllByRecursion fits xs → read_times read (length xs) (flat_map enc xs ++ rest) ≡ Ok (xs, rest)
  unfolding read_times
  times_again [] rest h = refl
  times_again (x ∷ xs) rest h =
      let bytes = flat_map enc (x ∷ xs) ++ rest in
      let tail = flat_map enc xs ++ rest in
      let first : read bytes ≡ Ok (x, tail) = ap read (list_parts enc x xs rest) ∙ p.again x tail h.0 in
      ap (map_read front_of) (then_done (read bytes) (read_times read (length xs)) x tail xs rest first (times_again xs rest h.1))

  pub times_takes : (n : ℕ) (bytes : List ℕ) (xs : List X) (rest : List ℕ) → IsBytes bytes → read_times read n bytes ≡ Ok (xs, rest) → (length xs ≡ n) × AllByRecursion fits xs × (bytes ≡ flat_map enc xs ++ rest)
  unfolding read_times
  times_takes zero bytes xs rest h e =
      let d = done_is [] xs bytes rest e in
      subst (λ (ys : List X). (length ys ≡ 0) × AllByRecursion fits ys × (bytes ≡ flat_map enc ys ++ rest)) d.0 (refl, tt, d.1)
  times_takes (suc n) bytes xs rest h e =
      let m = map_read_ok front_of (then_read (read bytes) (read_times read n)) xs rest e in
      let x = m.0.0 in
      let others = m.0.1 in
      let s = then_ok (read bytes) (read_times read n) m.0 rest m.1 in
      let first = p.takes bytes x s.0 h s.1 in
      let later = times_takes n s.0 others rest (rest_is_bytes bytes (enc x) s.0 first.1 h) s.2 in
      let parts : bytes ≡ flat_map enc (x ∷ others) ++ rest = first.1 ∙ ap (λ (t : List ℕ). enc x ++ t) later.2 ∙ sym (list_parts enc x others rest) in
      subst (λ (ys : List X). (length ys ≡ suc n) × AllByRecursion fits ys × (bytes ≡ flat_map enc ys ++ rest)) m.2 (ap suc later.0, (first.0, later.1), parts)

  pub times_broken : (n : ℕ) (before : List X) (tail : List ℕ) (e : FieldFault) → AllByRecursion fits before → length before < n → breaks e tail → read_times read n (flat_map enc before ++ tail) ≡ Err e
  unfolding read_times
  times_broken zero before tail e h few k = absurd (omega arith)
  times_broken (suc n) [] tail e h few k = ap (λ r. map_read front_of (then_read r (read_times read n))) (p.broken e tail k)
  times_broken (suc n) (x ∷ before) tail e h few k =
      let bytes = flat_map enc (x ∷ before) ++ tail in
      let behind = flat_map enc before ++ tail in
      let first : read bytes ≡ Ok (x, behind) = ap read (list_parts enc x before tail) ∙ p.again x behind h.0 in
      ap (map_read front_of) (then_broken (read bytes) (read_times read n) x behind e first (times_broken n before tail e h.1 (omega arith) k))

  pub times_fault : (n : ℕ) (e : FieldFault) (bytes : List ℕ) → IsBytes bytes → read_times read n bytes ≡ Err e → TimesBreak enc fits breaks n e bytes
  unfolding read_times
  times_fault zero e bytes h k = absurd cc
  times_fault (suc n) e bytes h k =
      elim (then_err (read bytes) (read_times read n) e (map_read_err front_of (then_read (read bytes) (read_times read n)) e k)) [
        | inl first ↦ ([], bytes, tt, omega arith, refl, p.fault e bytes h first)
        | inr s ↦
            let x = s.0 in
            let first = p.takes bytes x s.1 h s.2 in
            let later = times_fault n e s.1 (rest_is_bytes bytes (enc x) s.1 first.1 h) s.3 in
            let parts : bytes ≡ flat_map enc (x ∷ later.0) ++ later.1 = first.1 ∙ ap (λ (t : List ℕ). enc x ++ t) later.4 ∙ sym (list_parts enc x later.0 later.1) in
            (x ∷ later.0, later.1, (first.0, later.2), omega (arith, later.3), parts, later.5)
      ]
