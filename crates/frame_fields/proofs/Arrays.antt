-- An array read element by element.
use Rattle.std.proofs.Common.{◌≡◌, ℕ, zero, suc, ◌+◌, ◌-◌, ◌<◌, ◌≤◌, List, [], ◌∷◌, length, Result, Ok, Err, refl, ap, sym, ◌∙◌, arith}
use Rattle.frame_fields.specs.declared.error.FieldFault.{FieldFault}
use Rattle.frame_fields.specs.Reading.{At, map_ok, map_read, then_read, read_times}
use Rattle.frame_fields.specs.Arrays.{first_and, elements_at}

module _ {X : Type 0} (read : List ℕ → At X) where
  pub none_left : (n : ℕ) (bytes : List ℕ) → n ≡ 0 → elements_at read n bytes ≡ []
  unfolding elements_at
  none_left zero bytes e = refl
  none_left (suc n) bytes e = absurd (omega arith)

  pub none_read : (n : ℕ) (bytes : List ℕ) (e : FieldFault) → read bytes ≡ Err e → elements_at read n bytes ≡ []
  unfolding elements_at
  none_read zero bytes e fault = refl
  none_read (suc n) bytes e fault = ap (λ r. first_and r (elements_at read n)) fault

  pub one_read : (n : ℕ) (bytes : List ℕ) (x : X) (rest : List ℕ) → 0 < n → read bytes ≡ Ok (x, rest) → elements_at read n bytes ≡ x ∷ elements_at read (n - 1) rest
  unfolding elements_at
  one_read zero bytes x rest some found = absurd (omega arith)
  one_read (suc n) bytes x rest some found =
      let before : n ≡ suc n - 1 = omega arith in
      ap (λ r. first_and r (elements_at read n)) found ∙ ap (λ (k : ℕ). x ∷ elements_at read k rest) before

  rest_of_first : (x : X) (others : At (List X)) → map_ok (λ p. p.1) (map_read {A = X × List X} (λ p. p.0 ∷ p.1) (map_read (λ xs. (x, xs)) others)) ≡ map_ok (λ p. p.1) others
  rest_of_first x (Ok y) = refl
  rest_of_first x (Err e) = refl

  pub times_go_on : (n i : ℕ) (bytes : List ℕ) (x : X) (next : List ℕ) (total : Result (List ℕ) FieldFault) → i < n → read bytes ≡ Ok (x, next)
      → map_ok (λ p. p.1) (read_times read (n - i) bytes) ≡ total → map_ok (λ p. p.1) (read_times read (n - (i + 1)) next) ≡ total
  unfolding read_times
  times_go_on n i bytes x next total lt found so_far =
      let k : n - i ≡ suc (n - (i + 1)) = omega arith in
      let one : map_ok (λ p. p.1) (read_times read (n - i) bytes) ≡ map_ok (λ p. p.1) (read_times read (n - (i + 1)) next) = rw (k, found) (rest_of_first x (read_times read (n - (i + 1)) next)) in
      sym one ∙ so_far

  pub times_fail : (n i : ℕ) (bytes : List ℕ) (e : FieldFault) (total : Result (List ℕ) FieldFault) → i < n → read bytes ≡ Err e
      → map_ok (λ p. p.1) (read_times read (n - i) bytes) ≡ total → total ≡ Err e
  unfolding read_times
  times_fail n i bytes e total lt found so_far =
      let k : n - i ≡ suc (n - (i + 1)) = omega arith in
      let one : map_ok (λ p. p.1) (read_times read (n - i) bytes) ≡ Err e = rw (k, found) refl in
      sym so_far ∙ one

  pub times_done : (n i : ℕ) (bytes : List ℕ) (total : Result (List ℕ) FieldFault) → n ≤ i
      → map_ok (λ p. p.1) (read_times read (n - i) bytes) ≡ total → total ≡ Ok bytes
  unfolding read_times
  times_done n i bytes total le so_far =
      let k : n - i ≡ 0 = omega arith in
      let one : map_ok (λ p. p.1) (read_times read (n - i) bytes) ≡ Ok bytes = rw k refl in
      sym so_far ∙ one

  abbrev okay : {A : Type 0} → A → Result A FieldFault
  okay x = Ok x

  same_result : {A : Type 0} (x y : A) → okay x ≡ okay y → x ≡ y
  same_result x y e = cc

  first_of_read : (r : At X) (others : List ℕ → At (List X)) (more : List ℕ → List X) (rest : List ℕ)
      → ((bytes : List ℕ) → map_ok (λ p. p.1) (others bytes) ≡ Ok rest → others bytes ≡ Ok (more bytes, rest))
      → map_ok (λ p. p.1) (map_read {A = X × List X} (λ p. p.0 ∷ p.1) (then_read r others)) ≡ Ok rest
      → map_read {A = X × List X} (λ p. p.0 ∷ p.1) (then_read r others) ≡ Ok (first_and r more, rest)
  first_of_read (Err e) others more rest h read_all = absurd cc
  first_of_read (Ok x) others more rest h read_all =
      let found : others x.1 ≡ Ok (more x.1, rest) = h x.1 (sym (rest_of_first x.0 (others x.1)) ∙ read_all) in
      ap (λ r. map_read {A = X × List X} (λ p. p.0 ∷ p.1) (map_read (λ xs. (x.0, xs)) r)) found

  -- what is read at once is what is read element by element
  pub elements_read : (n : ℕ) (bytes rest : List ℕ) → map_ok (λ p. p.1) (read_times read n bytes) ≡ Ok rest → read_times read n bytes ≡ Ok (elements_at read n bytes, rest)
  unfolding elements_at read_times
  elements_read zero bytes rest e = ap (λ (r : List ℕ). Ok ([], r)) (same_result bytes rest e)
  elements_read (suc n) bytes rest e = first_of_read (read bytes) (read_times read n) (elements_at read n) rest (λ b. elements_read n b rest) e

  fault_kept : {A B : Type 0} (f : A → B) (r : Result A FieldFault) (e : FieldFault) → map_ok f r ≡ Err e → r ≡ Err e
  fault_kept f (Ok x) e h = absurd cc
  fault_kept f (Err d) e h = cc

  pub fault_read : (n : ℕ) (bytes : List ℕ) (e : FieldFault) → map_ok (λ p. p.1) (read_times read n bytes) ≡ Err e → read_times read n bytes ≡ Err e
  fault_read n bytes e h = fault_kept (λ p. p.1) (read_times read n bytes) e h

  more_of : (n : ℕ) (bytes : List ℕ) (x : X) (next : List ℕ) → read bytes ≡ Ok (x, next) → length (elements_at read (suc n) bytes) ≡ suc (length (elements_at read n next))
  unfolding elements_at
  more_of n bytes x next found = ap (λ r. length (first_and r (elements_at read n))) found

  pub count_one_more : (n i total : ℕ) (bytes : List ℕ) (x : X) (next : List ℕ) → i < n → read bytes ≡ Ok (x, next)
      → i + length (elements_at read (n - i) bytes) ≡ total → (i + 1) + length (elements_at read (n - (i + 1)) next) ≡ total
  count_one_more n i total bytes x next lt found so_far =
      let k : n - i ≡ suc (n - (i + 1)) = omega arith in
      let one : length (elements_at read (n - i) bytes) ≡ suc (length (elements_at read (n - (i + 1)) next)) = rw k (more_of (n - (i + 1)) bytes x next found) in
      omega (arith, one, so_far)

  pub count_at_fault : (n i total : ℕ) (bytes : List ℕ) (e : FieldFault) → read bytes ≡ Err e → i + length (elements_at read (n - i) bytes) ≡ total → i ≡ total
  count_at_fault n i total bytes e fault so_far =
      let none : length (elements_at read (n - i) bytes) ≡ 0 = ap length (none_read (n - i) bytes e fault) in
      omega (arith, none, so_far)

  pub count_at_end : (n i total : ℕ) (bytes : List ℕ) → i ≡ n → i + length (elements_at read (n - i) bytes) ≡ total → n ≡ total
  count_at_end n i total bytes e so_far =
      let none : length (elements_at read (n - i) bytes) ≡ 0 = ap length (none_left (n - i) bytes (omega arith)) in
      omega (arith, none, so_far, e)

-- the loop that counts an array's elements
pub ruleset count_elements = (count_one_more, count_at_fault, count_at_end)

-- an array's next element
pub ruleset next_element = (none_left, none_read, one_read)

-- the loop over an array's elements
pub ruleset times_loop = (times_go_on, times_fail, times_done)

-- an array's count and its elements
pub ruleset array_read = (elements_read, fault_read)
