-- Where the entries of a map stand, once two change places, or one is removed.
use Rattle.std.proofs.Common.{◌≡◌, ◌≢◌, ℕ, zero, suc, ◌+◌, ◌-◌, ◌<◌, ◌≤◌, ◌⊎◌, inl, inr, arith, Bool, true, false, not, cond, List, [], ◌∷◌, ◌++◌, length, get_or, set, swap, is_some, Option, Some, None, IsSome, sym, ap, subst, refl, ◌∙◌, if◌then◌else◌, slice_get}
use Rattle.std.specs.Prelude.{nat_eq, nat_le, position}
use Rattle.std.specs.Cmp.{nat_eq_equiv}
use Rattle.std.specs.List.{IsDistinct, position_or_len, swap_remove}
use Rattle.std.specs.Map.{keys_of, lookup}
use Rattle.std.specs.Option.{option_and_then, option_map}
use Rattle.std.proofs.lemmas.Option.{slice_get-get_or, slice_get_within, get_or_from_slice_get, same_Some}
use Rattle.std.proofs.lemmas.List.{length-map, length-set, length-take, get_or-take, get_or-set_same, get_or-set_other}
use Rattle.std.proofs.lemmas.List.Edits.{length-swap}
use Rattle.std.proofs.lemmas.Bool.Decides.{nat_tests}
use Rattle.std.proofs.lemmas.Bool.{false≢true}
use Rattle.indexmap.proofs.MapLemmas.{or_len-first, some_index, Found-position, swap_remove_entry-found, swap_remove_entry-missing}
use Rattle.indexmap.proofs.CallerLemmas.{insert_entry-new}
use Rattle.sessions.specs.Waiting.{WaitState, WaitsState, NoneWokenIsNamed, asleep_at, asleep_if, is_behind, named, unnamed, unnamed_at, wait_at}
use Rattle.indexmap.proofs.RemoveLemmas.{own_first}
use Rattle.indexmap.proofs.ReorderLemmas.{exchange, exchange-within, exchange-twice, get_or-swap}
use Rattle.indexmap.specs.IndexMap.{IndexMap, insert_entry, swap_remove_entry}

-- where the last one stands then, if that at i was removed
abbrev pub moved : (i last j : ℕ) → ℕ
moved i last j = if nat_eq j last then i else j

module _ {X : Type 0} where
  -- where the entry with a key stands, or the length
  abbrev pub index_in : ℕ → List (ℕ × X) → ℕ
  index_in k es = position_or_len (nat_eq k) (keys_of es)

  -- the entry with a key stands at an index
  pub record At (k : ℕ) (es : List (ℕ × X)) (i : ℕ) : Type 0 where
    pub value : X
    pub entry : slice_get es i ≡ Some (k, value)
    pub index : index_in k es ≡ i
    pub within : i < length es
    pub found : lookup (nat_eq k) es ≡ Some value

  here : (k : ℕ) (e : ℕ × X) (es : List (ℕ × X)) → nat_eq k e.0 ≡ true → At k (e ∷ es) 0
  here k e es is =
      let same : e.0 ≡ k = grind (arith, is, nat_tests) in
      record {
        value = e.1;
        entry = λ j. Some (same j, e.1);
        index = ap (λ b. cond (not b) (1 + index_in k es) 0) is;
        within = omega arith;
        found = ap (λ b. cond b (Some e.1) (lookup (nat_eq k) es)) is;
      }

  there : (k : ℕ) (e : ℕ × X) (es : List (ℕ × X)) (i : ℕ) → nat_eq k e.0 ≡ false → At k es i → At k (e ∷ es) (suc i)
  there k e es i isnt at = record {
    value = at.value;
    entry = at.entry;
    index = ap (λ b. cond (not b) (1 + index_in k es) 0) isnt ∙ ap (λ n. 1 + n) at.index ∙ omega arith;
    within = omega (arith, at.within);
    found = ap (λ b. cond b (Some e.1) (lookup (nat_eq k) es)) isnt ∙ at.found;
  }

  absent : (k : ℕ) (e : ℕ × X) (es : List (ℕ × X)) → nat_eq k e.0 ≡ false → lookup (nat_eq k) es ≡ None → lookup (nat_eq k) (e ∷ es) ≡ None
  absent k e es isnt none = ap (λ b. cond b (Some e.1) (lookup (nat_eq k) es)) isnt ∙ none

  -- a key is there, or it isn't
  pub look_for : (k : ℕ) (es : List (ℕ × X)) → (lookup (nat_eq k) es ≡ None) ⊎ ((i : ℕ) × At k es i)
  look_for k [] = inl refl
  look_for k (e ∷ es) = by (nat_eq k e.0) refl (look_for k es) where
    by : (b : Bool) → nat_eq k e.0 ≡ b → (lookup (nat_eq k) es ≡ None) ⊎ ((i : ℕ) × At k es i) → (lookup (nat_eq k) (e ∷ es) ≡ None) ⊎ ((i : ℕ) × At k (e ∷ es) i)
    by true is more = inr (0, here k e es is)
    by false isnt (inl none) = inl (absent k e es isnt none)
    by false isnt (inr at) = inr (suc at.0, there k e es at.0 isnt at.1)

  -- an entry is found by its key where it stands
  pub index_is : (es : List (ℕ × X)) (i k : ℕ) (v : X) → IsDistinct nat_eq (keys_of es) → slice_get es i ≡ Some (k, v) → index_in k es ≡ i
  index_is es i k v distinct at = or_len-first (nat_eq k) es i (own_first nat_eq nat_eq_equiv es i k v distinct at)

  -- ---- two change places

  swapped_entry : (es : List (ℕ × X)) (a b j : ℕ) (e : ℕ × X) → a < length es → b < length es → slice_get es j ≡ Some e → slice_get (swap es a b) (exchange a b j) ≡ Some e
  swapped_entry es a b j e a_in b_in at =
      let j_in = slice_get_within es j e at in
      let to_in = exchange-within a b (length es) j a_in b_in j_in in
      slice_get-get_or (swap es a b) (exchange a b j) e (omega (arith, length-swap es a b, to_in))
      ∙ ap Some (get_or-swap es a b e a_in b_in (exchange a b j) ∙ ap (λ n. get_or es n e) (exchange-twice a b j) ∙ get_or_from_slice_get es j e e at)

  pub swapped_index : (es fs : List (ℕ × X)) (a b k j : ℕ) → fs ≡ swap es a b → IsDistinct nat_eq (keys_of fs) → a < length es → b < length es → At k es j → index_in k fs ≡ exchange a b j
  swapped_index es fs a b k j is distinct a_in b_in at =
      index_is fs (exchange a b j) k at.value distinct (ap (λ l. slice_get l (exchange a b j)) is ∙ swapped_entry es a b j (k, at.value) a_in b_in at.entry)

  -- ---- one is removed

  removed_entry : (es : List (ℕ × X)) (i j : ℕ) (d e : ℕ × X) → i < length es → i ≢ j → slice_get es j ≡ Some e → slice_get (swap_remove es i d) (moved i (length es - 1) j) ≡ Some e
  removed_entry es i j d e i_in apart at = by (nat_eq j (length es - 1)) refl where
    all : List (ℕ × X)
    all = set es i (get_or es (length es - 1) d)

    by : (b : Bool) → nat_eq j (length es - 1) ≡ b → slice_get (swap_remove es i d) (if b then i else j) ≡ Some e
    by true last =
        let j_in = slice_get_within es j e at in
        let same : j ≡ length es - 1 = grind (arith, last, nat_tests) in
        let less : i < length es - 1 = grind (arith, same, i_in, apart) in
        slice_get-get_or (swap_remove es i d) i e (omega (arith, length-take (length es - 1) all, length-set es i (get_or es (length es - 1) d), less))
        ∙ ap Some (get_or-take (length es - 1) all i e less ∙ get_or-set_same es i (get_or es (length es - 1) d) e i_in ∙ ap (λ n. get_or es n d) (sym same) ∙ get_or_from_slice_get es j e d at)
    by false other =
        let j_in = slice_get_within es j e at in
        let less : j < length es - 1 = grind (arith, other, j_in, nat_tests) in
        slice_get-get_or (swap_remove es i d) j e (omega (arith, length-take (length es - 1) all, length-set es i (get_or es (length es - 1) d), less))
        ∙ ap Some (get_or-take (length es - 1) all j e less ∙ get_or-set_other es i j (get_or es (length es - 1) d) e (λ same. apart (sym same)) ∙ get_or_from_slice_get es j e e at)

  pub removed_index : (es fs : List (ℕ × X)) (i k j : ℕ) (d : ℕ × X) → fs ≡ swap_remove es i d → IsDistinct nat_eq (keys_of fs) → i < length es → i ≢ j → At k es j → index_in k fs ≡ moved i (length es - 1) j
  removed_index es fs i k j d is distinct i_in apart at =
      index_is fs (moved i (length es - 1) j) k at.value distinct (ap (λ l. slice_get l (moved i (length es - 1) j)) is ∙ removed_entry es i j d (k, at.value) i_in apart at.entry)

  -- ---- those that are there

  pub at_position : (es : List (ℕ × X)) (k i : ℕ) → position (nat_eq k) (keys_of es) ≡ Some i → At k es i
  at_position es k i is = by (look_for k es) where
    by : (lookup (nat_eq k) es ≡ None) ⊎ ((j : ℕ) × At k es j) → At k es i
    by (inl none) = absurd (false≢true (sym (ap is_some none) ∙ sym (some_index (nat_eq k) es) ∙ ap is_some is))
    by (inr at) = subst (At k es) (sym at.1.index ∙ (Found-position (nat_eq k) es i is).or_len) at.1

  -- two keys stand apart
  pub apart : (es : List (ℕ × X)) (n k i j : ℕ) → k ≢ n → At n es i → At k es j → i ≢ j
  apart es n k i j other at_n at_k same =
      other (ap (λ (e : ℕ × X). e.0) (same_Some _ _ (sym at_k.entry ∙ ap (slice_get es) (sym same) ∙ at_n.entry)))

  pub last_entry : (es : List (ℕ × X)) (e : ℕ × X) → slice_get (es ++ e ∷ []) (length es) ≡ Some e
  last_entry [] e = refl
  last_entry (x ∷ es) e = last_entry es e

  pub front_entry : (es fs : List (ℕ × X)) (j : ℕ) (e : ℕ × X) → slice_get es j ≡ Some e → slice_get (es ++ fs) j ≡ Some e
  front_entry [] fs j e at = absurd (false≢true (ap is_some at))
  front_entry (x ∷ es) fs zero e at = at
  front_entry (x ∷ es) fs (suc j) e at = front_entry es fs j e at

-- ---- who sleeps

asleep_none : (b : Bool) → asleep_if b None ≡ None
asleep_none true = refl
asleep_none false = refl

module _ (es fs : List (ℕ × WaitState)) (w v k : ℕ) where
  -- who waits as before sleeps as before, where it is behind as before
  asleep_alike : lookup (nat_eq k) fs ≡ lookup (nat_eq k) es → ((j : ℕ) → At k es j → nat_le v (index_in k fs) ≡ nat_le w j)
      → asleep_if (nat_le v (index_in k fs)) (lookup (nat_eq k) fs) ≡ asleep_if (nat_le w (index_in k es)) (lookup (nat_eq k) es)
  asleep_alike same tests = by (look_for k es) where
    by : (lookup (nat_eq k) es ≡ None) ⊎ ((j : ℕ) × At k es j) → asleep_if (nat_le v (index_in k fs)) (lookup (nat_eq k) fs) ≡ asleep_if (nat_le w (index_in k es)) (lookup (nat_eq k) es)
    by (inl none) =
        ap (asleep_if (nat_le v (index_in k fs))) (same ∙ none) ∙ asleep_none (nat_le v (index_in k fs))
        ∙ sym (ap (asleep_if (nat_le w (index_in k es))) none ∙ asleep_none (nat_le w (index_in k es)))
    by (inr at) =
        let is : nat_le v (index_in k fs) ≡ nat_le w (index_in k es) = tests at.0 at.1 ∙ ap (nat_le w) (sym at.1.index) in
        λ x. asleep_if (is x) (same x)

module _ (es fs : List (ℕ × WaitState)) (w v n : ℕ) (old : NoneWokenIsNamed (record { entries = es; woken = w })) where
  -- none that is woken was named, where that holds of one, and each other stands on its side, as it was
  none_named : ((k : ℕ) → k ≢ n → lookup (nat_eq k) fs ≡ lookup (nat_eq k) es) → ((k j : ℕ) → k ≢ n → At k es j → nat_le v (index_in k fs) ≡ nat_le w j)
      → ((wait : WaitState) → lookup (nat_eq n) fs ≡ Some wait → nat_le v (index_in n fs) ≡ false → wait.is_named ≡ false) → NoneWokenIsNamed (record { entries = fs; woken = v })
  none_named same tests own k wait found front = by (nat_eq k n) refl where
    by : (b : Bool) → nat_eq k n ≡ b → wait.is_named ≡ false
    by true is =
        let this : k ≡ n = grind (arith, is, nat_tests) in
        own wait (ap (λ i. lookup (nat_eq i) fs) (sym this) ∙ found) (ap (λ i. nat_le v (index_in i fs)) (sym this) ∙ front)
    by false isnt = there (look_for k es) where
      away : k ≢ n
      away = grind (arith, isnt, nat_tests)

      there : (lookup (nat_eq k) es ≡ None) ⊎ ((j : ℕ) × At k es j) → wait.is_named ≡ false
      there (inl none) = absurd (false≢true (ap is_some (sym none ∙ sym (same k away) ∙ found)))
      there (inr at) = old k wait (sym (same k away) ∙ found) (ap (nat_le w) at.1.index ∙ sym (tests k at.0 away at.1) ∙ front)

-- ---- waking

module _ (es fs : List (ℕ × WaitState)) (w i n : ℕ) (behind : w ≤ i) (at : At n es i) (swapped : fs ≡ swap es i w) (distinct : IsDistinct nat_eq (keys_of fs)) where
  w_in : w < length es
  w_in = omega (arith, behind, at.within)

  pub woken_sleeps_not : asleep_at (record { entries = fs; woken = w + 1 }) n ≡ None
  woken_sleeps_not =
      let index = swapped_index es fs i w n i swapped distinct at.within w_in at in
      let front : nat_le (w + 1) (index_in n fs) ≡ false = grind (arith, index, nat_tests) in
      ap (λ b. asleep_if b (lookup (nat_eq n) fs)) front

  woken_stays : (k j : ℕ) → k ≢ n → At k es j → nat_le (w + 1) (index_in k fs) ≡ nat_le w j
  woken_stays k j other here =
      let index = swapped_index es fs i w k j swapped distinct at.within w_in here in
      let away : i ≢ j = apart es n k i j other at here in
      grind (arith, index, behind, away, nat_tests)

  pub woken_others : (old : WaitsState) → ◌≡◌ {A = WaitsState} (record { entries = es; woken = w }) old → ((k : ℕ) → lookup (nat_eq k) fs ≡ lookup (nat_eq k) es)
      → (k : ℕ) → k ≢ n → asleep_at (record { entries = fs; woken = w + 1 }) k ≡ asleep_at old k
  woken_others old view same k other = asleep_alike es fs w (w + 1) k (same k) (λ j. woken_stays k j other) ∙ ap (λ s. asleep_at s k) view

  pub woken_unnamed : NoneWokenIsNamed (record { entries = es; woken = w }) → ((k : ℕ) → lookup (nat_eq k) fs ≡ lookup (nat_eq k) es) → ((wait : WaitState) → lookup (nat_eq n) es ≡ Some wait → wait.is_named ≡ false)
      → NoneWokenIsNamed (record { entries = fs; woken = w + 1 })
  woken_unnamed old same own = none_named es fs w (w + 1) n old (λ k _. same k) woken_stays (λ wait found front. own wait (sym (same n) ∙ found))

-- ---- putting behind

module _ (es fs : List (ℕ × WaitState)) (w i n : ℕ) (front : i < w) (within : w ≤ length es) (at : At n es i) (swapped : fs ≡ swap es i (w - 1)) (distinct : IsDistinct nat_eq (keys_of fs)) where
  last_in : w - 1 < length es
  last_in = omega (arith, front, within)

  pub put_is_behind : is_behind (record { entries = fs; woken = w - 1 }) n ≡ true
  put_is_behind =
      let index = swapped_index es fs i (w - 1) n i swapped distinct at.within last_in at in
      grind (arith, index, nat_tests)

  put_stays : (k j : ℕ) → k ≢ n → At k es j → nat_le (w - 1) (index_in k fs) ≡ nat_le w j
  put_stays k j other here =
      let index = swapped_index es fs i (w - 1) k j swapped distinct at.within last_in here in
      let away : i ≢ j = apart es n k i j other at here in
      grind (arith, index, front, away, nat_tests)

  pub put_others : (old : WaitsState) → ◌≡◌ {A = WaitsState} (record { entries = es; woken = w }) old → ((k : ℕ) → lookup (nat_eq k) fs ≡ lookup (nat_eq k) es)
      → (k : ℕ) → k ≢ n → asleep_at (record { entries = fs; woken = w - 1 }) k ≡ asleep_at old k
  put_others old view same k other = asleep_alike es fs w (w - 1) k (same k) (λ j. put_stays k j other) ∙ ap (λ s. asleep_at s k) view

  pub put_unnamed : NoneWokenIsNamed (record { entries = es; woken = w }) → ((k : ℕ) → lookup (nat_eq k) fs ≡ lookup (nat_eq k) es) → NoneWokenIsNamed (record { entries = fs; woken = w - 1 })
  put_unnamed old same = none_named es fs w (w - 1) n old (λ k _. same k) put_stays (λ wait found is. absurd (false≢true (sym is ∙ put_is_behind)))

-- ---- removing

module _ (es fs : List (ℕ × WaitState)) (w n : ℕ) (behind : nat_le w (index_in n es) ≡ true) (removed : fs ≡ swap_remove_entry (nat_eq n) es) (distinct : IsDistinct nat_eq (keys_of fs)) where
  removed_stays : (k j : ℕ) → k ≢ n → At k es j → nat_le w (index_in k fs) ≡ nat_le w j
  removed_stays k j other here = by (position (nat_eq n) (keys_of es)) refl where
    by : (p : Option ℕ) → position (nat_eq n) (keys_of es) ≡ p → nat_le w (index_in k fs) ≡ nat_le w j
    by None none = ap (nat_le w) (ap (index_in k) (removed ∙ swap_remove_entry-missing (nat_eq n) es none) ∙ here.index)
    by (Some i) is =
        let at = at_position es n i is in
        let away : i ≢ j = apart es n k i j other at here in
        let index = removed_index es fs i k j (n, at.value) (removed ∙ swap_remove_entry-found (nat_eq n) es i (n, at.value) is) distinct at.within away here in
        let from : w ≤ i = grind (arith, behind, at.index, nat_tests) in
        grind (arith, index, from, at.within, here.within, nat_tests)

  pub removed_others : (mid old : WaitsState) → ◌≡◌ {A = WaitsState} (record { entries = es; woken = w }) mid → ((k : ℕ) → k ≢ n → asleep_at mid k ≡ asleep_at old k)
      → ((k : ℕ) → nat_eq n k ≡ false → lookup (nat_eq k) fs ≡ lookup (nat_eq k) es) → (k : ℕ) → k ≢ n → asleep_at (record { entries = fs; woken = w }) k ≡ asleep_at old k
  removed_others mid old view before same k other =
      asleep_alike es fs w w k (same k (grind (arith, other, nat_tests))) (λ j. removed_stays k j other) ∙ ap (λ s. asleep_at s k) view ∙ before k other

  pub removed_within : w ≤ length es → w ≤ length fs
  removed_within within = by (position (nat_eq n) (keys_of es)) refl where
    by : (p : Option ℕ) → position (nat_eq n) (keys_of es) ≡ p → w ≤ length fs
    by None none = omega (arith, within, ap length (removed ∙ swap_remove_entry-missing (nat_eq n) es none))
    by (Some i) is =
        let at = at_position es n i is in
        let all : List (ℕ × WaitState) = set es i (get_or es (length es - 1) (n, at.value)) in
        let from : w ≤ i = grind (arith, behind, at.index, nat_tests) in
        omega (arith, from, at.within, ap length (removed ∙ swap_remove_entry-found (nat_eq n) es i (n, at.value) is), length-take (length es - 1) all, length-set es i (get_or es (length es - 1) (n, at.value)))

  pub removed_unnamed : NoneWokenIsNamed (record { entries = es; woken = w }) → lookup (nat_eq n) fs ≡ None → ((k : ℕ) → nat_eq n k ≡ false → lookup (nat_eq k) fs ≡ lookup (nat_eq k) es)
      → NoneWokenIsNamed (record { entries = fs; woken = w })
  removed_unnamed old gone same =
      none_named es fs w w n old (λ k other. same k (grind (arith, other, nat_tests))) removed_stays (λ wait found front. absurd (false≢true (ap is_some (sym gone ∙ found))))

-- ---- adding

pub added_is : {S : Type 0} (m : IndexMap ℕ WaitState S) (fs : List (ℕ × WaitState)) (n w : ℕ) (wait : WaitState) (old : WaitsState) → ◌≡◌ {A = WaitsState} (record { entries = m.entries; woken = w }) old → wait_at old n ≡ None
    → fs ≡ insert_entry nat_eq m.entries n wait → fs ≡ m.entries ++ (n, wait) ∷ []
added_is m fs n w wait old view none is = is ∙ insert_entry-new nat_eq m n wait (ap (λ (s : WaitsState). wait_at s n) view ∙ none)

module _ (es fs : List (ℕ × WaitState)) (w n : ℕ) (wait : WaitState) (within : w ≤ length es) (added : fs ≡ es ++ (n, wait) ∷ []) (distinct : IsDistinct nat_eq (keys_of fs)) where
  added_behind : nat_le w (index_in n fs) ≡ true
  added_behind =
      let index = index_is fs (length es) n wait distinct (ap (λ l. slice_get l (length es)) added ∙ last_entry es (n, wait)) in
      grind (arith, index, within, nat_tests)

  added_stays : (k j : ℕ) → k ≢ n → At k es j → nat_le w (index_in k fs) ≡ nat_le w j
  added_stays k j other here = ap (nat_le w) (index_is fs j k here.value distinct (ap (λ l. slice_get l j) added ∙ front_entry es ((n, wait) ∷ []) j (k, here.value) here.entry))

  pub added_sleeps : lookup (nat_eq n) fs ≡ Some wait → asleep_at (record { entries = fs; woken = w }) n ≡ unnamed wait
  added_sleeps found = λ x. asleep_if (added_behind x) (found x)

  pub added_others : (old : WaitsState) → ◌≡◌ {A = WaitsState} (record { entries = es; woken = w }) old → ((k : ℕ) → nat_eq n k ≡ false → lookup (nat_eq k) fs ≡ lookup (nat_eq k) es)
      → (k : ℕ) → k ≢ n → asleep_at (record { entries = fs; woken = w }) k ≡ asleep_at old k
  added_others old view same k other = asleep_alike es fs w w k (same k (grind (arith, other, nat_tests))) (λ j. added_stays k j other) ∙ ap (λ s. asleep_at s k) view

  pub added_unnamed : NoneWokenIsNamed (record { entries = es; woken = w }) → ((k : ℕ) → nat_eq n k ≡ false → lookup (nat_eq k) fs ≡ lookup (nat_eq k) es) → NoneWokenIsNamed (record { entries = fs; woken = w })
  added_unnamed old same =
      none_named es fs w w n old (λ k other. same k (grind (arith, other, nat_tests))) added_stays (λ _ found front. absurd (false≢true (sym front ∙ added_behind)))

-- ---- naming

asleep_named : (b : Bool) (x : Option WaitState) → asleep_if b (option_map named x) ≡ None
asleep_named true None = refl
asleep_named true (Some x) = refl
asleep_named false x = refl

unnamed_there : (o : Option WaitState) (wait : WaitState) → o ≡ Some wait → wait.is_named ≡ false → IsSome (option_and_then unnamed o)
unnamed_there o wait found isnt = ap is_some (ap (option_and_then unnamed) found ∙ ap (λ b. if b then None else Some wait) isnt)

module _ (es fs : List (ℕ × WaitState)) (w last n : ℕ) (wait : WaitState) (is_last : w ≡ last + 1) (numbers : keys_of fs ≡ keys_of es) (distinct : IsDistinct nat_eq (keys_of fs)) (at : slice_get es last ≡ Some (n, wait)) where
  named_index : index_in n es ≡ last
  named_index = index_is es last n wait (subst (IsDistinct nat_eq) numbers distinct) at

  named_front : nat_le w (index_in n es) ≡ false
  named_front = grind (arith, is_last, named_index, nat_tests)

  pub named_within : last ≤ length fs
  named_within = omega (arith, slice_get_within es last (n, wait) at, ap length numbers, length-map es (λ e. e.0), length-map fs (λ e. e.0))

  named_stays : (k j : ℕ) → k ≢ n → At k es j → nat_le last (index_in k fs) ≡ nat_le w j
  named_stays k j other here =
      let index : index_in k fs ≡ j = ap (position_or_len (nat_eq k)) numbers ∙ here.index in
      let apart : j ≢ last = λ same. other (ap (λ (e : ℕ × WaitState). e.0) (same_Some _ _ (sym here.entry ∙ ap (slice_get es) same ∙ at))) in
      grind (arith, index, apart, is_last, nat_tests)

  -- it wasn't named before, and stands behind then
  pub named_was_unnamed : (old : WaitsState) → ◌≡◌ {A = WaitsState} (record { entries = es; woken = w }) old → NoneWokenIsNamed (record { entries = es; woken = w }) → lookup (nat_eq n) es ≡ Some wait → IsSome (unnamed_at old n)
  named_was_unnamed old view none found = subst (λ s. IsSome (unnamed_at s n)) view (unnamed_there (lookup (nat_eq n) es) wait found (none n wait found named_front))

  pub named_unnamed : NoneWokenIsNamed (record { entries = es; woken = w }) → ((k : ℕ) → k ≢ n → lookup (nat_eq k) fs ≡ lookup (nat_eq k) es) → NoneWokenIsNamed (record { entries = fs; woken = last })
  named_unnamed old others =
      let index : index_in n fs ≡ last = ap (position_or_len (nat_eq n)) numbers ∙ named_index in
      let behind : nat_le last (index_in n fs) ≡ true = grind (arith, index, nat_tests) in
      none_named es fs w last n old others named_stays (λ _ found front. absurd (false≢true (sym front ∙ behind)))

  pub named_others : (old : WaitsState) → ◌≡◌ {A = WaitsState} (record { entries = es; woken = w }) old → lookup (nat_eq n) fs ≡ option_map named (lookup (nat_eq n) es)
      → ((k : ℕ) → k ≢ n → lookup (nat_eq k) fs ≡ lookup (nat_eq k) es) → (k : ℕ) → asleep_at (record { entries = fs; woken = last }) k ≡ asleep_at old k
  named_others old view names others k = by (nat_eq k n) refl ∙ ap (λ s. asleep_at s k) view where
    by : (b : Bool) → nat_eq k n ≡ b → asleep_at (record { entries = fs; woken = last }) k ≡ asleep_at (record { entries = es; woken = w }) k
    by true is =
        let this : k ≡ n = grind (arith, is, nat_tests) in
        ap (asleep_at (record { entries = fs; woken = last })) this
        ∙ ap (asleep_if (nat_le last (index_in n fs))) names ∙ asleep_named (nat_le last (index_in n fs)) (lookup (nat_eq n) es)
        ∙ sym (ap (λ b. asleep_if b (lookup (nat_eq n) es)) named_front)
        ∙ ap (asleep_at (record { entries = es; woken = w })) (sym this)
    by false isnt =
        let away : k ≢ n = grind (arith, isnt, nat_tests) in
        asleep_alike es fs w last k (others k away) (λ j. named_stays k j away)
