-- The group's keys are those of the table: a key is that of a shown record exactly where the table has a value for it.
use Rattle.std.proofs.Common.{◌≡◌, ◌<◌, ℕ, zero, suc, Bool, true, false, cond, not, ◌&&◌, ◌||◌, List, [], ◌∷◌, length, get_or, Option, Some, None, refl, sym, ap, subst, ◌∙◌, ◌⊎◌, inl, inr, true≢false, arith}
use Rattle.std.specs.Prelude.{is_some, bytes_eq, ◌↔◌, IsSome}
use Rattle.std.specs.List.{fold, list_any, filter_map, cons_option, Contains}
use Rattle.std.specs.Option.{option_and_then}
use Rattle.std.specs.Ordering.{nat_cmp}
use Rattle.std.specs.Cmp.Lexicographic.{slice_cmp}
use Rattle.std.specs.FinMap as finite
use Rattle.std.proofs.lemmas.Slice.Eq.{bytes_eq-Decides}
use Rattle.content.specs.Records.{LogRecord, log_records, equal_keys}
use Rattle.content.specs.Table.{Table, with_record, table_of}
use Rattle.content.specs.Content.{Content, shown_table}
use Rattle.content_laws.proofs.Tables.{get-with_key, key_is}
use Rattle.group_offsets.specs.Keys.{group_key_at}
use Rattle.group_offsets.specs.Groups.{has_key_of, shown_records, is_of_group, if_of_group, key_of_group, group_keys}
use Rattle.group_offsets.proofs.ShownKeys.{of_group}

itself : (k : List ℕ) → bytes_eq k k ≡ true
itself k = (bytes_eq-Decides k k).1 refl

either_true : (a b : Bool) → b ≡ true → (a || b) ≡ true
either_true a b e = grind (arith, e)

module _ (k : List ℕ) where
  abbrev own : LogRecord → Bool
  own x = equal_keys x.1.key (Some k)

  abbrev is_shown : List LogRecord → Bool
  is_shown xs = list_any own (shown_records xs)

  any_cond : (t : Bool) (x : LogRecord) (ys : List LogRecord) → list_any own (cond t (x ∷ ys) ys) ≡ cond t (own x || list_any own ys) (list_any own ys)
  any_cond true x ys = refl
  any_cond false x ys = refl

  -- one record more: whether it has the key, whether it has a value, whether a later one has the key, what is shown of
  -- those, and what was there before
  with_key : (first some has shows before : Bool) → first ≡ true → (shows || (not has && some)) ≡ (cond (some && not has) (first || shows) shows || (not (first || has) && before))
  with_key first some has shows before e = grind (arith, e)

  with_another : (first t has shows before : Bool) → first ≡ false → (shows || (not has && before)) ≡ (cond t (first || shows) shows || (not (first || has) && before))
  with_another first t has shows before e = grind (arith, e)

  abbrev AfterOne : LogRecord → List LogRecord → Table → Bool → Type 0
  AfterOne x xs t b =
      (is_shown xs || (not (list_any own xs) && is_some (cond b x.1.value (finite.get t k))))
      ≡ (list_any own (cond (is_some x.1.value && not (has_key_of x xs)) (x ∷ shown_records xs) (shown_records xs)) || (not (own x || list_any own xs) && is_some (finite.get t k)))

  after_one : (x : LogRecord) (xs : List LogRecord) (t : Table) (b : Bool) → own x ≡ b → AfterOne x xs t b
  after_one x xs t true e =
      let has : has_key_of x xs ≡ list_any own xs = ap (λ (o : Option (List ℕ)). list_any (λ y. equal_keys y.1.key o) xs) (key_is k x.1.key e) in
      let before = is_some (finite.get t k) in
      with_key (own x) (is_some x.1.value) (list_any own xs) (is_shown xs) before e
      ∙ ap (λ (h : Bool). cond (is_some x.1.value && not h) (own x || is_shown xs) (is_shown xs) || (not (own x || list_any own xs) && before)) (sym has)
      ∙ ap (λ (s : Bool). s || (not (own x || list_any own xs) && before)) (sym (any_cond (is_some x.1.value && not (has_key_of x xs)) x (shown_records xs)))
  after_one x xs t false e =
      let before = is_some (finite.get t k) in
      with_another (own x) (is_some x.1.value && not (has_key_of x xs)) (list_any own xs) (is_shown xs) before e
      ∙ ap (λ (s : Bool). s || (not (own x || list_any own xs) && before)) (sym (any_cond (is_some x.1.value && not (has_key_of x xs)) x (shown_records xs)))

  shown_or_before : (t : Table) (xs : List LogRecord) → is_some (finite.get (fold (λ u x. with_record u x.1) t xs) k) ≡ (is_shown xs || (not (list_any own xs) && is_some (finite.get t k)))
  unfolding shown_records
  shown_or_before t [] = refl
  shown_or_before t (x ∷ xs) =
      shown_or_before (with_record t x.1) xs
      ∙ ap (λ (o : Option (List ℕ)). is_shown xs || (not (list_any own xs) && is_some o)) (get-with_key t x.1.key k x.1.value)
      ∙ after_one x xs t (own x) refl

  no_more : (a b : Bool) → (a || (not b && false)) ≡ a
  no_more a b = grind arith

  -- the table has a value for the key exactly where a shown record has it
  table_shows : (xs : List LogRecord) → is_some (finite.get (table_of xs) k) ≡ is_shown xs
  unfolding table_of
  table_shows xs =
      shown_or_before finite.empty xs
      ∙ ap (λ (o : Option (List ℕ)). is_shown xs || (not (list_any own xs) && is_some o)) (finite.get-empty (slice_cmp nat_cmp) k)
      ∙ no_more (is_shown xs) (list_any own xs)

-- ---- the keys of a group among those of records

module _ (group k : List ℕ) where
  contains_first : (ks : List (List ℕ)) → Contains (k ∷ ks) k
  contains_first ks = (0, omega arith, refl)

  contains_later : (o : Option (List ℕ)) (ks : List (List ℕ)) → Contains ks k → Contains (cons_option o ks) k
  contains_later None ks c = c
  contains_later (Some q) ks c = (suc c.0, omega (arith, c.1), c.2)

  contains_cases : (q : List ℕ) (ks : List (List ℕ)) (i : ℕ) → i < length (q ∷ ks) → get_or (q ∷ ks) i k ≡ k → (q ≡ k) ⊎ Contains ks k
  contains_cases q ks zero less e = inl e
  contains_cases q ks (suc i) less e = inr (i, omega (arith, less), e)

  -- a key of the group that is found is its record's, and one of the group
  found_from : (key : Option (List ℕ)) (q : List ℕ) → option_and_then (if_of_group group) key ≡ Some q → (key ≡ Some q) × (of_group group q ≡ true)
  found_from None q e = absurd cc
  found_from (Some p) q e = by (of_group group p) refl e
    where
      by : (b : Bool) → of_group group p ≡ b → cond b (Some p) None ≡ Some q → (Some p ≡ Some q) × (of_group group q ≡ true)
      by true own f = let same : p ≡ q = cc in (f, ap (of_group group) (sym same) ∙ own)
      by false own f = absurd cc

  found_keys : (xs : List LogRecord) → Contains (filter_map (key_of_group group) xs) k → (list_any (own k) xs ≡ true) × (of_group group k ≡ true)
  found_keys [] c = let none = c.1 in absurd (omega arith)
  found_keys (x ∷ xs) c = by (key_of_group group x) refl c (found_keys xs)
    where
      by : (o : Option (List ℕ)) → key_of_group group x ≡ o → Contains (cons_option o (filter_map (key_of_group group) xs)) k
          → (Contains (filter_map (key_of_group group) xs) k → (list_any (own k) xs ≡ true) × (of_group group k ≡ true))
          → ((own k x || list_any (own k) xs) ≡ true) × (of_group group k ≡ true)
      by None e d ih = let h = ih d in (either_true (own k x) (list_any (own k) xs) h.0, h.1)
      by (Some q) e d ih =
          let f = found_from x.1.key q e in
          elim (contains_cases q (filter_map (key_of_group group) xs) d.0 d.1 d.2) [
            | inl same ↦ (ap (λ (b : Bool). b || list_any (own k) xs) (ap (λ (o : Option (List ℕ)). equal_keys o (Some k)) (f.0 ∙ ap (λ (z : List ℕ). Some z) same) ∙ itself k), ap (of_group group) (sym same) ∙ f.1)
            | inr later ↦ let h = ih later in (either_true (own k x) (list_any (own k) xs) h.0, h.1)
          ]

  keys_found : of_group group k ≡ true → (xs : List LogRecord) → list_any (own k) xs ≡ true → Contains (filter_map (key_of_group group) xs) k
  keys_found of [] e = absurd (true≢false (sym e))
  keys_found of (x ∷ xs) e = by (own k x) refl e (keys_found of xs)
    where
      by : (b : Bool) → own k x ≡ b → (b || list_any (own k) xs) ≡ true → (list_any (own k) xs ≡ true → Contains (filter_map (key_of_group group) xs) k)
          → Contains (filter_map (key_of_group group) (x ∷ xs)) k
      by true mine f ih =
          let found : key_of_group group x ≡ Some k = ap (option_and_then (if_of_group group)) (key_is k x.1.key mine) ∙ ap (λ (b : Bool). cond b (Some k) None) of in
          subst (λ (o : Option (List ℕ)). Contains (cons_option o (filter_map (key_of_group group) xs)) k) (sym found) (contains_first (filter_map (key_of_group group) xs))
      by false mine f ih = contains_later (key_of_group group x) (filter_map (key_of_group group) xs) (ih f)

pub keys_of_table : (c : Content) (group key : List ℕ) → Contains (group_keys c group) key ↔ (IsSome (finite.get (shown_table c) key) × (is_of_group group (group_key_at key) ≡ true))
unfolding group_keys
keys_of_table c group key =
    let xs = log_records c.kept in (
      (λ there. let f = found_keys group key (shown_records xs) there in (table_shows key xs ∙ f.0, f.1)),
      (λ both. keys_found group key both.1 (shown_records xs) (sym (table_shows key xs) ∙ both.0)),
    )
