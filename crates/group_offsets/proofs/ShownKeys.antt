-- A group's keys are found among the group's own records: a record of another group has another key.
use Rattle.std.proofs.Common.{◌≡◌, ◌<◌, ℕ, suc, Bool, true, false, cond, not, ◌&&◌, ◌||◌, List, [], ◌∷◌, ◌++◌, map, reverse, drop, length, get_or, Option, Some, None, refl, sym, ap, subst, ◌∙◌, true≢false, drop-cons, append_assoc}
use Rattle.std.specs.Prelude.{is_some, bytes_eq}
use Rattle.std.specs.List.{list_any, filter_map, cons_option}
use Rattle.std.specs.Option.{option_map, option_and_then}
use Rattle.std.proofs.lemmas.List.{append-nil, reverse-append, reverse-reverse, map-append}
use Rattle.std.proofs.lemmas.List.Elements.{filter_map-append}
use Rattle.batch_codec.specs.Values.{RecordValue, BatchValue}
use Rattle.batch_codec.specs.Offsets.{offset_of}
use Rattle.content.specs.Records.{LogRecord, log_records, equal_keys}
use Rattle.content_laws.proofs.Tables.{exact}
use Rattle.group_offsets.specs.Keys.{group_key_at}
use Rattle.group_offsets.specs.Groups.{has_key_of, shown_records, is_of_group, if_of_group, key_of_group}
use Rattle.group_offsets.specs.Walks.{EntryValue, Borrowed, entry_of, entries_of, log_entries, has_key, shown_keys, Seen, HasShown}

-- ---- records and entries

abbrev pub of_group : List ℕ → List ℕ → Bool
of_group group key = is_of_group group (group_key_at key)

-- the entry of a key and a value
abbrev entry_from : List ℕ → Option (List ℕ) → Bool → Option EntryValue
entry_from group key some = option_map (λ k. (k, some)) (option_and_then (if_of_group group) key)

module _ (group k : List ℕ) (own : of_group group k ≡ true) where
  other_key : (q : List ℕ) → of_group group q ≡ false → bytes_eq q k ≡ false
  other_key q other = by (bytes_eq q k) refl
    where
      by : (b : Bool) → bytes_eq q k ≡ b → b ≡ false
      by false e = refl
      by true e = absurd (true≢false (sym own ∙ ap (of_group group) (sym (exact q k e)) ∙ other))

  entry_has : (key : Option (List ℕ)) (some : Bool) (es : List EntryValue) → has_key k (cons_option (entry_from group key some) es) ≡ (equal_keys key (Some k) || has_key k es)
  entry_has None some es = refl
  entry_has (Some q) some es = by (of_group group q) refl
    where
      by : (b : Bool) → of_group group q ≡ b → has_key k (cons_option (option_map (λ x. (x, some)) (cond b (Some q) None)) es) ≡ (bytes_eq q k || has_key k es)
      by true e = refl
      by false e = ap (λ (b : Bool). b || has_key k es) (sym (other_key q e))

  -- a key of the group is that of a record exactly where it is that of an entry
  has_entries : (xs : List LogRecord) → has_key k (log_entries group xs) ≡ list_any (λ y. equal_keys y.1.key (Some k)) xs
  has_entries [] = refl
  has_entries (x ∷ xs) = entry_has x.1.key (is_some x.1.value) (log_entries group xs) ∙ ap (λ (b : Bool). equal_keys x.1.key (Some k) || b) (has_entries xs)

module _ (group : List ℕ) where
  skipped : (b : Bool) (f : LogRecord → Option (List ℕ)) (x : LogRecord) (xs : List LogRecord) → f x ≡ None → filter_map f (cond b (x ∷ xs) xs) ≡ filter_map f xs
  skipped true f x xs none = ap (λ (o : Option (List ℕ)). cons_option o (filter_map f xs)) none
  skipped false f x xs none = refl

  shown : (b : Bool) (f : LogRecord → Option (List ℕ)) (x : LogRecord) (xs : List LogRecord) (k : List ℕ) → f x ≡ Some k → filter_map f (cond b (x ∷ xs) xs) ≡ cond b (k ∷ filter_map f xs) (filter_map f xs)
  shown true f x xs k some = ap (λ (o : Option (List ℕ)). cons_option o (filter_map f xs)) some
  shown false f x xs k some = refl

  -- one record more, by what is known of those after it
  module _ (x : LogRecord) (xs : List LogRecord) (rest : filter_map (key_of_group group) (shown_records xs) ≡ shown_keys (log_entries group xs)) where
    abbrev test : Bool
    test = is_some x.1.value && not (has_key_of x xs)

    abbrev SameWithFirst : Type 0
    SameWithFirst = filter_map (key_of_group group) (cond test (x ∷ shown_records xs) (shown_records xs)) ≡ shown_keys (cons_option (entry_of group x.1) (log_entries group xs))

    not_own : option_and_then (if_of_group group) x.1.key ≡ None → SameWithFirst
    not_own e = skipped test (key_of_group group) x (shown_records xs) e ∙ rest ∙ ap (λ (o : Option (List ℕ)). shown_keys (cons_option (option_map (λ k. (k, is_some x.1.value)) o) (log_entries group xs))) (sym e)

    own_key : (k : List ℕ) → x.1.key ≡ Some k → of_group group k ≡ true → SameWithFirst
    own_key k is own =
        let key : option_and_then (if_of_group group) x.1.key ≡ Some k = ap (option_and_then (if_of_group group)) is ∙ ap (λ (b : Bool). cond b (Some k) None) own in
        let has : has_key_of x xs ≡ has_key k (log_entries group xs) = ap (λ (o : Option (List ℕ)). list_any (λ y. equal_keys y.1.key o) xs) is ∙ sym (has_entries group k own xs) in
        shown test (key_of_group group) x (shown_records xs) k key
        ∙ ap (λ (l : List (List ℕ)). cond test (k ∷ l) l) rest
        ∙ ap (λ (b : Bool). cond (is_some x.1.value && not b) (k ∷ shown_keys (log_entries group xs)) (shown_keys (log_entries group xs))) has
        ∙ ap (λ (o : Option (List ℕ)). shown_keys (cons_option (option_map (λ q. (q, is_some x.1.value)) o) (log_entries group xs))) (sym key)

    one_more : (key : Option (List ℕ)) → x.1.key ≡ key → SameWithFirst
    one_more None is = not_own (ap (option_and_then (if_of_group group)) is)
    one_more (Some k) is = cases (of_group group k) refl
      where
        cases : (b : Bool) → of_group group k ≡ b → SameWithFirst
        cases true own = own_key k is own
        cases false own = not_own (ap (option_and_then (if_of_group group)) is ∙ ap (λ (b : Bool). cond b (Some k) None) own)

  pub same_shown : (xs : List LogRecord) → filter_map (key_of_group group) (shown_records xs) ≡ shown_keys (log_entries group xs)
  unfolding shown_records
  same_shown [] = refl
  same_shown (x ∷ xs) = one_more x xs (same_shown xs) x.1.key refl

  -- ---- the first walk

  -- one record more, of those that an iterator has left
  pub put_more : (old new : List EntryValue) (left next : List RecordValue) (r : RecordValue) → left ≡ r ∷ next → new ≡ old ++ entries_of group (r ∷ []) → new ++ entries_of group next ≡ old ++ entries_of group left
  put_more old new left next r split step =
      ap (λ (l : List EntryValue). l ++ entries_of group next) step ∙ append_assoc old (entries_of group (r ∷ [])) (entries_of group next)
      ∙ ap (λ (l : List EntryValue). old ++ l) (sym (filter_map-append (entry_of group) (r ∷ []) next))
      ∙ ap (λ (l : List RecordValue). old ++ entries_of group l) (sym split)

  pub put_all : (all : List EntryValue) (left : List RecordValue) → left ≡ [] → all ≡ all ++ entries_of group left
  put_all all left none = sym (append-nil all) ∙ ap (λ (l : List RecordValue). all ++ entries_of group l) (sym none)

  batch_entries : (b : BatchValue) (rs : List RecordValue) → log_entries group (map (λ r. (offset_of b r, r)) rs) ≡ entries_of group rs
  batch_entries b [] = refl
  batch_entries b (r ∷ rs) = ap (cons_option (entry_of group r)) (batch_entries b rs)

  pub entries_more : (left rest : List BatchValue) (b : BatchValue) (old new all : List EntryValue) → left ≡ b ∷ rest → new ≡ old ++ entries_of group b.recs
      → old ++ log_entries group (log_records left) ≡ all → new ++ log_entries group (log_records rest) ≡ all
  entries_more left rest b old new all next step so_far =
      let records : LogRecord → Option EntryValue = λ x. entry_of group x.1 in
      let one : BatchValue → List LogRecord = λ x. map (λ r. (offset_of x r, r)) x.recs in
      let parts : log_entries group (log_records (b ∷ rest)) ≡ entries_of group b.recs ++ log_entries group (log_records rest) =
      filter_map-append records (one b) (log_records rest) ∙ ap (λ (l : List EntryValue). l ++ log_entries group (log_records rest)) (batch_entries b b.recs) in
      ap (λ (l : List EntryValue). l ++ log_entries group (log_records rest)) step
      ∙ append_assoc old (entries_of group b.recs) (log_entries group (log_records rest))
      ∙ ap (λ (l : List EntryValue). old ++ l) (sym parts)
      ∙ sym (ap (λ (bs : List BatchValue). old ++ log_entries group (log_records bs)) next)
      ∙ so_far

  pub entries_all : (left : List BatchValue) (old all : List EntryValue) → left ≡ [] → old ++ log_entries group (log_records left) ≡ all → old ≡ all
  entries_all left old all none so_far =
      sym (append-nil old) ∙ sym (ap (λ (bs : List BatchValue). old ++ log_entries group (log_records bs)) none) ∙ so_far

-- ---- the second walk

map-reverse : {X Y : Type 0} (f : X → Y) (xs : List X) → map f (reverse xs) ≡ reverse (map f xs)
map-reverse f [] = refl
map-reverse f (x ∷ xs) =
    ap (map f) (reverse-append (x ∷ []) xs) ∙ map-append f (reverse xs) (x ∷ [])
    ∙ ap (λ l. l ++ f x ∷ []) (map-reverse f xs) ∙ sym (reverse-append (f x ∷ []) (map f xs))

module _ {S : Type 0} where
  pub shown_next : (old new : Seen S) (keys more : List Borrowed) (es : List EntryValue) (i j : ℕ) (e : EntryValue)
      → i ≡ suc j → j < length es → e ≡ get_or es j e → ((later : List EntryValue) → HasShown old keys later → HasShown new more (e ∷ later))
      → HasShown old keys (drop i es) → HasShown new more (drop j es)
  shown_next old new keys more es i j e at within is step so_far =
      subst (HasShown new more) (sym (drop-cons es j e within ∙ (λ k. sym is k ∷ drop (sym at k) es))) (step (drop i es) so_far)

  pub shown_all : (set : Seen S) (keys turned : List Borrowed) (es : List EntryValue) (i : ℕ) → i ≡ 0 → turned ≡ reverse keys → HasShown set keys (drop i es) → map (λ k. k.now) turned ≡ shown_keys es
  shown_all set keys turned es i at turn so_far =
      ap (map (λ k. k.now)) turn ∙ map-reverse (λ (k : Borrowed). k.now) keys ∙ ap reverse so_far.backwards
      ∙ reverse-reverse (shown_keys (drop i es)) ∙ ap (λ (n : ℕ). shown_keys (drop n es)) at
