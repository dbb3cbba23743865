-- What a cleaning, or a later start, leaves of the records of a key.
use Rattle.std.proofs.Common.{◌≡◌, ℤ, pos, ◌+ℤ◌, Bool, true, false, cond, not, ◌&&◌, ◌||◌, List, [], ◌∷◌, map, length, Some, None, refl, sym, ap, ◌∙◌, ◌⊎◌, inl, inr, arith}
use Rattle.std.specs.Prelude.{◌≤ℤ◌, ◌<ℤ◌, int_lt, int_le, is_none, nat_eq}
use Rattle.std.specs.List.{filter, filter_map, cons_option, list_any, AllByRecursion}
use Rattle.std.specs.Int.{int_min}
use Rattle.std.proofs.lemmas.Int.{ints, clamps}
use Rattle.batch_codec.specs.Values.{RecordValue, BatchValue}
use Rattle.batch_codec.specs.Offsets.{first_offset, last_offset, offset_of, SpansRise}
use Rattle.cover_ranges.specs.Runs.{covers, has_all}
use Rattle.cover_ranges.proofs.RunsFrom.{canonical_from}
use Rattle.cover_ranges.proofs.RunEnds.{covers_has_all}
use Rattle.content.specs.Records.{LogRecord, log_records, with_records_that, IsKeepable}
use Rattle.content.specs.Content.{Content, IsContent, cut, end}
use Rattle.content.specs.Cleaning.{is_cleanable, is_superseded, is_removed, is_exempt, unless_empty, cleaned_batch, clean_batch, clean}
use Rattle.content.specs.Parts.{NoneIsAcross}
use Rattle.content_laws.proofs.ByOffset.{all_from_at}
use Rattle.content_laws.proofs.Slots.{bases_rise}
use Rattle.cleaning_policy.specs.Readers.{KeyRecord, is_left}
use Rattle.cleaning_courses.specs.Keys.{has_key, key_record, records_of}
use Rattle.cleaning_courses.specs.Places.{first_unseen}
use Rattle.cleaning_courses.proofs.Lists.{list_any-reverse, list_any_map}
use Rattle.cleaning_courses.proofs.Ends.{covered_end, seen_below}
use Rattle.cleaning_courses.proofs.Keyed.{Batches, Key, placed, keyed, IsInSpan, records_in_span, part_of_records, of_option, part_of_batches, turned, key_of, has_later, later_batches}

-- ---- all records of a batch, or none

filter_yes : {X : Type 0} (xs : List X) → filter (λ _. true) xs ≡ xs
filter_yes [] = refl
filter_yes {X = X} (x ∷ xs) = ap (λ (l : List X). x ∷ l) (filter_yes xs)

filter_no : {X : Type 0} (xs : List X) → filter (λ _. false) xs ≡ []
filter_no [] = refl
filter_no (x ∷ xs) = filter_no xs

module _ (key : Key) (b : BatchValue) (p : KeyRecord → Bool) where
  all_stay : AllByRecursion (λ r. has_key key (offset_of b r, r) ≡ true → true ≡ p (key_record (offset_of b r, r))) b.recs → keyed key (placed b) ≡ filter p (keyed key (placed b))
  all_stay all = ap (λ (rs : List RecordValue). keyed key (map (λ r. (offset_of b r, r)) rs)) (sym (filter_yes b.recs)) ∙ part_of_records key (λ r. (offset_of b r, r)) (λ _. true) p b.recs all

  all_go : AllByRecursion (λ r. has_key key (offset_of b r, r) ≡ true → false ≡ p (key_record (offset_of b r, r))) b.recs → [] ≡ filter p (keyed key (placed b))
  all_go all = ap (λ (rs : List RecordValue). keyed key (map (λ r. (offset_of b r, r)) rs)) (sym (filter_no b.recs)) ∙ part_of_records key (λ r. (offset_of b r, r)) (λ _. false) p b.recs all

-- ---- where batches lie

from_start : (low high : ℤ) (bs : Batches) → low ≤ℤ high → SpansRise high bs → AllByRecursion IsKeepable bs → AllByRecursion (λ b. low ≤ℤ first_offset b) bs
from_start low high [] less spans keepable = tt
from_start low high (b ∷ bs) less spans keepable =
    let least : pos 0 ≤ℤ b.head.last_delta = keepable.0.0.valid.last_delta in
    (omega (arith, ints, less, spans.0), from_start low (last_offset b +ℤ pos 1) bs (omega (arith, ints, less, spans.0, least)) spans.1 keepable.1)

-- ---- a cleaning

no_records : (rs : List RecordValue) → nat_eq (length rs) 0 ≡ true → rs ≡ []
no_records [] e = refl
no_records (r ∷ rs) e = absurd (grind (arith, e))

-- an empty batch has no records of the key, whether it stays or not
of_unless : (key : Key) (stays : Bool) (z : BatchValue) → of_option key (unless_empty stays z) ≡ keyed key (placed z)
of_unless key stays z = by (nat_eq (length z.recs) 0 && not stays) refl
  where
    empty : (nat_eq (length z.recs) 0 && not stays) ≡ true → nat_eq (length z.recs) 0 ≡ true
    empty e = grind (arith, e)

    by : (t : Bool) → (nat_eq (length z.recs) 0 && not stays) ≡ t → of_option key (cond t None (Some z)) ≡ keyed key (placed z)
    by true e = ap (λ (rs : List RecordValue). keyed key (map (λ r. (offset_of z r, r)) rs)) (sym (no_records z.recs (empty e)))
    by false e = refl

-- the two rules, of tests alone
same_rule : (above s s' none low seen bound : Bool) → above ≡ false → s ≡ s' → (low && seen) ≡ bound → not (s || (none && (low && seen))) ≡ (above || (not s' && not (none && bound)))
same_rule above s s' none low seen bound e f g = grind (arith, e, f, g)

stays_above : (above rest : Bool) → above ≡ true → true ≡ (above || rest)
stays_above above rest e = grind (arith, e)

-- a bound below which deletions may go, such that it says of offsets in a batch what the log's rule says
abbrev pub IsBoundIn : Content → (d e : ℤ) → BatchValue → Type 0
IsBoundIn c d e b = (o : ℤ) → first_offset b ≤ℤ o → o ≤ℤ last_offset b → (int_lt o d && has_all c.cover c.start o) ≡ int_lt o e

module _ (key : Key) (u d e : ℤ) (c : Content) (content : IsContent c) (across : NoneIsAcross u c.kept) where
  superseded_is : (x : LogRecord) → has_key key x ≡ true → is_superseded c u x ≡ list_any (has_later x.0 u) (records_of key c)
  superseded_is x own =
      later_batches key x (key_of key x own) u c.kept content.keepable across
      ∙ sym (list_any_map key_record (has_key key) (has_later x.0 u) (log_records c.kept))
      ∙ sym (list_any-reverse (has_later x.0 u) (keyed key (log_records c.kept)))

  cleaned_records : (b : BatchValue) (rs : List RecordValue) → last_offset b <ℤ u → IsBoundIn c d e b → AllByRecursion (IsInSpan b) rs
      → AllByRecursion (λ r. has_key key (offset_of b r, r) ≡ true → not (is_removed c u d (offset_of b r, r)) ≡ is_left u e (records_of key c) (key_record (offset_of b r, r))) rs
  cleaned_records b [] below bound all = tt
  cleaned_records b (r ∷ rs) below bound all = (one, cleaned_records b rs below bound all.1)
    where
      to : offset_of b r ≤ℤ last_offset b
      to = all.0.1

      not_above : int_le u (offset_of b r) ≡ false
      not_above = grind (arith, ints, below, to)

      one : has_key key (offset_of b r, r) ≡ true → not (is_removed c u d (offset_of b r, r)) ≡ is_left u e (records_of key c) (key_record (offset_of b r, r))
      one own = same_rule (int_le u (offset_of b r)) (is_superseded c u (offset_of b r, r)) (list_any (has_later (offset_of b r) u) (records_of key c)) (is_none r.value)
          (int_lt (offset_of b r) d) (has_all c.cover c.start (offset_of b r)) (int_lt (offset_of b r) e) not_above (superseded_is (offset_of b r, r) own) (bound (offset_of b r) all.0.0 all.0.1)

  records_above : (b : BatchValue) (rs : List RecordValue) → u ≤ℤ first_offset b → AllByRecursion (IsInSpan b) rs
      → AllByRecursion (λ r. has_key key (offset_of b r, r) ≡ true → true ≡ is_left u e (records_of key c) (key_record (offset_of b r, r))) rs
  records_above b [] le all = tt
  records_above b (r ∷ rs) le all =
      let from : first_offset b ≤ℤ offset_of b r = all.0.0 in
      let above : int_le u (offset_of b r) ≡ true = grind (arith, ints, le, from) in
      (λ own. stays_above (int_le u (offset_of b r)) (not (list_any (has_later (offset_of b r) u) (records_of key c)) && not (is_none r.value && int_lt (offset_of b r) e)) above, records_above b rs le all.1)

  left_of_batch : (b : BatchValue) → IsKeepable b → (last_offset b <ℤ u) ⊎ (u ≤ℤ first_offset b) → IsBoundIn c d e b
      → of_option key (clean_batch c u d b) ≡ filter (is_left u e (records_of key c)) (keyed key (placed b))
  left_of_batch b keepable side bound = by (is_cleanable u b) refl side
    where
      stays : RecordValue → Bool
      stays r = not (is_removed c u d (offset_of b r, r))

      cleanable : is_cleanable u b ≡ true → last_offset b <ℤ u
      cleanable f = grind (arith, ints, f)

      above : is_cleanable u b ≡ false → (last_offset b <ℤ u) ⊎ (u ≤ℤ first_offset b) → u ≤ℤ first_offset b
      above f (inl less) = absurd (grind (arith, ints, f, less))
      above f (inr le) = le

      by : (t : Bool) → is_cleanable u b ≡ t → (last_offset b <ℤ u) ⊎ (u ≤ℤ first_offset b)
          → of_option key (cond t (cleaned_batch c u d b) (Some b)) ≡ filter (is_left u e (records_of key c)) (keyed key (placed b))
      by true f s =
          of_unless key (is_exempt c b) (with_records_that (λ r. not (is_removed c u d (offset_of b r, r))) b)
          ∙ part_of_records key (λ r. (offset_of b r, r)) (λ r. not (is_removed c u d (offset_of b r, r))) (is_left u e (records_of key c)) b.recs
          (cleaned_records b b.recs (cleanable f) bound (records_in_span b keepable))
      by false f s = all_stay key b (is_left u e (records_of key c)) (records_above b b.recs (above f s) (records_in_span b keepable))

  left_of_batches : (bs : Batches) → AllByRecursion IsKeepable bs → NoneIsAcross u bs → AllByRecursion (IsBoundIn c d e) bs
      → AllByRecursion (λ b. of_option key (clean_batch c u d b) ≡ filter (is_left u e (records_of key c)) (keyed key (placed b))) bs
  left_of_batches [] keepable sides bounds = tt
  left_of_batches (b ∷ bs) keepable sides bounds = (left_of_batch b keepable.0 sides.0 bounds.0, left_of_batches bs keepable.1 sides.1 bounds.1)

  pub cleaned_with_bound : AllByRecursion (IsBoundIn c d e) c.kept → records_of key (clean u d c) ≡ filter (is_left u e (records_of key c)) (records_of key c)
  cleaned_with_bound bounds =
      turned key (is_left u e (records_of key c)) c.kept (clean u d c).kept
      (part_of_batches key (clean_batch c u d) (is_left u e (records_of key c)) c.kept (left_of_batches c.kept content.keepable across bounds))

-- ---- the bound: as it was given, or the first offset that wasn't seen

module _ (c : Content) (content : IsContent c) where
  pub kept_from_start : AllByRecursion (λ b. c.start ≤ℤ first_offset b) c.kept
  kept_from_start = from_start c.start c.start c.kept (omega (arith, ints)) content.disjoint content.keepable

  less_of_both : (o d g : ℤ) → (int_lt o d && int_lt o g) ≡ int_lt o (int_min d g)
  less_of_both o d g = by (int_lt o d) (int_lt o g) (int_lt o (int_min d g)) refl refl refl
    where
      by : (p q r : Bool) → int_lt o d ≡ p → int_lt o g ≡ q → int_lt o (int_min d g) ≡ r → (p && q) ≡ r
      by p q r e f h = grind (arith, ints, clamps, e, f, h)

  bounds_with_gaps : (d : ℤ) (bs : Batches) → AllByRecursion (λ b. c.start ≤ℤ first_offset b) bs → AllByRecursion (IsBoundIn c d (int_min d (first_unseen c))) bs
  bounds_with_gaps d [] from = tt
  bounds_with_gaps d (b ∷ bs) from =
      let begins : c.start ≤ℤ first_offset b = from.0 in
      (λ o low high. ap (λ (t : Bool). int_lt o d && t) (seen_below c.start (pos 0) o c.cover (canonical_from c.cover content.canonical) (omega (arith, ints, begins, low))) ∙ less_of_both o d (first_unseen c), bounds_with_gaps d bs from.1)

  pub cleaned_any : (key : Key) (u d : ℤ) → NoneIsAcross u c.kept → records_of key (clean u d c) ≡ filter (is_left u (int_min d (first_unseen c)) (records_of key c)) (records_of key c)
  cleaned_any key u d across = cleaned_with_bound key u d (int_min d (first_unseen c)) c content across (bounds_with_gaps d c.kept kept_from_start)

  seen_end : (o : ℤ) → covers c.cover o ≡ true → o <ℤ end c
  seen_end o e = covered_end c.start (pos 0) o c.cover (canonical_from c.cover content.canonical) e

  and_true : (a b : Bool) → b ≡ true → (a && b) ≡ a
  and_true a b e = grind (arith, e)

  bound_without_gap : (d : ℤ) (b : BatchValue) → ((o : ℤ) → c.start ≤ℤ o → o <ℤ end c → covers c.cover o ≡ true) → c.start ≤ℤ first_offset b
      → ((o : ℤ) → first_offset b ≤ℤ o → o ≤ℤ last_offset b → covers c.cover o ≡ true) → IsBoundIn c d d b
  bound_without_gap d b whole begins seen o low high =
      and_true (int_lt o d) (has_all c.cover c.start o) (covers_has_all c.cover c.start o content.canonical
      (λ q from to. let ends : o <ℤ end c = seen_end o (seen o low high) in whole q from (omega (arith, ints, to, ends))))

  pub kept_seen : AllByRecursion (λ b. (o : ℤ) → first_offset b ≤ℤ o → o ≤ℤ last_offset b → covers c.cover o ≡ true) c.kept
  kept_seen = all_from_at first_offset (λ b. (o : ℤ) → first_offset b ≤ℤ o → o ≤ℤ last_offset b → covers c.cover o ≡ true) c.start c.kept (bases_rise c content)
      (λ b e o low high. content.inside (first_offset b) o b e low high)

  bounds_without_gap : (d : ℤ) (bs : Batches) → ((o : ℤ) → c.start ≤ℤ o → o <ℤ end c → covers c.cover o ≡ true) → AllByRecursion (λ b. c.start ≤ℤ first_offset b) bs
      → AllByRecursion (λ b. (o : ℤ) → first_offset b ≤ℤ o → o ≤ℤ last_offset b → covers c.cover o ≡ true) bs → AllByRecursion (IsBoundIn c d d) bs
  bounds_without_gap d [] whole from seen = tt
  bounds_without_gap d (b ∷ bs) whole from seen = (bound_without_gap d b whole from.0 seen.0, bounds_without_gap d bs whole from.1 seen.1)

  pub cleaned_without_gap : (key : Key) (u d : ℤ) → ((o : ℤ) → c.start ≤ℤ o → o <ℤ end c → covers c.cover o ≡ true) → NoneIsAcross u c.kept
      → records_of key (clean u d c) ≡ filter (is_left u d (records_of key c)) (records_of key c)
  cleaned_without_gap key u d whole across = cleaned_with_bound key u d d c content across (bounds_without_gap d c.kept whole kept_from_start kept_seen)

-- ---- a later start

filter_is : (p : BatchValue → Bool) (bs : Batches) → filter p bs ≡ filter_map (λ b. cond (p b) (Some b) None) bs
filter_is p [] = refl
filter_is p (b ∷ bs) = by (p b) (filter_is p bs)
  where
    by : (t : Bool) → filter p bs ≡ filter_map (λ b. cond (p b) (Some b) None) bs → cond t (b ∷ filter p bs) (filter p bs) ≡ cons_option (cond t (Some b) None) (filter_map (λ b. cond (p b) (Some b) None) bs)
    by true ih = ap (λ (l : Batches). b ∷ l) ih
    by false ih = ih

module _ (key : Key) (start : ℤ) where
  records_from : (b : BatchValue) (rs : List RecordValue) → start ≤ℤ first_offset b → AllByRecursion (IsInSpan b) rs
      → AllByRecursion (λ r. has_key key (offset_of b r, r) ≡ true → true ≡ int_le start (offset_of b r)) rs
  records_from b [] le all = tt
  records_from b (r ∷ rs) le all =
      let from : first_offset b ≤ℤ offset_of b r = all.0.0 in
      (λ own. grind (arith, ints, le, from), records_from b rs le all.1)

  records_before : (b : BatchValue) (rs : List RecordValue) → last_offset b <ℤ start → AllByRecursion (IsInSpan b) rs
      → AllByRecursion (λ r. has_key key (offset_of b r, r) ≡ true → false ≡ int_le start (offset_of b r)) rs
  records_before b [] less all = tt
  records_before b (r ∷ rs) less all =
      let to : offset_of b r ≤ℤ last_offset b = all.0.1 in
      (λ own. grind (arith, ints, less, to), records_before b rs less all.1)

  cut_batch : (b : BatchValue) → IsKeepable b → (last_offset b <ℤ start) ⊎ (start ≤ℤ first_offset b)
      → of_option key (cond (int_le start (first_offset b)) (Some b) None) ≡ filter (λ x. int_le start x.offset) (keyed key (placed b))
  cut_batch b keepable side = by (int_le start (first_offset b)) refl side
    where
      begins : int_le start (first_offset b) ≡ true → start ≤ℤ first_offset b
      begins e = grind (arith, ints, e)

      ends : int_le start (first_offset b) ≡ false → (last_offset b <ℤ start) ⊎ (start ≤ℤ first_offset b) → last_offset b <ℤ start
      ends e (inl less) = less
      ends e (inr le) = absurd (grind (arith, ints, e, le))

      by : (t : Bool) → int_le start (first_offset b) ≡ t → (last_offset b <ℤ start) ⊎ (start ≤ℤ first_offset b)
          → of_option key (cond t (Some b) None) ≡ filter (λ x. int_le start x.offset) (keyed key (placed b))
      by true e s = all_stay key b (λ x. int_le start x.offset) (records_from b b.recs (begins e) (records_in_span b keepable))
      by false e s = all_go key b (λ x. int_le start x.offset) (records_before b b.recs (ends e s) (records_in_span b keepable))

  cut_batches : (bs : Batches) → AllByRecursion IsKeepable bs → NoneIsAcross start bs
      → AllByRecursion (λ b. of_option key (cond (int_le start (first_offset b)) (Some b) None) ≡ filter (λ x. int_le start x.offset) (keyed key (placed b))) bs
  cut_batches [] keepable sides = tt
  cut_batches (b ∷ bs) keepable sides = (cut_batch b keepable.0 sides.0, cut_batches bs keepable.1 sides.1)

  pub cut_records : (c : Content) → IsContent c → NoneIsAcross start c.kept → records_of key (cut start c) ≡ filter (λ x. int_le start x.offset) (records_of key c)
  cut_records c content across = turned key (λ x. int_le start x.offset) c.kept (cut start c).kept
      (ap (λ (bs : Batches). keyed key (log_records bs)) (filter_is (λ b. int_le start (first_offset b)) c.kept)
      ∙ part_of_batches key (λ b. cond (int_le start (first_offset b)) (Some b) None) (λ x. int_le start x.offset) c.kept (cut_batches c.kept content.keepable across))
