-- What a batch at the end does to the records of a key.
use Rattle.std.proofs.Common.{◌≡◌, ℤ, pos, Bool, true, false, cond, ◌||◌, List, [], ◌∷◌, ◌++◌, reverse, append_assoc, refl, sym, ap, subst, ◌∙◌, arith}
use Rattle.std.specs.Prelude.{◌≤ℤ◌, ◌<ℤ◌}
use Rattle.std.specs.List.{AllByRecursion}
use Rattle.std.specs.Int.{int_max}
use Rattle.std.proofs.lemmas.Int.{ints, clamps}
use Rattle.std.proofs.lemmas.List.{reverse-append}
use Rattle.batch_codec.specs.Values.{BatchValue}
use Rattle.batch_codec.specs.Offsets.{first_offset, last_offset}
use Rattle.cover_ranges.specs.Runs.{Runs, covers, is_within, has_all, end_of}
use Rattle.cover_ranges.proofs.RunsFrom.{RunsFrom, canonical_from}
use Rattle.cover_ranges.proofs.RunEnds.{has_all_covers, start_to_end}
use Rattle.cover_ranges.proofs.RunSets.{range_covers}
use Rattle.content.specs.ByOffset.{put}
use Rattle.content.specs.Records.{log_records, IsKeepable}
use Rattle.content.specs.Content.{Content, IsContent, IsLogBatch, HasSeenNone, has_seen_all, with_batch, add, end}
use Rattle.content_laws.proofs.ContentSteps.{both_bools, content_with_batch}
use Rattle.cleaning_policy.specs.Readers.{KeyRecord}
use Rattle.cleaning_courses.specs.Keys.{records_in, records_of}
use Rattle.cleaning_courses.proofs.Ends.{covered_end}
use Rattle.cleaning_courses.proofs.Keyed.{Batches, Key, placed, keyed, keyed-cons}
use Rattle.cleaning_courses.proofs.Cleaned.{kept_seen}

-- ---- the end

start_to : (s : ℤ) (rs : Runs) → RunsFrom (pos 0) rs → ((o : ℤ) → covers rs o ≡ true → s ≤ℤ o) → s ≤ℤ end_of s rs
start_to s [] runs above = omega (arith, ints)
start_to s (r ∷ rs) runs above =
    let span : r.0 ≤ℤ r.1 = runs.1 in
    let first : s ≤ℤ r.0 = above r.0 (grind (arith, ints, span)) in
    start_to_end s s (r ∷ rs) (omega (arith, ints)) (first, runs.1, runs.2, runs.3)

pub start_below_end : (c : Content) → IsContent c → c.start ≤ℤ end c
start_below_end c content = start_to c.start c.cover (canonical_from c.cover content.canonical) content.above

pub seen_below_end : (c : Content) → IsContent c → (o : ℤ) → covers c.cover o ≡ true → o <ℤ end c
seen_below_end c content o e = covered_end c.start (pos 0) o c.cover (canonical_from c.cover content.canonical) e

below_end_of : (c : Content) → IsContent c → (bs : Batches) → AllByRecursion IsKeepable bs
    → AllByRecursion (λ b. (o : ℤ) → first_offset b ≤ℤ o → o ≤ℤ last_offset b → covers c.cover o ≡ true) bs → AllByRecursion (λ b. last_offset b <ℤ end c) bs
below_end_of c content [] keepable seen = tt
below_end_of c content (b ∷ bs) keepable seen =
    let least : pos 0 ≤ℤ b.head.last_delta = keepable.0.0.valid.last_delta in
    (seen_below_end c content (last_offset b) (seen.0 (last_offset b) (omega (arith, ints, least)) (omega (arith, ints))), below_end_of c content bs keepable.1 seen.1)

-- what is kept lies below the end
pub kept_below_end : (c : Content) → IsContent c → AllByRecursion (λ b. last_offset b <ℤ end c) c.kept
kept_below_end c content = below_end_of c content c.kept content.keepable (kept_seen c content)

-- ---- a batch at the end

put_last : (b : BatchValue) (bs : Batches) → AllByRecursion IsKeepable bs → AllByRecursion (λ x. last_offset x <ℤ first_offset b) bs → put first_offset b bs ≡ bs ++ b ∷ []
unfolding put
put_last b [] keepable below = refl
put_last b (x ∷ xs) keepable below =
    let least : pos 0 ≤ℤ x.head.last_delta = keepable.0.0.valid.last_delta in
    grind (arith, ints, put_last b xs keepable.1 below.1, below.0, least)

keyed-batches : (key : Key) (bs cs : Batches) → keyed key (log_records (bs ++ cs)) ≡ keyed key (log_records bs) ++ keyed key (log_records cs)
keyed-batches key [] cs = refl
keyed-batches key (b ∷ bs) cs =
    keyed-cons key b (bs ++ cs) ∙ ap (λ (l : List KeyRecord). keyed key (placed b) ++ l) (keyed-batches key bs cs)
    ∙ sym (append_assoc (keyed key (placed b)) (keyed key (log_records bs)) (keyed key (log_records cs)))
    ∙ ap (λ (l : List KeyRecord). l ++ keyed key (log_records cs)) (sym (keyed-cons key b bs))

module _ (c : Content) (b : BatchValue) (content : IsContent c) (log : IsLogBatch b) (at_end : first_offset b ≡ end c) where
  pub ends_behind : first_offset b ≤ℤ last_offset b
  ends_behind = let delta : pos 0 ≤ℤ b.head.last_delta = log.writable.valid.last_delta in omega (arith, ints, delta)

  pub seen_none : HasSeenNone c b
  seen_none o from to = (least, by (covers c.cover o) refl)
    where
      least : c.start ≤ℤ o
      least = let low : c.start ≤ℤ end c = start_below_end c content in omega (arith, ints, at_end, from, low)

      by : (t : Bool) → covers c.cover o ≡ t → covers c.cover o ≡ false
      by true e = let less : o <ℤ end c = seen_below_end c content o e in absurd (omega (arith, ints, at_end, from, less))
      by false e = e

  not_seen : (t : Bool) → has_seen_all c b ≡ t → has_seen_all c b ≡ false
  not_seen true e =
      let low : c.start ≤ℤ end c = start_below_end c content in
      let same : int_max c.start (first_offset b) ≡ first_offset b = omega (arith, ints, clamps, at_end, low) in
      let all : has_all c.cover (first_offset b) (last_offset b) ≡ true = ap (λ (o : ℤ). has_all c.cover o (last_offset b)) (sym same) ∙ e in
      absurd (both_bools (covers c.cover (first_offset b)) (has_all_covers c.cover (first_offset b) (last_offset b) all (first_offset b) (omega (arith, ints)) ends_behind) (seen_none (first_offset b) (omega (arith, ints)) ends_behind).1)
  not_seen false e = e

  pub add_is : add c b ≡ with_batch c b
  add_is = ap (λ (t : Bool). cond t c (with_batch c b)) (not_seen (has_seen_all c b) refl)

  pub content_appended : IsContent (add c b)
  content_appended = subst IsContent (sym add_is) (content_with_batch c b content log seen_none)

  within : (o first : ℤ) → first ≤ℤ o → is_within o (first, o) ≡ true
  within o first le = grind (arith, ints, le)

  or_second : (p q : Bool) → q ≡ true → (p || q) ≡ true
  or_second p q e = grind (arith, e)

  last_seen : covers (add c b).cover (last_offset b) ≡ true
  last_seen =
      ap (λ (x : Content). covers x.cover (last_offset b)) add_is ∙ range_covers (first_offset b) (last_offset b) c.cover (last_offset b)
      ∙ or_second (covers c.cover (last_offset b)) (is_within (last_offset b) (first_offset b, last_offset b)) (within (last_offset b) (first_offset b) ends_behind)

  pub last_below_end : last_offset b <ℤ end (add c b)
  last_below_end = seen_below_end (add c b) content_appended (last_offset b) last_seen

  all_before : AllByRecursion (λ x. last_offset x <ℤ first_offset b) c.kept
  all_before = subst (λ (o : ℤ). AllByRecursion (λ x. last_offset x <ℤ o) c.kept) (sym at_end) (kept_below_end c content)

  pub kept_appended : (add c b).kept ≡ c.kept ++ b ∷ []
  kept_appended = ap (λ (x : Content). x.kept) add_is ∙ put_last b c.kept content.keepable all_before

  pub records_appended : (key : Key) → records_of key (add c b) ≡ records_in key (b ∷ []) ++ records_of key c
  records_appended key =
      ap (λ (bs : Batches). reverse (keyed key (log_records bs))) kept_appended ∙ ap reverse (keyed-batches key c.kept (b ∷ []))
      ∙ reverse-append (keyed key (log_records c.kept)) (keyed key (log_records (b ∷ [])))
