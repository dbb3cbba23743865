-- What is known of a content tells what goes in a part of it, without a walk.
use Rattle.std.proofs.Common.{◌≡◌, ℕ, ℤ, Bool, true, false, cond, ◌&&◌, ◌||◌, List, [], ◌∷◌, ◌++◌, take, drop, take-append-drop, Option, Some, refl, sym, ap, subst, ◌∙◌, true≢false, arith}
use Rattle.std.specs.Prelude.{◌≤ℤ◌, ◌<ℤ◌, int_lt, int_le, is_some}
use Rattle.std.specs.Int.{int_min}
use Rattle.std.specs.List.{AllByRecursion, filter, list_any}
use Rattle.std.proofs.lemmas.Int.{ints, clamps}
use Rattle.std.proofs.lemmas.List.Concat.{flat_map-cons, flat_map-append}
use Rattle.indexmap.specs.IndexMap as index
use Rattle.std.specs.Map.{lookup}
use Rattle.batch_codec.specs.Values.{BatchValue}
use Rattle.batch_codec.specs.Offsets.{first_offset, last_offset}
use Rattle.cover_ranges.specs.Runs.{Runs}
use Rattle.content.specs.Cleaning.{is_cleanable, is_superseded}
use Rattle.content.specs.Content.{Content, IsContent}
use Rattle.content.specs.Parts.{is_in_part, has_older, part_records}
use Rattle.content.specs.Records.{LogRecord, log_records, equal_keys}
use Rattle.content.specs.declared.part.CleaningPart.{CleaningPart}
use Rattle.content_laws.proofs.Batches.{Batches}
use Rattle.content_laws.proofs.Tables.{key_is}
use Rattle.content_laws.proofs.Windows.{each_weaker, filter_same}
use Rattle.swept_contents.specs.Swept.{IsSwept, is_before}
use Rattle.swept_contents.proofs.DirtyBatches.{no_older}
use Rattle.cleaning_progress.specs.Progress.{Known, IsKnownOf, found, newest_of}
use Rattle.cleaner.specs.declared.later.Later.{Later}
use Rattle.cleaner.specs.declared.later.Later.TheVariants as later
use Rattle.cleaner.specs.Choice.{Test, records_of, latest_in}
use Rattle.cleaner.specs.Given.{content_of}
use Rattle.cleaner.specs.Latest.{Offsets, borrowed_eq}
use Rattle.cleaner.specs.Later.{outdated_of, TellsLater}
use Rattle.cleaner.specs.Older.{begins_below, may_expire, KnowsOlder}
use Rattle.cleaner.proofs.OlderKeys.{AllBefore, AllBehind}
use Rattle.cleaner.proofs.Whole.{filter_both, filter_none, all-front, all-append, map_tells}

-- ---- the latest records

of_filtered : (P : LogRecord → Type 0) (r : BatchValue → Bool) (ys : Batches) → AllByRecursion P (log_records ys) → AllByRecursion P (log_records (filter r ys))
of_filtered P r [] all = tt
of_filtered P r (b ∷ ys) all =
    let parts = all-front P (records_of b) (log_records ys) (subst (AllByRecursion P) (flat_map-cons records_of b ys) all) in
    by (r b) parts.0 (of_filtered P r ys parts.1)
  where
    by : (t : Bool) → AllByRecursion P (records_of b) → AllByRecursion P (log_records (filter r ys)) → AllByRecursion P (log_records (cond t (b ∷ filter r ys) (filter r ys)))
    by true own rest = subst (AllByRecursion P) (sym (flat_map-cons records_of b (filter r ys))) (all-append P (records_of b) (log_records (filter r ys)) own rest)
    by false own rest = rest

of_behind : (P : LogRecord → Type 0) (n : ℕ) (bs : Batches) → AllByRecursion P (log_records bs) → AllByRecursion P (log_records (drop n bs))
of_behind P n bs all =
    (all-front P (log_records (take n bs)) (log_records (drop n bs))
    (subst (AllByRecursion P) (ap (λ (l : Batches). log_records l) (sym (take-append-drop n bs)) ∙ flat_map-append records_of (take n bs) (drop n bs)) all)).1

pub later_tells : {S : Type 0} (start : ℤ) (runs : Runs) (bs : Batches) → IsContent (content_of start runs bs) → (p : CleaningPart) (first : ℕ) (l : Later S) (k : Known) → IsKnownOf (content_of start runs bs) k → TellsLater l k p.upto (drop first bs)
    → AllByRecursion (λ x. outdated_of l x ≡ is_superseded (content_of start runs bs) p.upto x) (log_records (filter (is_cleanable p.upto) (drop first bs)))
later_tells start runs bs content p first (later.Walked m) k known means = map_tells start runs bs content p first m means
later_tells {S = S} start runs bs content p first (later.Known q) k known is =
    let upto : k.known_to ≡ p.upto = is.1 in
    let same : q.now ≡ k = is.0 in
    of_filtered Told (is_cleanable p.upto) (drop first bs) (of_behind Told first bs
    (each_weaker (λ x. is_superseded c k.known_to x ≡ is_before x.0 (found (newest_of k.newest) x.1.key)) Told (log_records bs)
    (λ x e. ap (λ (m : Known). is_before x.0 (found (newest_of m.newest) x.1.key)) same ∙ sym e ∙ ap (λ (o : ℤ). is_superseded c o x) upto) known.tells))
  where
    c : Content
    c = content_of start runs bs

    Told : LogRecord → Type 0
    Told x = outdated_of {S = S} (later.Known q) x ≡ is_superseded c p.upto x

-- ---- older records before the part

in_front : (p : CleaningPart) (b : BatchValue) → first_offset b <ℤ p.from → is_in_part p b ≡ false
in_front p b less = let out : int_le p.from (first_offset b) ≡ false = not_from (first_offset b) less in ap (λ (t : Bool). t && (int_lt (last_offset b) p.to && is_cleanable p.upto b)) out
  where
    not_from : (o : ℤ) → o <ℤ p.from → int_le p.from o ≡ false
    not_from o less = grind (arith, ints)

in_part_is : (p : CleaningPart) (b : BatchValue) → p.from ≤ℤ first_offset b → is_in_part p b ≡ is_cleanable (int_min p.upto p.to) b
in_part_is p b le = at (first_offset b) (last_offset b) le
  where
    at : (o last : ℤ) → p.from ≤ℤ o → (int_le p.from o && (int_lt last p.to && int_lt last p.upto)) ≡ int_lt last (int_min p.upto p.to)
    at o last le = grind (arith, ints, clamps)

-- the batches of a part are those that lie wholly below its lesser end, from its first one on
pub part_is : (p : CleaningPart) (bs : Batches) (first : ℕ) → AllBefore p.from (take first bs) → AllBehind p.from (drop first bs) → filter (is_in_part p) bs ≡ filter (is_cleanable (int_min p.upto p.to)) (drop first bs)
part_is p bs first before behind =
    ap (filter (is_in_part p)) (sym (take-append-drop first bs)) ∙ filter_both (is_in_part p) (take first bs) (drop first bs)
    ∙ (λ i. filter_none (is_in_part p) (take first bs) (each_weaker (λ b. first_offset b <ℤ p.from) (λ b. is_in_part p b ≡ false) (take first bs) (in_front p) before) i
    ++ filter_same (is_in_part p) (is_cleanable (int_min p.upto p.to)) (drop first bs) (each_weaker (λ b. p.from ≤ℤ first_offset b) (λ b. is_in_part p b ≡ is_cleanable (int_min p.upto p.to) b) (drop first bs) (in_part_is p) behind) i)

-- a record of some that passes a test, and what holds of all of them
one_of : (P : LogRecord → Type 0) (q : LogRecord → Bool) (R : Type 0) → ((x : LogRecord) → P x → q x ≡ true → R) → (xs : List LogRecord) → AllByRecursion P xs → list_any q xs ≡ true → R
one_of P q R from [] all e = absurd (true≢false (sym e))
one_of P q R from (x ∷ xs) all e = by (q x) refl e (one_of P q R from xs all.1)
  where
    by : (t : Bool) → q x ≡ t → (t || list_any q xs) ≡ true → (list_any q xs ≡ true → R) → R
    by true is e rest = from x all.0 is
    by false is e rest = rest e

both_true : (s t : Bool) → (s && t) ≡ true → t ≡ true
both_true true t e = e
both_true false t e = absurd (true≢false (sym e))

pub none_swept : {S : Type 0} (c : Content) (bs : Batches) (p : CleaningPart) (first : ℕ) (w bound : ℤ) (m : Test) (older : Offsets S) → IsContent c → c.kept ≡ bs → IsSwept p.from p.upto c
    → AllBefore p.from (take first bs) → AllBehind p.from (drop first bs) → w ≡ int_min p.upto p.to → index.IsEmpty older
    → KnowsOlder m older bound (log_records (filter (is_cleanable w) (drop first bs))) (log_records (filter (begins_below p.from) bs))
none_swept {S = S} c bs p first w bound m older content is swept before behind least empty = record {
  tells = λ k some.
      let none : is_some (latest_in older (Some k)) ≡ false = ap (λ (es : List (_ × ℤ)). is_some (lookup (borrowed_eq (record { ref_ptr = (0, 0); now = k })) es)) empty in
      none ∙ sym (stands k some);
}
  where
    records_are : part_records p c ≡ log_records (filter (is_cleanable w) (drop first bs))
    records_are =
        ap (λ (l : Batches). log_records (filter (is_in_part p) l)) is ∙ ap (λ (l : Batches). log_records l) (part_is p bs first before behind)
        ∙ ap (λ (z : ℤ). log_records (filter (is_cleanable z) (drop first bs))) (sym least)

    nothing_older : AllByRecursion (λ x. has_older c p.from x ≡ false) (log_records (filter (is_cleanable w) (drop first bs)))
    nothing_older = subst (AllByRecursion (λ x. has_older c p.from x ≡ false)) records_are (no_older p c content swept)

    stands : (k : List ℕ) → list_any (λ x. may_expire m bound x && equal_keys x.1.key (Some k)) (log_records (filter (is_cleanable w) (drop first bs))) ≡ true
        → list_any (λ y. equal_keys y.1.key (Some k)) (log_records (filter (begins_below p.from) bs)) ≡ false
    stands k some =
        one_of (λ x. has_older c p.from x ≡ false) (λ x. may_expire m bound x && equal_keys x.1.key (Some k)) (list_any (λ y. equal_keys y.1.key (Some k)) (log_records (filter (begins_below p.from) bs)) ≡ false)
        (λ x none e.
        let key = key_is k x.1.key (both_true (may_expire m bound x) (equal_keys x.1.key (Some k)) e) in
        ap (λ (l : Batches). list_any (λ (y : LogRecord). equal_keys y.1.key (Some k)) (log_records (filter (begins_below p.from) l))) (sym is)
        ∙ sym (ap (λ (o : Option (List ℕ)). list_any (λ (y : LogRecord). equal_keys y.1.key o) (log_records (filter (begins_below p.from) c.kept))) key) ∙ none)
        (log_records (filter (is_cleanable w) (drop first bs))) nothing_older some
