-- What is left is superseded where it was: the last record of a key below the bound stays, unless it goes as a tombstone, and then
-- nothing older of its key is left.
use Rattle.std.proofs.Common.{◌≡◌, ◌^◌, ℕ, ℤ, pos, ◌+ℤ◌, Bool, true, false, cond, ◌&&◌, ◌⊎◌, inl, inr, List, [], ◌∷◌, Option, Some, None, refl, sym, ap, subst, ◌∙◌, true≢false, arith}
use Rattle.std.specs.Prelude.{◌≤ℤ◌, ◌<ℤ◌, int_lt, int_le, if◌then◌else◌}
use Rattle.std.specs.List.{filter, list_any, AllByRecursion}
use Rattle.std.specs.Ordering.{int_eq}
use Rattle.std.proofs.lemmas.Int.{ints, by_lt_z}
use Rattle.batch_codec.specs.declared.head.BatchHead.{BatchHead}
use Rattle.batch_codec.specs.Values.{RecordValue, BatchValue}
use Rattle.batch_codec.specs.Offsets.{first_offset, last_offset}
use Rattle.content.specs.declared.part.CleaningPart.{CleaningPart}
use Rattle.content.specs.ByOffset.{look_up, Rises}
use Rattle.content.specs.Records.{LogRecord, log_records, record_at, same_key, equal_keys}
use Rattle.content.specs.Content.{Content, IsContent, IsLogBatch, has_seen_all, HasSeenNone, with_batch, add, cut}
use Rattle.content.specs.Cleaning.{is_cleanable, is_superseded, cleanable_records}
use Rattle.content.specs.Parts.{is_in_part, has_older, is_expired_in_part, is_removed_in_part, clean_part}
use Rattle.content_laws.proofs.ByOffset.{look_up-low, look_up-put, look_up-filter_offset, all_from_at}
use Rattle.content_laws.proofs.Batches.{HasRecord, placed_rises}
use Rattle.content_laws.proofs.ContentSteps.{both_bools, content_part, content_cut, content_with_batch}
use Rattle.content_laws.proofs.CopyFacts.{record_of_look_up}
use Rattle.content_laws.proofs.CopyParts.{same_some}
use Rattle.content_laws.proofs.Tables.{exact, offset_in_log}
use Rattle.content_laws.proofs.Sweeps.{IsStillIn, held, held_in, same_or_before, of_reached, reached_rise, any_at, any_from, any_by, any_of, still_in, still_unreached, gone}
use Rattle.content_laws.proofs.CopyClean.{key_sym}
use Rattle.content_laws.proofs.AdjacentParts.{same_bool}
use Rattle.swept_contents.proofs.Reading.{ends_behind, same_last, superseded_before}
use Rattle.swept_contents.proofs.SweptParts.{part_was}
use Rattle.swept_contents.proofs.KeptSwept.{cut_was, was_there}

-- ---- the last of some records that pass a test

record IsLastThat (p : LogRecord → Bool) (xs : List LogRecord) : Type 0 where
  one : LogRecord
  there : look_up offset_in_log one.0 xs ≡ Some one
  passes : p one ≡ true
  last : (y : LogRecord) → look_up offset_in_log y.0 xs ≡ Some y → p y ≡ true → y.0 ≤ℤ one.0

last_that : (p : LogRecord → Bool) (low : ℤ) (xs : List LogRecord) → Rises offset_in_log low xs → list_any p xs ≡ true → IsLastThat p xs
last_that p low [] rise e = absurd (true≢false (sym e))
last_that p low (x ∷ xs) rise e = by (list_any p xs) refl (last_that p (x.0 +ℤ pos 1) xs rise.1)
  where
    found : (y : LogRecord) → look_up offset_in_log y.0 xs ≡ Some y → x.0 <ℤ y.0
    found y f = by_lt_z x.0 y.0 (λ less. less) (λ le. absurd (clash (look_up offset_in_log y.0 xs) f (look_up-low offset_in_log (x.0 +ℤ pos 1) y.0 xs rise.1 (omega (arith, ints, le)))))
      where
        clash : (z : Option LogRecord) → z ≡ Some y → z ≡ None → ⊥
        clash z f g = cc

    at : (y : LogRecord) (t : Bool) → int_eq x.0 y.0 ≡ t → cond t (Some x) (look_up offset_in_log y.0 xs) ≡ Some y → (x ≡ y) ⊎ (look_up offset_in_log y.0 xs ≡ Some y)
    at y true is f = inl cc
    at y false is f = inr f

    either : (y : LogRecord) → look_up offset_in_log y.0 (x ∷ xs) ≡ Some y → (x ≡ y) ⊎ (look_up offset_in_log y.0 xs ≡ Some y)
    either y f = at y (int_eq x.0 y.0) refl f

    later : (y : LogRecord) → look_up offset_in_log y.0 xs ≡ Some y → look_up offset_in_log y.0 (x ∷ xs) ≡ Some y
    later y f = let less = found y f in grind (arith, ints, f, less)

    of_rest : (r : IsLastThat p xs) → (y : LogRecord) → (x ≡ y) ⊎ (look_up offset_in_log y.0 xs ≡ Some y) → p y ≡ true → y.0 ≤ℤ r.one.0
    of_rest r y (inl same) own = let less = found r.one r.there in let same_offset : x.0 ≡ y.0 = ap (λ (z : LogRecord). z.0) same in omega (arith, ints, less, same_offset)
    of_rest r y (inr f) own = r.last y f own

    of_first : list_any p xs ≡ false → (y : LogRecord) → (x ≡ y) ⊎ (look_up offset_in_log y.0 xs ≡ Some y) → p y ≡ true → y.0 ≤ℤ x.0
    of_first none y (inl same) own = let same_offset : x.0 ≡ y.0 = ap (λ (z : LogRecord). z.0) same in omega (arith, ints, same_offset)
    of_first none y (inr f) own = absurd (true≢false (sym (any_at p y.0 xs y f own) ∙ none))

    first_passes : list_any p xs ≡ false → p x ≡ true
    first_passes none = grind (arith, e, none)

    by : (t : Bool) → list_any p xs ≡ t → (list_any p xs ≡ true → IsLastThat p xs) → IsLastThat p (x ∷ xs)
    by true is ih = let r = ih is in record { one = r.one; there = later r.one r.there; passes = r.passes; last = λ y f own. of_rest r y (either y f) own }
    by false is ih = record { one = x; there = grind (arith, ints); passes = first_passes is; last = λ y f own. of_first is y (either y f) own }

-- ---- keys

key_trans : (a b d : Option (List ℕ)) → equal_keys a b ≡ true → equal_keys b d ≡ true → equal_keys a d ≡ true
key_trans None None d e f = f
key_trans None (Some y) d e f = absurd (true≢false (sym e))
key_trans (Some x) None d e f = absurd (true≢false (sym e))
key_trans (Some x) (Some y) d e f = let same : x ≡ y = exact x y e in subst (λ (z : List ℕ). equal_keys (Some z) d ≡ true) (sym same) f

-- ---- a record among those of the batches that pass a test

found_reached : (c : Content) (content : IsContent c) (reach : BatchValue → Bool) (q : ℤ) (t : RecordValue) (h : HasRecord c.kept q t) → reach h.batch ≡ true → look_up offset_in_log q (log_records (filter reach c.kept)) ≡ Some (q, t)
found_reached c content reach q t h is =
    let there = any_by c content reach (λ y. int_eq y.0 q) (record { offset = q; value = t; has = h; reached = is; passes = grind (arith, ints) }) in
    let f = any_from (λ y. int_eq y.0 q) c.start (log_records (filter reach c.kept)) (reached_rise c content reach (λ x. true)) there in
    let passes = f.passes in
    let at : f.one.0 ≡ q = grind (arith, ints, passes) in
    let of = of_reached c content reach (λ x. true) f.one f.there in
    let same : f.one.1 ≡ t = same_some (record_at c.kept q) f.one.1 t (subst (λ (k : ℤ). record_at c.kept k ≡ Some f.one.1) at (held c content f.one.0 f.one.1 of.0)) (held c content q t h) in
    sym (ap (λ (k : ℤ). look_up offset_in_log k (log_records (filter reach c.kept))) at) ∙ f.there ∙ pair f.one.0 q f.one.1 t at same
  where
    found : ℤ → RecordValue → Option LogRecord
    found i u = Some (i, u)

    pair : (i j : ℤ) (u v : RecordValue) → i ≡ j → u ≡ v → found i u ≡ found j v
    pair i j u v e g = λ k. found (e k) (g k)

-- ---- a part

module _ (upto : ℤ) (p : CleaningPart) (c : Content) (content : IsContent c) (least : p.upto ≤ℤ upto) where
  abbrev now : Content
  now = clean_part p c

  now_content : IsContent now
  now_content = content_part p c content

  module _ (o : ℤ) (r : RecordValue) (has : HasRecord now.kept o r) where
    was : IsStillIn c.kept o r has.batch.head
    was = part_was p c content o r has

    -- the last one of its key below the bound
    module _ (one : LogRecord) (last_has : HasRecord c.kept one.0 one.1) (below : is_cleanable upto last_has.batch ≡ true) (own : same_key one.1 r ≡ true) (behind : o <ℤ one.0)
        (last : (y : LogRecord) → look_up offset_in_log y.0 (cleanable_records c upto) ≡ Some y → same_key y.1 r ≡ true → y.0 ≤ℤ one.0)
        (keys : (s : RecordValue) → same_key s one.1 ≡ true → same_key s r ≡ true) (turned : same_key r one.1 ≡ true) where
      not_superseded : is_superseded c p.upto one ≡ true → ⊥
      not_superseded sup =
          let any = any_of c content (is_cleanable p.upto) (λ y. int_lt one.0 y.0 && same_key y.1 one.1) sup in
          let passes = any.passes in
          let less : one.0 <ℤ any.offset = grind (arith, ints, passes) in
          let reached = any.reached in
          let there = found_reached c content (is_cleanable upto) any.offset any.value any.has (grind (arith, ints, reached, least)) in
          let most = last (any.offset, any.value) there (keys any.value (grind (arith, passes))) in
          omega (arith, ints, less, most)

      -- it isn't expired: else this older one of its key would have gone too
      not_expired : is_in_part p last_has.batch ≡ true → is_expired_in_part p c one ≡ true → ⊥
      not_expired in_it expired = by_lt_z (first_offset was.has.batch) p.from (λ under. before under) (λ from. within from (same_or_before c content one.0 o one.1 r last_has was.has (omega (arith, ints, behind))))
        where
          none : has_older c p.from one ≡ false
          none = grind (arith, expired)

          before : first_offset was.has.batch <ℤ p.from → ⊥
          before under = true≢false (sym (any_by c content (λ b. int_lt (first_offset b) p.from) (λ y. same_key y.1 one.1) (record { offset = o; value = r; has = was.has; reached = grind (arith, ints, under); passes = turned })) ∙ none)

          sup : is_superseded c p.upto (o, r) ≡ true
          sup = let less : int_lt o one.0 ≡ true = grind (arith, ints, behind) in
              any_by c content (is_cleanable p.upto) (λ y. int_lt o y.0 && same_key y.1 r) (record { offset = one.0; value = one.1; has = last_has; reached = grind (arith, in_it); passes = grind (arith, own, less) })

          went : is_in_part p was.has.batch ≡ true → ⊥
          went is = gone (is_in_part p) (is_removed_in_part p c) c content o r was.has is (grind (arith, sup)) r (held now now_content o r has)

          within : p.from ≤ℤ first_offset was.has.batch → (last_has.batch ≡ was.has.batch) ⊎ (last_offset was.has.batch <ℤ first_offset last_has.batch) → ⊥
          within from (inl same) = went (subst (λ (b : BatchValue). is_in_part p b ≡ true) same in_it)
          within from (inr ends) = let span = ends_behind c one.0 one.1 content last_has in went (grind (arith, ints, from, ends, span, in_it))

      stays : IsStillIn now.kept one.0 one.1 last_has.batch.head
      stays = by (is_in_part p last_has.batch) (is_superseded c p.upto one) (is_expired_in_part p c one) refl refl refl
        where
          by : (a s e : Bool) → is_in_part p last_has.batch ≡ a → is_superseded c p.upto one ≡ s → is_expired_in_part p c one ≡ e → IsStillIn now.kept one.0 one.1 last_has.batch.head
          by false s e in_it sup expired = still_unreached (is_in_part p) (is_removed_in_part p c) c content one.0 one.1 last_has in_it
          by true true e in_it sup expired = absurd (not_superseded sup)
          by true false true in_it sup expired = absurd (not_expired in_it expired)
          by true false false in_it sup expired = still_in (is_in_part p) (is_removed_in_part p c) c content one.0 one.1 last_has (grind (arith, sup, expired))

      superseded_now : is_superseded now upto (o, r) ≡ true
      superseded_now =
          let last_same = same_last stays.has.batch last_has.batch stays.of in
          let less : int_lt o one.0 ≡ true = grind (arith, ints, behind) in
          any_by now now_content (is_cleanable upto) (λ y. int_lt o y.0 && same_key y.1 r) (record { offset = one.0; value = one.1; has = stays.has; reached = grind (arith, ints, last_same, below); passes = grind (arith, own, less) })

    superseded_still : is_superseded c upto (o, r) ≡ true → is_superseded now upto (o, r) ≡ true
    superseded_still e =
        let any = any_of c content (is_cleanable upto) (λ y. int_lt o y.0 && same_key y.1 r) e in
        let passes = any.passes in
        let own : same_key any.value r ≡ true = grind (arith, passes) in
        let later : o <ℤ any.offset = grind (arith, ints, passes) in
        let some = any_by c content (is_cleanable upto) (λ y. same_key y.1 r) (record { offset = any.offset; value = any.value; has = any.has; reached = any.reached; passes = own }) in
        let l = last_that (λ y. same_key y.1 r) c.start (cleanable_records c upto) (reached_rise c content (is_cleanable upto) (λ x. true)) some in
        let of = of_reached c content (is_cleanable upto) (λ x. true) l.one l.there in
        let most = l.last (any.offset, any.value) (found_reached c content (is_cleanable upto) any.offset any.value any.has any.reached) own in
        superseded_now l.one of.0 of.1 l.passes (omega (arith, ints, later, most)) l.last (λ s f. key_trans s.key l.one.1.key r.key f l.passes) (key_sym l.one.1.key r.key l.passes)

    part_same : is_superseded now upto (o, r) ≡ is_superseded c upto (o, r)
    part_same = same_bool (is_superseded now upto (o, r)) (is_superseded c upto (o, r)) (superseded_before upto now c now_content content (part_was p c content) (o, r)) superseded_still

  pub part_stays : AllByRecursion (λ x. is_superseded (clean_part p c) upto x ≡ is_superseded c upto x) (log_records (clean_part p c).kept)
  part_stays = all_from_at offset_in_log (λ (x : LogRecord). is_superseded now upto x ≡ is_superseded c upto x) now.start (log_records now.kept)
      (placed_rises now.start now.kept now_content.disjoint now_content.keepable) (λ x e. part_same x.0 x.1 (held_in now now_content x.0 x.1 (record_of_look_up x.0 now.kept x e)))

-- ---- a later start

module _ (upto s : ℤ) (c : Content) (content : IsContent c) (later : c.start ≤ℤ s) (most : s ≤ℤ pos (2 ^ 62)) where
  cut_content : IsContent (cut s c)
  cut_content = content_cut c s content later most

  begins_from : (b : BatchValue) → look_up first_offset (first_offset b) (cut s c).kept ≡ Some b → s ≤ℤ first_offset b
  begins_from b there = by (int_le s (first_offset b)) refl (sym (look_up-filter_offset first_offset (int_le s) (first_offset b) c.kept) ∙ there)
    where
      by : (t : Bool) → int_le s (first_offset b) ≡ t → cond t (look_up first_offset (first_offset b) c.kept) None ≡ Some b → s ≤ℤ first_offset b
      by true is f = grind (arith, ints, is)
      by false is f = absurd cc

  cut_same : (o : ℤ) (r : RecordValue) → HasRecord (cut s c).kept o r → is_superseded (cut s c) upto (o, r) ≡ is_superseded c upto (o, r)
  cut_same o r has = same_bool (is_superseded (cut s c) upto (o, r)) (is_superseded c upto (o, r)) (superseded_before upto (cut s c) c cut_content content (cut_was s c) (o, r)) down
    where
      was : IsStillIn c.kept o r has.batch.head
      was = cut_was s c o r has

      from_on : s ≤ℤ first_offset was.has.batch
      from_on = let same : first_offset was.has.batch ≡ first_offset has.batch = ap (λ (h : BatchHead). h.base) was.of in let begins = begins_from has.batch has.there in omega (arith, ints, same, begins)

      down : is_superseded c upto (o, r) ≡ true → is_superseded (cut s c) upto (o, r) ≡ true
      down e =
          let any = any_of c content (is_cleanable upto) (λ y. int_lt o y.0 && same_key y.1 r) e in
          let passes = any.passes in
          let behind : o <ℤ any.offset = grind (arith, ints, passes) in
          let late = beside any.offset any.value any.has (same_or_before c content any.offset o any.value r any.has was.has (omega (arith, ints, behind))) in
          let there = look_up-filter_offset first_offset (int_le s) (first_offset any.has.batch) c.kept ∙ ap (λ (t : Bool). cond t (look_up first_offset (first_offset any.has.batch) c.kept) None) late ∙ any.has.there in
          any_by (cut s c) cut_content (is_cleanable upto) (λ y. int_lt o y.0 && same_key y.1 r) (record {
            offset = any.offset;
            value = any.value;
            has = record { batch = any.has.batch; there = there; from = any.has.from; to = any.has.to; here = any.has.here };
            reached = any.reached;
            passes = any.passes;
          })
        where
          beside : (q : ℤ) (t : RecordValue) (h : HasRecord c.kept q t) → (h.batch ≡ was.has.batch) ⊎ (last_offset was.has.batch <ℤ first_offset h.batch) → int_le s (first_offset h.batch) ≡ true
          beside q t h (inl same) = let first : first_offset h.batch ≡ first_offset was.has.batch = ap first_offset same in grind (arith, ints, first, from_on)
          beside q t h (inr ends) = let span = ends_behind c o r content was.has in grind (arith, ints, ends, span, from_on)

  pub cut_stays : AllByRecursion (λ x. is_superseded (cut s c) upto x ≡ is_superseded c upto x) (log_records (cut s c).kept)
  cut_stays = all_from_at offset_in_log (λ (x : LogRecord). is_superseded (cut s c) upto x ≡ is_superseded c upto x) s (log_records (cut s c).kept)
      (placed_rises s (cut s c).kept cut_content.disjoint cut_content.keepable) (λ x e. cut_same x.0 x.1 (held_in (cut s c) cut_content x.0 x.1 (record_of_look_up x.0 (cut s c).kept x e)))

-- ---- a batch behind

module _ (upto : ℤ) (c : Content) (b : BatchValue) (x : LogRecord) (content : IsContent c) (log : IsLogBatch b) where
  same_with : upto ≤ℤ first_offset b → IsContent (with_batch c b) → is_superseded (with_batch c b) upto x ≡ is_superseded c upto x
  same_with from new = same_bool (is_superseded (with_batch c b) upto x) (is_superseded c upto x) up down
    where
      span : first_offset b ≤ℤ last_offset b
      span = let delta : pos 0 ≤ℤ b.head.last_delta = log.writable.valid.last_delta in omega (arith, ints, delta)

      up : is_superseded (with_batch c b) upto x ≡ true → is_superseded c upto x ≡ true
      up e =
          let any = any_of (with_batch c b) new (is_cleanable upto) (λ y. int_lt x.0 y.0 && same_key y.1 x.1) e in
          let reached = any.reached in
          let ends : last_offset any.has.batch <ℤ upto = grind (arith, ints, reached) in
          let there = was_there c b any.has.batch (λ at same. let also : last_offset b ≡ last_offset any.has.batch = ap last_offset same in omega (arith, ints, ends, span, also, from)) any.has.there in
          any_by c content (is_cleanable upto) (λ y. int_lt x.0 y.0 && same_key y.1 x.1) (record {
            offset = any.offset;
            value = any.value;
            has = record { batch = any.has.batch; there = there; from = any.has.from; to = any.has.to; here = any.has.here };
            reached = any.reached;
            passes = any.passes;
          })

      down : is_superseded c upto x ≡ true → is_superseded (with_batch c b) upto x ≡ true
      down e =
          let any = any_of c content (is_cleanable upto) (λ y. int_lt x.0 y.0 && same_key y.1 x.1) e in
          let reached = any.reached in
          let own = ends_behind c any.offset any.value content any.has in
          let other : int_eq (first_offset b) (first_offset any.has.batch) ≡ false = grind (arith, ints, reached, own, from) in
          let there = look_up-put first_offset (first_offset any.has.batch) b c.kept ∙ ap (λ (t : Bool). if t then Some b else look_up first_offset (first_offset any.has.batch) c.kept) other ∙ any.has.there in
          any_by (with_batch c b) new (is_cleanable upto) (λ y. int_lt x.0 y.0 && same_key y.1 x.1) (record {
            offset = any.offset;
            value = any.value;
            has = record { batch = any.has.batch; there = there; from = any.has.from; to = any.has.to; here = any.has.here };
            reached = any.reached;
            passes = any.passes;
          })

  pub batch_stays : (has_seen_all c b ≡ true) ⊎ HasSeenNone c b → upto ≤ℤ first_offset b → is_superseded (add c b) upto x ≡ is_superseded c upto x
  batch_stays which from = by (has_seen_all c b) refl which
    where
      by : (t : Bool) → has_seen_all c b ≡ t → (has_seen_all c b ≡ true) ⊎ HasSeenNone c b → is_superseded (cond t c (with_batch c b)) upto x ≡ is_superseded c upto x
      by true e w = refl
      by false e (inl all) = absurd (both_bools (has_seen_all c b) all e)
      by false e (inr none) = same_with from (content_with_batch c b content log none)
