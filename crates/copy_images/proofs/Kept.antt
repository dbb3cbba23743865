-- A store and a copy built of batches that were judged.
use Rattle.std.proofs.Common.{◌≡◌, ℕ, ◌+◌, ◌-◌, ◌≤◌, ◌<◌, ℤ, pos, ◌+ℤ◌, Bool, true, false, inl, List, [], ◌∷◌, ◌++◌, length, get_or, take, drop, refl, sym, ap, subst, ◌∙◌, append_assoc, append-nil, arith}
use Rattle.std.specs.Prelude.{◌≤ℤ◌, ◌<ℤ◌, int_lt, unsigned_abs, FitsSigned, ◌==◌, if◌then◌else◌}
use Rattle.std.specs.List.{AllByRecursion, flat_map}
use Rattle.std.specs.Int.{w32, cast_signed, cast_unsigned}
use Rattle.std.specs.Ordering.{int_eq}
use Rattle.std.proofs.lemmas.Int.{ints, to_z-of_z}
use Rattle.std.proofs.lemmas.List.{length-append, take_at, drop_at}
use Rattle.batch_codec.specs.Values.{BatchValue}
use Rattle.batch_codec.specs.Grammar.{Writable, batch_encoding}
use Rattle.batch_codec.specs.Offsets.{first_offset, last_offset, SpansRise}
use Rattle.batch_codec.specs.Fields.{signed_at}
use Rattle.batch_codec.specs.Reading.{batch_of, IsEncoding}
use Rattle.batch_codec.specs.Checks.{size_at}
use Rattle.batch_codec.proofs.Batches.{sized_from}
use Rattle.batch_codec.proofs.Encoded.{size_again, batch_again}
use Rattle.batch_codec.proofs.Views.{one_encoding}
use Rattle.content.specs.ByOffset.{put}
use Rattle.content.specs.Content.{Content, IsContent, IsInRange}
use Rattle.partition_log.specs.Below.{content_of}
use Rattle.cover_ranges.specs.Runs.{Runs}
use Rattle.segment.specs.BatchLists.{IsBatchList, MeetsNone}
use Rattle.copy_images.specs.Judging.{AreJudged, IsEncoded, IsBuilt}
use Rattle.copy_images.proofs.Contents.{kept_content}

abbrev pub Batches : Type 0
Batches = List BatchValue

-- ---- the batch at the front

front_size : (b : BatchValue) (rest : List ℕ) → Writable b → (signed_at w32 8 (batch_encoding b ++ rest) ≡ pos (length (batch_encoding b) - 12)) × (61 ≤ length (batch_encoding b))
unfolding size_at
front_size b rest w =
    let bytes = batch_encoding b ++ rest in
    let s = sized_from (length bytes) (get_or bytes 16 0) (signed_at w32 8 bytes) (length (batch_encoding b)) (size_again b rest w) in
    (s.len_is, s.long)

pub front_long : (b : BatchValue) (rest bytes : List ℕ) → Writable b → bytes ≡ batch_encoding b ++ rest → 12 ≤ length bytes
front_long b rest bytes w is =
    let long = (front_size b rest w).1 in
    omega (arith, ap length is, length-append (batch_encoding b) rest, long)

pub sized : (b : BatchValue) (rest bytes : List ℕ) (field : ℤ) (n : ℕ) → Writable b → bytes ≡ batch_encoding b ++ rest → field ≡ signed_at w32 8 bytes → FitsSigned w32 field
    → n ≡ unsigned_abs (cast_signed w32 (cast_unsigned w32 field)) → n + 12 ≡ length (batch_encoding b)
sized b rest bytes field n w is read fits size =
    let s = front_size b rest w in
    let long = s.1 in
    let value : cast_signed w32 (cast_unsigned w32 field) ≡ pos (length (batch_encoding b) - 12) = to_z-of_z w32 field fits ∙ read ∙ ap (signed_at w32 8) is ∙ s.0 in
    let m : n ≡ length (batch_encoding b) - 12 = size ∙ ap unsigned_abs value in
    omega (arith, m, long)

pub within : (b : BatchValue) (rest bytes : List ℕ) (n : ℕ) → bytes ≡ batch_encoding b ++ rest → n ≡ length (batch_encoding b) → n ≤ length bytes
within b rest bytes n is size = omega (arith, ap length is, length-append (batch_encoding b) rest, size)

pub taken : (b : BatchValue) (rest bytes front : List ℕ) (n : ℕ) → bytes ≡ batch_encoding b ++ rest → n ≡ length (batch_encoding b) → front ≡ take n bytes → front ≡ batch_encoding b
taken b rest bytes front n is size at = at ∙ ap (take n) is ∙ take_at (batch_encoding b) rest n (sym size)

pub left : (b : BatchValue) (rest bytes back : List ℕ) (n : ℕ) → bytes ≡ batch_encoding b ++ rest → n ≡ length (batch_encoding b) → back ≡ drop n bytes → back ≡ rest
left b rest bytes back n is size at = at ∙ ap (drop n) is ∙ drop_at (batch_encoding b) rest n (sym size)

pub encoding_is : (b : BatchValue) (front : List ℕ) → Writable b → front ≡ batch_encoding b → IsEncoding front
encoding_is b front w is =
    let same : batch_of front ≡ b = ap batch_of is ∙ batch_again b w in
    (subst Writable (sym same) w, is ∙ ap batch_encoding (sym same))

-- ---- batches put in, each behind all others

first_above : (low : ℤ) (bs : Batches) (b : BatchValue) (more : Batches) → AllByRecursion Writable bs → SpansRise low (bs ++ b ∷ more) → low ≤ℤ first_offset b
first_above low [] b more w h = h.0
first_above low (x ∷ xs) b more w h =
    let delta : pos 0 ≤ℤ x.head.last_delta = w.0.valid.last_delta in
    let from : low ≤ℤ first_offset x = h.0 in
    let ih : (last_offset x +ℤ pos 1) ≤ℤ first_offset b = first_above (last_offset x +ℤ pos 1) xs b more w.1 h.1 in
    omega (arith, ints)

all_before : (low : ℤ) (bs : Batches) (b : BatchValue) (more : Batches) → AllByRecursion Writable bs → SpansRise low (bs ++ b ∷ more) → AllByRecursion (λ x. last_offset x <ℤ first_offset b) bs
all_before low [] b more w h = tt
all_before low (x ∷ xs) b more w h =
    let ih : (last_offset x +ℤ pos 1) ≤ℤ first_offset b = first_above (last_offset x +ℤ pos 1) xs b more w.1 h.1 in
    (omega (arith, ints), all_before (last_offset x +ℤ pos 1) xs b more w.1 h.1)

put_last : (bs : Batches) (b : BatchValue) → AllByRecursion Writable bs → AllByRecursion (λ x. last_offset x <ℤ first_offset b) bs → put first_offset b bs ≡ bs ++ b ∷ []
unfolding put
put_last [] b w h = refl
put_last (x ∷ xs) b w h =
    let less : last_offset x <ℤ first_offset b = h.0 in
    let delta : pos 0 ≤ℤ x.head.last_delta = w.0.valid.last_delta in
    let ih = put_last xs b w.1 h.1 in
    let later : int_lt (first_offset b) (first_offset x) ≡ false = grind (arith, ints) in
    let other : int_eq (first_offset b) (first_offset x) ≡ false = grind (arith, ints) in
    (λ i. if later i then b ∷ x ∷ xs else if other i then b ∷ xs else x ∷ ih i)

meets : (bs : Batches) (b : BatchValue) → AllByRecursion (λ x. last_offset x <ℤ first_offset b) bs → MeetsNone b bs
meets [] b h = tt
meets (x ∷ xs) b h = (inl h.0, meets xs b h.1)

-- what was kept, and what is left to be kept
pub record IsKept (bytes : List ℕ) (store : Batches) (rest : List ℕ) : Type 0 where
  pub later : Batches
  pub left : rest ≡ flat_map batch_encoding later
  pub whole : bytes ≡ flat_map batch_encoding (store ++ later)
  pub list : IsBatchList (store ++ later)

pub none_kept : (bytes : List ℕ) (batches : Batches) → IsEncoded batches bytes → IsKept bytes [] bytes
none_kept bytes batches is = record { later = batches; left = is.encoded; whole = is.encoded; list = is.list }

pub record HasNext (bytes : List ℕ) (store : Batches) (rest : List ℕ) : Type 0 where
  pub b : BatchValue
  pub more : List ℕ
  pub is : rest ≡ batch_encoding b ++ more
  pub writable : Writable b
  pub in_range : IsInRange b
  pub meets_none : MeetsNone b store
  pub kept : IsKept bytes (put first_offset b store) more

all_front : {X : Type 0} (P : X → Type 0) (xs ys : List X) → AllByRecursion P (xs ++ ys) → AllByRecursion P xs
all_front P [] ys h = tt
all_front P (x ∷ xs) ys h = (h.0, all_front P xs ys h.1)

all_back : {X : Type 0} (P : X → Type 0) (xs ys : List X) → AllByRecursion P (xs ++ ys) → AllByRecursion P ys
all_back P [] ys h = h
all_back P (x ∷ xs) ys h = all_back P xs ys h.1

pub next_kept : (bytes : List ℕ) (store : Batches) (rest : List ℕ) → IsKept bytes store rest → (rest ≡ [] → ⊥) → HasNext bytes store rest
next_kept bytes store rest k some = by k.later k.left k.whole k.list
  where
    by : (later : Batches) → rest ≡ flat_map batch_encoding later → bytes ≡ flat_map batch_encoding (store ++ later) → IsBatchList (store ++ later) → HasNext bytes store rest
    by [] left whole list = absurd (some left)
    by (b ∷ later) left whole list =
        let w : AllByRecursion Writable store = all_front Writable store (b ∷ later) list.writable in
        let before = all_before (pos 0) store b later w list.disjoint in
        let put_is : (put first_offset b store) ++ later ≡ store ++ (b ∷ later) = ap (λ (x : Batches). x ++ later) (put_last store b w before) ∙ append_assoc store (b ∷ []) later in
        record {
          b = b;
          more = flat_map batch_encoding later;
          is = left;
          writable = (all_back Writable store (b ∷ later) list.writable).0;
          in_range = (all_back IsInRange store (b ∷ later) list.in_range).0;
          meets_none = meets store b before;
          kept = record {
            later = later;
            left = refl;
            whole = whole ∙ ap (flat_map batch_encoding) (sym put_is);
            list = subst IsBatchList (sym put_is) list;
          };
        }

pub all_kept : (bytes : List ℕ) (store : Batches) (rest : List ℕ) → IsKept bytes store rest → rest ≡ [] → IsEncoded store bytes
all_kept bytes store rest k none = by k.later (sym none ∙ k.left) k.whole k.list
  where
    by : (later : Batches) → [] ≡ flat_map batch_encoding later → bytes ≡ flat_map batch_encoding (store ++ later) → IsBatchList (store ++ later) → IsEncoded store bytes
    by [] left whole list =
        let is : store ++ [] ≡ store = append-nil store in
        record { encoded = whole ∙ ap (flat_map batch_encoding) is; list = subst IsBatchList is list }
    by (b ∷ later) left whole list =
        let w : Writable b = (all_back Writable store (b ∷ later) list.writable).0 in
        let long = (front_size b [] w).1 in
        let none : 0 ≡ length (batch_encoding b ++ flat_map batch_encoding later) = ap length left in
        absurd (omega (arith, long, none, length-append (batch_encoding b) (flat_map batch_encoding later)))

-- ---- batches are known by their encodings

pub same_batches : (xs ys : Batches) → AllByRecursion Writable xs → AllByRecursion Writable ys → flat_map batch_encoding xs ≡ flat_map batch_encoding ys → xs ≡ ys
same_batches [] [] v w e = refl
same_batches [] (y ∷ ys) v w e =
    let long = (front_size y [] w.0).1 in
    let none : 0 ≡ length (batch_encoding y ++ flat_map batch_encoding ys) = ap length e in
    absurd (omega (arith, long, none, length-append (batch_encoding y) (flat_map batch_encoding ys)))
same_batches (x ∷ xs) [] v w e =
    let long = (front_size x [] v.0).1 in
    let none : length (batch_encoding x ++ flat_map batch_encoding xs) ≡ 0 = ap length e in
    absurd (omega (arith, long, none, length-append (batch_encoding x) (flat_map batch_encoding xs)))
same_batches (x ∷ xs) (y ∷ ys) v w e =
    let first = one_encoding x y (flat_map batch_encoding xs) (flat_map batch_encoding ys) v.0 w.0 e in
    let others = same_batches xs ys v.1 w.1 first.1 in
    (λ i. first.0 i ∷ others i)

-- ---- as code has it

pub some_left : (xs : List ℕ) (empty : Bool) → empty ≡ (length xs == 0) → empty ≡ false → xs ≡ [] → ⊥
some_left xs empty asked is none = let e : (length xs == 0) ≡ true = ap (λ (ys : List ℕ). length ys == 0) none in cc

pub longer_than_none : (xs : List ℕ) (empty : Bool) → empty ≡ (length xs == 0) → empty ≡ false → 0 < length xs
longer_than_none [] empty asked is = absurd (grind arith)
longer_than_none (x ∷ xs) empty asked is = omega arith

pub none_left : (xs : List ℕ) (empty : Bool) → empty ≡ (length xs == 0) → empty ≡ true → xs ≡ []
none_left [] empty asked is = refl
none_left (x ∷ xs) empty asked is = absurd (grind arith)

pub one_kept : (bytes : List ℕ) (old new : Batches) (rest after : List ℕ) (b : BatchValue) → (h : HasNext bytes old rest) → b ≡ h.b → after ≡ h.more → new ≡ put first_offset b old → IsKept bytes new after
one_kept bytes old new rest after b h is behind e =
    let store : put first_offset h.b old ≡ new = sym (e ∙ ap (λ (x : BatchValue). put first_offset x old) is) in
    let kept : IsKept bytes new h.more = subst (λ (x : Batches). IsKept bytes x h.more) store h.kept in
    subst (IsKept bytes new) (sym behind) kept

pub shorter : (bytes : List ℕ) (old : Batches) (rest after : List ℕ) → (h : HasNext bytes old rest) → after ≡ h.more → length after < length rest
shorter bytes old rest after h behind =
    let long = (front_size h.b [] h.writable).1 in
    omega (arith, long, ap length behind, ap length h.is, length-append (batch_encoding h.b) h.more)

-- a copy of what was kept
pub is_content : (start : ℤ) (ranges runs : Runs) (count : ℤ) (bytes : List ℕ) (store : Batches) → AreJudged start ranges count bytes → runs ≡ ranges → IsEncoded store bytes → IsContent (content_of start runs store)
is_content start ranges runs count bytes store judged is kept =
    let batches : Batches = judged.batches.0 in
    let has = judged.batches.1 in
    let same : batches ≡ store = same_batches batches store has.list.writable kept.list.writable (sym (append-nil (flat_map batch_encoding batches)) ∙ sym has.encoded ∙ kept.encoded) in
    let content : IsContent (content_of start ranges batches) = kept_content start ranges batches judged.start judged.cover has.list.disjoint has.keepable has.seen in
    let with_store : IsContent (content_of start ranges store) = subst (λ (x : Batches). IsContent (content_of start ranges x)) same content in
    subst (λ (x : Runs). IsContent (content_of start x store)) (sym is) with_store

pub is_built : (start : ℤ) (ranges runs : Runs) (count : ℤ) (bytes : List ℕ) (store : Batches) (c : Content) → AreJudged start ranges count bytes → runs ≡ ranges → IsEncoded store bytes → c ≡ content_of start runs store → IsBuilt start ranges bytes c
is_built start ranges runs count bytes store c judged is kept made =
    let built : IsBuilt start ranges bytes (content_of start runs store) = record { content = is_content start ranges runs count bytes store judged is kept; start = refl; cover = is; encoded = kept } in
    subst (IsBuilt start ranges bytes) (sym made) built
