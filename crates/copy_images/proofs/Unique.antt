-- An image has one reading, and bytes that are none have one first fault.
use Rattle.std.proofs.Common.{◌≡◌, ℕ, ◌*◌, ◌≤◌, ◌<◌, ◌^◌, ℤ, pos, ◌+ℤ◌, true, ◌⊎◌, inl, inr, Some, List, [], ◌∷◌, ◌++◌, length, drop, refl, sym, ap, subst, ◌∙◌, append_assoc, append-nil, arith}
use Rattle.std.specs.Prelude.{◌≤ℤ◌, ◌<ℤ◌, get_or}
use Rattle.std.specs.List.{AllByRecursion, flat_map, fold}
use Rattle.std.specs.Int.{w32}
use Rattle.std.specs.Simd.{first_chunks}
use Rattle.std.proofs.lemmas.Int.{ints}
use Rattle.std.proofs.lemmas.Bool.{cases_lt}
use Rattle.std.proofs.lemmas.List.{length-append}
use Rattle.std.proofs.lemmas.List.Folds.{Any-from_list_any}
use Rattle.batch_codec.specs.Values.{BatchValue}
use Rattle.batch_codec.specs.Grammar.{Writable, batch_encoding}
use Rattle.batch_codec.specs.Fields.{signed_at}
use Rattle.batch_codec.specs.Offsets.{first_offset, last_offset, HasKeys, SpansRise}
use Rattle.batch_codec.proofs.Views.{one_encoding}
use Rattle.cover_ranges.specs.Runs.{Runs, IsRun, is_within, covers, IsCanonical, CoversAll}
use Rattle.cover_ranges.proofs.Runs.{run_bounds}
use Rattle.content.specs.ByOffset.{look_up}
use Rattle.content.specs.Records.{IsKeepable}
use Rattle.content.specs.Content.{IsContent, IsInRange}
use Rattle.content_laws.proofs.ByOffset.{all_from_at}
use Rattle.content_laws.proofs.Slots.{bases_rise, kept_keepable}
use Rattle.partition_log.specs.Below.{content_of}
use Rattle.copy_images.specs.declared.error.ImageError.{ImageError}
use Rattle.copy_images.specs.declared.error.ImageError.TheVariants.{BadBatch, Outside, Extra, OutOfMemory}
use Rattle.copy_images.specs.Refusals.{HasFront, IsNext, end_of_batches}
use Rattle.copy_images.specs.Judging.{ranges_of}
use Rattle.copy_images.proofs.PartsAgain.{IsReadAs, front_again}
use Rattle.copy_images.proofs.Kept.{Batches}
use Rattle.copy_images.proofs.Contents.{rise_from_0}

-- ---- the front has one reading

pub record IsSameFront (ranges ranges' : Runs) (count count' : ℤ) (rest rest' : List ℕ) : Type 0 where
  pub ranges_same : ranges ≡ ranges'
  pub count_same : count ≡ count'
  pub rest_same : rest ≡ rest'

pos_same : (m n : ℕ) → pos m ≡ pos n → m ≡ n
pos_same m n e = cc

pub one_front : (body : List ℕ) (ranges ranges' : Runs) (count count' : ℤ) (rest rest' : List ℕ) → HasFront body ranges count rest → HasFront body ranges' count' rest' → IsSameFront ranges ranges' count count' rest rest'
one_front body ranges ranges' count count' rest rest' front front' =
    let a : IsReadAs body ranges count rest = front_again body ranges count rest front in
    let b : IsReadAs body ranges' count' rest' = front_again body ranges' count' rest' front' in
    let number : length ranges ≡ length ranges' = pos_same (length ranges) (length ranges') (sym a.counted ∙ b.counted) in
    record {
      ranges_same = a.ranges_are ∙ ap (λ (n : ℕ). ranges_of (first_chunks 16 n (drop 4 body))) number ∙ sym b.ranges_are;
      count_same = a.count_is ∙ ap (λ (n : ℕ). signed_at w32 0 (drop (16 * n) (drop 4 body))) number ∙ sym b.count_is;
      rest_same = a.rest_is ∙ ap (λ (n : ℕ). drop 4 (drop (16 * n) (drop 4 body))) number ∙ sym b.rest_is;
    }

-- ---- the batches of a content, one by one

-- a batch whose span lies in the ranges
pub record IsInside (ranges : Runs) (b : BatchValue) : Type 0 where
  pub writable : Writable b
  pub keys : HasKeys b
  pub in_range : IsInRange b
  pub all : CoversAll ranges (first_offset b) (last_offset b)

pub run_of : (runs : Runs) → IsCanonical runs → (o : ℤ) → covers runs o ≡ true → (pos 0 ≤ℤ o) × (o <ℤ pos (2 ^ 62))
run_of runs canonical o e =
    let at = Any-from_list_any (is_within o) runs e in
    let run : ℤ × ℤ = get_or runs at.0 at.1 in
    let is : IsRun run = canonical.are_runs at.0 at.1 at.2 in
    let within : is_within o run ≡ true = ap (is_within o) at.3 ∙ at.4 in
    let bounds = run_bounds o run within in
    let a = is.0 in
    let c = is.2 in
    (omega (arith, ints, a, bounds), omega (arith, ints, c, bounds))

pub all_inside : (start : ℤ) (ranges : Runs) (batches : Batches) → IsContent (content_of start ranges batches) → AllByRecursion (IsInside ranges) batches
all_inside start ranges batches content = all_from_at first_offset (IsInside ranges) start batches (bases_rise (content_of start ranges batches) content) one
  where
    one : (b : BatchValue) → look_up first_offset (first_offset b) batches ≡ Some b → IsInside ranges b
    one b e =
        let keep : IsKeepable b = kept_keepable (content_of start ranges batches) (first_offset b) b content e in
        let delta : pos 0 ≤ℤ b.head.last_delta = keep.0.valid.last_delta in
        let all = λ (o : ℤ) (p : first_offset b ≤ℤ o) (q : o ≤ℤ last_offset b). content.inside (first_offset b) o b e p q in
        let low = run_of ranges content.canonical (first_offset b) (all (first_offset b) (omega (arith, ints)) (omega (arith, ints, delta))) in
        let high = run_of ranges content.canonical (last_offset b) (all (last_offset b) (omega (arith, ints, delta)) (omega (arith, ints))) in
        record { writable = keep.0; keys = keep.1; in_range = (low.0, high.1); all = all }

all_writable : (ranges : Runs) (batches : Batches) → AllByRecursion (IsInside ranges) batches → AllByRecursion Writable batches
all_writable ranges [] h = tt
all_writable ranges (b ∷ bs) h = (h.0.writable, all_writable ranges bs h.1)

rises_after : (low : ℤ) (bs : Batches) (b : BatchValue) (more : Batches) → SpansRise low (bs ++ b ∷ more) → fold (λ _ x. last_offset x +ℤ pos 1) low bs ≤ℤ first_offset b
rises_after low [] b more h = h.0
rises_after low (x ∷ xs) b more h = rises_after (last_offset x +ℤ pos 1) xs b more h.1

all_after : {X : Type 0} (P : X → Type 0) (xs ys : List X) → AllByRecursion P (xs ++ ys) → AllByRecursion P ys
all_after P [] ys h = h
all_after P (x ∷ xs) ys h = all_after P xs ys h.1

-- of two fronts of the same bytes the longer one goes on where the shorter one ends
record GoesOn (less more : Batches) (rest rest' : List ℕ) : Type 0 where
  later : Batches
  is : more ≡ less ++ later
  left : rest ≡ flat_map batch_encoding later ++ rest'

goes_on : (xs ys : Batches) (rest rest' : List ℕ) → AllByRecursion Writable xs → AllByRecursion Writable ys → length xs ≤ length ys → flat_map batch_encoding xs ++ rest ≡ flat_map batch_encoding ys ++ rest' → GoesOn xs ys rest rest'
goes_on [] ys rest rest' v w le e = record { later = ys; is = refl; left = e }
goes_on (x ∷ xs) [] rest rest' v w le e = absurd (omega arith)
goes_on (x ∷ xs) (y ∷ ys) rest rest' v w le e =
    let left : batch_encoding x ++ (flat_map batch_encoding xs ++ rest) ≡ batch_encoding y ++ (flat_map batch_encoding ys ++ rest') =
    sym (append_assoc (batch_encoding x) (flat_map batch_encoding xs) rest) ∙ e ∙ append_assoc (batch_encoding y) (flat_map batch_encoding ys) rest' in
    let first = one_encoding x y (flat_map batch_encoding xs ++ rest) (flat_map batch_encoding ys ++ rest') v.0 w.0 left in
    let others : GoesOn xs ys rest rest' = goes_on xs ys rest rest' v.1 w.1 (omega arith) first.1 in
    record { later = others.later; is = (λ i. sym first.0 i ∷ others.is i); left = others.left }

-- ---- where the batches end, and why

-- each way to end, with the refusal that it gives
abbrev pub Ends : Runs → ℤ → Batches → List ℕ → ImageError → Type 0
Ends ranges count batches rest error =
    (((pos (length batches) <ℤ count) × ((b : BatchValue) → IsNext (end_of_batches batches) b rest → ⊥)) × (error ≡ BadBatch (length batches)))
    ⊎ (((b : BatchValue) × (pos (length batches) <ℤ count) × IsNext (end_of_batches batches) b rest × ¬ CoversAll ranges (first_offset b) (last_offset b)) × (error ≡ Outside)
    ⊎ (((pos (length batches) ≡ count) × (0 < length rest)) × (error ≡ Extra) ⊎ ((pos (length batches) ≡ count) × (rest ≡ [])) × (error ≡ OutOfMemory)))

pub record StopsFor (start : ℤ) (ranges : Runs) (count : ℤ) (bytes : List ℕ) (error : ImageError) : Type 0 where
  pub batches : Batches
  pub rest : List ℕ
  pub encoded : bytes ≡ flat_map batch_encoding batches ++ rest
  pub content : IsContent (content_of start ranges batches)
  pub ends : Ends ranges count batches rest error

-- it does not end where another batch stands next, whose span was seen
does_not_end : (ranges : Runs) (count : ℤ) (batches : Batches) (rest : List ℕ) (error : ImageError) (b : BatchValue) → Ends ranges count batches rest error → pos (length batches) <ℤ count → IsNext (end_of_batches batches) b rest → CoversAll ranges (first_offset b) (last_offset b) → ⊥
does_not_end ranges count batches rest error b (inl why) few next all = why.0.1 b next
does_not_end ranges count batches rest error b (inr (inl why)) few next all =
    let same : b ≡ why.0.0 = (one_encoding b why.0.0 next.starts.rest why.0.2.starts.rest next.starts.writable why.0.2.starts.writable (sym next.starts.encoded ∙ why.0.2.starts.encoded)).0 in
    why.0.3 (subst (λ (x : BatchValue). CoversAll ranges (first_offset x) (last_offset x)) same all)
does_not_end ranges count batches rest error b (inr (inr (inl why))) few next all = let e = why.0.0 in omega (arith, ints)
does_not_end ranges count batches rest error b (inr (inr (inr why))) few next all = let e = why.0.0 in omega (arith, ints)

pub at_most : (ranges : Runs) (count : ℤ) (batches : Batches) (rest : List ℕ) (error : ImageError) → Ends ranges count batches rest error → pos (length batches) ≤ℤ count
at_most ranges count batches rest error (inl why) = let e = why.0.0 in omega (arith, ints)
at_most ranges count batches rest error (inr (inl why)) = let e = why.0.1 in omega (arith, ints)
at_most ranges count batches rest error (inr (inr (inl why))) = let e = why.0.0 in omega (arith, ints)
at_most ranges count batches rest error (inr (inr (inr why))) = let e = why.0.0 in omega (arith, ints)

not_shorter : (start : ℤ) (ranges : Runs) (count : ℤ) (bytes : List ℕ) (e f : ImageError) → (s : StopsFor start ranges count bytes e) → (t : StopsFor start ranges count bytes f) → length s.batches < length t.batches → ⊥
not_shorter start ranges count bytes e f s t less = by g.later g.is g.left
  where
    inside_s : AllByRecursion (IsInside ranges) s.batches
    inside_s = all_inside start ranges s.batches s.content

    inside_t : AllByRecursion (IsInside ranges) t.batches
    inside_t = all_inside start ranges t.batches t.content

    g : GoesOn s.batches t.batches s.rest t.rest
    g = goes_on s.batches t.batches s.rest t.rest (all_writable ranges s.batches inside_s) (all_writable ranges t.batches inside_t) (omega (arith, less)) (sym s.encoded ∙ t.encoded)

    by : (later : Batches) → t.batches ≡ s.batches ++ later → s.rest ≡ flat_map batch_encoding later ++ t.rest → ⊥
    by [] is left = omega (arith, less, ap length is, length-append s.batches [])
    by (b ∷ later) is left =
        let inside : IsInside ranges b = (all_after (IsInside ranges) s.batches (b ∷ later) (subst (AllByRecursion (IsInside ranges)) is inside_t)).0 in
        let rises : end_of_batches s.batches ≤ℤ first_offset b = rises_after (pos 0) s.batches b later (subst (SpansRise (pos 0)) is (rise_from_0 start ranges t.batches t.content)) in
        let most = at_most ranges count t.batches t.rest f t.ends in
        let few : pos (length s.batches) <ℤ count = omega (arith, ints, less, most) in
        let next : IsNext (end_of_batches s.batches) b s.rest = record {
          starts = record { writable = inside.writable; rest = flat_map batch_encoding later ++ t.rest; encoded = left ∙ append_assoc (batch_encoding b) (flat_map batch_encoding later) t.rest };
          keys = inside.keys;
          in_range = inside.in_range;
          rises = rises;
        } in
        does_not_end ranges count s.batches s.rest e b s.ends few next inside.all

-- at the same batch there is one way
one_end : (ranges : Runs) (count : ℤ) (batches : Batches) (rest : List ℕ) (e f : ImageError) → Ends ranges count batches rest e → Ends ranges count batches rest f → e ≡ f
one_end ranges count batches rest e f (inl why) (inl other) = why.1 ∙ sym other.1
one_end ranges count batches rest e f (inl why) (inr (inl other)) = absurd (why.0.1 other.0.0 other.0.2)
one_end ranges count batches rest e f (inl why) (inr (inr (inl other))) = let a = why.0.0 in let b = other.0.0 in absurd (omega (arith, ints))
one_end ranges count batches rest e f (inl why) (inr (inr (inr other))) = let a = why.0.0 in let b = other.0.0 in absurd (omega (arith, ints))
one_end ranges count batches rest e f (inr (inl why)) (inl other) = absurd (other.0.1 why.0.0 why.0.2)
one_end ranges count batches rest e f (inr (inl why)) (inr (inl other)) = why.1 ∙ sym other.1
one_end ranges count batches rest e f (inr (inl why)) (inr (inr (inl other))) = let a = why.0.1 in let b = other.0.0 in absurd (omega (arith, ints))
one_end ranges count batches rest e f (inr (inl why)) (inr (inr (inr other))) = let a = why.0.1 in let b = other.0.0 in absurd (omega (arith, ints))
one_end ranges count batches rest e f (inr (inr (inl why))) (inl other) = let a = why.0.0 in let b = other.0.0 in absurd (omega (arith, ints))
one_end ranges count batches rest e f (inr (inr (inl why))) (inr (inl other)) = let a = why.0.0 in let b = other.0.1 in absurd (omega (arith, ints))
one_end ranges count batches rest e f (inr (inr (inl why))) (inr (inr (inl other))) = why.1 ∙ sym other.1
one_end ranges count batches rest e f (inr (inr (inl why))) (inr (inr (inr other))) = let a = why.0.1 in absurd (omega (arith, ap length other.0.1))
one_end ranges count batches rest e f (inr (inr (inr why))) (inl other) = let a = why.0.0 in let b = other.0.0 in absurd (omega (arith, ints))
one_end ranges count batches rest e f (inr (inr (inr why))) (inr (inl other)) = let a = why.0.0 in let b = other.0.1 in absurd (omega (arith, ints))
one_end ranges count batches rest e f (inr (inr (inr why))) (inr (inr (inl other))) = let a = other.0.1 in absurd (omega (arith, ap length why.0.1))
one_end ranges count batches rest e f (inr (inr (inr why))) (inr (inr (inr other))) = why.1 ∙ sym other.1

pub one_stop : (start : ℤ) (ranges : Runs) (count : ℤ) (bytes : List ℕ) (e f : ImageError) → StopsFor start ranges count bytes e → StopsFor start ranges count bytes f → e ≡ f
one_stop start ranges count bytes e f s t =
    elim (cases_lt (length s.batches) (length t.batches)) [
      | inl less ↦ absurd (not_shorter start ranges count bytes e f s t less)
      | inr le ↦ (elim (cases_lt (length t.batches) (length s.batches)) [
        | inl less ↦ absurd (not_shorter start ranges count bytes f e t s less)
        | inr ge ↦ by (omega (arith, le, ge)) (goes_on s.batches t.batches s.rest t.rest (all_writable ranges s.batches (all_inside start ranges s.batches s.content)) (all_writable ranges t.batches (all_inside start ranges t.batches t.content)) ge (sym s.encoded ∙ t.encoded))
      ])
    ]
  where
    by : length s.batches ≡ length t.batches → GoesOn s.batches t.batches s.rest t.rest → e ≡ f
    by same g = nothing g.later g.is g.left
      where
        nothing : (later : Batches) → t.batches ≡ s.batches ++ later → s.rest ≡ flat_map batch_encoding later ++ t.rest → e ≡ f
        nothing [] is left =
            let batches : t.batches ≡ s.batches = is ∙ append-nil s.batches in
            one_end ranges count s.batches s.rest e f s.ends (subst (λ (x : Batches). Ends ranges count x s.rest f) batches (subst (λ (x : List ℕ). Ends ranges count t.batches x f) (sym left) t.ends))
        nothing (b ∷ later) is left = absurd (omega (arith, same, ap length is, length-append s.batches (b ∷ later)))
