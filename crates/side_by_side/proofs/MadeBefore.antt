-- What a plan has made: of the batches that are left, those that begin before an offset.
use Rattle.std.proofs.Common.{◌≡◌, ℤ, pos, ◌+ℤ◌, Bool, true, false, List, [], ◌∷◌, ◌++◌, Option, Some, None, refl, sym, ap, subst, ◌∙◌, arith}
use Rattle.std.specs.Prelude.{◌≤ℤ◌, ◌<ℤ◌, int_lt}
use Rattle.std.specs.List.{filter, cons_option, AllByRecursion}
use Rattle.std.specs.Ordering.{int_eq}
use Rattle.std.proofs.lemmas.Int.{ints, by_lt_z}
use Rattle.std.proofs.lemmas.List.{append-nil, append_assoc}
use Rattle.batch_codec.specs.Values.{BatchValue}
use Rattle.batch_codec.specs.Offsets.{first_offset}
use Rattle.content.specs.ByOffset.{look_up, Rises}
use Rattle.content_laws.proofs.ByOffset.{look_up-offset, look_up-low}
use Rattle.content_laws.proofs.Batches.{Batches}
use Rattle.segment.specs.declared.turn.Turn.{Turn}
use Rattle.segment.specs.Weaving.{woven}
use Rattle.side_by_side.specs.Plans.{Adds}

-- ---- the batches that begin before an offset

abbrev pub before : ℤ → Batches → Batches
before n bs = filter (λ b. int_lt (first_offset b) n) bs

pub before_none : (n low : ℤ) (bs : Batches) → Rises first_offset low bs → n ≤ℤ low → before n bs ≡ []
before_none n low [] rise le = refl
before_none n low (z ∷ bs) rise le =
    let past : int_lt (first_offset z) n ≡ false = grind (arith, ints, le, rise.0) in
    let rest = before_none n (first_offset z +ℤ pos 1) bs rise.1 (omega (arith, ints, le, rise.0)) in
    grind (arith, past, rest)

pub before_all : (n : ℤ) (bs : Batches) → AllByRecursion (λ b. first_offset b <ℤ n) bs → before n bs ≡ bs
before_all n [] all = refl
before_all n (z ∷ bs) all =
    let here : int_lt (first_offset z) n ≡ true = grind (arith, ints, all.0) in
    let rest = before_all n bs all.1 in
    grind (arith, here, rest)

-- up to the next base, one batch more at most
pub before_next : (n later low : ℤ) (bs : Batches) → Rises first_offset low bs → n <ℤ later → ((k : ℤ) → n <ℤ k → k <ℤ later → look_up first_offset k bs ≡ None)
    → before later bs ≡ before n bs ++ cons_option (look_up first_offset n bs) []
before_next n later low [] rise less none = refl
before_next n later low (z ∷ bs) rise less none =
    by (int_lt (first_offset z) n) (int_eq (first_offset z) n) refl refl
    (before_next n later (first_offset z +ℤ pos 1) bs rise.1 less (λ k from to. tail k (none k from to)))
  where
    tail : (k : ℤ) → look_up first_offset k (z ∷ bs) ≡ None → look_up first_offset k bs ≡ None
    tail k e = grind (arith, ints, e)

    by : (s t : Bool) → int_lt (first_offset z) n ≡ s → int_eq (first_offset z) n ≡ t → before later bs ≡ before n bs ++ cons_option (look_up first_offset n bs) []
        → before later (z ∷ bs) ≡ before n (z ∷ bs) ++ cons_option (look_up first_offset n (z ∷ bs)) []
    by true t e f rest =
        let here : int_lt (first_offset z) later ≡ true = grind (arith, ints, e, less) in
        let other : int_eq (first_offset z) n ≡ false = grind (arith, ints, e) in
        grind (arith, e, here, other, rest)
    by false true e f rest =
        let here : int_lt (first_offset z) later ≡ true = grind (arith, ints, f, less) in
        let nothing : before n bs ≡ [] = before_none n (first_offset z +ℤ pos 1) bs rise.1 (grind (arith, ints, f)) in
        let gone : look_up first_offset n bs ≡ None = look_up-low first_offset (first_offset z +ℤ pos 1) n bs rise.1 (grind (arith, ints, f)) in
        grind (arith, e, f, here, nothing, gone, rest)
    by false false e f rest =
        let found : look_up first_offset (first_offset z) (z ∷ bs) ≡ Some z = grind (arith, ints) in
        let past : later ≤ℤ first_offset z = by_lt_z (first_offset z) later (λ l. absurd (clash (look_up first_offset (first_offset z) (z ∷ bs)) found (none (first_offset z) (grind (arith, ints, e, f)) l))) (λ l. l) in
        let after : before later (z ∷ bs) ≡ [] = before_none later (first_offset z) (z ∷ bs) (omega (arith, ints), rise.1) past in
        let nothing : before n (z ∷ bs) ≡ [] = before_none n (first_offset z) (z ∷ bs) (omega (arith, ints), rise.1) (grind (arith, ints, e)) in
        let gone : look_up first_offset n (z ∷ bs) ≡ None = look_up-low first_offset (first_offset z) n (z ∷ bs) (omega (arith, ints), rise.1) (grind (arith, ints, e, f)) in
        after ∙ (λ i. sym nothing i ++ cons_option (sym gone i) [])
      where
        clash : (o : Option BatchValue) → o ≡ Some z → o ≡ None → ⊥
        clash o p q = cc

-- ---- the batches that come in

-- one of these that begins before an offset
abbrev pub IsOfBefore : Batches → ℤ → BatchValue → Type 0
IsOfBefore bs n m = (look_up first_offset (first_offset m) bs ≡ Some m) × (first_offset m <ℤ n)

pub all_less : (n : ℤ) (bs : Batches) → AllByRecursion (λ b. (pos 0 ≤ℤ first_offset b) × (first_offset b <ℤ n)) bs → AllByRecursion (λ b. first_offset b <ℤ n) bs
all_less n [] all = tt
all_less n (z ∷ bs) all = (all.0.1, all_less n bs all.1)

-- ---- one step more

pub push_made : (made : Batches) (z : Option BatchValue) (rest : Batches) → made ++ cons_option z rest ≡ (made ++ cons_option z []) ++ rest
push_made made None rest = ap (λ (bs : Batches). bs ++ rest) (sym (append-nil made))
push_made made (Some z) rest = sym (append_assoc made (z ∷ []) rest)

pub made_next : (kept xs next made : Batches) (left z : Option BatchValue) (turns later : List Turn) (more news : Batches) → Adds left z turns later more news → xs ≡ cons_option left next
    → ((rest : List Turn) (ms : Batches) → woven (turns ++ rest) kept (more ++ ms) ≡ made ++ woven rest xs ms)
    → (rest : List Turn) (ms : Batches) → woven (later ++ rest) kept (news ++ ms) ≡ (made ++ cons_option z []) ++ woven rest next ms
made_next kept xs next made left z turns later more news adds front makes rest ms =
    (λ i. woven (adds.more_turns i ++ rest) kept (adds.more_batches i ++ ms))
    ∙ (λ i. woven (append_assoc turns adds.turns rest i) kept (append_assoc more adds.batches ms i))
    ∙ makes (adds.turns ++ rest) (adds.batches ++ ms)
    ∙ ap (λ (bs : Batches). made ++ woven (adds.turns ++ rest) bs (adds.batches ++ ms)) front
    ∙ ap (λ (bs : Batches). made ++ bs) (adds.makes rest next ms)
    ∙ push_made made z (woven rest next ms)

pub all_later : (bs : Batches) (n later : ℤ) (more : Batches) → n <ℤ later → AllByRecursion (IsOfBefore bs n) more → AllByRecursion (IsOfBefore bs later) more
all_later bs n later [] less all = tt
all_later bs n later (m ∷ more) less all = ((all.0.0, omega (arith, ints, less, all.0.1)), all_later bs n later more less all.1)

pub all_append : (P : BatchValue → Type 0) (xs ys : Batches) → AllByRecursion P xs → AllByRecursion P ys → AllByRecursion P (xs ++ ys)
all_append P [] ys all others = others
all_append P (x ∷ xs) ys all others = (all.0, all_append P xs ys all.1 others)

pub all_new : (bs : Batches) (n later : ℤ) (z : Option BatchValue) (news : Batches) → n <ℤ later → look_up first_offset n bs ≡ z → AllByRecursion (λ b. z ≡ Some b) news → AllByRecursion (IsOfBefore bs later) news
all_new bs n later z [] less there all = tt
all_new bs n later z (m ∷ news) less there all =
    let here : look_up first_offset n bs ≡ Some m = there ∙ all.0 in
    let base : first_offset m ≡ n = look_up-offset first_offset n bs m here in
    ((subst (λ (k : ℤ). look_up first_offset k bs ≡ Some m) (sym base) here, omega (arith, ints, base, less)), all_new bs n later z news less there all.1)
