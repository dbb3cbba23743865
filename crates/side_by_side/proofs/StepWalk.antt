-- What comes next of a copy's batches and of entries, by rising base offset, and what is known of both lists when it has
-- come.
use Rattle.std.proofs.Common.{◌≡◌, ◌^◌, ℤ, pos, ◌+ℤ◌, Bool, true, false, List, [], ◌∷◌, drop, Some, None, refl, subst, ◌∙◌, arith}
use Rattle.std.specs.Prelude.{◌≤ℤ◌, ◌<ℤ◌, int_lt, if◌then◌else◌}
use Rattle.std.proofs.lemmas.Int.{ints}
use Rattle.batch_codec.specs.Values.{BatchValue}
use Rattle.batch_codec.specs.Offsets.{first_offset}
use Rattle.cover_ranges.proofs.RunsFrom.{canonical_from}
use Rattle.content.specs.ByOffset.{look_up, Rises}
use Rattle.content.specs.Content.{Content, IsContent}
use Rattle.content_laws.proofs.ByOffset.{look_up-offset, look_up-low, rises-lower, rises-raise, all_from_at}
use Rattle.content_laws.proofs.Batches.{Batches}
use Rattle.content_laws.proofs.Slots.{bases_rise, kept_ends}
use Rattle.side_by_side.proofs.KeptRange.{kept_in_range}
use Rattle.deltas.specs.Entries.{Entry, entry_base}
use Rattle.deltas.specs.Deltas.{Delta, IsDelta}
use Rattle.deltas.specs.declared.TheConstants.{LEAST_BASE}
use Rattle.deltas.proofs.Sayings.{rises_all, entry_covered, entry_above}
use Rattle.delta_bytes.proofs.Covered.{covered_within}
use Rattle.side_by_side.specs.Steps.{Step, next_of, is_done, base_of, kept_of, told_of, taken_kept, taken_told}
use Rattle.side_by_side.specs.Steps.Step.{Done, Kept, Told, Both}

abbrev pub Entries : Type 0
Entries = List Entry

-- ---- which of a batch and an entry comes next, by two tests on their bases

abbrev pub chosen : BatchValue → Entry → Bool → Bool → Step
chosen x e s t = if s then Kept x else if t then Told e else Both x e

-- ---- from `n` on, what a list has is in `xs`, by rising offset

pub record IsAhead {X : Type 0} (key : X → ℤ) (all : List X) (n : ℤ) (xs : List X) : Type 0 where
  pub rises : Rises key n xs
  pub ahead : (k : ℤ) → n ≤ℤ k → look_up key k all ≡ look_up key k xs

pub all_ahead : {X : Type 0} (key : X → ℤ) (n : ℤ) (xs : List X) → Rises key n xs → IsAhead key xs n xs
all_ahead key n xs rises = record { rises = rises; ahead = λ k le. refl }

-- what begins at `n` is taken; where nothing begins there, nothing has that offset
taken : {X : Type 0} (key : X → ℤ) (all : List X) (n : ℤ) (x : X) (xs : List X) → IsAhead key all n (x ∷ xs) → key x ≡ n → IsAhead key all (n +ℤ pos 1) xs × (look_up key n all ≡ Some x)
taken key all n x xs from here = (
  record { rises = subst (λ (k : ℤ). Rises key (k +ℤ pos 1) xs) here from.rises.1; ahead = λ k le. from.ahead k (omega (arith, ints, le)) ∙ behind k le },
  from.ahead n (omega (arith, ints)) ∙ grind (arith, ints, here),
)
  where
    behind : (k : ℤ) → (n +ℤ pos 1) ≤ℤ k → look_up key k (x ∷ xs) ≡ look_up key k xs
    behind k le = grind (arith, ints, here, le)

passed : {X : Type 0} (key : X → ℤ) (all : List X) (n : ℤ) (xs : List X) → IsAhead key all n xs → Rises key (n +ℤ pos 1) xs → IsAhead key all (n +ℤ pos 1) xs × (look_up key n all ≡ None)
passed key all n xs from rises = (
  record { rises = rises; ahead = λ k le. from.ahead k (omega (arith, ints, le)) },
  from.ahead n (omega (arith, ints)) ∙ look_up-low key (n +ℤ pos 1) n xs rises (omega (arith, ints)),
)

-- what comes next at `n`: what both lists have there, and what is left behind it
pub record HasCome (all : Batches) (entries : Entries) (n : ℤ) (xs : Batches) (es : Entries) (step : Step) : Type 0 where
  pub base : base_of step ≡ n
  pub kept_here : look_up first_offset n all ≡ kept_of step
  pub told_here : look_up entry_base n entries ≡ told_of step
  pub from_kept : IsAhead first_offset all (n +ℤ pos 1) (drop (taken_kept step) xs)
  pub from_told : IsAhead entry_base entries (n +ℤ pos 1) (drop (taken_told step) es)

come_kept : (all : Batches) (entries : Entries) (x : BatchValue) (xs : Batches) (es : Entries) → IsAhead first_offset all (first_offset x) (x ∷ xs) → IsAhead entry_base entries (first_offset x) es
    → Rises entry_base (first_offset x +ℤ pos 1) es → HasCome all entries (first_offset x) (x ∷ xs) es (Kept x)
come_kept all entries x xs es left right rises =
    let mine = taken first_offset all (first_offset x) x xs left refl in
    let other = passed entry_base entries (first_offset x) es right rises in
    record { base = refl; kept_here = mine.1; told_here = other.1; from_kept = mine.0; from_told = other.0 }

come_told : (all : Batches) (entries : Entries) (e : Entry) (xs : Batches) (es : Entries) → IsAhead first_offset all (entry_base e) xs → IsAhead entry_base entries (entry_base e) (e ∷ es)
    → Rises first_offset (entry_base e +ℤ pos 1) xs → HasCome all entries (entry_base e) xs (e ∷ es) (Told e)
come_told all entries e xs es left right rises =
    let mine = passed first_offset all (entry_base e) xs left rises in
    let other = taken entry_base entries (entry_base e) e es right refl in
    record { base = refl; kept_here = mine.1; told_here = other.1; from_kept = mine.0; from_told = other.0 }

come_both : (all : Batches) (entries : Entries) (x : BatchValue) (e : Entry) (xs : Batches) (es : Entries) → IsAhead first_offset all (first_offset x) (x ∷ xs) → IsAhead entry_base entries (first_offset x) (e ∷ es)
    → entry_base e ≡ first_offset x → HasCome all entries (first_offset x) (x ∷ xs) (e ∷ es) (Both x e)
come_both all entries x e xs es left right same =
    let mine = taken first_offset all (first_offset x) x xs left refl in
    let other = taken entry_base entries (first_offset x) e es right same in
    record { base = refl; kept_here = mine.1; told_here = other.1; from_kept = mine.0; from_told = other.0 }

pub comes : (all : Batches) (entries : Entries) (xs : Batches) (es : Entries) → IsAhead first_offset all (base_of (next_of xs es)) xs → IsAhead entry_base entries (base_of (next_of xs es)) es → is_done (next_of xs es) ≡ false
    → HasCome all entries (base_of (next_of xs es)) xs es (next_of xs es)
comes all entries [] [] left right some = absurd cc
comes all entries (x ∷ xs) [] left right some = come_kept all entries x xs [] left right tt
comes all entries [] (e ∷ es) left right some = come_told all entries e [] es left right tt
comes all entries (x ∷ xs) (e ∷ es) left right some = by (int_lt (first_offset x) (entry_base e)) (int_lt (entry_base e) (first_offset x)) refl refl left right
  where
    by : (s t : Bool) → int_lt (first_offset x) (entry_base e) ≡ s → int_lt (entry_base e) (first_offset x) ≡ t
        → IsAhead first_offset all (base_of (chosen x e s t)) (x ∷ xs) → IsAhead entry_base entries (base_of (chosen x e s t)) (e ∷ es) → HasCome all entries (base_of (chosen x e s t)) (x ∷ xs) (e ∷ es) (chosen x e s t)
    by true t p q l r = come_kept all entries x xs (e ∷ es) l r (grind (arith, ints, p), r.rises.1)
    by false true p q l r = come_told all entries e (x ∷ xs) es l r (grind (arith, ints, q), l.rises.1)
    by false false p q l r = come_both all entries x e xs es l r (grind (arith, ints, p, q))

-- ---- from one base to the next

rises_to_next : (m : ℤ) (xs : Batches) (es : Entries) → m ≤ℤ pos (2 ^ 62) → Rises first_offset m xs → Rises entry_base m es
    → (m ≤ℤ base_of (next_of xs es)) × Rises first_offset (base_of (next_of xs es)) xs × Rises entry_base (base_of (next_of xs es)) es
rises_to_next m [] [] most left right = (most, tt, tt)
rises_to_next m (x ∷ xs) [] most left right = (left.0, (omega (arith, ints), left.1), tt)
rises_to_next m [] (e ∷ es) most left right = (right.0, tt, (omega (arith, ints), right.1))
rises_to_next m (x ∷ xs) (e ∷ es) most left right = by (int_lt (first_offset x) (entry_base e)) (int_lt (entry_base e) (first_offset x)) refl refl
  where
    by : (s t : Bool) → int_lt (first_offset x) (entry_base e) ≡ s → int_lt (entry_base e) (first_offset x) ≡ t
        → (m ≤ℤ base_of (chosen x e s t)) × Rises first_offset (base_of (chosen x e s t)) (x ∷ xs) × Rises entry_base (base_of (chosen x e s t)) (e ∷ es)
    by true t p q = (left.0, (omega (arith, ints), left.1), (grind (arith, ints, p), right.1))
    by false true p q = (right.0, (grind (arith, ints, q), left.1), (omega (arith, ints), right.1))
    by false false p q = (left.0, (omega (arith, ints), left.1), (grind (arith, ints, p, q), right.1))

-- both lists before what comes next; of neither does anything begin from `m` on before it
pub record AreBefore (all : Batches) (entries : Entries) (m : ℤ) (xs : Batches) (es : Entries) : Type 0 where
  pub least : m ≤ℤ base_of (next_of xs es)
  pub kept : IsAhead first_offset all (base_of (next_of xs es)) xs
  pub told : IsAhead entry_base entries (base_of (next_of xs es)) es
  pub none_kept : (k : ℤ) → m ≤ℤ k → k <ℤ base_of (next_of xs es) → look_up first_offset k all ≡ None
  pub none_told : (k : ℤ) → m ≤ℤ k → k <ℤ base_of (next_of xs es) → look_up entry_base k entries ≡ None

pub are_before : (all : Batches) (entries : Entries) (m : ℤ) (xs : Batches) (es : Entries) → m ≤ℤ pos (2 ^ 62) → IsAhead first_offset all m xs → IsAhead entry_base entries m es → AreBefore all entries m xs es
are_before all entries m xs es most left right =
    let rise = rises_to_next m xs es most left.rises right.rises in
    record {
      least = rise.0;
      kept = record { rises = rise.1; ahead = λ k le. left.ahead k (omega (arith, ints, le, rise.0)) };
      told = record { rises = rise.2; ahead = λ k le. right.ahead k (omega (arith, ints, le, rise.0)) };
      none_kept = λ k le less. left.ahead k le ∙ look_up-low first_offset (base_of (next_of xs es)) k xs rise.1 less;
      none_told = λ k le less. right.ahead k le ∙ look_up-low entry_base (base_of (next_of xs es)) k es rise.2 less;
    }

-- ---- what comes next lies within the offsets

kept_within : (c : Content) (n : ℤ) (x : BatchValue) → IsContent c → look_up first_offset n c.kept ≡ Some x → (pos 0 ≤ℤ n) × (n <ℤ pos (2 ^ 62))
kept_within c n x is there =
    let base : first_offset x ≡ n = look_up-offset first_offset n c.kept x there in
    let range = kept_in_range c n x is there in
    let ends = kept_ends c n x is there in
    (omega (arith, ints, base, range.0), omega (arith, ints, range.1, ends))

told_within : (e : Delta) (n : ℤ) (x : Entry) → IsDelta e → look_up entry_base n e.entries ≡ Some x → (pos 0 ≤ℤ n) × (n <ℤ pos (2 ^ 62))
told_within e n x is there = covered_within (pos 0) n e.cover (canonical_from e.cover is.canonical) (entry_covered e n x is there)

pub base_within : (c : Content) (e : Delta) (n : ℤ) (step : Step) → IsContent c → IsDelta e → look_up first_offset n c.kept ≡ kept_of step → look_up entry_base n e.entries ≡ told_of step → is_done step ≡ false
    → (pos 0 ≤ℤ n) × (n <ℤ pos (2 ^ 62))
base_within c e n Done is delta kept told some = absurd cc
base_within c e n (Kept x) is delta kept told some = kept_within c n x is kept
base_within c e n (Told x) is delta kept told some = told_within e n x delta told
base_within c e n (Both x y) is delta kept told some = kept_within c n x is kept

-- the whole lists, from offset 0 on
pub kept_ahead : (c : Content) → IsContent c → IsAhead first_offset c.kept (pos 0) c.kept
kept_ahead c is = all_ahead first_offset (pos 0) c.kept (rises-lower first_offset (pos 0) c.start c.kept (bases_rise c is) is.in_range.0)

entries_rise_from : (e : Delta) → IsDelta e → Rises entry_base (pos 0) e.entries
entries_rise_from e is =
    rises-raise entry_base LEAST_BASE (pos 0) e.entries (rises_all e is)
    (all_from_at entry_base (λ (x : Entry). pos 0 ≤ℤ entry_base x) LEAST_BASE e.entries (rises_all e is)
    (λ x there. let from = entry_above e (entry_base x) x is there in let least = is.in_range.0 in omega (arith, ints, from, least)))

pub told_ahead : (e : Delta) → IsDelta e → IsAhead entry_base e.entries (pos 0) e.entries
told_ahead e is = all_ahead entry_base (pos 0) e.entries (entries_rise_from e is)
