-- The first bytes of a file, read piece by piece, and the head that they begin with.
use Rattle.std.proofs.Common.{◌≡◌, ℕ, ℤ, zero, suc, ◌+◌, ◌-◌, ◌≤◌, arith, Bool, List, [], ◌∷◌, ◌++◌, length, take, drop, Option, Some, None, sym, ap, refl, ◌∙◌, append_assoc, length-append, take-append-drop, subst}
use Rattle.std.specs.Prelude.{IfSome}
use Rattle.std.proofs.lemmas.List.{length-take}
use Rattle.std.specs.Int.{cast_unsigned, w64}
use Rattle.broker_state.specs.State.{ConfigValue, State, new_state}
use Rattle.snapshots.specs.Heads.{SnapshotValue, StartsWithHead}
use Rattle.state_snapshots.specs.Restoring.{IsRestored}
use Rattle.kept_starts.specs.declared.snapshot.Shape.{Shape}
use Rattle.kept_starts.specs.Growth.{IsSetUp}
use Rattle.kept_starts.specs.Starts.{HoldsImages, IsFrontOf}

-- ---- pieces

abbrev nothing : List ℕ
nothing = []

take_nil : (n : ℕ) → take n nothing ≡ nothing
take_nil zero = refl
take_nil (suc n) = refl

take_sum : (m n : ℕ) (xs : List ℕ) → take (m + n) xs ≡ take m xs ++ take n (drop m xs)
take_sum zero n xs = let e : 0 + n ≡ n = omega arith in ap (λ (k : ℕ). take k xs) e
take_sum (suc m) n [] = let e : suc m + n ≡ suc (m + n) = omega arith in ap (λ (k : ℕ). take k nothing) e ∙ sym (take_nil n)
take_sum (suc m) n (x ∷ xs) = let e : suc m + n ≡ suc (m + n) = omega arith in ap (λ (k : ℕ). take k (x ∷ xs)) e ∙ ap (λ (l : List ℕ). x ∷ l) (take_sum m n xs)

pub nothing_read : (seen : Option (List ℕ)) → IsFrontOf seen []
nothing_read None = tt
nothing_read (Some file) = refl

one_piece : (seen : Option (List ℕ)) (bytes room : List ℕ) (count : ℕ) → IsFrontOf seen bytes → count ≤ length room
    → IfSome seen (λ file. take count room ≡ take count (drop (length bytes) file)) → IsFrontOf seen (bytes ++ take count room)
one_piece None bytes room count is within reads = tt
one_piece (Some file) bytes room count is within reads =
    let size : length (bytes ++ take count room) ≡ length bytes + count = omega (arith, length-append bytes (take count room), length-take count room, within) in
    ap (λ (l : List ℕ). l ++ take count room) is ∙ (ap (λ (l : List ℕ). take (length bytes) file ++ l) reads
    ∙ (sym (take_sum (length bytes) count file) ∙ ap (λ (n : ℕ). take n file) (sym size)))

-- what was read at the end of what there is was appended to it
pub front_more : (seen : Option (List ℕ)) (bytes room now piece new : List ℕ) (at count : ℕ) → IsFrontOf seen bytes → at ≡ length bytes
    → count ≤ length room → length now ≡ length room → IfSome seen (λ file. take count now ≡ take count (drop at file))
    → piece ≡ now → new ≡ bytes ++ take count piece → IsFrontOf seen new
front_more seen bytes room now piece new at count is end within same reads piece_is new_is =
    let fits : count ≤ length now = omega (arith, within, same) in
    let there : IfSome seen (λ file. take count now ≡ take count (drop (length bytes) file)) = subst (λ (n : ℕ). IfSome seen (λ file. take count now ≡ take count (drop n file))) end reads in
    let whole : new ≡ bytes ++ take count now = new_is ∙ ap (λ (l : List ℕ). bytes ++ take count l) piece_is in
    subst (IsFrontOf seen) (sym whole) (one_piece seen bytes now count is fits there)

-- ---- the head

drop_front : (a b : List ℕ) → drop (length a) (a ++ b) ≡ b
drop_front [] b = refl
drop_front (x ∷ a) b = drop_front a b

begins : (h front rest file : List ℕ) → front ≡ h ++ rest → front ≡ take (length front) file → file ≡ h ++ drop (length front - length rest) file
begins h front rest file parts is =
    let lengths : length front ≡ length (h ++ rest) = ap length parts in
    let size : length front - length rest ≡ length h = omega (arith, lengths, length-append h rest) in
    let whole : file ≡ h ++ (rest ++ drop (length front) file) =
    sym (take-append-drop (length front) file) ∙ (ap (λ (l : List ℕ). l ++ drop (length front) file) (sym is ∙ parts) ∙ append_assoc h rest (drop (length front) file)) in
    let left : drop (length front - length rest) file ≡ rest ++ drop (length front) file =
    ap (λ (n : ℕ). drop n file) size ∙ (ap (λ (l : List ℕ). drop (length h) l) whole ∙ drop_front h (rest ++ drop (length front) file)) in
    whole ∙ ap (λ (l : List ℕ). h ++ l) (sym left)

starts_in : (seen : Option (List ℕ)) (s : SnapshotValue) (key : Option ℤ) (front rest : List ℕ) → IsFrontOf seen front → StartsWithHead s key front rest
    → IfSome seen (λ file. StartsWithHead s key file (drop (length front - length rest) file))
starts_in None s key front rest is head = tt
starts_in (Some file) s key front rest is head = record {
  fields = head.fields;
  fits = head.fits;
  sized = head.sized;
  keyed = head.keyed;
  says = head.says;
  parts = begins _ front rest file head.parts is;
}

pub of_snapshot : (seen : Option (List ℕ)) (config : ConfigValue) (head : SnapshotValue) (key : Option ℤ) (front rest : List ℕ) (at : ℕ) (before held after : State)
    → IsFrontOf seen front → StartsWithHead head key front rest → at ≡ length front - length rest → before ≡ new_state config
    → IsRestored head seen at before held → after ≡ held → (number : ℕ) → cast_unsigned w64 head.number ≡ number
    → (asked : ConfigValue) (shape : Shape) (is_grown : Bool) → IsSetUp asked shape is_grown head config
    → (x : ConfigValue) × (h : HoldsImages seen x after) × (cast_unsigned w64 h.head.number ≡ number) × (h.key ≡ key) × IsSetUp asked shape is_grown h.head x
of_snapshot seen config head key front rest at before held after is stands behind new restored same number says asked shape is_grown set_up = (
  config,
  record {
    head = head;
    key = key;
    at = at;
    stands = subst (λ (n : ℕ). IfSome seen (λ bytes. StartsWithHead head key bytes (drop n bytes))) (sym behind) (starts_in seen head key front rest is stands);
    restored = subst (λ (s : State). IsRestored head seen at (new_state config) s) (sym same) (subst (λ (s : State). IsRestored head seen at s held) new restored);
  },
  says,
  refl,
  set_up,
)
