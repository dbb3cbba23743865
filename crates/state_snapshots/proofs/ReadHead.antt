-- The head of a snapshot is read as it was written.
use Rattle.std.proofs.Common.{◌≡◌, ℕ, ◌+◌, ℤ, pos, List, [], ◌++◌, length, drop, get_or, sym, ap, ◌∙◌, append-nil, append_assoc, FitsSigned, w64, Option, Some, None, arith}
use Rattle.std.specs.Prelude.{IfSome}
use Rattle.std.proofs.lemmas.List.{length-append}
use Rattle.frame_fields.specs.Fields.{Value, Fits, FitsLength, Encodes, encoded, be, size32, size64, end}
use Rattle.frame_fields.specs.Types.{bytes, ◌⨾◌}
use Rattle.frame_fields.specs.Reading.{nothing}
use Rattle.frame_fields.proofs.FieldLaws.{one_value}
use Rattle.broker_state.specs.State.{State}
use Rattle.snapshots.specs.declared.writing.SnapshotId.{SnapshotId}
use Rattle.snapshots.specs.Heads.{SnapshotValue, StartsWithHead, key_fields, snapshot_fields, snapshot_said, front_of, head_bytes}
use Rattle.state_snapshots.specs.Snapshots.{state_head, state_said, images_of, snapshot_bytes, IsReadable}

-- bytes behind their size
sized_there : (fields rest : List ℕ) → FitsLength size32 (length fields) → Encodes (bytes ⨾ end) (fields, nothing) (be size32 (pos (length fields)) ++ (fields ++ rest)) rest
unfolding encoded Fits
sized_there fields rest fits = record {
  fits = (fits, tt);
  parts = ap (λ (xs : List ℕ). be size32 (pos (length fields)) ++ (xs ++ rest)) (sym (append-nil fields));
}

-- what comes behind the crc, the mark and the version
behind_version : (key own : ℤ) (fields others x y : List ℕ) → (front_of (Some key) fields ++ fields) ++ x ≡ (front_of (Some own) others ++ others) ++ y
    → be size64 key ++ (be size32 (pos (length fields)) ++ (fields ++ x)) ≡ be size64 own ++ (be size32 (pos (length others)) ++ (others ++ y))
unfolding front_of
behind_version key own fields others x y same = ap (drop 10) same

-- the versions differ in their last byte
no_old_head : (own : ℤ) (fields others x y : List ℕ) → (front_of None fields ++ fields) ++ x ≡ (front_of (Some own) others ++ others) ++ y → ⊥
unfolding front_of
no_old_head own fields others x y same = let bad : 0 ≡ 1 = ap (λ (l : List ℕ). get_or l 9 0) same in absurd (omega (arith, bad))

key_there : (key : ℤ) (rest : List ℕ) → FitsSigned w64 key → Encodes key_fields (key, nothing) (be size64 key ++ rest) rest
unfolding encoded Fits
key_there key rest fits = record { fits = (fits, tt); parts = ap (λ (xs : List ℕ). xs ++ rest) (sym (append-nil (be size64 key))) }

-- the key is that one, and what follows the same
one_key : (key own : ℤ) (rest others : List ℕ) → FitsSigned w64 key → FitsSigned w64 own → be size64 key ++ rest ≡ be size64 own ++ others → (key ≡ own) × (rest ≡ others)
one_key key own rest others fits fits' same =
    let there = key_there own others fits' in
    let found = one_value key_fields (key, nothing) (own, nothing) (be size64 key ++ rest) rest others (key_there key rest fits) (record { fits = there.fits; parts = same ∙ there.parts }) in
    (ap (λ (z : Value key_fields). z.0) found.0, found.1)

-- the fields are those of one value
one_fields : (v w : Value snapshot_fields) (x y : List ℕ) → Fits snapshot_fields v → Fits snapshot_fields w
    → FitsLength size32 (length (encoded snapshot_fields v)) → FitsLength size32 (length (encoded snapshot_fields w))
    → be size32 (pos (length (encoded snapshot_fields v))) ++ (encoded snapshot_fields v ++ x) ≡ be size32 (pos (length (encoded snapshot_fields w))) ++ (encoded snapshot_fields w ++ y) → v ≡ w
one_fields v w x y fits fits' sized sized' behind =
    let one = encoded snapshot_fields v in
    let other = encoded snapshot_fields w in
    let there = sized_there other y sized' in
    let found = one_value (bytes ⨾ end) (one, nothing) (other, nothing) (be size32 (pos (length one)) ++ (one ++ x)) x y (sized_there one x sized) (record { fits = there.fits; parts = behind ∙ there.parts }) in
    let bytes_same : one ≡ other = ap (λ (z : Value (bytes ⨾ end)). z.0) found.0 in
    (one_value snapshot_fields v w one [] [] (record { fits = fits; parts = sym (append-nil one) }) (record { fits = fits'; parts = bytes_same ∙ sym (append-nil other) })).0

one_head : (key : Option ℤ) (own : ℤ) (v w : Value snapshot_fields) (x y : List ℕ) → IfSome key (FitsSigned w64) → FitsSigned w64 own → Fits snapshot_fields v → Fits snapshot_fields w
    → FitsLength size32 (length (encoded snapshot_fields v)) → FitsLength size32 (length (encoded snapshot_fields w)) → head_bytes key v ++ x ≡ head_bytes (Some own) w ++ y
    → (key ≡ Some own) × (v ≡ w)
one_head None own v w x y keyed keyed' fits fits' sized sized' same = absurd (no_old_head own (encoded snapshot_fields v) (encoded snapshot_fields w) x y same)
one_head (Some key) own v w x y keyed keyed' fits fits' sized sized' same =
    let one = encoded snapshot_fields v in
    let other = encoded snapshot_fields w in
    let behind = one_key key own (be size32 (pos (length one)) ++ (one ++ x)) (be size32 (pos (length other)) ++ (other ++ y)) keyed keyed' (behind_version key own one other x y same) in
    (ap Some behind.0, one_fields v w x y fits fits' sized sized' behind.1)

module _ (id : SnapshotId) (s : State) (h : SnapshotValue) (key : Option ℤ) (front rest more : List ℕ) (readable : IsReadable id s) (starts : StartsWithHead h key front rest) (is : front ++ more ≡ snapshot_bytes id s) where
  head_same : (key ≡ Some id.key) × (starts.fields ≡ state_said id.number s)
  head_same =
      one_head key id.key starts.fields (state_said id.number s) (rest ++ more) (images_of s.topics) starts.keyed readable.keyed starts.fits readable.fits starts.sized readable.sized
      (sym (append_assoc (head_bytes key starts.fields) rest more) ∙ ap (λ (xs : List ℕ). xs ++ more) (sym starts.parts) ∙ is)

  pub head_said : h ≡ snapshot_said (state_said id.number s)
  head_said = starts.says ∙ ap snapshot_said head_same.1

  pub head_keyed : key ≡ Some id.key
  head_keyed = head_same.0

  pub head_ends : length front ≡ length (state_head id s) + length rest
  head_ends =
      ap (λ (xs : List ℕ). length xs) (starts.parts ∙ (λ i. head_bytes (head_same.0 i) (head_same.1 i) ++ rest)) ∙ length-append (state_head id s) rest
