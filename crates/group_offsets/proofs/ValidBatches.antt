-- The batches that commit and forget are valid, and may be appended.
use Rattle.std.proofs.Common.{◌≡◌, ℕ, suc, ◌+◌, ◌<◌, ◌≤◌, ◌^◌, ℤ, pos, negsuc, ◌+ℤ◌, ◌-ℤ◌, List, [], ◌∷◌, length, Option, Some, None, refl, inl, arith}
use Rattle.std.specs.Prelude.{FitsSigned, ◌<ℤ◌, ◌≤ℤ◌, IsSome, bit_and}
use Rattle.std.specs.List.{AllByRecursion}
use Rattle.std.specs.Int.{w16, w32, cast_unsigned}
use Rattle.std.proofs.lemmas.Int.{ints}
use Rattle.batch_codec.specs.declared.layout.TheConstants.{FLAGS_MASK}
use Rattle.batch_codec.specs.Grammar.{HeadFits, IsValidRecord, AreValidRecords, IsValidBatch}
use Rattle.partition_log.specs.Appends.{IsSendable}
use Rattle.group_offsets.specs.declared.forget.TheConstants.{MAX_FORGOTTEN}
use Rattle.group_offsets.specs.Keys.{GroupKeyValue, group_key_bytes}
use Rattle.group_offsets.specs.CommittedValues.{CommittedValue, committed_bytes}
use Rattle.group_offsets.specs.Batches.{offsets_head, offsets_record, commit_batch, null_records, forget_batch}

head_fits : (last : ℤ) → FitsSigned w32 last → HeadFits (offsets_head last)
head_fits last fits = record {
  base = record { sfits = omega arith };
  leader_epoch = record { sfits = omega arith };
  attrs = record { sfits = omega arith };
  last_delta = fits;
  base_time = record { sfits = omega arith };
  max_time = record { sfits = omega arith };
  producer = record { sfits = omega arith };
  producer_epoch = record { sfits = omega arith };
  base_seq = record { sfits = omega arith };
}

no_flags : bit_and (cast_unsigned w16 (pos 0)) FLAGS_MASK ≡ 0
no_flags = refl

valid_record : (last before delta : ℤ) (key : List ℕ) (value : Option (List ℕ)) → before <ℤ delta → delta ≤ℤ last → IsValidRecord (offsets_head last) before (offsets_record delta key value)
valid_record last before delta key value rises within = record {
  attrs = record { sfits = omega arith };
  time_delta = record { sfits = omega arith };
  rises = rises;
  within = within;
  time = record { sfits = omega arith };
}

-- ---- one that commits

pub commit_valid : (k : GroupKeyValue) (v : CommittedValue) → IsValidBatch (commit_batch k v)
unfolding commit_batch
commit_valid k v = record {
  fits = head_fits (pos 0) (record { sfits = omega arith });
  no_flags = no_flags;
  last_delta = omega (arith, ints);
  records = (valid_record (pos 0) (negsuc 0) (pos 0) (group_key_bytes k) (Some (committed_bytes v)) (omega (arith, ints)) (omega (arith, ints)), tt);
}

pub commit_sendable : (k : GroupKeyValue) (v : CommittedValue) → IsSendable (commit_batch k v)
unfolding commit_batch
commit_sendable k v = record { whole = refl; keys = (refl, tt); producer = inl refl }

-- ---- one that forgets

pub null_count : (delta : ℕ) (keys : List (List ℕ)) → length (null_records delta keys) ≡ length keys
unfolding null_records
null_count delta [] = refl
null_count delta (key ∷ keys) = omega (arith, null_count (suc delta) keys)

null_keys : (delta : ℕ) (keys : List (List ℕ)) → AllByRecursion (λ r. IsSome r.key) (null_records delta keys)
unfolding null_records
null_keys delta [] = tt
null_keys delta (key ∷ keys) = (refl, null_keys (suc delta) keys)

null_valid : (last : ℕ) (before : ℤ) (delta : ℕ) (keys : List (List ℕ)) → before <ℤ pos delta → delta + length keys ≤ last + 1 → AreValidRecords (offsets_head (pos last)) before (null_records delta keys)
unfolding null_records
null_valid last before delta [] rises within = tt
null_valid last before delta (key ∷ keys) rises within =
    (valid_record (pos last) before (pos delta) key None rises (omega (arith, ints)), null_valid last (pos delta) (suc delta) keys (omega (arith, ints)) (omega arith))

one_less : (n : ℕ) → (pos (suc n) -ℤ pos 1) ≡ pos n
one_less n = omega (arith, ints)

pub forget_valid : (keys : List (List ℕ)) → 1 ≤ length keys → length keys ≤ MAX_FORGOTTEN → IsValidBatch (forget_batch keys)
unfolding forget_batch
forget_valid [] some few = absurd (omega (arith, some))
forget_valid (key ∷ keys) some few =
    let n = length keys in
    let small : n < 2 ^ 31 = omega (arith, few) in
    let last : (pos (length (key ∷ keys)) -ℤ pos 1) ≡ pos n = one_less n in
    rw last (record {
      fits = head_fits (pos n) (record { sfits = small });
      no_flags = no_flags;
      last_delta = omega (arith, ints);
      records = null_valid n (negsuc 0) 0 (key ∷ keys) (omega (arith, ints)) (omega arith);
    })

whole_sum : (n : ℤ) → n ≡ ((n -ℤ pos 1) +ℤ pos 1)
whole_sum n = omega (arith, ints)

pub forget_sendable : (keys : List (List ℕ)) → IsSendable (forget_batch keys)
unfolding forget_batch
forget_sendable keys = record {
  whole = rw (null_count 0 keys) (whole_sum (pos (length keys)));
  keys = null_keys 0 keys;
  producer = inl refl;
}
