-- Bytes that pass the checks of a batch are one writable batch.
use Rattle.std.proofs.Common.{false, ◌≡◌, ℕ, List, [], ◌∷◌, length, take, None, Result, Ok, Err, refl, sym, subst, arith}
use Rattle.std.specs.Prelude.{nat_lt}
use Rattle.std.proofs.lemmas.List.{take_all}
use Rattle.batch_codec.specs.Grammar.{Writable}
use Rattle.batch_codec.specs.Reading.{batch_of, IsEncoding}
use Rattle.batch_codec.specs.declared.error.BatchError.{BatchError}
use Rattle.batch_codec.specs.Checks.{Checked, size_at, check_batch}
use Rattle.batch_codec.proofs.Views.{view_encoded}
use Rattle.frame_fields.specs.Frames.{IsBytes}
use Rattle.answering.specs.declared.codes.ErrorCode.TheVariants.{InvalidRecord}
use Rattle.answering.specs.Lists.{fault_if, first_some}
use Rattle.broker_state.specs.Batches.{checked_code, checks_of_size, batch_checks}
use Rattle.broker_state.proofs.Passed.{none_first, no_fault}

abbrev fine : Checked
fine = Ok tt

passes : (c : Checked) → checked_code c ≡ None → fine ≡ c
passes (Ok u) e = refl
passes (Err e) h = absurd cc

pub batch_writable : (bytes : List ℕ) → IsBytes bytes → first_some (batch_checks bytes) ≡ None → Writable (batch_of bytes)
batch_writable bytes are = by (size_at bytes) refl
  where
    by : (size : Result ℕ BatchError) → size_at bytes ≡ size → first_some (checks_of_size bytes size) ≡ None → Writable (batch_of bytes)
    by (Err e) same h = absurd cc
    by (Ok n) same h =
        let both = none_first (checked_code (check_batch (take n bytes))) (first_some (fault_if (nat_lt n (length bytes)) InvalidRecord ∷ [])) h in
        let all_used : nat_lt n (length bytes) ≡ false = no_fault (nat_lt n (length bytes)) InvalidRecord (none_first (fault_if (nat_lt n (length bytes)) InvalidRecord) None both.1).0 in
        let whole : take n bytes ≡ bytes = take_all n bytes (grind (arith, all_used)) in
        let encoding : IsEncoding (take n bytes) = view_encoded bytes n are (sym same) (passes (check_batch (take n bytes)) both.0) in
        subst (λ (x : List ℕ). Writable (batch_of x)) whole encoding.0
