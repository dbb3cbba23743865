-- What a batch is that passes the checks of its bytes.
use Rattle.std.proofs.Common.{false, ◌≡◌, ℕ, List, [], ◌∷◌, length, take, Option, Some, None, Result, Ok, Err, refl, sym, subst, arith}
use Rattle.std.specs.Prelude.{nat_lt}
use Rattle.std.specs.Option.{option_map}
use Rattle.std.proofs.lemmas.List.{take_all}
use Rattle.batch_codec.specs.Reading.{IsEncoding}
use Rattle.batch_codec.specs.declared.error.BatchError.{BatchError}
use Rattle.batch_codec.specs.Checks.{Checked, size_at, check_batch}
use Rattle.batch_codec.proofs.Views.{view_encoded}
use Rattle.frame_fields.specs.Frames.{IsBytes}
use Rattle.answering.specs.declared.codes.ErrorCode.TheVariants.{InvalidRecord}
use Rattle.answering.specs.Lists.{fault_if, first_some}
use Rattle.broker_state.specs.Batches.{checked_code, checks_of_size, batch_checks}
use Rattle.broker_state.proofs.Passed.{none_first, no_fault}

-- a fault that has no code is none
pub no_code : {X Y : Type 0} (f : X → Y) (o : Option X) → option_map f o ≡ None → o ≡ None
no_code f None h = refl
no_code f (Some x) h = absurd cc

abbrev passed : Checked
passed = Ok tt

passes : (c : Checked) → checked_code c ≡ None → passed ≡ c
passes (Ok u) e = refl
passes (Err e) h = absurd cc

-- bytes in which no fault is found are the encoding of one batch
pub sent_encoding : (bytes : List ℕ) → IsBytes bytes → first_some (batch_checks bytes) ≡ None → IsEncoding bytes
sent_encoding bytes are = by (size_at bytes) refl
  where
    by : (size : Result ℕ BatchError) → size_at bytes ≡ size → first_some (checks_of_size bytes size) ≡ None → IsEncoding bytes
    by (Err e) same h = absurd cc
    by (Ok n) same h =
        let both = none_first (checked_code (check_batch (take n bytes))) (first_some (fault_if (nat_lt n (length bytes)) InvalidRecord ∷ [])) h in
        let all_used : nat_lt n (length bytes) ≡ false = no_fault (nat_lt n (length bytes)) InvalidRecord (none_first (fault_if (nat_lt n (length bytes)) InvalidRecord) None both.1).0 in
        let whole : take n bytes ≡ bytes = take_all n bytes (grind (arith, all_used)) in
        let encoding : IsEncoding (take n bytes) = view_encoded bytes n are (sym same) (passes (check_batch (take n bytes)) both.0) in
        subst IsEncoding whole encoding
