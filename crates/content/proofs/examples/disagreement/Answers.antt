use Rattle.std.proofs.Common.{◌≡◌, ℕ, pos, true, false, [], refl, ap, arith}
use Rattle.std.specs.Prelude.{slice_index_or, unwrap_or}
use Rattle.std.proofs.lemmas.Int.{ints}
use Rattle.batch_codec.specs.Values.{RecordValue}
use Rattle.cover_ranges.specs.Runs.{with_range}
use Rattle.content.specs.ByOffset.{put}
use Rattle.content.specs.Examples.{key_a, one, two, record_of, batch_0, other_0, twice_a}
use Rattle.content.proofs.examples.disagreement.Goals as goal

first_byte : RecordValue → ℕ
first_byte r = slice_index_or (unwrap_or r.value []) 0 0

apart_49_50 : (x : ℕ) → x ≡ 49 → x ≡ 50 → ⊥
apart_49_50 x e f = omega arith

pub returns-clause-records : goal.returns-clause-records
unfolding put with_range first_byte
returns-clause-records c = λ agree.
    let alike = agree.2 batch_0 other_0 (omega (arith, ints)) refl refl in
    let same : record_of (pos 0) key_a one ≡ record_of (pos 0) key_a two = alike.1 (pos 0) (record_of (pos 0) key_a one) (record_of (pos 0) key_a two) refl refl in
    apart_49_50 49 refl (ap first_byte same)

pub returns-clause-span : goal.returns-clause-span
unfolding put with_range
returns-clause-span c = λ agree.
    let fits = (agree.0 twice_a refl).1 (omega (arith, ints)) (pos 1) (omega (arith, ints)) (omega (arith, ints)) in
    let seen : false ≡ true = fits in
    absurd cc

pub returns-clause-span_alone : goal.returns-clause-span_alone
unfolding put with_range
returns-clause-span_alone c = λ agree.
    let fits = (agree.0 twice_a refl).1 (omega (arith, ints)) (pos 1) (omega (arith, ints)) (omega (arith, ints)) in
    let seen : false ≡ true = fits in
    absurd cc

pub returns-clause-span_alone_in_other_order : goal.returns-clause-span_alone_in_other_order
unfolding put with_range
returns-clause-span_alone_in_other_order c = λ agree.
    let fits = (agree.1 twice_a refl).1 (omega (arith, ints)) (pos 1) (omega (arith, ints)) (omega (arith, ints)) in
    let seen : false ≡ true = fits in
    absurd cc
