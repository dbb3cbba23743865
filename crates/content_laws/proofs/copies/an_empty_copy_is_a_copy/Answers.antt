use Rattle.std.proofs.Common.{◌≡◌, ℤ, pos, inl, inr, List, [], ◌∷◌, true, refl, true≢false, sym, Some, ◌∙◌, arith}
use Rattle.std.specs.Prelude.{◌≤ℤ◌}
use Rattle.std.proofs.lemmas.Int.{ints}
use Rattle.batch_codec.specs.Values.{BatchValue}
use Rattle.batch_codec.specs.Offsets.{first_offset, last_offset}
use Rattle.cover_ranges.proofs.RunsFrom.{from_canonical}
use Rattle.content.specs.ByOffset.{look_up}
use Rattle.content.specs.Logs.{IsPlainLog, IsBoundary, is_inside}
use Rattle.content_laws.proofs.PlainLogs.{at_base, log_batch, span_of}
use Rattle.content_laws.proofs.copies.an_empty_copy_is_a_copy.Goals as goal

pub returns-clause-content : goal.returns-clause-content
returns-clause-content c = record {
  in_range = (omega (arith, ints), omega (arith, ints));
  canonical = from_canonical (pos 0) [] (omega (arith, ints)) tt;
  above = λ o e. absurd (true≢false (sym e));
  disjoint = tt;
  keepable = tt;
  inside = λ base o b e from to. absurd cc;
}

starts_at_0 : (log : List BatchValue) → IsPlainLog log → IsBoundary log (pos 0)
starts_at_0 [] plain = inl refl
starts_at_0 (b ∷ bs) plain = inr (grind (arith, ints, plain.1))

nothing_inside : (log : List BatchValue) (base : ℤ) (y : BatchValue) → IsPlainLog log → look_up first_offset base log ≡ Some y → is_inside [] y ≡ true → ⊥
nothing_inside log base y plain there inside =
    let found = at_base log base y there in
    let span : first_offset y ≤ℤ last_offset y = (span_of y (log_batch 0 log y plain found.1)).0 in
    true≢false (sym inside ∙ grind (arith, ints))

pub returns-clause-copy : goal.returns-clause-copy
returns-clause-copy c = λ log plain. record {
  boundary = starts_at_0 log plain;
  seen_batches = λ o e. absurd (true≢false (sym e));
  heads = λ base b e. absurd cc;
  records = λ o r e. absurd cc;
  latest = λ o r there e last. absurd (true≢false (sym e));
  window = λ base y there inside numbered is. absurd (nothing_inside log base y plain there inside);
}
