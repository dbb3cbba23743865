-- A copy that has seen nothing is a partition of a follower's log, whatever that is, and of a leader's empty one.
use Rattle.std.proofs.Common.{◌≡◌, ℤ, pos, inl, inr, List, [], ◌∷◌, false, true, Some, refl, sym, ◌∙◌, true≢false, arith}
use Rattle.std.specs.Prelude.{◌≤ℤ◌, int_le, int_lt, ◌&&◌}
use Rattle.std.proofs.lemmas.Int.{ints}
use Rattle.batch_codec.specs.Values.{BatchValue}
use Rattle.batch_codec.specs.Offsets.{first_offset, last_offset}
use Rattle.content.specs.ByOffset.{look_up}
use Rattle.content.specs.Content.{empty}
use Rattle.content.specs.Logs.{IsPlainLog, IsBoundary, is_inside}
use Rattle.content.specs.Copies.{IsCopy}
use Rattle.partition_log.proofs.Kept.{empty_content}
use Rattle.content_laws.proofs.PlainLogs.{at_base, log_batch, span_of}
use Rattle.broker_state.specs.declared.config.Role.{Role}
use Rattle.broker_state.specs.declared.config.Role.TheVariants.{Leader, Follower}
use Rattle.cleaning_laws.specs.Logs.{IsLegalFromSome, IsPartitionOf}

starts_at_0 : (log : List BatchValue) → IsPlainLog log → IsBoundary log (pos 0)
starts_at_0 [] plain = inl refl
starts_at_0 (b ∷ bs) plain = inr (grind (arith, ints, plain.1))

nothing_inside : (log : List BatchValue) (base : ℤ) (y : BatchValue) → IsPlainLog log → look_up first_offset base log ≡ Some y → is_inside [] y ≡ true → ⊥
nothing_inside log base y plain there inside =
    let found = at_base log base y there in
    let span : first_offset y ≤ℤ last_offset y = (span_of y (log_batch 0 log y plain found.1)).0 in
    true≢false (sym inside ∙ grind (arith, ints))

empty_copy : (log : List BatchValue) → IsPlainLog log → IsCopy empty log
empty_copy log plain = record {
  boundary = starts_at_0 log plain;
  seen_batches = λ o e. absurd (true≢false (sym e));
  heads = λ base b e. absurd cc;
  records = λ o r e. absurd cc;
  latest = λ o r there e last. absurd (true≢false (sym e));
  window = λ base y there inside numbered is. absurd (nothing_inside log base y plain there inside);
}

nothing_between : (o : ℤ) → false ≡ (int_le (pos 0) o && int_lt o (pos 0))
nothing_between o = grind (arith, ints)

pub follower_empty : (log : List BatchValue) → IsPlainLog log → IsLegalFromSome log → IsPartitionOf Follower empty log
follower_empty log plain legal = record { content = empty_content; plain = plain; copy = (empty_copy log plain, legal) }

pub both_empty : (role : Role) → IsPartitionOf role empty []
both_empty Leader = record {
  content = empty_content;
  plain = tt;
  copy = record { copy = empty_copy [] tt; whole = nothing_between; legal = ([], tt) };
}
both_empty Follower = follower_empty [] tt (pos 0, ([], tt))
