-- A leader's partition gets a new batch: it stays one of its log, which grows by that batch.
use Rattle.std.proofs.Common.{◌≡◌, Bool, true, false, cond, inr, List, [], ◌∷◌, ◌++◌, refl, sym, ap, ◌∙◌}
use Rattle.batch_codec.specs.Values.{BatchValue}
use Rattle.batch_codec.specs.Grammar.{Writable}
use Rattle.batch_codec.specs.Offsets.{first_offset, last_offset}
use Rattle.cover_ranges.specs.Runs.{with_range}
use Rattle.content.specs.declared.verdict.Verdict.TheVariants.{New}
use Rattle.content.specs.Content.{Content, IsLogBatch, has_seen_all, with_batch, add}
use Rattle.content.specs.Logs.{IsPlainLog, next_offset}
use Rattle.content_laws.proofs.ContentSteps.{content_add}
use Rattle.content_laws.proofs.LeaderCopies.{leader_append}
use Rattle.content_laws.proofs.LeaderVerdicts.{leader_verdict}
use Rattle.partition_log.specs.Appends.{IsSendable, HasOffsets, kept_verdict, at_end}
use Rattle.partition_log.proofs.Behind.{fits_behind, none_seen_behind}
use Rattle.cluster.proofs.LogEnds.{longer_log, end_is_next}
use Rattle.broker_state.specs.declared.config.Role.TheVariants.{Leader}
use Rattle.cleaning_laws.specs.Logs.{IsPartitionOf}
use Rattle.cleaning_laws.specs.Alike.{Seen, seen_of}

module _ (c : Content) (log : List BatchValue) (is : IsPartitionOf Leader c log) (b : BatchValue) (writable : Writable b) (sendable : IsSendable b) (offsets : HasOffsets c b) where
  new_log_batch : IsLogBatch (at_end c b)
  new_log_batch = fits_behind c b is.content writable sendable offsets

  at_next : first_offset (at_end c b) ≡ next_offset log
  at_next = end_is_next c log is.content is.plain is.copy

  longer_plain : IsPlainLog (log ++ at_end c b ∷ [])
  longer_plain = longer_log log (at_end c b) is.plain new_log_batch at_next

  pub new_partition : kept_verdict c b ≡ New → IsPartitionOf Leader (add c (at_end c b)) (log ++ at_end c b ∷ [])
  new_partition new = record {
    content = content_add c (at_end c b) is.content new_log_batch (inr (none_seen_behind c b is.content));
    plain = longer_plain;
    copy = leader_append c (at_end c b) log is.content longer_plain is.copy (inr (sym (leader_verdict c log b.head is.content is.plain is.copy) ∙ new));
  }

-- ---- two that have seen the same

-- what is seen after a batch is a function of what was seen
abbrev seen_with_batch : Seen → BatchValue → Bool → Seen
seen_with_batch x b all = cond all x (record { start = x.start; cover = with_range (first_offset b) (last_offset b) x.cover })

seen_after : (c : Content) (b : BatchValue) (all : Bool) → seen_of (cond all c (with_batch c b)) ≡ seen_with_batch (seen_of c) b all
seen_after c b true = refl
seen_after c b false = refl

abbrev seen_all : Seen → BatchValue → Bool
seen_all x b = has_seen_all (record { start = x.start; cover = x.cover; kept = [] }) b

seen_added : (c : Content) (b : BatchValue) → seen_of (add c b) ≡ seen_with_batch (seen_of c) b (seen_all (seen_of c) b)
seen_added c b = seen_after c b (has_seen_all c b)

pub same_added : (c d : Content) (b : BatchValue) → seen_of c ≡ seen_of d → seen_of (add c b) ≡ seen_of (add d b)
same_added c d b same = seen_added c b ∙ ap (λ (x : Seen). seen_with_batch x b (seen_all x b)) same ∙ sym (seen_added d b)
