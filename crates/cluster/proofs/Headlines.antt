-- What a consistent world shows.
use Rattle.std.proofs.Common.{◌≡◌, sym, ap, ◌∙◌}
use Rattle.cover_ranges.specs.Runs.{Runs, covers}
use Rattle.content.specs.Records.{log_records}
use Rattle.content.specs.Table.{Table, table_within}
use Rattle.content.specs.Content.{Content, shown_table}
use Rattle.content_laws.proofs.CopyFacts.{shown_is_table}
use Rattle.content_laws.proofs.JoinLaws.{join_self, join_assoc, join_comm_agree}
use Rattle.content_laws.proofs.LeaderCopies.{leader_window}
use Rattle.group_offsets.specs.Lookups.{lookup_in}
use Rattle.cluster.specs.Worlds.{World}
use Rattle.cluster.specs.Headline.{IsCopyOf, IsConsistent, ShowsLog, MergeAlike, Headline}
use Rattle.content.specs.Joins.{join}
use Rattle.cluster.proofs.WorldSteps.{held_is, copies_merge, merged_copy}

pub headline_of : (w : World) → IsConsistent w → Headline w
headline_of w is = record {
  consistent = is;
  windows = leader_window w.leader w.log is.copies.0.0 is.plain is.leads;
  copies = held_is w is;
  tables = λ c held. shows c (held_is w is c held);
  look_ups = λ c held k. ap (λ (t : Table). lookup_in t k) (shows c (held_is w is c held));
  idempotent = λ a held. join_self a (held_is w is a held).0;
  alike = λ a b left right. alike a b (held_is w is a left) (held_is w is b right);
  merged = λ a b left right. merged_copy w is a b (held_is w is a left) (held_is w is b right);
  accepted = λ a b c one two three. (
    copies_merge w is (join a b) c (merged_copy w is a b (held_is w is a one) (held_is w is b two)) (held_is w is c three),
    copies_merge w is a (join b c) (held_is w is a one) (merged_copy w is b c (held_is w is b two) (held_is w is c three)),
  );
  associative = λ a b c one two three. join_assoc a b c (held_is w is a one).0 (held_is w is b two).0 (held_is w is c three).0;
}
  where
    shows : (c : Content) → IsCopyOf w.log c → ShowsLog w.log c
    shows c copy = shown_is_table c w.log copy.0 is.plain copy.1

    same : (a b : Content) → IsCopyOf w.log a → IsCopyOf w.log b → a.cover ≡ b.cover → shown_table a ≡ shown_table b
    same a b left right covers_same =
        shows a left ∙ ap (λ (runs : Runs). table_within (covers runs) (log_records w.log)) covers_same ∙ sym (shows b right)

    alike : (a b : Content) → IsCopyOf w.log a → IsCopyOf w.log b → MergeAlike a b
    alike a b left right = record {
      agree = copies_merge w is a b left right;
      commute = join_comm_agree a b left.0 right.0 (copies_merge w is a b left right);
      same_table = same a b left right;
      same_look_ups = λ covers_same k. ap (λ (t : Table). lookup_in t k) (same a b left right covers_same);
    }
