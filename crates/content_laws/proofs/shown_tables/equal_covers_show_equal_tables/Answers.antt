use Rattle.std.proofs.Common.{◌≡◌, List, sym, ap, ◌∙◌}
use Rattle.std.specs.FinMap.{get}
use Rattle.batch_codec.specs.Values.{BatchValue}
use Rattle.cover_ranges.specs.Runs.{Runs, covers}
use Rattle.content.specs.Records.{log_records}
use Rattle.content.specs.Table.{Table, table_within}
use Rattle.content.specs.Content.{Content, IsContent, shown_table}
use Rattle.content.specs.Logs.{IsPlainLog}
use Rattle.content.specs.Copies.{IsCopy}
use Rattle.content_laws.proofs.CopyFacts.{shown_is_table}
use Rattle.content_laws.proofs.shown_tables.equal_covers_show_equal_tables.Goals as goal

same : (a b : Content) (log : List BatchValue) → IsContent a → IsContent b → IsPlainLog log → IsCopy a log → IsCopy b log → a.cover ≡ b.cover → shown_table a ≡ shown_table b
same a b log is_a is_b plain copy_a copy_b covers_same =
    shown_is_table a log is_a plain copy_a ∙ ap (λ (runs : Runs). table_within (covers runs) (log_records log)) covers_same ∙ sym (shown_is_table b log is_b plain copy_b)

pub returns-clause-same_table : goal.returns-clause-same_table
returns-clause-same_table c = same

pub returns-clause-same_value : goal.returns-clause-same_value
returns-clause-same_value c = λ a b log key is_a is_b plain copy_a copy_b covers_same. ap (λ (t : Table). get t key) (same a b log is_a is_b plain copy_a copy_b covers_same)
