use Rattle.std.proofs.Common.{◌≡◌, List, sym, ap, ◌∙◌}
use Rattle.batch_codec.specs.Values.{BatchValue}
use Rattle.cover_ranges.specs.Runs.{Runs, covers}
use Rattle.content.specs.Records.{log_records}
use Rattle.content.specs.Table.{Table, table_within}
use Rattle.content.specs.Content.{Content, IsContent, shown_table}
use Rattle.content.specs.Logs.{IsPlainLog}
use Rattle.content.specs.Copies.{IsCopy}
use Rattle.content_laws.proofs.CopyFacts.{shown_is_table}
use Rattle.group_offsets.specs.Keys.{GroupKeyValue}
use Rattle.group_offsets.specs.Lookups.{lookup_in}
use Rattle.group_offsets.proofs.laws.look_ups_are_the_logs.Goals as goal

of_log : (c : Content) (log : List BatchValue) (k : GroupKeyValue) → IsContent c → IsPlainLog log → IsCopy c log
    → lookup_in (shown_table c) k ≡ lookup_in (table_within (covers c.cover) (log_records log)) k
of_log c log k is plain copy = ap (λ (t : Table). lookup_in t k) (shown_is_table c log is plain copy)

pub returns-clause-answers_as_the_log : goal.returns-clause-answers_as_the_log
returns-clause-answers_as_the_log c = of_log

pub returns-clause-same_look_up : goal.returns-clause-same_look_up
returns-clause-same_look_up c = λ a b log k is_a is_b plain copy_a copy_b same.
    of_log a log k is_a plain copy_a
    ∙ ap (λ (runs : Runs). lookup_in (table_within (covers runs) (log_records log)) k) same
    ∙ sym (of_log b log k is_b plain copy_b)
