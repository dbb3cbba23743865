-- Two copies of one log that have seen the same offsets show the same table.
use Rattle.std.proofs.Common.{◌≡◌, ℕ, ℤ, Bool, true, false, List, refl, sym, ap, ◌∙◌}
use Rattle.batch_codec.specs.Values.{BatchValue}
use Rattle.cover_ranges.specs.Runs.{Runs, covers}
use Rattle.content.specs.Records.{log_records}
use Rattle.content.specs.Table.{table_within}
use Rattle.content.specs.Content.{Content, IsContent, shown_table}
use Rattle.content.specs.Logs.{IsPlainLog}
use Rattle.content.specs.Copies.{IsCopy}
use Rattle.content_laws.proofs.CopyFacts.{shown_is_table}
use Rattle.broker_state.specs.State.{State, is_known, content_at}
use Rattle.cleaning_laws.specs.Logs.{Logs}
use Rattle.cleaning_laws.specs.Alike.{AreAlike}
use Rattle.cleaning_laws.proofs.Seen.{same_cover}
use Rattle.cleaning_laws.proofs.BothAppend.{seen_same, known_same, unknown_same}
use Rattle.cleaning_laws.proofs.ForgetGroupAlike.{copy_of_part}

-- ---- copies

copies_show : (c d : Content) (log : List BatchValue) → IsContent c → IsContent d → IsPlainLog log → IsCopy c log → IsCopy d log → c.cover ≡ d.cover → shown_table c ≡ shown_table d
copies_show c d log content other plain copy copy' same =
    shown_is_table c log content plain copy
    ∙ ap (λ (runs : Runs). table_within (covers runs) (log_records log)) same
    ∙ sym (shown_is_table d log other plain copy')

-- ---- in two states that are alike

pub shown_alike : (logs : Logs) (s z : State) (alike : AreAlike logs s z) (name : List ℕ) (p : ℤ) → shown_table (content_at s name p) ≡ shown_table (content_at z name p)
shown_alike logs s z alike name p = by (is_known s name p) refl
  where
    by : (b : Bool) → is_known s name p ≡ b → shown_table (content_at s name p) ≡ shown_table (content_at z name p)
    by true known =
        let one = alike.one name p known in
        let other = alike.other name p (sym (known_same logs s z name p alike) ∙ known) in
        copies_show (content_at s name p) (content_at z name p) (logs name p) one.content other.content one.plain
        (copy_of_part s.config.role (content_at s name p) (logs name p) one) (copy_of_part z.config.role (content_at z name p) (logs name p) other)
        (same_cover (content_at s name p) (content_at z name p) (seen_same logs s z name p alike))
    by false unknown = ap shown_table (unknown_same logs s z name p alike unknown)
